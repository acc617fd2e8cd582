use Rattle.std.proofs.Common.{sym}
use Rattle.cg_cmachine_resolve.proofs.Callees.{link_name, link_there, no_link, some_link}
use Rattle.cg_cmachine_resolve.proofs.Lookups.{item_none, item_some}
use Rattle.cg_cmachine_resolve.proofs.names.Named.linked.Goals as goal

pub returns-in_err-at : goal.returns-in_err-at
returns-in_err-at c =
    rw (c.from_residual.ensures, ← c.self.view_is) (sym (no_link c.args.name.now c.self.inside.links.now c.self.inside.linked c.place_of.result c.self.invariant.links_named c.place_of.ensures c.in_err-at.was))

pub returns-in_err-link : goal.returns-in_err-link
returns-in_err-link c =
    let found = some_link c.args.name.now c.self.inside.links.now c.self.inside.linked c.place_of.result c.in_ok-at.at c.self.invariant.links_named c.place_of.ensures c.in_ok-at.was in
    absurd (link_there c.args.name.now c.self.inside.links.now c.in_ok-at.at found (item_none c.self.inside.links.now c.in_ok-at.at c.get.result c.get.ensures.lookup c.in_err-link.was))

pub returns : goal.returns
returns c =
    let found = some_link c.args.name.now c.self.inside.links.now c.self.inside.linked c.place_of.result c.in_ok-at.at c.self.invariant.links_named c.place_of.ensures c.in_ok-at.was in
    rw (← c.self.view_is)
    (sym (link_name c.args.name.now c.self.inside.links.now c.in_ok-at.at c.in_ok-link.link.now found
    (item_some c.self.inside.links.now c.in_ok-at.at c.get.result c.in_ok-link.link c.get.ensures.lookup c.in_ok-link.was)))
