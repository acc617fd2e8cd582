use Rattle.std.proofs.Common.{sym, ap, ◌∙◌}
use Rattle.cg_resolve_declared.specs.Declarations.{entries_of}
use Rattle.cg_resolve_declared.specs.Views.{declared_of}
use Rattle.std.specs.Option.{option_map}
use Rattle.cg_resolve_takes.specs.Views.{head_view, heads_in}
use Rattle.cg_resolve_takes.proofs.KeepSteps.{heads_more, keeps_more}
use Rattle.cg_resolve_takes.proofs.known.keep_named.Goals as goal

pub returns : goal.returns
returns c =
    keeps_more (entries_of c.args.declared.now) c.args.name.now c.args.place c.in-Some.first c.in-Some-body.body (head_view c.in_ok-head.head) (heads_in c.args.table.now) (heads_in c.insert.new.self)
    (sym (ap (option_map declared_of) c.in-Some.is) ∙ c.type_named.ensures) c.in-Some-body.is c.in_ok-head.ensures
    (heads_more c.args.table.now c.insert.new.self c.args.name c.in_ok-head.head c.in_ok-insert.ensures.updates)
