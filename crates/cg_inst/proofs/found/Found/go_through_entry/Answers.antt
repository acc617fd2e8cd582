use Rattle.std.proofs.Common.{ap, map, sym, subst, ◌∙◌}
use Rattle.cg_core.specs.Kernels.{the_core}
use Rattle.cg_inst.specs.Founds.{IsEntryAt, found_in}
use Rattle.cg_inst.specs.Judged.{core_in, functions_in}
use Rattle.cg_inst.specs.Lists.{core_of, gone_through, with_instances}
use Rattle.cg_inst_types.specs.Layers.{types_at}
use Rattle.cg_typing.specs.Instances.{mentioned_in}
use Rattle.cg_inst.proofs.FoundSteps.{comes_as}
use Rattle.cg_inst.proofs.ListSteps.{mentions_are}
use Rattle.cg_inst.proofs.found.Found.go_through_entry.Goals as goal

pub returns-in_ok-nodes-in-Some : goal.returns-in_ok-nodes-in-Some
returns-in_ok-nodes-in-Some c =
    let f = c.args.self.now in
    let known = found_in f in
    let core = core_of (core_in c.args.checked.now) c.in-Some.fun in
    let entry = subst (IsEntryAt f c.args.at) c.in-Some.is c.in_ok-fun.ensures in
    let by_types = ap (λ ids. with_instances known (mentioned_in (types_at f.types ids) (map (λ node. the_core node.now) c.as_slice.result.now))) c.as_slice-in-Some.ensures.value in
    let by_nodes = ap (λ nodes. with_instances known (mentioned_in (types_at f.types c.in-Some.types.items) (map (λ node. the_core node.now) nodes))) c.as_slice.ensures.value in
    let by_body = ap (λ nodes. with_instances known (mentioned_in (types_at f.types c.in-Some.types.items) nodes)) c.in_ok-nodes-in-Some.ensures in
    let by_mentions = ap (with_instances known) (mentions_are (types_at f.types c.in-Some.types.items) core) in
    let by_entry = ap (gone_through (functions_in c.args.checked.now) (core_in c.args.checked.now) known) entry.0 in
    comes_as c.go_through.new.self _ _ c.go_through.result (by_types ∙ by_nodes ∙ by_body ∙ by_mentions ∙ sym by_entry) c.go_through.ensures.found
