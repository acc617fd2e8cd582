use Rattle.std.proofs.Common.{map, rules, ap, ◌∙◌, [], ◌∷◌, ◌++◌}
use Rattle.cg_base.specs.Types.{type_of}
use Rattle.cg_core.specs.Kernels.{the_core}
use Rattle.cg_eval_machine.proofs.Steps as steps
use Rattle.cg_eval_machine.proofs.machine.with_two.Goals as goal

pub returns-clause-gives : goal.returns-clause-gives
returns-clause-gives c = λ table.
    steps.scope_two table (the_core c.args.term.now) (map type_of c.args.m.now.types) c.args.m.now.values.items c.push-3.new.self.items c.args.first c.args.second c.len.result
    c.args.m.now.frames.items c.push.new.self.items c.args.m.now.left (search rules) c.in_ok-push.ensures.items (c.in_ok-push-3.ensures.items ∙ ap (λ l. l ++ c.args.second ∷ []) c.in_ok-push-2.ensures.items)
