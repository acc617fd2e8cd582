use Rattle.std.proofs.Common.{map, rules}
use Rattle.cg_base.specs.Types.{type_of}
use Rattle.cg_core.specs.Kernels.{the_core}
use Rattle.cg_eval_machine.proofs.Steps as steps
use Rattle.cg_eval_machine.proofs.machine.with_one.Goals as goal

pub returns-clause-gives : goal.returns-clause-gives
returns-clause-gives c = λ table.
    steps.scope table (the_core c.args.term.now) (map type_of c.args.m.now.types) c.args.m.now.values.items c.push-2.new.self.items c.args.value c.len.result
    c.args.m.now.frames.items c.push.new.self.items c.args.m.now.left (search rules) c.in_ok-push.ensures.items c.in_ok-push-2.ensures.items
