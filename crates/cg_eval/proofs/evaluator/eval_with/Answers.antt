use Rattle.std.proofs.Common.{arith}
use Rattle.cg_value.specs.declared.value.Value.{the_lemmas}
use Rattle.cg_eval.proofs.evaluator.eval_with.Goals as goal

pub unreachable-requires : goal.unreachable-requires
unreachable-requires g c = grind (arith, the_lemmas, c.call.ensures)
