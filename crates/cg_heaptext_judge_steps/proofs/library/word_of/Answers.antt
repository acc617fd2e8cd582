use Rattle.std.proofs.Common.{length, ap, arith}
use Rattle.cg_heaptext_judge_steps.proofs.Within.{two_types}
use Rattle.cg_heaptext_judge_steps.proofs.library.word_of.Goals as goal

pub returns-in_default-4 : goal.returns-in_default-4
returns-in_default-4 c = λ w e. absurd (two_types c.args.args.now (omega (arith, c.in_default.len_at_least, ap length c.as_slice.ensures)) w e)
