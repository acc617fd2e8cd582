use Rattle.std.proofs.Common.{length, ap, arith}
use Rattle.cg_heaptext_judge_steps.proofs.Within.{one_type}
use Rattle.cg_heaptext_judge_steps.proofs.library.is_allocator.Goals as goal

pub returns-in_default : goal.returns-in_default
returns-in_default c = one_type c.args.name.now c.args.args.now (omega (arith, c.in_default.len_at_least, ap length c.as_slice.ensures))
