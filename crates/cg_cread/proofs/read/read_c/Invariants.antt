use Rattle.std.proofs.Common.{length}
use Rattle.cg_cread.specs.Views.{state_of}
use Rattle.cg_cread.proofs.Says.{Going}
use Rattle.cg_cread.proofs.read.read_c.Given as goal

abbrev pub invariant-loop-phase : goal.invariant-loop-phase
invariant-loop-phase l = Going l.bytes l.lexer (state_of l.phase)

abbrev pub decreases-loop-phase : goal.decreases-loop-phase
decreases-loop-phase l = length l.lexer.rest
