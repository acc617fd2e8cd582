use Rattle.std.proofs.Common.{◌≡◌, ◌++◌, drop}
use Rattle.cg_certcheck_context.specs.Contexts.{context_of}
use Rattle.cg_check_pieces.specs.View.{bounds_of}
use Rattle.cg_typing.specs.Contexts.{second}
use Rattle.cg_certcheck_context.proofs.context.seconds_lent.Given as goal

abbrev pub invariant-loop-i : goal.invariant-loop-i
invariant-loop-i l = context_of (bounds_of l.source.vars.now) l.side.items ++ second (drop l.i l.marks) (context_of (bounds_of l.source.vars.now) (drop l.i l.context)) ≡ second l.marks (context_of (bounds_of l.source.vars.now) l.context)
