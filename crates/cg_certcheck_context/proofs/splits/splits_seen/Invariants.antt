use Rattle.std.proofs.Common.{◌≡◌, drop}
use Rattle.cg_certcheck_context.specs.Contexts.{context_of}
use Rattle.cg_check_pieces.specs.View.{bounds_of, is_seen_at}
use Rattle.cg_certcheck_def.specs.Tests.{splits_where}
use Rattle.cg_certcheck_context.proofs.splits.splits_seen.Given as goal

abbrev pub invariant-loop-i : goal.invariant-loop-i
invariant-loop-i l =
    splits_where (bounds_of l.source.vars.now) (λ k. is_seen_at (drop l.i l.seen) k) (drop l.i l.marks) (context_of (bounds_of l.source.vars.now) (drop l.i l.context))
    ≡ splits_where (bounds_of l.source.vars.now) (λ k. is_seen_at l.seen k) l.marks (context_of (bounds_of l.source.vars.now) l.context)
