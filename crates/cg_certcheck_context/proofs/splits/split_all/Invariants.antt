use Rattle.std.proofs.Common.{◌≡◌, drop}
use Rattle.cg_certcheck_context.specs.Contexts.{context_of, split_in_turn}
use Rattle.cg_check_pieces.specs.View.{bounds_of}
use Rattle.cg_certcheck_context.proofs.splits.split_all.Given as goal

abbrev pub invariant-loop-string : goal.invariant-loop-string
invariant-loop-string l =
    split_in_turn (bounds_of l.source.vars.now) (drop l.string-index l.strings) (context_of (bounds_of l.source.vars.now) l.rest.items)
    ≡ split_in_turn (bounds_of l.source.vars.now) l.strings (context_of (bounds_of l.source.vars.now) l.context)
