use Rattle.std.proofs.Common.{◌≡◌, drop}
use Rattle.cg_certcheck_context.specs.Contexts.{context_of}
use Rattle.cg_check_pieces.specs.View.{bounds_of}
use Rattle.cg_certcheck_def.specs.Tests.{drops_all}
use Rattle.cg_certcheck_context.proofs.tests.drops_all.Given as goal

abbrev pub invariant-loop-entry : goal.invariant-loop-entry
invariant-loop-entry l =
    drops_all (bounds_of l.source.vars.now) (context_of (bounds_of l.source.vars.now) (drop l.entry-index l.context)) ≡ drops_all (bounds_of l.source.vars.now) (context_of (bounds_of l.source.vars.now) l.context)
