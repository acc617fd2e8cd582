use Rattle.std.proofs.Common.{◌≡◌, ◌≤◌, length, map}
use Rattle.cg_surface.specs.Programs.{entry_of}
use Rattle.cg_resolve_def.specs.Desugar.{function_of_entry}
use Rattle.cg_resolve.proofs.FunctionSteps.{functions_to}
use Rattle.cg_resolve.proofs.counts.signatures.Given as goal

abbrev pub invariant-loop-item : goal.invariant-loop-item
invariant-loop-item l = (l.count ≤ l.item-index) × (l.count ≡ length (functions_to (function_of_entry (map entry_of l.items)) l.items l.item-index))
