use Rattle.std.proofs.Common.{◌≡◌, ℕ, ◌<◌, false, get_or, map, true}
use Rattle.std.specs.Prelude.{slice_get}
use Rattle.cg_core.specs.Kernels.{function_of}
use Rattle.cg_driver_entry.specs.Entries.{lacks_body}
use Rattle.cg_driver_entry.proofs.mentions.is_marked_abstract.Given as goal

abbrev pub invariant-loop-at : goal.invariant-loop-at
invariant-loop-at l = (k : ℕ) → k < l.at → lacks_body (slice_get (map function_of l.functions) k) ≡ true → get_or l.marks k false ≡ true → ⊥
