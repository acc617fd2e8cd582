-- Cells of which some answers were taken, and what is written into them.
use Rattle.std.proofs.Common.{add-one, ◌≡◌, ℕ, ◌+◌, ◌<◌, Bool, false, List, length, refl}
use Rattle.std.proofs.Math.Seq.{drop-cons}
use Rattle.std.specs.Option.{unwrap_or}
use Rattle.cg_heap.specs.declared.cell.Cell.TheVariants.{Answers}
use Rattle.cg_heap.specs.Left.{left}
use Rattle.cg_heap.specs.Stored.{without_answer}

-- what is left without its first
pub popped : (n : ℕ) (bs : List Bool) → n < length bs → left (n + 1) (Answers bs) ≡ unwrap_or (without_answer (left n (Answers bs))) (left n (Answers bs))
popped n bs within = rw (add-one, drop-cons bs n false within) refl
