-- What a store of words, spans, holes and freed holes is seen as.
use Rattle.std.specs.Prelude.{◌≡◌, ℕ, ◌+◌, ◌≤◌, ◌^◌, List, length, Some}
use Rattle.std.specs.FinMap as table
use Rattle.std.specs.FinMap.{FinMap}
use Rattle.std.specs.Ordering.{nat_cmp}
use Rattle.cg_heap.specs.declared.cell.Form.TheVariants as form
use Rattle.cg_flat.specs.Flat.{Flat, IsFlat}
use Rattle.cg_flat.specs.Settled.{AreFree, settled}
use Rattle.cg_flat.specs.declared.span.Hole.{Hole}
use Rattle.cg_flat.specs.declared.span.Span.{Span}

abbrev pub seen : List ℕ → List (ℕ × Span) → List Hole → ℕ → Flat
seen words entries holes top = record { words = words; spans = table.from_entries entries; holes = holes; top = top }

-- a span of answers has at most 2^32 words, whatever stands in them
abbrev pub AreShort : FinMap nat_cmp Span → Type 0
AreShort m = (p : ℕ) (s : Span) → table.get m p ≡ Some s → s.form ≡ form.Answers → s.count ≤ 2 ^ 32

-- it is a flat store once the freed holes are among the others, there is room for one more in the place of each span, and answers are few
pub record IsKept (words : List ℕ) (entries : List (ℕ × Span)) (holes freed : List Hole) (capacity top : ℕ) : Type 0 where
  pub flat : IsFlat (seen words entries (settled freed holes) top)
  pub free : AreFree freed holes
  pub room : length entries + length freed ≤ capacity
  pub short : AreShort (table.from_entries entries)
