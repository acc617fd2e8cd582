-- A text that joins those that have positions.
use Rattle.std.proofs.Common.{◌≡◌, ℕ, Bool, false, cond, List, Option, Some, None, refl, sym, ap, ◌∙◌, Bor, bytes_eq, is_some}
use Rattle.std.proofs.lemmas.Bool.{true≢false}
use Rattle.std.proofs.lemmas.Map.Text.{is_eq-slice_cmp}
use Rattle.std.specs.BTreeMap as tree
use Rattle.std.specs.Cmp.Lexicographic.{slice_cmp}
use Rattle.std.specs.Ordering.{nat_cmp}
use Rattle.std.specs.Prelude.{unwrap_or}
use Rattle.cg_heaptext_index.specs.Addresses.{Joins, Positions, position}

-- one that has none
pub joins_new : (positions new : Positions) (text : Bor (List ℕ)) (at : ℕ) (known : Bool) → known ≡ is_some (position positions text.now) → known ≡ false
    → tree.Updates (λ x y. slice_cmp nat_cmp x.now y.now) positions new text (Some at) → Joins positions text.now at new
joins_new positions new text at known is e updates = λ other.
    updates.0 (record { ref_ptr = (0, 0); now = other })
    ∙ ap (λ b. cond b (Some at) (position positions other)) (is_eq-slice_cmp text.now other)
    ∙ ap (λ n. cond (bytes_eq text.now other) (Some n) (position positions other)) (absent (position positions text.now) (sym is ∙ e))
  where
    absent : (found : Option ℕ) → is_some found ≡ false → at ≡ unwrap_or found at
    absent None h = refl
    absent (Some i) h = absurd (true≢false h)
