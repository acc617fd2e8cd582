-- The cells of types that are declared beforehand.
use Rattle.std.proofs.Common.{◌≡◌, ℕ, ◌≤◌, ◌^◌, Bool, false, List, [], ◌∷◌, length, map, Some, None, Result, Ok, if◌then◌else◌, refl, sym, ap, ◌∙◌, subst, arith}
use Rattle.cg_base.specs.declared.kind.Word.{Word}
use Rattle.cg_base.specs.declared.place.Place.{Place}
use Rattle.cg_base.specs.declared.ty.Ty.{Ty}
use Rattle.cg_base.specs.Types.{Taus, none, more, to_taus, type_of, word}
use Rattle.cg_base.specs.Words.{bits}
use Rattle.cg_heaptext_cells.specs.Cells.{form_of}
use Rattle.cg_heaptext_cells.specs.declared.cell.CellForm.TheVariants.{Slots, Elements, Answers}
use Rattle.cg_heaptext_def.specs.Reading.{counted, events_within, misfit, misfit_cell}
use Rattle.cg_heaptext_def.specs.Trees.{Cell, Fields, Numeral, slots, elements, answers}
use Rattle.cg_heaptext_entries.specs.Index.{CellStands}
use Rattle.cg_heaptext_judge_notes.specs.Notes.{Notes}
use Rattle.cg_heaptext_judge_notes.specs.declared.fault.JudgeFault.{JudgeFault}
use Rattle.cg_heaptext_judge_notes.specs.declared.notes.Judged.{Judged}
use Rattle.cg_heaptext_judge_steps.specs.Steps.{Fits, IsWordOf, counted_all, is_allocator_of}
use Rattle.cg_heaptext_judge_steps.proofs.Noting.{counts_noted, fits_notes}
use Rattle.cg_heaptext_lexer.specs.Next.{Cursor}

-- ---- over how many types

pub two_types : (ts : List Ty) → 2 ≤ length ts → (w : Word) → to_taus (map type_of ts) ≡ more (word w) none → ⊥
unfolding to_taus
two_types [] l w e = absurd (omega (arith, l))
two_types (t ∷ []) l w e = absurd (omega (arith, l))
two_types (t ∷ u ∷ ts) l w e = absurd (cc)

pub one_type : (name : List ℕ) (ts : List Ty) → 1 ≤ length ts → false ≡ is_allocator_of name (to_taus (map type_of ts))
unfolding to_taus
one_type name [] l = absurd (omega (arith, l))
one_type name (t ∷ ts) l = refl

-- ---- what is met in a cell of each form

answers_within : (name : List ℕ) (ts : Taus) (p : Place) (bs : List Bool) → events_within name ts (Some (answers p bs)) ≡ (if is_allocator_of name ts then [] else misfit p ∷ [])
answers_within name none p bs = refl
answers_within name (more (word w) none) p bs = refl
answers_within name (more t us) p bs = refl

slots_within : (name : List ℕ) (ts : Taus) (p : Place) (fs : Fields) → events_within name ts (Some (slots p fs)) ≡ misfit p ∷ []
slots_within name none p fs = refl
slots_within name (more (word w) none) p fs = refl
slots_within name (more t us) p fs = refl

others_within : (name : List ℕ) (ts : Taus) (p : Place) (xs : List Numeral) → IsWordOf name ts None → events_within name ts (Some (elements p xs)) ≡ misfit p ∷ []
others_within name (more (word w) none) p xs never = ap (λ b. if b then map (λ n. counted n (2 ^ bits w)) xs else misfit p ∷ []) (never w refl)
others_within name ts p xs never = refl

pub allocator_told : (name : List ℕ) (ts : Taus) (p : Place) (bs : List Bool) (b : Bool) (r : Result (Unit {0}) JudgeFault) → b ≡ is_allocator_of name ts → Fits (if b then [] else misfit p ∷ []) r
    → Fits (events_within name ts (Some (answers p bs))) r
allocator_told name ts p bs b r e f =
    subst (λ es. Fits es r) (sym (answers_within name ts p bs ∙ ap (λ b. if b then [] else misfit p ∷ []) (sym e))) f

module _ (ns : List ℕ) (old new : Judged) (name : List ℕ) (ts : Taus) (p : Place) (xs : List Numeral) where
  pub elements_noted : (w : Word) (bound : ℕ) → IsWordOf name ts (Some w) → bound ≡ 2 ^ bits w → new.mentions ≡ old.mentions → new.aliased ≡ old.aliased → new.over ≡ counted_all old.over xs bound
      → Notes ns old (events_within name ts (Some (elements p xs))) (Ok tt) new
  elements_noted w bound is e mentions aliased over =
      subst (λ us. Notes ns old (events_within name us (Some (elements p xs))) (Ok tt) new) (sym is.0)
      (subst (λ (b : Bool). Notes ns old (if b then map (λ n. counted n (2 ^ bits w)) xs else misfit p ∷ []) (Ok tt) new) (sym is.1)
      (subst (λ b. Notes ns old (map (λ n. counted n b) xs) (Ok tt) new) e (counts_noted ns old new xs bound mentions aliased over)))

pub others_noted : (ns : List ℕ) (old : Judged) (name : List ℕ) (ts : Taus) (p : Place) (xs : List Numeral) (r : Result (Unit {0}) JudgeFault) → IsWordOf name ts None → Fits (misfit p ∷ []) r
    → Notes ns old (events_within name ts (Some (elements p xs))) r old
others_noted ns old name ts p xs r never f = fits_notes ns old (events_within name ts (Some (elements p xs))) r (subst (λ es. Fits es r) (sym (others_within name ts p xs never)) f)

-- ---- the cell of each form

module _ (cell : Cursor) (ns : List ℕ) (old new : Judged) (name : List ℕ) (ts : Taus) (r : Result (Unit {0}) JudgeFault) where
  pub answers_told : ((c : Cell) → CellStands cell c → Answers ≡ form_of c) → ((p : Place) (bs : List Bool) → CellStands cell (answers p bs) → Fits (events_within name ts (Some (answers p bs))) r)
      → (c : Cell) → CellStands cell c → Notes ns old (events_within name ts (Some c)) r old
  answers_told form fits (answers p bs) s = fits_notes ns old (events_within name ts (Some (answers p bs))) r (fits p bs s)
  answers_told form fits (slots p fs) s = let e = form (slots p fs) s in absurd (cc)
  answers_told form fits (elements p xs) s = let e = form (elements p xs) s in absurd (cc)

  pub elements_told : ((c : Cell) → CellStands cell c → Elements ≡ form_of c)
      → ((p : Place) (xs : List Numeral) → CellStands cell (elements p xs) → Notes ns old (events_within name ts (Some (elements p xs))) r new)
      → (c : Cell) → CellStands cell c → Notes ns old (events_within name ts (Some c)) r new
  elements_told form noted (elements p xs) s = noted p xs s
  elements_told form noted (slots p fs) s = let e = form (slots p fs) s in absurd (cc)
  elements_told form noted (answers p bs) s = let e = form (answers p bs) s in absurd (cc)

  pub slots_told : ((c : Cell) → CellStands cell c → Slots ≡ form_of c) → ((c : Cell) → CellStands cell c → Fits (misfit_cell (Some c)) r)
      → (c : Cell) → CellStands cell c → Notes ns old (events_within name ts (Some c)) r old
  slots_told form fits (slots p fs) s = fits_notes ns old (events_within name ts (Some (slots p fs))) r (subst (λ es. Fits es r) (sym (slots_within name ts p fs)) (fits (slots p fs) s))
  slots_told form fits (elements p xs) s = let e = form (elements p xs) s in absurd (cc)
  slots_told form fits (answers p bs) s = let e = form (answers p bs) s in absurd (cc)
