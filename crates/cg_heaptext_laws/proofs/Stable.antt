-- Scalars are the same or they aren't, so two cells are the same where they can't differ.
use Rattle.std.proofs.Common.{◌≡◌, ◌⊎◌, ℕ, List, [], ◌∷◌, Option, Some, inl, inr, ⊎_elim, refl, ap}
use Rattle.std.proofs.lemmas.Bool.Decides.{eqb_tells}
use Rattle.cg_base.specs.Types.{Tau}
use Rattle.cg_heap.specs.declared.cell.Cell.{Cell as Held}
use Rattle.cg_heap.specs.declared.cell.Cell.TheVariants.{Slots}
use Rattle.cg_heap.specs.declared.cell.Scalar.{Scalar}
use Rattle.cg_heap.specs.declared.cell.Scalar.TheVariants.{Unset, Word, Address}
use Rattle.cg_heap.specs.Reps.{address_of, head, number_of, slots_in, tail}
use Rattle.cg_heaptext_def.specs.Reading.{held_at, slots_at}
use Rattle.cg_heaptext_def.specs.Trees as written
use Rattle.cg_heaptext_def.specs.Trees.{Cell, elements, answers}

abbrev Decided : {A : Type 0} → A → A → Type 0
Decided x y = (x ≡ y) ⊎ (x ≡ y → ⊥)

number_decided : (m n : ℕ) → Decided m n
number_decided m n = ⊎_elim (λ h. inl h.1) (λ h. inr h.1) (eqb_tells m n)

scalar_decided : (u w : Scalar) → Decided u w
scalar_decided Unset Unset = inl refl
scalar_decided (Word m) (Word n) = ⊎_elim (λ e. inl (ap Word e)) (λ other. inr (λ e. other (ap number_of e))) (number_decided m n)
scalar_decided (Address m) (Address n) = ⊎_elim (λ e. inl (ap Address e)) (λ other. inr (λ e. other (ap address_of e))) (number_decided m n)
scalar_decided _ _ = inr (λ e. cc)

scalars_decided : (us ws : List Scalar) → Decided us ws
scalars_decided [] [] = inl refl
scalars_decided (u ∷ us) (w ∷ ws) =
    ⊎_elim (λ e. ⊎_elim (λ f. inl (λ k. e k ∷ f k)) (λ other. inr (λ f. other (ap tail f))) (scalars_decided us ws))
    (λ other. inr (λ e. other (ap head e))) (scalar_decided u w)
scalars_decided _ _ = inr (λ e. cc)

-- what a cell holds at two types is the same where it can't differ
pub held_stable : (s t : Option Tau) (c : Cell) → ((held_at s c ≡ held_at t c → ⊥) → ⊥) → held_at s c ≡ held_at t c
held_stable s t (written.slots p fs) never =
    ⊎_elim (λ e. ap Slots e) (λ other. absurd (never (λ e. other (ap (λ (c : Held). slots_in (Some c)) e)))) (scalars_decided (slots_at s fs) (slots_at t fs))
held_stable s t (elements p ns) never = refl
held_stable s t (answers p bs) never = refl
