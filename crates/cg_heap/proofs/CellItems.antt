-- What a store gives of a cell, slot by slot.
use Rattle.std.proofs.Common.{rules, ◌≡◌, ◌+◌, ℕ, zero, suc, Bool, List, [], ◌∷◌, ◌++◌, length, map, take, slice_get, refl, sym, ap, ◌∙◌, arith}
use Rattle.std.proofs.lemmas.List.{take_all, length-map}
use Rattle.std.proofs.lemmas.Option.{slice_get-map}
use Rattle.std.specs.Option.{option_map}
use Rattle.std.specs.declared.option.Option.{Option}
use Rattle.std.specs.declared.option.Option.TheVariants.{None, Some}
use Rattle.cg_heap.specs.declared.cell.Cell.{Cell}
use Rattle.cg_heap.specs.declared.cell.Cell.TheVariants.{Slots, Words, Answers}
use Rattle.cg_heap.specs.declared.cell.Scalar.{Scalar}
use Rattle.cg_heap.specs.declared.cell.Scalar.TheVariants.{Word}
use Rattle.cg_heap.specs.Readings.{held_answers, held_scalars}
use Rattle.cg_heap.specs.Stored.{answer_of, cell_length, in_cell, slot_of}
use Rattle.cg_base.proofs.Sequences.{one_more' as one_more}

-- ---- an item of a list

no_more : {X : Type 0} (xs : List X) (i : ℕ) → slice_get xs i ≡ None → take (i + 1) xs ≡ take i xs
no_more [] i e = take_all (i + 1) [] (omega arith) ∙ sym (take_all i [] (omega arith))
no_more (x ∷ xs) zero e = absurd (search (rules, e))
no_more (x ∷ xs) (suc i) e = let step : suc i + 1 ≡ suc (i + 1) = omega arith in rw step (ap (λ l. x ∷ l) (no_more xs i e))

-- ---- a cell's items

pub slot_is : (o : Option Cell) (i : ℕ) → in_cell (slot_of i) o ≡ slice_get (held_scalars o) i
slot_is None i = refl
slot_is (Some (Slots ss)) i = refl
slot_is (Some (Words ns)) i = sym (slice_get-map Word ns i)
slot_is (Some (Answers bs)) i = refl

answer_is : (o : Option Cell) (i : ℕ) → in_cell (answer_of i) o ≡ slice_get (held_answers o) i
answer_is None i = refl
answer_is (Some (Slots ss)) i = refl
answer_is (Some (Words ns)) i = refl
answer_is (Some (Answers bs)) i = refl

pub slot_more : (o : Option Cell) (i : ℕ) (x : Scalar) → in_cell (slot_of i) o ≡ Some x → take (i + 1) (held_scalars o) ≡ take i (held_scalars o) ++ x ∷ []
slot_more o i x e = one_more (held_scalars o) i x (sym (slot_is o i) ∙ e)

pub slot_none : (o : Option Cell) (i : ℕ) → in_cell (slot_of i) o ≡ None → take (i + 1) (held_scalars o) ≡ take i (held_scalars o)
slot_none o i e = no_more (held_scalars o) i (sym (slot_is o i) ∙ e)

pub answer_more : (o : Option Cell) (i : ℕ) (x : Bool) → in_cell (answer_of i) o ≡ Some x → take (i + 1) (held_answers o) ≡ take i (held_answers o) ++ x ∷ []
answer_more o i x e = one_more (held_answers o) i x (sym (answer_is o i) ∙ e)

pub answer_none : (o : Option Cell) (i : ℕ) → in_cell (answer_of i) o ≡ None → take (i + 1) (held_answers o) ≡ take i (held_answers o)
answer_none o i e = no_more (held_answers o) i (sym (answer_is o i) ∙ e)

pub all_slots : (o : Option Cell) (n : ℕ) → option_map cell_length o ≡ Some n → take n (held_scalars o) ≡ held_scalars o
all_slots None n e = absurd (search (rules, e))
all_slots (Some (Slots ss)) n e = take_all n ss (grind (arith, rules, e))
all_slots (Some (Words ns)) n e = take_all n (map Word ns) (let same : length (map Word ns) ≡ length ns = length-map ns Word in grind (arith, rules, e))
all_slots (Some (Answers bs)) n e = take_all n [] (omega arith)

pub no_slots : (o : Option Cell) → option_map cell_length o ≡ None → held_scalars o ≡ []
no_slots None e = refl
no_slots (Some c) e = absurd (search (rules, e))

pub all_answers : (o : Option Cell) (n : ℕ) → option_map cell_length o ≡ Some n → take n (held_answers o) ≡ held_answers o
all_answers None n e = absurd (search (rules, e))
all_answers (Some (Slots ss)) n e = take_all n [] (omega arith)
all_answers (Some (Words ns)) n e = take_all n [] (omega arith)
all_answers (Some (Answers bs)) n e = take_all n bs (grind (arith, rules, e))

pub no_answers : (o : Option Cell) → option_map cell_length o ≡ None → held_answers o ≡ []
no_answers None e = refl
no_answers (Some c) e = absurd (search (rules, e))

pub ruleset content_steps = (slot_more, slot_none, answer_more, answer_none, all_slots, no_slots, all_answers, no_answers)
