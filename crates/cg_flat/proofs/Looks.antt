-- What reads of words tell of the cell that they stand for.
use Rattle.std.proofs.Common.{rules, zero, suc, ◌≡◌, ℕ, ◌+◌, ◌-◌, ◌*◌, ◌≤◌, nat_eq, List, [], ◌∷◌, length, map, drop, get_or, slice_get, refl, sym, ap, ◌∙◌, arith}
use Rattle.std.proofs.lemmas.List.{length-drop, length-map}
use Rattle.std.proofs.lemmas.Option.{slice_get-map, slice_get_within, slice_get-get_or}
use Rattle.std.specs.Option.{option_map}
use Rattle.std.specs.declared.option.Option.{Option}
use Rattle.std.specs.declared.option.Option.TheVariants.{None, Some}
use Rattle.cg_base.proofs.Options.{some_is}
use Rattle.cg_flat.specs.Flat.{answers_in, scalar_in, slots_in}
use Rattle.cg_flat.proofs.Cells.{slot_none, slot_some}

past_by : {A : Type 0} (xs : List A) (i : ℕ) (o : Option A) → slice_get xs i ≡ o → o ≡ None → length xs ≤ i
past_by [] i o e none = omega arith
past_by (x ∷ xs) zero o e none = absurd (search (rules, e, none))
past_by (x ∷ xs) (suc i) o e none = let rest = past_by xs i o e none in omega arith

pub past : {A : Type 0} (xs : List A) (i : ℕ) → slice_get xs i ≡ None → length xs ≤ i
past xs i e = past_by xs i None e refl

-- both words of a slot were read
pub slot_got : (ws : List ℕ) (i a b : ℕ) → slice_get ws (2 * i) ≡ Some a → slice_get ws (2 * i + 1) ≡ Some b → slice_get (slots_in ws) i ≡ Some (scalar_in a b)
slot_got ws i a b one two =
    let low = slice_get_within ws (2 * i + 1) b two in
    let first : get_or ws (2 * i) 0 ≡ a = some_is (get_or ws (2 * i) 0) a (sym (slice_get-get_or ws (2 * i) 0 (omega arith)) ∙ one) in
    let second : get_or ws (2 * i + 1) 0 ≡ b = some_is (get_or ws (2 * i + 1) 0) b (sym (slice_get-get_or ws (2 * i + 1) 0 low) ∙ two) in
    slot_some ws i low ∙ ap (λ n. Some (scalar_in n (get_or ws (2 * i + 1) 0))) first ∙ ap (λ n. Some (scalar_in a n)) second

-- one of them is missing
pub slot_missed : (ws : List ℕ) (i : ℕ) → slice_get ws (2 * i) ≡ None → slice_get (slots_in ws) i ≡ None
slot_missed ws i e = let few = past ws (2 * i) e in slot_none ws i (omega arith)

pub slot_cut : (ws : List ℕ) (i : ℕ) → slice_get ws (2 * i + 1) ≡ None → slice_get (slots_in ws) i ≡ None
slot_cut ws i e = slot_none ws i (past ws (2 * i + 1) e)

-- how many answers are left
pub answers_left : (t : ℕ) (ws : List ℕ) → length (answers_in (t ∷ ws)) ≡ length ws - t
answers_left t ws =
    let rest = length-drop t (map (λ w. nat_eq w 1) ws) in
    let same = length-map ws (λ w. nat_eq w 1) in
    omega arith

drop_mapped : (t : ℕ) (ws : List ℕ) → drop t (map (λ w. nat_eq w 1) ws) ≡ map (λ w. nat_eq w 1) (drop t ws)
drop_mapped zero ws = refl
drop_mapped (suc t) [] = refl
drop_mapped (suc t) (w ∷ ws) = drop_mapped t ws

-- one of those that are left
pub answer_got : (t i : ℕ) (ws : List ℕ) → slice_get (answers_in (t ∷ ws)) i ≡ option_map (λ w. nat_eq w 1) (slice_get (drop t ws) i)
answer_got t i ws = ap (λ l. slice_get l i) (drop_mapped t ws) ∙ slice_get-map (λ w. nat_eq w 1) (drop t ws) i
