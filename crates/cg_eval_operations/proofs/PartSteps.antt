-- Positions of fields, and type arguments.
use Rattle.std.proofs.Common.{◌≡◌, ℕ, zero, suc, ◌+◌, ◌<◌, ◌≤◌, if◌then◌else◌, List, [], ◌∷◌, drop, get_or, length, map, refl, sym, ap, ◌∙◌, arith}
use Rattle.cg_base.specs.declared.ty.Part.{Part}
use Rattle.cg_base.specs.declared.ty.Ty.{the_lemmas as type_lemmas}
use Rattle.cg_base.proofs.Views.{piece_of}
use Rattle.cg_base.specs.Types.{part_of, to_parts}
use Rattle.cg_value.specs.declared.value.Value.{the_lemmas as value_lemmas}
use Rattle.cg_eval_operations.specs.Positions.{position_among}
use Rattle.cg_base.proofs.Sequences.{same_when as same_name, same_unless as other_name}

pub past_all : (n : List ℕ) (ps : List Part) (i : ℕ) → length ps ≤ i → position_among n (to_parts (map part_of (drop i ps))) ≡ 0
unfolding position_among to_parts
past_all n [] zero h = refl
past_all n [] (suc i) h = refl
past_all n (p ∷ ps) zero h = absurd (omega arith)
past_all n (p ∷ ps) (suc i) h = past_all n ps i (omega arith)

pub part_name : (p : Part) → (part_of p).name ≡ p.name
part_name p = ap (λ q. q.name) (piece_of p)

-- the next part is of this name, or it isn't
pub is_there : (n : List ℕ) (ps : List Part) (i : ℕ) (p : Part) → i < length ps → p ≡ get_or ps i p → n ≡ p.name → position_among n (to_parts (map part_of (drop i ps))) ≡ 0
unfolding position_among to_parts
is_there n [] i p h e s = absurd (omega arith)
is_there n (q ∷ ps) zero p h e s = ap (λ b. if b then zero else suc (position_among n (to_parts (map part_of ps)))) (same_name n (part_of q).name (s ∙ ap (λ r. r.name) e ∙ sym (part_name q)))
is_there n (q ∷ ps) (suc i) p h e s = is_there n ps i p (omega arith) e s

pub is_later : (n : List ℕ) (ps : List Part) (i : ℕ) (p : Part) → i < length ps → p ≡ get_or ps i p → (n ≡ p.name → ⊥)
    → position_among n (to_parts (map part_of (drop i ps))) ≡ suc (position_among n (to_parts (map part_of (drop (i + 1) ps))))
unfolding position_among to_parts
is_later n [] i p h e s = absurd (omega arith)
is_later n (q ∷ ps) zero p h e s = ap (λ b. if b then zero else suc (position_among n (to_parts (map part_of ps)))) (other_name n (part_of q).name (λ w. s (w ∙ part_name q ∙ ap (λ r. r.name) (sym e))))
is_later n (q ∷ ps) (suc i) p h e s =
    is_later n ps i p (omega arith) e s ∙ ap (λ j. suc (position_among n (to_parts (map part_of (drop j (q ∷ ps)))))) (next i)
  where
    next : (i : ℕ) → suc (i + 1) ≡ suc i + 1
    next i = omega arith

pub ruleset part_steps = (past_all, is_there, is_later, type_lemmas, value_lemmas)
