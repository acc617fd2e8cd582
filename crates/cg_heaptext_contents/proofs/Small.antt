-- What fits machine words is given as it is.
use Rattle.std.proofs.Common.{◌≡◌, ℕ, ◌^◌, true, nat_lt, List, [], ◌∷◌, map, refl, ap, arith}
use Rattle.std.proofs.Math.Nat.{min-eq_left}
use Rattle.std.proofs.lemmas.Bool.{and_parts, ltb-true}
use Rattle.std.specs.List.{list_all}
use Rattle.cg_heap.specs.declared.cell.Scalar.{Scalar}
use Rattle.cg_heap.specs.declared.cell.Scalar.TheVariants.{Unset, Word, Address}
use Rattle.cg_heaptext_def.specs.Small.{are_small, capped, capped_number, is_small}

number_kept : (n : ℕ) → nat_lt n (2 ^ 64) ≡ true → capped_number n ≡ n
number_kept n e = let l = ltb-true n (2 ^ 64) e in min-eq_left (omega (arith, l))

one_kept : (u : Scalar) → is_small u ≡ true → capped u ≡ u
one_kept Unset e = refl
one_kept (Word n) e = ap Word (number_kept n e)
one_kept (Address n) e = ap Address (number_kept n e)

pub kept : (us : List Scalar) → are_small us ≡ true → map capped us ≡ us
kept [] e = refl
kept (u ∷ us) e = let p = and_parts (is_small u) (are_small us) e in let a = one_kept u p.0 in let b = kept us p.1 in λ i. a i ∷ b i

-- the same of elements
pub numbers_kept : (ns : List ℕ) → list_all (λ n. nat_lt n (2 ^ 64)) ns ≡ true → map capped_number ns ≡ ns
numbers_kept [] e = refl
numbers_kept (n ∷ ns) e =
    let p = and_parts (nat_lt n (2 ^ 64)) (list_all (λ n. nat_lt n (2 ^ 64)) ns) e in
    let a = number_kept n p.0 in
    let b = numbers_kept ns p.1 in
    λ i. a i ∷ b i
