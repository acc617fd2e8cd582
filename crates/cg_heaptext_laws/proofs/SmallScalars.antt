-- Scalars that a machine word holds: one by one, in lists, and those that are unset.
use Rattle.std.proofs.Common.{◌≡◌, ℕ, zero, suc, ◌<◌, ◌^◌, Bool, true, false, nat_lt, List, [], ◌∷◌, ◌++◌, map, replicate, refl, ◌∙◌, arith, lt-ltb}
use Rattle.std.proofs.lemmas.Bool.{and_from, and_parts}
use Rattle.std.proofs.lemmas.List.Folds.{list_all-append}
use Rattle.std.specs.List.{list_all}
use Rattle.cg_base.specs.declared.kind.Word.{Word as Width}
use Rattle.cg_base.specs.declared.kind.Word.TheVariants.{U8, U16, U32, U64}
use Rattle.cg_base.specs.Words.{bits}
use Rattle.cg_heap.specs.declared.cell.Scalar.{Scalar}
use Rattle.cg_heap.specs.declared.cell.Scalar.TheVariants.{Unset, Word, Address}
use Rattle.cg_heaptext_def.specs.Reading.{bit_number, skipped}
use Rattle.cg_heaptext_def.specs.Small.{are_small, is_small}
use Rattle.cg_heaptext_def.specs.Trees.{Numeral, amount}
use Rattle.cg_heaptext_laws.proofs.Each.{Each}

-- ---- one

pub small_word : (n : ℕ) → n < 2 ^ 64 → is_small (Word n) ≡ true
small_word n h = lt-ltb n (2 ^ 64) h

pub small_address : (n : ℕ) → n < 2 ^ 64 → is_small (Address n) ≡ true
small_address n h = lt-ltb n (2 ^ 64) h

pub small_bit : (b : Bool) → is_small (Word (bit_number b)) ≡ true
small_bit true = refl
small_bit false = refl

-- a number of any word is one of the widest
pub widest : (w : Width) (n : ℕ) → n < 2 ^ bits w → n < 2 ^ 64
widest U8 n h = omega arith
widest U16 n h = omega arith
widest U32 n h = omega arith
widest U64 n h = h

-- ---- many

pub small_more : (u : Scalar) (us : List Scalar) → is_small u ≡ true → are_small us ≡ true → are_small (u ∷ us) ≡ true
small_more u us h k = and_from (is_small u) (are_small us) h k

pub small_both : (us ws : List Scalar) → are_small us ≡ true → are_small ws ≡ true → are_small (us ++ ws) ≡ true
small_both us ws h k = list_all-append is_small us ws ∙ and_from (are_small us) (are_small ws) h k

pub small_unset : (n : ℕ) → are_small (replicate n Unset) ≡ true
small_unset zero = refl
small_unset (suc n) = small_unset n

pub small_skipped : (us : List Scalar) (n : ℕ) → are_small us ≡ true → are_small (skipped us n) ≡ true
small_skipped [] n h = refl
small_skipped (u ∷ us) n h =
    let parts = and_parts (is_small u) (are_small us) h in
    small_more u (replicate n Unset ++ us) parts.0 (small_both (replicate n Unset) us (small_unset n) parts.1)

-- ---- numbers that are written

-- a machine word holds it
abbrev pub IsLow : Numeral → Type 0
IsLow n = amount n < 2 ^ 64

pub small_numbers : (ns : List Numeral) → Each IsLow ns → list_all (λ n. nat_lt n (2 ^ 64)) (map amount ns) ≡ true
small_numbers [] h = refl
small_numbers (n ∷ ns) h =
    and_from (nat_lt (amount n) (2 ^ 64)) (list_all (λ n. nat_lt n (2 ^ 64)) (map amount ns)) (lt-ltb (amount n) (2 ^ 64) h.0) (small_numbers ns h.1)
