-- Arrays as values and as cells: an element that is read or written, and a new array.
use Rattle.std.proofs.Common.{◌≡◌, ℕ, zero, suc, ◌<◌, ◌^◌, Bool, true, false, nat_le, nat_lt, IsTrue, List, [], ◌∷◌, length, replicate, get_or, refl, ap, ◌∙◌, arith, lt-ltb}
use Rattle.std.specs.Prelude.{slice_set}
use Rattle.std.specs.List.{list_all}
use Rattle.std.proofs.lemmas.Bool.{and_parts, and_from, leb-true, ltb-true}
use Rattle.std.proofs.lemmas.List.{length-set, length-replicate}
use Rattle.cg_base.specs.declared.kind.Word.{Word}
use Rattle.cg_base.specs.declared.kind.Word.TheVariants.{U32}
use Rattle.cg_base.specs.Words.{bits}
use Rattle.cg_value.specs.Fits.{is_array, most_elements}
use Rattle.cg_value.specs.Values.{elements}
use Rattle.cg_base.proofs.Counts.{above_none as some_bits}

module _ (p : ℕ → Bool) where
  -- what holds of all elements and of 0 holds of what is read
  all_get : (ns : List ℕ) (i : ℕ) → list_all p ns ≡ true → p 0 ≡ true → p (get_or ns i 0) ≡ true
  all_get [] i a z = z
  all_get (n ∷ ns) zero a z = (and_parts (p n) (list_all p ns) a).0
  all_get (n ∷ ns) (suc i) a z = all_get ns i (and_parts (p n) (list_all p ns) a).1 z

  -- it holds where one is written, and of a list of one element repeated
  all_set : (ns : List ℕ) (i n : ℕ) → list_all p ns ≡ true → p n ≡ true → list_all p (slice_set ns i n) ≡ true
  all_set [] i n a e = refl
  all_set (x ∷ ns) zero n a e = and_from (p n) (list_all p ns) e (and_parts (p x) (list_all p ns) a).1
  all_set (x ∷ ns) (suc i) n a e =
      let b = and_parts (p x) (list_all p ns) a in
      and_from (p x) (list_all p (slice_set ns i n)) b.0 (all_set ns i n b.1 e)

  all_replicate : (i n : ℕ) → p n ≡ true → list_all p (replicate i n) ≡ true
  all_replicate zero n e = refl
  all_replicate (suc i) n e = and_from (p n) (list_all p (replicate i n)) e (all_replicate i n e)

module _ (w : Word) where
  -- an array is short, and each element is a word
  parts_of : (ns : List ℕ) → IsTrue (is_array w (elements ns)) → (nat_le (length ns) most_elements ≡ true) × (list_all (λ n. nat_lt n (2 ^ bits w)) ns ≡ true)
  parts_of ns a = and_parts (nat_le (length ns) most_elements) (list_all (λ n. nat_lt n (2 ^ bits w)) ns) a

  -- an array's length is a word
  pub length_is_word : (ns : List ℕ) → IsTrue (is_array w (elements ns)) → length ns < 2 ^ bits U32
  length_is_word ns a = let e = leb-true (length ns) most_elements (parts_of ns a).0 in omega arith

  -- an element is one
  pub element_is_word : (ns : List ℕ) (i : ℕ) → IsTrue (is_array w (elements ns)) → get_or ns i 0 < 2 ^ bits w
  element_is_word ns i a = ltb-true (get_or ns i 0) (2 ^ bits w) (all_get (λ n. nat_lt n (2 ^ bits w)) ns i (parts_of ns a).1 (lt-ltb 0 (2 ^ bits w) (some_bits w)))

  -- an array with another element
  pub set_is_array : (ns : List ℕ) (i n : ℕ) → IsTrue (is_array w (elements ns)) → n < 2 ^ bits w → IsTrue (is_array w (elements (slice_set ns i n)))
  set_is_array ns i n a k =
      let e = parts_of ns a in
      and_from (nat_le (length (slice_set ns i n)) most_elements) (list_all (λ n. nat_lt n (2 ^ bits w)) (slice_set ns i n))
      (ap (λ n. nat_le n most_elements) (length-set ns i n) ∙ e.0) (all_set (λ n. nat_lt n (2 ^ bits w)) ns i n e.1 (lt-ltb n (2 ^ bits w) k))

  -- a new array
  pub new_is_array : (i : ℕ) → nat_le i most_elements ≡ true → IsTrue (is_array w (elements (replicate i 0)))
  new_is_array i e = and_from (nat_le (length (replicate i 0)) most_elements) (list_all (λ n. nat_lt n (2 ^ bits w)) (replicate i 0))
      (ap (λ n. nat_le n most_elements) (length-replicate i 0) ∙ e) (all_replicate (λ n. nat_lt n (2 ^ bits w)) i 0 (lt-ltb 0 (2 ^ bits w) (some_bits w)))

-- one less on both sides
lt_below : (i n : ℕ) → nat_lt (suc i) (suc n) ≡ false → nat_lt i n ≡ false
lt_below i n e = go (nat_lt i n) refl
  where
    go : (b : Bool) → nat_lt i n ≡ b → nat_lt i n ≡ false
    go true f = absurd (let k = ltb-true i n f in let t = lt-ltb (suc i) (suc n) (omega arith) in cc)
    go false f = f

-- where the place is behind the last element, nothing is written
pub set_behind : (ns : List ℕ) (i n : ℕ) → nat_lt i (length ns) ≡ false → slice_set ns i n ≡ ns
set_behind [] i n e = refl
set_behind (x ∷ ns) zero n e = absurd (let t = lt-ltb 0 (length (x ∷ ns)) (omega arith) in cc)
set_behind (x ∷ ns) (suc i) n e = ap (λ ns. x ∷ ns) (set_behind ns i n (lt_below i (length ns) e))
