-- Numbers in arrays are words, and what is changed in an array keeps it one.
use Rattle.std.proofs.Common.{ℕ, zero, suc, ◌^◌, ◌<◌, ◌≤◌, IsTrue, List, [], ◌∷◌, length, get_or, refl, ap, ◌∙◌, nat_lt, nat_le, lt-ltb, ltb-true}
use Rattle.std.proofs.lemmas.Bool.{and_parts, and_from, leb-true}
use Rattle.std.proofs.lemmas.Nat.{pow_pos}
use Rattle.std.specs.List.{list_all}
use Rattle.std.specs.Prelude.{replicate, slice_set}
use Rattle.std.proofs.lemmas.List.{length-replicate}
use Rattle.cg_base.specs.declared.kind.Word.{Word}
use Rattle.cg_base.specs.Types.{word}
use Rattle.cg_base.specs.Words.{bits}
use Rattle.cg_typing.specs.Library.{array}
use Rattle.cg_value.specs.Fits.{World, fits, most_elements}
use Rattle.cg_value.specs.Forms.{elements_in, number_in, with_element}
use Rattle.cg_value.specs.Values.{Val, number, elements}
use Rattle.cg_base.proofs.Counts.{no_steps as never}
use Rattle.cg_base.proofs.Sequences.{length_set}

module _ (m : ℕ) where
  abbrev Below : List ℕ → Type 0
  Below ns = IsTrue (list_all (λ n. nat_lt n m) ns)

  below_get : (ns : List ℕ) (i : ℕ) → 0 < m → Below ns → get_or ns i 0 < m
  below_get [] i p h = p
  below_get (n ∷ ns) zero p h = ltb-true n m (and_parts (nat_lt n m) _ h).0
  below_get (n ∷ ns) (suc i) p h = below_get ns i p (and_parts (nat_lt n m) _ h).1

  below_set : (ns : List ℕ) (i k : ℕ) → IsTrue (nat_lt k m) → Below ns → Below (slice_set ns i k)
  below_set [] i k p h = refl
  below_set (n ∷ ns) zero k p h = and_from (nat_lt k m) _ p (and_parts (nat_lt n m) _ h).1
  below_set (n ∷ ns) (suc i) k p h = let q = and_parts (nat_lt n m) _ h in and_from (nat_lt n m) _ q.0 (below_set ns i k p q.1)

  below_zeros : (k : ℕ) → 0 < m → Below (replicate k 0)
  below_zeros zero p = refl
  below_zeros (suc k) p = and_from (nat_lt 0 m) _ (lt-ltb 0 m p) (below_zeros k p)

module _ (world : World) (w : Word) where
  -- an element, and 0 past the end
  pub element_fits : (a : Val) (i : ℕ) → IsTrue (fits world (array (word w)) a) → IsTrue (fits world (word w) (number (get_or (elements_in a) i 0)))
  unfolding fits elements_in
  element_fits (elements ns) i f = lt-ltb _ _ (below_get (2 ^ bits w) ns i (pow_pos (bits w)) (and_parts (nat_le (length ns) most_elements) _ f).1)
  element_fits _ i f = never f

  pub changed_fits : (a v : Val) (i : ℕ) → IsTrue (fits world (array (word w)) a) → IsTrue (fits world (word w) v) → IsTrue (fits world (array (word w)) (with_element a i (number_in v)))
  unfolding fits with_element number_in
  changed_fits (elements ns) (number n) i f g =
      let p = and_parts (nat_le (length ns) most_elements) _ f in
      and_from (nat_le (length (slice_set ns i n)) most_elements) _ (ap (λ k. nat_le k most_elements) (length_set ns i n) ∙ p.0) (below_set (2 ^ bits w) ns i n g p.1)
  changed_fits (elements ns) _ i f g = never g
  changed_fits _ v i f g = never f

  pub zeros_fit : (n : ℕ) → IsTrue (nat_le n most_elements) → IsTrue (fits world (array (word w)) (elements (replicate n 0)))
  unfolding fits
  zeros_fit n h = and_from (nat_le (length (replicate n 0)) most_elements) _ (ap (λ k. nat_le k most_elements) (length-replicate n 0) ∙ h) (below_zeros (2 ^ bits w) n (pow_pos (bits w)))

  pub few_elements : (a : Val) → IsTrue (fits world (array (word w)) a) → length (elements_in a) ≤ most_elements
  unfolding fits elements_in
  few_elements (elements ns) f = leb-true _ _ (and_parts (nat_le (length ns) most_elements) _ f).0
  few_elements _ f = never f
