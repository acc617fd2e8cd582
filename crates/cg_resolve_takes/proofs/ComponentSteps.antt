-- A name is that of a component exactly where its digits say so.
use Rattle.std.proofs.Common.{◌≡◌, ◌⊎◌, inl, inr, ℕ, zero, suc, ◌+◌, ◌-◌, ◌<◌, ◌≤◌, ◌^◌, true, List, [], ◌∷◌, length, get_or, Option, Some, None, refl, sym, ap, ◌∙◌, subst, arith, decimal, ⊎_elim}
use Rattle.std.specs.Prelude.{◌&&◌, ◌==◌, not}
use Rattle.std.proofs.lemmas.Bool.{and_parts, and_from, or_cases, or_left, or_right, not-true, not_from_false, eqb-true, eqb-false, ne_eqb, leb-true, le-leb, cases_lt}
use Rattle.std.proofs.lemmas.Fmt.{digits_decimal, digits_value-decimal, decimal-digits_value, first_decimal, decimal_digit, decimal_nonempty}
use Rattle.std.specs.Cmp.Lexicographic.{bytes_decides}
use Rattle.std.specs.List.{list_all}
use Rattle.std.specs.Str.{bytes_eq}
use Rattle.cg_base.specs.Bytes.{digit}
use Rattle.cg_base.specs.Numbers.{number_from, word64, literal_of}
use Rattle.cg_resolve_def.specs.Declared.{is_among}
use Rattle.cg_resolve_def.specs.Expand.{component}
use Rattle.cg_resolve_takes.specs.Components.{counts_to, is_position, is_numbered}
use Rattle.cg_resolve_takes.specs.Heads.{component_names}
use Rattle.cg_resolve_takes.proofs.FieldSteps.{among_more}
use Rattle.cg_base.proofs.Counts.{own}
use Rattle.cg_base.proofs.Options.{word_is, word_of}
use Rattle.cg_base.proofs.Truths.{same_test}

-- ---- numbers and their digits

-- a number from 1 on, written out
position_from : (most n : ℕ) (ds : List ℕ) → ds ≡ decimal n → 0 < n → n ≤ most → n < 2 ^ 64 → is_position most ds ≡ true
position_from most n [] is low high small = absurd (omega (arith, ap length is, decimal_nonempty n small))
position_from most n (b ∷ ds) is low high small =
    and_from (not (b == 48) && list_all digit (b ∷ ds)) (counts_to most (literal_of (b ∷ ds)))
    (and_from (not (b == 48)) (list_all digit (b ∷ ds))
    (not_from_false (b == 48) (ne_eqb b 48 (λ zero. let first : 48 < b = subst (λ l. 48 < get_or l 0 0) (sym is) (first_decimal n low small) in omega arith)))
    (subst (λ l. list_all digit l ≡ true) (sym is) (digits_decimal own n small)))
    (ap (counts_to most) (ap word64 (ap (number_from 0) is ∙ digits_value-decimal own n small) ∙ word_of n small) ∙ le-leb n most high)

-- and read
counted : (most : ℕ) (n : Option ℕ) → counts_to most n ≡ true → (m : ℕ) × (n ≡ Some m) × (m ≤ most)
counted most None h = cc
counted most (Some n) h = (n, refl, leb-true n most h)

position_is : (most : ℕ) (ds : List ℕ) → is_position most ds ≡ true → (n : ℕ) × (0 < n) × (n ≤ most) × (ds ≡ decimal n)
position_is most [] h = cc
position_is most (b ∷ ds) h =
    let parts = and_parts (not (b == 48) && list_all digit (b ∷ ds)) (counts_to most (literal_of (b ∷ ds))) h in
    let front = and_parts (not (b == 48)) (list_all digit (b ∷ ds)) parts.0 in
    let count = counted most (literal_of (b ∷ ds)) parts.1 in
    let word = word_is (number_from 0 (b ∷ ds)) count.0 count.1 in
    let no_zero : b ≡ 48 → ⊥ = eqb-false b 48 (not-true (b == 48) front.0) in
    let written : decimal count.0 ≡ b ∷ ds = ap decimal (sym word.0) ∙ decimal-digits_value own (b ∷ ds) front.1 (omega arith) (λ zero. absurd (no_zero zero)) (omega (arith, word.0, word.1)) in
    (count.0, above count.0 written no_zero, count.2, sym written)
  where
    above : (n : ℕ) → decimal n ≡ b ∷ ds → (b ≡ 48 → ⊥) → 0 < n
    above zero written no_zero = absurd (no_zero (let zero_is : 48 ∷ [] ≡ b ∷ ds = sym (decimal_digit 0 (omega arith)) ∙ written in cc))
    above (suc n) written no_zero = omega arith

-- ---- names

-- the name of a component is among them
among_at : (k i : ℕ) → i < k → is_among (component_names k) (component i) ≡ true
unfolding component_names
among_at zero i lt = absurd (omega arith)
among_at (suc k) i lt =
    among_more (component_names k) (component k) (component i)
    ∙ ⊎_elim
    (λ same. or_right (is_among (component_names k) (component i)) (bytes_eq (component i) (component k)) ((bytes_decides (component i) (component k)).1 (ap component same)))
    (λ below. or_left (is_among (component_names k) (component i)) (bytes_eq (component i) (component k)) (among_at k i below)) (last (cases_lt i k))
  where
    last : (i < k) ⊎ (k ≤ i) → (i ≡ k) ⊎ (i < k)
    last (inl below) = inr below
    last (inr above) = inl (omega arith)

-- and what is among them is one
among_is : (k : ℕ) (name : List ℕ) → is_among (component_names k) name ≡ true → (i : ℕ) × (i < k) × (name ≡ component i)
unfolding component_names
among_is zero name h = cc
among_is (suc k) name h =
    ⊎_elim
    (λ before. let found = among_is k name before in (found.0, omega (arith, found.1), found.2))
    (λ last. (k, omega arith, (bytes_decides name (component k)).0 last)) (or_cases (is_among (component_names k) name) (bytes_eq name (component k)) (sym (among_more (component_names k) (component k) name) ∙ h))

numbered_at : (most i : ℕ) → i < most → most < 2 ^ 64 → is_numbered most (component i) ≡ true
numbered_at most i lt small = position_from most (i + 1) (decimal (i + 1)) refl (omega arith) (omega arith) (omega arith)

numbered_some : (most : ℕ) (name : List ℕ) → is_numbered most name ≡ true → (i : ℕ) × (i < most) × (name ≡ component i)
numbered_some most [] h = cc
numbered_some most (b ∷ digits) h =
    let parts = and_parts (b == 112) (is_position most digits) h in
    let found = position_is most digits parts.1 in
    let back : digits ≡ decimal (found.0 - 1 + 1) = found.3 ∙ ap decimal (omega (arith, found.1)) in
    let first : b ≡ 112 = eqb-true b 112 parts.0 in
    (found.0 - 1, omega (arith, found.1, found.2), ap (λ c. c ∷ digits) first ∙ ap (λ l. 112 ∷ l) back)

pub numbered_is : (most : ℕ) (name : List ℕ) → most < 2 ^ 64 → is_numbered most name ≡ is_among (component_names most) name
numbered_is most name small =
    same_test (is_numbered most name) (is_among (component_names most) name)
    (λ h. let found = numbered_some most name h in ap (is_among (component_names most)) found.2 ∙ among_at most found.0 found.1)
    (λ h. let found = among_is most name h in ap (is_numbered most) found.2 ∙ numbered_at most found.0 found.1 small)
