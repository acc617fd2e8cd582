-- The numbers of structs, and tables that grow.
use Rattle.std.proofs.Common.{◌≡◌, ℕ, zero, suc, ◌+◌, ◌<◌, ◌≤◌, Bool, true, false, ◌||◌, cond, not, nat_eq, nat_lt, List, [], ◌∷◌, ◌++◌, length, slice_get, Some, None, refl, sym, ap, ◌∙◌, subst, arith, tests}
use Rattle.std.specs.List.{position_or_len}
use Rattle.std.specs.Map.{keys_of}
use Rattle.std.proofs.lemmas.List.{take-append-le, take_all}
use Rattle.cg_base.specs.declared.kind.Sigil.TheVariants.{U}
use Rattle.cg_base.specs.Same.{same_type}
use Rattle.cg_base.specs.Types.{Tau, variant, fields, Parts, end, part}
use Rattle.cg_inst.proofs.SameType.{same_is, same_self}
use Rattle.cg_lower_def.specs.CTypes.{form, form_parts}
use Rattle.cg_lower_def.specs.Structs.{AreCovered, HasBelow, IsCovered, is_in, numbered_in, StandBelow}
use Rattle.cg_inst_types.specs.Places.{IsOnce, Keeps, type_at}
use Rattle.cg_lower_tables.specs.declared.members.Row.{Row}
use Rattle.cg_lower_tables.specs.Added.{with_struct}
use Rattle.cg_lower_tables.specs.Plain.{plain}
use Rattle.cg_lower_tables.specs.Tables.{IsPlainAt, table_of}
use Rattle.cg_lower_tables.proofs.Plains.{same_plain}
use Rattle.cg_graphs.proofs.Standing.{are_equal as equal_is}
use Rattle.cg_base.proofs.Counts.{is_equal as equal_to}

-- ---- a struct's number is its place among keys

module _ (types : List Tau) (once : IsOnce types) (p : ℕ) (at_p : IsPlainAt types p) where
  -- places of types that stand for forms are equal just where the forms are
  test_is : (k : ℕ) → IsPlainAt types k → same_type (form (type_at types k)) (form (type_at types p)) ≡ nat_eq p k
  test_is k at_k = by_tests (same_type (form (type_at types k)) (form (type_at types p))) (nat_eq p k) refl refl
    where
      by_tests : (a b : Bool) → same_type (form (type_at types k)) (form (type_at types p)) ≡ a → nat_eq p k ≡ b → a ≡ b
      by_tests true true s n = refl
      by_tests false false s n = refl
      by_tests true false s n =
          let same = same_plain (type_at types k) (type_at types p) (same_is (form (type_at types k)) (form (type_at types p)) s) in
          let place : k ≡ p = once k p (plain (type_at types p)) (at_k ∙ ap Some same) at_p in
          sym (equal_to p k (sym place)) ∙ n
      by_tests false true s n =
          sym s ∙ ap (λ j. same_type (form (type_at types j)) (form (type_at types p))) (sym (equal_is p k n)) ∙ same_self (form (type_at types p))

  pub numbered_is : (rows : List (ℕ × Row)) → ((i : ℕ) (r : ℕ × Row) → slice_get rows i ≡ Some r → IsPlainAt types r.0)
      → numbered_in (table_of types rows) (form (type_at types p)) ≡ position_or_len (nat_eq p) (keys_of rows)
  unfolding numbered_in
  numbered_is [] each = refl
  numbered_is (r ∷ rows) each = by_test (nat_eq p r.0) refl (numbered_is rows (λ i q e. each (suc i) q e))
    where
      by_test : (b : Bool) → nat_eq p r.0 ≡ b → numbered_in (table_of types rows) (form (type_at types p)) ≡ position_or_len (nat_eq p) (keys_of rows)
          → numbered_in (table_of types (r ∷ rows)) (form (type_at types p)) ≡ position_or_len (nat_eq p) (keys_of (r ∷ rows))
      by_test true e rest =
          ap (λ b. cond b zero (suc (numbered_in (table_of types rows) (form (type_at types p))))) (test_is r.0 (each zero r refl) ∙ e)
          ∙ sym (ap (λ b. cond (not b) (1 + position_or_len (nat_eq p) (keys_of rows)) 0) e)
      by_test false e rest =
          let next : suc (numbered_in (table_of types rows) (form (type_at types p))) ≡ 1 + position_or_len (nat_eq p) (keys_of rows) = omega (arith, rest) in
          ap (λ b. cond b zero (suc (numbered_in (table_of types rows) (form (type_at types p))))) (test_is r.0 (each zero r refl) ∙ e)
          ∙ next ∙ sym (ap (λ b. cond (not b) (1 + position_or_len (nat_eq p) (keys_of rows)) 0) e)

-- what a search gives is the place
pub first_some : (n len i : ℕ) → cond (nat_lt n len) (Some n) None ≡ Some i → n ≡ i
first_some n len i = by_test (nat_lt n len)
  where
    by_test : (b : Bool) → cond b (Some n) None ≡ Some i → n ≡ i
    by_test true e = cc
    by_test false e = absurd (cc)

pub first_none : (n len : ℕ) → cond (nat_lt n len) (Some n) None ≡ None → len ≤ n
first_none n len = by_test (nat_lt n len) refl
  where
    by_test : (b : Bool) → nat_lt n len ≡ b → cond b (Some n) None ≡ None → len ≤ n
    by_test true e f = absurd (cc)
    by_test false e f = grind (tests, arith)

pub none_first : (n len : ℕ) → len ≤ n → cond (nat_lt n len) (Some n) None ≡ None
none_first n len h = by_test (nat_lt n len) refl
  where
    by_test : (b : Bool) → nat_lt n len ≡ b → cond b (Some n) None ≡ None
    by_test true e = absurd (let lt : n < len = grind (tests, arith) in omega (arith, lt, h))
    by_test false e = refl

-- ---- what is in a table

-- what has a number below the end is in the table
pub in_below : (us : List Tau) (f : Tau) → numbered_in us f < length us → is_in us f ≡ true
unfolding numbered_in
in_below [] f lt = absurd (omega (arith, lt))
in_below (u ∷ us) f lt = by_test (same_type (form u) f) lt (in_below us f)
  where
    by_test : (b : Bool) → cond b zero (suc (numbered_in us f)) < length (u ∷ us) → (numbered_in us f < length us → is_in us f ≡ true) → (b || is_in us f) ≡ true
    by_test true h rest = refl
    by_test false h rest = rest (omega (arith, h))

-- and what is in it has a number below the end
pub below_in : (us : List Tau) (f : Tau) → is_in us f ≡ true → numbered_in us f < length us
unfolding numbered_in
below_in [] f e = absurd (cc)
below_in (u ∷ us) f e = by_test (same_type (form u) f) e (below_in us f)
  where
    by_test : (b : Bool) → (b || is_in us f) ≡ true → (is_in us f ≡ true → numbered_in us f < length us) → cond b zero (suc (numbered_in us f)) < length (u ∷ us)
    by_test true h rest = omega arith
    by_test false h rest = let lt = rest h in omega (arith, lt)

-- the last one is in it
pub in_last : (us : List Tau) (u : Tau) → is_in (us ++ u ∷ []) (form u) ≡ true
in_last [] u = ap (λ b. b || false) (same_self (form u))
in_last (v ∷ us) u = by_test (same_type (form v) (form u)) (in_last us u)
  where
    by_test : (b : Bool) → is_in (us ++ u ∷ []) (form u) ≡ true → (b || is_in (us ++ u ∷ []) (form u)) ≡ true
    by_test true rest = refl
    by_test false rest = rest

-- a struct that is there isn't added
pub with_there : (table : List Tau) (t : Tau) → is_in table (form t) ≡ true → table ≡ with_struct table t
with_there table t e = sym (ap (λ b. cond b table (table ++ t ∷ [])) e)

-- and one that isn't is
pub with_more : (table : List Tau) (t : Tau) → length table ≤ numbered_in table (form t) → table ++ t ∷ [] ≡ with_struct table t
with_more table t past = by_test (is_in table (form t)) refl
  where
    by_test : (b : Bool) → is_in table (form t) ≡ b → table ++ t ∷ [] ≡ with_struct table t
    by_test true e = absurd (let lt = below_in table (form t) e in omega (arith, lt, past))
    by_test false e = sym (ap (λ b. cond b table (table ++ t ∷ [])) e)

pub keeps_self : {A : Type 0} (xs : List A) → Keeps xs xs
keeps_self xs = take_all (length xs) xs (omega arith)

pub keeps_more : (us : List Tau) (u : Tau) → Keeps us (us ++ u ∷ [])
keeps_more us u = take-append-le (length us) us (u ∷ []) (omega arith) ∙ take_all (length us) us (omega arith)

-- ---- a table that grows

pub in_stays : (old new : List Tau) → Keeps old new → (f : Tau) → is_in old f ≡ true → is_in new f ≡ true
in_stays [] new k f e = absurd (cc)
in_stays (y ∷ old) [] k f e = absurd (cc)
in_stays (y ∷ old) (z ∷ new) k f e =
    let q : z ≡ y = cc in subst (λ x. is_in (x ∷ new) f ≡ true) (sym q) (by_test (same_type (form y) f) e (in_stays old new (cc) f))
  where
    by_test : (b : Bool) → (b || is_in old f) ≡ true → (is_in old f ≡ true → is_in new f ≡ true) → (b || is_in new f) ≡ true
    by_test true h rest = refl
    by_test false h rest = rest h

pub number_stays : (old new : List Tau) → Keeps old new → (f : Tau) → numbered_in old f < length old → numbered_in new f ≡ numbered_in old f
unfolding numbered_in
number_stays [] new k f lt = absurd (omega (arith, lt))
number_stays (y ∷ old) [] k f lt = absurd (cc)
number_stays (y ∷ old) (z ∷ new) k f lt =
    let q : z ≡ y = cc in
    ap (λ x. cond (same_type (form x) f) zero (suc (numbered_in new f))) q ∙ by_test (same_type (form y) f) lt (number_stays old new (cc) f)
  where
    by_test : (b : Bool) → cond b zero (suc (numbered_in old f)) < length (y ∷ old) → (numbered_in old f < length old → numbered_in new f ≡ numbered_in old f)
        → cond b zero (suc (numbered_in new f)) ≡ cond b zero (suc (numbered_in old f))
    by_test true h rest = refl
    by_test false h rest = ap suc (rest (omega (arith, h)))

module _ (old new : List Tau) (kept : Keeps old new) where
  -- what stands below a place stays there
  lower : (i : ℕ) → i ≤ length old → (f : Tau) → numbered_in old f < i → numbered_in new f < i
  lower i few f lt = subst (λ n. n < i) (sym (number_stays old new kept f (omega (arith, few, lt)))) lt

  stand_still : (i : ℕ) → i ≤ length old → (ps : Parts) → StandBelow old i ps → StandBelow new i ps
  unfolding StandBelow
  stand_still i few end h = tt
  stand_still i few (part x (variant ps) taken qs) h = (lower i few (variant (form_parts ps)) h.0, stand_still i few qs h.1)
  stand_still i few (part x (fields ps U) taken qs) h = (lower i few (fields (form_parts ps) U) h.0, stand_still i few qs h.1)
  stand_still i few (part x t taken qs) h = stand_still i few qs h

  pub below_stays : (i : ℕ) → i ≤ length old → (t : Tau) → HasBelow old i t → HasBelow new i t
  below_stays i few (variant ps) h = stand_still i few ps h
  below_stays i few (fields ps sigil) h = stand_still i few ps h
  below_stays i few _ h = absurd h

  -- and what is covered stays so
  mutual
    unfolding IsCovered

    pub covered_stays : (t : Tau) → IsCovered old t → IsCovered new t
    covered_stays (variant ps) h = (in_stays old new kept (variant (form_parts ps)) h.0, h.1, all_covered_stay ps h.2)
    covered_stays (fields ps sigil) h = (in_stays old new kept (fields (form_parts ps) U) h.0, h.1, all_covered_stay ps h.2)
    covered_stays t h = tt

    pub all_covered_stay : (ps : Parts) → AreCovered old ps → AreCovered new ps
    all_covered_stay end h = tt
    all_covered_stay (part x t taken ps) h = (covered_stays t h.0, all_covered_stay ps h.1)
