-- What a search of a list by a test finds, where the test is equality of what the list's items stand for.
use Rattle.std.proofs.Common.{◌≡◌, ℕ, ◌<◌, ◌≤◌, Bool, true, false, cond, nat_lt, List, [], ◌∷◌, ◌++◌, length, map, slice_get, position, Option, Some, None, refl, sym, ap, subst, ◌∙◌, true≢false, is_some, map-id, suc, ◌||◌, if◌then◌else◌, arith, tests}
use Rattle.std.proofs.lemmas.Option.{slice_get-get_or, slice_get-map, slice_get_within, get_or_from_slice_get}
use Rattle.std.proofs.lemmas.List.{map-append}
use Rattle.std.proofs.lemmas.List.Quantifiers.{position-Some}
use Rattle.std.proofs.lemmas.List.Sums.{fails_before_first}
use Rattle.std.specs.List.{list_any, position_or_len}
use Rattle.std.specs.Option.{option_map}
use Rattle.indexmap.specs.IndexMap.{insert_entry}
use Rattle.indexmap.specs.IndexSet.{insert_key}
use Rattle.indexmap.proofs.MapLemmas.{some_index, absent_from_lookup, insert_entry-absent}
use Rattle.std.specs.Map.{keys_of, lookup}
use Rattle.cg_inst_types.proofs.Growth.{none_is_some, some_same}
use Rattle.cg_inst_types.specs.Places.{IsIn, Locates}

-- where no item passes, there is none before the end
past_end : {K : Type 0} (test : K → Bool) (ks : List K) → position test ks ≡ None → length ks ≤ position_or_len test ks
past_end test ks e = by (nat_lt (position_or_len test ks) (length ks)) refl
  where
    by : (b : Bool) → nat_lt (position_or_len test ks) (length ks) ≡ b → length ks ≤ position_or_len test ks
    by true p = let no : Some (position_or_len test ks) ≡ None = sym (ap (λ c. cond c (Some (position_or_len test ks)) None) p) ∙ e in grind arith
    by false p = grind (tests, arith)

module _ {K V : Type 0} (value : K → V) (sought : V) (test : K → Bool) where
  position_found : ((k : K) → test k ≡ true → value k ≡ sought) → (ks : List K) (i : ℕ) → position test ks ≡ Some i → slice_get (map value ks) i ≡ Some sought
  position_found sound ks i e = slice_get-map value ks i ∙ by ks e
    where
      by : (ks : List K) → position test ks ≡ Some i → option_map value (slice_get ks i) ≡ Some sought
      by [] q = absurd (none_is_some q)
      by (k ∷ rest) q =
          let p = position-Some test (k ∷ rest) i k q in
          ap (option_map value) (slice_get-get_or (k ∷ rest) i k p.0) ∙ ap Some (sound _ p.1)

  position_absent : ((k : K) → value k ≡ sought → test k ≡ true) → (ks : List K) → position test ks ≡ None → IsIn (map value ks) sought → ⊥
  position_absent complete ks e (i, at) = by (slice_get ks i) refl
    where
      by : (o : Option K) → slice_get ks i ≡ o → ⊥
      by None p = none_is_some (sym (slice_get-map value ks i ∙ ap (option_map value) p) ∙ at)
      by (Some k) p =
          let same = some_same (sym (slice_get-map value ks i ∙ ap (option_map value) p) ∙ at) in
          let within : i < length ks = slice_get_within ks i k p in
          let bound = past_end test ks e in
          let fails = fails_before_first test ks i k (omega arith) in
          true≢false (sym (complete k same) ∙ sym (ap test (get_or_from_slice_get ks i k k p)) ∙ fails)

  -- a search answers the place, or that there is none
  pub position_locates : ((k : K) → test k ≡ true → value k ≡ sought) → ((k : K) → value k ≡ sought → test k ≡ true) →
      (ks : List K) (r : Option ℕ) → r ≡ position test ks → Locates (map value ks) sought r
  position_locates sound complete ks (Some i) e = position_found sound ks i (sym e)
  position_locates sound complete ks None e = position_absent complete ks (sym e)

-- what isn't there has no place
pub no_position : {K : Type 0} (test : K → Bool) (k : K) → ((x : K) → test x ≡ true → x ≡ k) → (ks : List K) → (IsIn ks k → ⊥) → position test ks ≡ None
no_position {K} test k sound ks absent = by (position test ks) refl
  where
    by : (r : Option ℕ) → position test ks ≡ r → r ≡ None
    by None p = refl
    by (Some i) p = absurd (absent (i, subst (λ xs. slice_get xs i ≡ Some k) (map-id ks) (position_found (λ x. x) k test sound ks i p)))

-- a key that isn't there goes last
pub none_left : {A : Type 0} (o : Option A) → is_some o ≡ false → o ≡ None
none_left None p = refl
none_left (Some x) p = absurd (true≢false p)

pub inserted_last : {K X : Type 0} (eq : K → K → Bool) (es : List (K × X)) (k : K) (v : X) → position (eq k) (keys_of es) ≡ None → insert_entry eq es k v ≡ es ++ (k, v) ∷ []
inserted_last eq es k v e = insert_entry-absent eq k v es (absent_from_lookup (eq k) es (none_left (lookup (eq k) es) (sym (some_index (eq k) es) ∙ ap is_some e)))

-- a search of keys by their own equality
pub node_located : {K : Type 0} (eq : K → K → Bool) → ((a b : K) → eq a b ≡ true → a ≡ b) → ((a b : K) → a ≡ b → eq a b ≡ true) →
    (k : K) (ks : List K) (r : Option ℕ) → r ≡ position (eq k) ks → Locates ks k r
node_located eq sound complete k ks r e =
    subst (λ xs. Locates xs k r) (map-id ks) (position_locates (λ x. x) k (eq k) (λ x p. sym (sound k x p)) (λ x p. complete k x (sym p)) ks r e)

-- where none is what is sought, none passes
pub not_any : {K V : Type 0} (value : K → V) (sought : V) (test : K → Bool) → ((k : K) → test k ≡ true → value k ≡ sought) →
    (ks : List K) → (IsIn (map value ks) sought → ⊥) → list_any test ks ≡ false
not_any value sought test sound [] absent = refl
not_any value sought test sound (k ∷ ks) absent = by (test k) refl (not_any value sought test sound ks (λ at. absent (suc at.0, at.1)))
  where
    by : (b : Bool) → test k ≡ b → list_any test ks ≡ false → list_any test (k ∷ ks) ≡ false
    by true p rest = absurd (absent (0, ap Some (sound k p)))
    by false p rest = ap (λ b. b || list_any test ks) p ∙ rest

-- a name that isn't there goes last
pub key_last : {K V : Type 0} (value : K → V) (eq : K → K → Bool) (k : K) → ((x : K) → eq k x ≡ true → value x ≡ value k) →
    (ks : List K) → (IsIn (map value ks) (value k) → ⊥) → insert_key eq ks k ≡ ks ++ k ∷ []
key_last value eq k sound ks absent = ap (λ b. if b then ks else ks ++ k ∷ []) (not_any value (value k) (eq k) sound ks absent)

pub entered : {K V : Type 0} (value : K → V) (eq : K → K → Bool) (k : K) (v : V) → value k ≡ v → ((x : K) → eq k x ≡ true → value x ≡ value k) →
    (ks all : List K) → all ≡ insert_key eq ks k → (IsIn (map value ks) v → ⊥) → map value all ≡ map value ks ++ v ∷ []
entered value eq k v same sound ks all e absent =
    ap (map value) (e ∙ key_last value eq k sound ks (subst (λ w. IsIn (map value ks) w → ⊥) (sym same) absent))
    ∙ map-append value ks (k ∷ [])
    ∙ ap (λ w. map value ks ++ w ∷ []) same
