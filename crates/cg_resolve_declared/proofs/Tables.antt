-- Tables and sets with one name more.
use Rattle.std.proofs.Common.{◌≡◌, ℕ, Bool, true, false, ◌||◌, List, [], ◌∷◌, sym, ap, ◌∙◌, refl, Bor, cond, Option, Some, None, is_some, if◌then◌else◌}
use Rattle.std.proofs.lemmas.Bool.{true≢false}
use Rattle.std.proofs.lemmas.Map.Text.{is_eq-slice_cmp}
use Rattle.std.specs.BTreeMap.{BTreeMap}
use Rattle.std.specs.BTreeMap as tree
use Rattle.std.specs.BTreeSet.{BTreeSet, IsEmpty, Updates}
use Rattle.std.specs.Cmp.Lexicographic.{bytes_decides, nat_list_eq_equiv, slice_cmp}
use Rattle.std.specs.Option.{option_map}
use Rattle.std.specs.Ordering.{nat_cmp}
use Rattle.std.specs.Str.{bytes_eq}
use Rattle.cg_resolve_def.specs.Declared.{is_among}
use Rattle.cg_resolve_declared.specs.Tables.{find, otherwise, IsSetOf, has}

-- nothing more changes nothing
pub otherwise_none : {V : Type 0} (first : Option V) → otherwise first None ≡ first
otherwise_none None = refl
otherwise_none (Some v) = refl

-- the set without names
pub set_none : (set : BTreeSet (Bor (List ℕ))) → IsEmpty set → IsSetOf [] set
unfolding has
set_none set empty = λ name. rw empty

either : (b c : Bool) → cond b true c ≡ (b || c)
either true c = refl
either false c = refl

-- what an insertion does to the names that a set has
pub has_more : (set new : BTreeSet (Bor (List ℕ))) (name : Bor (List ℕ)) → Updates (λ x y. slice_cmp nat_cmp x.now y.now) set new name true → (other : List ℕ)
    → has new other ≡ (bytes_eq name.now other || has set other)
unfolding has
has_more set new name updates other =
    updates.0 (record { ref_ptr = (0, 0); now = other })
    ∙ ap (λ b. cond b true (has set other)) (is_eq-slice_cmp name.now other)
    ∙ either (bytes_eq name.now other) (has set other)

-- the list and the set with one name more, in front
pub set_more : (names : List (List ℕ)) (name : List ℕ) (set new : BTreeSet (Bor (List ℕ))) → IsSetOf names set
    → ((other : List ℕ) → has new other ≡ (bytes_eq name other || has set other)) → IsSetOf (name ∷ names) new
set_more names name set new is added = λ other. added other ∙ ap (λ b. bytes_eq name other || b) (is other) ∙ ap (λ b. b || is_among names other) (nat_list_eq_equiv.symm name other)

module _ {V : Type 0} where
  -- a value is kept for a name that has none
  pub kept_new : (table new : BTreeMap (Bor (List ℕ)) V) (name : Bor (List ℕ)) (value : V) → find table name.now ≡ None
      → tree.Updates (λ x y. slice_cmp nat_cmp x.now y.now) table new name (Some value)
      → (other : List ℕ) → find new other ≡ otherwise (find table other) (if bytes_eq name.now other then Some value else None)
  kept_new table new name value absent updates other =
      updates.0 (record { ref_ptr = (0, 0); now = other })
      ∙ ap (λ b. cond b (Some value) (find table other)) (is_eq-slice_cmp name.now other)
      ∙ pick (bytes_eq name.now other) refl
    where
      pick : (b : Bool) → bytes_eq name.now other ≡ b → cond b (Some value) (find table other) ≡ otherwise (find table other) (cond b (Some value) None)
      pick true same = sym (ap (λ found. otherwise found (Some value)) (ap (find table) (sym ((bytes_decides name.now other).0 same)) ∙ absent))
      pick false differs = sym (otherwise_none (find table other))

  -- and none for one that has one
  pub kept_old : (table : BTreeMap (Bor (List ℕ)) V) (name : List ℕ) (value : V) → is_some (find table name) ≡ true
      → (other : List ℕ) → find table other ≡ otherwise (find table other) (if bytes_eq name other then Some value else None)
  kept_old table name value present other = pick (bytes_eq name other) refl
    where
      some : (found : Option V) → is_some found ≡ true → found ≡ otherwise found (Some value)
      some None h = absurd (true≢false (sym h))
      some (Some v) h = refl

      pick : (b : Bool) → bytes_eq name other ≡ b → find table other ≡ otherwise (find table other) (cond b (Some value) None)
      pick true same = some (find table other) (ap (λ n. is_some (find table n)) (sym ((bytes_decides name other).0 same)) ∙ present)
      pick false differs = sym (otherwise_none (find table other))

-- a look-up that finds nothing
pub absent_from : {V : Type 0} (found : Option V) (b : Bool) → b ≡ is_some found → b ≡ false → found ≡ None
absent_from None b is absent = refl
absent_from (Some v) b is absent = absurd (true≢false (sym is ∙ absent))

-- A table that has what a look-up in items finds, and one item more: where the look-up in the last item alone is `one`.
module _ {V A : Type 0} (view : V → A) where
  pub table_none : (table : BTreeMap (Bor (List ℕ)) V) → tree.IsEmpty table → (name : List ℕ) → option_map view (find table name) ≡ None
  table_none table empty = λ name. rw empty refl

  pub table_more : (before after : List ℕ → Option A) (value : V) (made : A) (at : List ℕ) (table new : BTreeMap (Bor (List ℕ)) V)
      → ((name : List ℕ) → after name ≡ otherwise (before name) (if bytes_eq name at then Some made else None))
      → view value ≡ made
      → ((name : List ℕ) → option_map view (find table name) ≡ before name)
      → ((other : List ℕ) → find new other ≡ otherwise (find table other) (if bytes_eq at other then Some value else None))
      → (name : List ℕ) → option_map view (find new name) ≡ after name
  table_more before after value made at table new more is are added = λ name.
      ap (option_map view) (added name)
      ∙ mapped (find table name) (bytes_eq at name)
      ∙ ap (λ found. otherwise found (cond (bytes_eq at name) (Some (view value)) None)) (are name)
      ∙ ap (λ b. otherwise (before name) (cond b (Some (view value)) None)) (nat_list_eq_equiv.symm at name)
      ∙ ap (λ d. otherwise (before name) (cond (bytes_eq name at) (Some d) None)) is
      ∙ sym (more name)
    where
      mapped : (found : Option V) (b : Bool) → option_map view (otherwise found (cond b (Some value) None)) ≡ otherwise (option_map view found) (cond b (Some (view value)) None)
      mapped None true = refl
      mapped None false = refl
      mapped (Some d) true = refl
      mapped (Some d) false = refl

  -- an item that declares nothing
  pub table_same : (before after : List ℕ → Option A) (table : BTreeMap (Bor (List ℕ)) V) → ((name : List ℕ) → after name ≡ before name)
      → ((name : List ℕ) → option_map view (find table name) ≡ before name) → (name : List ℕ) → option_map view (find table name) ≡ after name
  table_same before after table same are = λ name. are name ∙ sym (same name)
