-- Tables of names, and what they find.
use Rattle.std.proofs.Common.{◌≡◌, ℕ, ◌+◌, ◌<◌, Bool, true, false, cond, Some, None, Option, List, [], ◌∷◌, ◌++◌, length, get_or, map, take, refl, sym, ap, ◌∙◌, subst, arith, bytes_eq, Bor, is_some}
use Rattle.std.proofs.lemmas.Bool.{true≢false}
use Rattle.std.proofs.lemmas.List.{map-append, take_more, length-map, length-take-le}
use Rattle.std.proofs.lemmas.Map.Text.{is_eq-slice_cmp}
use Rattle.std.specs.BTreeMap as tree
use Rattle.std.specs.Cmp.Lexicographic.{bytes_decides, nat_list_eq_equiv, slice_cmp}
use Rattle.std.specs.List.{position_from}
use Rattle.std.specs.Option.{option_or}
use Rattle.std.specs.Ordering.{nat_cmp}
use Rattle.cg_cmachine_resolve.specs.Indexes.{HasJoined, Indexes, Table, place}
use Rattle.cg_cmachine_layout.proofs.Names.{position_push, alone}

-- a name that is in the table already
kept : (names : List (List ℕ)) (name : List ℕ) (table : Table) → Indexes names table → is_some (place table name) ≡ true → Indexes (names ++ name ∷ []) table
kept names name table is present = record { first = λ other. pick other (bytes_eq other name) refl }
  where
    same : (found : Option ℕ) (more : Option ℕ) → is_some found ≡ true → found ≡ option_or found more
    same None more h = absurd (true≢false (sym h))
    same (Some at) more h = refl

    pick : (other : List ℕ) (b : Bool) → bytes_eq other name ≡ b → place table other ≡ position_from (bytes_eq other) 0 (names ++ name ∷ [])
    pick other true e =
        is.first other
        ∙ same (position_from (bytes_eq other) 0 names) (cond (bytes_eq other name) (Some (0 + length names)) None)
        (ap is_some (sym (is.first other)) ∙ ap (λ n. is_some (place table n)) ((bytes_decides other name).0 e) ∙ present)
        ∙ sym (position_push (bytes_eq other) 0 names name)
    pick other false e = is.first other ∙ sym (position_push (bytes_eq other) 0 names name ∙ rw e (alone (position_from (bytes_eq other) 0 names)))

-- and one that is new
added : (names : List (List ℕ)) (name : Bor (List ℕ)) (table new : Table) → Indexes names table → place table name.now ≡ None
    → tree.Updates (λ x y. slice_cmp nat_cmp x.now y.now) table new name (Some (length names)) → Indexes (names ++ name.now ∷ []) new
added names name table new is absent updates = record { first = λ other. pick other (bytes_eq name.now other) refl }
  where
    at : (other : List ℕ) → place new other ≡ cond (bytes_eq name.now other) (Some (length names)) (place table other)
    at other = updates.0 (record { ref_ptr = (0, 0); now = other }) ∙ ap (λ b. cond b (Some (length names)) (place table other)) (is_eq-slice_cmp name.now other)

    pick : (other : List ℕ) (b : Bool) → bytes_eq name.now other ≡ b → place new other ≡ position_from (bytes_eq other) 0 (names ++ name.now ∷ [])
    pick other true e =
        let same : name.now ≡ other = (bytes_decides name.now other).0 e in
        let before : position_from (bytes_eq other) 0 names ≡ None = sym (is.first other) ∙ ap (place table) (sym same) ∙ absent in
        let flip : bytes_eq other name.now ≡ true = sym (nat_list_eq_equiv.symm name.now other) ∙ e in
        at other ∙ rw e (sym (position_push (bytes_eq other) 0 names name.now ∙ rw (before, flip) (ap Some (omega arith))))
    pick other false e =
        let flip : bytes_eq other name.now ≡ false = sym (nat_list_eq_equiv.symm name.now other) ∙ e in
        at other ∙ rw e (is.first other ∙ sym (position_push (bytes_eq other) 0 names name.now ∙ rw flip (alone (position_from (bytes_eq other) 0 names))))

-- a name that joins

pub joins_old : (name : List ℕ) (at : ℕ) (table : Table) (known : Bool) → known ≡ is_some (place table name) → known ≡ true → HasJoined name at table table
joins_old name at table known e h = record { joins = λ names long is. kept names name table is (sym e ∙ h) }

pub joins_new : (name : Bor (List ℕ)) (at : ℕ) (table new : Table) (known : Bool) → known ≡ is_some (place table name.now) → known ≡ false
    → tree.Updates (λ x y. slice_cmp nat_cmp x.now y.now) table new name (Some at) → HasJoined name.now at table new
joins_new name at table new known e h updates = record {
  joins = λ names long is.
      added names name table new is (absent (place table name.now) known e h) (subst (λ n. tree.Updates (λ x y. slice_cmp nat_cmp x.now y.now) table new name (Some n)) long updates);
}
  where
    absent : (found : Option ℕ) (b : Bool) → b ≡ is_some found → b ≡ false → found ≡ None
    absent None b is h = refl
    absent (Some at) b is h = absurd (true≢false (sym is ∙ h))

-- a turn of a loop over what has names
pub named_turn : {A : Type 0} (named : A → List ℕ) (xs : List A) (i : ℕ) (x : A) (name : List ℕ) (before after : Table) → i < length xs → x ≡ get_or xs i x → name ≡ named x
    → Indexes (map named (take i xs)) before → HasJoined name i before after → Indexes (map named (take (i + 1) xs)) after
named_turn named xs i x name before after within item same is joins =
    let long : i ≡ length (map named (take i xs)) = sym (length-map (take i xs) named ∙ length-take-le i xs (omega (arith, within))) in
    let names : map named (take (i + 1) xs) ≡ map named (take i xs) ++ name ∷ [] =
    ap (map named) (take_more xs i x within ∙ ap (λ y. take i xs ++ y ∷ []) (sym item)) ∙ map-append named (take i xs) (x ∷ []) ∙ ap (λ n. map named (take i xs) ++ n ∷ []) (sym same) in
    subst (λ l. Indexes l after) (sym names) (joins.joins (map named (take i xs)) long is)
