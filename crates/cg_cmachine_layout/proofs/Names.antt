-- Tables of names, and what they find.
use Rattle.std.proofs.Common.{◌≡◌, ℕ, zero, suc, ◌+◌, ◌<◌, Bool, true, false, cond, Some, None, Option, List, [], ◌∷◌, ◌++◌, length, get_or, take, map, refl, sym, ap, ◌∙◌, subst, arith, bytes_eq, Bor, add-zero, is_some}
use Rattle.std.proofs.lemmas.Bool.{true≢false}
use Rattle.std.proofs.lemmas.List.{map-append, take_more, length-map, length-take-le}
use Rattle.std.proofs.lemmas.Map.Text.{is_eq-slice_cmp}
use Rattle.std.specs.BTreeMap as tree
use Rattle.std.specs.Cmp.Lexicographic.{bytes_decides, nat_list_eq_equiv, slice_cmp}
use Rattle.std.specs.List.{Contains, position_from}
use Rattle.std.specs.Option.{option_or}
use Rattle.std.specs.Ordering.{nat_cmp}
use Rattle.cg_ctree.specs.declared.tree.CStruct.{CStruct}
use Rattle.cg_cmachine_def.specs.Layouts.{declared}
use Rattle.cg_cmachine_layout.specs.Tables.{Table, place, Indexes, Within}

-- the first that passes, where one more stands behind
pub position_push : {A : Type 0} (p : A → Bool) (i : ℕ) (xs : List A) (x : A) → position_from p i (xs ++ x ∷ []) ≡ option_or (position_from p i xs) (cond (p x) (Some (i + length xs)) None)
position_push p i [] x = rw add-zero refl
position_push p i (y ∷ xs) x = pick (p y) (position_push p (i + 1) xs x)
  where
    pick : (b : Bool) → position_from p (i + 1) (xs ++ x ∷ []) ≡ option_or (position_from p (i + 1) xs) (cond (p x) (Some ((i + 1) + length xs)) None)
        → cond b (Some i) (position_from p (i + 1) (xs ++ x ∷ [])) ≡ option_or (cond b (Some i) (position_from p (i + 1) xs)) (cond (p x) (Some (i + suc (length xs))) None)
    pick true h = refl
    pick false h = h ∙ ap (λ n. option_or (position_from p (i + 1) xs) (cond (p x) (Some n) None)) (omega arith)

pub alone : (found : Option ℕ) → option_or found None ≡ found
alone None = refl
alone (Some at) = refl

-- a name that is in the table already
kept : (names : List (List ℕ)) (name : List ℕ) (table : Table) → Indexes names table → is_some (place table name) ≡ true → Indexes (names ++ name ∷ []) table
kept names name table is present = record { first = λ other. pick other (bytes_eq other name) refl }
  where
    same : (found : Option ℕ) (more : Option ℕ) → is_some found ≡ true → found ≡ option_or found more
    same None more h = absurd (true≢false (sym h))
    same (Some at) more h = refl

    pick : (other : List ℕ) (b : Bool) → bytes_eq other name ≡ b → place table other ≡ position_from (bytes_eq other) 0 (names ++ name ∷ [])
    pick other true e =
        is.first other
        ∙ same (position_from (bytes_eq other) 0 names) (cond (bytes_eq other name) (Some (0 + length names)) None)
        (ap is_some (sym (is.first other)) ∙ ap (λ n. is_some (place table n)) ((bytes_decides other name).0 e) ∙ present)
        ∙ sym (position_push (bytes_eq other) 0 names name)
    pick other false e = is.first other ∙ sym (position_push (bytes_eq other) 0 names name ∙ rw e (alone (position_from (bytes_eq other) 0 names)))

-- and one that is new
added : (names : List (List ℕ)) (name : Bor (List ℕ)) (table new : Table) → Indexes names table → place table name.now ≡ None
    → tree.Updates (λ x y. slice_cmp nat_cmp x.now y.now) table new name (Some (length names)) → Indexes (names ++ name.now ∷ []) new
added names name table new is absent updates = record { first = λ other. pick other (bytes_eq name.now other) refl }
  where
    at : (other : List ℕ) → place new other ≡ cond (bytes_eq name.now other) (Some (length names)) (place table other)
    at other = updates.0 (record { ref_ptr = (0, 0); now = other }) ∙ ap (λ b. cond b (Some (length names)) (place table other)) (is_eq-slice_cmp name.now other)

    pick : (other : List ℕ) (b : Bool) → bytes_eq name.now other ≡ b → place new other ≡ position_from (bytes_eq other) 0 (names ++ name.now ∷ [])
    pick other true e =
        let same : name.now ≡ other = (bytes_decides name.now other).0 e in
        let before : position_from (bytes_eq other) 0 names ≡ None = sym (is.first other) ∙ ap (place table) (sym same) ∙ absent in
        let flip : bytes_eq other name.now ≡ true = sym (nat_list_eq_equiv.symm name.now other) ∙ e in
        at other ∙ rw e (sym (position_push (bytes_eq other) 0 names name.now ∙ rw (before, flip) (ap Some (omega arith))))
    pick other false e =
        let flip : bytes_eq other name.now ≡ false = sym (nat_list_eq_equiv.symm name.now other) ∙ e in
        at other ∙ rw e (is.first other ∙ sym (position_push (bytes_eq other) 0 names name.now ∙ rw flip (alone (position_from (bytes_eq other) 0 names))))

-- what a name adds, in the two cases
pub add_old : (name : List ℕ) (table : Table) (at : ℕ) (known : Bool) → known ≡ is_some (place table name) → known ≡ true → (names : List (List ℕ)) → Indexes names table → at ≡ length names
    → Indexes (names ++ name ∷ []) table
add_old name table at known is e names indexed long = kept names name table indexed (sym is ∙ e)

pub add_new : (name : Bor (List ℕ)) (table new : Table) (at n : ℕ) (known : Bool) → known ≡ is_some (place table name.now) → known ≡ false → n ≡ at
    → tree.Updates (λ x y. slice_cmp nat_cmp x.now y.now) table new name (Some n) → (names : List (List ℕ)) → Indexes names table → at ≡ length names → Indexes (names ++ name.now ∷ []) new
add_new name table new at n known is e same updates names indexed long =
    added names name table new indexed (absent (place table name.now) known is e) (subst (λ n. tree.Updates (λ x y. slice_cmp nat_cmp x.now y.now) table new name (Some n)) (same ∙ long) updates)
  where
    absent : (found : Option ℕ) (b : Bool) → b ≡ is_some found → b ≡ false → found ≡ None
    absent None b is h = refl
    absent (Some at) b is h = absurd (true≢false (sym is ∙ h))

-- a turn of a loop over what has names
pub names_turn : {A : Type 0} (name_of : A → List ℕ) (xs : List A) (i : ℕ) (x : A) (name : List ℕ) (table new : Table) → i < length xs → x ≡ get_or xs i x → name ≡ name_of x
    → Indexes (map name_of (take i xs)) table → ((names : List (List ℕ)) → Indexes names table → i ≡ length names → Indexes (names ++ name ∷ []) new) → Indexes (map name_of (take (i + 1) xs)) new
names_turn name_of xs i x name table new within item is before more =
    subst (λ names. Indexes names new)
    (sym (ap (map name_of) (take_more xs i x within) ∙ map-append name_of (take i xs) (get_or xs i x ∷ []) ∙ ap (λ n. map name_of (take i xs) ++ n ∷ []) (ap name_of (sym item) ∙ sym is)))
    (more (map name_of (take i xs)) before (sym (length-map (take i xs) name_of ∙ length-take-le i xs (omega arith))))

-- ---- what is found

-- a place of a name among names
pub record IsAt (names : List (List ℕ)) (x : List ℕ) (at : ℕ) : Type 0 where
  pub within : at < length names
  pub named : (d : List ℕ) → get_or names at d ≡ x

position_at : (x : List ℕ) (names : List (List ℕ)) (i at : ℕ) → position_from (bytes_eq x) i names ≡ Some at → (k : ℕ) × (i + k ≡ at) × IsAt names x k
position_at x [] i at e = absurd (cc)
position_at x (y ∷ names) i at e = pick (bytes_eq x y) refl e (position_at x names (i + 1) at)
  where
    pick : (b : Bool) → bytes_eq x y ≡ b → cond b (Some i) (position_from (bytes_eq x) (i + 1) names) ≡ Some at
        → (position_from (bytes_eq x) (i + 1) names ≡ Some at → (k : ℕ) × ((i + 1) + k ≡ at) × IsAt names x k) → (k : ℕ) × (i + k ≡ at) × IsAt (y ∷ names) x k
    pick true here e h = (0, (let same : i ≡ at = cc in omega arith), record { within = omega arith; named = λ d. sym ((bytes_decides x y).0 here) })
    pick false apart e h = let later = h e in (suc later.0, omega (arith, later.1), record { within = omega (arith, later.2.within); named = later.2.named })

pub found_at : (names : List (List ℕ)) (table : Table) → Indexes names table → (x : List ℕ) (at : ℕ) → place table x ≡ Some at → IsAt names x at
found_at names table is x at e = let f = position_at x names 0 at (sym (is.first x) ∙ e) in subst (IsAt names x) (let k : f.0 ≡ at = omega (arith, f.1) in k) f.2

-- two names at one place are one
pub one_name : (names : List (List ℕ)) (table : Table) → Indexes names table → (x y : List ℕ) (at : ℕ) → place table x ≡ Some at → place table y ≡ Some at → x ≡ y
one_name names table is x y at e f = sym ((found_at names table is x at e).named []) ∙ (found_at names table is y at f).named []

-- the places of a table of structs
pub places_within : (ss : List CStruct) (table : Table) → Indexes (map (λ s. s.name) ss) table → Within table (length ss)
places_within ss table is x at e = let w = (found_at (map (λ s. s.name) ss) table is x at e).within in subst (λ n. at < n) (length-map ss (λ s. s.name)) w

-- the members of the struct that is found
position_members : (x : List ℕ) (ss : List CStruct) (i at : ℕ) → position_from (bytes_eq x) i (map (λ s. s.name) ss) ≡ Some at
    → (k : ℕ) × (i + k ≡ at) × (declared x ss ≡ get_or (map (λ s. s.members) ss) k [])
position_members x [] i at e = absurd (cc)
position_members x (s ∷ ss) i at e = pick (bytes_eq x s.name) refl e (position_members x ss (i + 1) at)
  where
    pick : (b : Bool) → bytes_eq x s.name ≡ b → cond b (Some i) (position_from (bytes_eq x) (i + 1) (map (λ s. s.name) ss)) ≡ Some at
        → (position_from (bytes_eq x) (i + 1) (map (λ s. s.name) ss) ≡ Some at → (k : ℕ) × ((i + 1) + k ≡ at) × (declared x ss ≡ get_or (map (λ s. s.members) ss) k []))
        → (k : ℕ) × (i + k ≡ at) × (declared x (s ∷ ss) ≡ get_or (map (λ s. s.members) (s ∷ ss)) k [])
    pick true here e h = (0, (let same : i ≡ at = cc in omega arith), rw here refl)
    pick false apart e h = let later = h e in (suc later.0, omega (arith, later.1), rw apart later.2)

pub found_members : (ss : List CStruct) (table : Table) → Indexes (map (λ s. s.name) ss) table → (x : List ℕ) (at : ℕ) → place table x ≡ Some at
    → declared x ss ≡ get_or (map (λ s. s.members) ss) at []
found_members ss table is x at e =
    let f = position_members x ss 0 at (sym (is.first x) ∙ e) in
    subst (λ k. declared x ss ≡ get_or (map (λ s. s.members) ss) k []) (let k : f.0 ≡ at = omega (arith, f.1) in k) f.2

-- a struct that isn't found has no members
position_none : (x : List ℕ) (ss : List CStruct) (i : ℕ) → position_from (bytes_eq x) i (map (λ s. s.name) ss) ≡ None → declared x ss ≡ []
position_none x [] i e = refl
position_none x (s ∷ ss) i e = pick (bytes_eq x s.name) e (position_none x ss (i + 1))
  where
    pick : (b : Bool) → cond b (Some i) (position_from (bytes_eq x) (i + 1) (map (λ s. s.name) ss)) ≡ None
        → (position_from (bytes_eq x) (i + 1) (map (λ s. s.name) ss) ≡ None → declared x ss ≡ []) → cond b s.members (declared x ss) ≡ []
    pick true e h = absurd (cc)
    pick false e h = h e

pub not_declared : (ss : List CStruct) (table : Table) → Indexes (map (λ s. s.name) ss) table → (x : List ℕ) → place table x ≡ None → declared x ss ≡ []
not_declared ss table is x e = position_none x ss 0 (sym (is.first x) ∙ e)

-- a name that stands among names is found
position_some : (x : List ℕ) (names : List (List ℕ)) (i k : ℕ) → k < length names → get_or names k x ≡ x → position_from (bytes_eq x) i names ≡ None → ⊥
position_some x [] i k lt e none = absurd (omega arith)
position_some x (y ∷ names) i zero lt e none = true≢false (sym ((bytes_decides x y).1 (sym e)) ∙ is_none (bytes_eq x y) none)
  where
    is_none : (b : Bool) → cond b (Some i) (position_from (bytes_eq x) (i + 1) names) ≡ None → b ≡ false
    is_none true e = absurd (cc)
    is_none false e = refl
position_some x (y ∷ names) i (suc k) lt e none = position_some x names (i + 1) k (omega arith) e (rest (bytes_eq x y) none)
  where
    rest : (b : Bool) → cond b (Some i) (position_from (bytes_eq x) (i + 1) names) ≡ None → position_from (bytes_eq x) (i + 1) names ≡ None
    rest true e = absurd (cc)
    rest false e = e

pub found_name : (names : List (List ℕ)) (table : Table) → Indexes names table → (x : List ℕ) → Contains names x → (at : ℕ) × (place table x ≡ Some at)
found_name names table is x c = pick (place table x) refl
  where
    pick : (found : Option ℕ) → place table x ≡ found → (at : ℕ) × (place table x ≡ Some at)
    pick None e = absurd (position_some x names 0 c.0 c.1 c.2 (sym (is.first x) ∙ e))
    pick (Some at) e = (at, e)
