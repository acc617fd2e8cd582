-- The members that count, and orders of structs.
use Rattle.std.proofs.Common.{Bor, Result, Ok, Err, IfOk, ◌≡◌, ℕ, zero, suc, ◌+◌, ◌-◌, ◌<◌, Bool, true, false, cond, eqb, ◌||◌, ◌⊎◌, inl, inr, Some, None, Option, List, [], ◌∷◌, length, get_or, take, map, refl, sym, ap, ◌∙◌, subst, arith, bytes_eq}
use Rattle.std.proofs.lemmas.Bool.{true≢false, eqb-true, eq-eqb}
use Rattle.std.proofs.lemmas.List.{length-map, get_or-map, get_or-replicate}
use Rattle.std.proofs.lemmas.List.Elements.{All-map}
use Rattle.std.specs.Cmp.Lexicographic.{bytes_decides}
use Rattle.std.specs.Global.{Vec}
use Rattle.std.specs.List.{All, Contains, list_any, slice_get}
use Rattle.cg_graphs.specs.Circles.{Closed, IsOrder}
use Rattle.cg_graphs.proofs.Places.{mention_of}
use Rattle.cg_base.specs.declared.memory.Memory.{Memory}
use Rattle.cg_ctree.specs.declared.tree.CDecl.{CDecl}
use Rattle.cg_ctree.specs.declared.tree.CStruct.{CStruct}
use Rattle.cg_ctree.specs.declared.tree.CTy.{CTy}
use Rattle.cg_ctree.specs.declared.tree.CTy.TheVariants as ty
use Rattle.cg_cmachine_def.specs.Layouts.{declared, holds_itself, is_reached, structs_among}
use Rattle.cg_cmachine_layout.specs.declared.circles.Settled.{Settled}
use Rattle.cg_cmachine_layout.specs.Tables.{Indexes, IsSettled, Table, Within, any_reaches, counted, holds, later, listed, place, rounds, slices, struct_at, targets}
use Rattle.cg_cmachine_laws.proofs.LayoutLaws.{no_circle}
use Rattle.cg_cmachine_layout.proofs.Names.{found_members, found_name, not_declared, one_name, places_within}
use Rattle.cg_base.proofs.Truths.{same_test as both_true}

-- ---- the graph of structs

module _ (names : Table) (n : ℕ) (within : Within names n) where
  struct_within : (t : CTy) (at : ℕ) → struct_at names t ≡ Some at → at < n
  struct_within (ty.Word w) at e = absurd (cc)
  struct_within (ty.Struct x) at e = within x at e
  struct_within (ty.Pointer x) at e = absurd (cc)

  listed_within : (t : CTy) (found : Option ℕ) (rest : List ℕ) → struct_at names t ≡ found → All (λ j. j < n) rest → All (λ j. j < n) (listed found rest)
  listed_within t None rest e h = h
  listed_within t (Some at) rest e h = λ k d lt. pick k d lt
    where
      pick : (k d : ℕ) → k < length (at ∷ rest) → get_or (at ∷ rest) k d < n
      pick zero d lt = struct_within t at e
      pick (suc k) d lt = h k d (omega arith)

  targets_within : (ds : List CDecl) → All (λ j. j < n) (targets names ds)
  targets_within [] = λ k d lt. absurd (omega arith)
  targets_within (d ∷ ds) = listed_within d.ty (struct_at names d.ty) (targets names ds) refl (targets_within ds)

-- every struct that is mentioned is one
pub closed : (names : Table) (structs : List (List CDecl)) → Within names (length structs) → Closed (map (targets names) structs)
closed names structs within =
    All-map (All (λ j. j < length (map (targets names) structs))) (targets names) structs
    (λ k d lt. subst (λ n. All (λ j. j < n) (targets names (get_or structs k d))) (sym (length-map structs (targets names))) (targets_within names (length structs) within (get_or structs k d)))

pub closed_edges : (names : Table) (members : List (Bor (List CDecl))) (edges : List (List ℕ)) → edges ≡ map (targets names) (slices members) → Within names (length members) → Closed edges
closed_edges names members edges e within =
    subst Closed (sym e) (closed names (slices members) (subst (Within names) (sym (length-map members (λ m. m.now))) within))

-- a declared struct among members is one of the targets
cons_cases : {X : Type 0} (x y : X) (xs : List X) → Contains (x ∷ xs) y → (x ≡ y) ⊎ Contains xs y
cons_cases x y xs c = pick c.0 c.1 c.2
  where
    pick : (k : ℕ) → k < length (x ∷ xs) → get_or (x ∷ xs) k y ≡ y → (x ≡ y) ⊎ Contains xs y
    pick zero lt e = inl e
    pick (suc k) lt e = inr (k, omega arith, e)

pub listed_contains : (found : Option ℕ) (j : ℕ) (rest : List ℕ) → Contains rest j → Contains (listed found rest) j
listed_contains None j rest c = c
listed_contains (Some at) j rest c = (suc c.0, (let lt = c.1 in omega arith), c.2)

pub among_targets : (names : Table) (ds : List CDecl) (y : List ℕ) (j : ℕ) → Contains (structs_among ds) y → place names y ≡ Some j → Contains (targets names ds) j
among_targets names [] y j c e = let lt = c.1 in absurd (omega arith)
among_targets names (d ∷ ds) y j c e = pick d.ty d.name c (λ c. among_targets names ds y j c e)
  where
    here : (x : List ℕ) → (x ≡ y) ⊎ Contains (structs_among ds) y → (Contains (structs_among ds) y → Contains (targets names ds) j) → Contains (listed (place names x) (targets names ds)) j
    here x (inl same) h = rw (same, e) (0, omega arith, refl)
    here x (inr c) h = listed_contains (place names x) j (targets names ds) (h c)

    pick : (t : CTy) (x : List ℕ) → Contains (structs_among (record { ty = t; name = x } ∷ ds)) y → (Contains (structs_among ds) y → Contains (targets names ds) j)
        → Contains (targets names (record { ty = t; name = x } ∷ ds)) j
    pick (ty.Word w) x c h = h c
    pick (ty.Struct z) x c h = here z (cons_cases z y (structs_among ds) c) h
    pick (ty.Pointer z) x c h = h c

-- ---- which structs hold themselves

unreached : (k : ℕ) (ss : List CStruct) (x : List ℕ) → is_reached k ss x [] ≡ false
unreached zero ss x = refl
unreached (suc k) ss x = refl

graph : Table → List CStruct → List (List ℕ)
graph names ss = map (targets names) (map (λ s. s.members) ss)

pub length_graph : (names : Table) (ss : List CStruct) → length (map (targets names) (map (λ s. s.members) ss)) ≡ length ss
length_graph names ss = length-map (map (λ s. s.members) ss) (targets names) ∙ length-map ss (λ s. s.members)

module _ (ss : List CStruct) (names : Table) (is : Indexes (map (λ s. s.name) ss) names) where
  -- the targets of a declared struct
  row : (y : List ℕ) (j : ℕ) → place names y ≡ Some j → get_or (map (targets names) (map (λ s. s.members) ss)) j [] ≡ targets names (declared y ss)
  row y j e =
      get_or-map (targets names) (map (λ s. s.members) ss) j [] [] (subst (λ n. j < n) (sym (length-map ss (λ s. s.members))) (places_within ss names is y j e))
      ∙ ap (targets names) (sym (found_members ss names is y j e))

  row_within : (y : List ℕ) (j : ℕ) → place names y ≡ Some j → j < length (map (targets names) (map (λ s. s.members) ss))
  row_within y j e = subst (λ n. j < n) (sym (length_graph names ss)) (places_within ss names is y j e)

  module _ (x : List ℕ) (goal : ℕ) (at : place names x ≡ Some goal) where
    same_goal : (y : List ℕ) (j : ℕ) → place names y ≡ Some j → eqb j goal ≡ bytes_eq y x
    same_goal y j e =
        both_true (eqb j goal) (bytes_eq y x)
        (λ t. (bytes_decides y x).1 (one_name (map (λ s. s.name) ss) names is y x j e (at ∙ ap Some (sym (eqb-true j goal t)))))
        (λ t. eq-eqb j goal (let p : place names y ≡ place names x = ap (place names) ((bytes_decides y x).0 t) in let q : Some j ≡ Some goal = sym e ∙ p ∙ at in cc))

    other : (y : List ℕ) → place names y ≡ None → bytes_eq y x ≡ false
    other y e = pick (bytes_eq y x) refl
      where
        pick : (b : Bool) → bytes_eq y x ≡ b → bytes_eq y x ≡ false
        pick false h = h
        pick true h = let p : place names y ≡ place names x = ap (place names) ((bytes_decides y x).0 h) in let q : None ≡ Some goal = sym e ∙ p ∙ at in absurd (cc)

    -- a round beside a step of the definition
    any_same : (k : ℕ) (marks : List Bool) → ((y : List ℕ) (j : ℕ) → place names y ≡ Some j → get_or marks j false ≡ is_reached k ss x (declared y ss)) → (ds : List CDecl)
        → any_reaches goal marks (targets names ds) ≡ list_any (λ y. bytes_eq y x || is_reached k ss x (declared y ss)) (structs_among ds)
    any_same k marks h [] = refl
    any_same k marks h (d ∷ ds) = pick d.ty d.name (any_same k marks h ds)
      where
        found : (y : List ℕ) (o : Option ℕ) → place names y ≡ o → any_reaches goal marks (targets names ds) ≡ list_any (λ y. bytes_eq y x || is_reached k ss x (declared y ss)) (structs_among ds)
            → any_reaches goal marks (listed o (targets names ds)) ≡ list_any (λ y. bytes_eq y x || is_reached k ss x (declared y ss)) (y ∷ structs_among ds)
        found y None e ih = rw (other y e, not_declared ss names is y e, unreached k ss x) ih
        found y (Some j) e ih = rw (same_goal y j e, h y j e, ih) refl

        pick : (t : CTy) (z : List ℕ) → any_reaches goal marks (targets names ds) ≡ list_any (λ y. bytes_eq y x || is_reached k ss x (declared y ss)) (structs_among ds)
            → any_reaches goal marks (targets names (record { ty = t; name = z } ∷ ds)) ≡ list_any (λ y. bytes_eq y x || is_reached k ss x (declared y ss)) (structs_among (record { ty = t; name = z } ∷ ds))
        pick (ty.Word w) z ih = ih
        pick (ty.Struct y) z ih = found y (place names y) refl ih
        pick (ty.Pointer y) z ih = ih

    rounds_reach : (k : ℕ) (y : List ℕ) (j : ℕ) → place names y ≡ Some j
        → get_or (rounds k (map (targets names) (map (λ s. s.members) ss)) goal) j false ≡ is_reached k ss x (declared y ss)
    rounds_reach zero y j e = get_or-replicate (length (map (targets names) (map (λ s. s.members) ss))) j false false (row_within y j e)
    rounds_reach (suc k) y j e =
        get_or-map (any_reaches goal (rounds k (map (targets names) (map (λ s. s.members) ss)) goal)) (map (targets names) (map (λ s. s.members) ss)) j [] false (row_within y j e)
        ∙ ap (any_reaches goal (rounds k (map (targets names) (map (λ s. s.members) ss)) goal)) (row y j e)
        ∙ any_same k (rounds k (map (targets names) (map (λ s. s.members) ss)) goal) (λ z i f. rounds_reach k z i f) (declared y ss)

    pub holds_same : holds (map (targets names) (map (λ s. s.members) ss)) goal ≡ holds_itself ss x
    holds_same =
        rounds_reach (length (map (targets names) (map (λ s. s.members) ss))) x goal at ∙ ap (λ n. is_reached n ss x (declared x ss)) (length_graph names ss)

-- rounds that change nothing
pub rounds_stay : (edges : List (List ℕ)) (goal k : ℕ) → later edges goal (rounds k edges goal) ≡ rounds k edges goal → (m : ℕ) → rounds (m + k) edges goal ≡ rounds k edges goal
rounds_stay edges goal k e zero = ap (λ n. rounds n edges goal) (omega arith)
rounds_stay edges goal k e (suc m) = ap (λ n. rounds n edges goal) (let s : suc m + k ≡ suc (m + k) = omega arith in s) ∙ ap (later edges goal) (rounds_stay edges goal k e m) ∙ e

pub stays : (edges : List (List ℕ)) (goal k : ℕ) (marks more : List Bool) → k < length edges → marks ≡ rounds k edges goal → more ≡ later edges goal marks → more ≡ marks → get_or marks goal false ≡ holds edges goal
stays edges goal k marks more lt e f same =
    let still : later edges goal (rounds k edges goal) ≡ rounds k edges goal = sym (f ∙ ap (later edges goal) e) ∙ same ∙ e in
    let whole : (length edges - k) + k ≡ length edges = omega arith in
    ap (λ l. get_or l goal false) (e ∙ sym (rounds_stay edges goal k still (length edges - k)) ∙ ap (λ n. rounds n edges goal) whole)

-- the members that count, at a place
pub length_counted : (edges : List (List ℕ)) (i : ℕ) (structs : List (List CDecl)) → length (counted edges i structs) ≡ length structs
length_counted edges i [] = refl
length_counted edges i (ds ∷ structs) = ap suc (length_counted edges (i + 1) structs)

counted_at : (edges : List (List ℕ)) (i : ℕ) (structs : List (List CDecl)) (k : ℕ) → k < length structs
    → get_or (counted edges i structs) k [] ≡ cond (holds edges (i + k)) [] (get_or structs k [])
counted_at edges i [] k lt = absurd (omega arith)
counted_at edges i (ds ∷ structs) zero lt = ap (λ n. cond (holds edges n) [] ds) (omega arith)
counted_at edges i (ds ∷ structs) (suc k) lt = counted_at edges (i + 1) structs k (omega arith) ∙ ap (λ n. cond (holds edges n) [] (get_or structs k [])) (omega arith)

pub settled_without : (ss : List CStruct) (names : Table) (structs : List (List CDecl)) (order : List ℕ) → Indexes (map (λ s. s.name) ss) names
    → structs ≡ counted (map (targets names) (map (λ s. s.members) ss)) 0 (map (λ s. s.members) ss) → IsOrder (map (targets names) structs) order → IsSettled ss names structs order
settled_without ss names structs order is e ordered = record {
  long = ap length e ∙ length_counted (map (targets names) (map (λ s. s.members) ss)) 0 (map (λ s. s.members) ss) ∙ length-map ss (λ s. s.members);
  counts = λ x at f.
      ap (λ l. get_or l at []) e
      ∙ counted_at (map (targets names) (map (λ s. s.members) ss)) 0 (map (λ s. s.members) ss) at (subst (λ n. at < n) (sym (length-map ss (λ s. s.members))) (places_within ss names is x at f))
      ∙ ap (λ n. cond (holds (map (targets names) (map (λ s. s.members) ss)) n) [] (get_or (map (λ s. s.members) ss) at [])) (let z : 0 + at ≡ at = omega arith in z)
      ∙ ap (λ b. cond b [] (get_or (map (λ s. s.members) ss) at [])) (holds_same ss names is x at f) ∙ ap (cond (holds_itself ss x) []) (sym (found_members ss names is x at f));
  ordered = ordered;
}

-- ---- where there is an order, no struct holds itself

first : List ℕ → ℕ → ℕ
first [] i = 0
first (o ∷ order) i = cond (eqb o i) 0 (suc (first order i))

first_found : (order : List ℕ) (i k : ℕ) → k < length order → get_or order k i ≡ i → slice_get order (first order i) ≡ Some i
unfolding first
first_found [] i k lt e = absurd (omega arith)
first_found (o ∷ order) i k lt e = pick (eqb o i) refl k lt e (λ k lt e. first_found order i k lt e)
  where
    pick : (b : Bool) → eqb o i ≡ b → (k : ℕ) → k < length (o ∷ order) → get_or (o ∷ order) k i ≡ i
        → ((k : ℕ) → k < length order → get_or order k i ≡ i → slice_get order (first order i) ≡ Some i) → slice_get (o ∷ order) (cond b 0 (suc (first order i))) ≡ Some i
    pick true same k lt e h = ap Some (eqb-true o i same)
    pick false apart zero lt e h = absurd (true≢false (sym (eq-eqb o i e) ∙ apart))
    pick false apart (suc k) lt e h = h k (omega arith) e

first_before : (order : List ℕ) (i n k : ℕ) → k < length (take n order) → get_or (take n order) k i ≡ i → first order i < n
unfolding first
first_before order i zero k lt e = absurd (omega arith)
first_before [] i (suc n) k lt e = absurd (omega arith)
first_before (o ∷ order) i (suc n) k lt e = pick (eqb o i) refl k lt e (λ k lt e. first_before order i n k lt e)
  where
    pick : (b : Bool) → eqb o i ≡ b → (k : ℕ) → k < length (o ∷ take n order) → get_or (o ∷ take n order) k i ≡ i
        → ((k : ℕ) → k < length (take n order) → get_or (take n order) k i ≡ i → first order i < n) → cond b 0 (suc (first order i)) < suc n
    pick true same k lt e h = omega arith
    pick false apart zero lt e h = absurd (true≢false (sym (eq-eqb o i e) ∙ apart))
    pick false apart (suc k) lt e h = let l : first order i < n = h k (omega arith) e in omega arith

rank_of : List ℕ → Option ℕ → ℕ
rank_of order None = 0
rank_of order (Some at) = first order at

module _ (ss : List CStruct) (names : Table) (is : Indexes (map (λ s. s.name) ss) names) (order : List ℕ) (ordered : IsOrder (map (targets names) (map (λ s. s.members) ss)) order) where
  falls : (x y : List ℕ) → Contains (structs_among (declared x ss)) y → Contains (map (λ s. s.name) ss) y → rank_of order (place names y) < rank_of order (place names x)
  unfolding rank_of
  falls x y c named = pick (place names x) refl
    where
      f : (at : ℕ) × (place names y ≡ Some at)
      f = found_name (map (λ s. s.name) ss) names is y named

      pick : (o : Option ℕ) → place names x ≡ o → rank_of order (place names y) < rank_of order o
      pick None e = let empty = subst (λ ds. Contains (structs_among ds) y) (not_declared ss names is x e) c in let lt = empty.1 in absurd (omega arith)
      pick (Some i) e =
          let among : Contains (targets names (declared x ss)) f.0 = among_targets names (declared x ss) y f.0 c f.1 in
          let m = mention_of (map (targets names) (map (λ s. s.members) ss)) i f.0 (subst (λ l. Contains l f.0) (sym (row ss names is x i e)) among) in
          let w = ordered.whole i (row_within ss names is x i e) in
          let b = ordered.behind (first order i) i f.0 (first_found order i w.0 w.1 w.2) m in
          rw f.1 (first_before order f.0 (first order i) b.0 b.1 b.2)

  none_holds : (x : List ℕ) → holds_itself ss x ≡ false
  none_holds x = no_circle ss (λ x. rank_of order (place names x)) falls x

  pub settled_all : (structs : List (List CDecl)) → structs ≡ map (λ s. s.members) ss → IsSettled ss names structs order
  settled_all structs e = record {
    long = ap length e ∙ length-map ss (λ s. s.members);
    counts = λ x at f. ap (λ l. get_or l at []) e ∙ sym (found_members ss names is x at f) ∙ ap (λ b. cond b [] (declared x ss)) (sym (none_holds x));
    ordered = subst (λ l. IsOrder (map (targets names) l) order) (sym e) ordered;
  }

-- ---- the members and the order that code has

pub members_within : (ss : List CStruct) (names : Table) → Indexes (map (λ s. s.name) ss) names → (members : List (Bor (List CDecl))) → slices members ≡ map (λ s. s.members) ss → Within names (length members)
members_within ss names is members e =
    subst (Within names) (sym (length-map ss (λ s. s.members)) ∙ ap length (sym e) ∙ length-map members (λ m. m.now)) (places_within ss names is)

pub counted_within : (ss : List CStruct) (names : Table) → Indexes (map (λ s. s.name) ss) names → (edges : List (List ℕ)) (members kept : List (Bor (List CDecl))) → slices members ≡ map (λ s. s.members) ss
    → slices kept ≡ counted edges 0 (slices members) → Within names (length kept)
counted_within ss names is edges members kept e f =
    subst (Within names)
    (sym (length-map ss (λ s. s.members)) ∙ ap length (sym e) ∙ sym (length_counted edges 0 (slices members)) ∙ ap length (sym f) ∙ length-map kept (λ m. m.now))
    (places_within ss names is)

pub settled_first : (ss : List CStruct) (names : Table) → Indexes (map (λ s. s.name) ss) names → (members : List (Bor (List CDecl))) (edges : List (List ℕ)) (order : List ℕ) → slices members ≡ map (λ s. s.members) ss
    → edges ≡ map (targets names) (slices members) → IsOrder edges order → IsSettled ss names (slices members) order
settled_first ss names is members edges order e f ordered =
    settled_all ss names is order (subst (λ l. IsOrder l order) (f ∙ ap (map (targets names)) e) ordered) (slices members) e

pub settled_second : (ss : List CStruct) (names : Table) → Indexes (map (λ s. s.name) ss) names → (members : List (Bor (List CDecl))) (kept : Vec (Bor (List CDecl))) (edges : List (List ℕ))
    → slices members ≡ map (λ s. s.members) ss → edges ≡ map (targets names) (slices members) → slices kept.items ≡ counted edges 0 (slices members) → (result : Result Settled Memory)
    → IfOk result (λ s. s.members ≡ kept) → IfOk result (λ s. IsOrder (map (targets names) (slices kept.items)) s.order.items)
    → IfOk result (λ s. IsSettled ss names (slices s.members.items) s.order.items)
settled_second ss names is members kept edges e f g (Ok s) same ordered =
    settled_without ss names (slices s.members.items) s.order.items is
    (ap (λ v. slices v.items) same ∙ g ∙ ap (counted edges 0) e ∙ ap (λ l. counted l 0 (map (λ s. s.members) ss)) (f ∙ ap (map (targets names)) e))
    (subst (λ v. IsOrder (map (targets names) (slices v.items)) s.order.items) (sym same) ordered)
settled_second ss names is members kept edges e f g (Err x) same ordered = tt
