-- Laws of layouts: a struct's layout is that of its members, a walk along a layout goes by types, parts stand within their values, and
-- where structs have ranks none holds itself.
use Rattle.std.proofs.Common.{◌≡◌, ℕ, zero, suc, ◌+◌, ◌<◌, ◌≤◌, Bool, true, false, ◌||◌, cond, Option, Some, None, List, [], ◌∷◌, length, map, refl, sym, ap, ◌∙◌, subst, arith, bytes_eq, option_map, ◌⊎◌, inl, inr}
use Rattle.std.proofs.lemmas.Bool.{cases_Bool}
use Rattle.std.proofs.lemmas.List.{length-map}
use Rattle.std.proofs.lemmas.List.Folds.{Any-from_list_any, list_any-from_Any}
use Rattle.std.proofs.lemmas.Map.Keys.{IsDistinct-cons}
use Rattle.std.proofs.lemmas.Map.Made.{length-le_from_is_member}
use Rattle.std.proofs.lemmas.Map.Views.{Contains-from_any}
use Rattle.std.specs.Cmp.Lexicographic.{bytes_decides, nat_list_eq_equiv}
use Rattle.std.specs.List.{AllByRecursion, Contains, IsDistinct, list_any}
use Rattle.cg_ctree.specs.declared.tree.CDecl.{CDecl}
use Rattle.cg_ctree.specs.declared.tree.CStruct.{CStruct}
use Rattle.cg_ctree.specs.declared.tree.CTy.{CTy}
use Rattle.cg_ctree.specs.declared.tree.CTy.TheVariants as ty
use Rattle.cg_cmachine_def.specs.Layouts.{Spot, behind, cell, declared, find_member, further, group, holds_itself, is_reached, laid, layout, layout_within, member, members_in, pointer, size, spot, structs_among, walk}
use Rattle.cg_cmachine_def.specs.Parts.{Part, member_part, part, part_at, part_behind, part_within, sizes_of}
use Rattle.cg_base.proofs.Truths.{or_true as or_second, or_left as or_first, or_cases as either_true}

-- ---- structs that are reached

abbrev names : List CStruct → List (List ℕ)
names ss = map (λ s. s.name) ss

-- only a declared struct has members
declared_or_none : (x : List ℕ) (ss : List CStruct) → (declared x ss ≡ []) ⊎ (list_any (bytes_eq x) (names ss) ≡ true)
declared_or_none x [] = inl refl
declared_or_none x (s ∷ ss) = pick (bytes_eq x s.name) (declared_or_none x ss)
  where
    pick : (b : Bool) → (declared x ss ≡ []) ⊎ (list_any (bytes_eq x) (names ss) ≡ true) → (cond b s.members (declared x ss) ≡ []) ⊎ ((b || list_any (bytes_eq x) (names ss)) ≡ true)
    pick true h = inr refl
    pick false h = h

module _ (ss : List CStruct) where
  -- whether a struct leads to another through at most so many structs
  abbrev reaches : ℕ → List ℕ → List ℕ → Bool
  reaches n x y = is_reached n ss y (declared x ss)

  -- the first struct on the way is the one that is reached, or leads to it
  first_step : (n : ℕ) (x : List ℕ) (ds : List CDecl) → is_reached (suc n) ss x ds ≡ true
      → (y : List ℕ) × Contains (structs_among ds) y × ((y ≡ x) ⊎ (reaches n y x ≡ true))
  first_step n x ds e =
      let a = Any-from_list_any (λ y. bytes_eq y x || reaches n y x) (structs_among ds) e in (
        a.1,
        (a.0, a.2, a.3),
        elim (either_true (bytes_eq a.1 x) (reaches n a.1 x) a.4) [ inl h ↦ inl ((bytes_decides a.1 x).0 h) | inr h ↦ inr h ],
      )

  -- and the other way round
  step_to : (n : ℕ) (x y : List ℕ) (ds : List CDecl) → Contains (structs_among ds) y → (y ≡ x) ⊎ (reaches n y x ≡ true) → is_reached (suc n) ss x ds ≡ true
  step_to n x y ds c h =
      list_any-from_Any (λ y. bytes_eq y x || reaches n y x) (structs_among ds) (
        c.0,
        y,
        c.1,
        c.2,
        elim h [
          | inl e ↦ or_first (bytes_eq y x) (reaches n y x) ((bytes_decides y x).1 e)
          | inr r ↦ or_second (bytes_eq y x) (reaches n y x) r
        ],
      )

  -- what is reached is reached through more structs
  one_more : (n : ℕ) (x : List ℕ) (ds : List CDecl) → is_reached n ss x ds ≡ true → is_reached (suc n) ss x ds ≡ true
  one_more zero x ds e = absurd (cc)
  one_more (suc n) x ds e =
      let f = first_step n x ds e in
      step_to (suc n) x f.0 ds f.1 (elim f.2 [ inl h ↦ inl h | inr h ↦ inr (one_more n x (declared f.0 ss) h) ])

  -- and so through as many more as one likes
  many_more : (k n m : ℕ) (x : List ℕ) (ds : List CDecl) → n + k ≡ m → is_reached n ss x ds ≡ true → is_reached m ss x ds ≡ true
  many_more zero n m x ds e r = subst (λ i. is_reached i ss x ds ≡ true) (omega arith) r
  many_more (suc k) n m x ds e r = many_more k (suc n) m x ds (omega arith) (one_more n x ds r)

  -- one step more at the end
  last_step : (n : ℕ) (x y : List ℕ) (ds : List CDecl) → is_reached n ss x ds ≡ true → Contains (structs_among (declared x ss)) y → is_reached (suc n) ss y ds ≡ true
  last_step zero x y ds e c = absurd (cc)
  last_step (suc n) x y ds e c =
      let f = first_step n x ds e in
      step_to (suc n) y f.0 ds f.1 (inr (elim f.2 [
        | inl h ↦ step_to n y y (declared f.0 ss) (subst (λ z. Contains (structs_among (declared z ss)) y) (sym h) c) (inl refl)
        | inr h ↦ last_step n x y (declared f.0 ss) h c
      ]))

  -- what leads to a struct is declared
  reaching_declared : (n : ℕ) (x y : List ℕ) → reaches n x y ≡ true → list_any (bytes_eq x) (names ss) ≡ true
  reaching_declared zero x y e = absurd (cc)
  reaching_declared (suc n) x y e = elim (declared_or_none x ss) [ inl none ↦ absurd (empty_reaches (subst (λ ds. is_reached (suc n) ss y ds ≡ true) none e)) | inr h ↦ h ]
    where
      empty_reaches : false ≡ true → ⊥
      empty_reaches h = absurd (cc)

-- ---- no circle where structs have ranks

module _ (ss : List CStruct) (rank : List ℕ → ℕ)
    (falls : (x y : List ℕ) → Contains (structs_among (declared x ss)) y → Contains (names ss) y → rank y < rank x) where
  -- a name by its test
  is_name : (x : List ℕ) → list_any (bytes_eq x) (names ss) ≡ true → Contains (names ss) x
  is_name x e = Contains-from_any (λ x y. (bytes_decides x y).0) x (names ss) e

  -- what is reached has a lower rank
  reached_below : (n : ℕ) (x y : List ℕ) → reaches ss n x y ≡ true → Contains (names ss) y → rank y < rank x
  reached_below zero x y e c = absurd (cc)
  reached_below (suc n) x y e c =
      let f = first_step ss n y (declared x ss) e in
      elim f.2 [
        | inl h ↦ falls x y (subst (Contains (structs_among (declared x ss))) h f.1) c
        | inr h ↦ let below = reached_below n f.0 y h c in let step = falls x f.0 f.1 (is_name f.0 (reaching_declared ss n f.0 y h)) in omega (arith, below, step)
      ]

  circle_absurd : (x : List ℕ) → holds_itself ss x ≡ true → ⊥
  circle_absurd x e = let below = reached_below (length ss) x x e (is_name x (reaching_declared ss (length ss) x x e)) in omega (arith, below)

-- where each struct's rank is above its members', no struct holds itself
pub no_circle : (ss : List CStruct) (rank : List ℕ → ℕ)
    → ((x y : List ℕ) → Contains (structs_among (declared x ss)) y → Contains (map (λ s. s.name) ss) y → rank y < rank x)
    → (x : List ℕ) → holds_itself ss x ≡ false
no_circle ss rank falls x = elim (cases_Bool (holds_itself ss x)) [ inl e ↦ absurd (circle_absurd ss rank falls x e) | inr e ↦ e ]

-- ---- enough fuel

-- layouts that agree at a list's structs
laid_alike : (n m : ℕ) (ss : List CStruct) (ds : List CDecl)
    → ((y : List ℕ) → Contains (structs_among ds) y → layout_within n ss (ty.Struct y) ≡ layout_within m ss (ty.Struct y)) → laid (layout_within n ss) ds ≡ laid (layout_within m ss) ds
laid_alike n m ss [] h = refl
laid_alike n m ss (d ∷ ds) h = by_type d.ty (laid_alike n m ss ds) h
  where
    by_type : (t : CTy) → (((y : List ℕ) → Contains (structs_among ds) y → layout_within n ss (ty.Struct y) ≡ layout_within m ss (ty.Struct y)) → laid (layout_within n ss) ds ≡ laid (layout_within m ss) ds)
        → ((y : List ℕ) → Contains (structs_among (record { ty = t; name = d.name } ∷ ds)) y → layout_within n ss (ty.Struct y) ≡ layout_within m ss (ty.Struct y))
        → member d.name (layout_within n ss t) (laid (layout_within n ss) ds) ≡ member d.name (layout_within m ss t) (laid (layout_within m ss) ds)
    by_type (ty.Word w) rest h = ap (member d.name (cell w)) (rest h)
    by_type (ty.Pointer x) rest h = ap (member d.name (pointer x)) (rest h)
    by_type (ty.Struct x) rest h = let here = h x (0, omega arith, refl) in let later = rest (λ y c. h y (suc c.0, (let lt = c.1 in omega (arith, lt)), c.2)) in cc

-- a name that isn't in a list differs from each of its items
all_apart : (x : List ℕ) (xs : List (List ℕ)) → list_any (bytes_eq x) xs ≡ false → AllByRecursion (λ y. bytes_eq x y ≡ false) xs
all_apart x [] e = tt
all_apart x (y ∷ xs) e = pick (bytes_eq x y) e (all_apart x xs)
  where
    pick : (b : Bool) → (b || list_any (bytes_eq x) xs) ≡ false → (list_any (bytes_eq x) xs ≡ false → AllByRecursion (λ y. bytes_eq x y ≡ false) xs)
        → (b ≡ false) × AllByRecursion (λ y. bytes_eq x y ≡ false) xs
    pick true e h = absurd (cc)
    pick false e h = (refl, h e)

module _ (ss : List CStruct) where
  -- a way into structs, the last first: all differ, all are declared, and each leads to the struct at hand
  record Way (seen : List (List ℕ)) (x : List ℕ) : Type 0 where
    distinct : IsDistinct bytes_eq seen
    known : (z : List ℕ) → list_any (bytes_eq z) seen ≡ true → list_any (bytes_eq z) (names ss) ≡ true
    reaching : (z : List ℕ) → list_any (bytes_eq z) seen ≡ true → reaches ss (length seen) z x ≡ true

  -- a struct has no members that count, or it has all and doesn't hold itself
  counted : (x : List ℕ) → (members_in ss x ≡ []) ⊎ ((members_in ss x ≡ declared x ss) × (holds_itself ss x ≡ false) × (list_any (bytes_eq x) (names ss) ≡ true))
  counted x = elim (cases_Bool (holds_itself ss x)) [
    | inl e ↦ inl (rw e refl)
    | inr e ↦ elim (declared_or_none x ss) [ inl none ↦ inl (rw e none) | inr known ↦ inr (rw e refl, e, known) ]
  ]

  module _ (seen : List (List ℕ)) (x : List ℕ) (way : Way seen x) (holds : holds_itself ss x ≡ false) (known : list_any (bytes_eq x) (names ss) ≡ true) (k : ℕ) (room : length seen + k ≡ length ss) where
    -- a struct that doesn't hold itself isn't on a way that leads to it
    is_new : list_any (bytes_eq x) seen ≡ false
    is_new = elim (cases_Bool (list_any (bytes_eq x) seen)) [
      | inl e ↦ absurd (let circle = many_more ss k (length seen) (length ss) x (declared x ss) room (way.reaching x e) in cc)
      | inr e ↦ e
    ]

    -- so the way goes on through it
    all_differ : IsDistinct bytes_eq (x ∷ seen)
    all_differ = IsDistinct-cons bytes_eq x seen (all_apart x seen is_new) way.distinct

    all_known : (z : List ℕ) → list_any (bytes_eq z) (x ∷ seen) ≡ true → list_any (bytes_eq z) (names ss) ≡ true
    all_known z e = elim (either_true (bytes_eq z x) (list_any (bytes_eq z) seen) e) [
      | inl h ↦ subst (λ y. list_any (bytes_eq y) (names ss) ≡ true) (sym ((bytes_decides z x).0 h)) known
      | inr h ↦ way.known z h
    ]

    -- and there is room for it, since each stands among the structs once
    fits : suc (length seen) ≤ length ss
    fits = let le = length-le_from_is_member nat_list_eq_equiv (x ∷ seen) (names ss) all_differ all_known in let same = length-map ss (λ s. s.name) in omega (arith, le, same)

    -- the way to one of its members
    next_way : (y : List ℕ) → Contains (structs_among (declared x ss)) y → Way (x ∷ seen) y
    next_way y c = record {
      distinct = all_differ;
      known = all_known;
      reaching = λ z e. elim (either_true (bytes_eq z x) (list_any (bytes_eq z) seen) e) [
        | inl h ↦ subst (λ z. reaches ss (suc (length seen)) z y ≡ true) (sym ((bytes_decides z x).0 h)) (step_to ss (length seen) y y (declared x ss) c (inl refl))
        | inr h ↦ last_step ss (length seen) x y (declared z ss) (way.reaching z h) c
      ];
    }

  -- the way on which no struct stands
  no_way : (x : List ℕ) → Way [] x
  unfolding IsDistinct
  no_way x = record { distinct = tt; known = λ z e. absurd (cc); reaching = λ z e. absurd (cc) }

  -- where the fuel is as much as there are structs beside those on the way, more of it changes nothing
  enough : (k : ℕ) (seen : List (List ℕ)) (x : List ℕ) → length seen + k ≡ length ss → Way seen x → layout_within k ss (ty.Struct x) ≡ layout_within (suc k) ss (ty.Struct x)
  enough zero seen x room way =
      elim (counted x) [ inl none ↦ rw none refl | inr h ↦ absurd (let le = fits seen x way h.1 h.2 0 room in omega (arith, le, room)) ]
  enough (suc k) seen x room way =
      elim (counted x) [
        | inl none ↦ rw none refl
        | inr h ↦ ap (group x) (rw h.0 (laid_alike k (suc k) ss (declared x ss) (λ y c. enough k (x ∷ seen) y (omega (arith, room)) (next_way seen x way h.1 h.2 (suc k) room y c))))
      ]

-- fuel doesn't matter: a struct's layout is that of its members
pub layout_unfolds : (ss : List CStruct) (x : List ℕ) → layout ss (ty.Struct x) ≡ group x (laid (layout ss) (members_in ss x))
layout_unfolds ss x = enough ss (length ss) [] x (omega arith) (no_way ss x)

-- ---- sizes

-- the slots of members
laid_sizes : (ss : List CStruct) (x : List ℕ) (ds : List CDecl) → size (group x (laid (layout ss) ds)) ≡ sizes_of ss ds
unfolding size
laid_sizes ss x [] = refl
laid_sizes ss x (d ∷ ds) = ap (λ n. size (layout ss d.ty) + n) (laid_sizes ss x ds)

-- a struct's slots are its members' slots
pub size_sums : (ss : List CStruct) (x : List ℕ) → size (layout ss (ty.Struct x)) ≡ sizes_of ss (members_in ss x)
size_sums ss x = ap size (layout_unfolds ss x) ∙ laid_sizes ss x (members_in ss x)

-- ---- parts

module _ (ss : List CStruct) where
  -- a part with its type's layout
  abbrev seen : Part → Spot
  seen p = spot p.start (layout ss p.ty)

  -- what is found by types is what is found among layouts
  behind_seen : (n : ℕ) (o : Option Part) → behind n (option_map seen o) ≡ option_map seen (part_behind n o)
  behind_seen n None = refl
  behind_seen n (Some p) = refl

  member_seen : (x : List ℕ) (ds : List CDecl) → find_member x (laid (layout ss) ds) ≡ option_map seen (member_part ss x ds)
  member_seen x [] = refl
  member_seen x (d ∷ ds) = pick (bytes_eq x d.name) (member_seen x ds)
    where
      pick : (b : Bool) → find_member x (laid (layout ss) ds) ≡ option_map seen (member_part ss x ds)
          → cond b (Some (spot 0 (layout ss d.ty))) (behind (size (layout ss d.ty)) (find_member x (laid (layout ss) ds)))
          ≡ option_map seen (cond b (Some (part 0 d.ty)) (part_behind (size (layout ss d.ty)) (member_part ss x ds)))
      pick true h = refl
      pick false h = ap (behind (size (layout ss d.ty))) h ∙ behind_seen (size (layout ss d.ty)) (member_part ss x ds)

  within_seen : (xs : List (List ℕ)) → ((t : CTy) → walk xs (layout ss t) ≡ option_map seen (part_at ss xs t)) → (o : Option Part)
      → further (option_map seen o) (λ k. walk xs k) ≡ option_map seen (part_within o (λ u. part_at ss xs u))
  within_seen xs h None = refl
  within_seen xs h (Some p) = ap (behind p.start) (h p.ty) ∙ behind_seen p.start (part_at ss xs p.ty)

-- the walk along a layout, by types
pub walk_typed : (ss : List CStruct) (xs : List (List ℕ)) (t : CTy) → walk xs (layout ss t) ≡ option_map (λ p. spot p.start (layout ss p.ty)) (part_at ss xs t)
walk_typed ss [] t = refl
walk_typed ss (x ∷ xs) (ty.Word w) = refl
walk_typed ss (x ∷ xs) (ty.Pointer y) = refl
walk_typed ss (x ∷ xs) (ty.Struct y) =
    rw (layout_unfolds ss y) (rw (member_seen ss x (members_in ss y)) (within_seen ss xs (λ t. walk_typed ss xs t) (member_part ss x (members_in ss y))))

-- what a part behind others was, and what a part of a part is
behind_is : (n : ℕ) (o : Option Part) (p : Part) → part_behind n o ≡ Some p → (q : Part) × (o ≡ Some q) × (p ≡ part (n + q.start) q.ty)
behind_is n None p e = absurd (cc)
behind_is n (Some q) p e = (q, refl, cc)

within_is : (o : Option Part) (f : CTy → Option Part) (p : Part) → part_within o f ≡ Some p
    → (q : Part) × (r : Part) × (o ≡ Some q) × (f q.ty ≡ Some r) × (p ≡ part (q.start + r.start) r.ty)
within_is None f p e = absurd (cc)
within_is (Some q) f p e = let m = behind_is q.start (f q.ty) p e in (q, m.0, refl, m.1, m.2)

-- a member stands within the slots of all
member_fits : (ss : List CStruct) (x : List ℕ) (ds : List CDecl) (p : Part) → member_part ss x ds ≡ Some p → p.start + size (layout ss p.ty) ≤ sizes_of ss ds
member_fits ss x [] p e = absurd (cc)
member_fits ss x (d ∷ ds) p e = pick (bytes_eq x d.name) e (member_fits ss x ds)
  where
    pick : (b : Bool) → cond b (Some (part 0 d.ty)) (part_behind (size (layout ss d.ty)) (member_part ss x ds)) ≡ Some p
        → ((q : Part) → member_part ss x ds ≡ Some q → q.start + size (layout ss q.ty) ≤ sizes_of ss ds) → p.start + size (layout ss p.ty) ≤ size (layout ss d.ty) + sizes_of ss ds
    pick true e h = let same : part 0 d.ty ≡ p = cc in subst (λ (q : Part). q.start + size (layout ss q.ty) ≤ size (layout ss d.ty) + sizes_of ss ds) same (omega arith)
    pick false e h =
        let m = behind_is (size (layout ss d.ty)) (member_part ss x ds) p e in
        let fits = h m.0 m.1 in
        subst (λ (q : Part). q.start + size (layout ss q.ty) ≤ size (layout ss d.ty) + sizes_of ss ds) (sym m.2) (omega (arith, fits))

-- a part stands within its value
pub part_fits : (ss : List CStruct) (xs : List (List ℕ)) (t : CTy) (p : Part) → part_at ss xs t ≡ Some p → p.start + size (layout ss p.ty) ≤ size (layout ss t)
part_fits ss [] t p e = let same : part 0 t ≡ p = cc in subst (λ (q : Part). q.start + size (layout ss q.ty) ≤ size (layout ss t)) same (omega arith)
part_fits ss (x ∷ xs) (ty.Word w) p e = absurd (cc)
part_fits ss (x ∷ xs) (ty.Pointer y) p e = absurd (cc)
part_fits ss (x ∷ xs) (ty.Struct y) p e =
    let w = within_is (member_part ss x (members_in ss y)) (λ u. part_at ss xs u) p e in
    let outer = member_fits ss x (members_in ss y) w.0 w.2 in
    let inner = part_fits ss xs w.0.ty w.1 w.3 in
    let sum = size_sums ss y in
    subst (λ (q : Part). q.start + size (layout ss q.ty) ≤ size (layout ss (ty.Struct y))) (sym w.4) (omega (arith, outer, inner, sum))
