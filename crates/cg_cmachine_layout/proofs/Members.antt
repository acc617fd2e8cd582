-- Where members stand, and the parts that they lead to.
use Rattle.std.proofs.Common.{◌≡◌, ℕ, zero, suc, ◌+◌, ◌<◌, ◌≤◌, Bool, true, false, cond, Some, None, Option, List, [], ◌∷◌, ◌++◌, length, get_or, take, replicate, map, refl, sym, ap, ◌∙◌, subst, arith, bytes_eq, Bor}
use Rattle.std.proofs.lemmas.List.{length-map, get_or-map, map-append, take_more}
use Rattle.std.proofs.lemmas.Slice.Zip.{AllZip-long}
use Rattle.std.specs.List.{AllZip, position_from}
use Rattle.cg_ctree.specs.declared.tree.CDecl.{CDecl}
use Rattle.cg_ctree.specs.declared.tree.CStruct.{CStruct}
use Rattle.cg_ctree.specs.declared.tree.CTy.{CTy}
use Rattle.cg_cmachine_def.specs.Layouts.{Spot, behind, find_member, further, group, laid, layout, members_in, members_of, size, sizes, spot, walk}
use Rattle.cg_cmachine_layout.specs.declared.counted.Counted.{Counted}
use Rattle.cg_cmachine_layout.specs.declared.counted.Counted.TheVariants.{Word, Pointer, Struct}
use Rattle.cg_cmachine_layout.specs.declared.counted.Offset.{Offset}
use Rattle.cg_cmachine_layout.specs.declared.sizes.Row.{Row}
use Rattle.cg_cmachine_layout.specs.Counts.{IsCounted, IsOffset, counted_layout}
use Rattle.cg_cmachine_layout.specs.Tables.{Indexes, IsMember, IsRow, IsSettled, IsTable, Place, Table, place, place_of, placed, sized, slices, slots_in, slots_of, type_of}
use Rattle.cg_cmachine_laws.proofs.LayoutLaws.{layout_unfolds}
use Rattle.cg_cmachine_layout.proofs.Names.{not_declared, places_within}
use Rattle.cg_cmachine_layout.proofs.Slots.{empty_layout, sized_right, type_slots}

-- ---- types with their slots

pub layout_is : (ss : List CStruct) (k : Counted) → counted_layout ss k ≡ layout ss (type_of k)
layout_is ss (Word w) = refl
layout_is ss (Pointer x) = refl
layout_is ss (Struct x n) = refl

pub is_kind : (ss : List CStruct) (k : Counted) → slots_in k ≡ size (layout ss (type_of k)) → IsCounted ss k
is_kind ss (Word w) e = tt
is_kind ss (Pointer x) e = tt
is_kind ss (Struct x n) e = e

pub kind_size : (ss : List CStruct) (k : Counted) → IsCounted ss k → slots_in k ≡ size (counted_layout ss k)
unfolding size
kind_size ss (Word w) is = refl
kind_size ss (Pointer x) is = refl
kind_size ss (Struct x n) is = is

-- ---- members

-- the member of a name, behind so many slots
record IsPlaced (ss : List CStruct) (x : List ℕ) (n : ℕ) (ds : List CDecl) (p : Place) : Type 0 where
  start : ℕ
  found : find_member x (laid (layout ss) ds) ≡ Some (spot start (layout ss p.ty))
  starts : n + start ≡ p.start
  within : start + size (layout ss p.ty) ≤ sizes (laid (layout ss) ds)
  slots : p.slots ≡ size (layout ss p.ty)

module _ (ss : List CStruct) (names : Table) (zs : List ℕ) (right : (t : CTy) → slots_of names zs t ≡ size (layout ss t)) where
  find_some : (x : List ℕ) (ds : List CDecl) (i at n : ℕ) → position_from (bytes_eq x) i (map (λ d. d.name) ds) ≡ Some at
      → (k : ℕ) × (i + k ≡ at) × (k < length ds) × ((e : Place) → IsPlaced ss x n ds (get_or (placed names zs n ds) k e))
  unfolding size
  find_some x [] i at n e = absurd (cc)
  find_some x (d ∷ ds) i at n e = pick (bytes_eq x d.name) refl e (find_some x ds (i + 1) at (n + slots_of names zs d.ty))
    where
      pick : (b : Bool) → bytes_eq x d.name ≡ b → cond b (Some i) (position_from (bytes_eq x) (i + 1) (map (λ d. d.name) ds)) ≡ Some at
          → (position_from (bytes_eq x) (i + 1) (map (λ d. d.name) ds) ≡ Some at
          → (k : ℕ) × ((i + 1) + k ≡ at) × (k < length ds) × ((e : Place) → IsPlaced ss x (n + slots_of names zs d.ty) ds (get_or (placed names zs (n + slots_of names zs d.ty) ds) k e)))
          → (k : ℕ) × (i + k ≡ at) × (k < length (d ∷ ds)) × ((e : Place) → IsPlaced ss x n (d ∷ ds) (get_or (placed names zs n (d ∷ ds)) k e))
      pick true here e h = (
        0,
        (let same : i ≡ at = cc in omega arith),
        omega arith,
        λ e. record { start = 0; found = rw here refl; starts = omega arith; within = omega arith; slots = right d.ty },
      )
      pick false apart e h = let later = h e in (
        suc later.0,
        omega (arith, later.1),
        omega (arith, later.2),
        λ e. let p = later.3 e in record {
          start = size (layout ss d.ty) + p.start;
          found = rw (apart, p.found) refl;
          starts = (let r = right d.ty in omega (arith, p.starts));
          within = omega (arith, p.within);
          slots = p.slots;
        },
      )

  find_none : (x : List ℕ) (ds : List CDecl) (i : ℕ) → position_from (bytes_eq x) i (map (λ d. d.name) ds) ≡ None → find_member x (laid (layout ss) ds) ≡ None
  find_none x [] i e = refl
  find_none x (d ∷ ds) i e = pick (bytes_eq x d.name) e (find_none x ds (i + 1))
    where
      pick : (b : Bool) → cond b (Some i) (position_from (bytes_eq x) (i + 1) (map (λ d. d.name) ds)) ≡ None
          → (position_from (bytes_eq x) (i + 1) (map (λ d. d.name) ds) ≡ None → find_member x (laid (layout ss) ds) ≡ None)
          → cond b (Some (spot 0 (layout ss d.ty))) (behind (size (layout ss d.ty)) (find_member x (laid (layout ss) ds))) ≡ None
      pick true e h = absurd (cc)
      pick false e h = ap (behind (size (layout ss d.ty))) (h e)

  length_placed : (n : ℕ) (ds : List CDecl) → length (placed names zs n ds) ≡ length ds
  length_placed n [] = refl
  length_placed n (d ∷ ds) = ap suc (length_placed (n + slots_of names zs d.ty) ds)

-- ---- what a table finds

module _ (ss : List CStruct) (names : Table) (zs : List ℕ) (rows : List Row) (is : IsTable ss names zs rows) where
  pub all_slots : (t : CTy) → slots_of names zs t ≡ size (layout ss t)
  all_slots t = type_slots ss names is.by_name zs t (λ x at e f. is.sized x at f)

  pub kind_right : (k : Counted) (t : CTy) → type_of k ≡ t → slots_in k ≡ slots_of names zs t → (counted_layout ss k ≡ layout ss t) × IsCounted ss k
  kind_right k t e s = (layout_is ss k ∙ ap (layout ss) e, is_kind ss k (s ∙ all_slots t ∙ ap (λ t. size (layout ss t)) (sym e)))

  pub no_struct : (y : Bor (List ℕ)) (n : ℕ) (x : List ℕ) → place names y.now ≡ None → find_member x (members_of (counted_layout ss (Struct y n))) ≡ None
  no_struct y n x e = ap (λ l. find_member x (members_of l)) (empty_layout ss y.now (not_declared ss names is.by_name y.now e))

  pub row_within : (y : List ℕ) (at : ℕ) → place names y ≡ Some at → at < length rows
  row_within y at e = subst (λ n. at < n) (sym is.long) (places_within ss names is.by_name y at e)

  module _ (y : Bor (List ℕ)) (n : ℕ) (at : ℕ) (found : place names y.now ≡ Some at) (row : Row) (item : row ≡ get_or rows at row) where
    of_row : IsRow names zs (members_in ss y.now) row
    of_row = subst (IsRow names zs (members_in ss y.now)) (sym item) (is.laid y.now at row found)

    unfolded : counted_layout ss (Struct y n) ≡ group y.now (laid (layout ss) (members_in ss y.now))
    unfolded = layout_unfolds ss y.now

    pub no_member : (x : List ℕ) → place row.names x ≡ None → find_member x (members_of (counted_layout ss (Struct y n))) ≡ None
    no_member x e =
        ap (λ l. find_member x (members_of l)) unfolded ∙ find_none ss names zs all_slots x (members_in ss y.now) 0 (sym (of_row.by_name.first x) ∙ e)

    parts_long : length row.parts.items ≡ length (members_in ss y.now)
    parts_long = sym (length-map row.parts.items place_of) ∙ ap length of_row.parts ∙ length_placed ss names zs all_slots 0 (members_in ss y.now)

    member_at : (x : List ℕ) (i : ℕ) → place row.names x ≡ Some i
        → (i < length (members_in ss y.now)) × ((e : Place) → IsPlaced ss x 0 (members_in ss y.now) (get_or (placed names zs 0 (members_in ss y.now)) i e))
    member_at x i e =
        let f = find_some ss names zs all_slots x (members_in ss y.now) 0 i 0 (sym (of_row.by_name.first x) ∙ e) in
        let same : f.0 ≡ i = omega (arith, f.1) in
        (subst (λ k. k < length (members_in ss y.now)) same f.2, λ e. subst (λ k. IsPlaced ss x 0 (members_in ss y.now) (get_or (placed names zs 0 (members_in ss y.now)) k e)) same (f.3 e))

    pub part_within : (x : List ℕ) (i : ℕ) → place row.names x ≡ Some i → i < length row.parts.items
    part_within x i e = subst (λ k. i < k) (sym parts_long) (member_at x i e).0

    pub is_member : (x : List ℕ) (i : ℕ) (p : Offset) → place row.names x ≡ Some i → p ≡ get_or row.parts.items i p → IsMember ss x (Struct y n) p
    unfolding size
    is_member x i p e here =
        let m = (member_at x i e).1 (place_of p) in
        let same : get_or (placed names zs 0 (members_in ss y.now)) i (place_of p) ≡ place_of p =
        ap (λ l. get_or l i (place_of p)) (sym of_row.parts) ∙ get_or-map place_of row.parts.items i p (place_of p) (part_within x i e) ∙ ap place_of (sym here) in
        let q : IsPlaced ss x 0 (members_in ss y.now) (place_of p) = subst (IsPlaced ss x 0 (members_in ss y.now)) same m in
        let start : q.start ≡ p.start = omega (arith, q.starts) in
        record {
          found =
              ap (λ l. find_member x (members_of l)) unfolded ∙ q.found ∙ ap (λ k. Some (spot k (layout ss (type_of p.kind)))) start ∙ ap (λ l. Some (spot p.start l)) (sym (layout_is ss p.kind));
          sized = is_kind ss p.kind q.slots;
          within = rw (layout_is ss p.kind, unfolded, ← start) q.within;
        }

-- ---- a walk

-- what a walk has come to
pub record IsAlong (ss : List CStruct) (xs : List (List ℕ)) (k : Counted) (n : ℕ) (at : Counted) (rest : List (List ℕ)) : Type 0 where
  pub walked : walk xs (counted_layout ss k) ≡ behind n (walk rest (counted_layout ss at))
  pub sized : IsCounted ss at
  pub within : n + size (counted_layout ss at) ≤ size (counted_layout ss k)

behind_zero : (o : Option Spot) → behind 0 o ≡ o
behind_zero None = refl
behind_zero (Some s) = ap (λ n. Some (spot n s.layout)) (let z : 0 + s.start ≡ s.start = omega arith in z)

behind_behind : (m n : ℕ) (o : Option Spot) → behind m (behind n o) ≡ behind (m + n) o
behind_behind m n None = refl
behind_behind m n (Some s) = ap (λ k. Some (spot k s.layout)) (let a : m + (n + s.start) ≡ (m + n) + s.start = omega arith in a)

pub along_start : (ss : List CStruct) (xs : List (List ℕ)) (k : Counted) → IsCounted ss k → IsAlong ss xs k 0 k xs
along_start ss xs k is = record { walked = sym (behind_zero (walk xs (counted_layout ss k))); sized = is; within = omega arith }

pub along_more : (ss : List CStruct) (xs : List (List ℕ)) (k : Counted) (n : ℕ) (at : Counted) (x : List ℕ) (rest : List (List ℕ)) (p : Offset)
    → IsAlong ss xs k n at (x ∷ rest) → IsMember ss x at p → IsAlong ss xs k (n + p.start) p.kind rest
along_more ss xs k n at x rest p along m = record {
  walked =
      along.walked ∙ ap (λ o. behind n (further o (λ l. walk rest l))) m.found ∙ behind_behind n p.start (walk rest (counted_layout ss p.kind));
  sized = m.sized;
  within = omega (arith, along.within, m.within);
}

pub along_not : (ss : List CStruct) (xs : List (List ℕ)) (k : Counted) (n : ℕ) (at : Counted) (x : List ℕ) (rest : List (List ℕ))
    → IsAlong ss xs k n at (x ∷ rest) → find_member x (members_of (counted_layout ss at)) ≡ None → walk xs (counted_layout ss k) ≡ None
along_not ss xs k n at x rest along e = along.walked ∙ ap (λ o. behind n (further o (λ l. walk rest l))) e

pub along_end : (ss : List CStruct) (xs : List (List ℕ)) (k : Counted) (p : Offset) (rest : List (List ℕ)) → rest ≡ [] → IsAlong ss xs k p.start p.kind rest → IsOffset ss xs k p
along_end ss xs k p rest e along = record {
  found =
      along.walked ∙ ap (λ l. behind p.start (walk l (counted_layout ss p.kind))) e ∙ ap (λ n. Some (spot n (counted_layout ss p.kind))) (let z : p.start + 0 ≡ p.start = omega arith in z);
  sized = along.sized;
  within = along.within;
}

-- ---- the whole table

-- a turn of the loop over structs
pub rows_turn : (names : Table) (zs : List ℕ) (structs : List (Bor (List CDecl))) (rows more : List Row) (i : ℕ) (members : Bor (List CDecl)) (row : Row) → i < length structs
    → members ≡ get_or structs i members → AllZip (IsRow names zs) (slices (take i structs)) rows → IsRow names zs members.now row → more ≡ rows ++ row ∷ []
    → AllZip (IsRow names zs) (slices (take (i + 1) structs)) more
rows_turn names zs structs rows more i members row within item before is same =
    subst (λ l. AllZip (IsRow names zs) l more)
    (sym (ap slices (take_more structs i members within) ∙ map-append (λ m. m.now) (take i structs) (get_or structs i members ∷ []) ∙ ap (λ m. slices (take i structs) ++ m.now ∷ []) (sym item)))
    (subst (AllZip (IsRow names zs) (slices (take i structs) ++ members.now ∷ [])) (sym same) (push (slices (take i structs)) rows before))
  where
    push : (xs : List (List CDecl)) (ys : List Row) → AllZip (IsRow names zs) xs ys → AllZip (IsRow names zs) (xs ++ members.now ∷ []) (ys ++ row ∷ [])
    push [] [] h = (is, tt)
    push [] (z ∷ ys) h = absurd h
    push (z ∷ xs) [] h = absurd h
    push (z ∷ xs) (w ∷ ys) h = (h.0, push xs ys h.1)

row_of : (ss : List CStruct) (names : Table) (zs : List ℕ) (structs : List (List CDecl)) (rows : List Row) (at : ℕ) (d : Row) → AllZip (IsRow names zs) structs rows → at < length structs
    → IsRow names zs (get_or structs at []) (get_or rows at d)
row_of ss names zs [] rows at d h lt = absurd (omega arith)
row_of ss names zs (ds ∷ structs) [] at d h lt = absurd h
row_of ss names zs (ds ∷ structs) (r ∷ rows) zero d h lt = h.0
row_of ss names zs (ds ∷ structs) (r ∷ rows) (suc at) d h lt = row_of ss names zs structs rows at d h.1 (omega arith)

pub is_table : (ss : List CStruct) (names : Table) (structs : List (List CDecl)) (order zs : List ℕ) (rows : List Row) → Indexes (map (λ s. s.name) ss) names → IsSettled ss names structs order
    → zs ≡ sized names structs (replicate (length structs) 0) order → AllZip (IsRow names zs) structs rows → IsTable ss names zs rows
is_table ss names structs order zs rows is settled e zip = record {
  by_name = is;
  sized = λ x at f. ap (λ l. get_or l at 0) e ∙ sized_right ss names is structs order settled x at f;
  long = AllZip-long (IsRow names zs) structs rows zip ∙ settled.long;
  laid = λ x at d f.
      subst (λ ds. IsRow names zs ds (get_or rows at d)) (settled.counts x at f)
      (row_of ss names zs structs rows at d zip (subst (λ n. at < n) (sym settled.long) (places_within ss names is x at f)));
}
