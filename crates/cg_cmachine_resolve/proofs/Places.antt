-- Where paths lead in a frame whose slots stand in a row.
use Rattle.std.proofs.Common.{◌≡◌, ℕ, zero, suc, ◌+◌, ◌^◌, ◌<◌, ◌≤◌, Bool, true, false, cond, Some, None, Option, List, [], ◌∷◌, ◌++◌, length, map, take, drop, refl, sym, ap, ◌∙◌, subst, arith, bytes_eq, MatchOption}
use Rattle.std.proofs.lemmas.List.{append_assoc, take-append-drop, take_at, length-append, length-take-le, length-drop}
use Rattle.std.proofs.Math.Seq.{drop-append_seam, drop-nil}
use Rattle.std.specs.Bool.{nat_lt}
use Rattle.std.specs.List.{position_from}
use Rattle.cg_base.specs.declared.kind.Word.{Word}
use Rattle.cg_base.specs.Words.{bits}
use Rattle.cg_cmachine_layout.specs.declared.kind.Kind.{Kind}
use Rattle.cg_cmachine_layout.specs.declared.kind.Kind.TheVariants as kind
use Rattle.cg_cmachine_layout.specs.declared.kind.Part.{Part}
use Rattle.cg_cmachine_layout.specs.declared.shape.Shape.{Shape}
use Rattle.cg_cmachine_layout.specs.Kinds.{IsPart, layout_of}
use Rattle.cg_cmachine_resolve.specs.Lines.{IsWhole, Leads}
use Rattle.cg_cmachine_resolve.specs.Scopes.{Finds, Scope, frame_of, total}
use Rattle.cg_cmachine_def.specs.Layouts.{Layout, cell, pointer, group, layout_within, pointed, size, Spot, spot, same_layout, walk}
use Rattle.cg_cmachine_def.specs.Operands.{Value, literal, typed, look, address_at, only, present, scalars_in, target_of, give, read, read_part}
use Rattle.cg_cmachine_def.specs.Outcomes.{Judged, ok, no, on, found}
use Rattle.cg_cmachine_def.specs.Targets.{Written, spliced, with_cell_at, with_scalars, written_cell}
use Rattle.cg_ctree.specs.declared.tree.CPath.{CPath}
use Rattle.cg_ctree.specs.declared.tree.CStruct.{CStruct}
use Rattle.cg_ctree.specs.declared.tree.CTy.TheVariants as ty
use Rattle.cg_ctree.specs.declared.why.Why.TheVariants.{KindsDiffer}
use Rattle.cg_cmachine_values.specs.declared.place.Place.TheVariants.{Nowhere, Local, Behind}
use Rattle.cg_cmachine_values.specs.Values.{Changed, overwritten, read_behind, read_cell, write_behind, write_cell}
use Rattle.cg_heap.specs.declared.cell.Cell.{Cell}
use Rattle.cg_heap.specs.declared.cell.Cell.TheVariants.{Slots}
use Rattle.cg_heap.specs.declared.cell.Scalar.{Scalar}
use Rattle.cg_heap.specs.declared.cell.Scalar.TheVariants.{Word as Number'}
use Rattle.cg_heap.specs.Stored.{Stored}
use Rattle.cg_cmachine_values.proofs.Giving.{same_sizes as same_size}
use Rattle.cg_cmachine_values.proofs.Reading.{first_only as one_only}

-- ---- rows

pub drop_drop : {A : Type 0} (n k : ℕ) (us : List A) → drop k (drop n us) ≡ drop (n + k) us
drop_drop zero k us = let same : 0 + k ≡ k = omega arith in rw same refl
drop_drop (suc n) k [] = ap (drop k) (drop-nil (suc n)) ∙ drop-nil k ∙ sym (drop-nil (suc n + k))
drop_drop (suc n) k (u ∷ us) = let step : suc n + k ≡ suc (n + k) = omega arith in rw step (drop_drop n k us)

take_within : {A : Type 0} (k n : ℕ) (us : List A) → k ≤ n → take k (take n us) ≡ take k us
take_within zero n us le = refl
take_within (suc k) zero us le = absurd (omega arith)
take_within (suc k) (suc n) [] le = refl
take_within (suc k) (suc n) (u ∷ us) le = ap (λ z. u ∷ z) (take_within k n us (omega arith))

pub part_taken : {A : Type 0} (a k n : ℕ) (us : List A) → a + k ≤ n → take k (drop a (take n us)) ≡ take k (drop a us)
part_taken zero k n us le = take_within k n us (omega arith)
part_taken (suc a) k zero us le = absurd (omega arith)
part_taken (suc a) k (suc n) [] le = refl
part_taken (suc a) k (suc n) (u ∷ us) le = part_taken a k n us (omega arith)

rest_taken : {A : Type 0} (j n : ℕ) (us : List A) → j ≤ n → drop j (take n us) ++ drop n us ≡ drop j us
rest_taken zero n us le = take-append-drop n us
rest_taken (suc j) zero us le = absurd (omega arith)
rest_taken (suc j) (suc n) [] le = refl
rest_taken (suc j) (suc n) (u ∷ us) le = rest_taken j n us (omega arith)

-- ---- rows with a part overwritten

over_next : (k : ℕ) (xs us : List Scalar) (u : Scalar) → overwritten (suc k) xs (u ∷ us) ≡ u ∷ overwritten k xs us
over_next k xs us u = let step : suc k + length xs ≡ suc (k + length xs) = omega arith in rw step refl

over_later : (k s : ℕ) (xs us : List Scalar) (u : Scalar) → overwritten (suc k + s) xs (u ∷ us) ≡ u ∷ overwritten (k + s) xs us
over_later k s xs us u = let step : suc k + s ≡ suc (k + s) = omega arith in ap (λ n. overwritten n xs (u ∷ us)) step ∙ over_next (k + s) xs us u

over_take : (k s : ℕ) (xs us : List Scalar) → k ≤ length us → take k (overwritten (k + s) xs us) ≡ take k us
over_take zero s xs us le = refl
over_take (suc k) s xs [] le = absurd (omega arith)
over_take (suc k) s xs (u ∷ us) le = ap (take (suc k)) (over_later k s xs us u) ∙ ap (λ z. u ∷ z) (over_take k s xs us (omega arith))

over_drop : (k s : ℕ) (xs us : List Scalar) → k ≤ length us → drop k (overwritten (k + s) xs us) ≡ overwritten s xs (drop k us)
over_drop zero s xs us le = let same : 0 + s ≡ s = omega arith in ap (λ n. overwritten n xs us) same
over_drop (suc k) s xs [] le = absurd (omega arith)
over_drop (suc k) s xs (u ∷ us) le = ap (drop (suc k)) (over_later k s xs us u) ∙ over_drop k s xs us (omega arith)

over_first_take : (k : ℕ) (xs us : List Scalar) → length xs ≡ k → take k (overwritten 0 xs us) ≡ xs
over_first_take k xs us e = take_at xs (drop (0 + length xs) us) k e

over_first_drop : (k : ℕ) (xs us : List Scalar) → length xs ≡ k → drop k (overwritten 0 xs us) ≡ drop k us
over_first_drop k xs us e =
    let same : 0 + length xs ≡ k = omega (arith, e) in
    ap (λ k. drop k (xs ++ drop (0 + length xs) us)) (sym e) ∙ drop-append_seam xs (drop (0 + length xs) us) ∙ ap (λ n. drop n us) same

-- ---- the first variable of a name

pub finds_here : (x y : List ℕ) (l : Layout) (vs : Scope) → bytes_eq x y ≡ true → Finds x ((y, l) ∷ vs) 0 l
finds_here x y l vs e = record {
  name = y;
  within = omega arith;
  looks = λ us. rw e refl;
  changes = λ us xs long same.
      rw e
      (ap (λ z. record { name = y; layout = l; scalars = z } ∷ frame_of vs (drop (size l) us)) (sym (over_first_take (size l) xs us same))
      ∙ ap (λ z. record { name = y; layout = l; scalars = take (size l) (overwritten 0 xs us) } ∷ frame_of vs z) (sym (over_first_drop (size l) xs us same)));
}

pub finds_later : (x y : List ℕ) (k l : Layout) (vs : Scope) (start : ℕ) → bytes_eq x y ≡ false → Finds x vs start l → Finds x ((y, k) ∷ vs) (size k + start) l
finds_later x y k l vs start e f = record {
  name = f.name;
  within = omega (arith, f.within);
  looks = λ us.
      rw e
      (f.looks (drop (size k) us) ∙ ap (λ z. Some (record { name = f.name; layout = l; scalars = take (size l) z })) (drop_drop (size k) start us));
  changes = λ us xs long same.
      let fits : size k ≤ length us = omega (arith, long) in
      let rest : length (drop (size k) us) ≡ total vs = length-drop (size k) us ∙ omega (arith, long) in
      rw e
      (ap (λ z. record { name = y; layout = k; scalars = take (size k) us } ∷ z) (f.changes (drop (size k) us) xs rest same)
      ∙ ap (λ z. record { name = y; layout = k; scalars = z } ∷ frame_of vs (overwritten start xs (drop (size k) us))) (sym (over_take (size k) start xs us fits))
      ∙ ap (λ z. record { name = y; layout = k; scalars = take (size k) (overwritten (size k + start) xs us) } ∷ frame_of vs z) (sym (over_drop (size k) start xs us fits)));
}

-- no variable of the name
pub looks_none : (x : List ℕ) (i : ℕ) (vs : Scope) (us : List Scalar) → position_from (bytes_eq x) i (map (λ v. v.0) vs) ≡ None → look x (frame_of vs us) ≡ None
looks_none x i [] us e = refl
looks_none x i (v ∷ vs) us e = pick (bytes_eq x v.0) e (looks_none x (i + 1) vs (drop (size v.1) us))
  where
    pick : (b : Bool) → cond b (Some i) (position_from (bytes_eq x) (i + 1) (map (λ v. v.0) vs)) ≡ None
        → (position_from (bytes_eq x) (i + 1) (map (λ v. v.0) vs) ≡ None → look x (frame_of vs (drop (size v.1) us)) ≡ None)
        → cond b (Some (record { name = v.0; layout = v.1; scalars = take (size v.1) us })) (look x (frame_of vs (drop (size v.1) us))) ≡ None
    pick true e h = absurd (cc)
    pick false e h = h e

-- ---- values as they are needed

number_size : (w : Word) (n : ℕ) (b : Bool) (xs : List Scalar) → cond b (ok (Number' n ∷ [])) (no KindsDiffer) ≡ ok xs → length xs ≡ size (cell w)
unfolding size
number_size w n true xs e = let is : Number' n ∷ [] ≡ xs = cc in subst (λ z. length z ≡ 1) is refl
number_size w n false xs e = absurd (cc)

-- a value that is given has as many scalars as the layout has slots
pub give_size : (l : Layout) (v : Value) (xs : List Scalar) → IsWhole v → give l v ≡ ok xs → length xs ≡ size l
give_size l (typed k us) xs whole e = given (same_layout l k) refl e
  where
    given : (b : Bool) → same_layout l k ≡ b → cond b (ok us) (no KindsDiffer) ≡ ok xs → length xs ≡ size l
    given true same h = let is : us ≡ xs = cc in subst (λ z. length z ≡ size l) is (whole k us refl ∙ sym (same_size l k same))
    given false same h = absurd (cc)
give_size (cell w) (literal n) xs whole e = number_size w n (nat_lt n (2 ^ bits w)) xs e
give_size (pointer x) (literal n) xs whole e = absurd (cc)
give_size (group x ms) (literal n) xs whole e = absurd (cc)

-- ---- a part of a variable

spliced_long : (a k n : ℕ) (xs w : List Scalar) → length w ≡ n → length xs ≡ k → a + k ≤ n → length (take a w ++ xs ++ drop (a + k) w) ≡ n
spliced_long a k n xs w e f le =
    length-append (take a w ++ xs) (drop (a + k) w) ∙ ap (λ z. z + length (drop (a + k) w)) (length-append (take a w) xs)
    ∙ ap (λ z. z + length xs + length (drop (a + k) w)) (length-take-le a w (omega (arith, e, le))) ∙ ap (λ z. a + length xs + z) (length-drop (a + k) w) ∙ omega (arith, e, f, le)

spliced_over : (start a k n : ℕ) (xs us : List Scalar) → length xs ≡ k → a + k ≤ n → start + n ≤ length us
    → overwritten start (take a (take n (drop start us)) ++ xs ++ drop (a + k) (take n (drop start us))) us ≡ overwritten (start + a) xs us
spliced_over zero a k n xs us e le long =
    let S : List Scalar = take a (take n us) ++ xs ++ drop (a + k) (take n us) in
    let many : 0 + length S ≡ n = (let long : length S ≡ n = spliced_long a k n xs (take n us) (length-take-le n us (omega (arith, long))) e le in omega (arith, long)) in
    let same : a ≡ 0 + a = omega arith in
    ap (λ z. S ++ drop z us) many
    ∙ append_assoc (take a (take n us) ++ xs) (drop (a + k) (take n us)) (drop n us)
    ∙ ap (λ z. (take a (take n us) ++ xs) ++ z) (rest_taken (a + k) n us le)
    ∙ ap (λ z. (z ++ xs) ++ drop (a + k) us) (take_within a n us (omega (arith, le)))
    ∙ ap (λ z. (take a us ++ xs) ++ drop (a + z) us) (sym e)
    ∙ ap (λ z. overwritten z xs us) same
spliced_over (suc start) a k n xs [] e le long = absurd (omega (arith, long))
spliced_over (suc start) a k n xs (u ∷ us) e le long =
    over_next start (take a (take n (drop start us)) ++ xs ++ drop (a + k) (take n (drop start us))) us u
    ∙ ap (λ z. u ∷ z) (spliced_over start a k n xs us e le (omega (arith, long)))
    ∙ sym (over_later start a xs us u)

-- ---- where paths lead

pub leads_unnamed : (ss : List CStruct) (vs : Scope) (p : CPath) → position_from (bytes_eq p.base) 0 (map (λ v. v.0) vs) ≡ None → Leads ss vs p Nowhere
leads_unnamed ss vs p e = record {
  within = tt;
  reads = λ m us long. rw (looks_none p.base 0 vs us e) refl;
  writes = λ m us v long whole. rw (looks_none p.base 0 vs us e) refl;
}

pub leads_no_part : (ss : List CStruct) (vs : Scope) (p : CPath) (start : ℕ) (l : Layout) → Finds p.base vs start l → p.arrow ≡ false → walk p.members l ≡ None → Leads ss vs p Nowhere
leads_no_part ss vs p start l f plain e = record {
  within = tt;
  reads = λ m us long. rw (f.looks us, plain, e) refl;
  writes = λ m us v long whole. rw (f.looks us, plain, e) refl;
}

pub leads_local : (ss : List CStruct) (vs : Scope) (p : CPath) (start : ℕ) (l : Layout) (a : ℕ) (k : Kind) → Finds p.base vs start l → p.arrow ≡ false
    → walk p.members l ≡ Some (spot a (layout_of k)) → a + size (layout_of k) ≤ size l → Leads ss vs p (Local (start + a) k)
leads_local ss vs p start l a k f plain e fits = record {
  within = omega (arith, fits, f.within);
  reads = λ m us long. rw (f.looks us, plain, e) (ap (read (layout_of k)) (part_taken a (size (layout_of k)) (size l) (drop start us) fits ∙ ap (take (size (layout_of k))) (drop_drop start a us)));
  writes = λ m us v long whole. rw (f.looks us, plain, e) (pick m us long (give (layout_of k) v) (λ xs g. give_size (layout_of k) v xs whole g));
}
  where
    pick : (m : Stored) (us : List Scalar) → length us ≡ total vs → (g : Judged (List Scalar)) → ((xs : List Scalar) → g ≡ ok xs → length xs ≡ size (layout_of k))
        → on {B = Written} g (λ xs. ok (record { frame = with_scalars p.base (spliced (spot a (layout_of k)) xs (take (size l) (drop start us))) (frame_of vs us); store = m }))
        ≡ on {B = Written} (on {B = Changed} g (λ xs. ok (record { slots = overwritten (start + a) xs us; store = m }))) (λ c. ok (record { frame = frame_of vs c.slots; store = c.store }))
    pick m us long (no why) h = refl
    pick m us long (ok xs) h =
        let many : length xs ≡ size (layout_of k) = h xs refl in
        let w : length (take (size l) (drop start us)) ≡ size l = length-take-le (size l) (drop start us) (rw (length-drop start us) (omega (arith, f.within, long))) in
        ap (λ fr. ok (record { frame = fr; store = m }))
        (f.changes us (spliced (spot a (layout_of k)) xs (take (size l) (drop start us))) long (spliced_long a (size (layout_of k)) (size l) xs (take (size l) (drop start us)) w many fits)
        ∙ ap (frame_of vs) (spliced_over start a (size (layout_of k)) (size l) xs us many fits (omega (arith, f.within, long))))

-- ---- behind a pointer

one_slot : (x : List ℕ) (us : List Scalar) → only (take (size (pointer x)) us) ≡ only us
unfolding size
one_slot x us = one_only us

below : (x : List ℕ) (start n : ℕ) → start + size (pointer x) ≤ n → start < n
unfolding size
below x start n le = omega (arith, le)

module _ (xs : List (List ℕ)) (l : Layout) where
  cell_read : (part : Option Part) (c : Cell) → MatchOption part (walk xs l ≡ None) (IsPart xs l)
      → on (found (walk xs l)) (λ s. on (scalars_in c) (λ us. read_part s us)) ≡ read_cell part c
  cell_read None c e = rw e refl
  cell_read (Some q) c is = rw is.found refl

  read_there : (part : Option Part) (c : Judged Cell) → MatchOption part (walk xs l ≡ None) (IsPart xs l)
      → on c (λ c. on (found (walk xs l)) (λ s. on (scalars_in c) (λ us. read_part s us))) ≡ on c (read_cell part)
  read_there part (ok c) is = cell_read part c is
  read_there part (no why) is = refl

  read_at : (m : Stored) (part : Option Part) (j : Judged ℕ) → MatchOption part (walk xs l ≡ None) (IsPart xs l)
      → on j (λ a. on (present m a) (λ c. on (found (walk xs l)) (λ s. on (scalars_in c) (λ us. read_part s us)))) ≡ on j (λ a. read_behind m a part)
  read_at m part (ok a) is = read_there part (present m a) is
  read_at m part (no why) is = refl

  -- what a written store comes to
  abbrev landed : Scope → List Scalar → Judged Stored → Judged Written
  landed vs us m = on {B = Written} m (λ m'. ok (record { frame = frame_of vs us; store = m' }))

  given_write : (m : Stored) (vs : Scope) (us : List Scalar) (a : ℕ) (s : Spot) (slots : List Scalar) (g : Judged (List Scalar))
      → on {B = Written} g (λ xs. ok (record { frame = frame_of vs us; store = with_cell_at a (Slots (spliced s xs slots)) m }))
      ≡ landed vs us (on g (λ xs. ok (with_cell_at a (Slots (spliced s xs slots)) m)))
  given_write m vs us a s slots (ok xs) = refl
  given_write m vs us a s slots (no why) = refl

  slots_write : (m : Stored) (vs : Scope) (us : List Scalar) (a : ℕ) (s : Spot) (v : Value) (slots : Judged (List Scalar))
      → on slots (λ slots. on {B = Written} (give s.layout v) (λ xs. ok (record { frame = frame_of vs us; store = with_cell_at a (Slots (spliced s xs slots)) m })))
      ≡ landed vs us (on slots (λ slots. on (give s.layout v) (λ xs. ok (with_cell_at a (Slots (spliced s xs slots)) m))))
  slots_write m vs us a s v (ok slots) = given_write m vs us a s slots (give s.layout v)
  slots_write m vs us a s v (no why) = refl

  cell_write : (m : Stored) (vs : Scope) (us : List Scalar) (a : ℕ) (v : Value) (part : Option Part) (c : Cell) → MatchOption part (walk xs l ≡ None) (IsPart xs l)
      → on (found (walk xs l)) (λ s. on (written_cell s c) (λ slots. on {B = Written} (give s.layout v) (λ xs. ok (record { frame = frame_of vs us; store = with_cell_at a (Slots (spliced s xs slots)) m }))))
      ≡ landed vs us (write_cell m a v part c)
  cell_write m vs us a v None c e = rw e refl
  cell_write m vs us a v (Some q) c is = rw is.found (slots_write m vs us a (spot q.start (layout_of q.kind)) v (written_cell (spot q.start (layout_of q.kind)) c))

  write_there : (m : Stored) (vs : Scope) (us : List Scalar) (a : ℕ) (v : Value) (part : Option Part) (c : Judged Cell) → MatchOption part (walk xs l ≡ None) (IsPart xs l)
      → on c (λ c. on (found (walk xs l)) (λ s. on (written_cell s c) (λ slots. on {B = Written} (give s.layout v) (λ xs. ok (record { frame = frame_of vs us; store = with_cell_at a (Slots (spliced s xs slots)) m })))))
      ≡ on {B = Written} (on {B = Changed} (on c (write_cell m a v part)) (λ m'. ok (record { slots = us; store = m' }))) (λ c. ok (record { frame = frame_of vs c.slots; store = c.store }))
  write_there m vs us a v part (ok c) is = cell_write m vs us a v part c is ∙ settle (write_cell m a v part c)
    where
      settle : (n : Judged Stored) → landed vs us n ≡ on {B = Written} (on {B = Changed} n (λ m'. ok (record { slots = us; store = m' }))) (λ c. ok (record { frame = frame_of vs c.slots; store = c.store }))
      settle (ok n) = refl
      settle (no why) = refl
  write_there m vs us a v part (no why) is = refl

  write_at : (m : Stored) (vs : Scope) (us : List Scalar) (v : Value) (part : Option Part) (j : Judged ℕ) → MatchOption part (walk xs l ≡ None) (IsPart xs l)
      → on j (λ a. on (present m a) (λ c. on (found (walk xs l)) (λ s. on (written_cell s c) (λ slots. on {B = Written} (give s.layout v) (λ xs. ok (record { frame = frame_of vs us; store = with_cell_at a (Slots (spliced s xs slots)) m }))))))
      ≡ on {B = Written} (on {B = Changed} j (λ a. on (write_behind m a part v) (λ m'. ok (record { slots = us; store = m' })))) (λ c. ok (record { frame = frame_of vs c.slots; store = c.store }))
  write_at m vs us v part (ok a) is = write_there m vs us a v part (present m a) is
  write_at m vs us v part (no why) is = refl

pub leads_behind : (ss : List CStruct) (vs : Scope) (p : CPath) (start : ℕ) (x : List ℕ) (part : Option Part) → Finds p.base vs start (pointer x) → p.arrow ≡ true
    → MatchOption part (walk p.members (pointed ss x) ≡ None) (IsPart p.members (pointed ss x)) → Leads ss vs p (Behind start part)
leads_behind ss vs p start x part f arrow is = record {
  within = below x start (total vs) f.within;
  reads = λ m us long.
      rw (f.looks us, arrow)
      (rw (one_slot x (drop start us)) (read_at p.members (pointed ss x) m part (address_at (only (drop start us))) is));
  writes = λ m us v long whole.
      rw (f.looks us, arrow)
      (rw (one_slot x (drop start us)) (write_at p.members (pointed ss x) m vs us v part (address_at (only (drop start us))) is));
}

-- an arrow behind what is no pointer
pub leads_no_pointer : (ss : List CStruct) (vs : Scope) (p : CPath) (start : ℕ) (l : Layout) → Finds p.base vs start l → p.arrow ≡ true → target_of l ≡ no KindsDiffer → Leads ss vs p Nowhere
leads_no_pointer ss vs p start l f arrow e = record {
  within = tt;
  reads = λ m us long. rw (f.looks us, arrow, e) refl;
  writes = λ m us v long whole. rw (f.looks us, arrow, e) refl;
}

no_target : (n : ℕ) (ss : List CStruct) (x : List ℕ) → target_of (layout_within n ss (ty.Struct x)) ≡ no KindsDiffer
no_target zero ss x = refl
no_target (suc n) ss x = refl

pub word_no_target : (w : Word) → target_of (layout_of (kind.Word w)) ≡ no KindsDiffer
word_no_target w = refl

pub struct_no_target : (s : Shape) → target_of (layout_of (kind.Struct s)) ≡ no KindsDiffer
struct_no_target s = no_target (length s.structs.now) s.structs.now s.name.now
