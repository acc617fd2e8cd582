-- What is read of places, and what is written to variables and cells.
use Rattle.std.proofs.Common.{◌≡◌, ℕ, suc, ◌+◌, ◌^◌, ◌<◌, ◌≤◌, ◌||◌, ◌-◌, true, nat_eq, nat_le, Option, Some, None, List, [], ◌∷◌, ◌++◌, length, take, drop, map, refl, sym, ap, ◌∙◌, subst, arith}
use Rattle.std.proofs.lemmas.Bool.{eq-eqb, le-leb, lt-ltb, ltb-true}
use Rattle.std.proofs.lemmas.List.{append-nil, drop_all, drop-drop, drop-take, length-drop, length-take-le, map-append, take-take}
use Rattle.std.proofs.lemmas.Slice.Eq.{bytes_eq-Decides}
use Rattle.cg_base.specs.declared.kind.Sigil.{Sigil}
use Rattle.cg_base.specs.declared.kind.Sigil.TheVariants.{R, W, U}
use Rattle.cg_base.specs.declared.kind.Word.TheVariants.{U32}
use Rattle.cg_base.specs.Types.{Tau, var, seen, unit, word, bool, arrow, abs, variant, fields, Parts}
use Rattle.cg_base.specs.Words.{bits}
use Rattle.cg_cmachine_def.specs.Layouts.{Layout, cell, pointer, group, laid, members_in, size, sizes, same_layout, Spot, spot, walk, layout}
use Rattle.cg_cmachine_def.specs.Operands.{Value, literal, typed, Frame, judge, read, read_path, give, part_of}
use Rattle.cg_cmachine_def.specs.Outcomes.{ok}
use Rattle.cg_cmachine_def.specs.Targets.{spliced, with_scalars, write}
use Rattle.cg_ctree.specs.declared.tree.COpnd.{COpnd}
use Rattle.cg_ctree.specs.declared.tree.CStruct.{CStruct}
use Rattle.cg_ctree.specs.declared.tree.CTy.TheVariants as ty
use Rattle.cg_heap.specs.declared.cell.Cell.TheVariants.{Slots}
use Rattle.cg_heap.specs.declared.cell.Scalar.{Scalar}
use Rattle.cg_heap.specs.declared.cell.Scalar.TheVariants.{Unset, Word as NumberScalar, Address}
use Rattle.cg_heap.specs.Reps.{slots}
use Rattle.cg_heap.specs.Stored.{Stored, cell_at, changed}
use Rattle.cg_update.specs.Machines.{is_machine, is_number_below, is_address, is_place_of, is_type, part_at, type_of_part, with_part_at}
use Rattle.cg_lower_def.specs.CTypes.{count, record_struct, variant_struct, IsDeclared}
use Rattle.cg_cgen_def.specs.Places.{Step, step_name, field, payload, tag, Base, base_name, Place, number, held, at, path, arrow_path, operand}
use Rattle.cg_lower_laws.proofs.Frames.{Is, IsPart, IsNumeral, Keeps}
use Rattle.cg_lower_laws.proofs.Layouts.{lay, before, part_declared, size_slots, field_leads, tag_leads, payload_leads, part_is, with_part_is, is_within, field_fits, payload_fits, tag_fits, walk_on}
use Rattle.cg_cmachine_laws.proofs.LayoutLaws.{layout_unfolds}
use Rattle.cg_base.proofs.WordLaws.{word_same as same_word_is}

-- ---- values

-- numbers below a bound
pub below_is : (n : ℕ) (us : List Scalar) → is_number_below n us ≡ true → (k : ℕ) × (us ≡ NumberScalar k ∷ []) × (k < n)
below_is n [] e = absurd (cc)
below_is n (Unset ∷ us) e = absurd (cc)
below_is n (Address p ∷ us) e = absurd (cc)
below_is n (NumberScalar k ∷ []) e = (k, refl, ltb-true k n e)
below_is n (NumberScalar k ∷ (u ∷ us)) e = absurd (cc)

pub address_is : (us : List Scalar) → is_address us ≡ true → (p : ℕ) × (us ≡ Address p ∷ [])
address_is [] e = absurd (cc)
address_is (Unset ∷ us) e = absurd (cc)
address_is (NumberScalar k ∷ us) e = absurd (cc)
address_is (Address p ∷ []) e = (p, refl)
address_is (Address p ∷ (u ∷ us)) e = absurd (cc)

-- scalars of a layout that can be read: a number in range, an address, or a struct's, whatever they are
abbrev pub IsReadable : Layout → List Scalar → Type 0
IsReadable (cell w) us = (n : ℕ) × (us ≡ NumberScalar n ∷ []) × (n < 2 ^ bits w)
IsReadable (pointer x) us = (p : ℕ) × (us ≡ Address p ∷ [])
IsReadable (group x ms) us = Unit {0}

-- what is read of them is a value of that layout
pub readable : (l : Layout) (us : List Scalar) → IsReadable l us → read l us ≡ ok (typed l us)
readable (cell w) us r = rw r.1 (rw (lt-ltb r.0 (2 ^ bits w) r.2) refl)
readable (pointer x) us r = rw r.1 refl
readable (group x ms) us r = refl

-- the place of an instance of a type is a number
pub place_is : (types : ℕ → Option Tau) (t : Tau) (us : List Scalar) → is_place_of types t us ≡ true → (k : ℕ) × (us ≡ NumberScalar k ∷ []) × (is_type (types k) t ≡ true)
place_is types t [] e = absurd (cc)
place_is types t (Unset ∷ us) e = absurd (cc)
place_is types t (Address p ∷ us) e = absurd (cc)
place_is types t (NumberScalar k ∷ []) e = (k, refl, e)
place_is types t (NumberScalar k ∷ (u ∷ us)) e = absurd (cc)

is_some : (o : Option Tau) (t : Tau) → is_type o t ≡ true → (u : Tau) × (o ≡ Some u)
is_some None t e = absurd (cc)
is_some (Some u) t e = (u, refl)

-- a value of a layout is given as it is where one of that layout is needed
same_layout_is : (l : Layout) → same_layout l l ≡ true
same_layout_is (cell w) = same_word_is w
same_layout_is (pointer x) = (bytes_eq-Decides x x).1 refl
same_layout_is (group x ms) = rw ((bytes_eq-Decides x x).1 refl) (eq-eqb (sizes ms) (sizes ms) refl)

pub given_typed : (l : Layout) (us : List Scalar) → give l (typed l us) ≡ ok us
given_typed (cell w) us = rw (same_layout_is (cell w)) refl
given_typed (pointer x) us = rw (same_layout_is (pointer x)) refl
given_typed (group x ms) us = rw (same_layout_is (group x ms)) refl

-- ---- parts of parts

-- what is taken of the front of a list
cut : (n i m : ℕ) (xs : List Scalar) → i + n ≤ m → take n (drop i xs) ≡ take n (drop i (take m xs))
cut n i m xs h =
    sym (take-take n (n + (m - (i + n))) (drop i xs) (omega arith)) ∙ ap (take n) (sym (drop-take i (n + (m - (i + n))) xs)) ∙ ap (λ z. take n (drop i (take z xs))) (omega (arith, h))

module _ (numbered : Tau → ℕ) (ss : List CStruct) where
  -- a machine value can be read
  pub machine_readable : (types : ℕ → Option Tau) → ((k : ℕ) (t : Tau) → types k ≡ Some t → k < 2 ^ 32) → (t : Tau) (us : List Scalar)
      → is_machine types t us ≡ true → IsReadable (lay numbered ss t) us
  unfolding is_machine
  machine_readable types few (var n) us e = absurd (cc)
  machine_readable types few (seen n) us e = absurd (cc)
  machine_readable types few unit us e = let b = below_is 1 us e in (b.0, b.1, let h = b.2 in omega (arith, h))
  machine_readable types few (word w) us e = below_is (2 ^ bits w) us e
  machine_readable types few bool us e = let b = below_is 2 us e in (b.0, b.1, let h = b.2 in omega (arith, h))
  machine_readable types few (arrow a b) us e = let k = place_is types (arrow a b) us e in let u = is_some (types k.0) (arrow a b) k.2 in (k.0, k.1, few k.0 u.0 u.1)
  machine_readable types few (abs x args sigil) us e = address_is us e
  machine_readable types few (variant ps) us e = subst (λ l. IsReadable l us) (sym (layout_unfolds ss (variant_struct numbered ps))) tt
  machine_readable types few (fields ps U) us e = subst (λ l. IsReadable l us) (sym (layout_unfolds ss (record_struct numbered ps))) tt
  machine_readable types few (fields ps R) us e = address_is us e
  machine_readable types few (fields ps W) us e = address_is us e

  -- and is given as it is where its type is needed
  pub record Reads (m : Stored) (fr : Frame) (o : COpnd) (l : Layout) (us : List Scalar) : Type 0 where
    pub value : Value
    pub read : judge ss m fr o ≡ ok value
    pub given : give l value ≡ ok us

  pub reads : (m : Stored) (fr : Frame) (v : Place) (l : Layout) (us : List Scalar) → Keeps fr v l us → IsReadable l us → Reads m fr (operand v) l us
  reads m fr (number n) l us k r =
      let here : give (cell k.word) (literal n) ≡ ok (NumberScalar n ∷ []) = rw (lt-ltb n (2 ^ bits k.word) k.small) refl in
      record { value = literal n; read = refl; given = subst (λ z. give z (literal n) ≡ ok us) (sym k.laid) (here ∙ ap ok (sym k.is)) }
  reads m fr (held b steps) l us k r =
      record {
        value = typed l us;
        read = rw (k.found, k.leads) (ap (λ z. read z (part_of k.spot k.variable.scalars)) k.laid ∙ ap (read l) k.part ∙ readable l us r);
        given = given_typed l us;
      }

  -- ---- parts of what is kept

  -- a part of a variable's part
  pub part_of_part : (fr : Frame) (x : List ℕ) (names : List (List ℕ)) (l : Layout) (us : List Scalar) (name : List ℕ) (t : Spot) → IsPart fr x names l us
      → walk (name ∷ []) l ≡ Some t → t.start + size t.layout ≤ size l → IsPart fr x (names ++ name ∷ []) t.layout (take (size t.layout) (drop t.start us))
  part_of_part fr x names l us name t k e h =
      record {
        variable = k.variable;
        found = k.found;
        sized = k.sized;
        spot = spot (k.spot.start + t.start) t.layout;
        leads = walk_on numbered ss names (name ∷ []) k.variable.layout k.spot t k.leads (ap (walk (name ∷ [])) k.laid ∙ e);
        laid = refl;
        part = inner;
        full = length-take-le (size t.layout) (drop t.start us) (omega (arith, length-drop t.start us, k.full, h));
      }
    where
      inner : take (size t.layout) (drop (k.spot.start + t.start) k.variable.scalars) ≡ take (size t.layout) (drop t.start us)
      inner =
          let whole : take (size l) (drop k.spot.start k.variable.scalars) ≡ us = ap (λ z. take (size z) (drop k.spot.start k.variable.scalars)) (sym k.laid) ∙ k.part in
          ap (take (size t.layout)) (sym (drop-drop t.start k.spot.start k.variable.scalars))
          ∙ cut (size t.layout) t.start (size l) (drop k.spot.start k.variable.scalars) h
          ∙ ap (λ z. take (size t.layout) (drop t.start z)) whole

  -- the structs of a field's type, and of a payload's
  pub field_declared : (ps : Parts) (sigil : Sigil) (i : ℕ) → IsDeclared numbered ss (fields ps sigil) → i < count ps → IsDeclared numbered ss (type_of_part i ps)
  unfolding IsDeclared
  field_declared ps sigil i d h = part_declared numbered ss ps i d.2 h

  pub payload_declared : (ps : Parts) (i : ℕ) → IsDeclared numbered ss (variant ps) → i < count ps → IsDeclared numbered ss (type_of_part i ps)
  unfolding IsDeclared
  payload_declared ps i d h = part_declared numbered ss ps i d.2 h

  -- a number is no struct
  number_no_struct : (x : List ℕ) (n : ℕ) (us : List Scalar) → IsNumeral n (layout ss (ty.Struct x)) us → ⊥
  number_no_struct x n us k = let e : group x (laid (layout ss) (members_in ss x)) ≡ cell k.word = sym (layout_unfolds ss x) ∙ k.laid in absurd (cc)

  -- a part of what is kept at a place of a struct
  keeps_part : (fr : Frame) (v : Place) (x : List ℕ) (s : Step) (us : List Scalar) (t : Spot) → Keeps fr v (layout ss (ty.Struct x)) us
      → walk (step_name s ∷ []) (layout ss (ty.Struct x)) ≡ Some t → t.start + size t.layout ≤ size (layout ss (ty.Struct x)) → Keeps fr (at s v) t.layout (take (size t.layout) (drop t.start us))
  keeps_part fr (number n) x s us t k e h = absurd (number_no_struct x n us k)
  keeps_part fr (held b steps) x s us t k e h =
      subst (λ z. IsPart fr (base_name b) z t.layout (take (size t.layout) (drop t.start us))) (sym (map-append step_name steps (s ∷ [])))
      (part_of_part fr (base_name b) (map step_name steps) (layout ss (ty.Struct x)) us (step_name s) t k e (let f = k.full in omega (arith, h, f)))

  pub keeps_field : (fr : Frame) (v : Place) (ps : Parts) (i : ℕ) (us ws : List Scalar) → IsDeclared numbered ss (fields ps U) → Keeps fr v (lay numbered ss (fields ps U)) us
      → part_at i ps us ≡ Some ws → Keeps fr (at (field i) v) (lay numbered ss (type_of_part i ps)) ws
  keeps_field fr v ps i us ws d k e =
      let w = part_is i ps us ws e in
      let same = size_slots numbered ss (type_of_part i ps) (field_declared ps U i d w.0) in
      let part = keeps_part fr v (record_struct numbered ps) (field i) us (spot (before i ps) (lay numbered ss (type_of_part i ps))) k (field_leads numbered ss ps U i d w.0) (field_fits numbered ss ps i d w.0) in
      subst (Keeps fr (at (field i) v) (lay numbered ss (type_of_part i ps))) (ap (λ n. take n (drop (before i ps) us)) same ∙ sym w.1) part

  pub keeps_payload : (fr : Frame) (v : Place) (ps : Parts) (i : ℕ) (u : Scalar) (us ws : List Scalar) → IsDeclared numbered ss (variant ps)
      → Keeps fr v (lay numbered ss (variant ps)) (u ∷ us) → part_at i ps us ≡ Some ws → Keeps fr (at (payload i) v) (lay numbered ss (type_of_part i ps)) ws
  keeps_payload fr v ps i u us ws d k e =
      let w = part_is i ps us ws e in
      let same = size_slots numbered ss (type_of_part i ps) (payload_declared ps i d w.0) in
      let part = keeps_part fr v (variant_struct numbered ps) (payload i) (u ∷ us) (spot (suc (before i ps)) (lay numbered ss (type_of_part i ps))) k (payload_leads numbered ss ps i d w.0) (payload_fits numbered ss ps i d w.0) in
      subst (Keeps fr (at (payload i) v) (lay numbered ss (type_of_part i ps))) (ap (λ n. take n (drop (before i ps) us)) same ∙ sym w.1) part

  pub keeps_tag : (fr : Frame) (v : Place) (ps : Parts) (n : ℕ) (us : List Scalar) → IsDeclared numbered ss (variant ps)
      → Keeps fr v (lay numbered ss (variant ps)) (NumberScalar n ∷ us) → Keeps fr (at tag v) (cell U32) (NumberScalar n ∷ [])
  unfolding size
  keeps_tag fr v ps n us d k = keeps_part fr v (variant_struct numbered ps) tag (NumberScalar n ∷ us) (spot 0 (cell U32)) k (tag_leads numbered ss ps d) (tag_fits numbered ss ps d)

  -- ---- what is written

  -- a part of a variable
  pub write_part : (m : Stored) (fr : Frame) (b : Base) (steps : List Step) (l : Layout) (old us : List Scalar) (t : Spot) (v : Value) → Is fr (base_name b) l old
      → walk (map step_name steps) l ≡ Some t → give t.layout v ≡ ok us
      → write ss fr m (path b steps) v ≡ ok (record { frame = with_scalars (base_name b) (spliced t us old) fr; store = m })
  write_part m fr b steps l old us t v i e g =
      rw (i.found, i.laid, e, g) (ap (λ z. ok (record { frame = with_scalars (base_name b) (spliced t us z) fr; store = m })) i.holds)

  -- a whole variable
  pub write_whole : (m : Stored) (fr : Frame) (b : Base) (l : Layout) (old us : List Scalar) (v : Value) → Is fr (base_name b) l old → give l v ≡ ok us
      → write ss fr m (path b []) v ≡ ok (record { frame = with_scalars (base_name b) us fr; store = m })
  write_whole m fr b l old us v i g =
      write_part m fr b [] l old us (spot 0 l) v i refl g
      ∙ ap (λ z. ok (record { frame = with_scalars (base_name b) z fr; store = m })) (ap (λ z. us ++ z) (drop_all (0 + size l) old (let h = i.sized in omega (arith, h))) ∙ append-nil us)

  -- ---- cells

  -- a field of the cell that a variable points to
  pub read_cell : (m : Stored) (fr : Frame) (b : Base) (ps : Parts) (sigil : Sigil) (i q : ℕ) (row ws : List Scalar) → IsDeclared numbered ss (fields ps sigil)
      → Is fr (base_name b) (pointer (record_struct numbered ps)) (Address q ∷ []) → cell_at m q ≡ Some (Slots row) → part_at i ps row ≡ Some ws
      → IsReadable (lay numbered ss (type_of_part i ps)) ws
      → read_path ss m fr (arrow_path b (field i ∷ [])) ≡ ok (typed (lay numbered ss (type_of_part i ps)) ws)
  read_cell m fr b ps sigil i q row ws d is c e r =
      let w = part_is i ps row ws e in
      let same = size_slots numbered ss (type_of_part i ps) (field_declared ps sigil i d w.0) in
      let there : take (size (lay numbered ss (type_of_part i ps))) (drop (before i ps) row) ≡ ws = ap (λ n. take n (drop (before i ps) row)) same ∙ sym w.1 in
      rw (is.found, is.laid, is.holds, c, field_leads numbered ss ps sigil i d w.0)
      (rw there (rw (le-leb (size (lay numbered ss (type_of_part i ps))) (length ws) (let h = w.3 in omega (arith, h, same))) (readable (lay numbered ss (type_of_part i ps)) ws r)))

  pub write_cell : (m : Stored) (fr : Frame) (b : Base) (ps : Parts) (sigil : Sigil) (i q : ℕ) (row ws after : List Scalar) (v : Value) → IsDeclared numbered ss (fields ps sigil)
      → Is fr (base_name b) (pointer (record_struct numbered ps)) (Address q ∷ []) → cell_at m q ≡ Some (Slots row) → with_part_at i ps ws row ≡ Some after
      → give (lay numbered ss (type_of_part i ps)) v ≡ ok ws → length ws ≡ slots (type_of_part i ps)
      → write ss fr m (arrow_path b (field i ∷ [])) v ≡ ok (record { frame = fr; store = changed (λ c. Some (Slots after)) q m })
  write_cell m fr b ps sigil i q row ws after v d is c e g h =
      let w = with_part_is i ps ws row after e h in
      let same = size_slots numbered ss (type_of_part i ps) (field_declared ps sigil i d w.0) in
      let fits = subst (λ n. (nat_eq n 0 || nat_le (before i ps + n) (length row)) ≡ true) (sym same) (is_within (before i ps) (slots (type_of_part i ps)) (length row) w.1) in
      let made : spliced (spot (before i ps) (lay numbered ss (type_of_part i ps))) ws row ≡ after = ap (λ n. take (before i ps) row ++ ws ++ drop (before i ps + n) row) same ∙ sym w.2 in
      rw (is.found, is.laid, is.holds, c, field_leads numbered ss ps sigil i d w.0)
      (rw fits (rw g (rw made refl)))
