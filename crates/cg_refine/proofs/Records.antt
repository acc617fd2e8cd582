-- Records in a heap: a field that is read, another value that is put for a field, and an unboxed record that is made of its fields.
use Rattle.std.proofs.Common.{◌≡◌, ℕ, ◌+◌, ◌≤◌, Bool, true, false, nat_eq, IsTrue, Some, List, [], ◌++◌, refl, sym, ap, ◌∙◌, subst, arith}
use Rattle.std.proofs.lemmas.List.{append-nil, drop_at, take_at}
use Rattle.std.specs.FinMap as map
use Rattle.std.specs.Prelude.{slice_set}
use Rattle.cg_base.proofs.Counts.{eqb_same as eq_self, no_steps as never}
use Rattle.cg_base.specs.declared.kind.Sigil.{Sigil}
use Rattle.cg_base.specs.declared.kind.Sigil.TheVariants.{R, W, U}
use Rattle.cg_base.specs.Types.{Tau, fields, Parts, part}
use Rattle.cg_eval_operations.specs.Positions.{position, position_among}
use Rattle.cg_heap.specs.Calls.{heap_of}
use Rattle.cg_heap.specs.declared.cell.Cell.{Cell}
use Rattle.cg_heap.specs.declared.cell.Cell.TheVariants.{Slots}
use Rattle.cg_heap.specs.declared.cell.Scalar.{Scalar}
use Rattle.cg_heap.specs.Reps.{Heap, HeapWorld, Holds, HoldsAll, counted, first_address, foot, foot_all, inner, one_if, slots, slots_in}
use Rattle.cg_heap.specs.Steps.{IsFine, Step, side}
use Rattle.cg_heap.specs.Stored.{Stored, cell_at, changed, in_cell, in_place}
use Rattle.cg_heap_laws.proofs.Same.{holds_all_same, holds_same}
use Rattle.cg_heap_laws.proofs.Steps.{nothing_is_a_step, writes_are_steps}
use Rattle.cg_heap_laws.specs.StepLaws.{IsWrittenAt}
use Rattle.cg_heap_laws.proofs.Stores.{get_insert, written_here, written_other}
use Rattle.cg_refine.proofs.Parts.{in_front, lost, nothing_lost, put_foot, put_row, put_row_is, taken_foot}
use Rattle.cg_refine_def.specs.Refined.{IsGiven, side_of}
use Rattle.cg_typing.specs.Parts.{field_in, held, is_left, is_read_only, is_there, may_be_put_over, part_named, parts_with, with_part}
use Rattle.cg_typing_laws.proofs.Named.{left_is_there as left_there}
use Rattle.cg_update.specs.Calls.{Program}
use Rattle.cg_update.specs.Machines.{part_at, with_part_at}
use Rattle.cg_update.specs.Outcomes.{State, gives, on, with_store}
use Rattle.cg_update.specs.Turns.{fields_in}
use Rattle.cg_update.specs.Updates as updates
use Rattle.cg_update.specs.Updates.{cell_slots, row_of, sigil_of}
use Rattle.cg_update_laws.proofs.Held.{all_slots, holds_slots}
use Rattle.cg_update_laws.proofs.Named.{field_held, field_put, field_taken}
use Rattle.cg_value.specs.Forms.{field, with_field, without}
use Rattle.cg_value.specs.Values.{Val, Vals, to_vals, val_list}

-- ---- plain facts

within : (a b c : ℕ) → a + b ≡ c → b ≤ c
within a b c e = omega arith

-- ---- a field that is read
module _ (world : HeapWorld) (h : Heap) where
  abbrev H : Tau → List Scalar → Val → Type 0
  H t us v = Holds world h t us v

  -- a field that is left, read where the record's fields stand
  pub record FieldRead (n : List ℕ) (t : Tau) (us : List Scalar) (v : Val) : Type 0 where
    pub row : List Scalar
    pub scalars : List Scalar
    pub there : part_at (position n t) (fields_in t) row ≡ Some scalars
    pub holds : H (held (field_in n t)) scalars (field v (position n t))
    pub inside : (m : Sigil) (q : ℕ) → foot h m (held (field_in n t)) scalars q ≤ foot h m t us q
    pub rest : H (with_part n true t) us (without v (position n t))
    pub sum : (m : Sigil) (q : ℕ) → foot h m (with_part n true t) us q + foot h m (held (field_in n t)) scalars q ≡ foot h m t us q

  -- a field and the rest of the record reach what the record did
  record_sum : (n : List ℕ) (ps : Parts) (s : Sigil) (us ws : List Scalar) → IsTrue (is_left (part_named n ps)) → part_at (position_among n ps) ps (inner h s us) ≡ Some ws
      → (m : Sigil) (q : ℕ) → foot h m (fields (parts_with n true ps) s) us q + foot h m (held (part_named n ps)) ws q ≡ foot h m (fields ps s) us q
  unfolding foot
  record_sum n ps s us ws l e m q = in_front (counted m s (first_address us) q) _ _ _ (taken_foot h m q n ps (inner h s us) ws l e)

  pub field_read : (n : List ℕ) (t : Tau) (us : List Scalar) (v : Val) → H t us v → IsTrue (is_left (field_in n t)) → FieldRead n t us v
  unfolding Holds position field without
  field_read n (fields ps s) us v k l =
      let r = field_held world h n ps (inner h s us) k.0 k.2 l in
      record {
        row = inner h s us;
        scalars = r.scalars;
        there = r.there;
        holds = subst (λ z. H (held (part_named n ps)) r.scalars (field z (position_among n ps))) (sym k.3) r.holds;
        inside = λ m q. within _ _ _ (record_sum n ps s us r.scalars l r.there m q);
        rest =
            subst (λ z. H (fields (parts_with n true ps) s) us (without z (position_among n ps))) (sym k.3)
            (_, k.1, field_taken world h n ps (inner h s us) k.0 k.2 (left_there (part_named n ps) l), refl);
        sum = λ m q. record_sum n ps s us r.scalars l r.there m q;
      }
  field_read n _ us v k l = never l

module _ (world : HeapWorld) where
  -- the fields stand in that row
  pub row_is : (n : List ℕ) (t : Tau) (us : List Scalar) (v : Val) (s : Stored) (k : Holds world (heap_of s) t us v) (l : IsTrue (is_left (field_in n t)))
      → row_of (sigil_of t) us s ≡ Some (field_read world (heap_of s) n t us v k l).row
  unfolding field_read Holds
  row_is n (fields ps U) us v s k l = refl
  row_is n (fields ps R) us v s k l = ap cell_slots k.1.1
  row_is n (fields ps W) us v s k l = ap cell_slots k.1.1
  row_is n _ us v s k l = never l

-- ---- an unboxed record that is made of its fields
module _ (world : HeapWorld) (h : Heap) where
  -- a field in front of others
  pub front_foot : (x : List ℕ) (t : Tau) (ps : Parts) (us rs : List Scalar) (v : Val) → Holds world h t us v
      → (m : Sigil) (q : ℕ) → foot_all h m (part x t false ps) (us ++ rs) q ≡ foot h m t us q + foot_all h m ps rs q
  unfolding foot
  front_foot x t ps us rs v k m q =
      let long = holds_slots world h t us v k in rw (take_at us rs (slots t) long, drop_at us rs (slots t) long) refl

  -- it reaches what its fields do
  pub unboxed_foot : (ps : Parts) (us : List Scalar) (m : Sigil) (q : ℕ) → foot h m (fields ps U) us q ≡ foot_all h m ps us q
  unfolding foot
  unboxed_foot ps us R q = omega arith
  unboxed_foot ps us W q = omega arith
  unboxed_foot ps us U q = omega arith

-- ---- another value for a field

-- at one address, by numbers alone: what is written after, where nothing is lost, and what is read
writes_kept : (a f l g b : ℕ) → f + l ≡ g + b → l ≡ 0 → a + f ≡ (a + g) + b
writes_kept a f l g b e z = omega arith

reads_less : (a f l g b : ℕ) → f + l ≡ g + b → 1 ≤ a + f → 1 ≤ (a + g) + b
reads_less a f l g b e k = omega arith

-- a record's own address is written, and what else is reached doesn't stand there
own_counts : (a x y : ℕ) → 1 ≤ (one_if (nat_eq a a) + x) + y
own_counts a x y = rw (eq_self a) (omega arith)

stands_elsewhere : (b : Bool) (xw yw xr yr : ℕ) → (1 ≤ (one_if b + xw) + yw → ((one_if b + xw) + yw) + ((0 + xr) + yr) ≤ 1) → 1 ≤ (xw + xr) + (yw + yr) → b ≡ false
stands_elsewhere true xw yw xr yr f k = absurd (let z = f (omega arith) in omega arith)
stands_elsewhere false xw yw xr yr f k = refl

in_first : (a b c d : ℕ) → 1 ≤ a + b → 1 ≤ (a + b) + (c + d)
in_first a b c d k = omega arith

in_second : (a b c d : ℕ) → 1 ≤ c + d → 1 ≤ (a + b) + (c + d)
in_second a b c d k = omega arith

same_row : (xs ys : List Scalar) → Some xs ≡ Some ys → xs ≡ ys
same_row xs ys e = cc

-- ---- slots at an address of a store

abbrev slots_put : ℕ → List Scalar → Stored → Stored
slots_put a row s = record { cells = map.insert s.cells a (Slots row); top = s.top }

slots_are_put : (a : ℕ) (row : List Scalar) (c : Cell) (s : Stored) → cell_at s a ≡ Some c → changed (λ c. Some (Slots row)) a s ≡ slots_put a row s
slots_are_put a row c s e = ap (λ o. in_place a (in_cell (λ c. Some (Slots row)) o) s) e

slots_here : (a : ℕ) (row : List Scalar) (s : Stored) → heap_of (slots_put a row s) a ≡ Some (Slots row)
slots_here a row s = written_here (heap_of s) (heap_of (slots_put a row s)) a (Some (Slots row)) (get_insert s.cells a (Slots row))

slots_written : (a : ℕ) (row : List Scalar) (s : Stored) → IsWrittenAt (heap_of s) a (Some (Slots row)) (heap_of (slots_put a row s))
slots_written a row s q = (
  λ e. subst (λ q. heap_of (slots_put a row s) q ≡ Some (Slots row)) e (slots_here a row s),
  written_other (heap_of s) (heap_of (slots_put a row s)) a (Some (Slots row)) (get_insert s.cells a (Slots row)) q,
)

-- ---- the value is put
module _ (world : HeapWorld) (n : List ℕ) (ps : Parts) (ws : List Scalar) (w : Val) (there : IsTrue (is_there (part_named n ps))) where
  abbrev field_type : Tau
  field_type = held (part_named n ps)

  abbrev now : Vals → Vals
  now vs = to_vals (slice_set (val_list vs) (position_among n ps) w)

  -- the row holds it
  row_holds : (h : Heap) (ss : List Scalar) (vs : Vals) → HoldsAll world h ps ss vs → Holds world h field_type ws w → HoldsAll world h (parts_with n false ps) (put_row n ps ss ws) (now vs)
  row_holds h ss vs k g =
      let r = field_put world h n ps ss ws vs w k there g in
      subst (λ z. HoldsAll world h (parts_with n false ps) z (now vs)) (same_row r.row (put_row n ps ss ws) (sym r.there ∙ put_row_is n ps ss ws there (all_slots world h ps ss vs k))) r.holds

  -- and reaches what was reached, but for what is lost
  row_foot : (h : Heap) (ss : List Scalar) (vs : Vals) → HoldsAll world h ps ss vs → Holds world h field_type ws w → (m : Sigil) (q : ℕ)
      → foot_all h m (parts_with n false ps) (put_row n ps ss ws) q + lost h m q n ps ss ≡ foot_all h m ps ss q + foot h m field_type ws q
  row_foot h ss vs k g m q = put_foot h m q n ps ss ws there (all_slots world h ps ss vs k) (holds_slots world h field_type ws w g)

  module _ (p : Program) (us : List Scalar) (v : Val) (s : State) (left : ℕ) (over : IsTrue (may_be_put_over [] (part_named n ps))) (g : Holds world (heap_of s.store) field_type ws w) where
    abbrev h : Heap
    h = heap_of s.store

    abbrev Fine : Sigil → Type 0
    Fine sigil = IsFine (side_of s (λ q. foot h W (fields ps sigil) us q + foot h W field_type ws q) (λ q. foot h R (fields ps sigil) us q + foot h R field_type ws q))

    abbrev Given : Sigil → Type 0
    Given sigil =
        IsGiven world s (λ q. foot h W (fields ps sigil) us q + foot h W field_type ws q) (λ q. foot h R (fields ps sigil) us q + foot h R field_type ws q)
        (fields (parts_with n false ps) sigil) (with_field v (position_among n ps) w) left (updates.write p (fields ps sigil) (position_among n ps) us ws s left)

    -- into an unboxed record
    put_unboxed : Holds world h (fields ps U) us v → Fine U → Given U
    unfolding Holds foot with_field
    put_unboxed k f = record {
      scalars = put_row n ps us ws;
      state = s;
      is = ap (λ o. on o (λ row. updates.with_row U us row s left)) (put_row_is n ps us ws there (all_slots world h ps us k.0 k.2));
      holds =
          subst (λ z. Holds world h (fields (parts_with n false ps) U) (put_row n ps us ws) (with_field z (position_among n ps) w)) (sym k.3)
          (_, tt {0}, row_holds h us k.0 k.2 g, refl);
      reached = record {
        made = [];
        freed = [];
        all_made = sym (append-nil s.made);
        all_freed = sym (append-nil s.freed);
        step =
            nothing_is_a_step h s.store.top _ _ _ _ f
            (λ q. writes_kept 0 _ (lost h W q n ps us) _ _ (row_foot h us k.0 k.2 g W q) (nothing_lost h q n ps us over))
            (λ q. reads_less 0 _ (lost h R q n ps us) _ _ (row_foot h us k.0 k.2 g R q));
      };
    }

    -- into one whose fields stand in a cell
    abbrev own : ℕ
    own = first_address us

    abbrev old_row : List Scalar
    old_row = slots_in (h own)

    abbrev new_row : List Scalar
    new_row = put_row n ps old_row ws

    abbrev after : Stored
    after = slots_put own new_row s.store

    abbrev h' : Heap
    h' = heap_of after

    -- what else is reached is as it was
    near : Fine W → (q : ℕ) → 1 ≤ (foot_all h W ps old_row q + foot_all h R ps old_row q) + (foot h W field_type ws q + foot h R field_type ws q) → h' q ≡ h q
    unfolding foot
    near f q k =
        (slots_written own new_row s.store q).1
        (stands_elsewhere (nat_eq own q) (foot_all h W ps old_row q) (foot h W field_type ws q) (foot_all h R ps old_row q) (foot h R field_type ws q) (f.apart q) k)

    module _ (vs : Vals) (k : HoldsAll world h ps old_row vs) (f : Fine W) where
      fields_kept : HoldsAll world h' ps old_row vs × ((m : Sigil) (q : ℕ) → foot_all h' m ps old_row q ≡ foot_all h m ps old_row q)
      fields_kept = holds_all_same world h h' ps old_row vs k (λ q l. near f q (in_first _ _ (foot h W field_type ws q) (foot h R field_type ws q) l))

      value_kept : Holds world h' field_type ws w × ((m : Sigil) (q : ℕ) → foot h' m field_type ws q ≡ foot h m field_type ws q)
      value_kept = holds_same world h h' field_type ws w g (λ q l. near f q (in_second (foot_all h W ps old_row q) (foot_all h R ps old_row q) _ _ l))

      -- the record's own cell has the row
      row_there : slots_in (h' own) ≡ new_row
      row_there = ap slots_in (slots_here own new_row s.store)

      holds_after : HoldsAll world h' (parts_with n false ps) (slots_in (h' own)) (now vs)
      holds_after = subst (λ z. HoldsAll world h' (parts_with n false ps) z (now vs)) (sym row_there) (row_holds h' old_row vs fields_kept.0 value_kept.0)

      foot_after : (m : Sigil) (q : ℕ) → foot_all h' m (parts_with n false ps) (slots_in (h' own)) q + lost h' m q n ps old_row ≡ foot_all h m ps old_row q + foot h m field_type ws q
      foot_after m q =
          ap (λ z. foot_all h' m (parts_with n false ps) z q + lost h' m q n ps old_row) row_there ∙ row_foot h' old_row vs fields_kept.0 value_kept.0 m q
          ∙ ap (λ z. z + foot h' m field_type ws q) (fields_kept.1 m q) ∙ ap (λ z. foot_all h m ps old_row q + z) (value_kept.1 m q)

      step_after : Step (side_of s (λ q. foot h W (fields ps W) us q + foot h W field_type ws q) (λ q. foot h R (fields ps W) us q + foot h R field_type ws q)) [] []
          (side h' s.store.top (foot h' W (fields (parts_with n false ps) W) us) (foot h' R (fields (parts_with n false ps) W) us))
      unfolding foot
      step_after =
          writes_are_steps h h' s.store.top own (Slots new_row) _ _ _ _ f (own_counts own (foot_all h W ps old_row own) (foot h W field_type ws own)) (slots_written own new_row s.store)
          (λ q. writes_kept (one_if (nat_eq own q)) _ (lost h' W q n ps old_row) _ _ (foot_after W q) (nothing_lost h' q n ps old_row over))
          (λ q. reads_less 0 _ (lost h' R q n ps old_row) _ _ (foot_after R q))

    put_boxed : Holds world h (fields ps W) us v → Fine W → Given W
    unfolding Holds with_field
    put_boxed k f =
        let e : h own ≡ Some (Slots old_row) = k.1.1 in
        record {
          scalars = us;
          state = with_store after s;
          is =
              ap (λ o. on (updates.cell_slots o) (λ row. on (with_part_at (position_among n ps) ps ws row) (λ after. updates.with_row W us after s left))) e
              ∙ ap (λ o. on o (λ after. updates.with_row W us after s left)) (put_row_is n ps old_row ws there (all_slots world h ps old_row k.0 k.2))
              ∙ ap (λ m. gives us (with_store m s) left) (slots_are_put own new_row (Slots old_row) s.store e);
          holds =
              subst (λ z. Holds world h' (fields (parts_with n false ps) W) us (with_field z (position_among n ps) w)) (sym k.3)
              (_, (k.1.0, slots_here own new_row s.store ∙ ap (λ z. Some (Slots z)) (sym (row_there k.0 k.2 f))), holds_after k.0 k.2 f, refl);
          reached = record {
            made = [];
            freed = [];
            all_made = sym (append-nil s.made);
            all_freed = sym (append-nil s.freed);
            step = step_after k.0 k.2 f;
          };
        }

module _ (world : HeapWorld) where
  -- a value is put for a field of a record that may be written: the field was taken, or what it held may be dropped
  pub put_given : (p : Program) (n : List ℕ) (t : Tau) (us ws : List Scalar) (v w : Val) (s : State) (left : ℕ) → Holds world (heap_of s.store) t us v → IsTrue (is_there (field_in n t))
      → is_read_only t ≡ false → IsTrue (may_be_put_over [] (field_in n t)) → Holds world (heap_of s.store) (held (field_in n t)) ws w
      → IsFine (side_of s (λ q. foot (heap_of s.store) W t us q + foot (heap_of s.store) W (held (field_in n t)) ws q)
      (λ q. foot (heap_of s.store) R t us q + foot (heap_of s.store) R (held (field_in n t)) ws q))
      → IsGiven world s (λ q. foot (heap_of s.store) W t us q + foot (heap_of s.store) W (held (field_in n t)) ws q)
      (λ q. foot (heap_of s.store) R t us q + foot (heap_of s.store) R (held (field_in n t)) ws q)
      (with_part n false t) (with_field v (position n t) w) left (updates.write p t (position n t) us ws s left)
  unfolding position
  put_given p n (fields ps U) us ws v w s left k l r o g f = put_unboxed world n ps ws w l p us v s left o g k f
  put_given p n (fields ps R) us ws v w s left k l r o g f = never (sym r)
  put_given p n (fields ps W) us ws v w s left k l r o g f = put_boxed world n ps ws w l p us v s left o g k f
  put_given p n _ us ws v w s left k l r o g f = never l
