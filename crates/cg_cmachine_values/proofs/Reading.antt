-- What is read of frames and cells.
use Rattle.std.proofs.Common.{rules, ◌≡◌, ℕ, zero, suc, ◌+◌, ◌<◌, ◌||◌, Bool, true, false, List, [], ◌∷◌, ◌++◌, length, map, take, drop, get_or, slice_get, refl, sym, ap, ◌∙◌, arith}
use Rattle.std.proofs.Math.Dec.{eqb-suc-zero}
use Rattle.std.proofs.lemmas.Bool.{le-leb, leb-true, leb-false, lt-leb}
use Rattle.std.proofs.lemmas.List.{take_all, take_more, length-map, length-take, length-take-le, length-drop}
use Rattle.std.proofs.lemmas.Option.{slice_get-map, slice_get_within, get_or_from_slice_get, same_Some}
use Rattle.std.specs.Bool.{nat_eq, nat_le}
use Rattle.std.specs.Option.{option_map}
use Rattle.std.specs.declared.option.Option.{Option}
use Rattle.std.specs.declared.option.Option.TheVariants.{None, Some}
use Rattle.std.specs.declared.result.Result.TheVariants.{Err}
use Rattle.cg_base.specs.declared.kind.Word.{Word as Word'}
use Rattle.cg_cmachine_layout.specs.declared.kind.Kind.{Kind}
use Rattle.cg_cmachine_layout.specs.declared.kind.Kind.TheVariants as kind
use Rattle.cg_cmachine_layout.specs.declared.kind.Part.{Part}
use Rattle.cg_cmachine_layout.specs.declared.shape.Shape.{Shape}
use Rattle.cg_cmachine_layout.specs.Kinds.{layout_of, shape_layout}
use Rattle.cg_cmachine_layout.proofs.Groups.{shape_grouped, one_word as size_word, one_pointer as size_pointer}
use Rattle.cg_cmachine_def.specs.Layouts.{Layout, Members, cell, pointer, group, size, spot}
use Rattle.cg_cmachine_def.specs.Operands.{Value, typed, present, scalars_in, only, read, read_part}
use Rattle.cg_cmachine_def.specs.Outcomes.{Judged, ok, no, on}
use Rattle.cg_ctree.specs.declared.why.Why.{Why}
use Rattle.cg_ctree.specs.declared.why.Why.TheVariants.{KindsDiffer, NoCell}
use Rattle.cg_cmachine_values.specs.declared.fault.RunFault.{RunFault}
use Rattle.cg_cmachine_values.specs.declared.fault.RunFault.TheVariants.{Stuck, Budget, Memory}
use Rattle.cg_cmachine_values.specs.declared.place.Operand.{Operand}
use Rattle.cg_cmachine_values.specs.Values.{AreWithin, IsOperandWithin, Tries, judged, judged_all, length_read, read_behind, slots_from, struct_behind}
use Rattle.cg_heap.specs.declared.cell.Cell.{Cell}
use Rattle.cg_heap.specs.declared.cell.Cell.TheVariants.{Slots, Words, Answers}
use Rattle.cg_heap.specs.declared.cell.Form.{Form}
use Rattle.cg_heap.specs.declared.cell.Scalar.{Scalar}
use Rattle.cg_heap.specs.declared.cell.Scalar.TheVariants.{Unset, Word}
use Rattle.cg_heap.specs.Readings.{held_scalars}
use Rattle.cg_heap.specs.Stored.{Stored, asked_of, cell_at, form_of, in_cell, slot_of}
use Rattle.cg_heap.proofs.CellItems.{slot_is}

-- ---- a slot of a frame

pub only_there : (us : List Scalar) (i : ℕ) (u : Scalar) → slice_get us i ≡ Some u → u ≡ only (drop i us)
only_there [] i u e = absurd (search (rules, e))
only_there (x ∷ us) zero u e = grind (arith, rules, e)
only_there (x ∷ us) (suc i) u e = only_there us i u e

pub only_nowhere : (us : List Scalar) (i : ℕ) → slice_get us i ≡ None → Unset ≡ only (drop i us)
only_nowhere [] zero e = refl
only_nowhere [] (suc i) e = refl
only_nowhere (x ∷ us) zero e = absurd (search (rules, e))
only_nowhere (x ∷ us) (suc i) e = only_nowhere us i e

pub first_only : (us : List Scalar) → only (take 1 us) ≡ only us
first_only [] = refl
first_only (u ∷ us) = refl

-- ---- a part of a variable

only_from : (l : Layout) (at : ℕ) (us : List Scalar) → size l ≡ 1 → only (slots_from at l us) ≡ only (drop at us)
only_from l at us e = rw e (first_only (drop at us))

pub read_word : (w : Word') (at : ℕ) (us : List Scalar) → read (cell w) (slots_from at (cell w) us) ≡ read (cell w) (only (drop at us) ∷ [])
unfolding size
read_word w at us = ap (λ u. read (cell w) (u ∷ [])) (only_from (cell w) at us refl)

pub read_pointer : (x : List ℕ) (at : ℕ) (us : List Scalar) → read (pointer x) (slots_from at (pointer x) us) ≡ read (pointer x) (only (drop at us) ∷ [])
unfolding size
read_pointer x at us = ap (λ u. read (pointer x) (u ∷ [])) (only_from (pointer x) at us refl)

read_group : (l : Layout) (x : List ℕ) (ms : Members) (us : List Scalar) → l ≡ group x ms → read l us ≡ ok (typed l us)
read_group l x ms us e = rw e refl

-- a struct's slots are copied, whatever they are
pub read_shape : (s : Shape) (us : List Scalar) → read (shape_layout s) us ≡ ok (typed (shape_layout s) us)
read_shape s us = read_group (shape_layout s) _ _ us (shape_grouped s)

-- ---- cells

pub present_none : (m : Stored) (p : ℕ) → cell_at m p ≡ None → present m p ≡ no NoCell
present_none m p e = rw e refl

pub present_some : (m : Stored) (p : ℕ) (c : Cell) → cell_at m p ≡ Some c → present m p ≡ ok c
present_some m p c e = rw e refl

get_behind : (us : List Scalar) (n i : ℕ) → slice_get (drop n us) i ≡ slice_get us (n + i)
get_behind us zero i = let start : 0 + i ≡ i = omega arith in rw start refl
get_behind [] (suc n) i = refl
get_behind (u ∷ us) (suc n) i = let next : suc n + i ≡ suc (n + i) = omega arith in rw next (get_behind us n i)

one_more : (us : List Scalar) (i : ℕ) (u : Scalar) → slice_get us i ≡ Some u → take (i + 1) us ≡ take i us ++ u ∷ []
one_more us i u e = take_more us i u (slice_get_within us i u e) ∙ ap (λ y. take i us ++ y ∷ []) (get_or_from_slice_get us i u u e)

no_more : (us : List Scalar) (i : ℕ) → slice_get us i ≡ None → take (i + 1) us ≡ take i us
no_more [] i e = take_all (i + 1) [] (omega arith) ∙ sym (take_all i [] (omega arith))
no_more (u ∷ us) zero e = absurd (search (rules, e))
no_more (u ∷ us) (suc i) e = let step : suc i + 1 ≡ suc (i + 1) = omega arith in rw step (ap (λ l. u ∷ l) (no_more us i e))

pub copy_more : (o : Option Cell) (n i : ℕ) (u : Scalar) → in_cell (slot_of (n + i)) o ≡ Some u → take (i + 1) (drop n (held_scalars o)) ≡ take i (drop n (held_scalars o)) ++ u ∷ []
copy_more o n i u e = one_more (drop n (held_scalars o)) i u (get_behind (held_scalars o) n i ∙ sym (slot_is o (n + i)) ∙ e)

pub copy_none : (o : Option Cell) (n i : ℕ) → in_cell (slot_of (n + i)) o ≡ None → take (i + 1) (drop n (held_scalars o)) ≡ take i (drop n (held_scalars o))
copy_none o n i e = no_more (drop n (held_scalars o)) i (get_behind (held_scalars o) n i ∙ sym (slot_is o (n + i)) ∙ e)

-- ---- one scalar of a cell

part_one : (us : List Scalar) (n : ℕ) (u : Scalar) → slice_get us n ≡ Some u → take 1 (drop n us) ≡ u ∷ []
part_one [] n u e = absurd (search (rules, e))
part_one (x ∷ us) zero u e = let same : x ≡ u = same_Some x u e in ap (λ y. y ∷ []) same
part_one (x ∷ us) (suc n) u e = part_one us n u e

part_none : (us : List Scalar) (n : ℕ) → slice_get us n ≡ None → take 1 (drop n us) ≡ []
part_none [] zero e = refl
part_none [] (suc n) e = refl
part_none (x ∷ us) zero e = absurd (search (rules, e))
part_none (x ∷ us) (suc n) e = part_none us n e

read_one : (l : Layout) (us : List Scalar) (n : ℕ) (u : Scalar) → size l ≡ 1 → slice_get us n ≡ Some u → read_part (spot n l) us ≡ read l (u ∷ [])
read_one l us n u one e = rw (one, part_one us n u e) refl

read_no : (l : Layout) (us : List Scalar) (n : ℕ) → size l ≡ 1 → slice_get us n ≡ None → read_part (spot n l) us ≡ no NoCell
read_no l us n one e = rw (one, part_none us n e) refl

one_in : (l : Layout) (c : Cell) (n : ℕ) (u : Scalar) → size l ≡ 1 → slot_of n c ≡ Some u → on (scalars_in c) (λ us. read_part (spot n l) us) ≡ read l (u ∷ [])
one_in l (Slots us) n u one e = read_one l us n u one e
one_in l (Words ns) n u one e = read_one l (map Word ns) n u one (slice_get-map Word ns n ∙ e)
one_in l (Answers bs) n u one e = absurd (search (rules, e))

none_in : (l : Layout) (c : Cell) (n : ℕ) → size l ≡ 1 → slot_of n c ≡ None → on (scalars_in c) (λ us. read_part (spot n l) us) ≡ no NoCell
none_in l (Slots us) n one e = read_no l us n one e
none_in l (Words ns) n one e = read_no l (map Word ns) n one (slice_get-map Word ns n ∙ e)
none_in l (Answers bs) n one e = refl

one_behind : (m : Stored) (p : ℕ) (o : Option Cell) (l : Layout) (n : ℕ) (u : Scalar) → cell_at m p ≡ o → size l ≡ 1 → in_cell (slot_of n) o ≡ Some u → struct_behind m p n l ≡ read l (u ∷ [])
one_behind m p None l n u is one e = absurd (search (rules, e))
one_behind m p (Some c) l n u is one e = rw (present_some m p c is) (one_in l c n u one e)

none_behind : (m : Stored) (p : ℕ) (o : Option Cell) (l : Layout) (n : ℕ) → cell_at m p ≡ o → size l ≡ 1 → in_cell (slot_of n) o ≡ None → struct_behind m p n l ≡ no NoCell
none_behind m p None l n is one e = rw (present_none m p is) refl
none_behind m p (Some c) l n is one e = rw (present_some m p c is) (none_in l c n one e)

-- a type of one slot, of which the scalar is there
pub read_there : (m : Stored) (p : ℕ) (l : Layout) (n : ℕ) (u : Scalar) → size l ≡ 1 → asked_of (slot_of n) p m ≡ Some u → struct_behind m p n l ≡ read l (u ∷ [])
read_there m p l n u one e = one_behind m p (cell_at m p) l n u refl one e

-- a type of one slot, which isn't there
pub read_nowhere : (m : Stored) (p : ℕ) (l : Layout) (n : ℕ) → size l ≡ 1 → asked_of (slot_of n) p m ≡ None → struct_behind m p n l ≡ no NoCell
read_nowhere m p l n one e = none_behind m p (cell_at m p) l n refl one e

-- ---- structs in cells

-- a part with a slot isn't one without slots
pub some_room : (k : ℕ) (b n : Bool) → (nat_eq (suc k) 0 || n) ≡ b → n ≡ b
some_room k b n e = sym (ap (λ z. z || n) (eqb-suc-zero k)) ∙ e

part_length : (n k : ℕ) (us : List Scalar) → (nat_eq k 0 || nat_le (n + k) (length us)) ≡ true → length (take k (drop n us)) ≡ k
part_length n zero us room = refl
part_length n (suc k) us room =
    let within = leb-true (n + suc k) (length us) (some_room k true _ room) in
    let left = length-drop n us in
    length-take-le (suc k) (drop n us) (omega arith)

part_short : (n k : ℕ) (us : List Scalar) → (nat_eq k 0 || nat_le (n + k) (length us)) ≡ false → length (take k (drop n us)) < k
part_short n zero us room = absurd (search (rules, room))
part_short n (suc k) us room =
    let beyond = leb-false (n + suc k) (length us) (some_room k false _ room) in
    let left = length-drop n us in
    let taken = length-take (suc k) (drop n us) in
    omega arith

group_part : (s : Shape) (n : ℕ) (us : List Scalar) → (nat_eq (size (shape_layout s)) 0 || nat_le (n + size (shape_layout s)) (length us)) ≡ true
    → read_part (spot n (shape_layout s)) us ≡ ok (typed (shape_layout s) (take (size (shape_layout s)) (drop n us)))
group_part s n us room = rw (part_length n (size (shape_layout s)) us room, le-leb (size (shape_layout s)) (size (shape_layout s)) (omega arith)) (read_shape s _)

short_part : (l : Layout) (n : ℕ) (us : List Scalar) → (nat_eq (size l) 0 || nat_le (n + size l) (length us)) ≡ false → read_part (spot n l) us ≡ no NoCell
short_part l n us room = rw (lt-leb (size l) (length (take (size l) (drop n us))) (part_short n (size l) us room)) refl

struct_in : (s : Shape) (c : Cell) (n len : ℕ) → length_read (Some c) ≡ Some len → (nat_eq (size (shape_layout s)) 0 || nat_le (n + size (shape_layout s)) len) ≡ true
    → on (scalars_in c) (λ us. read_part (spot n (shape_layout s)) us) ≡ ok (typed (shape_layout s) (take (size (shape_layout s)) (drop n (held_scalars (Some c)))))
struct_in s (Slots us) n len e room = let same = same_Some (length us) len e in group_part s n us (rw same room)
struct_in s (Words ns) n len e room = let same = same_Some (length ns) len e in group_part s n (map Word ns) (rw (length-map ns Word, same) room)
struct_in s (Answers bs) n len e room = absurd (search (rules, e))

struct_out : (l : Layout) (c : Cell) (n len : ℕ) → length_read (Some c) ≡ Some len → (nat_eq (size l) 0 || nat_le (n + size l) len) ≡ false → on (scalars_in c) (λ us. read_part (spot n l) us) ≡ no NoCell
struct_out l (Slots us) n len e room = let same = same_Some (length us) len e in short_part l n us (rw same room)
struct_out l (Words ns) n len e room = let same = same_Some (length ns) len e in short_part l n (map Word ns) (rw (length-map ns Word, same) room)
struct_out l (Answers bs) n len e room = absurd (search (rules, e))

struct_none : (c : Cell) (n : ℕ) (l : Layout) → length_read (Some c) ≡ None → on (scalars_in c) (λ us. read_part (spot n l) us) ≡ no NoCell
struct_none (Slots us) n l e = absurd (search (rules, e))
struct_none (Words ns) n l e = absurd (search (rules, e))
struct_none (Answers bs) n l e = refl

there_at : (m : Stored) (p : ℕ) (o : Option Cell) (s : Shape) (n len : ℕ) → cell_at m p ≡ o → length_read o ≡ Some len → (nat_eq (size (shape_layout s)) 0 || nat_le (n + size (shape_layout s)) len) ≡ true
    → struct_behind m p n (shape_layout s) ≡ ok (typed (shape_layout s) (take (size (shape_layout s)) (drop n (held_scalars o))))
there_at m p None s n len is e room = absurd (search (rules, e))
there_at m p (Some c) s n len is e room = rw (present_some m p c is) (struct_in s c n len e room)

outside_at : (m : Stored) (p : ℕ) (o : Option Cell) (l : Layout) (n len : ℕ) → cell_at m p ≡ o → length_read o ≡ Some len → (nat_eq (size l) 0 || nat_le (n + size l) len) ≡ false → struct_behind m p n l ≡ no NoCell
outside_at m p None l n len is e room = absurd (search (rules, e))
outside_at m p (Some c) l n len is e room = rw (present_some m p c is) (struct_out l c n len e room)

absent_at : (m : Stored) (p : ℕ) (o : Option Cell) (l : Layout) (n : ℕ) → cell_at m p ≡ o → length_read o ≡ None → struct_behind m p n l ≡ no NoCell
absent_at m p None l n is e = rw (present_none m p is) refl
absent_at m p (Some c) l n is e = rw (present_some m p c is) (struct_none c n l e)

-- a struct whose slots are all there
pub struct_there : (m : Stored) (p : ℕ) (s : Shape) (n len : ℕ) → length_read (cell_at m p) ≡ Some len → (nat_eq (size (shape_layout s)) 0 || nat_le (n + size (shape_layout s)) len) ≡ true
    → struct_behind m p n (shape_layout s) ≡ ok (typed (shape_layout s) (take (size (shape_layout s)) (drop n (held_scalars (cell_at m p)))))
struct_there m p s n len e room = there_at m p (cell_at m p) s n len refl e room

-- a struct some slots of which lie beyond the cell's end
pub struct_outside : (m : Stored) (p : ℕ) (l : Layout) (n len : ℕ) → length_read (cell_at m p) ≡ Some len → (nat_eq (size l) 0 || nat_le (n + size l) len) ≡ false → struct_behind m p n l ≡ no NoCell
struct_outside m p l n len e room = outside_at m p (cell_at m p) l n len refl e room

-- no cell, or one that isn't read by number
pub struct_absent : (m : Stored) (p : ℕ) (l : Layout) (n : ℕ) → length_read (cell_at m p) ≡ None → struct_behind m p n l ≡ no NoCell
struct_absent m p l n e = absent_at m p (cell_at m p) l n refl e

held_length : (o : Option Cell) (len : ℕ) → length_read o ≡ Some len → length (held_scalars o) ≡ len
held_length None len e = absurd (search (rules, e))
held_length (Some (Slots us)) len e = same_Some (length us) len e
held_length (Some (Words ns)) len e = length-map ns Word ∙ same_Some (length ns) len e
held_length (Some (Answers bs)) len e = absurd (search (rules, e))

-- as many slots are copied as the struct has
pub struct_length : (o : Option Cell) (n k len : ℕ) → length_read o ≡ Some len → (nat_eq k 0 || nat_le (n + k) len) ≡ true → length (take k (drop n (held_scalars o))) ≡ k
struct_length o n k len e room = part_length n k (held_scalars o) (rw (held_length o len e) room)

-- ---- what stands behind an address

behind_absent : (m : Stored) (p : ℕ) (o : Option Cell) → cell_at m p ≡ o → option_map form_of o ≡ None → (part : Option Part) → read_behind m p part ≡ no NoCell
behind_absent m p None is e part = rw (present_none m p is) refl
behind_absent m p (Some c) is e part = absurd (search (rules, e))

pub read_absent : (m : Stored) (p : ℕ) (part : Option Part) → option_map form_of (cell_at m p) ≡ None → read_behind m p part ≡ no NoCell
read_absent m p part e = behind_absent m p (cell_at m p) refl e part

behind_present : (m : Stored) (p : ℕ) (o : Option Cell) (f : Form) → cell_at m p ≡ o → option_map form_of o ≡ Some f → read_behind m p None ≡ no KindsDiffer
behind_present m p None f is e = absurd (search (rules, e))
behind_present m p (Some c) f is e = rw (present_some m p c is) refl

pub read_memberless : (m : Stored) (p : ℕ) (f : Form) → option_map form_of (cell_at m p) ≡ Some f → read_behind m p None ≡ no KindsDiffer
read_memberless m p f e = behind_present m p (cell_at m p) f refl e

pub word_there : (m : Stored) (p : ℕ) (part : Part) (w : Word') (u : Scalar) → part.kind ≡ kind.Word w → asked_of (slot_of part.start) p m ≡ Some u → read_behind m p (Some part) ≡ read (cell w) (u ∷ [])
word_there m p part w u is e =
    read_there m p (layout_of part.kind) part.start u (ap (λ k. size (layout_of k)) is ∙ size_word w) e ∙ ap (λ k. read (layout_of k) (u ∷ [])) is

pub word_nowhere : (m : Stored) (p : ℕ) (part : Part) (w : Word') → part.kind ≡ kind.Word w → asked_of (slot_of part.start) p m ≡ None → read_behind m p (Some part) ≡ no NoCell
word_nowhere m p part w is e = read_nowhere m p (layout_of part.kind) part.start (ap (λ k. size (layout_of k)) is ∙ size_word w) e

pub pointer_there : (m : Stored) (p : ℕ) (part : Part) (k : Kind) (x : List ℕ) (u : Scalar) → part.kind ≡ k → layout_of k ≡ pointer x → asked_of (slot_of part.start) p m ≡ Some u → read_behind m p (Some part) ≡ read (pointer x) (u ∷ [])
pointer_there m p part k x u is laid e =
    let same : layout_of part.kind ≡ pointer x = ap layout_of is ∙ laid in
    read_there m p (layout_of part.kind) part.start u (ap size same ∙ size_pointer x) e ∙ ap (λ l. read l (u ∷ [])) same

pub pointer_nowhere : (m : Stored) (p : ℕ) (part : Part) (k : Kind) (x : List ℕ) → part.kind ≡ k → layout_of k ≡ pointer x → asked_of (slot_of part.start) p m ≡ None → read_behind m p (Some part) ≡ no NoCell
pointer_nowhere m p part k x is laid e =
    let same : layout_of part.kind ≡ pointer x = ap layout_of is ∙ laid in
    read_nowhere m p (layout_of part.kind) part.start (ap size same ∙ size_pointer x) e

-- ---- operands

pub within_at : (n : ℕ) (os : List Operand) (i : ℕ) (o : Operand) → AreWithin n os → i < length os → o ≡ get_or os i o → IsOperandWithin n o
within_at n [] i o all less is = absurd (omega arith)
within_at n (x ∷ os) zero o all less is = rw is all.0
within_at n (x ∷ os) (suc i) o all less is = within_at n os i o all.1 (omega arith) is

abbrev ok_is : {A : Type 0} (a : A) (j : Judged A) → A
ok_is a (ok b) = b
ok_is a (no why) = a

-- what two judgements gave together, each by itself
parts : {P : Type 0} (j : Judged Value) (k : Judged (List Value)) (vs : List Value) → on j (λ v. on k (λ ws. ok (v ∷ ws))) ≡ ok vs → ((v : Value) (ws : List Value) → j ≡ ok v → k ≡ ok ws → vs ≡ v ∷ ws → P) → P
parts (ok v) (ok ws) vs e f = f v ws refl refl (sym (ap (ok_is []) e))
parts (ok v) (no why) vs e f = absurd (search (rules, e))
parts (no why) k vs e f = absurd (search (rules, e))

-- one more operand
pub judged_more : (m : Stored) (us : List Scalar) (os : List Operand) (i : ℕ) (o : Operand) (v : Value) (vs : List Value) → i < length os → o ≡ get_or os i o
    → judged_all m us (take i os) ≡ ok vs → judged m us o ≡ ok v → judged_all m us (take (i + 1) os) ≡ ok (vs ++ v ∷ [])
judged_more m us [] i o v vs less is before now = absurd (omega arith)
judged_more m us (x ∷ os) zero o v vs less is before now =
    let none : vs ≡ [] = sym (ap (ok_is []) before) in
    rw (none, ← is, now) refl
judged_more m us (x ∷ os) (suc i) o v vs less is before now =
    let step : suc i + 1 ≡ suc (i + 1) = omega arith in
    parts (judged m us x) (judged_all m us (take i os)) vs before (λ w ws first rest both.
    rw (step, first, judged_more m us os i o v ws (omega arith) is rest now, both) refl)

-- an operand that is stuck
pub judged_stops : (m : Stored) (us : List Scalar) (os : List Operand) (i : ℕ) (o : Operand) (why : Why) (vs : List Value) → i < length os → o ≡ get_or os i o
    → judged_all m us (take i os) ≡ ok vs → judged m us o ≡ no why → judged_all m us os ≡ no why
judged_stops m us [] i o why vs less is before now = absurd (omega arith)
judged_stops m us (x ∷ os) zero o why vs less is before now = rw (← is, now) refl
judged_stops m us (x ∷ os) (suc i) o why vs less is before now =
    parts (judged m us x) (judged_all m us (take i os)) vs before (λ w ws first rest both.
    rw (first, judged_stops m us os i o why ws (omega arith) is rest now) refl)

pub judging_stops : {A Z : Type 0} (f : A → Value) (g : Z → List Value) (m : Stored) (us : List Scalar) (os : List Operand) (i : ℕ) (o : Operand) (fault : RunFault) (vs : List Value) → i < length os → o ≡ get_or os i o
    → judged_all m us (take i os) ≡ ok vs → Tries f (judged m us o) (Err fault) → Tries g (judged_all m us os) (Err fault)
judging_stops f g m us os i o (Stuck why) vs less is before now = judged_stops m us os i o why vs less is before now
judging_stops f g m us os i o Budget vs less is before now = now
judging_stops f g m us os i o Memory vs less is before now = tt

pub ruleset reading_steps = (only_there, only_nowhere, read_word, read_pointer, read_shape, copy_more, copy_none, size_word, size_pointer, read_there, read_nowhere, struct_there, struct_outside, struct_absent, struct_length, read_absent, read_memberless)
