-- What is written to frames and cells.
use Rattle.std.proofs.Common.{rules, ◌≡◌, ℕ, zero, suc, ◌+◌, ◌<◌, ◌≤◌, ◌||◌, Bool, true, false, List, [], ◌∷◌, ◌++◌, length, take, drop, set, get_or, refl, sym, ap, ◌∙◌, append_assoc, add-zero, arith, length-append, length-drop}
use Rattle.std.proofs.lemmas.Bool.{le-leb, leb-true}
use Rattle.std.proofs.lemmas.List.{append-nil, take_all, take_more, take-append-drop, drop_more, set_at, set_split, length-take-le}
use Rattle.std.proofs.lemmas.Option.{same_Some}
use Rattle.std.specs.Bool.{nat_eq, nat_le, nat_lt}
use Rattle.std.specs.Cmp.{nat_cmp_total}
use Rattle.std.specs.FinMap as map'
use Rattle.std.specs.FinMap.{FinMap, gets, same_map, nat_cmp-IsAntisymmetric}
use Rattle.std.specs.Option.{option_map}
use Rattle.std.specs.Ordering.{nat_cmp}
use Rattle.std.specs.declared.option.Option.{Option}
use Rattle.std.specs.declared.option.Option.TheVariants.{None, Some}
use Rattle.cg_cmachine_layout.specs.declared.kind.Part.{Part}
use Rattle.cg_cmachine_layout.specs.Kinds.{layout_of}
use Rattle.cg_cmachine_def.specs.Layouts.{size, spot}
use Rattle.cg_cmachine_def.specs.Operands.{Value, give}
use Rattle.cg_cmachine_def.specs.Outcomes.{ok, no, on}
use Rattle.cg_cmachine_def.specs.Targets.{spliced, with_cell_at}
use Rattle.cg_ctree.specs.declared.why.Why.{Why}
use Rattle.cg_ctree.specs.declared.why.Why.TheVariants.{KindsDiffer, NoCell}
use Rattle.cg_cmachine_values.specs.Values.{length_written, overwritten, write_behind}
use Rattle.cg_cmachine_values.proofs.Reading.{present_none, present_some, some_room}
use Rattle.cg_heap.specs.declared.cell.Cell.{Cell}
use Rattle.cg_heap.specs.declared.cell.Cell.TheVariants.{Slots, Words, Answers}
use Rattle.cg_heap.specs.declared.cell.Form.{Form}
use Rattle.cg_heap.specs.declared.cell.Scalar.{Scalar}
use Rattle.cg_heap.specs.Readings.{held_scalars}
use Rattle.cg_heap.specs.Stored.{Stored, cell_at, changed, form_of, with_slot}
use Rattle.cg_heap.proofs.Maps.{same_put}

-- ---- slots that are written one by one

pub overwritten_none : (at : ℕ) (us : List Scalar) → overwritten at [] us ≡ us
overwritten_none at us =
    ap (λ l. l ++ drop (at + 0) us) (append-nil (take at us)) ∙ ap (λ n. take at us ++ drop n us) (add-zero at) ∙ take-append-drop at us

one_step : (begun taken rest : List Scalar) (x y : Scalar) (n : ℕ) → length (begun ++ taken) ≡ n → set ((begun ++ taken) ++ y ∷ rest) n x ≡ (begun ++ (taken ++ x ∷ [])) ++ rest
one_step begun taken rest x y n e = set_at (begun ++ taken) y rest x n e ∙ sym (append_assoc (begun ++ taken) (x ∷ []) rest) ∙ ap (λ l. l ++ rest) (append_assoc begun taken (x ∷ []))

pub overwritten_more : (at i : ℕ) (xs us : List Scalar) (d : Scalar) → i < length xs → at + length xs ≤ length us
    → set (overwritten at (take i xs) us) (at + i) (get_or xs i d) ≡ overwritten at (take (i + 1) xs) us
overwritten_more at i xs us d less room =
    let begun = length-take-le i xs (omega arith) in
    let more = length-take-le (i + 1) xs (omega arith) in
    let front = length-take-le at us (omega arith) in
    let joined = length-append (take at us) (take i xs) in
    let rest : drop (at + length (take i xs)) us ≡ get_or us (at + i) d ∷ drop (at + i + 1) us = ap (λ n. drop (at + n) us) begun ∙ drop_more us (at + i) d (omega arith) in
    let behind : at + length (take (i + 1) xs) ≡ at + i + 1 = omega arith in
    ap (λ l. set ((take at us ++ take i xs) ++ l) (at + i) (get_or xs i d)) rest
    ∙ one_step (take at us) (take i xs) (drop (at + i + 1) us) (get_or xs i d) (get_or us (at + i) d) (at + i) (omega arith)
    ∙ sym (ap (λ l. (take at us ++ l) ++ drop (at + length (take (i + 1) xs)) us) (take_more xs i d less) ∙ ap (λ n. (take at us ++ (take i xs ++ get_or xs i d ∷ [])) ++ drop n us) behind)

pub overwritten_all : (at i : ℕ) (xs us : List Scalar) → length xs ≤ i → overwritten at (take i xs) us ≡ overwritten at xs us
overwritten_all at i xs us all = ap (λ l. overwritten at l us) (take_all i xs all)

pub overwritten_length : (at : ℕ) (xs us : List Scalar) → at + length xs ≤ length us → length (overwritten at xs us) ≡ length us
overwritten_length at xs us room =
    let front = length-take-le at us (omega arith) in
    let left = length-drop (at + length xs) us in
    let joined = length-append (take at us) xs in
    let whole = length-append (take at us ++ xs) (drop (at + length xs) us) in
    omega arith

-- one slot alone
pub overwritten_one : (at : ℕ) (us : List Scalar) (x : Scalar) → at < length us → set us at x ≡ overwritten at (x ∷ []) us
overwritten_one at us x less =
    let next : suc at ≡ at + 1 = omega arith in
    set_split us at x less ∙ ap (λ n. take at us ++ x ∷ drop n us) next ∙ sym (append_assoc (take at us) (x ∷ []) (drop (at + 1) us))

-- ---- cells that are written slot by slot

put_twice : (m : FinMap nat_cmp Cell) (p : ℕ) (c d : Cell) → map'.insert (map'.insert m p c) p d ≡ map'.insert m p d
put_twice m p c d = same_map nat_cmp_total nat_cmp-IsAntisymmetric _ _ (λ q. grind (gets, rules))

put_there : (m : FinMap nat_cmp Cell) (p : ℕ) (c : Cell) → map'.get (map'.insert m p c) p ≡ Some c
put_there m p c = grind (gets, rules)

-- to write what is there changes nothing
pub with_same : (m : Stored) (p : ℕ) (c : Cell) → cell_at m p ≡ Some c → m ≡ with_cell_at p c m
with_same m p c here = sym (ap (λ cells. record { cells = cells; top = m.top }) (same_put m.cells p c here))

with_twice : (m : Stored) (p : ℕ) (c d : Cell) → with_cell_at p d (with_cell_at p c m) ≡ with_cell_at p d m
with_twice m p c d = ap (λ cells. record { cells = cells; top = m.top }) (put_twice m.cells p c d)

changed_at : (f : Cell → Option Cell) (p : ℕ) (m : Stored) (c d : Cell) → cell_at m p ≡ Some c → f c ≡ Some d → changed f p m ≡ with_cell_at p d m
changed_at f p m c d here is = rw (here, is) refl

slot_set : (us : List Scalar) (i : ℕ) (x : Scalar) → i < length us → with_slot i x (Slots us) ≡ Some (Slots (set us i x))
slot_set us i x less = let test : nat_lt i (length us) ≡ true = le-leb (suc i) (length us) (omega arith) in rw test refl

room_for : (n k len : ℕ) → 0 < k → (nat_eq k 0 || nat_le (n + k) len) ≡ true → n + k ≤ len
room_for n zero len some room = absurd (omega arith)
room_for n (suc k) len some room = leb-true (n + suc k) len (some_room k true _ room)

pub put_first : (m : Stored) (p at : ℕ) (xs us : List Scalar) → cell_at m p ≡ Some (Slots us) → m ≡ with_cell_at p (Slots (overwritten at (take 0 xs) us)) m
put_first m p at xs us here = with_same m p (Slots us) here ∙ ap (λ l. with_cell_at p (Slots l) m) (sym (overwritten_none at us))

pub put_more : (m now : Stored) (p at i : ℕ) (xs us : List Scalar) (d : Scalar) → i < length xs → (nat_eq (length xs) 0 || nat_le (at + length xs) (length us)) ≡ true
    → now ≡ with_cell_at p (Slots (overwritten at (take i xs) us)) m → changed (with_slot (at + i) (get_or xs i d)) p now ≡ with_cell_at p (Slots (overwritten at (take (i + 1) xs) us)) m
put_more m now p at i xs us d less room before =
    let within = room_for at (length xs) (length us) (omega arith) room in
    let begun = length-take-le i xs (omega arith) in
    let long = overwritten_length at (take i xs) us (omega arith) in
    ap (changed (with_slot (at + i) (get_or xs i d)) p) before
    ∙ changed_at (with_slot (at + i) (get_or xs i d)) p (with_cell_at p (Slots (overwritten at (take i xs) us)) m) (Slots (overwritten at (take i xs) us)) (Slots (set (overwritten at (take i xs) us) (at + i) (get_or xs i d)))
    (put_there m.cells p _) (slot_set (overwritten at (take i xs) us) (at + i) (get_or xs i d) (omega arith))
    ∙ with_twice m p _ _
    ∙ ap (λ l. with_cell_at p (Slots l) m) (overwritten_more at i xs us d less within)

-- ---- what stands behind an address

write_none : (m : Stored) (p : ℕ) (o : Option Cell) (part : Option Part) (v : Value) → cell_at m p ≡ o → option_map form_of o ≡ None → write_behind m p part v ≡ no NoCell
write_none m p None part v is e = rw (present_none m p is) refl
write_none m p (Some c) part v is e = absurd (search (rules, e))

pub write_absent : (m : Stored) (p : ℕ) (part : Option Part) (v : Value) → option_map form_of (cell_at m p) ≡ None → write_behind m p part v ≡ no NoCell
write_absent m p part v e = write_none m p (cell_at m p) part v refl e

write_some : (m : Stored) (p : ℕ) (o : Option Cell) (f : Form) (v : Value) → cell_at m p ≡ o → option_map form_of o ≡ Some f → write_behind m p None v ≡ no KindsDiffer
write_some m p None f v is e = absurd (search (rules, e))
write_some m p (Some c) f v is e = rw (present_some m p c is) refl

pub write_memberless : (m : Stored) (p : ℕ) (f : Form) (v : Value) → option_map form_of (cell_at m p) ≡ Some f → write_behind m p None v ≡ no KindsDiffer
write_memberless m p f v e = write_some m p (cell_at m p) f v refl e

no_slots : (m : Stored) (p : ℕ) (o : Option Cell) (part : Part) (v : Value) → cell_at m p ≡ o → length_written o ≡ None → write_behind m p (Some part) v ≡ no NoCell
no_slots m p None part v is e = rw (present_none m p is) refl
no_slots m p (Some (Slots us)) part v is e = absurd (search (rules, e))
no_slots m p (Some (Words ns)) part v is e = rw (present_some m p _ is) refl
no_slots m p (Some (Answers bs)) part v is e = rw (present_some m p _ is) refl

pub write_slotless : (m : Stored) (p : ℕ) (part : Part) (v : Value) → length_written (cell_at m p) ≡ None → write_behind m p (Some part) v ≡ no NoCell
write_slotless m p part v e = no_slots m p (cell_at m p) part v refl e

spliced_as : (part : Part) (xs us : List Scalar) → length xs ≡ size (layout_of part.kind) → spliced (spot part.start (layout_of part.kind)) xs us ≡ overwritten part.start xs us
spliced_as part xs us many = ap (λ n. take part.start us ++ xs ++ drop (part.start + n) us) (sym many)

slots_at : (m : Stored) (p : ℕ) (o : Option Cell) (len : ℕ) → cell_at m p ≡ o → length_written o ≡ Some len → (cell_at m p ≡ Some (Slots (held_scalars o))) × (length (held_scalars o) ≡ len)
slots_at m p None len is e = absurd (search (rules, e))
slots_at m p (Some (Slots us)) len is e = (is, same_Some (length us) len e)
slots_at m p (Some (Words ns)) len is e = absurd (search (rules, e))
slots_at m p (Some (Answers bs)) len is e = absurd (search (rules, e))

-- a cell that is written is one of slots, as many as its length
pub slots_there : (m : Stored) (p len : ℕ) → length_written (cell_at m p) ≡ Some len → (cell_at m p ≡ Some (Slots (held_scalars (cell_at m p)))) × (length (held_scalars (cell_at m p)) ≡ len)
slots_there m p len e = slots_at m p (cell_at m p) len refl e

outside_of : (m : Stored) (p : ℕ) (us : List Scalar) (part : Part) (v : Value) → cell_at m p ≡ Some (Slots us)
    → (nat_eq (size (layout_of part.kind)) 0 || nat_le (part.start + size (layout_of part.kind)) (length us)) ≡ false → write_behind m p (Some part) v ≡ no NoCell
outside_of m p us part v is room = rw (present_some m p (Slots us) is, room) refl

pub write_outside : (m : Stored) (p len : ℕ) (part : Part) (v : Value) → length_written (cell_at m p) ≡ Some len
    → (nat_eq (size (layout_of part.kind)) 0 || nat_le (part.start + size (layout_of part.kind)) len) ≡ false → write_behind m p (Some part) v ≡ no NoCell
write_outside m p len part v e room =
    let there = slots_there m p len e in
    outside_of m p (held_scalars (cell_at m p)) part v there.0 (rw there.1 room)

inside_of : (m : Stored) (p : ℕ) (us : List Scalar) (part : Part) (v : Value) → cell_at m p ≡ Some (Slots us)
    → (nat_eq (size (layout_of part.kind)) 0 || nat_le (part.start + size (layout_of part.kind)) (length us)) ≡ true
    → write_behind m p (Some part) v ≡ on (give (layout_of part.kind) v) (λ xs. ok (with_cell_at p (Slots (spliced (spot part.start (layout_of part.kind)) xs us)) m))
inside_of m p us part v is room = rw (present_some m p (Slots us) is, room) refl

-- a test of room that was made with a number of slots, at the number that it is
pub room_is : (n k at len : ℕ) (b : Bool) → n ≡ k → b ≡ (nat_eq n 0 || nat_le (at + n) len) → b ≡ true → (nat_eq k 0 || nat_le (at + k) len) ≡ true
room_is n k at len b same tested room = rw (← same) (sym tested ∙ room)

pub write_refused : (m : Stored) (p len : ℕ) (part : Part) (v : Value) (why : Why) → length_written (cell_at m p) ≡ Some len
    → (nat_eq (size (layout_of part.kind)) 0 || nat_le (part.start + size (layout_of part.kind)) len) ≡ true → give (layout_of part.kind) v ≡ no why → write_behind m p (Some part) v ≡ no why
write_refused m p len part v why e room refused =
    let there = slots_there m p len e in
    inside_of m p (held_scalars (cell_at m p)) part v there.0 (rw there.1 room) ∙ rw refused refl

pub write_there : (m : Stored) (p len : ℕ) (part : Part) (v : Value) (xs : List Scalar) → length_written (cell_at m p) ≡ Some len
    → (nat_eq (size (layout_of part.kind)) 0 || nat_le (part.start + size (layout_of part.kind)) len) ≡ true → give (layout_of part.kind) v ≡ ok xs → length xs ≡ size (layout_of part.kind)
    → write_behind m p (Some part) v ≡ ok (with_cell_at p (Slots (overwritten part.start xs (held_scalars (cell_at m p)))) m)
write_there m p len part v xs e room given many =
    let there = slots_there m p len e in
    inside_of m p (held_scalars (cell_at m p)) part v there.0 (rw there.1 room) ∙ rw given (ap (λ l. ok (with_cell_at p (Slots l) m)) (spliced_as part xs (held_scalars (cell_at m p)) many))

pub ruleset writing_steps = (overwritten_none, overwritten_more, overwritten_all, overwritten_length, overwritten_one, put_first, write_absent, write_memberless, write_slotless, write_outside, write_refused)
