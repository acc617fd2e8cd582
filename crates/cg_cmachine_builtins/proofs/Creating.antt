-- Cells that are asked for, and addresses that are assigned.
use Rattle.std.proofs.Common.{rules, ◌≡◌, ℕ, ◌+◌, ◌-◌, ◌<◌, ◌≤◌, ◌||◌, ◌&&◌, Bool, true, false, cond, nat_eq, nat_le, nat_lt, List, [], ◌∷◌, ◌++◌, drop, length, refl, sym, ap, ◌∙◌, arith}
use Rattle.std.specs.FinMap.{gets}
use Rattle.std.proofs.lemmas.Bool.{true≢false}
use Rattle.std.specs.Option.{is_some, unwrap_or}
use Rattle.std.specs.Prelude.{if◌then◌else◌}
use Rattle.std.specs.declared.option.Option.{Option}
use Rattle.std.specs.declared.option.Option.TheVariants.{None, Some}
use Rattle.cg_cmachine_layout.specs.declared.kind.Part.{Part}
use Rattle.cg_cmachine_layout.specs.Kinds.{layout_of}
use Rattle.cg_cmachine_def.specs.BuiltIns.{Given, granted, make_struct, next_answer, allocator, is_there, pointer_of}
use Rattle.cg_cmachine_def.specs.Layouts.{Layout, pointer, size, spot}
use Rattle.cg_cmachine_def.specs.Operands.{Value, typed, address_at, give, only}
use Rattle.cg_cmachine_def.specs.Outcomes.{Judged, ok, no, on, State, Outcome, done, stuck, needs, bind}
use Rattle.cg_cmachine_def.specs.Targets.{spliced, with_cell_at}
use Rattle.cg_ctree.specs.declared.why.Why.{Why}
use Rattle.cg_ctree.specs.declared.why.Why.TheVariants.{NoCell, KindsDiffer}
use Rattle.cg_cmachine_values.specs.declared.place.Place.{Place}
use Rattle.cg_cmachine_values.specs.declared.place.Place.TheVariants.{Nowhere, Local, Behind}
use Rattle.cg_cmachine_values.specs.Values.{Changed, write_behind, write_place}
use Rattle.cg_cmachine_builtins.specs.Acts.{refusal, room_of, with_made}
use Rattle.cg_cmachine_builtins.specs.Called.{into_place}
use Rattle.cg_cmachine_builtins.specs.declared.room.Room.{Room}
use Rattle.cg_cmachine_builtins.specs.declared.room.Room.TheVariants as room
use Rattle.cg_heap.specs.declared.cell.Cell.{Cell}
use Rattle.cg_heap.specs.declared.cell.Cell.TheVariants.{Slots, Words, Answers}
use Rattle.cg_heap.specs.declared.cell.Fresh.{Fresh}
use Rattle.cg_heap.specs.declared.cell.Fresh.TheVariants as fresh
use Rattle.cg_heap.specs.declared.cell.Scalar.{Scalar}
use Rattle.cg_heap.specs.declared.cell.Scalar.TheVariants.{Address}
use Rattle.cg_heap.specs.Stored.{Stored, cell_at, changed, in_cell, in_place, with_fresh, without_answer}
use Rattle.cg_heap.proofs.TopSteps.{top_stays}
use Rattle.cg_cmachine_builtins.proofs.Rooms.{made_beside, made_there}
use Rattle.cg_graphs.proofs.Standing.{are_equal as equal_at}

-- ---- what an allocator answers

-- where its answer isn't yes
pub denied : (l : Layout) (q : ℕ) (b : Bool) (f : Fresh) (cost : ℕ) (s : State) (left : ℕ) (m : Stored) → b ≡ false → m ≡ changed without_answer q s.store
    → granted l q b f cost s left ≡ done (Some (typed l (Address 0 ∷ []))) (record { store = m; made = s.made; freed = s.freed }) left
denied l q b f cost s left m e h = rw (e, h) refl

enough : (cost left : ℕ) → cost ≤ left → nat_lt left cost ≡ false
enough cost left h = grind arith

pub few : (cost left : ℕ) → left < cost → nat_lt left cost ≡ true
few cost left h = grind arith

-- where it is, and the steps are left
pub afforded : (l : Layout) (q : ℕ) (b : Bool) (f : Fresh) (cost : ℕ) (s : State) (left : ℕ) (m : Stored) (ms fs : List ℕ) → b ≡ true → cost ≤ left
    → m ≡ with_fresh f (changed without_answer q s.store) → ms ≡ s.made ++ (s.store.top + 1) ∷ [] → fs ≡ s.freed
    → granted l q b f cost s left ≡ done (Some (typed l (Address (s.store.top + 1) ∷ []))) (record { store = m; made = ms; freed = fs }) (left - cost)
afforded l q b f cost s left m ms fs e h is more same = rw (e, enough cost left h, is, more, same) refl

-- and where they aren't
pub poor : (l : Layout) (q : ℕ) (b : Bool) (f : Fresh) (cost : ℕ) (s : State) (left : ℕ) → b ≡ true → left < cost → granted l q b f cost s left ≡ needs s.store
poor l q b f cost s left e h = rw (e, few cost left h) refl

with_true : (b : Bool) → b ≡ (b && true)
with_true true = refl
with_true false = refl

-- a struct's cell is one that may always be made
pub struct_asked : (x y : List ℕ) (slots n : ℕ) (v : Value) (s : State) (left q : ℕ) → on (is_there s.store v) (λ u. pointer_of allocator v) ≡ ok q → y ≡ x → n ≡ slots
    → make_struct x slots v s left ≡ granted (pointer y) q (next_answer q s.store && true) (fresh.Slots n) 0 s left
struct_asked x y slots n v s left q e name many = rw (e, name, many) (ap (λ b. granted (pointer x) q b (fresh.Slots slots) 0 s left) (with_true (next_answer q s.store)))

-- ---- what is given, assigned

pub landed : (o : Outcome Given) (v : Value) (s : State) (rest : ℕ) (m : Stored) (us : List Scalar) (place : Place) (slots : List Scalar) (after : Stored) → o ≡ done (Some v) s rest
    → write_place s.store us place v ≡ ok (record { slots = slots; store = after })
    → bind o (into_place m us place) ≡ done slots (record { store = after; made = s.made; freed = s.freed }) rest
landed o v s rest m us place slots after e h = rw (e, h) refl

refused_at : {A : Type 0} (j : Judged A) (why : Why) → refusal j ≡ Some why → j ≡ no why
refused_at (ok a) why e = absurd (true≢false (sym (ap is_some e)))
refused_at (no w) why e = ap no (ap (λ o. unwrap_or o w) e)

pub refused : (o : Outcome Given) (v : Value) (s : State) (rest : ℕ) (m : Stored) (us : List Scalar) (place : Place) (why : Why) → o ≡ done (Some v) s rest
    → refusal (write_place s.store us place v) ≡ Some why → bind o (into_place m us place) ≡ stuck why m
refused o v s rest m us place why e h = rw (e, refused_at (write_place s.store us place v) why h) refl

-- ---- answers that are taken off

-- what is asked of a cell stays
same_cell : (q p : ℕ) (m : Stored) (o : Option Cell) → cell_at m q ≡ o → room_of (cell_at (in_place q (in_cell without_answer o) m) p) ≡ room_of (cell_at m p)
same_cell q p m None e = refl
same_cell q p m (Some (Slots us)) e = refl
same_cell q p m (Some (Words ns)) e = refl
same_cell q p m (Some (Answers [])) e = refl
same_cell q p m (Some (Answers (b ∷ bs))) e = grind (gets, rules)

same_room : (q p : ℕ) (m : Stored) → room_of (cell_at (changed without_answer q m) p) ≡ room_of (cell_at m p)
same_room q p m = same_cell q p m (cell_at m q) refl

pub apart_at : (a b : ℕ) → nat_eq a b ≡ false → a ≡ b → ⊥
apart_at a b e h = grind arith

same_made : (f : Option Fresh) (q p : ℕ) (m : Stored) → room_of (cell_at (with_made f (changed without_answer q m)) p) ≡ room_of (cell_at (with_made f m) p)
same_made None q p m = same_room q p m
same_made (Some f) q p m = pick (nat_eq p (m.top + 1)) refl
  where
    top : (changed without_answer q m).top ≡ m.top
    top = top_stays without_answer q m

    pick : (b : Bool) → nat_eq p (m.top + 1) ≡ b → room_of (cell_at (with_fresh f (changed without_answer q m)) p) ≡ room_of (cell_at (with_fresh f m) p)
    pick true e = ap room_of (made_there f (changed without_answer q m) p (equal_at p (m.top + 1) e ∙ sym (ap (λ n. n + 1) top)) ∙ sym (made_there f m p (equal_at p (m.top + 1) e)))
    pick false e =
        ap room_of (made_beside f (changed without_answer q m) p (λ h. apart_at p (m.top + 1) e (h ∙ ap (λ n. n + 1) top))) ∙ same_room q p m
        ∙ sym (ap room_of (made_beside f m p (apart_at p (m.top + 1) e)))

-- why a value can't be assigned to a part of a cell
abbrev room_refusal : Option Part → Value → Room → Option Why
room_refusal part v room.Absent = Some NoCell
room_refusal None v room.Closed = Some KindsDiffer
room_refusal None v (room.Slots n) = Some KindsDiffer
room_refusal (Some part) v room.Closed = Some NoCell
room_refusal (Some part) v (room.Slots n) =
    cond (nat_eq (size (layout_of part.kind)) 0 || nat_le (part.start + size (layout_of part.kind)) n) (refusal (give (layout_of part.kind) v)) (Some NoCell)

kept : {A B : Type 0} (j : Judged A) (f : A → B) → refusal (on j (λ a. ok (f a))) ≡ refusal j
kept (ok a) f = refl
kept (no why) f = refl

kept_if : {A B C : Type 0} (b : Bool) (a : A) (j : Judged B) (f : A → B → C) → refusal (on (if b then ok a else no NoCell) (λ x. on j (λ y. ok (f x y)))) ≡ cond b (refusal j) (Some NoCell)
kept_if true a j f = kept j (f a)
kept_if false a j f = refl

refused_behind : (m : Stored) (p : ℕ) (part : Option Part) (v : Value) (o : Option Cell) → cell_at m p ≡ o → refusal (write_behind m p part v) ≡ room_refusal part v (room_of o)
refused_behind m p part v None e = rw e refl
refused_behind m p None v (Some (Slots us)) e = rw e refl
refused_behind m p None v (Some (Words ns)) e = rw e refl
refused_behind m p None v (Some (Answers bs)) e = rw e refl
refused_behind m p (Some part) v (Some (Slots us)) e =
    rw e
    (kept_if (nat_eq (size (layout_of part.kind)) 0 || nat_le (part.start + size (layout_of part.kind)) (length us)) us (give (layout_of part.kind) v)
    (λ slots xs. with_cell_at p (Slots (spliced (spot part.start (layout_of part.kind)) xs slots)) m))
refused_behind m p (Some part) v (Some (Words ns)) e = rw e refl
refused_behind m p (Some part) v (Some (Answers bs)) e = rw e refl

-- and so whether it can be written
behind_same : (f : Option Fresh) (q : ℕ) (m : Stored) (p : ℕ) (part : Option Part) (v : Value)
    → refusal (write_behind (with_made f (changed without_answer q m)) p part v) ≡ refusal (write_behind (with_made f m) p part v)
behind_same f q m p part v =
    refused_behind (with_made f (changed without_answer q m)) p part v _ refl ∙ ap (room_refusal part v) (same_made f q p m) ∙ sym (refused_behind (with_made f m) p part v _ refl)

pub popped : (f : Option Fresh) (q : ℕ) (m : Stored) (us : List Scalar) (place : Place) (v : Value)
    → refusal (write_place (with_made f (changed without_answer q m)) us place v) ≡ refusal (write_place (with_made f m) us place v)
popped f q m us Nowhere v = refl
popped f q m us (Local at k) v = kept (give (layout_of k) v) _ ∙ sym (kept (give (layout_of k) v) _)
popped f q m us (Behind at part) v = go (address_at (only (drop at us)))
  where
    go : (j : Judged ℕ)
        → refusal (on {B = Changed} j (λ p. on {B = Changed} (write_behind (with_made f (changed without_answer q m)) p part v) (λ n. ok (record { slots = us; store = n }))))
        ≡ refusal (on {B = Changed} j (λ p. on {B = Changed} (write_behind (with_made f m) p part v) (λ n. ok (record { slots = us; store = n }))))
    go (ok p) = kept (write_behind (with_made f (changed without_answer q m)) p part v) _ ∙ behind_same f q m p part v ∙ sym (kept (write_behind (with_made f m) p part v) _)
    go (no why) = refl

-- what can be written isn't refused
never : {A : Type 0} (j : Judged A) (why : Why) → refusal j ≡ None → j ≡ no why → ⊥
never j why e h = true≢false (ap is_some (ap refusal (sym h) ∙ e))

-- ---- the address of a cell, or the null address, assigned to a place of a frame

module _ (x : List ℕ) (q : ℕ) (f : Fresh) (m : Stored) (us : List Scalar) (place : Place) where
  abbrev to : ℕ → Value
  to p = typed (pointer x) (Address p ∷ [])

  -- whether the null address can be written
  pub null_refused : (why : Why) (o : Judged Changed) → o ≡ write_place (changed without_answer q m) us place (to 0)
      → ((p : ℕ) → Some why ≡ refusal (write_place (with_made None m) us place (to p))) → o ≡ no why
  null_refused why o is h = refused_at o why (ap refusal is ∙ popped None q m us place (to 0) ∙ sym (h 0))

  pub null_never : (why : Why) (n : Stored) → n ≡ changed without_answer q m → ((p : ℕ) → None ≡ refusal (write_place (with_made None m) us place (to p)))
      → write_place n us place (to 0) ≡ no why → ⊥
  null_never why n is h e = never (write_place (changed without_answer q m) us place (to 0)) why (popped None q m us place (to 0) ∙ sym (h 0)) (ap (λ n. write_place n us place (to 0)) (sym is) ∙ e)

  -- and that of the cell that is made
  pub create_refused : (b : Bool) (cost : ℕ) (ms fs : List ℕ) (left : ℕ) (why : Why) → b ≡ true → cost ≤ left
      → ((p : ℕ) → Some why ≡ refusal (write_place (with_made (Some f) m) us place (to p)))
      → bind (granted (pointer x) q b f cost (record { store = m; made = ms; freed = fs }) left) (into_place m us place) ≡ stuck why m
  create_refused b cost ms fs left why e l h =
      refused _ (to (m.top + 1)) _ _ m us place why (afforded (pointer x) q b f cost (record { store = m; made = ms; freed = fs }) left _ _ _ e l refl refl refl)
      (popped (Some f) q m us place (to (m.top + 1)) ∙ sym (h (m.top + 1)))

  pub create_never : (why : Why) (n : Stored) (p : ℕ) → n ≡ with_fresh f (changed without_answer q m) → ((p : ℕ) → None ≡ refusal (write_place (with_made (Some f) m) us place (to p)))
      → write_place n us place (to p) ≡ no why → ⊥
  create_never why n p is h e =
      never (write_place (with_fresh f (changed without_answer q m)) us place (to p)) why (popped (Some f) q m us place (to p) ∙ sym (h p)) (ap (λ n. write_place n us place (to p)) (sym is) ∙ e)
