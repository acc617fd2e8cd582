-- What is judged, and what built-ins give, has as many scalars as its type has slots.
use Rattle.std.proofs.Common.{◌≡◌, ℕ, ◌+◌, ◌-◌, ◌≤◌, ◌&&◌, Bool, true, false, cond, nat_eq, nat_le, nat_lt, if◌then◌else◌, Option, Some, None, List, [], ◌∷◌, ◌++◌, length, take, drop, min, refl, sym, ap, ◌∙◌, subst, arith}
use Rattle.std.proofs.lemmas.Bool.{eqb-true, leb-true}
use Rattle.std.proofs.lemmas.List.{length-take, length-take-le, length-drop}
use Rattle.cg_base.specs.declared.kind.Word.{Word}
use Rattle.cg_base.specs.declared.kind.Word.TheVariants.{U8, U32}
use Rattle.cg_cmachine_layout.specs.declared.kind.Part.{Part}
use Rattle.cg_cmachine_layout.specs.Kinds.{layout_of}
use Rattle.cg_cmachine_running.specs.Machine.{IsTyped}
use Rattle.cg_cmachine_running.specs.Flat.{IsRightWithin, plain_at, word_at}
use Rattle.cg_cmachine_resolve.specs.declared.line.Right.{Right}
use Rattle.cg_cmachine_resolve.specs.declared.line.Right.TheVariants as right
use Rattle.cg_cmachine_resolve.specs.Lines.{IsWhole}
use Rattle.cg_cmachine_def.specs.BuiltIns.{BuiltIn, Given, new_alone, free, create, free_array, length_of, get, put, called, array_of, element_at, length_at, next_answer, granted, is_there, make_struct, make_array, number_of, pointer_of}
use Rattle.cg_cmachine_def.specs.Layouts.{Layout, Spot, cell, pointer, group, layout, size}
use Rattle.cg_cmachine_def.specs.Operands.{Value, literal, typed, read, read_part, part_of, has_part, number_at, address_at, address_in, only, present, scalars_in, scalars_of}
use Rattle.cg_cmachine_def.specs.Operations.{word_value, operation, computed}
use Rattle.cg_cmachine_def.specs.Outcomes.{Judged, ok, no, on, State, Outcome, done, stuck, needs, astray, bind, lift, spend_for}
use Rattle.cg_cmachine_def.specs.Runs.{Linked, answered, call_abstract, has_size, state_behind}
use Rattle.cg_cmachine_values.specs.declared.place.Operand.{Operand}
use Rattle.cg_cmachine_values.specs.declared.place.Operand.TheVariants as operand
use Rattle.cg_cmachine_values.specs.declared.place.Place.{Place}
use Rattle.cg_cmachine_values.specs.declared.place.Place.TheVariants.{Nowhere, Local, Behind}
use Rattle.cg_cmachine_values.specs.Values.{IsOperandWithin, IsWithin, judged, read_behind, read_cell, read_place, slots_from}
use Rattle.cg_ctree.specs.declared.why.Why.TheVariants.{KindsDiffer, NoCell}
use Rattle.cg_ctree.specs.Trees.{Function}
use Rattle.cg_heap.specs.Calls.{Answer}
use Rattle.cg_heap.specs.declared.cell.Cell.{Cell}
use Rattle.cg_heap.specs.declared.cell.Fresh.{Fresh}
use Rattle.cg_heap.specs.declared.cell.Fresh.TheVariants as fresh
use Rattle.cg_heap.specs.declared.cell.Scalar.{Scalar}
use Rattle.cg_heap.specs.declared.cell.Scalar.TheVariants.{Word as Number, Address}
use Rattle.cg_heap.specs.Stored.{Stored, asked_of, changed, slot_of, with_fresh, without_answer}
use Rattle.cg_value.specs.Fits.{most_elements}

-- ---- values

pub literal_whole : (n : ℕ) → IsWhole (literal n)
literal_whole n l us e = absurd (cc)

pub typed_whole : (l : Layout) (us : List Scalar) → length us ≡ size l → IsWhole (typed l us)
typed_whole l us h k ws e =
    let i : l ≡ k = cc in
    let j : us ≡ ws = cc in
    sym (ap length j) ∙ h ∙ ap size i

pub word_whole : (w : Word) (n : ℕ) → IsWhole (word_value w n)
unfolding size
word_whole w n = typed_whole (cell w) (Number n ∷ []) refl

pub pointer_whole : (x : List ℕ) (p : ℕ) → IsWhole (typed (pointer x) (Address p ∷ []))
unfolding size
pointer_whole x p = typed_whole (pointer x) (Address p ∷ []) refl

-- a value of a type
pub is_typed_whole : (l : Layout) (v : Value) → IsTyped l v → IsWhole v
is_typed_whole l v t = subst IsWhole (sym t.typed) (typed_whole l (scalars_of v) t.many)

-- ---- what is judged

-- a value that is judged is whole
unfoldable pub WholeIf : Judged Value → Type 0
WholeIf (ok v) = IsWhole v
WholeIf (no why) = Unit {0}

whole_ok : (v : Value) → IsWhole v → WholeIf (ok v)
unfolding WholeIf
whole_ok v h = h

whole_no : (why : _) → WholeIf (no why)
unfolding WholeIf
whole_no why = tt

whole_on : {A : Type 0} (j : Judged A) (f : A → Judged Value) → ((a : A) → WholeIf (f a)) → WholeIf (on j f)
whole_on (ok a) f h = h a
whole_on (no why) f h = whole_no why

pub read_whole : (l : Layout) (us : List Scalar) → length us ≡ size l → WholeIf (read l us)
read_whole (cell w) us h = whole_on (number_at w (only us)) _ (λ n. whole_ok _ (word_whole w n))
read_whole (pointer x) us h = whole_on (address_at (only us)) _ (λ p. whole_ok _ (pointer_whole x p))
read_whole (group x ms) us h = whole_ok _ (typed_whole (group x ms) us h)

-- scalars of a type that are read
pub read_gives_whole : (l : Layout) (us : List Scalar) (v : Value) → length us ≡ size l → read l us ≡ ok v → IsWhole v
unfolding WholeIf
read_gives_whole l us v h e = rw e at (read_whole l us h)

-- all slots that are taken are there
taken : (n : ℕ) (us : List Scalar) → n ≤ length (take n us) → length (take n us) ≡ n
taken n us h = let e : length (take n us) ≡ min n (length us) = length-take n us in omega (arith, e, h)

part_whole : (s : Spot) (us : List Scalar) → WholeIf (read_part s us)
part_whole s us = by_test (has_part s us) refl
  where
    by_test : (t : Bool) → has_part s us ≡ t → WholeIf (if t then read s.layout (part_of s us) else no NoCell)
    by_test true e = read_whole s.layout (part_of s us) (taken (size s.layout) (drop s.start us) (leb-true _ _ e))
    by_test false e = whole_no _

cell_whole : (p : Option Part) (c : Cell) → WholeIf (read_cell p c)
cell_whole None c = whole_no _
cell_whole (Some p) c = whole_on (scalars_in c) _ (λ us. part_whole _ us)

behind_whole : (m : Stored) (p : ℕ) (part : Option Part) → WholeIf (read_behind m p part)
behind_whole m p part = whole_on (present m p) _ (λ c. cell_whole part c)

-- slots that stand in a row are all there
slots_there : (at : ℕ) (l : Layout) (us : List Scalar) → at + size l ≤ length us → length (slots_from at l us) ≡ size l
slots_there at l us h =
    let e : length (drop at us) ≡ length us - at = length-drop at us in
    length-take-le (size l) (drop at us) (omega (arith, e, h))

place_whole : (m : Stored) (us : List Scalar) (q : Place) → IsWithin (length us) q → WholeIf (read_place m us q)
place_whole m us Nowhere h = whole_no _
place_whole m us (Local at k) h = read_whole (layout_of k) (slots_from at (layout_of k) us) (slots_there at (layout_of k) us h)
place_whole m us (Behind at part) h = whole_on (address_at (only (drop at us))) _ (λ p. behind_whole m p part)

pub judged_whole : (m : Stored) (us : List Scalar) (o : Operand) → IsOperandWithin (length us) o → WholeIf (judged m us o)
judged_whole m us (operand.Number n) h = whole_ok _ (literal_whole n)
judged_whole m us (operand.Place q) h = place_whole m us q h

computed_whole : (outer inner : Word) (o : _) (a b : ℕ) → WholeIf (computed outer inner o a b)
computed_whole outer inner o a b = whole_on (operation o _ _ _) _ (λ n. whole_ok _ (word_whole outer _))

-- what stands on the right of an assignment, beside calls and `cg_new`
pub plain_whole : (m : Stored) (us : List Scalar) (e : Right) → IsRightWithin (length us) e → WholeIf (plain_at m us e)
plain_whole m us (right.Operand o) h = judged_whole m us o h
plain_whole m us (right.Convert w o) h = whole_on (word_at m us o) _ (λ k. whole_ok _ (word_whole w _))
plain_whole m us (right.Binary outer inner op l r) h =
    whole_on (word_at m us l) _ (λ a. whole_on (word_at m us r) (λ b. computed outer inner op a b) (λ b. computed_whole outer inner op a b))
plain_whole m us (right.Flip outer inner o) h = whole_on (word_at m us o) _ (λ k. whole_ok _ (word_whole outer _))
plain_whole m us (right.IsNull o) h =
    whole_on (judged m us o) _ (λ v. whole_on (address_in v) (λ p. ok (word_value U8 _)) (λ p. whole_ok _ (word_whole U8 _)))
plain_whole m us (right.Call c os) h = whole_no _
plain_whole m us (right.New o x s) h = whole_no _

-- ---- what built-ins give

-- a value that is given is whole
unfoldable pub WholeGiven : Outcome Given → Type 0
WholeGiven (done None s left) = Unit {0}
WholeGiven (done (Some v) s left) = IsWhole v
WholeGiven (stuck why m) = Unit {0}
WholeGiven (needs m) = Unit {0}
WholeGiven astray = Unit {0}

given_some : (v : Value) (s : State) (left : ℕ) → IsWhole v → WholeGiven (done (Some v) s left)
unfolding WholeGiven
given_some v s left h = h

given_none : (s : State) (left : ℕ) → WholeGiven (done None s left)
unfolding WholeGiven
given_none s left = tt

given_stuck : (why : _) (m : Stored) → WholeGiven (stuck why m)
unfolding WholeGiven
given_stuck why m = tt

given_lift : {A : Type 0} (m : Stored) (j : Judged A) (f : A → Outcome Given) → ((a : A) → WholeGiven (f a)) → WholeGiven (lift m j f)
given_lift m (ok a) f h = h a
given_lift m (no why) f h = given_stuck why m

given_judged : (m : Stored) (j : Judged Value) (s : State) (left : ℕ) → WholeIf j → WholeGiven (lift m j (λ v. done (Some v) s left))
unfolding WholeIf WholeGiven
given_judged m (ok v) s left h = h
given_judged m (no why) s left h = tt

given_spend : (m : Stored) (cost left : ℕ) (f : ℕ → Outcome Given) → ((rest : ℕ) → WholeGiven (f rest)) → WholeGiven (spend_for m cost left f)
unfolding WholeGiven
given_spend m cost left f h = by_test (nat_lt left cost)
  where
    by_test : (t : Bool) → WholeGiven (cond t (needs m) (f (left - cost)))
    by_test true = tt
    by_test false = h (left - cost)

granted_whole : (x : List ℕ) (q : ℕ) (t : Bool) (f : Fresh) (cost : ℕ) (s : State) (left : ℕ) → WholeGiven (granted (pointer x) q t f cost s left)
granted_whole x q true f cost s left =
    given_spend s.store cost left (λ rest. done (Some (typed (pointer x) (Address (s.store.top + 1) ∷ [])))
    (record { store = with_fresh f (changed without_answer q s.store); made = s.made ++ (s.store.top + 1) ∷ []; freed = s.freed }) rest)
    (λ rest. given_some _ _ rest (pointer_whole x (s.store.top + 1)))
granted_whole x q false f cost s left = given_some _ _ left (pointer_whole x 0)

-- `cg_new`
pub new_whole : (x : List ℕ) (slots : ℕ) (v : Value) (s : State) (left : ℕ) → WholeGiven (make_struct x slots v s left)
new_whole x slots v s left = given_lift s.store _ _ (λ q. granted_whole x q (next_answer q s.store) (fresh.Slots slots) 0 s left)

array_whole : (w : Word) (q n : ℕ) (s : State) (left : ℕ) → WholeGiven (make_array w q n s left)
array_whole w q n s left = granted_whole _ q (next_answer q s.store && nat_le n most_elements) (fresh.Words n) n s left

-- an element
element_whole : (w : Word) (p i : ℕ) (m : Stored) → WholeIf (element_at w p i m)
element_whole w p i m = by_test (nat_lt i (length_at p m)) refl
  where
    by_slot : (o : Option Scalar) → nat_lt i (length_at p m) ≡ true → asked_of (slot_of i) p m ≡ o → WholeIf (element_at w p i m)
    by_slot None e f = rw (e, f) (whole_no _)
    by_slot (Some u) e f = rw (e, f) (whole_on (number_at w u) _ (λ n. whole_ok _ (word_whole w n)))

    by_test : (t : Bool) → nat_lt i (length_at p m) ≡ t → WholeIf (element_at w p i m)
    by_test true e = by_slot (asked_of (slot_of i) p m) e refl
    by_test false e = rw e (whole_ok _ (word_whole w 0))

-- a built-in whose value is asked for
pub called_whole : (k : BuiltIn) (vs : List Value) (s : State) (left : ℕ) → WholeGiven (called k true vs s left)
called_whole new_alone vs s left = given_stuck _ _
called_whole free [] s left = given_stuck _ _
called_whole free (q ∷ []) s left = given_stuck _ _
called_whole free (q ∷ p ∷ []) s left = given_lift s.store _ _ (λ a. given_none _ left)
called_whole free (q ∷ p ∷ v ∷ vs) s left = given_stuck _ _
called_whole (create w) [] s left = given_stuck _ _
called_whole (create w) (q ∷ []) s left = given_stuck _ _
called_whole (create w) (q ∷ n ∷ []) s left =
    given_lift s.store _ (λ a. lift s.store (number_of U32 n) (λ k. make_array w a k s left)) (λ a.
    given_lift s.store (number_of U32 n) (λ k. make_array w a k s left) (λ k. array_whole w a k s left))
called_whole (create w) (q ∷ n ∷ v ∷ vs) s left = given_stuck _ _
called_whole (free_array w) [] s left = given_stuck _ _
called_whole (free_array w) (q ∷ []) s left = given_stuck _ _
called_whole (free_array w) (q ∷ p ∷ []) s left = given_lift s.store _ _ (λ a. given_none _ left)
called_whole (free_array w) (q ∷ p ∷ v ∷ vs) s left = given_stuck _ _
called_whole (length_of w) [] s left = given_stuck _ _
called_whole (length_of w) (p ∷ []) s left = given_lift s.store _ _ (λ a. given_some _ _ left (word_whole U32 _))
called_whole (length_of w) (p ∷ v ∷ vs) s left = given_stuck _ _
called_whole (get w) [] s left = given_stuck _ _
called_whole (get w) (p ∷ []) s left = given_stuck _ _
called_whole (get w) (p ∷ i ∷ []) s left =
    given_judged s.store _ s left (whole_on (is_there s.store p) (λ u. on (pointer_of (array_of w) p) (λ a. on (number_of U32 i) (λ k. element_at w a k s.store))) (λ u.
    whole_on (pointer_of (array_of w) p) (λ a. on (number_of U32 i) (λ k. element_at w a k s.store)) (λ a.
    whole_on (number_of U32 i) (λ k. element_at w a k s.store) (λ k. element_whole w a k s.store))))
called_whole (get w) (p ∷ i ∷ v ∷ vs) s left = given_stuck _ _
called_whole (put w) [] s left = given_stuck _ _
called_whole (put w) (p ∷ []) s left = given_stuck _ _
called_whole (put w) (p ∷ i ∷ []) s left = given_stuck _ _
called_whole (put w) (p ∷ i ∷ v ∷ []) s left = given_lift s.store _ _ (λ m. given_none _ left)
called_whole (put w) (p ∷ i ∷ v ∷ u ∷ vs) s left = given_stuck _ _

-- ---- what abstract functions give

-- a value that a call gives is whole
unfoldable pub WholeValue : Outcome Value → Type 0
WholeValue (done v s left) = IsWhole v
WholeValue (stuck why m) = Unit {0}
WholeValue (needs m) = Unit {0}
WholeValue astray = Unit {0}

-- as many scalars as a type has slots
unfoldable HasSize : Layout → Outcome (List Scalar) → Type 0
HasSize l (done us s left) = length us ≡ size l
HasSize l (stuck why m) = Unit {0}
HasSize l (needs m) = Unit {0}
HasSize l astray = Unit {0}

sized_lift : {A : Type 0} (l : Layout) (m : Stored) (j : Judged A) (f : A → Outcome (List Scalar)) → ((a : A) → HasSize l (f a)) → HasSize l (lift m j f)
unfolding HasSize
sized_lift l m (ok a) f h = h a
sized_lift l m (no why) f h = tt

sized_spend : (l : Layout) (m : Stored) (cost left : ℕ) (f : ℕ → Outcome (List Scalar)) → ((rest : ℕ) → HasSize l (f rest)) → HasSize l (spend_for m cost left f)
unfolding HasSize
sized_spend l m cost left f h = by_test (nat_lt left cost)
  where
    by_test : (t : Bool) → HasSize l (cond t (needs m) (f (left - cost)))
    by_test true = tt
    by_test false = h (left - cost)

sized_result : (l : Layout) (m : Stored) (us : List Scalar) (s : State) (left : ℕ) → HasSize l (lift m (has_size l us) (λ _. done us s left))
unfolding HasSize
sized_result l m us s left = by_test (nat_eq (length us) (size l)) refl
  where
    by_test : (t : Bool) → nat_eq (length us) (size l) ≡ t → HasSize l (lift m (cond t (ok tt) (no KindsDiffer)) (λ (_ : Unit {0}). done us s left))
    by_test true e = eqb-true _ _ e
    by_test false e = tt

answered_sized : (agrees : Judged (Unit {0})) (l : Layout) (s : State) (left : ℕ) (a : Option Answer) → HasSize l (answered agrees l s left a)
unfolding HasSize
answered_sized agrees l s left None = tt
answered_sized agrees l s left (Some a) =
    sized_lift l s.store agrees _ (λ u. sized_spend l s.store a.cost left (λ rest. lift a.out.store (has_size l a.out.result) (λ _. done a.out.result (state_behind s a.out) rest)) (λ rest.
    sized_result l a.out.store a.out.result (state_behind s a.out) rest))

read_back : (l : Layout) (o : Outcome (List Scalar)) → HasSize l o → WholeValue (bind o (λ us after rest. lift after.store (read l us) (λ v. done v after rest)))
unfolding HasSize WholeValue WholeIf
read_back l (done us s left) h = by_read (read l us) (read_whole l us h)
  where
    by_read : (j : Judged Value) → WholeIf j → WholeValue (lift s.store j (λ v. done v s left))
    by_read (ok v) k = k
    by_read (no why) k = tt
read_back l (stuck why m) h = tt
read_back l (needs m) h = tt
read_back l astray h = tt

-- a call of an abstract function
pub abstract_whole : (p : Linked) (f : Function) (name : List ℕ) (vs : List Value) (s : State) (left : ℕ) → WholeValue (call_abstract p f name vs s left)
abstract_whole p f name vs s left = read_back (layout p.program.structs f.ty) _ (answered_sized _ _ s left _)
