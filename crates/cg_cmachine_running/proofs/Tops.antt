-- A built-in leaves no more steps than there were, and raises the top of the store by one at most.
use Rattle.std.proofs.Common.{◌≡◌, ℕ, ◌+◌, ◌*◌, ◌-◌, ◌<◌, ◌≤◌, ◌^◌, Bool, true, false, cond, ◌&&◌, nat_le, nat_lt, Some, None, List, [], ◌∷◌, ◌++◌, drop, refl, arith}
use Rattle.std.specs.declared.option.Option.{Option}
use Rattle.cg_base.specs.declared.kind.Word.{Word}
use Rattle.cg_base.specs.declared.kind.Word.TheVariants.{U32}
use Rattle.cg_cmachine_builtins.specs.Called.{into_place}
use Rattle.cg_cmachine_layout.specs.declared.kind.Part.{Part}
use Rattle.cg_cmachine_layout.specs.Kinds.{layout_of}
use Rattle.cg_cmachine_def.specs.BuiltIns.{BuiltIn, Given, as_asked, is_there, pointer_of, new_alone, free, create, free_array, length_of, get, put, called, array_of, length_at, next_answer, granted, make_struct, make_array, number_of, with_element_at}
use Rattle.cg_cmachine_def.specs.Layouts.{Layout, pointer, spot}
use Rattle.cg_cmachine_def.specs.Operands.{Value, typed, address_at, give, only, present}
use Rattle.cg_cmachine_def.specs.Outcomes.{Judged, ok, no, on, State, Outcome, done, stuck, needs, astray, bind, lift, spend_for}
use Rattle.cg_cmachine_def.specs.Targets.{spliced, with_cell_at, written_cell}
use Rattle.cg_ctree.specs.declared.why.Why.{Why}
use Rattle.cg_cmachine_values.specs.declared.place.Place.{Place}
use Rattle.cg_cmachine_values.specs.declared.place.Place.TheVariants.{Nowhere, Local, Behind}
use Rattle.cg_cmachine_values.specs.Values.{Changed, overwritten, write_behind, write_cell, write_place}
use Rattle.cg_heap.proofs.TopSteps.{top_stays}
use Rattle.cg_heap.specs.declared.cell.Cell.{Cell}
use Rattle.cg_heap.specs.declared.cell.Cell.TheVariants.{Slots}
use Rattle.cg_heap.specs.declared.cell.Fresh.{Fresh}
use Rattle.cg_heap.specs.declared.cell.Fresh.TheVariants as fresh
use Rattle.cg_heap.specs.declared.cell.Scalar.{Scalar}
use Rattle.cg_heap.specs.declared.cell.Scalar.TheVariants.{Address}
use Rattle.cg_heap.specs.Stored.{Stored, asked_of, changed, with_element, with_fresh, without_answer}
use Rattle.cg_value.specs.Fits.{most_elements}

-- what is judged has this
unfoldable pub AllOf : {A : Type 0} → (A → Type 0) → Judged A → Type 0
AllOf P (ok a) = P a
AllOf P (no why) = Unit {0}

all_on : {A B : Type 0} (P : B → Type 0) (r : Judged A) (f : A → Judged B) → ((a : A) → AllOf P (f a)) → AllOf P (on r f)
unfolding AllOf
all_on P (ok a) f h = h a
all_on P (no why) f h = tt

-- the top and the steps of what is done are at most these
unfoldable pub Under : {A : Type 0} → ℕ → ℕ → Outcome A → Type 0
Under t b (done a s left) = (s.store.top ≤ t) × (left ≤ b)
Under t b (stuck why m) = Unit {0}
Under t b (needs m) = Unit {0}
Under t b astray = Unit {0}

pub under_done : {A : Type 0} (t b : ℕ) (o : Outcome A) (a : A) (s : State) (left : ℕ) → Under t b o → o ≡ done a s left → (s.store.top ≤ t) × (left ≤ b)
unfolding Under
under_done t b o a s left h e = rw e at h

pub done_under : {A : Type 0} (t b : ℕ) (a : A) (s : State) (left : ℕ) → s.store.top ≤ t → left ≤ b → Under t b (done a s left)
unfolding Under
done_under t b a s left h l = (h, l)

stuck_under : (A : Type 0) (t b : ℕ) (why : Why) (m : Stored) → Under {A = A} t b (stuck why m)
unfolding Under
stuck_under A t b why m = tt

pub astray_under : (A : Type 0) (t b : ℕ) → Under {A = A} t b astray
unfolding Under
astray_under A t b = tt

lift_under : {A B : Type 0} (P : A → Type 0) (t b : ℕ) (m : Stored) (r : Judged A) (f : A → Outcome B) → AllOf P r → ((a : A) → P a → Under t b (f a)) → Under t b (lift m r f)
unfolding AllOf
lift_under P t b m (ok a) f h k = k a h
lift_under P t b m (no why) f h k = stuck_under _ t b why m

any : {A : Type 0} (r : Judged A) → AllOf (λ a. Unit {0}) r
unfolding AllOf
any (ok a) = tt
any (no why) = tt

pub plain_under : {A B : Type 0} (t b : ℕ) (m : Stored) (r : Judged A) (f : A → Outcome B) → ((a : A) → Under t b (f a)) → Under t b (lift m r f)
plain_under t b m r f h = lift_under (λ a. Unit {0}) t b m r f (any r) (λ a _. h a)

pub bind_under : {A B : Type 0} (t b : ℕ) (o : Outcome A) (f : A → State → ℕ → Outcome B) → Under t b o → ((a : A) (s : State) (left : ℕ) → s.store.top ≤ t → left ≤ b → Under t b (f a s left)) → Under t b (bind o f)
unfolding Under
bind_under t b (done a s left) f h k = k a s left h.0 h.1
bind_under t b (stuck why m) f h k = tt
bind_under t b (needs m) f h k = tt
bind_under t b astray f h k = tt

-- ---- what built-ins do

pub spend_under : {A : Type 0} (t b : ℕ) (m : Stored) (cost : ℕ) (f : ℕ → Outcome A) → ((k : ℕ) → k ≤ b → Under t b (f k)) → Under t b (spend_for m cost b f)
unfolding Under
spend_under t b m cost f h = by_test (nat_lt b cost)
  where
    by_test : (c : Bool) → Under t b (cond c (needs m) (f (b - cost)))
    by_test true = tt
    by_test false = h (b - cost) (omega arith)

granted_under : (l : Layout) (q : ℕ) (c : Bool) (f : Fresh) (cost : ℕ) (s : State) (b : ℕ) → Under (s.store.top + 1) b (granted l q c f cost s b)
granted_under l q true f cost s b =
    let same = top_stays without_answer q s.store in
    spend_under (s.store.top + 1) b s.store cost (λ rest. done (Some (typed l (Address (s.store.top + 1) ∷ [])))
    (record { store = with_fresh f (changed without_answer q s.store); made = s.made ++ (s.store.top + 1) ∷ []; freed = s.freed }) rest)
    (λ k h. done_under (s.store.top + 1) b _ _ k (omega (arith, same)) h)
granted_under l q false f cost s b =
    let same = top_stays without_answer q s.store in
    done_under (s.store.top + 1) b _ _ b (omega (arith, same)) (omega arith)

pub make_struct_under : (x : List ℕ) (slots : ℕ) (v : Value) (s : State) (b : ℕ) → Under (s.store.top + 1) b (make_struct x slots v s b)
make_struct_under x slots v s b = plain_under _ b s.store _ _ (λ q. granted_under (pointer x) q (next_answer q s.store) (fresh.Slots slots) 0 s b)

make_array_under : (w : Word) (q n : ℕ) (s : State) (b : ℕ) → Under (s.store.top + 1) b (make_array w q n s b)
make_array_under w q n s b = granted_under (array_of w) q (next_answer q s.store && nat_le n most_elements) (fresh.Words n) n s b

-- an element that is written leaves the top
element_top : (p i n : ℕ) (m : Stored) → AllOf (λ (m' : Stored). m'.top ≡ m.top) (with_element_at p i n m)
unfolding AllOf
element_top p i n m = by_test (nat_lt i (length_at p m)) (asked_of (with_element i n) p m) refl refl
  where
    by_test : (c : Bool) (o : Option Cell) → nat_lt i (length_at p m) ≡ c → asked_of (with_element i n) p m ≡ o → AllOf (λ (m' : Stored). m'.top ≡ m.top) (with_element_at p i n m)
    by_test true None e h = rw (e, h) tt
    by_test true (Some c) e h = rw (e, h) refl
    by_test false o e h = rw e refl

-- a built-in, of any operands
pub called_under : (k : BuiltIn) (wanted : Bool) (vs : List Value) (s : State) (b : ℕ) → Under (s.store.top + 1) b (called k wanted vs s b)
called_under new_alone wanted vs s b = stuck_under _ _ b _ _
called_under free wanted [] s b = stuck_under _ _ b _ _
called_under free wanted (q ∷ []) s b = stuck_under _ _ b _ _
called_under free wanted (q ∷ p ∷ []) s b = plain_under _ b s.store _ _ (λ a. done_under _ b _ _ b (omega arith) (omega arith))
called_under free wanted (q ∷ p ∷ v ∷ vs) s b = stuck_under _ _ b _ _
called_under (create w) wanted [] s b = stuck_under _ _ b _ _
called_under (create w) wanted (q ∷ []) s b = stuck_under _ _ b _ _
called_under (create w) wanted (q ∷ n ∷ []) s b =
    plain_under _ b s.store _ (λ a. lift s.store (number_of U32 n) (λ k. make_array w a k s b)) (λ a.
    plain_under _ b s.store (number_of U32 n) (λ k. make_array w a k s b) (λ k. make_array_under w a k s b))
called_under (create w) wanted (q ∷ n ∷ v ∷ vs) s b = stuck_under _ _ b _ _
called_under (free_array w) wanted [] s b = stuck_under _ _ b _ _
called_under (free_array w) wanted (q ∷ []) s b = stuck_under _ _ b _ _
called_under (free_array w) wanted (q ∷ p ∷ []) s b = plain_under _ b s.store _ _ (λ a. done_under _ b _ _ b (omega arith) (omega arith))
called_under (free_array w) wanted (q ∷ p ∷ v ∷ vs) s b = stuck_under _ _ b _ _
called_under (length_of w) wanted [] s b = stuck_under _ _ b _ _
called_under (length_of w) wanted (p ∷ []) s b = plain_under _ b s.store _ _ (λ a. done_under _ b _ _ b (omega arith) (omega arith))
called_under (length_of w) wanted (p ∷ v ∷ vs) s b = stuck_under _ _ b _ _
called_under (get w) wanted [] s b = stuck_under _ _ b _ _
called_under (get w) wanted (p ∷ []) s b = stuck_under _ _ b _ _
called_under (get w) wanted (p ∷ i ∷ []) s b = plain_under _ b s.store _ _ (λ v. done_under _ b _ _ b (omega arith) (omega arith))
called_under (get w) wanted (p ∷ i ∷ v ∷ vs) s b = stuck_under _ _ b _ _
called_under (put w) wanted [] s b = stuck_under _ _ b _ _
called_under (put w) wanted (p ∷ []) s b = stuck_under _ _ b _ _
called_under (put w) wanted (p ∷ i ∷ []) s b = stuck_under _ _ b _ _
called_under (put w) wanted (p ∷ i ∷ v ∷ []) s b =
    lift_under (λ (m : Stored). m.top ≡ s.store.top) (s.store.top + 1) b s.store
    (on (is_there s.store p) (λ _. on (pointer_of (array_of w) p) (λ a. on (number_of U32 i) (λ k. on (number_of w v) (λ n. on (as_asked wanted) (λ _. with_element_at a k n s.store)))))) _
    (all_on (λ (m : Stored). m.top ≡ s.store.top) (is_there s.store p) _ (λ _. all_on (λ (m : Stored). m.top ≡ s.store.top) (pointer_of (array_of w) p) _ (λ a.
    all_on (λ (m : Stored). m.top ≡ s.store.top) (number_of U32 i) _ (λ k. all_on (λ (m : Stored). m.top ≡ s.store.top) (number_of w v) _ (λ n.
    all_on (λ (m : Stored). m.top ≡ s.store.top) (as_asked wanted) _ (λ _. element_top a k n s.store))))))
    (λ m e. done_under {A = Given} (s.store.top + 1) b None (record { store = m; made = s.made; freed = s.freed }) b (omega (arith, e)) (omega arith))
called_under (put w) wanted (p ∷ i ∷ v ∷ u ∷ vs) s b = stuck_under _ _ b _ _

-- ---- assignments

behind_top : (m : Stored) (p : ℕ) (part : Option Part) (v : Value) → AllOf (λ (m' : Stored). m'.top ≡ m.top) (write_behind m p part v)
unfolding AllOf
behind_top m p None v = all_on _ (present m p) (write_cell m p v None) (λ c. all_no c)
  where
    all_no : (c : Cell) → AllOf (λ (m' : Stored). m'.top ≡ m.top) (write_cell m p v None c)
    all_no c = tt
behind_top m p (Some part) v =
    all_on _ (present m p) (write_cell m p v (Some part)) (λ c.
    all_on (λ (m' : Stored). m'.top ≡ m.top) (written_cell (spot part.start (layout_of part.kind)) c)
    (λ slots. on (give (layout_of part.kind) v) (λ xs. ok (with_cell_at p (Slots (spliced (spot part.start (layout_of part.kind)) xs slots)) m))) (λ slots.
    all_on (λ (m' : Stored). m'.top ≡ m.top) (give (layout_of part.kind) v) (λ xs. ok (with_cell_at p (Slots (spliced (spot part.start (layout_of part.kind)) xs slots)) m)) (λ xs. refl)))

pub place_top : (m : Stored) (us : List Scalar) (place : Place) (v : Value) → AllOf (λ (w : Changed). w.store.top ≡ m.top) (write_place m us place v)
unfolding AllOf
place_top m us Nowhere v = tt
place_top m us (Local at k) v = all_on (λ (w : Changed). w.store.top ≡ m.top) (give (layout_of k) v) (λ xs. ok (record { slots = overwritten at xs us; store = m })) (λ xs. refl)
place_top m us (Behind at part) v =
    all_on (λ (w : Changed). w.store.top ≡ m.top) (address_at (only (drop at us))) (λ p. on (write_behind m p part v) (λ m'. ok (record { slots = us; store = m' }))) (λ p. through p (write_behind m p part v) (behind_top m p part v))
  where
    through : (p : ℕ) (r : Judged Stored) → AllOf (λ (m' : Stored). m'.top ≡ m.top) r → AllOf (λ (w : Changed). w.store.top ≡ m.top) (on r (λ m'. ok (record { slots = us; store = m' })))
    through p (ok m') h = h
    through p (no why) h = tt

got : {A : Type 0} (P : A → Type 0) (j : Judged A) (a : A) → AllOf P j → j ≡ ok a → P a
unfolding AllOf
got P j a h e = rw e at h

-- an assignment leaves the top
pub place_keeps : (m m' : Stored) (us ws : List Scalar) (place : Place) (v : Value) → write_place m us place v ≡ ok (record { slots = ws; store = m' }) → m'.top ≡ m.top
place_keeps m m' us ws place v e = got (λ (w : Changed). w.store.top ≡ m.top) (write_place m us place v) (record { slots = ws; store = m' }) (place_top m us place v) e

into_under : (m : Stored) (us : List Scalar) (place : Place) (g : Given) (s : State) (left t b : ℕ) → s.store.top ≤ t → left ≤ b → Under t b (into_place m us place g s left)
into_under m us place None s left t b h l = stuck_under _ t b _ m
into_under m us place (Some v) s left t b h l =
    lift_under (λ (w : Changed). w.store.top ≡ s.store.top) t b m (write_place s.store us place v) _ (place_top s.store us place v) (λ w e. done_under t b _ _ left (omega (arith, e, h)) l)

-- what is assigned of a built-in
pub assigned_under : (o : Outcome Given) (m : Stored) (us : List Scalar) (place : Place) (t b : ℕ) → Under t b o → Under t b (bind o (into_place m us place))
assigned_under o m us place t b h = bind_under t b o (into_place m us place) h (λ g s left h l. into_under m us place g s left t b h l)

-- ---- the steps and the room that are left

pub fewer : {A : Type 0} (o : Outcome A) (a : A) (m : Stored) (s : State) (b left : ℕ) → Under (m.top + 1) b o → o ≡ done a s left → left ≤ b
fewer o a m s b left h e = (under_done (m.top + 1) b o a s left h e).1

pub lower : {A : Type 0} (o : Outcome A) (a : A) (m : Stored) (s : State) (b left : ℕ) → Under (m.top + 1) b o → o ≡ done a s left
    → m.top + (b + 2) * 65536 < 2 ^ 63 → s.store.top + (left + 1) * 65536 < 2 ^ 63
lower o a m s b left h e low =
    let both = under_done (m.top + 1) b o a s left h e in
    let top = both.0 in
    let few = both.1 in
    omega (arith, top, few, low)
