-- Calls of abstract functions, as equations.
use Rattle.std.proofs.Common.{◌≡◌, ℕ, ◌+◌, ◌-◌, ◌<◌, ◌≤◌, Bool, true, false, cond, nat_eq, nat_lt, Some, None, List, [], ◌∷◌, ◌++◌, length, map, refl, sym, subst, ap, ◌∙◌, arith}
use Rattle.std.proofs.lemmas.List.{take_all}
use Rattle.std.specs.List.{flat_map}
use Rattle.std.specs.Prelude.{slice_get}
use Rattle.std.specs.declared.option.Option.{Option}
use Rattle.cg_cmachine_builtins.specs.Called as called
use Rattle.cg_cmachine_builtins.specs.Called.{state_of}
use Rattle.cg_cmachine_builtins.specs.declared.changes.Changes.{Changes}
use Rattle.cg_cmachine_layout.specs.declared.kind.Kind.{Kind}
use Rattle.cg_cmachine_layout.specs.Kinds.{layout_of}
use Rattle.cg_cmachine_resolve.specs.Lines.{IsAt}
use Rattle.cg_cmachine_resolve.specs.Resolutions.{IsHead, Resolution, next}
use Rattle.cg_cmachine_def.specs.Layouts.{Layout, cell, group, layout, pointer, same_layout, size}
use Rattle.cg_cmachine_def.specs.Operands as operands
use Rattle.cg_cmachine_def.specs.Operands.{Value, literal, typed, give, read, scalars_of}
use Rattle.cg_cmachine_def.specs.Outcomes.{Judged, ok, no, on, State, Outcome, IsCalm, done, stuck, needs, astray, bind, lift}
use Rattle.cg_cmachine_def.specs.Runs.{Flow, agree, answered, has_size, onward, state_behind}
use Rattle.cg_ctree.specs.declared.tree.CDecl.{CDecl}
use Rattle.cg_ctree.specs.declared.tree.CFun.{CFun}
use Rattle.cg_ctree.specs.declared.tree.CStruct.{CStruct}
use Rattle.cg_ctree.specs.declared.why.Why.{Why}
use Rattle.cg_ctree.specs.declared.why.Why.TheVariants.{KindsDiffer}
use Rattle.cg_cmachine_values.proofs.Giving.{give_typed}
use Rattle.cg_cmachine_values.specs.Values.{Tries, slots_from}
use Rattle.cg_cmachine_values.specs.declared.fault.RunFault.{RunFault}
use Rattle.cg_cmachine_values.specs.declared.fault.RunFault.TheVariants.{Stuck, Budget, Memory}
use Rattle.std.specs.Prelude.{Err, IfOk, Ok, Result, ◌*◌}
use Rattle.cg_cmachine_running.specs.declared.machine.Machine.{Machine}
use Rattle.cg_cmachine_running.specs.declared.machine.Next.{Next}
use Rattle.cg_base.specs.Words.{bits}
use Rattle.std.specs.Prelude.{◌^◌}
use Rattle.cg_heap.specs.Calls.{Answer}
use Rattle.cg_heap.specs.declared.cell.Scalar.{Scalar}
use Rattle.cg_heap.specs.declared.cell.Scalar.TheVariants.{Word}
use Rattle.cg_heap.specs.Stored.{Stored}
use Rattle.cg_cmachine_running.specs.declared.machine.Frame.{Frame}
use Rattle.cg_cmachine_running.specs.declared.machine.Kont.{Kont}
use Rattle.cg_cmachine.specs.Abstracts.{Answers, IsAdded, answered_value, read_whole}
use Rattle.cg_cmachine_running.specs.Machine.{Asked, abstract_call, function_at, gathered, landed, waits, weight}
use Rattle.cg_cmachine_running.proofs.Entries.{at_place, laid}
use Rattle.cg_cmachine_running.proofs.Steps.{Fails, waits_astray, waits_stuck}
use Rattle.cg_cmachine_running.proofs.Tops.{Under, astray_under, bind_under, done_under, plain_under, spend_under, under_done}
use Rattle.cg_cmachine_builtins.proofs.Creating.{few}

-- ---- arguments

-- nothing but that it is judged
abbrev fine : Judged (Unit {0})
fine = ok tt

agree_more : (g h : Judged (List Scalar)) → on g (λ us. on h (λ _. fine)) ≡ on (on g (λ us. on h (λ ws. ok (us ++ ws)))) (λ _. fine)
agree_more (ok us) (ok ws) = refl
agree_more (ok us) (no why) = refl
agree_more (no why) h = refl

-- values are of the types where their scalars can be gathered
agree_is : (ss : List CStruct) (ds : List CDecl) (vs : List Value) → agree ss ds vs ≡ on (gathered (laid ss ds) vs) (λ _. fine)
agree_is ss [] [] = refl
agree_is ss [] (v ∷ vs) = refl
agree_is ss (d ∷ ds) [] = refl
agree_is ss (d ∷ ds) (v ∷ vs) =
    ap (λ z. on (give (layout ss d.ty) v) (λ us. z)) (agree_is ss ds vs) ∙ agree_more (give (layout ss d.ty) v) (gathered (laid ss ds) vs)

given_by : (b : Bool) (ws us : List Scalar) → cond b (ok ws) (no KindsDiffer) ≡ ok us → us ≡ ws
given_by true ws us e = cc
given_by false ws us e = absurd cc

-- what is given is the value's own scalars
give_own : (l : Layout) (v : Value) (us : List Scalar) → give l v ≡ ok us → us ≡ scalars_of v
give_own (cell w) (literal n) us e = given_by (nat_lt n (2 ^ bits w)) (Word n ∷ []) us e
give_own (pointer x) (literal n) us e = absurd cc
give_own (group x ms) (literal n) us e = absurd cc
give_own l (typed k ws) us e = given_by (same_layout l k) ws us (sym (give_typed l k ws) ∙ e)

pub gathered_own : (ls : List Layout) (vs : List Value) (us : List Scalar) → gathered ls vs ≡ ok us → us ≡ flat_map scalars_of vs
gathered_own [] [] us e = cc
gathered_own [] (v ∷ vs) us e = absurd cc
gathered_own (l ∷ ls) [] us e = absurd cc
gathered_own (l ∷ ls) (v ∷ vs) us e = through (give l v) (gathered ls vs) (give_own l v) (gathered_own ls vs) e
  where
    through : (g h : Judged (List Scalar)) → ((ws : List Scalar) → g ≡ ok ws → ws ≡ scalars_of v) → ((ws : List Scalar) → h ≡ ok ws → ws ≡ flat_map scalars_of vs)
        → on g (λ us. on h (λ ws. ok (us ++ ws))) ≡ ok us → us ≡ scalars_of v ++ flat_map scalars_of vs
    through (ok xs) (ok ys) a b i =
        let p : us ≡ xs ++ ys = cc in
        p ∙ ap (λ z. z ++ ys) (a xs refl) ∙ ap (λ z. scalars_of v ++ z) (b ys refl)
    through (ok xs) (no why) a b i = absurd cc
    through (no why) h a b i = absurd cc

-- ---- results

size_same : (l : Layout) (us : List Scalar) → length us ≡ size l → has_size l us ≡ fine
size_same l us e = by_test (nat_eq (length us) (size l)) (grind (arith, e))
  where
    by_test : (b : Bool) → b ≡ true → cond b fine (no KindsDiffer) ≡ fine
    by_test b e = rw e refl

size_other : (l : Layout) (us : List Scalar) → (length us ≡ size l → ⊥) → has_size l us ≡ no KindsDiffer
size_other l us h = by_test (nat_eq (length us) (size l)) (grind (arith, h))
  where
    by_test : (b : Bool) → b ≡ false → cond b fine (no KindsDiffer) ≡ no KindsDiffer
    by_test b e = rw e refl

pub whole_from : (l : Layout) (us : List Scalar) → length us ≡ size l → slots_from 0 l us ≡ us
whole_from l us e = take_all (size l) us (omega (arith, e))

pub whole_read : (l : Layout) (us : List Scalar) → length us ≡ size l → read l (slots_from 0 l us) ≡ read_whole l us
whole_read l us e = ap (read l) (whole_from l us e) ∙ sym (ap (λ j. on j (λ _. read l us)) (size_same l us e))

pub whole_other : (l : Layout) (us : List Scalar) → (length us ≡ size l → ⊥) → read_whole l us ≡ no KindsDiffer
whole_other l us h = ap (λ j. on j (λ _. read l us)) (size_other l us h)

-- ---- an answer

enough : (cost left rest : ℕ) → cost + rest ≡ left → nat_lt left cost ≡ false
enough cost left rest h = grind (arith, h)

pub answered_refused : (j : Judged (Unit {0})) (l : Layout) (s : State) (left : ℕ) (a : Answer) (why : Why) → j ≡ no why → answered j l s left (Some a) ≡ stuck why s.store
answered_refused j l s left a why e = rw e refl

pub answered_needs : (j : Judged (Unit {0})) (l : Layout) (s : State) (left : ℕ) (a : Answer) → j ≡ fine → left < a.cost → answered j l s left (Some a) ≡ needs s.store
answered_needs j l s left a e h = rw (e, few a.cost left h) refl

-- the steps are there
answered_runs : (j : Judged (Unit {0})) (l : Layout) (s : State) (left rest : ℕ) (a : Answer) → j ≡ fine → a.cost + rest ≡ left
    → answered j l s left (Some a) ≡ lift a.out.store (has_size l a.out.result) (λ _. done a.out.result (state_behind s a.out) rest)
answered_runs j l s left rest a e h =
    let same : left - a.cost ≡ rest = omega (arith, h) in
    rw (e, enough a.cost left rest h, same) refl

pub answered_sized : (j : Judged (Unit {0})) (l : Layout) (s : State) (left rest : ℕ) (a : Answer) → j ≡ fine → a.cost + rest ≡ left → (length a.out.result ≡ size l → ⊥)
    → answered j l s left (Some a) ≡ stuck KindsDiffer a.out.store
answered_sized j l s left rest a e h z = answered_runs j l s left rest a e h ∙ rw (size_other l a.out.result z) refl

added : (a : Answer) (m m' : Stored) (c c' : Changes) → m' ≡ a.out.store → IsAdded a c c' → state_behind (state_of m c) a.out ≡ state_of m' c'
added a m m' c c' e h = rw (e, h.0, h.1) refl

pub answered_gives : (j : Judged (Unit {0})) (l : Layout) (m m' : Stored) (c c' : Changes) (left rest : ℕ) (a : Answer) → j ≡ fine → a.cost + rest ≡ left → length a.out.result ≡ size l
    → m' ≡ a.out.store → IsAdded a c c' → answered j l (state_of m c) left (Some a) ≡ done a.out.result (state_of m' c') rest
answered_gives j l m m' c c' left rest a e h z store new =
    answered_runs j l (state_of m c) left rest a e h ∙ rw (size_same l a.out.result z) (ap (λ s. done a.out.result s rest) (added a m m' c c' store new))

-- what is done with an answer's scalars
abbrev reads : Layout → Outcome (List Scalar) → Outcome Value
reads l o = bind o (λ us after rest. lift after.store (read l us) (λ v. done v after rest))

reads_lifted : (j : Judged (Unit {0})) (l : Layout) (us : List Scalar) (s : State) (rest : ℕ)
    → reads l (lift s.store j (λ _. done us s rest)) ≡ lift s.store (on j (λ _. read l us)) (λ v. done v s rest)
reads_lifted (ok u) l us s rest = refl
reads_lifted (no why) l us s rest = refl

module _ (l : Layout) (m m' : Stored) (c c' : Changes) (left : ℕ) (a : Answer) where
  pub value_fails : {B : Type 0} (to : B → Value) (fault : RunFault) → Answers a m c left m' c' (Err fault) → called.Ends to (answered_value l (state_of m c) left a) m' c' (Err fault)
  value_fails to (Stuck why) h = absurd h
  value_fails to Budget h = ap (reads l) (answered_needs (ok tt) l (state_of m c) left a refl h.0) ∙ ap needs (sym h.1)
  value_fails to Memory h = tt

  module _ (got : List Scalar × ℕ) (h : Answers a m c left m' c' (Ok got)) where
    value_is : answered_value l (state_of m c) left a ≡ lift m' (read_whole l got.0) (λ v. done v (state_of m' c') got.1)
    value_is =
        ap (reads l) (answered_runs (ok tt) l (state_of m c) left got.1 a refl h.1)
        ∙ reads_lifted (has_size l a.out.result) l a.out.result (state_behind (state_of m c) a.out) got.1
        ∙ ap (λ (s : State). lift s.store (read_whole l a.out.result) (λ v. done v s got.1)) (added a m m' c c' h.2 h.3)
        ∙ ap (λ us. lift m' (read_whole l us) (λ v. done v (state_of m' c') got.1)) (sym h.0)

    pub value_unread : {A B : Type 0} (of : A → Value) (to : B → Value) (fault : RunFault) → Tries of (read_whole l got.0) (Err fault)
        → called.Ends to (answered_value l (state_of m c) left a) m' c' (Err fault)
    value_unread of to (Stuck why) e = value_is ∙ ap (λ j. lift m' j (λ v. done v (state_of m' c') got.1)) e
    value_unread of to Budget e = absurd e
    value_unread of to Memory e = tt

    pub value_read : (v : Value) → read_whole l got.0 ≡ ok v → answered_value l (state_of m c) left a ≡ done v (state_of m' c') got.1
    value_read v e = value_is ∙ ap (λ j. lift m' j (λ v. done v (state_of m' c') got.1)) e

module _ (r : Resolution) (asked : Asked) (n : ℕ) where
  -- what is called is not astray where the run isn't
  pub calm_call : (fs : List Kont) (fr : Frame) (f : ℕ) (o : Outcome Value) (g : operands.Frame → State → ℕ → Outcome Flow)
      → IsCalm (waits r asked n fs f (onward (landed r asked n fr o) g)) → IsCalm o
  calm_call fs fr f (done v s left) g h = tt
  calm_call fs fr f (stuck why m) g h = tt
  calm_call fs fr f (needs m) g h = tt
  calm_call fs fr f astray g h = rw (waits_astray r asked n fs f) at h

  -- the call of the function at a place
  abbrev at_call : CFun → List ℕ → List Value → State → ℕ → Option Answer → Outcome Value
  at_call g name vs s left a =
      bind (answered (agree r.whole.program.structs g.params vs) (layout r.whole.program.structs g.ty) s left a) (λ us after rest.
      lift after.store (read (layout r.whole.program.structs g.ty) us) (λ v. done v after rest))

  call_is : (f : ℕ) (g : CFun) (name : List ℕ) (vs : List Value) (s : State) (left : ℕ) → slice_get r.whole.program.funs f ≡ Some g
      → abstract_call r asked n (function_at r f) name vs s left ≡ at_call g name vs s left (asked name (flat_map scalars_of vs) s.store)
  call_is f g name vs s left e = rw e refl

  -- the table answers calls in a run that isn't astray
  asked_some : (g : CFun) (name : List ℕ) (vs : List Value) (s : State) (left : ℕ) (Q : Type 0) (a : Option Answer)
      → IsCalm (at_call g name vs s left a) → ((b : Answer) → a ≡ Some b → Q) → Q
  asked_some g name vs s left Q None h k = absurd h
  asked_some g name vs s left Q (Some b) h k = k b refl

  pub calm_asked : (f : ℕ) (name : List ℕ) (vs : List Value) (s : State) (left : ℕ) (P : CFun → Type 0) (Q : Type 0) → IsAt r.whole f P
      → IsCalm (abstract_call r asked n (function_at r f) name vs s left)
      → ((g : CFun) (a : Answer) → P g → asked name (flat_map scalars_of vs) s.store ≡ Some a → abstract_call r asked n (function_at r f) name vs s left ≡ at_call g name vs s left (Some a) → Q) → Q
  calm_asked f name vs s left P Q h calm k =
      at_place r asked n f P Q h (λ g e p.
      asked_some g name vs s left Q (asked name (flat_map scalars_of vs) s.store) (rw (call_is f g name vs s left e) at calm) (λ a i.
      k g a p i (call_is f g name vs s left e ∙ ap (at_call g name vs s left) i)))

  pub calm_none : (f : ℕ) (name : List ℕ) (vs : List Value) (s : State) (left : ℕ) → slice_get r.whole.program.funs f ≡ None → IsCalm (abstract_call r asked n (function_at r f) name vs s left) → ⊥
  calm_none f name vs s left e h = rw e at h

  -- arguments of other types
  pub call_refused : (g : CFun) (name : List ℕ) (vs : List Value) (s : State) (left : ℕ) (a : Answer) (why : Why)
      → gathered (laid r.whole.program.structs g.params) vs ≡ no why → at_call g name vs s left (Some a) ≡ stuck why s.store
  call_refused g name vs s left a why e = rw (agree_is r.whole.program.structs g.params vs, e) refl

  agreed : (g : CFun) (vs : List Value) (us : List Scalar) → gathered (laid r.whole.program.structs g.params) vs ≡ ok us → agree r.whole.program.structs g.params vs ≡ fine
  agreed g vs us e = agree_is r.whole.program.structs g.params vs ∙ rw e refl

  -- what the answer gives
  call_values : (g : CFun) (name : List ℕ) (vs : List Value) (us : List Scalar) (s : State) (left : ℕ) (a : Answer)
      → gathered (laid r.whole.program.structs g.params) vs ≡ ok us → at_call g name vs s left (Some a) ≡ answered_value (layout r.whole.program.structs g.ty) s left a
  call_values g name vs us s left a e =
      ap (λ j. reads (layout r.whole.program.structs g.ty) (answered j (layout r.whole.program.structs g.ty) s left (Some a))) (agreed g vs us e)

  -- no more steps are left than there were, and the top rises as far as the table says
  call_under : (g : CFun) (name : List ℕ) (vs : List Value) (s : State) (left t : ℕ) (a : Answer) → a.out.store.top ≤ t → Under t left (at_call g name vs s left (Some a))
  call_under g name vs s left t a h =
      bind_under t left (answered (agree r.whole.program.structs g.params vs) (layout r.whole.program.structs g.ty) s left (Some a)) _
      (plain_under t left s.store (agree r.whole.program.structs g.params vs) _ (λ _. spend_under t left s.store a.cost _ (λ k l.
      plain_under t left a.out.store (has_size (layout r.whole.program.structs g.ty) a.out.result) _ (λ _. done_under t left a.out.result (state_behind s a.out) k h l))))
      (λ us after rest i l. plain_under t left after.store (read (layout r.whole.program.structs g.ty) us) _ (λ v. done_under t left v after rest i l))

  pub asked_under : (f : ℕ) (name : List ℕ) (vs : List Value) (s : State) (left : ℕ) → ((us : List Scalar) (a : Answer) → asked name us s.store ≡ Some a → a.out.store.top ≤ s.store.top + 65536)
      → Under (s.store.top + 65536) left (abstract_call r asked n (function_at r f) name vs s left)
  asked_under f name vs s left law = by_case (function_at r f)
    where
      at_asked : (g : CFun) (o : Option Answer) → asked name (flat_map scalars_of vs) s.store ≡ o → Under (s.store.top + 65536) left (at_call g name vs s left o)
      at_asked g None e = astray_under Value (s.store.top + 65536) left
      at_asked g (Some a) e = call_under g name vs s left (s.store.top + 65536) a (law (flat_map scalars_of vs) a e)

      by_case : (o : Option CFun) → Under (s.store.top + 65536) left (abstract_call r asked n o name vs s left)
      by_case None = astray_under Value (s.store.top + 65536) left
      by_case (Some g) = at_asked g (asked name (flat_map scalars_of vs) s.store) refl

  -- ---- what the code answers

  known_args : (g : CFun) (vs : List Value) (j : Judged (List Scalar)) (kind : Kind) (params : List Kind) (slots : ℕ) (has_body : Bool) → IsHead r.whole g kind params slots has_body
      → gathered (map layout_of params) vs ≡ j → gathered (laid r.whole.program.structs g.params) vs ≡ j
  known_args g vs j kind params slots has_body head e = ap (λ ls. gathered ls vs) (sym head.takes) ∙ e

  module _ (f : ℕ) (name : List ℕ) (vs : List Value) (m : Stored) (d : Changes) (left : ℕ) (kind : Kind) (params : List Kind) (slots : ℕ) (has_body : Bool)
      (h : IsAt r.whole f (λ g. IsHead r.whole g kind params slots has_body)) (calm : IsCalm (abstract_call r asked n (function_at r f) name vs (state_of m d) left)) where
    abbrev result : Outcome Value
    result = abstract_call r asked n (function_at r f) name vs (state_of m d) left

    pub ends_refused : {A B : Type 0} (of : A → List Scalar) (to : B → Value) (fault : RunFault) → Tries of (gathered (map layout_of params) vs) (Err fault) → called.Ends to result m d (Err fault)
    ends_refused of to (Stuck why) e =
        calm_asked f name vs (state_of m d) left (λ g. IsHead r.whole g kind params slots has_body) _ h calm (λ g a head i j.
        j ∙ call_refused g name vs (state_of m d) left a why (known_args g vs (no why) kind params slots has_body head e))
    ends_refused of to Budget e = absurd e
    ends_refused of to Memory e = tt

    module _ (us : List Scalar) (m' : Stored) (d' : Changes) (e : gathered (map layout_of params) vs ≡ ok us) where
      asked_of : (a : Answer) → asked name (flat_map scalars_of vs) m ≡ Some a → asked name us m ≡ Some a
      asked_of a i = ap (λ z. asked name z m) (gathered_own (map layout_of params) vs us e) ∙ i

      pub ends_called : {B : Type 0} (to : B → Value) (ended : Result (B × ℕ) RunFault)
          → ((a : Answer) → asked name us m ≡ Some a → called.Ends to (answered_value (layout_of kind) (state_of m d) left a) m' d' ended) → called.Ends to result m' d' ended
      ends_called to ended t =
          calm_asked f name vs (state_of m d) left (λ g. IsHead r.whole g kind params slots has_body) _ h calm (λ g a head i j.
          subst (λ (o : Outcome Value). called.Ends to o m' d' ended)
          (sym (j ∙ call_values g name vs us (state_of m d) left a (known_args g vs (ok us) kind params slots has_body head e)
          ∙ ap (λ l. answered_value l (state_of m d) left a) (sym head.result)))
          (t a (asked_of a i)))

pub fails_ends : {A : Type 0} (to : A → Value) (o : Outcome Value) (m : Stored) (d : Changes) (fault : RunFault) → called.Ends to o m d (Err fault) → Fails o m fault
fails_ends to o m d (Stuck why) e = e
fails_ends to o m d Budget e = e
fails_ends to o m d Memory e = tt

-- fewer steps weigh less
pub falls_less : (result : Result Next RunFault) (m : Machine) (left rest many : ℕ) → rest ≤ left → IfOk result (λ next. weight m next ≤ 3 * rest + many) → IfOk result (λ next. weight m next ≤ 3 * left + many)
falls_less (Ok next) m left rest many h l = omega (arith, h, l)
falls_less (Err fault) m left rest many h l = tt

pub lower_by : {A : Type 0} (o : Outcome A) (a : A) (m : Stored) (s : State) (b left : ℕ) → Under (m.top + 65536) b o → o ≡ done a s left
    → m.top + (b + 2) * 65536 < 2 ^ 63 → s.store.top + (left + 1) * 65536 < 2 ^ 63
lower_by o a m s b left h e low =
    let both = under_done (m.top + 65536) b o a s left h e in
    let top = both.0 in
    let few = both.1 in
    omega (arith, top, few, low)

pub ruleset abstract_steps = (waits_stuck)
