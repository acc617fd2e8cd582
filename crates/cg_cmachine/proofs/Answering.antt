-- The beginning and the end of a run, as equations.
use Rattle.std.proofs.Common.{◌≡◌, ℕ, ◌+◌, ◌-◌, ◌≤◌, Bool, true, false, nat_le, Some, None, List, [], ◌∷◌, ◌++◌, drop, length, map, take, refl, sym, ap, ◌∙◌, arith, subst, Option}
use Rattle.std.proofs.lemmas.List.{drop-append-le, length-drop, take-append-le}
use Rattle.std.proofs.lemmas.List.Elements.{All-nil}
use Rattle.std.specs.List.{All}
use Rattle.std.specs.Prelude.{if◌then◌else◌, replicate, slice_get, Result, Ok, Err, IfOk, IfErr}
use Rattle.cg_cmachine_builtins.specs.Called.{state_of}
use Rattle.cg_cmachine_builtins.specs.declared.changes.Changes.{Changes}
use Rattle.cg_cmachine_layout.specs.declared.kind.Kind.{Kind}
use Rattle.cg_cmachine_layout.specs.Kinds.{layout_of}
use Rattle.cg_cmachine_resolve.specs.Lines.{IsAt, linked}
use Rattle.cg_cmachine_resolve.specs.Resolutions.{IsFirst, IsHead, Resolution, blocks_in}
use Rattle.cg_cmachine_resolve.specs.Scopes.{declared_as, total}
use Rattle.cg_cmachine_def.specs.Layouts.{Layout, layout, size}
use Rattle.cg_cmachine_def.specs.Operands as operands
use Rattle.cg_cmachine_def.specs.Operands.{Value}
use Rattle.cg_cmachine_def.specs.Outcomes.{Judged, ok, no, on, State, Outcome, IsCalm, lift, stuck, done, needs}
use Rattle.cg_cmachine_def.specs.Runs.{Flow, Linked, answered, crun, fill, filled, find, linked_to, returned, run_block}
use Rattle.cg_ctree.specs.declared.tree.CBody.{CBody}
use Rattle.cg_ctree.specs.declared.tree.CDecl.{CDecl}
use Rattle.cg_ctree.specs.declared.tree.CFun.{CFun}
use Rattle.cg_ctree.specs.declared.tree.CStruct.{CStruct}
use Rattle.cg_ctree.specs.declared.why.Why.TheVariants.{KindsDiffer, NoBody, NoFunction}
use Rattle.cg_ctree.specs.Trees.{Block, block_of, function_of}
use Rattle.cg_heap.specs.declared.cell.Scalar.{Scalar}
use Rattle.cg_heap.specs.declared.cell.Scalar.TheVariants.{Unset}
use Rattle.cg_heap.specs.Stored.{Stored}
use Rattle.cg_heap.specs.Calls.{Answer}
use Rattle.cg_cmachine_values.specs.declared.fault.RunFault.{RunFault}
use Rattle.cg_cmachine_values.specs.declared.fault.RunFault.TheVariants.{Stuck, Budget, Memory}
use Rattle.cg_cmachine.specs.Abstracts.{Answers}
use Rattle.cg_cmachine.specs.Answering.{Tells, started, sum_sizes}
use Rattle.cg_cmachine.specs.Answers.{Runs}
use Rattle.cg_cmachine_running.specs.Machine.{Asked, Ends, IsFrame, IsKont, IsState, block, calls, framed, program, said}
use Rattle.cg_cmachine.specs.declared.answer.Ran.{Ran}
use Rattle.cg_cmachine_running.specs.declared.machine.Frame.{Frame}
use Rattle.cg_cmachine_running.specs.declared.machine.Machine.{Machine}
use Rattle.cg_cmachine_running.specs.declared.machine.Next.TheVariants.{Goes}
use Rattle.cg_cmachine.proofs.Asking.{answered_gives, answered_needs, answered_refused, answered_sized}
use Rattle.cg_cmachine_running.proofs.Entries.{at_place, begun, begun_at, fresh, laid, none_is, some_is, unset_is}
use Rattle.cg_cmachine_running.proofs.Steps.{waits_none, waits_stuck}

-- ---- slots of parameters

pub sum_is : (ss : List CStruct) (ds : List CDecl) → sum_sizes (laid ss ds) ≡ total (declared_as ss ds)
sum_is ss [] = refl
sum_is ss (d ∷ ds) = ap (λ n. size (layout ss d.ty) + n) (sum_is ss ds)

module _ (p : Linked) where
  filled_front : (d : CDecl) (ds locals : List CDecl) (us : List Scalar) → size (layout p.program.structs d.ty) ≤ length us
      → begun p (d ∷ ds) locals us
      ≡ record { name = d.name; layout = layout p.program.structs d.ty; scalars = take (size (layout p.program.structs d.ty)) us } ∷ begun p ds locals (drop (size (layout p.program.structs d.ty)) us)
  filled_front d ds locals us h =
      rw (take-append-le (size (layout p.program.structs d.ty)) us (fresh p.program.structs locals) h, drop-append-le (size (layout p.program.structs d.ty)) us (fresh p.program.structs locals) h) refl

  one_more : (b : Bool) (n : ℕ) (d : CDecl) (ds locals : List CDecl) (us : List Scalar) → b ≡ true → filled p ds locals (drop n us) ≡ ok (begun p ds locals (drop n us))
      → (if b then on (filled p ds locals (drop n us)) (λ fr. ok (record { name = d.name; layout = layout p.program.structs d.ty; scalars = take n us } ∷ fr)) else no KindsDiffer)
      ≡ ok (record { name = d.name; layout = layout p.program.structs d.ty; scalars = take n us } ∷ begun p ds locals (drop n us))
  one_more b n d ds locals us e h = rw (e, h) refl

  pub filled_is : (ds locals : List CDecl) (us : List Scalar) → length us ≡ total (declared_as p.program.structs ds) → filled p ds locals us ≡ ok (begun p ds locals us)
  filled_is [] locals [] e = ap ok (unset_is p locals)
  filled_is [] locals (u ∷ us) e = absurd (omega (arith, e))
  filled_is (d ∷ ds) locals us e =
      let n = size (layout p.program.structs d.ty) in
      let room : n ≤ length us = omega (arith, e) in
      let rest : length (drop n us) ≡ total (declared_as p.program.structs ds) = length-drop n us ∙ omega (arith, e) in
      one_more (nat_le n (length us)) n d ds locals us (grind (arith, room)) (filled_is ds locals (drop n us) rest)
      ∙ ap ok (sym (filled_front d ds locals us room))

  pub filled_not : (ds locals : List CDecl) (us : List Scalar) → (length us ≡ total (declared_as p.program.structs ds) → ⊥) → filled p ds locals us ≡ no KindsDiffer
  filled_not [] locals [] h = absurd (h refl)
  filled_not [] locals (u ∷ us) h = refl
  filled_not (d ∷ ds) locals us h =
      by_test (nat_le (size (layout p.program.structs d.ty)) (length us)) refl (filled_not ds locals (drop (size (layout p.program.structs d.ty)) us))
    where
      by_test : (b : Bool) → nat_le (size (layout p.program.structs d.ty)) (length us) ≡ b
          → ((length (drop (size (layout p.program.structs d.ty)) us) ≡ total (declared_as p.program.structs ds) → ⊥) → filled p ds locals (drop (size (layout p.program.structs d.ty)) us) ≡ no KindsDiffer)
          → (if b then on (filled p ds locals (drop (size (layout p.program.structs d.ty)) us)) (λ fr. ok (record { name = d.name; layout = layout p.program.structs d.ty; scalars = take (size (layout p.program.structs d.ty)) us } ∷ fr)) else no KindsDiffer)
          ≡ no KindsDiffer
      by_test true e k =
          ap (λ j. on j (λ fr. ok (record { name = d.name; layout = layout p.program.structs d.ty; scalars = take (size (layout p.program.structs d.ty)) us } ∷ fr)))
          (k (λ i.
          let many = length-drop (size (layout p.program.structs d.ty)) us in
          let room : size (layout p.program.structs d.ty) ≤ length us = grind (arith, e) in
          h (omega (arith, i, many, room))))
      by_test false e k = refl

-- the scalars of an argument fill the parameters
fill_by : (p : Linked) (ds : List CDecl) (us : List Scalar) (j : Judged operands.Frame) → filled p ds [] us ≡ j → fill p ds us ≡ on j (λ fr. ok tt)
fill_by p ds us j e = ap (λ z. on z (λ fr. ok tt)) e

pub fill_is : (p : Linked) (ds : List CDecl) (us : List Scalar) → length us ≡ total (declared_as p.program.structs ds) → fill p ds us ≡ ok tt
fill_is p ds us e = fill_by p ds us (ok (begun p ds [] us)) (filled_is p ds [] us e)

pub fill_not : (p : Linked) (ds : List CDecl) (us : List Scalar) → (length us ≡ total (declared_as p.program.structs ds) → ⊥) → fill p ds us ≡ no KindsDiffer
fill_not p ds us h = fill_by p ds us (no KindsDiffer) (filled_not p ds [] us h)

-- ---- a run of the function at a place

module _ (r : Resolution) (asked : Asked) (n : ℕ) where
  -- the state that a run begins with
  abbrev first_state : Stored → State
  first_state m = record { store = m; made = []; freed = [] }

  pub started_none : (f : ℕ) (us : List Scalar) (m : Stored) → slice_get r.whole.program.funs f ≡ None → started r asked n f us m ≡ stuck NoFunction m
  started_none f us m e = rw e refl

  body_is : (f : ℕ) (g : CFun) (b : CBody) (us : List Scalar) (m : Stored) → slice_get r.whole.program.funs f ≡ Some g → g.body ≡ Some b
      → started r asked n f us m
      ≡ lift m (filled (program r asked n) g.params b.locals us) (λ fr.
      returned (program r asked n) (run_block (program r asked n) (calls r asked n) n (layout r.whole.program.structs g.ty) (block_of b.stmts) fr (first_state m) n))
  unfolding calls
  body_is f g b us m e h = rw (e, h) refl

  abstract_is : (f : ℕ) (g : CFun) (name : List ℕ) (us : List Scalar) (m : Stored) → slice_get r.whole.program.funs f ≡ Some g → g.body ≡ None → linked_to g.name r.whole.links ≡ Some name
      → started r asked n f us m ≡ answered (fill (program r asked n) g.params us) (layout r.whole.program.structs g.ty) (first_state m) n (asked name us m)
  abstract_is f g name us m e h i = rw (e, h, i) refl

  pub started_empty : (f : ℕ) (us : List Scalar) (m : Stored) (kind : Kind) (params : List Kind) (slots : ℕ) (has_body : Bool)
      → IsAt r.whole f (λ g. IsHead r.whole g kind params slots has_body) → has_body ≡ false → IsAt r.whole f (λ g. linked_to g.name r.whole.links ≡ None)
      → started r asked n f us m ≡ stuck NoBody m
  started_empty f us m kind params slots has_body h e l =
      at_place r asked n f (λ g. IsHead r.whole g kind params slots has_body) _ h (λ g here head.
      let link : linked_to g.name r.whole.links ≡ None = rw here at l in
      nothing f g us m here (none_is r asked n g.body (sym e ∙ head.defined)) link)
    where
      nothing : (f : ℕ) (g : CFun) (us : List Scalar) (m : Stored) → slice_get r.whole.program.funs f ≡ Some g → g.body ≡ None → linked_to g.name r.whole.links ≡ None → started r asked n f us m ≡ stuck NoBody m
      nothing f g us m e h i = rw (e, h, i) refl

  sums : (g : CFun) (kind : Kind) (params : List Kind) (slots : ℕ) (has_body : Bool) → IsHead r.whole g kind params slots has_body → sum_sizes (map layout_of params) ≡ total (declared_as r.whole.program.structs g.params)
  sums g kind params slots has_body head = ap sum_sizes head.takes ∙ sum_is r.whole.program.structs g.params

  pub body_refused : (f : ℕ) (us : List Scalar) (m : Stored) (kind : Kind) (params : List Kind) (slots : ℕ) (has_body : Bool)
      → IsAt r.whole f (λ g. IsHead r.whole g kind params slots has_body) → has_body ≡ true → (sum_sizes (map layout_of params) ≡ length us → ⊥)
      → started r asked n f us m ≡ stuck KindsDiffer m
  body_refused f us m kind params slots has_body h e z =
      at_place r asked n f (λ g. IsHead r.whole g kind params slots has_body) _ h (λ g here head.
      some_is r asked n g.body (sym e ∙ head.defined) (λ b is.
      body_is f g b us m here is ∙ rw (filled_not (program r asked n) g.params b.locals us (λ i. z (sums g kind params slots has_body head ∙ sym i))) refl))

  pub body_begins : (f : ℕ) (us : List Scalar) (fr : Frame) (m : Stored) (kind : Kind) (params : List Kind) (slots : ℕ) (has_body : Bool)
      → IsAt r.whole f (λ g. IsHead r.whole g kind params slots has_body) → IsAt r.whole f (λ g. IsFirst g.body (blocks_in r f)) → has_body ≡ true
      → sum_sizes (map layout_of params) ≡ length us
      → fr.at ≡ record { function = f; block = 0; index = 0 } → fr.kind ≡ kind → fr.slots.items ≡ us ++ replicate (slots - length us) Unset
      → (started r asked n f us m ≡ returned (program r asked n) (block r asked n fr.at (framed r fr) (first_state m) n)) × IsFrame r fr
  unfolding block
  body_begins f us fr m kind params slots has_body h first e z at same items =
      at_place r asked n f (λ g. IsHead r.whole g kind params slots has_body) _ h (λ g here head.
      some_is r asked n g.body (sym e ∙ head.defined) (λ b is.
      let starts : IsFirst g.body (blocks_in r f) = rw here at first in
      let many : length us ≡ total (declared_as r.whole.program.structs g.params) = sym z ∙ sums g kind params slots has_body head in
      let frame = begun_at r asked n f g b us fr kind params slots has_body here is head starts many at same items in (
        body_is f g b us m here is ∙ rw (filled_is (program r asked n) g.params b.locals us many) (same_body _ _ _ _ _ _ (first_state m) (sym frame.type) (ap block_of (sym frame.stmts)) (sym frame.names)),
        frame.frame,
      )))
    where
      same_body : (l k : Layout) (x y : Block) (fr gr : operands.Frame) (s : State) → l ≡ k → x ≡ y → fr ≡ gr
          → returned (program r asked n) (run_block (program r asked n) (calls r asked n) n l x fr s n) ≡ returned (program r asked n) (run_block (program r asked n) (calls r asked n) n k y gr s n)
      same_body l k x y fr gr s a b c = rw (a, b, c) refl

  pub body_said : (f : ℕ) (us ws : List Scalar) (m : Machine) (store : Stored) (kind : Kind) (params : List Kind) (slots : ℕ) (has_body : Bool)
      → IsAt r.whole f (λ g. IsHead r.whole g kind params slots has_body) → IsAt r.whole f (λ g. IsFirst g.body (blocks_in r f)) → has_body ≡ true
      → sum_sizes (map layout_of params) ≡ length us
      → m.frame.at ≡ record { function = f; block = 0; index = 0 } → m.frame.kind ≡ kind → ws ≡ us → m.frame.slots.items ≡ ws ++ replicate (slots - length ws) Unset
      → m.stack.items ≡ [] → m.changes.made.items ≡ [] → m.changes.freed.items ≡ [] → m.left ≡ n
      → (said r asked n m store Goes ≡ started r asked n f us store) × IsState r m
  body_said f us ws m store kind params slots has_body h first e z at same copied items stack made freed left =
      let begins = body_begins f us m.frame store kind params slots has_body h first e z at same (items ∙ ap (λ us. us ++ replicate (slots - length us) Unset) copied) in (
        waits_none r asked n m.stack.items m.frame.at.function (block r asked n m.frame.at (framed r m.frame) (state_of store m.changes) m.left) stack
            ∙ same_state (block r asked n m.frame.at) (framed r m.frame) m.changes.made.items m.changes.freed.items m.left made freed left ∙ sym begins.0,
        record { frame = begins.1; stack = subst (All (IsKont r)) (sym stack) (All-nil (IsKont r)) },
      )
    where
      same_state : (b : operands.Frame → State → ℕ → Outcome Flow) (fr : operands.Frame) (made freed : List ℕ) (left : ℕ) → made ≡ [] → freed ≡ [] → left ≡ n
          → returned (program r asked n) (b fr (record { store = store; made = made; freed = freed }) left) ≡ returned (program r asked n) (b fr (first_state store) n)
      same_state b fr made freed left x y z = rw (x, y, z) refl

  -- ---- an abstract function that is run

  answer_some : (j : Judged (Unit {0})) (l : Layout) (s : State) (Q : Type 0) (o : Option Answer) → IsCalm (answered j l s n o) → ((a : Answer) → o ≡ Some a → Q) → Q
  answer_some j l s Q None h k = absurd h
  answer_some j l s Q (Some a) h k = k a refl

  module _ (f : ℕ) (us : List Scalar) (m : Stored) (kind : Kind) (params : List Kind) (slots : ℕ) (has_body : Bool) (name : List ℕ)
      (h : IsAt r.whole f (λ g. IsHead r.whole g kind params slots has_body)) (e : has_body ≡ false) (l : IsAt r.whole f (λ g. linked_to g.name r.whole.links ≡ Some name))
      (calm : IsCalm (started r asked n f us m)) where
    -- what the table answers
    with_answer : (Q : Type 0)
        → ((g : CFun) (a : Answer) → IsHead r.whole g kind params slots has_body → asked name us m ≡ Some a
        → started r asked n f us m ≡ answered (fill (program r asked n) g.params us) (layout r.whole.program.structs g.ty) (first_state m) n (Some a) → Q) → Q
    with_answer Q k =
        at_place r asked n f (λ g. IsHead r.whole g kind params slots has_body) Q h (λ g here head.
        let link : linked_to g.name r.whole.links ≡ Some name = rw here at l in
        let is = abstract_is f g name us m here (none_is r asked n g.body (sym e ∙ head.defined)) link in
        answer_some (fill (program r asked n) g.params us) (layout r.whole.program.structs g.ty) (first_state m) Q (asked name us m) (subst (λ (o : Outcome (List Scalar)). IsCalm o) is calm) (λ a i.
        k g a head i (is ∙ ap (answered (fill (program r asked n) g.params us) (layout r.whole.program.structs g.ty) (first_state m) n) i)))

    pub abstract_refused : (sum_sizes (map layout_of params) ≡ length us → ⊥) → started r asked n f us m ≡ stuck KindsDiffer m
    abstract_refused z =
        with_answer _ (λ g a head i is.
        is ∙ answered_refused _ _ (first_state m) n a KindsDiffer (fill_not (program r asked n) g.params us (λ y. z (sums g kind params slots has_body head ∙ sym y))))

    module _ (z : sum_sizes (map layout_of params) ≡ length us) (m' : Stored) (c c' : Changes) where
      filled_at : (g : CFun) → IsHead r.whole g kind params slots has_body → fill (program r asked n) g.params us ≡ ok tt
      filled_at g head = fill_is (program r asked n) g.params us (sym z ∙ sums g kind params slots has_body head)

      pub abstract_fails : (fault : RunFault) → ((a : Answer) → asked name us m ≡ Some a → Answers a m c n m' c' (Err fault)) → Runs (started r asked n f us m) n m' (Err fault)
      abstract_fails (Stuck why) t = with_answer _ (λ g a head i is. absurd (t a i))
      abstract_fails Budget t =
          with_answer _ (λ g a head i is.
          let u = t a i in
          is ∙ answered_needs _ _ (first_state m) n a (filled_at g head) u.0 ∙ ap needs (sym u.1))
      abstract_fails Memory t = tt

      module _ (got : List Scalar × ℕ) (t : (a : Answer) → asked name us m ≡ Some a → Answers a m c n m' c' (Ok got)) where
        pub abstract_sized : (length got.0 ≡ size (layout_of kind) → ⊥) → started r asked n f us m ≡ stuck KindsDiffer m'
        abstract_sized y =
            with_answer _ (λ g a head i is.
            let u = t a i in
            is ∙ answered_sized _ _ (first_state m) n got.1 a (filled_at g head) u.1 (λ x. y (ap length u.0 ∙ x ∙ ap size (sym head.result))) ∙ ap (stuck KindsDiffer) (sym u.2))

        pub abstract_left : got.1 ≤ n
        abstract_left =
            with_answer _ (λ g a head i is.
            let cost = (t a i).1 in
            omega (arith, cost))

        pub abstract_gives : length got.0 ≡ size (layout_of kind) → c.made.items ≡ [] → c.freed.items ≡ [] → started r asked n f us m ≡ done got.0 (state_of m' c') got.1
        abstract_gives y made freed =
            with_answer _ (λ g a head i is.
            let u = t a i in
            is ∙ ap (λ s. answered (fill (program r asked n) g.params us) (layout r.whole.program.structs g.ty) s n (Some a)) (sym (first_is c.made.items c.freed.items made freed))
            ∙ answered_gives _ _ m m' c c' n got.1 a (filled_at g head) u.1 (ap length (sym u.0) ∙ y ∙ ap size head.result) u.2 u.3
            ∙ ap (λ ws. done ws (state_of m' c') got.1) (sym u.0))
          where
            first_is : (made freed : List ℕ) → made ≡ [] → freed ≡ [] → record { store = m; made = made; freed = freed } ≡ first_state m
            first_is made freed x y = rw (x, y) refl

  pub crun_at : (f : ℕ) (x : List ℕ) (us : List Scalar) (m : Stored) → IsAt r.whole f (λ g. find x (map function_of r.whole.program.funs) ≡ Some (function_of g))
      → started r asked n f us m ≡ crun (linked r.whole asked) n x us m
  crun_at f x us m h =
      at_place r asked n f (λ g. find x (map function_of r.whole.program.funs) ≡ Some (function_of g)) _ h (λ g here is. same g here is)
    where
      same : (g : CFun) → slice_get r.whole.program.funs f ≡ Some g → find x (map function_of r.whole.program.funs) ≡ Some (function_of g) → started r asked n f us m ≡ crun (linked r.whole asked) n x us m
      same g here is = rw (here, is) refl

  pub crun_none : (x : List ℕ) (us : List Scalar) (m : Stored) → find x (map function_of r.whole.program.funs) ≡ None → crun (linked r.whole asked) n x us m ≡ stuck NoFunction m
  crun_none x us m e = rw e refl

-- ---- as many scalars as the parameters have slots

-- ---- what is told

pub told_ends : (o : Outcome (List Scalar)) (value : List Scalar) (n : ℕ) (store : Stored) (c : Changes) (steps left : ℕ) (result : Result Ran RunFault) → o ≡ done value (state_of store c) left
    → steps + left ≡ n → IfOk result (λ ran. Tells ran value steps c) → IfErr result (λ fault. fault ≡ Memory) → Runs o n store result
told_ends o value n store c steps left (Ok ran) e s h w =
    record {
      left = left;
      steps = ap (λ k. k + left) h.steps_are ∙ s;
      ends = e ∙ rw (sym h.value_is, sym h.made_are, sym h.freed_are) refl;
    }
told_ends o value n store c steps left (Err (Stuck why)) e s h w = absurd cc
told_ends o value n store c steps left (Err Budget) e s h w = absurd cc
told_ends o value n store c steps left (Err Memory) e s h w = tt

-- what a run that fails says
pub ends_runs : {A : Type 0} (to : A → Value) (o : Outcome (List Scalar)) (n : ℕ) (store : Stored) (c : Changes) (left : ℕ) (fault : RunFault) → Ends to o store c left (Err fault) → Runs o n store (Err fault)
ends_runs to o n store c left (Stuck why) e = e
ends_runs to o n store c left Budget e = e
ends_runs to o n store c left Memory e = tt

pub ruleset answer_steps = (waits_stuck)
