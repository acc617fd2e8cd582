-- Calls, as equations.
use Rattle.std.proofs.Common.{◌≡◌, ℕ, suc, ◌+◌, ◌-◌, ◌<◌, ◌^◌, Bool, true, false, cond, nat_lt, Some, None, List, [], ◌∷◌, ◌++◌, length, map, refl, sym, ap, ◌∙◌, arith}
use Rattle.std.proofs.lemmas.List.{append_assoc, drop_at, length-append, length-replicate, replicate-append-replicate, take_at}
use Rattle.std.specs.Option.{is_some}
use Rattle.std.specs.Prelude.{get_or, replicate, slice_get}
use Rattle.std.specs.declared.option.Option.{Option}
use Rattle.cg_base.specs.Words.{bits}
use Rattle.cg_cmachine_layout.specs.declared.kind.Kind.{Kind}
use Rattle.cg_cmachine_layout.specs.Kinds.{layout_of}
use Rattle.cg_cmachine_resolve.specs.Lines.{IsAt, IsWhole}
use Rattle.cg_cmachine_resolve.specs.Resolutions.{IsFirst, IsHead, Resolution, blocks_in, lines_at, next}
use Rattle.cg_cmachine_resolve.specs.Scopes.{Scope, declared_as, frame_of as scoped, locals_of, total}
use Rattle.cg_cmachine_def.specs.Layouts.{Layout, cell, group, layout, pointer, same_layout, size}
use Rattle.cg_cmachine_def.specs.Operands as operands
use Rattle.cg_cmachine_def.specs.Operands.{Value, literal, typed, give}
use Rattle.cg_cmachine_def.specs.Outcomes.{Judged, ok, no, on, State, Outcome, stuck, done, bind, lift}
use Rattle.cg_cmachine_def.specs.Runs.{Linked, enter, onward, returned, run_block, unset}
use Rattle.cg_ctree.specs.declared.tree.CBody.{CBody}
use Rattle.cg_ctree.specs.declared.tree.CDecl.{CDecl}
use Rattle.cg_ctree.specs.declared.tree.CFun.{CFun}
use Rattle.cg_ctree.specs.declared.tree.CStruct.{CStruct}
use Rattle.cg_ctree.specs.declared.why.Why.{Why}
use Rattle.cg_ctree.specs.declared.why.Why.TheVariants.{KindsDiffer, NoBody, NoFunction}
use Rattle.cg_ctree.specs.Trees.{Block, block_of}
use Rattle.cg_cmachine_values.proofs.Giving.{give_typed, same_sizes}
use Rattle.cg_cmachine_values.specs.declared.value.CValue.{CValue}
use Rattle.cg_cmachine_values.specs.declared.value.CValue.TheVariants as value
use Rattle.cg_cmachine_values.specs.declared.fault.RunFault.{RunFault}
use Rattle.cg_cmachine_values.specs.declared.fault.RunFault.TheVariants.{Stuck, Budget, Memory}
use Rattle.cg_cmachine_values.specs.Values.{Tries, value_of}
use Rattle.cg_heap.specs.Stored.{Stored}
use Rattle.cg_cmachine_builtins.specs.Called.{state_of}
use Rattle.cg_cmachine_builtins.specs.declared.changes.Changes.{Changes}
use Rattle.std.specs.Prelude.{IfErr, IfOk, Err, Ok, Result}
use Rattle.cg_heap.specs.declared.cell.Scalar.{Scalar}
use Rattle.cg_heap.specs.declared.cell.Scalar.TheVariants.{Address, Unset, Word}
use Rattle.cg_cmachine_running.specs.declared.machine.Frame.{Frame}
use Rattle.cg_cmachine_running.specs.declared.machine.Kont.{Kont}
use Rattle.cg_cmachine_running.specs.declared.machine.Kont.TheVariants.{Return}
use Rattle.cg_cmachine_running.specs.Machine.{Asked, Enters, IsFrame, block, calls, entered, framed, gathered, landed, lay_at, on_kont, program, scope_at, valued, waits}
use Rattle.cg_cmachine_running.proofs.Steps.{Fails, waits_needs, waits_push, waits_stuck}
use Rattle.cg_cmachine_layout.proofs.Groups.{one_word as size_word, one_pointer as size_pointer}
use Rattle.cg_cmachine_resolve.proofs.Places.{give_size as give_many}

-- ---- values have as many scalars as their types have slots

typed_as : (l k : Layout) (us ws : List Scalar) → typed k ws ≡ typed l us → length ws ≡ size k → length us ≡ size l
typed_as l k us ws e h = let p : k ≡ l = cc in let q : ws ≡ us = cc in ap length (sym q) ∙ h ∙ ap size p

pub value_whole : (v : CValue) → IsWhole (value_of v)
value_whole (value.Literal n) l us e = absurd cc
value_whole (value.Word w n) l us e = typed_as l (cell w) us (Word n ∷ []) e (sym (size_word w))
value_whole (value.Pointer x p) l us e = typed_as l (pointer x.now) us (Address p ∷ []) e (sym (size_pointer x.now))
value_whole (value.Struct s) l us e = typed_as l _ us s.slots.items e s.sized

-- scalars that are given where a type is needed
literal_many : (w : _) (n : ℕ) (us : List Scalar) (b : Bool) → cond b (ok (Word n ∷ [])) (no KindsDiffer) ≡ ok us → length us ≡ size (cell w)
literal_many w n us true e = let p : Word n ∷ [] ≡ us = cc in ap length (sym p) ∙ sym (size_word w)
literal_many w n us false e = absurd cc

typed_many : (l k : Layout) (ws us : List Scalar) (b : Bool) → same_layout l k ≡ b → length ws ≡ size k → cond b (ok ws) (no KindsDiffer) ≡ ok us → length us ≡ size l
typed_many l k ws us true s h e = let p : ws ≡ us = cc in ap length (sym p) ∙ h ∙ sym (same_sizes l k s)
typed_many l k ws us false s h e = absurd cc

-- a value is refused for its type alone
refused_only : {A : Type 0} (b : Bool) (a : A) (why : Why) → cond b (ok a) (no KindsDiffer) ≡ no why → why ≡ KindsDiffer
refused_only true a why e = absurd cc
refused_only false a why e = cc

give_only : (l : Layout) (v : Value) (why : Why) → give l v ≡ no why → why ≡ KindsDiffer
give_only (cell w) (literal n) why e = refused_only (nat_lt n (2 ^ bits w)) (Word n ∷ []) why e
give_only (pointer x) (literal n) why e = cc
give_only (group x ms) (literal n) why e = cc
give_only l (typed k ws) why e = refused_only (same_layout l k) ws why (sym (give_typed l k ws) ∙ e)

-- ---- frames as rows of slots

scoped_front : (x : List ℕ) (l : Layout) (vs : Scope) (us xs : List Scalar) → length us ≡ size l
    → scoped ((x, l) ∷ vs) (us ++ xs) ≡ record { name = x; layout = l; scalars = us } ∷ scoped vs xs
scoped_front x l vs us xs e = rw (take_at us xs (size l) e, drop_at us xs (size l) e) refl

pub total_both : (ss : List CStruct) (ds es : List CDecl) → total (declared_as ss (ds ++ es)) ≡ total (declared_as ss ds) + total (declared_as ss es)
total_both ss [] es = omega arith
total_both ss (d ∷ ds) es = let h = total_both ss ds es in omega (arith, h)

-- the slots of locals, which begin unset
abbrev pub fresh : List CStruct → List CDecl → List Scalar
fresh ss ds = replicate (total (declared_as ss ds)) Unset

fresh_front : (ss : List CStruct) (d : CDecl) (ds : List CDecl) → fresh ss (d ∷ ds) ≡ replicate (size (layout ss d.ty)) Unset ++ fresh ss ds
fresh_front ss d ds = sym (replicate-append-replicate (size (layout ss d.ty)) (total (declared_as ss ds)) Unset)

-- one more slot that is unset
pub more_unset : (us ws zs : List Scalar) (n : ℕ) → ws ≡ us ++ Unset ∷ [] → length us < n → us ++ replicate (n - length us) Unset ≡ zs → ws ++ replicate (n - length ws) Unset ≡ zs
more_unset us ws zs n h less e =
    let many : length ws ≡ length us + 1 = ap length h ∙ length-append us (Unset ∷ []) in
    let next : suc (n - length ws) ≡ n - length us = omega (arith, many, less) in
    ap (λ z. z ++ replicate (n - length ws) Unset) h
    ∙ append_assoc us (Unset ∷ []) (replicate (n - length ws) Unset)
    ∙ ap (λ k. us ++ replicate k Unset) next ∙ e

-- the types of parameters
abbrev pub laid : List CStruct → List CDecl → List Layout
laid ss ds = map (λ d. layout ss d.ty) ds

module _ (p : Linked) where
  pub unset_is : (ds : List CDecl) → unset p ds ≡ scoped (declared_as p.program.structs ds) (fresh p.program.structs ds)
  unset_is [] = refl
  unset_is (d ∷ ds) =
      ap (λ fr. record { name = d.name; layout = layout p.program.structs d.ty; scalars = replicate (size (layout p.program.structs d.ty)) Unset } ∷ fr) (unset_is ds)
      ∙ sym (ap (λ us. scoped (declared_as p.program.structs (d ∷ ds)) us) (fresh_front p.program.structs d ds)
      ∙ scoped_front d.name (layout p.program.structs d.ty) (declared_as p.program.structs ds) _ (fresh p.program.structs ds) (length-replicate _ _))

  -- the frame of a call, from the scalars of its arguments in a row
  abbrev pub begun : List CDecl → List CDecl → List Scalar → operands.Frame
  begun ds locals us = scoped (declared_as p.program.structs (ds ++ locals)) (us ++ fresh p.program.structs locals)

  begun_front : (d : CDecl) (ds locals : List CDecl) (us ws : List Scalar) → length us ≡ size (layout p.program.structs d.ty)
      → begun (d ∷ ds) locals (us ++ ws) ≡ record { name = d.name; layout = layout p.program.structs d.ty; scalars = us } ∷ begun ds locals ws
  begun_front d ds locals us ws e =
      ap (scoped (declared_as p.program.structs (d ∷ ds ++ locals))) (append_assoc us ws (fresh p.program.structs locals))
      ∙ scoped_front d.name (layout p.program.structs d.ty) (declared_as p.program.structs (ds ++ locals)) us (ws ++ fresh p.program.structs locals) e

  pub enter_is : (ds locals : List CDecl) (vs : List CValue)
      → enter p ds locals (map value_of vs) ≡ on (gathered (laid p.program.structs ds) (map value_of vs)) (λ us. ok (begun ds locals us))
  enter_is [] locals [] = ap ok (unset_is locals)
  enter_is [] locals (v ∷ vs) = refl
  enter_is (d ∷ ds) locals [] = refl
  enter_is (d ∷ ds) locals (v ∷ vs) =
      through (give (layout p.program.structs d.ty) (value_of v)) (enter_is ds locals vs) (λ us e. give_many (layout p.program.structs d.ty) (value_of v) us (value_whole v) e)
    where
      inner : (us : List Scalar) (g : Judged (List Scalar)) → length us ≡ size (layout p.program.structs d.ty)
          → on (on g (λ ws. ok (begun ds locals ws))) (λ fr. ok (record { name = d.name; layout = layout p.program.structs d.ty; scalars = us } ∷ fr))
          ≡ on (on g (λ ws. ok (us ++ ws))) (λ us. ok (begun (d ∷ ds) locals us))
      inner us (ok ws) e = ap ok (sym (begun_front d ds locals us ws e))
      inner us (no why) e = refl

      through : (g : Judged (List Scalar)) → enter p ds locals (map value_of vs) ≡ on (gathered (laid p.program.structs ds) (map value_of vs)) (λ us. ok (begun ds locals us))
          → ((us : List Scalar) → g ≡ ok us → length us ≡ size (layout p.program.structs d.ty))
          → on g (λ us. on (enter p ds locals (map value_of vs)) (λ fr. ok (record { name = d.name; layout = layout p.program.structs d.ty; scalars = us } ∷ fr)))
          ≡ on (on g (λ us. on (gathered (laid p.program.structs ds) (map value_of vs)) (λ ws. ok (us ++ ws)))) (λ us. ok (begun (d ∷ ds) locals us))
      through (ok us) i h =
          ap (λ z. on z (λ fr. ok (record { name = d.name; layout = layout p.program.structs d.ty; scalars = us } ∷ fr))) i
          ∙ inner us (gathered (laid p.program.structs ds) (map value_of vs)) (h us refl)
      through (no why) i h = refl

-- ---- scalars of values of types

-- as many as the types have slots
pub gathered_many : (ss : List CStruct) (ds : List CDecl) (vs : List CValue) (us : List Scalar) → gathered (laid ss ds) (map value_of vs) ≡ ok us → length us ≡ total (declared_as ss ds)
gathered_many ss [] [] us e = let p : us ≡ [] = cc in ap length p
gathered_many ss [] (v ∷ vs) us e = absurd cc
gathered_many ss (d ∷ ds) [] us e = absurd cc
gathered_many ss (d ∷ ds) (v ∷ vs) us e =
    through (give (layout ss d.ty) (value_of v)) (gathered (laid ss ds) (map value_of vs)) (λ ws h. give_many (layout ss d.ty) (value_of v) ws (value_whole v) h) (gathered_many ss ds vs) e
  where
    through : (g h : Judged (List Scalar)) → ((ws : List Scalar) → g ≡ ok ws → length ws ≡ size (layout ss d.ty)) → ((ws : List Scalar) → h ≡ ok ws → length ws ≡ total (declared_as ss ds))
        → on g (λ us. on h (λ ws. ok (us ++ ws))) ≡ ok us → length us ≡ size (layout ss d.ty) + total (declared_as ss ds)
    through (ok xs) (ok ys) a b i =
        let p : xs ++ ys ≡ us = cc in
        let m = a xs refl in
        let n = b ys refl in
        ap length (sym p) ∙ length-append xs ys ∙ omega (arith, m, n)
    through (ok xs) (no why) a b i = absurd cc
    through (no why) h a b i = absurd cc

pub gathered_differs : (ls : List Layout) (vs : List Value) → (length ls ≡ length vs → ⊥) → gathered ls vs ≡ no KindsDiffer
gathered_differs [] [] h = absurd (h refl)
gathered_differs [] (v ∷ vs) h = refl
gathered_differs (l ∷ ls) [] h = refl
gathered_differs (l ∷ ls) (v ∷ vs) h = through (give l v) (give_only l v) (gathered_differs ls vs (λ e. h (ap (λ n. suc n) e)))
  where
    through : (g : Judged (List Scalar)) → ((why : Why) → g ≡ no why → why ≡ KindsDiffer) → gathered ls vs ≡ no KindsDiffer → on g (λ us. on (gathered ls vs) (λ ws. ok (us ++ ws))) ≡ no KindsDiffer
    through (ok us) a e = ap (λ z. on z (λ ws. ok (us ++ ws))) e
    through (no why) a e = ap no (a why refl)

-- ---- a function that is called

module _ (r : Resolution) (asked : Asked) (n : ℕ) where
  pub entered_none : (f : ℕ) (vs : List Value) (s : State) (left : ℕ) → slice_get r.whole.program.funs f ≡ None → entered r asked n f vs s left ≡ stuck NoFunction s.store
  unfolding entered
  entered_none f vs s left e = rw e refl

  -- the function at a place, and what is known of it
  pub at_place : (f : ℕ) (P : CFun → Type 0) (Q : Type 0) → IsAt r.whole f P → ((g : CFun) → slice_get r.whole.program.funs f ≡ Some g → P g → Q) → Q
  at_place f P Q h k = by_case (slice_get r.whole.program.funs f) refl
    where
      by_case : (o : Option CFun) → slice_get r.whole.program.funs f ≡ o → Q
      by_case None e = absurd (rw e at h)
      by_case (Some g) e = k g e (rw e at h)

  empty_body : (f : ℕ) (g : CFun) (vs : List Value) (s : State) (left : ℕ) → slice_get r.whole.program.funs f ≡ Some g → g.body ≡ None → entered r asked n f vs s left ≡ stuck NoBody s.store
  unfolding entered
  empty_body f g vs s left e h = rw (e, h) refl

  pub none_is : (o : Option CBody) → false ≡ is_some o → o ≡ None
  none_is None e = refl
  none_is (Some b) e = absurd cc

  pub some_is : {Q : Type 0} (o : Option CBody) → true ≡ is_some o → ((b : CBody) → o ≡ Some b → Q) → Q
  some_is None e k = absurd cc
  some_is (Some b) e k = k b refl

  pub entered_empty : (f : ℕ) (vs : List Value) (s : State) (left : ℕ) (kind : Kind) (params : List Kind) (slots : ℕ) (has_body : Bool)
      → IsAt r.whole f (λ g. IsHead r.whole g kind params slots has_body) → has_body ≡ false → entered r asked n f vs s left ≡ stuck NoBody s.store
  entered_empty f vs s left kind params slots has_body h e =
      at_place f (λ g. IsHead r.whole g kind params slots has_body) _ h (λ g i head. empty_body f g vs s left i (none_is g.body (sym e ∙ head.defined)))

  -- a body that begins, or doesn't
  body_is : (f : ℕ) (g : CFun) (b : CBody) (vs : List CValue) (s : State) (left : ℕ) → slice_get r.whole.program.funs f ≡ Some g → g.body ≡ Some b
      → entered r asked n f (map value_of vs) s left
      ≡ bind (lift s.store (on (gathered (laid r.whole.program.structs g.params) (map value_of vs)) (λ us. ok (begun (program r asked n) g.params b.locals us)))
      (λ fr. returned (program r asked n) (run_block (program r asked n) (calls r asked n) n (layout r.whole.program.structs g.ty) (block_of b.stmts) fr s left)))
      (λ us after rest. done (typed (layout r.whole.program.structs g.ty) us) after rest)
  unfolding entered calls
  body_is f g b vs s left e h = rw (e, h, enter_is (program r asked n) g.params b.locals vs) refl

  pub entered_refused : (f : ℕ) (vs : List CValue) (s : State) (left : ℕ) (kind : Kind) (params : List Kind) (slots : ℕ) (has_body : Bool) (why : Why)
      → IsAt r.whole f (λ g. IsHead r.whole g kind params slots has_body) → has_body ≡ true → gathered (map layout_of params) (map value_of vs) ≡ no why
      → entered r asked n f (map value_of vs) s left ≡ stuck why s.store
  entered_refused f vs s left kind params slots has_body why h e i =
      at_place f (λ g. IsHead r.whole g kind params slots has_body) _ h (λ g at head.
      some_is g.body (sym e ∙ head.defined) (λ b is.
      body_is f g b vs s left at is ∙ rw (sym head.takes, i) refl))

  -- the same computation of equal parts
  same_run : (l k : Layout) (x y : Block) (fr gr : operands.Frame) (s : State) (left : ℕ) → l ≡ k → x ≡ y → fr ≡ gr
      → bind (returned (program r asked n) (run_block (program r asked n) (calls r asked n) n l x fr s left)) (λ us after rest. done (typed l us) after rest)
      ≡ bind (returned (program r asked n) (run_block (program r asked n) (calls r asked n) n k y gr s left)) (λ us after rest. done (typed k us) after rest)
  same_run l k x y fr gr s left a b c = rw (a, b, c) refl

  first_lines : (g : CFun) (b : CBody) (blocks : List _) → g.body ≡ Some b → IsFirst g.body blocks → get_or blocks 0 [] ≡ b.stmts
  first_lines g b blocks e h = rw e at h

  lay_is : (f : ℕ) (g : CFun) → slice_get r.whole.program.funs f ≡ Some g → lay_at r f ≡ layout r.whole.program.structs g.ty
  lay_is f g e = rw e refl

  scope_is : (f : ℕ) (g : CFun) (b : CBody) → slice_get r.whole.program.funs f ≡ Some g → g.body ≡ Some b → scope_at r f ≡ declared_as r.whole.program.structs (g.params ++ b.locals)
  scope_is f g b e h = rw (e, h) refl

  -- a frame begins the body of a function, with these slots of its parameters
  pub record IsBegun (g : CFun) (b : CBody) (us : List Scalar) (fr : Frame) : Type 0 where
    pub type : lay_at r fr.at.function ≡ layout r.whole.program.structs g.ty
    pub stmts : lines_at r fr.at ≡ b.stmts
    pub names : framed r fr ≡ begun (program r asked n) g.params b.locals us
    pub frame : IsFrame r fr

  pub begun_at : (f : ℕ) (g : CFun) (b : CBody) (us : List Scalar) (fr : Frame) (kind : Kind) (params : List Kind) (slots : ℕ) (has_body : Bool)
      → slice_get r.whole.program.funs f ≡ Some g → g.body ≡ Some b → IsHead r.whole g kind params slots has_body → IsFirst g.body (blocks_in r f)
      → length us ≡ total (declared_as r.whole.program.structs g.params)
      → fr.at ≡ record { function = f; block = 0; index = 0 } → fr.kind ≡ kind → fr.slots.items ≡ us ++ replicate (slots - length us) Unset → IsBegun g b us fr
  begun_at f g b us fr kind params slots has_body here is head first many at same items =
      let ss = r.whole.program.structs in
      let all : slots ≡ total (declared_as ss g.params) + total (declared_as ss b.locals) = head.many ∙ ap (λ o. total (declared_as ss (g.params ++ locals_of o))) is ∙ total_both ss g.params b.locals in
      let rest : slots - length us ≡ total (declared_as ss b.locals) = omega (arith, many, all) in
      let row : fr.slots.items ≡ us ++ fresh ss b.locals = items ∙ ap (λ k. us ++ replicate k Unset) rest in
      let function : fr.at.function ≡ f = ap (λ a. a.function) at in
      let type : lay_at r fr.at.function ≡ layout ss g.ty = ap (lay_at r) function ∙ lay_is f g here in
      let scope : scope_at r fr.at.function ≡ declared_as ss (g.params ++ b.locals) = ap (scope_at r) function ∙ scope_is f g b here is in
      let length : length fr.slots.items ≡ total (declared_as ss (g.params ++ b.locals)) =
      ap length row ∙ length-append us (fresh ss b.locals) ∙ rw (many, length-replicate (total (declared_as ss b.locals)) Unset) (sym (total_both ss g.params b.locals)) in
      record {
        type = type;
        stmts = ap (lines_at r) at ∙ first_lines g b (blocks_in r f) is first;
        names = ap (scoped (scope_at r fr.at.function)) row ∙ ap (λ z. scoped z (us ++ fresh ss b.locals)) scope;
        frame = record { many = length ∙ ap total (sym scope); result = ap layout_of same ∙ head.result ∙ sym type };
      }

  pub entered_enters : (f : ℕ) (vs : List CValue) (us : List Scalar) (fr : Frame) (s : State) (left : ℕ) (kind : Kind) (params : List Kind) (slots : ℕ) (has_body : Bool)
      → IsAt r.whole f (λ g. IsHead r.whole g kind params slots has_body) → IsAt r.whole f (λ g. IsFirst g.body (blocks_in r f)) → has_body ≡ true
      → gathered (map layout_of params) (map value_of vs) ≡ ok us
      → fr.at ≡ record { function = f; block = 0; index = 0 } → fr.kind ≡ kind → fr.slots.items ≡ us ++ replicate (slots - length us) Unset
      → (entered r asked n f (map value_of vs) s left ≡ valued r asked n fr.at.function (block r asked n fr.at (framed r fr) s left)) × IsFrame r fr
  unfolding block
  entered_enters f vs us fr s left kind params slots has_body h first e i at same items =
      at_place f (λ g. IsHead r.whole g kind params slots has_body) _ h (λ g here head.
      some_is g.body (sym e ∙ head.defined) (λ b is.
      let known : gathered (laid r.whole.program.structs g.params) (map value_of vs) ≡ ok us = ap (λ ls. gathered ls (map value_of vs)) (sym head.takes) ∙ i in
      let starts : IsFirst g.body (blocks_in r f) = rw here at first in
      let frame = begun_at f g b us fr kind params slots has_body here is head starts (gathered_many r.whole.program.structs g.params vs us known) at same items in
      (body_is f g b vs s left here is ∙ rw known (same_run _ _ _ _ _ _ s left (sym frame.type) (ap block_of (sym frame.stmts)) (sym frame.names)), frame.frame)))

  -- what comes of a call that is entered, or not
  pub enters_refused : {A : Type 0} (of : A → List Scalar) (f : ℕ) (vs : List CValue) (m : Stored) (c : Changes) (left : ℕ) (kind : Kind) (params : List Kind) (slots : ℕ) (has_body : Bool) (fault : RunFault)
      → IsAt r.whole f (λ g. IsHead r.whole g kind params slots has_body) → has_body ≡ true → Tries of (gathered (map layout_of params) (map value_of vs)) (Err fault)
      → Enters r asked n (entered r asked n f (map value_of vs) (state_of m c) left) m c left (Err fault)
  enters_refused of f vs m c left kind params slots has_body (Stuck why) h e i = entered_refused f vs (state_of m c) left kind params slots has_body why h e i
  enters_refused of f vs m c left kind params slots has_body Budget h e i = absurd i
  enters_refused of f vs m c left kind params slots has_body Memory h e i = tt

  pub enters_begun : (f : ℕ) (vs : List CValue) (us : List Scalar) (m : Stored) (c : Changes) (left : ℕ) (kind : Kind) (params : List Kind) (slots : ℕ) (has_body : Bool) (result : Result Frame RunFault)
      → IsAt r.whole f (λ g. IsHead r.whole g kind params slots has_body) → IsAt r.whole f (λ g. IsFirst g.body (blocks_in r f)) → has_body ≡ true
      → gathered (map layout_of params) (map value_of vs) ≡ ok us
      → IfOk result (λ fr. fr.at ≡ record { function = f; block = 0; index = 0 }) → IfOk result (λ fr. fr.kind ≡ kind) → IfOk result (λ fr. fr.slots.items ≡ us ++ replicate (slots - length us) Unset)
      → IfErr result (λ fault. fault ≡ Memory)
      → Enters r asked n (entered r asked n f (map value_of vs) (state_of m c) left) m c left result
  enters_begun f vs us m c left kind params slots has_body (Ok fr) h first e i at same items w = entered_enters f vs us fr (state_of m c) left kind params slots has_body h first e i at same items
  enters_begun f vs us m c left kind params slots has_body (Err fault) h first e i at same items w = rw w tt

  pub fails_enters : (o : Outcome Value) (m : Stored) (c : Changes) (left : ℕ) (fault : RunFault) → Enters r asked n o m c left (Err fault) → Fails o m fault
  fails_enters o m c left (Stuck why) e = e
  fails_enters o m c left Budget e = absurd e
  fails_enters o m c left Memory e = tt

  pub into_goes : (fs gs : List Kont) (saved frame fr dest : Frame) (s : State) (left : ℕ) (o : Outcome Value)
      → gs ≡ fs ++ Return saved ∷ [] → saved ≡ frame → dest ≡ fr → o ≡ valued r asked n fr.at.function (block r asked n fr.at (framed r fr) s left)
      → waits r asked n gs dest.at.function (block r asked n dest.at (framed r dest) s left)
      ≡ waits r asked n fs frame.at.function (onward (landed r asked n frame o) (block r asked n (next frame.at)))
  unfolding on_kont
  into_goes fs gs saved frame fr dest s left o e v d h =
      ap (λ z. waits r asked n gs z.at.function (block r asked n z.at (framed r z) s left)) d
      ∙ ap (λ z. waits r asked n z fr.at.function (block r asked n fr.at (framed r fr) s left)) e
      ∙ ap (λ k. k fr.at.function (block r asked n fr.at (framed r fr) s left)) (waits_push r asked n fs (Return saved))
      ∙ ap (λ z. waits r asked n fs z.at.function (onward (landed r asked n z (valued r asked n fr.at.function (block r asked n fr.at (framed r fr) s left))) (block r asked n (next z.at)))) v
      ∙ ap (λ z. waits r asked n fs frame.at.function (onward (landed r asked n frame z) (block r asked n (next frame.at)))) (sym h)

pub ruleset call_steps = (entered_none, entered_empty, entered_refused, waits_stuck, waits_needs)
