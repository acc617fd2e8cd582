-- The C program of a list of instances does what the update semantics does.
use Rattle.std.proofs.Common.{◌≡◌, ℕ, zero, suc, ◌+◌, ◌*◌, ◌-◌, ◌^◌, ◌<◌, ◌≤◌, Bool, true, false, cond, Option, Some, None, List, [], ◌∷◌, ◌++◌, length, slice_get, refl, sym, ap, ◌∙◌, subst, arith, IsTrue, nat_lt, if◌then◌else◌}
use Rattle.std.proofs.lemmas.Bool.{eq-eqb, eqb-true, le-ltb}
use Rattle.std.proofs.lemmas.List.{append-nil}
use Rattle.std.proofs.lemmas.Option.{slice_get_within}
use Rattle.std.specs.List.{Contains, list_any}
use Rattle.std.specs.Option.{option_map}
use Rattle.cg_base.specs.declared.fun.Fun.{Fun}
use Rattle.cg_base.specs.declared.fun.Fun.TheVariants.{User, Lib as OfLib}
use Rattle.cg_base.specs.declared.fun.Lib.{Lib}
use Rattle.cg_base.specs.declared.fun.Lib.TheVariants.{Map, Fold, Seq32, Seq64, Seq32Break}
use Rattle.cg_base.specs.declared.kind.Word.TheVariants.{U32}
use Rattle.cg_base.specs.Same.{same_type}
use Rattle.cg_base.specs.Types.{Tau, arrow}
use Rattle.cg_core.specs.Kernels as kernels
use Rattle.cg_core.specs.Terms.{Note, Tree}
use Rattle.cg_base.specs.Words.{bits}
use Rattle.cg_cmachine_def.specs.Layouts.{Layout, cell, pointer, group, same_layout, size}
use Rattle.cg_cmachine_def.specs.Operands.{Frame, Value, literal, typed, give, scalars_of}
use Rattle.cg_cmachine_def.specs.Outcomes as runs
use Rattle.cg_cmachine_def.specs.Outcomes.{ok, no, done}
use Rattle.cg_cmachine_def.specs.Runs.{Linked, call_abstract, crun, find, state_behind}
use Rattle.cg_ctree.specs.declared.tree.CStruct.{CStruct}
use Rattle.cg_ctree.specs.declared.tree.CTy.{CTy}
use Rattle.cg_ctree.specs.declared.why.Why.TheVariants.{KindsDiffer}
use Rattle.cg_ctree.specs.Trees as trees
use Rattle.cg_heap.specs.Calls.{Answer}
use Rattle.cg_heap.specs.declared.cell.Scalar.{Scalar}
use Rattle.cg_heap.specs.declared.cell.Scalar.TheVariants.{Word as NumberScalar}
use Rattle.cg_heap.specs.declared.foreign.Link.{Link}
use Rattle.cg_heap.specs.Stored.{Stored}
use Rattle.cg_inst.proofs.SameType.{same_self}
use Rattle.cg_core_def.specs.Lawful.{library_arity}
use Rattle.cg_eval_def.specs.Foreigns.{is_known}
use Rattle.cg_eval_operations.specs.Iterators.{is_iterator}
use Rattle.cg_typing.specs.Contexts.{look}
use Rattle.cg_typing.specs.Functions.{are_good_arguments, arg_types, asked_by, asked_by_library, fun_type, takes_as_many}
use Rattle.cg_typing.specs.Instances.{as_arguments, Entry, Instance, IsDerivedBody, IsDerivedMaybe, IsEntry}
use Rattle.cg_typing.specs.Library.{library_type}
use Rattle.cg_typing.specs.Parts.{given_by, taken_by}
use Rattle.cg_typing.specs.Rules.{type_at}
use Rattle.cg_update.specs.Calls.{Program, abstract, answer_of, argument_of, library, types_of}
use Rattle.cg_update.specs.Machines.{is_machine, type_of_part}
use Rattle.cg_update.specs.Outcomes.{State, starting, Outcome, no_result, gives, where_true, given, pay_for}
use Rattle.cg_update.specs.Updates as updates
use Rattle.cg_update.specs.Updates.{Result, calls_within, entered, entered_by, given_outside, outcome, result_of, update, updated}
use Rattle.cg_cgen_def.specs.Names.{declared, dispatch_name, function_name}
use Rattle.cg_lower_def.specs.CTypes.{c_type, IsDeclared}
use Rattle.cg_cgen_def.specs.Bodies.{body_of, Low}
use Rattle.cg_lower_def.specs.Functions.{Item, of_arrow, of_instance, function_maybe, function_of, function_of_item, linked_in, low_body, low_instance, low_outside}
use Rattle.cg_lower_def.specs.Dispatch.{dispatch_of, tags_from}
use Rattle.cg_lower_def.specs.IteratorCode.{function_type, low_iterator}
use Rattle.cg_cgen_def.specs.Places.{whole_argument, argument, argument_name}
use Rattle.cg_lower_def.specs.LibraryCode.{low_library}
use Rattle.cg_lower_def.specs.Lowered.{Whole, arrow_number}
use Rattle.cg_lower_def.specs.Iterated.{tag_in}
use Rattle.cg_lower_def.specs.Simulated.{as_run, DispatchIsSimulated, IsCallable, IsProgramOf, IsReady, LibraryIsSimulated, LoweringSimulates, Simulates, SimulatesDispatch, SimulatesLibrary}
use Rattle.cg_lower_def.specs.Typed.{IsTyped}
use Rattle.cg_lower_laws.proofs.Bodies.{begins, begins_fresh, begins_is, BodyRan, bodied, body_answers, body_runs}
use Rattle.cg_lower_laws.proofs.Computing.{Called, CallsRun, ValuesRun}
use Rattle.cg_lower_laws.proofs.Dispatching.{arrow_at, dispatch_answers, dispatch_runs, tagged}
use Rattle.cg_lower_laws.proofs.Finding.{abstract_called, found_at, item_name, item_number, own_called}
use Rattle.cg_lower_laws.proofs.Frames.{Is, is_kept, Keeps}
use Rattle.cg_lower_laws.proofs.Inversions.{on_is, pay_for_is, same_rest, same_scalars, same_state, where_is}
use Rattle.cg_lower_laws.proofs.Layouts.{machine_slots, size_slots}
use Rattle.cg_lower_laws.proofs.Iterating.{Does, LoopRan, Price, TurnCalled}
use Rattle.cg_lower_laws.proofs.Iterators.{iterator_ran}
use Rattle.cg_lower_laws.proofs.LibraryCalls.{LibraryRan, library_ran}
use Rattle.cg_lower_laws.proofs.Operands.{IsReadable, given_typed, machine_readable, readable}
use Rattle.cg_lower_laws.proofs.Runs.{Answers}
use Rattle.cg_lower_laws.proofs.Simulating.{simulated}
use Rattle.cg_lower_laws.proofs.Terms.{lay_c, Ran}
use Rattle.cg_lower_laws.proofs.Typings.{Agrees, checked_is, derived_typed}
use Rattle.cg_inst.proofs.Standing.{there}
use Rattle.cg_typing.proofs.Lists.{types_back}

-- ---- lists of instances

-- an entry with a type
entry_is : (o : Option Entry) (t : Tau) → option_map (λ (e : Entry). e.ty) o ≡ Some t → (e : Entry) × (o ≡ Some e) × (e.ty ≡ t)
entry_is None t h = absurd (cc)
entry_is (Some e) t h = (e, refl, cc)

-- an arrow is one from what it takes to what it gives
arrow_is : (t a b : Tau) → t ≡ arrow a b → t ≡ arrow (taken_by t) (given_by t)
arrow_is t a b e = e ∙ ap (λ z. arrow (taken_by z) (given_by z)) (sym e)

-- the function at a place has the name of the place
named_maybe : (whole : Whole) (k : ℕ) (x : Option Instance) (e : Option Entry) (f : trees.Function) → function_maybe whole k x e ≡ Some f → f.name ≡ function_name k
named_maybe whole k None None f h = absurd (cc)
named_maybe whole k None (Some e) f h = absurd (cc)
named_maybe whole k (Some x) None f h = absurd (cc)
named_maybe whole k (Some x) (Some e) f h = let same : function_of whole k x e ≡ f = cc in sym (ap (λ z. z.name) same)

-- and that of an arrow type has the name of its number
named_arrow : (whole : Whole) (entries : List Entry) (j : ℕ) (t : Option Tau) (f : trees.Function) → option_map (dispatch_of whole entries j) t ≡ Some f → f.name ≡ dispatch_name j
named_arrow whole entries j None f h = absurd (cc)
named_arrow whole entries j (Some t) f h = let same : dispatch_of whole entries j t ≡ f = cc in sym (ap (λ z. z.name) same)

named_item : (whole : Whole) (entries : List Entry) (i : Item) (f : trees.Function) → function_of_item whole entries i ≡ Some f → f.name ≡ item_name i
named_item whole entries (of_instance k) f h = named_maybe whole k (slice_get whole.list k) (slice_get entries k) f h
named_item whole entries (of_arrow j) f h = named_arrow whole entries j (slice_get whole.arrows j) f h

-- ---- functions of iterators

-- a function of the source that is called by its place gives a machine value of its type, and its C does the same with 4 steps more at most
record SourceCalled (p : Program) (whole : Whole) (q : Linked) (a b : Tau) (tag v : Value) (s s' : State) (ws : List Scalar) (left rest : ℕ) : Type 0 where
  called : Called q (dispatch_name (arrow_number whole.arrows (arrow a b))) (tag ∷ v ∷ []) s s' (lay_c q (c_type whole.numbered b)) ws 4 left rest
  machine : is_machine (types_of p) b ws ≡ true

abbrev SourceRuns : Program → Whole → Linked → updates.Calls → Type 0
SourceRuns p whole q calls =
    (k : ℕ) (a b : Tau) (us ws : List Scalar) (s s' : State) (left rest : ℕ) (tag v : Value) → list_any (λ u. same_type u (arrow a b)) whole.arrows ≡ true
    → types_of p k ≡ Some (arrow a b) → updates.calls_source p calls (slice_get p.list k) k us s left ≡ gives ws s' rest → is_machine (types_of p) a us ≡ true
    → give (cell U32) tag ≡ ok (NumberScalar k ∷ []) → give (lay_c q (c_type whole.numbered a)) v ≡ ok us
    → SourceCalled p whole q a b tag v s s' ws left rest

-- a cost is worth 32 steps of C
abbrev steps_of_cost : Price
steps_of_cost = record { worth = λ n. 32 * n; granted = 4; left_over = 0; pays = λ n. omega arith }

-- the function of an iterator is of an arrow type
function_arrow : (lib : Lib) (args : List Tau) → is_iterator lib ≡ true → arrow (taken_by (function_type lib args)) (given_by (function_type lib args)) ≡ function_type lib args
unfolding type_of_part
function_arrow Map args i = refl
function_arrow Fold args i = refl
function_arrow Seq32 args i = refl
function_arrow Seq64 args i = refl
function_arrow Seq32Break args i = refl
function_arrow _ args i = absurd (cc)

-- ---- values

-- what passes a test is given as it is
ok_given : (b : Bool) (us ws : List Scalar) → cond b (ok us) (no KindsDiffer) ≡ ok ws → us ≡ ws
ok_given true us ws e = cc
ok_given false us ws e = absurd (cc)

-- the scalars of a value are those that it gives
scalars_given : (l : Layout) (v : Value) (us : List Scalar) → give l v ≡ ok us → scalars_of v ≡ us
scalars_given (cell w) (literal n) us e = ok_given (nat_lt n (2 ^ bits w)) (NumberScalar n ∷ []) us e
scalars_given (pointer x) (literal n) us e = absurd (cc)
scalars_given (group x ms) (literal n) us e = absurd (cc)
scalars_given (cell w) (typed k ws) us e = ok_given (same_layout (cell w) k) ws us e
scalars_given (pointer x) (typed k ws) us e = ok_given (same_layout (pointer x) k) ws us e
scalars_given (group x ms) (typed k ws) us e = ok_given (same_layout (group x ms) k) ws us e

-- what an abstract function answers is what a call of it gives
abstract_gives : (q : Linked) (f : trees.Function) (name : List ℕ) (t r : CTy) (v : Value) (us : List Scalar) (s : runs.State) (a : Answer) (b b' : ℕ) → f.params ≡ declared t argument_name ∷ [] → f.ty ≡ r
    → give (lay_c q t) v ≡ ok us → q.asked name us s.store ≡ Some a → b ≡ a.cost + b' → length a.out.result ≡ size (lay_c q r) → IsReadable (lay_c q r) a.out.result
    → call_abstract q f name (v ∷ []) s b ≡ done (typed (lay_c q r) a.out.result) (state_behind s a.out) b'
abstract_gives q f name t r v us s a b b' params ty g asked e full reads =
    let few : nat_lt b a.cost ≡ false = le-ltb b a.cost (omega (arith, e)) in
    let left : b - a.cost ≡ b' = omega (arith, e) in
    rw (params, ty, scalars_given (lay_c q t) v us g, append-nil us, asked, g, few, left, eq-eqb (length a.out.result) (size (lay_c q r)) full, readable (lay_c q r) a.out.result reads) refl

-- a table that answers knows a function of the source
answer_is : (p : Program) (o : Option kernels.Function) (us : List Scalar) (m : Stored) (a : Answer) → answer_of p o us m ≡ Some a
    → (f : kernels.Function) × (o ≡ Some f) × (is_known p.foreign f ≡ true) × (p.on_heaps.asked f.at.name us m ≡ Some a)
answer_is p None us m a h = absurd (cc)
answer_is p (Some f) us m a h = by_test (is_known p.foreign f) refl h
  where
    by_test : (b : Bool) → is_known p.foreign f ≡ b → cond b (p.on_heaps.asked f.at.name us m) None ≡ Some a
        → (g : kernels.Function) × (Some f ≡ Some g) × (is_known p.foreign g ≡ true) × (p.on_heaps.asked g.at.name us m ≡ Some a)
    by_test true knows e = (f, refl, knows, e)
    by_test false knows e = absurd (cc)

-- what is called in so many steps is called in more
called_more : (q : Linked) (f : List ℕ) (vs : List Value) (s s' : State) (l : Layout) (ws : List Scalar) (n m left rest : ℕ) → n ≤ m → Called q f vs s s' l ws n left rest → Called q f vs s s' l ws m left rest
called_more q f vs s s' l ws n m left rest h c = record { steps = c.steps; within = let w = c.within in omega (arith, w, h); answers = c.answers }

module _ (p : Program) (whole : Whole) (ss : List CStruct) (links : List Link) (order : List Item) (is : IsProgramOf p whole ss links order) where
  abbrev q : Linked
  q = linked_in whole ss p links order

  abbrev types : ℕ → Option Tau
  types = types_of p

  abbrev lay_of : Tau → Layout
  lay_of t = lay_c q (c_type whole.numbered t)

  -- the places of instances are numbers of 32 bits
  few : (k : ℕ) (t : Tau) → types_of p k ≡ Some t → k < 2 ^ 32
  few k t h =
      let e = entry_is (slice_get p.entries k) t h in
      let lt = slice_get_within p.entries k e.0 e.1 in omega (arith, lt, is.instances.as_many, is.few)

  -- the numbers of items are few
  small : (i : Item) → Contains order i → item_number i < 2 ^ 64
  small (of_instance k) c = let lt = is.only (of_instance k) c in omega (arith, lt, is.few)
  small (of_arrow j) c = let lt = is.only (of_arrow j) c in omega (arith, lt, is.few_arrows)

  -- a machine value has the size of its layout
  sized : (t : Tau) (us : List Scalar) → IsDeclared whole.numbered ss t → is_machine types t us ≡ true → length us ≡ size (lay_of t)
  sized t us d m = machine_slots types t us m ∙ sym (size_slots whole.numbered ss t d)

  module _ (k : ℕ) (x : Instance) (e : Entry) (listed : slice_get p.list k ≡ Some x) (entry : slice_get p.entries k ≡ Some e) where
    abbrev taken : Tau
    taken = taken_by e.ty

    abbrev result : Tau
    result = given_by e.ty

    -- what holds of the instance at this place
    ready : IsReady p whole ss links k x e
    ready = is.ready k x e listed entry

    derived : IsEntry p.functions p.list x e
    derived = is.instances.each k x e listed entry

    -- its C function is found
    found : find (function_name k) q.program.functions ≡ Some (function_of whole k x e)
    found =
        found_at (function_of_item whole p.entries) (named_item whole p.entries) order (of_instance k) (function_of whole k x e) small
        (is.placed k (slice_get_within p.list k x listed))
        (ap (λ z. function_maybe whole k (slice_get z k) (slice_get p.entries k)) is.same_list ∙ ap (λ z. function_maybe whole k z (slice_get p.entries k)) listed ∙ ap (λ z. function_maybe whole k (Some x) z) entry)

    -- and has the body that is lowered
    found_bodied : (a : Low) → low_instance whole x e.body ≡ Some a
        → find (function_name k) q.program.functions ≡ Some (bodied (function_name k) (c_type whole.numbered taken) (c_type whole.numbered result) a)
    found_bodied a h =
        found
        ∙ ap
        (λ z. Some (record {
          ty = c_type whole.numbered result;
          name = function_name k;
          params = declared (c_type whole.numbered taken) argument_name ∷ [];
          body = option_map body_of z;
        }))
        h

    -- what the statements of its body do, where it has one
    record Ended (us ws : List Scalar) (s s' : State) (more left rest : ℕ) : Type 0 where
      low : Low
      is_low : low_instance whole x e.body ≡ Some low
      steps : ℕ
      within : steps + 32 * rest ≤ 32 * left + more
      ran : BodyRan q (lay_of result) low (begins q (c_type whole.numbered taken) us low.locals) (as_run s) (as_run s') ws steps

    -- which is what a call of it does
    ended_called : (us ws : List Scalar) (s s' : State) (more left rest : ℕ) (v : Value) → give (lay_of taken) v ≡ ok us → Ended us ws s s' more left rest
        → Called q (function_name k) (v ∷ []) s s' (lay_of result) ws (suc more) left rest
    ended_called us ws s s' more left rest v g r =
        let f : find (function_name k) q.program.functions ≡ Some (bodied (function_name k) (c_type whole.numbered taken) (c_type whole.numbered result) r.low) =
        found_bodied r.low r.is_low in
        record {
          steps = suc r.steps;
          within = omega (arith, r.within);
          answers =
              body_answers q whole.numbered (function_name k) (c_type whole.numbered taken) (c_type whole.numbered result) r.low us ws (as_run s) (as_run s') r.steps f r.ran v
              (own_called q k (bodied (function_name k) (c_type whole.numbered taken) (c_type whole.numbered result) r.low) f (body_of r.low) refl)
              g;
        }

    -- ---- an instance with a body

    -- its body is derived in the context of its argument
    derived_body : (core : Tree Note) → e.body ≡ Some core → IsDerivedBody p.functions taken result core
    derived_body core b =
        subst (λ z. IsDerivedMaybe p.functions taken z (Some core)) (sym (ap given_by derived.is_arrow))
        (subst (λ z. IsDerivedMaybe p.functions z derived.result (Some core)) (sym (ap taken_by derived.is_arrow))
        (subst (λ z. IsDerivedMaybe p.functions derived.argument derived.result z) b derived.derived))

    -- C has a variable for the argument
    agrees : (t : Tau) → Agrees whole.numbered (Some t ∷ []) (c_type whole.numbered t ∷ [])
    agrees t = record { as_many = refl; each = each }
      where
        each : (i : ℕ) (u : Tau) → look (Some t ∷ []) i ≡ Some u → slice_get (c_type whole.numbered t ∷ []) i ≡ Some (c_type whole.numbered u)
        each zero u h = let same : t ≡ u = cc in ap (λ z. Some (c_type whole.numbered z)) same
        each (suc i) u h = absurd (cc)

    -- so the types of its body fit in C
    core_typed : (core : Tree Note) → e.body ≡ Some core → IsTyped p.functions whole.numbered ss (c_type whole.numbered taken ∷ []) core
    core_typed core b =
        let d = derived_body core b in
        derived_typed whole.numbered ss p.functions [] (Some taken ∷ []) d.tree (Some result) core (c_type whole.numbered taken ∷ []) (agrees taken) d.derives (ready.nodes core b)

    module _ (calls : updates.Calls) (callees : CallsRun p whole q calls) (values : ValuesRun p whole q calls) (sources : SourceRuns p whole q calls) (us ws : List Scalar) (s s' : State) (left rest : ℕ) (machine : is_machine types taken us ≡ true) where
      -- its body runs in the frame that a call begins with
      core_ran : (core : Tree Note) → e.body ≡ Some core → update p calls core (us ∷ []) s left ≡ gives ws s' rest
          → Ran q types whole.numbered (lay_of result) 0 (begins q (c_type whole.numbered taken) us (low_body whole core).locals) s (low_body whole core) (type_at core) ws s' left rest
      core_ran core b h =
          let small = ready.few (low_body whole core) (ap (low_instance whole x) b) in
          simulated p whole q (lay_of result) calls few is.same_list is.instances callees values core (ready.listed core b) 0 (c_type whole.numbered taken ∷ []) (whole_argument ∷ []) (us ∷ [])
          (begins q (c_type whole.numbered taken) us (low_body whole core).locals) s s' left rest ws (core_typed core b) (
            is_kept (begins q (c_type whole.numbered taken) us (low_body whole core).locals) argument (lay_of taken) us
                (begins_is q (c_type whole.numbered taken) us (low_body whole core).locals (sized taken us ready.argument machine)),
            tt,
            tt,
          )
          (begins_fresh q (c_type whole.numbered taken) us (low_body whole core).locals small) (omega (arith, small)) h

      -- its result is of its type
      core_formed : (core : Tree Note) → e.body ≡ Some core → update p calls core (us ∷ []) s left ≡ gives ws s' rest → is_machine types result ws ≡ true
      core_formed core b h =
          let d = derived_body core b in
          subst (λ z. is_machine types z ws ≡ true) (checked_is p.functions [] (Some taken ∷ []) d.tree result core d.derives) (core_ran core b h).machine

      -- and is left to be read
      core_ended : (core : Tree Note) → e.body ≡ Some core → update p calls core (us ∷ []) s left ≡ gives ws s' rest → Ended us ws s s' 0 left rest
      core_ended core b h =
          let d = derived_body core b in
          let same : type_at core ≡ result = checked_is p.functions [] (Some taken ∷ []) d.tree result core d.derives in
          let r = core_ran core b h in
          record {
            low = low_body whole core;
            is_low = ap (low_instance whole x) b;
            steps = r.steps;
            within = omega (arith, r.within);
            ran = record {
              frame = r.frame;
              runs = r.went.runs;
              keeps = subst (λ z. Keeps r.frame (low_body whole core).value (lay_of z) ws) same r.keeps;
              readable = machine_readable whole.numbered ss types few result ws (core_formed core b h);
            };
          }

      -- ---- a function of the library

      -- its type is that of the function
      library_is : (lib : Lib) → x.fun ≡ OfLib lib → library_type lib x.types ≡ arrow taken result
      library_is lib f =
          let here : Some (library_type lib (arg_types (as_arguments x.types))) ≡ Some e.ty = sym (ap (λ z. fun_type p.functions z (as_arguments x.types)) f) ∙ derived.is in
          let same : library_type lib (arg_types (as_arguments x.types)) ≡ e.ty = cc in
          ap (library_type lib) (sym (types_back x.types)) ∙ same ∙ arrow_is e.ty derived.argument derived.result derived.is_arrow

      -- its type arguments are as many as it has, and what it asks
      library_many : (lib : Lib) → x.fun ≡ OfLib lib → length x.types ≡ library_arity lib
      library_many lib f = sym (eqb-true (library_arity lib) (length x.types) (subst (λ z. IsTrue (takes_as_many p.functions z (length x.types))) f ready.good.many))

      library_good : (lib : Lib) → x.fun ≡ OfLib lib → IsTrue (are_good_arguments [] (asked_by_library lib) (as_arguments x.types))
      library_good lib f = subst (λ z. IsTrue (are_good_arguments [] (asked_by p.functions z) (as_arguments x.types))) f ready.good.good

      -- it has the body of the function
      library_low : (lib : Lib) (b : Bool) → x.fun ≡ OfLib lib → e.body ≡ None → is_iterator lib ≡ b
          → low_instance whole x e.body ≡ (if b then Some (low_iterator whole lib x.types) else Some (low_library whole lib x.types))
      library_low lib b f n i =
          ap (low_instance whole x) n ∙ ap (λ z. low_outside whole z x) f ∙ ap (λ z. if z then Some (low_iterator whole lib x.types) else Some (low_library whole lib x.types)) i

      -- what the statements of a body do ends the function
      library_ends : (a : Low) → low_instance whole x e.body ≡ Some a → LibraryRan q (lay_of result) a (begins q (c_type whole.numbered taken) us a.locals) s s' (lay_of result) ws left rest → Ended us ws s s' 16 left rest
      library_ends a is_low r = record { low = a; is_low = is_low; steps = r.steps; within = r.within; ran = record { frame = r.frame; runs = r.runs; keeps = r.keeps; readable = r.readable } }

      -- a function that takes none does what the library does
      library_ended : (lib : Lib) → x.fun ≡ OfLib lib → e.body ≡ None → is_iterator lib ≡ false → library lib x.types us s left ≡ gives ws s' rest → Ended us ws s s' 16 left rest
      library_ended lib f b none h =
          let is_low = library_low lib false f b none in
          let a = low_library whole lib x.types in
          library_ends a is_low
          (library_ran q whole (lay_of result) types lib x.types taken result (begins q (c_type whole.numbered taken) us a.locals) s s' us ws left rest none (library_is lib f)
          (library_many lib f) (library_good lib f) ready.argument ready.result
          (begins_is q (c_type whole.numbered taken) us a.locals (sized taken us ready.argument machine)) (begins_fresh q (c_type whole.numbered taken) us a.locals (ready.few a is_low)) machine h)

      -- an iterator does what it does in the update semantics
      iterator_ended : (lib : Lib) → x.fun ≡ OfLib lib → e.body ≡ None → is_iterator lib ≡ true → updates.iterated p calls lib x.types (record { ty = taken; scalars = us }) s left ≡ gives ws s' rest → Ended us ws s s' 16 left rest
      iterator_ended lib f b one h =
          library_ends (low_iterator whole lib x.types) is_low
          (subst (λ z. LibraryRan q (lay_of result) (low_iterator whole lib x.types) frame s s' (lay_of z) ws left rest) gives_so
          (record { steps = ran.steps; frame = ran.frame; within = ran.within; runs = ran.runs; keeps = ran.keeps; readable = ran.readable }))
        where
          is_low : low_instance whole x e.body ≡ Some (low_iterator whole lib x.types)
          is_low = library_low lib true f b one

          callee : List ℕ
          callee = dispatch_name (arrow_number whole.arrows (function_type lib x.types))

          function : ℕ
          function = tag_in lib x.types us

          frame : Frame
          frame = begins q (c_type whole.numbered taken) us (low_iterator whole lib x.types).locals

          callable : IsCallable whole ss (function_type lib x.types)
          callable = ready.turned lib f one

          takes_so : taken_by (library_type lib x.types) ≡ taken
          takes_so = ap taken_by (library_is lib f)

          gives_so : given_by (library_type lib x.types) ≡ result
          gives_so = ap given_by (library_is lib f)

          -- its function does what the instance of its number does
          does : Does types whole.numbered q callee steps_of_cost function (taken_by (function_type lib x.types)) (given_by (function_type lib x.types)) (updates.calls_source p calls (slice_get p.list function) function)
          does asks gave s s' left rest t h m =
              let tag = typed (cell U32) (NumberScalar function ∷ []) in
              let v = typed (lay_of (taken_by (function_type lib x.types))) asks in
              let c = sources function (taken_by (function_type lib x.types)) (given_by (function_type lib x.types)) asks gave s s' left rest tag v
              (subst (λ z. list_any (λ u. same_type u z) whole.arrows ≡ true) (sym (function_arrow lib x.types one)) callable.listed) t h m (given_typed (cell U32) (NumberScalar function ∷ [])) (given_typed (lay_of (taken_by (function_type lib x.types))) asks) in
              subst (λ z. TurnCalled types whole.numbered q (dispatch_name (arrow_number whole.arrows z)) steps_of_cost (given_by (function_type lib x.types)) tag v s s' gave left rest) (function_arrow lib x.types one)
              (record { steps = c.called.steps; within = let le = c.called.within in omega (arith, le); answers = c.called.answers; machine = c.machine })

          ran : LoopRan steps_of_cost q (lay_of result) (low_iterator whole lib x.types) frame s s' (lay_of (given_by (library_type lib x.types))) ws left rest
          ran =
              iterator_ran lib x.types one (library_many lib f) (library_good lib f) types whole.numbered q (lay_of result) callee steps_of_cost (updates.calls_source p calls (slice_get p.list function) function) frame s s' us ws left rest few does
              (subst (IsDeclared whole.numbered ss) (sym takes_so) ready.argument) (subst (IsDeclared whole.numbered ss) (sym gives_so) ready.result) callable.argument callable.result
              (subst (λ z. Is frame argument_name (lay_of z) us) (sym takes_so) (begins_is q (c_type whole.numbered taken) us (low_iterator whole lib x.types).locals (sized taken us ready.argument machine)))
              (begins_fresh q (c_type whole.numbered taken) us (low_iterator whole lib x.types).locals (ready.few (low_iterator whole lib x.types) is_low))
              (subst (λ z. is_machine types z us ≡ true) (sym takes_so) machine)
              (subst (λ z. updates.iterated p calls lib x.types (record { ty = z; scalars = us }) s left ≡ gives ws s' rest) (sym takes_so) h)

      -- ---- an abstract function

      -- what the table answers is what a call gives
      abstract_called_so : (i : ℕ) (f : kernels.Function) (a : Answer) (v : Value) → x.fun ≡ User i → e.body ≡ None → slice_get p.functions i ≡ Some f → is_known p.foreign f ≡ true
          → p.on_heaps.asked f.at.name us s.store ≡ Some a → is_machine types result a.out.result ≡ true → give (lay_of taken) v ≡ ok us
          → Answers q (function_name k) (v ∷ []) (as_run s) a.cost (typed (lay_of result) a.out.result) (state_behind (as_run s) a.out)
      abstract_called_so i f a v is_user b at knows asked m g =
          let no_body : (function_of whole k x e).body ≡ None = ap (option_map body_of) (ap (low_instance whole x) b ∙ ap (λ z. low_outside whole z x) is_user) in
          let callee_is = abstract_called q k (function_of whole k x e) found f.at.name no_body (ready.linked i f is_user b at knows) in
          record {
            by = λ n c c' h le.
                rw callee_is
                (abstract_gives q (function_of whole k x e) f.at.name (c_type whole.numbered taken) (c_type whole.numbered result) v us (as_run s) a c c' refl refl g asked h
                (sized result a.out.result ready.result m) (machine_readable whole.numbered ss types few result a.out.result m));
          }

      -- what a call of a function of the source does: it gives a machine value of its type, and takes one step more at most
      record SourceEnded (v : Value) : Type 0 where
        called : Called q (function_name k) (v ∷ []) s s' (lay_of result) ws 1 left rest
        is_fine : is_machine types result ws ≡ true

      -- as in the update semantics
      abstract_ends : (i : ℕ) (v : Value) → x.fun ≡ User i → e.body ≡ None → give (lay_of taken) v ≡ ok us → abstract p result i us s left ≡ gives ws s' rest → SourceEnded v
      abstract_ends i v is_user b g h =
          record {
            called =
                subst (λ z. Called q (function_name k) (v ∷ []) s z (lay_of result) ws 1 left rest) (same_state a.out.result ws after s' (left - a.cost) rest paid.1)
                (subst (λ z. Called q (function_name k) (v ∷ []) s after (lay_of result) z 1 left rest) (same_scalars a.out.result ws after s' (left - a.cost) rest paid.1)
                (record {
                  steps = a.cost;
                  within = omega (arith, paid.0, same_rest a.out.result ws after s' (left - a.cost) rest paid.1);
                  answers = abstract_called_so i known.0 a v is_user b known.1 known.2 known.3 formed.0 g;
                }));
            is_fine = subst (λ z. is_machine types result z ≡ true) (same_scalars a.out.result ws after s' (left - a.cost) rest paid.1) formed.0;
          }
        where
          there_is : (a : Answer) × (answer_of p (slice_get p.functions i) us s.store ≡ Some a)
              × (where_true (is_machine types result a.out.result) (pay_for a.cost left (λ rest. given a.out s rest)) ≡ gives ws s' rest)
          there_is =
              on_is (answer_of p (slice_get p.functions i) us s.store)
              (λ a. where_true (is_machine types result a.out.result) (pay_for a.cost left (λ rest. given a.out s rest))) ws s' rest h

          a : Answer
          a = there_is.0

          after : State
          after = record { store = a.out.store; made = s.made ++ a.out.made; freed = s.freed ++ a.out.freed }

          formed : (is_machine types result a.out.result ≡ true) × (pay_for a.cost left (λ rest. given a.out s rest) ≡ gives ws s' rest)
          formed = where_is (is_machine types result a.out.result) (pay_for a.cost left (λ rest. given a.out s rest)) ws s' rest there_is.2

          paid : (a.cost ≤ left) × (given a.out s (left - a.cost) ≡ gives ws s' rest)
          paid = pay_for_is a.cost left (λ rest. given a.out s rest) ws s' rest formed.1

          known : (f : kernels.Function) × (slice_get p.functions i ≡ Some f) × (is_known p.foreign f ≡ true) × (p.on_heaps.asked f.at.name us s.store ≡ Some a)
          known = answer_is p (slice_get p.functions i) us s.store a there_is.1

      -- ---- each instance

      -- a function of the source, with a body or without one
      source_ended : (i : ℕ) (o : Option (Tree Note)) (v : Value) → x.fun ≡ User i → e.body ≡ o → give (lay_of taken) v ≡ ok us → entered_by p calls x e.ty o us s left ≡ gives ws s' rest → SourceEnded v
      source_ended i None v f b g h = abstract_ends i v f b g (subst (λ z. given_outside p calls z x.types e.ty us s left ≡ gives ws s' rest) f h)
      source_ended i (Some core) v f b g h = record { called = ended_called us ws s s' 0 left rest v g (core_ended core b h); is_fine = core_formed core b h }

      -- a function of the library
      library_called : (lib : Lib) (b : Bool) (v : Value) → x.fun ≡ OfLib lib → e.body ≡ None → is_iterator lib ≡ b → give (lay_of taken) v ≡ ok us
          → cond b (updates.iterated p calls lib x.types (record { ty = taken; scalars = us }) s left) (library lib x.types us s left) ≡ gives ws s' rest
          → Called q (function_name k) (v ∷ []) s s' (lay_of result) ws 17 left rest
      library_called lib true v f n i g h = ended_called us ws s s' 16 left rest v g (iterator_ended lib f n i h)
      library_called lib false v f n i g h = ended_called us ws s s' 16 left rest v g (library_ended lib f n i h)

      -- an instance without a body
      by_fun : (f : Fun) (v : Value) → x.fun ≡ f → e.body ≡ None → give (lay_of taken) v ≡ ok us → given_outside p calls f x.types e.ty us s left ≡ gives ws s' rest
          → Called q (function_name k) (v ∷ []) s s' (lay_of result) ws 24 left rest
      by_fun (User i) v f b g h = called_more q (function_name k) (v ∷ []) s s' (lay_of result) ws 1 24 left rest (omega arith) (abstract_ends i v f b g h).called
      by_fun (OfLib lib) v f b g h =
          called_more q (function_name k) (v ∷ []) s s' (lay_of result) ws 17 24 left rest (omega arith) (library_called lib (is_iterator lib) v f b refl g h)

      -- an instance with or without one
      by_body : (o : Option (Tree Note)) (v : Value) → e.body ≡ o → give (lay_of taken) v ≡ ok us → entered_by p calls x e.ty o us s left ≡ gives ws s' rest
          → Called q (function_name k) (v ∷ []) s s' (lay_of result) ws 24 left rest
      by_body None v b g h = by_fun x.fun v refl b g h
      by_body (Some core) v b g h =
          called_more q (function_name k) (v ∷ []) s s' (lay_of result) ws 1 24 left rest (omega arith) (ended_called us ws s s' 0 left rest v g (core_ended core b h))

  -- what an instance that is called gives
  entered_is : (calls : updates.Calls) (k : ℕ) (x : Instance) (e : Entry) (us ws : List Scalar) (s s' : State) (left rest : ℕ) → slice_get p.list k ≡ Some x → slice_get p.entries k ≡ Some e
      → entered p calls (slice_get p.list k) (slice_get p.entries k) us s left ≡ gives ws s' rest → entered_by p calls x e.ty e.body us s left ≡ gives ws s' rest
  entered_is calls k x e us ws s s' left rest listed entry h =
      sym (ap (λ z. entered p calls z (slice_get p.entries k) us s left) listed ∙ ap (λ z. entered p calls (Some x) z us s left) entry) ∙ h

  -- ---- calls of function values

  -- the function of a listed type is found
  dispatch_found : (t : Tau) → list_any (λ u. same_type u t) whole.arrows ≡ true
      → find (dispatch_name (arrow_number whole.arrows t)) q.program.functions ≡ Some (dispatch_of whole p.entries (arrow_number whole.arrows t) t)
  dispatch_found t listed =
      let there_is = arrow_at t whole.arrows listed in
      found_at (function_of_item whole p.entries) (named_item whole p.entries) order (of_arrow (arrow_number whole.arrows t)) (dispatch_of whole p.entries (arrow_number whole.arrows t) t) small
      (is.arrows_placed (arrow_number whole.arrows t) (slice_get_within whole.arrows (arrow_number whole.arrows t) t there_is))
      (ap (option_map (dispatch_of whole p.entries (arrow_number whole.arrows t))) there_is)

  -- a call of a listed type's function, by what the function of the instance does: it takes three steps more
  dispatched : (k : ℕ) (a b : Tau) (us ws : List Scalar) (s s' : State) (more left rest : ℕ) (tag v : Value) → list_any (λ u. same_type u (arrow a b)) whole.arrows ≡ true → types k ≡ Some (arrow a b)
      → is_machine types a us ≡ true → is_machine types b ws ≡ true → give (cell U32) tag ≡ ok (NumberScalar k ∷ []) → give (lay_of a) v ≡ ok us
      → Called q (function_name k) (typed (lay_of a) us ∷ []) s s' (lay_of b) ws more left rest
      → Called q (dispatch_name (arrow_number whole.arrows (arrow a b))) (tag ∷ v ∷ []) s s' (lay_of b) ws (more + 3) left rest
  dispatched k a b us ws s s' more left rest tag v listed t ma mb gt gv call =
      record {
        steps = suc (suc (suc call.steps));
        within = let w = call.within in omega (arith, w);
        answers =
            dispatch_answers q whole p.entries j k (arrow a b) us ws (as_run s) (as_run s') call.steps tag v (few k (arrow a b) t) (sized a us (is_declared.0) ma) (sized b ws (is_declared.1) mb)
            (machine_readable whole.numbered ss types few a us ma) (machine_readable whole.numbered ss types few b ws mb) gt gv call.answers found_so among;
      }
    where
      j : ℕ
      j = arrow_number whole.arrows (arrow a b)

      found_so : find (dispatch_name j) q.program.functions ≡ Some (dispatch_of whole p.entries j (arrow a b))
      found_so = dispatch_found (arrow a b) listed

      e : (e : Entry) × (slice_get p.entries k ≡ Some e) × (e.ty ≡ arrow a b)
      e = entry_is (slice_get p.entries k) (arrow a b) t

      among : Contains (tags_from 0 (arrow a b) p.entries) k
      among = tagged 0 k k (arrow a b) p.entries e.0 (omega arith) e.1 (subst (λ z. same_type z (arrow a b) ≡ true) (sym e.2) (same_self (arrow a b)))

      is_declared : IsDeclared whole.numbered ss a × IsDeclared whole.numbered ss b
      is_declared =
          let lt = slice_get_within p.entries k e.0 e.1 in
          let x = there p.list k (omega (arith, lt, is.instances.as_many)) in
          let r = is.ready k x.0 e.0 x.1 e.1 in
          (subst (λ z. IsDeclared whole.numbered ss (taken_by z)) e.2 r.argument, subst (λ z. IsDeclared whole.numbered ss (given_by z)) e.2 r.result)

  -- so calls of function values do what calls of instances do
  values_run : (calls : updates.Calls) → CallsRun p whole q calls → ValuesRun p whole q calls
  values_run calls callees k a b us ws s s' left rest tag v listed t h ma mb gt gv =
      dispatched k a b us ws s s' 24 left rest tag v listed t ma mb gt gv (callees k a b us ws s s' left rest (typed (lay_of a) us) t h ma mb (given_typed (lay_of a) us))

  -- ---- calls that are nested

  -- calls that go into the bodies of instances, where calls in them are these
  abbrev inside : updates.Calls → updates.Calls
  inside calls k us s left = entered p calls (slice_get p.list k) (slice_get p.entries k) us s left

  -- what is proved of calls
  record AllRun (calls : updates.Calls) : Type 0 where
    callees : CallsRun p whole q calls
    sources : SourceRuns p whole q calls

  calls_inside : (calls : updates.Calls) → AllRun calls → CallsRun p whole q (inside calls)
  calls_inside calls all k a b us ws s s' left rest v t h ma mb g =
      let e = entry_is (slice_get p.entries k) (arrow a b) t in
      let lt = slice_get_within p.entries k e.0 e.1 in
      let x = there p.list k (omega (arith, lt, is.instances.as_many)) in
      let takes : taken_by e.0.ty ≡ a = ap taken_by e.2 in
      subst (λ z. Called q (function_name k) (v ∷ []) s s' (lay_of (given_by z)) ws 24 left rest) e.2
      (by_body k x.0 e.0 x.1 e.1 calls all.callees (values_run calls all.callees) all.sources us ws s s' left rest (subst (λ z. is_machine types z us ≡ true) (sym takes) ma) e.0.body v refl
      (subst (λ z. give (lay_of z) v ≡ ok us) (sym takes) g)
      (entered_is calls k x.0 e.0 us ws s s' left rest x.1 e.1 h))

  -- one that is called is of the source
  of_source : (f : Fun) (o : Outcome) (ws : List Scalar) (s : State) (rest : ℕ) → cond (updates.is_of_source f) o no_result ≡ gives ws s rest → (i : ℕ) × (f ≡ User i) × (o ≡ gives ws s rest)
  of_source (User i) o ws s rest h = (i, refl, h)
  of_source (OfLib lib) o ws s rest h = absurd (cc)

  sources_inside : (calls : updates.Calls) → AllRun calls → SourceRuns p whole q (inside calls)
  sources_inside calls all k a b us ws s s' left rest tag v listed t h ma gt gv =
      record {
        called = dispatched k a b us ws s s' 1 left rest tag v listed t ma formed gt gv (subst (λ z. Called q (function_name k) (typed (lay_of a) us ∷ []) s s' (lay_of z) ws 1 left rest) gives_so ended.called);
        machine = formed;
      }
    where
      e : (e : Entry) × (slice_get p.entries k ≡ Some e) × (e.ty ≡ arrow a b)
      e = entry_is (slice_get p.entries k) (arrow a b) t

      x : (x : Instance) × (slice_get p.list k ≡ Some x)
      x = let lt = slice_get_within p.entries k e.0 e.1 in there p.list k (omega (arith, lt, is.instances.as_many))

      takes_so : taken_by e.0.ty ≡ a
      takes_so = ap taken_by e.2

      gives_so : given_by e.0.ty ≡ b
      gives_so = ap given_by e.2

      source : (i : ℕ) × (x.0.fun ≡ User i) × (inside calls k us s left ≡ gives ws s' rest)
      source = of_source x.0.fun (inside calls k us s left) ws s' rest (sym (ap (λ z. updates.calls_source p (inside calls) z k us s left) x.1) ∙ h)

      ended : SourceEnded k x.0 e.0 x.1 e.1 calls all.callees (values_run calls all.callees) all.sources us ws s s' left rest (subst (λ z. is_machine types z us ≡ true) (sym takes_so) ma) (typed (lay_of a) us)
      ended =
          source_ended k x.0 e.0 x.1 e.1 calls all.callees (values_run calls all.callees) all.sources us ws s s' left rest (subst (λ z. is_machine types z us ≡ true) (sym takes_so) ma) source.0 e.0.body (typed (lay_of a) us) source.1 refl
          (subst (λ z. give (lay_of z) (typed (lay_of a) us) ≡ ok us) (sym takes_so) (given_typed (lay_of a) us))
          (entered_is calls k x.0 e.0 us ws s s' left rest x.1 e.1 source.2)

      formed : is_machine types b ws ≡ true
      formed = subst (λ z. is_machine types z ws ≡ true) gives_so ended.is_fine

  -- calls that give nothing
  no_calls : (calls : updates.Calls) → ((k : ℕ) (us : List Scalar) (s : State) (left : ℕ) → calls k us s left ≡ no_result) → AllRun calls
  no_calls calls none = record {
    callees = λ k a b us ws s s' left rest v t h ma mb g. absurd (let n = none k us s left in cc);
    sources = λ k a b us ws s s' left rest tag v listed t h ma gt gv. absurd (nothing (slice_get p.list k) k us s left ws s' rest h);
  }
    where
      nothing : (x : Option Instance) (k : ℕ) (us : List Scalar) (s : State) (left : ℕ) (ws : List Scalar) (s' : State) (rest : ℕ) → updates.calls_source p calls x k us s left ≡ gives ws s' rest → ⊥
      nothing None k us s left ws s' rest h = absurd (cc)
      nothing (Some x) k us s left ws s' rest h = let o = of_source x.fun (calls k us s left) ws s' rest h in let n = none k us s left in let m = o.2 in absurd (cc)

  -- calls that are nested so deep
  all_run : (depth : ℕ) → AllRun (calls_within p depth)
  unfolding calls_within
  all_run zero = no_calls (calls_within p zero) (λ k us s left. refl)
  all_run (suc depth) = record { callees = calls_inside (calls_within p depth) (all_run depth); sources = sources_inside (calls_within p depth) (all_run depth) }

  -- ---- runs

  -- a result and its cost
  record Ends (n : ℕ) (o : Outcome) (r : Result) : Type 0 where
    left : ℕ
    gave : o ≡ gives r.value r.state left
    cost : r.cost ≡ n - left

  -- a result is given, at the cost of what is spent
  ends_is : (n : ℕ) (o : Outcome) (r : Result) → result_of n o ≡ Some r → Ends n o r
  ends_is n no_result r h = absurd (cc)
  ends_is n (gives us s left) r h =
      let same : record { value = us; state = s; cost = n - left } ≡ r = cc in
      subst (Ends n (gives us s left)) same (record { left = left; gave = refl; cost = refl })

  -- what an instance that is run gives, within a depth that is enough
  record Given (n k : ℕ) (us : List Scalar) (m : Stored) (r : Result) : Type 0 where
    left : ℕ
    cost : r.cost ≡ n - left
    machine : is_machine types (argument_of (types_of p k)) us ≡ true
    gave : calls_within p (suc n) k us (starting m) n ≡ gives r.value r.state left

  is_given : (n k : ℕ) (us : List Scalar) (m : Stored) (r : Result) → updated p n k us m ≡ Some r → Given n k us m r
  unfolding updated
  is_given n k us m r h =
      let ends = ends_is n (outcome p n k us m) r h in
      let runs_so = where_is (is_machine types (argument_of (types_of p k)) us) (calls_within p (suc n) k us (starting m) n) r.value r.state ends.left ends.gave in
      record { left = ends.left; cost = ends.cost; machine = runs_so.0; gave = runs_so.1 }

  module _ (n k : ℕ) (x : Instance) (e : Entry) (us : List Scalar) (m : Stored) (r : Result) (listed : slice_get p.list k ≡ Some x) (entry : slice_get p.entries k ≡ Some e)
      (h : updated p n k us m ≡ Some r) where
    given_here : Given n k us m r
    given_here = is_given n k us m r h

    machine_here : is_machine types (taken_by e.ty) us ≡ true
    machine_here = subst (λ z. is_machine types (argument_of (option_map (λ (e : Entry). e.ty) z)) us ≡ true) entry given_here.machine

    entered_here : entered_by p (calls_within p n) x e.ty e.body us (starting m) n ≡ gives r.value r.state given_here.left
    unfolding calls_within
    entered_here = entered_is (calls_within p n) k x e us r.value (starting m) r.state n given_here.left listed entry given_here.gave

    all_here : AllRun (calls_within p n)
    all_here = all_run n

    -- a run of an instance whose statements end
    ended_run : (more : ℕ) → more < 32 → Ended k x e listed entry us r.value (starting m) r.state more n given_here.left
        → (left : ℕ) × (crun q (32 * r.cost + 32) (function_name k) us m ≡ done r.value (as_run r.state) left)
    ended_run more few_more ran = (
      32 * r.cost + 32 - suc ran.steps,
      body_runs q whole.numbered (function_name k) (c_type whole.numbered (taken_by e.ty)) (c_type whole.numbered (given_by e.ty)) ran.low us r.value (as_run (starting m)) (as_run r.state) ran.steps
          (found_bodied k x e listed entry ran.low ran.is_low) ran.ran (32 * r.cost + 32) (32 * r.cost + 32 - suc ran.steps)
          (sized (taken_by e.ty) us (ready k x e listed entry).argument machine_here) (omega (arith, ran.within, given_here.cost, few_more)),
    )

    -- one with a body
    body_simulated : (core : Tree Note) → e.body ≡ Some core → (left : ℕ) × (crun q (32 * r.cost + 32) (function_name k) us m ≡ done r.value (as_run r.state) left)
    body_simulated core b =
        ended_run 0 (omega arith)
        (core_ended k x e listed entry (calls_within p n) all_here.callees (values_run (calls_within p n) all_here.callees) all_here.sources us r.value (starting m) r.state n given_here.left machine_here core b
        (sym (ap (λ z. entered_by p (calls_within p n) x e.ty z us (starting m) n) b) ∙ entered_here))

    -- one of the library
    library_simulated : (lib : Lib) → x.fun ≡ OfLib lib → e.body ≡ None → (left : ℕ) × (crun q (32 * r.cost + 32) (function_name k) us m ≡ done r.value (as_run r.state) left)
    library_simulated lib f b = ended_run 16 (omega arith) (by_kind (is_iterator lib) refl outside)
      where
        outside : given_outside p (calls_within p n) (OfLib lib) x.types e.ty us (starting m) n ≡ gives r.value r.state given_here.left
        outside =
            sym (ap (λ z. given_outside p (calls_within p n) z x.types e.ty us (starting m) n) f)
            ∙ (sym (ap (λ z. entered_by p (calls_within p n) x e.ty z us (starting m) n) b) ∙ entered_here)

        by_kind : (c : Bool) → is_iterator lib ≡ c
            → cond c (updates.iterated p (calls_within p n) lib x.types (record { ty = taken_by e.ty; scalars = us }) (starting m) n) (library lib x.types us (starting m) n) ≡ gives r.value r.state given_here.left
            → Ended k x e listed entry us r.value (starting m) r.state 16 n given_here.left
        by_kind true i g =
            iterator_ended k x e listed entry (calls_within p n) all_here.callees (values_run (calls_within p n) all_here.callees) all_here.sources us r.value (starting m) r.state n given_here.left machine_here lib f b i g
        by_kind false i g =
            library_ended k x e listed entry (calls_within p n) all_here.callees (values_run (calls_within p n) all_here.callees) all_here.sources us r.value (starting m) r.state n given_here.left machine_here lib f b i g

  simulates : Simulates p q
  simulates n k x e core us m r listed entry b h = body_simulated n k x e us m r listed entry h core b

  pub simulates_library : SimulatesLibrary p q
  simulates_library n k x e lib us m r listed entry f b h = library_simulated n k x e us m r listed entry h lib f b

  -- the function of an arrow type, on the number of an instance
  pub simulates_dispatch : SimulatesDispatch p whole q
  simulates_dispatch n k e us m r listed entry h fine = (
    32 * r.cost + 32 - suc (suc (suc call.steps)),
    dispatch_runs q whole p.entries j k e.ty us r.value (as_run (starting m)) (as_run r.state) call.steps (typed (cell U32) (NumberScalar k ∷ [])) (typed (lay_of (taken_by e.ty)) us)
        (few k e.ty typed_so) (sized (taken_by e.ty) us at.2.argument machine) (sized (given_by e.ty) r.value at.2.result fine)
        (machine_readable whole.numbered ss types few (taken_by e.ty) us machine) (machine_readable whole.numbered ss types few (given_by e.ty) r.value fine)
        (given_typed (cell U32) (NumberScalar k ∷ [])) (given_typed (lay_of (taken_by e.ty)) us) call.answers found_so among (32 * r.cost + 32) (32 * r.cost + 32 - suc (suc (suc call.steps)))
        (omega (arith, call.within, gave_here.cost)),
  )
    where
      at : (x : Instance) × (slice_get p.list k ≡ Some x) × IsReady p whole ss links k x e
      at =
          let lt = slice_get_within p.entries k e entry in
          let x = there p.list k (omega (arith, lt, is.instances.as_many)) in
          (x.0, x.1, is.ready k x.0 e x.1 entry)

      gave_here : Given n k us m r
      gave_here = is_given n k us m r h

      machine : is_machine types (taken_by e.ty) us ≡ true
      machine = subst (λ z. is_machine types (argument_of (option_map (λ (e : Entry). e.ty) z)) us ≡ true) entry gave_here.machine

      derived_arrow : e.ty ≡ arrow (taken_by e.ty) (given_by e.ty)
      derived_arrow = let d = is.instances.each k at.0 e at.1 entry in arrow_is e.ty d.argument d.result d.is_arrow

      typed_so : types_of p k ≡ Some e.ty
      typed_so = ap (option_map (λ (e : Entry). e.ty)) entry

      call : Called q (function_name k) (typed (lay_of (taken_by e.ty)) us ∷ []) (starting m) r.state (lay_of (given_by e.ty)) r.value 24 n gave_here.left
      call =
          (all_run (suc n)).callees k (taken_by e.ty) (given_by e.ty) us r.value (starting m) r.state n gave_here.left (typed (lay_of (taken_by e.ty)) us) (typed_so ∙ ap Some derived_arrow) gave_here.gave machine fine
          (given_typed (lay_of (taken_by e.ty)) us)

      j : ℕ
      j = arrow_number whole.arrows e.ty

      found_so : find (dispatch_name j) q.program.functions ≡ Some (dispatch_of whole p.entries j e.ty)
      found_so = dispatch_found e.ty listed

      among : Contains (tags_from 0 e.ty p.entries) k
      among = tagged 0 k k e.ty p.entries e (omega arith) entry (same_self e.ty)

pub lowering_simulates : LoweringSimulates
lowering_simulates p whole ss links order is = simulates p whole ss links order is

pub library_is_simulated : LibraryIsSimulated
library_is_simulated p whole ss links order is = simulates_library p whole ss links order is

pub dispatch_is_simulated : DispatchIsSimulated
dispatch_is_simulated p whole ss links order is = simulates_dispatch p whole ss links order is
