-- Operators, conversions, and calls of functions that are named and of function values.
use Rattle.std.proofs.Common.{◌≡◌, ℕ, zero, suc, ◌+◌, ◌*◌, ◌%◌, ◌^◌, ◌<◌, ◌≤◌, nat_eq, nat_lt, Bool, true, false, not, cond, if◌then◌else◌, IsTrue, Option, Some, None, option_map, unwrap_or, List, [], ◌∷◌, ◌++◌, length, length-append, get_or, slice_get, replicate, refl, sym, ap, ◌∙◌, subst, arith, ◌⊎◌, inl, inr}
use Rattle.std.proofs.Math.Nat.{mod-eq_of_lt}
use Rattle.std.specs.List.{list_any}
use Rattle.std.proofs.lemmas.List.{drop_all}
use Rattle.std.proofs.lemmas.Option.{slice_get_cases, slice_get_within}
use Rattle.cg_base.specs.declared.fun.Fun.{Fun}
use Rattle.cg_base.specs.declared.fun.Fun.TheVariants.{User, Lib as OfLib}
use Rattle.cg_base.specs.declared.kind.Word.{Word}
use Rattle.cg_base.specs.declared.kind.Word.TheVariants.{U32}
use Rattle.cg_base.specs.Same.{same_type}
use Rattle.cg_base.specs.Types.{Tau, word, bool, arrow}
use Rattle.cg_base.specs.Words.{bits}
use Rattle.cg_core.specs.declared.op.Op.{Op}
use Rattle.cg_core.specs.declared.op.Op.TheVariants as ops
use Rattle.cg_core.specs.Kernels.{Function}
use Rattle.cg_core.specs.Terms.{Arg, Note, Tree, term, op, cast, app, fun, none, more}
use Rattle.cg_cgen_def.specs.Code.{op_code, takes_two, word_given}
use Rattle.cg_cgen.specs.Meanings.{AreFor, Changes as Computed, IsApart, IsNumber, IsPart, IsSecond, number_given, set as with_number}
use Rattle.cg_cgen.proofs.Numbers.{bit_fits}
use Rattle.cg_cgen.proofs.Operating.{operators_compute}
use Rattle.cg_cgen.proofs.Paths.{number_read}
use Rattle.cg_cmachine_def.specs.Layouts.{Layout, cell, size, spot}
use Rattle.cg_cmachine_def.specs.Operands.{Value, typed as of_layout, Frame, give}
use Rattle.cg_cmachine_def.specs.Operations.{converted}
use Rattle.cg_cmachine_def.specs.Outcomes.{State as RunState, done, ok, on}
use Rattle.cg_cmachine_def.specs.Runs.{Linked, Calls as Runner, goes, calls_in, run_block, run_stmt}
use Rattle.cg_cmachine_def.specs.Targets.{spliced, with_scalars}
use Rattle.cg_ctree.specs.declared.tree.COpnd.{COpnd}
use Rattle.cg_ctree.specs.declared.tree.COpnd.TheVariants.{Number, Path}
use Rattle.cg_ctree.specs.declared.tree.CPath.{CPath}
use Rattle.cg_ctree.specs.declared.tree.CRhs.TheVariants.{Conv}
use Rattle.cg_ctree.specs.declared.tree.CTy.{CTy}
use Rattle.cg_ctree.specs.declared.tree.CTy.TheVariants as ty
use Rattle.cg_heap.specs.Reps.{first_number}
use Rattle.cg_heap.specs.Stored.{Stored}
use Rattle.cg_ctree.specs.Trees.{Stmt, to_block}
use Rattle.cg_heap.specs.declared.cell.Scalar.{Scalar}
use Rattle.cg_heap.specs.declared.cell.Scalar.TheVariants.{Unset, Word as NumberScalar}
use Rattle.cg_inst.specs.Lists.{same_instance}
use Rattle.cg_inst.proofs.SameInstance.{instance_is}
use Rattle.cg_inst.proofs.SameType.{same_is}
use Rattle.cg_typing.specs.Functions.{arg_types, fun_type}
use Rattle.cg_kinds.specs.Kinds.{is_word, subst as type_with}
use Rattle.cg_eval_operations.specs.Operators.{on_one, on_two, width}
use Rattle.cg_typing.specs.Library.{library_type}
use Rattle.cg_typing.specs.Instances.{AreInstances, Entry, Instance, as_arguments}
use Rattle.cg_typing.specs.Operators.{arithmetic, equality, gives as type_given, sort_of, takes}
use Rattle.cg_typing.specs.Parts.{is_bool, widens}
use Rattle.cg_typing.specs.Rules.{type_at}
use Rattle.cg_update.specs.Calls.{Program, types_of}
use Rattle.cg_update.specs.Machines.{is_machine, is_type}
use Rattle.cg_update.specs.Outcomes.{State, gives, bind}
use Rattle.cg_update.specs.Updates.{Calls, Variables, place_of, update, update_shape}
use Rattle.cg_lower_def.specs.CTypes.{c_type, IsDeclared}
use Rattle.cg_cgen_def.specs.Bodies.{Low, leaf}
use Rattle.cg_cgen_def.specs.Names.{dispatch_name, function_name}
use Rattle.cg_lower_def.specs.Lowered.{Whole, arrow_number, call_operands, callee, calling, joined, low_cast, low_operator, operating, place, set, word_of, low, low_shape}
use Rattle.cg_cgen_def.specs.Places.{Place, number, held, argument, local, local_name, operand, path}
use Rattle.cg_lower_def.specs.Simulated.{as_run}
use Rattle.cg_lower_def.specs.Typed.{IsTyped}
use Rattle.cg_lower_laws.proofs.Frames.{Fresh, fresh_back, fresh_front, fresh_later, IsNumeral, Is, set_is, changes_none, changes_set, Keeps, keeps_later, outside_argument, outside_below, Under, under_more}
use Rattle.cg_lower_laws.proofs.Inversions.{Bound, bind_is, on_is, same_rest, same_scalars, same_state}
use Rattle.cg_lower_laws.proofs.Layouts.{machine_slots, size_slots}
use Rattle.cg_lower_laws.proofs.Nodes.{Sim, node_is, leaf_node, more_left, numeral, recast, small_number}
use Rattle.cg_lower_laws.proofs.Operands.{Reads, below_is, given_typed, machine_readable, place_is as place_given, reads, write_whole}
use Rattle.cg_lower_laws.proofs.Runs.{Answers, Runs, runs_call}
use Rattle.cg_lower_laws.proofs.Terms.{lay_c, AreKept, kept_later, next_local, Ran, assign_ran, set_ran, Went, went_joined, went_leaf}
use Rattle.cg_typing.proofs.Lists.{types_back as same_types, scalar_taken}
use Rattle.cg_base.proofs.Options.{later}

-- what a call does, where `left` of the budget was there and `rest` is left of it: so many steps beside 32 for each 1 that is spent
pub record Called (q : Linked) (f : List ℕ) (vs : List Value) (s s' : State) (result : Layout) (ws : List Scalar) (more left rest : ℕ) : Type 0 where
  pub steps : ℕ
  pub within : steps + 32 * rest ≤ 32 * left + more
  pub answers : Answers q f vs (as_run s) steps (of_layout result ws) (as_run s')

-- the C functions of instances do what calls of these do
abbrev pub CallsRun : Program → Whole → Linked → Calls → Type 0
CallsRun p whole q calls =
    (k : ℕ) (a b : Tau) (us ws : List Scalar) (s s' : State) (left rest : ℕ) (v : Value) → types_of p k ≡ Some (arrow a b) → calls k us s left ≡ gives ws s' rest
    → is_machine (types_of p) a us ≡ true → is_machine (types_of p) b ws ≡ true → give (lay_c q (c_type whole.numbered a)) v ≡ ok us
    → Called q (function_name k) (v ∷ []) s s' (lay_c q (c_type whole.numbered b)) ws 24 left rest

-- so does the C function of an arrow type that is listed, with the number of an instance of just this type
abbrev pub ValuesRun : Program → Whole → Linked → Calls → Type 0
ValuesRun p whole q calls =
    (k : ℕ) (a b : Tau) (us ws : List Scalar) (s s' : State) (left rest : ℕ) (tag v : Value) → list_any (λ u. same_type u (arrow a b)) whole.arrows ≡ true
    → types_of p k ≡ Some (arrow a b) → calls k us s left ≡ gives ws s' rest → is_machine (types_of p) a us ≡ true → is_machine (types_of p) b ws ≡ true
    → give (cell U32) tag ≡ ok (NumberScalar k ∷ []) → give (lay_c q (c_type whole.numbered a)) v ≡ ok us
    → Called q (dispatch_name (arrow_number whole.arrows (arrow a b))) (tag ∷ v ∷ []) s s' (lay_c q (c_type whole.numbered b)) ws 27 left rest

-- ---- words

-- what widens is a word, to another
record Widens (t u : Tau) : Type 0 where
  from : Word
  to : Word
  is_from : t ≡ word from
  is_to : u ≡ word to

-- a type that widens
widening : (t u : Tau) → IsTrue (widens t u) → Widens t u
widening (word v) (word w) h = record { from = v; to = w; is_from = refl; is_to = refl }
widening t u h = absurd (cc)

-- a property of words and of truth values
by_scalar : (P : Tau → Type 0) → ((w : Word) → P (word w)) → P bool → (t : Tau) → IsTrue (takes equality t) → P t
by_scalar P f b (word w) h = f w
by_scalar P f b bool h = b
by_scalar P f b t h = absurd (cc)

-- how many bits a word has
width_is : (t : Tau) → IsTrue (is_word t) → width t ≡ bits (word_of t)
width_is (word w) h = refl
width_is t h = absurd (cc)

-- the type of truth values
bool_is : (t : Tau) → IsTrue (is_bool t) → t ≡ bool
bool_is bool h = refl
bool_is t h = absurd (cc)

-- what an operator on two operands gives is by their word
two_given : (o : Op) (t : Tau) (a b : ℕ) → takes_two o ≡ true → IsTrue (takes (sort_of o) t) → on_two o (width t) a b ≡ number_given o (word_of t) a b
two_given ops.Complement t a b e h = absurd (cc)
two_given ops.Not t a b e h = absurd (cc)
two_given ops.Eq t a b e h = refl
two_given ops.Ne t a b e h = refl
two_given ops.Both t a b e h = refl
two_given ops.Either t a b e h = refl
two_given o t a b e h = ap (λ n. on_two o n a b) (width_is t h)

-- so is what one on one operand gives
one_given : (o : Op) (t : Tau) (a b : ℕ) → takes_two o ≡ false → IsTrue (takes (sort_of o) t) → on_one o (width t) a ≡ number_given o (word_of t) a b
one_given ops.Complement t a b e h = ap (λ n. on_one ops.Complement n a) (width_is t h)
one_given ops.Not t a b e h = refl
one_given o t a b e h = absurd (cc)

-- an operator on one operand gives 0 of two
two_zero : (o : Op) (n a b : ℕ) → takes_two o ≡ false → on_two o n a b ≡ 0
two_zero ops.Complement n a b e = refl
two_zero ops.Not n a b e = refl
two_zero o n a b e = absurd (cc)

-- an operator on two operands gives 0 of one
one_zero : (o : Op) (n a : ℕ) → takes_two o ≡ true → on_one o n a ≡ 0
one_zero ops.Complement n a e = absurd (cc)
one_zero ops.Not n a e = absurd (cc)
one_zero o n a e = refl

-- of one or the other, where neither makes calls or has loops
one_calls : (t : Bool) (xs ys : List Stmt) (q : Linked) (c d : Runner) (m n : ℕ) (l : Layout) (fr : Frame) (s : RunState) (b : ℕ)
    → run_block q c m l (to_block xs) fr s b ≡ run_block q d n l (to_block xs) fr s b → run_block q c m l (to_block ys) fr s b ≡ run_block q d n l (to_block ys) fr s b
    → run_block q c m l (to_block (if t then xs else ys)) fr s b ≡ run_block q d n l (to_block (if t then xs else ys)) fr s b
one_calls true xs ys q c d m n l fr s b e f = e
one_calls false xs ys q c d m n l fr s b e f = f

-- the C of an operator makes no calls and has no loops
no_calls : (o : Op) (w : Word) (to : CPath) (x y : COpnd) (q : Linked) (c d : Runner) (m n : ℕ) (l : Layout) (fr : Frame) (s : RunState) (b : ℕ)
    → run_block q c m l (to_block (op_code o w to x y)) fr s b ≡ run_block q d n l (to_block (op_code o w to x y)) fr s b
unfolding run_block run_stmt to_block
no_calls ops.Complement w to x y q c d m n l fr s b = refl
no_calls ops.Div w to x (Number k) q c d m n l fr s b = one_calls (nat_eq k 0) _ _ q c d m n l fr s b refl refl
no_calls ops.Rem w to x (Number k) q c d m n l fr s b = one_calls (nat_eq k 0) _ _ q c d m n l fr s b refl refl
no_calls ops.Shl w to x (Number k) q c d m n l fr s b = one_calls (nat_lt k (bits w)) _ _ q c d m n l fr s b refl refl
no_calls ops.Shr w to x (Number k) q c d m n l fr s b = one_calls (nat_lt k (bits w)) _ _ q c d m n l fr s b refl refl
no_calls ops.Div w to x (Path k) q c d m n l fr s b = refl
no_calls ops.Rem w to x (Path k) q c d m n l fr s b = refl
no_calls ops.Shl w to x (Path k) q c d m n l fr s b = refl
no_calls ops.Shr w to x (Path k) q c d m n l fr s b = refl
no_calls o w to x y q c d m n l fr s b = refl

-- a number is one scalar
pub one_slot : (w : Word) (us : List Scalar) (n : ℕ) → us ≡ NumberScalar n ∷ [] → length us ≡ size (cell w)
unfolding size
one_slot w us n e = ap length e

-- ---- the place of an instance

-- the instance stands there
place_is : (x : Instance) (ys : List Instance) (k : ℕ) → place_of x ys ≡ Some k → slice_get ys k ≡ Some x
unfolding place_of
place_is x [] k e = absurd (cc)
place_is x (y ∷ ys) k e = by_test (same_instance x y) refl e (place_is x ys)
  where
    by_test : (b : Bool) → same_instance x y ≡ b → cond b (Some zero) (option_map suc (place_of x ys)) ≡ Some k → ((j : ℕ) → place_of x ys ≡ Some j → slice_get ys j ≡ Some x)
        → slice_get (y ∷ ys) k ≡ Some x
    by_test true q h rest = let first : zero ≡ k = cc in subst (λ i. slice_get (y ∷ ys) i ≡ Some x) first (ap Some (sym (instance_is x y q)))
    by_test false q h rest = let j = later (place_of x ys) k h in subst (λ i. slice_get (y ∷ ys) i ≡ Some x) j.2 (rest j.0 j.1)

-- the type of a function is by the types of its arguments alone
same_fun_type : (functions : List Function) (f : Fun) (args : List Arg) → fun_type functions f (as_arguments (arg_types args)) ≡ fun_type functions f args
same_fun_type functions (User i) args = ap (λ ts. option_map (λ g. type_with ts g.ty.ty) (slice_get functions i)) (same_types (arg_types args))
same_fun_type functions (OfLib l) args = ap (λ ts. Some (library_type l ts)) (same_types (arg_types args))

module _ (p : Program) (whole : Whole) (q : Linked) (l : Layout) (calls : Calls) (few : (k : ℕ) (t : Tau) → types_of p k ≡ Some t → k < 2 ^ 32)
    (same_list : whole.list ≡ p.list) (instances : AreInstances p.functions p.list p.entries) where
  abbrev RanHere : ℕ → Frame → State → Low → Tau → List Scalar → State → ℕ → ℕ → Type 0
  RanHere k fr s a t us s' left rest = Ran q (types_of p) whole.numbered l k fr s a t us s' left rest

  -- a place that keeps a number of a word
  number_kept : (m : Stored) (fr : Frame) (v : Place) (w : Word) (us : List Scalar) (n : ℕ) → Keeps fr v (cell w) us → us ≡ NumberScalar n ∷ [] → n < 2 ^ bits w → IsNumber q m fr w (operand v) n
  number_kept m fr v w us n keeps is small =
      let r = reads whole.numbered q.program.structs m fr v (cell w) us keeps (n, is, small) in
      record { value = r.value; read = r.read; given = r.given ∙ ap ok is }

  -- ---- functions that are mentioned

  -- a function that is mentioned: its place as lowering has it, and its type
  record Mentioned (f : Fun) (args : List Arg) (t : Tau) (k : ℕ) : Type 0 where
    same : place whole f args ≡ k
    small : k < 2 ^ 32
    argument : Tau
    result : Tau
    is_arrow : t ≡ arrow argument result
    typed : types_of p k ≡ Some t

  -- its place is in the list, and so are its type and its body
  mentioned : (f : Fun) (args : List Arg) (t : Tau) (k : ℕ) → fun_type p.functions f args ≡ Some t → place_of (record { fun = f; types = arg_types args }) p.list ≡ Some k → Mentioned f args t k
  mentioned f args t k typed found = by_entry (slice_get_cases p.entries k).1
    where
      instance : Instance
      instance = record { fun = f; types = arg_types args }

      there : slice_get p.list k ≡ Some instance
      there = place_is instance p.list k found

      by_entry : ((e : Entry) × (k < length p.entries) × (slice_get p.entries k ≡ Some e) × (get_or p.entries k e ≡ e)) ⊎ ((length p.entries ≤ k) × (slice_get p.entries k ≡ None)) → Mentioned f args t k
      by_entry (inl h) =
          let entry = instances.each k instance h.0 there h.2 in
          let type_is : Some h.0.ty ≡ Some t = sym entry.is ∙ same_fun_type p.functions f args ∙ typed in
          let ty_is : h.0.ty ≡ t = cc in
          record {
            same = ap (λ list. unwrap_or (place_of instance list) 0) same_list ∙ ap (λ o. unwrap_or o 0) found;
            small = few k h.0.ty (ap (option_map (λ e. e.ty)) h.2);
            argument = entry.argument;
            result = entry.result;
            is_arrow = sym ty_is ∙ entry.is_arrow;
            typed = ap (option_map (λ e. e.ty)) h.2 ∙ ap Some ty_is;
          }
      by_entry (inr h) = let within = slice_get_within p.list k instance there in let many = instances.as_many in absurd (omega (arith, within, many, h.0))

  -- a function that is mentioned is its place in the list
  pub sim_fun : (note : Note) (f : Fun) (args : List Arg) → Sim p whole q l calls (term note (fun f args))
  unfolding update_shape low low_shape
  sim_fun note f args k g os vs fr s s' left rest us typed kept fresh bound e =
      let n = node_is p calls note (fun f args) vs s left us s' rest e in
      let at = on_is (place_of (record { fun = f; types = arg_types args }) p.list) (λ i. gives (NumberScalar i ∷ []) s n.paid) us s' rest n.given in
      let m = mentioned f args note.ty at.0 typed.1 at.1 in
      leaf_node p whole q l calls k fr s s' (number (place whole f args)) note.ty (NumberScalar at.0 ∷ []) us left n.paid rest n.is at.2 n.machine
      (subst (λ i. Keeps fr (number i) (lay_c q (c_type whole.numbered note.ty)) (NumberScalar at.0 ∷ [])) (sym m.same)
      (numeral p whole q l calls fr at.0 note.ty (arrow m.argument m.result) U32 m.is_arrow refl m.small)) tt

  -- ---- conversions

  -- the locals of what is converted are fresh
  cast_fresh : (fr : Frame) (k : ℕ) (w : Word) (x : Low) (v : Place) → Fresh (lay_c q) fr k (low_cast k w x v).locals → Fresh (lay_c q) fr k x.locals
  cast_fresh fr k w x (number n) f = f
  cast_fresh fr k w x (held b steps) f = fresh_front (lay_c q) fr k x.locals (ty.Word w ∷ []) f

  -- they are as few
  cast_few : (k n : ℕ) (w : Word) (x : Low) (v : Place) → k + length (low_cast k w x v).locals ≤ n → k + length x.locals ≤ n
  cast_few k n w x (number i) h = h
  cast_few k n w x (held b steps) h = omega (arith, h, length-append x.locals (ty.Word w ∷ []))

  -- a conversion, by the place of what is converted
  cast_ran : (k : ℕ) (fr : Frame) (s s' : State) (x : Low) (v w : Word) (us : List Scalar) (left rest : ℕ) (at : Place) → x.value ≡ at → RanHere k fr s x (word v) us s' left rest
      → is_machine (types_of p) (word w) us ≡ true → Fresh (lay_c q) fr k (low_cast k w x at).locals → k + length (low_cast k w x at).locals ≤ 2 ^ 64
      → RanHere k fr s (low_cast k w x at) (word w) us s' (suc left) rest
  unfolding is_machine
  cast_ran k fr s s' x v w us left rest (number n) e r machine fresh bound =
      let i : IsNumeral n (cell v) us = subst (λ z. Keeps r.frame z (cell v) us) e r.keeps in
      let j : IsNumeral n (cell w) us = record {
        word = w;
        laid = refl;
        is = i.is;
        small = small_number p whole q l calls (word w) w n refl (subst (λ z. is_machine (types_of p) (word w) z ≡ true) i.is machine);
      } in record {
        steps = r.steps;
        frame = r.frame;
        within = omega (arith, r.within);
        went = r.went;
        keeps = subst (λ z. Keeps r.frame z (cell w) us) (sym e) j;
        under = r.under;
        machine = machine;
      }
  cast_ran k fr s s' x v w us left rest (held b steps) e r machine fresh bound = by_number (below_is (2 ^ bits v) us r.machine) (below_is (2 ^ bits w) us machine)
    where
      by_number : (i : (n : ℕ) × (us ≡ NumberScalar n ∷ []) × (n < 2 ^ bits v)) (j : (n : ℕ) × (us ≡ NumberScalar n ∷ []) × (n < 2 ^ bits w)) → RanHere k fr s (low_cast k w x (held b steps)) (word w) us s' (suc left) rest
      by_number i j =
          let read = number_kept s'.store r.frame (held b steps) v us i.0 (subst (λ z. Keeps r.frame z (cell v) us) e r.keeps) i.1 i.2 in
          let to = k + length x.locals in
          let is = (next_local q l k to fr r.frame (as_run s) (as_run s') x (ty.Word w) [] r.steps refl bound fresh r.went).0 in
          let same : i.0 ≡ j.0 = (let h : NumberScalar i.0 ∷ [] ≡ NumberScalar j.0 ∷ [] = sym i.1 ∙ j.1 in cc) in
          let whole_number : i.0 % 2 ^ bits w ≡ i.0 = mod-eq_of_lt (subst (λ n. n < 2 ^ bits w) (sym same) j.2) in
          assign_ran q (types_of p) whole.numbered l k to fr r.frame s s' x (word w) us (λ to. Conv w (operand (held b steps))) (converted w i.0) r.steps (suc left) rest
          (replicate (size (cell w)) Unset) refl r.went is refl (ap (λ z. on z (λ n. ok (converted w n))) (number_read read))
          (given_typed (cell w) (NumberScalar (i.0 % 2 ^ bits w) ∷ []) ∙ ap (λ n. ok (NumberScalar n ∷ [])) whole_number ∙ ap ok (sym i.1))
          (one_slot w us i.0 i.1) machine (omega (arith, r.within))

  -- a word, where it is one of a word that it widens
  pub sim_cast : (note : Note) (e : Tree Note) → Sim p whole q l calls e → Sim p whole q l calls (term note (cast e))
  unfolding update_shape low low_shape
  sim_cast note e he k g os vs fr s s' left rest us typed kept fresh bound h =
      let n = node_is p calls note (cast e) vs s left us s' rest h in
      let w = widening (type_at e) note.ty typed.1.1 in
      let x = low whole k os e in
      let r = he k g os vs fr s s' n.paid rest us typed.1.0 kept (cast_fresh fr k (word_of note.ty) x x.value fresh) (cast_few k (2 ^ 64) (word_of note.ty) x x.value bound) n.given in
      subst (λ i. RanHere k fr s (low_cast k (word_of note.ty) x x.value) note.ty us s' i rest) (sym n.is)
      (subst
      (λ t. is_machine (types_of p) t us ≡ true → Fresh (lay_c q) fr k (low_cast k (word_of t) x x.value).locals → k + length (low_cast k (word_of t) x x.value).locals ≤ 2 ^ 64
      → RanHere k fr s (low_cast k (word_of t) x x.value) t us s' (suc n.paid) rest)
      (sym w.is_to) (cast_ran k fr s s' x w.from w.to us n.paid rest x.value refl (subst (λ t. RanHere k fr s x t us s' n.paid rest) w.is_from r)) n.machine fresh bound)

  -- ---- calls

  -- a call of the function at a place, behind its argument
  app_ran : (k i : ℕ) (fr : Frame) (s t s' : State) (a b : Tau) (x : Low) (ws us : List Scalar) (left last rest : ℕ) → CallsRun p whole q calls
      → types_of p i ≡ Some (arrow a b) → calls i ws t last ≡ gives us s' rest → is_machine (types_of p) b us ≡ true → IsDeclared whole.numbered q.program.structs b
      → RanHere (k + 0) fr s x a ws t left last
      → Fresh (lay_c q) fr k (x.locals ++ c_type whole.numbered b ∷ []) → k + length (x.locals ++ c_type whole.numbered b ∷ []) ≤ 2 ^ 64
      → RanHere k fr s (set k (c_type whole.numbered b) (joined (leaf (number i)) x) (calling (function_name i) (x.value ∷ []))) b us s' (suc left) rest
  app_ran k i fr s t s' a b x ws us left last rest callees typed given machine declared r fresh bound =
      set_ran q (types_of p) whole.numbered l k to fr r.frame (with_scalars (local_name to) us r.frame) s s' (as_run t) (joined (leaf (number i)) x) b us
      (calling (function_name i) (x.value ∷ [])) (0 + r.steps) (suc call.steps) (suc left) rest refl went runs (changes_set to (suc to) to r.frame us (omega arith) (omega arith))
      (set_is r.frame (local_name to) lay_b (replicate (size lay_b) Unset) us is sized) machine (omega (arith, r.within, call.within))
    where
      to : ℕ
      to = k + length x.locals

      lay_b : Layout
      lay_b = lay_c q (c_type whole.numbered b)

      went : Went q l k fr (as_run s) (joined (leaf (number i)) x) (0 + r.steps) r.frame (as_run t)
      went = went_joined q l k (k + 0) fr fr r.frame (as_run s) (as_run s) (as_run t) (leaf (number i)) x 0 r.steps refl (went_leaf q l k fr (as_run s) (number i)) r.went

      is : Is r.frame (local_name to) lay_b (replicate (size lay_b) Unset)
      is = (next_local q l k to fr r.frame (as_run s) (as_run t) (joined (leaf (number i)) x) (c_type whole.numbered b) [] (0 + r.steps) refl bound fresh went).0

      sized : length us ≡ size lay_b
      sized = machine_slots (types_of p) b us machine ∙ sym (size_slots whole.numbered q.program.structs b declared)

      argument : Reads whole.numbered q.program.structs t.store r.frame (operand x.value) (lay_c q (c_type whole.numbered a)) ws
      argument = reads whole.numbered q.program.structs t.store r.frame x.value (lay_c q (c_type whole.numbered a)) ws r.keeps (machine_readable whole.numbered q.program.structs (types_of p) few a ws r.machine)

      call : Called q (function_name i) (argument.value ∷ []) t s' lay_b us 24 last rest
      call = callees i a b ws us t s' last rest argument.value typed given r.machine machine argument.given

      runs : Runs q l (calling (function_name i) (x.value ∷ []) to) r.frame (as_run t) (suc call.steps) (with_scalars (local_name to) us r.frame) (as_run s')
      runs =
          runs_call q l (path (local to) []) (function_name i) (operand x.value ∷ []) r.frame (as_run t) (as_run s') (argument.value ∷ []) (of_layout lay_b us) call.steps
          (record { frame = with_scalars (local_name to) us r.frame; store = s'.store })
          (ap (λ z. on z (λ v. ok (v ∷ []))) argument.read) call.answers
          (write_whole whole.numbered q.program.structs s'.store r.frame (local to) lay_b (replicate (size lay_b) Unset) us (of_layout lay_b us) is (given_typed lay_b us))

  -- what a function that is mentioned gives
  record Named (f : Fun) (args : List Arg) (t : Tau) (s : State) (left : ℕ) (ws : List Scalar) (s' : State) (rest : ℕ) : Type 0 where
    number_is : ws ≡ NumberScalar (place whole f args) ∷ []
    state_is : s' ≡ s
    fewer : rest < left
    typed : types_of p (place whole f args) ≡ Some t

  -- it gives its place, as lowering has it
  named : (at : Note) (f : Fun) (args : List Arg) (vs : Variables) (s s' : State) (left rest : ℕ) (ws : List Scalar) → fun_type p.functions f args ≡ Some at.ty
      → update p calls (term at (fun f args)) vs s left ≡ gives ws s' rest → Named f args at.ty s left ws s' rest
  unfolding update_shape
  named at f args vs s s' left rest ws typed e =
      let n = node_is p calls at (fun f args) vs s left ws s' rest e in
      let i = on_is (place_of (record { fun = f; types = arg_types args }) p.list) (λ i. gives (NumberScalar i ∷ []) s n.paid) ws s' rest n.given in
      let m = mentioned f args at.ty i.0 typed i.1 in
      record {
        number_is = sym (same_scalars (NumberScalar i.0 ∷ []) ws s s' n.paid rest i.2) ∙ ap (λ z. NumberScalar z ∷ []) (sym m.same);
        state_is = sym (same_state (NumberScalar i.0 ∷ []) ws s s' n.paid rest i.2);
        fewer = omega (arith, n.is, same_rest (NumberScalar i.0 ∷ []) ws s s' n.paid rest i.2);
        typed = subst (λ z. types_of p z ≡ Some at.ty) (sym m.same) m.typed;
      }

  -- such a call, of what its parts give
  app_named : (at : Note) (f : Fun) (args : List Arg) (x : Tree Note) (b : Tau) → CallsRun p whole q calls → Sim p whole q l calls x
      → (k : ℕ) (g : List CTy) (os : List Place) (vs : Variables) (fr : Frame) (s s' : State) (left rest : ℕ) (us : List Scalar)
      → fun_type p.functions f args ≡ Some at.ty → IsTyped p.functions whole.numbered q.program.structs g x → at.ty ≡ arrow (type_at x) b → IsDeclared whole.numbered q.program.structs b
      → AreKept q k fr g os vs → Fresh (lay_c q) fr k ((low whole (k + 0) os x).locals ++ c_type whole.numbered b ∷ [])
      → k + length ((low whole (k + 0) os x).locals ++ c_type whole.numbered b ∷ []) ≤ 2 ^ 64 → is_machine (types_of p) b us ≡ true
      → bind (update p calls (term at (fun f args)) vs s left) (λ ws t rest. bind (update p calls x vs t rest) (λ vs t last. calls (first_number ws) vs t last)) ≡ gives us s' rest
      → RanHere k fr s (set k (c_type whole.numbered b) (joined (leaf (number (place whole f args))) (low whole (k + 0) os x))
      (calling (function_name (place whole f args)) ((low whole (k + 0) os x).value ∷ []))) b us s' (suc left) rest
  app_named at f args x b callees hx k g os vs fr s s' left rest us mentions typed is_arrow declared kept fresh bound machine e =
      more_left p whole q l calls k fr s s'
      (set k (c_type whole.numbered b) (joined (leaf (number (place whole f args))) a) (calling (function_name (place whole f args)) (a.value ∷ []))) b us (suc first.rest) (suc left) rest (omega (arith, function.fewer))
      (app_ran k (place whole f args) fr s second.state s' (type_at x) b a second.scalars us first.rest second.rest rest callees (function.typed ∙ ap Some is_arrow)
      (subst (λ z. calls (first_number z) second.scalars second.state second.rest ≡ gives us s' rest) function.number_is second.later) machine declared ran fresh bound)
    where
      a : Low
      a = low whole (k + 0) os x

      first : Bound (update p calls (term at (fun f args)) vs s left) (λ ws t rest. bind (update p calls x vs t rest) (λ vs t last. calls (first_number ws) vs t last)) us s' rest
      first = bind_is (update p calls (term at (fun f args)) vs s left) (λ ws t rest. bind (update p calls x vs t rest) (λ vs t last. calls (first_number ws) vs t last)) us s' rest e

      function : Named f args at.ty s left first.scalars first.state first.rest
      function = named at f args vs s first.state left first.rest first.scalars mentions first.first

      second : Bound (update p calls x vs first.state first.rest) (λ vs t last. calls (first_number first.scalars) vs t last) us s' rest
      second = bind_is (update p calls x vs first.state first.rest) (λ vs t last. calls (first_number first.scalars) vs t last) us s' rest first.later

      ran : RanHere (k + 0) fr s a (type_at x) second.scalars second.state first.rest second.rest
      ran =
          let fewer : (k + 0) + length a.locals ≤ 2 ^ 64 = omega (arith, bound, length-append a.locals (c_type whole.numbered b ∷ [])) in
          hx (k + 0) g os vs fr s second.state first.rest second.rest second.scalars typed
          (kept_later q k (k + 0) fr fr g os vs (omega arith) (omega (arith, bound)) (changes_none k (k + 0) fr) kept)
          (fresh_back (lay_c q) fr k (k + 0) [] a.locals refl (fresh_front (lay_c q) fr k a.locals (c_type whole.numbered b ∷ []) fresh)) fewer
          (subst (λ z. update p calls x vs z first.rest ≡ gives second.scalars second.state second.rest) function.state_is second.first)

  -- a call of a function that is named
  pub sim_app : (note at : Note) (f : Fun) (args : List Arg) (x : Tree Note) → CallsRun p whole q calls → Sim p whole q l calls x
      → Sim p whole q l calls (term note (app (term at (fun f args)) x))
  unfolding update_shape low low_shape
  sim_app note at f args x callees hx k g os vs fr s s' left rest us typed kept fresh bound e =
      let n = node_is p calls note (app (term at (fun f args)) x) vs s left us s' rest e in
      subst (λ i. RanHere k fr s (low whole k os (term note (app (term at (fun f args)) x))) note.ty us s' i rest) (sym n.is)
      (app_named at f args x note.ty callees hx k g os vs fr s s' n.paid rest us typed.1.0.1 typed.1.1 typed.1.2 typed.0 kept fresh bound n.machine n.given)

  -- ---- calls of function values

  -- a type that passes the test is the one that is there
  type_is : (o : Option Tau) (t : Tau) → is_type o t ≡ true → o ≡ Some t
  type_is None t e = absurd (cc)
  type_is (Some u) t e = ap Some (same_is u t e)

  -- a machine value of an arrow type is the place of an instance of just this type
  value_is : (a b : Tau) (us : List Scalar) → is_machine (types_of p) (arrow a b) us ≡ true → (i : ℕ) × (us ≡ NumberScalar i ∷ []) × (types_of p i ≡ Some (arrow a b))
  unfolding is_machine
  value_is a b us machine = let i = place_given (types_of p) (arrow a b) us machine in (i.0, i.1, type_is (types_of p i.0) (arrow a b) i.2)

  -- a call of the function at a place that is kept, behind the statements of both parts
  value_ran : (k i : ℕ) (fr fr2 : Frame) (s t s' : State) (a b : Tau) (e : Low) (v u : Place) (ws us : List Scalar) (steps left last rest : ℕ) → ValuesRun p whole q calls
      → list_any (λ u. same_type u (arrow a b)) whole.arrows ≡ true → types_of p i ≡ Some (arrow a b) → calls i ws t last ≡ gives us s' rest
      → is_machine (types_of p) a ws ≡ true → is_machine (types_of p) b us ≡ true → IsDeclared whole.numbered q.program.structs b
      → Went q l k fr (as_run s) e steps fr2 (as_run t) → Keeps fr2 v (cell U32) (NumberScalar i ∷ []) → Keeps fr2 u (lay_c q (c_type whole.numbered a)) ws → steps + 32 * last ≤ 32 * left
      → Fresh (lay_c q) fr k (e.locals ++ c_type whole.numbered b ∷ []) → k + length (e.locals ++ c_type whole.numbered b ∷ []) ≤ 2 ^ 64
      → RanHere k fr s (set k (c_type whole.numbered b) e (calling (dispatch_name (arrow_number whole.arrows (arrow a b))) (v ∷ u ∷ []))) b us s' (suc left) rest
  value_ran k i fr fr2 s t s' a b e v u ws us steps left last rest values listed typed given machine_a machine_b declared went keeps_v keeps_u within fresh bound =
      set_ran q (types_of p) whole.numbered l k to fr fr2 (with_scalars (local_name to) us fr2) s s' (as_run t) e b us (calling name (v ∷ u ∷ [])) steps (suc call.steps) (suc left) rest refl went runs
      (changes_set to (suc to) to fr2 us (omega arith) (omega arith))
      (set_is fr2 (local_name to) lay_b (replicate (size lay_b) Unset) us is sized) machine_b (omega (arith, within, call.within))
    where
      to : ℕ
      to = k + length e.locals

      name : List ℕ
      name = dispatch_name (arrow_number whole.arrows (arrow a b))

      lay_b : Layout
      lay_b = lay_c q (c_type whole.numbered b)

      is : Is fr2 (local_name to) lay_b (replicate (size lay_b) Unset)
      is = (next_local q l k to fr fr2 (as_run s) (as_run t) e (c_type whole.numbered b) [] steps refl bound fresh went).0

      sized : length us ≡ size lay_b
      sized = machine_slots (types_of p) b us machine_b ∙ sym (size_slots whole.numbered q.program.structs b declared)

      tag : Reads whole.numbered q.program.structs t.store fr2 (operand v) (cell U32) (NumberScalar i ∷ [])
      tag = reads whole.numbered q.program.structs t.store fr2 v (cell U32) (NumberScalar i ∷ []) keeps_v (i, refl, few i (arrow a b) typed)

      argument : Reads whole.numbered q.program.structs t.store fr2 (operand u) (lay_c q (c_type whole.numbered a)) ws
      argument = reads whole.numbered q.program.structs t.store fr2 u (lay_c q (c_type whole.numbered a)) ws keeps_u (machine_readable whole.numbered q.program.structs (types_of p) few a ws machine_a)

      call : Called q name (tag.value ∷ argument.value ∷ []) t s' lay_b us 27 last rest
      call = values i a b ws us t s' last rest tag.value argument.value listed typed given machine_a machine_b tag.given argument.given

      runs : Runs q l (calling name (v ∷ u ∷ []) to) fr2 (as_run t) (suc call.steps) (with_scalars (local_name to) us fr2) (as_run s')
      runs =
          runs_call q l (path (local to) []) name (operand v ∷ operand u ∷ []) fr2 (as_run t) (as_run s') (tag.value ∷ argument.value ∷ []) (of_layout lay_b us) call.steps
          (record { frame = with_scalars (local_name to) us fr2; store = s'.store })
          (rw (tag.read, argument.read) refl) call.answers
          (write_whole whole.numbered q.program.structs s'.store fr2 (local to) lay_b (replicate (size lay_b) Unset) us (of_layout lay_b us) is (given_typed lay_b us))

  -- such a call, of what its parts give
  app_value : (f x : Tree Note) (b : Tau) → ValuesRun p whole q calls → list_any (λ u. same_type u (type_at f)) whole.arrows ≡ true → Sim p whole q l calls f → Sim p whole q l calls x
      → (k : ℕ) (g : List CTy) (os : List Place) (vs : Variables) (fr : Frame) (s s' : State) (left rest : ℕ) (us : List Scalar)
      → IsTyped p.functions whole.numbered q.program.structs g f → IsTyped p.functions whole.numbered q.program.structs g x → type_at f ≡ arrow (type_at x) b
      → IsDeclared whole.numbered q.program.structs b → AreKept q k fr g os vs
      → Fresh (lay_c q) fr k (((low whole k os f).locals ++ (low whole (k + length (low whole k os f).locals) os x).locals) ++ c_type whole.numbered b ∷ [])
      → k + length (((low whole k os f).locals ++ (low whole (k + length (low whole k os f).locals) os x).locals) ++ c_type whole.numbered b ∷ []) ≤ 2 ^ 64 → is_machine (types_of p) b us ≡ true
      → bind (update p calls f vs s left) (λ ws t rest. bind (update p calls x vs t rest) (λ vs t last. calls (first_number ws) vs t last)) ≡ gives us s' rest
      → RanHere k fr s (set k (c_type whole.numbered b) (joined (low whole k os f) (low whole (k + length (low whole k os f).locals) os x))
      (calling (dispatch_name (arrow_number whole.arrows (type_at f))) ((low whole k os f).value ∷ (low whole (k + length (low whole k os f).locals) os x).value ∷ []))) b us s' (suc left) rest
  app_value f x b values listed hf hx k g os vs fr s s' left rest us typed_f typed_x is_arrow declared kept fresh bound machine h =
      subst (λ z. RanHere k fr s (set k (c_type whole.numbered b) both (calling (dispatch_name (arrow_number whole.arrows z)) (e.value ∷ a.value ∷ []))) b us s' (suc left) rest) (sym is_arrow)
      (value_ran k i.0 fr y.frame s second.state s' (type_at x) b both e.value a.value second.scalars us (ran.steps + y.steps) left second.rest rest values
      (subst (λ z. list_any (λ u. same_type u z) whole.arrows ≡ true) is_arrow listed) i.2
      (subst (λ z. calls (first_number z) second.scalars second.state second.rest ≡ gives us s' rest) i.1 second.later) y.machine machine declared
      (went_joined q l k next fr ran.frame y.frame (as_run s) (as_run first.state) (as_run second.state) e a ran.steps y.steps refl ran.went y.went)
      (keeps_later next (next + length a.locals) ran.frame y.frame e.value (cell U32) (NumberScalar i.0 ∷ []) y.went.changes (omega (arith, len, all_few)) ran.under function) y.keeps
      (omega (arith, ran.within, y.within)) fresh bound)
    where
      e : Low
      e = low whole k os f

      next : ℕ
      next = k + length e.locals

      a : Low
      a = low whole next os x

      both : Low
      both = joined e a

      len : length (e.locals ++ a.locals) ≡ length e.locals + length a.locals
      len = length-append e.locals a.locals

      all_fresh : Fresh (lay_c q) fr k (e.locals ++ a.locals)
      all_fresh = fresh_front (lay_c q) fr k (e.locals ++ a.locals) (c_type whole.numbered b ∷ []) fresh

      all_few : k + length (e.locals ++ a.locals) ≤ 2 ^ 64
      all_few = omega (arith, bound, length-append (e.locals ++ a.locals) (c_type whole.numbered b ∷ []))

      first : Bound (update p calls f vs s left) (λ ws t rest. bind (update p calls x vs t rest) (λ vs t last. calls (first_number ws) vs t last)) us s' rest
      first = bind_is (update p calls f vs s left) (λ ws t rest. bind (update p calls x vs t rest) (λ vs t last. calls (first_number ws) vs t last)) us s' rest h

      second : Bound (update p calls x vs first.state first.rest) (λ vs t last. calls (first_number first.scalars) vs t last) us s' rest
      second = bind_is (update p calls x vs first.state first.rest) (λ vs t last. calls (first_number first.scalars) vs t last) us s' rest first.later

      ran : RanHere k fr s e (type_at f) first.scalars first.state left first.rest
      ran = hf k g os vs fr s first.state left first.rest first.scalars typed_f kept (fresh_front (lay_c q) fr k e.locals a.locals all_fresh) (omega (arith, len, all_few)) first.first

      y : RanHere next ran.frame first.state a (type_at x) second.scalars second.state first.rest second.rest
      y =
          hx next g os vs ran.frame first.state second.state first.rest second.rest second.scalars typed_x
          (kept_later q k next fr ran.frame g os vs (omega arith) (omega (arith, len, all_few)) ran.went.changes kept)
          (fresh_later (lay_c q) k next next fr ran.frame a.locals ran.went.changes (omega arith) (omega (arith, len, all_few)) (fresh_back (lay_c q) fr k next e.locals a.locals refl all_fresh))
          (omega (arith, len, all_few)) second.first

      i : (i : ℕ) × (first.scalars ≡ NumberScalar i ∷ []) × (types_of p i ≡ Some (arrow (type_at x) b))
      i = value_is (type_at x) b first.scalars (subst (λ z. is_machine (types_of p) z first.scalars ≡ true) is_arrow ran.machine)

      function : Keeps ran.frame e.value (cell U32) (NumberScalar i.0 ∷ [])
      function = subst (λ z. Keeps ran.frame e.value (cell U32) z) i.1 (subst (λ z. Keeps ran.frame e.value (lay_c q (c_type whole.numbered z)) first.scalars) is_arrow ran.keeps)

  -- a call of a function value: the function of its type calls the one at its place
  pub sim_app_value : (note : Note) (f x : Tree Note) → ValuesRun p whole q calls → list_any (λ u. same_type u (type_at f)) whole.arrows ≡ true
      → callee whole f ≡ dispatch_name (arrow_number whole.arrows (type_at f)) → ((v u : Place) → call_operands whole f v u ≡ v ∷ u ∷ [])
      → Sim p whole q l calls f → Sim p whole q l calls x → Sim p whole q l calls (term note (app f x))
  unfolding update_shape low low_shape
  sim_app_value note f x values listed named operands hf hx k g os vs fr s s' left rest us typed kept fresh bound h =
      let n = node_is p calls note (app f x) vs s left us s' rest h in
      let e = low whole k os f in
      let a = low whole (k + length e.locals) os x in
      subst (λ i. RanHere k fr s (low whole k os (term note (app f x))) note.ty us s' i rest) (sym n.is)
      (subst (λ z. RanHere k fr s (set k (c_type whole.numbered note.ty) (joined e a) (calling z (call_operands whole f e.value a.value))) note.ty us s' (suc n.paid) rest) (sym named)
      (subst (λ z. RanHere k fr s (set k (c_type whole.numbered note.ty) (joined e a) (calling (dispatch_name (arrow_number whole.arrows (type_at f))) z)) note.ty us s' (suc n.paid) rest)
      (sym (operands e.value a.value))
      (app_value f x note.ty values listed hf hx k g os vs fr s s' n.paid rest us typed.1.0 typed.1.1 typed.1.2 typed.0 kept fresh bound n.machine n.given)))

  -- ---- operators

  -- words and truth values are words in C
  scalar_type : (t : Tau) → IsTrue (takes equality t) → c_type whole.numbered t ≡ ty.Word (word_of t)
  scalar_type t h = by_scalar (λ t. c_type whole.numbered t ≡ ty.Word (word_of t)) (λ w. refl) refl t h

  -- they are one number, in range
  scalar_number : (t : Tau) → IsTrue (takes equality t) → (us : List Scalar) → is_machine (types_of p) t us ≡ true → (n : ℕ) × (us ≡ NumberScalar n ∷ []) × (n < 2 ^ bits (word_of t))
  unfolding is_machine
  scalar_number t h us machine =
      by_scalar (λ t. is_machine (types_of p) t us ≡ true → (n : ℕ) × (us ≡ NumberScalar n ∷ []) × (n < 2 ^ bits (word_of t)))
      (λ w m. below_is (2 ^ bits w) us m) (λ m. let b = below_is 2 us m in (b.0, b.1, (let small = b.2 in omega (arith, small)))) t h machine

  -- so is what an operator gives
  word_made : (o : Op) (t : Tau) → IsTrue (takes (sort_of o) t) → c_type whole.numbered (type_given (sort_of o) t) ≡ ty.Word (word_given o (word_of t))
  word_made ops.Eq t h = refl
  word_made ops.Ne t h = refl
  word_made ops.Lt t h = refl
  word_made ops.Gt t h = refl
  word_made ops.Le t h = refl
  word_made ops.Ge t h = refl
  word_made ops.Both t h = refl
  word_made ops.Either t h = refl
  word_made ops.Not t h = refl
  word_made o t h = scalar_type t (scalar_taken arithmetic t h)

  -- an operand's number, as C reads it
  record Operand (m : Stored) (fr : Frame) (v : Place) (t : Tau) (us : List Scalar) : Type 0 where
    number : ℕ
    is : us ≡ NumberScalar number ∷ []
    read : IsNumber q m fr (word_of t) (operand v) number

  -- a place that keeps a machine value of such a type
  operand_is : (m : Stored) (fr : Frame) (v : Place) (t : Tau) (us : List Scalar) → IsTrue (takes equality t) → Keeps fr v (lay_c q (c_type whole.numbered t)) us → is_machine (types_of p) t us ≡ true → Operand m fr v t us
  operand_is m fr v t us h keeps machine =
      let n = scalar_number t h us machine in
      record { number = n.0; is = n.1; read = number_kept m fr v (word_of t) us n.0 (subst (λ z. Keeps fr v z us) (ap (lay_c q) (scalar_type t h)) keeps) n.1 n.2 }

  -- truth values are below 2
  bool_small : (t : Tau) (n : ℕ) (us : List Scalar) → IsTrue (is_bool t) → us ≡ NumberScalar n ∷ [] → is_machine (types_of p) t us ≡ true → n < 2
  unfolding is_machine
  bool_small t n us h e machine =
      let b = below_is 2 us (subst (λ z. is_machine (types_of p) z us ≡ true) (bool_is t h) machine) in
      let same : NumberScalar n ∷ [] ≡ NumberScalar b.0 ∷ [] = sym e ∙ b.1 in
      let is : b.0 ≡ n = cc in
      subst (λ i. i < 2) is b.2

  -- what an operator asks of its operands
  are_for : (o : Op) (t : Tau) (a b : ℕ) (us ws : List Scalar) → IsTrue (takes (sort_of o) t) → us ≡ NumberScalar a ∷ [] → ws ≡ NumberScalar b ∷ []
      → is_machine (types_of p) t us ≡ true → is_machine (types_of p) t ws ≡ true → AreFor o a b
  are_for ops.Both t a b us ws h e e' m m' = (bool_small t a us h e m, bool_small t b ws h e' m')
  are_for ops.Either t a b us ws h e e' m m' = (bool_small t a us h e m, bool_small t b ws h e' m')
  are_for ops.Not t a b us ws h e e' m m' = bool_small t a us h e m
  are_for o t a b us ws h e e' m m' = tt

  -- what is kept under a local isn't a part of it
  apart_from : (to : ℕ) (v : Place) → suc to ≤ 2 ^ 64 → Under to v → IsApart (path (local to) []) (operand v)
  apart_from to (number n) few under = tt
  apart_from to (held argument steps) few under = outside_argument to (suc to) to (omega arith) (omega arith)
  apart_from to (held (local j) steps) few under = outside_below to (suc to) j under few to (omega arith) (omega arith)

  -- an operator's statements, behind those of its operands
  operator_ran : (o : Op) (k to : ℕ) (fr fr1 : Frame) (s s1 : State) (e : Low) (v u : Place) (t r : Tau) (a b i left rest : ℕ) → to ≡ k + length e.locals → suc to ≤ 2 ^ 64
      → Went q l k fr (as_run s) e i fr1 (as_run s1) → Is fr1 (local_name to) (lay_c q (c_type whole.numbered r)) (replicate (size (lay_c q (c_type whole.numbered r))) Unset)
      → IsTrue (takes (sort_of o) t) → r ≡ type_given (sort_of o) t
      → IsNumber q s1.store fr1 (word_of t) (operand v) a → Under to v → IsSecond (takes_two o) q s1.store fr1 (word_of t) (path (local to) []) (operand u) b → AreFor o a b
      → is_machine (types_of p) r (NumberScalar (number_given o (word_of t) a b) ∷ []) ≡ true → i + 32 * rest ≤ 32 * left
      → RanHere k fr s (set k (c_type whole.numbered r) e (operating o (word_of t) v u)) r (NumberScalar (number_given o (word_of t) a b) ∷ []) s1 (suc left) rest
  operator_ran o k to fr fr1 s s1 e v u t r a b i left rest at few went is taken same first under second for machine within =
      set_ran q (types_of p) whole.numbered l k to fr fr1 (with_scalars (local_name to) us fr1) s s1 (as_run s1) e r us (operating o (word_of t) v u) i computed.steps (suc left) rest at went runs
      (changes_set to (suc to) to fr1 us (omega arith) (omega arith))
      (set_is fr1 (local_name to) (lay_c q (c_type whole.numbered r)) (replicate (size (lay_c q (c_type whole.numbered r))) Unset) us is sized)
      machine (omega (arith, within, computed.within))
    where
      us : List Scalar
      us = NumberScalar (number_given o (word_of t) a b) ∷ []

      laid : lay_c q (c_type whole.numbered r) ≡ cell (word_given o (word_of t))
      laid = ap (lay_c q) (ap (c_type whole.numbered) same ∙ word_made o t taken)

      sized : length us ≡ size (lay_c q (c_type whole.numbered r))
      sized = one_slot (word_given o (word_of t)) us (number_given o (word_of t) a b) refl ∙ ap size (sym laid)

      many : length is.variable.scalars ≡ size is.variable.layout
      many = ap length is.holds ∙ is.sized ∙ ap size (sym is.laid)

      there : 0 < length is.variable.scalars
      there = let one : 1 ≡ size (lay_c q (c_type whole.numbered r)) = sized in let all = ap length is.holds ∙ is.sized in omega (arith, one, all)

      part : IsPart fr1 (word_given o (word_of t)) (path (local to) [])
      part = record {
        no_arrow = refl;
        variable = is.variable;
        found = is.found;
        spot = spot 0 is.variable.layout;
        leads = refl;
        is_word = is.laid ∙ laid;
        there = there;
      }

      computed : Computed q (calls_in q 0) 0 l (operating o (word_of t) v u to) fr1 (as_run s1) (with_number part (number_given o (word_of t) a b))
      computed =
          operators_compute o (word_of t) (path (local to) []) (operand v) (operand u) q (calls_in q 0) 0 l fr1 (as_run s1) a b first (apart_from to v few under) second for part

      all_set : spliced (spot 0 is.variable.layout) us is.variable.scalars ≡ us
      all_set = ap (λ z. us ++ z) (drop_all (0 + size is.variable.layout) is.variable.scalars (omega (arith, many)))

      runs : Runs q l (operating o (word_of t) v u to) fr1 (as_run s1) computed.steps (with_scalars (local_name to) us fr1) (as_run s1)
      runs = record {
        by = λ m b b' e le.
            no_calls o (word_of t) (path (local to) []) (operand v) (operand u) q (calls_in q m) (calls_in q 0) m 0 l fr1 (as_run s1) b
            ∙ ap (run_block q (calls_in q 0) 0 l (to_block (operating o (word_of t) v u to)) fr1 (as_run s1)) e ∙ computed.runs b'
            ∙ ap (λ z. done (goes (with_scalars (local_name to) z fr1)) (as_run s1) b') all_set;
      }

  -- where an operator takes another number of operands
  operator_none : (o : Op) (k : ℕ) (fr fr1 : Frame) (s s1 : State) (e : Low) (t r : Tau) (n i left rest : ℕ) → Went q l k fr (as_run s) e i fr1 (as_run s1)
      → IsTrue (takes (sort_of o) t) → r ≡ type_given (sort_of o) t → n ≡ 0 → is_machine (types_of p) r (NumberScalar n ∷ []) ≡ true → i + 32 * rest ≤ 32 * left
      → RanHere k fr s (record { value = number 0; locals = e.locals; code = e.code }) r (NumberScalar n ∷ []) s1 (suc left) rest
  operator_none o k fr fr1 s s1 e t r n i left rest went taken same zero_is machine within =
      record {
        steps = i;
        frame = fr1;
        within = omega (arith, within);
        went = record { runs = went.runs; changes = went.changes };
        keeps = record {
          word = word_given o (word_of t);
          laid = ap (lay_c q) (ap (c_type whole.numbered) same ∙ word_made o t taken);
          is = ap (λ i. NumberScalar i ∷ []) zero_is;
          small = bit_fits (word_given o (word_of t)) 0 (omega arith);
        };
        under = tt;
        machine = machine;
      }

  -- the locals of operands are fresh
  operands_fresh : (fr : Frame) (k : ℕ) (t : CTy) (e : Low) (stmts : ℕ → List Stmt) (b : Bool) → Fresh (lay_c q) fr k (low_operator b k t e stmts).locals → Fresh (lay_c q) fr k e.locals
  operands_fresh fr k t e stmts true f = fresh_front (lay_c q) fr k e.locals (t ∷ []) f
  operands_fresh fr k t e stmts false f = f

  -- they are as few
  operands_few : (k n : ℕ) (t : CTy) (e : Low) (stmts : ℕ → List Stmt) (b : Bool) → k + length (low_operator b k t e stmts).locals ≤ n → k + length e.locals ≤ n
  operands_few k n t e stmts true h = omega (arith, h, length-append e.locals (t ∷ []))
  operands_few k n t e stmts false h = h

  -- an operator on one operand, whose place and number are known
  unary_ran : (o : Op) (k : ℕ) (fr : Frame) (s s1 : State) (e : Low) (t r : Tau) (us : List Scalar) (left rest : ℕ) (x : RanHere k fr s e t us s1 left rest)
      → (i : Operand s1.store x.frame e.value t us) → IsTrue (takes (sort_of o) t) → r ≡ type_given (sort_of o) t
      → is_machine (types_of p) r (NumberScalar (on_one o (width t) i.number) ∷ []) ≡ true → (b : Bool) → takes_two o ≡ b
      → Fresh (lay_c q) fr k (low_operator (not b) k (c_type whole.numbered r) e (operating o (word_of t) e.value e.value)).locals
      → k + length (low_operator (not b) k (c_type whole.numbered r) e (operating o (word_of t) e.value e.value)).locals ≤ 2 ^ 64
      → RanHere k fr s (low_operator (not b) k (c_type whole.numbered r) e (operating o (word_of t) e.value e.value)) r (NumberScalar (on_one o (width t) i.number) ∷ []) s1 (suc left) rest
  unary_ran o k fr s s1 e t r us left rest x i taken same machine true two fresh bound =
      operator_none o k fr x.frame s s1 e t r (on_one o (width t) i.number) x.steps left rest x.went taken same (one_zero o (width t) i.number two) machine x.within
  unary_ran o k fr s s1 e t r us left rest x i taken same machine false two fresh bound =
      let given = one_given o t i.number i.number two taken in
      let to = k + length e.locals in
      let is = (next_local q l k to fr x.frame (as_run s) (as_run s1) e (c_type whole.numbered r) [] x.steps refl bound fresh x.went).0 in
      let len = length-append e.locals (c_type whole.numbered r ∷ []) in
      subst (λ z. RanHere k fr s (set k (c_type whole.numbered r) e (operating o (word_of t) e.value e.value)) r (NumberScalar z ∷ []) s1 (suc left) rest) (sym given)
      (operator_ran o k to fr x.frame s s1 e e.value e.value t r i.number i.number x.steps left rest refl (omega (arith, bound, len)) x.went is taken same i.read x.under
      (subst (λ z. IsSecond z q s1.store x.frame (word_of t) (path (local to) []) (operand e.value) i.number) (sym two) tt)
      (are_for o t i.number i.number us us taken i.is i.is x.machine x.machine)
      (subst (λ z. is_machine (types_of p) r (NumberScalar z ∷ []) ≡ true) given machine) x.within)

  -- by what its operand gives
  unary_of : (o : Op) (a : Tree Note) (r : Tau) → Sim p whole q l calls a → (k : ℕ) (g : List CTy) (os : List Place) (vs : Variables) (fr : Frame) (s s' : State) (left rest : ℕ) (us : List Scalar)
      → IsTyped p.functions whole.numbered q.program.structs g a → IsTrue (takes (sort_of o) (type_at a)) → r ≡ type_given (sort_of o) (type_at a) → AreKept q k fr g os vs
      → Fresh (lay_c q) fr k (low_operator (not (takes_two o)) k (c_type whole.numbered r) (low whole k os a) (operating o (word_of (type_at a)) (low whole k os a).value (low whole k os a).value)).locals
      → k + length (low_operator (not (takes_two o)) k (c_type whole.numbered r) (low whole k os a) (operating o (word_of (type_at a)) (low whole k os a).value (low whole k os a).value)).locals ≤ 2 ^ 64
      → is_machine (types_of p) r us ≡ true
      → bind (update p calls a vs s left) (λ us t rest. gives (NumberScalar (on_one o (width (type_at a)) (first_number us)) ∷ []) t rest) ≡ gives us s' rest
      → RanHere k fr s (low_operator (not (takes_two o)) k (c_type whole.numbered r) (low whole k os a) (operating o (word_of (type_at a)) (low whole k os a).value (low whole k os a).value)) r us s' (suc left) rest
  unary_of o a r ha k g os vs fr s s' left rest us typed taken same kept fresh bound machine h =
      recast p whole q l calls k fr s operand.state s' (low_operator (not (takes_two o)) k (c_type whole.numbered r) e stmts) r (NumberScalar (on_one o (width (type_at a)) n.number) ∷ []) us
      (suc left) operand.rest rest given
      (unary_ran o k fr s operand.state e (type_at a) r operand.scalars left operand.rest ran n taken same
      (subst (λ z. is_machine (types_of p) r z ≡ true) (sym (same_scalars (NumberScalar (on_one o (width (type_at a)) n.number) ∷ []) us operand.state s' operand.rest rest given)) machine)
      (takes_two o) refl fresh bound)
    where
      e : Low
      e = low whole k os a

      stmts : ℕ → List Stmt
      stmts = operating o (word_of (type_at a)) e.value e.value

      operand : Bound (update p calls a vs s left) (λ us t rest. gives (NumberScalar (on_one o (width (type_at a)) (first_number us)) ∷ []) t rest) us s' rest
      operand = bind_is (update p calls a vs s left) (λ us t rest. gives (NumberScalar (on_one o (width (type_at a)) (first_number us)) ∷ []) t rest) us s' rest h

      ran : RanHere k fr s e (type_at a) operand.scalars operand.state left operand.rest
      ran =
          ha k g os vs fr s operand.state left operand.rest operand.scalars typed kept (operands_fresh fr k (c_type whole.numbered r) e stmts (not (takes_two o)) fresh)
          (operands_few k (2 ^ 64) (c_type whole.numbered r) e stmts (not (takes_two o)) bound) operand.first

      n : Operand operand.state.store ran.frame e.value (type_at a) operand.scalars
      n = operand_is operand.state.store ran.frame e.value (type_at a) operand.scalars (scalar_taken (sort_of o) (type_at a) taken) ran.keeps ran.machine

      given : gives (NumberScalar (on_one o (width (type_at a)) n.number) ∷ []) operand.state operand.rest ≡ gives us s' rest
      given = ap (λ z. gives (NumberScalar (on_one o (width (type_at a)) (first_number z)) ∷ []) operand.state operand.rest) (sym n.is) ∙ operand.later

  -- an operator on one operand, and on two: statements of at most 6 steps set a local to what it gives
  pub sim_unary : (note : Note) (o : Op) (a : Tree Note) → Sim p whole q l calls a → Sim p whole q l calls (term note (op o (more a none)))
  unfolding update_shape low low_shape
  sim_unary note o a ha k g os vs fr s s' left rest us typed kept fresh bound h =
      let n = node_is p calls note (op o (more a none)) vs s left us s' rest h in
      subst (λ i. RanHere k fr s (low whole k os (term note (op o (more a none)))) note.ty us s' i rest) (sym n.is)
      (unary_of o a note.ty ha k g os vs fr s s' n.paid rest us typed.1.0 typed.1.1 typed.1.2 kept fresh bound n.machine n.given)

  -- an operator on two operands, both of which the frame behind them keeps
  binary_ran : (o : Op) (k : ℕ) (fr fr2 : Frame) (s s2 : State) (e : Low) (v u : Place) (t r : Tau) (us ws : List Scalar) (steps left rest : ℕ) → Went q l k fr (as_run s) e steps fr2 (as_run s2)
      → (i : Operand s2.store fr2 v t us) (j : Operand s2.store fr2 u t ws) → Under (k + length e.locals) v → Under (k + length e.locals) u
      → is_machine (types_of p) t us ≡ true → is_machine (types_of p) t ws ≡ true → steps + 32 * rest ≤ 32 * left
      → IsTrue (takes (sort_of o) t) → r ≡ type_given (sort_of o) t
      → is_machine (types_of p) r (NumberScalar (on_two o (width t) i.number j.number) ∷ []) ≡ true → (b : Bool) → takes_two o ≡ b
      → Fresh (lay_c q) fr k (low_operator b k (c_type whole.numbered r) e (operating o (word_of t) v u)).locals
      → k + length (low_operator b k (c_type whole.numbered r) e (operating o (word_of t) v u)).locals ≤ 2 ^ 64
      → RanHere k fr s (low_operator b k (c_type whole.numbered r) e (operating o (word_of t) v u)) r (NumberScalar (on_two o (width t) i.number j.number) ∷ []) s2 (suc left) rest
  binary_ran o k fr fr2 s s2 e v u t r us ws steps left rest went i j under_v under_u machine_v machine_u within taken same machine false two fresh bound =
      operator_none o k fr fr2 s s2 e t r (on_two o (width t) i.number j.number) steps left rest went taken same (two_zero o (width t) i.number j.number two) machine within
  binary_ran o k fr fr2 s s2 e v u t r us ws steps left rest went i j under_v under_u machine_v machine_u within taken same machine true two fresh bound =
      let given = two_given o t i.number j.number two taken in
      let to = k + length e.locals in
      let is = (next_local q l k to fr fr2 (as_run s) (as_run s2) e (c_type whole.numbered r) [] steps refl bound fresh went).0 in
      let len = length-append e.locals (c_type whole.numbered r ∷ []) in
      let few : suc to ≤ 2 ^ 64 = omega (arith, bound, len) in
      subst (λ z. RanHere k fr s (set k (c_type whole.numbered r) e (operating o (word_of t) v u)) r (NumberScalar z ∷ []) s2 (suc left) rest) (sym given)
      (operator_ran o k to fr fr2 s s2 e v u t r i.number j.number steps left rest refl few went is taken same i.read under_v
      (subst (λ z. IsSecond z q s2.store fr2 (word_of t) (path (local to) []) (operand u) j.number) (sym two) (j.read, apart_from to u few under_u))
      (are_for o t i.number j.number us ws taken i.is j.is machine_v machine_u)
      (subst (λ z. is_machine (types_of p) r (NumberScalar z ∷ []) ≡ true) given machine) within)

  -- by what its operands give
  binary_of : (o : Op) (a b : Tree Note) (r : Tau) → Sim p whole q l calls a → Sim p whole q l calls b
      → (k : ℕ) (g : List CTy) (os : List Place) (vs : Variables) (fr : Frame) (s s' : State) (left rest : ℕ) (us : List Scalar)
      → IsTyped p.functions whole.numbered q.program.structs g a → IsTyped p.functions whole.numbered q.program.structs g b → type_at a ≡ type_at b
      → IsTrue (takes (sort_of o) (type_at a)) → r ≡ type_given (sort_of o) (type_at a) → AreKept q k fr g os vs
      → Fresh (lay_c q) fr k (low_operator (takes_two o) k (c_type whole.numbered r) (joined (low whole k os a) (low whole (k + length (low whole k os a).locals) os b))
      (operating o (word_of (type_at a)) (low whole k os a).value (low whole (k + length (low whole k os a).locals) os b).value)).locals
      → k + length (low_operator (takes_two o) k (c_type whole.numbered r) (joined (low whole k os a) (low whole (k + length (low whole k os a).locals) os b))
      (operating o (word_of (type_at a)) (low whole k os a).value (low whole (k + length (low whole k os a).locals) os b).value)).locals ≤ 2 ^ 64
      → is_machine (types_of p) r us ≡ true → bind (update p calls a vs s left) (λ us t rest. bind (update p calls b vs t rest) (λ ws t last. gives (NumberScalar (on_two o (width (type_at a)) (first_number us) (first_number ws)) ∷ []) t last)) ≡ gives us s' rest
      → RanHere k fr s (low_operator (takes_two o) k (c_type whole.numbered r) (joined (low whole k os a) (low whole (k + length (low whole k os a).locals) os b))
      (operating o (word_of (type_at a)) (low whole k os a).value (low whole (k + length (low whole k os a).locals) os b).value)) r us s' (suc left) rest
  binary_of o a b r ha hb k g os vs fr s s' left rest us typed_a typed_b alike taken same kept fresh bound machine h =
      recast p whole q l calls k fr s second.state s' (low_operator (takes_two o) k (c_type whole.numbered r) both stmts) r (NumberScalar (on_two o (width (type_at a)) i.number j.number) ∷ []) us
      (suc left) second.rest rest given
      (binary_ran o k fr y.frame s second.state both e.value x.value (type_at a) r first.scalars second.scalars (ran.steps + y.steps) left second.rest
      (went_joined q l k next fr ran.frame y.frame (as_run s) (as_run first.state) (as_run second.state) e x ran.steps y.steps refl ran.went y.went) i j
      (under_more next (k + length both.locals) e.value (omega (arith, len)) ran.under) (under_more (next + length x.locals) (k + length both.locals) x.value (omega (arith, len)) y.under)
      ran.machine y.machine (omega (arith, ran.within, y.within)) taken same
      (subst (λ z. is_machine (types_of p) r z ≡ true) (sym (same_scalars (NumberScalar (on_two o (width (type_at a)) i.number j.number) ∷ []) us second.state s' second.rest rest given)) machine)
      (takes_two o) refl fresh bound)
    where
      e : Low
      e = low whole k os a

      next : ℕ
      next = k + length e.locals

      x : Low
      x = low whole next os b

      both : Low
      both = joined e x

      stmts : ℕ → List Stmt
      stmts = operating o (word_of (type_at a)) e.value x.value

      len : length (e.locals ++ x.locals) ≡ length e.locals + length x.locals
      len = length-append e.locals x.locals

      all_fresh : Fresh (lay_c q) fr k (e.locals ++ x.locals)
      all_fresh = operands_fresh fr k (c_type whole.numbered r) both stmts (takes_two o) fresh

      all_few : k + length (e.locals ++ x.locals) ≤ 2 ^ 64
      all_few = operands_few k (2 ^ 64) (c_type whole.numbered r) both stmts (takes_two o) bound

      first : Bound (update p calls a vs s left) (λ us t rest. bind (update p calls b vs t rest) (λ ws t last. gives (NumberScalar (on_two o (width (type_at a)) (first_number us) (first_number ws)) ∷ []) t last)) us s' rest
      first = bind_is (update p calls a vs s left) (λ us t rest. bind (update p calls b vs t rest) (λ ws t last. gives (NumberScalar (on_two o (width (type_at a)) (first_number us) (first_number ws)) ∷ []) t last)) us s' rest h

      second : Bound (update p calls b vs first.state first.rest) (λ ws t last. gives (NumberScalar (on_two o (width (type_at a)) (first_number first.scalars) (first_number ws)) ∷ []) t last) us s' rest
      second = bind_is (update p calls b vs first.state first.rest) (λ ws t last. gives (NumberScalar (on_two o (width (type_at a)) (first_number first.scalars) (first_number ws)) ∷ []) t last) us s' rest first.later

      ran : RanHere k fr s e (type_at a) first.scalars first.state left first.rest
      ran = ha k g os vs fr s first.state left first.rest first.scalars typed_a kept (fresh_front (lay_c q) fr k e.locals x.locals all_fresh) (omega (arith, len, all_few)) first.first

      y : RanHere next ran.frame first.state x (type_at a) second.scalars second.state first.rest second.rest
      y =
          subst (λ t. RanHere next ran.frame first.state x t second.scalars second.state first.rest second.rest) (sym alike)
          (hb next g os vs ran.frame first.state second.state first.rest second.rest second.scalars typed_b
          (kept_later q k next fr ran.frame g os vs (omega arith) (omega (arith, len, all_few)) ran.went.changes kept)
          (fresh_later (lay_c q) k next next fr ran.frame x.locals ran.went.changes (omega arith) (omega (arith, len, all_few)) (fresh_back (lay_c q) fr k next e.locals x.locals refl all_fresh))
          (omega (arith, len, all_few)) second.first)

      scalar : IsTrue (takes equality (type_at a))
      scalar = scalar_taken (sort_of o) (type_at a) taken

      i : Operand second.state.store y.frame e.value (type_at a) first.scalars
      i =
          operand_is second.state.store y.frame e.value (type_at a) first.scalars scalar
          (keeps_later next (next + length x.locals) ran.frame y.frame e.value (lay_c q (c_type whole.numbered (type_at a))) first.scalars y.went.changes (omega (arith, len, all_few)) ran.under ran.keeps) ran.machine

      j : Operand second.state.store y.frame x.value (type_at a) second.scalars
      j = operand_is second.state.store y.frame x.value (type_at a) second.scalars scalar y.keeps y.machine

      given : gives (NumberScalar (on_two o (width (type_at a)) i.number j.number) ∷ []) second.state second.rest ≡ gives us s' rest
      given =
          ap (λ z. gives (NumberScalar (on_two o (width (type_at a)) (first_number z) j.number) ∷ []) second.state second.rest) (sym i.is)
          ∙ ap (λ z. gives (NumberScalar (on_two o (width (type_at a)) (first_number first.scalars) (first_number z)) ∷ []) second.state second.rest) (sym j.is) ∙ second.later

  pub sim_binary : (note : Note) (o : Op) (a b : Tree Note) → Sim p whole q l calls a → Sim p whole q l calls b → Sim p whole q l calls (term note (op o (more a (more b none))))
  unfolding update_shape low low_shape
  sim_binary note o a b ha hb k g os vs fr s s' left rest us typed kept fresh bound h =
      let n = node_is p calls note (op o (more a (more b none))) vs s left us s' rest h in
      subst (λ i. RanHere k fr s (low whole k os (term note (op o (more a (more b none))))) note.ty us s' i rest) (sym n.is)
      (binary_of o a b note.ty ha hb k g os vs fr s s' n.paid rest us typed.1.0 typed.1.1 typed.1.2 typed.1.3 typed.1.4 kept fresh bound n.machine n.given)
