-- Choices: `if` and `case`, whose value a local gets in each branch.
use Rattle.std.proofs.Common.{◌≡◌, ℕ, zero, suc, ◌+◌, ◌*◌, ◌%◌, ◌^◌, ◌<◌, ◌≤◌, Bool, true, false, cond, Option, Some, List, [], ◌∷◌, ◌++◌, length, length-append, refl, sym, ap, ◌∙◌, subst, arith, IsTrue, nat_eq}
use Rattle.std.proofs.lemmas.Bool.{eqb-true, false_from_ne_true, lt-ltb}
use Rattle.std.proofs.Math.Nat.{mod-eq_of_lt}
use Rattle.cg_base.specs.declared.kind.Word.{Word}
use Rattle.cg_base.specs.declared.kind.Word.TheVariants.{U8, U32}
use Rattle.cg_base.specs.declared.place.Place.{Place as Position}
use Rattle.cg_base.specs.Types.{Tau, var, seen, unit, word, bool, arrow, abs, variant, fields, Parts, end, part}
use Rattle.cg_base.specs.Words.{bits}
use Rattle.cg_core.specs.declared.at.At.{At}
use Rattle.cg_core.specs.Terms.{Note, Tree, term, if_else, case_of}
use Rattle.cg_cmachine_def.specs.Layouts.{Layout, cell, size}
use Rattle.cg_cmachine_def.specs.Operands.{Frame, read, word_in}
use Rattle.cg_cmachine_def.specs.Operations.{computed, flag, word_value}
use Rattle.cg_cmachine_def.specs.Outcomes.{ok, on}
use Rattle.cg_cmachine_def.specs.Runs.{Linked, choose, judged_word}
use Rattle.cg_cmachine_def.specs.Targets.{with_scalars}
use Rattle.cg_ctree.specs.declared.tree.COp.TheVariants as cop
use Rattle.cg_ctree.specs.declared.tree.COpnd.TheVariants.{Number}
use Rattle.cg_ctree.specs.declared.tree.CRhs.TheVariants.{Opnd, Binary}
use Rattle.cg_ctree.specs.declared.tree.CStruct.{CStruct}
use Rattle.cg_ctree.specs.declared.tree.CTy.{CTy}
use Rattle.cg_ctree.specs.declared.tree.CTy.TheVariants as ty
use Rattle.cg_ctree.specs.Trees.{Stmt}
use Rattle.cg_heap.specs.declared.cell.Scalar.{Scalar}
use Rattle.cg_heap.specs.declared.cell.Scalar.TheVariants.{Unset, Word as NumberScalar, Address}
use Rattle.cg_heap.specs.Reps.{first_number, tail}
use Rattle.cg_heap.specs.Stored.{Stored}
use Rattle.cg_eval_operations.specs.Positions.{position_among}
use Rattle.cg_typing.specs.Parts.{alternative_in, held as type_held, is_left}
use Rattle.cg_typing.specs.Rules.{type_at}
use Rattle.cg_update.specs.Calls.{Program, types_of}
use Rattle.cg_update.specs.Machines.{is_machine, is_alternative, part_at}
use Rattle.cg_update.specs.Outcomes.{State, Outcome, gives, on as where_there}
use Rattle.cg_update.specs.Turns.{alternatives_in, place_in}
use Rattle.cg_update.specs.Updates.{Calls, Variables, update, update_shape}
use Rattle.cg_lower_def.specs.CTypes.{c_type, count, IsDeclared}
use Rattle.cg_cgen_def.specs.Bodies.{Low}
use Rattle.cg_lower_def.specs.Lowered.{Whole, low, low_shape, arm, chosen, copy, is_tagged}
use Rattle.cg_cgen_def.specs.Places.{tag, payload, local, local_name, Place, number, held, at, path, operand}
use Rattle.cg_lower_def.specs.Simulated.{as_run}
use Rattle.cg_lower_def.specs.Typed.{IsTyped}
use Rattle.cg_lower_laws.proofs.Frames.{Is, is_kept, is_later, set_is, Changes, changes_none, changes_on, changes_set, changes_wider, Fresh, fresh_back, fresh_front, fresh_later, Keeps, keeps_later, outside_below, under_at, under_more}
use Rattle.cg_lower_laws.proofs.Inversions.{Bound, bind_is, on_is}
use Rattle.cg_lower_laws.proofs.Layouts.{lay, left_there, machine_slots, named_is, size_slots, with_part_type}
use Rattle.cg_lower_laws.proofs.Nodes.{Sim, Node, node_is}
use Rattle.cg_lower_laws.proofs.Operands.{below_is, keeps_payload, keeps_tag, machine_readable, readable, Reads, reads, write_whole}
use Rattle.cg_lower_laws.proofs.Runs.{Runs, runs_branch, runs_none, runs_on, runs_plain}
use Rattle.cg_lower_laws.proofs.Terms.{AreKept, kept_later, kept_push, lay_c, next_local, Ran}
use Rattle.cg_base.proofs.Truths.{both}

-- ---- numbers

-- a number that is kept is read as a number
word_read : (ss : List CStruct) (m : Stored) (fr : Frame) (v : Place) (w : Word) (n : ℕ) → Keeps fr v (cell w) (NumberScalar n ∷ []) → n < 2 ^ bits w
    → judged_word ss m fr (operand v) ≡ ok n
word_read ss m fr (number i) w n k h = let e = k.is in let same : i ≡ n = cc in ap ok same
word_read ss m fr (held b steps) w n k h =
    let all = ap (λ (l : Layout). on (read l (NumberScalar n ∷ [])) word_in) k.laid ∙ ap (λ z. on z word_in) (readable (cell w) (NumberScalar n ∷ []) (n, refl, h)) ∙ rw (lt-ltb n (2 ^ bits w) h) refl in
    rw (k.found, k.leads, k.part) all

-- what C computes of an equation of two numbers
equation_read : (n i : ℕ) → n < 2 ^ 32 → i < 2 ^ 32 → (b : Bool) → nat_eq n i ≡ b → ok (word_value U8 (flag (nat_eq (n % 2 ^ 32) (i % 2 ^ 32)) % 2 ^ 32 % 2 ^ 8)) ≡ ok (word_value U8 (flag b))
equation_read n i hn hi b e = rw (mod-eq_of_lt hn, mod-eq_of_lt hi, e) (by_flag b)
  where
    by_flag : (b : Bool) → ok (word_value U8 (flag b % 2 ^ 32 % 2 ^ 8)) ≡ ok (word_value U8 (flag b))
    by_flag true = refl
    by_flag false = refl

flag_small : (b : Bool) → flag b < 2 ^ 8
flag_small true = omega arith
flag_small false = omega arith

-- the number of a truth value that isn't 0
not_zero : (i : ℕ) → nat_eq (suc i) 0 ≡ false
not_zero i = false_from_ne_true (nat_eq (suc i) 0) (λ e. let zero_is = eqb-true (suc i) 0 e in omega (arith, zero_is))

-- a machine value of bool is a number
truth_is : (types : ℕ → Option Tau) (t : Tau) (us : List Scalar) → t ≡ bool → is_machine types t us ≡ true → (k : ℕ) × (us ≡ NumberScalar k ∷ []) × (k < 2)
unfolding is_machine
truth_is types t us e h = let m : is_machine types bool us ≡ true = subst (λ z. is_machine types z us ≡ true) e h in below_is 2 us m

-- ---- variants

-- a payload's number is that of an alternative
alternative_below : (types : ℕ → Option Tau) (ps : Parts) (i : ℕ) (us : List Scalar) → is_alternative types ps i us ≡ true → i < count ps
unfolding is_machine count
alternative_below types end i us e = absurd (cc)
alternative_below types (part x t taken ps) zero us e = omega arith
alternative_below types (part x t taken ps) (suc i) us e = let h = alternative_below types ps i _ e in omega (arith, h)

-- a machine value of a variant begins with the number of an alternative
variant_value : (types : ℕ → Option Tau) (ps : Parts) (us : List Scalar) → is_machine types (variant ps) us ≡ true
    → (n : ℕ) × (ws : List Scalar) × (us ≡ NumberScalar n ∷ ws) × (n < count ps)
unfolding is_machine
variant_value types ps [] e = absurd (cc)
variant_value types ps (Unset ∷ us) e = absurd (cc)
variant_value types ps (Address p ∷ us) e = absurd (cc)
variant_value types ps (NumberScalar n ∷ us) e = (n, us, refl, alternative_below types ps n us (both _ _ e).1)

-- what C reads of a variant, and of the alternative of a name
record Subject (numbered : Tau → ℕ) (ss : List CStruct) (fr : Frame) (v : Place) (name : List ℕ) (t : Tau) (us : List Scalar) : Type 0 where
  small : first_number us < 2 ^ 32
  place_small : place_in name t < 2 ^ 32
  tag_kept : Keeps fr (at tag v) (cell U32) (NumberScalar (first_number us) ∷ [])
  payload_kept : (ws : List Scalar) → part_at (place_in name t) (alternatives_in t) (tail us) ≡ Some ws
      → Keeps fr (at (payload (place_in name t)) v) (lay numbered ss (type_held (alternative_in name t))) ws

subject : (numbered : Tau → ℕ) (ss : List CStruct) (types : ℕ → Option Tau) (fr : Frame) (v : Place) (name : List ℕ) (t : Tau) (us : List Scalar)
    → IsDeclared numbered ss t → IsTrue (is_left (alternative_in name t)) → is_machine types t us ≡ true → Keeps fr v (lay numbered ss t) us
    → Subject numbered ss fr v name t us
unfolding IsDeclared
subject numbered ss types fr v name (variant ps) us d left m k =
    let value = variant_value types ps us m in
    let few = d.1 in
    let there = named_is name ps (left_there name ps left) in
    let here = subst (Keeps fr v (lay numbered ss (variant ps))) value.2 k in
    let head_is : value.0 ≡ first_number us = ap first_number (sym value.2) in
    let tail_is : tail us ≡ value.1 = ap tail value.2 in
    record {
      small = omega (arith, value.3, few, head_is);
      place_small = omega (arith, there.1, few);
      tag_kept = subst (λ n. Keeps fr (at tag v) (cell U32) (NumberScalar n ∷ [])) head_is (keeps_tag numbered ss fr v ps value.0 value.1 d here);
      payload_kept = λ ws e.
          subst (λ u. Keeps fr (at (payload (position_among name ps)) v) (lay numbered ss u) ws) (sym there.0)
          (keeps_payload numbered ss fr v ps (position_among name ps) (NumberScalar value.0) value.1 ws d here
          (ap (part_at (position_among name ps) ps) (sym tail_is) ∙ e));
    }
subject numbered ss types fr v name (var n) us d left m k = absurd (cc)
subject numbered ss types fr v name (seen n) us d left m k = absurd (cc)
subject numbered ss types fr v name unit us d left m k = absurd (cc)
subject numbered ss types fr v name (word w) us d left m k = absurd (cc)
subject numbered ss types fr v name bool us d left m k = absurd (cc)
subject numbered ss types fr v name (arrow a b) us d left m k = absurd (cc)
subject numbered ss types fr v name (abs x args sigil) us d left m k = absurd (cc)
subject numbered ss types fr v name (fields ps sigil) us d left m k = absurd (cc)

-- ---- choices

module _ (p : Program) (whole : Whole) (q : Linked) (l : Layout) (calls : Calls) (few : (k : ℕ) (t : Tau) → types_of p k ≡ Some t → k < 2 ^ 32) where
  abbrev lay_of : Tau → Layout
  lay_of t = lay_c q (c_type whole.numbered t)

  abbrev RanHere : ℕ → Frame → State → Low → Tau → List Scalar → State → ℕ → ℕ → Type 0
  RanHere k fr s a t us s' left rest = Ran q (types_of p) whole.numbered l k fr s a t us s' left rest

  abbrev IsTypedHere : List CTy → Tree Note → Type 0
  IsTypedHere g e = IsTyped p.functions whole.numbered q.program.structs g e

  -- the structs of a core's type
  node_declared : (g : List CTy) (e : Tree Note) → IsTypedHere g e → IsDeclared whole.numbered q.program.structs (type_at e)
  node_declared g (term note shape) typed = typed.0

  -- a branch, whose value a local gets in one step more
  record Arm (to top : ℕ) (fr : Frame) (s : State) (code : List Stmt) (t : Tau) (us : List Scalar) (s' : State) (left rest : ℕ) : Type 0 where
    frame : Frame
    steps : ℕ
    within : steps + 32 * rest ≤ 32 * left + 1
    runs : Runs q l code fr (as_run s) steps frame (as_run s')
    changes : Changes to top fr frame
    is : Is frame (local_name to) (lay_of t) us

  -- a lowered term and the copy of its value
  arm_ran : (to k top : ℕ) (fr : Frame) (s s' : State) (a : Low) (t u : Tau) (us old : List Scalar) (left rest : ℕ) → to < k → k + length a.locals ≤ top → top ≤ 2 ^ 64
      → Is fr (local_name to) (lay_of t) old → IsDeclared whole.numbered q.program.structs t → u ≡ t → RanHere k fr s a u us s' left rest
      → Arm to top fr s (arm to a) t us s' left rest
  arm_ran to k top fr s s' a t u us old left rest below room bound is declared same r =
      record {
        frame = with_scalars (local_name to) us r.frame;
        steps = r.steps + 1;
        within = let h = r.within in omega (arith, h);
        runs = runs_on q l a.code _ fr r.frame _ (as_run s) (as_run s') (as_run s') r.steps 1 r.went.runs copied;
        changes = changes_on to top fr r.frame _ (changes_wider to top k (k + length a.locals) fr r.frame (omega (arith, below)) room r.went.changes)
            (changes_set to top to r.frame us (omega arith) (omega (arith, below, room)));
        is = set_is r.frame (local_name to) (lay_of t) old us there sized;
      }
    where
      machine : is_machine (types_of p) t us ≡ true
      machine = subst (λ z. is_machine (types_of p) z us ≡ true) same r.machine

      sized : length us ≡ size (lay_of t)
      sized = machine_slots (types_of p) t us machine ∙ sym (size_slots whole.numbered q.program.structs t declared)

      there : Is r.frame (local_name to) (lay_of t) old
      there =
          is_later k (k + length a.locals) fr r.frame (local_name to) (lay_of t) old r.went.changes
          (outside_below k (k + length a.locals) to below (omega (arith, room, bound))) is

      value : Reads whole.numbered q.program.structs s'.store r.frame (operand a.value) (lay_of t) us
      value =
          reads whole.numbered q.program.structs s'.store r.frame a.value (lay_of t) us (subst (λ z. Keeps r.frame a.value (lay_of z) us) same r.keeps)
          (machine_readable whole.numbered q.program.structs (types_of p) few t us machine)

      copied : Runs q l (copy a.value to) r.frame (as_run s') 1 (with_scalars (local_name to) us r.frame) (as_run s')
      copied =
          runs_plain q l (path (local to) []) (Opnd (operand a.value)) r.frame (as_run s') value.value
          (record { frame = with_scalars (local_name to) us r.frame; store = s'.store }) refl value.read
          (write_whole whole.numbered q.program.structs s'.store r.frame (local to) (lay_of t) old us value.value there value.given)

  -- the first branch
  first_arm : (x : Tree Note) → Sim p whole q l calls x → (to top : ℕ) (g : List CTy) (os : List Place) (vs : Variables) (fr : Frame) (s s' : State) (left rest : ℕ) (us : List Scalar) (t : Tau) (others : List CTy)
      → IsDeclared whole.numbered q.program.structs t → IsTypedHere g x → type_at x ≡ t → AreKept q (suc to) fr g os vs
      → Fresh (lay_c q) fr to (c_type whole.numbered t ∷ ((low whole (suc to) os x).locals ++ others))
      → top ≡ suc to + length ((low whole (suc to) os x).locals ++ others) → top ≤ 2 ^ 64 → update p calls x vs s left ≡ gives us s' rest
      → Arm to top fr s (arm to (low whole (suc to) os x)) t us s' left rest
  first_arm x hx to top g os vs fr s s' left rest us t others declared typed same kept fresh e bound h =
      let len = length-append (low whole (suc to) os x).locals others in
      arm_ran to (suc to) top fr s s' (low whole (suc to) os x) t (type_at x) us _ left rest (omega arith) (omega (arith, len, e)) bound fresh.0 declared same
      (hx (suc to) g os vs fr s s' left rest us typed kept (fresh_front (lay_c q) fr (suc to) (low whole (suc to) os x).locals others fresh.1) (omega (arith, len, e, bound)) h)

  -- the second, whose locals stand behind those of the first
  second_arm : (y : Tree Note) → Sim p whole q l calls y → (to next top : ℕ) (g : List CTy) (os : List Place) (vs : Variables) (fr : Frame) (s s' : State) (left rest : ℕ) (us : List Scalar) (t : Tau) (others : List CTy)
      → IsDeclared whole.numbered q.program.structs t → IsTypedHere g y → type_at y ≡ t → AreKept q (suc to) fr g os vs → next ≡ suc to + length others
      → Fresh (lay_c q) fr to (c_type whole.numbered t ∷ (others ++ (low whole next os y).locals))
      → top ≡ suc to + length (others ++ (low whole next os y).locals) → top ≤ 2 ^ 64 → update p calls y vs s left ≡ gives us s' rest
      → Arm to top fr s (arm to (low whole next os y)) t us s' left rest
  second_arm y hy to next top g os vs fr s s' left rest us t others declared typed same kept place fresh e bound h =
      let len = length-append others (low whole next os y).locals in
      arm_ran to next top fr s s' (low whole next os y) t (type_at y) us _ left rest (omega (arith, place)) (omega (arith, len, e, place)) bound fresh.0 declared same
      (hy next g os vs fr s s' left rest us typed
      (kept_later q (suc to) next fr fr g os vs (omega (arith, place)) (omega (arith, len, e, place, bound)) (changes_none (suc to) next fr) kept)
      (fresh_back (lay_c q) fr (suc to) next others (low whole next os y).locals place fresh.1) (omega (arith, len, e, place, bound)) h)

  -- A node that chooses by a number, at a cost of 1. The statements of its part and at most one step more stand before the choice, and set
  -- no local from that of the result on.
  chosen_ran : (k to top : ℕ) (fr fr1 fr2 : Frame) (s s1 s' : State) (locals : List CTy) (code more : List Stmt) (v : Place) (a b : Low) (n i j : ℕ) (t : Tau) (us : List Scalar) (left paid mid rest : ℕ)
      → left ≡ suc paid → k ≤ to → to < top → top ≡ k + length locals → Runs q l code fr (as_run s) i fr1 (as_run s1) → Runs q l more fr1 (as_run s1) j fr2 (as_run s1)
      → i + 32 * mid ≤ 32 * paid → j ≤ 1 → Changes k to fr fr2 → judged_word q.program.structs s1.store fr2 (operand v) ≡ ok n
      → Arm to top fr2 s1 (choose n (arm to a) (arm to b)) t us s' mid rest → is_machine (types_of p) t us ≡ true
      → RanHere k fr s (record { value = held (local to) []; locals = locals; code = code ++ (more ++ chosen v to a b ∷ []) }) t us s' left rest
  chosen_ran k to top fr fr1 fr2 s s1 s' locals code more v a b n i j t us left paid mid rest e low high all first then h few_more c judged m machine =
      record {
        steps = i + (j + suc m.steps);
        frame = m.frame;
        within = let w = m.within in omega (arith, w, h, few_more, e);
        went = record {
          runs =
              runs_on q l code (more ++ chosen v to a b ∷ []) fr fr1 m.frame (as_run s) (as_run s1) (as_run s') i (j + suc m.steps) first
              (runs_on q l more (chosen v to a b ∷ []) fr1 fr2 m.frame (as_run s1) (as_run s1) (as_run s') j (suc m.steps) then
              (runs_branch q l (operand v) (arm to a) (arm to b) fr2 m.frame (as_run s1) (as_run s') n m.steps judged m.runs));
          changes =
              changes_on k (k + length locals) fr fr2 m.frame (changes_wider k (k + length locals) k to fr fr2 (omega arith) (omega (arith, high, all)) c)
              (changes_wider k (k + length locals) to top fr2 m.frame low (omega (arith, all)) m.changes);
        };
        keeps = is_kept m.frame (local to) (lay_of t) us m.is;
        under = omega (arith, high, all);
        machine = machine;
      }

  pub sim_if : (note : Note) (c x y : Tree Note) → Sim p whole q l calls c → Sim p whole q l calls x → Sim p whole q l calls y → Sim p whole q l calls (term note (if_else c x y))
  unfolding update_shape low low_shape
  sim_if note c x y hc hx hy k g os vs fr s s' left rest us typed kept fresh bound h =
      chosen_ran k to top fr rc.frame rc.frame s two.state s' (C.locals ++ others) C.code [] C.value A B number.0 rc.steps 0 note.ty us left n.paid two.rest rest
      n.is (omega arith) (omega arith) (omega (arith, len)) rc.went.runs (runs_none q l rc.frame (as_run two.state)) rc.within (omega arith) rc.went.changes
      judged (arms number.0 chosen_by) n.machine
    where
      n : Node p calls note.ty (if_else c x y) vs s left us s' rest
      n = node_is p calls note (if_else c x y) vs s left us s' rest h

      two : Bound (update p calls c vs s n.paid) (λ ws t rest. cond (nat_eq (first_number ws) 0) (update p calls y vs t rest) (update p calls x vs t rest)) us s' rest
      two = bind_is (update p calls c vs s n.paid) (λ ws t rest. cond (nat_eq (first_number ws) 0) (update p calls y vs t rest) (update p calls x vs t rest)) us s' rest n.given

      C : Low
      C = low whole k os c

      to : ℕ
      to = k + length C.locals

      A : Low
      A = low whole (suc to) os x

      B : Low
      B = low whole (suc to + length A.locals) os y

      others : List CTy
      others = c_type whole.numbered note.ty ∷ (A.locals ++ B.locals)

      top : ℕ
      top = suc to + length (A.locals ++ B.locals)

      len : length (C.locals ++ others) ≡ length C.locals + suc (length (A.locals ++ B.locals))
      len = length-append C.locals others

      room : top ≤ 2 ^ 64
      room = omega (arith, len, bound)

      rc : RanHere k fr s C (type_at c) two.scalars two.state n.paid two.rest
      rc = hc k g os vs fr s two.state n.paid two.rest two.scalars typed.1.0 kept (fresh_front (lay_c q) fr k C.locals others fresh) (omega (arith, room)) two.first

      number : (k : ℕ) × (two.scalars ≡ NumberScalar k ∷ []) × (k < 2)
      number = truth_is (types_of p) (type_at c) two.scalars typed.1.3 rc.machine

      judged : judged_word q.program.structs two.state.store rc.frame (operand C.value) ≡ ok number.0
      judged =
          word_read q.program.structs two.state.store rc.frame C.value U8 number.0
          (subst (λ z. Keeps rc.frame C.value (cell U8) z) number.1 (subst (λ z. Keeps rc.frame C.value (lay_of z) two.scalars) typed.1.3 rc.keeps)) (let small = number.2 in omega (arith, small))

      chosen_by : cond (nat_eq number.0 0) (update p calls y vs two.state two.rest) (update p calls x vs two.state two.rest) ≡ gives us s' rest
      chosen_by = ap (λ z. cond (nat_eq (first_number z) 0) (update p calls y vs two.state two.rest) (update p calls x vs two.state two.rest)) (sym number.1) ∙ two.later

      kept_on : AreKept q (suc to) rc.frame g os vs
      kept_on = kept_later q k (suc to) fr rc.frame g os vs (omega arith) (omega (arith, room)) (changes_wider k (suc to) k to fr rc.frame (omega arith) (omega arith) rc.went.changes) kept

      fresh_on : Fresh (lay_c q) rc.frame to others
      fresh_on = next_local q l k to fr rc.frame (as_run s) (as_run two.state) C (c_type whole.numbered note.ty) (A.locals ++ B.locals) rc.steps refl bound fresh rc.went

      arms : (i : ℕ) → cond (nat_eq i 0) (update p calls y vs two.state two.rest) (update p calls x vs two.state two.rest) ≡ gives us s' rest
          → Arm to top rc.frame two.state (choose i (arm to A) (arm to B)) note.ty us s' two.rest rest
      arms zero e =
          second_arm y hy to (suc to + length A.locals) top g os vs rc.frame two.state s' two.rest rest us note.ty A.locals typed.0 typed.1.2 (typed.1.5 ∙ sym typed.1.4) kept_on refl fresh_on refl room e
      arms (suc i) e = first_arm x hx to top g os vs rc.frame two.state s' two.rest rest us note.ty B.locals typed.0 typed.1.1 (sym typed.1.4) kept_on fresh_on refl room
          (ap (λ z. cond z (update p calls y vs two.state two.rest) (update p calls x vs two.state two.rest)) (sym (not_zero i)) ∙ e)

  -- the flag that tells whether a variant is of an alternative is set
  flag_runs : (to i n : ℕ) (fr : Frame) (s : State) (v : Place) (old : List Scalar) (b : Bool) → Is fr (local_name to) (cell U8) old → Keeps fr (at tag v) (cell U32) (NumberScalar n ∷ []) → n < 2 ^ 32
      → i < 2 ^ 32 → nat_eq n i ≡ b → Runs q l (is_tagged v i to ∷ []) fr (as_run s) 1 (with_scalars (local_name to) (NumberScalar (flag b) ∷ []) fr) (as_run s)
  flag_runs to i n fr s v old b is keeps small place_small e =
      runs_plain q l (path (local to) []) (Binary U8 U32 cop.Eq (operand (at tag v)) (Number i)) fr (as_run s) (word_value U8 (flag b))
      (record { frame = with_scalars (local_name to) (NumberScalar (flag b) ∷ []) fr; store = s.store }) refl
      (ap (λ z. on z (λ a. on (ok i) (λ b. computed U8 U32 cop.Eq a b))) (word_read q.program.structs s.store fr (at tag v) U32 n keeps small) ∙ equation_read n i small place_small b e)
      (write_whole whole.numbered q.program.structs s.store fr (local to) (cell U8) old (NumberScalar (flag b) ∷ []) (word_value U8 (flag b)) is refl)

  -- and is a variable of that number then
  flag_is : (to : ℕ) (fr : Frame) (old : List Scalar) (b : Bool) → Is fr (local_name to) (cell U8) old
      → Is (with_scalars (local_name to) (NumberScalar (flag b) ∷ []) fr) (local_name to) (cell U8) (NumberScalar (flag b) ∷ [])
  unfolding size
  flag_is to fr old b is = set_is fr (local_name to) (cell U8) old (NumberScalar (flag b) ∷ []) is refl

  pub sim_case : (note : Note) (e : Tree Note) (at : At) (binder : Position) (x y : Tree Note) → Sim p whole q l calls e → Sim p whole q l calls x → Sim p whole q l calls y
      → Sim p whole q l calls (term note (case_of e at binder x y))
  unfolding update_shape low low_shape
  sim_case note e at' binder x y he hx hy k g os vs fr s s' left rest us typed kept fresh bound h =
      chosen_ran k to top fr re.frame set s two.state s' (E.locals ++ others) E.code (is_tagged E.value place tested ∷ []) (held (local tested) []) A B (flag test) re.steps 1 note.ty us left n.paid two.rest rest
      n.is (omega arith) (omega arith) (omega (arith, len)) re.went.runs (flag_runs tested place (first_number two.scalars) re.frame two.state E.value _ test fresh_now.0 subject_is.tag_kept subject_is.small subject_is.place_small refl)
      re.within (omega arith) changes judged (arms test refl two.later) n.machine
    where
      from : Tau
      from = type_at e

      place : ℕ
      place = place_in at'.name from

      n : Node p calls note.ty (case_of e at' binder x y) vs s left us s' rest
      n = node_is p calls note (case_of e at' binder x y) vs s left us s' rest h

      first_way : List Scalar → State → ℕ → Outcome
      first_way ws t rest = where_there (part_at place (alternatives_in from) (tail ws)) (λ parts. update p calls x (vs ++ parts ∷ []) t rest)

      second_way : List Scalar → State → ℕ → Outcome
      second_way ws t rest = update p calls y (vs ++ ws ∷ []) t rest

      two : Bound (update p calls e vs s n.paid) (λ ws t rest. cond (nat_eq (first_number ws) place) (first_way ws t rest) (second_way ws t rest)) us s' rest
      two = bind_is (update p calls e vs s n.paid) (λ ws t rest. cond (nat_eq (first_number ws) place) (first_way ws t rest) (second_way ws t rest)) us s' rest n.given

      test : Bool
      test = nat_eq (first_number two.scalars) place

      E : Low
      E = low whole k os e

      tested : ℕ
      tested = k + length E.locals

      to : ℕ
      to = suc tested

      A : Low
      A = low whole (suc to) (os ++ at (payload place) E.value ∷ []) x

      B : Low
      B = low whole (suc to + length A.locals) (os ++ E.value ∷ []) y

      inner : List CTy
      inner = c_type whole.numbered note.ty ∷ (A.locals ++ B.locals)

      others : List CTy
      others = ty.Word U8 ∷ inner

      top : ℕ
      top = suc to + length (A.locals ++ B.locals)

      len : length (E.locals ++ others) ≡ length E.locals + suc (suc (length (A.locals ++ B.locals)))
      len = length-append E.locals others

      room : top ≤ 2 ^ 64
      room = omega (arith, len, bound)

      re : RanHere k fr s E from two.scalars two.state n.paid two.rest
      re = he k g os vs fr s two.state n.paid two.rest two.scalars typed.1.0 kept (fresh_front (lay_c q) fr k E.locals others fresh) (omega (arith, room)) two.first

      subject_is : Subject whole.numbered q.program.structs re.frame E.value at'.name from two.scalars
      subject_is = subject whole.numbered q.program.structs (types_of p) re.frame E.value at'.name from two.scalars (node_declared g e typed.1.0) typed.1.3 re.machine re.keeps

      fresh_now : Fresh (lay_c q) re.frame tested others
      fresh_now = next_local q l k tested fr re.frame (as_run s) (as_run two.state) E (ty.Word U8) inner re.steps refl bound fresh re.went

      set : Frame
      set = with_scalars (local_name tested) (NumberScalar (flag test) ∷ []) re.frame

      only_flag : Changes tested to re.frame set
      only_flag = changes_set tested to tested re.frame (NumberScalar (flag test) ∷ []) (omega arith) (omega arith)

      changes : Changes k to fr set
      changes =
          changes_on k to fr re.frame set (changes_wider k to k tested fr re.frame (omega arith) (omega arith) re.went.changes)
          (changes_wider k to tested to re.frame set (omega arith) (omega arith) only_flag)

      judged : judged_word q.program.structs two.state.store set (operand (held (local tested) [])) ≡ ok (flag test)
      judged =
          word_read q.program.structs two.state.store set (held (local tested) []) U8 (flag test)
          (is_kept set (local tested) (cell U8) (NumberScalar (flag test) ∷ []) (flag_is tested re.frame _ test fresh_now.0)) (flag_small test)

      kept_on : AreKept q (suc to) set g os vs
      kept_on = kept_later q k (suc to) fr set g os vs (omega arith) (omega (arith, room)) (changes_wider k (suc to) k to fr set (omega arith) (omega arith) changes) kept

      wide : Changes tested (suc to) re.frame set
      wide = changes_wider tested (suc to) tested to re.frame set (omega arith) (omega arith) only_flag

      fresh_on : Fresh (lay_c q) set to inner
      fresh_on = fresh_later (lay_c q) tested to to re.frame set inner only_flag (omega arith) (omega (arith, room)) fresh_now.1

      arms : (b : Bool) → test ≡ b → cond b (first_way two.scalars two.state two.rest) (second_way two.scalars two.state two.rest) ≡ gives us s' rest
          → Arm to top set two.state (choose (flag b) (arm to A) (arm to B)) note.ty us s' two.rest rest
      arms true is later =
          let found = on_is (part_at place (alternatives_in from) (tail two.scalars)) (λ parts. update p calls x (vs ++ parts ∷ []) two.state two.rest) us s' rest later in
          let before = under_at tested (payload place) E.value re.under in
          first_arm x hx to top _ _ (vs ++ found.0 ∷ []) set two.state s' two.rest rest us note.ty B.locals typed.0 typed.1.1 (sym typed.1.4)
          (kept_push q (suc to) set g os vs _ (at (payload place) E.value) found.0 kept_on
          (keeps_later tested (suc to) re.frame set (at (payload place) E.value) _ found.0 wide (omega (arith, room)) before (subject_is.payload_kept found.0 found.1))
          (under_more tested (suc to) (at (payload place) E.value) (omega arith) before))
          fresh_on refl room found.2
      arms false is later =
          second_arm y hy to (suc to + length A.locals) top _ _ (vs ++ two.scalars ∷ []) set two.state s' two.rest rest us note.ty A.locals typed.0 typed.1.2 (typed.1.5 ∙ sym typed.1.4)
          (kept_push q (suc to) set g os vs _ E.value two.scalars kept_on
          (subst (λ z. Keeps set E.value (lay_c q z) two.scalars) (sym (with_part_type whole.numbered at'.name true from))
          (keeps_later tested (suc to) re.frame set E.value _ two.scalars wide (omega (arith, room)) re.under re.keeps))
          (under_more tested (suc to) E.value (omega arith) re.under))
          refl fresh_on refl room later
