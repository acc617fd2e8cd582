-- The statements of each form do what the update semantics does, by what those of its parts do.
use Rattle.std.proofs.Common.{◌≡◌, ℕ, suc, ◌+◌, ◌^◌, ◌<◌, ◌≤◌, Bool, true, false, Option, Some, None, List, [], ◌∷◌, ◌++◌, length, length-append, get_or, refl, sym, ap, ◌∙◌, subst, arith, IsTrue}
use Rattle.cg_base.specs.declared.place.Place.{Place as Position}
use Rattle.std.proofs.lemmas.Bool.{ltb-true}
use Rattle.cg_base.specs.declared.kind.Word.{Word}
use Rattle.cg_base.specs.declared.kind.Word.TheVariants.{U8}
use Rattle.cg_base.specs.Words.{bits}
use Rattle.cg_kinds.specs.Kinds.{is_word}
use Rattle.cg_eval_operations.specs.Operators.{truth}
use Rattle.cg_base.specs.Types.{Tau, var as variable, seen, unit as nothing, bool as boolean, word, arrow, abs, variant, fields}
use Rattle.cg_core.specs.declared.term.Seen.{Seen}
use Rattle.cg_core.specs.Terms.{Arg, Note, Tree, term, Shape, var, unit, bool, lit, lets, let_bang, annot}
use Rattle.cg_cmachine_def.specs.Layouts.{Layout}
use Rattle.cg_cmachine_def.specs.Operands.{Frame}
use Rattle.cg_cmachine_def.specs.Runs.{Linked}
use Rattle.cg_ctree.specs.declared.tree.CTy.{CTy}
use Rattle.cg_ctree.specs.declared.tree.CTy.TheVariants as ty
use Rattle.cg_heap.specs.declared.cell.Scalar.{Scalar}
use Rattle.cg_heap.specs.declared.cell.Scalar.TheVariants.{Word as NumberScalar}
use Rattle.cg_typing.specs.Rules.{type_at}
use Rattle.cg_update.specs.Calls.{Program, types_of}
use Rattle.cg_update.specs.Machines.{is_machine}
use Rattle.cg_update.specs.Outcomes.{State, gives, bind}
use Rattle.cg_update.specs.Updates.{Calls, Variables, formed, update, update_shape}
use Rattle.cg_lower_def.specs.CTypes.{c_type}
use Rattle.cg_cgen_def.specs.Bodies.{Low, leaf}
use Rattle.cg_lower_def.specs.Lowered.{Whole, joined, low, low_shape}
use Rattle.cg_cgen_def.specs.Places.{Place, number}
use Rattle.cg_lower_def.specs.Typed.{IsTyped}
use Rattle.cg_lower_laws.proofs.Frames.{Fresh, fresh_front, fresh_back, fresh_later, Keeps, Under}
use Rattle.cg_lower_laws.proofs.Inversions.{Bound, bind_is, pay_is, formed_is, same_scalars, same_state, same_rest}
use Rattle.cg_lower_laws.proofs.Terms.{lay_c, Ran, leaf_ran, joined_ran, AreKept, kept_at, kept_later, kept_push}

-- what a node gives, behind its own 1
pub record Node (p : Program) (calls : Calls) (t : Tau) (shape : Shape Note) (vs : Variables) (s : State) (left : ℕ) (us : List Scalar) (s' : State) (rest : ℕ) : Type 0 where
  pub paid : ℕ
  pub is : left ≡ suc paid
  pub given : update_shape p calls t shape vs s paid ≡ gives us s' rest
  pub machine : is_machine (types_of p) t us ≡ true

pub node_is : (p : Program) (calls : Calls) (note : Note) (shape : Shape Note) (vs : Variables) (s : State) (left : ℕ) (us : List Scalar) (s' : State) (rest : ℕ)
    → update p calls (term note shape) vs s left ≡ gives us s' rest → Node p calls note.ty shape vs s left us s' rest
unfolding update
node_is p calls note shape vs s left us s' rest e =
    let m = pay_is left (λ rest. formed p note.ty (update_shape p calls note.ty shape vs s rest)) us s' rest e in
    let f = formed_is p note.ty (update_shape p calls note.ty shape vs s m.0) us s' rest m.2 in
    record { paid = m.0; is = m.1; given = f.0; machine = f.1 }

module _ (p : Program) (whole : Whole) (q : Linked) (l : Layout) (calls : Calls) where
  abbrev types : ℕ → Option Tau
  types = types_of p

  abbrev RanHere : ℕ → Frame → State → Low → Tau → List Scalar → State → ℕ → ℕ → Type 0
  RanHere k fr s a t us s' left rest = Ran q types whole.numbered l k fr s a t us s' left rest

  -- the same, of what is given
  pub recast : (k : ℕ) (fr : Frame) (s s1 s' : State) (a : Low) (t : Tau) (ws us : List Scalar) (left mid rest : ℕ) → gives ws s1 mid ≡ gives us s' rest
      → RanHere k fr s a t ws s1 left mid → RanHere k fr s a t us s' left rest
  recast k fr s s1 s' a t ws us left mid rest e r =
      subst (λ z. RanHere k fr s a t us z left rest) (same_state ws us s1 s' mid rest e)
      (subst (λ z. RanHere k fr s a t z s1 left rest) (same_scalars ws us s1 s' mid rest e) (subst (λ z. RanHere k fr s a t ws s1 left z) (same_rest ws us s1 s' mid rest e) r))

  -- the statements of a core do what it does, in a frame that keeps its variables
  abbrev pub Sim : Tree Note → Type 0
  Sim e = (k : ℕ) (g : List CTy) (os : List Place) (vs : Variables) (fr : Frame) (s s' : State) (left rest : ℕ) (us : List Scalar)
      → IsTyped p.functions whole.numbered q.program.structs g e → AreKept q k fr g os vs → Fresh (lay_c q) fr k (low whole k os e).locals
      → k + length (low whole k os e).locals ≤ 2 ^ 64 → update p calls e vs s left ≡ gives us s' rest
      → RanHere k fr s (low whole k os e) (type_at e) us s' left rest

  -- ---- leaves

  -- what is kept already
  pub leaf_node : (k : ℕ) (fr : Frame) (s s' : State) (v : Place) (t : Tau) (ws us : List Scalar) (left m rest : ℕ) → left ≡ suc m → gives ws s m ≡ gives us s' rest
      → is_machine types t us ≡ true → Keeps fr v (lay_c q (c_type whole.numbered t)) ws → Under k v → RanHere k fr s (leaf v) t us s' left rest
  leaf_node k fr s s' v t ws us left m rest e h machine keeps under =
      subst (λ n. RanHere k fr s (leaf v) t us s' n rest) (sym e)
      (recast k fr s s s' (leaf v) t ws us (suc m) m rest h
      (leaf_ran q types whole.numbered l k fr s v t ws m keeps under (subst (λ z. is_machine types t z ≡ true) (sym (same_scalars ws us s s' m rest h)) machine)))

  pub sim_var : (note : Note) (i : ℕ) → Sim (term note (var i))
  unfolding update_shape low low_shape
  sim_var note i k g os vs fr s s' left rest us typed kept fresh bound e =
      let n = node_is p calls note (var i) vs s left us s' rest e in
      let here = kept_at q k fr g os vs i (c_type whole.numbered note.ty) kept typed.1 in
      leaf_node k fr s s' (get_or os i (number 0)) note.ty (get_or vs i []) us left n.paid rest n.is n.given n.machine here.0 here.1

  -- a number of a word, a truth value or unit
  pub numeral : (fr : Frame) (n : ℕ) (t u : Tau) (w : Word) → t ≡ u → c_type whole.numbered u ≡ ty.Word w → n < 2 ^ bits w → Keeps fr (number n) (lay_c q (c_type whole.numbered t)) (NumberScalar n ∷ [])
  numeral fr n t u w e c h =
      let in_c : c_type whole.numbered t ≡ ty.Word w = ap (c_type whole.numbered) e ∙ c in
      record { word = w; laid = ap (lay_c q) in_c; is = refl; small = h }

  pub sim_unit : (note : Note) → Sim (term note unit)
  unfolding update_shape low low_shape
  sim_unit note k g os vs fr s s' left rest us typed kept fresh bound e =
      let n = node_is p calls note unit vs s left us s' rest e in
      leaf_node k fr s s' (number 0) note.ty (NumberScalar 0 ∷ []) us left n.paid rest n.is n.given n.machine (numeral fr 0 note.ty nothing U8 typed.1 refl (omega arith)) tt

  truth_small : (b : Bool) → truth b < 2 ^ 8
  truth_small true = omega arith
  truth_small false = omega arith

  pub sim_bool : (note : Note) (b : Bool) → Sim (term note (bool b))
  unfolding update_shape low low_shape
  sim_bool note b k g os vs fr s s' left rest us typed kept fresh bound e =
      let n = node_is p calls note (bool b) vs s left us s' rest e in
      leaf_node k fr s s' (number (truth b)) note.ty (NumberScalar (truth b) ∷ []) us left n.paid rest n.is n.given n.machine (numeral fr (truth b) note.ty boolean U8 typed.1 refl (truth_small b)) tt

  -- a type that is a word
  pub word_is : (t : Tau) → IsTrue (is_word t) → (w : Word) × (t ≡ word w)
  word_is (word w) h = (w, refl)
  word_is (variable n) h = absurd (cc)
  word_is (seen n) h = absurd (cc)
  word_is nothing h = absurd (cc)
  word_is boolean h = absurd (cc)
  word_is (arrow a b) h = absurd (cc)
  word_is (abs x args sigil) h = absurd (cc)
  word_is (variant ps) h = absurd (cc)
  word_is (fields ps sigil) h = absurd (cc)

  no_number : (t : Tau) (w : Word) → t ≡ word w → is_machine types t [] ≡ true → ⊥
  unfolding is_machine
  no_number t w e h = let m : is_machine types (word w) [] ≡ true = subst (λ z. is_machine types z [] ≡ true) e h in absurd (cc)

  pub small_number : (t : Tau) (w : Word) (n : ℕ) → t ≡ word w → is_machine types t (NumberScalar n ∷ []) ≡ true → n < 2 ^ bits w
  unfolding is_machine
  small_number t w n e h = let m : is_machine types (word w) (NumberScalar n ∷ []) ≡ true = subst (λ z. is_machine types z (NumberScalar n ∷ []) ≡ true) e h in ltb-true n (2 ^ bits w) m

  pub sim_lit : (note : Note) (value : Option ℕ) → Sim (term note (lit value))
  unfolding update_shape low low_shape
  sim_lit note None k g os vs fr s s' left rest us typed kept fresh bound e =
      let n = node_is p calls note (lit None) vs s left us s' rest e in
      let w = word_is note.ty typed.1 in
      absurd (no_number note.ty w.0 w.1 (subst (λ z. is_machine types note.ty z ≡ true) (sym (same_scalars [] us s s' n.paid rest n.given)) n.machine))
  sim_lit note (Some value) k g os vs fr s s' left rest us typed kept fresh bound e =
      let n = node_is p calls note (lit (Some value)) vs s left us s' rest e in
      let w = word_is note.ty typed.1 in
      let m = subst (λ z. is_machine types note.ty z ≡ true) (sym (same_scalars (NumberScalar value ∷ []) us s s' n.paid rest n.given)) n.machine in
      leaf_node k fr s s' (number value) note.ty (NumberScalar value ∷ []) us left n.paid rest n.is n.given n.machine
      (numeral fr value note.ty (word w.0) w.0 w.1 refl (small_number note.ty w.0 value w.1 m)) tt

  -- ---- bindings

  -- one term and then another, which has the value of the first as one more variable
  pub sim_bound : (e b : Tree Note) → Sim e → Sim b → (k : ℕ) (g : List CTy) (os : List Place) (vs : Variables) (fr : Frame) (s s' : State) (left rest : ℕ) (us : List Scalar)
      → IsTyped p.functions whole.numbered q.program.structs g e → IsTyped p.functions whole.numbered q.program.structs (g ++ c_type whole.numbered (type_at e) ∷ []) b
      → AreKept q k fr g os vs
      → Fresh (lay_c q) fr k ((low whole k os e).locals ++ (low whole (k + length (low whole k os e).locals) (os ++ (low whole k os e).value ∷ []) b).locals)
      → k + length ((low whole k os e).locals ++ (low whole (k + length (low whole k os e).locals) (os ++ (low whole k os e).value ∷ []) b).locals) ≤ 2 ^ 64
      → bind (update p calls e vs s left) (λ ws t rest. update p calls b (vs ++ ws ∷ []) t rest) ≡ gives us s' rest
      → RanHere k fr s (joined (low whole k os e) (low whole (k + length (low whole k os e).locals) (os ++ (low whole k os e).value ∷ []) b)) (type_at b) us s' (suc left) rest
  sim_bound e b he hb k g os vs fr s s' left rest us te tb kept fresh bound h =
      joined_ran q types whole.numbered l k (k + length (low whole k os e).locals) fr s two.state s' (low whole k os e)
      (low whole (k + length (low whole k os e).locals) (os ++ (low whole k os e).value ∷ []) b) (type_at e) (type_at b) two.scalars us left two.rest rest refl first second
    where
      two : Bound (update p calls e vs s left) (λ ws t rest. update p calls b (vs ++ ws ∷ []) t rest) us s' rest
      two = bind_is (update p calls e vs s left) (λ ws t rest. update p calls b (vs ++ ws ∷ []) t rest) us s' rest h

      next : ℕ
      next = k + length (low whole k os e).locals

      others : List CTy
      others = (low whole next (os ++ (low whole k os e).value ∷ []) b).locals

      len : length ((low whole k os e).locals ++ others) ≡ length (low whole k os e).locals + length others
      len = length-append (low whole k os e).locals others

      first : RanHere k fr s (low whole k os e) (type_at e) two.scalars two.state left two.rest
      first = he k g os vs fr s two.state left two.rest two.scalars te kept (fresh_front (lay_c q) fr k (low whole k os e).locals others fresh) (omega (arith, len, bound)) two.first

      second : RanHere next first.frame two.state (low whole next (os ++ (low whole k os e).value ∷ []) b) (type_at b) us s' two.rest rest
      second =
          hb next (g ++ c_type whole.numbered (type_at e) ∷ []) (os ++ (low whole k os e).value ∷ []) (vs ++ two.scalars ∷ []) first.frame two.state s' two.rest rest us tb
          (kept_push q next first.frame g os vs (c_type whole.numbered (type_at e)) (low whole k os e).value two.scalars
          (kept_later q k next fr first.frame g os vs (omega arith) (omega (arith, len, bound)) first.went.changes kept) first.keeps first.under)
          (fresh_later (lay_c q) k next next fr first.frame others first.went.changes (omega arith) (omega (arith, len, bound)) (fresh_back (lay_c q) fr k next (low whole k os e).locals others refl fresh))
          (omega (arith, len, bound)) two.later

  -- a node of the type of its last part, at a budget of 1 more
  pub retyped : (k : ℕ) (fr : Frame) (s s' : State) (a : Low) (t u : Tau) (us : List Scalar) (left m rest : ℕ) → left ≡ suc m → t ≡ u → RanHere k fr s a u us s' (suc m) rest → RanHere k fr s a t us s' left rest
  retyped k fr s s' a t u us left m rest e f r = subst (λ n. RanHere k fr s a t us s' n rest) (sym e) (subst (λ z. RanHere k fr s a z us s' (suc m) rest) (sym f) r)

  pub sim_lets : (note : Note) (binder : Position) (e b : Tree Note) → Sim e → Sim b → Sim (term note (lets binder e b))
  unfolding update_shape low low_shape
  sim_lets note binder e b he hb k g os vs fr s s' left rest us typed kept fresh bound h =
      let n = node_is p calls note (lets binder e b) vs s left us s' rest h in
      retyped k fr s s' (low whole k os (term note (lets binder e b))) note.ty (type_at b) us left n.paid rest n.is typed.1.2
      (sim_bound e b he hb k g os vs fr s s' n.paid rest us typed.1.0 typed.1.1 kept fresh bound n.given)

  pub sim_let_bang : (note : Note) (observers : List Seen) (binder : Position) (e b : Tree Note) → Sim e → Sim b → Sim (term note (let_bang observers binder e b))
  unfolding update_shape low low_shape
  sim_let_bang note observers binder e b he hb k g os vs fr s s' left rest us typed kept fresh bound h =
      let n = node_is p calls note (let_bang observers binder e b) vs s left us s' rest h in
      retyped k fr s s' (low whole k os (term note (let_bang observers binder e b))) note.ty (type_at b) us left n.paid rest n.is typed.1.2
      (sim_bound e b he hb k g os vs fr s s' n.paid rest us typed.1.0 typed.1.1 kept fresh bound n.given)

  -- ---- annotations and conversions

  -- more of the budget was there
  pub more_left : (k : ℕ) (fr : Frame) (s s' : State) (a : Low) (t : Tau) (us : List Scalar) (left more rest : ℕ) → left ≤ more → RanHere k fr s a t us s' left rest → RanHere k fr s a t us s' more rest
  more_left k fr s s' a t us left more rest h r =
      record { steps = r.steps; frame = r.frame; within = omega (arith, h, r.within); went = r.went; keeps = r.keeps; under = r.under; machine = r.machine }

  pub sim_annot : (note : Note) (e : Tree Note) (arg : Arg) → Sim e → Sim (term note (annot e arg))
  unfolding update_shape low low_shape
  sim_annot note e arg he k g os vs fr s s' left rest us typed kept fresh bound h =
      let n = node_is p calls note (annot e arg) vs s left us s' rest h in
      retyped k fr s s' (low whole k os e) note.ty (type_at e) us left n.paid rest n.is typed.1.1
      (more_left k fr s s' (low whole k os e) (type_at e) us n.paid (suc n.paid) rest (omega arith)
      (he k g os vs fr s s' n.paid rest us typed.1.0 kept fresh bound n.given))
