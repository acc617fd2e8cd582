-- Parts of values: what a `case` leaves, members, and takes. A part of an unboxed record or of a variant is a path, and no copy; a field of a
-- boxed record is read from its cell.
use Rattle.std.proofs.Common.{◌≡◌, ℕ, suc, ◌+◌, ◌*◌, ◌^◌, ◌<◌, ◌≤◌, true, Option, Some, None, List, [], ◌∷◌, ◌++◌, length, length-append, replicate, refl, sym, ap, ◌∙◌, subst, arith, IsTrue}
use Rattle.cg_base.specs.declared.kind.Sigil.{Sigil}
use Rattle.cg_base.specs.declared.kind.Sigil.TheVariants.{R, W, U}
use Rattle.cg_base.specs.declared.place.Place.{Place as Position}
use Rattle.cg_base.specs.Types.{Tau, var, seen, unit, word, bool, arrow, abs, variant, fields, Parts}
use Rattle.cg_core.specs.declared.at.At.{At}
use Rattle.cg_core.specs.Terms.{Note, Tree, term, Shape, esac, member, take_field}
use Rattle.cg_cmachine_def.specs.Layouts.{Layout, layout, pointer, size}
use Rattle.cg_cmachine_def.specs.Operands.{Frame, give, read_path, typed as value_of, Value}
use Rattle.cg_cmachine_def.specs.Outcomes.{ok}
use Rattle.cg_cmachine_def.specs.Runs.{Linked, plain}
use Rattle.cg_cmachine_def.specs.Targets.{with_scalars}
use Rattle.cg_ctree.specs.declared.tree.COpnd.TheVariants.{Path}
use Rattle.cg_ctree.specs.declared.tree.CRhs.{CRhs}
use Rattle.cg_ctree.specs.declared.tree.CRhs.TheVariants.{Opnd}
use Rattle.cg_ctree.specs.declared.tree.CTy.{CTy}
use Rattle.cg_ctree.specs.declared.tree.CTy.TheVariants as ty
use Rattle.cg_ctree.specs.Trees.{Stmt, assign}
use Rattle.cg_heap.specs.declared.cell.Cell.{Cell}
use Rattle.cg_heap.specs.declared.cell.Cell.TheVariants.{Slots, Words, Answers}
use Rattle.cg_heap.specs.declared.cell.Scalar.{Scalar}
use Rattle.cg_heap.specs.declared.cell.Scalar.TheVariants.{Unset, Address}
use Rattle.cg_heap.specs.Reps.{tail, first_address}
use Rattle.cg_heap.specs.Stored.{cell_at}
use Rattle.cg_eval_operations.specs.Positions.{position, position_among}
use Rattle.cg_typing.specs.Parts.{alternative_in, field_in, held as held_type, is_left, with_part}
use Rattle.cg_typing.specs.Rules.{type_at}
use Rattle.cg_update.specs.Calls.{Program, types_of}
use Rattle.cg_update.specs.Machines.{is_address, is_machine, part_at, type_of_part}
use Rattle.cg_update.specs.Outcomes.{State, Outcome, gives, on, where_true}
use Rattle.cg_update.specs.Turns.{alternatives_in, field_type, fields_in, place_in}
use Rattle.cg_update.specs.Updates.{Calls, Variables, cell_slots, read, row_of, sigil_of, update, update_shape}
use Rattle.cg_lower_def.specs.CTypes.{c_type, IsDeclared, record_struct}
use Rattle.cg_cgen_def.specs.Bodies.{Low}
use Rattle.cg_lower_def.specs.Lowered.{Whole, bare, bare_by, copy, fetching, joined, low, low_member, low_shape, remainder, set}
use Rattle.cg_cgen_def.specs.Places.{Base, local, Place, number, held, field, payload, arrow_path, at, base_name, base_of, local_name, operand, path}
use Rattle.cg_lower_def.specs.Simulated.{as_run}
use Rattle.cg_lower_def.specs.Typed.{IsTyped}
use Rattle.cg_lower_laws.proofs.Frames.{Is, set_is, Changes, changes_none, changes_set, changes_wider, Fresh, fresh_back, fresh_front, fresh_later, Keeps, is_kept, kept_is, keeps_later, Under, under_at, under_more}
use Rattle.cg_lower_laws.proofs.Inversions.{Bound, bind_is, on_is, where_is, same_scalars}
use Rattle.cg_lower_laws.proofs.Layouts.{lay, machine_slots, named_is, part_declared, size_slots, left_there, with_part_type}
use Rattle.cg_lower_laws.proofs.Nodes.{Node, node_is, Sim, recast, retyped}
use Rattle.cg_lower_laws.proofs.Operands.{address_is, given_typed, IsReadable, keeps_field, keeps_payload, machine_readable, read_cell, reads, write_whole}
use Rattle.cg_lower_laws.proofs.Runs.{is_plain, runs_plain}
use Rattle.cg_lower_laws.proofs.Terms.{AreKept, kept_later, lay_c, next_local, Ran, Went, went_joined, went_set}

-- the locals of a term come first among those of its copy, and of its field
pub bare_fresh : (lay : CTy → Layout) (fr : Frame) (k : ℕ) (t : CTy) (a : Low) (v : Place) → Fresh lay fr k (bare_by k t a v).locals → Fresh lay fr k a.locals
bare_fresh lay fr k t a (number n) f = fresh_front lay fr k a.locals (t ∷ []) f
bare_fresh lay fr k t a (held b []) f = f
bare_fresh lay fr k t a (held b (x ∷ steps)) f = fresh_front lay fr k a.locals (t ∷ []) f

pub bare_room : (k : ℕ) (t : CTy) (a : Low) (v : Place) → k + length (bare_by k t a v).locals ≤ 2 ^ 64 → k + length a.locals ≤ 2 ^ 64
bare_room k t a (number n) h = let len = length-append a.locals (t ∷ []) in omega (arith, len, h)
bare_room k t a (held b []) h = h
bare_room k t a (held b (x ∷ steps)) h = let len = length-append a.locals (t ∷ []) in omega (arith, len, h)

member_fresh : (lay : CTy → Layout) (fr : Frame) (k : ℕ) (sigil : Sigil) (r t : CTy) (i : ℕ) (a : Low) → Fresh lay fr k (low_member k sigil r t i a).locals → Fresh lay fr k a.locals
member_fresh lay fr k U r t i a f = f
member_fresh lay fr k R r t i a f = bare_fresh lay fr k r a a.value (fresh_front lay fr k (bare k r a).locals (t ∷ []) f)
member_fresh lay fr k W r t i a f = bare_fresh lay fr k r a a.value (fresh_front lay fr k (bare k r a).locals (t ∷ []) f)

member_room : (k : ℕ) (sigil : Sigil) (r t : CTy) (i : ℕ) (a : Low) → k + length (low_member k sigil r t i a).locals ≤ 2 ^ 64 → k + length a.locals ≤ 2 ^ 64
member_room k U r t i a h = h
member_room k R r t i a h = bare_room k r a a.value (let len = length-append (bare k r a).locals (t ∷ []) in omega (arith, len, h))
member_room k W r t i a h = bare_room k r a a.value (let len = length-append (bare k r a).locals (t ∷ []) in omega (arith, len, h))

-- two variables more
kept_push_two : (q : Linked) (k : ℕ) (fr : Frame) (ts : List CTy) (vs : List Place) (uss : List (List Scalar)) (t u : CTy) (v w : Place) (us ws : List Scalar) → AreKept q k fr ts vs uss
    → Keeps fr v (lay_c q t) us → Under k v → Keeps fr w (lay_c q u) ws → Under k w → AreKept q k fr (ts ++ t ∷ u ∷ []) (vs ++ v ∷ w ∷ []) (uss ++ us ∷ ws ∷ [])
kept_push_two q k fr [] [] [] t u v w us ws x y h z i = (y, h, (z, i, tt))
kept_push_two q k fr (r ∷ ts) (o ∷ vs) (os ∷ uss) t u v w us ws x y h z i = (x.0, x.1, kept_push_two q k fr ts vs uss t u v w us ws x.2 y h z i)
kept_push_two q k fr [] (o ∷ vs) uss t u v w us ws x y h z i = absurd x
kept_push_two q k fr [] [] (os ∷ uss) t u v w us ws x y h z i = absurd x
kept_push_two q k fr (r ∷ ts) [] uss t u v w us ws x y h z i = absurd x
kept_push_two q k fr (r ∷ ts) (o ∷ vs) [] t u v w us ws x y h z i = absurd x

-- ---- the one alternative that is left

module _ (numbered : Tau → ℕ) (q : Linked) where
  -- the payload of an alternative that a variant has, of its type
  pub keeps_alternative : (types : ℕ → Option Tau) (fr : Frame) (v : Place) (t : Tau) (x : List ℕ) (us ws : List Scalar) → IsTrue (is_left (alternative_in x t)) → IsDeclared numbered q.program.structs t
      → Keeps fr v (lay numbered q.program.structs t) us → is_machine types t us ≡ true → part_at (place_in x t) (alternatives_in t) (tail us) ≡ Some ws
      → Keeps fr (at (payload (place_in x t)) v) (lay numbered q.program.structs (held_type (alternative_in x t))) ws
  unfolding is_machine
  keeps_alternative types fr v (variant ps) x [] ws h d k m e = absurd (cc)
  keeps_alternative types fr v (variant ps) x (u ∷ us) ws h d k m e =
      subst (λ t. Keeps fr (at (payload (place_in x (variant ps))) v) (lay numbered q.program.structs t) ws) (sym (named_is x ps (left_there x ps h)).0)
      (keeps_payload numbered q.program.structs fr v ps (place_in x (variant ps)) u us ws d k e)
  keeps_alternative types fr v (var n) x us ws h d k m e = absurd (cc)
  keeps_alternative types fr v (seen n) x us ws h d k m e = absurd (cc)
  keeps_alternative types fr v unit x us ws h d k m e = absurd (cc)
  keeps_alternative types fr v (word w) x us ws h d k m e = absurd (cc)
  keeps_alternative types fr v bool x us ws h d k m e = absurd (cc)
  keeps_alternative types fr v (arrow a b) x us ws h d k m e = absurd (cc)
  keeps_alternative types fr v (abs y args sigil) x us ws h d k m e = absurd (cc)
  keeps_alternative types fr v (fields ps sigil) x us ws h d k m e = absurd (cc)

module _ (p : Program) (whole : Whole) (q : Linked) (l : Layout) (calls : Calls) (few : (k : ℕ) (t : Tau) → types_of p k ≡ Some t → k < 2 ^ 32) where
  abbrev lay_of : Tau → Layout
  lay_of t = lay whole.numbered q.program.structs t

  -- the structs of a node's type are declared
  pub declared_at : (g : List CTy) (e : Tree Note) → IsTyped p.functions whole.numbered q.program.structs g e → IsDeclared whole.numbered q.program.structs (type_at e)
  declared_at g (term note shape) t = t.0

  abbrev RanHere : ℕ → Frame → State → Low → Tau → List Scalar → State → ℕ → ℕ → Type 0
  RanHere k fr s a t us s' left rest = Ran q (types_of p) whole.numbered l k fr s a t us s' left rest

  -- a term's value at another place, at a node that costs 1 more and takes no steps
  placed : (k : ℕ) (fr : Frame) (s s' : State) (a : Low) (t u : Tau) (us ws : List Scalar) (left rest : ℕ) (v : Place) → (r : RanHere k fr s a t us s' left rest)
      → Keeps r.frame v (lay_of u) ws → Under (k + length a.locals) v → is_machine (types_of p) u ws ≡ true
      → RanHere k fr s (record { value = v; locals = a.locals; code = a.code }) u ws s' (suc left) rest
  placed k fr s s' a t u us ws left rest v r keeps under machine =
      record {
        steps = r.steps;
        frame = r.frame;
        within = omega (arith, r.within);
        went = record { runs = r.went.runs; changes = r.went.changes };
        keeps = keeps;
        under = under;
        machine = machine;
      }

  -- a node that gives what a part of its subject is
  given_by_part : (note : Note) (shape : Shape Note) (vs : Variables) (k : ℕ) (fr : Frame) (s s1 s' : State) (a : Low) (u : Tau) (us ws : List Scalar) (left mid rest : ℕ) → (n : Node p calls note.ty shape vs s left us s' rest)
      → gives ws s1 mid ≡ gives us s' rest → note.ty ≡ u → (is_machine (types_of p) u ws ≡ true → RanHere k fr s a u ws s1 (suc n.paid) mid) → RanHere k fr s a note.ty us s' left rest
  given_by_part note shape vs k fr s s1 s' a u us ws left mid rest n h e r =
      let machine : is_machine (types_of p) u ws ≡ true = subst (λ z. is_machine (types_of p) z ws ≡ true) e (subst (λ z. is_machine (types_of p) note.ty z ≡ true) (sym (same_scalars ws us s1 s' mid rest h)) n.machine) in
      retyped p whole q l calls k fr s s' a note.ty u us left n.paid rest n.is e (recast p whole q l calls k fr s s1 s' a u ws us (suc n.paid) mid rest h (r machine))

  pub sim_esac : (note : Note) (name : At) (e : Tree Note) → Sim p whole q l calls e → Sim p whole q l calls (term note (esac name e))
  unfolding update_shape low low_shape
  sim_esac note name e he k g os vs fr s s' left rest us typed kept fresh bound h =
      given_by_part note (esac name e) vs k fr s two.state s' (low whole k os (term note (esac name e))) (held_type (alternative_in name.name (type_at e))) us part.0 left two.rest rest n part.2 typed.1.2 (λ machine.
      placed k fr s two.state (low whole k os e) (type_at e) (held_type (alternative_in name.name (type_at e))) two.scalars part.0 n.paid two.rest
      (at (payload (place_in name.name (type_at e))) (low whole k os e).value) r
      (keeps_alternative whole.numbered q (types_of p) r.frame (low whole k os e).value (type_at e) name.name two.scalars part.0 typed.1.1 (declared_at g e typed.1.0) r.keeps r.machine part.1)
      (under_at (k + length (low whole k os e).locals) (payload (place_in name.name (type_at e))) (low whole k os e).value r.under)
      machine)
    where
      n : Node p calls note.ty (esac name e) vs s left us s' rest
      n = node_is p calls note (esac name e) vs s left us s' rest h

      two : Bound (update p calls e vs s n.paid) (λ us t rest. on (part_at (place_in name.name (type_at e)) (alternatives_in (type_at e)) (tail us)) (λ ws. gives ws t rest)) us s' rest
      two = bind_is (update p calls e vs s n.paid) (λ us t rest. on (part_at (place_in name.name (type_at e)) (alternatives_in (type_at e)) (tail us)) (λ ws. gives ws t rest)) us s' rest n.given

      part : (ws : List Scalar) × (part_at (place_in name.name (type_at e)) (alternatives_in (type_at e)) (tail two.scalars) ≡ Some ws) × (gives ws two.state two.rest ≡ gives us s' rest)
      part = on_is (part_at (place_in name.name (type_at e)) (alternatives_in (type_at e)) (tail two.scalars)) (λ ws. gives ws two.state two.rest) us s' rest two.later

      r : RanHere k fr s (low whole k os e) (type_at e) two.scalars two.state n.paid two.rest
      r = he k g os vs fr s two.state n.paid two.rest two.scalars typed.1.0 kept fresh bound two.first

  -- ---- steps

  -- what is run in at most so many steps
  pub record Counted (k : ℕ) (fr : Frame) (s : State) (a : Low) (t : Tau) (us : List Scalar) (s1 : State) (most : ℕ) : Type 0 where
    pub steps : ℕ
    pub frame : Frame
    pub within : steps ≤ most
    pub went : Went q l k fr (as_run s) a steps frame (as_run s1)
    pub keeps : Keeps frame a.value (lay_of t) us
    pub under : Under (k + length a.locals) a.value
    pub machine : is_machine (types_of p) t us ≡ true

  abbrev pub counted : (k : ℕ) (fr : Frame) (s s1 : State) (a : Low) (t : Tau) (us : List Scalar) (left rest most : ℕ) → (r : RanHere k fr s a t us s1 left rest) → r.steps ≤ most → Counted k fr s a t us s1 most
  counted k fr s s1 a t us left rest most r h =
      record { steps = r.steps; frame = r.frame; within = h; went = r.went; keeps = r.keeps; under = r.under; machine = r.machine }

  pub ran_of : (k : ℕ) (fr : Frame) (s s1 : State) (a : Low) (t : Tau) (us : List Scalar) (left rest most : ℕ) → Counted k fr s a t us s1 most → most + 32 * rest ≤ 32 * left → RanHere k fr s a t us s1 left rest
  ran_of k fr s s1 a t us left rest most c h =
      record { steps = c.steps; frame = c.frame; within = let w = c.within in omega (arith, w, h); went = c.went; keeps = c.keeps; under = c.under; machine = c.machine }

  -- one assignment more, which changes the next local alone
  pub record Assigned (k : ℕ) (fr : Frame) (s : State) (a : Low) (u : Tau) (ws : List Scalar) (s1 : State) (most : ℕ) (before : Frame) (stmts : ℕ → List Stmt) : Type 0 where
    pub ran : Counted k fr s (set k (c_type whole.numbered u) a stmts) u ws s1 most
    pub alone : Changes (k + length a.locals) (suc (k + length a.locals)) before ran.frame

  -- of what needs no call
  pub assigned : (k : ℕ) (fr : Frame) (s s1 : State) (a : Low) (t u : Tau) (us ws : List Scalar) (r : ℕ → CRhs) (v : Value) (most : ℕ) → IsDeclared whole.numbered q.program.structs u
      → Fresh (lay_c q) fr k (a.locals ++ c_type whole.numbered u ∷ []) → k + length (a.locals ++ c_type whole.numbered u ∷ []) ≤ 2 ^ 64
      → (c : Counted k fr s a t us s1 most) → is_plain (r (k + length a.locals)) ≡ true → plain q.program.structs s1.store c.frame (r (k + length a.locals)) ≡ ok v → give (lay_of u) v ≡ ok ws
      → is_machine (types_of p) u ws ≡ true
      → Assigned k fr s a u ws s1 (most + 1) c.frame (λ to. assign (path (local to) []) (r to) ∷ [])
  assigned k fr s s1 a t u us ws r v most d fresh bound c simple j g machine =
      let to = k + length a.locals in
      let next = next_local q l k to fr c.frame (as_run s) (as_run s1) a (c_type whole.numbered u) [] c.steps refl bound fresh c.went in
      let sized : length ws ≡ size (lay_of u) = machine_slots (types_of p) u ws machine ∙ sym (size_slots whole.numbered q.program.structs u d) in
      record {
        ran = record {
          steps = c.steps + 1;
          frame = with_scalars (local_name to) ws c.frame;
          within = let w = c.within in omega (arith, w);
          went = went_set q l k to fr c.frame (with_scalars (local_name to) ws c.frame) (as_run s) (as_run s1) (as_run s1) (c_type whole.numbered u) a (λ to. assign (path (local to) []) (r to) ∷ []) c.steps 1 refl c.went
              (runs_plain q l (path (local to) []) (r to) c.frame (as_run s1) v (record { frame = with_scalars (local_name to) ws c.frame; store = s1.store }) simple j
              (write_whole whole.numbered q.program.structs s1.store c.frame (local to) (lay_of u) (replicate (size (lay_of u)) Unset) ws v next.0 g))
              (changes_set to (suc to) to c.frame ws (omega arith) (omega arith));
          keeps = is_kept (with_scalars (local_name to) ws c.frame) (local to) (lay_of u) ws (set_is c.frame (local_name to) (lay_of u) (replicate (size (lay_of u)) Unset) ws next.0 sized);
          under = let len = length-append a.locals (c_type whole.numbered u ∷ []) in omega (arith, len);
          machine = machine;
        };
        alone = changes_set to (suc to) to c.frame ws (omega arith) (omega arith);
      }

  -- ---- values in variables of their own

  -- a copy in the next local
  pub copied : (k : ℕ) (fr : Frame) (s s1 : State) (a : Low) (t : Tau) (us : List Scalar) (most : ℕ) (v : Place) → a.value ≡ v → IsDeclared whole.numbered q.program.structs t
      → Fresh (lay_c q) fr k (a.locals ++ c_type whole.numbered t ∷ []) → k + length (a.locals ++ c_type whole.numbered t ∷ []) ≤ 2 ^ 64
      → (c : Counted k fr s a t us s1 most) → Assigned k fr s a t us s1 (most + 1) c.frame (copy v)
  copied k fr s s1 a t us most v e d fresh bound c =
      let readable = machine_readable whole.numbered q.program.structs (types_of p) few t us c.machine in
      let x = reads whole.numbered q.program.structs s1.store c.frame v (lay_of t) us (subst (λ z. Keeps c.frame z (lay_of t) us) e c.keeps) readable in
      assigned k fr s s1 a t t us us (λ to. Opnd (operand v)) x.value most d fresh bound c refl x.read x.given c.machine

  -- a value in a variable, which changed none but locals from number n on
  pub record Bare (k : ℕ) (fr : Frame) (s : State) (b : Low) (t : Tau) (us : List Scalar) (s1 : State) (most n : ℕ) (before : Frame) : Type 0 where
    pub ran : Counted k fr s b t us s1 most
    pub alone : Changes n (k + length b.locals) before ran.frame
    pub base : Base
    pub is : b.value ≡ held base []

  -- a copy as such a value
  pub copy_bare : (k : ℕ) (fr : Frame) (s s1 : State) (a : Low) (t : Tau) (us : List Scalar) (most : ℕ) (before : Frame) (v : Place) → Assigned k fr s a t us s1 most before (copy v)
      → Bare k fr s (set k (c_type whole.numbered t) a (copy v)) t us s1 most (k + length a.locals) before
  copy_bare k fr s s1 a t us most before v x =
      record {
        ran = x.ran;
        alone = changes_wider (k + length a.locals) (k + length (a.locals ++ c_type whole.numbered t ∷ [])) (k + length a.locals) (suc (k + length a.locals)) before x.ran.frame (omega arith)
            (let len = length-append a.locals (c_type whole.numbered t ∷ []) in omega (arith, len)) x.alone;
        base = local (k + length a.locals);
        is = refl;
      }

  more_steps : (k : ℕ) (fr : Frame) (s s1 : State) (a : Low) (t : Tau) (us : List Scalar) (most n : ℕ) → most ≤ n → Counted k fr s a t us s1 most → Counted k fr s a t us s1 n
  more_steps k fr s s1 a t us most n h c =
      record { steps = c.steps; frame = c.frame; within = let w = c.within in omega (arith, w, h); went = c.went; keeps = c.keeps; under = c.under; machine = c.machine }

  -- what is in a variable already
  pub still_bare : (k : ℕ) (fr : Frame) (s s1 : State) (a : Low) (t : Tau) (us : List Scalar) (most : ℕ) (b : Base) → a.value ≡ held b [] → (c : Counted k fr s a t us s1 most)
      → Bare k fr s a t us s1 (most + 1) (k + length a.locals) c.frame
  unfolding more_steps
  still_bare k fr s s1 a t us most b e c =
      record { ran = more_steps k fr s s1 a t us most (most + 1) (omega arith) c; alone = changes_none (k + length a.locals) (k + length a.locals) c.frame; base = b; is = e }

  pub bared : (k : ℕ) (fr : Frame) (s s1 : State) (a : Low) (t : Tau) (us : List Scalar) (most : ℕ) (v : Place) → a.value ≡ v → IsDeclared whole.numbered q.program.structs t
      → Fresh (lay_c q) fr k (bare_by k (c_type whole.numbered t) a v).locals → k + length (bare_by k (c_type whole.numbered t) a v).locals ≤ 2 ^ 64
      → (c : Counted k fr s a t us s1 most) → Bare k fr s (bare_by k (c_type whole.numbered t) a v) t us s1 (most + 1) (k + length a.locals) c.frame
  bared k fr s s1 a t us most (number n) e d fresh bound c = copy_bare k fr s s1 a t us (most + 1) c.frame (number n) (copied k fr s s1 a t us most (number n) e d fresh bound c)
  bared k fr s s1 a t us most (held b []) e d fresh bound c = still_bare k fr s s1 a t us most b e c
  bared k fr s s1 a t us most (held b (x ∷ steps)) e d fresh bound c =
      copy_bare k fr s s1 a t us (most + 1) c.frame (held b (x ∷ steps)) (copied k fr s s1 a t us most (held b (x ∷ steps)) e d fresh bound c)

  -- the variable of a value that is in one
  pub bare_is : (k : ℕ) (fr : Frame) (s s1 : State) (b : Low) (t : Tau) (us : List Scalar) (most n : ℕ) (before : Frame) → (x : Bare k fr s b t us s1 most n before) → Is x.ran.frame (base_name (base_of b.value)) (lay_of t) us
  bare_is k fr s s1 b t us most n before x =
      subst (λ z. Is x.ran.frame (base_name (base_of z)) (lay_of t) us) (sym x.is) (kept_is x.ran.frame x.base (lay_of t) us (subst (λ z. Keeps x.ran.frame z (lay_of t) us) x.is x.ran.keeps))

  -- ---- fields

  -- a field that is read is there, and is a machine value of its type
  record IsRead (t : Tau) (i : ℕ) (us : List Scalar) (s : State) (rest : List Scalar → Outcome) (ws : List Scalar) (s' : State) (left : ℕ) : Type 0 where
    row : List Scalar
    stands : row_of (sigil_of t) us s.store ≡ Some row
    scalars : List Scalar
    part : part_at i (fields_in t) row ≡ Some scalars
    machine : is_machine (types_of p) (field_type t i) scalars ≡ true
    later : rest scalars ≡ gives ws s' left

  read_is : (t : Tau) (i : ℕ) (us : List Scalar) (s : State) (rest : List Scalar → Outcome) (ws : List Scalar) (s' : State) (left : ℕ) → read p t i us s rest ≡ gives ws s' left
      → IsRead t i us s rest ws s' left
  read_is t i us s rest ws s' left e =
      let row = on_is (row_of (sigil_of t) us s.store) (λ row. on (part_at i (fields_in t) row) (λ ws. where_true (is_machine (types_of p) (field_type t i) ws) (rest ws))) ws s' left e in
      let part = on_is (part_at i (fields_in t) row.0) (λ ws. where_true (is_machine (types_of p) (field_type t i) ws) (rest ws)) ws s' left row.2 in
      let true' = where_is (is_machine (types_of p) (field_type t i) part.0) (rest part.0) ws s' left part.2 in
      record { row = row.0; stands = row.1; scalars = part.0; part = part.1; machine = true'.0; later = true'.1 }

  -- the cell of a boxed record
  pub cell_is : (c : Option Cell) (row : List Scalar) → cell_slots c ≡ Some row → c ≡ Some (Slots row)
  cell_is (Some (Slots us)) row e = ap (λ z. Some (Slots z)) (let same : us ≡ row = cc in same)
  cell_is (Some (Words ns)) row e = absurd (cc)
  cell_is (Some (Answers bs)) row e = absurd (cc)
  cell_is None row e = absurd (cc)

  -- A field of a record is kept at a place, and so is the record.
  pub record Fetched (k : ℕ) (fr : Frame) (s : State) (a : Low) (t : Tau) (us : List Scalar) (i : ℕ) (ws : List Scalar) (s1 : State) (most : ℕ) : Type 0 where
    pub ran : Counted k fr s (low_member k (sigil_of t) (c_type whole.numbered t) (c_type whole.numbered (field_type t i)) i a) (field_type t i) ws s1 most
    pub remains : Keeps ran.frame (remainder k (sigil_of t) (c_type whole.numbered t) a) (lay_of t) us
    pub under :
        Under (k + length (low_member k (sigil_of t) (c_type whole.numbered t) (c_type whole.numbered (field_type t i)) i a).locals)
        (remainder k (sigil_of t) (c_type whole.numbered t) a)

  -- the field of a boxed record, and the record in its variable, where that has been read from the cell
  record FromCell (k : ℕ) (fr : Frame) (s : State) (b : Low) (t f : Tau) (us : List Scalar) (i : ℕ) (ws : List Scalar) (s1 : State) (most : ℕ) : Type 0 where
    ran : Counted k fr s (set k (c_type whole.numbered f) b (fetching (base_of b.value) i)) f ws s1 most
    remains : Keeps ran.frame b.value (lay_of t) us
    under : Under (k + length (b.locals ++ c_type whole.numbered f ∷ [])) b.value

  from_cell : (k : ℕ) (fr : Frame) (s s1 : State) (b : Low) (t f : Tau) (ps : Parts) (sigil : Sigil) (i at' : ℕ) (us row ws : List Scalar) (most : ℕ)
      → c_type whole.numbered t ≡ ty.Pointer (record_struct whole.numbered ps) → IsDeclared whole.numbered q.program.structs (fields ps sigil) → f ≡ type_of_part i ps
      → IsDeclared whole.numbered q.program.structs f
      → us ≡ Address at' ∷ [] → cell_at s1.store at' ≡ Some (Slots row) → part_at i ps row ≡ Some ws → is_machine (types_of p) f ws ≡ true
      → Fresh (lay_c q) fr k (b.locals ++ c_type whole.numbered f ∷ []) → k + length (b.locals ++ c_type whole.numbered f ∷ []) ≤ 2 ^ 64
      → (n : ℕ) (before : Frame) → Bare k fr s b t us s1 most n before → FromCell k fr s b t f us i ws s1 (most + 1)
  from_cell k fr s s1 b t f ps sigil i at' us row ws most c d same df e cell part machine fresh bound n before x =
      record {
        ran = made.ran;
        remains = keeps_later to (suc to) x.ran.frame made.ran.frame b.value (lay_of t) us made.alone (omega (arith, len, bound)) x.ran.under x.ran.keeps;
        under = under_more to (k + length (b.locals ++ c_type whole.numbered f ∷ [])) b.value (omega (arith, len)) x.ran.under;
      }
    where
      to : ℕ
      to = k + length b.locals

      len : length (b.locals ++ c_type whole.numbered f ∷ []) ≡ length b.locals + length (c_type whole.numbered f ∷ [])
      len = length-append b.locals (c_type whole.numbered f ∷ [])

      pointed : Is x.ran.frame (base_name (base_of b.value)) (pointer (record_struct whole.numbered ps)) (Address at' ∷ [])
      pointed =
          subst (λ z. Is x.ran.frame (base_name (base_of b.value)) (pointer (record_struct whole.numbered ps)) z) e
          (subst (λ z. Is x.ran.frame (base_name (base_of b.value)) (layout q.program.structs z) us) c (bare_is k fr s s1 b t us most n before x))

      readable : IsReadable (lay_of f) ws
      readable = machine_readable whole.numbered q.program.structs (types_of p) few f ws machine

      read_there : read_path q.program.structs s1.store x.ran.frame (arrow_path (base_of b.value) (field i ∷ [])) ≡ ok (value_of (lay_of f) ws)
      read_there =
          subst (λ z. read_path q.program.structs s1.store x.ran.frame (arrow_path (base_of b.value) (field i ∷ [])) ≡ ok (value_of (lay_of z) ws)) (sym same)
          (read_cell whole.numbered q.program.structs s1.store x.ran.frame (base_of b.value) ps sigil i at' row ws d pointed cell part (subst (λ z. IsReadable (lay_of z) ws) same readable))

      made : Assigned k fr s b f ws s1 (most + 1) x.ran.frame (fetching (base_of b.value) i)
      made =
          assigned k fr s s1 b t f us ws (λ to. Opnd (Path (arrow_path (base_of b.value) (field i ∷ [])))) (value_of (lay_of f) ws) most df fresh bound x.ran refl read_there
          (given_typed (lay_of f) ws) machine

  -- the structs of a field that is left
  pub field_there : (x : List ℕ) (ps : Parts) (sigil : Sigil) → IsTrue (is_left (field_in x (fields ps sigil))) → IsDeclared whole.numbered q.program.structs (fields ps sigil)
      → IsDeclared whole.numbered q.program.structs (type_of_part (position x (fields ps sigil)) ps)
  unfolding IsDeclared position
  field_there x ps sigil h d = part_declared whole.numbered q.program.structs ps (position_among x ps) d.2 (named_is x ps (left_there x ps h)).1

  -- a boxed record, whose cell has this row
  boxed : (k : ℕ) (fr : Frame) (s s1 : State) (a : Low) (t : Tau) (ps : Parts) (sigil : Sigil) (x : List ℕ) (us row ws : List Scalar) (most : ℕ)
      → c_type whole.numbered t ≡ ty.Pointer (record_struct whole.numbered ps) → IsTrue (is_left (field_in x (fields ps sigil))) → IsDeclared whole.numbered q.program.structs t
      → IsDeclared whole.numbered q.program.structs (fields ps sigil) → is_address us ≡ true
      → cell_slots (cell_at s1.store (first_address us)) ≡ Some row → part_at (position x (fields ps sigil)) ps row ≡ Some ws
      → is_machine (types_of p) (type_of_part (position x (fields ps sigil)) ps) ws ≡ true
      → Fresh (lay_c q) fr k ((bare k (c_type whole.numbered t) a).locals ++ c_type whole.numbered (type_of_part (position x (fields ps sigil)) ps) ∷ [])
      → k + length ((bare k (c_type whole.numbered t) a).locals ++ c_type whole.numbered (type_of_part (position x (fields ps sigil)) ps) ∷ []) ≤ 2 ^ 64
      → Counted k fr s a t us s1 most
      → FromCell k fr s (bare k (c_type whole.numbered t) a) t (type_of_part (position x (fields ps sigil)) ps) us (position x (fields ps sigil)) ws s1 (most + 1 + 1)
  boxed k fr s s1 a t ps sigil x us row ws most e h dt d is_at stands part machine fresh bound c =
      let locals = (bare k (c_type whole.numbered t) a).locals in
      let f = type_of_part (position x (fields ps sigil)) ps in
      let at' = address_is us is_at in
      let cell : cell_at s1.store at'.0 ≡ Some (Slots row) = subst (λ z. cell_at s1.store (first_address z) ≡ Some (Slots row)) at'.1 (cell_is (cell_at s1.store (first_address us)) row stands) in
      from_cell k fr s s1 (bare k (c_type whole.numbered t) a) t f ps sigil (position x (fields ps sigil)) at'.0 us row ws (most + 1) e d refl (field_there x ps sigil h d) at'.1 cell part machine fresh bound (k + length a.locals) c.frame
      (bared k fr s s1 a t us most a.value refl dt (fresh_front (lay_c q) fr k locals (c_type whole.numbered f ∷ []) fresh)
      (let len = length-append locals (c_type whole.numbered f ∷ []) in omega (arith, len, bound)) c)

  pub fetched : (k : ℕ) (fr : Frame) (s s1 : State) (a : Low) (t : Tau) (x : List ℕ) (us row ws : List Scalar) (most : ℕ) → IsTrue (is_left (field_in x t)) → IsDeclared whole.numbered q.program.structs t
      → row_of (sigil_of t) us s1.store ≡ Some row → part_at (position x t) (fields_in t) row ≡ Some ws → is_machine (types_of p) (field_type t (position x t)) ws ≡ true
      → Fresh (lay_c q) fr k (low_member k (sigil_of t) (c_type whole.numbered t) (c_type whole.numbered (field_type t (position x t))) (position x t) a).locals
      → k + length (low_member k (sigil_of t) (c_type whole.numbered t) (c_type whole.numbered (field_type t (position x t))) (position x t) a).locals ≤ 2 ^ 64
      → Counted k fr s a t us s1 most → Fetched k fr s a t us (position x t) ws s1 (most + 1 + 1)
  unfolding is_machine
  fetched k fr s s1 a (fields ps U) x us row ws most h d stands part machine fresh bound c =
      let same : us ≡ row = cc in
      record {
        ran = record {
          steps = c.steps;
          frame = c.frame;
          within = let w = c.within in omega (arith, w);
          went = record { runs = c.went.runs; changes = c.went.changes };
          keeps = keeps_field whole.numbered q.program.structs c.frame a.value ps (position x (fields ps U)) us ws d c.keeps (subst (λ z. part_at (position x (fields ps U)) ps z ≡ Some ws) (sym same) part);
          under = under_at (k + length a.locals) (field (position x (fields ps U))) a.value c.under;
          machine = machine;
        };
        remains = c.keeps;
        under = c.under;
      }
  fetched k fr s s1 a (fields ps R) x us row ws most h d stands part machine fresh bound c =
      let b = boxed k fr s s1 a (fields ps R) ps R x us row ws most refl h d d c.machine stands part machine fresh bound c in
      record { ran = b.ran; remains = b.remains; under = b.under }
  fetched k fr s s1 a (fields ps W) x us row ws most h d stands part machine fresh bound c =
      let b = boxed k fr s s1 a (fields ps W) ps W x us row ws most refl h d d c.machine stands part machine fresh bound c in
      record { ran = b.ran; remains = b.remains; under = b.under }
  fetched k fr s s1 a (var n) x us row ws most h d stands part machine fresh bound c = absurd (cc)
  fetched k fr s s1 a (seen n) x us row ws most h d stands part machine fresh bound c = absurd (cc)
  fetched k fr s s1 a unit x us row ws most h d stands part machine fresh bound c = absurd (cc)
  fetched k fr s s1 a (word w) x us row ws most h d stands part machine fresh bound c = absurd (cc)
  fetched k fr s s1 a bool x us row ws most h d stands part machine fresh bound c = absurd (cc)
  fetched k fr s s1 a (arrow b e) x us row ws most h d stands part machine fresh bound c = absurd (cc)
  fetched k fr s s1 a (abs y args sigil) x us row ws most h d stands part machine fresh bound c = absurd (cc)
  fetched k fr s s1 a (variant ps) x us row ws most h d stands part machine fresh bound c = absurd (cc)

  -- a field's type by its name is that at its place
  field_type_is : (t : Tau) (x : List ℕ) → IsTrue (is_left (field_in x t)) → held_type (field_in x t) ≡ field_type t (position x t)
  unfolding position
  field_type_is (fields ps sigil) x h = (named_is x ps (left_there x ps h)).0
  field_type_is (var n) x h = absurd (cc)
  field_type_is (seen n) x h = absurd (cc)
  field_type_is unit x h = absurd (cc)
  field_type_is (word w) x h = absurd (cc)
  field_type_is bool x h = absurd (cc)
  field_type_is (arrow b e) x h = absurd (cc)
  field_type_is (abs y args sigil) x h = absurd (cc)
  field_type_is (variant ps) x h = absurd (cc)

  pub sim_member : (note : Note) (e : Tree Note) (name : At) → Sim p whole q l calls e → Sim p whole q l calls (term note (member e name))
  unfolding update_shape low low_shape
  sim_member note e name he k g os vs fr s s' left rest us typed kept fresh bound h =
      given_by_part note (member e name) vs k fr s two.state s' (low whole k os (term note (member e name))) field_here us part.scalars left two.rest rest n part.later is_field (λ machine.
      ran_of k fr s two.state (low whole k os (term note (member e name))) field_here part.scalars (suc n.paid) two.rest (r.steps + 1 + 1) (subst (λ z. Counted k fr s (low_member k (sigil_of (type_at e)) (c_type whole.numbered (type_at e)) (c_type whole.numbered z) (position name.name (type_at e)) (low whole k os e)) field_here part.scalars two.state (r.steps + 1 + 1)) (sym is_field) fetch.ran)
      (let w = r.within in omega (arith, w)))
    where
      field_here : Tau
      field_here = field_type (type_at e) (position name.name (type_at e))

      is_field : note.ty ≡ field_here
      is_field = typed.1.2 ∙ field_type_is (type_at e) name.name typed.1.1

      rest_of : List Scalar → State → ℕ → Outcome
      rest_of us t rest = read p (type_at e) (position name.name (type_at e)) us t (λ ws. gives ws t rest)

      n : Node p calls note.ty (member e name) vs s left us s' rest
      n = node_is p calls note (member e name) vs s left us s' rest h

      two : Bound (update p calls e vs s n.paid) rest_of us s' rest
      two = bind_is (update p calls e vs s n.paid) rest_of us s' rest n.given

      part : IsRead (type_at e) (position name.name (type_at e)) two.scalars two.state (λ ws. gives ws two.state two.rest) us s' rest
      part = read_is (type_at e) (position name.name (type_at e)) two.scalars two.state (λ ws. gives ws two.state two.rest) us s' rest two.later

      own : Fresh (lay_c q) fr k (low_member k (sigil_of (type_at e)) (c_type whole.numbered (type_at e)) (c_type whole.numbered field_here) (position name.name (type_at e)) (low whole k os e)).locals
      own = subst (λ z. Fresh (lay_c q) fr k (low_member k (sigil_of (type_at e)) (c_type whole.numbered (type_at e)) (c_type whole.numbered z) (position name.name (type_at e)) (low whole k os e)).locals) is_field fresh

      room : k + length (low_member k (sigil_of (type_at e)) (c_type whole.numbered (type_at e)) (c_type whole.numbered field_here) (position name.name (type_at e)) (low whole k os e)).locals ≤ 2 ^ 64
      room = subst (λ z. k + length (low_member k (sigil_of (type_at e)) (c_type whole.numbered (type_at e)) (c_type whole.numbered z) (position name.name (type_at e)) (low whole k os e)).locals ≤ 2 ^ 64) is_field bound

      r : RanHere k fr s (low whole k os e) (type_at e) two.scalars two.state n.paid two.rest
      r =
          he k g os vs fr s two.state n.paid two.rest two.scalars typed.1.0 kept
          (member_fresh (lay_c q) fr k (sigil_of (type_at e)) (c_type whole.numbered (type_at e)) (c_type whole.numbered field_here) (position name.name (type_at e)) (low whole k os e) own)
          (member_room k (sigil_of (type_at e)) (c_type whole.numbered (type_at e)) (c_type whole.numbered field_here) (position name.name (type_at e)) (low whole k os e) room)
          two.first

      fetch : Fetched k fr s (low whole k os e) (type_at e) two.scalars (position name.name (type_at e)) part.scalars two.state (r.steps + 1 + 1)
      fetch =
          fetched k fr s two.state (low whole k os e) (type_at e) name.name two.scalars part.row part.scalars r.steps typed.1.1 (declared_at g e typed.1.0) part.stands part.part part.machine own room
          (counted k fr s two.state (low whole k os e) (type_at e) two.scalars n.paid two.rest r.steps r (omega arith))

  -- one term behind the other
  pub joined_counted : (k n : ℕ) (fr : Frame) (s s1 s2 : State) (a b : Low) (t u : Tau) (us ws : List Scalar) (most most' : ℕ) → n ≡ k + length a.locals
      → (x : Counted k fr s a t us s1 most) → Counted n x.frame s1 b u ws s2 most' → Counted k fr s (joined a b) u ws s2 (most + most')
  joined_counted k n fr s s1 s2 a b t u us ws most most' e x y =
      record {
        steps = x.steps + y.steps;
        frame = y.frame;
        within = let v = x.within in let w = y.within in omega (arith, v, w);
        went = went_joined q l k n fr x.frame y.frame (as_run s) (as_run s1) (as_run s2) a b x.steps y.steps e x.went y.went;
        keeps = y.keeps;
        under = under_more (n + length b.locals) (k + length (a.locals ++ b.locals)) b.value (let len = length-append a.locals b.locals in omega (arith, e, len)) y.under;
        machine = y.machine;
      }

  pub sim_take : (note : Note) (e : Tree Note) (name : At) (remaining binder : Position) (b : Tree Note) → Sim p whole q l calls e → Sim p whole q l calls b
      → Sim p whole q l calls (term note (take_field e name remaining binder b))
  unfolding update_shape low low_shape
  sim_take note e name remaining binder b he hb k g os vs fr s s' left rest us typed kept fresh bound h =
      retyped p whole q l calls k fr s s' (joined v (low whole next more b)) note.ty (type_at b) us left n.paid rest n.is typed.1.3
      (ran_of k fr s s' (joined v (low whole next more b)) (type_at b) us (suc n.paid) rest (r.steps + 1 + 1 + body.steps)
      (joined_counted k next fr s two.state s' v (low whole next more b) field_here (type_at b) part.scalars us (r.steps + 1 + 1) body.steps refl fetch.ran
      (counted next fetch.ran.frame two.state s' (low whole next more b) (type_at b) us two.rest rest body.steps body (omega arith)))
      (let w = r.within in let x = body.within in omega (arith, w, x)))
    where
      i : ℕ
      i = position name.name (type_at e)

      field_here : Tau
      field_here = field_type (type_at e) i

      a : Low
      a = low whole k os e

      v : Low
      v = low_member k (sigil_of (type_at e)) (c_type whole.numbered (type_at e)) (c_type whole.numbered field_here) i a

      next : ℕ
      next = k + length v.locals

      more : List Place
      more = os ++ remainder k (sigil_of (type_at e)) (c_type whole.numbered (type_at e)) a ∷ v.value ∷ []

      others : List CTy
      others = (low whole next more b).locals

      len : length (v.locals ++ others) ≡ length v.locals + length others
      len = length-append v.locals others

      room : k + length v.locals ≤ 2 ^ 64
      room = omega (arith, len, bound)

      own : Fresh (lay_c q) fr k v.locals
      own = fresh_front (lay_c q) fr k v.locals others fresh

      rest_of : List Scalar → State → ℕ → Outcome
      rest_of us t rest = read p (type_at e) i us t (λ ws. update p calls b (vs ++ us ∷ ws ∷ []) t rest)

      n : Node p calls note.ty (take_field e name remaining binder b) vs s left us s' rest
      n = node_is p calls note (take_field e name remaining binder b) vs s left us s' rest h

      two : Bound (update p calls e vs s n.paid) rest_of us s' rest
      two = bind_is (update p calls e vs s n.paid) rest_of us s' rest n.given

      part : IsRead (type_at e) i two.scalars two.state (λ ws. update p calls b (vs ++ two.scalars ∷ ws ∷ []) two.state two.rest) us s' rest
      part = read_is (type_at e) i two.scalars two.state (λ ws. update p calls b (vs ++ two.scalars ∷ ws ∷ []) two.state two.rest) us s' rest two.later

      r : RanHere k fr s a (type_at e) two.scalars two.state n.paid two.rest
      r =
          he k g os vs fr s two.state n.paid two.rest two.scalars typed.1.0 kept
          (member_fresh (lay_c q) fr k (sigil_of (type_at e)) (c_type whole.numbered (type_at e)) (c_type whole.numbered field_here) i a own)
          (member_room k (sigil_of (type_at e)) (c_type whole.numbered (type_at e)) (c_type whole.numbered field_here) i a room) two.first

      fetch : Fetched k fr s a (type_at e) two.scalars i part.scalars two.state (r.steps + 1 + 1)
      fetch =
          fetched k fr s two.state a (type_at e) name.name two.scalars part.row part.scalars r.steps typed.1.2 (declared_at g e typed.1.0) part.stands part.part part.machine own room
          (counted k fr s two.state a (type_at e) two.scalars n.paid two.rest r.steps r (omega arith))

      same_record : c_type whole.numbered (type_at e) ≡ c_type whole.numbered (with_part name.name true (type_at e))
      same_record = sym (with_part_type whole.numbered name.name true (type_at e))

      same_field : c_type whole.numbered field_here ≡ c_type whole.numbered (held_type (field_in name.name (type_at e)))
      same_field = ap (c_type whole.numbered) (sym (field_type_is (type_at e) name.name typed.1.2))

      env : AreKept q next fetch.ran.frame (g ++ c_type whole.numbered (with_part name.name true (type_at e)) ∷ c_type whole.numbered (held_type (field_in name.name (type_at e))) ∷ []) more (vs ++ two.scalars ∷ part.scalars ∷ [])
      env =
          kept_push_two q next fetch.ran.frame g os vs (c_type whole.numbered (with_part name.name true (type_at e))) (c_type whole.numbered (held_type (field_in name.name (type_at e))))
          (remainder k (sigil_of (type_at e)) (c_type whole.numbered (type_at e)) a) v.value two.scalars part.scalars
          (kept_later q k next fr fetch.ran.frame g os vs (omega arith) room fetch.ran.went.changes kept)
          (subst (λ z. Keeps fetch.ran.frame (remainder k (sigil_of (type_at e)) (c_type whole.numbered (type_at e)) a) (lay_c q z) two.scalars) same_record fetch.remains) fetch.under
          (subst (λ z. Keeps fetch.ran.frame v.value (lay_c q z) part.scalars) same_field fetch.ran.keeps) fetch.ran.under

      body : RanHere next fetch.ran.frame two.state (low whole next more b) (type_at b) us s' two.rest rest
      body =
          hb next (g ++ c_type whole.numbered (with_part name.name true (type_at e)) ∷ c_type whole.numbered (held_type (field_in name.name (type_at e))) ∷ []) more (vs ++ two.scalars ∷ part.scalars ∷ []) fetch.ran.frame
          two.state s' two.rest rest us typed.1.1 env
          (fresh_later (lay_c q) k next next fr fetch.ran.frame others fetch.ran.went.changes (omega arith) (omega (arith, len, bound)) (fresh_back (lay_c q) fr k next v.locals others refl fresh))
          (omega (arith, len, bound)) part.later
