-- Records and alternatives that are made: their parts are written one by one into a new local.
use Rattle.std.proofs.Common.{◌≡◌, ℕ, suc, ◌+◌, ◌*◌, ◌^◌, ◌<◌, ◌≤◌, Bool, true, false, Option, Some, List, [], ◌∷◌, ◌++◌, length, length-append, take, drop, replicate, refl, sym, ap, ◌∙◌, subst, arith, append_assoc, IsTrue}
use Rattle.std.proofs.Math.Seq.{take-append_seam, drop-append-add}
use Rattle.std.proofs.lemmas.List.{append-nil, length-drop, length-replicate, length-take-le}
use Rattle.cg_base.specs.declared.kind.Sigil.TheVariants.{U}
use Rattle.cg_base.specs.declared.kind.Word.TheVariants.{U32}
use Rattle.cg_base.specs.Types.{Tau, var as variable, seen, unit as nothing, bool as boolean, word, arrow, abs, variant, fields, Parts, end as no_parts, part}
use Rattle.cg_core.specs.Terms.{Note, Tree, term, con, struct, Named, end, field as named}
use Rattle.cg_cmachine_def.specs.Layouts.{Layout, cell, size, Spot, spot, walk}
use Rattle.cg_cmachine_def.specs.Operands.{Frame}
use Rattle.cg_cmachine_def.specs.Outcomes.{State as RunState}
use Rattle.cg_cmachine_def.specs.Runs.{Linked}
use Rattle.cg_cmachine_def.specs.Targets.{spliced, with_scalars}
use Rattle.cg_ctree.specs.declared.tree.CRhs.TheVariants.{Opnd}
use Rattle.cg_ctree.specs.declared.tree.CTy.{CTy}
use Rattle.cg_ctree.specs.Trees.{assign}
use Rattle.cg_heap.specs.declared.cell.Scalar.{Scalar}
use Rattle.cg_heap.specs.declared.cell.Scalar.TheVariants.{Unset, Word as NumberScalar}
use Rattle.cg_heap.specs.Reps.{slots, slots_of_parts}
use Rattle.cg_eval_operations.specs.Positions.{position_among}
use Rattle.cg_typing.specs.Parts.{alternative_in, held as type_held, is_left}
use Rattle.cg_typing.specs.Rules.{parts_made, type_at}
use Rattle.cg_update.specs.Calls.{Program, types_of}
use Rattle.cg_update.specs.Machines.{is_machine, only_at, type_of_part}
use Rattle.cg_update.specs.Outcomes.{State, gives, bind}
use Rattle.cg_update.specs.Turns.{place_in, chosen_in}
use Rattle.cg_update.specs.Updates.{Calls, update, update_shape, update_fields}
use Rattle.cg_cgen_def.specs.Names.{field_name}
use Rattle.cg_lower_def.specs.CTypes.{c_type, count, IsDeclared, AreDeclared}
use Rattle.cg_cgen_def.specs.Bodies.{Low}
use Rattle.cg_lower_def.specs.Lowered.{Lows, Whole, as_low, set, injecting, filling, low, low_shape, low_fields}
use Rattle.cg_cgen_def.specs.Places.{Step, step_name, field, tag, payload, local, local_name, Place, number, path, operand}
use Rattle.cg_lower_def.specs.Simulated.{as_run}
use Rattle.cg_lower_def.specs.Typed.{AreTyped}
use Rattle.cg_lower_laws.proofs.Frames.{Is, set_is, Changes, changes_none, changes_on, changes_set, Fresh, fresh_front, fresh_back, fresh_later, Keeps, keeps_later, Under, under_more}
use Rattle.cg_lower_laws.proofs.Inversions.{Bound, bind_is, pay_is, same_scalars, same_state, same_rest}
use Rattle.cg_lower_laws.proofs.Layouts.{before, part_declared, size_slots, machine_slots, field_leads, payload_leads, payload_fits, tag_leads, tag_fits, only_is, named_is, left_there}
use Rattle.cg_lower_laws.proofs.Nodes.{Sim, Node, node_is, recast}
use Rattle.cg_lower_laws.proofs.Operands.{IsReadable, machine_readable, reads, write_part}
use Rattle.cg_lower_laws.proofs.Runs.{Runs, runs_none, runs_on, runs_plain}
use Rattle.cg_lower_laws.proofs.Terms.{lay_c, Went, went_leaf, went_joined, Ran, set_ran, next_local, AreKept, kept_later}

-- ---- parts of a local that are written

-- scalars with a part of them replaced are as many
spliced_sized : (t : Spot) (ws old : List Scalar) → length ws ≡ size t.layout → t.start + size t.layout ≤ length old → length (spliced t ws old) ≡ length old
spliced_sized t ws old e h =
    let front = length-take-le t.start old (omega (arith, h)) in
    let back = length-drop (t.start + size t.layout) old in
    let all = length-append (take t.start old ++ ws) (drop (t.start + size t.layout) old) in
    let some = length-append (take t.start old) ws in
    omega (arith, e, h, front, back, all, some)

-- an assignment to a part of a local, which has these scalars behind it
record Wrote (q : Linked) (l : Layout) (to : ℕ) (step : Step) (v : Place) (lay : Layout) (us : List Scalar) (fr : Frame) (s : RunState) : Type 0 where
  pub frame : Frame
  pub runs : Runs q l (assign (path (local to) (step ∷ [])) (Opnd (operand v)) ∷ []) fr s 1 frame s
  pub is : Is frame (local_name to) lay us
  pub changes : Changes to (suc to) fr frame

-- what is kept at a place is written to a part of its layout
writes : (numbered : Tau → ℕ) (q : Linked) (l : Layout) (to : ℕ) (step : Step) (v : Place) (lay : Layout) (t : Spot) (ws old : List Scalar) (fr : Frame) (s : RunState)
    → Is fr (local_name to) lay old → walk (step_name step ∷ []) lay ≡ Some t → t.start + size t.layout ≤ size lay → Keeps fr v t.layout ws → IsReadable t.layout ws
    → length ws ≡ size t.layout → Wrote q l to step v lay (spliced t ws old) fr s
writes numbered q l to step v lay t ws old fr s is leads fits keeps readable sized =
    let r = reads numbered q.program.structs s.store fr v t.layout ws keeps readable in
    let new = spliced t ws old in
    let long = is.sized in
    record {
      frame = with_scalars (local_name to) new fr;
      runs =
          runs_plain q l (path (local to) (step ∷ [])) (Opnd (operand v)) fr s r.value (record { frame = with_scalars (local_name to) new fr; store = s.store }) refl r.read
          (write_part numbered q.program.structs s.store fr (local to) (step ∷ []) lay old ws t r.value is leads r.given);
      is = set_is fr (local_name to) lay old new is (spliced_sized t ws old sized (omega (arith, fits, long)) ∙ long);
      changes = changes_set to (suc to) to fr new (omega arith) (omega arith);
    }

-- a part that is written behind a front, at the start of what is behind it
pub spliced_next : (d n : ℕ) (front old ws : List Scalar) (l : Layout) → size l ≡ n → length front ≡ d → spliced (spot d l) ws (front ++ old) ≡ (front ++ ws) ++ drop n old
spliced_next d n front old ws l e h =
    ap (λ (m : ℕ). take d (front ++ old) ++ ws ++ drop (d + m) (front ++ old)) e
    ∙ subst (λ (m : ℕ). take m (front ++ old) ++ ws ++ drop (m + n) (front ++ old) ≡ (front ++ ws) ++ drop n old) h
    (ap (λ (z : List Scalar). z ++ ws ++ drop (length front + n) (front ++ old)) (take-append_seam front old) ∙ ap (λ (z : List Scalar). front ++ ws ++ z) (drop-append-add front old n))

-- ---- alternatives

-- a tag and a payload among unset slots
tagged_is : (i n b k : ℕ) (ws : List Scalar) (l : Layout) → size l ≡ k
    → spliced (spot (suc b) l) ws (spliced (spot 0 (cell U32)) (NumberScalar i ∷ []) (replicate (suc n) Unset)) ≡ NumberScalar i ∷ (take b (replicate n Unset) ++ ws ++ drop (b + k) (replicate n Unset))
unfolding size
tagged_is i n b k ws l e =
    let more : suc b + size l ≡ suc (b + k) = omega (arith, e) in
    ap (λ (m : ℕ). NumberScalar i ∷ (take b (replicate n Unset) ++ ws ++ drop m (NumberScalar i ∷ replicate n Unset))) more

module _ (p : Program) (whole : Whole) (q : Linked) (l : Layout) (calls : Calls) (few : (k : ℕ) (t : Tau) → types_of p k ≡ Some t → k < 2 ^ 32) where
  abbrev types : ℕ → Option Tau
  types = types_of p

  abbrev lay_of : Tau → Layout
  lay_of t = lay_c q (c_type whole.numbered t)

  abbrev Declared : Tau → Type 0
  Declared t = IsDeclared whole.numbered q.program.structs t

  abbrev RanHere : ℕ → Frame → State → Low → Tau → List Scalar → State → ℕ → ℕ → Type 0
  RanHere k fr s a t us s' left rest = Ran q types whole.numbered l k fr s a t us s' left rest

  -- an alternative that is made of what is kept
  record Made (to : ℕ) (ps : Parts) (i : ℕ) (v : Place) (ws : List Scalar) (fr : Frame) (s : RunState) : Type 0 where
    pub frame : Frame
    pub runs : Runs q l (injecting i v to) fr s 2 frame s
    pub is : Is frame (local_name to) (lay_of (variant ps)) (NumberScalar i ∷ only_at i ps ws)
    pub changes : Changes to (suc to) fr frame

  -- there are at most 2^32 alternatives
  few_parts : (ps : Parts) → Declared (variant ps) → count ps ≤ 2 ^ 32
  unfolding IsDeclared
  few_parts ps d = d.1

  -- the structs of a payload are declared
  payload_declared : (ps : Parts) (i : ℕ) → Declared (variant ps) → i < count ps → Declared (type_of_part i ps)
  unfolding IsDeclared
  payload_declared ps i d h = part_declared whole.numbered q.program.structs ps i d.2 h

  -- a variant has a slot for its tag
  slots_variant : (ps : Parts) → slots (variant ps) ≡ suc (slots_of_parts ps)
  unfolding slots
  slots_variant ps = omega arith

  -- the two assignments leave the alternative
  makes : (to : ℕ) (ps : Parts) (i : ℕ) (v : Place) (ws : List Scalar) (fr : Frame) (s : RunState) → to < 2 ^ 64 → i < count ps → Declared (variant ps)
      → Is fr (local_name to) (lay_of (variant ps)) (replicate (size (lay_of (variant ps))) Unset) → Keeps fr v (lay_of (type_of_part i ps)) ws → Under to v
      → is_machine types (type_of_part i ps) ws ≡ true → Made to ps i v ws fr s
  unfolding size
  makes to ps i v ws fr s b h d is keeps under machine =
      record {
        frame = second.frame;
        runs = runs_on q l _ _ fr first.frame second.frame s s s 1 1 first.runs second.runs;
        is = subst (Is second.frame (local_name to) (lay_of (variant ps))) made second.is;
        changes = changes_on to (suc to) fr first.frame second.frame first.changes second.changes;
      }
    where
      small : i < 2 ^ 32
      small = let n = few_parts ps d in omega (arith, h, n)

      old : List Scalar
      old = replicate (size (lay_of (variant ps))) Unset

      tagged : List Scalar
      tagged = spliced (spot 0 (cell U32)) (NumberScalar i ∷ []) old

      first : Wrote q l to tag (number i) (lay_of (variant ps)) tagged fr s
      first =
          writes whole.numbered q l to tag (number i) (lay_of (variant ps)) (spot 0 (cell U32)) (NumberScalar i ∷ []) old fr s is
          (tag_leads whole.numbered q.program.structs ps d) (tag_fits whole.numbered q.program.structs ps d) (record { word = U32; laid = refl; is = refl; small = small }) (i, refl, small) refl

      same : size (lay_of (type_of_part i ps)) ≡ slots (type_of_part i ps)
      same = size_slots whole.numbered q.program.structs (type_of_part i ps) (payload_declared ps i d h)

      full : length ws ≡ slots (type_of_part i ps)
      full = machine_slots types (type_of_part i ps) ws machine

      at_payload : Spot
      at_payload = spot (suc (before i ps)) (lay_of (type_of_part i ps))

      second : Wrote q l to (payload i) v (lay_of (variant ps)) (spliced at_payload ws tagged) first.frame s
      second =
          writes whole.numbered q l to (payload i) v (lay_of (variant ps)) at_payload ws tagged first.frame s first.is
          (payload_leads whole.numbered q.program.structs ps i d h) (payload_fits whole.numbered q.program.structs ps i d h)
          (keeps_later to (suc to) fr first.frame v (lay_of (type_of_part i ps)) ws first.changes (omega (arith, b)) under keeps)
          (machine_readable whole.numbered q.program.structs types few (type_of_part i ps) ws machine) (full ∙ sym same)

      made : spliced at_payload ws tagged ≡ NumberScalar i ∷ only_at i ps ws
      made =
          ap (λ (n : ℕ). spliced at_payload ws (spliced (spot 0 (cell U32)) (NumberScalar i ∷ []) (replicate n Unset)))
          (size_slots whole.numbered q.program.structs (variant ps) d ∙ slots_variant ps)
          ∙ tagged_is i (slots_of_parts ps) (before i ps) (slots (type_of_part i ps)) ws (lay_of (type_of_part i ps)) same
          ∙ ap (λ (us : List Scalar). NumberScalar i ∷ us) (sym (only_is i ps ws h full).0)

  -- an alternative of what a term gives
  con_ran : (k : ℕ) (fr : Frame) (s s1 : State) (a : Low) (ps : Parts) (i : ℕ) (u : Tau) (ws us : List Scalar) (left mid : ℕ) → u ≡ type_of_part i ps → i < count ps → Declared (variant ps)
      → Fresh (lay_c q) fr k (a.locals ++ c_type whole.numbered (variant ps) ∷ []) → k + length (a.locals ++ c_type whole.numbered (variant ps) ∷ []) ≤ 2 ^ 64
      → us ≡ NumberScalar i ∷ only_at i ps ws → is_machine types (variant ps) us ≡ true
      → RanHere k fr s a u ws s1 left mid → RanHere k fr s (set k (c_type whole.numbered (variant ps)) a (injecting i a.value)) (variant ps) us s1 (suc (suc left)) mid
  con_ran k fr s s1 a ps i u ws us left mid e h d fresh bound is machine x =
      set_ran q types whole.numbered l k to fr x.frame made.frame s s1 (as_run s1) a (variant ps) us (injecting i a.value) x.steps 2 (suc (suc left)) mid refl x.went made.runs made.changes
      (subst (Is made.frame (local_name to) (lay_of (variant ps))) (sym is) made.is) machine (let w = x.within in omega (arith, w))
    where
      to : ℕ
      to = k + length a.locals

      len : length (a.locals ++ c_type whole.numbered (variant ps) ∷ []) ≡ length a.locals + 1
      len = length-append a.locals (c_type whole.numbered (variant ps) ∷ [])

      made : Made to ps i a.value ws x.frame (as_run s1)
      made =
          makes to ps i a.value ws x.frame (as_run s1) (omega (arith, len, bound)) h d
          (next_local q l k to fr x.frame (as_run s) (as_run s1) a (c_type whole.numbered (variant ps)) [] x.steps refl bound fresh x.went).0
          (subst (λ t. Keeps x.frame a.value (lay_of t) ws) e x.keeps) x.under (subst (λ t. is_machine types t ws ≡ true) e x.machine)

  -- the same, of whatever type has such an alternative
  con_at : (name : List ℕ) (t : Tau) (k : ℕ) (fr : Frame) (s s1 : State) (a : Low) (u : Tau) (ws us : List Scalar) (left mid : ℕ)
      → IsTrue (is_left (alternative_in name t)) → u ≡ type_held (alternative_in name t) → Declared t
      → Fresh (lay_c q) fr k (a.locals ++ c_type whole.numbered t ∷ []) → k + length (a.locals ++ c_type whole.numbered t ∷ []) ≤ 2 ^ 64
      → us ≡ chosen_in name t ws → is_machine types t us ≡ true
      → RanHere k fr s a u ws s1 left mid → RanHere k fr s (set k (c_type whole.numbered t) a (injecting (place_in name t) a.value)) t us s1 (suc (suc left)) mid
  con_at name (variant ps) k fr s s1 a u ws us left mid there e d fresh bound is machine x =
      let n = named_is name ps (left_there name ps there) in
      con_ran k fr s s1 a ps (position_among name ps) u ws us left mid (e ∙ n.0) n.1 d fresh bound is machine x
  con_at name (variable n) k fr s s1 a u ws us left mid there e d fresh bound is machine x = absurd (cc)
  con_at name (seen n) k fr s s1 a u ws us left mid there e d fresh bound is machine x = absurd (cc)
  con_at name nothing k fr s s1 a u ws us left mid there e d fresh bound is machine x = absurd (cc)
  con_at name (word w) k fr s s1 a u ws us left mid there e d fresh bound is machine x = absurd (cc)
  con_at name boolean k fr s s1 a u ws us left mid there e d fresh bound is machine x = absurd (cc)
  con_at name (arrow b c) k fr s s1 a u ws us left mid there e d fresh bound is machine x = absurd (cc)
  con_at name (abs y args sigil) k fr s s1 a u ws us left mid there e d fresh bound is machine x = absurd (cc)
  con_at name (fields ps sigil) k fr s s1 a u ws us left mid there e d fresh bound is machine x = absurd (cc)

  pub sim_con : (note : Note) (name : List ℕ) (e : Tree Note) → Sim p whole q l calls e → Sim p whole q l calls (term note (con name e))
  unfolding update_shape low low_shape
  sim_con note name e he k g os vs fr s s' left rest us typed kept fresh bound h =
      subst (λ n. RanHere k fr s result note.ty us s' n rest) (sym (node.is ∙ ap suc paid.1))
      (recast p whole q l calls k fr s two.state s' result note.ty given us (suc (suc paid.0)) two.rest rest two.later
      (con_at name note.ty k fr s two.state a (type_at e) two.scalars given paid.0 two.rest typed.1.1 typed.1.2 typed.0 fresh bound refl
      (subst (λ z. is_machine types note.ty z ≡ true) (sym (same_scalars given us two.state s' two.rest rest two.later)) node.machine) first))
    where
      a : Low
      a = low whole k os e

      result : Low
      result = low whole k os (term note (con name e))

      node : Node p calls note.ty (con name e) vs s left us s' rest
      node = node_is p calls note (con name e) vs s left us s' rest h

      paid : (m : ℕ) × (node.paid ≡ suc m) × (bind (update p calls e vs s m) (λ ws t rest. gives (chosen_in name note.ty ws) t rest) ≡ gives us s' rest)
      paid = pay_is node.paid (λ m. bind (update p calls e vs s m) (λ ws t rest. gives (chosen_in name note.ty ws) t rest)) us s' rest node.given

      two : Bound (update p calls e vs s paid.0) (λ ws t rest. gives (chosen_in name note.ty ws) t rest) us s' rest
      two = bind_is (update p calls e vs s paid.0) (λ ws t rest. gives (chosen_in name note.ty ws) t rest) us s' rest paid.2

      given : List Scalar
      given = chosen_in name note.ty two.scalars

      len : length (a.locals ++ c_type whole.numbered note.ty ∷ []) ≡ length a.locals + 1
      len = length-append a.locals (c_type whole.numbered note.ty ∷ [])

      first : RanHere k fr s a (type_at e) two.scalars two.state paid.0 two.rest
      first =
          he k g os vs fr s two.state paid.0 two.rest two.scalars typed.1.0 kept
          (fresh_front (lay_c q) fr k a.locals (c_type whole.numbered note.ty ∷ []) fresh) (omega (arith, len, bound)) two.first

  -- ---- records

  -- members from number i on lead to the parts of a row, which begins at d
  abbrev Lead : Layout → ℕ → ℕ → Parts → Type 0
  Lead lay i d ps = (j : ℕ) → j < count ps → walk (field_name (i + j) ∷ []) lay ≡ Some (spot (d + before j ps) (lay_of (type_of_part j ps)))

  -- the first does
  first_leads : (lay : Layout) (i d : ℕ) (x : List ℕ) (t : Tau) (taken : Bool) (ps : Parts) → Lead lay i d (part x t taken ps) → walk (field_name i ∷ []) lay ≡ Some (spot d (lay_of t))
  unfolding count type_of_part
  first_leads lay i d x t taken ps h =
      let n : i ≡ i + 0 = omega arith in
      let m : d + 0 ≡ d = omega arith in
      ap (λ (j : ℕ). walk (field_name j ∷ []) lay) n ∙ h 0 (omega arith) ∙ ap (λ (j : ℕ). Some (spot j (lay_of t))) m

  -- and those behind it do
  others_lead : (lay : Layout) (i d : ℕ) (x : List ℕ) (t : Tau) (taken : Bool) (ps : Parts) → Lead lay i d (part x t taken ps) → Lead lay (suc i) (d + slots t) ps
  unfolding count type_of_part
  others_lead lay i d x t taken ps h = λ j le.
      let n : suc i + j ≡ i + suc j = omega arith in
      let m : d + (slots t + before j ps) ≡ d + slots t + before j ps = omega arith in
      ap (λ (k : ℕ). walk (field_name k ∷ []) lay) n ∙ h (suc j) (omega (arith, le)) ∙ ap (λ (k : ℕ). Some (spot k (lay_of (type_of_part j ps)))) m

  -- all members of a record do
  all_lead : (ps : Parts) → Declared (fields ps U) → Lead (lay_of (fields ps U)) 0 0 ps
  all_lead ps d = λ j le.
      let n : 0 + j ≡ j = omega arith in
      let m : before j ps ≡ 0 + before j ps = omega arith in
      ap (λ (k : ℕ). walk (field_name k ∷ []) (lay_of (fields ps U))) n ∙ field_leads whole.numbered q.program.structs ps U j d le
      ∙ ap (λ (k : ℕ). Some (spot k (lay_of (type_of_part j ps)))) m

  -- the fields of a row are kept at places, with no local from number k on
  abbrev Rows : ℕ → Frame → Parts → List Place → List Scalar → Type 0
  Rows k fr no_parts [] us = us ≡ []
  Rows k fr (part x t taken ps) (v ∷ vs) us =
      (ws : List Scalar) × (others : List Scalar) × (us ≡ ws ++ others) × (is_machine types t ws ≡ true) × Keeps fr v (lay_of t) ws × Under k v × Rows k fr ps vs others
  Rows k fr _ _ us = ⊥

  -- they are kept where only locals from number k on change
  rows_later : (k n : ℕ) (fr fr' : Frame) (ps : Parts) (vs : List Place) (us : List Scalar) → Changes k n fr fr' → n ≤ 2 ^ 64 → Rows k fr ps vs us → Rows k fr' ps vs us
  rows_later k n fr fr' no_parts [] us c b r = r
  rows_later k n fr fr' (part x t taken ps) (v ∷ vs) us c b r =
      (r.0, r.1, r.2, r.3, keeps_later k n fr fr' v (lay_of t) r.0 c b r.5 r.4, r.5, rows_later k n fr fr' ps vs r.1 c b r.6)
  rows_later k n fr fr' no_parts (v ∷ vs) us c b r = absurd r
  rows_later k n fr fr' (part x t taken ps) [] us c b r = absurd r

  -- parts have the slots of the first and of the others
  slots_part : (x : List ℕ) (t : Tau) (taken : Bool) (ps : Parts) → slots_of_parts (part x t taken ps) ≡ slots t + slots_of_parts ps
  unfolding slots_of_parts
  slots_part x t taken ps = refl

  -- no parts have no slots
  no_slots : slots_of_parts no_parts ≡ 0
  unfolding slots_of_parts
  no_slots = refl

  -- the structs of parts are declared
  abbrev AllDeclared : Parts → Type 0
  AllDeclared ps = AreDeclared whole.numbered q.program.structs ps

  -- those of the first part and of the others are declared
  first_declared : (x : List ℕ) (t : Tau) (taken : Bool) (ps : Parts) → AllDeclared (part x t taken ps) → Declared t × AllDeclared ps
  unfolding AreDeclared
  first_declared x t taken ps d = d

  -- a local whose fields from number i on are written, behind those that are already
  record Filled (to i : ℕ) (vs : List Place) (lay : Layout) (us : List Scalar) (fr : Frame) (s : RunState) : Type 0 where
    pub frame : Frame
    pub runs : Runs q l (filling i vs to) fr s (length vs) frame s
    pub is : Is frame (local_name to) lay us
    pub changes : Changes to (suc to) fr frame

  -- none are left to write
  none_filled : (to i : ℕ) (lay : Layout) (us : List Scalar) (fr : Frame) (s : RunState) → Is fr (local_name to) lay us → Filled to i [] lay us fr s
  none_filled to i lay us fr s is = record { frame = fr; runs = runs_none q l fr s; is = is; changes = changes_none to (suc to) fr }

  -- the first of them
  first_filled : (to i d : ℕ) (lay : Layout) (x : List ℕ) (t : Tau) (taken : Bool) (ps : Parts) (v : Place) (front old ws : List Scalar) (fr : Frame) (s : RunState)
      → length front ≡ d → length old ≡ slots_of_parts (part x t taken ps) → Is fr (local_name to) lay (front ++ old) → Lead lay i d (part x t taken ps) → Declared t
      → is_machine types t ws ≡ true → Keeps fr v (lay_of t) ws → Wrote q l to (field i) v lay ((front ++ ws) ++ drop (slots t) old) fr s
  first_filled to i d lay x t taken ps v front old ws fr s e e' is leads declared machine keeps =
      subst (λ z. Wrote q l to (field i) v lay z fr s) (spliced_next d (slots t) front old ws (lay_of t) same e)
      (writes whole.numbered q l to (field i) v lay (spot d (lay_of t)) ws (front ++ old) fr s is (first_leads lay i d x t taken ps leads)
      (let all = length-append front old in let long = is.sized in omega (arith, same, e, e', all, long, slots_part x t taken ps)) keeps
      (machine_readable whole.numbered q.program.structs types few t ws machine) (machine_slots types t ws machine ∙ sym same))
    where
      same : size (lay_of t) ≡ slots t
      same = size_slots whole.numbered q.program.structs t declared

  -- and those behind it
  filled_on : (to i : ℕ) (lay : Layout) (v : Place) (vs : List Place) (now us : List Scalar) (fr : Frame) (s : RunState) (w : Wrote q l to (field i) v lay now fr s)
      → Filled to (suc i) vs lay us w.frame s → Filled to i (v ∷ vs) lay us fr s
  filled_on to i lay v vs now us fr s w f =
      record {
        frame = f.frame;
        runs =
            let steps : 1 + length vs ≡ suc (length vs) = omega arith in
            subst (λ n. Runs q l (filling i (v ∷ vs) to) fr s n f.frame s) steps
            (runs_on q l (assign (path (local to) (field i ∷ [])) (Opnd (operand v)) ∷ []) (filling (suc i) vs to) fr w.frame f.frame s s s 1 (length vs) w.runs f.runs);
        is = f.is;
        changes = changes_on to (suc to) fr w.frame f.frame w.changes f.changes;
      }

  -- all of them, by what they are kept at
  fills : (to i d : ℕ) (lay : Layout) (ps : Parts) (vs : List Place) (front old us : List Scalar) (fr : Frame) (s : RunState) → to < 2 ^ 64
      → length front ≡ d → length old ≡ slots_of_parts ps → Is fr (local_name to) lay (front ++ old) → Lead lay i d ps → AllDeclared ps → Rows to fr ps vs us
      → Filled to i vs lay (front ++ us) fr s
  fills to i d lay no_parts [] front (o ∷ old) us fr s b e e' is leads ds rows = absurd (omega (arith, e', no_slots))
  fills to i d lay no_parts [] front [] us fr s b e e' is leads ds rows =
      none_filled to i lay (front ++ us) fr s (subst (λ (z : List Scalar). Is fr (local_name to) lay (front ++ z)) (sym rows) is)
  fills to i d lay (part x t taken ps) (v ∷ vs) front old us fr s b e e' is leads ds rows =
      let declared = first_declared x t taken ps ds in
      let full = machine_slots types t rows.0 rows.3 in
      let n = length-append front rows.0 in
      let m = length-drop (slots t) old in
      let w = first_filled to i d lay x t taken ps v front old rows.0 fr s e e' is leads declared.0 rows.3 rows.4 in
      subst (λ z. Filled to i (v ∷ vs) lay z fr s) (append_assoc front rows.0 rows.1 ∙ ap (λ (z : List Scalar). front ++ z) (sym rows.2))
      (filled_on to i lay v vs ((front ++ rows.0) ++ drop (slots t) old) ((front ++ rows.0) ++ rows.1) fr s w
      (fills to (suc i) (d + slots t) lay ps vs (front ++ rows.0) (drop (slots t) old) rows.1 w.frame s b
      (omega (arith, n, e, full)) (omega (arith, m, e', slots_part x t taken ps)) w.is (others_lead lay i d x t taken ps leads) declared.1
      (rows_later to (suc to) fr w.frame ps vs rows.1 w.changes (omega (arith, b)) rows.6)))
  fills to i d lay no_parts (v ∷ vs) front old us fr s b e e' is leads ds rows = absurd rows
  fills to i d lay (part x t taken ps) [] front old us fr s b e e' is leads ds rows = absurd rows

  -- each field's term does what it does
  abbrev pub SimAll : Named Note → Type 0
  SimAll end = Unit {0}
  SimAll (named x e fs) = Sim p whole q l calls e × SimAll fs

  -- the terms of a record's fields, one behind the other, which give these scalars behind others: each pays 1 that its own term needs not
  record RanAll (k : ℕ) (fr : Frame) (s : State) (ls : Lows) (ps : Parts) (row us : List Scalar) (s' : State) (left rest : ℕ) : Type 0 where
    pub steps : ℕ
    pub frame : Frame
    pub within : steps + length ls.values + 32 * rest ≤ 32 * left
    pub went : Went q l k fr (as_run s) (as_low ls) steps frame (as_run s')
    pub added : List Scalar
    pub is : us ≡ row ++ added
    pub rows : Rows (k + length ls.locals) frame ps ls.values added

  -- none
  none_ran : (k : ℕ) (os : List Place) (vs : List (List Scalar)) (fr : Frame) (s s' : State) (row us : List Scalar) (left rest : ℕ)
      → update_fields p calls end vs row s left ≡ gives us s' rest → RanAll k fr s (low_fields whole k os end) no_parts row us s' left rest
  unfolding update_fields low_fields
  none_ran k os vs fr s s' row us left rest h =
      let same : s ≡ s' = same_state row us s s' left rest h in
      let spent : left ≡ rest = same_rest row us s s' left rest h in
      record {
        steps = 0;
        frame = fr;
        within = omega (arith, spent);
        went = subst (λ z. Went q l k fr (as_run s) (as_low (low_fields whole k os end)) 0 fr (as_run z)) same (went_leaf q l k fr (as_run s) (number 0));
        added = [];
        is = sym (same_scalars row us s s' left rest h) ∙ sym (append-nil row);
        rows = refl;
      }

  -- one and others
  more_ran : (k n : ℕ) (fr : Frame) (s s1 s' : State) (a : Low) (ls : Lows) (x : List ℕ) (t : Tau) (ps : Parts) (row ws us : List Scalar) (left mid rest : ℕ) → n ≡ k + length a.locals
      → k + length (a.locals ++ ls.locals) ≤ 2 ^ 64 → (r : RanHere k fr s a t ws s1 left mid) → RanAll n r.frame s1 ls ps (row ++ ws) us s' mid rest
      → RanAll k fr s (record { values = a.value ∷ ls.values; locals = a.locals ++ ls.locals; code = a.code ++ ls.code }) (part x t false ps) row us s' (suc left) rest
  more_ran k n fr s s1 s' a ls x t ps row ws us left mid rest e bound r rs =
      record {
        steps = r.steps + rs.steps;
        frame = rs.frame;
        within = let h = r.within in let h' = rs.within in omega (arith, h, h');
        went = went_joined q l k n fr r.frame rs.frame (as_run s) (as_run s1) (as_run s') a (as_low ls) r.steps rs.steps e r.went rs.went;
        added = ws ++ rs.added;
        is = rs.is ∙ append_assoc row ws rs.added;
        rows = (
          ws,
          rs.added,
          refl,
          r.machine,
          keeps_later n (n + length ls.locals) r.frame rs.frame a.value (lay_of t) ws rs.went.changes (omega (arith, all, bound)) (subst (λ (m : ℕ). Under m a.value) (sym e) r.under) r.keeps,
          under_more (k + length a.locals) (k + length (a.locals ++ ls.locals)) a.value (omega (arith, len)) r.under,
          subst (λ (m : ℕ). Rows m rs.frame ps ls.values rs.added) all rs.rows,
        );
      }
    where
      len : length (a.locals ++ ls.locals) ≡ length a.locals + length ls.locals
      len = length-append a.locals ls.locals

      all : n + length ls.locals ≡ k + length (a.locals ++ ls.locals)
      all = omega (arith, len, e)

  -- all, one after another
  all_ran : (fs : Named Note) → SimAll fs → (k : ℕ) (g : List CTy) (os : List Place) (vs : List (List Scalar)) (fr : Frame) (s s' : State) (row us : List Scalar) (left rest : ℕ)
      → AreTyped p.functions whole.numbered q.program.structs g fs → AreKept q k fr g os vs → Fresh (lay_c q) fr k (low_fields whole k os fs).locals
      → k + length (low_fields whole k os fs).locals ≤ 2 ^ 64 → update_fields p calls fs vs row s left ≡ gives us s' rest
      → RanAll k fr s (low_fields whole k os fs) (parts_made fs) row us s' left rest
  unfolding update_fields low_fields
  all_ran end hs k g os vs fr s s' row us left rest typed kept fresh bound h = none_ran k os vs fr s s' row us left rest h
  all_ran (named x e fs) hs k g os vs fr s s' row us left rest typed kept fresh bound h =
      let a = low whole k os e in
      let next = k + length a.locals in
      let ls = low_fields whole next os fs in
      let len = length-append a.locals ls.locals in
      let paid = pay_is left (λ m. bind (update p calls e vs s m) (λ ws t rest. update_fields p calls fs vs (row ++ ws) t rest)) us s' rest h in
      let two = bind_is (update p calls e vs s paid.0) (λ ws t rest. update_fields p calls fs vs (row ++ ws) t rest) us s' rest paid.2 in
      let first =
      hs.0 k g os vs fr s two.state paid.0 two.rest two.scalars typed.0 kept (fresh_front (lay_c q) fr k a.locals ls.locals fresh) (omega (arith, len, bound)) two.first in
      subst (λ n. RanAll k fr s (low_fields whole k os (named x e fs)) (parts_made (named x e fs)) row us s' n rest) (sym paid.1)
      (more_ran k next fr s two.state s' a ls x (type_at e) (parts_made fs) row two.scalars us paid.0 two.rest rest refl bound first
      (all_ran fs hs.1 next g os vs first.frame two.state s' (row ++ two.scalars) us two.rest rest typed.1
      (kept_later q k next fr first.frame g os vs (omega arith) (omega (arith, len, bound)) first.went.changes kept)
      (fresh_later (lay_c q) k next next fr first.frame ls.locals first.went.changes (omega arith) (omega (arith, len, bound)) (fresh_back (lay_c q) fr k next a.locals ls.locals refl fresh))
      (omega (arith, len, bound)) two.later))

  -- the structs of a record's parts are declared
  parts_declared : (ps : Parts) → Declared (fields ps U) → AllDeclared ps
  unfolding IsDeclared
  parts_declared ps d = d.2

  -- a record has the slots of its parts
  slots_fields : (ps : Parts) → slots (fields ps U) ≡ slots_of_parts ps
  unfolding slots
  slots_fields ps = refl

  -- a record of what its fields' terms give
  struct_ran : (k : ℕ) (fr : Frame) (s s' : State) (ls : Lows) (ps : Parts) (us : List Scalar) (left rest : ℕ) → Declared (fields ps U)
      → Fresh (lay_c q) fr k (ls.locals ++ c_type whole.numbered (fields ps U) ∷ []) → k + length (ls.locals ++ c_type whole.numbered (fields ps U) ∷ []) ≤ 2 ^ 64
      → is_machine types (fields ps U) us ≡ true → RanAll k fr s ls ps [] us s' left rest
      → RanHere k fr s (set k (c_type whole.numbered (fields ps U)) (as_low ls) (filling 0 ls.values)) (fields ps U) us s' (suc left) rest
  struct_ran k fr s s' ls ps us left rest d fresh bound machine r =
      set_ran q types whole.numbered l k to fr r.frame filled.frame s s' (as_run s') (as_low ls) (fields ps U) us (filling 0 ls.values) r.steps (length ls.values) (suc left) rest refl
      r.went filled.runs filled.changes (subst (Is filled.frame (local_name to) (lay_of (fields ps U))) (sym r.is) filled.is) machine (let w = r.within in omega (arith, w))
    where
      to : ℕ
      to = k + length ls.locals

      len : length (ls.locals ++ c_type whole.numbered (fields ps U) ∷ []) ≡ length ls.locals + 1
      len = length-append ls.locals (c_type whole.numbered (fields ps U) ∷ [])

      unset : List Scalar
      unset = replicate (size (lay_of (fields ps U))) Unset

      unset_full : length unset ≡ slots_of_parts ps
      unset_full = length-replicate (size (lay_of (fields ps U))) Unset ∙ size_slots whole.numbered q.program.structs (fields ps U) d ∙ slots_fields ps

      filled : Filled to 0 ls.values (lay_of (fields ps U)) ([] ++ r.added) r.frame (as_run s')
      filled =
          fills to 0 0 (lay_of (fields ps U)) ps ls.values [] unset r.added r.frame (as_run s') (omega (arith, len, bound)) refl unset_full
          (next_local q l k to fr r.frame (as_run s) (as_run s') (as_low ls) (c_type whole.numbered (fields ps U)) [] r.steps refl bound fresh r.went).0
          (all_lead ps d) (parts_declared ps d) r.rows

  pub sim_struct : (note : Note) (fs : Named Note) → SimAll fs → Sim p whole q l calls (term note (struct fs))
  unfolding update_shape low low_shape
  sim_struct note fs hs k g os vs fr s s' left rest us typed kept fresh bound h =
      subst (λ n. RanHere k fr s (low whole k os (term note (struct fs))) note.ty us s' n rest) (sym node.is)
      (subst Here (sym typed.1.1) (λ d f b m. struct_ran k fr s s' ls (parts_made fs) us node.paid rest d f b m ran) typed.0 fresh bound node.machine)
    where
      ls : Lows
      ls = low_fields whole k os fs

      node : Node p calls note.ty (struct fs) vs s left us s' rest
      node = node_is p calls note (struct fs) vs s left us s' rest h

      len : length (ls.locals ++ c_type whole.numbered note.ty ∷ []) ≡ length ls.locals + 1
      len = length-append ls.locals (c_type whole.numbered note.ty ∷ [])

      ran : RanAll k fr s ls (parts_made fs) [] us s' node.paid rest
      ran =
          all_ran fs hs k g os vs fr s s' [] us node.paid rest typed.1.0 kept (fresh_front (lay_c q) fr k ls.locals (c_type whole.numbered note.ty ∷ []) fresh) (omega (arith, len, bound))
          node.given

      Here : Tau → Type 0
      Here t = Declared t → Fresh (lay_c q) fr k (ls.locals ++ c_type whole.numbered t ∷ []) → k + length (ls.locals ++ c_type whole.numbered t ∷ []) ≤ 2 ^ 64 → is_machine types t us ≡ true
          → RanHere k fr s (set k (c_type whole.numbered t) (as_low ls) (filling 0 ls.values)) t us s' (suc node.paid) rest
