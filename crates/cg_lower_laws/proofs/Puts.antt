-- Puts: a field of an unboxed record is written in the local that nothing else is kept in, that of a boxed one in its cell.
use Rattle.std.proofs.Common.{◌≡◌, ℕ, suc, ◌+◌, ◌^◌, ◌<◌, ◌≤◌, Bool, true, false, cond, Some, List, [], ◌∷◌, ◌++◌, length, length-append, take, drop, refl, sym, ap, ◌∙◌, subst, arith, IsTrue, nat_le}
use Rattle.std.proofs.lemmas.Bool.{leb-true}
use Rattle.cg_base.specs.declared.kind.Sigil.{Sigil}
use Rattle.cg_base.specs.declared.kind.Sigil.TheVariants.{R, W, U}
use Rattle.cg_base.specs.Types.{Tau, var, seen, unit, word, bool, arrow, abs, variant, fields, Parts}
use Rattle.cg_core.specs.declared.at.At.{At}
use Rattle.cg_core.specs.Terms.{Note, Tree, term, put}
use Rattle.cg_cmachine_def.specs.Layouts.{Layout, layout, pointer, size, spot}
use Rattle.cg_cmachine_def.specs.Operands.{Frame}
use Rattle.cg_cmachine_def.specs.Outcomes.{ok}
use Rattle.cg_cmachine_def.specs.Runs.{Linked}
use Rattle.cg_cmachine_def.specs.Targets.{spliced, with_scalars}
use Rattle.cg_cmachine_def.specs.Targets as targets
use Rattle.cg_ctree.specs.declared.tree.COpnd.{COpnd}
use Rattle.cg_ctree.specs.declared.tree.CRhs.TheVariants.{Opnd}
use Rattle.cg_ctree.specs.declared.tree.CTy.{CTy}
use Rattle.cg_ctree.specs.declared.tree.CTy.TheVariants as ty
use Rattle.cg_ctree.specs.Trees.{assign}
use Rattle.cg_heap.specs.declared.cell.Cell.TheVariants.{Slots}
use Rattle.cg_heap.specs.declared.cell.Scalar.{Scalar}
use Rattle.cg_heap.specs.declared.cell.Scalar.TheVariants.{Address}
use Rattle.cg_heap.specs.Reps.{first_address, slots}
use Rattle.cg_heap.specs.Stored.{cell_at, changed}
use Rattle.cg_eval_operations.specs.Positions.{position}
use Rattle.cg_typing.specs.Parts.{field_in, held as held_type, is_there}
use Rattle.cg_typing.specs.Rules.{type_at}
use Rattle.cg_update.specs.Calls.{Program, types_of}
use Rattle.cg_update.specs.Machines.{is_address, is_machine, type_of_part, with_part_at}
use Rattle.cg_update.specs.Outcomes.{State, Outcome, with_store, gives, bind, on, pay}
use Rattle.cg_update.specs.Turns.{fields_in}
use Rattle.cg_update.specs.Updates.{Calls, cell_slots, row_of, sigil_of, update, update_shape, with_row, write}
use Rattle.cg_lower_def.specs.CTypes.{c_type, IsDeclared, record_struct}
use Rattle.cg_cgen_def.specs.Bodies.{Low}
use Rattle.cg_lower_def.specs.Lowered.{Whole, and_then, bare, before, copy, low, low_put, low_shape, owned, owned_by, set}
use Rattle.cg_cgen_def.specs.Places.{arrow_path, argument, local, Place, number, held, field, base_name, base_of, local_name, operand, path}
use Rattle.cg_lower_def.specs.Simulated.{as_run}
use Rattle.cg_lower_laws.proofs.Frames.{Is, set_is, changes_none, changes_set, Fresh, fresh_back, fresh_front, fresh_later, Keeps, is_kept, kept_is, keeps_later, Under, under_more}
use Rattle.cg_lower_laws.proofs.Inversions.{Bound, bind_is, on_is, pay_is}
use Rattle.cg_lower_laws.proofs.Layouts.{before as offset, field_leads, lay, machine_slots, named_is, size_slots, with_part_is, with_part_type}
use Rattle.cg_lower_laws.proofs.Members.{Bare, bare_fresh, bare_is, bare_room, bared, cell_is, copied, copy_bare, Counted, counted, declared_at, ran_of, still_bare}
use Rattle.cg_lower_laws.proofs.Nodes.{Node, node_is, Sim}
use Rattle.cg_lower_laws.proofs.Operands.{address_is, field_declared, machine_readable, Reads, reads, write_cell, write_part}
use Rattle.cg_lower_laws.proofs.Runs.{Runs, runs_plain}
use Rattle.cg_lower_laws.proofs.Terms.{kept_later, lay_c, Ran, went_before, went_joined, went_on}

module _ (p : Program) (whole : Whole) (q : Linked) (l : Layout) (calls : Calls) (few : (k : ℕ) (t : Tau) → types_of p k ≡ Some t → k < 2 ^ 32) where
  abbrev lay_of : Tau → Layout
  lay_of t = lay whole.numbered q.program.structs t

  abbrev Count : ℕ → Frame → State → Low → Tau → List Scalar → State → ℕ → Type 0
  Count k fr s a t us s1 most = Counted p whole q l calls few k fr s a t us s1 most

  -- ---- a record, and what is put into it

  -- the record's term and then the other, with the value of the first; that of the second is kept too
  record Both (k : ℕ) (fr : Frame) (s : State) (a b : Low) (t u : Tau) (us ws : List Scalar) (s2 : State) (most : ℕ) : Type 0 where
    ran : Count k fr s (before a b) t us s2 most
    other : Keeps ran.frame b.value (lay_of u) ws
    under : Under (k + length (a.locals ++ b.locals)) b.value
    machine : is_machine (types_of p) u ws ≡ true

  both : (k n : ℕ) (fr : Frame) (s s1 s2 : State) (a b : Low) (t u : Tau) (us ws : List Scalar) (most most' : ℕ) → n ≡ k + length a.locals → k + length (a.locals ++ b.locals) ≤ 2 ^ 64
      → (x : Count k fr s a t us s1 most) → Count n x.frame s1 b u ws s2 most' → Both k fr s a b t u us ws s2 (most + most')
  both k n fr s s1 s2 a b t u us ws most most' e bound x y =
      let len = length-append a.locals b.locals in
      record {
        ran = record {
          steps = x.steps + y.steps;
          frame = y.frame;
          within = let v = x.within in let w = y.within in omega (arith, v, w);
          went = went_before q l k fr y.frame (as_run s) (as_run s2) a b (x.steps + y.steps)
              (went_joined q l k n fr x.frame y.frame (as_run s) (as_run s1) (as_run s2) a b x.steps y.steps e x.went y.went);
          keeps = keeps_later n (n + length b.locals) x.frame y.frame a.value (lay_of t) us y.went.changes (omega (arith, e, len, bound)) (subst (λ z. Under z a.value) (sym e) x.under) x.keeps;
          under = under_more (k + length a.locals) (k + length (a.locals ++ b.locals)) a.value (omega (arith, len)) x.under;
          machine = x.machine;
        };
        other = y.keeps;
        under = under_more (n + length b.locals) (k + length (a.locals ++ b.locals)) b.value (omega (arith, e, len)) y.under;
        machine = y.machine;
      }

  -- what is put can be read once the record is in a variable
  other_reads : (k : ℕ) (fr : Frame) (s s2 : State) (a b c : Low) (t u : Tau) (us ws : List Scalar) (most most' : ℕ) → IsDeclared whole.numbered q.program.structs u → k + length c.locals ≤ 2 ^ 64
      → (x : Both k fr s a b t u us ws s2 most) → (y : Bare p whole q l calls few k fr s c t us s2 most' (k + length (a.locals ++ b.locals)) x.ran.frame)
      → Reads whole.numbered q.program.structs s2.store y.ran.frame (operand b.value) (lay_of u) ws
  other_reads k fr s s2 a b c t u us ws most most' d bound x y =
      reads whole.numbered q.program.structs s2.store y.ran.frame b.value (lay_of u) ws
      (keeps_later (k + length (a.locals ++ b.locals)) (k + length c.locals) x.ran.frame y.ran.frame b.value (lay_of u) ws y.alone bound x.under x.other)
      (machine_readable whole.numbered q.program.structs (types_of p) few u ws x.machine)

  -- ---- unboxed records

  -- a local of the node's own, from number k on
  record Owned (k : ℕ) (fr : Frame) (s : State) (b : Low) (t : Tau) (us : List Scalar) (s1 : State) (most n : ℕ) (former : Frame) : Type 0 where
    bare : Bare p whole q l calls few k fr s b t us s1 most n former
    own : ℕ
    is : b.value ≡ held (local own) []
    new : k ≤ own

  copy_owned : (k : ℕ) (fr : Frame) (s s1 : State) (a : Low) (t : Tau) (us : List Scalar) (most : ℕ) (v : Place) → a.value ≡ v → IsDeclared whole.numbered q.program.structs t
      → Fresh (lay_c q) fr k (a.locals ++ c_type whole.numbered t ∷ []) → k + length (a.locals ++ c_type whole.numbered t ∷ []) ≤ 2 ^ 64
      → (c : Count k fr s a t us s1 most) → Owned k fr s (set k (c_type whole.numbered t) a (copy v)) t us s1 (most + 1) (k + length a.locals) c.frame
  copy_owned k fr s s1 a t us most v e d fresh bound c =
      record {
        bare = copy_bare p whole q l calls few k fr s s1 a t us (most + 1) c.frame v (copied p whole q l calls few k fr s s1 a t us most v e d fresh bound c);
        own = k + length a.locals;
        is = refl;
        new = omega arith;
      }

  owned_ran : (k : ℕ) (fr : Frame) (s s1 : State) (a : Low) (t : Tau) (us : List Scalar) (most : ℕ) (v : Place) → a.value ≡ v → IsDeclared whole.numbered q.program.structs t
      → Fresh (lay_c q) fr k (owned_by k (c_type whole.numbered t) a v).locals → k + length (owned_by k (c_type whole.numbered t) a v).locals ≤ 2 ^ 64
      → (c : Count k fr s a t us s1 most) → Owned k fr s (owned_by k (c_type whole.numbered t) a v) t us s1 (most + 1) (k + length a.locals) c.frame
  owned_ran k fr s s1 a t us most (number n) e d fresh bound c = copy_owned k fr s s1 a t us most (number n) e d fresh bound c
  owned_ran k fr s s1 a t us most (held argument steps) e d fresh bound c = copy_owned k fr s s1 a t us most (held argument steps) e d fresh bound c
  owned_ran k fr s s1 a t us most (held (local j) (x ∷ steps)) e d fresh bound c = copy_owned k fr s s1 a t us most (held (local j) (x ∷ steps)) e d fresh bound c
  owned_ran k fr s s1 a t us most (held (local j) []) e d fresh bound c = by_test (nat_le k j) refl fresh bound
    where
      low_by : Bool → Low
      low_by b = cond b a (set k (c_type whole.numbered t) a (copy a.value))

      by_test : (b : Bool) → nat_le k j ≡ b → Fresh (lay_c q) fr k (low_by b).locals → k + length (low_by b).locals ≤ 2 ^ 64 → Owned k fr s (low_by b) t us s1 (most + 1) (k + length a.locals) c.frame
      by_test true h f r =
          record {
            bare = still_bare p whole q l calls few k fr s s1 a t us most (local j) e c;
            own = j;
            is = e;
            new = leb-true k j h;
          }
      by_test false h f r = copy_owned k fr s s1 a t us most a.value refl d f r c

  -- a field of it is set
  put_own : (k : ℕ) (fr : Frame) (s s2 : State) (b : Low) (t : Tau) (ps : Parts) (i : ℕ) (us ws after : List Scalar) (most n : ℕ) (former : Frame) (o : COpnd) → IsDeclared whole.numbered q.program.structs (fields ps U)
      → (x : Owned k fr s b (fields ps U) us s2 most n former) → Reads whole.numbered q.program.structs s2.store x.bare.ran.frame o (lay_of (type_of_part i ps)) ws
      → with_part_at i ps ws us ≡ Some after → length ws ≡ slots (type_of_part i ps) → c_type whole.numbered (fields ps U) ≡ c_type whole.numbered t → is_machine (types_of p) t after ≡ true
      → Count k fr s (and_then b (assign (path (base_of b.value) (field i ∷ [])) (Opnd o) ∷ [])) t after s2 (most + 1)
  put_own k fr s s2 b t ps i us ws after most n former o d x r e sized in_c machine =
      record {
        steps = x.bare.ran.steps + 1;
        frame = with_scalars (local_name x.own) after x.bare.ran.frame;
        within = let w = x.bare.ran.within in omega (arith, w);
        went = went_on q l k fr x.bare.ran.frame (with_scalars (local_name x.own) after x.bare.ran.frame) (as_run s) (as_run s2) (as_run s2) b (assign (path (base_of b.value) (field i ∷ [])) (Opnd o) ∷ [])
            x.bare.ran.steps 1 x.bare.ran.went
            (subst (λ z. Runs q l (assign (path (base_of z) (field i ∷ [])) (Opnd o) ∷ []) x.bare.ran.frame (as_run s2) 1 (with_scalars (local_name x.own) after x.bare.ran.frame) (as_run s2)) (sym x.is)
            (runs_plain q l (path (local x.own) (field i ∷ [])) (Opnd o) x.bare.ran.frame (as_run s2) r.value (record { frame = with_scalars (local_name x.own) after x.bare.ran.frame; store = s2.store }) refl r.read written))
            (changes_set k (k + length b.locals) x.own x.bare.ran.frame after x.new (subst (Under (k + length b.locals)) x.is x.bare.ran.under));
        keeps = subst (λ z. Keeps (with_scalars (local_name x.own) after x.bare.ran.frame) b.value (lay_c q z) after) in_c
            (subst (λ z. Keeps (with_scalars (local_name x.own) after x.bare.ran.frame) z (lay_of (fields ps U)) after) (sym x.is)
            (is_kept (with_scalars (local_name x.own) after x.bare.ran.frame) (local x.own) (lay_of (fields ps U)) after
            (set_is x.bare.ran.frame (local_name x.own) (lay_of (fields ps U)) us after there ((with_part_is i ps ws us after e sized).3 ∙ there.sized))));
        under = x.bare.ran.under;
        machine = machine;
      }
    where
      there : Is x.bare.ran.frame (local_name x.own) (lay_of (fields ps U)) us
      there = kept_is x.bare.ran.frame (local x.own) (lay_of (fields ps U)) us (subst (λ z. Keeps x.bare.ran.frame z (lay_of (fields ps U)) us) x.is x.bare.ran.keeps)

      same : size (lay_of (type_of_part i ps)) ≡ slots (type_of_part i ps)
      same = size_slots whole.numbered q.program.structs (type_of_part i ps) (field_declared whole.numbered q.program.structs ps U i d (with_part_is i ps ws us after e sized).0)

      made : spliced (spot (offset i ps) (lay_of (type_of_part i ps))) ws us ≡ after
      made = ap (λ n. take (offset i ps) us ++ ws ++ drop (offset i ps + n) us) same ∙ sym (with_part_is i ps ws us after e sized).2

      written : targets.write q.program.structs x.bare.ran.frame s2.store (path (local x.own) (field i ∷ [])) r.value ≡ ok (record { frame = with_scalars (local_name x.own) after x.bare.ran.frame; store = s2.store })
      written =
          write_part whole.numbered q.program.structs s2.store x.bare.ran.frame (local x.own) (field i ∷ []) (lay_of (fields ps U)) us ws (spot (offset i ps) (lay_of (type_of_part i ps))) r.value there
          (field_leads whole.numbered q.program.structs ps U i d (with_part_is i ps ws us after e sized).0) r.given
          ∙ ap (λ z. ok (record { frame = with_scalars (local_name x.own) z x.bare.ran.frame; store = s2.store })) made

  -- ---- boxed records

  -- a field of the cell that a variable points to is set
  put_cell : (k : ℕ) (fr : Frame) (s s2 : State) (b : Low) (t t' : Tau) (ps : Parts) (sigil : Sigil) (i at' : ℕ) (us row ws after : List Scalar) (most n : ℕ) (former : Frame) (o : COpnd)
      → c_type whole.numbered t ≡ ty.Pointer (record_struct whole.numbered ps) → IsDeclared whole.numbered q.program.structs (fields ps sigil)
      → us ≡ Address at' ∷ [] → cell_at s2.store at' ≡ Some (Slots row)
      → (x : Bare p whole q l calls few k fr s b t us s2 most n former) → Reads whole.numbered q.program.structs s2.store x.ran.frame o (lay_of (type_of_part i ps)) ws
      → with_part_at i ps ws row ≡ Some after → length ws ≡ slots (type_of_part i ps) → c_type whole.numbered t ≡ c_type whole.numbered t' → is_machine (types_of p) t' us ≡ true
      → Count k fr s (and_then b (assign (arrow_path (base_of b.value) (field i ∷ [])) (Opnd o) ∷ [])) t' us (with_store (changed (λ c. Some (Slots after)) (first_address us) s2.store) s2) (most + 1)
  put_cell k fr s s2 b t t' ps sigil i at' us row ws after most n former o c d e cell x r h sized in_c machine =
      record {
        steps = x.ran.steps + 1;
        frame = x.ran.frame;
        within = let w = x.ran.within in omega (arith, w);
        went = went_on q l k fr x.ran.frame x.ran.frame (as_run s) (as_run s2) (as_run (with_store (changed (λ c. Some (Slots after)) (first_address us) s2.store) s2)) b
            (assign (arrow_path (base_of b.value) (field i ∷ [])) (Opnd o) ∷ []) x.ran.steps 1 x.ran.went
            (runs_plain q l (arrow_path (base_of b.value) (field i ∷ [])) (Opnd o) x.ran.frame (as_run s2) r.value (record { frame = x.ran.frame; store = changed (λ c. Some (Slots after)) (first_address us) s2.store }) refl r.read written)
            (changes_none k (k + length b.locals) x.ran.frame);
        keeps = subst (λ z. Keeps x.ran.frame b.value (lay_c q z) us) in_c x.ran.keeps;
        under = x.ran.under;
        machine = machine;
      }
    where
      pointed_to : Is x.ran.frame (base_name (base_of b.value)) (pointer (record_struct whole.numbered ps)) (Address at' ∷ [])
      pointed_to =
          subst (λ z. Is x.ran.frame (base_name (base_of b.value)) (pointer (record_struct whole.numbered ps)) z) e
          (subst (λ z. Is x.ran.frame (base_name (base_of b.value)) (layout q.program.structs z) us) c (bare_is p whole q l calls few k fr s s2 b t us most n former x))

      written : targets.write q.program.structs x.ran.frame s2.store (arrow_path (base_of b.value) (field i ∷ [])) r.value ≡ ok (record { frame = x.ran.frame; store = changed (λ c. Some (Slots after)) (first_address us) s2.store })
      written =
          subst (λ z. targets.write q.program.structs x.ran.frame s2.store (arrow_path (base_of b.value) (field i ∷ [])) r.value ≡ ok (record { frame = x.ran.frame; store = changed (λ c. Some (Slots after)) (first_address z) s2.store })) (sym e)
          (write_cell whole.numbered q.program.structs s2.store x.ran.frame (base_of b.value) ps sigil i at' row ws after r.value d pointed_to cell h r.given sized)

  -- ---- the node

  -- a field that is there
  field_of : (x : List ℕ) (ps : Parts) (sigil : Sigil) (u : Tau) → IsTrue (is_there (field_in x (fields ps sigil))) → u ≡ held_type (field_in x (fields ps sigil)) → u ≡ type_of_part (position x (fields ps sigil)) ps
  unfolding position
  field_of x ps sigil u h e = e ∙ (named_is x ps h).0

  -- what a put writes
  record IsPut (t : Tau) (i : ℕ) (us ws : List Scalar) (s : State) (given : List Scalar) (s' : State) (left rest : ℕ) : Type 0 where
    row : List Scalar
    stands : row_of (sigil_of t) us s.store ≡ Some row
    after : List Scalar
    part : with_part_at i (fields_in t) ws row ≡ Some after
    later : with_row (sigil_of t) us after s left ≡ gives given s' rest

  put_is : (t : Tau) (i : ℕ) (us ws : List Scalar) (s : State) (given : List Scalar) (s' : State) (left rest : ℕ) → write p t i us ws s left ≡ gives given s' rest → IsPut t i us ws s given s' left rest
  put_is t i us ws s given s' left rest e =
      let row = on_is (row_of (sigil_of t) us s.store) (λ row. on (with_part_at i (fields_in t) ws row) (λ after. with_row (sigil_of t) us after s left)) given s' rest e in
      let part = on_is (with_part_at i (fields_in t) ws row.0) (λ after. with_row (sigil_of t) us after s left) given s' rest row.2 in
      record { row = row.0; stands = row.1; after = part.0; part = part.1; later = part.2 }

  -- a put into a boxed record
  put_boxed : (k : ℕ) (fr : Frame) (s s2 : State) (a b : Low) (t t' u : Tau) (ps : Parts) (sigil : Sigil) (x : List ℕ) (us ws row after : List Scalar) (most : ℕ)
      → c_type whole.numbered t ≡ ty.Pointer (record_struct whole.numbered ps) → IsTrue (is_there (field_in x (fields ps sigil))) → u ≡ held_type (field_in x (fields ps sigil))
      → IsDeclared whole.numbered q.program.structs t → IsDeclared whole.numbered q.program.structs (fields ps sigil) → IsDeclared whole.numbered q.program.structs u
      → is_address us ≡ true → cell_slots (cell_at s2.store (first_address us)) ≡ Some row → with_part_at (position x (fields ps sigil)) ps ws row ≡ Some after
      → c_type whole.numbered t ≡ c_type whole.numbered t' → is_machine (types_of p) t' us ≡ true
      → Fresh (lay_c q) fr k (bare k (c_type whole.numbered t) (before a b)).locals → k + length (bare k (c_type whole.numbered t) (before a b)).locals ≤ 2 ^ 64
      → Both k fr s a b t u us ws s2 most
      → Count k fr s (and_then (bare k (c_type whole.numbered t) (before a b)) (assign (arrow_path (base_of (bare k (c_type whole.numbered t) (before a b)).value) (field (position x (fields ps sigil)) ∷ [])) (Opnd (operand b.value)) ∷ []))
      t' us (with_store (changed (λ c. Some (Slots after)) (first_address us) s2.store) s2) (most + 1 + 1)
  put_boxed k fr s s2 a b t t' u ps sigil x us ws row after most c there e dt d du at' stands part in_c machine fresh bound y =
      let address = address_is us at' in
      let bared_here = bared p whole q l calls few k fr s s2 (before a b) t us most a.value refl dt fresh bound y.ran in
      let cell : cell_at s2.store address.0 ≡ Some (Slots row) = subst (λ z. cell_at s2.store (first_address z) ≡ Some (Slots row)) address.1 (cell_is p whole q l calls few (cell_at s2.store (first_address us)) row stands) in
      let read = other_reads k fr s s2 a b (bare k (c_type whole.numbered t) (before a b)) t u us ws most (most + 1) du bound y bared_here in
      let same = field_of x ps sigil u there e in
      put_cell k fr s s2 (bare k (c_type whole.numbered t) (before a b)) t t' ps sigil (position x (fields ps sigil)) address.0 us row ws after (most + 1) (k + length (a.locals ++ b.locals)) y.ran.frame (operand b.value) c d address.1 cell bared_here
      (subst (λ z. Reads whole.numbered q.program.structs s2.store bared_here.ran.frame (operand b.value) (lay_of z) ws) same read) part
      (machine_slots (types_of p) u ws y.machine ∙ ap slots same) in_c machine

  put_ran : (k : ℕ) (fr : Frame) (s s2 s' : State) (a b : Low) (t t' u : Tau) (x : List ℕ) (us ws given : List Scalar) (most left rest : ℕ) → IsTrue (is_there (field_in x t)) → u ≡ held_type (field_in x t)
      → IsDeclared whole.numbered q.program.structs t → IsDeclared whole.numbered q.program.structs u → IsPut t (position x t) us ws s2 given s' left rest
      → c_type whole.numbered t ≡ c_type whole.numbered t' → is_machine (types_of p) t' given ≡ true
      → Fresh (lay_c q) fr k (low_put k (sigil_of t) (c_type whole.numbered t) (position x t) a b).locals → k + length (low_put k (sigil_of t) (c_type whole.numbered t) (position x t) a b).locals ≤ 2 ^ 64
      → Both k fr s a b t u us ws s2 most → Count k fr s (low_put k (sigil_of t) (c_type whole.numbered t) (position x t) a b) t' given s' (most + 1 + 1)
  unfolding is_machine
  put_ran k fr s s2 s' a b (fields ps U) t' u x us ws given most left rest there e d du w in_c machine fresh bound y =
      let here = owned_ran k fr s s2 (before a b) (fields ps U) us most a.value refl d fresh bound y.ran in
      let same = field_of x ps U u there e in
      let own_row : us ≡ w.row = let h = w.stands in cc in
      let given_here : w.after ≡ given = let h = w.later in cc in
      let state_here : s2 ≡ s' = let h = w.later in cc in
      let read = other_reads k fr s s2 a b (owned k (c_type whole.numbered (fields ps U)) (before a b)) (fields ps U) u us ws most (most + 1) du bound y here.bare in
      subst (λ z. Count k fr s (low_put k U (c_type whole.numbered (fields ps U)) (position x (fields ps U)) a b) t' given z (most + 1 + 1)) state_here
      (put_own k fr s s2 (owned k (c_type whole.numbered (fields ps U)) (before a b)) t' ps (position x (fields ps U)) us ws given (most + 1) (k + length (a.locals ++ b.locals)) y.ran.frame (operand b.value) d here
      (subst (λ z. Reads whole.numbered q.program.structs s2.store here.bare.ran.frame (operand b.value) (lay_of z) ws) same read)
      (subst (λ z. with_part_at (position x (fields ps U)) ps ws z ≡ Some given) (sym own_row) (w.part ∙ ap Some given_here))
      (machine_slots (types_of p) u ws y.machine ∙ ap slots same) in_c machine)
  put_ran k fr s s2 s' a b (fields ps R) t' u x us ws given most left rest there e d du w in_c machine fresh bound y =
      let same_value : us ≡ given = let h = w.later in cc in
      let state_here : with_store (changed (λ c. Some (Slots w.after)) (first_address us) s2.store) s2 ≡ s' = let h = w.later in cc in
      subst (λ z. Count k fr s (low_put k R (c_type whole.numbered (fields ps R)) (position x (fields ps R)) a b) t' given z (most + 1 + 1)) state_here
      (subst (λ z. Count k fr s (low_put k R (c_type whole.numbered (fields ps R)) (position x (fields ps R)) a b) t' z (with_store (changed (λ c. Some (Slots w.after)) (first_address us) s2.store) s2) (most + 1 + 1)) same_value
      (put_boxed k fr s s2 a b (fields ps R) t' u ps R x us ws w.row w.after most refl there e d d du y.ran.machine w.stands w.part in_c (subst (λ z. is_machine (types_of p) t' z ≡ true) (sym same_value) machine) fresh bound y))
  put_ran k fr s s2 s' a b (fields ps W) t' u x us ws given most left rest there e d du w in_c machine fresh bound y =
      let same_value : us ≡ given = let h = w.later in cc in
      let state_here : with_store (changed (λ c. Some (Slots w.after)) (first_address us) s2.store) s2 ≡ s' = let h = w.later in cc in
      subst (λ z. Count k fr s (low_put k W (c_type whole.numbered (fields ps W)) (position x (fields ps W)) a b) t' given z (most + 1 + 1)) state_here
      (subst (λ z. Count k fr s (low_put k W (c_type whole.numbered (fields ps W)) (position x (fields ps W)) a b) t' z (with_store (changed (λ c. Some (Slots w.after)) (first_address us) s2.store) s2) (most + 1 + 1)) same_value
      (put_boxed k fr s s2 a b (fields ps W) t' u ps W x us ws w.row w.after most refl there e d d du y.ran.machine w.stands w.part in_c (subst (λ z. is_machine (types_of p) t' z ≡ true) (sym same_value) machine) fresh bound y))
  put_ran k fr s s2 s' a b (var n) t' u x us ws given most left rest there e d du w in_c machine fresh bound y = absurd (cc)
  put_ran k fr s s2 s' a b (seen n) t' u x us ws given most left rest there e d du w in_c machine fresh bound y = absurd (cc)
  put_ran k fr s s2 s' a b unit t' u x us ws given most left rest there e d du w in_c machine fresh bound y = absurd (cc)
  put_ran k fr s s2 s' a b (word v) t' u x us ws given most left rest there e d du w in_c machine fresh bound y = absurd (cc)
  put_ran k fr s s2 s' a b bool t' u x us ws given most left rest there e d du w in_c machine fresh bound y = absurd (cc)
  put_ran k fr s s2 s' a b (arrow v z) t' u x us ws given most left rest there e d du w in_c machine fresh bound y = absurd (cc)
  put_ran k fr s s2 s' a b (abs v args sigil) t' u x us ws given most left rest there e d du w in_c machine fresh bound y = absurd (cc)
  put_ran k fr s s2 s' a b (variant ps) t' u x us ws given most left rest there e d du w in_c machine fresh bound y = absurd (cc)

  -- the locals of a term come first among those of a copy of its own
  owned_fresh : (k : ℕ) (fr : Frame) (t : CTy) (a : Low) (v : Place) → Fresh (lay_c q) fr k (owned_by k t a v).locals → Fresh (lay_c q) fr k a.locals
  owned_fresh k fr t a (number n) f = fresh_front (lay_c q) fr k a.locals (t ∷ []) f
  owned_fresh k fr t a (held argument steps) f = fresh_front (lay_c q) fr k a.locals (t ∷ []) f
  owned_fresh k fr t a (held (local j) (x ∷ steps)) f = fresh_front (lay_c q) fr k a.locals (t ∷ []) f
  owned_fresh k fr t a (held (local j) []) f = by_test (nat_le k j) f
    where
      by_test : (b : Bool) → Fresh (lay_c q) fr k (cond b a (set k t a (copy a.value))).locals → Fresh (lay_c q) fr k a.locals
      by_test true f = f
      by_test false f = fresh_front (lay_c q) fr k a.locals (t ∷ []) f

  owned_room : (k : ℕ) (t : CTy) (a : Low) (v : Place) → k + length (owned_by k t a v).locals ≤ 2 ^ 64 → k + length a.locals ≤ 2 ^ 64
  owned_room k t a (number n) h = let len = length-append a.locals (t ∷ []) in omega (arith, len, h)
  owned_room k t a (held argument steps) h = let len = length-append a.locals (t ∷ []) in omega (arith, len, h)
  owned_room k t a (held (local j) (x ∷ steps)) h = let len = length-append a.locals (t ∷ []) in omega (arith, len, h)
  owned_room k t a (held (local j) []) h = by_test (nat_le k j) h
    where
      by_test : (b : Bool) → k + length (cond b a (set k t a (copy a.value))).locals ≤ 2 ^ 64 → k + length a.locals ≤ 2 ^ 64
      by_test true h = h
      by_test false h = let len = length-append a.locals (t ∷ []) in omega (arith, len, h)

  -- a write takes nothing of the budget
  row_left : (sigil : Sigil) (us row : List Scalar) (s : State) (given : List Scalar) (s' : State) (left rest : ℕ) → with_row sigil us row s left ≡ gives given s' rest → left ≡ rest
  row_left U us row s given s' left rest e = cc
  row_left R us row s given s' left rest e = cc
  row_left W us row s given s' left rest e = cc

  written_left : (t : Tau) (i : ℕ) (us ws : List Scalar) (s : State) (given : List Scalar) (s' : State) (left rest : ℕ) → write p t i us ws s left ≡ gives given s' rest → left ≡ rest
  written_left t i us ws s given s' left rest e = let w = put_is t i us ws s given s' left rest e in row_left (sigil_of t) us w.after s given s' left rest w.later

  -- the locals of both parts come first
  put_locals : (k : ℕ) (fr : Frame) (sigil : Sigil) (r : CTy) (i : ℕ) (a b : Low) → Fresh (lay_c q) fr k (low_put k sigil r i a b).locals → Fresh (lay_c q) fr k (a.locals ++ b.locals)
  put_locals k fr U r i a b f = owned_fresh k fr r (before a b) a.value f
  put_locals k fr R r i a b f = bare_fresh (lay_c q) fr k r (before a b) a.value f
  put_locals k fr W r i a b f = bare_fresh (lay_c q) fr k r (before a b) a.value f

  put_room : (k : ℕ) (sigil : Sigil) (r : CTy) (i : ℕ) (a b : Low) → k + length (low_put k sigil r i a b).locals ≤ 2 ^ 64 → k + length (a.locals ++ b.locals) ≤ 2 ^ 64
  put_room k U r i a b h = owned_room k r (before a b) a.value h
  put_room k R r i a b h = bare_room k r (before a b) a.value h
  put_room k W r i a b h = bare_room k r (before a b) a.value h

  pub sim_put : (note : Note) (e : Tree Note) (name : At) (x : Tree Note) → Sim p whole q l calls e → Sim p whole q l calls x → Sim p whole q l calls (term note (put e name x))
  unfolding update_shape low low_shape
  sim_put note e name x he hx k g os vs fr s s' left rest us typed kept fresh bound h =
      subst (λ n. Ran q (types_of p) whole.numbered l k fr s (low whole k os (term note (put e name x))) note.ty us s' n rest) (sym n.is)
      (ran_of p whole q l calls few k fr s s' (low whole k os (term note (put e name x))) note.ty us (suc n.paid) rest (first.steps + second.steps + 1 + 1)
      (put_ran k fr s two.state s' a b (type_at e) note.ty (type_at x) name.name one.scalars two.scalars us (first.steps + second.steps) two.rest rest typed.1.2 typed.1.3
      (declared_at p whole q l calls few g e typed.1.0) (declared_at p whole q l calls few g x typed.1.1) (put_is (type_at e) (position name.name (type_at e)) one.scalars two.scalars two.state us s' two.rest rest two.later)
      in_c n.machine fresh bound
      (both k next fr s one.state two.state a b (type_at e) (type_at x) one.scalars two.scalars first.steps second.steps refl room
      (counted p whole q l calls few k fr s one.state a (type_at e) one.scalars n.paid one.rest first.steps first (omega arith))
      (counted p whole q l calls few next first.frame one.state two.state b (type_at x) two.scalars paid.0 two.rest second.steps second (omega arith))))
      (let v = first.within in let w = second.within in let is = paid.1 in let same = same_left in omega (arith, v, w, is, same)))
    where
      a : Low
      a = low whole k os e

      next : ℕ
      next = k + length a.locals

      b : Low
      b = low whole next os x

      len : length (a.locals ++ b.locals) ≡ length a.locals + length b.locals
      len = length-append a.locals b.locals

      room : k + length (a.locals ++ b.locals) ≤ 2 ^ 64
      room = put_room k (sigil_of (type_at e)) (c_type whole.numbered (type_at e)) (position name.name (type_at e)) a b bound

      own : Fresh (lay_c q) fr k (a.locals ++ b.locals)
      own = put_locals k fr (sigil_of (type_at e)) (c_type whole.numbered (type_at e)) (position name.name (type_at e)) a b fresh

      n : Node p calls note.ty (put e name x) vs s left us s' rest
      n = node_is p calls note (put e name x) vs s left us s' rest h

      put_into : List Scalar → List Scalar → State → ℕ → Outcome
      put_into us ws t last = write p (type_at e) (position name.name (type_at e)) us ws t last

      rest_of : List Scalar → State → ℕ → Outcome
      rest_of us t rest = pay rest (λ paid. bind (update p calls x vs t paid) (put_into us))

      one : Bound (update p calls e vs s n.paid) rest_of us s' rest
      one = bind_is (update p calls e vs s n.paid) rest_of us s' rest n.given

      paid : (m : ℕ) × (one.rest ≡ suc m) × (bind (update p calls x vs one.state m) (put_into one.scalars) ≡ gives us s' rest)
      paid = pay_is one.rest (λ paid. bind (update p calls x vs one.state paid) (put_into one.scalars)) us s' rest one.later

      two : Bound (update p calls x vs one.state paid.0) (put_into one.scalars) us s' rest
      two = bind_is (update p calls x vs one.state paid.0) (put_into one.scalars) us s' rest paid.2

      same_left : two.rest ≡ rest
      same_left = written_left (type_at e) (position name.name (type_at e)) one.scalars two.scalars two.state us s' two.rest rest two.later

      first : Ran q (types_of p) whole.numbered l k fr s a (type_at e) one.scalars one.state n.paid one.rest
      first = he k g os vs fr s one.state n.paid one.rest one.scalars typed.1.0 kept (fresh_front (lay_c q) fr k a.locals b.locals own) (omega (arith, len, room)) one.first

      second : Ran q (types_of p) whole.numbered l next first.frame one.state b (type_at x) two.scalars two.state paid.0 two.rest
      second =
          hx next g os vs first.frame one.state two.state paid.0 two.rest two.scalars typed.1.1 (kept_later q k next fr first.frame g os vs (omega arith) (omega (arith, len, room)) first.went.changes kept)
          (fresh_later (lay_c q) k next next fr first.frame b.locals first.went.changes (omega arith) (omega (arith, len, room)) (fresh_back (lay_c q) fr k next a.locals b.locals refl own))
          (omega (arith, len, room)) two.first

      in_c : c_type whole.numbered (type_at e) ≡ c_type whole.numbered note.ty
      in_c = sym (with_part_type whole.numbered name.name false (type_at e)) ∙ ap (c_type whole.numbered) (sym typed.1.4)
