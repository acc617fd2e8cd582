-- The C that asks for a cell: it leaves the allocator with the cell, or with None.
use Rattle.std.proofs.Common.{◌≡◌, ℕ, suc, ◌+◌, ◌^◌, ◌<◌, false, nat_eq, Some, List, [], ◌∷◌, length, replicate, map, refl, sym, ap, ◌∙◌, subst, arith, codes}
use Rattle.std.proofs.lemmas.Bool.{lt-ltb, ne_eqb}
use Rattle.cg_base.specs.declared.kind.Sigil.TheVariants.{U}
use Rattle.cg_base.specs.declared.kind.Word.{Word}
use Rattle.cg_base.specs.declared.kind.Word.TheVariants.{U8, U32}
use Rattle.cg_base.specs.Types.{Tau, unit, Parts, end, part}
use Rattle.cg_base.specs.Words.{bits}
use Rattle.cg_cmachine_def.specs.Layouts.{Layout, cell, pointer, size, spot, walk, layout}
use Rattle.cg_cmachine_def.specs.Operands.{Frame, judge, typed as value_of}
use Rattle.cg_cmachine_def.specs.Operations.{flag, word_value}
use Rattle.cg_cmachine_def.specs.Outcomes.{ok, State}
use Rattle.cg_cmachine_def.specs.Runs.{Linked, judged_word, plain}
use Rattle.cg_cmachine_def.specs.Targets.{spliced, with_scalars}
use Rattle.cg_ctree.specs.declared.tree.COpnd.{COpnd}
use Rattle.cg_ctree.specs.declared.tree.CRhs.{CRhs}
use Rattle.cg_ctree.specs.declared.tree.CRhs.TheVariants.{Opnd, IsNull}
use Rattle.cg_ctree.specs.declared.tree.CStruct.{CStruct}
use Rattle.cg_ctree.specs.declared.tree.CTy.TheVariants as ty
use Rattle.cg_ctree.specs.Trees.{assign}
use Rattle.cg_heap.specs.declared.cell.Scalar.{Scalar}
use Rattle.cg_heap.specs.declared.cell.Scalar.TheVariants.{Unset, Word as NumberScalar, Address}
use Rattle.cg_heap.specs.Reps.{slots}
use Rattle.cg_heap.specs.Stored.{Stored}
use Rattle.cg_typing.specs.Library.{maybe, pair, state}
use Rattle.cg_update.specs.Machines.{type_of_part}
use Rattle.cg_cgen_def.specs.Names.{field_name, payload_name, tag_name}
use Rattle.cg_lower_def.specs.CTypes.{c_type, count, IsDeclared}
use Rattle.cg_cgen_def.specs.Bodies.{setting}
use Rattle.cg_lower_def.specs.LibraryCode.{asking}
use Rattle.cg_cgen_def.specs.Places.{Step, step_name, field, tag, payload, local, local_name, Place, number, held, path, operand}
use Rattle.cg_lower_laws.proofs.Frames.{Is, Outside, Fresh, Keeps, Under, set_is, changes_set, is_later, keeps_later, outside_below, outside_behind, is_kept}
use Rattle.cg_lower_laws.proofs.Layouts.{lay, size_slots, field_leads, tag_leads, payload_leads, walk_on}
use Rattle.cg_lower_laws.proofs.LibraryParts.{held_read}
use Rattle.cg_lower_laws.proofs.Operands.{IsReadable, reads, given_typed, write_part, write_whole}
use Rattle.cg_lower_laws.proofs.Runs.{Runs, runs_on, runs_plain, runs_branch}

-- ---- one assignment

-- another local stands as it stood
stays : (fr : Frame) (i j : ℕ) (l : Layout) (us new : List Scalar) → Outside j (suc j) (local_name i) → Is fr (local_name i) l us
    → Is (with_scalars (local_name j) new fr) (local_name i) l us
stays fr i j l us new o is = is_later j (suc j) fr (with_scalars (local_name j) new fr) (local_name i) l us (changes_set j (suc j) j fr new (omega arith) (omega arith)) o is

-- whether an address is the null address
null_read : (ss : List CStruct) (m : Stored) (fr : Frame) (o : COpnd) (x : List ℕ) (r : ℕ) → judge ss m fr o ≡ ok (value_of (pointer x) (Address r ∷ []))
    → plain ss m fr (IsNull o) ≡ ok (word_value U8 (flag (nat_eq r 0)))
null_read ss m fr o x r e = rw e refl

module _ (q : Linked) (numbered : Tau → ℕ) (l : Layout) where
  -- a part of a local is set
  pub runs_setting : (fr : Frame) (s : State) (j : ℕ) (steps : List Step) (v : Place) (whole part' : Layout) (old us after : List Scalar) (i : ℕ)
      → Is fr (local_name j) whole old → walk (map step_name steps) whole ≡ Some (spot i part') → Keeps fr v part' us → IsReadable part' us
      → spliced (spot i part') us old ≡ after → Runs q l (setting j steps v ∷ []) fr s 1 (with_scalars (local_name j) after fr) s
  runs_setting fr s j steps v whole part' old us after i is leads k readable e =
      let r = reads numbered q.program.structs s.store fr v part' us k readable in
      subst (λ z. Runs q l (setting j steps v ∷ []) fr s 1 (with_scalars (local_name j) z fr) s) e
      (runs_plain q l (path (local j) steps) (Opnd (operand v)) fr s r.value (record { frame = with_scalars (local_name j) (spliced (spot i part') us old) fr; store = s.store }) refl r.read
      (write_part numbered q.program.structs s.store fr (local j) steps whole old us (spot i part') r.value is leads r.given))

  -- a local is set to whether another is the null address
  runs_null : (fr : Frame) (s : State) (i j : ℕ) (x : List ℕ) (r k : ℕ) (old : List Scalar) → Is fr (local_name i) (pointer x) (Address r ∷ [])
      → Is fr (local_name j) (cell U8) old → flag (nat_eq r 0) ≡ k
      → Runs q l (assign (path (local j) []) (IsNull (operand (held (local i) []))) ∷ []) fr s 1 (with_scalars (local_name j) (NumberScalar k ∷ []) fr) s
  runs_null fr s i j x r k old is to e =
      let there = held_read q.program.structs s.store fr (local i) [] (pointer x) (Address r ∷ []) (is_kept fr (local i) (pointer x) (Address r ∷ []) is) (r, refl) in
      runs_plain q l (path (local j) []) (IsNull (operand (held (local i) []))) fr s (word_value U8 k) (record { frame = with_scalars (local_name j) (NumberScalar k ∷ []) fr; store = s.store }) refl
      (null_read q.program.structs s.store fr (operand (held (local i) [])) x r there ∙ ap (λ n. ok (word_value U8 n)) e)
      (write_whole numbered q.program.structs s.store fr (local j) (cell U8) old (NumberScalar k ∷ []) (word_value U8 k) to (given_typed (cell U8) (NumberScalar k ∷ [])))

-- ---- where the parts of the result stand

module _ (numbered : Tau → ℕ) (ss : List CStruct) (t : Tau) (one : slots t ≡ 1) (d : IsDeclared numbered ss (pair state (maybe t))) where
  -- its fields, and the alternatives of the second
  abbrev both : Parts
  both = part (codes "p1") state false (part (codes "p2") (maybe t) false end)

  abbrev either : Parts
  either = part (codes "None") unit false (part (codes "Some") t false end)

  -- it has four slots
  has_four : size (lay numbered ss (pair state (maybe t))) ≡ 4
  unfolding slots
  has_four = size_slots numbered ss (pair state (maybe t)) d ∙ rw one refl

  -- the second is declared
  declared : IsDeclared numbered ss (maybe t)
  unfolding IsDeclared
  declared = d.2.1.0

  -- the two fields
  first_leads : walk (field_name 0 ∷ []) (lay numbered ss (pair state (maybe t))) ≡ Some (spot 0 (pointer (codes "SysState")))
  unfolding type_of_part count
  first_leads = field_leads numbered ss both U 0 d (omega arith)

  second_leads : walk (field_name 1 ∷ []) (lay numbered ss (pair state (maybe t))) ≡ Some (spot 1 (lay numbered ss (maybe t)))
  unfolding type_of_part count slots
  second_leads = field_leads numbered ss both U 1 d (omega arith)

  -- the tag and the payloads of the second
  flag_leads : walk (field_name 1 ∷ tag_name ∷ []) (lay numbered ss (pair state (maybe t))) ≡ Some (spot 1 (cell U32))
  flag_leads = walk_on numbered ss (field_name 1 ∷ []) (tag_name ∷ []) (lay numbered ss (pair state (maybe t))) (spot 1 (lay numbered ss (maybe t))) (spot 0 (cell U32)) second_leads (tag_leads numbered ss either declared)

  none_leads : walk (field_name 1 ∷ payload_name 0 ∷ []) (lay numbered ss (pair state (maybe t))) ≡ Some (spot 2 (cell U8))
  unfolding type_of_part count
  none_leads = walk_on numbered ss (field_name 1 ∷ []) (payload_name 0 ∷ []) (lay numbered ss (pair state (maybe t))) (spot 1 (lay numbered ss (maybe t))) (spot 1 (cell U8)) second_leads (payload_leads numbered ss either 0 declared (omega arith))

  some_leads : walk (field_name 1 ∷ payload_name 1 ∷ []) (lay numbered ss (pair state (maybe t))) ≡ Some (spot 3 (lay numbered ss t))
  unfolding type_of_part count slots
  some_leads = walk_on numbered ss (field_name 1 ∷ []) (payload_name 1 ∷ []) (lay numbered ss (pair state (maybe t))) (spot 1 (lay numbered ss (maybe t))) (spot 2 (lay numbered ss t)) second_leads (payload_leads numbered ss either 1 declared (omega arith))

-- ---- the statements

-- what a word is, as an operand
word_read : (ss : List CStruct) (m : Stored) (fr : Frame) (o : COpnd) (k : ℕ) → judge ss m fr o ≡ ok (word_value U8 k) → k < 2 ^ 8 → judged_word ss m fr o ≡ ok k
word_read ss m fr o k e h = rw e (rw (lt-ltb k (2 ^ 8) h) refl)

module _ (q : Linked) (numbered : Tau → ℕ) (l : Layout) (t : Tau) (x : List ℕ) (is_pointer : lay numbered q.program.structs t ≡ pointer x) (one : slots t ≡ 1)
    (d : IsDeclared numbered q.program.structs (pair state (maybe t))) where
  abbrev ss : List CStruct
  ss = q.program.structs

  abbrev pub asked_type : Layout
  asked_type = lay numbered ss (pair state (maybe t))

  -- the address, whether it is the null address, and the result
  record Locals (fr : Frame) (address null result : List Scalar) : Type 0 where
    x0 : Is fr (local_name 0) (pointer x) address
    x1 : Is fr (local_name 1) (cell U8) null
    x2 : Is fr (local_name 2) asked_type result

  -- behind each that is set
  set_address : (fr : Frame) (us bs cs new : List Scalar) → length new ≡ 1 → Locals fr us bs cs → Locals (with_scalars (local_name 0) new fr) new bs cs
  unfolding size
  set_address fr us bs cs new e v = record {
    x0 = set_is fr (local_name 0) (pointer x) us new v.x0 e;
    x1 = stays fr 1 0 (cell U8) bs new (outside_behind 0 1 1 (omega arith) (omega arith)) v.x1;
    x2 = stays fr 2 0 asked_type cs new (outside_behind 0 1 2 (omega arith) (omega arith)) v.x2;
  }

  set_null : (fr : Frame) (us bs cs new : List Scalar) → length new ≡ 1 → Locals fr us bs cs → Locals (with_scalars (local_name 1) new fr) us new cs
  unfolding size
  set_null fr us bs cs new e v = record {
    x0 = stays fr 0 1 (pointer x) us new (outside_below 1 2 0 (omega arith) (omega arith)) v.x0;
    x1 = set_is fr (local_name 1) (cell U8) bs new v.x1 e;
    x2 = stays fr 2 1 asked_type cs new (outside_behind 1 2 2 (omega arith) (omega arith)) v.x2;
  }

  set_result : (fr : Frame) (us bs cs new : List Scalar) → length new ≡ 4 → Locals fr us bs cs → Locals (with_scalars (local_name 2) new fr) us bs new
  set_result fr us bs cs new e v = record {
    x0 = stays fr 0 2 (pointer x) us new (outside_below 2 3 0 (omega arith) (omega arith)) v.x0;
    x1 = stays fr 1 2 (cell U8) bs new (outside_below 2 3 1 (omega arith) (omega arith)) v.x1;
    x2 = set_is fr (local_name 2) asked_type cs new v.x2 (e ∙ sym (has_four numbered ss t one d));
  }

  -- the unset ones
  fresh_locals : (fr : Frame) → Fresh (layout ss) fr 0 (c_type numbered t ∷ ty.Word U8 ∷ c_type numbered (pair state (maybe t)) ∷ [])
      → Locals fr (Unset ∷ []) (Unset ∷ []) (Unset ∷ Unset ∷ Unset ∷ Unset ∷ [])
  unfolding size
  fresh_locals fr f = record {
    x0 = subst (λ z. Is fr (local_name 0) z (replicate (size z) Unset)) is_pointer f.0;
    x1 = f.1.0;
    x2 = subst (λ n. Is fr (local_name 2) asked_type (replicate n Unset)) (has_four numbered ss t one d) f.1.1.0;
  }

  -- the frames behind the first statements
  abbrev addressed : ℕ → Frame → Frame
  addressed r fr = with_scalars (local_name 0) (Address r ∷ []) fr

  abbrev given : ℕ → ℕ → Frame → Frame
  given p r fr = with_scalars (local_name 2) (Address p ∷ Unset ∷ Unset ∷ Unset ∷ []) (addressed r fr)

  abbrev judged : ℕ → ℕ → ℕ → Frame → Frame
  judged p r k fr = with_scalars (local_name 1) (NumberScalar k ∷ []) (given p r fr)

  -- the statements before the choice, and the locals behind them
  runs_first : (fr : Frame) (s s' : State) (n : ℕ) (make : CRhs) (v : Place) (p r k : ℕ) → Locals fr (Unset ∷ []) (Unset ∷ []) (Unset ∷ Unset ∷ Unset ∷ Unset ∷ [])
      → Keeps fr v (pointer (codes "SysState")) (Address p ∷ []) → Under 0 v → flag (nat_eq r 0) ≡ k
      → Runs q l (assign (path (local 0) []) make ∷ []) fr s n (addressed r fr) s'
      → Runs q l (assign (path (local 0) []) make ∷ setting 2 (field 0 ∷ []) v ∷ assign (path (local 1) []) (IsNull (operand (held (local 0) []))) ∷ []) fr s (n + 2) (judged p r k fr) s'
  unfolding size
  runs_first fr s s' n make v p r k locals keeps under e made =
      let a = set_address fr _ _ _ (Address r ∷ []) refl locals in
      let b = set_result (addressed r fr) _ _ _ (Address p ∷ Unset ∷ Unset ∷ Unset ∷ []) refl a in
      let there = keeps_later 0 1 fr (addressed r fr) v (pointer (codes "SysState")) (Address p ∷ []) (changes_set 0 1 0 fr (Address r ∷ []) (omega arith) (omega arith)) (omega arith) under keeps in
      runs_on q l (assign (path (local 0) []) make ∷ []) _ fr (addressed r fr) (judged p r k fr) s s' s' n 2 made
      (runs_on q l (setting 2 (field 0 ∷ []) v ∷ []) _ (addressed r fr) (given p r fr) (judged p r k fr) s' s' s' 1 1
      (runs_setting q numbered l (addressed r fr) s' 2 (field 0 ∷ []) v asked_type (pointer (codes "SysState")) _ (Address p ∷ []) _ 0 a.x2 (first_leads numbered ss t one d) there (p, refl) refl)
      (runs_null q numbered l (given p r fr) s' 0 1 x r k _ b.x0 b.x1 e))

  locals_judged : (fr : Frame) (p r k : ℕ) → Locals fr (Unset ∷ []) (Unset ∷ []) (Unset ∷ Unset ∷ Unset ∷ Unset ∷ [])
      → Locals (judged p r k fr) (Address r ∷ []) (NumberScalar k ∷ []) (Address p ∷ Unset ∷ Unset ∷ Unset ∷ [])
  locals_judged fr p r k locals =
      set_null (given p r fr) _ _ _ (NumberScalar k ∷ []) refl (set_result (addressed r fr) _ _ _ (Address p ∷ Unset ∷ Unset ∷ Unset ∷ []) refl (set_address fr _ _ _ (Address r ∷ []) refl locals))

  -- what is chosen by the second local
  is_chosen : (fr : Frame) (m : Stored) (k : ℕ) → k < 2 → Is fr (local_name 1) (cell U8) (NumberScalar k ∷ []) → judged_word ss m fr (operand (held (local 1) [])) ≡ ok k
  is_chosen fr m k h is = word_read ss m fr (operand (held (local 1) [])) k
      (held_read ss m fr (local 1) [] (cell U8) (NumberScalar k ∷ []) (is_kept fr (local 1) (cell U8) (NumberScalar k ∷ []) is) (k, refl, omega (arith, h))) (omega (arith, h))

  -- the frames behind each statement of a choice
  abbrev tagged : ℕ → ℕ → Frame → Frame
  tagged p k fr = with_scalars (local_name 2) (Address p ∷ NumberScalar k ∷ Unset ∷ Unset ∷ []) fr

  abbrev with_none : ℕ → Frame → Frame
  with_none p fr = with_scalars (local_name 2) (Address p ∷ NumberScalar 0 ∷ NumberScalar 0 ∷ Unset ∷ []) (tagged p 0 fr)

  abbrev with_some : ℕ → ℕ → Frame → Frame
  with_some p r fr = with_scalars (local_name 2) (Address p ∷ NumberScalar 1 ∷ Unset ∷ Address r ∷ []) (tagged p 1 fr)

  -- a number in a frame
  numeral : (fr : Frame) (w : Word) (n : ℕ) → n < 2 ^ bits w → Keeps fr (number n) (cell w) (NumberScalar n ∷ [])
  numeral fr w n h = record { word = w; laid = refl; is = refl; small = h }

  -- None, in two statements
  runs_none : (fr : Frame) (s : State) (p r k : ℕ) → Locals fr (Address r ∷ []) (NumberScalar k ∷ []) (Address p ∷ Unset ∷ Unset ∷ Unset ∷ [])
      → Runs q l (setting 2 (field 1 ∷ tag ∷ []) (number 0) ∷ setting 2 (field 1 ∷ payload 0 ∷ []) (number 0) ∷ []) fr s 2 (with_none p fr) s
  unfolding size
  runs_none fr s p r k v =
      let b = set_result fr _ _ _ (Address p ∷ NumberScalar 0 ∷ Unset ∷ Unset ∷ []) refl v in
      runs_on q l (setting 2 (field 1 ∷ tag ∷ []) (number 0) ∷ []) _ fr (tagged p 0 fr) (with_none p fr) s s s 1 1
      (runs_setting q numbered l fr s 2 (field 1 ∷ tag ∷ []) (number 0) asked_type (cell U32) _ (NumberScalar 0 ∷ []) _ 1 v.x2 (flag_leads numbered ss t one d) (numeral fr U32 0 (omega arith)) (0, refl, omega arith) refl)
      (runs_setting q numbered l (tagged p 0 fr) s 2 (field 1 ∷ payload 0 ∷ []) (number 0) asked_type (cell U8) _ (NumberScalar 0 ∷ []) _ 2 b.x2 (none_leads numbered ss t one d) (numeral (tagged p 0 fr) U8 0 (omega arith)) (0, refl, omega arith) refl)

  -- Some, likewise
  runs_some : (fr : Frame) (s : State) (p r k : ℕ) → Locals fr (Address r ∷ []) (NumberScalar k ∷ []) (Address p ∷ Unset ∷ Unset ∷ Unset ∷ [])
      → Runs q l (setting 2 (field 1 ∷ tag ∷ []) (number 1) ∷ setting 2 (field 1 ∷ payload 1 ∷ []) (held (local 0) []) ∷ []) fr s 2 (with_some p r fr) s
  unfolding size
  runs_some fr s p r k v =
      let b = set_result fr _ _ _ (Address p ∷ NumberScalar 1 ∷ Unset ∷ Unset ∷ []) refl v in
      let leads : walk (field_name 1 ∷ payload_name 1 ∷ []) asked_type ≡ Some (spot 3 (pointer x)) = some_leads numbered ss t one d ∙ ap (λ z. Some (spot 3 z)) is_pointer in
      runs_on q l (setting 2 (field 1 ∷ tag ∷ []) (number 1) ∷ []) _ fr (tagged p 1 fr) (with_some p r fr) s s s 1 1
      (runs_setting q numbered l fr s 2 (field 1 ∷ tag ∷ []) (number 1) asked_type (cell U32) _ (NumberScalar 1 ∷ []) _ 1 v.x2 (flag_leads numbered ss t one d) (numeral fr U32 1 (omega arith)) (1, refl, omega arith) refl)
      (runs_setting q numbered l (tagged p 1 fr) s 2 (field 1 ∷ payload 1 ∷ []) (held (local 0) []) asked_type (pointer x) _ (Address r ∷ []) _ 3 b.x2 leads
      (is_kept (tagged p 1 fr) (local 0) (pointer x) (Address r ∷ []) b.x0) (r, refl) refl)

  -- what is left behind all of them
  pub record Asked (make : CRhs) (v : Place) (fr : Frame) (s : State) (n : ℕ) (result : List Scalar) (s' : State) : Type 0 where
    pub frame : Frame
    pub runs : Runs q l (asking make v) fr s (n + 5) frame s'
    pub holds : Is frame (local_name 2) asked_type result

  -- no cell was made: the address is the null address
  pub asked_none : (fr : Frame) (s s' : State) (n : ℕ) (make : CRhs) (v : Place) (p : ℕ)
      → Fresh (layout ss) fr 0 (c_type numbered t ∷ ty.Word U8 ∷ c_type numbered (pair state (maybe t)) ∷ [])
      → Keeps fr v (pointer (codes "SysState")) (Address p ∷ []) → Under 0 v
      → Runs q l (assign (path (local 0) []) make ∷ []) fr s n (with_scalars (local_name 0) (Address 0 ∷ []) fr) s'
      → Asked make v fr s n (Address p ∷ NumberScalar 0 ∷ NumberScalar 0 ∷ Unset ∷ []) s'
  asked_none fr s s' n make v p fresh keeps under made =
      let locals = fresh_locals fr fresh in
      let now = locals_judged fr p 0 1 locals in
      record {
        frame = with_none p (judged p 0 1 fr);
        runs = subst (λ i. Runs q l (asking make v) fr s i (with_none p (judged p 0 1 fr)) s') (omega arith)
            (runs_on q l _ _ fr (judged p 0 1 fr) (with_none p (judged p 0 1 fr)) s s' s' (n + 2) 3 (runs_first fr s s' n make v p 0 1 locals keeps under refl made)
            (runs_branch q l (operand (held (local 1) [])) _ _ (judged p 0 1 fr) (with_none p (judged p 0 1 fr)) s' s' 1 2 (is_chosen (judged p 0 1 fr) s'.store 1 (omega arith) now.x1) (runs_none (judged p 0 1 fr) s' p 0 1 now)));
        holds = (set_result (tagged p 0 (judged p 0 1 fr)) _ _ _ (Address p ∷ NumberScalar 0 ∷ NumberScalar 0 ∷ Unset ∷ []) refl
            (set_result (judged p 0 1 fr) _ _ _ (Address p ∷ NumberScalar 0 ∷ Unset ∷ Unset ∷ []) refl now)).x2;
      }

  -- a cell was made
  pub asked_some : (fr : Frame) (s s' : State) (n : ℕ) (make : CRhs) (v : Place) (p r : ℕ)
      → Fresh (layout ss) fr 0 (c_type numbered t ∷ ty.Word U8 ∷ c_type numbered (pair state (maybe t)) ∷ [])
      → Keeps fr v (pointer (codes "SysState")) (Address p ∷ []) → Under 0 v → (r ≡ 0 → ⊥)
      → Runs q l (assign (path (local 0) []) make ∷ []) fr s n (with_scalars (local_name 0) (Address r ∷ []) fr) s'
      → Asked make v fr s n (Address p ∷ NumberScalar 1 ∷ Unset ∷ Address r ∷ []) s'
  asked_some fr s s' n make v p r fresh keeps under some made =
      let locals = fresh_locals fr fresh in
      let now = locals_judged fr p r 0 locals in
      record {
        frame = with_some p r (judged p r 0 fr);
        runs = subst (λ i. Runs q l (asking make v) fr s i (with_some p r (judged p r 0 fr)) s') (omega arith)
            (runs_on q l _ _ fr (judged p r 0 fr) (with_some p r (judged p r 0 fr)) s s' s' (n + 2) 3 (runs_first fr s s' n make v p r 0 locals keeps under (ap flag (ne_eqb r 0 some)) made)
            (runs_branch q l (operand (held (local 1) [])) _ _ (judged p r 0 fr) (with_some p r (judged p r 0 fr)) s' s' 0 2 (is_chosen (judged p r 0 fr) s'.store 0 (omega arith) now.x1) (runs_some (judged p r 0 fr) s' p r 0 now)));
        holds = (set_result (tagged p 1 (judged p r 0 fr)) _ _ _ (Address p ∷ NumberScalar 1 ∷ Unset ∷ Address r ∷ []) refl
            (set_result (judged p r 0 fr) _ _ _ (Address p ∷ NumberScalar 1 ∷ Unset ∷ Unset ∷ []) refl now)).x2;
      }
