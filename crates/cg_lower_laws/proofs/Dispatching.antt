-- Calls of the function of an arrow type: it calls the function of the number that it is given.
use Rattle.std.proofs.Common.{◌≡◌, ℕ, zero, suc, ◌+◌, ◌^◌, ◌<◌, ◌≤◌, Bool, true, false, ◌||◌, cond, nat_eq, Some, List, [], ◌∷◌, length, replicate, slice_get, take, drop, take_all, nat_le, refl, sym, ap, ◌∙◌, subst, arith}
use Rattle.std.proofs.lemmas.Bool.{eqb-false, eqb-true, le-leb}
use Rattle.std.proofs.lemmas.List.{drop_all}
use Rattle.std.specs.List.{Contains, list_any}
use Rattle.cg_base.specs.declared.kind.Word.TheVariants.{U32}
use Rattle.cg_base.specs.Same.{same_type}
use Rattle.cg_base.specs.Types.{Tau}
use Rattle.cg_cgen.specs.Meanings.{IsNumber}
use Rattle.cg_cgen.proofs.Paths.{number_read}
use Rattle.cg_cmachine_def.specs.Layouts.{Layout, cell, size}
use Rattle.cg_cmachine_def.specs.Operands.{Value, typed as of_layout, Frame, give, judge, look, read}
use Rattle.cg_cmachine_def.specs.Outcomes.{State, Outcome, ok, on, done, stuck, needs, astray, bind, lift}
use Rattle.cg_cmachine_def.specs.Runs.{Linked, Flow, goes, back, Calls, calls_in, enter, filled, find, judged_word, onward, returned, run_block, run_body, run_cases, run_frame, run_function, run_stmt, start, unset}
use Rattle.cg_cmachine_def.specs.Targets.{with_scalars}
use Rattle.cg_ctree.specs.declared.tree.COpnd.{COpnd}
use Rattle.cg_ctree.specs.declared.tree.COpnd.TheVariants.{Path}
use Rattle.cg_ctree.specs.declared.tree.CRhs.TheVariants.{Call}
use Rattle.cg_ctree.specs.declared.tree.CTy.{CTy}
use Rattle.cg_ctree.specs.declared.tree.CTy.TheVariants as ty
use Rattle.cg_ctree.specs.Trees.{assign, stop, switch, to_block}
use Rattle.cg_heap.specs.declared.cell.Scalar.{Scalar}
use Rattle.cg_heap.specs.declared.cell.Scalar.TheVariants.{Unset, Word as NumberScalar}
use Rattle.cg_inst.proofs.SameType.{same_is}
use Rattle.cg_typing.specs.Instances.{Entry}
use Rattle.cg_typing.specs.Parts.{given_by, taken_by}
use Rattle.cg_cgen_def.specs.Names.{declared, dispatch_name, function_name}
use Rattle.cg_cgen_def.specs.Dispatches.{dispatch_body, dispatch_cases, dispatched, second_name, second_path}
use Rattle.cg_lower_def.specs.Dispatch.{dispatch_of, tags_from}
use Rattle.cg_cgen_def.specs.Bodies.{Low}
use Rattle.cg_lower_def.specs.Lowered.{Whole, arrow_number, typed}
use Rattle.cg_cgen_def.specs.Places.{argument, argument_name, held, local, local_name, path}
use Rattle.cg_lower_laws.proofs.Bodies.{BodyRan, body_returns, length_replicate}
use Rattle.cg_lower_laws.proofs.Computing.{one_slot}
use Rattle.cg_lower_laws.proofs.Finding.{behind, own_dispatch}
use Rattle.cg_lower_laws.proofs.Frames.{Is, is_kept, set_is, whole as all_of}
use Rattle.cg_lower_laws.proofs.Names.{apart}
use Rattle.cg_lower_laws.proofs.Operands.{IsReadable, Reads, given_typed, readable, reads, write_whole}
use Rattle.cg_lower_laws.proofs.Runs.{Answers, runs_call}
use Rattle.cg_lower_laws.proofs.Terms.{lay_c}
use Rattle.cg_base.proofs.Sequences.{itself}

-- ---- where types and instances stand

-- an arrow type of calls stands at its number
pub arrow_at : (t : Tau) (us : List Tau) → list_any (λ u. same_type u t) us ≡ true → slice_get us (arrow_number us t) ≡ Some t
unfolding arrow_number
arrow_at t [] h = absurd (cc)
arrow_at t (u ∷ us) h = by_test (same_type u t) refl h (arrow_at t us)
  where
    by_test : (b : Bool) → same_type u t ≡ b → (b || list_any (λ u. same_type u t) us) ≡ true → (list_any (λ u. same_type u t) us ≡ true → slice_get us (arrow_number us t) ≡ Some t)
        → slice_get (u ∷ us) (cond b zero (suc (arrow_number us t))) ≡ Some t
    by_test true same e rest = ap Some (same_is u t same)
    by_test false same e rest = rest e

-- the place of an instance of a type is among those of its instances
pub tagged : (i k n : ℕ) (t : Tau) (es : List Entry) (e : Entry) → n ≡ i + k → slice_get es k ≡ Some e → same_type e.ty t ≡ true → Contains (tags_from i t es) n
tagged i k n t [] e q h same = absurd (cc)
tagged i zero n t (x ∷ es) e q h same =
    let one : x ≡ e = cc in
    let first : i ≡ n = omega (arith, q) in
    subst (λ b. Contains (cond b (i ∷ tags_from (suc i) t es) (tags_from (suc i) t es)) n) (sym (ap (λ (z : Entry). same_type z.ty t) one ∙ same)) (zero, omega arith, first)
tagged i (suc k) n t (x ∷ es) e q h same = by_test (same_type x.ty t) (tagged (suc i) k n t es e (omega (arith, q)) h same)
  where
    by_test : (b : Bool) → Contains (tags_from (suc i) t es) n → Contains (cond b (i ∷ tags_from (suc i) t es) (tags_from (suc i) t es)) n
    by_test true c = (suc c.0, omega (arith, c.1), c.2)
    by_test false c = c

-- ---- the switch

module _ (q : Linked) (c : Calls) (n : ℕ) (l : Layout) where
  -- the case of a number among those of others
  case_found : (k : ℕ) (ks : List ℕ) (fr : Frame) (s : State) (b : ℕ) → Contains ks k → run_cases q c n l k (dispatch_cases ks) fr s b ≡ run_block q c n l (dispatched k) fr s b
  unfolding run_cases
  case_found k [] fr s b h = absurd (omega (arith, h.1))
  case_found k (i ∷ ks) fr s b h = by_test (nat_eq k i) refl (case_found k ks fr s b)
    where
      by_test : (t : Bool) → nat_eq k i ≡ t → (Contains ks k → run_cases q c n l k (dispatch_cases ks) fr s b ≡ run_block q c n l (dispatched k) fr s b)
          → cond t (run_block q c n l (dispatched i) fr s b) (run_cases q c n l k (dispatch_cases ks) fr s b) ≡ run_block q c n l (dispatched k) fr s b
      by_test true e rest = ap (λ z. run_block q c n l (dispatched z) fr s b) (sym (eqb-true k i e))
      by_test false e rest = rest (behind i k ks h (eqb-false k i e))

  -- nothing stands behind a statement that is alone
  alone : (r : Outcome Flow) → onward r (run_block q c n l stop) ≡ r
  unfolding run_block
  alone (done (goes fr) s b) = refl
  alone (done (back us) s b) = refl
  alone (stuck why m) = refl
  alone (needs m) = refl
  alone astray = refl

  -- a switch goes on with the case of its number
  switched : (o : COpnd) (k : ℕ) (ks : List ℕ) (fr : Frame) (s : State) (b : ℕ) → judged_word q.program.structs s.store fr o ≡ ok k → Contains ks k
      → run_block q c n l (to_block (switch o (dispatch_cases ks) ∷ [])) fr s (suc b) ≡ run_block q c n l (dispatched k) fr s b
  unfolding run_block run_stmt to_block
  switched o k ks fr s b e h =
      alone (run_stmt q c n l (switch o (dispatch_cases ks)) fr s (suc b)) ∙ ap (λ z. lift s.store z (λ k. run_cases q c n l k (dispatch_cases ks) fr s b)) e ∙ case_found k ks fr s b h

-- ---- a call of the function of a type

module _ (q : Linked) (whole : Whole) (entries : List Entry) (j k : ℕ) (t : Tau) (us ws : List Scalar) (s s' : State) (steps : ℕ) (tag v : Value)
    (small : k < 2 ^ 32) (sized_us : length us ≡ size (lay_c q (typed whole (taken_by t)))) (sized_ws : length ws ≡ size (lay_c q (typed whole (given_by t))))
    (readable_us : IsReadable (lay_c q (typed whole (taken_by t))) us) (readable_ws : IsReadable (lay_c q (typed whole (given_by t))) ws)
    (gives_tag : give (cell U32) tag ≡ ok (NumberScalar k ∷ [])) (gives_us : give (lay_c q (typed whole (taken_by t))) v ≡ ok us)
    (callee : Answers q (function_name k) (of_layout (lay_c q (typed whole (taken_by t))) us ∷ []) s steps (of_layout (lay_c q (typed whole (given_by t))) ws) s') where
  abbrev taken : CTy
  taken = typed whole (taken_by t)

  abbrev result : CTy
  result = typed whole (given_by t)

  -- the frame that a call begins with: the number, the argument and a local
  abbrev begins : Frame
  begins =
      record { name = argument_name; layout = cell U32; scalars = NumberScalar k ∷ [] }
      ∷ record { name = second_name; layout = lay_c q taken; scalars = us } ∷ unset q (declared result (local_name 0) ∷ [])

  entered : enter q (declared (ty.Word U32) argument_name ∷ declared taken second_name ∷ []) (declared result (local_name 0) ∷ []) (tag ∷ v ∷ []) ≡ ok begins
  entered = rw (gives_tag, gives_us) refl

  -- the number stands there
  number_is : Is begins argument_name (cell U32) (NumberScalar k ∷ [])
  number_is = record {
    variable = record { name = argument_name; layout = cell U32; scalars = NumberScalar k ∷ [] };
    found = rw (itself argument_name) refl;
    laid = refl;
    holds = refl;
    sized = one_slot U32 (NumberScalar k ∷ []) k refl;
  }

  number_judged : judged_word q.program.structs s.store begins (Path (path argument [])) ≡ ok k
  number_judged =
      let r : Reads whole.numbered q.program.structs s.store begins (Path (path argument [])) (cell U32) (NumberScalar k ∷ []) =
      reads whole.numbered q.program.structs s.store begins (held argument []) (cell U32) (NumberScalar k ∷ []) (is_kept begins argument (cell U32) (NumberScalar k ∷ []) number_is) (k, refl, small) in
      let i : IsNumber q s.store begins U32 (Path (path argument [])) k = record { value = r.value; read = r.read; given = r.given } in
      number_read i

  -- the argument is read
  second_found : look second_name begins ≡ Some (record { name = second_name; layout = lay_c q taken; scalars = us })
  second_found = rw (apart 97 1 0 (omega arith) (omega arith) (λ e. omega (arith, e)), itself second_name) refl

  second_judged : judge q.program.structs s.store begins (Path second_path) ≡ ok (of_layout (lay_c q taken) us)
  second_judged = rw second_found (ap (read (lay_c q taken)) (all_of (lay_c q taken) us sized_us) ∙ readable (lay_c q taken) us readable_us)

  -- the local is unset
  local_is : Is begins (local_name 0) (lay_c q result) (replicate (size (lay_c q result)) Unset)
  local_is = record {
    variable = record { name = local_name 0; layout = lay_c q result; scalars = replicate (size (lay_c q result)) Unset };
    found = rw (itself (local_name 0)) refl;
    laid = refl;
    holds = refl;
    sized = length_replicate (size (lay_c q result)) Unset;
  }

  -- the statements of a case, as those of a body
  abbrev case_low : Low
  case_low = record {
    value = held (local 0) [];
    locals = result ∷ [];
    code = assign (path (local 0) []) (Call (function_name k) (Path second_path ∷ [])) ∷ [];
  }

  case_ran : BodyRan q (lay_c q result) case_low begins s s' ws (suc steps)
  case_ran = record {
    frame = with_scalars (local_name 0) ws begins;
    runs =
        runs_call q (lay_c q result) (path (local 0) []) (function_name k) (Path second_path ∷ []) begins s s' (of_layout (lay_c q taken) us ∷ []) (of_layout (lay_c q result) ws) steps
        (record { frame = with_scalars (local_name 0) ws begins; store = s'.store })
        (ap (λ z. on z (λ v. ok (v ∷ []))) second_judged) callee
        (write_whole whole.numbered q.program.structs s'.store begins (local 0) (lay_c q result) (replicate (size (lay_c q result)) Unset) ws (of_layout (lay_c q result) ws) local_is
        (given_typed (lay_c q result) ws));
    keeps = is_kept (with_scalars (local_name 0) ws begins) (local 0) (lay_c q result) ws
        (set_is begins (local_name 0) (lay_c q result) (replicate (size (lay_c q result)) Unset) ws local_is sized_ws);
    readable = readable_ws;
  }

  -- a body with these cases, in the frame that a call or a run begins with
  body_runs : (ks : List ℕ) (m b b' : ℕ) → Contains ks k → b ≡ suc (suc (suc steps)) + b' → b ≤ m
      → run_frame q (calls_in q m) m (dispatch_of whole entries j t) (dispatch_body result ks) (ok begins) s b ≡ done ws s' b'
  body_runs [] m b b' h e le = absurd (omega (arith, h.1))
  body_runs (i ∷ ks) m b b' h e le =
      subst (λ z. returned q (run_block q (calls_in q m) m (lay_c q result) (to_block (switch (Path (path argument [])) (dispatch_cases (i ∷ ks)) ∷ [])) begins s z) ≡ done ws s' b') first
      (ap (returned q) (switched q (calls_in q m) m (lay_c q result) (Path (path argument [])) k (i ∷ ks) begins s left number_judged h)
      ∙ body_returns q whole.numbered (lay_c q result) case_low begins s s' ws (suc steps) case_ran m left b' refl (omega (arith, e, le)))
    where
      left : ℕ
      left = suc (suc steps) + b'

      first : suc left ≡ b
      first = omega (arith, e)

  body_called : (ks : List ℕ) (m b b' : ℕ) → Contains ks k → b ≡ suc (suc (suc steps)) + b' → b ≤ m
      → run_body q (calls_in q m) m (dispatch_of whole entries j t) (tag ∷ v ∷ []) s b (Some (dispatch_body result ks)) ≡ done (of_layout (lay_c q result) ws) s' b'
  body_called [] m b b' h e le = absurd (omega (arith, h.1))
  body_called (i ∷ ks) m b b' h e le =
      ap (λ z. bind (run_frame q (calls_in q m) m (dispatch_of whole entries j t) (dispatch_body result (i ∷ ks)) z s b) (λ us after rest. done (of_layout (lay_c q result) us) after rest)) entered
      ∙ ap (λ z. bind z (λ us after rest. done (of_layout (lay_c q result) us) after rest)) (body_runs (i ∷ ks) m b b' h e le)

  -- the function is called, where it is found and has a case of the number
  dispatch_called : find (dispatch_name j) q.program.functions ≡ Some (dispatch_of whole entries j t) → Contains (tags_from 0 t entries) k
      → (m b b' : ℕ) → b ≡ suc (suc (suc steps)) + b' → b < m → calls_in q m (dispatch_name j) (tag ∷ v ∷ []) s b ≡ done (of_layout (lay_c q result) ws) s' b'
  unfolding calls_in
  dispatch_called found among zero b b' e le = absurd (omega arith)
  dispatch_called found among (suc m) b b' e le =
      ap (run_function q (calls_in q m) m (tag ∷ v ∷ []) s b) found ∙ body_called (tags_from 0 t entries) m b b' among e (omega (arith, le))

  -- it answers what the function of the number does, in three steps more
  pub dispatch_answers : find (dispatch_name j) q.program.functions ≡ Some (dispatch_of whole entries j t) → Contains (tags_from 0 t entries) k
      → Answers q (dispatch_name j) (tag ∷ v ∷ []) s (suc (suc (suc steps))) (of_layout (lay_c q result) ws) s'
  dispatch_answers found among =
      record {
        by = λ m b b' e le.
            rw (own_dispatch q j (dispatch_of whole entries j t) (dispatch_body result (tags_from 0 t entries)) found refl) (dispatch_called found among m b b' e le);
      }

  -- a whole run of the function, on the number and the argument
  -- the number has the one slot of the first parameter
  one_number : 1 ≡ size (lay_c q (ty.Word U32))
  one_number = one_slot U32 (NumberScalar k ∷ []) k refl

  number_fits : nat_le (size (lay_c q (ty.Word U32))) (length (NumberScalar k ∷ us)) ≡ true
  number_fits = subst (λ n. nat_le n (length (NumberScalar k ∷ us)) ≡ true) one_number (le-leb 1 (length (NumberScalar k ∷ us)) (omega arith))

  number_taken : take (size (lay_c q (ty.Word U32))) (NumberScalar k ∷ us) ≡ NumberScalar k ∷ []
  number_taken = subst (λ n. take n (NumberScalar k ∷ us) ≡ NumberScalar k ∷ []) one_number refl

  number_dropped : drop (size (lay_c q (ty.Word U32))) (NumberScalar k ∷ us) ≡ us
  number_dropped = subst (λ n. drop n (NumberScalar k ∷ us) ≡ us) one_number refl

  -- and the argument the second one
  argument_filled : filled q (declared taken second_name ∷ []) (declared result (local_name 0) ∷ []) us
      ≡ ok (record { name = second_name; layout = lay_c q taken; scalars = us } ∷ unset q (declared result (local_name 0) ∷ []))
  argument_filled =
      rw (le-leb (size (lay_c q taken)) (length us) (omega (arith, sized_us)), drop_all (size (lay_c q taken)) us (omega (arith, sized_us)), take_all (size (lay_c q taken)) us (omega (arith, sized_us))) refl

  filled_by : filled q (declared (ty.Word U32) argument_name ∷ declared taken second_name ∷ []) (declared result (local_name 0) ∷ []) (NumberScalar k ∷ us) ≡ ok begins
  filled_by = rw (number_fits, number_dropped, number_taken, argument_filled) refl

  runs_by : (ks : List ℕ) (n left : ℕ) → Contains ks k → n ≡ suc (suc (suc steps)) + left
      → run_frame q (calls_in q n) n (dispatch_of whole entries j t) (dispatch_body result ks)
      (filled q (declared (ty.Word U32) argument_name ∷ declared taken second_name ∷ []) (dispatch_body result ks).locals (NumberScalar k ∷ us)) s n ≡ done ws s' left
  runs_by [] n left h e = absurd (omega (arith, h.1))
  runs_by (i ∷ ks) n left h e =
      ap (λ z. run_frame q (calls_in q n) n (dispatch_of whole entries j t) (dispatch_body result (i ∷ ks)) z s n) filled_by
      ∙ body_runs (i ∷ ks) n n left h e (omega arith)

  pub dispatch_runs : find (dispatch_name j) q.program.functions ≡ Some (dispatch_of whole entries j t) → Contains (tags_from 0 t entries) k
      → (n left : ℕ) → n ≡ suc (suc (suc steps)) + left → start q n (NumberScalar k ∷ us) s n (find (dispatch_name j) q.program.functions) ≡ done ws s' left
  dispatch_runs found among n left e = ap (start q n (NumberScalar k ∷ us) s n) found ∙ runs_by (tags_from 0 t entries) n left among e
