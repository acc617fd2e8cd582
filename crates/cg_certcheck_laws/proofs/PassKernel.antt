-- The second checker's pass answers the first event that fails: records, terms, functions and kernels.
use Rattle.std.proofs.Common.{◌≡◌, ℕ, ◌+◌, true, false, ◌&&◌, Option, Some, None, Ok, List, [], ◌∷◌, drop, refl, ap, ◌∙◌, arith}
use Rattle.cg_base.specs.declared.kind.Kinds.{Kinds}
use Rattle.cg_base.specs.declared.kind.Sigil.TheVariants.{U}
use Rattle.cg_base.specs.declared.place.Place.{Place}
use Rattle.cg_base.specs.Types as types
use Rattle.cg_base.specs.Types.{Tau, fields, part, Parts}
use Rattle.cg_cert.specs.declared.cert.CertFun.{CertFun}
use Rattle.cg_cert.specs.declared.fault.CertFault.TheVariants.{C2}
use Rattle.cg_check_def.specs.NormalForm.{core_fields}
use Rattle.cg_core.specs.declared.derivation.Mark.{Mark}
use Rattle.cg_core.specs.declared.derivation.Node.TheVariants as nodes
use Rattle.cg_core.specs.Derivations.{derivation}
use Rattle.cg_core.specs.Kernels.{Function, Body}
use Rattle.cg_core.specs.Terms.{Tree, term, Shape, var, unit, bool, lit, fun, op, app, lets, let_bang, if_else, con, case_of, esac, struct, member, take_field, put, cast, annot, none, more, Named, end, field}
use Rattle.cg_faults.specs.Events.{field_directions, next_direction, later_directions}
use Rattle.cg_faults.specs.Plain.{plain_in, plain_parts}
use Rattle.cg_certcheck_def.specs.Events as tests
use Rattle.cg_certcheck_def.specs.Events.{Event, event, strings_at, size, field_sizes, field_strings, is_record, is_named, is_over, nodes_next, funs_behind, events, field_events, body_events, maybe_body_events, function_events, cert_events, first_failing}
use Rattle.cg_certcheck_laws.specs.Laws.{body_kept, all_kept, PassAnswersTheFirstFault}
use Rattle.cg_certcheck_def.specs.Pass.{Out, bind, row, stands, wanted, Cursor, step, Got, GotFields, made, no_fields, in_front, check, check_shape, check_fields, check_body, from_body, check_functions, Kept, verdict}
use Rattle.cg_certcheck_def.specs.Reads.{trees_at}
use Rattle.cg_certcheck_def.specs.Tests.{splits}
use Rattle.cg_certcheck_laws.proofs.PassBinders.{pass_app, pass_put, pass_let, pass_let_bang, pass_take, pass_if, pass_case}
use Rattle.cg_certcheck_laws.proofs.PassParts.{value, Passes, PassesShape, got, pass_var, pass_unit, pass_bool, pass_lit, pass_fun, pass_unary, pass_binary, pass_con, pass_esac, pass_member, pass_cast, pass_annot}
use Rattle.cg_certcheck_laws.proofs.PassSteps.{run, next, last_part, guarded, past, past_past, past_step, Agree, agree_left, agree_second}
use Rattle.cg_typing.specs.Accepted.{kinds_of_vars}
use Rattle.cg_typing.specs.Contexts.{Context, first, second}
use Rattle.cg_typing.specs.Parts.{is_arrow, taken_by, given_by, has_word_arrays}
use Rattle.cg_base.proofs.Truths.{both_true as left_holds, and_right as right_holds}

module _ (functions : List Function) (vars : List Kinds) where
  abbrev P : Tree Place → Type 0
  P = Passes functions vars

  -- ---- fields

  -- what they come to where their events hold
  abbrev parts_in : List Tau → List (Option Tau) → Named Place → Parts
  parts_in p ways end = types.end
  parts_in p ways (field name e fs) = part name (plain_in functions p (next_direction ways) e) false (parts_in p (later_directions ways) fs)

  parts_plain : (p : List Tau) (fs : Named Place) → parts_in p [] fs ≡ plain_parts functions p fs
  parts_plain p end = refl
  parts_plain p (field name e fs) = ap (λ ps. part name (plain_in functions p None e) false ps) (parts_plain p fs)

  abbrev values : List Tau → List (Option Tau) → Cursor → Cursor → Named Place → GotFields
  values p ways at to fs = record { parts = parts_in p ways fs; cores = core_fields functions p ways fs; trees = trees_at at.nodes fs; at = to }

  abbrev PassesFields : Named Place → Type 0
  PassesFields fs = (g : Context) (p : List Tau) (ways : List (Option Tau)) (strings : List (List Mark)) (at : Cursor) → Agree g p → field_strings vars fs strings g ≡ true
      → check_fields functions vars g ways strings at fs ≡ run (field_events functions vars g p ways strings at.nodes at.next fs) (Ok (values p ways at (past (field_sizes fs) at) fs))

  past_none : (at : Cursor) → at ≡ past 0 at
  past_none at = ap (λ n. record { nodes = at.nodes; next = n }) (omega arith)

  pass_last : (name : List ℕ) (e : Tree Place) → P e → PassesFields (field name e end)
  pass_last name e pe g p ways strings at h s =
      let way = next_direction ways in
      last_part (check functions vars g way at e) (λ u. Ok (in_front name u (no_fields u.at))) (events functions vars g p way at.nodes at.next e) (value functions vars p way at e)
      (Ok (values p ways at (past (field_sizes (field name e end)) at) (field name e end))) (pe g p way at h)
      (ap (λ c. Ok (values p ways at c (field name e end))) (ap (λ k. past k at) (omega arith)))

  pass_field : (name : List ℕ) (e : Tree Place) (later : List ℕ) (x : Tree Place) (fs : Named Place) → P e → PassesFields (field later x fs)
      → PassesFields (field name e (field later x fs))
  pass_field name e later x fs pe pf g p ways [] at h s = absurd (cc)
  pass_field name e later x fs pe pf g p ways (m ∷ strings) at h s =
      let way = next_direction ways in let rest = later_directions ways in let more = field later x fs in
      let splits' = left_holds (splits vars [] m g) _ s in
      let mid = past (size e) at in
      next (check functions vars (first m g) way at e) (λ u. bind (check_fields functions vars (second m g) rest strings u.at more) (λ v. Ok (in_front name u v)))
      (events functions vars (first m g) p way at.nodes at.next e) (field_events functions vars (second m g) p rest strings mid.nodes mid.next more)
      (value functions vars p way at e) (Ok (values p ways at (past (field_sizes (field name e more)) at) (field name e more))) (pe (first m g) p way at (agree_left m g p vars splits' h))
      (last_part (check_fields functions vars (second m g) rest strings mid more) (λ v. Ok (in_front name (value functions vars p way at e) v))
      (field_events functions vars (second m g) p rest strings mid.nodes mid.next more)
      (values p rest mid (past (field_sizes more) mid) more) (Ok (values p ways at (past (field_sizes (field name e more)) at) (field name e more)))
      (pf (second m g) p rest strings mid (agree_second (λ i. false) m g p vars splits' h) (right_holds (splits vars [] m g) _ s))
      (ap (λ c. Ok (values p ways at c (field name e more))) (past_past (size e) (field_sizes more) at)))

  -- the type of a record
  record_type : (a : Place) (fs : Named Place) (p : List Tau) (dir : Option Tau)
      → wanted dir (fields (parts_in p (field_directions dir) fs) U) ≡ plain_in functions p dir (term a (struct fs))
  record_type a fs p None = ap (λ ps. fields ps U) (parts_plain p fs)
  record_type a fs p (Some t) = refl

  pass_struct : (a : Place) (fs : Named Place) → PassesFields fs → PassesShape functions vars a (struct fs)
  pass_struct a fs pf g p dir at h =
      let here = step at in let ways = field_directions dir in let strings = strings_at at.nodes in
      let es = field_events functions vars g p ways strings here.nodes here.next fs in
      ap (stands at.next _) (guarded (C2 at.next) _
      (row at.next (is_record dir fs) (bind (check_fields functions vars g ways strings here fs)
      (λ u. Ok (made a (wanted dir (fields u.parts U)) (struct u.cores) (derivation nodes.Struct strings u.trees) u.at))))
      (row at.next (is_record dir fs) (run es (Ok (value functions vars p dir at (term a (struct fs))))))
      (λ e. ap (row at.next (is_record dir fs))
      (last_part (check_fields functions vars g ways strings here fs) (λ u. Ok (made a (wanted dir (fields u.parts U)) (struct u.cores) (derivation nodes.Struct strings u.trees) u.at))
      es (values p ways here (past (field_sizes fs) here) fs) (Ok (value functions vars p dir at (term a (struct fs))))
      (pf g p ways strings here h (right_holds _ _ e))
      (got functions vars p dir a (struct fs) _ at (past (field_sizes fs) here) (record_type a fs p dir) (past_step (field_sizes fs) at)))))

  -- ---- terms

  mutual
    pub pass : (e : Tree Place) → P e
    pass (term a shape) g p dir at h =
        next (check_shape functions vars g dir at a shape) _ (tests.events_shape functions vars g p dir at.nodes at.next shape) _
        (value functions vars p dir at (term a shape)) _ (pass_shape a shape g p dir at h) refl

    pass_shape : (a : Place) (shape : Shape Place) → PassesShape functions vars a shape
    pass_shape a (var i) = pass_var functions vars a i
    pass_shape a unit = pass_unit functions vars a
    pass_shape a (bool b) = pass_bool functions vars a b
    pass_shape a (lit v) = pass_lit functions vars a v
    pass_shape a (fun f args) = pass_fun functions vars a f args
    pass_shape a (op o none) = λ g p dir at h. refl
    pass_shape a (op o (more x none)) = pass_unary functions vars a o x (pass x)
    pass_shape a (op o (more l (more r none))) = pass_binary functions vars a o l r (pass l) (pass r)
    pass_shape a (op o (more l (more r (more x ts)))) = λ g p dir at h. refl
    pass_shape a (app f x) = pass_app functions vars a f x (pass f) (pass x)
    pass_shape a (lets binder e k) = pass_let functions vars a binder e k (pass e) (pass k)
    pass_shape a (let_bang os binder e k) = pass_let_bang functions vars a os binder e k (pass e) (pass k)
    pass_shape a (if_else c x y) = pass_if functions vars a c x y (pass c) (pass x) (pass y)
    pass_shape a (con name e) = pass_con functions vars a name e (pass e)
    pass_shape a (case_of e name binder x y) = pass_case functions vars a e name binder x y (pass e) (pass x) (pass y)
    pass_shape a (esac name e) = pass_esac functions vars a name e (pass e)
    pass_shape a (struct fs) = pass_struct a fs (pass_fields fs)
    pass_shape a (member e name) = pass_member functions vars a e name (pass e)
    pass_shape a (take_field e name rest binder k) = pass_take functions vars a e name rest binder k (pass e) (pass k)
    pass_shape a (put e name x) = pass_put functions vars a e name x (pass e) (pass x)
    pass_shape a (cast e) = pass_cast functions vars a e (pass e)
    pass_shape a (annot e t) = pass_annot functions vars a e t (pass e)

    pass_fields : (fs : Named Place) → PassesFields fs
    pass_fields end = λ g p ways strings at h s. ap (λ c. Ok (values p ways at c end)) (past_none at)
    pass_fields (field name e end) = pass_last name e (pass e)
    pass_fields (field name e (field later x fs)) = pass_field name e later x fs (pass e) (pass_fields (field later x fs))

-- ---- functions and kernels

module _ (functions : List Function) where
  abbrev Own : Function → Tree Place → Cursor → Got
  Own f body at = value functions (kinds_of_vars f) (taken_by f.ty.ty ∷ []) (Some (given_by f.ty.ty)) at body

  run_body : (f : Function) (body : Tree Place) (at : Cursor) → check_body functions f body at ≡ run (body_events functions f body at.nodes at.next) (Ok (Own f body at))
  run_body f body at =
      next (check functions (kinds_of_vars f) (Some (taken_by f.ty.ty) ∷ []) (Some (given_by f.ty.ty)) at body) _
      (events functions (kinds_of_vars f) (Some (taken_by f.ty.ty) ∷ []) (taken_by f.ty.ty ∷ []) (Some (given_by f.ty.ty)) at.nodes at.next body)
      (tests.stands (at.next + size body) (is_over (drop (size body) at.nodes)) ∷ []) (Own f body at) (Ok (Own f body at))
      (pass functions (kinds_of_vars f) body (Some (taken_by f.ty.ty) ∷ []) (taken_by f.ty.ty ∷ []) (Some (given_by f.ty.ty)) at (refl, tt {0})) refl

  abbrev Later : Type 0
  Later = List CertFun → ℕ → Out (List Kept)

  run_maybe : (f : Function) (body : Option Body) (funs : List CertFun) (n : ℕ) (later : Later) (es : List CertFun → ℕ → List Event) (kept : List CertFun → List Kept)
      → ((rest : List CertFun) (m : ℕ) → later rest m ≡ run (es rest m) (Ok (kept rest)))
      → from_body functions f body funs n later ≡ run (maybe_body_events functions f body funs n es) (Ok (body_kept functions f body funs kept))
  run_maybe f None funs n later es kept h = last_part (later funs n) _ (es funs n) (kept funs) _ (h funs n) refl
  run_maybe f (Some body) funs n later es kept h =
      let at : Cursor = record { nodes = nodes_next funs; next = n } in
      ap (stands n (is_named funs f.at.name)) (next (check_body functions f body.term at) _ (body_events functions f body.term (nodes_next funs) n) (es (funs_behind funs) (n + size body.term))
      (Own f body.term at) _ (run_body f body.term at)
      (last_part (later (funs_behind funs) (n + size body.term)) _ (es (funs_behind funs) (n + size body.term)) (kept (funs_behind funs)) _ (h (funs_behind funs) (n + size body.term)) refl))

  run_functions : (fs : List Function) (funs : List CertFun) (n : ℕ) → check_functions functions fs funs n ≡ run (function_events functions fs funs n) (Ok (all_kept functions fs funs))
  run_functions [] funs n = refl
  run_functions (f ∷ fs) funs n =
      ap (row n (is_arrow f.ty.ty && has_word_arrays f.ty.ty))
      (run_maybe f f.body funs n (λ rest m. check_functions functions fs rest m) (λ rest m. function_events functions fs rest m) (λ rest. all_kept functions fs rest) (run_functions fs))

run_first : {A : Type 0} (xs : List Event) (a : A) → run xs (Ok a) ≡ verdict (first_failing xs) a
run_first [] a = refl
run_first (event fault true ∷ xs) a = run_first xs a
run_first (event fault false ∷ xs) a = refl

pub first_fault : PassAnswersTheFirstFault
first_fault functions cert = run_functions functions functions cert.funs 1 ∙ run_first (cert_events functions cert) (all_kept functions functions cert.funs)
