-- The one pass answers the first event that fails.
use Rattle.std.proofs.Common.{◌≡◌, ℕ, zero, suc, ◌<◌, Bool, false, Option, Some, None, Ok, List, [], ◌∷◌, length, map, refl, sym, ap, ◌∙◌, arith}
use Rattle.std.specs.List.{All, flat_map}
use Rattle.std.proofs.lemmas.List.Elements.{All-head, All-tail}
use Rattle.cg_base.specs.declared.kind.Kinds.{Kinds}
use Rattle.cg_base.specs.declared.kind.Sigil.TheVariants.{U}
use Rattle.cg_base.specs.declared.place.Place.{Place}
use Rattle.cg_base.specs.Types.{Tau, part, fields}
use Rattle.cg_core.specs.Kernels.{Function, Body}
use Rattle.cg_core.specs.Terms.{Tree, term, Shape, var, unit, bool, lit, fun, op, app, lets, let_bang, if_else, con, case_of, esac, struct, member, take_field, put, cast, annot, none, more, Named, end, field}
use Rattle.cg_faults.specs.declared.rule.Rule.TheVariants.{T1, T4, T14}
use Rattle.cg_core_def.specs.Lawful.{AreLawfulFields, IsLawfulFunction, IsLawfulBody}
use Rattle.cg_typing.specs.Accepted.{kinds_of_vars}
use Rattle.cg_faults.specs.Events.{Before, after, nowhere, next_direction, later_directions, field_directions, events, events_shape, field_events, scope_end, body_events, function_events, kernel_events}
use Rattle.cg_check_def.specs.Kept.{body_kept, function_kept}
use Rattle.cg_check_laws.specs.Laws.{PassAnswersTheFirstFault}
use Rattle.cg_check_def.specs.NormalForm.{core, core_fields}
use Rattle.cg_faults.specs.Occurrences.{touched_fields, used_fields, sightings_fields, touched, used, sightings}
use Rattle.cg_typing.specs.Parts.{is_arrow, taken_by, given_by, has_word_arrays}
use Rattle.cg_check_def.specs.Pass.{need, check, check_shape, check_fields, check_body, check_function, check_all}
use Rattle.cg_check_uses.specs.Uses.{both, mark, flag_at}
use Rattle.cg_faults.specs.Plain.{plain_in, plain_parts, is_made_of}
use Rattle.cg_check_laws.proofs.Clash.{at_most_two, at_least_one}
use Rattle.cg_check_laws.proofs.Own.{use_fields, own_strings, own_trees, value, parts_in, field_values}
use Rattle.cg_check_laws.proofs.PassBinders.{pass_app, pass_put, pass_let, pass_let_bang, pass_take, pass_if, pass_case, leave_last}
use Rattle.cg_check_laws.proofs.PassParts.{Passes, PassesShape, got, meets_got, pass_var, pass_lit, pass_fun, pass_unary, pass_binary, pass_con, pass_esac, pass_member, pass_cast, pass_annot}
use Rattle.cg_check_laws.proofs.Settled.{body_settles}
use Rattle.cg_check_laws.proofs.PassSteps.{run, next, last_part, run_first, use_in, uses, use_two, join_table, Same, same_mark}
use Rattle.cg_check_uses.proofs.TableSteps.{table_is as table_same}

module _ (functions : List Function) (vars : List Kinds) (types_in : ℕ) where
  abbrev P : Tree Place → Type 0
  P = Passes functions vars types_in

  -- ---- fields

  parts_plain : (p : List Tau) (fs : Named Place) → parts_in functions p [] fs ≡ plain_parts functions p fs
  parts_plain p end = refl
  parts_plain p (field name e fs) = ap (λ ps. part name (plain_in functions p None e) false ps) (parts_plain p fs)

  abbrev PassesFields : Named Place → Type 0
  PassesFields fs = (p : List Tau) (bs : List Bool) (f : Before) (ways : List (Option Tau)) → AreLawfulFields (map (λ f. length f.vars) functions) types_in (length p) fs → Same (length p) bs f
      → check_fields functions vars p bs ways fs ≡ run (field_events functions vars p f ways fs) (Ok (field_values functions (length p) p ways fs))

  pass_field : (name : List ℕ) (e : Tree Place) (fs : Named Place) → P e → PassesFields fs → PassesFields (field name e fs)
  pass_field name e fs pe pf p bs f ways s m =
      let n = length p in let way = next_direction ways in let later = later_directions ways in
      next (check functions vars p bs way e) _ (events functions vars p f way e) _ (value functions n p way e) _ (pe p bs f way s.0 m)
      (last_part (check_fields functions vars p (mark bs (uses n e)) later fs) _ (field_events functions vars p (after f e) later fs)
      (field_values functions n p later fs) _ (pf p (mark bs (uses n e)) (after f e) later s.1 (same_mark n bs f e m))
      (ap (λ us. Ok (record {
        parts = parts_in functions p ways (field name e fs);
        cores = core_fields functions p ways (field name e fs);
        strings = own_strings n (field name e fs);
        trees = own_trees n (field name e fs);
        uses = us;
      }))
      (join_table n (use_in e) (use_fields fs) ∙ table_same n (λ i. both (use_in e i) (use_fields fs i)) (use_fields (field name e fs))
      (λ i. use_two (touched i e) (touched_fields i fs) (used i e) (used_fields i fs) (sightings i e) (sightings_fields i fs)))))

  pass_struct : (a : Place) (fs : Named Place) → PassesFields fs → PassesShape functions vars types_in a (struct fs)
  pass_struct a fs pf p bs f None s m =
      let n = length p in
      last_part (check_fields functions vars p bs [] fs) _ (field_events functions vars p f [] fs) (field_values functions n p [] fs) _ (pf p bs f [] s.2 m)
      (got functions vars types_in p None a (struct fs) _ _ _ (ap (λ ps. fields ps U) (parts_plain p fs)) refl refl)
  pass_struct a fs pf p bs f (Some t) s m =
      ap (need T1 a (is_made_of t fs)) (last_part (check_fields functions vars p bs (field_directions (Some t)) fs) _ (field_events functions vars p f (field_directions (Some t)) fs)
      (field_values functions (length p) p (field_directions (Some t)) fs) _ (pf p bs f (field_directions (Some t)) s.2 m) refl)

  mutual
    pub pass : (e : Tree Place) → P e
    pass (term a shape) p bs f dir s m =
        next (check_shape functions vars p bs dir a shape) _ (events_shape functions vars p f dir a shape) _
        (value functions (length p) p dir (term a shape)) _ (pass_shape a shape p bs f dir s m) refl

    pass_shape : (a : Place) (shape : Shape Place) → PassesShape functions vars types_in a shape
    pass_shape a (var j) = pass_var functions vars types_in a j
    pass_shape a unit = λ p bs f dir s m. meets_got functions vars types_in p dir a unit _ refl
    pass_shape a (bool v) = λ p bs f dir s m. meets_got functions vars types_in p dir a (bool v) _ refl
    pass_shape a (lit v) = pass_lit functions vars types_in a v
    pass_shape a (fun g args) = pass_fun functions vars types_in a g args
    pass_shape a (op o none) = λ p bs f dir s m. absurd (omega (arith, s.0, at_least_one o))
    pass_shape a (op o (more x none)) = pass_unary functions vars types_in a o x (pass x)
    pass_shape a (op o (more l (more r none))) = pass_binary functions vars types_in a o l r (pass l) (pass r)
    pass_shape a (op o (more l (more r (more x ts)))) = λ p bs f dir s m. absurd (omega (arith, s.0, at_most_two o))
    pass_shape a (app g x) = pass_app functions vars types_in a g x (pass g) (pass x)
    pass_shape a (lets v e k) = pass_let functions vars types_in a v e k (pass e) (pass k)
    pass_shape a (let_bang os v e k) = pass_let_bang functions vars types_in a os v e k (pass e) (pass k)
    pass_shape a (if_else c x y) = pass_if functions vars types_in a c x y (pass c) (pass x) (pass y)
    pass_shape a (con name e) = pass_con functions vars types_in a name e (pass e)
    pass_shape a (case_of e at v x y) = pass_case functions vars types_in a e at v x y (pass e) (pass x) (pass y)
    pass_shape a (esac at e) = pass_esac functions vars types_in a at e (pass e)
    pass_shape a (struct fs) = pass_struct a fs (pass_fields fs)
    pass_shape a (member e at) = pass_member functions vars types_in a e at (pass e)
    pass_shape a (take_field e at v w k) = pass_take functions vars types_in a e at v w k (pass e) (pass k)
    pass_shape a (put e at x) = pass_put functions vars types_in a e at x (pass e) (pass x)
    pass_shape a (cast e) = pass_cast functions vars types_in a e (pass e)
    pass_shape a (annot e t) = pass_annot functions vars types_in a e t (pass e)

    pass_fields : (fs : Named Place) → PassesFields fs
    pass_fields end = λ p bs f ways s m. refl
    pass_fields (field name e fs) = pass_field name e fs (pass e) (pass_fields fs)

module _ (functions : List Function) where
  abbrev Legal : Function → Type 0
  Legal f = IsLawfulFunction (map (λ f. length f.vars) functions) f

  starts : (i : ℕ) → i < 1 → flag_at (false ∷ []) i ≡ nowhere i
  starts zero lt = refl
  starts (suc i) lt = refl

  run_body : (vars : List Kinds) (n : ℕ) (argument result : Tau) (body : Option Body) → IsLawfulBody (map (λ f. length f.vars) functions) n body
      → check_body functions vars argument result body ≡ run (body_events functions vars argument result body) (Ok (body_kept functions argument result body))
  run_body vars n argument result None s = refl
  run_body vars n argument result (Some body) s =
      next (check functions vars (argument ∷ []) (false ∷ []) (Some result) body.term) _ (events functions vars (argument ∷ []) nowhere (Some result) body.term)
      (scope_end functions vars 0 body.param argument body.term) (value functions 1 (argument ∷ []) (Some result) body.term) _
      (pass functions vars n body.term (argument ∷ []) (false ∷ []) nowhere (Some result) s (record { long = refl; at_is = starts }))
      (leave_last functions vars n 0 body.param argument body.term _ _
      (ap (λ d. Ok (Some (core functions (argument ∷ []) (Some result) body.term, d))) (sym (body_settles functions argument body.term))))

  run_function : (f : Function) → Legal f → check_function functions f ≡ run (function_events functions f) (Ok (function_kept functions f))
  run_function f s = ap (need T4 f.ty.place (is_arrow f.ty.ty)) (ap (need T14 f.ty.place (has_word_arrays f.ty.ty))
      (run_body (kinds_of_vars f) (length f.vars) (taken_by f.ty.ty) (given_by f.ty.ty) f.body s.body))

  run_all : (fs : List Function) → All Legal fs → check_all functions fs ≡ run (flat_map (function_events functions) fs) (Ok (map (function_kept functions) fs))
  run_all [] s = refl
  run_all (f ∷ fs) s =
      next (check_function functions f) _ (function_events functions f) (flat_map (function_events functions) fs) (function_kept functions f) _
      (run_function f (All-head Legal f fs s))
      (last_part (check_all functions fs) _ (flat_map (function_events functions) fs) (map (function_kept functions) fs) _ (run_all fs (All-tail Legal f fs s)) refl)

pub first_fault : PassAnswersTheFirstFault
first_fault functions lawful = run_all functions functions lawful.functions_stand ∙ run_first (kernel_events functions) (map (function_kept functions) functions)
