-- What the pass answers for a term that no event fails in: its type, its core, the derivation where just what the term touches is
-- present, and what it does with each variable.
use Rattle.std.proofs.Common.{ℕ, suc, false, cond, ◌++◌, Option, List, [], ◌∷◌}
use Rattle.cg_base.specs.declared.place.Place.{Place}
use Rattle.cg_base.specs.Types as types
use Rattle.cg_base.specs.Types.{Tau, Parts, part}
use Rattle.cg_core.specs.declared.derivation.Mark.{Mark}
use Rattle.cg_core.specs.declared.derivation.Node.TheVariants as nodes
use Rattle.cg_core.specs.Derivations as trees
use Rattle.cg_core.specs.Derivations.{Derivation, Derivations, derivation}
use Rattle.cg_core.specs.Kernels.{Function}
use Rattle.cg_core.specs.Terms.{Tree, term, Shape, var, unit, bool, lit, fun, op, app, lets, let_bang, if_else, con, case_of, esac, struct, member, take_field, put, cast, annot, none, more, Named, end, field}
use Rattle.cg_faults.specs.Events.{next_direction, later_directions}
use Rattle.cg_faults.specs.Occurrences.{touched_fields, used_fields, sightings_fields}
use Rattle.cg_faults.specs.Plain.{plain_in}
use Rattle.cg_check_def.specs.NormalForm.{core, core_fields}
use Rattle.cg_check_def.specs.Pass.{is_end, Got, GotFields}
use Rattle.cg_check_uses.specs.Marks.{marks_of_uses, marks_seen, settled, kept_new, kept_seen, kept_beside, one_part, two_parts, three_parts}
use Rattle.cg_check_uses.specs.Uses.{use_of, table, join, seen_places, last, front}
use Rattle.cg_check_uses.specs.declared.entry.Use.{Use}
use Rattle.cg_check_laws.proofs.PassSteps.{first_bad, uses}

-- what fields do with each variable
abbrev pub use_fields : Named Place → ℕ → Use
use_fields fs i = use_of (touched_fields i fs) (used_fields i fs) (first_bad (sightings_fields i fs))

abbrev pub field_uses : ℕ → Named Place → List Use
field_uses n fs = table n (use_fields fs)

abbrev mutual
  -- the derivation where just what the term touches is present, in a context of so many variables
  pub own : ℕ → Tree Place → Derivation
  own n (term place shape) = own_shape n shape

  pub own_shape : ℕ → Shape Place → Derivation
  own_shape n (var i) = derivation nodes.Var [] trees.done
  own_shape n unit = derivation nodes.Unit [] trees.done
  own_shape n (bool b) = derivation nodes.Bool [] trees.done
  own_shape n (lit value) = derivation nodes.Lit [] trees.done
  own_shape n (fun f args) = derivation nodes.Fun [] trees.done
  own_shape n (op o (more x none)) = one_part nodes.Op (own n x)
  own_shape n (op o (more l (more r none))) = two_parts nodes.Op (marks_of_uses (uses n l) (uses n r)) (own n l) (own n r)
  own_shape n (op o ts) = derivation nodes.Op [] trees.done
  own_shape n (app f x) = two_parts nodes.App (marks_of_uses (uses n f) (uses n x)) (own n f) (own n x)
  own_shape n (lets binder e k) =
      two_parts nodes.Let (marks_of_uses (uses n e) (front (uses (suc n) k))) (own n e) (settled (kept_new n (last (uses (suc n) k))) (own (suc n) k))
  own_shape n (let_bang observers binder e k) =
      two_parts nodes.LetBang (marks_seen (seen_places n observers) (uses n e) (front (uses (suc n) k)))
      (settled (kept_seen (seen_places n observers) (uses n e)) (own n e))
      (settled (kept_seen (seen_places n observers) (front (uses (suc n) k)) ++ kept_new n (last (uses (suc n) k))) (own (suc n) k))
  own_shape n (if_else c x y) =
      three_parts nodes.If (marks_of_uses (uses n c) (join (uses n x) (uses n y))) (own n c)
      (settled (kept_beside (uses n x) (uses n y)) (own n x)) (settled (kept_beside (uses n y) (uses n x)) (own n y))
  own_shape n (con name e) = one_part nodes.Con (own n e)
  own_shape n (case_of e at binder x y) =
      three_parts nodes.Case (marks_of_uses (uses n e) (join (front (uses (suc n) x)) (front (uses (suc n) y)))) (own n e)
      (settled (kept_beside (front (uses (suc n) x)) (front (uses (suc n) y)) ++ kept_new n (last (uses (suc n) x))) (own (suc n) x))
      (settled (kept_beside (front (uses (suc n) y)) (front (uses (suc n) x)) ++ kept_new n (last (uses (suc n) y))) (own (suc n) y))
  own_shape n (esac at e) = one_part nodes.Esac (own n e)
  own_shape n (struct fs) = derivation nodes.Struct (own_strings n fs) (own_trees n fs)
  own_shape n (member e at) = one_part nodes.Member (own n e)
  own_shape n (take_field e at rest binder k) =
      two_parts nodes.Take (marks_of_uses (uses n e) (front (front (uses (suc (suc n)) k)))) (own n e)
      (settled (kept_new n (last (front (uses (suc (suc n)) k))) ++ kept_new (suc n) (last (uses (suc (suc n)) k))) (own (suc (suc n)) k))
  own_shape n (put e at x) = two_parts nodes.Put (marks_of_uses (uses n e) (uses n x)) (own n e) (own n x)
  own_shape n (cast e) = one_part nodes.Cast (own n e)
  own_shape n (annot e a) = one_part nodes.Annot (own n e)

  -- the marks between each field and the later ones, and the derivations of fields
  pub own_strings : ℕ → Named Place → List (List Mark)
  own_strings n end = []
  own_strings n (field name e fs) = cond (is_end fs) [] (marks_of_uses (uses n e) (field_uses n fs) ∷ own_strings n fs)

  pub own_trees : ℕ → Named Place → Derivations
  own_trees n end = trees.done
  own_trees n (field name e fs) = trees.part (own n e) (own_trees n fs)

module _ (functions : List Function) where
  -- what a term comes to, in a context of so many variables
  abbrev pub value : ℕ → List Tau → Option Tau → Tree Place → Got
  value n p direction e = record { ty = plain_in functions p direction e; core = core functions p direction e; tree = own n e; uses = uses n e }

  abbrev pub parts_in : List Tau → List (Option Tau) → Named Place → Parts
  parts_in p ways end = types.end
  parts_in p ways (field name e fs) = part name (plain_in functions p (next_direction ways) e) false (parts_in p (later_directions ways) fs)

  -- and what fields come to
  abbrev pub field_values : ℕ → List Tau → List (Option Tau) → Named Place → GotFields
  field_values n p ways fs =
      record { parts = parts_in p ways fs; cores = core_fields functions p ways fs; strings = own_strings n fs; trees = own_trees n fs; uses = field_uses n fs }
