-- What the pass over a term goes by: operands and fields in their lists.
use Rattle.std.proofs.Common.{◌≡◌, ◌<◌, Option, Ok, Err, List, [], ◌∷◌, length, map, refl, ap}
use Rattle.cg_base.specs.declared.kind.Kinds.{Kinds}
use Rattle.cg_base.specs.declared.place.Place.{Place}
use Rattle.cg_base.specs.Types.{Tau}
use Rattle.cg_cert.specs.declared.fault.CertFault.TheVariants.{C2}
use Rattle.cg_certcheck.specs.Forms.{form_by}
use Rattle.cg_core.specs.declared.derivation.Mark.{Mark}
use Rattle.cg_core.specs.declared.op.Op.{Op}
use Rattle.cg_core.specs.declared.term.FieldTerm.{FieldTerm}
use Rattle.cg_core.specs.declared.term.Term.{Term}
use Rattle.cg_core.specs.Kernels.{Function, the_field, the_term}
use Rattle.cg_core.specs.Terms.{op, to_named, to_trees}
use Rattle.cg_certcheck_def.specs.Pass.{Cursor, check_fields, no_fields}
use Rattle.cg_check_pieces.proofs.FieldSteps.{no_named}
use Rattle.cg_typing.specs.Contexts.{Context}

pub other_operands : (functions : List Function) (vars : List Kinds) (g : Context) (d : Option Tau) (at : Cursor) (place : Place) (o : Op) (ts : List (Term Place))
    → (length ts ≡ 1 → ⊥) → (length ts ≡ 2 → ⊥) → form_by functions vars g d at place (op o (to_trees (map the_term ts))) ≡ Err (C2 at.next)
unfolding to_trees
other_operands functions vars g d at place o [] h k = refl
other_operands functions vars g d at place o (x ∷ []) h k = absurd (h refl)
other_operands functions vars g d at place o (x ∷ y ∷ []) h k = absurd (k refl)
other_operands functions vars g d at place o (x ∷ y ∷ z ∷ ts) h k = refl

module _ (functions : List Function) (vars : List Kinds) (g : Context) (ds : List (Option Tau)) (ss : List (List Mark)) (at : Cursor) where
  pub fields_none : (fs : List (FieldTerm Place)) → length fs < 1 → check_fields functions vars g ds ss at (to_named (map the_field fs)) ≡ Ok (no_fields at)
  fields_none fs h = ap (check_fields functions vars g ds ss at) (no_named fs h)
