-- Where nodes spell a derivation of the core of plain typing, and no type passes the limit, no event fails.
use Rattle.std.proofs.Common.{Bool, List}
use Rattle.cg_base.specs.declared.kind.Kinds.{Kinds}
use Rattle.cg_base.specs.declared.place.Place.{Place}
use Rattle.cg_core.specs.Kernels.{Function}
use Rattle.cg_core.specs.Terms.{Tree, term, Shape, var, unit, bool, lit, fun, op, app, lets, let_bang, if_else, con, case_of, esac, struct, member, take_field, put, cast, annot, none, more, Named, end, field}
use Rattle.cg_faults.specs.Events as faults
use Rattle.cg_certcheck_def.specs.Events.{events_shape}
use Rattle.cg_certcheck_laws.proofs.CompleteBinders.{complete_app, complete_put, complete_let, complete_let_bang, complete_take}
use Rattle.cg_certcheck_laws.proofs.CompleteBranches.{complete_if, complete_case}
use Rattle.cg_certcheck_laws.proofs.CompleteFields.{CompleteFields, complete_last, complete_earlier, complete_struct}
use Rattle.cg_certcheck_laws.proofs.CompleteLeaves.{Complete, CompleteShape, complete_var, complete_unit, complete_bool, complete_lit, complete_fun}
use Rattle.cg_certcheck_laws.proofs.CompleteParts.{complete_unary, complete_binary, complete_con, complete_esac, complete_member, complete_cast, complete_annot}
use Rattle.cg_certcheck_laws.proofs.Limits.{limits_left, limits_right}
use Rattle.cg_certcheck_laws.proofs.Rows.{hold_append}

module _ (functions : List Function) (vars : List Kinds) (limited : Bool) where
  -- a term by its form, with the limit on its own type
  by_shape : (a : Place) (s : Shape Place) → CompleteShape functions vars limited a s → Complete functions vars limited (term a s)
  by_shape a s f g p dir ns n d rest b w q h l =
      let es = faults.events_shape functions vars p b dir a s in
      let r = f g p dir ns n d rest b w q h (limits_left limited es _ l) in
      record { holds = hold_append limited (events_shape functions vars g p dir ns n s) _ r.holds ((limits_right limited es _ l).0, tt); left = r.left }

  mutual
    pub complete : (e : Tree Place) → Complete functions vars limited e
    complete (term a s) = by_shape a s (complete_shape a s)

    complete_shape : (a : Place) (s : Shape Place) → CompleteShape functions vars limited a s
    complete_shape a (var i) = complete_var functions vars limited a i
    complete_shape a unit = complete_unit functions vars limited a
    complete_shape a (bool v) = complete_bool functions vars limited a v
    complete_shape a (lit v) = complete_lit functions vars limited a v
    complete_shape a (fun f args) = complete_fun functions vars limited a f args
    complete_shape a (op o none) = λ g p dir ns n d rest b w q h l. absurd h
    complete_shape a (op o (more x none)) = complete_unary functions vars limited a o x (complete x)
    complete_shape a (op o (more l (more r none))) = complete_binary functions vars limited a o l r (complete l) (complete r)
    complete_shape a (op o (more l (more r (more x ts)))) = λ g p dir ns n d rest b w q h l. absurd h
    complete_shape a (app f x) = complete_app functions vars limited a f x (complete f) (complete x)
    complete_shape a (lets v e k) = complete_let functions vars limited a v e k (complete e) (complete k)
    complete_shape a (let_bang os v e k) = complete_let_bang functions vars limited a os v e k (complete e) (complete k)
    complete_shape a (if_else c x y) = complete_if functions vars limited a c x y (complete c) (complete x) (complete y)
    complete_shape a (con name e) = complete_con functions vars limited a name e (complete e)
    complete_shape a (case_of e at v x y) = complete_case functions vars limited a e at v x y (complete e) (complete x) (complete y)
    complete_shape a (esac at e) = complete_esac functions vars limited a at e (complete e)
    complete_shape a (struct fs) = complete_struct functions vars limited a fs (complete_fields fs)
    complete_shape a (member e at) = complete_member functions vars limited a e at (complete e)
    complete_shape a (take_field e at v z k) = complete_take functions vars limited a e at v z k (complete e) (complete k)
    complete_shape a (put e at x) = complete_put functions vars limited a e at x (complete e) (complete x)
    complete_shape a (cast e) = complete_cast functions vars limited a e (complete e)
    complete_shape a (annot e t) = complete_annot functions vars limited a e t (complete e)

    complete_fields : (fs : Named Place) → CompleteFields functions vars limited fs
    complete_fields end = λ g p dir ps strings ns n ds rest b w o q h l. absurd h
    complete_fields (field name e end) = complete_last functions vars limited name e (complete e)
    complete_fields (field name e (field later x fs)) = complete_earlier functions vars limited name e later x fs (complete e) (complete_fields (field later x fs))
