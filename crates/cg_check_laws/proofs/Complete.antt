-- Where there is a derivation, with any splits, no rule fails and the core is that of plain typing.
use Rattle.std.proofs.Common.{List}
use Rattle.cg_base.specs.declared.kind.Kinds.{Kinds}
use Rattle.cg_core.specs.Kernels.{Function}
use Rattle.cg_core.specs.Terms.{Tree, term, Shape, var, unit, bool, lit, fun, op, app, lets, let_bang, if_else, con, case_of, esac, struct, member, take_field, put, cast, annot, none, more, Named, end, field, Note}
use Rattle.cg_check_laws.proofs.CompleteBinders.{complete_app, complete_put, complete_let, complete_take, complete_let_bang}
use Rattle.cg_check_laws.proofs.CompleteBranches.{complete_if, complete_case}
use Rattle.cg_check_laws.proofs.CompleteFields.{CompleteFields, complete_last, complete_earlier, complete_struct}
use Rattle.cg_check_laws.proofs.CompleteOperators.{complete_unary, complete_binary}
use Rattle.cg_check_laws.proofs.CompleteParts.{Complete, complete_var, complete_unit, complete_bool, complete_lit, complete_fun, complete_con, complete_esac, complete_member, complete_cast, complete_annot}

module _ (functions : List Function) (vars : List Kinds) where
  mutual
    pub complete : (c : Tree Note) → Complete functions vars c
    complete (term a shape) = complete_shape a shape

    complete_shape : (a : Note) (shape : Shape Note) → Complete functions vars (term a shape)
    complete_shape a (var j) = complete_var functions vars a j
    complete_shape a unit = complete_unit functions vars a
    complete_shape a (bool v) = complete_bool functions vars a v
    complete_shape a (lit v) = complete_lit functions vars a v
    complete_shape a (fun f args) = complete_fun functions vars a f args
    complete_shape a (op o none) = λ p b dir g d w c h. absurd h
    complete_shape a (op o (more x none)) = complete_unary functions vars a o x (complete x)
    complete_shape a (op o (more l (more r none))) = complete_binary functions vars a o l r (complete l) (complete r)
    complete_shape a (op o (more l (more r (more x ts)))) = λ p b dir g d w c h. absurd h
    complete_shape a (app f x) = complete_app functions vars a f x (complete f) (complete x)
    complete_shape a (lets v e k) = complete_let functions vars a v e k (complete e) (complete k)
    complete_shape a (let_bang os v e k) = complete_let_bang functions vars a os v e k (complete e) (complete k)
    complete_shape a (if_else c x y) = complete_if functions vars a c x y (complete c) (complete x) (complete y)
    complete_shape a (con n e) = complete_con functions vars a n e (complete e)
    complete_shape a (case_of e at v x y) = complete_case functions vars a e at v x y (complete e) (complete x) (complete y)
    complete_shape a (esac at e) = complete_esac functions vars a at e (complete e)
    complete_shape a (struct fs) = complete_struct functions vars a fs (complete_fields fs)
    complete_shape a (member e at) = complete_member functions vars a e at (complete e)
    complete_shape a (take_field e at v z k) = complete_take functions vars a e at v z k (complete e) (complete k)
    complete_shape a (put e at x) = complete_put functions vars a e at x (complete e) (complete x)
    complete_shape a (cast e) = complete_cast functions vars a e (complete e)
    complete_shape a (annot e t) = complete_annot functions vars a e t (complete e)

    complete_fields : (fs : Named Note) → CompleteFields functions vars fs
    complete_fields end = λ p b dir g strings ds w c h. absurd h
    complete_fields (field n e end) = complete_last functions vars n e (complete e)
    complete_fields (field n e (field m x fs)) = complete_earlier functions vars n e m x fs (complete e) (complete_fields (field m x fs))
