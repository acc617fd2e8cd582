-- What is checked against a type has this type.
use Rattle.std.proofs.Common.{◌≡◌, Some, List, sym, ◌∙◌}
use Rattle.cg_base.specs.declared.kind.Kinds.{Kinds}
use Rattle.cg_base.specs.Types.{Tau}
use Rattle.cg_core.specs.Derivations.{Derivation}
use Rattle.cg_core.specs.Kernels.{Function}
use Rattle.cg_core.specs.Terms.{Note, Tree, term, Shape, var, unit, bool, lit, fun, op, app, lets, let_bang, if_else, con, case_of, esac, struct, member, take_field, put, cast, annot, none, more}
use Rattle.cg_typing.specs.Contexts.{Context}
use Rattle.cg_typing.specs.Rules.{Derives, DerivesShape, type_at}

module _ (functions : List Function) (vars : List Kinds) where
  some_same : (t u : Tau) → Some t ≡ Some u → t ≡ u
  some_same t u e = cc

  mutual
    pub has_checked_type : (c : Tree Note) (g : Context) (d : Derivation) (wanted : Tau) → Derives functions vars g d (Some wanted) c → wanted ≡ type_at c
    has_checked_type (term note shape) g d wanted h = shape_checked shape g d wanted note.ty h

    shape_checked : (s : Shape Note) (g : Context) (d : Derivation) (wanted t : Tau) → DerivesShape functions vars g d (Some wanted) t s → wanted ≡ t
    shape_checked (var i) g d wanted t h = h.meets
    shape_checked unit g d wanted t h = h.meets
    shape_checked (bool b) g d wanted t h = h.meets
    shape_checked (lit v) g d wanted t h = some_same wanted t h.checked
    shape_checked (fun f args) g d wanted t h = h.meets
    shape_checked (op o none) g d wanted t h = absurd h
    shape_checked (op o (more x none)) g d wanted t h = h.meets
    shape_checked (op o (more l (more r none))) g d wanted t h = h.meets
    shape_checked (op o (more l (more r (more x ts)))) g d wanted t h = absurd h
    shape_checked (app f x) g d wanted t h = h.meets
    shape_checked (lets p e k) g d wanted t h = has_checked_type k _ _ wanted h.body ∙ sym h.is
    shape_checked (let_bang os p e k) g d wanted t h = has_checked_type k _ _ wanted h.body ∙ sym h.is
    shape_checked (if_else c x y) g d wanted t h = has_checked_type x _ _ wanted h.first ∙ sym h.is
    shape_checked (con n e) g d wanted t h = some_same wanted t h.checked
    shape_checked (case_of e a p x y) g d wanted t h = has_checked_type x _ _ wanted h.first ∙ sym h.is
    shape_checked (esac a e) g d wanted t h = h.meets
    shape_checked (struct fs) g d wanted t h = h.meets
    shape_checked (member e a) g d wanted t h = h.meets
    shape_checked (take_field e a p q k) g d wanted t h = has_checked_type k _ _ wanted h.body ∙ sym h.is
    shape_checked (put e a x) g d wanted t h = h.meets
    shape_checked (cast e) g d wanted t h = some_same wanted t h.checked
    shape_checked (annot e a) g d wanted t h = h.meets
