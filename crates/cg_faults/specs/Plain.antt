-- Plain typing: the rows with contexts that lose nothing, without splits and marks. It is total: where a term synthesises no
-- type, it gives any.
use Rattle.std.specs.Prelude.{ℕ, zero, suc, Bool, true, false, ◌&&◌, not, cond, Option, Some, None, List, [], ◌∷◌}
use Rattle.std.specs.Str.{bytes_eq}
use Rattle.cg_base.specs.declared.fun.Fun.{Fun}
use Rattle.cg_base.specs.declared.kind.Sigil.TheVariants.{U}
use Rattle.cg_base.specs.declared.place.Place.{Place}
use Rattle.cg_base.specs.Types as types
use Rattle.cg_base.specs.Types.{Tau, fields, Parts, part}
use Rattle.cg_core.specs.declared.term.Seen.{Seen}
use Rattle.cg_core.specs.Kernels.{Function}
use Rattle.cg_core.specs.Terms.{Tree, term, Shape, var, unit, bool, lit, fun, op, app, lets, let_bang, if_else, con, case_of, esac, struct, member, take_field, put, cast, annot, none, more, Named, end, field, Arg}
use Rattle.cg_kinds.specs.Kinds.{bang, or_unit}
use Rattle.cg_typing.specs.Contexts.{push, among}
use Rattle.cg_typing.specs.Functions.{fun_type}
use Rattle.cg_typing.specs.Operators.{sort_of, gives}
use Rattle.cg_typing.specs.Parts.{given_by, field_in, alternative_in, held, with_part}
use Rattle.cg_typing.specs.Rules.{is_literal}

-- the type of a variable; past the end unit, which has all kinds
abbrev pub plain_at : List Tau → ℕ → Tau
plain_at [] i = types.unit
plain_at (t ∷ ts) zero = t
plain_at (t ∷ ts) (suc i) = plain_at ts i

-- the types of these variables observed
abbrev pub banged_where : (ℕ → Bool) → List Tau → List Tau
banged_where test [] = []
banged_where test (t ∷ ts) = cond (test zero) (bang t) t ∷ banged_where (λ i. test (suc i)) ts

abbrev pub observed : List Seen → List Tau → List Tau
observed observers p = banged_where (λ i. among i observers) p

-- a record type's fields are these, in this order, and none is taken
abbrev pub are_fields : Parts → Named Place → Bool
are_fields types.end end = true
are_fields (part name t taken ps) (field other e fs) = bytes_eq name other && (not taken && are_fields ps fs)
are_fields _ _ = false

-- an unboxed record of just these fields
abbrev pub is_made_of : Tau → Named Place → Bool
is_made_of (fields ps U) fs = are_fields ps fs
is_made_of _ fs = false

module _ (functions : List Function) where
  -- the type of a function that is mentioned
  abbrev pub mentioned : Fun → List Arg → Tau
  mentioned f args = or_unit (fun_type functions f args)

  abbrev mutual
    -- the type that a term synthesises
    pub plain : List Tau → Tree Place → Tau
    plain p (term place shape) = plain_shape p shape

    pub plain_shape : List Tau → Shape Place → Tau
    plain_shape p (var i) = plain_at p i
    plain_shape p unit = types.unit
    plain_shape p (bool b) = types.bool
    plain_shape p (lit value) = types.unit
    plain_shape p (fun f args) = mentioned f args
    plain_shape p (op o (more x none)) = gives (sort_of o) (plain p x)
    plain_shape p (op o (more l (more r none))) = gives (sort_of o) (cond (is_literal l) (plain p r) (plain p l))
    plain_shape p (op o ts) = types.unit
    plain_shape p (app f x) = given_by (plain p f)
    plain_shape p (lets binder e k) = plain (push p (plain p e)) k
    plain_shape p (let_bang observers binder e k) = plain (push p (plain (observed observers p) e)) k
    plain_shape p (if_else c x y) = plain p x
    plain_shape p (con name e) = types.unit
    plain_shape p (case_of e at binder x y) = plain (push p (held (alternative_in at.name (plain p e)))) x
    plain_shape p (esac at e) = held (alternative_in at.name (plain p e))
    plain_shape p (struct fs) = fields (plain_parts p fs) U
    plain_shape p (member e at) = held (field_in at.name (plain p e))
    plain_shape p (take_field e at rest binder k) = plain (push (push p (with_part at.name true (plain p e))) (held (field_in at.name (plain p e)))) k
    plain_shape p (put e at x) = with_part at.name false (plain p e)
    plain_shape p (cast e) = types.unit
    plain_shape p (annot e a) = a.ty

    pub plain_parts : List Tau → Named Place → Parts
    plain_parts p end = types.end
    plain_parts p (field name e fs) = part name (plain p e) false (plain_parts p fs)

  -- the type of a term in a direction
  abbrev pub plain_in : List Tau → Option Tau → Tree Place → Tau
  plain_in p None e = plain p e
  plain_in p (Some t) e = t
