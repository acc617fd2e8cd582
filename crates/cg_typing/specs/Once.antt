-- A kernel is lawful in one way at most, so that it is may be kept as it is.
use Rattle.std.specs.Prelude.{ℕ, suc, List, [], ◌∷◌, Option, Some, None}
use Rattle.std.proofs.Props.{props}
use Rattle.cg_base.specs.declared.fun.Fun.{Fun}
use Rattle.cg_base.specs.declared.fun.Fun.TheVariants.{User, Lib as OfLib}
use Rattle.cg_base.specs.declared.place.Place.{Place}
use Rattle.cg_base.specs.Types as types
use Rattle.cg_base.specs.Types.{Tau, Taus, Parts}
use Rattle.cg_core.specs.Kernels.{Function, Body}
use Rattle.cg_core.specs.Terms.{Tree, term, Shape, var, unit, bool, lit, fun, op, app, lets, let_bang, if_else, con, case_of, esac, struct, member, take_field, put, cast, annot, Trees, none, more, Named, end, field}
use Rattle.cg_core_def.specs.Lawful.{AreApart, AreRising, AreSome, part_names, types_count, HasArguments, IsLawfulType, AreLawfulTypes, AreLawfulParts, Takes, IsLawfulTerm, IsLawfulShape, AreLawfulTerms, AreLawfulFields, IsLawfulBody, IsLawfulFunction, field_names, IsLawfulKernel}

apart_once : (names : List (List ℕ)) → IsProp (AreApart names)
apart_once [] = hlevel props
apart_once (n ∷ names) = hlevel (props, apart_once names)

rising_once : (names : List (List ℕ)) → IsProp (AreRising names)
rising_once names = hlevel props

some_once : (names : List (List ℕ)) → IsProp (AreSome names)
some_once [] = hlevel props
some_once (n ∷ names) = hlevel props

arguments_once : (name : List ℕ) (given : ℕ) → IsProp (HasArguments name given)
arguments_once name given = hlevel props

mutual
  type_once : (vars : ℕ) (t : Tau) → IsProp (IsLawfulType vars t)
  type_once vars (types.var n) = hlevel props
  type_once vars (types.seen n) = hlevel props
  type_once vars types.unit = hlevel props
  type_once vars (types.word w) = hlevel props
  type_once vars types.bool = hlevel props
  type_once vars (types.arrow a b) = hlevel (type_once vars a, type_once vars b)
  type_once vars (types.abs n ts sigil) = hlevel (arguments_once n (types_count ts), types_once vars ts)
  type_once vars (types.variant ps) = hlevel (some_once (part_names ps), apart_once (part_names ps), rising_once (part_names ps), parts_once vars ps)
  type_once vars (types.fields ps sigil) = hlevel (some_once (part_names ps), apart_once (part_names ps), parts_once vars ps)

  types_once : (vars : ℕ) (ts : Taus) → IsProp (AreLawfulTypes vars ts)
  types_once vars types.none = hlevel props
  types_once vars (types.more t ts) = hlevel (type_once vars t, types_once vars ts)

  parts_once : (vars : ℕ) (ps : Parts) → IsProp (AreLawfulParts vars ps)
  parts_once vars types.end = hlevel props
  parts_once vars (types.part n t taken ps) = hlevel (type_once vars t, parts_once vars ps)

module _ (arities : List ℕ) where
  takes_once : (f : Fun) (given : ℕ) → IsProp (Takes arities f given)
  takes_once (User f) given = hlevel props
  takes_once (OfLib l) given = hlevel props

  module _ (vars : ℕ) where
    mutual
      term_once : (depth : ℕ) (e : Tree Place) → IsProp (IsLawfulTerm arities vars depth e)
      term_once depth (term place shape) = shape_once depth shape

      shape_once : (depth : ℕ) (s : Shape Place) → IsProp (IsLawfulShape arities vars depth s)
      shape_once depth (var i) = hlevel props
      shape_once depth unit = hlevel props
      shape_once depth (bool b) = hlevel props
      shape_once depth (lit v) = hlevel props
      shape_once depth (fun f args) = hlevel (takes_once f, type_once vars)
      shape_once depth (op o ts) = hlevel (props, terms_once depth ts)
      shape_once depth (app f x) = hlevel (term_once depth f, term_once depth x)
      shape_once depth (lets p x y) = hlevel (term_once depth x, term_once (suc depth) y)
      shape_once depth (let_bang seen p x y) = hlevel (props, term_once depth x, term_once (suc depth) y)
      shape_once depth (if_else c x y) = hlevel (term_once depth c, term_once depth x, term_once depth y)
      shape_once depth (con n x) = term_once depth x
      shape_once depth (case_of c at p x y) = hlevel (term_once depth c, term_once (suc depth) x, term_once (suc depth) y)
      shape_once depth (esac at x) = term_once depth x
      shape_once depth (struct fs) = hlevel (some_once (field_names fs), apart_once (field_names fs), fields_once depth fs)
      shape_once depth (member x at) = term_once depth x
      shape_once depth (take_field x at p q y) = hlevel (term_once depth x, term_once (suc (suc depth)) y)
      shape_once depth (put x at y) = hlevel (term_once depth x, term_once depth y)
      shape_once depth (cast x) = term_once depth x
      shape_once depth (annot x a) = hlevel (term_once depth x, type_once vars a.ty)

      terms_once : (depth : ℕ) (ts : Trees Place) → IsProp (AreLawfulTerms arities vars depth ts)
      terms_once depth none = hlevel props
      terms_once depth (more t ts) = hlevel (term_once depth t, terms_once depth ts)

      fields_once : (depth : ℕ) (fs : Named Place) → IsProp (AreLawfulFields arities vars depth fs)
      fields_once depth end = hlevel props
      fields_once depth (field n t fs) = hlevel (term_once depth t, fields_once depth fs)

  body_once : (vars : ℕ) (b : Option Body) → IsProp (IsLawfulBody arities vars b)
  body_once vars None = hlevel props
  body_once vars (Some b) = term_once vars 1 b.term

  function_once : (f : Function) → IsProp (IsLawfulFunction arities f)
  function_once f = hlevel (type_once, body_once)

pub lawful_once : (functions : List Function) → IsProp (IsLawfulKernel functions)
lawful_once functions = hlevel function_once
