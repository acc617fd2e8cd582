-- Type arguments in the place of type variables, through contexts, directions and cores.
use Rattle.std.specs.Prelude.{Option, List, map}
use Rattle.std.specs.Option.{option_map}
use Rattle.cg_base.specs.Types.{Tau}
use Rattle.cg_core.specs.Terms.{Tree, term, Shape, var, unit, bool, lit, fun, op, app, lets, let_bang, if_else, con, case_of, esac, struct, member, take_field, put, cast, annot, Trees, none, more, Named, end, field, Note, Arg}
use Rattle.cg_kinds.specs.Kinds.{subst}
use Rattle.cg_typing.specs.Contexts.{Context}

module _ (given : List Tau) where
  -- a direction: the type that is checked against, if there is one
  abbrev pub subst_direction : Option Tau → Option Tau
  subst_direction = option_map (subst given)

  -- a context: present entries stay present, gone ones gone
  abbrev pub subst_context : Context → Context
  subst_context g = map subst_direction g

  -- a written type, and what a node notes: the places stay
  abbrev pub subst_arg : Arg → Arg
  subst_arg a = record { place = a.place; ty = subst given a.ty }

  abbrev pub subst_note : Note → Note
  subst_note n = record { place = n.place; ty = subst given n.ty }

  abbrev mutual
    -- a core: every note, type argument and annotation
    pub subst_core : Tree Note → Tree Note
    subst_core (term note shape) = term (subst_note note) (subst_shape shape)

    pub subst_shape : Shape Note → Shape Note
    subst_shape (var i) = var i
    subst_shape unit = unit
    subst_shape (bool b) = bool b
    subst_shape (lit n) = lit n
    subst_shape (fun f args) = fun f (map subst_arg args)
    subst_shape (op o ts) = op o (subst_cores ts)
    subst_shape (app f x) = app (subst_core f) (subst_core x)
    subst_shape (lets p x y) = lets p (subst_core x) (subst_core y)
    subst_shape (let_bang s p x y) = let_bang s p (subst_core x) (subst_core y)
    subst_shape (if_else c x y) = if_else (subst_core c) (subst_core x) (subst_core y)
    subst_shape (con n x) = con n (subst_core x)
    subst_shape (case_of c a p x y) = case_of (subst_core c) a p (subst_core x) (subst_core y)
    subst_shape (esac a x) = esac a (subst_core x)
    subst_shape (struct fs) = struct (subst_fields fs)
    subst_shape (member x a) = member (subst_core x) a
    subst_shape (take_field x a p q y) = take_field (subst_core x) a p q (subst_core y)
    subst_shape (put x a y) = put (subst_core x) a (subst_core y)
    subst_shape (cast x) = cast (subst_core x)
    subst_shape (annot x a) = annot (subst_core x) (subst_arg a)

    pub subst_cores : Trees Note → Trees Note
    subst_cores none = none
    subst_cores (more t ts) = more (subst_core t) (subst_cores ts)

    pub subst_fields : Named Note → Named Note
    subst_fields end = end
    subst_fields (field name t fs) = field name (subst_core t) (subst_fields fs)
