-- Kernels as plain data, and what a kernel of the program stands for.
use Rattle.std.specs.Prelude.{List, Option, Some, None, map}
use Rattle.cg_base.specs.declared.kind.Bound.{Bound}
use Rattle.cg_base.specs.declared.place.Place.{Place}
use Rattle.cg_core.specs.declared.at.At.{At}
use Rattle.cg_core.specs.declared.kernel.KBody.{KBody}
use Rattle.cg_core.specs.declared.kernel.KFun.{KFun}
use Rattle.cg_core.specs.declared.kernel.Kernel.{Kernel}
use Rattle.cg_core.specs.declared.term.FieldTerm.{FieldTerm}
use Rattle.cg_core.specs.declared.term.Form.{Form}
use Rattle.cg_core.specs.declared.term.Term.{Term}
use Rattle.cg_core.specs.declared.term.Typed.{Typed}
use Rattle.cg_core.specs.Terms.{Tree, Shape, OneField, Arg, Note, arg_of, note_of, tree_of, shape_of, field_of}

-- what a kernel term stands for, and its forms and fields
abbrev pub the_term : Term Place → Tree Place
the_term = tree_of Place Place (λ p. p)

abbrev pub the_form : Form Place → Shape Place
the_form = shape_of Place Place (λ p. p)

abbrev pub the_field : FieldTerm Place → OneField Place
the_field = field_of Place Place (λ p. p)

-- what a core stands for, and its forms and fields
abbrev pub the_core : Term Typed → Tree Note
the_core = tree_of Typed Note note_of

abbrev pub the_core_form : Form Typed → Shape Note
the_core_form = shape_of Typed Note note_of

abbrev pub the_core_field : FieldTerm Typed → OneField Note
the_core_field = field_of Typed Note note_of

-- the body of a function: where its parameter is written, and its term
pub record Body : Type 0 where
  pub param : Place
  pub term : Tree Place

-- a function: its name, its type variables, its type, and its body, where it has one
pub record Function : Type 0 where
  pub at : At
  pub vars : List Bound
  pub ty : Arg
  pub body : Option Body

-- what the body of a function stands for
abbrev pub body_of : KBody → Body
body_of b = record { param = b.param; term = the_term b.term }

-- the same where there may be none
abbrev pub maybe_body_of : Option KBody → Option Body
maybe_body_of None = None
maybe_body_of (Some b) = Some (body_of b)

-- what a function stands for
abbrev pub function_of : KFun → Function
function_of f = record { at = f.at; vars = f.vars; ty = arg_of f.ty; body = maybe_body_of f.body }

-- the functions of a kernel, in the order of their signatures
abbrev pub kernel_of : Kernel → List Function
kernel_of k = map function_of k.funs
