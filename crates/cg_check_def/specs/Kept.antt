-- What is kept of a kernel that is accepted by the normal form: for each function with a body its core, and its derivation with the
-- occurrence marks.
use Rattle.std.specs.Prelude.{Option, Some, None, List, [], ◌∷◌}
use Rattle.cg_base.specs.Types.{Tau}
use Rattle.cg_core.specs.Derivations.{Derivation}
use Rattle.cg_core.specs.Kernels.{Function, Body}
use Rattle.cg_core.specs.Terms.{Tree, Note}
use Rattle.cg_check_def.specs.NormalForm.{core, tree}
use Rattle.cg_typing.specs.Parts.{taken_by, given_by}

-- the core of a body of plain typing, and its derivation with the occurrence marks
abbrev pub body_core : List Function → Tau → Tau → Option Body → Option (Tree Note)
body_core functions argument result None = None
body_core functions argument result (Some body) = Some (core functions (argument ∷ []) (Some result) body.term)

abbrev pub body_tree : List Function → Tau → Option Body → Option Derivation
body_tree functions argument None = None
body_tree functions argument (Some body) = Some (tree functions (Some argument ∷ []) (argument ∷ []) body.term)

-- the same of a function
abbrev pub function_core : List Function → Function → Option (Tree Note)
function_core functions f = body_core functions (taken_by f.ty.ty) (given_by f.ty.ty) f.body

abbrev pub function_tree : List Function → Function → Option Derivation
function_tree functions f = body_tree functions (taken_by f.ty.ty) f.body

-- both together, as the pass gives them
abbrev pub body_kept : List Function → Tau → Tau → Option Body → Option (Tree Note × Derivation)
body_kept functions argument result None = None
body_kept functions argument result (Some body) =
    Some (core functions (argument ∷ []) (Some result) body.term, tree functions (Some argument ∷ []) (argument ∷ []) body.term)

abbrev pub function_kept : List Function → Function → Option (Tree Note × Derivation)
function_kept functions f = body_kept functions (taken_by f.ty.ty) (given_by f.ty.ty) f.body
