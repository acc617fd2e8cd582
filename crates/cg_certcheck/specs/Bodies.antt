-- The pass of the second checker over functions as one step after another, and what it keeps of them.
use Rattle.std.specs.Prelude.{ℕ, ◌&&◌, Option, Some, None, Ok, List, [], ◌∷◌, drop}
use Rattle.cg_base.specs.Types.{Tau}
use Rattle.cg_cert.specs.declared.cert.CertFun.{CertFun}
use Rattle.cg_cert.specs.declared.cert.CertNode.{CertNode}
use Rattle.cg_certcheck.specs.declared.functions.Judged.{Judged as Step}
use Rattle.cg_base.specs.declared.kind.Kinds.{Kinds}
use Rattle.cg_base.specs.declared.place.Place.{Place}
use Rattle.cg_core.specs.Kernels.{Function, Body}
use Rattle.cg_core.specs.Terms.{Tree}
use Rattle.cg_certcheck_def.specs.Events.{is_over, is_named, nodes_next, funs_behind}
use Rattle.cg_certcheck_def.specs.Pass.{Out, Cursor, Got, bind, row, stands, check}
use Rattle.cg_check_pieces.specs.Bodies.{Both, maybe_both}
use Rattle.cg_typing.specs.Accepted.{kinds_of_vars}
use Rattle.cg_typing.specs.Parts.{is_arrow, taken_by, given_by, has_word_arrays}

-- ---- one function

-- what is kept of it, and behind it the functions of the certificate that are left, and the number of their next node
pub record Next : Type 0 where
  pub kept : Option Both
  pub funs : List CertFun
  pub next : ℕ

-- over these functions of a certificate
abbrev pub next_in : List CertFun → Step → Next
next_in funs s = record { kept = maybe_both s.kept; funs = drop s.at.index funs; next = s.at.next }

-- the nodes of the next function, which has this name
unfoldable pub nodes_by : List CertFun → ℕ → List ℕ → Out (List CertNode)
nodes_by funs n name = stands n (is_named funs name) (Ok (nodes_next funs))

-- a body of these types, behind which no node is left
unfoldable pub body_by : List Function → List Kinds → Tau → Tau → Cursor → Tree Place → Out Got
body_by functions vars argument gives at body =
    bind (check functions vars (Some argument ∷ []) (Some gives) at body) (λ u. stands u.at.next (is_over u.at.nodes) (Ok u))

-- the next function of a certificate, which has this name, over a body of these types
abbrev pub named_by : List Function → List Kinds → List ℕ → Tau → Tau → Tree Place → List CertFun → ℕ → Out Next
named_by functions vars name argument gives body funs n =
    bind (nodes_by funs n name) (λ nodes. bind (body_by functions vars argument gives (record { nodes = nodes; next = n }) body) (λ u.
    Ok (record { kept = Some (u.core, u.tree); funs = funs_behind funs; next = u.at.next })))

abbrev pub maybe_by : List Function → Function → Option Body → List CertFun → ℕ → Out Next
maybe_by functions f None funs n = Ok (record { kept = None; funs = funs; next = n })
maybe_by functions f (Some body) funs n =
    named_by functions (kinds_of_vars f) f.at.name (taken_by f.ty.ty) (given_by f.ty.ty) body.term funs n

abbrev pub function_by : List Function → Function → List CertFun → ℕ → Out Next
function_by functions f funs n = row n (is_arrow f.ty.ty && has_word_arrays f.ty.ty) (maybe_by functions f f.body funs n)
