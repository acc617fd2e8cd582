-- The certificate of a kernel with a derivation for each function that has a body.
use Rattle.std.specs.Prelude.{Option, Some, None, List, [], ◌∷◌, ◌++◌}
use Rattle.cg_cert.specs.declared.cert.Cert.{Cert}
use Rattle.cg_cert.specs.declared.cert.CertFun.{CertFun}
use Rattle.cg_cert.specs.declared.cert.CertNode.{CertNode}
use Rattle.cg_core.specs.Derivations.{Derivation, Derivations, derivation, done, part}
use Rattle.cg_core.specs.Kernels.{Function}

-- the nodes of a derivation, a node before its parts, and the parts in order
abbrev mutual
  pub nodes_of : Derivation → List CertNode
  nodes_of (derivation node marks parts) = record { node = node; marks = marks } ∷ nodes_in parts

  pub nodes_in : Derivations → List CertNode
  nodes_in done = []
  nodes_in (part d ds) = nodes_of d ++ nodes_in ds

-- a function for each derivation, in the order of the signatures
abbrev pub functions_of : List Function → List (Option Derivation) → List CertFun
functions_of [] trees = []
functions_of (f ∷ fs) [] = []
functions_of (f ∷ fs) (None ∷ trees) = functions_of fs trees
functions_of (f ∷ fs) (Some tree ∷ trees) = record { name = f.at.name; nodes = nodes_of tree } ∷ functions_of fs trees

abbrev pub certificate : List Function → List (Option Derivation) → Cert
certificate functions trees = record { funs = functions_of functions trees }
