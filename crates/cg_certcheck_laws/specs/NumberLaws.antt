-- What the number of a node in C2 and C3 says: of the certificate and all others, and not of how it is judged.
use Rattle.std.specs.Prelude.{◌≡◌, ℕ, zero, suc, ◌+◌, ◌≤◌, Option, Some, List, [], ◌∷◌, ◌++◌, map, take, length, ⊤}
use Rattle.cg_cert.specs.declared.cert.Cert.{Cert}
use Rattle.cg_cert.specs.declared.cert.CertFun.{CertFun}
use Rattle.cg_cert.specs.declared.cert.CertNode.{CertNode}
use Rattle.cg_cert.specs.declared.fault.CertFault.{CertFault}
use Rattle.cg_cert.specs.declared.fault.CertFault.TheVariants.{C2, C3}
use Rattle.cg_core.specs.Kernels.{Function}
use Rattle.cg_core_def.specs.Lawful.{IsLawfulKernel}
use Rattle.cg_certcheck_def.specs.Events.{cert_events, first_failing}
use Rattle.cg_certcheck_laws.specs.Laws.{SpellsDerivation}

-- the nodes of a certificate, through all its functions: node 1 is the first of them
abbrev pub all_nodes : List CertFun → List CertNode
all_nodes [] = []
all_nodes (f ∷ funs) = f.nodes ++ all_nodes funs

-- two certificates have the same first nodes, so many or all, whatever functions these stand in
abbrev pub SameNodes : ℕ → Cert → Cert → Type 0
SameNodes k cert other = take k (all_nodes cert.funs) ≡ take k (all_nodes other.funs)

-- C2 at node k: no certificate with the same first k nodes spells a derivation
abbrev pub BrokenRow : Type 0
BrokenRow = (functions : List Function) (cert : Cert) (k : ℕ) → IsLawfulKernel functions → first_failing (cert_events functions cert) ≡ Some (C2 k)
    → (other : Cert) → SameNodes k cert other → SpellsDerivation functions other → ⊥

-- a line of a certificate's text behind its first line: a function's name, a node, or the end
pub data Line : Type 0 where
  of_function : (name : List ℕ) → Line
  of_node : (node : CertNode) → Line
  the_end : Line

abbrev pub lines : List CertFun → List Line
lines [] = the_end ∷ []
lines (f ∷ funs) = of_function f.name ∷ (map of_node f.nodes ++ lines funs)

-- the lines in front of the node that has so many nodes before it, or all where there is none
abbrev pub lines_before : ℕ → List Line → List Line
lines_before k [] = []
lines_before k (of_function name ∷ later) = of_function name ∷ lines_before k later
lines_before k (the_end ∷ later) = the_end ∷ lines_before k later
lines_before zero (of_node node ∷ later) = []
lines_before (suc k) (of_node node ∷ later) = of_node node ∷ lines_before k later

-- two certificates have the same lines in front of that node; where one of them has no such node, they are the same
abbrev pub SameLines : ℕ → Cert → Cert → Type 0
SameLines k cert other = lines_before k (lines cert.funs) ≡ lines_before k (lines other.funs)

-- C3 at node k + 1: no certificate with the same lines in front of its node k + 1 spells a derivation
abbrev pub OutOfPlace : Type 0
OutOfPlace = (functions : List Function) (cert : Cert) (k : ℕ) → IsLawfulKernel functions → first_failing (cert_events functions cert) ≡ Some (C3 (suc k))
    → (other : Cert) → SameLines k cert other → SpellsDerivation functions other → ⊥

-- the number of a fault is that of a node, or one more than all of them have
abbrev pub IsInRange : ℕ → List CertNode → Option CertFault → Type 0
IsInRange first nodes (Some (C2 k)) = (first ≤ k) × (k ≤ first + length nodes)
IsInRange first nodes (Some (C3 k)) = (first ≤ k) × (k ≤ first + length nodes)
IsInRange first nodes fault = ⊤

-- in C2 and C3 it is from 1 to one more than the number of nodes
abbrev pub NumbersAreInRange : Type 0
NumbersAreInRange = (functions : List Function) (cert : Cert) → IsLawfulKernel functions → IsInRange 1 (all_nodes cert.funs) (first_failing (cert_events functions cert))
