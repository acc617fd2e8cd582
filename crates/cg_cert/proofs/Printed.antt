-- What is printed of a checked source can be read.
use Rattle.std.proofs.Common.{List, [], ◌∷◌, Option, Some, None, map, refl}
use Rattle.std.proofs.Math.Logic.{∥∥₁_elim}
use Rattle.std.proofs.Props.{props}
use Rattle.cg_cert.specs.Certificates.{functions_of}
use Rattle.cg_cert.specs.Laws.{AreNamed, IsMarked, AreMarkedTrees, PrintedIsRead, CheckedIsRead}
use Rattle.cg_cert.specs.Texts.{AreMarked, AreNodes, AreFunctions}
use Rattle.cg_cert.specs.declared.cert.CertNode.{CertNode}
use Rattle.cg_core.specs.declared.derivation.Mark.{Mark}
use Rattle.cg_core.specs.Derivations.{Derivation}
use Rattle.cg_core.specs.Kernels.{Function, kernel_of}
use Rattle.cg_typing.specs.Holds.{kernel_in, cores_in, trees_in}
use Rattle.cg_typing.specs.Kept.{maybe_core, maybe_tree}
use Rattle.cg_cert.proofs.Marked.{kept}

functions_stand : (fs : List Function) (trees : List (Option Derivation)) → AreNamed fs → AreMarkedTrees trees → AreFunctions (functions_of fs trees)
functions_stand [] trees h k = tt
functions_stand (f ∷ fs) [] h k = tt
functions_stand (f ∷ fs) (None ∷ trees) h k = functions_stand fs trees h.1 k.1
functions_stand (f ∷ fs) (Some tree ∷ trees) h k = (h.0, k.0, functions_stand fs trees h.1 k.1)

pub printed : PrintedIsRead
printed functions trees h k = (refl, functions_stand functions trees h k)

-- there is one proof of it at most
marked_once : (strings : List (List Mark)) → IsProp (AreMarked strings)
marked_once [] = hlevel props
marked_once ([] ∷ strings) = hlevel props
marked_once ((m ∷ ms) ∷ strings) = marked_once strings

nodes_once : (ns : List CertNode) → IsProp (AreNodes ns)
nodes_once [] = hlevel props
nodes_once (n ∷ ns) = hlevel (props, marked_once n.marks, nodes_once ns)

tree_once : (tree : Option Derivation) → IsProp (IsMarked tree)
tree_once None = hlevel props
tree_once (Some tree) = nodes_once _

trees_once : (trees : List (Option Derivation)) → IsProp (AreMarkedTrees trees)
trees_once [] = hlevel props
trees_once (tree ∷ trees) = hlevel (props, tree_once tree, trees_once trees)

pub checked_printed : CheckedIsRead
checked_printed checked h =
    let functions = kernel_of (kernel_in checked) in
    let trees = map maybe_tree (trees_in checked) in
    printed functions trees h (∥∥₁_elim checked.kept (trees_once trees) (kept functions functions (map maybe_core (cores_in checked)) trees))
