-- What holds of all certificates of a lawful kernel.
use Rattle.std.specs.Prelude.{◌≡◌, ◌↔◌, Option, Some, None, List, [], ◌∷◌, map}
use Rattle.cg_cert.specs.Certificates.{certificate}
use Rattle.cg_cert.specs.declared.cert.Cert.{Cert}
use Rattle.cg_cert.specs.declared.cert.CertFun.{CertFun}
use Rattle.cg_check_def.specs.NormalForm.{core}
use Rattle.cg_core.specs.Derivations.{Derivation}
use Rattle.cg_core.specs.Kernels.{Function, Body}
use Rattle.cg_core.specs.Terms.{Tree, Note}
use Rattle.cg_faults.specs.Fails.{AreTypesWithin}
use Rattle.cg_core_def.specs.Lawful.{IsLawfulKernel}
use Rattle.cg_certcheck_def.specs.Events.{AllHold, first_failing, cert_events, nodes_next, funs_behind}
use Rattle.cg_certcheck_def.specs.Pass.{Kept, check_cert, verdict}
use Rattle.cg_certcheck_def.specs.Reads.{tree_at}
use Rattle.cg_check_pieces.specs.Bodies.{core_in, tree_in}
use Rattle.cg_typing.specs.Kept.{AreKept}
use Rattle.cg_typing.specs.Parts.{taken_by, given_by}

-- a certificate spells a derivation of a kernel: it lists derivations, with any splits, of cores of its bodies
pub record SpellsDerivation (functions : List Function) (cert : Cert) : Type 0 where
  pub cores : List (Option (Tree Note))
  pub trees : List (Option Derivation)
  pub kept : AreKept functions functions cores trees
  pub lists : cert ≡ certificate functions trees

-- no event fails exactly where the certificate spells a derivation of the kernel, and no type of a node passes the limit
abbrev pub EventsDecide : Type 0
EventsDecide = (functions : List Function) (cert : Cert) → IsLawfulKernel functions
    → AllHold (cert_events functions cert) ↔ (SpellsDerivation functions cert × AreTypesWithin functions)

-- what the pass keeps of functions where no event fails: the core of plain typing, and the derivation that the nodes spell
abbrev pub body_kept : List Function → Function → Option Body → List CertFun → (List CertFun → List Kept) → List Kept
body_kept functions f None funs later = None ∷ later funs
body_kept functions f (Some body) funs later =
    Some (core functions (taken_by f.ty.ty ∷ []) (Some (given_by f.ty.ty)) body.term, tree_at (nodes_next funs) body.term) ∷ later (funs_behind funs)

abbrev pub all_kept : List Function → List Function → List CertFun → List Kept
all_kept functions [] funs = []
all_kept functions (f ∷ fs) funs = body_kept functions f f.body funs (λ rest. all_kept functions fs rest)

-- the pass answers the first event that fails, and where none does what it keeps
abbrev pub PassAnswersTheFirstFault : Type 0
PassAnswersTheFirstFault = (functions : List Function) (cert : Cert)
    → check_cert functions cert ≡ verdict (first_failing (cert_events functions cert)) (all_kept functions functions cert.funs)

-- where no event fails, what the pass keeps is what the certificate lists: derivations of cores of the bodies
abbrev pub KeptIsListed : Type 0
KeptIsListed = (functions : List Function) (cert : Cert) → IsLawfulKernel functions → AllHold (cert_events functions cert)
    → AreKept functions functions (map core_in (all_kept functions functions cert.funs)) (map tree_in (all_kept functions functions cert.funs))
    × (cert ≡ certificate functions (map tree_in (all_kept functions functions cert.funs)))
