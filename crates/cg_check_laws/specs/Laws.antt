-- The laws of typing, for lawful kernels: the events judge exactly what is derived with any splits, the occurrence marks serve
-- wherever any splits do, and there is one core.
use Rattle.std.specs.Prelude.{◌≡◌, ◌↔◌, ℕ, Some, None, List, [], ◌∷◌, length, map}
use Rattle.cg_base.specs.declared.kind.Kinds.{Kinds}
use Rattle.cg_base.specs.declared.place.Place.{Place}
use Rattle.cg_base.specs.Types.{Tau}
use Rattle.cg_core.specs.Derivations.{Derivation}
use Rattle.cg_core.specs.Kernels.{Function, Body}
use Rattle.cg_core.specs.Terms.{Tree, Note, erased}
use Rattle.cg_core_def.specs.Lawful.{IsLawfulTerm, IsLawfulKernel}
use Rattle.cg_typing.specs.Accepted.{IsTypedBody, IsAcceptedKernel}
use Rattle.cg_faults.specs.Events.{RulesHold, LimitsHold, body_events, kernel_events, first_failing}
use Rattle.cg_faults.specs.Fails.{Fails}
use Rattle.cg_check_def.specs.Kept.{function_core, function_tree, function_kept}
use Rattle.cg_typing.specs.Kept.{AreKept}
use Rattle.cg_check_def.specs.NormalForm.{tree}
use Rattle.cg_check_def.specs.Pass.{check_kernel, verdict}
use Rattle.cg_faults.specs.Rule.{Test}
use Rattle.cg_typing.specs.Rules.{Derives}

-- a lawful body among functions, over so many type variables, in the context of its argument
abbrev pub IsLawfulIn : List Function → ℕ → Tree Place → Type 0
IsLawfulIn functions type_variables body = IsLawfulTerm (map (λ f. length f.vars) functions) type_variables 1 body

-- a body that is derived in the context of its argument alone, checked against its result
abbrev pub IsDerivedAs : List Function → List Kinds → Tau → Tau → Derivation → Tree Note → Type 0
IsDerivedAs functions vars argument result d c = Derives functions vars (Some argument ∷ []) d (Some result) c

-- every rule of a body holds exactly where some core of it has a derivation, with any splits
abbrev pub BodiesAreJudgedExactly : Type 0
BodiesAreJudgedExactly =
    (functions : List Function) (vars : List Kinds) (argument result : Tau) (body : Body) (type_variables : ℕ) → IsLawfulIn functions type_variables body.term
    → (RulesHold (body_events functions vars argument result (Some body)) ↔ IsTypedBody functions vars argument result body.term)

-- the same of a kernel, with its signatures
abbrev pub KernelsAreJudgedExactly : Type 0
KernelsAreJudgedExactly = (functions : List Function) → IsLawfulKernel functions → (RulesHold (kernel_events functions) ↔ IsAcceptedKernel functions)

-- where any derivation types a core, the one with the occurrence marks does
abbrev pub OccurrenceMarksServe : Type 0
OccurrenceMarksServe =
    (functions : List Function) (vars : List Kinds) (argument result : Tau) (body : Tree Place) (type_variables : ℕ) → IsLawfulIn functions type_variables body
    → (c : Tree Note) (d : Derivation) → erased c ≡ body → IsDerivedAs functions vars argument result d c
    → IsDerivedAs functions vars argument result (tree functions (Some argument ∷ []) (argument ∷ []) body) c

-- a body has at most one core
abbrev pub OneCore : Type 0
OneCore =
    (functions : List Function) (vars : List Kinds) (argument result : Tau) (body : Tree Place) (c c' : Tree Note) (d d' : Derivation)
    → erased c ≡ body → erased c' ≡ body
    → IsDerivedAs functions vars argument result d c → IsDerivedAs functions vars argument result d' c' → c ≡ c'

-- a kernel has at most one fault: the first rule that fails, or the limit on types, at one place
abbrev pub OneFault : Type 0
OneFault = (functions : List Function) (t u : Test) (p q : Place) → Fails functions t p → Fails functions u q → (t ≡ u) × (p ≡ q)

-- no event fails exactly where the kernel is accepted and no type passes the limit
abbrev pub AcceptedWithinLimits : Type 0
AcceptedWithinLimits =
    (functions : List Function) → IsLawfulKernel functions
    → (first_failing (kernel_events functions) ≡ None ↔ IsAcceptedKernel functions × LimitsHold (kernel_events functions))

-- of a lawful kernel that is accepted, the cores of plain typing and the derivations with the occurrence marks may be kept
abbrev pub NormalFormsAreKept : Type 0
NormalFormsAreKept =
    (functions : List Function) → IsLawfulKernel functions → IsAcceptedKernel functions
    → AreKept functions functions (map (function_core functions) functions) (map (function_tree functions) functions)

-- the pass answers the first event that fails; and where none does, the core of each body and its derivation with the occurrence marks
abbrev pub PassAnswersTheFirstFault : Type 0
PassAnswersTheFirstFault =
    (functions : List Function) → IsLawfulKernel functions
    → check_kernel functions ≡ verdict (first_failing (kernel_events functions)) (map (function_kept functions) functions)
