-- Which kernels are accepted: each signature's type is an arrow that is written with arrays of words alone, and each body
-- has a core with a derivation.
use Rattle.std.specs.Prelude.{◌≡◌, IsTrue, Option, Some, None, List, [], ◌∷◌, map, ⊤}
use Rattle.std.specs.List.{All}
use Rattle.cg_base.specs.declared.kind.Kinds.{Kinds}
use Rattle.cg_base.specs.declared.place.Place.{Place}
use Rattle.cg_base.specs.Types.{Tau, arrow}
use Rattle.cg_core.specs.Derivations.{Derivation}
use Rattle.cg_core.specs.Kernels.{Function, Body}
use Rattle.cg_core.specs.Terms.{Tree, Note, erased}
use Rattle.cg_typing.specs.Parts.{has_word_arrays}
use Rattle.cg_typing.specs.Rules.{Derives}

-- the kinds of a function's type variables
abbrev pub kinds_of_vars : Function → List Kinds
kinds_of_vars f = map (λ b. b.kinds) f.vars

-- a core of the body, and a derivation of it, in the context of the argument alone, checked against the result
pub record IsTypedBody (functions : List Function) (vars : List Kinds) (argument result : Tau) (body : Tree Place) : Type 0 where
  pub core : Tree Note
  pub erases : erased core ≡ body
  pub tree : Derivation
  pub derives : Derives functions vars (Some argument ∷ []) tree (Some result) core

abbrev pub IsTypedMaybe : List Function → List Kinds → Tau → Tau → Option Body → Type 0
IsTypedMaybe functions vars argument result None = ⊤
IsTypedMaybe functions vars argument result (Some body) = IsTypedBody functions vars argument result body.term

-- a function is accepted: its signature (T4 and T14), and its body
pub record IsAcceptedFunction (functions : List Function) (f : Function) : Type 0 where
  pub argument : Tau
  pub result : Tau
  pub is_arrow : f.ty.ty ≡ arrow argument result
  pub arrays : IsTrue (has_word_arrays f.ty.ty)
  pub typed : IsTypedMaybe functions (kinds_of_vars f) argument result f.body

-- a kernel is accepted
abbrev pub IsAcceptedKernel : List Function → Type 0
IsAcceptedKernel functions = All (IsAcceptedFunction functions) functions
