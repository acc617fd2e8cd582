-- What is kept of a source that is accepted: its kernel, and for each function with a body a core and a derivation.
use Rattle.std.specs.Prelude.{◌≡◌, IsTrue, Option, Some, None, List, [], ◌∷◌, ⊤}
use Rattle.cg_base.specs.declared.kind.Kinds.{Kinds}
use Rattle.cg_base.specs.declared.place.Place.{Place}
use Rattle.cg_base.specs.Types.{Tau, arrow}
use Rattle.cg_core.specs.declared.derivation.Deriv.{Deriv}
use Rattle.cg_core.specs.declared.term.Term.{Term}
use Rattle.cg_core.specs.declared.term.Typed.{Typed}
use Rattle.cg_core.specs.Derivations.{Derivation, derivation_of}
use Rattle.cg_core.specs.Kernels.{Function, Body, the_core}
use Rattle.cg_core.specs.Terms.{Tree, Note, erased}
use Rattle.cg_typing.specs.Accepted.{kinds_of_vars}
use Rattle.cg_typing.specs.Parts.{has_word_arrays}
use Rattle.cg_typing.specs.Rules.{Derives}

-- what is kept stands for these, where there is something
abbrev pub maybe_core : Option (Term Typed) → Option (Tree Note)
maybe_core None = None
maybe_core (Some t) = Some (the_core t)

abbrev pub maybe_tree : Option Deriv → Option Derivation
maybe_tree None = None
maybe_tree (Some d) = Some (derivation_of d)

-- a core of the body, and a derivation of it, in the context of the argument alone, checked against the result
pub record IsKeptBody (functions : List Function) (vars : List Kinds) (argument result : Tau) (body : Tree Place) (core : Tree Note) (tree : Derivation) : Type 0 where
  pub erases : erased core ≡ body
  pub derives : Derives functions vars (Some argument ∷ []) tree (Some result) core

-- both are there exactly where there is a body
abbrev pub IsKeptMaybe : List Function → List Kinds → Tau → Tau → Option Body → Option (Tree Note) → Option Derivation → Type 0
IsKeptMaybe functions vars argument result None None None = ⊤
IsKeptMaybe functions vars argument result (Some body) (Some core) (Some tree) = IsKeptBody functions vars argument result body.term core tree
IsKeptMaybe functions vars argument result _ _ _ = ⊥

-- a function's type is an arrow that is written with arrays of words alone, and its body is kept
pub record IsKept (functions : List Function) (f : Function) (core : Option (Tree Note)) (tree : Option Derivation) : Type 0 where
  pub argument : Tau
  pub result : Tau
  pub is_arrow : f.ty.ty ≡ arrow argument result
  pub arrays : IsTrue (has_word_arrays f.ty.ty)
  pub kept : IsKeptMaybe functions (kinds_of_vars f) argument result f.body core tree

-- one core and one derivation for each function
abbrev pub AreKept : List Function → List Function → List (Option (Tree Note)) → List (Option Derivation) → Type 0
AreKept functions [] [] [] = ⊤
AreKept functions (f ∷ fs) (c ∷ cs) (d ∷ ds) = IsKept functions f c d × AreKept functions fs cs ds
AreKept functions _ _ _ = ⊥
