-- Contexts with more entries, each of which may be dropped.
use Rattle.std.specs.Prelude.{◌≡◌, IsTrue, Option, Some, None, List, [], ◌∷◌}
use Rattle.cg_base.specs.declared.kind.Kinds.{Kinds}
use Rattle.cg_base.specs.Types.{Tau}
use Rattle.cg_core.specs.Derivations.{Derivation}
use Rattle.cg_core.specs.Kernels.{Function}
use Rattle.cg_core.specs.Terms.{Tree, Note}
use Rattle.cg_typing.specs.Contexts.{Context, drops}
use Rattle.cg_typing.specs.Rules.{Derives}

module _ (vars : List Kinds) where
  -- an entry and a wider one: a present entry stays, and a gone one stays gone or is present with a type that may be dropped
  abbrev pub IsWiderEntry : Option Tau → Option Tau → Type 0
  IsWiderEntry (Some t) wide = wide ≡ Some t
  IsWiderEntry None None = Unit {0}
  IsWiderEntry None (Some t) = IsTrue (drops vars t)

  -- a context and a wider one of the same length
  abbrev pub IsWider : Context → Context → Type 0
  IsWider [] [] = Unit {0}
  IsWider (entry ∷ g) (wide ∷ h) = IsWiderEntry entry wide × IsWider g h
  IsWider _ _ = ⊥

-- some derivation types a core
pub record IsDerived (functions : List Function) (vars : List Kinds) (g : Context) (direction : Option Tau) (c : Tree Note) : Type 0 where
  pub tree : Derivation
  pub derives : Derives functions vars g tree direction c
