-- The names that are declared behind an item, and the faults of a definition.
use Rattle.std.specs.Prelude.{List, [], ◌∷◌, ◌++◌}
use Rattle.cg_core.specs.declared.at.At.{At}
use Rattle.cg_surface.specs.Exprs.{Expr}
use Rattle.cg_surface.specs.Patterns.{Pattern}
use Rattle.cg_surface.specs.Programs.{Entry}
use Rattle.cg_resolve_def.specs.Declared.{function_named}
use Rattle.cg_resolve_def.specs.Faults.{NameFault, Before, beforehand, declared_with, bound, pattern_faults, vars_named, expr_faults}
use Rattle.cg_resolve_names.specs.declared.items.Behind.{Behind}
use Rattle.cg_resolve_names.specs.Scopes.{SameNames}

-- these are the names that are declared beforehand and those of the scopes
pub record IsBehind (before : Before) (behind : Behind) : Type 0 where
  pub types : SameNames (beforehand.types ++ behind.types) before.types
  pub signatures : SameNames (beforehand.signatures ++ behind.signatures) before.signatures
  pub definitions : SameNames behind.definitions before.definitions

-- what is declared before an item behind these
abbrev pub declared_before : Before → List Entry → Before
declared_before before [] = before
declared_before before (e ∷ front) = declared_before (declared_with before e) front

-- the faults of the parameter and the body of a definition
abbrev pub definition_faults : List Entry → At → Pattern → Expr → List NameFault
definition_faults entries at param body = pattern_faults param ++ expr_faults entries (vars_named (function_named entries at.name)) (bound param) body
