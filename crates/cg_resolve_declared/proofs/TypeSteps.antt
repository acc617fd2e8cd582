-- The table of types with one item more.
use Rattle.std.proofs.Common.{◌≡◌, ℕ, List, [], ◌∷◌, ◌++◌, ◌∙◌, Bor, Some, None, if◌then◌else◌}
use Rattle.std.specs.BTreeMap.{BTreeMap}
use Rattle.std.specs.BTreeMap as tree
use Rattle.std.specs.Str.{bytes_eq}
use Rattle.cg_base.specs.declared.kind.Bound.{Bound}
use Rattle.cg_base.specs.declared.place.Place.{Place}
use Rattle.cg_core.specs.declared.at.At.{At}
use Rattle.cg_surface.specs.Exprs.{Expr}
use Rattle.cg_surface.specs.Patterns.{Pattern}
use Rattle.cg_surface.specs.Programs.{Entry, synonym, abstract, signature, define}
use Rattle.cg_surface.specs.Written.{Written}
use Rattle.cg_resolve_def.specs.Declared.{type_named}
use Rattle.cg_resolve_declared.specs.declared.types.DeclaredType.{DeclaredType}
use Rattle.cg_resolve_declared.specs.Tables.{find, otherwise}
use Rattle.cg_resolve_declared.specs.Views.{declared_of, AreTypes}
use Rattle.cg_resolve_declared.proofs.Firsts.{type_more, entries_more}
use Rattle.cg_resolve_declared.proofs.Tables.{otherwise_none, table_none, table_more, table_same}

pub types_none : (table : BTreeMap (Bor (List ℕ)) DeclaredType) → tree.IsEmpty table → AreTypes [] table
types_none table empty = table_none declared_of table empty

-- what is kept for a name
abbrev Keeps : BTreeMap (Bor (List ℕ)) DeclaredType → BTreeMap (Bor (List ℕ)) DeclaredType → List ℕ → DeclaredType → Type 0
Keeps table new name value = (other : List ℕ) → find new other ≡ otherwise (find table other) (if bytes_eq name other then Some value else None)

module _ (front : List Entry) (at : At) where
  pub types_synonym : (params : List At) (body : Written) (value : DeclaredType) (table new : BTreeMap (Bor (List ℕ)) DeclaredType) → AreTypes front table
      → Keeps table new at.name value → declared_of value ≡ record { params = params; body = Some body } → AreTypes (front ++ synonym at params body ∷ []) new
  types_synonym params body value table new are added is =
      table_more declared_of (type_named front) (type_named (front ++ synonym at params body ∷ [])) value (record { params = params; body = Some body }) at.name table new
      (type_more front (synonym at params body)) is are added

  pub types_abstract : (params : List At) (value : DeclaredType) (table new : BTreeMap (Bor (List ℕ)) DeclaredType) → AreTypes front table
      → Keeps table new at.name value → declared_of value ≡ record { params = params; body = None } → AreTypes (front ++ abstract at params ∷ []) new
  types_abstract params value table new are added is =
      table_more declared_of (type_named front) (type_named (front ++ abstract at params ∷ [])) value (record { params = params; body = None }) at.name table new
      (type_more front (abstract at params)) is are added

  pub types_signature : (vars : List Bound) (places : List Place) (ty : Written) (table : BTreeMap (Bor (List ℕ)) DeclaredType) → AreTypes front table → AreTypes (front ++ signature at vars places ty ∷ []) table
  types_signature vars places ty table are =
      table_same declared_of (type_named front) (type_named (front ++ signature at vars places ty ∷ [])) table (λ name. type_more front (signature at vars places ty) name ∙ otherwise_none (type_named front name)) are

  pub types_define : (param : Pattern) (body : Expr) (table : BTreeMap (Bor (List ℕ)) DeclaredType) → AreTypes front table → AreTypes (front ++ define at param body ∷ []) table
  types_define param body table are =
      table_same declared_of (type_named front) (type_named (front ++ define at param body ∷ [])) table (λ name. type_more front (define at param body) name ∙ otherwise_none (type_named front name)) are

pub ruleset type_steps = (types_none, types_signature, types_define, entries_more)
