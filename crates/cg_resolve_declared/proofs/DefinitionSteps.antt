-- The table of definitions with one item more.
use Rattle.std.proofs.Common.{◌≡◌, ℕ, List, [], ◌∷◌, ◌++◌, ◌∙◌, Bor, Some, None, if◌then◌else◌}
use Rattle.std.specs.BTreeMap.{BTreeMap}
use Rattle.std.specs.BTreeMap as tree
use Rattle.std.specs.Str.{bytes_eq}
use Rattle.cg_base.specs.declared.kind.Bound.{Bound}
use Rattle.cg_base.specs.declared.place.Place.{Place}
use Rattle.cg_core.specs.declared.at.At.{At}
use Rattle.cg_surface.specs.Exprs.{Expr}
use Rattle.cg_surface.specs.Patterns.{Pattern}
use Rattle.cg_surface.specs.Programs.{Entry, synonym, abstract, signature, define}
use Rattle.cg_surface.specs.Written.{Written}
use Rattle.cg_resolve_def.specs.Declared.{definition_named}
use Rattle.cg_resolve_declared.specs.declared.declarations.Definition.{Definition}
use Rattle.cg_resolve_declared.specs.Tables.{find, otherwise}
use Rattle.cg_resolve_declared.specs.Views.{defined_of, AreDefinitions}
use Rattle.cg_resolve_declared.proofs.Firsts.{definition_more, entries_more}
use Rattle.cg_resolve_declared.proofs.Tables.{otherwise_none, table_none, table_more, table_same}

pub definitions_none : (table : BTreeMap (Bor (List ℕ)) Definition) → tree.IsEmpty table → AreDefinitions [] table
definitions_none table empty = table_none defined_of table empty

-- what is kept for a name
abbrev Keeps : BTreeMap (Bor (List ℕ)) Definition → BTreeMap (Bor (List ℕ)) Definition → List ℕ → Definition → Type 0
Keeps table new name value = (other : List ℕ) → find new other ≡ otherwise (find table other) (if bytes_eq name other then Some value else None)

module _ (front : List Entry) (at : At) where
  pub definitions_define : (param : Pattern) (body : Expr) (value : Definition) (table new : BTreeMap (Bor (List ℕ)) Definition) → AreDefinitions front table
      → defined_of value ≡ record { param = param; body = body } → Keeps table new at.name value → AreDefinitions (front ++ define at param body ∷ []) new
  definitions_define param body value table new are is added =
      table_more defined_of (definition_named front) (definition_named (front ++ define at param body ∷ [])) value (record { param = param; body = body }) at.name table new
      (definition_more front (define at param body)) is are added

  pub definitions_signature : (vars : List Bound) (places : List Place) (ty : Written) (table : BTreeMap (Bor (List ℕ)) Definition) → AreDefinitions front table → AreDefinitions (front ++ signature at vars places ty ∷ []) table
  definitions_signature vars places ty table are =
      table_same defined_of (definition_named front) (definition_named (front ++ signature at vars places ty ∷ [])) table (λ name. definition_more front (signature at vars places ty) name ∙ otherwise_none (definition_named front name)) are

  pub definitions_synonym : (params : List At) (body : Written) (table : BTreeMap (Bor (List ℕ)) Definition) → AreDefinitions front table → AreDefinitions (front ++ synonym at params body ∷ []) table
  definitions_synonym params body table are =
      table_same defined_of (definition_named front) (definition_named (front ++ synonym at params body ∷ [])) table (λ name. definition_more front (synonym at params body) name ∙ otherwise_none (definition_named front name)) are

  pub definitions_abstract : (params : List At) (table : BTreeMap (Bor (List ℕ)) Definition) → AreDefinitions front table → AreDefinitions (front ++ abstract at params ∷ []) table
  definitions_abstract params table are =
      table_same defined_of (definition_named front) (definition_named (front ++ abstract at params ∷ [])) table (λ name. definition_more front (abstract at params) name ∙ otherwise_none (definition_named front name)) are

pub ruleset definition_steps = (definitions_none, definitions_signature, definitions_synonym, definitions_abstract, entries_more)
