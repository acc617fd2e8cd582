-- The table of functions with one item more.
use Rattle.std.proofs.Common.{◌≡◌, ℕ, ◌+◌, List, [], ◌∷◌, ◌++◌, ap, ◌∙◌, arith, Bor, Some, None, if◌then◌else◌}
use Rattle.std.specs.BTreeMap.{BTreeMap}
use Rattle.std.specs.BTreeMap as tree
use Rattle.std.specs.Str.{bytes_eq}
use Rattle.cg_base.specs.declared.kind.Bound.{Bound}
use Rattle.cg_base.specs.declared.place.Place.{Place}
use Rattle.cg_core.specs.declared.at.At.{At}
use Rattle.cg_surface.specs.Exprs.{Expr}
use Rattle.cg_surface.specs.Patterns.{Pattern}
use Rattle.cg_surface.specs.Programs.{Entry, synonym, abstract, signature, define}
use Rattle.cg_surface.specs.Written.{Written}
use Rattle.cg_resolve_def.specs.Declared.{function_named}
use Rattle.cg_resolve_declared.specs.declared.functions.DeclaredFunction.{DeclaredFunction}
use Rattle.cg_resolve_declared.specs.Tables.{find, otherwise}
use Rattle.cg_resolve_declared.specs.Views.{function_of, AreFunctions, signatures_in}
use Rattle.cg_resolve_declared.proofs.Firsts.{function_more, signatures_more, entries_more}
use Rattle.cg_resolve_declared.proofs.Tables.{otherwise_none, table_none, table_more, table_same}

pub functions_none : (table : BTreeMap (Bor (List ℕ)) DeclaredFunction) → tree.IsEmpty table → AreFunctions [] table
functions_none table empty = table_none function_of table empty

-- the position of the next function and the table
abbrev Stands : List Entry → ℕ → BTreeMap (Bor (List ℕ)) DeclaredFunction → Type 0
Stands entries next table = (next ≡ signatures_in entries) × AreFunctions entries table

module _ (front : List Entry) (at : At) (position : ℕ) (is : position ≡ signatures_in front) (table : BTreeMap (Bor (List ℕ)) DeclaredFunction) (are : AreFunctions front table) where
  pub functions_signature : (vars : List Bound) (places : List Place) (ty : Written) (value : DeclaredFunction) (new : BTreeMap (Bor (List ℕ)) DeclaredFunction) (next : ℕ)
      → ((other : List ℕ) → find new other ≡ otherwise (find table other) (if bytes_eq at.name other then Some value else None))
      → function_of value ≡ record { position = position; vars = vars } → next ≡ position + 1
      → Stands (front ++ signature at vars places ty ∷ []) next new
  functions_signature vars places ty value new next added made one = (
    let more : signatures_in (front ++ signature at vars places ty ∷ []) ≡ signatures_in front + 1 = signatures_more front (signature at vars places ty) in omega arith,
    table_more function_of (function_named front) (function_named (front ++ signature at vars places ty ∷ [])) value (record { position = signatures_in front; vars = vars }) at.name table new
        (function_more front (signature at vars places ty)) (made ∙ ap (λ n. record { position = n; vars = vars }) is) are added,
  )

  pub functions_synonym : (params : List At) (body : Written) → Stands (front ++ synonym at params body ∷ []) position table
  functions_synonym params body = (
    let more : signatures_in (front ++ synonym at params body ∷ []) ≡ signatures_in front + 0 = signatures_more front (synonym at params body) in omega arith,
    table_same function_of (function_named front) (function_named (front ++ synonym at params body ∷ [])) table (λ name. function_more front (synonym at params body) name ∙ otherwise_none (function_named front name)) are,
  )

  pub functions_abstract : (params : List At) → Stands (front ++ abstract at params ∷ []) position table
  functions_abstract params = (
    let more : signatures_in (front ++ abstract at params ∷ []) ≡ signatures_in front + 0 = signatures_more front (abstract at params) in omega arith,
    table_same function_of (function_named front) (function_named (front ++ abstract at params ∷ [])) table (λ name. function_more front (abstract at params) name ∙ otherwise_none (function_named front name)) are,
  )

  pub functions_define : (param : Pattern) (body : Expr) → Stands (front ++ define at param body ∷ []) position table
  functions_define param body = (
    let more : signatures_in (front ++ define at param body ∷ []) ≡ signatures_in front + 0 = signatures_more front (define at param body) in omega arith,
    table_same function_of (function_named front) (function_named (front ++ define at param body ∷ [])) table (λ name. function_more front (define at param body) name ∙ otherwise_none (function_named front name)) are,
  )

pub ruleset function_steps = (functions_none, functions_synonym, functions_abstract, functions_define, entries_more)
