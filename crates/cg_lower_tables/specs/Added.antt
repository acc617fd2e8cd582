-- Which structs are added for a type (docs/LANGUAGE.md, "The C of instances").
use Rattle.std.specs.Prelude.{List, [], ◌∷◌, ◌++◌, if◌then◌else◌}
use Rattle.cg_base.specs.declared.kind.Sigil.TheVariants.{U}
use Rattle.cg_base.specs.Types.{Tau, variant, fields, Parts, end, part}
use Rattle.cg_lower_def.specs.CTypes.{form}
use Rattle.cg_lower_def.specs.Structs.{is_in}
use Rattle.cg_lower_tables.specs.Plain.{plain}

-- one struct more, if there is none of its form
abbrev pub with_struct : List Tau → Tau → List Tau
with_struct table t = if is_in table (form t) then table else table ++ t ∷ []

-- the structs of a type and of all types in it, each behind those that are its members, where there are none
unfoldable mutual
  pub added : Tau → List Tau → List Tau
  added (variant ps) table = with_struct (added_parts ps table) (plain (variant ps))
  added (fields ps sigil) table = with_struct (added_parts ps table) (plain (fields ps U))
  added t table = table

  pub added_parts : Parts → List Tau → List Tau
  added_parts end table = table
  added_parts (part x t taken ps) table = added_parts ps (added t table)
