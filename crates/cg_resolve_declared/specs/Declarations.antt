-- The items of a program, beside tables of what they declare.
use Rattle.std.specs.Prelude.{List}
use Rattle.cg_surface.specs.Programs.{Entry}
use Rattle.cg_resolve_declared.specs.declared.declarations.Declarations.{Declarations}
use Rattle.cg_resolve_declared.specs.Views.{entries_in, AreTypes, AreFunctions, AreDefinitions}

-- the items
abbrev pub entries_of : Declarations → List Entry
entries_of declarations = entries_in declarations.items.now

-- the tables have what the items declare
pub record IsIndexed (declarations : Declarations) : Type 0 where
  pub types : AreTypes (entries_of declarations) declarations.types
  pub functions : AreFunctions (entries_of declarations) declarations.functions
  pub definitions : AreDefinitions (entries_of declarations) declarations.definitions
