-- What names mean beside variables.
use Rattle.std.specs.Prelude.{ℕ, List, None}
use Rattle.cg_base.specs.declared.fun.Fun.{Fun}
use Rattle.cg_base.specs.declared.place.Place.{Place}
use Rattle.cg_core.specs.Terms.{Arg}
use Rattle.cg_surface.specs.Written.{Written, Writtens}
use Rattle.cg_surface.specs.Programs.{Entry}
use Rattle.cg_resolve_declared.specs.Declarations.{entries_of, IsIndexed}
use Rattle.cg_resolve_declared.specs.Tables.{texts}
use Rattle.cg_resolve_def.specs.Declared.{library, looked_up, function_named}
use Rattle.cg_resolve_def.specs.Expand.{bodies}
use Rattle.cg_resolve_def.specs.Terms as desugar
use Rattle.cg_resolve_def.specs.Terms.{Term}
use Rattle.cg_resolve_expand.specs.Known.{AreBodies}
use Rattle.cg_resolve_nodes.specs.declared.names.Names.{Names}

-- the program, and the type variables
unfoldable pub entries_in : Names → List Entry
entries_in names = entries_of names.declared.now

unfoldable pub vars_in : Names → List (List ℕ)
vars_in names = texts names.vars.now

-- the tables are those of the program
unfoldable pub AreNames : Names → Type 0
AreNames names = IsIndexed names.declared.now × AreBodies (entries_of names.declared.now) names.synonyms.now

module _ (names : Names) where
  abbrev pub written_in : Written → Arg
  written_in = desugar.written (entries_in names) (bodies (entries_in names)) (vars_in names)

  abbrev pub named_function : List ℕ → Fun
  named_function n = desugar.function_of (looked_up library n) (function_named (entries_in names) n)

  abbrev pub function_in : Place → List ℕ → Writtens → Term
  function_in p n ts = desugar.mention (entries_in names) (bodies (entries_in names)) (vars_in names) p n ts None
