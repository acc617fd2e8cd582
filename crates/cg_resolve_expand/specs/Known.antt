-- What a table of synonyms says of names.
use Rattle.std.specs.Prelude.{◌≡◌, List}
use Rattle.std.specs.Option.{option_map}
use Rattle.cg_base.specs.Types.{type_of}
use Rattle.cg_surface.specs.Programs.{Entry}
use Rattle.cg_resolve_declared.specs.Tables.{find}
use Rattle.cg_resolve_def.specs.Expand.{Bodies, bodies}
use Rattle.cg_resolve_expand.specs.declared.table.Synonyms.{Synonyms}

abbrev pub known_of : Synonyms → Bodies
known_of synonyms = λ n. option_map type_of (find synonyms.bodies n)

-- these are what the synonyms of the program are for
abbrev pub AreBodies : List Entry → Synonyms → Type 0
AreBodies entries synonyms = known_of synonyms ≡ bodies entries
