-- What is answered for the synonyms of a program.
use Rattle.std.specs.Prelude.{◌<◌, ◌≤◌, List, Result, Ok, Err, ⊤}
use Rattle.cg_surface.specs.Programs.{Entry}
use Rattle.cg_resolve_def.specs.Desugar.{type_limit}
use Rattle.cg_resolve_def.specs.Takes.{largest_type}
use Rattle.cg_resolve_expand.specs.Known.{AreBodies}
use Rattle.cg_resolve_expand.specs.declared.table.Synonyms.{Synonyms}
use Rattle.cg_resolve_written.specs.declared.oversize.Oversize.{Oversize}
use Rattle.cg_resolve_written.specs.declared.oversize.Oversize.TheVariants.{TooLarge, Memory}

-- no type that is written is too large, and these are the synonyms; or one is too large; or memory is wanting
abbrev pub SynonymsSay : List Entry → Result Synonyms Oversize → Type 0
SynonymsSay entries (Ok synonyms) = (largest_type entries ≤ type_limit) × AreBodies entries synonyms
SynonymsSay entries (Err TooLarge) = type_limit < largest_type entries
SynonymsSay entries (Err Memory) = ⊤
