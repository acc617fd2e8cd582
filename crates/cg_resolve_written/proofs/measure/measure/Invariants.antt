use Rattle.std.proofs.Common.{◌≤◌, map, take}
use Rattle.cg_surface.specs.Programs.{entry_of}
use Rattle.cg_resolve_def.specs.Desugar.{type_limit}
use Rattle.cg_resolve_expand.specs.Known.{known_of}
use Rattle.cg_resolve_written.specs.Measures.{greatest_part}
use Rattle.cg_resolve_written.proofs.measure.measure.Given as goal

abbrev pub invariant-loop-item : goal.invariant-loop-item
invariant-loop-item l = greatest_part (known_of l.synonyms) (map entry_of (take l.item-index l.items)) ≤ type_limit
