use Rattle.std.proofs.Common.{map}
use Rattle.cg_surface.specs.Programs.{entry_of}
use Rattle.cg_resolve_expand.specs.Known.{known_of}
use Rattle.cg_resolve_written.proofs.Builds.{IsBuilt}
use Rattle.cg_resolve_written.proofs.build.synonyms.Given as goal

abbrev pub invariant-loop-position : goal.invariant-loop-position
invariant-loop-position l = IsBuilt (map entry_of l.items) l.order l.position-index (known_of l.synonyms)
