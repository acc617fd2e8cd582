use Rattle.std.proofs.Common.{◌≤◌, map, take}
use Rattle.cg_surface.specs.Written.{written_of, to_types}
use Rattle.cg_resolve_def.specs.Desugar.{type_limit}
use Rattle.cg_resolve_expand.specs.Known.{known_of}
use Rattle.cg_resolve_written.specs.Sizes.{greatest_of}
use Rattle.cg_resolve_written.proofs.measure.measure_types.Given as goal

abbrev pub invariant-loop-ty : goal.invariant-loop-ty
invariant-loop-ty l = greatest_of (known_of l.synonyms) (to_types (map written_of (take l.ty-index l.ty-items))) ≤ type_limit
