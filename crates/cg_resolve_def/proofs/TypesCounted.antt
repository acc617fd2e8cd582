-- How many types there are in a list of written types of the code.
use Rattle.std.proofs.Common.{◌≡◌, ◌+◌, List, [], ◌∷◌, length, map, ◌∙◌, arith}
use Rattle.std.proofs.lemmas.List.{length-map}
use Rattle.cg_surface.specs.declared.written.STy.{STy}
use Rattle.cg_surface.specs.Written.{Written, Writtens, written_of, and_type, to_types, types_behind, no_types}
use Rattle.cg_resolve_def.specs.Expand.{types_length}

types_more : (before : Writtens) (ts : List Written) → types_length (types_behind before ts) ≡ types_length before + length ts
types_more before [] = omega arith
types_more before (t ∷ ts) = types_more (and_type before t) ts ∙ omega arith

pub types_counted : (ts : List STy) → types_length (to_types (map written_of ts)) ≡ length ts
unfolding to_types
types_counted ts = types_more no_types (map written_of ts) ∙ omega (arith, length-map ts written_of)
