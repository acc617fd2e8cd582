use Rattle.std.proofs.Common.{◌≡◌, map, take}
use Rattle.cg_cgen_def.specs.Bodies.{locals_from}
use Rattle.cg_cgen.specs.Iterators.{kind_type, types_of}
use Rattle.cg_cgen.proofs.locals.declarations.Given as goal

abbrev pub invariant-loop-i : goal.invariant-loop-i
invariant-loop-i l = l.locals ≡ locals_from 0 (map (kind_type (types_of l.types)) (take l.i l.kinds))
