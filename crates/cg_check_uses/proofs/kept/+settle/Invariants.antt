use Rattle.std.proofs.Common.{◌≡◌, ◌++◌, map, take, drop}
use Rattle.cg_core.specs.Derivations.{derivation_of}
use Rattle.cg_check_uses.specs.Parted.{settled_from}
use Rattle.cg_check_uses.proofs.kept.+settle.Given as goal

abbrev pub invariant-settle_behind-loop-i : goal.invariant-settle_behind-loop-i
invariant-settle_behind-loop-i l =
    goal.unvisited-settle_behind-loop-i l
    × (map derivation_of l.parts
    ≡ take l.i (settled_from l.kept.items l.first (map derivation_of l.initial.parts)) ++ drop l.i (map derivation_of l.initial.parts))
