use Rattle.std.proofs.Common.{◌≡◌, map, take}
use Rattle.cg_cmachine_layout.specs.Tables.{slices}
use Rattle.cg_cmachine_layout.proofs.circles.declared.Given as goal

abbrev pub invariant-loop-s : goal.invariant-loop-s
invariant-loop-s l = slices l.members.items ≡ map (λ s. s.members) (take l.s-index l.structs)
