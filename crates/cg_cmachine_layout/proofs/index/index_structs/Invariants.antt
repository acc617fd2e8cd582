use Rattle.std.proofs.Common.{map, take}
use Rattle.cg_cmachine_layout.specs.Tables.{Indexes}
use Rattle.cg_cmachine_layout.proofs.index.index_structs.Given as goal

abbrev pub invariant-loop-at : goal.invariant-loop-at
invariant-loop-at l = Indexes (map (λ x. x.name) (take l.at l.structs)) l.names
