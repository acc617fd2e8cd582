use Rattle.std.proofs.Common.{map, take}
use Rattle.cg_cmachine_resolve.specs.Indexes.{Indexes}
use Rattle.cg_cmachine_resolve.proofs.names.index_functions.Given as goal

abbrev pub invariant-loop-at : goal.invariant-loop-at
invariant-loop-at l = Indexes (map (λ f. f.name) (take l.at l.functions)) l.names
