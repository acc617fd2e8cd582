use Rattle.std.proofs.Common.{map, take}
use Rattle.cg_cmachine_resolve.specs.Indexes.{Indexes}
use Rattle.cg_cmachine_resolve.proofs.names.index_links.Given as goal

abbrev pub invariant-loop-at : goal.invariant-loop-at
invariant-loop-at l = Indexes (map (λ l. l.c) (take l.at l.links)) l.names
