use Rattle.std.proofs.Common.{take, map, ◌≡◌}
use Rattle.cg_resolve_sites.specs.Sites.{scope_of}
use Rattle.cg_resolve_sites.proofs.ScopeSteps.{seen_at}
use Rattle.cg_resolve_sites.proofs.scopes.positions.Given as goal

abbrev pub invariant-loop-at : goal.invariant-loop-at
invariant-loop-at l = l.made ≡ map (seen_at (scope_of l.scope)) (take l.at-index l.at-items)
