use Rattle.std.proofs.Common.{take, ◌≡◌}
use Rattle.cg_resolve_def.specs.Terms.{variable}
use Rattle.cg_resolve_sites.specs.Sites.{scope_of}
use Rattle.cg_resolve_sites.proofs.scopes.variable.Given as goal

abbrev pub invariant-loop-at : goal.invariant-loop-at
invariant-loop-at l = variable (scope_of l.scope) l.name ≡ variable (scope_of (take l.at l.scope)) l.name
