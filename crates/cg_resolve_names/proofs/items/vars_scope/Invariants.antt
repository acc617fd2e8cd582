use Rattle.std.proofs.Common.{take}
use Rattle.cg_resolve_def.specs.Faults.{var_names}
use Rattle.cg_resolve_names.specs.Scopes.{SameNames}
use Rattle.cg_resolve_names.proofs.items.vars_scope.Given as goal

abbrev pub invariant-loop-bound : goal.invariant-loop-bound
invariant-loop-bound l = SameNames l.scope (var_names (take l.bound-index l.vars))
