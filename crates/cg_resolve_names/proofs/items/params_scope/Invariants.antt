use Rattle.std.proofs.Common.{◌≡◌, [], take}
use Rattle.cg_resolve_def.specs.Faults.{twins, names_of}
use Rattle.cg_resolve_names.proofs.items.params_scope.Given as goal

abbrev pub invariant-loop-at : goal.invariant-loop-at
invariant-loop-at l = (twins [] (take l.at-index l.params) ≡ []) × (l.scope ≡ names_of (take l.at-index l.params))
