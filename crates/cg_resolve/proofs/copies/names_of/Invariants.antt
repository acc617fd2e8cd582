use Rattle.std.proofs.Common.{◌≡◌, take}
use Rattle.cg_resolve_declared.specs.Tables.{texts}
use Rattle.cg_resolve_def.specs.Faults.{var_names}
use Rattle.cg_resolve.proofs.copies.names_of.Given as goal

abbrev pub invariant-loop-bound : goal.invariant-loop-bound
invariant-loop-bound l = texts l.names.items ≡ var_names (take l.bound-index l.vars)
