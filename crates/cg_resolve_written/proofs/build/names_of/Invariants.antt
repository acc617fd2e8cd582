use Rattle.std.proofs.Common.{◌≡◌, take}
use Rattle.cg_resolve_declared.specs.Tables.{texts}
use Rattle.cg_resolve_def.specs.Faults.{names_of}
use Rattle.cg_resolve_written.proofs.build.names_of.Given as goal

abbrev pub invariant-loop-param : goal.invariant-loop-param
invariant-loop-param l = texts l.names.items ≡ names_of (take l.param-index l.params)
