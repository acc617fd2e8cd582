use Rattle.std.proofs.Common.{◌≡◌, [], take}
use Rattle.cg_resolve_def.specs.Faults.{twins, names_of, ats_of}
use Rattle.cg_resolve_names.proofs.items.check_apart.Given as goal

abbrev pub invariant-loop-index : goal.invariant-loop-index
invariant-loop-index l = (twins [] (ats_of (take l.index l.vars) (take l.index l.places)) ≡ []) × (l.scope ≡ names_of (ats_of (take l.index l.vars) (take l.index l.places)))
