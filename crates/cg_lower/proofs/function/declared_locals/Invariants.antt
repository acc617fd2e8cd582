use Rattle.std.proofs.Common.{◌≡◌, drop, take}
use Rattle.cg_cgen_def.specs.Bodies.{locals_from}
use Rattle.cg_lower.proofs.function.declared_locals.Given as goal

abbrev pub invariant-loop-ty : goal.invariant-loop-ty
invariant-loop-ty l =
    (l.decls ≡ locals_from 0 (take l.ty-index l.initial.ty-items)) × (drop l.ty-index l.ty-items ≡ drop l.ty-index l.initial.ty-items) × (l.at ≡ l.ty-index)
