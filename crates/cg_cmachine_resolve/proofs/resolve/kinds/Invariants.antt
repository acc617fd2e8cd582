use Rattle.std.proofs.Common.{◌≡◌, map, take}
use Rattle.cg_cmachine_layout.specs.Kinds.{layout_of}
use Rattle.cg_cmachine_def.specs.Layouts.{layout}
use Rattle.cg_cmachine_resolve.proofs.resolve.kinds.Given as goal

abbrev pub invariant-loop-decl : goal.invariant-loop-decl
invariant-loop-decl l = map layout_of l.kinds.items ≡ map (λ d. layout l.structs d.ty) (take l.decl-index l.decls)
