use Rattle.std.proofs.Common.{take}
use Rattle.cg_cmachine_resolve.specs.Scopes.{declared_as}
use Rattle.cg_cmachine_resolve.specs.Variables.{AreAdded}
use Rattle.cg_cmachine_resolve.proofs.scope.Variables.add.Given as goal

abbrev pub invariant-loop-decl : goal.invariant-loop-decl
invariant-loop-decl l = AreAdded l.structs (declared_as l.structs (take l.decl-index l.decls)) l.fn.self l.self
