use Rattle.std.proofs.Common.{drop}
use Rattle.cg_cmachine_layout.proofs.Members.{IsAlong}
use Rattle.cg_cmachine_layout.proofs.structs.Structs.offset.Given as goal

abbrev pub invariant-loop-name : goal.invariant-loop-name
invariant-loop-name l = IsAlong l.self l.members l.fn.kind l.part.start l.part.kind (drop l.name-index l.members)
