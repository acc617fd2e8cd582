use Rattle.std.proofs.Common.{take}
use Rattle.cg_resolve_declared.specs.Declarations.{entries_of}
use Rattle.cg_resolve_takes.specs.Known.{Knows}
use Rattle.cg_resolve_takes.specs.Views.{heads_in}
use Rattle.cg_resolve_takes.proofs.known.known_heads.Given as goal

abbrev pub invariant-loop-position : goal.invariant-loop-position
invariant-loop-position l = Knows (entries_of l.declared) (take l.position-index l.order) (heads_in l.table)
