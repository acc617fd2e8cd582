use Rattle.std.proofs.Common.{drop}
use Rattle.cg_heaptext_values.specs.Turns.{layers_of}
use Rattle.cg_heaptext_values.proofs.Going.{Going}
use Rattle.cg_heaptext_values.proofs.layers.behind_layers.Given as goal

abbrev pub invariant-loop-left : goal.invariant-loop-left
invariant-loop-left l = Going l.fn.lexer l.inner (λ ts. drop (layers_of ts) ts) (drop l.left)

abbrev pub decreases-loop-left : goal.decreases-loop-left
decreases-loop-left l = l.left
