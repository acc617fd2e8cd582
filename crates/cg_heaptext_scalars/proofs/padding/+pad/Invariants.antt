use Rattle.std.proofs.Common.{drop}
use Rattle.cg_heaptext_scalars.specs.Given.{unset, width}
use Rattle.cg_heaptext_scalars.proofs.Adding.{Goes}
use Rattle.cg_heaptext_scalars.proofs.padding.+pad.Given as goal

abbrev pub invariant-pad_parts-loop-part : goal.invariant-pad_parts-loop-part
invariant-pad_parts-loop-part l = Goes l.initial.out (unset (width l.parts)) l.out (unset (width (drop l.part-index l.parts)))
