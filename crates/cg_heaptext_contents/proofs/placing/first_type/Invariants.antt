use Rattle.std.proofs.Common.{◌≡◌, drop}
use Rattle.cg_heaptext_contents.specs.Placings.{read_type}
use Rattle.cg_heaptext_contents.proofs.placing.first_type.Given as goal

abbrev pub invariant-loop-mention : goal.invariant-loop-mention
invariant-loop-mention l = read_type l.fn.mentions l.at ≡ read_type (drop l.mention-index l.fn.mentions) l.at
