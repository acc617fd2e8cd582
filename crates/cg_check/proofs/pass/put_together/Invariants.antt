use Rattle.std.proofs.Common.{◌≡◌, length, map}
use Rattle.cg_check.specs.Gathered.{ahead, named_of, together}
use Rattle.cg_check_context.specs.View.{entries_of, types_in}
use Rattle.cg_check_nodes.specs.Fields.{fields_of}
use Rattle.cg_check.proofs.pass.put_together.Given as goal

abbrev pub invariant-loop-field : goal.invariant-loop-field
invariant-loop-field l =
    ahead (map named_of l.gots) l.alone (fields_of l.later) ≡ together (length (types_in (entries_of l.context.items))) (map named_of l.fn.gots)

abbrev pub decreases-loop-field : goal.decreases-loop-field
decreases-loop-field l = length l.gots
