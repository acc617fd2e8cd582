use Rattle.cg_heaptext_values.specs.Values.{ValuesStand}
use Rattle.cg_heaptext_scalars.proofs.Listing.{FieldsOf}
use Rattle.cg_heaptext_value.proofs.Listing.{Going, Seeks}
use Rattle.cg_heaptext_value.proofs.value.+read.Given as goal

abbrev pub invariant-payload_of-loop-part : goal.invariant-payload_of-loop-part
invariant-payload_of-loop-part l = Seeks l.parts l.name l.part-index

abbrev pub invariant-tuple-loop-part : goal.invariant-tuple-loop-part
invariant-tuple-loop-part l = Going ValuesStand l.index l.addresses l.parts l.initial.listed l.part-index l.listed l.read

abbrev pub invariant-named-loop-part : goal.invariant-named-loop-part
invariant-named-loop-part l = Going FieldsOf l.index l.addresses l.parts l.initial.fields l.part-index l.fields l.read
