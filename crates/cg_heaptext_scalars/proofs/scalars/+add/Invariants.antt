use Rattle.cg_heaptext_values.specs.Values.{ValuesStand}
use Rattle.cg_heaptext_scalars.proofs.Listing.{FieldsOf, Going}
use Rattle.cg_heaptext_scalars.proofs.scalars.+add.Given as goal

abbrev pub invariant-add_values-loop-part : goal.invariant-add_values-loop-part
invariant-add_values-loop-part l = Going ValuesStand l.parts l.initial.values l.initial.out l.part-index l.values l.out

abbrev pub invariant-add_fields-loop-part : goal.invariant-add_fields-loop-part
invariant-add_fields-loop-part l = Going FieldsOf l.parts l.initial.fields l.initial.out l.part-index l.fields l.out
