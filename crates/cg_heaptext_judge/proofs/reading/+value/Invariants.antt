use Rattle.cg_heaptext_scalars.proofs.Listing.{FieldsOf}
use Rattle.cg_heaptext_judge.proofs.Applying.{Going as Applying}
use Rattle.cg_heaptext_judge.proofs.Listing.{Going}
use Rattle.cg_heaptext_values.specs.Values.{ValuesStand}
use Rattle.cg_heaptext_judge.proofs.reading.+value.Given as goal

abbrev pub invariant-judge_applied-loop-part : goal.invariant-judge_applied-loop-part
invariant-judge_applied-loop-part l = Applying l.parts l.initial.judged l.part-index l.place l.name l.judged

abbrev pub invariant-judge_values-loop-part : goal.invariant-judge_values-loop-part
invariant-judge_values-loop-part l = Going ValuesStand l.source l.parts l.initial.values l.initial.judged l.part-index l.values l.judged

abbrev pub invariant-judge_fields-loop-part : goal.invariant-judge_fields-loop-part
invariant-judge_fields-loop-part l = Going FieldsOf l.source l.parts l.initial.fields l.initial.judged l.part-index l.fields l.judged
