use Rattle.cg_base.specs.Types.{type_of}
use Rattle.cg_heaptext_def.specs.Trees.{bare, first}
use Rattle.cg_heaptext_judge_steps.proofs.Entering.{digits_stand, other_reached, reached}
use Rattle.cg_heaptext_judge_steps.proofs.mention.mentioned.Goals as goal

pub returns-in-Address : goal.returns-in-Address
returns-in-Address c = λ h read v s there.
    reached h c.args.judged.now c.enter.new.judged (type_of c.args.ty.now) (first v) c.in-Address.place c.in-Address.address c.enter.result (bare v) (c.in-Address.ensures v s)
    (digits_stand c.args.value.now v s) there (c.enter.ensures h read)

pub returns-in_default : goal.returns-in_default
returns-in_default c = λ h read v s there.
    other_reached h c.args.judged.now (type_of c.args.ty.now) (first v) c.place.result c.head.result (bare v) (c.head.ensures v s) c.in_default.not-Address (c.place.ensures v s)
