use Rattle.std.proofs.Common.{◌∙◌}
use Rattle.cg_flat.proofs.Steps.{slot_fits, slot_unfit}
use Rattle.cg_flat.proofs.write.write_slot.Goals.{in-Slots, in_default}
use Rattle.cg_flat.proofs.write.write_slot.Goals as goal

pub returns-then-has-clause-answer : goal.returns-then-has-clause-answer
returns-then-has-clause-answer c =
    elim c.match-span.branch [
      | in-Slots w ↦ w.has-is ∙ slot_fits c.args.words.now.items c.args.span c.args.slot c.args.value c.requires w.in-Slots.is
      | in_default w ↦ w.has-is ∙ slot_unfit c.args.words.now.items c.args.span c.args.slot c.args.value w.in_default.not-Slots
    ]

pub returns-else-has-clause-answer : goal.returns-else-has-clause-answer
returns-else-has-clause-answer c =
    elim c.match-span.branch [
      | in-Slots w ↦ w.has-is ∙ slot_fits c.args.words.now.items c.args.span c.args.slot c.args.value c.requires w.in-Slots.is
      | in_default w ↦ w.has-is ∙ slot_unfit c.args.words.now.items c.args.span c.args.slot c.args.value w.in_default.not-Slots
    ]
