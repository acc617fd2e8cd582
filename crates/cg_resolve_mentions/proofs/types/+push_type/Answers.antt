use Rattle.cg_resolve_mentions.proofs.TypeSteps.{type_turn, field_turn, alternative_turn}
use Rattle.cg_resolve_mentions.proofs.types.+push_type.Goals as goal

pub push_types-loop-ty-preserved : goal.push_types-loop-ty-preserved
push_types-loop-ty-preserved t c =
    type_turn c.args.synonyms.now c.args.targets.now.items c.loop-ty.targets.items c.push_type.new.targets.items c.args.types.now c.loop-ty.ty-index c.ty-item.result c.loop-ty-test.true c.ty-item.is c.loop-ty.invariant c.in_ok-push_type.ensures

pub push_fields-loop-field-preserved : goal.push_fields-loop-field-preserved
push_fields-loop-field-preserved t c =
    field_turn c.args.synonyms.now c.args.targets.now.items c.loop-field.targets.items c.push_type.new.targets.items c.args.fields.now c.loop-field.field-index c.field-item.result c.loop-field-test.true c.field-item.is c.loop-field.invariant
    c.in_ok-push_type.ensures

pub push_alternatives-loop-choice-preserved : goal.push_alternatives-loop-choice-preserved
push_alternatives-loop-choice-preserved t c =
    alternative_turn c.args.synonyms.now c.args.targets.now.items c.loop-choice.targets.items c.push_alternative.new.targets.items c.args.choices.now c.loop-choice.choice-index c.choice-item.result c.loop-choice-test.true c.choice-item.is
    c.loop-choice.invariant c.in_ok-push_alternative.ensures
