use Rattle.std.proofs.Common.{rules}
use Rattle.cg_resolve_declared.specs.Declarations.{entries_of}
use Rattle.cg_resolve_names.proofs.SaysSteps.{says_second}
use Rattle.cg_resolve_names.proofs.TypeSteps.{name_first, type_fault, type_turn, field_fault, field_turn, field_more, alternative_fault, alternative_turn, alternative_more, type_steps}
use Rattle.cg_resolve_names.proofs.types.+check_type.Goals as goal

pub check_type-returns-in_err-check_type_name-in-Name : goal.check_type-returns-in_err-check_type_name-in-Name
check_type-returns-in_err-check_type_name-in-Name t c =
    let first = name_first (entries_of c.args.declared.now) c.args.vars.now c.args.ty.now.place c.in-Name.name c.in-Name.args c.in_err-check_type_name-in-Name.field-0.0 in
    search (rules, first, type_steps)

pub check_type-returns-in_ok-check_type_name-in-Name : goal.check_type-returns-in_ok-check_type_name-in-Name
check_type-returns-in_ok-check_type_name-in-Name t c = search (rules, says_second, type_steps)

pub check_types-returns-in_err-check_type : goal.check_types-returns-in_err-check_type
check_types-returns-in_err-check_type t c =
    let first = type_fault (entries_of c.args.declared.now) c.args.vars.now c.args.types.now c.loop-ty.ty-index c.ty-item.result c.loop-ty-test.true c.ty-item.is c.loop-ty.invariant c.in_err-check_type.field-0.0 c.in_err-check_type.ensures in
    search (rules, first)

pub check_types-loop-ty-preserved : goal.check_types-loop-ty-preserved
check_types-loop-ty-preserved t c = type_turn (entries_of c.args.declared.now) c.args.vars.now c.args.types.now c.loop-ty.ty-index c.ty-item.result c.loop-ty-test.true c.ty-item.is c.loop-ty.invariant c.in_ok-check_type.ensures

pub check_fields-returns-in_err-check_field : goal.check_fields-returns-in_err-check_field
check_fields-returns-in_err-check_field t c =
    let first = field_fault (entries_of c.args.declared.now) c.args.vars.now c.args.fields.now c.loop-field.field-index c.field-item.result c.loop-field-test.true c.field-item.is c.loop-field.invariant.0 c.loop-field.before c.loop-field.invariant.1 c.in_err-check_field.field-0.0
    c.in_err-check_field.ensures.says in
    search (rules, first)

pub check_fields-loop-field-preserved : goal.check_fields-loop-field-preserved
check_fields-loop-field-preserved t c = (
  field_turn (entries_of c.args.declared.now) c.args.vars.now c.args.fields.now c.loop-field.field-index c.field-item.result c.loop-field-test.true c.field-item.is c.loop-field.invariant.0 c.loop-field.before c.loop-field.invariant.1 c.in_ok-check_field.ensures.says,
  field_more (entries_of c.args.declared.now) c.args.vars.now c.args.fields.now c.loop-field.field-index c.field-item.result c.loop-field-test.true c.field-item.is c.loop-field.invariant.0 c.loop-field.before c.loop-field.invariant.1 c.check_field.new.before
      c.in_ok-check_field.ensures.names,
)

pub check_alternatives-returns-in_err-check_alternative : goal.check_alternatives-returns-in_err-check_alternative
check_alternatives-returns-in_err-check_alternative t c =
    let first = alternative_fault (entries_of c.args.declared.now) c.args.vars.now c.args.choices.now c.loop-choice.choice-index c.choice-item.result c.loop-choice-test.true c.choice-item.is c.loop-choice.invariant.0 c.loop-choice.before c.loop-choice.invariant.1 c.in_err-check_alternative.field-0.0
    c.in_err-check_alternative.ensures.says in
    search (rules, first)

pub check_alternatives-loop-choice-preserved : goal.check_alternatives-loop-choice-preserved
check_alternatives-loop-choice-preserved t c = (
  alternative_turn (entries_of c.args.declared.now) c.args.vars.now c.args.choices.now c.loop-choice.choice-index c.choice-item.result c.loop-choice-test.true c.choice-item.is c.loop-choice.invariant.0 c.loop-choice.before c.loop-choice.invariant.1
      c.in_ok-check_alternative.ensures.says,
  alternative_more (entries_of c.args.declared.now) c.args.vars.now c.args.choices.now c.loop-choice.choice-index c.choice-item.result c.loop-choice-test.true c.choice-item.is c.loop-choice.invariant.0 c.loop-choice.before c.loop-choice.invariant.1
      c.check_alternative.new.before c.in_ok-check_alternative.ensures.names,
)
