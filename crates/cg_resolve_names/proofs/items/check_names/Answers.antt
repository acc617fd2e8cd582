use Rattle.std.proofs.Common.{rules, subst, sym, take}
use Rattle.cg_resolve_def.specs.Faults.{beforehand, program_faults}
use Rattle.cg_resolve_declared.specs.Declarations.{entries_of}
use Rattle.cg_resolve_declared.specs.Views.{entries_in}
use Rattle.cg_resolve_names.specs.Behind.{IsBehind, declared_before}
use Rattle.cg_resolve_names.proofs.ItemSteps.{before_turn, items_turn, items_fault}
use Rattle.cg_resolve_names.proofs.items.check_names.Goals as goal

pub returns-in_err-check_item : goal.returns-in_err-check_item
returns-in_err-check_item c =
    let first = items_fault (entries_of c.args.declared.now) beforehand c.args.declared.now.items.now c.loop-item.item-index c.item-item.result c.loop-item-test.true c.item-item.is (program_faults (entries_of c.args.declared.now)) c.in_err-check_item.field-0.0 c.loop-item.invariant.1
    (c.in_err-check_item.ensures.says (declared_before beforehand (entries_in (take c.loop-item.item-index c.args.declared.now.items.now))) c.loop-item.invariant.0) in
    search (rules, first)

pub loop-item-preserved : goal.loop-item-preserved
loop-item-preserved c = (
  subst (λ b. IsBehind b c.check_item.new.behind)
      (sym (before_turn (entries_of c.args.declared.now) beforehand c.args.declared.now.items.now c.loop-item.item-index c.item-item.result c.loop-item-test.true c.item-item.is))
      (c.in_ok-check_item.ensures.grown (declared_before beforehand (entries_in (take c.loop-item.item-index c.args.declared.now.items.now))) c.loop-item.invariant.0),
  items_turn (entries_of c.args.declared.now) beforehand c.args.declared.now.items.now c.loop-item.item-index c.item-item.result c.loop-item-test.true c.item-item.is (program_faults (entries_of c.args.declared.now)) c.loop-item.invariant.1
      (c.in_ok-check_item.ensures.says (declared_before beforehand (entries_in (take c.loop-item.item-index c.args.declared.now.items.now))) c.loop-item.invariant.0),
)
