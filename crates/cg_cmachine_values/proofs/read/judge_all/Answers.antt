use Rattle.std.proofs.Common.{Global, Vec, ◌≡◌, [], ◌∷◌, ◌++◌, map, rules, sym, ap, ◌∙◌}
use Rattle.std.proofs.lemmas.List.{map_push}
use Rattle.std.proofs.lemmas.Result.{err_from_is_err_and}
use Rattle.cg_cmachine_def.specs.Outcomes.{ok}
use Rattle.cg_cmachine_values.specs.declared.value.CValue.{CValue}
use Rattle.cg_cmachine_values.specs.Values.{value_of}
use Rattle.cg_cmachine_values.proofs.Reading.{within_at, judged_more, judging_stops}
use Rattle.cg_cmachine_values.proofs.read.judge_all.Goals as goal

pub judge-requires : goal.judge-requires
judge-requires g c = record { within = within_at _ _ _ _ c.requires.within c.loop-operand-test.true c.operand-item.is }

pub returns-in_err-judge : goal.returns-in_err-judge
returns-in_err-judge g c =
    let p = err_from_is_err_and c.from_residual.result c.from_residual.ensures.1 in
    let store = g.S.Store.stored c.args.store.now in
    rw (p.1, p.2) (judging_stops {Z = Vec CValue Global} value_of (λ vs. map value_of vs.items) store c.args.slots.now c.args.operands.now c.loop-operand.operand-index c.operand-item.result c.in_err-judge.field-0.0 _ c.loop-operand-test.true c.operand-item.is c.loop-operand.invariant c.in_err-judge.ensures)

pub loop-operand-preserved : goal.loop-operand-preserved
loop-operand-preserved g c =
    let now : c.push.new.self.items ≡ c.loop-operand.values.items ++ c.in_ok-judge.field-0 ∷ [] = search rules in
    let store = g.S.Store.stored c.args.store.now in
    judged_more store c.args.slots.now c.args.operands.now c.loop-operand.operand-index c.operand-item.result (value_of c.in_ok-judge.field-0) _ c.loop-operand-test.true c.operand-item.is c.loop-operand.invariant c.in_ok-judge.ensures
    ∙ ap ok (sym (ap (map value_of) now ∙ map_push value_of c.loop-operand.values.items c.in_ok-judge.field-0))
