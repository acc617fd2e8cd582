use Rattle.std.proofs.Common.{rules, ap, sym, ◌∙◌, [], get_or}
use Rattle.cg_resolve_def.specs.Faults.{twins}
use Rattle.cg_resolve_names.proofs.ItemSteps.{own, placed_fault, placed_turn, unplaced_turn, ats_all}
use Rattle.cg_resolve_names.proofs.items.check_apart.Goals.{then-index-places+in_ok-enter_new, else-index-places}
use Rattle.cg_resolve_names.proofs.items.check_apart.Goals as goal

pub returns-in_err-enter_new : goal.returns-in_err-enter_new
returns-in_err-enter_new c =
    let first = placed_fault c.args.vars.now c.args.places.now c.loop-index.index c.loop-index.invariant.0 c.loop-index.scope c.loop-index.invariant.1 c.index-vars-index.result (get_or c.args.places.now c.loop-index.index (record { line = 0; column = 0 }))
    c.loop-index-test.true c.index-vars-index.is c.if-index-places.true (own c.args.places.now c.loop-index.index (record { line = 0; column = 0 }) c.if-index-places.true) c.in_err-enter_new.field-0.0 in
    search (rules, first)

pub loop-index-preserved : goal.loop-index-preserved
loop-index-preserved c = elim c.if-index-places.branch [
  | then-index-places+in_ok-enter_new w ↦
      let turn = placed_turn c.args.vars.now c.args.places.now c.loop-index.index c.loop-index.invariant.0 c.loop-index.scope c.loop-index.invariant.1 w.index-vars-index.result (get_or c.args.places.now c.loop-index.index (record { line = 0; column = 0 }))
      c.loop-index-test.true w.index-vars-index.is w.if-index-places.true (own c.args.places.now c.loop-index.index (record { line = 0; column = 0 }) w.if-index-places.true) w.enter_new.new.scope in
      rw w.scope-is (search (rules, turn))
  | else-index-places w ↦ rw w.scope-is (unplaced_turn c.args.vars.now c.args.places.now c.loop-index.index c.loop-index.invariant.0 c.loop-index.scope c.loop-index.invariant.1 w.if-index-places.false)
]

pub returns : goal.returns
returns c = sym (ap (twins []) (ats_all c.args.vars.now c.args.places.now c.loop-index.index c.loop-index-test.false)) ∙ c.loop-index.invariant.0
