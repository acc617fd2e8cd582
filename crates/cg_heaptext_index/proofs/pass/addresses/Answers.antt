use Rattle.std.proofs.Common.{◌∙◌}
use Rattle.cg_heaptext_index.proofs.Answered.{map_found, second_found}
use Rattle.cg_heaptext_index.proofs.Repeats.{passes_new, passes_repeat}
use Rattle.cg_heaptext_index.proofs.pass.addresses.Goals as goal
use Rattle.cg_heaptext_index.proofs.pass.addresses.Goals.{then-branch, else-branch}

pub loop-at-preserved : goal.loop-at-preserved
loop-at-preserved c =
    elim c.if-branch.branch [
      | then-branch w ↦ passes_repeat c.as_slice-entries.result.now c.loop-at.at c.index-entries-at.result c.loop-at.positions c.add.new.positions c.loop-at.second c.if-branch.second c.significant.result.now c.in_ok-add.field-0
          c.loop-at-test.true c.index-entries-at.is c.significant.ensures c.in_ok-add.ensures.known w.if-branch.true c.in_ok-add.ensures.joins (w.second-is ∙ w.earlier-second.ensures) c.loop-at.invariant
      | else-branch w ↦ passes_new c.as_slice-entries.result.now c.loop-at.at c.index-entries-at.result c.loop-at.positions c.add.new.positions c.loop-at.second c.if-branch.second c.significant.result.now c.in_ok-add.field-0
          c.loop-at-test.true c.index-entries-at.is c.significant.ensures c.in_ok-add.ensures.known w.if-branch.false c.in_ok-add.ensures.joins w.second-is c.loop-at.invariant
    ]

pub returns-in-Some : goal.returns-in-Some
returns-in-Some c =
    second_found c.args.index.now c.as_slice-entries.result.now c.loop-at.at c.loop-at.positions c.loop-at.second c.as_slice-entries.ensures c.loop-at.auto.at-end c.loop-at-test.false c.loop-at.invariant c.in-Some.place c.in-Some.is

pub returns : goal.returns
returns c =
    map_found c.args.index.now c.as_slice-entries.result.now c.loop-at.at c.loop-at.positions c.loop-at.second c.as_slice-entries.ensures c.loop-at.auto.at-end c.loop-at-test.false c.loop-at.invariant c.in-None.is
