use Rattle.std.proofs.Common.{rules}
use Rattle.std.proofs.Math.Nat.{le_trans}
use Rattle.cg_ctree.specs.declared.tree.CCase.{size-CCase}
use Rattle.cg_ctree.specs.declared.tree.CStmt.{size-CStmt}
use Rattle.cg_ctree.proofs.Depths.{most-set, case_depth, switch_depth}
use Rattle.cg_ctree.proofs.+statement.Goals as goal

pub tree::empty_list-loop-i-preserved : goal.tree::empty_list-loop-i-preserved
tree::empty_list-loop-i-preserved t c = (
  search rules,
  le_trans
      (most-set size-CStmt c.loop-i.stmts c.loop-i.i _ c.index-stmts-i.result (search (rules, c.empty.ensures, c.index-stmts-i.is)))
      c.loop-i.invariant.1,
)

pub tree::empty_cases-loop-i-preserved : goal.tree::empty_cases-loop-i-preserved
tree::empty_cases-loop-i-preserved t c = (
  search rules,
  le_trans
      (most-set size-CCase c.loop-i.cases c.loop-i.i _ c.index-cases-i.result (case_depth _ _ _ c.empty_list.ensures))
      c.loop-i.invariant.1,
)

pub tree::empty-returns-in-Switch : goal.tree::empty-returns-in-Switch
tree::empty-returns-in-Switch t c = search (rules, switch_depth, c.empty_cases.ensures)
