use Rattle.std.proofs.Common.{◌≤◌, length}
use denote.Param.Weighed.{most}
use Rattle.cg_ctree.specs.declared.tree.CCase.{size-CCase}
use Rattle.cg_ctree.specs.declared.tree.CStmt.{size-CStmt}
use Rattle.cg_ctree.proofs.+statement.Given as goal

abbrev pub invariant-tree::clear-loop-stmt : goal.invariant-tree::clear-loop-stmt
invariant-tree::clear-loop-stmt l = goal.no_deeper-tree::clear-loop-stmt l

abbrev pub decreases-tree::clear-loop-stmt : goal.decreases-tree::clear-loop-stmt
decreases-tree::clear-loop-stmt l = length l.list

abbrev pub invariant-tree::empty_cases-loop-i : goal.invariant-tree::empty_cases-loop-i
invariant-tree::empty_cases-loop-i l =
    goal.unvisited-tree::empty_cases-loop-i l × (most size-CCase l.cases ≤ most size-CCase l.initial.cases)

abbrev pub invariant-tree::empty_list-loop-i : goal.invariant-tree::empty_list-loop-i
invariant-tree::empty_list-loop-i l =
    goal.unvisited-tree::empty_list-loop-i l × (most size-CStmt l.stmts ≤ most size-CStmt l.initial.stmts)
