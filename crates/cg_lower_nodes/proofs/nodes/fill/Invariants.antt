use Rattle.std.proofs.Common.{◌≡◌, ◌++◌, map, take}
use Rattle.cg_ctree.specs.Trees.{stmt_of}
use Rattle.cg_lower_def.specs.Lowered.{filling}
use Rattle.cg_lower_nodes.specs.Views.{place_of}
use Rattle.cg_lower_nodes.proofs.nodes.fill.Given as goal

abbrev pub invariant-loop-value : goal.invariant-loop-value
invariant-loop-value l =
    (l.at ≡ l.value-index) × (map stmt_of l.stmts ≡ map stmt_of l.fn.stmts ++ filling 0 (map place_of (take l.value-index l.value-items)) l.to)
