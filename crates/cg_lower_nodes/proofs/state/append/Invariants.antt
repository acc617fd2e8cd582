use Rattle.std.proofs.Common.{◌≡◌, ◌++◌, take, drop}
use Rattle.cg_lower_nodes.proofs.state.append.Given as goal

abbrev pub invariant-loop-stmt : goal.invariant-loop-stmt
invariant-loop-stmt l =
    (l.stmts ≡ l.fn.stmts ++ take l.stmt-index l.initial.stmt-items) × (drop l.stmt-index l.stmt-items ≡ drop l.stmt-index l.initial.stmt-items)
