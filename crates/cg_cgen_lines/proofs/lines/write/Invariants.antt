use Rattle.std.proofs.Common.{◌≡◌, ◌++◌, map, take}
use Rattle.cg_ctree.specs.Trees.{stmt_of}
use Rattle.cg_cgen_lines.specs.Lines.{line_of}
use Rattle.cg_cgen_lines.proofs.lines.write.Given as goal

abbrev pub invariant-loop-line : goal.invariant-loop-line
invariant-loop-line l = map stmt_of l.stmts ≡ map stmt_of l.fn.stmts ++ map (line_of l.fn.callee) (take l.line-index l.lines)
