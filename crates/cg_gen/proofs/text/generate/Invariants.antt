use Rattle.std.proofs.Common.{◌≡◌, ◌++◌, codes}
use Rattle.cg_gen.specs.Generated.{functions}
use Rattle.cg_gen.proofs.text.generate.Given as goal

abbrev pub invariant-loop-before : goal.invariant-loop-before
invariant-loop-before l = l.text.items ≡ codes "type Cell = {val : U32, tag : U8}\n" ++ functions l.before
