use Rattle.std.proofs.Common.{◌≡◌, map, take}
use Rattle.cg_ctree.specs.Trees.{case_of}
use Rattle.cg_cgen.proofs.Dispatching.{case_at}
use Rattle.cg_cgen.proofs.switches.cases.Given as goal

abbrev pub invariant-loop-tag : goal.invariant-loop-tag
invariant-loop-tag l = map case_of l.cases ≡ map case_at (take l.tag-index l.tags)
