use Rattle.std.proofs.Common.{◌∙◌, codes}
use Rattle.cg_gen.proofs.Functions.{header_put, one_more}
use Rattle.cg_gen.proofs.text.generate.Goals as goal

pub loop-before-init : goal.loop-before-init
loop-before-init c = header_put _ _ c.new-text.ensures.items c.in_ok-put.ensures

pub loop-before-preserved : goal.loop-before-preserved
loop-before-preserved c = c.in_ok-put_function.ensures ∙ one_more (codes "type Cell = {val : U32, tag : U8}\n") _ c.loop-before.before c.loop-before.invariant
