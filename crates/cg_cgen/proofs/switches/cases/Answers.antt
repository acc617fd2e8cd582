use Rattle.std.proofs.Common.{ap, map, ◌∙◌, arith}
use Rattle.cg_ctree.specs.Trees.{case_of}
use Rattle.cg_cgen.proofs.Dispatching.{all_cases, cases_more}
use Rattle.cg_cgen.proofs.switches.cases.Goals as goal

pub loop-tag-preserved : goal.loop-tag-preserved
loop-tag-preserved c =
    ap (map case_of) c.in_ok-push.ensures.ok
    ∙ cases_more c.args.tags.now c.loop-tag.tag-index c.loop-tag.cases _ c.loop-tag-test.true c.loop-tag.invariant c.in_ok-case.ensures

pub returns : goal.returns
returns c = all_cases c.args.tags.now c.loop-tag.tag-index c.loop-tag.cases (omega (arith, c.loop-tag-test.false)) c.loop-tag.invariant
