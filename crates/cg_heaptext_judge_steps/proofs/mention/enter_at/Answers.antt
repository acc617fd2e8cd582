use Rattle.cg_heaptext_def.specs.Footprints.{amounts}
use Rattle.cg_heaptext_judge_steps.proofs.Entering.{entry_is, entry_there}
use Rattle.cg_heaptext_judge_steps.proofs.mention.enter_at.Goals as goal

pub returns-in_ok-mention-in-Some : goal.returns-in_ok-mention-in-Some
returns-in_ok-mention-in-Some c = λ h read q at.
    let f = entry_is c.args.source.now.index.now.entries h.entries q c.args.at c.in-Some.entry.now read.index.entries at c.in-Some.ensures.value in
    (f.0, f.1, f.2, c.in_ok-mention-in-Some.ensures (amounts h) q at)

pub returns-in-None : goal.returns-in-None
returns-in-None c = λ h read q at. absurd (entry_there c.args.source.now.index.now.entries h.entries q c.args.at read.index.entries at c.in-None.ensures.value)
