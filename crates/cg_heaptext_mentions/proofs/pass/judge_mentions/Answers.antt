use Rattle.cg_heaptext_def.specs.Footprints.{amounts}
use Rattle.cg_heaptext_mentions.proofs.Ends.{judged_absent, judged_out}
use Rattle.cg_heaptext_mentions.proofs.pass.judge_mentions.Goals as goal

pub returns-clause-absent : goal.returns-clause-absent
returns-clause-absent c = λ bytes h s is m.
    judged_absent h c.args.index.now is c.as_slice-entries.result.now c.as_slice-entries.ensures c.scan_cells-found.result.absent c.scan.result.absent (c.scan_cells-found.ensures.absent (amounts h) m) (c.scan.ensures.absent (amounts h) m)

pub returns-clause-out : goal.returns-clause-out
returns-clause-out c = λ bytes h s is.
    judged_out h c.args.index.now is c.as_slice-entries.result.now c.as_slice-entries.ensures c.entry_out.result c.scan_cells-found.result.out c.scan.result.out c.entry_out.ensures c.scan_cells-found.ensures.out c.scan.ensures.out
