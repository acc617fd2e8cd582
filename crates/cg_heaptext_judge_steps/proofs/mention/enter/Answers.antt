use Rattle.std.proofs.Common.{sym}
use Rattle.cg_heaptext_def.specs.Footprints.{amounts}
use Rattle.cg_heaptext_def.specs.Trees.{amount}
use Rattle.cg_heaptext_entries.specs.Index.{numeral_of}
use Rattle.cg_heaptext_judge_steps.proofs.Entering.{no_position}
use Rattle.cg_heaptext_judge_steps.proofs.mention.enter.Goals as goal

pub returns-in-None : goal.returns-in-None
returns-in-None c = λ h read digits cell there. absurd (no_position h.entries (amount (numeral_of c.args.address.now)) 0 cell (sym (c.in-None.ensures (amounts h) read.addresses digits)) there)
