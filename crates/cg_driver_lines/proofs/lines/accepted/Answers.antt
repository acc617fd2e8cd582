use Rattle.std.proofs.Common.{◌∙◌}
use Rattle.cg_driver_lines.proofs.Counting.{counted}
use Rattle.cg_driver_lines.proofs.lines.accepted.Goals as goal

pub returns : goal.returns
returns c = (c.of_text.ensures.0, c.of_text.ensures.1 ∙ rw (counted _, ← c.count_functions-count.ensures) c.in_ok-format.ensures.ok)
