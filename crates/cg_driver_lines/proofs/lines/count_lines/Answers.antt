use Rattle.std.proofs.Common.{append_assoc}
use Rattle.cg_driver_lines.proofs.lines.count_lines.Goals as goal

pub returns : goal.returns
returns c = simp append_assoc (rw (← c.len-new.ensures, ← c.len-gone.ensures, ← c.len-left.ensures) c.in_ok-format.ensures.ok)
