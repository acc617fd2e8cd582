use Rattle.std.proofs.Common.{◌∙◌, append_assoc}
use Rattle.cg_driver_lines.proofs.lines.broken.Goals as goal

pub returns : goal.returns
returns c = (c.of_text.ensures.0, c.of_text.ensures.1 ∙ simp append_assoc (rw (← c.rule_name-name.ensures, ← c.text-text.ensures) c.in_ok-format.ensures.ok))
