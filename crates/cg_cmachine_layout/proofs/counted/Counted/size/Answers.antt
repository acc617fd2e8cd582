use Rattle.std.proofs.Common.{◌∙◌}
use Rattle.cg_cmachine_layout.proofs.Members.{kind_size}
use Rattle.cg_cmachine_layout.proofs.counted.Counted.size.Goals as goal

pub returns : goal.returns
returns c = λ ss is. c.slots.ensures ∙ kind_size ss c.args.self is
