use Rattle.std.proofs.Common.{◌≡◌, ◌+◌, drop}
use Rattle.cg_cmachine_layout.specs.Tables.{slots}
use Rattle.cg_cmachine_layout.proofs.sizes.sum.Given as goal

abbrev pub invariant-loop-member : goal.invariant-loop-member
invariant-loop-member l = l.sum + slots l.names l.sizes (drop l.member-index l.members) ≡ slots l.names l.sizes l.members
