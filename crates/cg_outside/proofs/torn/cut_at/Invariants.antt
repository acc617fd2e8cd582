use Rattle.std.proofs.Common.{◌≡◌, drop}
use Rattle.cg_outside.specs.Cuts.{first_cut}
use Rattle.cg_outside.proofs.torn.cut_at.Given as goal

-- what is said of the call by all entries is said by those that are left
abbrev pub invariant-loop-number : goal.invariant-loop-number
invariant-loop-number l = first_cut l.call l.failing ≡ first_cut l.call (drop l.number-index l.failing)
