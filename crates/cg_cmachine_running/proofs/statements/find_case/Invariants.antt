use Rattle.std.proofs.Common.{◌≡◌, drop}
use Rattle.cg_cmachine_running.specs.Flat.{first_case}
use Rattle.cg_cmachine_running.proofs.statements.find_case.Given as goal

abbrev pub invariant-loop-case : goal.invariant-loop-case
invariant-loop-case l = first_case l.number l.fn.cases ≡ first_case l.number (drop l.case-index l.cases)
