-- What the parts of `gen` say, as the code has them.
use Rattle.std.specs.Prelude.{ℕ, ◌++◌, List}
use Rattle.cg_driver_steps.specs.declared.report.Report.{Report}
use Rattle.cg_driver_steps.specs.declared.status.Status.{Status}
use Rattle.cg_driver_steps.specs.declared.status.Status.TheVariants.{Done}
use Rattle.cg_driver_steps.specs.Parts.{IsLine}

-- a text at a status behind a line: a refusal stands alone
abbrev pub Joins : List ℕ → Status → List ℕ → Report → Type 0
Joins line Done text r = IsLine Done (line ++ text) r
Joins line status text r = IsLine status text r
