use Rattle.std.proofs.Common.{◌≡◌, ℕ, Option, drop}
use Rattle.cg_heaptext_def.specs.Reading.{events_bare}
use Rattle.cg_heaptext_def.specs.Trees.{Cell}
use Rattle.cg_heaptext_judge_steps.specs.Steps.{pieces}
use Rattle.cg_heaptext_judge_steps.proofs.constant.judge_constant.Given as goal

abbrev pub invariant-loop-part : goal.invariant-loop-part
invariant-loop-part l = (cells : ℕ → Option Cell) → events_bare cells (pieces (drop l.part-index l.parts)) l.place l.name ≡ events_bare cells (pieces l.parts) l.place l.name
