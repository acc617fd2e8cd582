-- Steps and variables as the code has them, and what they stand for.
use Rattle.cg_cgen_def.specs.Places as places
use Rattle.cg_cgen_lines.specs.declared.paths.Base.{Base}
use Rattle.cg_cgen_lines.specs.declared.paths.Base.TheVariants as base
use Rattle.cg_cgen_lines.specs.declared.paths.Step.{Step}
use Rattle.cg_cgen_lines.specs.declared.paths.Step.TheVariants as step

abbrev pub step_of : Step → places.Step
step_of (step.Field i) = places.field i
step_of step.Tag = places.tag
step_of (step.Payload i) = places.payload i

abbrev pub base_of : Base → places.Base
base_of base.Argument = places.argument
base_of (base.Local j) = places.local j
