-- What the checker keeps of a body and of functions, and why it refuses a kernel.
use Rattle.std.specs.Prelude.{Option, Some}
use Rattle.cg_base.specs.declared.limit.Limit.TheVariants.{Ty}
use Rattle.cg_check.specs.declared.refusal.Refusal.{Refusal}
use Rattle.cg_check.specs.declared.refusal.Refusal.TheVariants.{Rule as Refused, Limit as Beyond, Memory as Short}
use Rattle.cg_check_context.specs.declared.stop.Stop.{Stop}
use Rattle.cg_check_context.specs.declared.stop.Stop.TheVariants.{Rule as Broken, Size, Memory}
use Rattle.cg_check_def.specs.Pass.{Got}
use Rattle.cg_check_pieces.specs.Bodies.{Both, both_of}
use Rattle.cg_check_pieces.specs.declared.kept.KeptBody.{KeptBody}
use Rattle.cg_check_uses.specs.Marks.{kept_new, settled}
use Rattle.cg_check_uses.specs.Uses.{last}

-- of a body that comes to this, where its argument is present: its core and its derivation
abbrev pub both_in : Got → Both
both_in u = (u.core, settled (kept_new 0 (last u.uses)) u.tree)

-- of a function with a body
abbrev pub a_body : KeptBody → Option Both
a_body k = Some (both_of k)

-- why the kernel is refused where the pass stops
abbrev pub refusal_of : Stop → Refusal
refusal_of (Broken rule place) = Refused rule place
refusal_of (Size place) = Beyond Ty
refusal_of Memory = Short
