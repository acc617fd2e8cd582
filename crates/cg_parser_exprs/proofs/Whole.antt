-- Where no frame is open.
use Rattle.std.proofs.Common.{◌≡◌, List, [], ◌∷◌, Option, Some, None, refl}
use Rattle.std.specs.Prelude.{if◌then◌else◌}
use Rattle.cg_parser_stack.specs.Stacks.{none_open}
use Rattle.cg_surface.specs.Exprs.{Expr}
use Rattle.cg_parser_build.specs.Bounded.{bounded}
use Rattle.cg_parser_exprs_def.specs.Machine as machine
use Rattle.cg_parser_exprs_def.specs.Held.{types, patterns}
use Rattle.cg_parser_exprs_frames.specs.Stack.{stack_of}
use Rattle.cg_parser_exprs_frames.specs.declared.frame.Frame.{Frame}

-- an expression that is read is whole where no frame is open
pub whole_is : (fs : List Frame) (e : Option Expr) → machine.whole types patterns bounded e (stack_of fs) ≡ (if none_open fs then Some e else None)
whole_is [] e = refl
whole_is (f ∷ fs) e = refl
