-- Where no frame is open, a pattern that is read is whole.
use Rattle.std.proofs.Common.{◌≡◌, List, [], ◌∷◌, refl, Option}
use Rattle.std.specs.Prelude.{is_some}
use Rattle.cg_parser_stack.specs.Stacks.{none_open}
use Rattle.cg_surface.specs.Patterns.{Pattern}
use Rattle.cg_parser_patterns.specs.Machine as machine
use Rattle.cg_parser_patterns.specs.Bounded.{bounded}
use Rattle.cg_parser_patterns.specs.Stack.{stack_of}
use Rattle.cg_parser_patterns.specs.declared.frame.Frame.{Frame}

pub whole_is : (x : Option Pattern) (fs : List Frame) → is_some (machine.whole bounded x (stack_of fs)) ≡ none_open fs
whole_is x [] = refl
whole_is x (f ∷ fs) = refl
