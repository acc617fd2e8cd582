use Rattle.std.proofs.Common.{arith, map}
use Rattle.std.proofs.lemmas.Grind.{common_steps}
use Rattle.cg_base.specs.Types.{part_of}
use Rattle.cg_typing_parts.proofs.MarkSteps.{taken_pieces}
use Rattle.cg_typing_parts.proofs.named.copies_taken.Goals as goal

pub returns : goal.returns
returns c = grind (arith, common_steps, taken_pieces (map part_of c.args.parts.now))
