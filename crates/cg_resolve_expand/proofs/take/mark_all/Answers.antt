use Rattle.std.proofs.Common.{arith}
use Rattle.std.proofs.lemmas.Grind.{common_steps}
use Rattle.cg_base.proofs.Lists.{changed_more}
use Rattle.cg_base.proofs.Views.{piece_of}
use Rattle.cg_base.specs.Types.{part_of}
use Rattle.cg_resolve_expand.specs.Taken.{all_taken_piece}
use Rattle.cg_resolve_expand.proofs.take.mark_all.Goals as goal

pub loop-i-preserved : goal.loop-i-preserved
loop-i-preserved c = changed_more part_of all_taken_piece _ _ _ _ _ c.loop-i-test.true c.loop-i.auto.items c.index-items-i.is (grind (arith, common_steps, piece_of)) c.loop-i.invariant
