use Rattle.std.proofs.Common.{rules, arith}
use Rattle.std.proofs.lemmas.Grind.{common_steps}
use Rattle.cg_base.proofs.Views.{piece_of}
use Rattle.cg_base.proofs.Lists.{changed_more}
use Rattle.cg_base.specs.Types.{type_of, part_of}
use Rattle.cg_kinds.specs.Kinds.{bang, bang_piece}
use Rattle.cg_kinds.proofs.change.+bang.Goals as goal

pub bang_types-loop-i-preserved : goal.bang_types-loop-i-preserved
bang_types-loop-i-preserved t c =
    (search rules, changed_more type_of bang _ _ _ _ _ c.loop-i-test.true c.loop-i.auto.items c.index-items-i.is (search rules) c.loop-i.invariant.1)

pub bang_parts-loop-i-preserved : goal.bang_parts-loop-i-preserved
bang_parts-loop-i-preserved t c =
    (search rules, changed_more part_of bang_piece _ _ _ _ _ c.loop-i-test.true c.loop-i.auto.items c.index-items-i.is (grind (arith, common_steps, piece_of)) c.loop-i.invariant.1)
