use Rattle.std.proofs.Common.{ap, ◌∙◌}
use Rattle.cg_cread_lexer.specs.Front.{piece_length}
use Rattle.cg_cread_lexer.proofs.Gaps.{tail_whole, space_more}
use Rattle.cg_cread_lexer.proofs.gap.gap_len.Goals as goal

pub loop-len-preserved : goal.loop-len-preserved
loop-len-preserved c =
    let bytes = c.args.bytes.now in
    let len = c.loop-len.len in
    space_more bytes len c.piece_len-more.result c.loop-len.invariant (c.piece_len-more.ensures ∙ ap piece_length (tail_whole bytes len)) c.if-more-eq0.false
