use Rattle.std.proofs.Common.{sym}
use Rattle.std.proofs.lemmas.List.{length-take-le}
use Rattle.cg_cread_lexer.proofs.Munch.{front_of}
use Rattle.cg_cread_lexer.proofs.Cuts.{cut, cut_front, gives}
use Rattle.cg_cread_lexer.proofs.lexer.Lexer.next.Goals as goal

pub split_at-requires-2 : goal.split_at-requires-2
split_at-requires-2 c = (front_of _ _ c.front-kind.ensures).within

pub slice_bounds-result-end : goal.slice_bounds-result-end
slice_bounds-result-end c = sym (length-take-le _ _ (front_of _ _ c.front-kind.ensures).text_within)

pub returns : goal.returns
returns c =
    let k = cut _ _ _ _ c.gap_len.ensures c.split_at.ensures.front c.split_at.ensures.back in
    let f = cut_front _ _ _ _ c.front-kind.ensures c.split_at-2.ensures.front c.split_at-2.ensures.back in
    rw (← c.self.view_is) (gives _ _ _ _ _ _ _ _ _ k f c.behind-place.ensures c.behind-self-inside.ensures c.contains.ensures.value)
