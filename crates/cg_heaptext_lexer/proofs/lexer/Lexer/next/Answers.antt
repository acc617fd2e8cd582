use Rattle.cg_heaptext_lexer.proofs.Munch.{front_of}
use Rattle.cg_heaptext_lexer.proofs.Cuts.{cut, gives}
use Rattle.cg_heaptext_lexer.proofs.lexer.Lexer.next.Goals as goal

pub split_at-requires-2 : goal.split_at-requires-2
split_at-requires-2 c = (front_of _ _ c.front-kind.ensures).within

pub returns : goal.returns
returns c =
    let k = cut _ _ _ _ c.gap_len.ensures.count c.split_at.ensures.front c.split_at.ensures.back in
    rw (← c.self.view_is) (gives _ _ _ _ _ _ _ _ k (front_of _ _ c.front-kind.ensures) c.split_at-2.ensures.front c.split_at-2.ensures.back c.behind-place.ensures c.behind-self-inside.ensures)
