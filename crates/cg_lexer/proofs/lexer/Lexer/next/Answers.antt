use Rattle.std.proofs.Common.{sym, ◌∙◌}
use Rattle.cg_lexer.proofs.Cuts.{front_within, cut, takes, stops}
use Rattle.cg_lexer.proofs.lexer.Lexer.next.Goals as goal

pub split_at-requires-2 : goal.split_at-requires-2
split_at-requires-2 c = rw c.front_len.ensures (front_within c.split_at.result.1.now)

pub returns-then-not-is_empty : goal.returns-then-not-is_empty
returns-then-not-is_empty c =
    let k = cut (record { rest = c.self.inside.rest.now; place = c.self.inside.place; behind = c.self.inside.behind }) _ _ _ _ c.gap_len.ensures c.split_at.ensures.front c.split_at.ensures.back c.behind-place.ensures in
    rw (← c.self.view_is) (takes _ _ _ _ _ _ _ _ _ _ _ k c.front_len.ensures c.split_at-2.ensures.front c.split_at-2.ensures.back (sym c.is_empty.ensures ∙ c.if-not-is_empty.true) c.kind.ensures c.is_first.ensures c.is_joined.ensures c.behind-self-inside.ensures)

pub invariant_of-self-2 : goal.invariant_of-self-2
invariant_of-self-2 c =
    let k = cut (record { rest = c.self.inside.rest.now; place = c.self.inside.place; behind = c.self.inside.behind }) _ _ _ _ c.gap_len.ensures c.split_at.ensures.front c.split_at.ensures.back c.behind-place.ensures in
    rw c.stop-answer.ensures (stops _ _ _ _ _ k c.front_len.ensures c.split_at-2.ensures.front (sym c.is_empty.ensures ∙ c.if-not-is_empty.false) c.kind.ensures c.is_first.ensures c.is_joined.ensures)

pub returns : goal.returns
returns c =
    let k = cut (record { rest = c.self.inside.rest.now; place = c.self.inside.place; behind = c.self.inside.behind }) _ _ _ _ c.gap_len.ensures c.split_at.ensures.front c.split_at.ensures.back c.behind-place.ensures in
    rw (← c.self.view_is, c.stop-answer.ensures) (stops _ _ _ _ _ k c.front_len.ensures c.split_at-2.ensures.front (sym c.is_empty.ensures ∙ c.if-not-is_empty.false) c.kind.ensures c.is_first.ensures c.is_joined.ensures)
