use Rattle.std.proofs.Common.{◌≡◌, List, length, true, false, refl, sym, ap, ◌∙◌, subst, arith}
use Rattle.cg_heaptext_lexer.specs.Next.{Cursor, lexeme}
use Rattle.cg_heaptext_entries.specs.Passes.{is_at}
use Rattle.cg_heaptext_entries.specs.declared.entry.EntryAt.{EntryAt}
use Rattle.cg_heaptext_entries.proofs.Standing.{no_longer}
use Rattle.cg_heaptext_entries.proofs.Entries.{AllGoing, begun, finds, keeps_going}
use Rattle.cg_heaptext_entries.proofs.pass.find.Goals as goal

pub loop-token-init : goal.loop-token-init
loop-token-init c = record {
  within = omega (arith, ap (λ (x : Cursor). length x.rest) c.new-lexer.ensures);
  going = begun c.args.bytes.now c.new-entries.result c.new-lexer.result c.new-entries.ensures c.new-lexer.ensures;
}

pub loop-token-preserved : goal.loop-token-preserved
loop-token-preserved c =
    let t = c.next-token.result in
    let w = c.loop-token.invariant in
    let here : is_at t.kind t.text.now ≡ true = sym c.is_at.ensures ∙ c.if-not-is_at.false in
    let all = keeps_going c.args.bytes.now t.kind t.text.now c.loop-token.lexer c.next-token.new.self c.entry.new.lexer (lexeme t) c.loop-token.entries c.entry.result refl c.next-token.ensures here c.entry.ensures.passes w.going in
    record {
      within = omega (arith, w.within, no_longer t.kind c.loop-token.lexer c.next-token.new.self (lexeme t) c.next-token.ensures, c.entry.ensures.shorter);
      going = subst (λ (xs : List EntryAt). AllGoing c.args.bytes.now xs c.entry.new.lexer) (sym c.in_ok-push.ensures.ok) all;
    }

pub returns : goal.returns
returns c =
    let t = c.next-token.result in
    let not_here : is_at t.kind t.text.now ≡ false = sym c.is_at.ensures ∙ c.if-not-is_at.true in
    finds c.args.bytes.now t.kind c.next.result.kind t.text.now c.loop-token.lexer c.next-token.new.self c.next.new.self (lexeme t) (lexeme c.next.result)
    (record { entries = c.loop-token.entries; argument = c.next.new.self }) refl c.next-token.ensures not_here c.next.ensures refl c.loop-token.invariant.going
