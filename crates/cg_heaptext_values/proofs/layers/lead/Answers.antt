use Rattle.std.proofs.Common.{◌+◌, ◌-◌, refl, arith}
use Rattle.cg_heaptext_lexer.specs.Next.{lexeme}
use Rattle.cg_heaptext_values.specs.declared.turn.Leading.TheVariants.{Opens, Closes, Other}
use Rattle.cg_heaptext_values.specs.Turns.{lead}
use Rattle.cg_heaptext_values.proofs.Loops.{ended_as, lead_more, opening_shorter}
use Rattle.cg_heaptext_values.proofs.layers.lead.Goals as goal

pub loop-count-preserved : goal.loop-count-preserved
loop-count-preserved c =
    let t = c.next.result in
    let w = c.loop-count.invariant in
    let s = opening_shorter t.kind t.text.now c.loop-count.lexer c.next.new.self (lexeme t) c.in-Opens.ensures c.next.ensures in
    record {
      within = omega (arith, s, w.within);
      going = lead_more t.kind t.text.now c.args.lexer.now c.loop-count.lexer c.next.new.self (lexeme t) Opens c.loop-count.count (λ ts. (c.loop-count.count + 1) + lead ts) refl w.going c.next.ensures c.in-Opens.ensures (λ ts. omega arith);
    }

pub returns-in-Closes : goal.returns-in-Closes
returns-in-Closes c =
    let t = c.next.result in
    ended_as c.args.lexer.now c.next.new.self lead c.loop-count.count (λ n. n - 1) c.saturating_sub.result c.saturating_sub.ensures
    (lead_more t.kind t.text.now c.args.lexer.now c.loop-count.lexer c.next.new.self (lexeme t) Closes c.loop-count.count (λ ts. c.loop-count.count) refl c.loop-count.invariant.going c.next.ensures c.in-Closes.ensures (λ ts. omega arith))

pub returns-in-Other : goal.returns-in-Other
returns-in-Other c =
    let t = c.next.result in
    ended_as c.args.lexer.now c.next.new.self lead (c.loop-count.count + 1) (λ n. n - 1) c.loop-count.count (omega arith)
    (lead_more t.kind t.text.now c.args.lexer.now c.loop-count.lexer c.next.new.self (lexeme t) Other c.loop-count.count (λ ts. c.loop-count.count + 1) refl c.loop-count.invariant.going c.next.ensures c.in-Other.ensures (λ ts. refl))
