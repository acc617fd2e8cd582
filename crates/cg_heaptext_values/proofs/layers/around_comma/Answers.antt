use Rattle.std.proofs.Common.{◌+◌, ◌-◌, refl, sym, ap, ◌∙◌, arith}
use Rattle.std.specs.Prelude.{min}
use Rattle.cg_heaptext_lexer.specs.Next.{lexeme}
use Rattle.cg_heaptext_values.specs.declared.turn.Turn.TheVariants.{Opens, Closes, Parts, Stays, Over}
use Rattle.cg_heaptext_values.specs.Turns.{found, seeking, sought}
use Rattle.cg_heaptext_values.proofs.Loops.{ended_as, seek_closes_inner, seek_closes_outer, seek_on, seek_opens, seek_parts, turn_shorter}
use Rattle.cg_heaptext_values.proofs.layers.around_comma.Goals as goal

pub loop-depth-preserved-in-Opens : goal.loop-depth-preserved-in-Opens
loop-depth-preserved-in-Opens c =
    let t = c.next.result in
    let w = c.loop-depth.invariant in
    let s = turn_shorter Opens refl t.kind t.text.now c.loop-depth.lexer c.next.new.self (lexeme t) c.in-Opens.ensures c.next.ensures in
    record {
      within = omega (arith, s, w.within);
      going = seek_on (c.args.most + 1) t.kind t.text.now c.args.lexer.now c.loop-depth.lexer c.next.new.self (lexeme t) Opens c.loop-depth.depth (c.loop-depth.least + 1) (seeking (c.loop-depth.depth + 1) (c.loop-depth.least + 1)) refl w.going c.next.ensures c.in-Opens.ensures (seek_opens c.loop-depth.depth (c.loop-depth.least + 1));
    }

pub returns-in-Closes : goal.returns-in-Closes
returns-in-Closes c =
    let t = c.next.result in
    ended_as c.args.lexer.now c.next.new.self (sought (seeking 0 (c.args.most + 1))) (c.loop-depth.least + 1) (λ n. n - 1) c.loop-depth.least (omega arith)
    (seek_on (c.args.most + 1) t.kind t.text.now c.args.lexer.now c.loop-depth.lexer c.next.new.self (lexeme t) Closes c.loop-depth.depth (c.loop-depth.least + 1) (found (c.loop-depth.least + 1)) refl c.loop-depth.invariant.going c.next.ensures c.in-Closes.ensures (seek_closes_outer c.loop-depth.depth (c.loop-depth.least + 1) (omega (arith, c.if-depth-le1.true))))

pub loop-depth-preserved-in-Closes-2 : goal.loop-depth-preserved-in-Closes-2
loop-depth-preserved-in-Closes-2 c =
    let t = c.next.result in
    let w = c.loop-depth.invariant in
    let s = turn_shorter Closes refl t.kind t.text.now c.loop-depth.lexer c.next.new.self (lexeme t) c.in-Closes-2.ensures c.next.ensures in
    record {
      within = omega (arith, s, w.within);
      going = seek_on (c.args.most + 1) t.kind t.text.now c.args.lexer.now c.loop-depth.lexer c.next.new.self (lexeme t) Closes c.loop-depth.depth (c.loop-depth.least + 1) (seeking (c.loop-depth.depth - 1) (c.loop-depth.least + 1)) refl w.going c.next.ensures c.in-Closes-2.ensures (seek_closes_inner c.loop-depth.depth (c.loop-depth.least + 1) (omega (arith, c.if-depth-le1.false)));
    }

pub loop-depth-preserved-in-Parts : goal.loop-depth-preserved-in-Parts
loop-depth-preserved-in-Parts c =
    let t = c.next.result in
    let w = c.loop-depth.invariant in
    let s = turn_shorter Parts refl t.kind t.text.now c.loop-depth.lexer c.next.new.self (lexeme t) c.in-Parts.ensures c.next.ensures in
    record {
      within = omega (arith, s, w.within);
      going = seek_on (c.args.most + 1) t.kind t.text.now c.args.lexer.now c.loop-depth.lexer c.next.new.self (lexeme t) Parts c.loop-depth.depth (c.loop-depth.least + 1) (seeking c.loop-depth.depth (c.min-least.result + 1)) refl w.going c.next.ensures c.in-Parts.ensures (seek_parts c.loop-depth.depth c.loop-depth.least ∙ ap (λ x. seeking c.loop-depth.depth (x + 1)) (sym (c.min-least.ensures ∙ ap (λ x. min c.loop-depth.least x) c.saturating_sub.ensures)));
    }

pub loop-depth-preserved : goal.loop-depth-preserved
loop-depth-preserved c =
    let t = c.next.result in
    let w = c.loop-depth.invariant in
    let s = turn_shorter Stays refl t.kind t.text.now c.loop-depth.lexer c.next.new.self (lexeme t) c.in-Stays.ensures c.next.ensures in
    record {
      within = omega (arith, s, w.within);
      going = seek_on (c.args.most + 1) t.kind t.text.now c.args.lexer.now c.loop-depth.lexer c.next.new.self (lexeme t) Stays c.loop-depth.depth (c.loop-depth.least + 1) (seeking c.loop-depth.depth (c.loop-depth.least + 1)) refl w.going c.next.ensures c.in-Stays.ensures (refl);
    }

pub returns-in-Over : goal.returns-in-Over
returns-in-Over c =
    let t = c.next.result in
    ended_as c.args.lexer.now c.next.new.self (sought (seeking 0 (c.args.most + 1))) (c.loop-depth.least + 1) (λ n. n - 1) c.loop-depth.least (omega arith)
    (seek_on (c.args.most + 1) t.kind t.text.now c.args.lexer.now c.loop-depth.lexer c.next.new.self (lexeme t) Over c.loop-depth.depth (c.loop-depth.least + 1) (found (c.loop-depth.least + 1)) refl c.loop-depth.invariant.going c.next.ensures c.in-Over.ensures (refl))
