use Rattle.std.proofs.Common.{◌+◌, ◌-◌, false, true, refl, arith}
use Rattle.cg_heaptext_lexer.specs.Next.{lexeme}
use Rattle.cg_heaptext_values.specs.declared.turn.Turn.TheVariants.{Opens, Closes, Parts, Stays, Over}
use Rattle.cg_heaptext_values.specs.Turns.{ended, inside, passed}
use Rattle.cg_heaptext_values.proofs.Loops.{ended_there, pass_closes_inner, pass_closes_outer, pass_on, pass_opens, pass_parts_inner, pass_parts_outer, turn_shorter}
use Rattle.cg_heaptext_values.proofs.pass.pass_value.Goals as goal

pub loop-depth-preserved-in-Opens : goal.loop-depth-preserved-in-Opens
loop-depth-preserved-in-Opens c =
    let t = c.next-token.result in
    let w = c.loop-depth.invariant in
    let s = turn_shorter Opens refl t.kind t.text.now c.loop-depth.lexer c.next-token.new.self (lexeme t) c.in-Opens.ensures c.next-token.ensures in
    record {
      within = omega (arith, s, w.within);
      going = pass_on t.kind t.text.now c.args.lexer.now c.loop-depth.lexer c.next-token.new.self (lexeme t) Opens c.loop-depth.depth (inside (c.loop-depth.depth + 1)) refl w.going c.next-token.ensures c.in-Opens.ensures (pass_opens c.loop-depth.depth);
    }

pub returns-in-Closes : goal.returns-in-Closes
returns-in-Closes c =
    let t = c.next-token.result in
    ended_there c.args.lexer.now c.next-token.new.self (passed (inside 0)) false
    (pass_on t.kind t.text.now c.args.lexer.now c.loop-depth.lexer c.next-token.new.self (lexeme t) Closes c.loop-depth.depth (ended false) refl c.loop-depth.invariant.going c.next-token.ensures c.in-Closes.ensures (pass_closes_outer c.loop-depth.depth c.if-depth-eq0.true))

pub loop-depth-preserved-in-Closes-2 : goal.loop-depth-preserved-in-Closes-2
loop-depth-preserved-in-Closes-2 c =
    let t = c.next-token.result in
    let w = c.loop-depth.invariant in
    let s = turn_shorter Closes refl t.kind t.text.now c.loop-depth.lexer c.next-token.new.self (lexeme t) c.in-Closes-2.ensures c.next-token.ensures in
    record {
      within = omega (arith, s, w.within);
      going = pass_on t.kind t.text.now c.args.lexer.now c.loop-depth.lexer c.next-token.new.self (lexeme t) Closes c.loop-depth.depth (inside (c.loop-depth.depth - 1)) refl w.going c.next-token.ensures c.in-Closes-2.ensures (pass_closes_inner c.loop-depth.depth (omega (arith, c.if-depth-eq0.false)));
    }

pub returns-in-Parts : goal.returns-in-Parts
returns-in-Parts c =
    let t = c.next-token.result in
    ended_there c.args.lexer.now c.next-token.new.self (passed (inside 0)) true
    (pass_on t.kind t.text.now c.args.lexer.now c.loop-depth.lexer c.next-token.new.self (lexeme t) Parts c.loop-depth.depth (ended true) refl c.loop-depth.invariant.going c.next-token.ensures c.in-Parts.ensures (pass_parts_outer c.loop-depth.depth c.if-depth-eq0-2.true))

pub loop-depth-preserved-else-depth-eq0-2 : goal.loop-depth-preserved-else-depth-eq0-2
loop-depth-preserved-else-depth-eq0-2 c =
    let t = c.next-token.result in
    let w = c.loop-depth.invariant in
    let s = turn_shorter Parts refl t.kind t.text.now c.loop-depth.lexer c.next-token.new.self (lexeme t) c.in-Parts.ensures c.next-token.ensures in
    record {
      within = omega (arith, s, w.within);
      going = pass_on t.kind t.text.now c.args.lexer.now c.loop-depth.lexer c.next-token.new.self (lexeme t) Parts c.loop-depth.depth (inside c.loop-depth.depth) refl w.going c.next-token.ensures c.in-Parts.ensures (pass_parts_inner c.loop-depth.depth (omega (arith, c.if-depth-eq0-2.false)));
    }

pub loop-depth-preserved : goal.loop-depth-preserved
loop-depth-preserved c =
    let t = c.next-token.result in
    let w = c.loop-depth.invariant in
    let s = turn_shorter Stays refl t.kind t.text.now c.loop-depth.lexer c.next-token.new.self (lexeme t) c.in-Stays.ensures c.next-token.ensures in
    record {
      within = omega (arith, s, w.within);
      going = pass_on t.kind t.text.now c.args.lexer.now c.loop-depth.lexer c.next-token.new.self (lexeme t) Stays c.loop-depth.depth (inside c.loop-depth.depth) refl w.going c.next-token.ensures c.in-Stays.ensures (refl);
    }

pub returns-in-Over : goal.returns-in-Over
returns-in-Over c =
    let t = c.next-token.result in
    ended_there c.args.lexer.now c.next-token.new.self (passed (inside 0)) false
    (pass_on t.kind t.text.now c.args.lexer.now c.loop-depth.lexer c.next-token.new.self (lexeme t) Over c.loop-depth.depth (ended false) refl c.loop-depth.invariant.going c.next-token.ensures c.in-Over.ensures (refl))
