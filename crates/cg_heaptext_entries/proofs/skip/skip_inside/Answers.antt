use Rattle.std.proofs.Common.{◌+◌, ◌-◌, ◌<◌, refl, arith, Some, None}
use Rattle.cg_heaptext_lexer.specs.Next.{lexeme}
use Rattle.cg_heaptext_entries.specs.declared.skip.Turn.TheVariants.{Opens, Closes, Stays, Over}
use Rattle.cg_heaptext_entries.proofs.Skips.{closes_inner, closes_outer, gone_by, opens_inner, turn_shorter, turned}
use Rattle.cg_heaptext_entries.proofs.skip.skip_inside.Goals as goal

pub loop-depth-preserved-in-Opens : goal.loop-depth-preserved-in-Opens
loop-depth-preserved-in-Opens c =
    let t = c.next-token.result in
    let w = c.loop-depth.invariant in
    let s = turn_shorter t.kind t.text.now c.loop-depth.lexer c.next-token.new.self (lexeme t) Opens c.in-Opens.ensures refl c.next-token.ensures in
    record {
      within = omega (arith, s, w.within);
      shorter = omega (arith, s, w.shorter);
      going = turned t.kind t.text.now c.args.lexer.now c.loop-depth.lexer c.next-token.new.self (lexeme t) Opens c.loop-depth.depth (Some (c.loop-depth.depth + 1)) refl w.going c.next-token.ensures c.in-Opens.ensures (opens_inner c.loop-depth.depth);
    }

pub returns-in-Closes-clause-passes : goal.returns-in-Closes-clause-passes
returns-in-Closes-clause-passes c =
    let t = c.next-token.result in
    let w = c.loop-depth.invariant in
    gone_by c.args.lexer.now c.next-token.new.self
    (turned t.kind t.text.now c.args.lexer.now c.loop-depth.lexer c.next-token.new.self (lexeme t) Closes c.loop-depth.depth None refl w.going c.next-token.ensures c.in-Closes.ensures (closes_outer c.loop-depth.depth c.if-depth-eq0.true))

pub loop-depth-preserved-in-Closes-2 : goal.loop-depth-preserved-in-Closes-2
loop-depth-preserved-in-Closes-2 c =
    let t = c.next-token.result in
    let w = c.loop-depth.invariant in
    let s = turn_shorter t.kind t.text.now c.loop-depth.lexer c.next-token.new.self (lexeme t) Closes c.in-Closes-2.ensures refl c.next-token.ensures in
    let d : 0 < c.loop-depth.depth = omega (arith, c.if-depth-eq0.false) in
    record {
      within = omega (arith, s, w.within);
      shorter = omega (arith, s, w.shorter);
      going = turned t.kind t.text.now c.args.lexer.now c.loop-depth.lexer c.next-token.new.self (lexeme t) Closes c.loop-depth.depth (Some (c.loop-depth.depth - 1)) refl w.going c.next-token.ensures c.in-Closes-2.ensures (closes_inner c.loop-depth.depth d);
    }

pub loop-depth-preserved : goal.loop-depth-preserved
loop-depth-preserved c =
    let t = c.next-token.result in
    let w = c.loop-depth.invariant in
    let s = turn_shorter t.kind t.text.now c.loop-depth.lexer c.next-token.new.self (lexeme t) Stays c.in-Stays.ensures refl c.next-token.ensures in
    record {
      within = omega (arith, s, w.within);
      shorter = omega (arith, s, w.shorter);
      going = turned t.kind t.text.now c.args.lexer.now c.loop-depth.lexer c.next-token.new.self (lexeme t) Stays c.loop-depth.depth (Some c.loop-depth.depth) refl w.going c.next-token.ensures c.in-Stays.ensures refl;
    }

pub returns-in-Over-clause-passes : goal.returns-in-Over-clause-passes
returns-in-Over-clause-passes c =
    let t = c.next-token.result in
    let w = c.loop-depth.invariant in
    gone_by c.args.lexer.now c.next-token.new.self
    (turned t.kind t.text.now c.args.lexer.now c.loop-depth.lexer c.next-token.new.self (lexeme t) Over c.loop-depth.depth None refl w.going c.next-token.ensures c.in-Over.ensures refl)
