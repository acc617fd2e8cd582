use Rattle.std.proofs.Common.{◌+◌, ◌-◌, ◌<◌, length, ap, refl, arith, Some, None}
use Rattle.cg_heaptext_lexer.specs.Next.{Cursor, lexeme}
use Rattle.cg_heaptext_mentions.specs.declared.step.Step.TheVariants.{At, Opens, Closes, Stays, Over}
use Rattle.cg_heaptext_mentions.proofs.Walk.{closes_inner, closes_outer, mention_turned, opens_inner, other_turned, scanned, scans_absent, scans_out, step_shorter}
use Rattle.cg_heaptext_mentions.proofs.scan.scan.Goals as goal

pub loop-lexer-preserved-in-At : goal.loop-lexer-preserved-in-At
loop-lexer-preserved-in-At c =
    let t = c.next-token.result in
    let w = c.loop-lexer.invariant in
    let s = step_shorter t.kind t.text.now c.loop-lexer.lexer c.next-token.new.self (lexeme t) At c.in-At.ensures refl c.next-token.ensures in
    record {
      within = omega (arith, s, w.within);
      scanned =
          mention_turned c.args.addresses.now t.kind t.text.now c.args.from.now c.loop-lexer.lexer c.next-token.new.self (lexeme t) refl c.next-token.ensures c.loop-lexer.depth c.args.before c.loop-lexer.found w.scanned c.note_at-found.result
          c.in-At.ensures c.note_at-found.ensures.absent c.note_at-found.ensures.out;
    }

pub loop-lexer-preserved-in-Opens : goal.loop-lexer-preserved-in-Opens
loop-lexer-preserved-in-Opens c =
    let t = c.next-token.result in
    let w = c.loop-lexer.invariant in
    let s = step_shorter t.kind t.text.now c.loop-lexer.lexer c.next-token.new.self (lexeme t) Opens c.in-Opens.ensures refl c.next-token.ensures in
    record {
      within = omega (arith, s, w.within);
      scanned =
          other_turned c.args.addresses.now t.kind t.text.now c.args.from.now c.loop-lexer.lexer c.next-token.new.self (lexeme t) refl c.next-token.ensures c.loop-lexer.depth c.args.before c.loop-lexer.found w.scanned Opens (Some (c.loop-lexer.depth + 1))
          c.in-Opens.ensures (opens_inner c.loop-lexer.depth) (λ us. refl);
    }

pub loop-lexer-preserved-in-Closes-2 : goal.loop-lexer-preserved-in-Closes-2
loop-lexer-preserved-in-Closes-2 c =
    let t = c.next-token.result in
    let w = c.loop-lexer.invariant in
    let s = step_shorter t.kind t.text.now c.loop-lexer.lexer c.next-token.new.self (lexeme t) Closes c.in-Closes-2.ensures refl c.next-token.ensures in
    let d : 0 < c.loop-lexer.depth = omega (arith, c.if-depth-eq0.false) in
    record {
      within = omega (arith, s, w.within);
      scanned =
          other_turned c.args.addresses.now t.kind t.text.now c.args.from.now c.loop-lexer.lexer c.next-token.new.self (lexeme t) refl c.next-token.ensures c.loop-lexer.depth c.args.before c.loop-lexer.found w.scanned Closes (Some (c.loop-lexer.depth - 1))
          c.in-Closes-2.ensures (closes_inner c.loop-lexer.depth d) (λ us. refl);
    }

pub loop-lexer-preserved : goal.loop-lexer-preserved
loop-lexer-preserved c =
    let t = c.next-token.result in
    let w = c.loop-lexer.invariant in
    let s = step_shorter t.kind t.text.now c.loop-lexer.lexer c.next-token.new.self (lexeme t) Stays c.in-Stays.ensures refl c.next-token.ensures in
    record {
      within = omega (arith, s, w.within);
      scanned =
          other_turned c.args.addresses.now t.kind t.text.now c.args.from.now c.loop-lexer.lexer c.next-token.new.self (lexeme t) refl c.next-token.ensures c.loop-lexer.depth c.args.before c.loop-lexer.found w.scanned Stays (Some c.loop-lexer.depth)
          c.in-Stays.ensures refl (λ us. refl);
    }

pub returns-in-Closes-clause-absent : goal.returns-in-Closes-clause-absent
returns-in-Closes-clause-absent c =
    let t = c.next-token.result in
    scans_absent c.args.addresses.now c.args.from.now c.next-token.new.self c.args.before c.loop-lexer.found
    (other_turned c.args.addresses.now t.kind t.text.now c.args.from.now c.loop-lexer.lexer c.next-token.new.self (lexeme t) refl c.next-token.ensures c.loop-lexer.depth c.args.before c.loop-lexer.found c.loop-lexer.invariant.scanned Closes None
    c.in-Closes.ensures (closes_outer c.loop-lexer.depth c.if-depth-eq0.true) (λ us. refl))

pub returns-in-Closes-clause-out : goal.returns-in-Closes-clause-out
returns-in-Closes-clause-out c =
    let t = c.next-token.result in
    scans_out c.args.addresses.now c.args.from.now c.next-token.new.self c.args.before c.loop-lexer.found
    (other_turned c.args.addresses.now t.kind t.text.now c.args.from.now c.loop-lexer.lexer c.next-token.new.self (lexeme t) refl c.next-token.ensures c.loop-lexer.depth c.args.before c.loop-lexer.found c.loop-lexer.invariant.scanned Closes None
    c.in-Closes.ensures (closes_outer c.loop-lexer.depth c.if-depth-eq0.true) (λ us. refl))

pub returns-in-Over-clause-absent : goal.returns-in-Over-clause-absent
returns-in-Over-clause-absent c =
    let t = c.next-token.result in
    scans_absent c.args.addresses.now c.args.from.now c.next-token.new.self c.args.before c.loop-lexer.found
    (other_turned c.args.addresses.now t.kind t.text.now c.args.from.now c.loop-lexer.lexer c.next-token.new.self (lexeme t) refl c.next-token.ensures c.loop-lexer.depth c.args.before c.loop-lexer.found c.loop-lexer.invariant.scanned Over None
    c.in-Over.ensures refl (λ us. refl))

pub returns-in-Over-clause-out : goal.returns-in-Over-clause-out
returns-in-Over-clause-out c =
    let t = c.next-token.result in
    scans_out c.args.addresses.now c.args.from.now c.next-token.new.self c.args.before c.loop-lexer.found
    (other_turned c.args.addresses.now t.kind t.text.now c.args.from.now c.loop-lexer.lexer c.next-token.new.self (lexeme t) refl c.next-token.ensures c.loop-lexer.depth c.args.before c.loop-lexer.found c.loop-lexer.invariant.scanned Over None
    c.in-Over.ensures refl (λ us. refl))

pub loop-lexer-init : goal.loop-lexer-init
loop-lexer-init c = record {
  within = omega (arith, ap (λ (x : Cursor). length x.rest) c.copy-lexer.ensures, c.left-most.ensures);
  scanned = scanned c.args.addresses.now c.args.from.now c.copy-lexer.result c.args.before c.copy-lexer.ensures;
}
