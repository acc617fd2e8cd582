use Rattle.std.proofs.Common.{refl, sym, ◌∙◌}
use Rattle.cg_cert.specs.Views.{state_of}
use Rattle.cg_cert.proofs.Says.{shut_answers, end_answers}
use Rattle.cg_cert.proofs.read.read_cert.Goals as goal

pub returns-then-not-is_open : goal.returns-then-not-is_open
returns-then-not-is_open c =
    shut_answers c.args.bytes.now c.loop-at.at (state_of c.loop-at.reader) c.loop-at.invariant _ (state_of c.step.new.self) c.loop-at-test.true refl c.in_ok-step.ensures
    (sym c.is_open.ensures ∙ c.if-not-is_open.true)

pub returns : goal.returns
returns c =
    end_answers c.args.bytes.now c.loop-at.at (state_of c.loop-at.reader) c.loop-at.invariant c.finish.result c.ok_or.result c.loop-at-test.false c.finish.ensures c.ok_or.ensures.value
