use Rattle.std.proofs.Common.{arith}
use Rattle.cg_check_context.proofs.SourceSteps.{popped}
use Rattle.cg_check_context.proofs.source.leave.Goals as goal

pub returns : goal.returns
returns c = λ p e h. popped c.args.context.now.items c.pop.new.self.items c.pop.result p e c.pop.ensures.items
    (λ lt n. let k = c.args.context.now.ok.0 in let v = c.pop.ensures.value in grind arith) h
