use Rattle.std.proofs.Common.{arith, sym, subst}
use Rattle.cg_inst.specs.Keyed.{AreKeyed}
use Rattle.cg_inst.proofs.FoundSteps.{entered, too_many}
use Rattle.cg_inst.proofs.found.Found.enter.Goals as goal

pub invariant_of-self : goal.invariant_of-self
invariant_of-self c = subst (AreKeyed c.self.inside.table) (sym c.in_err-enter.ensures.err) c.self.invariant

pub returns-then-len-gt4096-clause-found : goal.returns-then-len-gt4096-clause-found
returns-then-len-gt4096-clause-found c =
    too_many _ c.enter.new.self _ 4096
    (entered c.args.self.now c.self.inside.table c.self.inside.keys c.enter.new.self (record { fun = c.args.fun; types = c.args.types }) c.self.view_is c.stands_once.ensures c.self.invariant c.requires c.in_ok-enter.ensures.ok)
    (omega (arith, c.if-len-gt4096.true, c.len.ensures))

pub returns-clause-found : goal.returns-clause-found
returns-clause-found c =
    entered c.args.self.now c.self.inside.table c.self.inside.keys c.enter.new.self (record { fun = c.args.fun; types = c.args.types }) c.self.view_is c.stands_once.ensures c.self.invariant c.requires c.in_ok-enter.ensures.ok
