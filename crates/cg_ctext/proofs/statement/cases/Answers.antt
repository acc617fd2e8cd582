use Rattle.std.proofs.Common.{◌≡◌, ℕ, List, ◌++◌, OnOk, subst}
use Rattle.cg_ctext.specs.Waiting.{waits}
use Rattle.cg_ctext.proofs.Waiting.{first_is, cases_first}
use Rattle.cg_ctext.proofs.statement.cases.Goals as goal

pub returns-in_ok-push-in-len1-up-clause-prints : goal.returns-in_ok-push-in-len1-up-clause-prints
returns-in_ok-push-in-len1-up-clause-prints c =
    subst (λ (z : List ℕ). OnOk c.begin_case.result (c.begin_case.new.text.items ++ waits c.begin_case.new.tasks.items ≡ z))
    (cases_first c.args.level c.args.text.now.items c.args.tasks.now.items c.push.new.self.items c.args.arms.now c.case-item.result _
    (first_is c.args.arms.now c.case-item.result c.in-len1-up.len_at_least c.case-item.is) c.in_ok-push-in-len1-up.ensures.items)
    c.begin_case.ensures.prints
