use Rattle.std.proofs.Common.{◌≡◌, ℕ, List, ◌++◌, OnOk, subst}
use Rattle.cg_ctext.specs.Waiting.{waits}
use Rattle.cg_ctext.proofs.Waiting.{first_is, statements_first}
use Rattle.cg_ctext.proofs.statement.statements.Goals as goal

pub returns-in_ok-push-in-len1-up-clause-prints : goal.returns-in_ok-push-in-len1-up-clause-prints
returns-in_ok-push-in-len1-up-clause-prints c =
    subst (λ (z : List ℕ). OnOk c.statement.result (c.statement.new.text.items ++ waits c.statement.new.tasks.items ≡ z))
    (statements_first c.args.level c.args.text.now.items c.args.tasks.now.items c.push.new.self.items c.args.stmts.now c.stmt-item.result _
    (first_is c.args.stmts.now c.stmt-item.result c.in-len1-up.len_at_least c.stmt-item.is) c.in_ok-push-in-len1-up.ensures.items)
    c.statement.ensures.prints
