use Rattle.std.proofs.Common.{[], ◌∷◌, ap, ◌∙◌}
use Rattle.cg_ctree.specs.Trees.{assign}
use Rattle.cg_cgen.proofs.Statements.{shifted_is}
use Rattle.cg_cgen.proofs.ops.shifted.Goals as goal

pub returns : goal.returns
returns c =
    shifted_is c.args.op c.args.word c.args.to c.in_ok-test.test c.args.left c.args.right c.in_ok-stmts.stmts c.in_ok-yes.yes c.new.result c.push.new.self c.in_ok-test.ensures
    c.in_ok-stmts.ensures (c.in_ok-yes.ensures ∙ ap (λ z. assign c.args.to z ∷ []) c.binary.ensures) c.new.ensures c.in_ok-push.ensures.ok
