use Rattle.std.proofs.Common.{◌≡◌, [], ◌∷◌, map, IfOk, ap, ◌∙◌, subst}
use Rattle.cg_ctree.specs.Trees.{assign, stmt_of}
use Rattle.cg_cgen.proofs.Statements.{divided_is}
use Rattle.cg_cgen.proofs.ops.divided.Goals as goal

pub returns : goal.returns
returns c =
    subst (λ z. IfOk c.choice.result (λ stmts. map stmt_of stmts ≡ z))
    (divided_is c.args.op c.args.word c.args.to c.args.left c.args.right c.in_ok-divisor.divisor c.in_ok-yes.yes c.in_ok-no.no c.in_ok-divisor.ensures
    (c.in_ok-yes.ensures ∙ ap (λ z. assign c.args.to z ∷ []) c.binary.ensures) c.in_ok-no.ensures)
    c.choice.ensures
