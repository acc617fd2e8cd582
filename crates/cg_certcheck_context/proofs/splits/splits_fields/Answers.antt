use Rattle.std.proofs.Common.{◌≡◌, ◌-◌, IfOk, length, arith, sym, subst}
use Rattle.cg_certcheck_context.proofs.SplitSteps.{fields_unless, fields_when}
use Rattle.cg_certcheck_context.specs.Contexts.{context_of}
use Rattle.cg_check_pieces.specs.View.{bounds_of}
use Rattle.cg_certcheck_context.proofs.splits.splits_fields.Goals as goal

pub returns-then-strings-saturating_sub : goal.returns-then-strings-saturating_sub
returns-then-strings-saturating_sub c =
    let len = c.len.ensures in
    let less = c.saturating_sub.ensures in
    let other = c.if-strings-saturating_sub.true in
    sym (fields_unless (bounds_of c.args.source.now.vars.now) c.args.fields.now c.args.strings.now
    (context_of (bounds_of c.args.source.now.vars.now) c.args.context.now) (λ e. other (omega (arith, e))))

pub returns : goal.returns
returns c =
    let len = c.len.ensures in
    let less = c.saturating_sub.ensures in
    let long : length c.args.strings.now ≡ length c.args.fields.now - 1 = omega arith in
    subst (λ b. IfOk c.split_all.result (λ fine. fine ≡ b))
    (sym (fields_when (bounds_of c.args.source.now.vars.now) c.args.fields.now c.args.strings.now
    (context_of (bounds_of c.args.source.now.vars.now) c.args.context.now) long)) c.split_all.ensures
