use Rattle.std.proofs.Common.{◌&&◌, ap, sym, ◌∙◌}
use Rattle.cg_certcheck_def.specs.Tests.{drops_but}
use Rattle.cg_certcheck_context.specs.Contexts.{context_of}
use Rattle.cg_check_pieces.specs.View.{bounds_of}
use Rattle.cg_certcheck_context.proofs.tests.ends_with.Goals as goal

pub returns-then-is_present : goal.returns-then-is_present
returns-then-is_present c =
    let vars = bounds_of c.args.source.now.vars.now in
    let rest = drops_but vars c.args.used (context_of vars c.args.context.now) in
    c.drops_but.ensures ∙ sym (ap (λ b. b && rest) (sym (c.is_present.ensures vars) ∙ c.if-is_present.true))

pub returns-else-is_present : goal.returns-else-is_present
returns-else-is_present c =
    let vars = bounds_of c.args.source.now.vars.now in
    let rest = drops_but vars c.args.used (context_of vars c.args.context.now) in
    c.if-is_present.false ∙ sym (ap (λ b. b && rest) (sym (c.is_present.ensures vars) ∙ c.if-is_present.false))
