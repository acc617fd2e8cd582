use Rattle.std.proofs.Common.{◌≡◌, ap, rules, sym, ◌∙◌}
use Rattle.cg_certcheck_context.specs.Contexts.{entry_of}
use Rattle.cg_base.specs.declared.ty.Ty.{the_lemmas}
use Rattle.cg_base.specs.declared.ty.Ty.TheVariants.{Unit}
use Rattle.cg_base.specs.Types.{type_of, unit}
use Rattle.cg_kinds.specs.Kinds.{or_unit}
use Rattle.cg_check_pieces.specs.View.{bounds_of}
use Rattle.cg_certcheck_context.proofs.context.type_at.Goals as goal

pub returns-in-Gone : goal.returns-in-Gone
returns-in-Gone c =
    let vars = bounds_of c.args.source.now.vars.now in
    let own : type_of Unit ≡ unit = search (rules, the_lemmas) in
    own ∙ sym (ap (λ e. or_unit (entry_of vars e)) c.in-Gone.is) ∙ ap or_unit (c.entry_at.ensures vars)

pub returns-in-Present : goal.returns-in-Present
returns-in-Present c = let e = ap or_unit (c.entry_at.ensures (bounds_of c.args.source.now.vars.now)) in search (rules, e)

pub returns-in_ok-copy-in-Observed : goal.returns-in_ok-copy-in-Observed
returns-in_ok-copy-in-Observed c = let e = ap or_unit (c.entry_at.ensures (bounds_of c.args.source.now.vars.now)) in search (rules, e)
