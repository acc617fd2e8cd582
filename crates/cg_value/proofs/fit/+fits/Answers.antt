use Rattle.std.proofs.Common.{sym, ◌∙◌}
use Rattle.cg_value.proofs.FitSteps.{fields_past, other_number}
use Rattle.cg_value.specs.Foreign.{first_order}
use Rattle.cg_value.specs.NoForeign.{no_foreign}
use Rattle.cg_value.proofs.fit.+fits.Goals as goal

pub fit_fields-returns-then-values-parts : goal.fit_fields-returns-then-values-parts
fit_fields-returns-then-values-parts t c = sym (other_number (first_order no_foreign) c.args.values.now c.args.parts.now c.if-values-parts.true)

pub fit_fields-returns : goal.fit_fields-returns
fit_fields-returns t c =
    sym (fields_past (first_order no_foreign) c.args.values.now c.args.parts.now c.loop-i.i c.loop-i-test.false (sym c.if-values-parts.false)) ∙ c.loop-i.invariant
