use Rattle.std.proofs.Common.{length, slice_set, arith, sym, ap, ◌∙◌}
use Rattle.std.proofs.lemmas.List.{length-set}
use Rattle.cg_core.specs.declared.derivation.Mark.TheVariants.{Right}
use Rattle.cg_check_uses.proofs.SettleSteps.{put_back}
use Rattle.cg_check_uses.proofs.TableSteps.{set_past}
use Rattle.cg_check_uses.proofs.kept.keep_one.Goals as goal

pub returns-then-at-marks : goal.returns-then-at-marks
returns-then-at-marks c =
    let value = c.as_mut_slice-marks.ensures.value in
    put_back c.args.string.now (slice_set c.as_mut_slice-marks.result.now c.args.at Right) (length-set c.as_mut_slice-marks.result.now c.args.at Right ∙ ap length value)
    ∙ ap (λ ms. slice_set ms c.args.at Right) value

pub returns-else-at-marks : goal.returns-else-at-marks
returns-else-at-marks c =
    let value = c.as_mut_slice-marks.ensures.value in
    put_back c.args.string.now c.as_mut_slice-marks.result.now (ap length value) ∙ value
    ∙ sym (set_past c.args.string.now c.args.at Right (omega (arith, c.if-at-marks.false, ap length value)))
