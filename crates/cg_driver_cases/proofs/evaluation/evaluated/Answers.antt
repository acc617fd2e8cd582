use Rattle.std.proofs.Common.{◌≡◌, Some, true, refl, subst, sym, ◌∙◌}
use Rattle.std.specs.Prelude.{slice_get}
use Rattle.cg_base.specs.Types.{type_of}
use Rattle.cg_core.specs.Kernels.{function_of, kernel_of}
use Rattle.cg_eval_def.specs.Foreigns.{world_of}
use Rattle.cg_driver_cases.specs.Whole.{HasBodies}
use Rattle.cg_eval_laws.proofs.Outcomes.{sound_not_stuck}
use Rattle.cg_driver_cases.proofs.Whole.{whole_sources_are_sound}
use Rattle.cg_typing.specs.Holds.{kernel_in}
use Rattle.cg_value.specs.NoForeign.{no_foreign}
use Rattle.cg_value.specs.Values.{value_of}
use Rattle.cg_driver_cases.proofs.evaluation.evaluated.Goals as goal

pub eval-requires : goal.eval-requires
eval-requires c =
    let kernel = kernel_in c.args.checked.now in
    let function = function_of c.in-Some.function.now in
    let to = type_of c.in-Some-ends_of.to.now in
    let same : c.kernel-kernel.result.now ≡ kernel = c.kernel-kernel.ensures in
    let whole = subst (λ k. HasBodies (kernel_of k)) same (c.if-not-is_whole.ensures refl) in
    let there = subst (λ k. slice_get (kernel_of k) c.in-Some.at ≡ Some function) same c.in-Some.ensures in
    let fine = sym c.fits.ensures ∙ c.if-not-fits.false in
    let sound = whole_sources_are_sound c.args.checked.now whole c.in-Some.at c.args.steps function (type_of c.in-Some-ends_of.from.now) to
    (value_of c.args.arg) there c.in-Some-ends_of.ensures.without c.in-Some-ends_of.ensures.ends fine in
    record { never_stuck = sound_not_stuck (world_of no_foreign (kernel_of kernel) (λ i. true)) to _ sound }
