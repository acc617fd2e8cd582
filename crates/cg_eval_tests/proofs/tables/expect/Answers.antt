use Rattle.std.proofs.Common.{◌≡◌, Some, [], true, refl, subst, arith}
use Rattle.std.specs.Prelude.{IsTrue, slice_get}
use Rattle.cg_base.specs.Types.{word}
use Rattle.cg_base.specs.declared.fun.Fun.TheVariants.{User}
use Rattle.cg_base.specs.declared.kind.Word.TheVariants.{U32}
use Rattle.cg_core.specs.Kernels.{function_of, kernel_of}
use Rattle.cg_eval_def.specs.Foreigns.{IsClosed, world_of}
use Rattle.cg_eval_laws.proofs.Outcomes.{sound_not_stuck}
use Rattle.cg_typing.specs.Holds.{kernel_in}
use Rattle.cg_value.specs.declared.value.Value.TheVariants.{Num}
use Rattle.cg_value.specs.Fits.{fits}
use Rattle.cg_value.specs.Values.{function, value_of}
use Rattle.cg_eval_tests.specs.Halving.{arrow_is, halving, halving_is_lawful}
use Rattle.cg_eval_tests.proofs.Meanings.{value_fits}
use Rattle.cg_eval_tests.proofs.tables.expect.Goals as goal

pub eval_with-requires : goal.eval_with-requires
eval_with-requires g c =
    let kernel = kernel_in c.args.checked.now in
    let f = function_of c.in-Some._function.now in
    let same : c.kernel-kernel.result.now ≡ kernel = c.kernel-kernel.ensures in
    let world = world_of halving (kernel_of kernel) (λ i. true) in
    let closed = subst (λ k. IsClosed halving (kernel_of k) (λ i. true)) same (c.if-not-is_closed.ensures refl) in
    let there = subst (λ k. slice_get (kernel_of k) c.args.fun ≡ Some f) same c.in-Some.ensures.there in
    let none = c.in-Some.ensures.without in
    let is = arrow_is f.ty.ty c.in-Some.ensures.is in
    let known = subst (λ t. IsTrue (fits world t (function (User c.args.fun) []))) is (c.functions_fit.ensures halving c.args.checked.now (λ i. true) c.args.fun f there refl none) in
    let fine = value_fits world c.from.result (omega (arith, c.from.ensures, c.ranges.arg.fits)) in
    let sound = c.calls_are_sound.ensures halving halving_is_lawful c.args.checked.now (λ i. true) closed (word U32) (word U32) (function (User c.args.fun) []) (value_of (Num c.from.result)) c.args.steps known fine in
    record { never_stuck = sound_not_stuck world (word U32) _ sound }
