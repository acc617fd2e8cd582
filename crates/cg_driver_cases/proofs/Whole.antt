-- Sources all of whose functions have bodies: calls of them are sound over the table of nothing.
use Rattle.std.proofs.Common.{◌≡◌, ℕ, true, IsTrue, List, [], ◌∷◌, Some, refl, slice_get, subst}
use Rattle.std.specs.List.{list_all}
use Rattle.cg_base.specs.declared.fun.Fun.TheVariants.{User}
use Rattle.cg_base.specs.Types.{Tau, arrow}
use Rattle.cg_core.specs.Kernels.{Function, kernel_of}
use Rattle.cg_eval_def.specs.Evaluation.{outcome}
use Rattle.cg_eval_def.specs.Foreigns.{IsClosed, table_of, world_of}
use Rattle.cg_core_def.specs.Lawful.{body_mentions}
use Rattle.cg_eval_laws.proofs.Soundness.{calls_are_sound, functions_fit}
use Rattle.cg_eval_laws.proofs.Widening.{fits_wider}
use Rattle.cg_eval_laws.specs.Laws.{IsSound}
use Rattle.cg_driver_cases.specs.Whole.{HasBodies}
use Rattle.cg_typing.specs.declared.checked.Checked.{Checked}
use Rattle.cg_typing.specs.Holds.{kernel_in}
use Rattle.cg_value.specs.Fits.{fits}
use Rattle.cg_value.specs.Foreign.{first_order}
use Rattle.cg_value.specs.Values.{Val, function}
use Rattle.cg_value.specs.NoForeign.{no_foreign, none_is_lawful}

all_among : (is : List ℕ) → IsTrue (list_all (λ i. true) is)
all_among [] = refl
all_among (i ∷ is) = all_among is

whole_is_closed : (functions : List Function) → HasBodies functions → IsClosed no_foreign functions (λ i. true)
whole_is_closed functions whole = record {
  mentions = λ i f e among. all_among (body_mentions f.body);
  known = λ i f e among none. absurd (whole i f e none);
}

-- a source all of whose functions have bodies needs no table: a call of a function without type variables is sound, where its argument fits and
-- has in it neither functions nor users' abstract values
pub whole_sources_are_sound :
    (checked : Checked) → HasBodies (kernel_of (kernel_in checked)) → (i n : ℕ) (f : Function) (a b : Tau) (v : Val)
    → slice_get (kernel_of (kernel_in checked)) i ≡ Some f → f.vars ≡ [] → f.ty.ty ≡ arrow a b → IsTrue (fits (first_order no_foreign) a v)
    → IsSound (world_of no_foreign (kernel_of (kernel_in checked)) (λ i. true)) b (outcome (table_of no_foreign checked) n (function (User i) []) v)
whole_sources_are_sound checked whole i n f a b v e none is fitting =
    let functions = kernel_of (kernel_in checked) in
    let world = world_of no_foreign functions (λ i. true) in
    calls_are_sound no_foreign none_is_lawful checked (λ i. true) (whole_is_closed functions whole) a b (function (User i) []) v n
    (subst (λ t. IsTrue (fits world t (function (User i) []))) is (functions_fit no_foreign checked (λ i. true) i f e refl none))
    (fits_wider (first_order no_foreign) world refl (λ g types t h. absurd (cc)) a v fitting)
