-- Scalars by their places.
use Rattle.std.proofs.Common.{◌≡◌, List, [], ◌∷◌, refl}
use Rattle.std.specs.Prelude.{get_or}
use Rattle.cg_heap.specs.declared.cell.Scalar.{Scalar}
use Rattle.cg_heap.specs.declared.cell.Scalar.TheVariants.{Unset}
use Rattle.cg_heap.specs.Reps.{head, tail}

pub first_is : (us : List Scalar) → get_or us 0 Unset ≡ head us
first_is [] = refl
first_is (u ∷ us) = refl

pub second_is : (us : List Scalar) → get_or us 1 Unset ≡ head (tail us)
second_is [] = refl
second_is (u ∷ []) = refl
second_is (u ∷ v ∷ us) = refl

pub third_is : (us : List Scalar) → get_or us 2 Unset ≡ head (tail (tail us))
third_is [] = refl
third_is (u ∷ []) = refl
third_is (u ∷ v ∷ []) = refl
third_is (u ∷ v ∷ w ∷ us) = refl

pub ruleset place_steps = (first_is, second_is, third_is)
