-- What holds of the kernel of the generated source (docs/LANGUAGE.md, "Generator").
use Rattle.std.specs.Prelude.{ℕ, ◌<◌, ◌≤◌, ◌^◌, List, [], Option, map}
use Rattle.std.specs.List.{range_with_len}
use Rattle.cg_base.specs.declared.fun.Fun.TheVariants.{User}
use Rattle.cg_core.specs.Derivations.{Derivation}
use Rattle.cg_typing.specs.Accepted.{IsAcceptedKernel}
use Rattle.cg_typing.specs.Holds.{kept_at}
use Rattle.cg_typing.specs.Kept.{AreKept}
use Rattle.cg_faults.specs.Fails.{AreTypesWithin}
use Rattle.cg_inst.specs.Judged.{IsWithin}
use Rattle.cg_gen_def.specs.Kernels.{cores, functions}

-- The cores of the kernel erase to its bodies, and the typing rules derive each, so long as the number of each function, which stands in its body,
-- is one of `U32`.
abbrev pub CoresAreDerived : Type 0
CoresAreDerived = (n : ℕ) → n < 2 ^ 32 → (trees : List (Option Derivation)) × AreKept (functions n) (functions n) (cores n) trees

-- The kernel is accepted, so long as these numbers are.
abbrev pub KernelIsAccepted : Type 0
KernelIsAccepted = (n : ℕ) → n < 2 ^ 32 → IsAcceptedKernel (functions n)

-- No type of a node has more nodes than a type may have.
abbrev pub TypesAreSmall : Type 0
TypesAreSmall = (n : ℕ) → AreTypesWithin (functions n)

-- Its instances are its functions, in their order, within all limits.
abbrev pub InstancesAreWithin : Type 0
InstancesAreWithin =
    (n : ℕ) → n ≤ 4096 → IsWithin (functions n) (λ i. kept_at (cores n) i) (map (λ i. record { fun = User i; types = [] }) (range_with_len 0 n))
