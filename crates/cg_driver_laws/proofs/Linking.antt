-- Each abstract function of a list can be linked: no two instances have one C name.
use Rattle.std.proofs.Common.{◌≡◌, ℕ, zero, suc, ◌+◌, ◌≤◌, ◌^◌, Option, Some, None, List, [], ◌∷◌, length, slice_get, if◌then◌else◌, ap, ◌∙◌, arith}
use Rattle.std.proofs.lemmas.Option.{slice_get_within}
use Rattle.cg_base.proofs.Sequences.{itself}
use Rattle.cg_base.specs.declared.fun.Fun.{Fun}
use Rattle.cg_base.specs.declared.fun.Fun.TheVariants.{User, Lib as OfLib}
use Rattle.cg_cgen_def.specs.Names.{function_name}
use Rattle.cg_cmachine_def.specs.Runs.{linked_to}
use Rattle.cg_core.specs.Kernels.{Function}
use Rattle.cg_driver_laws.specs.Laws.{LinksExist}
use Rattle.cg_heap.specs.declared.foreign.Link.{Link}
use Rattle.cg_lower_laws.proofs.Names.{apart}
use Rattle.cg_typing.specs.Instances.{Instance}

abbrev named : Option Function → List ℕ
named (Some f) = f.at.name
named None = []

module _ (functions : List Function) where
  abbrev called : Fun → List ℕ
  called (User i) = named (slice_get functions i)
  called (OfLib lib) = []

  -- each instance under its C name, counted from a place on
  abbrev links_from : ℕ → List Instance → List Link
  links_from j [] = []
  links_from j (z ∷ zs) = record { c = function_name j; name = called z.fun } ∷ links_from (suc j) zs

  found : (k j : ℕ) (zs : List Instance) (z : Instance) → j + length zs ≤ 2 ^ 64 → slice_get zs k ≡ Some z
      → linked_to (function_name (j + k)) (links_from j zs) ≡ Some (called z.fun)
  found k j [] z small there = absurd (cc)
  found zero j (y ∷ ys) z small there =
      ap (λ i. linked_to (function_name i) (links_from j (y ∷ ys))) (zero_behind j)
      ∙ ap (λ b. if b then Some (called y.fun) else linked_to (function_name j) (links_from (suc j) ys)) (itself (function_name j))
      ∙ ap (λ (x : Instance). Some (called x.fun)) (let e : y ≡ z = cc in e)
    where
      zero_behind : (j : ℕ) → j + 0 ≡ j
      zero_behind j = omega arith
  found (suc k) j (y ∷ ys) z small there =
      ap (λ b. if b then Some (called y.fun) else linked_to (function_name (j + suc k)) (links_from (suc j) ys))
      (apart 102 (j + suc k) j (omega (arith, slice_get_within ys k z there)) (omega arith) (λ e. absurd (omega arith)))
      ∙ ap (λ i. linked_to (function_name i) (links_from (suc j) ys)) (moved j k)
      ∙ found k (suc j) ys z (omega arith) there
    where
      moved : (j k : ℕ) → j + suc k ≡ suc j + k
      moved j k = omega arith

from_zero : (k : ℕ) → k ≡ 0 + k
from_zero k = omega arith

pub links_exist : LinksExist
links_exist x functions list small = (
  links_from functions 0 list,
  λ k i types f here there abstract known.
      ap (λ j. linked_to (function_name j) (links_from functions 0 list)) (from_zero k)
      ∙ found functions k 0 list (record { fun = User i; types = types }) (omega arith) here
      ∙ ap (λ o. Some (named o)) there,
)
