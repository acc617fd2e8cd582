-- The size of a type by its name, by what the name is.
use Rattle.std.proofs.Common.{◌≡◌, ℕ, Bool, true, false, cond, List, Option, Some, None, refl, ap, ◌∙◌, is_some, Option}
use Rattle.cg_base.specs.Types.{Tau}
use Rattle.cg_resolve_def.specs.Declared.{is_variable, looked_up, plain_types}
use Rattle.cg_resolve_def.specs.Expand.{Bodies}
use Rattle.cg_resolve_written.specs.Sizes.{applied_size, named_size}

pub size_of_variable : (known : Bodies) (n sizes : List ℕ) → is_variable n ≡ true → named_size known n sizes ≡ 1
unfolding named_size
size_of_variable known n sizes is = ap (λ b. cond b 1 (applied_size sizes (looked_up plain_types n) (known n))) is

pub size_of_plain : (known : Bodies) (n sizes : List ℕ) → is_some (looked_up plain_types n) ≡ true → named_size known n sizes ≡ 1
unfolding named_size
size_of_plain known n sizes is = pick (is_variable n) (looked_up plain_types n) is
  where
    pick : (b : Bool) (plain : Option Tau) → is_some plain ≡ true → cond b 1 (applied_size sizes plain (known n)) ≡ 1
    pick true plain h = refl
    pick false None h = absurd (cc)
    pick false (Some t) h = refl

pub size_of_named : (known : Bodies) (n sizes : List ℕ) → is_variable n ≡ false → is_some (looked_up plain_types n) ≡ false → named_size known n sizes ≡ applied_size sizes None (known n)
unfolding named_size
size_of_named known n sizes is none = ap (λ b. cond b 1 (applied_size sizes (looked_up plain_types n) (known n))) is ∙ pick (looked_up plain_types n) none
  where
    pick : (plain : Option Tau) → is_some plain ≡ false → applied_size sizes plain (known n) ≡ applied_size sizes None (known n)
    pick None h = refl
    pick (Some t) h = absurd (cc)

pub ruleset named_sizes = (size_of_variable, size_of_plain, size_of_named)
