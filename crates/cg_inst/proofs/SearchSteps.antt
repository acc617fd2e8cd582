-- The search, entry by entry.
use Rattle.std.proofs.Common.{◌≡◌, ◌<◌, ◌+◌, ℕ, suc, List, length, refl, sym, ap, ◌∙◌, subst, arith, Err}
use Rattle.std.specs.Prelude.{slice_get}
use Rattle.cg_base.specs.declared.limit.Limit.TheVariants as limits
use Rattle.cg_core.specs.Kernels.{Function}
use Rattle.cg_inst.specs.declared.fault.InstFault.{InstFault}
use Rattle.cg_inst.specs.declared.fault.InstFault.TheVariants.{Limit, Memory}
use Rattle.cg_inst.specs.Founds.{Comes, Finds, Keyed, found_in}
use Rattle.cg_inst.specs.Lists.{Cores, after, front_from, gone_through}
use Rattle.cg_typing.specs.Instances.{Instance}

module _ (functions : List Function) (cores : Cores) where
  pub after_none : after functions cores 0 ≡ front_from 0 functions
  unfolding after
  after_none = refl

  pub after_next : (n : ℕ) → after functions cores (n + 1) ≡ gone_through functions cores (after functions cores n) (slice_get (after functions cores n) n)
  unfolding after
  after_next n = let next : n + 1 ≡ suc n = omega arith in ap (after functions cores) next

  -- where the limit is passed on the way, there are too many
  pub finds_err : (new : Keyed) (n : ℕ) (list : List Instance) (e : InstFault) → list ≡ after functions cores n → Comes new list (Err e) → Finds functions cores new (Err e)
  finds_err new n list Memory h c = tt
  finds_err new n list (Limit limits.Instances) h c = record { steps = n; many = subst (λ l. 4096 < length l) h c }
  finds_err new n list (Limit limits.Source) h c = c
  finds_err new n list (Limit limits.Nesting) h c = c
  finds_err new n list (Limit limits.Functions) h c = c
  finds_err new n list (Limit limits.Fields) h c = c
  finds_err new n list (Limit limits.Ty) h c = c
  finds_err new n list (Limit limits.Depth) h c = c
  finds_err new n list (Limit limits.Core) h c = c
  finds_err new n list (Limit limits.Heap) h c = c
  finds_err new n list (Limit limits.Certificate) h c = c

  -- one entry more is gone through
  pub next_is : (now : Keyed) (n : ℕ) → found_in now ≡ after functions cores n → gone_through functions cores (found_in now) (slice_get (found_in now) n) ≡ after functions cores (n + 1)
  next_is now n e = ap (λ l. gone_through functions cores l (slice_get l n)) e ∙ sym (after_next n)
