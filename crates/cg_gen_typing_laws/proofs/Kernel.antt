-- Where the functions of the kernel and their cores stand.
use Rattle.std.proofs.Common.{◌≡◌, ◌<◌, ◌⊎◌, ⊎_elim, ℕ, zero, suc, List, [], ◌∷◌, ◌++◌, length, Some, refl, sym, ap, ◌∙◌, arith, subst, slice_get, length-append}
use Rattle.cg_base.proofs.Sequences.{get_front, get_last}
use Rattle.std.specs.Option.{option_map}
use Rattle.cg_base.specs.declared.fun.Fun.TheVariants.{User}
use Rattle.cg_base.specs.Types.{arrow}
use Rattle.cg_core.specs.Kernels.{Function}
use Rattle.cg_kinds.specs.Kinds.{subst as given}
use Rattle.cg_typing.specs.Functions.{fun_type}
use Rattle.cg_gen_def.specs.Kernels.{cell_type, core_behind, cores, function_behind, functions}

-- so many entries, each of them made of how many stand before it
module _ {A : Type 0} (entry : ℕ → A) (entries : ℕ → List A) (none : entries zero ≡ [])
    (more : (n : ℕ) → entries (suc n) ≡ entries n ++ entry n ∷ []) where
  pub as_many : (n : ℕ) → length (entries n) ≡ n
  as_many zero = ap length none
  as_many (suc n) =
      let e = as_many n in
      ap length (more n) ∙ length-append (entries n) (entry n ∷ []) ∙ omega (arith, e)

  last_of : (n : ℕ) → slice_get (entries (suc n)) n ≡ Some (entry n)
  last_of n =
      subst (λ k. slice_get (entries (suc n)) k ≡ Some (entry n)) (as_many n)
      (ap (λ xs. slice_get xs (length (entries n))) (more n) ∙ get_last (entries n) (entry n))

  either_before : (i n : ℕ) → i < suc n → (i < n) ⊎ (i ≡ n)
  either_before i n lt = grind (arith, lt)

  entry_more : (n i : ℕ) → slice_get (entries n) i ≡ Some (entry i) → slice_get (entries (suc n)) i ≡ Some (entry i)
  entry_more n i e = ap (λ xs. slice_get xs i) (more n) ∙ get_front (entries n) (entry n ∷ []) i (entry i) e

  entry_at : (n i : ℕ) → i ≡ n → slice_get (entries (suc n)) i ≡ Some (entry i)
  entry_at n i e = subst (λ k. slice_get (entries (suc n)) k ≡ Some (entry k)) (sym e) (last_of n)

  pub entry_of : (n i : ℕ) → i < n → slice_get (entries n) i ≡ Some (entry i)
  entry_of zero i lt = absurd (omega (arith, lt))
  entry_of (suc n) i lt = ⊎_elim (λ before. entry_more n i (entry_of n i before)) (entry_at n i) (either_before i n lt)

no_functions : functions zero ≡ []
unfolding functions
no_functions = refl

more_functions : (n : ℕ) → functions (suc n) ≡ functions n ++ function_behind n ∷ []
unfolding functions
more_functions n = refl

no_cores : cores zero ≡ []
unfolding cores
no_cores = refl

more_cores : (n : ℕ) → cores (suc n) ≡ cores n ++ Some (core_behind n) ∷ []
unfolding cores
more_cores n = refl

pub function_of : (n i : ℕ) → i < n → slice_get (functions n) i ≡ Some (function_behind i)
function_of n i lt = entry_of function_behind functions no_functions more_functions n i lt

pub core_of : (n i : ℕ) → i < n → slice_get (cores n) i ≡ Some (Some (core_behind i))
core_of n i lt = entry_of (λ k. Some (core_behind k)) cores no_cores more_cores n i lt

pub functions_as_many : (n : ℕ) → length (functions n) ≡ n
functions_as_many n = as_many function_behind functions no_functions more_functions n

module _ (all : List Function) where
  -- the function before is there
  abbrev pub HasEarlier : ℕ → Type 0
  HasEarlier zero = Unit {0}
  HasEarlier (suc before) = slice_get all before ≡ Some (function_behind before)

  -- the type of one that is there
  pub mention_is : (i : ℕ) → slice_get all i ≡ Some (function_behind i) → fun_type all (User i) [] ≡ Some (arrow cell_type cell_type)
  unfolding function_behind given
  mention_is i e = ap (option_map (λ g. given [] g.ty.ty)) e

pub has_earlier : (n before : ℕ) → before < n → HasEarlier (functions n) before
has_earlier n zero lt = tt
has_earlier n (suc before) lt = function_of n before (omega (arith, lt))
