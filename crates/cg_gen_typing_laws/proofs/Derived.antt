-- The cores of the kernel are derived, and it is accepted.
use Rattle.std.proofs.Common.{◌≡◌, ◌<◌, ◌≤◌, ◌^◌, ℕ, zero, suc, ◌+◌, List, [], ◌∷◌, ◌++◌, Option, Some, refl, arith}
use Rattle.cg_core.specs.Derivations.{Derivation}
use Rattle.cg_core.specs.Kernels.{Function}
use Rattle.cg_core.specs.Terms.{Note, Tree, erased}
use Rattle.cg_typing.proofs.KeptAccepted.{kept_accepted}
use Rattle.cg_typing.specs.Kept.{AreKept, IsKept}
use Rattle.cg_gen_def.specs.Kernels.{body_in, cell_type, core_behind, cores, function_behind, functions, subject_in, term_behind}
use Rattle.cg_gen_typing_laws.specs.Laws.{CoresAreDerived, KernelIsAccepted}
use Rattle.cg_gen_typing_laws.proofs.Kernel.{HasEarlier, has_earlier}
use Rattle.cg_gen_typing_laws.proofs.Rows.{body_derived, tree_behind}

-- the derivations of so many functions
trees : ℕ → List (Option Derivation)
trees zero = []
trees (suc before) = trees before ++ Some (tree_behind before) ∷ []

erases : (before : ℕ) → erased (core_behind before) ≡ term_behind before
unfolding erased body_in subject_in
erases zero = refl
erases (suc before) = refl

kept_one : (fs : List Function) (before : ℕ) → HasEarlier fs before → before + 1 < 2 ^ 32
    → IsKept fs (function_behind before) (Some (core_behind before)) (Some (tree_behind before))
unfolding function_behind
kept_one fs before e lt = record {
  argument = cell_type;
  result = cell_type;
  is_arrow = refl;
  arrays = refl;
  kept = record { erases = erases before; derives = body_derived fs before e lt };
}

-- one function more is kept
kept_more : (all fs : List Function) (cs : List (Option (Tree Note))) (ds : List (Option Derivation)) (f : Function) (c : Option (Tree Note)) (d : Option Derivation)
    → AreKept all fs cs ds → IsKept all f c d → AreKept all (fs ++ f ∷ []) (cs ++ c ∷ []) (ds ++ d ∷ [])
kept_more all [] [] [] f c d k one = (one, tt)
kept_more all (g ∷ fs) (b ∷ cs) (e ∷ ds) f c d k one = (k.0, kept_more all fs cs ds f c d k.1 one)
kept_more all [] [] (e ∷ ds) f c d k one = absurd k
kept_more all [] (b ∷ cs) ds f c d k one = absurd k
kept_more all (g ∷ fs) [] ds f c d k one = absurd k
kept_more all (g ∷ fs) (b ∷ cs) [] f c d k one = absurd k

front_kept : (n m : ℕ) → m ≤ n → n < 2 ^ 32 → AreKept (functions n) (functions m) (cores m) (trees m)
unfolding trees functions cores
front_kept n zero le lt = tt
front_kept n (suc m) le lt =
    kept_more (functions n) (functions m) (cores m) (trees m) (function_behind m) (Some (core_behind m)) (Some (tree_behind m))
    (front_kept n m (omega (arith, le)) lt)
    (kept_one (functions n) m (has_earlier n m (omega (arith, le))) (omega (arith, le, lt)))

pub cores_are_derived : CoresAreDerived
cores_are_derived n lt = (trees n, front_kept n n (omega arith) lt)

pub kernel_is_accepted : KernelIsAccepted
kernel_is_accepted n lt = let k = cores_are_derived n lt in kept_accepted (functions n) (cores n) k.0 k.1
