-- Functions of a kernel by their places, and kernels all of whose functions have bodies.
use Rattle.std.proofs.Common.{◌≡◌, ◌<◌, ◌≤◌, ◌+◌, ◌&&◌, ℕ, zero, suc, Bool, true, List, [], ◌∷◌, Some, None, get_or, length, map, take, refl, sym, ap, ◌∙◌, arith}
use Rattle.std.specs.List.{list_all}
use Rattle.std.specs.Option.{is_some}
use Rattle.std.specs.Prelude.{slice_get}
use Rattle.std.proofs.lemmas.Bool.{and_parts}
use Rattle.std.proofs.lemmas.List.{take_all}
use Rattle.std.proofs.lemmas.List.Folds.{list_all_more}
use Rattle.cg_core.specs.declared.kernel.KFun.{KFun}
use Rattle.cg_core.specs.Kernels.{function_of}
use Rattle.cg_driver_cases.specs.Whole.{HasBodies}

pub got_at : {A B : Type 0} (f : A → B) (xs : List A) (i : ℕ) (d : A) → i < length xs → slice_get (map f xs) i ≡ Some (f (get_or xs i d))
got_at f [] i d h = absurd (omega arith)
got_at f (x ∷ xs) zero d h = refl
got_at f (x ∷ xs) (suc i) d h = got_at f xs i d (omega (arith, h))

abbrev pub has_body : KFun → Bool
has_body f = is_some (function_of f).body

-- one function more
pub more_bodies : (fs : List KFun) (i : ℕ) (f : KFun) → i < length fs → f ≡ get_or fs i f → has_body f ≡ true
    → list_all has_body (take i fs) ≡ true → list_all has_body (take (i + 1) fs) ≡ true
more_bodies fs i f h e p q =
    list_all_more has_body fs i f h ∙ ap (λ b. b && has_body (get_or fs i f)) q ∙ (ap has_body (sym e) ∙ p)

have_bodies : (fs : List KFun) → list_all has_body fs ≡ true → HasBodies (map function_of fs)
have_bodies [] h i f e none = cc
have_bodies (g ∷ fs) h zero f e none =
    let p = and_parts (has_body g) (list_all has_body fs) h in
    let same : (function_of g).body ≡ None = cc in
    let other = sym (ap is_some same) ∙ p.0 in cc
have_bodies (g ∷ fs) h (suc i) f e none = have_bodies fs (and_parts (has_body g) (list_all has_body fs) h).1 i f e none

-- all of them
pub all_bodies : (fs : List KFun) (i : ℕ) → length fs ≤ i → list_all has_body (take i fs) ≡ true → HasBodies (map function_of fs)
all_bodies fs i h e = have_bodies fs (ap (list_all has_body) (sym (take_all i fs h)) ∙ e)
