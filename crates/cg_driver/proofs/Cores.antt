-- The cores of an accepted kernel are one list.
use Rattle.std.proofs.Common.{◌≡◌, ◌∙◌, List, [], ◌∷◌, Option, Some, None, refl, sym, ap, subst}
use Rattle.cg_base.specs.declared.kind.Kinds.{Kinds}
use Rattle.cg_base.specs.Types.{Tau, arrow}
use Rattle.cg_check_laws.proofs.Main.{one_core}
use Rattle.cg_core.specs.Derivations.{Derivation}
use Rattle.cg_core.specs.Kernels.{Function, Body}
use Rattle.cg_core.specs.Terms.{Note, Tree}
use Rattle.cg_typing.specs.Kept.{IsKeptBody, IsKeptMaybe, IsKept, AreKept}
use Rattle.cg_typing.specs.Accepted.{kinds_of_vars}
use Rattle.cg_driver.specs.Instanced.{AreCores}

none_kept : (functions : List Function) (vars : List Kinds) (a r : Tau) (c : Option (Tree Note)) (d : Option Derivation) → IsKeptMaybe functions vars a r None c d → c ≡ None
none_kept functions vars a r None d k = refl
none_kept functions vars a r (Some c) d k = absurd k

some_kept : (functions : List Function) (vars : List Kinds) (a r : Tau) (body : Body) (c : Option (Tree Note)) (d : Option Derivation) → IsKeptMaybe functions vars a r (Some body) c d
    → (core : Tree Note) × (tree : Derivation) × (c ≡ Some core) × IsKeptBody functions vars a r body.term core tree
some_kept functions vars a r body None d k = absurd k
some_kept functions vars a r body (Some c) None k = absurd k
some_kept functions vars a r body (Some c) (Some d) k = (c, d, refl, k)

kept_same : (functions : List Function) (vars : List Kinds) (a r : Tau) (body : Option Body) (c c' : Option (Tree Note)) (d d' : Option Derivation)
    → IsKeptMaybe functions vars a r body c d → IsKeptMaybe functions vars a r body c' d' → c ≡ c'
kept_same functions vars a r None c c' d d' k k' = none_kept functions vars a r c d k ∙ sym (none_kept functions vars a r c' d' k')
kept_same functions vars a r (Some body) c c' d d' k k' =
    let x = some_kept functions vars a r body c d k in
    let y = some_kept functions vars a r body c' d' k' in
    x.2 ∙ ap Some (one_core functions vars a r body.term x.0 y.0 x.1 y.1 x.3.erases y.3.erases x.3.derives y.3.derives) ∙ sym y.2

function_same : (functions : List Function) (f : Function) (c c' : Option (Tree Note)) (d d' : Option Derivation) → IsKept functions f c d → IsKept functions f c' d' → c ≡ c'
function_same functions f c c' d d' k k' =
    let e : arrow k.argument k.result ≡ arrow k'.argument k'.result = sym k.is_arrow ∙ k'.is_arrow in
    let argument : k.argument ≡ k'.argument = cc in
    let result : k.result ≡ k'.result = cc in
    kept_same functions (kinds_of_vars f) k.argument k.result f.body c c' d d' k.kept
    (subst (λ a. IsKeptMaybe functions (kinds_of_vars f) a k.result f.body c' d') (sym argument) (subst (λ r. IsKeptMaybe functions (kinds_of_vars f) k'.argument r f.body c' d') (sym result) k'.kept))

-- one function more
record Longer (functions : List Function) (f : Function) (fs : List Function) (cs : List (Option (Tree Note))) : Type 0 where
  core : Option (Tree Note)
  tree : Option Derivation
  rest : List (Option (Tree Note))
  trees : List (Option Derivation)
  parts : cs ≡ core ∷ rest
  kept : IsKept functions f core tree
  others : AreKept functions fs rest trees

longer_kept : (functions : List Function) (f : Function) (fs : List Function) (cs : List (Option (Tree Note))) (ds : List (Option Derivation)) → AreKept functions (f ∷ fs) cs ds → Longer functions f fs cs
longer_kept functions f fs [] ds k = absurd k
longer_kept functions f fs (c ∷ cs) [] k = absurd k
longer_kept functions f fs (c ∷ cs) (d ∷ ds) k = record { core = c; tree = d; rest = cs; trees = ds; parts = refl; kept = k.0; others = k.1 }

no_more_kept : (functions : List Function) (cs : List (Option (Tree Note))) (ds : List (Option Derivation)) → AreKept functions [] cs ds → cs ≡ []
no_more_kept functions [] ds k = refl
no_more_kept functions (c ∷ cs) ds k = absurd k

pub cores_same : (functions fs : List Function) (cs cs' : List (Option (Tree Note))) (ds ds' : List (Option Derivation)) → AreKept functions fs cs ds → AreKept functions fs cs' ds' → cs ≡ cs'
cores_same functions [] cs cs' ds ds' k k' = no_more_kept functions cs ds k ∙ sym (no_more_kept functions cs' ds' k')
cores_same functions (f ∷ fs) cs cs' ds ds' k k' =
    let x = longer_kept functions f fs cs ds k in
    let y = longer_kept functions f fs cs' ds' k' in
    let first : x.core ≡ y.core = function_same functions f x.core y.core x.tree y.tree x.kept y.kept in
    let others : x.rest ≡ y.rest = cores_same functions fs x.rest y.rest x.trees y.trees x.others y.others in
    x.parts ∙ (λ i. first i ∷ others i) ∙ sym y.parts

-- two lists of cores of one kernel are the same
pub one_list : (functions : List Function) (cs cs' : List (Option (Tree Note))) → AreCores functions cs → AreCores functions cs' → cs ≡ cs'
one_list functions cs cs' a b = cores_same functions functions cs cs' a.0 b.0 a.1 b.1
