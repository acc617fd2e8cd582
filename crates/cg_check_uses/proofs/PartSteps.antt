-- Lists of derivations that get one part after another.
use Rattle.std.proofs.Common.{◌≡◌, List, [], ◌∷◌, ◌++◌, map, refl, ap, sym, ◌∙◌}
use Rattle.cg_core.specs.declared.derivation.Deriv.{Deriv, out-Deriv, the_lemmas}
use Rattle.cg_core.proofs.Views.{derivation_is}
use Rattle.cg_core.specs.Derivations.{derivation, done, part, to_derivations, derivation_of}
use Rattle.cg_check_uses.specs.Added.{behind, with_last}

pub no_parts : (ds : List Deriv) → ds ≡ [] → to_derivations (map derivation_of ds) ≡ done
unfolding to_derivations
no_parts ds h = ap (λ us. to_derivations (map derivation_of us)) h

-- one more
pub last_part : (ds : List Deriv) (d : Deriv) → to_derivations (map derivation_of (ds ++ d ∷ [])) ≡ behind (to_derivations (map derivation_of ds)) (derivation_of d)
unfolding to_derivations
last_part [] d = refl
last_part (e ∷ ds) d = ap (part (derivation_of e)) (last_part ds d)

pub with_one_more : (tree : Deriv) (parts : List Deriv) (d : Deriv) → parts ≡ (out-Deriv tree).parts ++ d ∷ []
    → derivation (out-Deriv tree).node (out-Deriv tree).marks (to_derivations (map derivation_of parts)) ≡ with_last (derivation_of tree) (derivation_of d)
with_one_more tree parts d h =
    ap (λ ps. derivation (out-Deriv tree).node (out-Deriv tree).marks (to_derivations (map derivation_of ps))) h
    ∙ ap (derivation (out-Deriv tree).node (out-Deriv tree).marks) (last_part (out-Deriv tree).parts d)
    ∙ ap (λ t. with_last t (derivation_of d)) (sym (derivation_is tree))

pub ruleset part_steps = (no_parts, with_one_more, the_lemmas)
