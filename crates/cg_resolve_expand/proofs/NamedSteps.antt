-- A type by its name, by what the name is, and the position of a name.
use Rattle.std.proofs.Common.{◌≡◌, ℕ, List, [], Some, None, refl, sym, ap, ◌∙◌}
use Rattle.cg_base.specs.declared.kind.Sigil.TheVariants.{W}
use Rattle.cg_base.specs.declared.ty.Ty.{the_lemmas}
use Rattle.cg_base.specs.Types.{Tau, abs, none, to_taus}
use Rattle.cg_kinds.specs.Kinds.{subst}
use Rattle.cg_resolve_def.specs.Declared.{looked_up, plain_types}
use Rattle.cg_resolve_def.specs.Expand.{Bodies, applied_as}
use Rattle.cg_resolve_expand.specs.Pieces.{applied_type}

pub applied_plain : (known : Bodies) (n : List ℕ) (args : List Tau) (t : Tau) → Some t ≡ looked_up plain_types n → applied_type known n args ≡ t
unfolding applied_type
applied_plain known n args t is = ap (λ p. applied_as n args p (known n)) (sym is)

pub applied_body : (known : Bodies) (n : List ℕ) (args : List Tau) (t : Tau) → None ≡ looked_up plain_types n → Some t ≡ known n → applied_type known n args ≡ subst args t
unfolding applied_type
applied_body known n args t beside is = ap (λ p. applied_as n args p (known n)) (sym beside) ∙ ap (applied_as n args None) (sym is)

pub applied_abstract : (known : Bodies) (n : List ℕ) (args : List Tau) → None ≡ looked_up plain_types n → None ≡ known n → applied_type known n args ≡ abs n (to_taus args) W
unfolding applied_type
applied_abstract known n args beside is = ap (λ p. applied_as n args p (known n)) (sym beside) ∙ ap (applied_as n args None) (sym is)

pub no_taus : to_taus [] ≡ none
unfolding to_taus
no_taus = refl

pub ruleset named_steps = (no_taus, applied_plain, applied_body, applied_abstract, the_lemmas)
