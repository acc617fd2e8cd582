-- Tests of equal types: true where they are equal, false where they differ.
use Rattle.std.proofs.Common.{◌≡◌, true, sym, ap, ◌∙◌, false, ⊎_elim}
use Rattle.cg_base.specs.Types.{Tau}
use Rattle.cg_check_laws.proofs.SameTypes.{same_refl, same_is}
use Rattle.cg_faults.specs.Same.{same}
use Rattle.cg_base.proofs.Truths.{either_bool as bool_is}

pub same_when : (a b : Tau) → a ≡ b → same a b ≡ true
same_when a b e = ap (same a) (sym e) ∙ same_refl a

pub same_unless : (a b : Tau) → (a ≡ b → ⊥) → same a b ≡ false
same_unless a b ne = ⊎_elim (λ t. absurd (ne (same_is a b t))) (λ f. f) (bool_is (same a b))
