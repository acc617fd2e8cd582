-- Whether two types have one shape.
use Rattle.std.proofs.Common.{◌≡◌, Bool, true, ◌↔◌, IsTrue, sym, ap, ◌∙◌}
use Rattle.cg_base.proofs.Truths.{same_test}
use Rattle.cg_base.specs.Same.{same_type}
use Rattle.cg_base.specs.Types.{Tau}
use Rattle.cg_inst.proofs.SameType.{same_is, same_self}
use Rattle.cg_kinds.specs.Shapes.{shape}

-- a test that holds exactly where two types are the same
pub tests_same : (b : Bool) (t u : Tau) → IsTrue b ↔ (t ≡ u) → b ≡ same_type t u
tests_same b t u both = same_test b (same_type t u) (λ e. ap (λ u. same_type t u) (sym (both.0 e)) ∙ same_self t) (λ e. both.1 (same_is t u e))

-- types that are the same have one shape
pub shapes_same : (t u : Tau) → t ≡ u → true ≡ same_type (shape t) (shape u)
shapes_same t u e = sym (ap (λ u. same_type (shape t) (shape u)) (sym e) ∙ same_self (shape t))
