-- A number that stands left of an operator is reached before its guide and judged behind it: together that is all that is judged of it.
use Rattle.std.proofs.Common.{◌≡◌, ℕ, true, List}
use Rattle.cg_base.specs.declared.kind.Kinds.{Kinds}
use Rattle.cg_base.specs.declared.place.Place.{Place}
use Rattle.cg_base.specs.Types.{Tau}
use Rattle.cg_cert.specs.declared.cert.CertNode.{CertNode}
use Rattle.cg_core.specs.Kernels.{Function}
use Rattle.cg_core.specs.Terms.{Tree, term, lit}
use Rattle.cg_certcheck_def.specs.Events.{events, guided_reached, guided_number, value_of}
use Rattle.cg_certcheck_def.specs.Tests.{drops_all}
use Rattle.cg_typing.specs.Contexts.{Context}
use Rattle.cg_typing.specs.Parts.{in_range}
use Rattle.cg_typing.specs.Rules.{is_literal}
use Rattle.cg_certcheck_laws.proofs.Operands.{IsGuided}
use Rattle.cg_check_laws.proofs.SameTypes.{and_refl as both_and}
use Rattle.cg_base.proofs.Truths.{both as and_both}

module _ (functions : List Function) (vars : List Kinds) (g : Context) (p : List Tau) (ns : List CertNode) (n : ℕ) where
  pub guided : (l : Tree Place) → is_literal l ≡ true
      → IsGuided (λ way. events functions vars g p way ns n l) (guided_reached vars n ns g) (guided_number n (value_of l))
  guided (term a (lit v)) q = record {
    together = λ t r m. (r.0, (r.1.0, (both_and (drops_all vars g) (in_range v t) r.1.1.0 m.0, (m.1.0, tt))));
    reached = λ limited t h. (h.0, (h.1.0, ((and_both (drops_all vars g) (in_range v t) h.1.1.0).0, tt)));
    judged = λ limited t h. ((and_both (drops_all vars g) (in_range v t) h.1.1.0).1, (h.1.1.1.0, tt));
  }
  guided _ q = absurd (cc)
