-- Derivations of parts that are the ones that nodes spell.
use Rattle.std.proofs.Common.{◌≡◌, List, ap, ◌∙◌}
use Rattle.cg_core.specs.declared.derivation.Mark.{Mark}
use Rattle.cg_core.specs.declared.derivation.Node.{Node}
use Rattle.cg_core.specs.Derivations.{Derivation}
use Rattle.cg_typing.specs.Trees.{one, two, three}

pub one_reads : {node : Node} {a b : Derivation} → a ≡ b → one node a ≡ one node b
one_reads {node} e = ap (one node) e

pub two_reads : {node : Node} {m : List Mark} {a b c d : Derivation} → a ≡ c → b ≡ d → two node m a b ≡ two node m c d
two_reads {node} {m} {a} {b} {c} {d} e f = ap (λ x. two node m x b) e ∙ ap (λ y. two node m c y) f

pub three_reads : {node : Node} {m : List Mark} {a b c d e f : Derivation} → a ≡ d → b ≡ e → c ≡ f → three node m a b c ≡ three node m d e f
three_reads {node} {m} {a} {b} {c} {d} {e} {f} g h i = ap (λ x. three node m x b c) g ∙ ap (λ y. three node m d y c) h ∙ ap (λ z. three node m d e z) i
