-- Nodes of a certificate by their index.
use Rattle.std.proofs.Common.{◌≡◌, ◌+◌, ◌<◌, ◌≤◌, ℕ, zero, suc, true, false, List, [], ◌∷◌, drop, get_or, length, Ok, Err, refl, sym, ap, ◌∙◌, arith}
use Rattle.cg_cert.specs.declared.cert.CertNode.{CertNode}
use Rattle.cg_cert.specs.declared.fault.CertFault.TheVariants.{C2, C3}
use Rattle.cg_certcheck_context.specs.Steps.{found, is_none}
use Rattle.cg_base.specs.declared.kind.Kinds.{Kinds}
use Rattle.cg_core.specs.declared.derivation.Mark.{Mark}
use Rattle.cg_core.specs.declared.term.Seen.{Seen}
use Rattle.cg_certcheck_def.specs.Events.{one_string}
use Rattle.cg_certcheck_def.specs.Tests.{splits}
use Rattle.cg_typing.specs.Contexts.{Context}
use Rattle.cg_typing.specs.Trees.{first_marks}
use Rattle.cg_core.specs.declared.derivation.Node.{Node}
use Rattle.cg_certcheck_def.specs.Events.{behind}
use Rattle.cg_certcheck_def.specs.Pass.{row}
use Rattle.cg_certcheck_def.specs.Tests.{same_node}

behind_suc : (ns : List CertNode) (i : ℕ) → drop (suc i) ns ≡ behind (drop i ns)
behind_suc [] zero = refl
behind_suc [] (suc i) = refl
behind_suc (n ∷ ns) zero = refl
behind_suc (n ∷ ns) (suc i) = behind_suc ns i

-- behind a node
pub behind_next : (ns : List CertNode) (i j : ℕ) → j ≡ i + 1 → drop j ns ≡ behind (drop i ns)
behind_next ns i j h = let e : j ≡ suc i = omega arith in rw e (behind_suc ns i)

pub number_next : (n m : ℕ) → m ≡ n + 1 → m ≡ suc n
number_next n m h = omega arith

-- the node at an index
pub found_there : (ns : List CertNode) (i n : ℕ) (d : CertNode) (node : Node) → i < length ns → d ≡ get_or ns i d → same_node d.node node ≡ true
    → found (record { nodes = drop i ns; next = n }) node ≡ Ok d.marks
unfolding found
found_there [] i n d node h k e = absurd (omega (arith, h))
found_there (c ∷ ns) zero n d node h k e =
    ap (λ b. row n b (Ok c.marks)) (ap (λ x. same_node x.node node) (sym k) ∙ e) ∙ ap (λ x. Ok x.marks) (sym k)
found_there (c ∷ ns) (suc i) n d node h k e = found_there ns i n d node (omega (arith, h)) k e

pub found_other : (ns : List CertNode) (i n : ℕ) (d : CertNode) (node : Node) → i < length ns → d ≡ get_or ns i d → same_node d.node node ≡ false
    → found (record { nodes = drop i ns; next = n }) node ≡ Err (C2 n)
unfolding found
found_other [] i n d node h k e = absurd (omega (arith, h))
found_other (c ∷ ns) zero n d node h k e = ap (λ b. row n b (Ok c.marks)) (ap (λ x. same_node x.node node) (sym k) ∙ e)
found_other (c ∷ ns) (suc i) n d node h k e = found_other ns i n d node (omega (arith, h)) k e

pub found_none : (ns : List CertNode) (i n : ℕ) (node : Node) → length ns ≤ i → found (record { nodes = drop i ns; next = n }) node ≡ Err (C3 n)
unfolding found
found_none [] zero n node h = refl
found_none [] (suc i) n node h = refl
found_none (c ∷ ns) zero n node h = absurd (omega (arith, h))
found_none (c ∷ ns) (suc i) n node h = found_none ns i n node (omega (arith, h))

-- mark strings, none or some
pub none_when : (ss : List (List Mark)) → length ss ≡ 0 → is_none ss ≡ true
none_when [] h = refl
none_when (s ∷ ss) h = absurd (omega (arith, h))

pub none_unless : (ss : List (List Mark)) → 0 < length ss → is_none ss ≡ false
none_unless [] h = absurd (omega (arith, h))
none_unless (s ∷ ss) h = refl

-- one of them
pub one_there : (vars : List Kinds) (os : List Seen) (ss : List (List Mark)) (s : List Mark) (g : Context) → length ss ≡ 1 → s ≡ get_or ss 0 s
    → one_string vars os ss g ≡ splits vars os s g
one_there vars os [] s g h e = absurd (omega (arith, h))
one_there vars os (t ∷ []) s g h e = ap (λ m. splits vars os m g) (sym e)
one_there vars os (t ∷ u ∷ ss) s g h e = absurd (omega (arith, h))

pub one_other : (vars : List Kinds) (os : List Seen) (ss : List (List Mark)) (g : Context) → (length ss ≡ 1 → ⊥) → one_string vars os ss g ≡ false
one_other vars os [] g h = refl
one_other vars os (s ∷ []) g h = absurd (h refl)
one_other vars os (s ∷ t ∷ ss) g h = refl

pub first_of : (ss : List (List Mark)) (s : List Mark) → length ss ≡ 1 → s ≡ get_or ss 0 s → first_marks ss ≡ s
first_of [] s h e = absurd (omega (arith, h))
first_of (t ∷ ss) s h e = sym e

pub ruleset cursor_steps = (behind_next, number_next)

pub ruleset found_steps = (found_there, found_other, found_none)

pub ruleset node_steps = (behind_next, none_when, none_unless, one_there, one_other, first_of)
