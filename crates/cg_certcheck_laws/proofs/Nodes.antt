-- Nodes of derivations at the head of the nodes that are left.
use Rattle.std.proofs.Common.{◌≡◌, ℕ, suc, ◌+◌, List, [], ◌∷◌, ◌++◌, drop, sym, ap, ◌∙◌, subst, append-nil, append_assoc, drop-drop, arith}
use Rattle.cg_cert.specs.Certificates.{nodes_of, nodes_in}
use Rattle.cg_cert.specs.declared.cert.CertNode.{CertNode}
use Rattle.cg_core.specs.declared.derivation.Mark.{Mark}
use Rattle.cg_core.specs.declared.derivation.Node.{Node}
use Rattle.cg_core.specs.Derivations.{Derivation, Derivations, derivation, done, part}
use Rattle.cg_typing.specs.Trees.{two, three}
use Rattle.cg_certcheck_def.specs.Events.{behind, strings_at, marks_next, no_strings}
use Rattle.cg_certcheck_laws.proofs.Rows.{cert_node, Reached, unmarked}

-- of so many nodes the first are those of a derivation, or of derivations
abbrev pub Heads : ℕ → Derivation → List CertNode → Type 0
Heads k d ns = ns ≡ nodes_of d ++ drop k ns

abbrev pub HeadsIn : ℕ → Derivations → List CertNode → Type 0
HeadsIn k ds ns = ns ≡ nodes_in ds ++ drop k ns

pub heads_last : (k : ℕ) (d : Derivation) (ns : List CertNode) → Heads k d ns → HeadsIn k (part d done) ns
heads_last k d ns h = h ∙ ap (λ z. z ++ drop k ns) (sym (append-nil (nodes_of d)))

pub heads_part : (a k : ℕ) (d : Derivation) (ds : Derivations) (ns : List CertNode) → Heads a d ns → HeadsIn k ds (drop a ns) → HeadsIn (a + k) (part d ds) ns
heads_part a k d ds ns h i =
    h ∙ ap (λ z. nodes_of d ++ z) (i ∙ ap (λ z. nodes_in ds ++ z) (drop-drop k a ns)) ∙ sym (append_assoc (nodes_of d) (nodes_in ds) (drop (a + k) ns))

pub heads_node : (k : ℕ) (node : Node) (strings : List (List Mark)) (ds : Derivations) (ns : List CertNode) → ns ≡ cert_node node strings ∷ behind ns
    → HeadsIn k ds (behind ns) → Heads (suc k) (derivation node strings ds) ns
heads_node k node strings ds ns h i =
    h ∙ ap (λ z. cert_node node strings ∷ z) (i ∙ ap (λ z. nodes_in ds ++ drop (suc k) z) (sym h))

-- the same, from nodes that are given: a part, and the last one
pub given_part : (d : Derivation) (ds : Derivations) (ns rest : List CertNode) → ns ≡ nodes_in (part d ds) ++ rest → ns ≡ nodes_of d ++ (nodes_in ds ++ rest)
given_part d ds ns rest h = h ∙ append_assoc (nodes_of d) (nodes_in ds) rest

pub given_last : (d : Derivation) (ns rest : List CertNode) → ns ≡ nodes_in (part d done) ++ rest → ns ≡ nodes_of d ++ rest
given_last d ns rest h = h ∙ ap (λ z. z ++ rest) (append-nil (nodes_of d))

-- a node without marks
pub heads_plain : (k : ℕ) (node : Node) (ds : Derivations) (ns : List CertNode) → Reached ns node (no_strings ns) → HeadsIn k ds (behind ns) → Heads (suc k) (derivation node [] ds) ns
heads_plain k node ds ns r h = heads_node k node [] ds ns (r.is ∙ ap (λ z. cert_node node z ∷ behind ns) (unmarked ns r.marks)) h

-- a node with one mark string
pub heads_marked : (k : ℕ) (node : Node) (ds : Derivations) (ns : List CertNode) → ns ≡ cert_node node (strings_at ns) ∷ behind ns → strings_at ns ≡ marks_next ns ∷ []
    → HeadsIn k ds (behind ns) → Heads (suc k) (derivation node (marks_next ns ∷ []) ds) ns
heads_marked k node ds ns is one h = heads_node k node (marks_next ns ∷ []) ds ns (is ∙ ap (λ z. cert_node node z ∷ behind ns) one) h

-- of two parts, and of three, with one mark string before them
pub heads_two : (node : Node) (ns : List CertNode) (a b : ℕ) (d e : Derivation) → ns ≡ cert_node node (strings_at ns) ∷ behind ns → strings_at ns ≡ marks_next ns ∷ []
    → Heads a d (behind ns) → Heads b e (drop a (behind ns)) → Heads (suc (a + b)) (two node (marks_next ns) d e) ns
heads_two node ns a b d e is one h i =
    heads_marked (a + b) node (part d (part e done)) ns is one (heads_part a b d (part e done) (behind ns) h (heads_last b e (drop a (behind ns)) i))

pub heads_three : (node : Node) (ns : List CertNode) (a b c : ℕ) (d e f : Derivation) → ns ≡ cert_node node (strings_at ns) ∷ behind ns → strings_at ns ≡ marks_next ns ∷ []
    → Heads a d (behind ns) → Heads b e (drop a (behind ns)) → Heads c f (drop (a + b) (behind ns)) → Heads (suc (a + (b + c))) (three node (marks_next ns) d e f) ns
heads_three node ns a b c d e f is one h i j =
    heads_marked (a + (b + c)) node (part d (part e (part f done))) ns is one
    (heads_part a (b + c) d (part e (part f done)) (behind ns) h (heads_part b c e (part f done) (drop a (behind ns)) i
    (heads_last c f (drop b (drop a (behind ns))) (subst (λ z. Heads c f z) (sym (drop-drop b a (behind ns))) j))))

-- the node itself
pub given_node : (d : Derivation) (node : Node) (strings : List (List Mark)) (ds : Derivations) (ns rest : List CertNode) → ns ≡ nodes_of d ++ rest → d ≡ derivation node strings ds
    → ns ≡ cert_node node strings ∷ (nodes_in ds ++ rest)
given_node d node strings ds ns rest h e = h ∙ ap (λ z. nodes_of z ++ rest) e

-- what is left behind parts
pub left_of_two : (a b : ℕ) (ns rest : List CertNode) → drop b (drop a ns) ≡ rest → drop (a + b) ns ≡ rest
left_of_two a b ns rest h = sym (drop-drop b a ns) ∙ h

pub left_of_three : (a b c : ℕ) (ns rest : List CertNode) → drop c (drop (a + b) ns) ≡ rest → drop (a + (b + c)) ns ≡ rest
left_of_three a b c ns rest h = let e : a + (b + c) ≡ (a + b) + c = omega arith in ap (λ k. drop k ns) e ∙ left_of_two (a + b) c ns rest h
