-- The texts of one line, one mark string and one mark more, and what may be written with them.
use Rattle.std.proofs.Common.{◌≡◌, ℕ, List, [], ◌∷◌, ◌++◌, map, codes, refl, sym, ap, ◌∙◌, append_assoc, true}
use Rattle.std.proofs.lemmas.List.{append-nil}
use Rattle.cg_base.specs.Bytes.{Each}
use Rattle.cg_cert.specs.Texts.{mark_sign, strings_text, node_line, node_lines, fun_lines, all_lines, IsName, AreMarked, AreNodes, AreFunctions}
use Rattle.cg_cert.specs.declared.cert.CertFun.{CertFun}
use Rattle.cg_cert.specs.declared.cert.CertNode.{CertNode}
use Rattle.cg_core.specs.declared.derivation.Mark.{Mark}
use Rattle.cg_lexer.specs.Bytes.{small, part_of_name}

-- ---- texts

pub strings_more : (strings : List (List Mark)) (string : List Mark) → strings_text (strings ++ string ∷ []) ≡ strings_text strings ++ (codes " " ++ map mark_sign string)
strings_more [] string = ap (λ z. codes " " ++ z) (append-nil (map mark_sign string))
strings_more (first ∷ strings) string =
    ap (λ z. codes " " ++ (map mark_sign first ++ z)) (strings_more strings string)
    ∙ ap (λ z. codes " " ++ z) (sym (append_assoc (map mark_sign first) (strings_text strings) (codes " " ++ map mark_sign string)))

nodes_more : (ns : List CertNode) (n : CertNode) → node_lines (ns ++ n ∷ []) ≡ node_lines ns ++ node_line n
nodes_more [] n = append-nil (node_line n)
nodes_more (first ∷ ns) n = ap (λ z. node_line first ++ z) (nodes_more ns n) ∙ sym (append_assoc (node_line first) (node_lines ns) (node_line n))

fun_more : (x : List ℕ) (ns : List CertNode) (n : CertNode) → fun_lines (record { name = x; nodes = ns ++ n ∷ [] }) ≡ fun_lines (record { name = x; nodes = ns }) ++ node_line n
fun_more x ns n =
    ap (λ z. codes "fun " ++ (x ++ (codes "\n" ++ z))) (nodes_more ns n)
    ∙ ap (λ z. codes "fun " ++ z) (sym (append_assoc x (codes "\n" ++ node_lines ns) (node_line n)))

pub lines_more : (fs : List CertFun) (f : CertFun) → all_lines (fs ++ f ∷ []) ≡ all_lines fs ++ fun_lines f
lines_more [] f = append-nil (fun_lines f)
lines_more (first ∷ fs) f = ap (λ z. fun_lines first ++ z) (lines_more fs f) ∙ sym (append_assoc (fun_lines first) (all_lines fs) (fun_lines f))

-- a node more of the last function
pub node_more : (fs : List CertFun) (x : List ℕ) (ns : List CertNode) (n : CertNode)
    → all_lines (fs ++ record { name = x; nodes = ns ++ n ∷ [] } ∷ []) ≡ all_lines (fs ++ record { name = x; nodes = ns } ∷ []) ++ node_line n
node_more fs x ns n =
    lines_more fs (record { name = x; nodes = ns ++ n ∷ [] })
    ∙ ap (λ z. all_lines fs ++ z) (fun_more x ns n)
    ∙ sym (append_assoc (all_lines fs) (fun_lines (record { name = x; nodes = ns })) (node_line n))
    ∙ ap (λ z. z ++ node_line n) (sym (lines_more fs (record { name = x; nodes = ns })))

-- ---- what may be written

pub marked_more : (strings : List (List Mark)) (string : List Mark) → AreMarked strings → AreMarked (string ∷ []) → AreMarked (strings ++ string ∷ [])
marked_more [] string h k = k
marked_more ([] ∷ strings) string h k = absurd h
marked_more ((m ∷ ms) ∷ strings) string h k = marked_more strings string h k

pub mark_more : (string : List Mark) (m : Mark) → AreMarked ((string ++ m ∷ []) ∷ [])
mark_more [] m = tt
mark_more (first ∷ string) m = tt

nodes_stand : (ns : List CertNode) (n : CertNode) → AreNodes ns → AreMarked n.marks → AreNodes (ns ++ n ∷ [])
nodes_stand [] n h k = (k, tt)
nodes_stand (first ∷ ns) n h k = (h.0, nodes_stand ns n h.1 k)

pub function_more : (fs : List CertFun) (f : CertFun) → AreFunctions fs → IsName f.name → AreNodes f.nodes → AreFunctions (fs ++ f ∷ [])
function_more [] f h i k = (i, k, tt)
function_more (first ∷ fs) f h i k = (h.0, h.1, function_more fs f h.2 i k)

pub node_stands : (fs : List CertFun) (x : List ℕ) (ns : List CertNode) (n : CertNode)
    → AreFunctions (fs ++ record { name = x; nodes = ns } ∷ []) → AreMarked n.marks → AreFunctions (fs ++ record { name = x; nodes = ns ++ n ∷ [] } ∷ [])
node_stands [] x ns n h k = (h.0, nodes_stand ns n h.1 k, tt)
node_stands (first ∷ fs) x ns n h k = (h.0, h.1, node_stands fs x ns n h.2 k)

small_part : (b : ℕ) → small b ≡ true → part_of_name b ≡ true
small_part b h = rw h refl

pub name_begins : (b : ℕ) → small b ≡ true → IsName (b ∷ [])
name_begins b h = (h, (small_part b h, tt))

each_more : (name : List ℕ) (b : ℕ) → Each part_of_name name → part_of_name b ≡ true → Each part_of_name (name ++ b ∷ [])
each_more [] b h k = (k, tt)
each_more (first ∷ name) b h k = (h.0, each_more name b h.1 k)

pub name_more : (name : List ℕ) (b : ℕ) → IsName name → part_of_name b ≡ true → IsName (name ++ b ∷ [])
name_more [] b h k = absurd h.0
name_more (first ∷ name) b h k = (h.0, each_more (first ∷ name) b h.1 k)
