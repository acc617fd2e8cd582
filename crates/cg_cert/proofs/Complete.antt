-- Each text of a certificate is read.
use Rattle.std.proofs.Common.{◌≡◌, ℕ, true, false, cond, List, [], ◌∷◌, ◌++◌, map, codes, Option, Some, nat_eq, refl, sym, ap, ◌∙◌, append_assoc}
use Rattle.std.proofs.lemmas.List.{append-nil}
use Rattle.cg_base.specs.Bytes.{Each}
use Rattle.cg_cert.specs.Machine.{State, begin, stuck, closed, named, longer, begun, marked, spaced, on_lead, behind_mark, at, finish}
use Rattle.cg_cert.specs.Texts.{mark_sign, node_word, strings_text, node_line, node_lines, fun_lines, all_lines, text, IsName, AreMarked, AreNodes, AreFunctions, CertText}
use Rattle.cg_cert.specs.Words.{mark_of}
use Rattle.cg_cert.specs.declared.cert.Cert.{Cert}
use Rattle.cg_cert.specs.declared.cert.CertFun.{CertFun}
use Rattle.cg_cert.specs.declared.cert.CertNode.{CertNode}
use Rattle.cg_cert.specs.declared.reader.Mode.TheVariants.{Word, BeforeName, BehindFun, InName, BeforeMark, InMarks}
use Rattle.cg_cert.specs.declared.word.Stage.TheVariants.{Outer, Inner}
use Rattle.cg_core.specs.declared.derivation.Mark.{Mark}
use Rattle.cg_core.specs.declared.derivation.Mark.TheVariants.{Gone, Left, Right, Both, Seen}
use Rattle.cg_core.specs.declared.derivation.Node.{Node}
use Rattle.cg_core.specs.declared.derivation.Node.TheVariants.{Fun}
use Rattle.cg_lexer.specs.Bytes.{small, part_of_name}
use Rattle.cg_cert.proofs.Table.{run, at_word, spelt, told}
use Rattle.cg_base.proofs.Sequences.{one_more as apart}

-- at a line, before all functions and in a function
abbrev outer : State
outer = record { mode = Word Outer; word = []; funs = []; name = []; nodes = []; strings = []; string = [] }

abbrev inner : List CertFun → List ℕ → List CertNode → State
inner fs x ns = at_word fs x ns []

-- ---- marks

sign_read : (m : Mark) → mark_of (mark_sign m) ≡ Some m
sign_read Gone = refl
sign_read Left = refl
sign_read Right = refl
sign_read Both = refl
sign_read Seen = refl

sign_small : (m : Mark) → small (mark_sign m) ≡ false
sign_small Gone = refl
sign_small Left = refl
sign_small Right = refl
sign_small Both = refl
sign_small Seen = refl

sign_behind : (n : Node) (m : Mark) (s : State) → behind_mark n (mark_sign m) s ≡ marked n (Some m) s
sign_behind n Gone s = refl
sign_behind n Left s = refl
sign_behind n Right s = refl
sign_behind n Both s = refl
sign_behind n Seen s = refl

-- the first mark of a node
first_mark : (n : Node) (m : Mark) (s : State) → at (spaced n) (mark_sign m) s ≡ marked n (Some m) s
first_mark Fun m s = ap (λ b. cond b (named (mark_sign m) (closed s)) (marked Fun (mark_of (mark_sign m)) s)) (sign_small m) ∙ ap (λ o. marked Fun o s) (sign_read m)
first_mark n m s = ap (λ o. marked n o s) (sign_read m)

module _ (n : Node) (fs : List CertFun) (x : List ℕ) (ns : List CertNode) where
  -- in a mark string of a node
  abbrev inside : List (List Mark) → List Mark → State
  inside strings string = record { mode = InMarks n; word = []; funs = fs; name = x; nodes = ns; strings = strings; string = string }

  marks_read : (ms : List Mark) (strings : List (List Mark)) (string : List Mark) (rest : List ℕ) → run (inside strings string) (map mark_sign ms ++ rest) ≡ run (inside strings (string ++ ms)) rest
  marks_read [] strings string rest = ap (λ z. run (inside strings z) rest) (sym (append-nil string))
  marks_read (m ∷ ms) strings string rest =
      ap (λ z. run z (map mark_sign ms ++ rest)) (sign_behind n m (inside strings string))
      ∙ marks_read ms strings (string ++ m ∷ []) rest
      ∙ ap (λ z. run (inside strings z) rest) (append_assoc string (m ∷ []) ms)

  strings_read : (more strings : List (List Mark)) (string : List Mark) (rest : List ℕ) → AreMarked more
      → run (inside strings string) (strings_text more ++ (codes "\n" ++ rest)) ≡ run (inner fs x (ns ++ record { node = n; marks = strings ++ string ∷ more } ∷ [])) rest
  strings_read [] strings string rest h = refl
  strings_read ([] ∷ more) strings string rest h = absurd h
  strings_read ((m ∷ ms) ∷ more) strings string rest h =
      let behind : List ℕ = strings_text more ++ (codes "\n" ++ rest) in
      ap (λ o. run (marked n o (record (inside (strings ++ string ∷ []) []) { mode = BeforeMark n })) ((map mark_sign ms ++ strings_text more) ++ (codes "\n" ++ rest))) (sign_read m)
      ∙ ap (run (inside (strings ++ string ∷ []) (m ∷ []))) (append_assoc (map mark_sign ms) (strings_text more) (codes "\n" ++ rest))
      ∙ marks_read ms (strings ++ string ∷ []) (m ∷ []) behind
      ∙ strings_read more (strings ++ string ∷ []) (m ∷ ms) rest h
      ∙ ap (λ z. run (inner fs x (ns ++ record { node = n; marks = z } ∷ [])) rest) (append_assoc strings (string ∷ []) ((m ∷ ms) ∷ more))

  -- ---- nodes

  line_read : (marks : List (List Mark)) (rest : List ℕ) → AreMarked marks
      → run (inner fs x ns) (node_word n ++ (strings_text marks ++ (codes "\n" ++ rest))) ≡ run (inner fs x (ns ++ record { node = n; marks = marks } ∷ [])) rest
  line_read [] rest h = spelt n fs x ns (codes "\n" ++ rest) ∙ ap (λ l. run (on_lead Inner l 10 (at_word fs x ns (node_word n))) rest) (told n)
  line_read ([] ∷ more) rest h = absurd h
  line_read ((m ∷ ms) ∷ more) rest h =
      let after : List ℕ = (map mark_sign ms ++ strings_text more) ++ (codes "\n" ++ rest) in
      let at_space : State = record { mode = spaced n; word = []; funs = fs; name = x; nodes = ns; strings = []; string = [] } in
      spelt n fs x ns (strings_text ((m ∷ ms) ∷ more) ++ (codes "\n" ++ rest))
      ∙ ap (λ l. run (on_lead Inner l 32 (at_word fs x ns (node_word n))) (mark_sign m ∷ after)) (told n)
      ∙ ap (λ z. run z after) (first_mark n m at_space)
      ∙ ap (run (inside [] (m ∷ []))) (append_assoc (map mark_sign ms) (strings_text more) (codes "\n" ++ rest))
      ∙ marks_read ms [] (m ∷ []) (strings_text more ++ (codes "\n" ++ rest))
      ∙ strings_read more [] (m ∷ ms) rest h

nodes_read : (more : List CertNode) (fs : List CertFun) (x : List ℕ) (ns : List CertNode) (rest : List ℕ) → AreNodes more → run (inner fs x ns) (node_lines more ++ rest) ≡ run (inner fs x (ns ++ more)) rest
nodes_read [] fs x ns rest h = ap (λ z. run (inner fs x z) rest) (sym (append-nil ns))
nodes_read (n ∷ more) fs x ns rest h =
    ap (run (inner fs x ns)) (append_assoc (node_line n) (node_lines more) rest ∙ apart (node_word n.node) (strings_text n.marks) (codes "\n") (node_lines more ++ rest))
    ∙ line_read n.node fs x ns n.marks (node_lines more ++ rest) h.0
    ∙ nodes_read more fs x (ns ++ n ∷ []) rest h.1
    ∙ ap (λ z. run (inner fs x z) rest) (append_assoc ns (n ∷ []) more)

-- ---- functions

-- in the name of a function
abbrev naming : List CertFun → List ℕ → State
naming fs word = record { mode = InName; word = word; funs = fs; name = []; nodes = []; strings = []; string = [] }

name_read : (more : List ℕ) (fs : List CertFun) (word rest : List ℕ) → Each part_of_name more → run (naming fs word) (more ++ (codes "\n" ++ rest)) ≡ run (inner fs (word ++ more) []) rest
name_read [] fs word rest h = ap (λ z. run (inner fs z []) rest) (sym (append-nil word))
name_read (b ∷ more) fs word rest h =
    ap (λ t. run (cond t (longer InName b (naming fs word)) (cond (nat_eq b 10) (begun (naming fs word)) (stuck (naming fs word)))) (more ++ (codes "\n" ++ rest))) h.0
    ∙ name_read more fs (word ++ b ∷ []) rest h.1
    ∙ ap (λ z. run (inner fs z []) rest) (append_assoc word (b ∷ []) more)

-- behind `fun `, where a name begins
module _ (s : State) (fs : List CertFun) (begins : (b : ℕ) (rest : List ℕ) → small b ≡ true → run s (b ∷ rest) ≡ run (naming fs (b ∷ [])) rest) where
  named_read : (name : List ℕ) (nodes : List CertNode) (rest : List ℕ) → IsName name → AreNodes nodes
      → run s (name ++ (codes "\n" ++ (node_lines nodes ++ rest))) ≡ run (inner fs name nodes) rest
  named_read [] nodes rest i h = absurd i.0
  named_read (b ∷ name) nodes rest i h =
      begins b (name ++ (codes "\n" ++ (node_lines nodes ++ rest))) i.0
      ∙ name_read name fs (b ∷ []) (node_lines nodes ++ rest) i.1.1
      ∙ nodes_read nodes fs (b ∷ name) [] rest h

first_begins : (b : ℕ) (rest : List ℕ) → small b ≡ true → run (record outer { mode = BeforeName }) (b ∷ rest) ≡ run (naming [] (b ∷ [])) rest
first_begins b rest h = rw h refl

first_read : (f : CertFun) (rest : List ℕ) → IsName f.name → AreNodes f.nodes → run outer (fun_lines f ++ rest) ≡ run (inner [] f.name f.nodes) rest
first_read f rest i h =
    ap (run outer) (apart (codes "fun ") f.name (codes "\n" ++ node_lines f.nodes) rest)
    ∙ named_read (record outer { mode = BeforeName }) [] first_begins f.name f.nodes rest i h

later_begins : (fs : List CertFun) (x : List ℕ) (ns : List CertNode) (b : ℕ) (rest : List ℕ) → small b ≡ true
    → run (record (inner fs x ns) { mode = BehindFun }) (b ∷ rest) ≡ run (naming (fs ++ record { name = x; nodes = ns } ∷ []) (b ∷ [])) rest
later_begins fs x ns b rest h = rw h refl

later_read : (f : CertFun) (fs : List CertFun) (x : List ℕ) (ns : List CertNode) (rest : List ℕ) → IsName f.name → AreNodes f.nodes
    → run (inner fs x ns) (fun_lines f ++ rest) ≡ run (inner (fs ++ record { name = x; nodes = ns } ∷ []) f.name f.nodes) rest
later_read f fs x ns rest i h =
    ap (run (inner fs x ns)) (apart (codes "fun ") f.name (codes "\n" ++ node_lines f.nodes) rest)
    ∙ named_read (record (inner fs x ns) { mode = BehindFun }) (fs ++ record { name = x; nodes = ns } ∷ []) (later_begins fs x ns) f.name f.nodes rest i h

-- what is read from a state on
unfoldable reads : State → List ℕ → Option Cert
reads s bytes = finish (run s bytes)

reads_on : (s t : State) (a b c : List ℕ) → a ≡ b → run s b ≡ run t c → reads s a ≡ reads t c
unfolding reads
reads_on s t a b c e r = ap (λ z. finish (run s z)) e ∙ ap finish r

the_end : (fs : List CertFun) (x : List ℕ) (ns : List CertNode) → reads (inner fs x ns) (codes "end\n") ≡ Some (record { funs = fs ++ record { name = x; nodes = ns } ∷ [] })
unfolding reads
the_end fs x ns = refl

all_read : (more fs : List CertFun) (x : List ℕ) (ns : List CertNode) → AreFunctions more
    → reads (inner fs x ns) (all_lines more ++ codes "end\n") ≡ Some (record { funs = (fs ++ record { name = x; nodes = ns } ∷ []) ++ more })
all_read [] fs x ns h = the_end fs x ns ∙ ap (λ z. Some (record { funs = z })) (sym (append-nil (fs ++ record { name = x; nodes = ns } ∷ [])))
all_read (f ∷ more) fs x ns h =
    reads_on (inner fs x ns) (inner (fs ++ record { name = x; nodes = ns } ∷ []) f.name f.nodes) _ _ (all_lines more ++ codes "end\n")
    (append_assoc (fun_lines f) (all_lines more) (codes "end\n"))
    (later_read f fs x ns (all_lines more ++ codes "end\n") h.0 h.1)
    ∙ all_read more (fs ++ record { name = x; nodes = ns } ∷ []) f.name f.nodes h.2
    ∙ ap (λ z. Some (record { funs = z })) (append_assoc (fs ++ record { name = x; nodes = ns } ∷ []) (f ∷ []) more)

lines_read : (fs : List CertFun) → AreFunctions fs → reads outer (all_lines fs ++ codes "end\n") ≡ Some (record { funs = fs })
unfolding reads
lines_read [] h = refl
lines_read (f ∷ fs) h =
    reads_on outer (inner [] f.name f.nodes) _ _ (all_lines fs ++ codes "end\n")
    (append_assoc (fun_lines f) (all_lines fs) (codes "end\n"))
    (first_read f (all_lines fs ++ codes "end\n") h.0 h.1)
    ∙ all_read fs [] f.name f.nodes h.2

-- ---- certificates

head_read : (rest : List ℕ) → run begin (codes "cogent certificate 1\n" ++ rest) ≡ run outer rest
head_read rest = refl

text_read : (c : Cert) → AreFunctions c.funs → reads begin (text c) ≡ Some c
text_read c h =
    reads_on begin outer (text c) (text c) (all_lines c.funs ++ codes "end\n") refl (head_read (all_lines c.funs ++ codes "end\n")) ∙ lines_read c.funs h

pub complete : (bytes : List ℕ) (c : Cert) → CertText bytes c → finish (run begin bytes) ≡ Some c
unfolding reads
complete bytes c t = ap (reads begin) t.0 ∙ text_read c t.1

pub one : (bytes : List ℕ) (a b : Cert) → CertText bytes a → CertText bytes b → a ≡ b
one bytes a b ta tb =
    let ea : finish (run begin bytes) ≡ Some a = complete bytes a ta in
    let eb : finish (run begin bytes) ≡ Some b = complete bytes b tb in
    cc
