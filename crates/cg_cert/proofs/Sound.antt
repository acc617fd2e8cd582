-- What the machine has read is what its state spells.
use Rattle.std.proofs.Common.{◌≡◌, ℕ, Bool, true, false, cond, nat_eq, List, [], ◌∷◌, ◌++◌, map, codes, Option, Some, None, refl, sym, ap, ◌∙◌, subst, append_assoc}
use Rattle.std.specs.Prelude.{⊤}
use Rattle.std.specs.Str.{bytes_eq}
use Rattle.std.proofs.lemmas.List.{append-nil, map-append}
use Rattle.std.proofs.lemmas.Slice.Eq.{bytes_eq-Decides}
use Rattle.cg_base.proofs.Spans.{either_way}
use Rattle.cg_cert.specs.Machine.{State, begin, stuck, go_on, this, closed, leaf, next_string, node, spaced, named, longer, begun, marked, on_node, on_lead, in_word, before_name, behind_fun, in_name, behind_mark, at, step, ended, finish}
use Rattle.cg_cert.specs.Texts.{mark_sign, node_word, strings_text, node_line, all_lines, fun_lines, IsName, AreMarked, AreNodes, AreFunctions, CertText}
use Rattle.cg_cert.specs.Words.{spelled, words, is_begun, lead_of, is_behind, mark_of}
use Rattle.cg_cert.specs.declared.cert.Cert.{Cert}
use Rattle.cg_cert.specs.declared.cert.CertFun.{CertFun}
use Rattle.cg_cert.specs.declared.cert.CertNode.{CertNode}
use Rattle.cg_cert.specs.declared.reader.Mode.{Mode}
use Rattle.cg_cert.specs.declared.reader.Mode.TheVariants.{Word, BeforeName, BehindFun, InName, BeforeMark, InMarks, Finished, Stuck}
use Rattle.cg_cert.specs.declared.word.Lead.{Lead}
use Rattle.cg_cert.specs.declared.word.Lead.TheVariants.{Head, Node as NodeWord, End}
use Rattle.cg_cert.specs.declared.word.Stage.{Stage}
use Rattle.cg_cert.specs.declared.word.Stage.TheVariants.{Top, Outer, Inner}
use Rattle.cg_core.specs.declared.derivation.Mark.{Mark}
use Rattle.cg_core.specs.declared.derivation.Mark.TheVariants.{Gone, Left, Right, Both, Seen}
use Rattle.cg_core.specs.declared.derivation.Node.{Node}
use Rattle.cg_core.specs.declared.derivation.Node.TheVariants.{Fun}
use Rattle.cg_lexer.specs.Bytes.{small, part_of_name}
use Rattle.cg_cert.proofs.Lines.{strings_more, lines_more, node_more, marked_more, mark_more, function_more, node_stands, name_begins, name_more}
use Rattle.cg_cert.proofs.Table.{run}
use Rattle.cg_graphs.proofs.Standing.{are_equal as is_byte}

abbrev pub head : List ℕ
head = codes "cogent certificate 1\n"

-- all functions, the one at hand too
abbrev pub all_of : State → List CertFun
all_of s = s.funs ++ this s ∷ []

-- what stands before a line
abbrev pub front : Stage → State → List ℕ
front Top s = []
front Outer s = head
front Inner s = head ++ all_lines (all_of s)

-- nothing else is read than what stands there
abbrev pub Ready : Stage → State → Type 0
Ready Inner s = AreFunctions (all_of s) × (s.strings ≡ []) × (s.string ≡ [])
Ready _ s = (s.funs ≡ []) × (s.nodes ≡ []) × (s.strings ≡ []) × (s.string ≡ [])

-- what a node with mark strings spells up to here
abbrev node_text : Node → State → List ℕ
node_text n s = node_word n ++ (strings_text s.strings ++ (codes " " ++ map mark_sign s.string))

-- what a state spells, by where the machine stands
abbrev pub Spelled : Mode → List ℕ → State → Type 0
Spelled (Word stage) ts s = (ts ≡ front stage s ++ s.word) × (is_begun (words stage) s.word ≡ true) × Ready stage s
Spelled BeforeName ts s = (ts ≡ head ++ codes "fun ") × Ready Outer s
Spelled BehindFun ts s = (ts ≡ front Inner s ++ codes "fun ") × Ready Inner s
Spelled InName ts s = (ts ≡ head ++ (all_lines s.funs ++ (codes "fun " ++ s.word))) × AreFunctions s.funs × IsName s.word × (s.nodes ≡ []) × (s.strings ≡ []) × (s.string ≡ [])
Spelled (BeforeMark n) ts s = (ts ≡ front Inner s ++ node_text n s) × AreFunctions (all_of s) × AreMarked s.strings
Spelled (InMarks n) ts s = (ts ≡ front Inner s ++ node_text n s) × AreFunctions (all_of s) × AreMarked s.strings × AreMarked (s.string ∷ [])
Spelled Finished ts s = CertText ts (record { funs = s.funs })
Spelled Stuck ts s = ⊤

abbrev pub Stands : List ℕ → State → Type 0
Stands ts s = Spelled s.mode ts s

-- ---- texts, one behind the other

one_more : (ts f w : List ℕ) (b : ℕ) → ts ≡ f ++ w → ts ++ b ∷ [] ≡ f ++ (w ++ b ∷ [])
one_more ts f w b e = ap (λ z. z ++ b ∷ []) e ∙ append_assoc f w (b ∷ [])

byte_more : (ts f w : List ℕ) (b k : ℕ) → ts ≡ f ++ w → b ≡ k → ts ++ b ∷ [] ≡ f ++ (w ++ k ∷ [])
byte_more ts f w b k e h = one_more ts f w b e ∙ ap (λ z. f ++ (w ++ z ∷ [])) h

-- a line is whole
node_whole : (ts lines : List ℕ) (fs : List CertFun) (x : List ℕ) (ns : List CertNode) (n : CertNode)
    → ts ≡ (head ++ all_lines (fs ++ record { name = x; nodes = ns } ∷ [])) ++ lines → lines ≡ node_line n
    → ts ≡ (head ++ all_lines (fs ++ record { name = x; nodes = ns ++ n ∷ [] } ∷ [])) ++ []
node_whole ts lines fs x ns n e h =
    e ∙ ap (λ z. (head ++ all_lines (fs ++ record { name = x; nodes = ns } ∷ [])) ++ z) h
    ∙ append_assoc head (all_lines (fs ++ record { name = x; nodes = ns } ∷ [])) (node_line n)
    ∙ ap (λ z. head ++ z) (sym (node_more fs x ns n))
    ∙ sym (append-nil (head ++ all_lines (fs ++ record { name = x; nodes = ns ++ n ∷ [] } ∷ [])))

-- ---- marks

-- a choice of a mark by its sign
sign_or : (b : ℕ) (v m : Mark) (o : Option Mark) → cond (nat_eq b (mark_sign v)) (Some v) o ≡ Some m → (o ≡ Some m → mark_sign m ≡ b) → mark_sign m ≡ b
sign_or b v m o e later = go (nat_eq b (mark_sign v)) refl e
  where
    go : (t : Bool) → nat_eq b (mark_sign v) ≡ t → cond t (Some v) o ≡ Some m → mark_sign m ≡ b
    go true h k =
        let same : v ≡ m = cc in
        ap mark_sign (sym same) ∙ sym (is_byte b (mark_sign v) h)
    go false h k = later k

sign_of : (b : ℕ) (m : Mark) → mark_of b ≡ Some m → mark_sign m ≡ b
sign_of b m e =
    sign_or b Gone m (cond (nat_eq b 76) (Some Left) (cond (nat_eq b 82) (Some Right) (cond (nat_eq b 66) (Some Both) (cond (nat_eq b 79) (Some Seen) None)))) e
    (λ e. sign_or b Left m (cond (nat_eq b 82) (Some Right) (cond (nat_eq b 66) (Some Both) (cond (nat_eq b 79) (Some Seen) None))) e
    (λ e. sign_or b Right m (cond (nat_eq b 66) (Some Both) (cond (nat_eq b 79) (Some Seen) None)) e
    (λ e. sign_or b Both m (cond (nat_eq b 79) (Some Seen) None) e
    (λ e. sign_or b Seen m None e
    (λ e. absurd (cc))))))

mark_text : (w strings : List ℕ) (string : List Mark) (m : Mark) → (w ++ (strings ++ (codes " " ++ map mark_sign string))) ++ mark_sign m ∷ [] ≡ w ++ (strings ++ (codes " " ++ map mark_sign (string ++ m ∷ [])))
mark_text w strings string m =
    append_assoc w (strings ++ (codes " " ++ map mark_sign string)) (mark_sign m ∷ [])
    ∙ ap (λ z. w ++ z) (append_assoc strings (codes " " ++ map mark_sign string) (mark_sign m ∷ []))
    ∙ ap (λ z. w ++ (strings ++ (codes " " ++ z))) (sym (map-append mark_sign string (m ∷ [])))

-- a mark of a node, where it is one
marked_stands : (n : Node) (b : ℕ) (o : Option Mark) (ts : List ℕ) (s : State) → ((m : Mark) → o ≡ Some m → mark_sign m ≡ b)
    → ts ≡ front Inner s ++ node_text n s → AreFunctions (all_of s) → AreMarked s.strings → Stands (ts ++ b ∷ []) (marked n o s)
marked_stands n b None ts s sign e h k = tt
marked_stands n b (Some m) ts s sign e h k = (
  byte_more ts (front Inner s) (node_text n s) b (mark_sign m) e (sym (sign m refl)) ∙ ap (λ z. front Inner s ++ z) (mark_text (node_word n) (strings_text s.strings) s.string m),
  h,
  k,
  mark_more s.string m,
)

-- behind a mark
string_text : (w : List ℕ) (strings : List (List Mark)) (string : List Mark) → (w ++ (strings_text strings ++ (codes " " ++ map mark_sign string))) ++ 32 ∷ [] ≡ w ++ (strings_text (strings ++ string ∷ []) ++ (codes " " ++ []))
string_text w strings string =
    append_assoc w (strings_text strings ++ (codes " " ++ map mark_sign string)) (32 ∷ []) ∙ ap (λ z. w ++ (z ++ 32 ∷ [])) (sym (strings_more strings string))

line_text : (w : List ℕ) (strings : List (List Mark)) (string : List Mark) → (w ++ (strings_text strings ++ (codes " " ++ map mark_sign string))) ++ 10 ∷ [] ≡ w ++ (strings_text (strings ++ string ∷ []) ++ codes "\n")
line_text w strings string =
    append_assoc w (strings_text strings ++ (codes " " ++ map mark_sign string)) (10 ∷ []) ∙ ap (λ z. w ++ (z ++ 10 ∷ [])) (sym (strings_more strings string))

node_stands_whole : (n : Node) (b : ℕ) (ts : List ℕ) (s : State) → Spelled (InMarks n) ts s → b ≡ 10 → Stands (ts ++ b ∷ []) (node n s)
node_stands_whole n b ts s h e =
    let made : CertNode = record { node = n; marks = s.strings ++ s.string ∷ [] } in (
      node_whole (ts ++ b ∷ []) (node_text n s ++ 10 ∷ []) s.funs s.name s.nodes made (byte_more ts (front Inner s) (node_text n s) b 10 h.0 e) (line_text (node_word n) s.strings s.string),
      refl,
      (node_stands s.funs s.name s.nodes made h.1 (marked_more s.strings s.string h.2 h.3), refl, refl),
    )

mark_stands : (n : Node) (b : ℕ) (ts : List ℕ) (s : State) → Spelled (InMarks n) ts s → Stands (ts ++ b ∷ []) (behind_mark n b s)
mark_stands n b ts s h =
    either_way (Stands (ts ++ b ∷ [])) (nat_eq b 32) (record (next_string s) { mode = BeforeMark n }) (cond (nat_eq b 10) (node n s) (marked n (mark_of b) s))
    (λ e. (
      byte_more ts (front Inner s) (node_text n s) b 32 h.0 (is_byte b 32 e) ∙ ap (λ z. front Inner s ++ z) (string_text (node_word n) s.strings s.string),
      h.1,
      marked_more s.strings s.string h.2 h.3,
    ))
    (λ _. either_way (Stands (ts ++ b ∷ [])) (nat_eq b 10) (node n s) (marked n (mark_of b) s)
    (λ e. node_stands_whole n b ts s h (is_byte b 10 e))
    (λ _. marked_stands n b (mark_of b) ts s (sign_of b) h.0 h.1 h.2))

-- ---- names

named_stands : (b : ℕ) (ts : List ℕ) (s : State) → small b ≡ true → ts ≡ head ++ (all_lines s.funs ++ codes "fun ") → AreFunctions s.funs → (s.nodes ≡ []) × (s.strings ≡ []) × (s.string ≡ [])
    → Stands (ts ++ b ∷ []) (named b s)
named_stands b ts s h e fs none = (
  one_more ts head (all_lines s.funs ++ codes "fun ") b e ∙ ap (λ z. head ++ z) (append_assoc (all_lines s.funs) (codes "fun ") (b ∷ [])),
  fs,
  name_begins b h,
  none.0,
  none.1,
  none.2,
)

no_functions : (fs : List CertFun) → fs ≡ [] → AreFunctions fs
no_functions fs e = let P : List CertFun → Type 0 = AreFunctions in subst P (sym e) tt

before_stands : (b : ℕ) (ts : List ℕ) (s : State) → Spelled BeforeName ts s → Stands (ts ++ b ∷ []) (before_name b s)
before_stands b ts s h =
    either_way (Stands (ts ++ b ∷ [])) (small b) (named b s) (stuck s)
    (λ e. named_stands b ts s e (h.0 ∙ ap (λ z. head ++ (all_lines z ++ codes "fun ")) (sym h.1.0)) (no_functions s.funs h.1.0) (h.1.1, h.1.2, h.1.3))
    (λ _. tt)

-- behind `fun ` in a function, where its node is meant
fun_text : (f : List ℕ) (strings : List (List Mark)) (string : List Mark) → strings ≡ [] → string ≡ [] → f ++ codes "fun " ≡ f ++ (node_word Fun ++ (strings_text strings ++ (codes " " ++ map mark_sign string)))
fun_text f strings string e k = (λ i. f ++ (node_word Fun ++ (strings_text (sym e i) ++ (codes " " ++ map mark_sign (sym k i)))))

no_strings : (strings : List (List Mark)) → strings ≡ [] → AreMarked strings
no_strings strings e = let P : List (List Mark) → Type 0 = AreMarked in subst P (sym e) tt

behind_stands : (b : ℕ) (ts : List ℕ) (s : State) → Spelled BehindFun ts s → Stands (ts ++ b ∷ []) (behind_fun b s)
behind_stands b ts s h =
    either_way (Stands (ts ++ b ∷ [])) (small b) (named b (closed s)) (marked Fun (mark_of b) s)
    (λ e. named_stands b ts (closed s) e (h.0 ∙ append_assoc head (all_lines (all_of s)) (codes "fun ")) h.1.0 (refl, h.1.1, h.1.2))
    (λ _. marked_stands Fun b (mark_of b) ts s (sign_of b) (h.0 ∙ fun_text (front Inner s) s.strings s.string h.1.1 h.1.2) h.1.0 (no_strings s.strings h.1.1))

-- the line of a function is whole
fun_whole : (ts : List ℕ) (fs : List CertFun) (x : List ℕ) (ns : List CertNode) (b : ℕ) → ts ≡ head ++ (all_lines fs ++ (codes "fun " ++ x)) → b ≡ 10 → ns ≡ []
    → ts ++ b ∷ [] ≡ (head ++ all_lines (fs ++ record { name = x; nodes = ns } ∷ [])) ++ []
fun_whole ts fs x ns b e h none =
    byte_more ts head (all_lines fs ++ (codes "fun " ++ x)) b 10 e h
    ∙ ap (λ z. head ++ z) (append_assoc (all_lines fs) (codes "fun " ++ x) (10 ∷ []))
    ∙ ap (λ z. head ++ (all_lines fs ++ fun_lines (record { name = x; nodes = z }))) (sym none)
    ∙ ap (λ z. head ++ z) (sym (lines_more fs (record { name = x; nodes = ns })))
    ∙ sym (append-nil (head ++ all_lines (fs ++ record { name = x; nodes = ns } ∷ [])))

no_nodes : (ns : List CertNode) → ns ≡ [] → AreNodes ns
no_nodes ns e = let P : List CertNode → Type 0 = AreNodes in subst P (sym e) tt

name_stands : (b : ℕ) (ts : List ℕ) (s : State) → Spelled InName ts s → Stands (ts ++ b ∷ []) (in_name b s)
name_stands b ts s h =
    either_way (Stands (ts ++ b ∷ [])) (part_of_name b) (longer InName b s) (cond (nat_eq b 10) (begun s) (stuck s))
    (λ e. (
      one_more ts head (all_lines s.funs ++ (codes "fun " ++ s.word)) b h.0
          ∙ ap (λ z. head ++ z) (append_assoc (all_lines s.funs) (codes "fun " ++ s.word) (b ∷ [])),
      h.1,
      name_more s.word b h.2 e,
      h.3,
      h.4,
      h.5,
    ))
    (λ _. either_way (Stands (ts ++ b ∷ [])) (nat_eq b 10) (begun s) (stuck s)
    (λ e. (
      fun_whole ts s.funs s.word s.nodes b h.0 (is_byte b 10 e) h.3,
      refl,
      (function_more s.funs (record { name = s.word; nodes = s.nodes }) h.1 h.2 (no_nodes s.nodes h.3), h.4, h.5),
    ))
    (λ _. tt))

-- ---- words

-- the word that is found is the one that is read
word_is : (leads : List Lead) (word : List ℕ) (l : Lead) → lead_of leads word ≡ Some l → spelled l ≡ word
word_is [] word l e = absurd (cc)
word_is (first ∷ leads) word l e = go (bytes_eq (spelled first) word) refl e (word_is leads word l)
  where
    go : (t : Bool) → bytes_eq (spelled first) word ≡ t → cond t (Some first) (lead_of leads word) ≡ Some l → (lead_of leads word ≡ Some l → spelled l ≡ word) → spelled l ≡ word
    go true h k later =
        let same : first ≡ l = cc in
        ap spelled (sym same) ∙ (bytes_eq-Decides (spelled first) word).0 h
    go false h k later = later k

-- a node's word, and a line feed or a space
leaf_stands : (n : Node) (b : ℕ) (ts : List ℕ) (s : State) → ts ≡ front Inner s ++ node_word n → Ready Inner s → b ≡ 10 → Stands (ts ++ b ∷ []) (leaf n s)
leaf_stands n b ts s e r h =
    let made : CertNode = record { node = n; marks = [] } in (
      node_whole (ts ++ b ∷ []) (node_word n ++ 10 ∷ []) s.funs s.name s.nodes made (byte_more ts (front Inner s) (node_word n) b 10 e h) refl,
      refl,
      (node_stands s.funs s.name s.nodes made r.0 tt, r.1, r.2),
    )

space_text : (f w : List ℕ) (strings : List (List Mark)) (string : List Mark) → strings ≡ [] → string ≡ [] → f ++ (w ++ 32 ∷ []) ≡ f ++ (w ++ (strings_text strings ++ (codes " " ++ map mark_sign string)))
space_text f w strings string e k = (λ i. f ++ (w ++ (strings_text (sym e i) ++ (codes " " ++ map mark_sign (sym k i)))))

space_stands : (n : Node) (b : ℕ) (ts : List ℕ) (s : State) → ts ≡ front Inner s ++ node_word n → Ready Inner s → b ≡ 32 → Stands (ts ++ b ∷ []) (go_on (spaced n) s)
space_stands Fun b ts s e r h = (byte_more ts (front Inner s) (node_word Fun) b 32 e h, r)
space_stands n b ts s e r h = (
  byte_more ts (front Inner s) (node_word n) b 32 e h ∙ space_text (front Inner s) (node_word n) s.strings s.string r.1 r.2,
  r.0,
  no_strings s.strings r.1,
)

-- a byte that ends a word, and is no line feed, is a space
or_space : (b : ℕ) → is_behind Inner b ≡ true → nat_eq b 10 ≡ false → b ≡ 32
or_space b h k = is_byte b 32 (rw k at h)

on_node_stands : (n : Node) (b : ℕ) (ts : List ℕ) (s : State) → ts ≡ front Inner s ++ node_word n → Ready Inner s → is_behind Inner b ≡ true → Stands (ts ++ b ∷ []) (on_node n b s)
on_node_stands n b ts s e r h =
    either_way (Stands (ts ++ b ∷ [])) (nat_eq b 10) (leaf n s) (go_on (spaced n) s)
    (λ k. leaf_stands n b ts s e r (is_byte b 10 k))
    (λ k. space_stands n b ts s e r (or_space b h k))

-- a certificate with no function
empty_text : (ts : List ℕ) (fs : List CertFun) → ts ≡ head ++ codes "end\n" → fs ≡ [] → CertText ts (record { funs = fs })
empty_text ts fs e none = let P : List CertFun → Type 0 = λ z. CertText ts (record { funs = z }) in subst P (sym none) (e, tt)

lead_stands : (stage : Stage) (lead : Option Lead) (b : ℕ) (ts : List ℕ) (s : State) → ts ≡ front stage s ++ s.word → Ready stage s → is_behind stage b ≡ true
    → ((l : Lead) → lead ≡ Some l → spelled l ≡ s.word) → Stands (ts ++ b ∷ []) (on_lead stage lead b s)
lead_stands Top (Some Head) b ts s e r h word = (byte_more ts [] (spelled Head) b 10 (e ∙ sym (word Head refl)) (is_byte b 10 h), refl, r)
lead_stands Outer (Some (NodeWord Fun)) b ts s e r h word =
    either_way (Stands (ts ++ b ∷ [])) (nat_eq b 32) (go_on BeforeName s) (stuck s)
    (λ k. (byte_more ts head (codes "fun") b 32 (e ∙ ap (λ z. head ++ z) (sym (word (NodeWord Fun) refl))) (is_byte b 32 k), r))
    (λ _. tt)
lead_stands Outer (Some End) b ts s e r h word =
    either_way (Stands (ts ++ b ∷ [])) (nat_eq b 10) (go_on Finished s) (stuck s)
    (λ k. empty_text (ts ++ b ∷ []) s.funs (byte_more ts head (codes "end") b 10 (e ∙ ap (λ z. head ++ z) (sym (word End refl))) (is_byte b 10 k)) r.0)
    (λ _. tt)
lead_stands Inner (Some (NodeWord n)) b ts s e r h word = on_node_stands n b ts s (e ∙ ap (λ z. front Inner s ++ z) (sym (word (NodeWord n) refl))) r h
lead_stands Inner (Some End) b ts s e r h word =
    either_way (Stands (ts ++ b ∷ [])) (nat_eq b 10) (go_on Finished (closed s)) (stuck s)
    (λ k. (
      byte_more ts (front Inner s) (codes "end") b 10 (e ∙ ap (λ z. front Inner s ++ z) (sym (word End refl))) (is_byte b 10 k) ∙ append_assoc head (all_lines (all_of s)) (codes "end\n"),
      r.0,
    ))
    (λ _. tt)
lead_stands stage lead b ts s e r h word = tt

longer_stands : (stage : Stage) (b : ℕ) (ts : List ℕ) (s : State) → ts ≡ front stage s ++ s.word → Ready stage s → is_begun (words stage) (s.word ++ b ∷ []) ≡ true → Stands (ts ++ b ∷ []) (longer (Word stage) b s)
longer_stands Top b ts s e r h = (one_more ts [] s.word b e, h, r)
longer_stands Outer b ts s e r h = (one_more ts head s.word b e, h, r)
longer_stands Inner b ts s e r h = (one_more ts (front Inner s) s.word b e, h, r)

word_stands : (stage : Stage) (b : ℕ) (ts : List ℕ) (s : State) → Spelled (Word stage) ts s → Stands (ts ++ b ∷ []) (in_word stage b s)
word_stands stage b ts s h =
    either_way (Stands (ts ++ b ∷ [])) (is_behind stage b) (on_lead stage (lead_of (words stage) s.word) b s) (cond (is_begun (words stage) (s.word ++ b ∷ [])) (longer (Word stage) b s) (stuck (longer (Word stage) b s)))
    (λ e. lead_stands stage (lead_of (words stage) s.word) b ts s h.0 h.2 e (word_is (words stage) s.word))
    (λ _. either_way (Stands (ts ++ b ∷ [])) (is_begun (words stage) (s.word ++ b ∷ [])) (longer (Word stage) b s) (stuck (longer (Word stage) b s))
    (longer_stands stage b ts s h.0 h.2)
    (λ _. tt))

-- ---- all of it

at_stands : (m : Mode) (b : ℕ) (ts : List ℕ) (s : State) → Spelled m ts s → Stands (ts ++ b ∷ []) (at m b s)
at_stands (Word stage) b ts s h = word_stands stage b ts s h
at_stands BeforeName b ts s h = before_stands b ts s h
at_stands BehindFun b ts s h = behind_stands b ts s h
at_stands InName b ts s h = name_stands b ts s h
at_stands (BeforeMark n) b ts s h = marked_stands n b (mark_of b) ts s (sign_of b) h.0 h.1 h.2
at_stands (InMarks n) b ts s h = mark_stands n b ts s h
at_stands Finished b ts s h = tt
at_stands Stuck b ts s h = tt

run_stands : (more ts : List ℕ) (s : State) → Stands ts s → Stands (ts ++ more) (run s more)
run_stands [] ts s h = let P : List ℕ → Type 0 = λ z. Stands z s in subst P (sym (append-nil ts)) h
run_stands (b ∷ more) ts s h =
    let P : List ℕ → Type 0 = λ z. Stands z (run (step s b) more) in
    subst P (append_assoc ts (b ∷ []) more) (run_stands more (ts ++ b ∷ []) (step s b) (at_stands s.mode b ts s h))

pub spells : (ts : List ℕ) → Stands ts (run begin ts)
spells ts = run_stands ts [] begin (refl, refl, (refl, refl, refl, refl))

ended_text : (m : Mode) (ts : List ℕ) (s : State) (d : Cert) → Spelled m ts s → ended m s.funs ≡ Some d → CertText ts d
ended_text Finished ts s d h e =
    let same : record { funs = s.funs } ≡ d = cc in
    let P : Cert → Type 0 = CertText ts in subst P same h
ended_text _ ts s d h e = absurd (cc)

pub sound : (ts : List ℕ) (d : Cert) → finish (run begin ts) ≡ Some d → CertText ts d
sound ts d e = ended_text (run begin ts).mode ts (run begin ts) d (spells ts) e
