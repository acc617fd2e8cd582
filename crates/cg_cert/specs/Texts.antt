-- What the text of a certificate is (docs/LANGUAGE.md, "Certificates"): a line that says so, a line for each function and each node, and
-- a last line. A certificate has one text.
use Rattle.std.specs.Prelude.{◌≡◌, ℕ, List, [], ◌∷◌, ◌++◌, map, codes, ⊤}
use Rattle.cg_base.specs.Bytes.{Each, Starts}
use Rattle.cg_cert.specs.declared.cert.Cert.{Cert}
use Rattle.cg_cert.specs.declared.cert.CertFun.{CertFun}
use Rattle.cg_cert.specs.declared.cert.CertNode.{CertNode}
use Rattle.cg_core.specs.declared.derivation.Mark.{Mark}
use Rattle.cg_core.specs.declared.derivation.Mark.TheVariants.{Gone, Left, Right, Both, Seen}
use Rattle.cg_core.specs.declared.derivation.Node.{Node}
use Rattle.cg_core.specs.declared.derivation.Node.TheVariants.{Var, Unit, Bool, Lit, Fun, Op, App, Let, LetBang, If, Con, Case, Esac, Struct, Member, Take, Put, Cast, Annot}
use Rattle.cg_lexer.specs.Bytes.{small, part_of_name}

-- the sign of a mark: `-`, `L`, `R`, `B`, `O`
abbrev pub mark_sign : Mark → ℕ
mark_sign Gone = 45
mark_sign Left = 76
mark_sign Right = 82
mark_sign Both = 66
mark_sign Seen = 79

-- the word of a node
abbrev pub node_word : Node → List ℕ
node_word Var = codes "var"
node_word Unit = codes "unit"
node_word Bool = codes "bool"
node_word Lit = codes "lit"
node_word Fun = codes "fun"
node_word Op = codes "op"
node_word App = codes "app"
node_word Let = codes "let"
node_word LetBang = codes "letb"
node_word If = codes "if"
node_word Con = codes "con"
node_word Case = codes "case"
node_word Esac = codes "esac"
node_word Struct = codes "struct"
node_word Member = codes "member"
node_word Take = codes "take"
node_word Put = codes "put"
node_word Cast = codes "cast"
node_word Annot = codes "annot"

-- the mark strings of a node, each behind a space
abbrev pub strings_text : List (List Mark) → List ℕ
strings_text [] = []
strings_text (string ∷ strings) = codes " " ++ (map mark_sign string ++ strings_text strings)

-- the line of a node, and those of nodes
abbrev pub node_line : CertNode → List ℕ
node_line n = node_word n.node ++ (strings_text n.marks ++ codes "\n")

abbrev pub node_lines : List CertNode → List ℕ
node_lines [] = []
node_lines (n ∷ ns) = node_line n ++ node_lines ns

-- the lines of a function, and those of functions
abbrev pub fun_lines : CertFun → List ℕ
fun_lines f = codes "fun " ++ (f.name ++ (codes "\n" ++ node_lines f.nodes))

abbrev pub all_lines : List CertFun → List ℕ
all_lines [] = []
all_lines (f ∷ fs) = fun_lines f ++ all_lines fs

-- the text of a certificate
abbrev pub text : Cert → List ℕ
text c = codes "cogent certificate 1\n" ++ (all_lines c.funs ++ codes "end\n")

-- a name is spelled as one that begins with a small letter or `_`; `_` alone and the words of the language may stand too
abbrev pub IsName : List ℕ → Type 0
IsName name = Starts small name × Each part_of_name name

-- each mark string has a mark
abbrev pub AreMarked : List (List Mark) → Type 0
AreMarked [] = ⊤
AreMarked ([] ∷ strings) = ⊥
AreMarked ((mark ∷ marks) ∷ strings) = AreMarked strings

abbrev pub AreNodes : List CertNode → Type 0
AreNodes [] = ⊤
AreNodes (n ∷ ns) = AreMarked n.marks × AreNodes ns

abbrev pub AreFunctions : List CertFun → Type 0
AreFunctions [] = ⊤
AreFunctions (f ∷ fs) = IsName f.name × AreNodes f.nodes × AreFunctions fs

-- these bytes are the text of this certificate, whose names and mark strings can be written
abbrev pub CertText : List ℕ → Cert → Type 0
CertText bytes cert = (bytes ≡ text cert) × AreFunctions cert.funs
