-- The words with which lines begin, and the signs of marks (docs/LANGUAGE.md, "Certificates").
use Rattle.std.specs.Prelude.{ℕ, Bool, ◌==◌, ◌||◌, nat_eq, List, [], ◌∷◌, codes, Option, Some, None, if◌then◌else◌}
use Rattle.std.specs.List.{find, list_any, starts_with}
use Rattle.std.specs.Str.{bytes_eq}
use Rattle.cg_cert.specs.Texts.{node_word}
use Rattle.cg_cert.specs.declared.word.Lead.{Lead}
use Rattle.cg_cert.specs.declared.word.Lead.TheVariants.{Head, Node, End}
use Rattle.cg_cert.specs.declared.word.Stage.{Stage}
use Rattle.cg_cert.specs.declared.word.Stage.TheVariants.{Top, Outer, Inner}
use Rattle.cg_core.specs.declared.derivation.Mark.{Mark}
use Rattle.cg_core.specs.declared.derivation.Mark.TheVariants.{Gone, Left, Right, Both, Seen}
use Rattle.cg_core.specs.declared.derivation.Node.TheVariants.{Var, Unit, Bool as Truth, Lit, Fun, Op, App, Let, LetBang, If, Con, Case, Esac, Struct, Member, Take, Put, Cast, Annot}

-- the bytes of a word
abbrev pub spelled : Lead → List ℕ
spelled Head = codes "cogent certificate 1"
spelled (Node node) = node_word node
spelled End = codes "end"

-- the words with which a line may begin
abbrev pub words : Stage → List Lead
words Top = Head ∷ []
words Outer = Node Fun ∷ End ∷ []
words Inner =
    Node Var
    ∷ Node Unit
    ∷ Node Truth
    ∷ Node Lit
    ∷ Node Fun
    ∷ Node Op
    ∷ Node App
    ∷ Node Let
    ∷ Node LetBang
    ∷ Node If
    ∷ Node Con
    ∷ Node Case
    ∷ Node Esac
    ∷ Node Struct
    ∷ Node Member
    ∷ Node Take
    ∷ Node Put
    ∷ Node Cast
    ∷ Node Annot
    ∷ End
    ∷ []

-- whether one of these words begins with these bytes
abbrev pub is_begun : List Lead → List ℕ → Bool
is_begun leads bytes = list_any (λ lead. starts_with nat_eq (spelled lead) bytes) leads

-- the one of these words that these bytes are
abbrev pub lead_of : List Lead → List ℕ → Option Lead
lead_of leads bytes = find (λ lead. bytes_eq (spelled lead) bytes) leads

-- whether a byte ends the word: a line feed or, but for the first line, a space
abbrev pub is_behind : Stage → ℕ → Bool
is_behind Top b = b == 10
is_behind stage b = b == 10 || b == 32

-- the mark of a sign
abbrev pub mark_of : ℕ → Option Mark
mark_of b =
    if b == 45 then Some Gone
    else if b == 76 then Some Left
    else if b == 82 then Some Right
    else if b == 66 then Some Both
    else if b == 79 then Some Seen
    else None
