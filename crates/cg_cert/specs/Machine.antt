-- The machine that reads a certificate, one byte at a time, as a reader (docs/LANGUAGE.md, "Certificates").
use Rattle.std.specs.Prelude.{ℕ, Bool, true, false, ◌==◌, List, [], ◌∷◌, ◌++◌, Option, Some, None, if◌then◌else◌}
use Rattle.cg_base.specs.Reader.{Reader}
use Rattle.cg_cert.specs.Words.{words, is_begun, lead_of, is_behind, mark_of}
use Rattle.cg_cert.specs.declared.cert.Cert.{Cert}
use Rattle.cg_cert.specs.declared.cert.CertFun.{CertFun}
use Rattle.cg_cert.specs.declared.cert.CertNode.{CertNode}
use Rattle.cg_cert.specs.declared.reader.Mode.{Mode}
use Rattle.cg_cert.specs.declared.reader.Mode.TheVariants.{Word, BeforeName, BehindFun, InName, BeforeMark, InMarks, Finished, Stuck}
use Rattle.cg_cert.specs.declared.word.Lead.{Lead}
use Rattle.cg_cert.specs.declared.word.Lead.TheVariants.{Head, Node as NodeWord, End}
use Rattle.cg_cert.specs.declared.word.Stage.{Stage}
use Rattle.cg_cert.specs.declared.word.Stage.TheVariants.{Top, Outer, Inner}
use Rattle.cg_core.specs.declared.derivation.Mark.{Mark}
use Rattle.cg_core.specs.declared.derivation.Node.{Node}
use Rattle.cg_core.specs.declared.derivation.Node.TheVariants.{Fun}
use Rattle.cg_lexer.specs.Bytes.{small, part_of_name}

-- where the machine stands, the bytes of the word or the name at hand, the functions before, the name and the nodes of the function
-- at hand, and the mark strings of the node at hand with the one that is read
pub record State : Type 0 where
  pub mode : Mode
  pub word : List ℕ
  pub funs : List CertFun
  pub name : List ℕ
  pub nodes : List CertNode
  pub strings : List (List Mark)
  pub string : List Mark

abbrev pub begin : State
begin = record { mode = Word Top; word = []; funs = []; name = []; nodes = []; strings = []; string = [] }

-- nothing goes on with it
abbrev pub stuck : State → State
stuck s = record s { mode = Stuck }

-- the word at hand is read
abbrev pub go_on : Mode → State → State
go_on mode s = record s { mode = mode; word = [] }

abbrev pub line : Stage → State → State
line stage s = go_on (Word stage) s

-- the function at hand, and all functions with it
abbrev pub this : State → CertFun
this s = record { name = s.name; nodes = s.nodes }

abbrev pub closed : State → State
closed s = record s { funs = s.funs ++ this s ∷ []; name = []; nodes = [] }

-- a node without mark strings, and one with those at hand
abbrev pub leaf : Node → State → State
leaf n s = line Inner (record s { nodes = s.nodes ++ record { node = n; marks = [] } ∷ [] })

abbrev pub next_string : State → State
next_string s = record s { strings = s.strings ++ s.string ∷ []; string = [] }

abbrev pub node : Node → State → State
node n s =
    line Inner (record s {
      nodes = s.nodes ++ record { node = n; marks = s.strings ++ s.string ∷ [] } ∷ [];
      strings = [];
      string = [];
    })

-- behind the space that follows a node's word
abbrev pub spaced : Node → Mode
spaced Fun = BehindFun
spaced n = BeforeMark n

-- a name begins, goes on, and is whole
abbrev pub named : ℕ → State → State
named b s = record s { mode = InName; word = b ∷ [] }

abbrev pub longer : Mode → ℕ → State → State
longer mode b s = record s { mode = mode; word = s.word ++ b ∷ [] }

abbrev pub begun : State → State
begun s = line Inner (record s { name = s.word })

-- a mark of a node, where it is one
abbrev pub marked : Node → Option Mark → State → State
marked n None s = stuck s
marked n (Some mark) s = record s { mode = InMarks n; string = s.string ++ mark ∷ [] }

-- behind the word of a node
abbrev pub on_node : Node → ℕ → State → State
on_node n b s = if b == 10 then leaf n s else go_on (spaced n) s

-- behind a word
abbrev pub on_lead : Stage → Option Lead → ℕ → State → State
on_lead Top (Some Head) b s = line Outer s
on_lead Outer (Some (NodeWord Fun)) b s = if b == 32 then go_on BeforeName s else stuck s
on_lead Outer (Some End) b s = if b == 10 then go_on Finished s else stuck s
on_lead Inner (Some (NodeWord n)) b s = on_node n b s
on_lead Inner (Some End) b s = if b == 10 then go_on Finished (closed s) else stuck s
on_lead stage lead b s = stuck s

-- in a word
abbrev pub in_word : Stage → ℕ → State → State
in_word stage b s =
    if is_behind stage b then on_lead stage (lead_of (words stage) s.word) b s
    else if is_begun (words stage) (s.word ++ b ∷ []) then longer (Word stage) b s
    else stuck (longer (Word stage) b s)

-- before the name of the first function, behind `fun ` in a function, and in a name
abbrev pub before_name : ℕ → State → State
before_name b s = if small b then named b s else stuck s

abbrev pub behind_fun : ℕ → State → State
behind_fun b s = if small b then named b (closed s) else marked Fun (mark_of b) s

abbrev pub in_name : ℕ → State → State
in_name b s = if part_of_name b then longer InName b s else if b == 10 then begun s else stuck s

-- behind a mark
abbrev pub behind_mark : Node → ℕ → State → State
behind_mark n b s =
    if b == 32 then record (next_string s) { mode = BeforeMark n }
    else if b == 10 then node n s
    else marked n (mark_of b) s

-- one byte more
abbrev pub at : Mode → ℕ → State → State
at (Word stage) b s = in_word stage b s
at BeforeName b s = before_name b s
at BehindFun b s = behind_fun b s
at InName b s = in_name b s
at (BeforeMark n) b s = marked n (mark_of b) s
at (InMarks n) b s = behind_mark n b s
at Finished b s = stuck s
at Stuck b s = stuck s

abbrev pub step : State → ℕ → State
step s b = at s.mode b s

-- whether a certificate may still come of it
abbrev pub opened : Mode → Bool
opened Stuck = false
opened _ = true

abbrev pub is_open : State → Bool
is_open s = opened s.mode

-- the certificate that ends there, where one does
abbrev pub ended : Mode → List CertFun → Option Cert
ended Finished funs = Some (record { funs = funs })
ended _ funs = None

abbrev pub finish : State → Option Cert
finish s = ended s.mode s.funs

-- all of it, as a reader
abbrev pub reader : Reader State ℕ Cert
reader = record { begin = begin; step = step; is_open = is_open; finish = finish }
