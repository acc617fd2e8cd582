-- The machine that reads a heap file without the trees that it would build: where it stands, whether that is in a cell, and what is open there,
-- the innermost first (docs/LANGUAGE.md, "Heap files", the grammar).
use Rattle.std.specs.Prelude.{ℕ, Bool, true, false, ◌||◌, List, [], ◌∷◌, map, codes, if◌then◌else◌}
use Rattle.std.specs.Str.{bytes_eq}
use Rattle.cg_heaptext_def.specs.Grammar.{bit_text}
use Rattle.cg_heaptext_parser.specs.Machine as machine
use Rattle.cg_heaptext_parser.specs.Symbols.{Symbol, Digits, Named, Wild, Truth, Constructor, At, Equals, Comma, OpenRecord, OpenBrace, CloseBrace, OpenBracket, CloseBracket, OpenAngle, CloseAngle, OpenParen, CloseParen}
use Rattle.cg_heaptext_parser.specs.declared.phase.Item.{Item}
use Rattle.cg_heaptext_parser.specs.declared.phase.Item.TheVariants.{Fresh, Again, Behind}
use Rattle.cg_heaptext_parser.specs.declared.phase.Open.{Open}
use Rattle.cg_heaptext_parser.specs.declared.phase.Open.TheVariants.{Payload, Paren, Record}
use Rattle.cg_heaptext_parser.specs.declared.phase.Phase.{Phase}
use Rattle.cg_heaptext_parser.specs.declared.phase.Phase.TheVariants.{Between, AfterSign, AfterAddress, BeforeCell, CellName, CellEquals, Elements, Answers, ArgumentEquals, Want, AfterParen, AfterConstructor, ValueSign, FieldName, FieldEquals, Have, Failed}

-- where the machine stands; whether what is open stands in a cell, and not in the argument; and what is open
pub record Outline : Type 0 where
  pub phase : Phase
  pub in_cell : Bool
  pub opened : List Open

abbrev pub at : Phase → Bool → List Open → Outline
at phase cell fs = record { phase = phase; in_cell = cell; opened = fs }

-- outside of all values, where nothing is open
abbrev pub outside : Phase → Outline
outside phase = at phase false []

abbrev pub failed : Outline
failed = outside Failed

-- at a constructor: as a payload it has none itself
abbrev pub on_constructor : Bool → List Open → Outline
on_constructor cell (Payload ∷ fs) = at Have cell (Payload ∷ fs)
on_constructor cell fs = at AfterConstructor cell fs

-- before a value
abbrev pub on_value : Bool → List Open → Symbol → Outline
on_value cell fs (Digits ds) = at Have cell fs
on_value cell fs Wild = at Have cell fs
on_value cell fs (Truth t) = at Have cell fs
on_value cell fs (Constructor x) = on_constructor cell fs
on_value cell fs At = at ValueSign cell fs
on_value cell fs OpenParen = at AfterParen cell fs
on_value cell fs OpenRecord = at FieldName cell fs
on_value cell fs y = failed

-- without the constructors that wait for a payload
abbrev pub closed : List Open → List Open
closed [] = []
closed (Payload ∷ fs) = closed fs
closed (Paren ∷ fs) = Paren ∷ fs
closed (Record ∷ fs) = Record ∷ fs

-- at a comma, a parenthesis and a brace behind a value that is no payload
abbrev pub on_comma : Bool → List Open → Outline
on_comma cell [] = if cell then outside CellName else failed
on_comma cell (Payload ∷ fs) = failed
on_comma cell (Paren ∷ fs) = at Want cell (Paren ∷ fs)
on_comma cell (Record ∷ fs) = at FieldName cell fs

abbrev pub on_close : Bool → List Open → Outline
on_close cell (Paren ∷ fs) = at Have cell fs
on_close cell fs = failed

abbrev pub on_end : Bool → List Open → Outline
on_end cell [] = if cell then outside Between else failed
on_end cell (Payload ∷ fs) = failed
on_end cell (Paren ∷ fs) = failed
on_end cell (Record ∷ fs) = at Have cell fs

-- behind a value
abbrev pub on_have : Bool → List Open → Symbol → Outline
on_have cell fs Comma = on_comma cell (closed fs)
on_have cell fs CloseParen = on_close cell (closed fs)
on_have cell fs CloseBrace = on_end cell (closed fs)
on_have cell fs y = failed

-- behind a constructor: its payload, or what stands behind it as a value
abbrev pub on_after_constructor : Bool → List Open → Symbol → Outline
on_after_constructor cell fs y = if machine.begins_value y then on_value cell (Payload ∷ fs) y else on_have cell fs y

-- behind a `(`: nothing in it, or a value
abbrev pub on_paren : Bool → List Open → Symbol → Outline
on_paren cell fs CloseParen = at Have cell fs
on_paren cell fs y = on_value cell (Paren ∷ fs) y

-- whether a symbol is a number, a name and the sign of equality
abbrev pub is_digits : Symbol → Bool
is_digits (Digits ds) = true
is_digits y = false

abbrev pub is_name : Symbol → Bool
is_name (Named x) = true
is_name y = false

abbrev pub is_equals : Symbol → Bool
is_equals Equals = true
is_equals y = false

-- this phase, where something holds
abbrev pub only_if : Bool → Phase → Phase
only_if b phase = if b then phase else Failed

-- before an entry or `arg`
abbrev pub on_between : Symbol → Phase
on_between At = AfterSign
on_between (Named x) = only_if (bytes_eq x (codes "arg")) ArgumentEquals
on_between y = Failed

-- behind the `=` of an entry
abbrev pub on_cell : Symbol → Phase
on_cell OpenBrace = CellName
on_cell OpenBracket = Elements Fresh
on_cell OpenAngle = Answers Fresh
on_cell y = Failed

-- in a list of numbers
abbrev pub on_elements : Item → Symbol → Phase
on_elements Fresh CloseBracket = Between
on_elements Fresh (Digits ds) = Elements Behind
on_elements Again (Digits ds) = Elements Behind
on_elements Behind Comma = Elements Again
on_elements Behind CloseBracket = Between
on_elements i y = Failed

-- in a list of answers
abbrev pub on_answer : List ℕ → Phase
on_answer ds = only_if (bytes_eq ds (bit_text true) || bytes_eq ds (bit_text false)) (Answers Behind)

abbrev pub on_answers : Item → Symbol → Phase
on_answers Fresh CloseAngle = Between
on_answers Fresh (Digits ds) = on_answer ds
on_answers Again (Digits ds) = on_answer ds
on_answers Behind Comma = Answers Again
on_answers Behind CloseAngle = Between
on_answers i y = Failed

-- outside of all values
abbrev pub next_phase : Phase → Symbol → Phase
next_phase Between y = on_between y
next_phase AfterSign y = only_if (is_digits y) AfterAddress
next_phase AfterAddress y = only_if (is_equals y) BeforeCell
next_phase BeforeCell y = on_cell y
next_phase CellName y = only_if (is_name y) CellEquals
next_phase (Elements i) y = on_elements i y
next_phase (Answers i) y = on_answers i y
next_phase phase y = Failed

-- before the first value of a cell or of the argument
abbrev pub begun : Bool → Outline
begun cell = at Want cell []

-- behind the name of a field of an unboxed record
abbrev pub on_field : Bool → List Open → Symbol → Outline
on_field cell fs y = if is_equals y then at Want cell (Record ∷ fs) else failed

-- one symbol more
abbrev pub on_phase : Phase → Bool → List Open → Symbol → Outline
on_phase CellEquals cell fs y = if is_equals y then begun true else failed
on_phase ArgumentEquals cell fs y = if is_equals y then begun false else failed
on_phase Want cell fs y = on_value cell fs y
on_phase AfterParen cell fs y = on_paren cell fs y
on_phase AfterConstructor cell fs y = on_after_constructor cell fs y
on_phase ValueSign cell fs y = if is_digits y then at Have cell fs else failed
on_phase FieldName cell fs y = if is_name y then at FieldEquals cell fs else failed
on_phase FieldEquals cell fs y = on_field cell fs y
on_phase Have cell fs y = on_have cell fs y
on_phase phase cell fs y = outside (next_phase phase y)

abbrev pub step : Outline → Symbol → Outline
step o y = on_phase o.phase o.in_cell o.opened y

-- whether a heap file may still come of it, and whether one ends there
abbrev pub is_open : Phase → Bool
is_open Failed = false
is_open phase = true

abbrev pub is_last : Bool → List Open → Bool
is_last false [] = true
is_last cell fs = false

abbrev pub ends_at : Phase → Bool → Bool
ends_at Have last = last
ends_at AfterConstructor last = last
ends_at phase last = false

abbrev pub ends : Outline → Bool
ends o = ends_at o.phase (is_last o.in_cell (closed o.opened))

-- ---- the outline of a state with trees

abbrev pub open_of : machine.Frame → Open
open_of (machine.payload p x) = Payload
open_of (machine.paren p vs) = Paren
open_of (machine.unboxed p ns x) = Record

abbrev pub is_cell : machine.Base → Bool
is_cell (machine.in_cell c p ns x) = true
is_cell (machine.in_argument es) = false

abbrev pub item_of : machine.Item → Item
item_of machine.Fresh = Fresh
item_of machine.Again = Again
item_of machine.Behind = Behind

abbrev pub within : Phase → machine.Base → List machine.Frame → Outline
within phase b fs = at phase (is_cell b) (map open_of fs)

abbrev pub outline : machine.State → Outline
outline (machine.Between es) = outside Between
outline (machine.AfterSign es p) = outside AfterSign
outline (machine.AfterAddress c) = outside AfterAddress
outline (machine.BeforeCell c) = outside BeforeCell
outline (machine.CellName c p ns) = outside CellName
outline (machine.CellEquals c p ns x) = outside CellEquals
outline (machine.Elements c p ns i) = outside (Elements (item_of i))
outline (machine.Answered c p bs i) = outside (Answers (item_of i))
outline (machine.ArgumentEquals es) = outside ArgumentEquals
outline (machine.Want b fs) = within Want b fs
outline (machine.AfterParen b fs p) = within AfterParen b fs
outline (machine.AfterConstructor b fs p x) = within AfterConstructor b fs
outline (machine.ValueSign b fs p) = within ValueSign b fs
outline (machine.FieldName b fs p ns) = within FieldName b fs
outline (machine.FieldEquals b fs p ns x) = within FieldEquals b fs
outline (machine.Have b fs v) = within Have b fs
outline machine.Failed = failed
