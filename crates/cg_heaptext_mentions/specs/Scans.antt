-- What the parts of the pass answer, wherever the tokens are those of a heap file.
use Rattle.std.specs.Prelude.{◌≡◌, zero, List, Option, Some, option_map, IfSome}
use Rattle.std.specs.List.{flat_map}
use Rattle.cg_base.specs.Bytes.{digit, Each}
use Rattle.cg_base.specs.declared.place.Place.{Place}
use Rattle.cg_heaptext_def.specs.HeapText.{Mention, mentioned_in}
use Rattle.cg_heaptext_def.specs.Tokens.{Lexeme}
use Rattle.cg_heaptext_def.specs.Trees.{Cell, Entry}
use Rattle.cg_heaptext_entries.specs.Index.{AreEntries, Before, CellStands, numeral_of}
use Rattle.cg_heaptext_entries.specs.declared.entry.EntryAt.{EntryAt}
use Rattle.cg_heaptext_entries.specs.declared.entry.Numeral.{Numeral}
use Rattle.cg_heaptext_lexer.specs.Next.{Cursor}
use Rattle.cg_heaptext_mentions.specs.Steps.{mentioned, met, number_next}

-- the number that stands next
abbrev pub GivesNumber : Cursor → Option Numeral → Type 0
GivesNumber at found = (ts : List Lexeme) → Before at ts → (option_map numeral_of found ≡ number_next ts) × IfSome found (λ n. Each digit n.digits.now)

-- how what was found goes on to what is found with some mentions more
abbrev pub Noting : Type 0
Noting = Option Place → List Mention → Option Place

-- with the mention whose sign stands at this place, before a cursor
abbrev pub NotesAt : Noting → Place → Cursor → Option Place → Option Place → Type 0
NotesAt noting p behind before after = (ts : List Lexeme) → Before behind ts → after ≡ noting before (mentioned p (number_next ts))

-- with those that a cursor stands before
abbrev pub Scans : Noting → Cursor → Option Place → Option Place → Type 0
Scans noting from before after = (ts : List Lexeme) → Before from ts → after ≡ noting before (met (Some zero) ts)

-- with those of a cell, and of the cells of entries
abbrev pub ScansCell : Noting → Cursor → Option Place → Option Place → Type 0
ScansCell noting at before after = (c : Cell) → CellStands at c → after ≡ noting before (mentioned_in c)

abbrev pub ScansCells : Noting → List EntryAt → Option Place → Option Place → Type 0
ScansCells noting xs before after = (es : List Entry) → AreEntries xs es → after ≡ noting before (flat_map (λ e. mentioned_in e.cell) es)
