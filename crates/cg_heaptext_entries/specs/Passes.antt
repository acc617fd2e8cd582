-- What the parts of the second pass answer, wherever the tokens are those of a heap file.
use Rattle.std.specs.Prelude.{◌≡◌, ◌≤◌, ℕ, Bool, false, List, length, codes, Result, Ok, Err}
use Rattle.std.specs.Str.{bytes_eq}
use Rattle.cg_base.specs.declared.place.Place.{Place}
use Rattle.cg_heaptext_def.specs.Grammar.{HeapSpells, ReadsCell, ReadsNumeral, mark, ◌then◌}
use Rattle.cg_heaptext_def.specs.Tokens.{Lexeme}
use Rattle.cg_heaptext_def.specs.Trees.{Cell, Entry, Heap}
use Rattle.cg_heaptext_def.specs.Trees as trees
use Rattle.cg_heaptext_lexer.specs.Next.{Cursor}
use Rattle.cg_heaptext_lexer.specs.declared.token.TokenKind.{TokenKind}
use Rattle.cg_heaptext_lexer.specs.declared.token.TokenKind.TheVariants.{Number, Lower, Upper, Sign, Unknown, End}
use Rattle.cg_heaptext_parser.specs.declared.fault.TextFault.{TextFault}
use Rattle.cg_heaptext_parser.specs.declared.fault.TextFault.TheVariants.{Memory}
use Rattle.cg_heaptext_entries.specs.Index.{Before, IsEntry, IsIndex, numeral_of}
use Rattle.cg_heaptext_entries.specs.declared.entry.EntryAt.{EntryAt}
use Rattle.cg_heaptext_entries.specs.declared.entry.Index.{Index}
use Rattle.cg_heaptext_entries.specs.declared.entry.Numeral.{Numeral}

-- reading went on, or stayed
abbrev pub IsNoLonger : Cursor → Cursor → Type 0
IsNoLonger old new = length new.rest ≤ length old.rest

-- a token with which an entry begins
abbrev pub is_at : TokenKind → List ℕ → Bool
is_at Sign x = bytes_eq x (codes "@")
is_at Number x = false
is_at Lower x = false
is_at Upper x = false
is_at Unknown x = false
is_at End x = false

-- a number was read
abbrev pub PassesNumeral : Cursor → Numeral → Cursor → Type 0
PassesNumeral old n new = (m : trees.Numeral) (ts rest : List Lexeme) → Before old ts → ReadsNumeral m ts rest → (numeral_of n ≡ m) × Before new rest

-- a cell was passed, from its first token on
abbrev pub PassesCell : Cursor → Cursor → Type 0
PassesCell old new = (c : Cell) (ts rest : List Lexeme) → Before old ts → ReadsCell c ts rest → Before new rest

-- an entry was passed, from its address on
abbrev pub PassesEntry : Cursor → Place → EntryAt → Cursor → Type 0
PassesEntry old place at new = (e : Entry) (ts rest : List Lexeme) → place ≡ e.place → Before old ts → (ReadsNumeral e.address then mark (codes "=") then ReadsCell e.cell) ts rest → IsEntry at e × Before new rest

-- where the bytes spell a heap file, its entries were found; only memory may be wanting
abbrev pub Finds : List ℕ → Result Index TextFault → Type 0
Finds bytes (Ok index) = (h : Heap) → HeapSpells bytes h → IsIndex index h
Finds bytes (Err fault) = fault ≡ Memory
