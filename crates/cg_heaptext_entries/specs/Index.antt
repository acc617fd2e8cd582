-- Where the entries of a heap file and its argument stand (docs/LANGUAGE.md, "Heap files").
use Rattle.std.specs.Prelude.{◌≡◌, ℕ, List, [], ◌∷◌, Result, Ok, Err, ⊤}
use Rattle.cg_base.specs.Bytes.{white, Each}
use Rattle.cg_heaptext_def.specs.Grammar.{HeapSpells, ReadsCell, ReadsValue}
use Rattle.cg_heaptext_def.specs.HeapText.{IsCutAt}
use Rattle.cg_heaptext_def.specs.Tokens.{Divides, Lexeme}
use Rattle.cg_heaptext_def.specs.Trees.{Cell, Entry, Heap, Written}
use Rattle.cg_heaptext_def.specs.Trees as trees
use Rattle.cg_heaptext_lexer.specs.Next.{Cursor}
use Rattle.cg_heaptext_parser.specs.declared.fault.TextFault.{TextFault}
use Rattle.cg_heaptext_parser.specs.declared.fault.TextFault.TheVariants.{Text, Memory}
use Rattle.cg_heaptext_entries.specs.declared.entry.EntryAt.{EntryAt}
use Rattle.cg_heaptext_entries.specs.declared.entry.Index.{Index}
use Rattle.cg_heaptext_entries.specs.declared.entry.Numeral.{Numeral}

-- these tokens and white space are all that stands from a cursor on
abbrev pub Before : Cursor → List Lexeme → Type 0
Before at ts = (last : List ℕ) × Each white last × Divides at.place at.rest ts last

-- the tokens from a cursor on begin with a cell
abbrev pub CellStands : Cursor → Cell → Type 0
CellStands at c = (ts rest : List Lexeme) × Before at ts × ReadsCell c ts rest

-- they are a value
abbrev pub ArgumentStands : Cursor → Written → Type 0
ArgumentStands at v = (ts : List Lexeme) × Before at ts × ReadsValue v ts []

-- a number with its place
abbrev pub numeral_of : Numeral → trees.Numeral
numeral_of n = record { place = n.place; digits = n.digits.now }

-- an entry is where this one stands
pub record IsEntry (at : EntryAt) (e : Entry) : Type 0 where
  pub place : at.place ≡ e.place
  pub address : numeral_of at.address ≡ e.address
  pub cell : CellStands at.cell e.cell

abbrev pub AreEntries : List EntryAt → List Entry → Type 0
AreEntries [] [] = ⊤
AreEntries (x ∷ xs) (e ∷ es) = IsEntry x e × AreEntries xs es
AreEntries _ _ = ⊥

-- these are the entries and the argument of a heap file
pub record IsIndex (index : Index) (h : Heap) : Type 0 where
  pub entries : AreEntries index.entries h.entries
  pub argument : ArgumentStands index.argument h.argument

-- The answer is right: the bytes spell a heap file, one alone, and this is where its entries stand; or at this place stands the first token that
-- none goes on with, or the end.
abbrev pub Answers : List ℕ → Result Index TextFault → Type 0
Answers bytes (Ok index) = (h : Heap) × HeapSpells bytes h × ((g : Heap) → HeapSpells bytes g → g ≡ h) × IsIndex index h
Answers bytes (Err (Text place)) = IsCutAt bytes place
Answers bytes (Err Memory) = ⊤
