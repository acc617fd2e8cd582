-- Which bytes are a heap file for a type, what it holds, and which fault comes first of one that is none (docs/LANGUAGE.md, "Heap files").
use Rattle.std.specs.Prelude.{◌≡◌, ◌≢◌, ◌⊎◌, ℕ, ◌<◌, ◌≤◌, ◌^◌, Bool, true, false, ◌||◌, nat_eq, List, [], ◌∷◌, ◌++◌, map, length, slice_get, Option, Some, None, ⊤, if◌then◌else◌}
use Rattle.std.specs.List.{flat_map}
use Rattle.cg_base.specs.Bytes.{white, Each}
use Rattle.cg_base.specs.declared.kind.Sigil.TheVariants.{W}
use Rattle.cg_base.specs.declared.place.Place.{Place}
use Rattle.cg_base.specs.Places.{IsBefore, first_place, place_after}
use Rattle.cg_base.specs.Reader.{Begins}
use Rattle.cg_base.specs.Types.{Tau, abs, fields}
use Rattle.cg_heap.specs.declared.cell.Cell.{Cell as Held}
use Rattle.cg_heap.specs.declared.cell.Scalar.{Scalar}
use Rattle.cg_kinds.specs.Shapes.{shape}
use Rattle.cg_value.specs.Fits.{most_elements}
use Rattle.cg_value.specs.Values.{Val}
use Rattle.cg_heaptext_def.specs.Grammar.{SpellsTokens, HeapSpells}
use Rattle.cg_heaptext_def.specs.Reading.{Event, misfit, counted, mention, events, scalars, value, held_at}
use Rattle.cg_heaptext_def.specs.Tokens.{Lexeme, Takes, Divides, behind}
use Rattle.cg_heaptext_def.specs.Trees.{Numeral, amount, Written, numeral, address, applied, inside, tuple, record', Writtens, none, more, Fields, end, field, Cell, slots, elements, answers, Entry, Heap, first, bare}

-- ---- H1: no heap file is spelled

-- the place behind tokens
abbrev pub place_behind : Place → List Lexeme → Place
place_behind at [] = at
place_behind at (t ∷ ts) = place_behind (behind t) ts

-- Behind tokens with which some heap file begins stands, at this place, a token with which none goes on; or what begins no token; or the end, at
-- which none ends.
pub data IsUnexpected (bytes : List ℕ) (front : List Lexeme) (rest : List ℕ) (place : Place) : Type 0 where
  at_token : (t : Lexeme) (after : List ℕ) → Takes (place_behind first_place front) rest t after → (Begins SpellsTokens (front ++ t ∷ []) → ⊥) → place ≡ t.place → IsUnexpected bytes front rest place
  at_unknown : (gap left : List ℕ) (b : ℕ) → rest ≡ gap ++ b ∷ left → Each white gap → white b ≡ false → ((t : Lexeme) (after : List ℕ) → Takes (place_behind first_place front) rest t after → ⊥)
      → place ≡ place_after (place_behind first_place front) gap → IsUnexpected bytes front rest place
  at_end : Each white rest → ((h : Heap) → SpellsTokens front h → ⊥) → place ≡ place_after first_place bytes → IsUnexpected bytes front rest place

pub record IsCutAt (bytes : List ℕ) (place : Place) : Type 0 where
  pub front : List Lexeme
  pub rest : List ℕ
  pub divides : Divides first_place bytes front rest
  pub begins : Begins SpellsTokens front
  pub unexpected : IsUnexpected bytes front rest place
  pub no_heap : (h : Heap) → HeapSpells bytes h → ⊥

-- ---- what is asked of a heap file

-- the cell at an address: that of its first entry
abbrev pub cell_among : List Entry → ℕ → Option Cell
cell_among [] q = None
cell_among (e ∷ es) q = if nat_eq (amount e.address) q then Some e.cell else cell_among es q

abbrev pub cells_of : Heap → ℕ → Option Cell
cells_of h = cell_among h.entries

-- an address that is mentioned, and the place of its sign
pub record Mention : Type 0 where
  pub place : Place
  pub address : Numeral

-- all addresses and all numbers that a value mentions
abbrev mutual
  pub addresses : Written → List Mention
  addresses (address p n) = record { place = p; address = n } ∷ []
  addresses (applied p x v) = addresses v
  addresses (inside p v) = addresses v
  addresses (tuple p vs) = addresses_all vs
  addresses (record' p fs) = addresses_in fs
  addresses _ = []

  pub addresses_all : Writtens → List Mention
  addresses_all none = []
  addresses_all (more v vs) = addresses v ++ addresses_all vs

  pub addresses_in : Fields → List Mention
  addresses_in end = []
  addresses_in (field x v fs) = addresses v ++ addresses_in fs

abbrev mutual
  pub numerals : Written → List Numeral
  numerals (numeral n) = n ∷ []
  numerals (applied p x v) = numerals v
  numerals (inside p v) = numerals v
  numerals (tuple p vs) = numerals_all vs
  numerals (record' p fs) = numerals_in fs
  numerals _ = []

  pub numerals_all : Writtens → List Numeral
  numerals_all none = []
  numerals_all (more v vs) = numerals v ++ numerals_all vs

  pub numerals_in : Fields → List Numeral
  numerals_in end = []
  numerals_in (field x v fs) = numerals v ++ numerals_in fs

-- the addresses that a cell mentions, and the numbers in it that are no address and no answer
abbrev pub mentioned_in : Cell → List Mention
mentioned_in (slots p fs) = addresses_in fs
mentioned_in (elements p ns) = []
mentioned_in (answers p bs) = []

abbrev pub numbers_in : Cell → List Numeral
numbers_in (slots p fs) = numerals_in fs
numbers_in (elements p ns) = ns
numbers_in (answers p bs) = []

abbrev pub mentions : Heap → List Mention
mentions h = flat_map (λ e. mentioned_in e.cell) h.entries ++ addresses h.argument

-- what is met as the argument is read at a type
abbrev pub read_events : Heap → Tau → List Event
read_events h t = events (cells_of h) t (first h.argument) (bare h.argument)

-- the type at which a cell is read first, if it is read
abbrev pub type_among : List Event → ℕ → Option Tau
type_among [] q = None
type_among (mention p r t ∷ es) q = if nat_eq r q then Some t else type_among es q
type_among (misfit p ∷ es) q = type_among es q
type_among (counted n bound ∷ es) q = type_among es q

abbrev pub read_at : Heap → Tau → ℕ → Option Tau
read_at h t q = type_among (read_events h t) q

-- ---- H2 to H7, each at its places

-- a later entry has the address of an earlier one
pub record IsSecond (h : Heap) (place : Place) : Type 0 where
  pub i : ℕ
  pub j : ℕ
  pub earlier : Entry
  pub later : Entry
  pub order : i < j
  pub one : slice_get h.entries i ≡ Some earlier
  pub other : slice_get h.entries j ≡ Some later
  pub same : amount earlier.address ≡ amount later.address
  pub at : place ≡ later.place

-- an address without an entry is mentioned
pub record IsAbsent (h : Heap) (place : Place) : Type 0 where
  pub i : ℕ
  pub mention : Mention
  pub there : slice_get (mentions h) i ≡ Some mention
  pub absent : cells_of h (amount mention.address) ≡ None
  pub at : place ≡ mention.place

-- among what was met before, an address is mentioned at a type of which something holds
pub record IsMentioned (P : Tau → Type 0) (before : List Event) (q : ℕ) : Type 0 where
  pub i : ℕ
  pub place : Place
  pub ty : Tau
  pub there : slice_get before i ≡ Some (mention place q ty)
  pub holds : P ty

-- what is met behind these events doesn't fit: a misfit, or a cell that was read at a type of another shape
abbrev pub IsMisfit : List Event → Event → Place → Type 0
IsMisfit before (misfit p) place = place ≡ p
IsMisfit before (counted n bound) place = ⊥
IsMisfit before (mention p q t) place = (place ≡ p) × IsMentioned (λ s. shape s ≢ shape t) before q

abbrev pub is_written : Tau → Bool
is_written (abs name ts W) = true
is_written (fields ps W) = true
is_written _ = false

-- a cell is reached once more, and at a writable type here or before
abbrev pub IsAliased : List Event → Event → Place → Type 0
IsAliased before (misfit p) place = ⊥
IsAliased before (counted n bound) place = ⊥
IsAliased before (mention p q t) place = (place ≡ p) × IsMentioned (λ s. (is_written s || is_written t) ≡ true) before q

-- the greatest address, and how many entries there may be
abbrev pub most_addresses : ℕ
most_addresses = 4294967295

abbrev pub most_entries : ℕ
most_entries = 65536

-- a number passes its type: one that is read, one in a cell that nobody reaches, and an address
pub data IsOver (h : Heap) (t : Tau) (place : Place) : Type 0 where
  over_type : (i bound : ℕ) (n : Numeral) → slice_get (read_events h t) i ≡ Some (counted n bound) → bound ≤ amount n → place ≡ n.place → IsOver h t place
  over_word : (i j : ℕ) (e : Entry) (n : Numeral) → slice_get h.entries i ≡ Some e → read_at h t (amount e.address) ≡ None → slice_get (numbers_in e.cell) j ≡ Some n
      → 2 ^ 64 ≤ amount n → place ≡ n.place → IsOver h t place
  entry_out : (i : ℕ) (e : Entry) → slice_get h.entries i ≡ Some e → (amount e.address ≡ 0) ⊎ (most_addresses < amount e.address) → place ≡ e.address.place → IsOver h t place
  mention_out : (i : ℕ) (m : Mention) → slice_get (mentions h) i ≡ Some m → (amount m.address ≡ 0) ⊎ (most_addresses < amount m.address) → place ≡ m.address.place → IsOver h t place

abbrev pub HasMany : Cell → Type 0
HasMany (slots p fs) = ⊥
HasMany (elements p ns) = most_elements < length ns
HasMany (answers p bs) = ⊥

-- an entry is one too many, or its array has too many elements
pub record IsLarge (h : Heap) (place : Place) : Type 0 where
  pub i : ℕ
  pub entry : Entry
  pub there : slice_get h.entries i ≡ Some entry
  pub large : (i ≡ most_entries) ⊎ HasMany entry.cell
  pub at : place ≡ entry.place

-- ---- which comes first

-- the first place of the file of which something holds
abbrev pub Least : (Place → Type 0) → Place → Type 0
Least P place = P place × ((p : Place) → P p → IsBefore p place → ⊥)

abbrev pub Never : (Place → Type 0) → Type 0
Never P = (p : Place) → P p → ⊥

-- the first of some events at which something holds behind those before it
pub record Earliest (P : List Event → Event → Place → Type 0) (es : List Event) (place : Place) : Type 0 where
  pub front : List Event
  pub event : Event
  pub rest : List Event
  pub parts : es ≡ front ++ event ∷ rest
  pub here : P front event place

abbrev pub Nowhere : (List Event → Event → Place → Type 0) → List Event → Type 0
Nowhere P es = (front rest : List Event) (e : Event) (place : Place) → es ≡ front ++ e ∷ rest → P front e place → ⊥

abbrev pub FirstOf : (List Event → Event → Place → Type 0) → List Event → Place → Type 0
FirstOf P es place = (e : Earliest P es place) × Nowhere P e.front

-- a fault of a heap file, by its number
pub data Fault : Type 0 where
  second : Fault  -- H2
  absent : Fault  -- H3
  misfits : Fault  -- H4
  over : Fault  -- H5
  aliased : Fault  -- H6
  large : Fault  -- H7

-- the place of a fault, of one that is there
abbrev pub At : Fault → Heap → Tau → Place → Type 0
At second h t place = Least (IsSecond h) place
At absent h t place = Least (IsAbsent h) place
At misfits h t place = FirstOf IsMisfit (read_events h t) place
At over h t place = Least (IsOver h t) place
At aliased h t place = FirstOf IsAliased (read_events h t) place
At large h t place = Least (IsLarge h) place

-- it isn't there
abbrev pub Lacks : Fault → Heap → Tau → Type 0
Lacks second h t = Never (IsSecond h)
Lacks absent h t = Never (IsAbsent h)
Lacks misfits h t = Nowhere IsMisfit (read_events h t)
Lacks over h t = Never (IsOver h t)
Lacks aliased h t = Nowhere IsAliased (read_events h t)
Lacks large h t = Never (IsLarge h)

-- none of those before it is there
abbrev pub LacksBefore : Fault → Heap → Tau → Type 0
LacksBefore second h t = ⊤
LacksBefore absent h t = Lacks second h t
LacksBefore misfits h t = Lacks second h t × Lacks absent h t
LacksBefore over h t = Lacks second h t × Lacks absent h t × Lacks misfits h t
LacksBefore aliased h t = Lacks second h t × Lacks absent h t × Lacks misfits h t × Lacks over h t
LacksBefore large h t = Lacks second h t × Lacks absent h t × Lacks misfits h t × Lacks over h t × Lacks aliased h t

-- The bytes are a heap file, and this is its first fault, on this line.
pub record IsFaulty (bytes : List ℕ) (t : Tau) (fault : Fault) (line : ℕ) : Type 0 where
  pub heap : Heap
  pub spells : HeapSpells bytes heap
  pub before : LacksBefore fault heap t
  pub place : Place
  pub at : At fault heap t place
  pub stands : line ≡ place.line

-- H1 is on this line: at the first token with which no heap file goes on, or at the end
abbrev pub IsNoHeap : List ℕ → ℕ → Type 0
IsNoHeap bytes line = (place : Place) × IsCutAt bytes place × (line ≡ place.line)

-- ---- what it holds

-- the cells with their addresses, in the order of the file
abbrev pub placed : Heap → Tau → List (ℕ × Held)
placed h t = map (λ e. (amount e.address, held_at (read_at h t (amount e.address)) e.cell)) h.entries

-- The bytes are a heap file for a type, without a fault, with these cells, this argument, and the value that it stands for.
pub record HeapText (bytes : List ℕ) (t : Tau) (cells : List (ℕ × Held)) (us : List Scalar) (v : Val) : Type 0 where
  pub heap : Heap
  pub spells : HeapSpells bytes heap
  pub sound : LacksBefore large heap t × Lacks large heap t
  pub are_cells : cells ≡ placed heap t
  pub is_argument : us ≡ scalars t (bare heap.argument)
  pub is_value : v ≡ value (cells_of heap) t (bare heap.argument)
