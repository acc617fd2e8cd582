-- What a flat store is, and what each call makes of it (docs/LANGUAGE.md, "Flat stores").
use Rattle.std.specs.Prelude.{◌≡◌, ℕ, ◌+◌, ◌-◌, ◌*◌, ◌≤◌, min, max, nat_eq, nat_lt, nat_le, Bool, ◌&&◌, List, [], ◌∷◌, ◌++◌, length, map, take, drop, slice_index, Option, Some, None, is_some, if◌then◌else◌}
use Rattle.std.specs.FinMap as table
use Rattle.std.specs.FinMap.{FinMap}
use Rattle.std.specs.Ordering.{nat_cmp}
use Rattle.cg_heap.specs.declared.cell.Cell.{Cell}
use Rattle.cg_heap.specs.declared.cell.Cell.TheVariants.{Slots, Words, Answers}
use Rattle.cg_heap.specs.declared.cell.Form.{Form}
use Rattle.cg_heap.specs.declared.cell.Form.TheVariants as form
use Rattle.cg_heap.specs.declared.cell.Fresh.{Fresh}
use Rattle.cg_heap.specs.declared.cell.Scalar.{Scalar}
use Rattle.cg_heap.specs.declared.cell.Scalar.TheVariants.{Unset, Word, Address}
use Rattle.cg_heap.specs.Stored.{Stored, IsSound, asked_of, form_of, fresh_cell, with_element, with_slot, without_answer}
use Rattle.cg_flat.specs.declared.span.Hole.{Hole}
use Rattle.cg_flat.specs.declared.span.Span.{Span}

-- all words, those of holes too; the span of each cell by its address; the holes, in order of start; and a number that is at
-- least every address ever held
pub record Flat : Type 0 where
  pub words : List ℕ
  pub spans : FinMap nat_cmp Span
  pub holes : List Hole
  pub top : ℕ

-- ---- the words of a cell

-- two words for a slot: which kind it is, and its number or its address
abbrev pub scalar_words : Scalar → List ℕ
scalar_words Unset = 0 ∷ 0 ∷ []
scalar_words (Word n) = 1 ∷ n ∷ []
scalar_words (Address p) = 2 ∷ p ∷ []

abbrev pub slot_words : List Scalar → List ℕ
slot_words [] = []
slot_words (s ∷ ss) = scalar_words s ++ slot_words ss

abbrev pub answer_word : Bool → ℕ
answer_word b = if b then 1 else 0

-- what is put down for a cell: for answers how many were taken, none, before them all
abbrev pub cell_words : Cell → List ℕ
cell_words (Slots ss) = slot_words ss
cell_words (Words ns) = ns
cell_words (Answers bs) = 0 ∷ map answer_word bs

-- ---- what words stand for

abbrev pub scalar_in : ℕ → ℕ → Scalar
scalar_in kind n = if nat_eq kind 0 then Unset else (if nat_eq kind 1 then Word n else Address n)

abbrev pub slots_in : List ℕ → List Scalar
slots_in (kind ∷ n ∷ ws) = scalar_in kind n ∷ slots_in ws
slots_in _ = []

-- the answers that are left: all but those that were taken
abbrev pub answers_in : List ℕ → List Bool
answers_in [] = []
answers_in (taken ∷ ws) = drop taken (map (λ w. nat_eq w 1) ws)

abbrev pub cell_in : Form → List ℕ → Cell
cell_in form.Slots ws = Slots (slots_in ws)
cell_in form.Words ws = Words ws
cell_in form.Answers ws = Answers (answers_in ws)

-- the words of a span
abbrev pub span_words : List ℕ → Span → List ℕ
span_words ws s = take s.count (drop s.start ws)

-- the cell that stands in a span
abbrev pub cell_of : List ℕ → Span → Cell
cell_of ws s = cell_in s.form (span_words ws s)

-- each value of a map made anew
abbrev pub each : {X Y : Type 0} → (X → Y) → FinMap nat_cmp X → FinMap nat_cmp Y
each f m = table.from_entries (map (λ e. (e.0, f e.1)) (table.entries m))

-- what the store holds: at each address the cell that its span's words stand for
abbrev pub stored_of : Flat → Stored
stored_of f = record { cells = each (cell_of f.words) f.spans; top = f.top }

-- ---- each word stands in one span or in one hole

-- whether a run of words has the place i, as a number
abbrev pub has_place : ℕ → ℕ → ℕ → ℕ
has_place i start count = if nat_le start i && nat_lt i (start + count) then 1 else 0

-- how many of these spans have the place i
abbrev pub entries_at : ℕ → List (ℕ × Span) → ℕ
entries_at i [] = 0
entries_at i (e ∷ es) = has_place i e.1.start e.1.count + entries_at i es

abbrev pub spans_at : ℕ → FinMap nat_cmp Span → ℕ
spans_at i m = entries_at i (table.entries m)

-- how many holes have it
abbrev pub holes_at : ℕ → List Hole → ℕ
holes_at i [] = 0
holes_at i (h ∷ hs) = has_place i h.start h.count + holes_at i hs

-- holes in order of start, from n on: each at least one word long, and no two touch
abbrev pub AreApart : ℕ → List Hole → Type 0
AreApart n [] = Unit {0}
AreApart n (h ∷ hs) = (n ≤ h.start) × (1 ≤ h.count) × AreApart (h.start + h.count + 1) hs

-- spans that aren't empty and holes are apart, and fill the words exactly; no two holes touch; an empty span starts at 0; and
-- what is held is a store
pub record IsFlat (f : Flat) : Type 0 where
  pub fills : (i : ℕ) → spans_at i f.spans + holes_at i f.holes ≡ (if nat_lt i (length f.words) then 1 else 0)
  pub apart : AreApart 0 f.holes
  pub empty : (p : ℕ) (s : Span) → table.get f.spans p ≡ Some s → s.count ≡ 0 → s.start ≡ 0
  pub sound : IsSound (stored_of f)

-- ---- words written over others

-- the words all, with ws in the place of as many from the place at on
abbrev pub written : ℕ → List ℕ → List ℕ → List ℕ
written at ws all = take at all ++ (ws ++ drop (at + length ws) all)

-- the same in a store
abbrev pub over : ℕ → List ℕ → Flat → Flat
over at ws f = record { words = written at ws f.words; spans = f.spans; holes = f.holes; top = f.top }

abbrev pub start_of : Option Span → ℕ
start_of (Some s) = s.start
start_of None = 0

-- where the words of the cell at p start; 0 where there is none
abbrev pub start_at : ℕ → Flat → ℕ
start_at p f = start_of (table.get f.spans p)

-- one slot written, where the cell at p has it
abbrev pub slot_written : ℕ → ℕ → Scalar → Flat → Flat
slot_written p i x f = if is_some (asked_of (with_slot i x) p (stored_of f)) then over (start_at p f + 2 * i) (scalar_words x) f else f

-- one element written, where the cell at p has it
abbrev pub element_written : ℕ → ℕ → ℕ → Flat → Flat
element_written p i n f = if is_some (asked_of (with_element i n) p (stored_of f)) then over (start_at p f + i) (n ∷ []) f else f

-- one more answer taken, where the cell at p has one left: the word before the answers is raised, and nothing moves
abbrev pub answer_taken : ℕ → Flat → Flat
answer_taken p f = if is_some (asked_of without_answer p (stored_of f)) then over (start_at p f) ((slice_index f.words (start_at p f) + 1) ∷ []) f else f

abbrev pub elements_of : Cell → Option (List ℕ)
elements_of (Words ns) = Some ns
elements_of _ = None

-- the span where it is one of elements
abbrev pub of_form : Form → Span → Option Span
of_form form.Words s = Some s
of_form _ s = None

abbrev pub of_elements : Option Span → Option Span
of_elements (Some s) = of_form s.form s
of_elements None = None

-- what a borrower left in the place of the words that were lent from the place at on. As many come back as were lent, and then it is
-- `over at ws`; of more than there is room for, those that fit
abbrev pub words_left : ℕ → List ℕ → Flat → Flat
words_left at ws f = record { words = take (length f.words) (written at ws f.words); spans = f.spans; holes = f.holes; top = f.top }

-- ---- words taken, and given back

-- the start of the first hole that has room for n words; where there is none, the end
abbrev pub first_fit : ℕ → List Hole → ℕ → ℕ
first_fit n [] end = end
first_fit n (h ∷ hs) end = if nat_lt h.count n then first_fit n hs end else h.start

-- where n words go: a cell of no words starts at 0
abbrev pub room : ℕ → Flat → ℕ
room n f = if nat_eq n 0 then 0 else first_fit n f.holes (length f.words)

-- a hole without its first n words; none where it has no more
abbrev pub without_front : ℕ → Hole → List Hole → List Hole
without_front n h hs = if nat_eq h.count n then hs else record { start = h.start + n; count = h.count - n } ∷ hs

-- the holes, once the first that has room for n words has given its front
abbrev pub first_filled : ℕ → List Hole → List Hole
first_filled n [] = []
first_filled n (h ∷ hs) = if nat_lt h.count n then h ∷ first_filled n hs else without_front n h hs

abbrev pub holes_left : ℕ → List Hole → List Hole
holes_left n hs = if nat_eq n 0 then hs else first_filled n hs

-- two holes that touch, as one
abbrev pub joined : Hole → Hole → Hole
joined x h = record { start = min x.start h.start; count = x.count + h.count }

-- one more hole among holes in order of start; it becomes one with those that it touches
abbrev pub with_hole : Hole → List Hole → List Hole
with_hole x [] = x ∷ []
with_hole x (h ∷ hs) =
    if nat_lt (h.start + h.count) x.start then h ∷ with_hole x hs else (if nat_lt (x.start + x.count) h.start then x ∷ h ∷ hs else with_hole (joined x h) hs)

-- a cell of this form put down at p in these words, with t as the new top
abbrev pub laid : ℕ → ℕ → Form → List ℕ → Flat → Flat
laid p t kind ws f =
    record {
      words = written (room (length ws) f) ws f.words;
      spans = table.insert f.spans p (record { form = kind; start = room (length ws) f; count = length ws });
      holes = holes_left (length ws) f.holes;
      top = t;
    }

abbrev pub placed : ℕ → Cell → Flat → Flat
placed p c f = laid p (max f.top p) (form_of c) (cell_words c) f

abbrev pub added : Fresh → Flat → Flat
added fresh f = laid (f.top + 1) (f.top + 1) (form_of (fresh_cell fresh)) (cell_words (fresh_cell fresh)) f

-- a span's words become a hole; one of no words leaves none
abbrev pub given_back : Span → List Hole → List Hole
given_back s hs = if nat_eq s.count 0 then hs else with_hole (record { start = s.start; count = s.count }) hs

abbrev pub without_span : ℕ → Option Span → Flat → Flat
without_span p None f = f
without_span p (Some s) f = record { words = f.words; spans = table.remove f.spans p; holes = given_back s f.holes; top = f.top }

-- without the cell at p; the words stay as they are
abbrev pub removed : ℕ → Flat → Flat
removed p f = without_span p (table.get f.spans p) f
