-- What a flat store holds, once words were written.
use Rattle.std.proofs.Common.{◌≡◌, ℕ, ◌+◌, ◌<◌, ◌≤◌, false, ◌⊎◌, inl, inr, ⊎_elim, List, length, refl, sym, ap, ◌∙◌, arith}
use Rattle.std.specs.FinMap as table
use Rattle.std.specs.Option.{option_map}
use Rattle.std.specs.declared.option.Option.{Option}
use Rattle.std.specs.declared.option.Option.TheVariants.{None, Some}
use Rattle.std.specs.Ordering.{nat_cmp, eq_by_cmp}
use Rattle.cg_heap.specs.declared.cell.Cell.{Cell}
use Rattle.cg_heap.specs.declared.cell.Form.{Form}
use Rattle.cg_heap.specs.declared.cell.Form.TheVariants as form
use Rattle.cg_heap.specs.Stored.{asked_of, cell_at, cell_length, changed, in_cell, in_place}
use Rattle.cg_heap.proofs.Sounds.{sound_changed}
use Rattle.cg_flat.specs.declared.span.Span.{Span}
use Rattle.cg_flat.specs.Flat.{Flat, IsFlat, cell_in, cell_of, elements_of, over, span_words, stored_of, written}
use Rattle.cg_flat.proofs.Counts.{below_tells, has_inside, has_tells, two_of, within_words}
use Rattle.cg_flat.proofs.Maps.{each_put, get-each}
use Rattle.cg_flat.proofs.Wordy.{length-written, span_kept}

-- ---- what is asked of a cell

pub held : (f : Flat) (p : ℕ) → cell_at (stored_of f) p ≡ option_map (cell_of f.words) (table.get f.spans p)
held f p = get-each (cell_of f.words) f.spans p

pub held_some : (f : Flat) (p : ℕ) (s : Span) → table.get f.spans p ≡ Some s → cell_at (stored_of f) p ≡ Some (cell_of f.words s)
held_some f p s here = held f p ∙ ap (option_map (cell_of f.words)) here

pub held_none : (f : Flat) (p : ℕ) → table.get f.spans p ≡ None → cell_at (stored_of f) p ≡ None
held_none f p missing = held f p ∙ ap (option_map (cell_of f.words)) missing

pub asked_some : {A : Type 0} (g : Cell → Option A) (f : Flat) (p : ℕ) (s : Span) → table.get f.spans p ≡ Some s → asked_of g p (stored_of f) ≡ g (cell_of f.words s)
asked_some g f p s here = ap (in_cell g) (held_some f p s here)

pub asked_none : {A : Type 0} (g : Cell → Option A) (f : Flat) (p : ℕ) → table.get f.spans p ≡ None → asked_of g p (stored_of f) ≡ None
asked_none g f p missing = ap (in_cell g) (held_none f p missing)

-- a cell of another form has no elements
pub no_elements : (k : Form) (ws : List ℕ) → (k ≡ form.Words → ⊥) → elements_of (cell_in k ws) ≡ None
no_elements form.Slots ws other = refl
no_elements form.Words ws other = absurd (other refl)
no_elements form.Answers ws other = refl

-- ---- cells whose words were not written

pub same_cell : (old new : List ℕ) (s : Span) → span_words new s ≡ span_words old s → cell_of new s ≡ cell_of old s
same_cell old new s same = ap (cell_in s.form) same

pub each_kept : (g h : Span → Cell) (o : Option Span) → ((t : Span) → o ≡ Some t → g t ≡ h t) → option_map g o ≡ option_map h o
each_kept g h None kept = refl
each_kept g h (Some t) kept = ap (λ c. Some c) (kept t refl)

-- a place of one cell's span is in no other's
apart_at : (f : Flat) (p q : ℕ) (s t : Span) → IsFlat f → eq_by_cmp nat_cmp q p ≡ false → table.get f.spans p ≡ Some s → table.get f.spans q ≡ Some t
    → (k : ℕ) → k < t.count → (t.start + k < s.start) ⊎ (s.start + s.count ≤ t.start + k)
apart_at f p q s t flat apart here there k low =
    let two = two_of (t.start + k) f.spans p q s t apart here there in
    let whole = flat.fills (t.start + k) in
    let has = has_inside (t.start + k) t.start t.count (omega arith) (omega arith) in
    grind (arith, below_tells (t.start + k) (length f.words), has_tells (t.start + k) s.start s.count)

narrowed : (i start count at n : ℕ) → start ≤ at → at + n ≤ start + count → (i < start) ⊎ (start + count ≤ i) → (i < at) ⊎ (at + n ≤ i)
narrowed i start count at n low high out = ⊎_elim (λ l. inl (omega arith)) (λ h. inr (omega arith)) out

other_kept : (f : Flat) (p q : ℕ) (s t : Span) (at : ℕ) (ws : List ℕ) → IsFlat f → table.get f.spans p ≡ Some s → s.start ≤ at → at + length ws ≤ s.start + s.count
    → eq_by_cmp nat_cmp q p ≡ false → table.get f.spans q ≡ Some t → cell_of (written at ws f.words) t ≡ cell_of f.words t
other_kept f p q s t at ws flat here low high apart there =
    let mine = within_words f p s flat here in
    let other = within_words f q t flat there in
    same_cell f.words (written at ws f.words) t (span_kept at ws f.words t (omega arith) other (λ k below.
    narrowed (t.start + k) s.start s.count at (length ws) low high (apart_at f p q s t flat apart here there k below)))

-- ---- words written in one cell's span

pub stored_written : (f : Flat) (p : ℕ) (s : Span) (at : ℕ) (ws : List ℕ) (d : Cell) → IsFlat f → table.get f.spans p ≡ Some s → s.start ≤ at → at + length ws ≤ s.start + s.count
    → cell_of (written at ws f.words) s ≡ d → stored_of (over at ws f) ≡ in_place p (Some d) (stored_of f)
stored_written f p s at ws d flat here low high is =
    ap (λ m. record { cells = m; top = f.top })
    (each_put (cell_of f.words) (cell_of (written at ws f.words)) f.spans f.spans p d
    (λ q apart. each_kept (cell_of (written at ws f.words)) (cell_of f.words) (table.get f.spans q) (λ t there. other_kept f p q s t at ws flat here low high apart there))
    (ap (option_map (cell_of (written at ws f.words))) here ∙ ap (λ c. Some c) is))

-- what the cell is changed to is what its words stand for
pub changed_over : (g : Cell → Option Cell) (f : Flat) (p : ℕ) (s : Span) (at : ℕ) (ws : List ℕ) (d : Cell) → IsFlat f → table.get f.spans p ≡ Some s → s.start ≤ at
    → at + length ws ≤ s.start + s.count → cell_of (written at ws f.words) s ≡ d → g (cell_of f.words s) ≡ Some d → stored_of (over at ws f) ≡ changed g p (stored_of f)
changed_over g f p s at ws d flat here low high is to =
    stored_written f p s at ws d flat here low high is ∙ ap (λ o. in_place p o (stored_of f)) (sym (asked_some g f p s here ∙ to))

pub changed_not : (g : Cell → Option Cell) (f : Flat) (p : ℕ) → asked_of g p (stored_of f) ≡ None → stored_of f ≡ changed g p (stored_of f)
changed_not g f p none = ap (λ o. in_place p o (stored_of f)) (sym none)

pub flat_over : (g : Cell → Option Cell) → ((c d : Cell) → g c ≡ Some d → cell_length d ≤ cell_length c) → (f : Flat) (p at : ℕ) (ws : List ℕ) → IsFlat f
    → at + length ws ≤ length f.words → stored_of (over at ws f) ≡ changed g p (stored_of f) → IsFlat (over at ws f)
flat_over g shorter f p at ws flat fits is = record {
  fills = λ i. rw (length-written at ws f.words fits) (flat.fills i);
  apart = flat.apart;
  empty = flat.empty;
  sound = rw is (sound_changed g shorter p (stored_of f) flat.sound);
}
