-- What calls need of a flat store, and what taking a cell out leaves.
use Rattle.std.proofs.Common.{rules, ◌≡◌, ℕ, ◌+◌, ◌-◌, ◌<◌, ◌≤◌, ◌^◌, List, [], ◌∷◌, ◌++◌, length, replicate, refl, sym, ap, subst, ◌∙◌, arith, Vec, Global}
use Rattle.std.specs.FinMap as table
use Rattle.std.specs.FinMap.{FinMap, get-empty, len-empty, len-entries}
use Rattle.std.specs.Ordering.{nat_cmp}
use Rattle.std.specs.declared.option.Option.{Option}
use Rattle.std.specs.declared.option.Option.TheVariants.{None, Some}
use Rattle.cg_heap.specs.declared.cell.Cell.{Cell}
use Rattle.cg_heap.specs.declared.cell.Form.{Form}
use Rattle.cg_heap.specs.Stored.{cell_at, cell_length, form_of, without_cell}
use Rattle.cg_flat.specs.declared.span.Hole.{Hole}
use Rattle.cg_flat.specs.declared.span.Span.{Span}
use Rattle.cg_flat.specs.Flat.{Flat, IsFlat, cell_in, cell_of, cell_words, each, entries_at, given_back, holes_left, laid, room, spans_at, stored_of, without_span, written}
use Rattle.cg_flat.specs.Seen.{IsKept}
use Rattle.cg_flat.specs.Settled.{AreFree}
use Rattle.cg_flat.proofs.Cells.{cell_back}
use Rattle.cg_flat.proofs.Counts.{below_tells}
use Rattle.cg_flat.proofs.Laid.{flat_laid, goes, goes_within, stored_laid}
use Rattle.cg_flat.proofs.Maps.{each_without}
use Rattle.cg_flat.proofs.Steps.{Does, laid_is}
use Rattle.cg_flat.proofs.Stores.{held_none, held_some}

-- ---- what calls need

-- an address above all that were held has no cell
none_by : (f : Flat) (p : ℕ) (o : Option Span) → IsFlat f → f.top < p → table.get f.spans p ≡ o → o ≡ None
none_by f p None flat high e = refl
none_by f p (Some s) flat high e = let low = flat.sound.within p (cell_of f.words s) (held_some f p s e) in absurd (omega arith)

pub absent_above : (f : Flat) (p : ℕ) → IsFlat f → f.top < p → table.get f.spans p ≡ None
absent_above f p flat high = none_by f p (table.get f.spans p) flat high refl

missing_by : (f : Flat) (p : ℕ) (o : Option Span) → table.get f.spans p ≡ o → cell_at (stored_of f) p ≡ None → o ≡ None
missing_by f p None e none = refl
missing_by f p (Some s) e none = absurd (search (rules, held_some f p s e, none))

pub absent_held : (f : Flat) (p : ℕ) → cell_at (stored_of f) p ≡ None → table.get f.spans p ≡ None
absent_held f p none = missing_by f p (table.get f.spans p) refl none

-- where words go is within those that there are
pub low_start : (f : Flat) (n start : ℕ) → IsFlat f → start ≡ room n f → start ≤ length f.words
low_start f n start flat is = let low = goes_within f n (room n f) (holes_left n f.holes) (goes f n flat) in omega arith

-- a cell was put down: its words, its span, and the holes that are left
pub put_down : (f : Flat) (p t : ℕ) (c : Cell) (k : Form) (n start : ℕ) (us vs : List ℕ) (m : FinMap nat_cmp Span) (hs : List Hole) → IsFlat f → table.get f.spans p ≡ None → 1 ≤ p → p ≤ t
    → f.top ≤ t → t < 2 ^ 64 → cell_length c < 2 ^ 32 → k ≡ form_of c → n ≡ length (cell_words c) → start ≡ room n f → us ≡ f.words ++ replicate (start + n - length f.words) 0
    → vs ≡ written start (cell_words c) us → m ≡ table.insert f.spans p (record { form = k; start = start; count = n }) → hs ≡ holes_left n f.holes
    → Does (record { words = vs; spans = m; holes = hs; top = t }) (laid p t (form_of c) (cell_words c) f) (record { cells = table.insert (stored_of f).cells p c; top = t })
put_down f p t c k n start us vs m hs flat absent one high low small short form count at grown words spans holes =
    let is = laid_is f p t (form_of c) (cell_words c) vs n start m hs count at (low_start f n start flat at) (words ∙ ap (written start (cell_words c)) grown)
    (spans ∙ ap (λ j. table.insert f.spans p (record { form = j; start = start; count = n })) form) holes in
    let back : cell_length (cell_in (form_of c) (cell_words c)) ≡ cell_length c = ap cell_length (cell_back c) in
    record {
      flat = subst IsFlat (sym is) (flat_laid f p t (form_of c) (cell_words c) flat absent one high low small (omega arith));
      stored = ap stored_of is ∙ stored_laid f p t (form_of c) (cell_words c) flat ∙ ap (λ x. record { cells = table.insert (stored_of f).cells p x; top = t }) (cell_back c);
      is = is;
    }

-- a list has fewer items than there are words
pub bounded : (v : Vec ℕ Global) → length v.items < 2 ^ 63
bounded v = let long = v.ok.0 in let room = v.ok.1 in let cap = v.small in omega arith

pub removed_is : (f : Flat) (p : ℕ) (s : Span) (m : FinMap nat_cmp Span) (hs : List Hole) → m ≡ table.remove f.spans p → hs ≡ given_back s f.holes
    → ◌≡◌ {A = Flat} (record { words = f.words; spans = m; holes = hs; top = f.top }) (without_span p (Some s) f)
removed_is f p s m hs spans holes = λ i. record { words = f.words; spans = spans i; holes = holes i; top = f.top }

pub stored_without : (f : Flat) (p : ℕ) (m : FinMap nat_cmp Span) (hs : List Hole) → m ≡ table.remove f.spans p → stored_of (record { words = f.words; spans = m; holes = hs; top = f.top }) ≡ without_cell p (stored_of f)
stored_without f p m hs is = ap (λ n. record { cells = each (cell_of f.words) n; top = f.top }) is ∙ ap (λ n. record { cells = n; top = f.top }) (each_without (cell_of f.words) f.spans p)

-- the store without a cell and without a word
no_entries : (es : List (ℕ × Span)) → length es ≡ 0 → es ≡ []
no_entries [] e = refl
no_entries (x ∷ es) e = absurd (omega arith)

abbrev pub nothing : Flat
nothing = record { words = []; spans = table.empty; holes = []; top = 0 }

nowhere : (p : ℕ) → table.get nothing.spans p ≡ None
nowhere p = get-empty nat_cmp p

pub flat_nothing : IsFlat nothing
flat_nothing =
    let none : table.entries nothing.spans ≡ [] = no_entries (table.entries nothing.spans) (sym (len-entries nothing.spans) ∙ len-empty nat_cmp Span) in
    record {
      fills = λ i. let spans : spans_at i nothing.spans ≡ 0 = ap (entries_at i) none in grind (arith, below_tells i 0);
      apart = tt;
      empty = λ p s here count. absurd (search (rules, nowhere p, here));
      sound = record {
        within = λ p c here. absurd (search (rules, held_none nothing p (nowhere p), here));
        no_null = held_none nothing 0 (nowhere 0);
        short = λ p c here. absurd (search (rules, held_none nothing p (nowhere p), here));
        small = omega arith;
      };
    }

none_free : AreFree [] []
none_free = record {
  some = λ k d low. absurd (omega arith);
  apart = tt;
  once = λ i. omega arith;
}

-- the fields of a new store
pub kept_nothing : (ws : List ℕ) (es : List (ℕ × Span)) (hs xs : List Hole) (room : ℕ) → ws ≡ [] → es ≡ [] → hs ≡ [] → xs ≡ [] → IsKept ws es hs xs room 0
kept_nothing ws es hs xs room words entries holes freed =
    rw (words, entries, holes, freed)
    (record {
      flat = flat_nothing;
      free = none_free;
      room = omega arith;
      short = λ p s here kind. absurd (search (rules, nowhere p, here));
    })
