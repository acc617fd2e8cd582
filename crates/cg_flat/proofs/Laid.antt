-- A cell put down, and a cell taken out.
use Rattle.std.proofs.Common.{rules, zero, suc, ◌≡◌, ℕ, ◌+◌, ◌-◌, ◌<◌, ◌≤◌, ◌^◌, Bool, true, false, cond, nat_eq, nat_lt, ◌⊎◌, inl, inr, ⊎_elim, List, [], ◌∷◌, ◌++◌, length, take, drop, get_or, refl, sym, ap, ◌∙◌, arith}
use Rattle.std.proofs.lemmas.Bool.Decides.{nat_tests}
use Rattle.std.proofs.lemmas.List.{length-append, length-drop, take-append-le, drop-append-le}
use Rattle.std.specs.FinMap as table
use Rattle.std.specs.Option.{option_map}
use Rattle.std.specs.declared.option.Option.TheVariants.{None, Some}
use Rattle.std.specs.Ordering.{nat_cmp, eq_by_cmp}
use Rattle.cg_base.proofs.Options.{some_is}
use Rattle.cg_heap.specs.declared.cell.Form.{Form}
use Rattle.cg_heap.specs.Stored.{cell_length, without_cell}
use Rattle.cg_heap.proofs.Sounds.{sound_with, sound_without}
use Rattle.cg_flat.specs.Around.{AreAround, AreWithin}
use Rattle.cg_flat.specs.declared.span.Hole.{Hole}
use Rattle.cg_flat.specs.declared.span.Span.{Span}
use Rattle.cg_flat.specs.Flat.{AreApart, Flat, IsFlat, cell_in, cell_of, first_filled, first_fit, has_place, holes_at, holes_left, laid, room, span_words, spans_at, stored_of, with_hole, without_span, written}
use Rattle.cg_flat.proofs.Counts.{below_tells, has_inside, has_tells, one_of, spans_put, spans_taken, within_words}
use Rattle.cg_flat.proofs.Gaps.{from_apart, put_apart, put_has}
use Rattle.cg_flat.proofs.Maps.{alike, each_put, each_without, got_put, got_put_other, got_removed, got_removed_other}
use Rattle.cg_flat.proofs.Rooms.{Takes, filled_apart, fits}
use Rattle.cg_flat.proofs.Stores.{each_kept, same_cell}
use Rattle.cg_flat.proofs.Wordy.{length-written, span_kept, span_laid, written_grown, zeros, zeros_long}

-- ---- where the words go

-- what holds of n words at a place: they stand behind all others, or come off a hole, or are none
pub data Goes (f : Flat) (n at : ℕ) (left : List Hole) : Type 0 where
  behind_all : at ≡ length f.words → left ≡ f.holes → Goes f n at left
  off_hole : at + n ≤ length f.words → ((i : ℕ) → Takes n at i f.holes left) → Goes f n at left
  no_words : n ≡ 0 → at ≡ 0 → left ≡ f.holes → Goes f n at left

taken_within : (f : Flat) (n at : ℕ) (left : List Hole) → 1 ≤ n → IsFlat f → ((i : ℕ) → Takes n at i f.holes left) → at + n ≤ length f.words
taken_within f n at left some flat takes =
    let whole = flat.fills (at + (n - 1)) in
    let part = takes (at + (n - 1)) in
    let has = has_inside (at + (n - 1)) at n (omega arith) (omega arith) in
    grind (arith, below_tells (at + (n - 1)) (length f.words))

goes_by : (f : Flat) (n : ℕ) (b : Bool) → nat_eq n 0 ≡ b → IsFlat f → Goes f n (cond b 0 (first_fit n f.holes (length f.words))) (cond b f.holes (first_filled n f.holes))
goes_by f n true e flat = no_words (grind (arith, nat_tests)) refl refl
goes_by f n false e flat =
    let some : 1 ≤ n = grind (arith, nat_tests) in
    ⊎_elim (λ end. behind_all end.0 end.1) (λ takes. off_hole (taken_within f n (first_fit n f.holes (length f.words)) (first_filled n f.holes) some flat takes) takes)
    (fits n (length f.words) f.holes)

pub goes : (f : Flat) (n : ℕ) → IsFlat f → Goes f n (room n f) (holes_left n f.holes)
goes f n flat = goes_by f n (nat_eq n 0) refl flat

pub goes_within : (f : Flat) (n at : ℕ) (left : List Hole) → Goes f n at left → at ≤ length f.words
goes_within f n at left (behind_all is same) = omega arith
goes_within f n at left (off_hole within takes) = omega arith
goes_within f n at left (no_words count is same) = omega arith

-- ---- how many words there are

pub laid_length : (at : ℕ) (ws all : List ℕ) → at ≤ length all → length (written at ws all) ≡ length all + (at + length ws - length all)
laid_length at ws all low =
    let more = length-append all (zeros (at + length ws - length all)) in
    let count = zeros_long (at + length ws - length all) in
    let same : length (written at ws (all ++ zeros (at + length ws - length all))) ≡ length (written at ws all) = ap length (written_grown at 0 ws all low) in
    let long = length-written at ws (all ++ zeros (at + length ws - length all)) (omega arith) in
    omega arith

laid_fills : (f : Flat) (n at : ℕ) (left : List Hole) (i : ℕ) (spans : ℕ) → IsFlat f → Goes f n at left → spans ≡ has_place i at n + spans_at i f.spans
    → spans + holes_at i left ≡ cond (nat_lt i (length f.words + (at + n - length f.words))) 1 0
laid_fills f n at left i spans flat (behind_all is same) e =
    let whole = flat.fills i in
    let holes : holes_at i left ≡ holes_at i f.holes = ap (holes_at i) same in
    grind (arith, has_tells i at n, below_tells i (length f.words), below_tells i (length f.words + (at + n - length f.words)))
laid_fills f n at left i spans flat (off_hole within takes) e =
    let whole = flat.fills i in
    let holes = takes i in
    grind (arith, below_tells i (length f.words), below_tells i (length f.words + (at + n - length f.words)))
laid_fills f n at left i spans flat (no_words count is same) e =
    let whole = flat.fills i in
    let holes : holes_at i left ≡ holes_at i f.holes = ap (holes_at i) same in
    grind (arith, has_tells i at n, below_tells i (length f.words), below_tells i (length f.words + (at + n - length f.words)))

apart_by : (f : Flat) (n : ℕ) (b : Bool) → IsFlat f → AreApart 0 (cond b f.holes (first_filled n f.holes))
apart_by f n true flat = flat.apart
apart_by f n false flat = filled_apart n 0 f.holes flat.apart

laid_apart : (f : Flat) (n : ℕ) → IsFlat f → AreApart 0 (holes_left n f.holes)
laid_apart f n flat = apart_by f n (nat_eq n 0) flat

-- ---- the other cells

span_grown : (all more : List ℕ) (s : Span) → s.start + s.count ≤ length all → span_words (all ++ more) s ≡ span_words all s
span_grown all more s within =
    let rest = length-drop s.start all in
    ap (take s.count) (drop-append-le s.start all more (omega arith)) ∙ take-append-le s.count (drop s.start all) more (omega arith)

out_of : (f : Flat) (n at : ℕ) (left : List Hole) (q : ℕ) (t : Span) → IsFlat f → Goes f n at left → table.get f.spans q ≡ Some t → (k : ℕ) → k < t.count → (t.start + k < at) ⊎ (at + n ≤ t.start + k)
out_of f n at left q t flat (behind_all is same) there k low = let within = within_words f q t flat there in inl (omega arith)
out_of f n at left q t flat (off_hole within takes) there k low =
    let whole = flat.fills (t.start + k) in
    let part = takes (t.start + k) in
    let has = has_inside (t.start + k) t.start t.count (omega arith) (omega arith) in
    let one = one_of (t.start + k) f.spans q t there in
    grind (arith, below_tells (t.start + k) (length f.words), has_tells (t.start + k) at n)
out_of f n at left q t flat (no_words count is same) there k low = inr (omega arith)

laid_kept : (f : Flat) (at : ℕ) (ws : List ℕ) (left : List Hole) (q : ℕ) (t : Span) → IsFlat f → Goes f (length ws) at left → table.get f.spans q ≡ Some t
    → cell_of (written at ws f.words) t ≡ cell_of f.words t
laid_kept f at ws left q t flat to there =
    let low = goes_within f (length ws) at left to in
    let more = length-append f.words (zeros (at + length ws - length f.words)) in
    let count = zeros_long (at + length ws - length f.words) in
    let within = within_words f q t flat there in
    same_cell f.words (written at ws f.words) t
    (ap (λ l. span_words l t) (sym (written_grown at 0 ws f.words low))
    ∙ span_kept at ws (f.words ++ zeros (at + length ws - length f.words)) t (omega arith) (omega arith) (out_of f (length ws) at left q t flat to there)
    ∙ span_grown f.words (zeros (at + length ws - length f.words)) t within)

laid_cell : (kind : Form) (at : ℕ) (ws all : List ℕ) → at ≤ length all → cell_of (written at ws all) (record { form = kind; start = at; count = length ws }) ≡ cell_in kind ws
laid_cell kind at ws all low =
    let more = length-append all (zeros (at + length ws - length all)) in
    let count = zeros_long (at + length ws - length all) in
    ap (cell_in kind)
    (ap (λ l. span_words l (record { form = kind; start = at; count = length ws })) (sym (written_grown at 0 ws all low))
    ∙ span_laid ws (all ++ zeros (at + length ws - length all)) (record { form = kind; start = at; count = length ws }) refl (omega arith))

-- ---- the whole

pub stored_laid : (f : Flat) (p t : ℕ) (kind : Form) (ws : List ℕ) → IsFlat f → stored_of (laid p t kind ws f) ≡ record { cells = table.insert (stored_of f).cells p (cell_in kind ws); top = t }
stored_laid f p t kind ws flat =
    let to = goes f (length ws) flat in
    let v : Span = record { form = kind; start = room (length ws) f; count = length ws } in
    ap (λ m. record { cells = m; top = t })
    (each_put (cell_of f.words) (cell_of (written (room (length ws) f) ws f.words)) f.spans (table.insert f.spans p v) p (cell_in kind ws)
    (λ q apart. ap (option_map (cell_of (written (room (length ws) f) ws f.words))) (got_put_other f.spans p v q apart)
    ∙ each_kept (cell_of (written (room (length ws) f) ws f.words)) (cell_of f.words) (table.get f.spans q) (λ s there. laid_kept f (room (length ws) f) ws (holes_left (length ws) f.holes) q s flat to there))
    (ap (option_map (cell_of (written (room (length ws) f) ws f.words))) (got_put f.spans p v)
    ∙ ap (λ c. Some c) (laid_cell kind (room (length ws) f) ws f.words (goes_within f (length ws) (room (length ws) f) (holes_left (length ws) f.holes) to))))

start_of_none : (f : Flat) (n : ℕ) → n ≡ 0 → room n f ≡ 0
start_of_none f n e = ap (λ k. room k f) e

laid_empty : (f : Flat) (p : ℕ) (v : Span) → IsFlat f → (v.count ≡ 0 → v.start ≡ 0) → (q : ℕ) (s : Span) (b : Bool) → eq_by_cmp nat_cmp q p ≡ b → table.get (table.insert f.spans p v) q ≡ Some s → s.count ≡ 0 → s.start ≡ 0
laid_empty f p v flat starts q s true e there count' =
    let same : v ≡ s = some_is v s (sym (got_put f.spans p v) ∙ ap (table.get (table.insert f.spans p v)) (sym (alike q p e)) ∙ there) in
    let count : v.count ≡ s.count = ap (λ x. x.count) same in
    let start : v.start ≡ s.start = ap (λ x. x.start) same in
    let first = starts (omega arith) in
    omega arith
laid_empty f p v flat starts q s false e there count' = flat.empty q s (sym (got_put_other f.spans p v q e) ∙ there) count'

pub flat_laid : (f : Flat) (p t : ℕ) (kind : Form) (ws : List ℕ) → IsFlat f → table.get f.spans p ≡ None → 1 ≤ p → p ≤ t → f.top ≤ t → t < 2 ^ 64 → cell_length (cell_in kind ws) < 2 ^ 32 → IsFlat (laid p t kind ws f)
flat_laid f p t kind ws flat absent one high low small short =
    let to = goes f (length ws) flat in
    let v : Span = record { form = kind; start = room (length ws) f; count = length ws } in
    let long = laid_length (room (length ws) f) ws f.words (goes_within f (length ws) (room (length ws) f) (holes_left (length ws) f.holes) to) in
    record {
      fills = λ i. rw long (laid_fills f (length ws) (room (length ws) f) (holes_left (length ws) f.holes) i (spans_at i (table.insert f.spans p v)) flat to (spans_put i f.spans p v absent));
      apart = laid_apart f (length ws) flat;
      empty = λ q s there count. laid_empty f p v flat (start_of_none f (length ws)) q s (eq_by_cmp nat_cmp q p) refl there count;
      sound = rw (stored_laid f p t kind ws flat) (sound_with (stored_of f) p t (cell_in kind ws) flat.sound one high low small short);
    }

-- ---- a cell taken out

one_first : (a b : ℕ) → (a ≤ b) ⊎ (b ≤ a)
one_first a b = grind arith

ends_before : (a m b : ℕ) → (a + m ≤ b) ⊎ (b < a + m)
ends_before a m b = grind arith

abbrev pub Shared : ℕ → ℕ → ℕ → ℕ → Type 0
Shared a m b n = (i : ℕ) × ((a ≤ i) × ((i < a + m) × ((b ≤ i) × (i < b + n))))

-- two runs of words, not empty, are apart or share a place
pub overlap : (a m b n : ℕ) → 1 ≤ m → 1 ≤ n → ((a + m ≤ b) ⊎ (b + n ≤ a)) ⊎ Shared a m b n
overlap a m b n one two =
    ⊎_elim (λ first. ⊎_elim (λ clear. inl (inl clear)) (λ more. inr (b, (first, (more, (omega arith, omega arith))))) (ends_before a m b))
    (λ second. ⊎_elim (λ clear. inl (inr clear)) (λ more. inr (a, (omega arith, (omega arith, (second, more))))) (ends_before b n a)) (one_first a b)

pub hole_among : (i : ℕ) (hs : List Hole) (k : ℕ) (d : Hole) → k < length hs → has_place i (get_or hs k d).start (get_or hs k d).count ≤ holes_at i hs
hole_among i [] k d low = absurd (omega arith)
hole_among i (h ∷ hs) zero d low = omega arith
hole_among i (h ∷ hs) (suc k) d low = let rest = hole_among i hs k d (omega arith) in omega arith

never_both : (f : Flat) (p : ℕ) (s : Span) (k : ℕ) (d : Hole) → IsFlat f → table.get f.spans p ≡ Some s → k < length f.holes
    → Shared (get_or f.holes k d).start (get_or f.holes k d).count s.start s.count → ⊥
never_both f p s k d flat here low both =
    let i : ℕ = both.0 in
    let whole = flat.fills both.0 in
    let one = one_of both.0 f.spans p s here in
    let two = hole_among both.0 f.holes k d low in
    let has = has_inside both.0 s.start s.count both.1.1.1.0 both.1.1.1.1 in
    let holds = has_inside both.0 (get_or f.holes k d).start (get_or f.holes k d).count both.1.0 both.1.1.0 in
    grind (arith, below_tells both.0 (length f.words))

-- each hole is before or behind a cell's span
pub holes_around : (f : Flat) (p : ℕ) (s : Span) → IsFlat f → table.get f.spans p ≡ Some s → 1 ≤ s.count → AreAround (record { start = s.start; count = s.count }) f.holes
holes_around f p s flat here some k d low =
    let there = from_apart 0 f.holes flat.apart k d low in
    ⊎_elim (λ clear. clear) (λ both. absurd (never_both f p s k d flat here low both)) (overlap (get_or f.holes k d).start (get_or f.holes k d).count s.start s.count there.1 some)

-- each hole ends within the words
pub holes_within : (f : Flat) → IsFlat f → AreWithin (length f.words) f.holes
holes_within f flat k d low =
    let there = from_apart 0 f.holes flat.apart k d low in
    let some : 1 ≤ (get_or f.holes k d).count = there.1 in
    let i : ℕ = (get_or f.holes k d).start + (get_or f.holes k d).count - 1 in
    let whole = flat.fills ((get_or f.holes k d).start + (get_or f.holes k d).count - 1) in
    let two = hole_among ((get_or f.holes k d).start + (get_or f.holes k d).count - 1) f.holes k d low in
    let holds = has_inside ((get_or f.holes k d).start + (get_or f.holes k d).count - 1) (get_or f.holes k d).start (get_or f.holes k d).count (omega arith) (omega arith) in
    grind (arith, below_tells ((get_or f.holes k d).start + (get_or f.holes k d).count - 1) (length f.words))

removed_fills : (f : Flat) (p : ℕ) (s : Span) (i : ℕ) (b : Bool) → nat_eq s.count 0 ≡ b → IsFlat f → table.get f.spans p ≡ Some s
    → spans_at i (table.remove f.spans p) + holes_at i (cond b f.holes (with_hole (record { start = s.start; count = s.count }) f.holes)) ≡ cond (nat_lt i (length f.words)) 1 0
removed_fills f p s i true e flat here =
    let whole = flat.fills i in
    let part = spans_taken i f.spans p s here in
    let zero' : s.count ≡ 0 = grind (arith, nat_tests) in
    grind (arith, has_tells i s.start s.count)
removed_fills f p s i false e flat here =
    let whole = flat.fills i in
    let part = spans_taken i f.spans p s here in
    let some : 1 ≤ s.count = grind (arith, nat_tests) in
    let put = put_has i 0 (record { start = s.start; count = s.count }) f.holes some flat.apart (holes_around f p s flat here some) in
    omega arith

removed_apart : (f : Flat) (p : ℕ) (s : Span) (b : Bool) → nat_eq s.count 0 ≡ b → IsFlat f → table.get f.spans p ≡ Some s → AreApart 0 (cond b f.holes (with_hole (record { start = s.start; count = s.count }) f.holes))
removed_apart f p s true e flat here = flat.apart
removed_apart f p s false e flat here =
    let some : 1 ≤ s.count = grind (arith, nat_tests) in
    put_apart 0 (record { start = s.start; count = s.count }) f.holes (omega arith) some flat.apart (holes_around f p s flat here some)

removed_empty : (f : Flat) (p : ℕ) → IsFlat f → (q : ℕ) (t : Span) (b : Bool) → eq_by_cmp nat_cmp q p ≡ b → table.get (table.remove f.spans p) q ≡ Some t → t.count ≡ 0 → t.start ≡ 0
removed_empty f p flat q t true e there count =
    let gone : table.get (table.remove f.spans p) q ≡ None = ap (table.get (table.remove f.spans p)) (alike q p e) ∙ got_removed f.spans p in
    absurd (search (rules, gone, there))
removed_empty f p flat q t false e there count = flat.empty q t (sym (got_removed_other f.spans p q e) ∙ there) count

pub stored_removed : (f : Flat) (p : ℕ) (s : Span) → stored_of (without_span p (Some s) f) ≡ without_cell p (stored_of f)
stored_removed f p s = ap (λ m. record { cells = m; top = f.top }) (each_without (cell_of f.words) f.spans p)

pub flat_removed : (f : Flat) (p : ℕ) (s : Span) → IsFlat f → table.get f.spans p ≡ Some s → IsFlat (without_span p (Some s) f)
flat_removed f p s flat here = record {
  fills = λ i. removed_fills f p s i (nat_eq s.count 0) refl flat here;
  apart = removed_apart f p s (nat_eq s.count 0) refl flat here;
  empty = λ q t there count. removed_empty f p flat q t (eq_by_cmp nat_cmp q p) refl there count;
  sound = rw (stored_removed f p s) (sound_without (stored_of f) p flat.sound);
}
