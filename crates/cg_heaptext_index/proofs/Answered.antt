-- The whole answer, behind all entries.
use Rattle.std.proofs.Common.{◌≡◌, ℕ, zero, suc, ◌+◌, ◌<◌, ◌≤◌, true, false, ◌⊎◌, inl, inr, List, [], ◌∷◌, length, map, Option, Some, None, Ok, Err, refl, sym, ap, ◌∙◌, subst, arith, if◌then◌else◌}
use Rattle.std.proofs.lemmas.Bool.Decides.{nat_tests}
use Rattle.std.proofs.lemmas.Option.{slice_get-map, slice_get_within}
use Rattle.std.specs.Prelude.{nat_eq, option_map, slice_get}
use Rattle.cg_base.proofs.Options.{some_is}
use Rattle.cg_base.proofs.Truths.{either_bool}
use Rattle.cg_base.specs.Bytes.{digit, Each}
use Rattle.cg_base.specs.Numbers.{number_from}
use Rattle.cg_base.specs.declared.place.Place.{Place}
use Rattle.cg_heaptext_def.specs.Footprints.{amounts, position_from}
use Rattle.cg_heaptext_def.specs.Grammar.{HeapSpells}
use Rattle.cg_heaptext_def.specs.HeapText.{IsSecond}
use Rattle.cg_heaptext_def.specs.Trees.{Entry, Heap, amount}
use Rattle.cg_heaptext_entries.specs.Index.{AreEntries, IsIndex}
use Rattle.cg_heaptext_entries.specs.declared.entry.EntryAt.{EntryAt}
use Rattle.cg_heaptext_entries.specs.declared.entry.Index.{Index}
use Rattle.cg_heaptext_places.proofs.Noting.{least_of}
use Rattle.cg_heaptext_places.specs.Noted.{IsLeast}
use Rattle.cg_heaptext_index.specs.Addresses.{Answers, IsMapOf, Positions, position, significant}
use Rattle.cg_heaptext_index.specs.declared.fault.AddressFault.TheVariants.{Second}
use Rattle.cg_heaptext_index.proofs.Numerals.{one_address, one_number}
use Rattle.cg_heaptext_index.proofs.Repeats.{Has, IsFirst, IsRepeat, Passed}
use Rattle.cg_heaptext_index.proofs.Spelled.{EachAddress, entry_stands, heap_digits, stands_entry}
use Rattle.cg_heaptext_index.proofs.Those.{those_same}

-- ---- numbers

-- the number of an address
abbrev number : EntryAt → ℕ
number x = number_from 0 x.address.digits.now

-- this is the first position of a number, or it stands at none
abbrev IsFirstOf : List ℕ → ℕ → Option ℕ → Type 0
IsFirstOf ms m (Some j) = (slice_get ms j ≡ Some m) × ((i : ℕ) → i < j → slice_get ms i ≡ Some m → ⊥)
IsFirstOf ms m None = (i : ℕ) → slice_get ms i ≡ Some m → ⊥

-- counted from a number on
abbrev from : ℕ → Option ℕ → Option ℕ
from k None = None
from k (Some j) = Some (k + j)

-- at the front, or behind it
first_or_later : (k n : ℕ) (ms : List ℕ) (m : ℕ) → ((found : Option ℕ) → IsFirstOf ms m found → from (k + 1) found ≡ position_from (k + 1) ms m)
    → (found : Option ℕ) → IsFirstOf (n ∷ ms) m found → from k found ≡ position_from k (n ∷ ms) m
first_or_later k n ms m rest found f = by (either_bool (nat_eq n m)) found f
  where
    here : nat_eq n m ≡ true → n ≡ m
    here e = grind (arith, nat_tests)

    apart : nat_eq n m ≡ false → n ≡ m → ⊥
    apart e same = grind (arith, nat_tests)

    at_front : nat_eq n m ≡ true → (found : Option ℕ) → IsFirstOf (n ∷ ms) m found → from k found ≡ Some k
    at_front e None f = absurd (f 0 (ap Some (here e)))
    at_front e (Some zero) f = ap Some (omega arith)
    at_front e (Some (suc j)) f = absurd (f.1 0 (omega arith) (ap Some (here e)))

    behind : nat_eq n m ≡ false → (found : Option ℕ) → IsFirstOf (n ∷ ms) m found → from k found ≡ position_from (k + 1) ms m
    behind e None f = rest None (λ i s. f (suc i) s)
    behind e (Some zero) f = absurd (apart e (some_is n m f.0))
    behind e (Some (suc j)) f = ap Some (omega arith) ∙ rest (Some j) (f.0, λ i l s. f.1 (suc i) (omega (arith, l)) s)

    by : (nat_eq n m ≡ true) ⊎ (nat_eq n m ≡ false) → (found : Option ℕ) → IsFirstOf (n ∷ ms) m found → from k found ≡ position_from k (n ∷ ms) m
    by (inl e) found f = at_front e found f ∙ ap (λ b. if b then Some k else position_from (k + 1) ms m) (sym e)
    by (inr e) found f = behind e found f ∙ ap (λ b. if b then Some k else position_from (k + 1) ms m) (sym e)

first_is : (k : ℕ) (ms : List ℕ) (m : ℕ) (found : Option ℕ) → IsFirstOf ms m found → from k found ≡ position_from k ms m
first_is k [] m None f = refl
first_is k [] m (Some j) f = let e = f.0 in absurd (cc)
first_is k (n ∷ ms) m found f = first_or_later k n ms m (first_is (k + 1) ms m) found f

from_zero : (found : Option ℕ) → found ≡ from 0 found
from_zero None = refl
from_zero (Some j) = ap Some (omega arith)

-- what stands among what was made of items was made of one
made_of : {A B : Type 0} (f : A → B) (xs : List A) (i : ℕ) (b : B) → slice_get (map f xs) i ≡ Some b → (a : A) × (slice_get xs i ≡ Some a) × (f a ≡ b)
made_of f [] i b e = absurd (cc)
made_of f (x ∷ xs) zero b e = (x, refl, some_is (f x) b e)
made_of f (x ∷ xs) (suc i) b e = made_of f xs i b e

numbers_are : (xs : List EntryAt) (es : List Entry) → AreEntries xs es → map number xs ≡ map (λ e. amount e.address) es
numbers_are [] [] a = refl
numbers_are [] (e ∷ es) a = absurd a
numbers_are (x ∷ xs) [] a = absurd a
numbers_are (x ∷ xs) (e ∷ es) a = let first = ap amount a.0.address in let rest = numbers_are xs es a.1 in λ i. first i ∷ rest i

-- ---- repeats, and a map

module _ (xs : List EntryAt) (h : Heap) (are : AreEntries xs h.entries) (each : EachAddress h.entries) where
  abbrev AreDigits : EntryAt → Type 0
  AreDigits x = Each digit x.address.digits.now

  digits_at : (i : ℕ) (x : EntryAt) → slice_get xs i ≡ Some x → AreDigits x
  digits_at i x s = (stands_entry xs h.entries are each i x s).2.digits

  is_second : (p : Place) → IsRepeat xs (length xs) p → IsSecond h p
  is_second p r =
      let e = stands_entry xs h.entries are each r.i r.earlier.entry r.earlier.there in
      let l = stands_entry xs h.entries are each r.j r.later r.there in
      record {
        i = r.i;
        j = r.j;
        earlier = e.0;
        later = l.0;
        order = r.order;
        one = e.1;
        other = l.1;
        same = sym (ap amount e.2.is.address) ∙ one_number r.earlier.entry.address.digits.now r.later.address.digits.now r.earlier.same ∙ ap amount l.2.is.address;
        at = r.at ∙ l.2.is.place;
      }

  is_repeat : (p : Place) → IsSecond h p → IsRepeat xs (length xs) p
  is_repeat p s =
      let e = entry_stands xs h.entries are each s.i s.earlier s.one in
      let l = entry_stands xs h.entries are each s.j s.later s.other in
      let same : number e.0 ≡ number l.0 = ap amount e.2.is.address ∙ s.same ∙ sym (ap amount l.2.is.address) in
      record {
        i = s.i;
        j = s.j;
        later = l.0;
        order = s.order;
        within = slice_get_within xs s.j l.0 l.1;
        there = l.1;
        earlier = record { entry = e.0; there = e.1; same = one_address e.0.address.digits.now l.0.address.digits.now e.2.digits l.2.digits same };
        at = s.at ∙ sym l.2.is.place;
      }

  -- an entry of a number has its address
  it_has : (digits : List ℕ) → Each digit digits → (i : ℕ) → slice_get (map number xs) i ≡ Some (number_from 0 digits) → Has xs i (significant digits)
  it_has digits each_digit i s =
      let m = made_of number xs i (number_from 0 digits) s in
      record { entry = m.0; there = m.1; same = one_address m.0.address.digits.now digits (digits_at i m.0 m.1) each_digit m.2 }

  -- the first entry of an address is the first of its number
  first_number : (digits : List ℕ) → Each digit digits → (found : Option ℕ) → IsFirst xs (length xs) (significant digits) found → IsFirstOf (map number xs) (number_from 0 digits) found
  first_number digits each_digit (Some j) f =
      let has = f.1 in
      (slice_get-map number xs j ∙ ap (option_map number) has.there ∙ ap Some (one_number has.entry.address.digits.now digits has.same), λ i l s. f.2 i l (it_has digits each_digit i s))
  first_number digits each_digit None f = λ i s. let has = it_has digits each_digit i s in f i (slice_get_within xs i has.entry has.there) has

  is_map : (positions : Positions) (found : Option Place) → Passed xs (length xs) positions found → IsMapOf (record { positions = positions }) (amounts h)
  is_map positions found passed digits each_digit =
      from_zero (position positions (significant digits))
      ∙ first_is 0 (map number xs) (number_from 0 digits) (position positions (significant digits))
      (first_number digits each_digit (position positions (significant digits)) (passed.firsts (significant digits)))
      ∙ ap (λ ns. position_from 0 ns (number_from 0 digits)) (numbers_are xs h.entries are)

-- ---- the answer

-- all entries were passed
whole : (index : Index) (xs : List EntryAt) (n : ℕ) (positions : Positions) (found : Option Place) → xs ≡ index.entries → n ≤ length xs → length xs ≤ n → Passed xs n positions found
    → Passed index.entries (length index.entries) positions found
whole index xs n positions found same least most passed =
    subst (λ ys. Passed ys (length ys) positions found) same (subst (λ m. Passed xs m positions found) (omega (arith, least, most)) passed)

module _ (bytes : List ℕ) (h : Heap) (index : Index) (positions : Positions) (found : Option Place) (s : HeapSpells bytes h) (is : IsIndex index h) (passed : Passed index.entries (length index.entries) positions found) where
  least_second : IsLeast (IsSecond h) found
  least_second =
      let each = heap_digits bytes h s in
      least_of (IsSecond h) found passed.places passed.is
      (those_same (IsRepeat index.entries (length index.entries)) (IsSecond h) passed.places (is_second index.entries h is.entries each) (is_repeat index.entries h is.entries each) passed.those)

  answers_map : found ≡ None → Answers h (Ok (record { positions = positions }))
  answers_map none = (subst (IsLeast (IsSecond h)) none least_second, is_map index.entries h is.entries (heap_digits bytes h s) positions found passed)

  answers_second : (place : Place) → found ≡ Some place → Answers h (Err (Second place))
  answers_second place some = subst (IsLeast (IsSecond h)) some least_second

module _ (index : Index) (xs : List EntryAt) (n : ℕ) (positions : Positions) (found : Option Place) (same : xs ≡ index.entries) (least : n ≤ length xs) (most : length xs ≤ n) (passed : Passed xs n positions found) where
  -- without a repeat, and with one
  pub map_found : found ≡ None → (bytes : List ℕ) (h : Heap) → HeapSpells bytes h → IsIndex index h → Answers h (Ok (record { positions = positions }))
  map_found none bytes h s is = answers_map bytes h index positions found s is (whole index xs n positions found same least most passed) none

  pub second_found : (place : Place) → found ≡ Some place → (bytes : List ℕ) (h : Heap) → HeapSpells bytes h → IsIndex index h → Answers h (Err (Second place))
  second_found place some bytes h s is = answers_second bytes h index positions found s is (whole index xs n positions found same least most passed) place some
