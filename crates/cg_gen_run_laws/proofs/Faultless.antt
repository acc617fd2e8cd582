-- The heap file of the generated source has none of the faults of heap files.
use Rattle.std.proofs.Common.{◌≡◌, ◌⊎◌, inl, inr, ℕ, zero, suc, ◌^◌, ◌<◌, List, [], ◌∷◌, ◌++◌, Some, None, refl, sym, ◌∙◌, subst, arith}
use Rattle.std.specs.List.{AllByRecursion}
use Rattle.std.specs.Prelude.{⊤, slice_get}
use Rattle.std.proofs.lemmas.Option.{slice_get_within}
use Rattle.cg_base.specs.declared.place.Place.{Place}
use Rattle.cg_base.specs.Types.{Tau}
use Rattle.cg_heaptext_def.specs.HeapText.{IsSecond, IsAbsent, IsMisfit, IsAliased, IsMentioned, IsOver, over_type, over_word, entry_out, mention_out, IsLarge, HasMany, Never, Nowhere, cells_of, mentions, most_addresses, most_entries, read_at, read_events}
use Rattle.cg_heaptext_def.specs.Reading.{Event, misfit, counted, mention, events, events_all, scalars, scalars_all, value, value_all}
use Rattle.cg_heaptext_def.specs.Trees.{Numeral, amount}
use Rattle.cg_gen_def.specs.Kernels.{cell_type}
use Rattle.cg_gen_run_laws.proofs.Held.{argument_address, cell_address, held, spells, tag_zero, value_zero}
use Rattle.cg_gen_run_laws.specs.Laws.{HeapIsHeld}

-- ---- lists of known elements

holds_at : {A : Type 0} (P : A → Type 0) (xs : List A) (i : ℕ) (x : A) → AllByRecursion P xs → slice_get xs i ≡ Some x → P x
holds_at P [] i x all e = absurd (cc)
holds_at P (y ∷ ys) zero x all e = let same : y ≡ x = cc in subst P same all.0
holds_at P (y ∷ ys) (suc i) x all e = holds_at P ys i x all.1 e

-- ---- what is met as it is read

met : read_events held cell_type ≡ mention (record { line = 2; column = 7 }) 1 cell_type ∷ counted value_zero (2 ^ 32) ∷ counted tag_zero (2 ^ 8) ∷ []
unfolding events events_all
met = refl

-- what nothing before it makes a fault
abbrev IsCounted : Event → Type 0
IsCounted (counted n bound) = ⊤
IsCounted _ = ⊥

-- behind the first are numbers alone
later_counted : (es front rest : List Event) (e : Event) → AllByRecursion IsCounted es → es ≡ front ++ e ∷ rest → IsCounted e
later_counted [] [] rest e all parts = absurd (cc)
later_counted [] (x ∷ front) rest e all parts = absurd (cc)
later_counted (y ∷ es) [] rest e all parts = let same : y ≡ e = cc in subst IsCounted same all.0
later_counted (y ∷ es) (x ∷ front) rest e all parts = let tails : es ≡ front ++ e ∷ rest = cc in later_counted es front rest e all.1 tails

-- a fault of none of these, and of a mention only where an address was mentioned before
record Spares (P : List Event → Event → Place → Type 0) : Type 0 where
  number : (front : List Event) (e : Event) (place : Place) → IsCounted e → P front e place → ⊥
  first : (place p : Place) (q : ℕ) (t : Tau) → P [] (mention p q t) place → ⊥

nowhere : (P : List Event → Event → Place → Type 0) → Spares P → Nowhere P (read_events held cell_type)
nowhere P spares [] rest e place parts is =
    let all = sym met ∙ parts in
    let same : e ≡ mention (record { line = 2; column = 7 }) 1 cell_type = cc in
    spares.first place (record { line = 2; column = 7 }) 1 cell_type (subst (λ z. P [] z place) same is)
nowhere P spares (x ∷ front) rest e place parts is =
    let all = sym met ∙ parts in
    let tails : counted value_zero (2 ^ 32) ∷ counted tag_zero (2 ^ 8) ∷ [] ≡ front ++ e ∷ rest = cc in
    spares.number (x ∷ front) e place (later_counted (counted value_zero (2 ^ 32) ∷ counted tag_zero (2 ^ 8) ∷ []) front rest e (tt, (tt, tt)) tails) is

none_before : (P : Tau → Type 0) (q : ℕ) → IsMentioned P [] q → ⊥
none_before P q m = let there = m.there in absurd (cc)

misfit_number : (front : List Event) (e : Event) (place : Place) → IsCounted e → IsMisfit front e place → ⊥
misfit_number front (counted n bound) place a is = is
misfit_number front (misfit p) place a is = a
misfit_number front (mention p q t) place a is = a

alias_number : (front : List Event) (e : Event) (place : Place) → IsCounted e → IsAliased front e place → ⊥
alias_number front (counted n bound) place a is = is
alias_number front (misfit p) place a is = a
alias_number front (mention p q t) place a is = a

no_misfit : Nowhere IsMisfit (read_events held cell_type)
no_misfit = nowhere IsMisfit (record { number = misfit_number; first = λ place p q t is. none_before _ q is.1 })

no_alias : Nowhere IsAliased (read_events held cell_type)
no_alias = nowhere IsAliased (record { number = alias_number; first = λ place p q t is. none_before _ q is.1 })

-- ---- entries, mentions and numbers

no_second : Never (IsSecond held)
no_second p is =
    let low = slice_get_within held.entries is.j is.later is.other in let order = is.order in absurd (omega (arith, low, order))

no_absent : Never (IsAbsent held)
no_absent p is = holds_at (λ m. cells_of held (amount m.address) ≡ None → ⊥) (mentions held) is.i is.mention ((λ e. absurd (cc)), tt) is.there is.absent

-- numbers are within their types
abbrev Fits : Event → Type 0
Fits (counted n bound) = amount n < bound
Fits _ = ⊤

all_fit : AllByRecursion Fits (read_events held cell_type)
all_fit = subst (AllByRecursion Fits) (sym met) (tt, (omega arith, (omega arith, tt)))

read_first : read_at held cell_type 1 ≡ Some cell_type
unfolding events events_all
read_first = refl

-- a number is no address
abbrev IsOut : Numeral → Type 0
IsOut n = (amount n ≡ 0) ⊎ (most_addresses < amount n)

one_is_in : (n : Numeral) → amount n ≡ 1 → IsOut n → ⊥
one_is_in n one (inl none) = absurd (omega (arith, one, none))
one_is_in n one (inr far) = absurd (omega (arith, one, far))

no_over : Never (IsOver held cell_type)
no_over p (over_type i bound n there past at) =
    let fit : amount n < bound = holds_at Fits (read_events held cell_type) i (counted n bound) all_fit there in absurd (omega (arith, fit, past))
no_over p (over_word i j e n there unread number past at) =
    holds_at (λ x. read_at held cell_type (amount x.address) ≡ None → ⊥) held.entries i e ((λ none. let some = read_first in absurd (cc)), tt) there unread
no_over p (entry_out i e there out at) = holds_at (λ x. IsOut x.address → ⊥) held.entries i e (one_is_in cell_address refl, tt) there out
no_over p (mention_out i m there out at) = holds_at (λ x. IsOut x.address → ⊥) (mentions held) i m (one_is_in argument_address refl, tt) there out

no_large : Never (IsLarge held)
no_large p is = by is.large
  where
    by : (is.i ≡ most_entries) ⊎ HasMany is.entry.cell → ⊥
    by (inl last) = let low = slice_get_within held.entries is.i is.entry is.there in absurd (omega (arith, low, last))
    by (inr many) = holds_at (λ e. HasMany e.cell → ⊥) held.entries is.i is.entry ((λ x. x), tt) is.there many

pub heap_is_held : HeapIsHeld
unfolding scalars scalars_all value value_all events events_all
heap_is_held = record {
  heap = held;
  spells = spells;
  sound = ((no_second, no_absent, no_misfit, no_over, no_alias), no_large);
  are_cells = refl;
  is_argument = refl;
  is_value = refl;
}
