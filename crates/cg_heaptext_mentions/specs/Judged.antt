-- What is found of addresses, one by one (docs/LANGUAGE.md, "Heap files", H3 and H5).
use Rattle.std.specs.Prelude.{◌≡◌, ◌⊎◌, ℕ, ◌<◌, Bool, ◌||◌, nat_eq, nat_lt, is_none, List, [], ◌∷◌, slice_get, Option, Some, if◌then◌else◌}
use Rattle.cg_base.specs.declared.place.Place.{Place}
use Rattle.cg_heaptext_def.specs.Footprints.{position_from}
use Rattle.cg_heaptext_def.specs.HeapText.{Mention, mentions, most_addresses}
use Rattle.cg_heaptext_def.specs.Trees.{Entry, Heap, Numeral, amount}
use Rattle.cg_heaptext_places.specs.Noted.{noted}

-- an address is out of range
abbrev pub is_out : ℕ → Bool
is_out n = nat_eq n 0 || nat_lt most_addresses n

-- an address is out of range, that of an entry or one that is mentioned: the part of H5 that is about addresses
pub data IsOut (h : Heap) (place : Place) : Type 0 where
  entry_out : (i : ℕ) (e : Entry) → slice_get h.entries i ≡ Some e → (amount e.address ≡ 0) ⊎ (most_addresses < amount e.address) → place ≡ e.address.place → IsOut h place
  mention_out : (i : ℕ) (m : Mention) → slice_get (mentions h) i ≡ Some m → (amount m.address ≡ 0) ⊎ (most_addresses < amount m.address) → place ≡ m.address.place → IsOut h place

abbrev pub mention : Place → Numeral → Mention
mention p n = record { place = p; address = n }

module _ {A : Type 0} (test : A → Bool) (place : A → Place) where
  -- the earlier of what was found and the place of a thing that passes
  abbrev pub note : Option Place → A → Option Place
  note found x = if test x then noted found (place x) else found

  abbrev pub note_all : Option Place → List A → Option Place
  note_all found [] = found
  note_all found (x ∷ xs) = note_all (note found x) xs

-- with a number more that is an address, and with some
abbrev pub out_of_range : Numeral → Bool
out_of_range n = is_out (amount n)

abbrev pub numeral_after : Option Place → Numeral → Option Place
numeral_after = note out_of_range (λ n. n.place)

abbrev pub numerals_after : Option Place → List Numeral → Option Place
numerals_after = note_all out_of_range (λ n. n.place)

-- with some mentions more: what is out of range
abbrev pub mention_out_of_range : Mention → Bool
mention_out_of_range m = is_out (amount m.address)

abbrev pub out_after : Option Place → List Mention → Option Place
out_after = note_all mention_out_of_range (λ m. m.address.place)

-- and what isn't among these numbers
abbrev pub lacks : List ℕ → Mention → Bool
lacks ns m = is_none (position_from 0 ns (amount m.address))

abbrev pub absent_after : List ℕ → Option Place → List Mention → Option Place
absent_after ns = note_all (lacks ns) (λ m. m.place)
