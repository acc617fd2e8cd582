-- Where the compiler keeps the value of a term, and what that stands for.
use Rattle.std.specs.Prelude.{ℕ, Bool, true, false, nat_le, [], map}
use Rattle.cg_cgen_def.specs.Places as places
use Rattle.cg_cgen_lines.specs.Views.{base_of, step_of}
use Rattle.cg_lower_nodes.specs.declared.place.Place.{Place}
use Rattle.cg_lower_nodes.specs.declared.place.Place.TheVariants as place

abbrev pub place_of : Place → places.Place
place_of (place.Number n) = places.number n
place_of (place.Held b steps) = places.held (base_of b) (map step_of steps)

-- a place is a number, a whole variable, and a whole local from a number on
abbrev pub is_number : places.Place → Bool
is_number (places.number n) = true
is_number p = false

abbrev pub is_bare : places.Place → Bool
is_bare (places.held b []) = true
is_bare p = false

abbrev pub is_own : ℕ → places.Place → Bool
is_own k (places.held (places.local j) []) = nat_le k j
is_own k p = false
