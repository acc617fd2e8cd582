-- Numbers of any length that are above a bound.
use Rattle.std.specs.Prelude.{ℕ, nat_lt, Bool, true, false, List, [], ◌∷◌}
use Rattle.cg_base.specs.declared.place.Place.{Place}
use Rattle.cg_heaptext_def.specs.Trees.{Numeral, amount}
use Rattle.cg_heaptext_lexer.specs.declared.token.Token.{Token as Read}

-- what was read, as a number with its place
abbrev pub numeral_read : Read → Numeral
numeral_read t = record { place = t.place; digits = t.text.now }

-- the places of the numbers that are above a bound
abbrev pub with_place : Bool → Place → List Place → List Place
with_place true p ps = p ∷ ps
with_place false p ps = ps

abbrev pub places_above : ℕ → List Numeral → List Place
places_above most [] = []
places_above most (n ∷ ns) = with_place (nat_lt most (amount n)) n.place (places_above most ns)
