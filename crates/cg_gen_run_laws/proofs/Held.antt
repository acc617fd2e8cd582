-- The heap file of the generated source as a tree and as tokens, and that it is these.
use Rattle.std.proofs.Common.{◌≡◌, ℕ, true, List, [], ◌∷◌, ◌++◌, codes, refl}
use Rattle.cg_base.specs.Bytes.{white, digit, Each, Starts, Stops}
use Rattle.cg_base.specs.declared.place.Place.{Place}
use Rattle.cg_base.specs.Places.{place_after}
use Rattle.cg_lexer.specs.Bytes.{small, part_of_name}
use Rattle.cg_heaptext_def.specs.Grammar.{HeapSpells, ReadsEntry, ReadsFields, ReadsMoreFields, ReadsValue, mark, token, ◌then◌}
use Rattle.cg_heaptext_def.specs.Tokens.{Lexeme, Lexes, Takes, is_sign}
use Rattle.cg_heaptext_def.specs.Tokens as tokens
use Rattle.cg_heaptext_def.specs.Trees.{Numeral, Entry, Heap, slots, field, end, numeral, address}
use Rattle.cg_gen.specs.Generated.{heap}

abbrev at : ℕ → ℕ → Place
at line column = record { line = line; column = column }

abbrev written : ℕ → ℕ → List ℕ → Numeral
written line column digits = record { place = at line column; digits = digits }

-- ---- the tree

abbrev pub value_zero : Numeral
value_zero = written 1 13 (codes "0")

abbrev pub tag_zero : Numeral
tag_zero = written 1 22 (codes "0")

abbrev pub cell_address : Numeral
cell_address = written 1 2 (codes "1")

abbrev pub argument_address : Numeral
argument_address = written 2 8 (codes "1")

abbrev pub cell_entry : Entry
cell_entry = record {
  place = at 1 1;
  address = cell_address;
  cell = slots (at 1 6) (field (codes "val") (numeral value_zero) (field (codes "tag") (numeral tag_zero) end));
}

abbrev pub held : Heap
held = record { entries = cell_entry ∷ []; argument = address (at 2 7) argument_address }

-- ---- its tokens

abbrev a_sign : List ℕ → ℕ → ℕ → Lexeme
a_sign x line column = record { token = tokens.sign x; place = at line column }

abbrev a_number : List ℕ → ℕ → ℕ → Lexeme
a_number x line column = record { token = tokens.number x; place = at line column }

abbrev a_name : List ℕ → ℕ → ℕ → Lexeme
a_name x line column = record { token = tokens.lower x; place = at line column }

-- those of the argument, of the cell's second field with them, and so on
abbrev of_argument : List Lexeme
of_argument = a_name (codes "arg") 2 1 ∷ a_sign (codes "=") 2 5 ∷ a_sign (codes "@") 2 7 ∷ a_number (codes "1") 2 8 ∷ []

abbrev of_tag : List Lexeme
of_tag = a_sign (codes ",") 1 14 ∷ a_name (codes "tag") 1 16 ∷ a_sign (codes "=") 1 20 ∷ a_number (codes "0") 1 22 ∷ a_sign (codes "}") 1 23 ∷ of_argument

abbrev of_value : List Lexeme
of_value = a_name (codes "val") 1 7 ∷ a_sign (codes "=") 1 11 ∷ a_number (codes "0") 1 13 ∷ of_tag

abbrev of_heap : List Lexeme
of_heap = a_sign (codes "@") 1 1 ∷ a_number (codes "1") 1 2 ∷ a_sign (codes "=") 1 4 ∷ a_sign (codes "{") 1 6 ∷ of_value

-- a token behind white space
takes_sign : (from : Place) (gap x rest : List ℕ) → Each white gap → is_sign x ≡ true
    → Takes from (gap ++ (x ++ rest)) (record { token = tokens.sign x; place = place_after from gap }) rest
takes_sign from gap x rest space fits = record { gap = gap; parts = refl; space = space; stands = refl; fits = fits; ends = tt }

takes_number : (from : Place) (gap x rest : List ℕ) → Each white gap → Starts digit x × Each digit x → Stops digit rest
    → Takes from (gap ++ (x ++ rest)) (record { token = tokens.number x; place = place_after from gap }) rest
takes_number from gap x rest space fits ends = record { gap = gap; parts = refl; space = space; stands = refl; fits = fits; ends = ends }

takes_name : (from : Place) (gap x rest : List ℕ) → Each white gap → Starts small x × Each part_of_name x → Stops part_of_name rest
    → Takes from (gap ++ (x ++ rest)) (record { token = tokens.lower x; place = place_after from gap }) rest
takes_name from gap x rest space fits ends = record { gap = gap; parts = refl; space = space; stands = refl; fits = fits; ends = ends }

divides_argument : tokens.Divides (at 1 24) (codes "\narg = @1\n") of_argument (codes "\n")
divides_argument = (
  _,
  takes_name (at 1 24) (codes "\n") (codes "arg") (codes " = @1\n") (refl, tt) (refl, (refl, (refl, (refl, tt)))) refl,
  (
    _,
    takes_sign (at 2 4) (codes " ") (codes "=") (codes " @1\n") (refl, tt) refl,
    (
      _,
      takes_sign (at 2 6) (codes " ") (codes "@") (codes "1\n") (refl, tt) refl,
      (
        _,
        takes_number (at 2 8) [] (codes "1") (codes "\n") tt (refl, (refl, tt)) refl,
        refl,
      ),
    ),
  ),
)

divides_tag : tokens.Divides (at 1 14) (codes ", tag = 0}\narg = @1\n") of_tag (codes "\n")
divides_tag = (
  _,
  takes_sign (at 1 14) [] (codes ",") (codes " tag = 0}\narg = @1\n") tt refl,
  (
    _,
    takes_name (at 1 15) (codes " ") (codes "tag") (codes " = 0}\narg = @1\n") (refl, tt) (refl, (refl, (refl, (refl, tt)))) refl,
    (
      _,
      takes_sign (at 1 19) (codes " ") (codes "=") (codes " 0}\narg = @1\n") (refl, tt) refl,
      (
        _,
        takes_number (at 1 21) (codes " ") (codes "0") (codes "}\narg = @1\n") (refl, tt) (refl, (refl, tt)) refl,
        (
          _,
          takes_sign (at 1 23) [] (codes "}") (codes "\narg = @1\n") tt refl,
          divides_argument,
        ),
      ),
    ),
  ),
)

divides_value : tokens.Divides (at 1 7) (codes "val = 0, tag = 0}\narg = @1\n") of_value (codes "\n")
divides_value = (
  _,
  takes_name (at 1 7) [] (codes "val") (codes " = 0, tag = 0}\narg = @1\n") tt (refl, (refl, (refl, (refl, tt)))) refl,
  (
    _,
    takes_sign (at 1 10) (codes " ") (codes "=") (codes " 0, tag = 0}\narg = @1\n") (refl, tt) refl,
    (
      _,
      takes_number (at 1 12) (codes " ") (codes "0") (codes ", tag = 0}\narg = @1\n") (refl, tt) (refl, (refl, tt)) refl,
      divides_tag,
    ),
  ),
)

divides_heap : tokens.Divides (at 1 1) (codes "@1 = {val = 0, tag = 0}\narg = @1\n") of_heap (codes "\n")
divides_heap = (
  _,
  takes_sign (at 1 1) [] (codes "@") (codes "1 = {val = 0, tag = 0}\narg = @1\n") tt refl,
  (
    _,
    takes_number (at 1 2) [] (codes "1") (codes " = {val = 0, tag = 0}\narg = @1\n") tt (refl, (refl, tt)) refl,
    (
      _,
      takes_sign (at 1 3) (codes " ") (codes "=") (codes " {val = 0, tag = 0}\narg = @1\n") (refl, tt) refl,
      (
        _,
        takes_sign (at 1 5) (codes " ") (codes "{") (codes "val = 0, tag = 0}\narg = @1\n") (refl, tt) refl,
        divides_value,
      ),
    ),
  ),
)

reads_argument : (token (tokens.lower (codes "arg")) then mark (codes "=") then ReadsValue held.argument) of_argument []
reads_argument = (_, (_, refl), (_, (_, refl), (_, refl, refl)))

reads_entry : ReadsEntry cell_entry of_heap of_argument
reads_entry = (_, refl, (_, refl, (_, (_, refl), (_, refl, (_, reads_fields, (_, refl))))))
  where
    reads_tag : ReadsMoreFields (field (codes "tag") (numeral tag_zero) end) of_tag (a_sign (codes "}") 1 23 ∷ of_argument)
    reads_tag = (refl, (_, (_, refl), (_, (_, refl), (_, (_, refl), (_, refl, refl)))))

    reads_fields : ReadsFields (field (codes "val") (numeral value_zero) (field (codes "tag") (numeral tag_zero) end)) of_value
        (a_sign (codes "}") 1 23 ∷ of_argument)
    reads_fields = (refl, (_, (_, refl), (_, (_, refl), (_, refl, reads_tag))))

pub spells : HeapSpells heap held
spells = (of_heap, (codes "\n", (refl, tt), divides_heap), (of_argument, (of_argument, reads_entry, refl), reads_argument))
