-- The update semantics on small rows, computed.
use Rattle.std.proofs.Common.{◌≡◌, ℕ, Bool, true, false, cond, codes, List, [], ◌∷◌, Option, Some, None, refl}
use Rattle.std.specs.Cmp.{nat_cmp_total}
use Rattle.std.specs.FinMap as map
use Rattle.std.specs.Ordering.{eq_by_cmp, nat_cmp}
use Rattle.cg_base.specs.declared.fun.Fun.TheVariants.{User, Lib as OfLib}
use Rattle.cg_base.specs.declared.fun.Lib.TheVariants.{Fold}
use Rattle.cg_base.specs.declared.kind.Sigil.TheVariants.{R, W}
use Rattle.cg_base.specs.declared.kind.Word.TheVariants.{U8}
use Rattle.cg_base.specs.declared.place.Place.{Place}
use Rattle.cg_base.specs.Same.{same_type}
use Rattle.cg_base.specs.Types.{Tau, unit, word, arrow, fields, Parts, part, end}
use Rattle.cg_core.specs.declared.at.At.{At}
use Rattle.cg_core.specs.declared.op.Op.TheVariants as ops
use Rattle.cg_core.specs.Terms.{Note, Tree, term, var, lit, op, member, put, more, none}
use Rattle.cg_heap.specs.declared.cell.Cell.{Cell}
use Rattle.cg_heap.specs.declared.cell.Cell.TheVariants.{Slots, Words}
use Rattle.cg_heap.specs.declared.cell.Scalar.{Scalar}
use Rattle.cg_heap.specs.declared.cell.Scalar.TheVariants.{Unset, Word, Address}
use Rattle.cg_heap.specs.NoForeignHeap.{no_foreign_heap}
use Rattle.cg_heap.specs.Reps.{slots}
use Rattle.cg_heap.specs.Stored.{Stored, cell_at}
use Rattle.cg_kinds.specs.Kinds.{bang}
use Rattle.cg_eval_operations.specs.Iterators.{counted, indices_from}
use Rattle.cg_eval_operations.specs.Positions.{position, position_among}
use Rattle.cg_typing.specs.Library.{library_type, turn_of_array}
use Rattle.cg_value.specs.NoForeign.{no_foreign}
use Rattle.cg_update.specs.Calls.{Program}
use Rattle.cg_update.specs.Machines.{is_machine, part_at, type_of_part, with_part_at}
use Rattle.cg_update.specs.Turns.{turns}
use Rattle.cg_update.specs.Updates.{Result, calls_within, update, updated}

abbrev place : Place
place = record { line = 1; column = 1 }

abbrev noted : Tau → Note
noted t = record { place = place; ty = t }

abbrev byte : Tau
byte = word U8

-- a function of the source of this type and body
abbrev only : Tau → Tree Note → Program
only t body = record {
  functions = [];
  list = record { fun = User 0; types = [] } ∷ [];
  entries = record { ty = t; body = Some body } ∷ [];
  foreign = no_foreign;
  on_heaps = no_foreign_heap;
}

abbrev nothing : Stored
nothing = record { cells = map.empty; top = 0 }

-- a heap of one cell
abbrev holding : ℕ → Cell → Stored
holding p c = record { cells = map.insert map.empty p c; top = p }

abbrev gives : List Scalar → Stored → ℕ → Option Result
gives us m cost = Some (record { value = us; state = record { store = m; made = []; freed = [] }; cost = cost })

-- x + 1, at bytes
abbrev increment : Tree Note
increment = term (noted byte) (op ops.Add (more (term (noted byte) (var 0)) (more (term (noted byte) (lit (Some 1))) none)))

incremented : updated (only (arrow byte byte) increment) 9 0 (Word 255 ∷ []) nothing ≡ gives (Word 0 ∷ []) nothing 3
unfolding updated calls_within update is_machine
incremented = refl

too_few : updated (only (arrow byte byte) increment) 2 0 (Word 255 ∷ []) nothing ≡ None
unfolding updated calls_within update is_machine
too_few = refl

no_byte : updated (only (arrow byte byte) increment) 9 0 (Word 256 ∷ []) nothing ≡ None
unfolding updated calls_within update is_machine
no_byte = refl

-- ---- records in cells

-- the cell of such a heap, at its address
held : (c : Cell) → cell_at (holding 7 c) 7 ≡ Some c
held c = map.get-insert nat_cmp_total map.empty 7 c 7

-- and another cell in its place
held_anew : (c d : Cell) → map.insert (map.insert {R = nat_cmp} map.empty 7 c) 7 d ≡ map.insert map.empty 7 d
held_anew c d =
    map.same_map nat_cmp_total map.nat_cmp-IsAntisymmetric _ _ (λ q.
    rw (map.get-insert nat_cmp_total (map.insert map.empty 7 c) 7 d q, map.get-insert nat_cmp_total map.empty 7 c q, map.get-insert nat_cmp_total map.empty 7 d q)
    (by_test (eq_by_cmp nat_cmp q 7) _))
  where
    by_test : (b : Bool) (r : Option Cell) → cond b (Some d) (cond b (Some c) r) ≡ cond b (Some d) r
    by_test true r = refl
    by_test false r = refl

-- two bytes
abbrev bytes : Parts
bytes = part (codes "x") byte false (part (codes "y") byte false end)

abbrev at_y : At
at_y = record { place = place; name = codes "y" }

abbrev slots_3_and : Scalar → Cell
slots_3_and u = Slots (Word 3 ∷ u ∷ [])

-- r.y, of a record that is read only, at the address 7
abbrev read_y : ℕ → Stored → Option Result
read_y n m = updated (only (arrow (fields bytes R) byte) (term (noted byte) (member (term (noted (fields bytes R)) (var 0)) at_y))) n 0 (Address 7 ∷ []) m

field_read : read_y 9 (holding 7 (slots_3_and (Word 4))) ≡ gives (Word 4 ∷ []) (holding 7 (slots_3_and (Word 4))) 2
unfolding updated calls_within update is_machine part_at type_of_part position position_among slots
field_read = rw (held (slots_3_and (Word 4))) refl

no_cell : read_y 9 nothing ≡ None
unfolding updated calls_within update is_machine part_at type_of_part position position_among slots
no_cell = rw (map.get-empty {X = Cell} nat_cmp 7) refl

array_for_record : read_y 9 (holding 7 (Words (3 ∷ 4 ∷ []))) ≡ None
unfolding updated calls_within update is_machine part_at type_of_part position position_among slots
array_for_record = rw (held (Words (3 ∷ 4 ∷ []))) refl

one_slot_for_two : read_y 9 (holding 7 (Slots (Word 3 ∷ []))) ≡ None
unfolding updated calls_within update is_machine part_at type_of_part position position_among slots
one_slot_for_two = rw (held (Slots (Word 3 ∷ []))) refl

unset_field : read_y 9 (holding 7 (slots_3_and Unset)) ≡ None
unfolding updated calls_within update is_machine part_at type_of_part position position_among slots
unset_field = rw (held (slots_3_and Unset)) refl

-- r { y = 9 }, of a record that can be written
abbrev put_y : Tree Note
put_y = term (noted (fields bytes W)) (put (term (noted (fields bytes W)) (var 0)) at_y (term (noted byte) (lit (Some 9))))

-- three nodes and the field that is put; the address is that which was given
field_written : updated (only (arrow (fields bytes W) (fields bytes W)) put_y) 9 0 (Address 7 ∷ []) (holding 7 (slots_3_and (Word 4)))
    ≡ gives (Address 7 ∷ []) (holding 7 (slots_3_and (Word 9))) 4
unfolding updated calls_within update is_machine with_part_at type_of_part position position_among slots
field_written = rw (held (slots_3_and (Word 4)), held_anew (slots_3_and (Word 4)) (slots_3_and (Word 9))) refl

-- ---- turns

-- x.elem + x.acc, of what a turn over an array of bytes is asked
abbrev turn : Tau
turn = turn_of_array byte byte unit

abbrev of_turn : List ℕ → Tree Note
of_turn name = term (noted byte) (member (term (noted turn) (var 0)) (record { place = place; name = name }))

abbrev added : Tree Note
added = term (noted byte) (op ops.Add (more (of_turn (codes "elem")) (more (of_turn (codes "acc")) none)))

-- `wordarray_fold` at bytes, and a function of the source behind it
abbrev folding : Program
folding = record {
  functions = [];
  list = record { fun = OfLib Fold; types = byte ∷ byte ∷ unit ∷ [] } ∷ record { fun = User 0; types = [] } ∷ [];
  entries = record { ty = library_type Fold (byte ∷ byte ∷ unit ∷ []); body = None } ∷ record { ty = arrow turn byte; body = Some added } ∷ [];
  foreign = no_foreign;
  on_heaps = no_foreign_heap;
}

-- the array at 7, all its indices, the function, and 250
abbrev folded : ℕ → Stored → Option Result
folded n m = updated folding n 0 (Address 7 ∷ Word 0 ∷ Word 9 ∷ Word 1 ∷ Word 250 ∷ Word 0 ∷ []) m

abbrev array : Stored
array = holding 7 (Words (3 ∷ 4 ∷ []))

array_held : cell_at array 7 ≡ Some (Words (3 ∷ 4 ∷ []))
array_held = held (Words (3 ∷ 4 ∷ []))

-- two turns, each of 1 and 5 nodes
two_turns : folded 99 array ≡ gives (Word 1 ∷ []) array 12
unfolding updated calls_within update turns indices_from counted is_machine part_at type_of_part position position_among slots bang same_type
two_turns = rw (array_held, array_held, array_held, array_held) refl

no_array : folded 99 nothing ≡ None
unfolding updated calls_within update turns indices_from counted is_machine part_at type_of_part position position_among slots bang same_type
no_array = rw (map.get-empty {X = Cell} nat_cmp 7) refl
