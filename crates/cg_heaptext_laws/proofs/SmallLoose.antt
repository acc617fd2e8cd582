-- What is held of a cell that nobody reaches is small, where its numbers and its addresses are.
use Rattle.std.proofs.Common.{◌≡◌, ◌<◌, ◌^◌, true, [], None, refl}
use Rattle.cg_heap.specs.declared.cell.Scalar.TheVariants.{Word, Address}
use Rattle.cg_heaptext_def.specs.HeapText.{Mention, addresses, addresses_all, addresses_in, mentioned_in, numbers_in, numerals, numerals_all, numerals_in}
use Rattle.cg_heaptext_def.specs.Reading.{bit_number, held_at, loose, loose_all, loose_fields}
use Rattle.cg_heaptext_def.specs.Small.{are_small, is_small_cell}
use Rattle.cg_heaptext_def.specs.Trees as written
use Rattle.cg_heaptext_def.specs.Trees.{amount, Written, numeral, truth, nothing, gone, address, constant, applied, inside, tuple, record', Writtens, Fields, field, Cell, elements, answers}
use Rattle.cg_heaptext_laws.proofs.Each.{Each, each_left, each_right}
use Rattle.cg_heaptext_laws.proofs.SmallScalars.{IsLow, small_address, small_bit, small_both, small_more, small_numbers, small_word}

-- a machine word holds its address
abbrev pub IsNear : Mention → Type 0
IsNear m = amount m.address < 2 ^ 64

mutual
  small_loose : (v : Written) → Each IsLow (numerals v) → Each IsNear (addresses v) → are_small (loose v) ≡ true
  small_loose (numeral n) f g = small_more (Word (amount n)) [] (small_word (amount n) f.0) refl
  small_loose (truth p b) f g = small_more (Word (bit_number b)) [] (small_bit b) refl
  small_loose (nothing p) f g = refl
  small_loose (gone p) f g = refl
  small_loose (address p n) f g = small_more (Address (amount n)) [] (small_address (amount n) g.0) refl
  small_loose (constant p x) f g = refl
  small_loose (applied p x v) f g = small_loose v f g
  small_loose (inside p v) f g = small_loose v f g
  small_loose (tuple p vs) f g = small_loose_all vs f g
  small_loose (record' p fs) f g = small_loose_fields fs f g

  small_loose_all : (vs : Writtens) → Each IsLow (numerals_all vs) → Each IsNear (addresses_all vs) → are_small (loose_all vs) ≡ true
  small_loose_all written.none f g = refl
  small_loose_all (written.more v vs) f g =
      let one = small_loose v (each_left IsLow (numerals v) (numerals_all vs) f) (each_left IsNear (addresses v) (addresses_all vs) g) in
      let rest = small_loose_all vs (each_right IsLow (numerals v) (numerals_all vs) f) (each_right IsNear (addresses v) (addresses_all vs) g) in
      small_both (loose v) (loose_all vs) one rest

  small_loose_fields : (fs : Fields) → Each IsLow (numerals_in fs) → Each IsNear (addresses_in fs) → are_small (loose_fields fs) ≡ true
  small_loose_fields written.end f g = refl
  small_loose_fields (field x v fs) f g =
      let one = small_loose v (each_left IsLow (numerals v) (numerals_in fs) f) (each_left IsNear (addresses v) (addresses_in fs) g) in
      let rest = small_loose_fields fs (each_right IsLow (numerals v) (numerals_in fs) f) (each_right IsNear (addresses v) (addresses_in fs) g) in
      small_both (loose v) (loose_fields fs) one rest

pub small_unread : (c : Cell) → Each IsLow (numbers_in c) → Each IsNear (mentioned_in c) → is_small_cell (held_at None c) ≡ true
small_unread (written.slots p fs) f g = small_loose_fields fs f g
small_unread (elements p ns) f g = small_numbers ns f
small_unread (answers p bs) f g = refl
