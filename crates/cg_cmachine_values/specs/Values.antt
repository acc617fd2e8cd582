-- What the code's values, places and operands stand for, where a frame is one row of slots.
use Rattle.std.specs.Prelude.{◌≡◌, ℕ, ◌+◌, ◌%◌, ◌^◌, ◌<◌, ◌≤◌, List, [], ◌∷◌, ◌++◌, take, drop, length, Option, Some, None, Result, Ok, Err}
use Rattle.cg_base.specs.declared.kind.Word.{Word as Word'}
use Rattle.cg_base.specs.Words.{bits}
use Rattle.cg_cmachine_layout.specs.declared.kind.Part.{Part}
use Rattle.cg_cmachine_layout.specs.Kinds.{layout_of, shape_layout}
use Rattle.cg_cmachine_def.specs.Layouts.{Layout, cell, pointer, size, spot}
use Rattle.cg_cmachine_def.specs.Operands.{Value, literal, typed, address_at, only, present, read, read_part, scalars_in, give}
use Rattle.cg_cmachine_def.specs.Operations.{operation}
use Rattle.cg_cmachine_def.specs.Outcomes.{Judged, ok, no, on}
use Rattle.cg_cmachine_def.specs.Targets.{spliced, with_cell_at, written_cell}
use Rattle.cg_ctree.specs.declared.tree.COp.{COp}
use Rattle.cg_ctree.specs.declared.why.Why.{Why}
use Rattle.cg_ctree.specs.declared.why.Why.TheVariants.{KindsDiffer}
use Rattle.cg_cmachine_values.specs.declared.fault.RunFault.{RunFault}
use Rattle.cg_cmachine_values.specs.declared.fault.RunFault.TheVariants.{Stuck, Budget, Memory}
use Rattle.cg_cmachine_values.specs.declared.place.Operand.{Operand}
use Rattle.cg_cmachine_values.specs.declared.place.Operand.TheVariants as operand
use Rattle.cg_cmachine_values.specs.declared.place.Place.{Place}
use Rattle.cg_cmachine_values.specs.declared.place.Place.TheVariants.{Nowhere, Local, Behind}
use Rattle.cg_cmachine_values.specs.declared.value.CValue.{CValue}
use Rattle.cg_cmachine_values.specs.declared.value.CValue.TheVariants as value
use Rattle.cg_heap.specs.declared.cell.Cell.{Cell}
use Rattle.cg_heap.specs.declared.cell.Cell.TheVariants.{Slots, Words, Answers}
use Rattle.cg_heap.specs.declared.cell.Scalar.{Scalar}
use Rattle.cg_heap.specs.declared.cell.Scalar.TheVariants.{Word, Address}
use Rattle.cg_heap.specs.Stored.{Stored}

-- the value that one of the code stands for
abbrev pub value_of : CValue → Value
value_of (value.Literal n) = literal n
value_of (value.Word w n) = typed (cell w) (Word n ∷ [])
value_of (value.Pointer x p) = typed (pointer x.now) (Address p ∷ [])
value_of (value.Struct s) = typed (shape_layout s.shape) s.slots.items

-- ---- what a call of the code answers

-- what judging gives
abbrev pub Gives : {A B : Type 0} → (A → B) → Judged B → Result A Why → Type 0
Gives f judged (Ok a) = judged ≡ ok (f a)
Gives f judged (Err why) = judged ≡ no why

-- the same, where memory may be wanting
abbrev pub Tries : {A B : Type 0} → (A → B) → Judged B → Result A RunFault → Type 0
Tries f judged (Ok a) = judged ≡ ok (f a)
Tries f judged (Err (Stuck why)) = judged ≡ no why
Tries f judged (Err Budget) = ⊥
Tries f judged (Err Memory) = Unit {0}

-- an operation's result modulo 2^width
abbrev pub reduced : COp → Word' → ℕ → ℕ → Judged ℕ
reduced o w a b = on (operation o (bits w) a b) (λ n. ok (n % 2 ^ bits w))

-- ---- reading

-- the slots of a type, from one on
abbrev pub slots_from : ℕ → Layout → List Scalar → List Scalar
slots_from at l us = take (size l) (drop at us)

-- how many slots or elements are read by number in a cell; None where there is none, or a list of answers
abbrev pub length_read : Option Cell → Option ℕ
length_read None = None
length_read (Some (Slots us)) = Some (length us)
length_read (Some (Words ns)) = Some (length ns)
length_read (Some (Answers bs)) = None

-- what stands in a part of a cell; nowhere where there is no such part
abbrev pub read_cell : Option Part → Cell → Judged Value
read_cell None c = no KindsDiffer
read_cell (Some p) c = on (scalars_in c) (λ us. read_part (spot p.start (layout_of p.kind)) us)

-- a struct that stands in the cell at an address, from a slot on
abbrev pub struct_behind : Stored → ℕ → ℕ → Layout → Judged Value
struct_behind m p start l = on (present m p) (λ c. on (scalars_in c) (λ us. read_part (spot start l) us))

-- what stands behind an address
abbrev pub read_behind : Stored → ℕ → Option Part → Judged Value
read_behind m p part = on (present m p) (read_cell part)

-- what stands at a place, in a frame of these slots
abbrev pub read_place : Stored → List Scalar → Place → Judged Value
read_place m us Nowhere = no KindsDiffer
read_place m us (Local at k) = read (layout_of k) (slots_from at (layout_of k) us)
read_place m us (Behind at part) = on (address_at (only (drop at us))) (λ p. read_behind m p part)

abbrev pub judged : Stored → List Scalar → Operand → Judged Value
judged m us (operand.Number n) = ok (literal n)
judged m us (operand.Place p) = read_place m us p

abbrev pub judged_all : Stored → List Scalar → List Operand → Judged (List Value)
judged_all m us [] = ok []
judged_all m us (o ∷ os) = on (judged m us o) (λ v. on (judged_all m us os) (λ vs. ok (v ∷ vs)))

-- ---- writing

-- slots from one on, replaced by others
abbrev pub overwritten : ℕ → List Scalar → List Scalar → List Scalar
overwritten at xs us = take at us ++ xs ++ drop (at + length xs) us

-- what an assignment changes: the slots of the frame, or the store
pub record Changed : Type 0 where
  pub slots : List Scalar
  pub store : Stored

-- how many slots a cell has that are written; None where there is no cell, or one of elements or of answers
abbrev pub length_written : Option Cell → Option ℕ
length_written None = None
length_written (Some (Slots us)) = Some (length us)
length_written (Some (Words ns)) = None
length_written (Some (Answers bs)) = None

-- a value that is written to a part of a cell
abbrev pub write_cell : Stored → ℕ → Value → Option Part → Cell → Judged Stored
write_cell m p v None c = no KindsDiffer
write_cell m p v (Some part) c =
    on (written_cell (spot part.start (layout_of part.kind)) c) (λ slots. on (give (layout_of part.kind) v) (λ xs.
    ok (with_cell_at p (Slots (spliced (spot part.start (layout_of part.kind)) xs slots)) m)))

abbrev pub write_behind : Stored → ℕ → Option Part → Value → Judged Stored
write_behind m p part v = on (present m p) (write_cell m p v part)

-- an assignment of a value to a place
abbrev pub write_place : Stored → List Scalar → Place → Value → Judged Changed
write_place m us Nowhere v = no KindsDiffer
write_place m us (Local at k) v = on (give (layout_of k) v) (λ xs. ok (record { slots = overwritten at xs us; store = m }))
write_place m us (Behind at part) v =
    on (address_at (only (drop at us))) (λ p. on (write_behind m p part v) (λ m'. ok (record { slots = us; store = m' })))

-- ---- places of a frame

-- a place stands within a frame of so many slots
abbrev pub IsWithin : ℕ → Place → Type 0
IsWithin n Nowhere = Unit {0}
IsWithin n (Local at k) = at + size (layout_of k) ≤ n
IsWithin n (Behind at part) = at < n

abbrev pub IsOperandWithin : ℕ → Operand → Type 0
IsOperandWithin n (operand.Number k) = Unit {0}
IsOperandWithin n (operand.Place p) = IsWithin n p

abbrev pub AreWithin : ℕ → List Operand → Type 0
AreWithin n [] = Unit {0}
AreWithin n (o ∷ os) = IsOperandWithin n o × AreWithin n os
