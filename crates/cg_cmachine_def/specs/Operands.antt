-- What stands at paths, and what operands are (docs/LANGUAGE.md, "The C subset", reading).
use Rattle.std.specs.Prelude.{ℕ, ◌^◌, Bool, List, [], ◌∷◌, map, take, drop, length, Option, Some, None, cond, nat_lt, nat_le, if◌then◌else◌}
use Rattle.std.specs.Str.{bytes_eq}
use Rattle.cg_base.specs.Words.{bits}
use Rattle.cg_base.specs.declared.kind.Word.{Word}
use Rattle.cg_cmachine_def.specs.Layouts.{Layout, cell, pointer, group, size, same_layout, Spot, walk, pointed}
use Rattle.cg_cmachine_def.specs.Outcomes.{Judged, ok, no, on, found}
use Rattle.cg_ctree.specs.declared.tree.COpnd.{COpnd}
use Rattle.cg_ctree.specs.declared.tree.COpnd.TheVariants.{Number, Path}
use Rattle.cg_ctree.specs.declared.tree.CPath.{CPath}
use Rattle.cg_ctree.specs.declared.tree.CStruct.{CStruct}
use Rattle.cg_ctree.specs.declared.why.Why.TheVariants.{Unset as IsUnset, NoCell, KindsDiffer}
use Rattle.cg_heap.specs.declared.cell.Cell.{Cell}
use Rattle.cg_heap.specs.declared.cell.Cell.TheVariants.{Slots, Words, Answers}
use Rattle.cg_heap.specs.declared.cell.Scalar.{Scalar}
use Rattle.cg_heap.specs.declared.cell.Scalar.TheVariants.{Unset, Word as Number', Address}
use Rattle.cg_heap.specs.Stored.{Stored, cell_at}

-- a value: a number of every word type that it is in range of, or the scalars of a type
pub data Value : Type 0 where
  literal : ℕ → Value
  typed : Layout → List Scalar → Value

-- a variable: its name, its layout and its scalars
pub record Variable : Type 0 where
  pub name : List ℕ
  pub layout : Layout
  pub scalars : List Scalar

-- parameters and then locals
abbrev pub Frame : Type 0
Frame = List Variable

-- the first variable of a name
abbrev pub look : List ℕ → Frame → Option Variable
look x [] = None
look x (v ∷ vs) = if bytes_eq x v.name then Some v else look x vs

-- ---- scalars

-- the number that a scalar is, of a word type
abbrev pub number_at : Word → Scalar → Judged ℕ
number_at w Unset = no IsUnset
number_at w (Number' n) = cond (nat_lt n (2 ^ bits w)) (ok n) (no KindsDiffer)
number_at w (Address p) = no KindsDiffer

-- the address that a scalar is
abbrev pub address_at : Scalar → Judged ℕ
address_at Unset = no IsUnset
address_at (Number' n) = no KindsDiffer
address_at (Address p) = ok p

-- the scalar of a value that is one; unset where there is none
abbrev pub only : List Scalar → Scalar
only [] = Unset
only (u ∷ us) = u

-- scalars that are read: a struct's are copied, whatever they are; others are judged
abbrev pub read : Layout → List Scalar → Judged Value
read (cell w) us = on (number_at w (only us)) (λ n. ok (typed (cell w) (Number' n ∷ [])))
read (pointer x) us = on (address_at (only us)) (λ p. ok (typed (pointer x) (Address p ∷ [])))
read (group x ms) us = ok (typed (group x ms) us)

-- ---- cells

-- the cell at an address; the null address has none
abbrev pub present : Stored → ℕ → Judged Cell
present m p = by_cell (cell_at m p) where
  by_cell : Option Cell → Judged Cell
  by_cell None = no NoCell
  by_cell (Some c) = ok c

-- the slots of a cell, or its elements as scalars; a list of answers is never read by number
abbrev pub scalars_in : Cell → Judged (List Scalar)
scalars_in (Slots us) = ok us
scalars_in (Words ns) = ok (map Number' ns)
scalars_in (Answers bs) = no NoCell

-- a part of a cell's scalars, all of which are there
abbrev pub part_of : Spot → List Scalar → List Scalar
part_of s us = take (size s.layout) (drop s.start us)

-- a part without slots is in every cell
abbrev pub has_part : Spot → List Scalar → Bool
has_part s us = nat_le (size s.layout) (length (part_of s us))

abbrev pub read_part : Spot → List Scalar → Judged Value
read_part s us = if has_part s us then read s.layout (part_of s us) else no NoCell

-- ---- paths

-- the struct that a pointer points to
abbrev pub target_of : Layout → Judged (List ℕ)
target_of (cell w) = no KindsDiffer
target_of (pointer x) = ok x
target_of (group x ms) = no KindsDiffer

-- what stands at members of a variable
abbrev pub read_members : List (List ℕ) → Variable → Judged Value
read_members xs v = on (found (walk xs v.layout)) (λ s. read s.layout (part_of s v.scalars))

module _ (ss : List CStruct) (m : Stored) where
  -- what stands at members of the cell that a variable points to
  abbrev pub read_arrow : List (List ℕ) → Variable → Judged Value
  read_arrow xs v =
      on (target_of v.layout) (λ x. on (address_at (only v.scalars)) (λ p. on (present m p) (λ c.
      on (found (walk xs (pointed ss x))) (λ s. on (scalars_in c) (λ us. read_part s us)))))

  abbrev pub read_path : Frame → CPath → Judged Value
  read_path fr p = on (found (look p.base fr)) (λ v. if p.arrow then read_arrow p.members v else read_members p.members v)

  -- an operand
  abbrev pub judge : Frame → COpnd → Judged Value
  judge fr (Number n) = ok (literal n)
  judge fr (Path p) = read_path fr p

  -- operands, from left to right
  abbrev pub judge_all : Frame → List COpnd → Judged (List Value)
  judge_all fr [] = ok []
  judge_all fr (o ∷ os) = on (judge fr o) (λ v. on (judge_all fr os) (λ vs. ok (v ∷ vs)))

-- ---- values where types are needed

-- a word of any width
abbrev pub word_in : Value → Judged ℕ
word_in (literal n) = ok n
word_in (typed (cell w) us) = number_at w (only us)
word_in (typed (pointer x) us) = no KindsDiffer
word_in (typed (group x ms) us) = no KindsDiffer

-- an address, of a pointer to any struct
abbrev pub address_in : Value → Judged ℕ
address_in (literal n) = no KindsDiffer
address_in (typed (cell w) us) = no KindsDiffer
address_in (typed (pointer x) us) = address_at (only us)
address_in (typed (group x ms) us) = no KindsDiffer

-- a value where a type is needed: its scalars
abbrev pub give : Layout → Value → Judged (List Scalar)
give (cell w) (literal n) = cond (nat_lt n (2 ^ bits w)) (ok (Number' n ∷ [])) (no KindsDiffer)
give (pointer x) (literal n) = no KindsDiffer
give (group x ms) (literal n) = no KindsDiffer
give l (typed k us) = cond (same_layout l k) (ok us) (no KindsDiffer)

-- the scalars of a value by itself
abbrev pub scalars_of : Value → List Scalar
scalars_of (literal n) = Number' n ∷ []
scalars_of (typed l us) = us
