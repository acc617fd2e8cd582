-- What assignments change (docs/LANGUAGE.md, "The C subset", writing).
use Rattle.std.specs.Prelude.{ℕ, ◌+◌, ◌||◌, List, [], ◌∷◌, ◌++◌, take, drop, length, nat_eq, nat_le, if◌then◌else◌}
use Rattle.std.specs.FinMap as map
use Rattle.std.specs.Str.{bytes_eq}
use Rattle.cg_cmachine_def.specs.Layouts.{size, Spot, walk, pointed}
use Rattle.cg_cmachine_def.specs.Operands.{Value, Variable, Frame, look, only, address_at, present, target_of, give}
use Rattle.cg_cmachine_def.specs.Outcomes.{Judged, ok, no, on, found}
use Rattle.cg_ctree.specs.declared.tree.CPath.{CPath}
use Rattle.cg_ctree.specs.declared.tree.CStruct.{CStruct}
use Rattle.cg_ctree.specs.declared.why.Why.TheVariants.{NoCell}
use Rattle.cg_heap.specs.declared.cell.Cell.{Cell}
use Rattle.cg_heap.specs.declared.cell.Cell.TheVariants.{Slots, Words, Answers}
use Rattle.cg_heap.specs.declared.cell.Scalar.{Scalar}
use Rattle.cg_heap.specs.Stored.{Stored}

-- what an assignment changes: a variable, or a cell
pub record Written : Type 0 where
  pub frame : Frame
  pub store : Stored

-- scalars with a part of them replaced
abbrev pub spliced : Spot → List Scalar → List Scalar → List Scalar
spliced s part us = take s.start us ++ part ++ drop (s.start + size s.layout) us

-- the first variable of a name, with other scalars
abbrev pub with_scalars : List ℕ → List Scalar → Frame → Frame
with_scalars x us [] = []
with_scalars x us (v ∷ vs) = if bytes_eq x v.name then record { name = v.name; layout = v.layout; scalars = us } ∷ vs else v ∷ with_scalars x us vs

-- a member is written in a cell of slots alone, and only where all its slots are there
abbrev pub written_cell : Spot → Cell → Judged (List Scalar)
written_cell s (Slots us) = if nat_eq (size s.layout) 0 || nat_le (s.start + size s.layout) (length us) then ok us else no NoCell
written_cell s (Words ns) = no NoCell
written_cell s (Answers bs) = no NoCell

-- a store with another cell at an address
abbrev pub with_cell_at : ℕ → Cell → Stored → Stored
with_cell_at p c m = record { cells = map.insert m.cells p c; top = m.top }

-- a value that is assigned to members of a variable
abbrev pub write_members : Frame → Stored → List ℕ → List (List ℕ) → Value → Variable → Judged Written
write_members fr m x xs val v =
    on (found (walk xs v.layout)) (λ s. on (give s.layout val) (λ us.
    ok (record { frame = with_scalars x (spliced s us v.scalars) fr; store = m })))

-- a value that is assigned to members of the cell that a variable points to
abbrev pub write_arrow : List CStruct → Frame → Stored → List (List ℕ) → Value → Variable → Judged Written
write_arrow ss fr m xs val v =
    on (target_of v.layout) (λ x. on (address_at (only v.scalars)) (λ p. on (present m p) (λ c.
    on (found (walk xs (pointed ss x))) (λ s. on (written_cell s c) (λ slots. on (give s.layout val) (λ us.
    ok (record { frame = fr; store = with_cell_at p (Slots (spliced s us slots)) m })))))))

-- an assignment of a value to a path
abbrev pub write : List CStruct → Frame → Stored → CPath → Value → Judged Written
write ss fr m p val =
    on (found (look p.base fr)) (λ v. if p.arrow then write_arrow ss fr m p.members val v else write_members fr m p.base p.members val v)
