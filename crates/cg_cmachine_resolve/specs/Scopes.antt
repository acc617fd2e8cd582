-- The variables of a function, and a frame of them as one row of slots.
use Rattle.std.specs.Prelude.{◌≡◌, ℕ, ◌+◌, ◌≤◌, List, [], ◌∷◌, ◌++◌, length, map, take, drop, Option, Some, None}
use Rattle.cg_cmachine_def.specs.Layouts.{Layout, layout, size}
use Rattle.cg_cmachine_def.specs.Operands.{Frame, look}
use Rattle.cg_cmachine_def.specs.Targets.{with_scalars}
use Rattle.cg_ctree.specs.declared.tree.CBody.{CBody}
use Rattle.cg_ctree.specs.declared.tree.CDecl.{CDecl}
use Rattle.cg_ctree.specs.declared.tree.CFun.{CFun}
use Rattle.cg_ctree.specs.declared.tree.CStruct.{CStruct}
use Rattle.cg_cmachine_values.specs.Values.{overwritten}
use Rattle.cg_heap.specs.declared.cell.Scalar.{Scalar}

-- parameters and then locals, each with its layout
abbrev pub Scope : Type 0
Scope = List (List ℕ × Layout)

abbrev pub declared_as : List CStruct → List CDecl → Scope
declared_as ss ds = map (λ d. (d.name, layout ss d.ty)) ds

abbrev pub locals_of : Option CBody → List CDecl
locals_of None = []
locals_of (Some b) = b.locals

abbrev pub scope_of : List CStruct → CFun → Scope
scope_of ss f = declared_as ss (f.params ++ locals_of f.body)

-- how many slots a frame has
abbrev pub total : Scope → ℕ
total [] = 0
total (v ∷ vs) = size v.1 + total vs

-- the frame whose slots stand in a row
abbrev pub frame_of : Scope → List Scalar → Frame
frame_of [] us = []
frame_of (v ∷ vs) us = record { name = v.0; layout = v.1; scalars = take (size v.1) us } ∷ frame_of vs (drop (size v.1) us)

-- the first variable of a name among those of a scope: the slots before it, and its layout
pub record Finds (x : List ℕ) (vs : Scope) (start : ℕ) (l : Layout) : Type 0 where
  pub name : List ℕ
  pub within : start + size l ≤ total vs
  pub looks : (us : List Scalar) → look x (frame_of vs us) ≡ Some (record { name = name; layout = l; scalars = take (size l) (drop start us) })
  pub changes : (us xs : List Scalar) → length us ≡ total vs → length xs ≡ size l → with_scalars x xs (frame_of vs us) ≡ frame_of vs (overwritten start xs us)
