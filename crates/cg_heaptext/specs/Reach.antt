-- Which cells are reached, to read and to write (docs/LANGUAGE.md, "Heap files").
use Rattle.std.specs.Prelude.{ℕ, Bool, true, false, List, [], ◌∷◌, ◌++◌, slice_get, Option, Some, None, if◌then◌else◌}
use Rattle.cg_base.specs.declared.kind.Sigil.{Sigil}
use Rattle.cg_base.specs.declared.kind.Sigil.TheVariants.{R, W}
use Rattle.cg_base.specs.Types.{type_of}
use Rattle.cg_heaptext_contents.specs.declared.placing.Placed.{Placed}
use Rattle.cg_heaptext_def.specs.Footprints.{sigil_of}
use Rattle.cg_heaptext_judge_notes.specs.declared.notes.Mentioned.{Mentioned}

-- a cell of this sigil is reached at that one
abbrev pub is_at : Sigil → Sigil → Bool
is_at R R = true
is_at W W = true
is_at _ _ = false

-- the address of the cell that is mentioned, where it is mentioned at a type of this sigil
abbrev pub address_of : Option Placed → List ℕ
address_of None = []
address_of (Some p) = p.at ∷ []

abbrev pub reached_by : Sigil → List Placed → Mentioned → List ℕ
reached_by s cells m = if is_at s (sigil_of (type_of m.ty.now)) then address_of (slice_get cells m.entry) else []

abbrev pub mentioned_at : Sigil → List Placed → List Mentioned → List ℕ
mentioned_at s cells [] = []
mentioned_at s cells (m ∷ ms) = reached_by s cells m ++ mentioned_at s cells ms
