-- What is met in the parts of a value (docs/LANGUAGE.md, "Heap files").
use Rattle.std.specs.Prelude.{Bool, true, false, cond, List, [], ◌∷◌, Option, ⊤, if◌then◌else◌}
use Rattle.cg_base.specs.declared.kind.Sigil.{Sigil}
use Rattle.cg_base.specs.declared.kind.Sigil.TheVariants.{R, W, U}
use Rattle.cg_base.specs.declared.place.Place.{Place}
use Rattle.cg_base.specs.declared.ty.Part.{Part}
use Rattle.cg_base.specs.Types.{Parts, type_of}
use Rattle.cg_heaptext_def.specs.HeapText.{addresses, cells_of}
use Rattle.cg_heaptext_def.specs.Reading.{Event, misfit, events, events_all, is_gone, is_record, misfit_cell, slot_values}
use Rattle.cg_heaptext_def.specs.Trees.{Cell, Heap, Written, bare, first}
use Rattle.cg_heaptext_judge_steps.specs.Sources.{AreThere}

-- addresses that values mention have cells
abbrev pub AllThere : Heap → List Written → Type 0
AllThere h [] = ⊤
AllThere h (v ∷ vs) = AreThere h (addresses v) × AllThere h vs

-- what is met in a field: one that is taken stands as `_`
abbrev pub part_met : Heap → Part → Written → List Event
part_met h p v = cond p.taken (if is_gone (bare v) then [] else misfit (first v) ∷ []) (events (cells_of h) (type_of p.ty) (first v) (bare v))

-- in the payload of an alternative, where the whole value begins at this place
abbrev pub payload_met : Heap → Part → Place → Written → List Event
payload_met h p at v = if p.taken then misfit at ∷ [] else events (cells_of h) (type_of p.ty) (first v) (bare v)

-- in a cell that is read at the type of a record of these fields
abbrev pub slots_met : Heap → Parts → Option Cell → List Event
slots_met h ps o = if is_record ps o then events_all (cells_of h) ps (slot_values o) else misfit_cell o

-- values of a type are addresses of cells
abbrev pub boxed : Sigil → Bool
boxed U = false
boxed R = true
boxed W = true
