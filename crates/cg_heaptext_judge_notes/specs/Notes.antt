-- What code notes of what is met in a heap file, and what it tells (docs/LANGUAGE.md, "Heap files").
use Rattle.std.specs.Prelude.{◌≡◌, ℕ, nat_eq, Bool, ◌&&◌, List, [], ◌∷◌, Some, Result, Ok, Err, ⊤}
use Rattle.cg_base.specs.declared.place.Place.{Place}
use Rattle.cg_base.specs.Types.{Tau, type_of}
use Rattle.cg_heaptext_def.specs.Footprints.{position_from}
use Rattle.cg_heaptext_def.specs.Reading.{Event}
use Rattle.cg_heaptext_judge_def.specs.Judging.{Met, State, run, shared, unlike}
use Rattle.cg_heaptext_judge_notes.specs.declared.fault.JudgeFault.{JudgeFault}
use Rattle.cg_heaptext_judge_notes.specs.declared.fault.JudgeFault.TheVariants.{Misfit, Memory}
use Rattle.cg_heaptext_judge_notes.specs.declared.notes.Judged.{Judged}
use Rattle.cg_heaptext_judge_notes.specs.declared.notes.Mentioned.{Mentioned}

-- a cell is that of the entry at a position, where entries have these addresses
pub record IsMet (ns : List ℕ) (mention : Mentioned) (met : Met) : Type 0 where
  pub place : mention.place ≡ met.place
  pub entry : position_from 0 ns met.address ≡ Some mention.entry
  pub ty : type_of mention.ty.now ≡ met.ty

abbrev pub AreMet : List ℕ → List Mentioned → List Met → Type 0
AreMet ns [] [] = ⊤
AreMet ns (m ∷ ms) (c ∷ cs) = IsMet ns m c × AreMet ns ms cs
AreMet ns _ _ = ⊥

pub record IsNoted (ns : List ℕ) (noted : Judged) (s : State) : Type 0 where
  pub cells : AreMet ns noted.mentions s.cells
  pub over : noted.over ≡ s.over
  pub aliased : noted.aliased ≡ s.aliased

-- what was noted is the state that was come to; or the place is that of what doesn't fit; or memory was wanting
abbrev pub Tells : List ℕ → Result State Place → Result ⊤ JudgeFault → Judged → Type 0
Tells ns (Ok s) (Ok _) new = IsNoted ns new s
Tells ns (Err p) (Err (Misfit place)) new = place ≡ p
Tells ns r (Err Memory) new = ⊤
Tells ns _ _ new = ⊥

-- from whatever was noted on, these things were judged
abbrev pub Notes : List ℕ → Judged → List Event → Result ⊤ JudgeFault → Judged → Type 0
Notes ns old es result new = (s : State) → IsNoted ns old s → Tells ns (run s es) result new

-- ---- what is asked of a mention, where an entry is read at a type

-- it is the same entry, at a type of another shape
abbrev pub is_unlike_at : ℕ → Tau → Mentioned → Bool
is_unlike_at entry t m = nat_eq m.entry entry && unlike t (type_of m.ty.now)

-- it is the same entry, and one of the two may be written
abbrev pub is_shared_at : ℕ → Tau → Mentioned → Bool
is_shared_at entry t m = nat_eq m.entry entry && shared t (type_of m.ty.now)
