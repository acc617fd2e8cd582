-- Values by their types, where no cell is read.
use Rattle.std.proofs.Common.{◌≡◌, ℕ, Bool, true, false, List, [], ◌∷◌, Result, Some, if◌then◌else◌, refl, sym, subst, Bor}
use Rattle.cg_base.specs.declared.kind.Sigil.TheVariants.{U}
use Rattle.cg_base.specs.declared.place.Place.{Place}
use Rattle.cg_base.specs.Types.{Parts, Tau, var, seen, arrow, abs, variant, fields}
use Rattle.cg_heaptext_def.specs.Footprints.{amounts}
use Rattle.cg_heaptext_def.specs.HeapText.{addresses, cells_of}
use Rattle.cg_heaptext_def.specs.Reading.{misfit, events, events_all, events_applied, events_bare, is_record, misfit_cell, slot_values}
use Rattle.cg_heaptext_def.specs.Trees.{Cell, Fields, Heap, Written, applied, constant, listed, record', slots, elements, answers, tuple, values_in}
use Rattle.cg_heaptext_entries.specs.Index.{CellStands}
use Rattle.cg_heaptext_judge.proofs.There.{cell_there, fields_there, listed_there}
use Rattle.cg_heaptext_judge.specs.Values.{AllThere, slots_met}
use Rattle.cg_heaptext_judge_notes.specs.Notes.{Notes}
use Rattle.cg_heaptext_judge_notes.specs.declared.fault.JudgeFault.{JudgeFault}
use Rattle.cg_heaptext_judge_notes.specs.declared.notes.Judged.{Judged}
use Rattle.cg_heaptext_judge_steps.proofs.Noting.{fits_notes}
use Rattle.cg_heaptext_judge_steps.specs.Sources.{AreThere, IsRead}
use Rattle.cg_heaptext_judge_steps.specs.Steps.{Fits, fits_fields}
use Rattle.cg_heaptext_judge_steps.specs.declared.source.Source.{Source}
use Rattle.cg_heaptext_lexer.specs.Next.{Cursor}
use Rattle.cg_heaptext_values.specs.Values.{FieldsStand, IsHead, StandsAt, ValuesStand}
use Rattle.cg_heaptext_values.specs.declared.head.Head.TheVariants as head
use Rattle.cg_heaptext_values.specs.declared.list.FieldsAt.{FieldsAt}
use Rattle.cg_heaptext_values.specs.declared.list.ValuesAt.{ValuesAt}

-- what fits a type is noted at this type
pub type_fits : (h : Heap) (old : Judged) (t u : Tau) (at : Place) (w : Written) (r : Result (Unit {0}) JudgeFault) → t ≡ u → Fits (events (cells_of h) u at w) r → Notes (amounts h) old (events (cells_of h) t at w) r old
type_fits h old t u at w r e f = fits_notes (amounts h) old (events (cells_of h) t at w) r (subst (λ x. Fits (events (cells_of h) x at w) r) (sym e) f)

-- types that have no values
abbrev pub IsEmpty : Tau → Type 0
IsEmpty (var n) = Unit {0}
IsEmpty (seen n) = Unit {0}
IsEmpty (arrow a b) = Unit {0}
IsEmpty (abs name ts U) = Unit {0}
IsEmpty t = ⊥

empty_met : (h : Heap) (t : Tau) → IsEmpty t → (at : Place) (w : Written) → events (cells_of h) t at w ≡ misfit at ∷ []
unfolding events
empty_met h (var n) e at w = refl
empty_met h (seen n) e at w = refl
empty_met h (arrow a b) e at w = refl
empty_met h (abs name ts U) e at w = refl
empty_met h t e at w = absurd e

pub empty_fits : (h : Heap) (old : Judged) (t : Tau) (at : Place) (w : Written) (r : Result (Unit {0}) JudgeFault) → IsEmpty t → Fits (misfit at ∷ []) r → Notes (amounts h) old (events (cells_of h) t at w) r old
empty_fits h old t at w r e f = fits_notes (amounts h) old (events (cells_of h) t at w) r (subst (λ es. Fits es r) (sym (empty_met h t e at w)) f)

-- ---- variants

pub constant_told : (h : Heap) (old : Judged) (ps : Parts) (at : Place) (x : Bor (List ℕ)) (w : Written) (r : Result (Unit {0}) JudgeFault) → IsHead (head.Constant x) w
    → Fits (events_bare (cells_of h) ps at x.now) r → Notes (amounts h) old (events (cells_of h) (variant ps) at w) r old
unfolding events
constant_told h old ps at x (constant p y) r is f =
    fits_notes (amounts h) old (events_bare (cells_of h) ps at y) r (subst (λ z. Fits (events_bare (cells_of h) ps at z) r) is f)
constant_told h old ps at x w r is f = absurd is

pub applied_told : (h : Heap) (old new : Judged) (ps : Parts) (at : Place) (x : Bor (List ℕ)) (payload : Cursor) (w : Written) (r : Result (Unit {0}) JudgeFault) → IsHead (head.Applied x payload) w
    → AreThere h (addresses w) → ((v : Written) → StandsAt payload v → AreThere h (addresses v) → Notes (amounts h) old (events_applied (cells_of h) ps at x.now v) r new)
    → Notes (amounts h) old (events (cells_of h) (variant ps) at w) r new
unfolding events
applied_told h old new ps at x payload (applied p y v) r is there given =
    subst (λ z. Notes (amounts h) old (events_applied (cells_of h) ps at z v) r new) is.0 (given v is.1 there)
applied_told h old new ps at x payload w r is there given = absurd is

-- ---- records

pub tuple_told : (h : Heap) (old new : Judged) (ps : Parts) (at : Place) (vs : ValuesAt) (w : Written) (r : Result (Unit {0}) JudgeFault) → IsHead (head.Tuple vs) w → fits_fields ps w ≡ true
    → AreThere h (addresses w) → ((us : List Written) → ValuesStand vs us → AllThere h us → Notes (amounts h) old (events_all (cells_of h) ps us) r new)
    → Notes (amounts h) old (events (cells_of h) (fields ps U) at w) r new
unfolding events
tuple_told h old new ps at vs (tuple p us) r is fits there given =
    subst (λ (b : Bool). Notes (amounts h) old (if b then events_all (cells_of h) ps (listed us) else misfit at ∷ []) r new) (sym fits) (given (listed us) is (listed_there h us there))
tuple_told h old new ps at vs w r is fits there given = absurd is

pub record_told : (h : Heap) (old new : Judged) (ps : Parts) (at : Place) (fs : FieldsAt) (w : Written) (r : Result (Unit {0}) JudgeFault) → IsHead (head.Record fs) w → fits_fields ps w ≡ true
    → AreThere h (addresses w) → ((gs : Fields) → FieldsStand fs gs → AllThere h (values_in gs) → Notes (amounts h) old (events_all (cells_of h) ps (values_in gs)) r new)
    → Notes (amounts h) old (events (cells_of h) (fields ps U) at w) r new
unfolding events
record_told h old new ps at fs (record' p gs) r is fits there given =
    subst (λ (b : Bool). Notes (amounts h) old (if b then events_all (cells_of h) ps (values_in gs) else misfit at ∷ []) r new) (sym fits) (given gs is (fields_there h gs there))
record_told h old new ps at fs w r is fits there given = absurd is

-- ---- cells

pub cell_fails : (h : Heap) (old : Judged) (ps : Parts) (c : Cell) (r : Result (Unit {0}) JudgeFault) → is_record ps (Some c) ≡ false → Fits (misfit_cell (Some c)) r
    → Notes (amounts h) old (slots_met h ps (Some c)) r old
cell_fails h old ps c r e f =
    fits_notes (amounts h) old (slots_met h ps (Some c)) r
    (subst (λ (b : Bool). Fits (if b then events_all (cells_of h) ps (slot_values (Some c)) else misfit_cell (Some c)) r) (sym e) f)

pub cell_told : (source : Source) (h : Heap) (old new : Judged) (ps : Parts) (cell : Cursor) (at : FieldsAt) (r : Result (Unit {0}) JudgeFault) → IsRead source h
    → ((p : Place) (fs : Fields) → CellStands cell (slots p fs) → FieldsStand at fs)
    → ((fs : Fields) → FieldsStand at fs → AllThere h (values_in fs) → Notes (amounts h) old (events_all (cells_of h) ps (values_in fs)) r new)
    → (q : ℕ) (c : Cell) → cells_of h q ≡ Some c → CellStands cell c → is_record ps (Some c) ≡ true → Notes (amounts h) old (slots_met h ps (Some c)) r new
cell_told source h old new ps cell at r read stand given q (slots p fs) there s e =
    subst (λ (b : Bool). Notes (amounts h) old (if b then events_all (cells_of h) ps (values_in fs) else misfit p ∷ []) r new) (sym e)
    (given fs (stand p fs s) (fields_there h fs (cell_there h read.no_absent q (slots p fs) there)))
cell_told source h old new ps cell at r read stand given q (elements p ns) there s e = absurd (cc)
cell_told source h old new ps cell at r read stand given q (answers p bs) there s e = absurd (cc)
