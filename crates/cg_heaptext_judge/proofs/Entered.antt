-- Cells that are read where a value mentions them.
use Rattle.std.proofs.Common.{◌≡◌, ℕ, true, false, List, [], ◌∷◌, Option, Some, Result, Ok, Err, refl, sym, subst, Bor}
use Rattle.cg_base.specs.declared.kind.Sigil.{Sigil}
use Rattle.cg_base.specs.declared.kind.Sigil.TheVariants.{R, W, U}
use Rattle.cg_base.specs.declared.place.Place.{Place}
use Rattle.cg_base.specs.Types.{Parts, Tau, Taus, abs, fields}
use Rattle.cg_heaptext_def.specs.Footprints.{amounts}
use Rattle.cg_heaptext_def.specs.HeapText.{cells_of}
use Rattle.cg_heaptext_def.specs.Reading.{Event, events, events_within, mention, misfit}
use Rattle.cg_heaptext_def.specs.Trees.{Cell, Heap, Written, address, amount}
use Rattle.cg_heaptext_entries.specs.Index.{CellStands}
use Rattle.cg_heaptext_judge.specs.Values.{boxed, slots_met}
use Rattle.cg_heaptext_judge_notes.proofs.Joining.{notes_both, notes_fails}
use Rattle.cg_heaptext_judge_notes.specs.Notes.{Notes}
use Rattle.cg_heaptext_judge_notes.specs.declared.fault.JudgeFault.{JudgeFault}
use Rattle.cg_heaptext_judge_notes.specs.declared.fault.JudgeFault.TheVariants.{Misfit, Memory}
use Rattle.cg_heaptext_judge_notes.specs.declared.notes.Judged.{Judged}
use Rattle.cg_heaptext_judge_steps.specs.Sources.{Reaches}
use Rattle.cg_heaptext_lexer.specs.Next.{Cursor}

-- what is met in a value that is to be an address, where this is met in its cell
abbrev met_at : Heap → Tau → (Option Cell → List Event) → Place → Written → List Event
met_at h t within at (address p n) = mention p (amount n) t ∷ within (cells_of h (amount n))
met_at h t within at w = misfit at ∷ []

entered : (h : Heap) (old mid new : Judged) (t : Tau) (within : Option Cell → List Event) (at : Place) (w : Written) (cell : Bor Cursor) (r : Result (Unit {0}) JudgeFault)
    → Reaches h old t at w (Ok cell) mid → ((q : ℕ) (c : Cell) → cells_of h q ≡ Some c → CellStands cell.now c → Notes (amounts h) mid (within (Some c)) r new)
    → Notes (amounts h) old (met_at h t within at w) r new
entered h old mid new t within at (address p n) cell r reach go_on =
    subst (λ o. Notes (amounts h) old (mention p (amount n) t ∷ within o) r new) (sym reach.1)
    (notes_both (amounts h) old mid new (mention p (amount n) t ∷ []) (within (Some reach.0)) r reach.3 (go_on (amount n) reach.0 reach.1 reach.2))
entered h old mid new t within at w cell r reach go_on = absurd reach

failed : (h : Heap) (old mid : Judged) (t : Tau) (within : Option Cell → List Event) (at : Place) (w : Written) (x : JudgeFault) → Reaches h old t at w (Err x) mid
    → Notes (amounts h) old (met_at h t within at w) (Err x) mid
failed h old mid t within at (address p n) x reach = notes_fails (amounts h) old mid mid (mention p (amount n) t ∷ []) (within (cells_of h (amount n))) x reach
failed h old mid t within at w (Misfit place) reach = λ s noted. reach
failed h old mid t within at w Memory reach = absurd reach

-- ---- records

abbrev pub IsBoxed : Sigil → Type 0
IsBoxed U = ⊥
IsBoxed R = Unit {0}
IsBoxed W = Unit {0}

pub boxed_is : (s : Sigil) → boxed s ≡ true → IsBoxed s
boxed_is U e = absurd (cc)
boxed_is R e = tt
boxed_is W e = tt

pub unboxed_is : (s : Sigil) → boxed s ≡ false → s ≡ U
unboxed_is U e = refl
unboxed_is R e = absurd (cc)
unboxed_is W e = absurd (cc)

record_met : (h : Heap) (ps : Parts) (s : Sigil) → IsBoxed s → (at : Place) (w : Written) → met_at h (fields ps s) (slots_met h ps) at w ≡ events (cells_of h) (fields ps s) at w
unfolding events
record_met h ps R b at (address p n) = refl
record_met h ps R b at w = refl
record_met h ps W b at (address p n) = refl
record_met h ps W b at w = refl
record_met h ps U b at w = absurd b

abstract_met : (h : Heap) (name : List ℕ) (ts : Taus) (s : Sigil) → IsBoxed s → (at : Place) (w : Written) → met_at h (abs name ts s) (events_within name ts) at w ≡ events (cells_of h) (abs name ts s) at w
unfolding events
abstract_met h name ts R b at (address p n) = refl
abstract_met h name ts R b at w = refl
abstract_met h name ts W b at (address p n) = refl
abstract_met h name ts W b at w = refl
abstract_met h name ts U b at w = absurd b

module _ (h : Heap) (old mid : Judged) (t : Tau) (at : Place) (w : Written) where
  module _ (ps : Parts) (s : Sigil) (is : t ≡ fields ps s) (boxed : IsBoxed s) where
    record_is : met_at h t (slots_met h ps) at w ≡ events (cells_of h) t at w
    record_is = subst (λ u. met_at h u (slots_met h ps) at w ≡ events (cells_of h) u at w) (sym is) (record_met h ps s boxed at w)

    pub record_entered : (new : Judged) (cell : Bor Cursor) (r : Result (Unit {0}) JudgeFault) → Reaches h old t at w (Ok cell) mid
        → ((q : ℕ) (c : Cell) → cells_of h q ≡ Some c → CellStands cell.now c → Notes (amounts h) mid (slots_met h ps (Some c)) r new) → Notes (amounts h) old (events (cells_of h) t at w) r new
    record_entered new cell r reach go_on = subst (λ es. Notes (amounts h) old es r new) record_is (entered h old mid new t (slots_met h ps) at w cell r reach go_on)

    pub record_failed : (x : JudgeFault) → Reaches h old t at w (Err x) mid → Notes (amounts h) old (events (cells_of h) t at w) (Err x) mid
    record_failed x reach = subst (λ es. Notes (amounts h) old es (Err x) mid) record_is (failed h old mid t (slots_met h ps) at w x reach)

  module _ (name : List ℕ) (ts : Taus) (s : Sigil) (is : t ≡ abs name ts s) (boxed : IsBoxed s) where
    abstract_is : met_at h t (events_within name ts) at w ≡ events (cells_of h) t at w
    abstract_is = subst (λ u. met_at h u (events_within name ts) at w ≡ events (cells_of h) u at w) (sym is) (abstract_met h name ts s boxed at w)

    pub abstract_entered : (new : Judged) (cell : Bor Cursor) (r : Result (Unit {0}) JudgeFault) → Reaches h old t at w (Ok cell) mid
        → ((c : Cell) → CellStands cell.now c → Notes (amounts h) mid (events_within name ts (Some c)) r new) → Notes (amounts h) old (events (cells_of h) t at w) r new
    abstract_entered new cell r reach go_on =
        subst (λ es. Notes (amounts h) old es r new) abstract_is (entered h old mid new t (events_within name ts) at w cell r reach (λ q c e s. go_on c s))

    pub abstract_failed : (x : JudgeFault) → Reaches h old t at w (Err x) mid → Notes (amounts h) old (events (cells_of h) t at w) (Err x) mid
    abstract_failed x reach = subst (λ es. Notes (amounts h) old es (Err x) mid) abstract_is (failed h old mid t (events_within name ts) at w x reach)
