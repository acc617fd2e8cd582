-- What is met in fields, one behind the other.
use Rattle.std.proofs.Common.{◌≡◌, ℕ, ◌+◌, ◌<◌, ◌≤◌, Bool, true, false, cond, List, [], ◌∷◌, ◌++◌, length, drop, get_or, Result, Ok, Err, if◌then◌else◌, refl, sym, ap, ◌∙◌, subst, append_assoc}
use Rattle.std.proofs.lemmas.List.{at_drop_more, at_drop_all}
use Rattle.cg_base.proofs.Sequences.{append_none}
use Rattle.cg_base.proofs.Views.{piece_of}
use Rattle.cg_base.specs.declared.ty.Part.{Part}
use Rattle.cg_base.specs.Types.{Tau, Parts, Piece, end, part, part_of, to_parts}
use Rattle.cg_heaptext_def.specs.Footprints.{amounts}
use Rattle.cg_heaptext_def.specs.HeapText.{addresses, cells_of}
use Rattle.cg_heaptext_def.specs.Reading.{Event, misfit, events, events_all, is_gone}
use Rattle.cg_heaptext_def.specs.Trees.{Heap, Written, bare, first}
use Rattle.cg_heaptext_judge.specs.Values.{AllThere, part_met}
use Rattle.cg_heaptext_judge_notes.proofs.Joining.{notes_both, notes_fails, notes_none}
use Rattle.cg_heaptext_judge_notes.specs.Notes.{Notes}
use Rattle.cg_heaptext_judge_notes.specs.declared.fault.JudgeFault.{JudgeFault}
use Rattle.cg_heaptext_judge_notes.specs.declared.notes.Judged.{Judged}
use Rattle.cg_heaptext_judge_steps.specs.Sources.{AreThere, IsRead}
use Rattle.cg_heaptext_judge_steps.specs.Steps.{pieces}
use Rattle.cg_heaptext_judge_steps.specs.declared.source.Source.{Source}
use Rattle.cg_heaptext_lexer.specs.Next.{Cursor}
use Rattle.cg_heaptext_scalars.proofs.Listing.{Takes}
use Rattle.cg_heaptext_values.specs.Values.{StandsAt}

module _ (h : Heap) where
  abbrev pub all_in : List Part → List Written → List Event
  all_in ps vs = events_all (cells_of h) (pieces ps) vs

  split_taken : (x : List ℕ) (t : Tau) (b : Bool) (ps : Parts) (v : Written) (vs : List Written)
      → events_all (cells_of h) (part x t b ps) (v ∷ vs) ≡ cond b (if is_gone (bare v) then [] else misfit (first v) ∷ []) (events (cells_of h) t (first v) (bare v)) ++ events_all (cells_of h) ps vs
  unfolding events
  split_taken x t true ps v vs = refl
  split_taken x t false ps v vs = refl

  no_values : (ps : Parts) → events_all (cells_of h) ps [] ≡ []
  unfolding events
  no_values end = refl
  no_values (part x t true ps) = refl
  no_values (part x t false ps) = refl

  no_fields : (vs : List Written) → all_in [] vs ≡ []
  unfolding events to_parts
  no_fields [] = refl
  no_fields (v ∷ vs) = refl

  -- the next field with its value, and those behind it
  fields_split : (p : Part) (ps : List Part) (v : Written) (vs : List Written) → all_in (p ∷ ps) (v ∷ vs) ≡ part_met h p v ++ all_in ps vs
  unfolding to_parts
  fields_split p ps v vs =
      let q = part_of p in
      split_taken q.name q.ty q.taken (pieces ps) v vs
      ∙ ap (λ (r : Piece). cond r.taken (if is_gone (bare v) then [] else misfit (first v) ∷ []) (events (cells_of h) r.ty (first v) (bare v)) ++ all_in ps vs) (piece_of p)

  field_next : (ps : List Part) (i : ℕ) (p : Part) (v : Written) (vs : List Written) → i < length ps → p ≡ get_or ps i p → all_in (drop i ps) (v ∷ vs) ≡ part_met h p v ++ all_in (drop (i + 1) ps) vs
  field_next ps i p v vs within is =
      at_drop_more (λ l. all_in l (v ∷ vs)) ps i p within
      ∙ fields_split (get_or ps i p) (drop (i + 1) ps) v vs
      ∙ ap (λ (q : Part). part_met h q v ++ all_in (drop (i + 1) ps) vs) (sym is)

-- ---- a loop over fields; `Stand` says which values are left
module _ {S : Type 0} (Stand : S → List Written → Type 0) (source : Source) where
  -- Where these values stood first, those that stand now are left for the parts from this one on, and what is met before them was noted.
  abbrev pub Going : List Part → S → Judged → ℕ → S → Judged → Type 0
  Going ps first old i now mid = (h : Heap) → IsRead source h → (vs : List Written) → Stand first vs → AllThere h vs
      → (ws : List Written) × (done : List Event) × Stand now ws × AllThere h ws × (all_in h ps vs ≡ done ++ all_in h (drop i ps) ws) × Notes (amounts h) old done (Ok tt) mid

  -- what is answered of all
  abbrev pub Answered : List Part → S → Judged → Result (Unit {0}) JudgeFault → Judged → Type 0
  Answered ps first old r new = (h : Heap) → IsRead source h → (vs : List Written) → Stand first vs → AllThere h vs → Notes (amounts h) old (all_in h ps vs) r new

  -- and of one
  abbrev pub PartAnswered : Part → Cursor → Judged → Result (Unit {0}) JudgeFault → Judged → Type 0
  PartAnswered p at old r new = (h : Heap) → IsRead source h → (v : Written) → StandsAt at v → AreThere h (addresses v) → Notes (amounts h) old (part_met h p v) r new

  module _ (ps : List Part) (first now : S) (old mid : Judged) (i : ℕ) (going : Going ps first old i now mid) where
    module _ (p : Part) (within : i < length ps) (is : p ≡ get_or ps i p) (at : Cursor) (later : S) (new : Judged) (takes : Takes Stand now at later) where
      -- what is met is what was noted, what is met in this field, and what is met behind it
      abbrev pub AtPart : Heap → List Written → Type 0
      AtPart h vs = (v : Written) × (us : List Written) × (done : List Event) × StandsAt at v × AreThere h (addresses v) × Stand later us × AllThere h us
          × (all_in h ps vs ≡ done ++ (part_met h p v ++ all_in h (drop (i + 1) ps) us)) × Notes (amounts h) old done (Ok tt) mid

      at_part : (h : Heap) → IsRead source h → (vs : List Written) → Stand first vs → AllThere h vs → AtPart h vs
      at_part h read vs s k =
          let g = going h read vs s k in
          let t = takes g.0 g.2 in
          let known = subst (AllThere h) t.2 g.3 in
          (t.0, t.1, g.1, t.3, known.0, t.4, known.1, g.4 ∙ ap (λ es. g.1 ++ es) (ap (all_in h (drop i ps)) t.2 ∙ field_next h ps i p t.0 t.1 within is), g.5)

      pub field_passed : PartAnswered p at mid (Ok tt) new → Going ps first old (i + 1) later new
      field_passed answered h read vs s k =
          let a = at_part h read vs s k in
          let here = part_met h p a.0 in (
            a.1,
            a.2 ++ here,
            a.5,
            a.6,
            a.7 ∙ sym (append_assoc a.2 here (all_in h (drop (i + 1) ps) a.1)),
            notes_both (amounts h) old mid new a.2 here (Ok tt) a.8 (answered h read a.0 a.3 a.4),
          )

      pub field_failed : (x : JudgeFault) → PartAnswered p at mid (Err x) new → Answered ps first old (Err x) new
      field_failed x answered h read vs s k =
          let a = at_part h read vs s k in
          let here = part_met h p a.0 in
          let rest = all_in h (drop (i + 1) ps) a.1 in
          subst (λ es. Notes (amounts h) old es (Err x) new) (sym a.7)
          (notes_both (amounts h) old mid new a.2 (here ++ rest) (Err x) a.8 (notes_fails (amounts h) mid new new here rest x (answered h read a.0 a.3 a.4)))

    ends : (h : Heap) (vs : List Written) (done rest : List Event) → all_in h ps vs ≡ done ++ rest → rest ≡ [] → Notes (amounts h) old done (Ok tt) mid → Notes (amounts h) old (all_in h ps vs) (Ok tt) mid
    ends h vs done rest parts none noted = subst (λ es. Notes (amounts h) old es (Ok tt) mid) (sym (parts ∙ ap (λ es. done ++ es) none ∙ append_none done)) noted

    pub values_over : ((ws : List Written) → Stand now ws → ws ≡ []) → Answered ps first old (Ok tt) mid
    values_over over h read vs s k =
        let g = going h read vs s k in
        ends h vs g.1 (all_in h (drop i ps) g.0) g.4 (ap (all_in h (drop i ps)) (over g.0 g.2) ∙ no_values h (pieces (drop i ps))) g.5

    pub fields_over : length ps ≤ i → Answered ps first old (Ok tt) mid
    fields_over over h read vs s k =
        let g = going h read vs s k in
        ends h vs g.1 (all_in h (drop i ps) g.0) g.4 (at_drop_all (λ l. all_in h l g.0) ps i over ∙ no_fields h g.0) g.5
