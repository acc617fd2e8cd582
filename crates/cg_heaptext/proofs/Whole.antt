-- What each step answers, of the whole file.
use Rattle.std.proofs.Common.{◌≡◌, ℕ, ◌≤◌, List, map, refl, sym, subst}
use Rattle.std.specs.Prelude.{Result, Ok, Err}
use Rattle.cg_base.specs.declared.kind.Sigil.TheVariants.{R, W}
use Rattle.cg_base.specs.Types.{Tau}
use Rattle.cg_heap.specs.Reps.{HeapWorld, Represents}
use Rattle.cg_heaptext_contents.specs.Placings.{pair_of}
use Rattle.cg_heaptext_def.specs.Footprints.{held_in, reached}
use Rattle.cg_heaptext_def.specs.Grammar.{HeapSpells}
use Rattle.cg_heaptext_def.specs.Placed.{CanBePlaced}
use Rattle.cg_heaptext_placed_laws.proofs.Placing.{texts_can_be_placed}
use Rattle.cg_heaptext_def.specs.HeapText.{Fault, IsFaulty, Lacks, absent, aliased, cells_of, large, misfits, over, placed, read_events, second}
use Rattle.cg_heaptext_def.specs.Reading.{scalars, value}
use Rattle.cg_heaptext_def.specs.Trees.{Heap, bare}
use Rattle.cg_heaptext_index.specs.declared.fault.AddressFault.{AddressFault}
use Rattle.cg_heaptext_index.specs.declared.fault.AddressFault.TheVariants as address
use Rattle.cg_heaptext_index.specs.Addresses as index
use Rattle.cg_heaptext_judge_notes.specs.declared.fault.JudgeFault.{JudgeFault}
use Rattle.cg_heaptext_judge_notes.specs.declared.fault.JudgeFault.TheVariants as judge
use Rattle.cg_heaptext_laws.proofs.Representing.{texts_represent}
use Rattle.cg_heaptext.specs.Answers.{Answers, IsHeld}
use Rattle.cg_heaptext.specs.Faults.{of_address, of_judge}
use Rattle.cg_heap.specs.Steps.{count}
use Rattle.cg_heaptext_judge.specs.Answers as judged
use Rattle.cg_heaptext.specs.Typed.{Faultless, Gives, Holds, IsFirst, Passes}
use Rattle.cg_heaptext.specs.declared.fault.HeapFault.{HeapFault}
use Rattle.cg_heaptext.specs.declared.fault.HeapFault.TheVariants.{H1, H2, H3, H4, H5, H6, H7, Memory}
use Rattle.cg_heaptext.specs.declared.start.Start.{Start}
use Rattle.cg_typing.specs.Parts.{nodes, type_size}
use Rattle.cg_value.specs.Values.{value_of}

-- ---- all

represented : (h : Heap) (t : Tau) (start : Start) → Faultless h t → Holds h t start → (world : HeapWorld)
    → Represents world (held_in (map pair_of start.cells)) t start.arg (value_of start.value) (λ q. count q start.writes) (λ q. count q start.reads)
represented h t start none holds world =
    let writes : (λ q. count q start.writes) ≡ reached W (read_events h t) = λ i q. holds.writes q i in
    let reads : (λ q. count q start.reads) ≡ reached R (read_events h t) = λ i q. holds.reads q i in
    subst (λ cs. Represents world (held_in cs) t start.arg (value_of start.value) (λ q. count q start.writes) (λ q. count q start.reads)) (sym holds.cells)
    (subst (λ us. Represents world (held_in (placed h t)) t us (value_of start.value) (λ q. count q start.writes) (λ q. count q start.reads)) (sym holds.arg)
    (subst (λ v. Represents world (held_in (placed h t)) t (scalars t (bare h.argument)) v (λ q. count q start.writes) (λ q. count q start.reads)) (sym holds.value)
    (subst (λ f. Represents world (held_in (placed h t)) t (scalars t (bare h.argument)) (value (cells_of h) t (bare h.argument)) f (λ q. count q start.reads)) (sym writes)
    (subst (λ f. Represents world (held_in (placed h t)) t (scalars t (bare h.argument)) (value (cells_of h) t (bare h.argument)) (reached W (read_events h t)) f) (sym reads)
    (texts_represent world h t none.0 none.1)))))

faulty : (bytes : List ℕ) (h : Heap) (t : Tau) (fault : Fault) (line : ℕ) → HeapSpells bytes h → IsFirst fault h t line → IsFaulty bytes t fault line
faulty bytes h t fault line spells f = record { heap = h; spells = spells; before = f.0; place = f.1.0; at = f.1.1; stands = f.1.2 }

pub answers : (bytes : List ℕ) (h : Heap) (t : Tau) (r : Result Start HeapFault) → HeapSpells bytes h → Gives h t r → Answers bytes t r
answers bytes h t (Ok start) spells g = record { heap = h; spells = spells; sound = g.0; holds = held }
  where
    held : nodes t ≤ type_size → IsHeld bytes t start
    held narrow =
        let all = g.1 narrow in
        record {
          text = record { heap = h; spells = spells; sound = g.0; are_cells = all.cells; is_argument = all.arg; is_value = all.value };
          represents = represented h t start g.0 all;
          placeable = λ short. subst CanBePlaced (sym all.cells) (texts_can_be_placed bytes h t short narrow spells g.0.0 g.0.1);
        }
answers bytes h t (Err (H1 line)) spells g = absurd g
answers bytes h t (Err (H2 line)) spells g = faulty bytes h t second line spells g
answers bytes h t (Err (H3 line)) spells g = faulty bytes h t absent line spells g
answers bytes h t (Err (H4 line)) spells g = faulty bytes h t misfits line spells g
answers bytes h t (Err (H5 line)) spells g = faulty bytes h t over line spells g
answers bytes h t (Err (H6 line)) spells g = faulty bytes h t aliased line spells g
answers bytes h t (Err (H7 line)) spells g = faulty bytes h t large line spells g
answers bytes h t (Err Memory) spells g = tt

-- ---- an address that stands twice, and a value that misfits

pub twice : (h : Heap) (t : Tau) (fault : AddressFault) (r : Result Start HeapFault) → r ≡ Err (of_address fault) → index.Answers h (Err fault) → Gives h t r
twice h t (address.Second place) r is a = subst (Gives h t) (sym is) (tt, (place, a, refl))
twice h t address.Memory r is a = subst (Gives h t) (sym is) tt

pub misfit : (h : Heap) (t : Tau) (fault : JudgeFault) (r : Result Start HeapFault) → r ≡ Err (of_judge fault) → Lacks second h t → Lacks absent h t → judged.Answers h t (Err fault) → Gives h t r
misfit h t (judge.Misfit place) r is apart known a = subst (Gives h t) (sym is) ((apart, known), (place, a, refl))
misfit h t judge.Memory r is apart known a = subst (Gives h t) (sym is) tt

-- ---- the faults that are looked for last

-- a fault that was found last is the first of all
pub fails : (h : Heap) (t : Tau) (fault : HeapFault) (r : Result Start HeapFault) → r ≡ Err fault → Passes h t (Err fault) → Gives h t r
fails h t (H1 line) r is p = absurd p
fails h t (H2 line) r is p = absurd p
fails h t (H3 line) r is p = absurd p
fails h t (H4 line) r is p = absurd p
fails h t (H5 line) r is p = subst (Gives h t) (sym is) p
fails h t (H6 line) r is p = subst (Gives h t) (sym is) p
fails h t (H7 line) r is p = subst (Gives h t) (sym is) p
fails h t Memory r is p = absurd p
