-- What a heap file without faults holds.
use Rattle.std.proofs.Common.{◌≡◌, ◌^◌, ◌<◌, ◌≤◌, ◌⊎◌, inl, inr, List, map, refl, ap, ◌∙◌, arith}
use Rattle.std.proofs.lemmas.Bool.{cases_lt}
use Rattle.cg_base.specs.declared.kind.Sigil.TheVariants.{R, W}
use Rattle.cg_base.specs.Types.{Tau}
use Rattle.cg_heaptext_contents.proofs.Small.{kept}
use Rattle.cg_heaptext_contents.specs.Placings.{AreSmall, IsPlacing, pair_of}
use Rattle.cg_heaptext_contents.specs.declared.placing.Placing.{Placing}
use Rattle.cg_heaptext_def.specs.Footprints.{amounts, held_in}
use Rattle.cg_heaptext_def.specs.HeapText.{entry_out, cells_of, most_addresses, placed, read_events}
use Rattle.cg_heaptext_def.specs.Reading.{scalars, value}
use Rattle.cg_heaptext_def.specs.Trees.{Heap, amount, bare}
use Rattle.cg_heaptext_judge_def.specs.Judging.{met_in}
use Rattle.cg_heaptext_judge_notes.specs.Notes.{AreMet}
use Rattle.cg_heaptext_judge_notes.specs.declared.notes.Mentioned.{Mentioned}
use Rattle.cg_heaptext_laws.proofs.Representing.{texts_represent}
use Rattle.cg_heaptext_laws.proofs.SmallTexts.{texts_are_small}
use Rattle.cg_heaptext.proofs.Reaching.{times_reached}
use Rattle.cg_heap.specs.Steps.{count}
use Rattle.cg_heaptext.specs.Reach.{mentioned_at}
use Rattle.cg_heaptext_value.proofs.Capping.{held_is_capped}
use Rattle.cg_heaptext_value.specs.Capped.{capped_value}
use Rattle.cg_heaptext_value.specs.World.{no_world}
use Rattle.cg_heaptext.specs.Typed.{Faultless, Holds}
use Rattle.cg_heaptext.specs.declared.start.Start.{Start}
use Rattle.cg_heaptext_scalars.specs.Given.{capped}
use Rattle.cg_typing.specs.Parts.{nodes, type_size}
use Rattle.cg_value.specs.Values.{value_of}

module _ (h : Heap) (t : Tau) (none : Faultless h t) (narrow : nodes t ≤ type_size) where
  are_small : AreSmall h t
  are_small i e there = (by (cases_lt most_addresses (amount e.address)), (texts_are_small h t narrow none.0).1 i e there)
    where
      by : (most_addresses < amount e.address) ⊎ (amount e.address ≤ most_addresses) → amount e.address < 2 ^ 64
      by (inl l) = absurd (none.0.3 e.address.place (entry_out i e there (inr l) refl))
      by (inr l) = omega (arith, l)

  pub holds : (p : Placing) (ms : List Mentioned) (start : Start) → IsPlacing h t p → AreMet (amounts h) ms (met_in (read_events h t)) → start.cells ≡ p.cells
      → start.arg ≡ map capped (scalars t (bare h.argument)) → value_of start.value ≡ capped_value (value (cells_of h) t (bare h.argument)) → start.reads ≡ mentioned_at R p.cells ms → start.writes ≡ mentioned_at W p.cells ms → Holds h t start
  holds p ms start placing met cells arg val reads writes =
      let are = placing.cells are_small in
      record {
        cells = ap (map pair_of) cells ∙ are;
        arg = arg ∙ kept (scalars t (bare h.argument)) (texts_are_small h t narrow none.0).0;
        value = val ∙ held_is_capped (held_in (placed h t)) t (scalars t (bare h.argument)) (value (cells_of h) t (bare h.argument)) (texts_represent no_world h t none.0 none.1).holds;
        writes = λ q. ap (λ ns. count q ns) writes ∙ times_reached h t p.cells are W (read_events h t) ms q met;
        reads = λ q. ap (λ ns. count q ns) reads ∙ times_reached h t p.cells are R (read_events h t) ms q met;
      }
