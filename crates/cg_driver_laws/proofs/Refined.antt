-- Over any lawful table: from any heap that represents an argument, the C of an instance that reaches only abstract functions that the table knows
-- gives what represents what evaluation gives.
use Rattle.std.proofs.Common.{◌≡◌, ℕ, ◌*◌, ◌+◌, ◌<◌, ◌≤◌, ◌⊎◌, ◌↔◌, Bool, true, IsTrue, Option, Some, None, List, [], ◌∷◌, map, slice_get, refl, sym, ◌∙◌, subst as at}
use Rattle.std.proofs.lemmas.Bool.{and_from, and_parts}
use Rattle.std.specs.List.{list_all}
use Rattle.cg_base.specs.declared.fun.Fun.{Fun}
use Rattle.cg_base.specs.declared.fun.Fun.TheVariants.{User, Lib as OfLib}
use Rattle.cg_base.specs.declared.kind.Sigil.TheVariants.{R, W}
use Rattle.cg_base.specs.Types.{Tau, variant}
use Rattle.cg_cmachine_def.specs.Outcomes.{done}
use Rattle.cg_cmachine_def.specs.Runs.{crun}
use Rattle.cg_core.specs.Terms.{Note, Tree}
use Rattle.cg_ctree.specs.Trees.{Program as CText}
use Rattle.cg_driver_laws.proofs.Fitted.{derived, entered, is_proper, over_copies}
use Rattle.cg_driver_laws.proofs.Instances.{HaveProperNodes}
use Rattle.cg_driver_laws.proofs.Proper.{IsProper}
use Rattle.cg_driver_laws.proofs.ProperNodes.{HasProper}
use Rattle.cg_driver_laws.proofs.Apart.{apart_is}
use Rattle.cg_driver_laws.proofs.Whole.{program_is}
use Rattle.cg_driver_laws.specs.Laws.{AreLinked, GivesRefined, ReachKnown, SourcesAreRefined, copies_in, linked_over, program_over, reaches_known_by}
use Rattle.cg_eval_def.specs.Evaluation.{evaluation}
use Rattle.cg_eval_def.specs.Foreigns.{table_of}
use Rattle.cg_heap.specs.Calls.{heap_of}
use Rattle.cg_heap.specs.declared.cell.Scalar.{Scalar}
use Rattle.cg_heap.specs.declared.foreign.Link.{Link}
use Rattle.cg_heap.specs.ForeignHeaps.{ForeignHeap, IsLawfulOnHeaps}
use Rattle.cg_heap.specs.Frames.{Frame}
use Rattle.cg_heap.specs.Reps.{AreApart, Heap, HeapWorld, Represents, foot}
use Rattle.cg_heap.specs.Steps.{IsFine, Side, count, side}
use Rattle.cg_heap.specs.Stored.{Stored}
use Rattle.cg_heap_laws.proofs.Changes.{step_fine, step_frame}
use Rattle.cg_heap_laws.proofs.Steps.{freed_is_exact, held_is_fine}
use Rattle.cg_inst.specs.Judged.{core_in, functions_in}
use Rattle.cg_inst.specs.Lists.{IsList}
use Rattle.cg_inst_laws.proofs.Each.{Each}
use Rattle.cg_inst_laws.proofs.Sources.{instances_are_apart, instances_are_good}
use Rattle.cg_inst_laws.specs.Laws.{entry_of}
use Rattle.cg_lower.specs.Promises.{IsSimulated}
use Rattle.cg_cgen_def.specs.Names.{function_name}
use Rattle.cg_lower_def.specs.Simulated.{as_run}
use Rattle.cg_refine_def.specs.Refined.{is_clear_node}
use Rattle.cg_refine_laws.proofs.Instances.{instances_are_refined}
use Rattle.cg_refine_laws.specs.Laws.{AreRefinable, IsUpdatedTo, is_refinable_by}
use Rattle.cg_typing.specs.declared.checked.Checked.{Checked}
use Rattle.cg_typing.specs.Holds.{cores_in, trees_in}
use Rattle.cg_typing.specs.Instances.{Entry, Instance, nodes_of}
use Rattle.cg_typing.specs.Kept.{AreKept, maybe_core, maybe_tree}
use Rattle.cg_typing.specs.Parts.{given_by, taken_by}
use Rattle.cg_typing.specs.Rules.{type_at}
use Rattle.cg_update.specs.Calls.{Program}
use Rattle.cg_update.specs.Turns.{alternatives_in}
use Rattle.cg_update.specs.Among.{are_apart, is_mention_among}
use Rattle.cg_update_laws.specs.Laws.{world_among}
use Rattle.cg_value.specs.Foreign.{Foreign, IsLawful}
use Rattle.cg_value.specs.Values.{Val, function}

-- ---- counts of addresses that are the same

apart_as : (w r x y : ℕ → ℕ) → AreApart w r → ((q : ℕ) → w q ≡ x q) → ((q : ℕ) → r q ≡ y q) → AreApart x y
apart_as w r x y apart e f q = at (λ c. 1 ≤ c → c + y q ≤ 1) (e q) (at (λ c. 1 ≤ w q → w q + c ≤ 1) (f q) (apart q))

frame_as : (h h' : Heap) (w x after : ℕ → ℕ) → ((q : ℕ) → x q ≡ w q) → Frame h w h' after → Frame h x h' after
frame_as h h' w x after e f = record {
  inert = λ q z n. f.inert q (sym (e q) ∙ z) n;
  freed = λ q i n. f.freed q (at (λ c. 1 ≤ c) (e q) i) n;
  fresh = λ q i z. f.fresh q i (sym (e q) ∙ z);
}

-- ---- clear nodes

-- the alternatives of a proper type have names apart
alternatives_apart : (t : Tau) → IsProper t → IsTrue (are_apart (alternatives_in t))
unfolding are_apart
alternatives_apart (variant ps) p = apart_is ps p.0
alternatives_apart _ p = refl

module _ (list : List Instance) (among : ℕ → Bool) where
  -- nodes of proper types are clear, where what they mention stands among the places
  nodes_clear : (ts : List (Tree Note)) → Each HasProper ts → IsTrue (list_all (is_mention_among list among) ts) → IsTrue (list_all (is_clear_node list among) ts)
  nodes_clear [] p c = refl
  nodes_clear (t ∷ ts) p c =
      let q = and_parts (is_mention_among list among t) (list_all (is_mention_among list among) ts) c in
      and_from (is_clear_node list among t) _ (and_from (are_apart (alternatives_in (type_at t))) _ (alternatives_apart (type_at t) p.0) q.0) (nodes_clear ts p.1 q.1)

-- ---- the law

module _ (foreign : Foreign) (heaps : ForeignHeap) (lawful : IsLawful foreign) (on_heaps : IsLawfulOnHeaps foreign heaps) (checked : Checked) (list : List Instance)
    (kept : AreKept (functions_in checked) (functions_in checked) (map maybe_core (cores_in checked)) (map maybe_tree (trees_in checked)))
    (is : IsList (functions_in checked) (core_in checked) list) (among : ℕ → Bool) (known : ReachKnown (program_over foreign heaps (functions_in checked) (core_in checked) list) among)
    (text : CText) (simulated : IsSimulated (copies_in checked list) text) (links : List Link) (linked : AreLinked foreign (functions_in checked) list links) where
  abbrev entry : Instance → Entry
  entry = entry_of (functions_in checked) (core_in checked)

  abbrev program : Program
  program = program_over foreign heaps (functions_in checked) (core_in checked) list

  abbrev world : HeapWorld
  world = world_among program among

  body_refinable : (i : ℕ) (o : Option (Tree Note)) → HaveProperNodes o → IsTrue (reaches_known_by program among (User i) o) → IsTrue (is_refinable_by program among (User i) o)
  body_refinable i None p c = c
  body_refinable i (Some core) p c = nodes_clear list among (nodes_of core) p c

  -- an entry that reaches what is known is refinable
  entry_refinable : (f : Fun) (types : List Tau) → HaveProperNodes (entry (record { fun = f; types = types })).body
      → IsTrue (reaches_known_by program among f (entry (record { fun = f; types = types })).body) → IsTrue (is_refinable_by program among f (entry (record { fun = f; types = types })).body)
  entry_refinable (User i) types p c = body_refinable i (entry (record { fun = User i; types = types })).body p c
  entry_refinable (OfLib lib) types p c = refl

  refinable : AreRefinable program among
  refinable = record {
    instances = derived foreign heaps lawful checked list kept is;
    apart = instances_are_apart checked list is;
    many = λ k x there. (instances_are_good checked list is k x there).many;
    good = λ k x there. (instances_are_good checked list is k x there).good;
    lawful = lawful;
    on_heaps = on_heaps;
    refinable = λ k x e stands there g.
        let same : Some (entry x) ≡ Some e = sym (entered foreign heaps lawful checked list kept is k x there) ∙ g in let q : entry x ≡ e = cc in
        at (λ (e : Entry). IsTrue (is_refinable_by program among x.fun e.body)) q
        (entry_refinable x.fun x.types (is_proper foreign heaps lawful checked list kept is k x there).nodes (known k x (entry x) stands there (entered foreign heaps lawful checked list kept is k x there)));
  }

  module _ (place n k : ℕ) (x : Instance) (core : Tree Note) (us : List Scalar) (m : Stored) (v w : Val) (writes reads : ℕ → ℕ) (here : slice_get list place ≡ Some x)
      (stands : among place ≡ true) (body : (entry x).body ≡ Some core) (represents : Represents world (heap_of m) (taken_by (entry x).ty) us v writes reads)
      (low : (q : ℕ) → m.top < q → heap_of m q ≡ None) (gives : evaluation (table_of foreign checked) n (function x.fun x.types) v ≡ Some (w, k)) where
    -- what the argument reaches
    abbrev before : Side
    before = side (heap_of m) m.top (foot (heap_of m) W (taken_by (entry x).ty) us) (foot (heap_of m) R (taken_by (entry x).ty) us)

    fine : IsFine before
    fine =
        held_is_fine world (heap_of m) m.top (taken_by (entry x).ty) us v represents.holds
        (apart_as writes reads (foot (heap_of m) W (taken_by (entry x).ty) us) (foot (heap_of m) R (taken_by (entry x).ty) us) represents.apart represents.are_writes represents.are_reads) low

    -- the update semantics
    updates : IsUpdatedTo program among n place us m (taken_by (entry x).ty) (given_by (entry x).ty) w k
    updates =
        instances_are_refined program among refinable n place k x (entry x) us m v w here (entered foreign heaps lawful checked list kept is place x here) stands represents.holds fine
        (over_copies foreign heaps lawful checked list kept is among (heap_of m) place n k x us v w here represents.holds gives)

    -- and C
    module _ (u : IsUpdatedTo program among n place us m (taken_by (entry x).ty) (given_by (entry x).ty) w k) where
      abbrev after : Side
      after = side (heap_of u.result.state.store) u.result.state.store.top (foot (heap_of u.result.state.store) W (given_by (entry x).ty) u.result.value)
          (foot (heap_of u.result.state.store) R (given_by (entry x).ty) u.result.value)

      freed_exactly : (q : ℕ) → (1 ≤ count q u.result.state.freed) ↔ (((1 ≤ writes q) ⊎ (1 ≤ count q u.result.state.made)) × (after.writes q ≡ 0))
      freed_exactly q =
          at (λ c. (1 ≤ count q u.result.state.freed) ↔ (((1 ≤ c) ⊎ (1 ≤ count q u.result.state.made)) × (after.writes q ≡ 0))) (sym (represents.are_writes q))
          (freed_is_exact before after u.result.state.made u.result.state.freed fine u.step q).1

      refined : GivesRefined world (linked_over text links heaps) (function_name place) us m writes reads (given_by (entry x).ty) w k
      refined =
          let ends = simulated program links (program_is checked list is kept foreign heaps links linked) n place x (entry x) core us m u.result here (entered foreign heaps lawful checked list kept is place x here) body u.is in
          record {
            given = u.result.value;
            state = as_run u.result.state;
            left = ends.0;
            ends = at (λ c. crun (linked_over text links heaps) (32 * c + 32) (function_name place) us m ≡ done u.result.value (as_run u.result.state) ends.0) u.same_cost ends.1;
            writes' = after.writes;
            reads' = after.reads;
            represents = record {
              holds = u.holds;
              are_writes = λ q. refl;
              are_reads = λ q. refl;
              apart = (step_fine before after u.result.state.made u.result.state.freed fine u.step).apart;
            };
            read_before = λ q i. at (λ c. 1 ≤ c) (sym (represents.are_reads q)) (u.step.reads_less q i);
            frame =
                frame_as (heap_of m) after.heap before.writes writes after.writes represents.are_writes
                (step_frame before after u.result.state.made u.result.state.freed fine u.step);
            freed_once = λ q. (freed_is_exact before after u.result.state.made u.result.state.freed fine u.step q).0;
            freed_exactly = freed_exactly;
          }

pub sources_are_refined : SourcesAreRefined
sources_are_refined foreign heaps lawful on_heaps checked list program kept is simulated links linked among known at n k z core us m v w writes reads here stands body represents low gives =
    refined foreign heaps lawful on_heaps checked list kept is among known program simulated links linked at n k z core us m v w writes reads here stands body represents low gives
    (updates foreign heaps lawful on_heaps checked list kept is among known program simulated links linked at n k z core us m v w writes reads here stands body represents low gives)
