-- The steps of `gen`: the heap file stands through those before it is read, and the line of `build` stands before what `run` says.
use Rattle.std.proofs.Common.{◌≡◌, ◌⊎◌, inl, inr, ℕ, List, [], ◌∷◌, length, Result, Ok, Err, refl, sym, ap, ◌∙◌, subst}
use Rattle.std.specs.Prelude.{IfOk}
use Rattle.cg_base.specs.declared.memory.Memory.{Memory}
use Rattle.cg_driver_steps.specs.declared.report.Report.{Report}
use Rattle.cg_driver_steps.specs.declared.report.Step.{Step}
use Rattle.cg_driver_steps.specs.declared.report.Step.TheVariants.{Goes, Ends}
use Rattle.cg_driver_steps.specs.declared.status.Status.{Status}
use Rattle.cg_driver_steps.specs.declared.status.Status.TheVariants.{Done, Refused, Usage, ReadFault, WriteFault, Memory as NoMemory, StepLimit, HeapRefused, CertRefused, TooLarge}
use Rattle.cg_driver_steps.specs.Parts.{IsLine, Judged, Rules}
use Rattle.cg_driver_steps.specs.Steps.{Settles, goes, refuses}
use Rattle.cg_core.specs.Kernels.{Function}
use Rattle.cg_lower.specs.Collected.{Copy}
use Rattle.cg_driver.specs.Commands.{IsBuilt, IsMade, Judgement, Judges, acyclic, allowed, certifiable, certified, concrete, evaluated, has_argument, has_entry, instanced, named, no_command, ran_lines, run_rules, spelled, typed, with_fields, within, written}
use Rattle.cg_driver.specs.Externs.{Extern}
use Rattle.cg_driver.specs.Found.{Found, functions}
use Rattle.cg_driver.specs.Instanced.{IsCompiled}
use Rattle.cg_driver.specs.Made.{Joins}
use Rattle.cg_driver_lines.specs.Lines.{built_line as written_line}

-- ---- the heap file stands through each judgement

heap_kept : (j : Judgement) (f n : Found) → Judges j f (goes n) → n.heap ≡ f.heap
heap_kept no_command f n j = absurd j
heap_kept (within limit) f n j = ap (λ x. x.heap) j.0
heap_kept (spelled file) f n j = ap (λ x. x.heap) j.1
heap_kept (named file) f n j = ap (λ x. x.heap) j.0
heap_kept (acyclic file) f n j = ap (λ x. x.heap) j.0
heap_kept (with_fields file) f n j = ap (λ x. x.heap) j.0
heap_kept (typed file) f n j = ap (λ x. x.heap) j.0
heap_kept (written file) f n j = ap (λ x. x.heap) j.1
heap_kept (certified file) f n j = ap (λ x. x.heap) j.0
heap_kept instanced f n j = ap (λ x. x.heap) j.1
heap_kept certifiable f n j = ap (λ x. x.heap) j.0
heap_kept (has_entry file name) f n j = ap (λ x. x.heap) j.1
heap_kept (allowed file) f n j = ap (λ x. x.heap) j.0
heap_kept (concrete file) f n j = ap (λ x. x.heap) j.0
heap_kept (has_argument heap) f n j = ap (λ x. x.heap) j.1
heap_kept (evaluated x steps) f n j = ap (λ x. x.heap) j.2

all_kept : (js : List Judgement) (f n : Found) → Settles Judges js f (goes n) → n.heap ≡ f.heap
all_kept [] f n same = let e : goes n ≡ goes f = same in ap (λ x. x.heap) (the e)
  where
    the : goes n ≡ goes f → n ≡ f
    the e = cc
all_kept (j ∷ js) f n (inl r) = absurd r.0
all_kept (j ∷ js) f n (inr r) = all_kept js r.0 n r.2 ∙ heap_kept j f r.0 r.1

-- what some judgements keep, with the heap file
pub keeps_heap : {T : Type 0} (Keeps : T → Found → Type 0) (js : List Judgement) (f : Found) (given : Result (Step T) Memory) → Judged Judges Keeps js f given
    → Judged Judges (λ x n. Keeps x n × (n.heap ≡ f.heap)) js f given
keeps_heap Keeps js f (Ok (Goes x)) h = (h.0, h.1, (h.2, all_kept js f h.0 h.1))
keeps_heap Keeps js f (Ok (Ends r)) h = h
keeps_heap Keeps js f (Err e) h = tt

-- ---- the line of `build`, and then what `run` says

-- a refusal stands alone
stands_alone : (line : List ℕ) (s : Status) (text : List ℕ) (r : Report) → (s ≡ Done → ⊥) → Joins line s text r → IsLine s text r
stands_alone line Done text r never joins = absurd (never refl)
stands_alone line Refused text r never joins = joins
stands_alone line Usage text r never joins = joins
stands_alone line ReadFault text r never joins = joins
stands_alone line WriteFault text r never joins = joins
stands_alone line NoMemory text r never joins = joins
stands_alone line StepLimit text r never joins = joins
stands_alone line HeapRefused text r never joins = joins
stands_alone line CertRefused text r never joins = joins
stands_alone line TooLarge text r never joins = joins

module _ (table : Extern) (steps : ℕ) (heap : List ℕ) (f : Found) where
  -- no refusal of a run has status 0
  never_done : (s : Status) (text : List ℕ) → Settles Judges (run_rules table heap steps) f (refuses s text) → s ≡ Done → ⊥
  never_done s text (inl r) e = let x = r.1.0 in absurd (cc)
  never_done s text (inr (n, j, inl r)) e = let x = r.1.0 in absurd (cc)
  never_done s text (inr (n, j, inr (m, k, inl r))) e = let x = r.1.0 in absurd (cc)
  never_done s text (inr (n, j, inr (m, k, inr (l, q, x)))) e = absurd (cc)

  -- what was built stays as the run found it
  stays : (n : Found) → Settles Judges (run_rules table heap steps) f (goes n) → (functions n ≡ functions f) × (n.copies ≡ f.copies)
  stays n (inl r) = absurd r.0
  stays n (inr (a, j, inl r)) = absurd r.0
  stays n (inr (a, j, inr (b, k, inl r))) = absurd r.0
  stays n (inr (a, j, inr (b, k, inr (c, q, same)))) =
      let is : n ≡ c = (let e : goes n ≡ goes c = same in cc) in (
        ap functions is ∙ ap functions q.2 ∙ ap functions k.1 ∙ ap functions j.0,
        ap (λ x. x.copies) is ∙ ap (λ x. x.copies) q.2 ∙ ap (λ x. x.copies) k.1 ∙ ap (λ x. x.copies) j.0,
      )

  -- what was built, by the functions and the copies alone
  abbrev Builds : List Function → List Copy → List ℕ → Type 0
  Builds fs copies line = (line ≡ written_line fs (length copies)) × IsCompiled fs copies

  built_stays : (n : Found) (line : List ℕ) → Settles Judges (run_rules table heap steps) f (goes n) → IsBuilt f line → IsBuilt n line
  built_stays n line s built =
      let k = stays n s in subst (λ fs. Builds fs n.copies line) (sym k.0) (subst (λ copies. Builds (functions f) copies line) (sym k.1) built)

  made_so : (line : List ℕ) → IsBuilt f line → (report r : Report) → Joins line report.status report.text.items r
      → Rules Judges (ran_lines table) (run_rules table heap steps) f (Ok report) → Rules Judges (IsMade table) (run_rules table heap steps) f (Ok r)
  made_so line built report r joins (refuses s text, settles, is) =
      let alone = stands_alone line report.status report.text.items r (λ e. never_done s text settles (sym is.0 ∙ e)) joins in
      (refuses s text, settles, (alone.0 ∙ is.0, alone.1 ∙ is.1))
  made_so line built report r joins (goes n, settles, is) =
      let both = subst (λ s. Joins line s report.text.items r) is.0 joins in
      (goes n, settles, (both.0, record { line = line; lines = report.text.items; built = built_stays n line settles built; ran = is.1; text_is = both.1 }))

  pub made_told : (line : List ℕ) → IsBuilt f line → (report : Report) → Rules Judges (ran_lines table) (run_rules table heap steps) f (Ok report)
      → (r : Result Report Memory) → IfOk r (Joins line report.status report.text.items) → Rules Judges (IsMade table) (run_rules table heap steps) f r
  made_told line built report ran (Ok r) joins = made_so line built report r joins ran
  made_told line built report ran (Err e) joins = tt
