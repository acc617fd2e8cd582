-- Abstract functions that the table of a program knows: it answers a call at the value's cost, with what is refined.
use Rattle.std.proofs.Common.{◌≡◌, ℕ, Bool, IsTrue, Option, Some, None, List, if◌then◌else◌, sym, ap, ◌∙◌, subst as at}
use Rattle.std.proofs.lemmas.Bool.{and_parts}
use Rattle.cg_base.specs.declared.kind.Sigil.TheVariants.{R, W}
use Rattle.cg_base.specs.Types.{Tau, arrow}
use Rattle.cg_core.specs.Kernels.{Function}
use Rattle.cg_eval_def.specs.Evaluation as values
use Rattle.cg_eval_def.specs.Foreigns.{is_empty, is_known}
use Rattle.cg_heap.specs.Calls.{Answer, heap_of}
use Rattle.cg_heap.specs.declared.cell.Scalar.{Scalar}
use Rattle.cg_heap.specs.ForeignHeaps.{Answers, IsCall}
use Rattle.cg_heap.specs.Reps.{HeapWorld, Holds, foot}
use Rattle.cg_heap.specs.Steps.{IsFine}
use Rattle.cg_refine.specs.Laws.{TypesAreKnown}
use Rattle.cg_refine_def.specs.Refined.{IsRefined, side_of}
use Rattle.cg_refine_laws.proofs.Library.{does_refined, pay_for_refined}
use Rattle.cg_refine_laws.specs.Laws.{KnownFunctionsAreRefined}
use Rattle.cg_update.specs.Calls.{Program, answer_of, types_of}
use Rattle.cg_update.specs.Machines.{is_machine}
use Rattle.cg_update.specs.Outcomes.{State, Outcome, given, on, pay_for, where_true}
use Rattle.cg_update_laws.proofs.Held.{holds_machine}
use Rattle.cg_update_laws.specs.Laws.{instances_among, world_among}
use Rattle.cg_value.specs.Values.{Val}

module _ (p : Program) where
  -- what is asked of the table, where it knows the function
  asks_table : (f : Function) (o : Option Function) (us : List Scalar) (s : State) → o ≡ Some f → IsTrue (is_known p.foreign f)
      → answer_of p o us s.store ≡ p.on_heaps.asked f.at.name us s.store
  asks_table f o us s e k = ap (λ o. answer_of p o us s.store) e ∙ ap (λ b. if b then p.on_heaps.asked f.at.name us s.store else None) k

  -- what comes of an answer
  abbrev answered : Tau → State → ℕ → Answer → Outcome
  answered b s left a = where_true (is_machine (types_of p) b a.out.result) (pay_for a.cost left (λ rest. given a.out s rest))

  -- an answer at the value's cost, with what is to come of it, is refined
  answer_refined : (among : ℕ → Bool) (world : HeapWorld) → TypesAreKnown p among world → (a b : Tau) (s : State) (us : List Scalar) (v v' : Val) (cost left : ℕ) (o : Option Answer)
      → Answers world s.store a b us v v' cost o
      → IsRefined world s (foot (heap_of s.store) W a us) (foot (heap_of s.store) R a us) b (values.pay_for cost left (λ rest. values.gives v' rest)) (on o (answered b s left))
  answer_refined among world types a b s us v v' cost left None r = absurd r
  answer_refined among world types a b s us v v' cost left (Some x) r =
      at (λ c. IsRefined world s (foot (heap_of s.store) W a us) (foot (heap_of s.store) R a us) b (values.pay_for cost left (λ rest. values.gives v' rest))
      (where_true c (pay_for x.cost left (λ rest. given x.out s rest))))
      (sym (holds_machine world (heap_of x.out.store) (types_of p) types b x.out.result v' r.1.does.holds))
      (pay_for_refined world s (foot (heap_of s.store) W a us) (foot (heap_of s.store) R a us) b cost x.cost left (λ rest. values.gives v' rest) (λ rest. given x.out s rest) r.0
      (λ rest. does_refined world s a b us x.out v' rest r.1.does))

  -- a call of a function that the table knows, on scalars that represent its argument
  call_of : (among : ℕ → Bool) (f : Function) (a b : Tau) (s : State) (us : List Scalar) (v : Val) → IsTrue (is_known p.foreign f) → f.ty.ty ≡ arrow a b
      → Holds (world_among p among) (heap_of s.store) a us v → IsFine (side_of s (foot (heap_of s.store) W a us) (foot (heap_of s.store) R a us))
      → IsCall p.foreign p.on_heaps (instances_among p among) f.at.name s.store us a b v
  call_of among f a b s us v k e r fine = record {
    known = at (λ t. IsTrue (p.foreign.knows f.at.name t)) e (and_parts (is_empty f.vars) (p.foreign.knows f.at.name f.ty.ty) k).1;
    holds = r;
    apart = fine.apart;
    low = fine.above;
  }

-- abstract functions that the table knows are refined
pub known_functions_are_refined : KnownFunctionsAreRefined
known_functions_are_refined p among lawful on_heaps types i f a b s us v e k is r fine left =
    at (λ o. IsRefined (world_among p among) s (foot (heap_of s.store) W a us) (foot (heap_of s.store) R a us) b
    (values.pay_for (p.foreign.cost f.at.name v) left (λ rest. values.gives (p.foreign.value f.at.name v) rest)) (on o (answered p b s left)))
    (sym (asks_table p f _ us s e k))
    (answer_refined p among (world_among p among) types a b s us v (p.foreign.value f.at.name v) (p.foreign.cost f.at.name v) left (p.on_heaps.asked f.at.name us s.store)
    (on_heaps.is_answered (instances_among p among) f.at.name s.store us a b v (call_of p among f a b s us v k is r fine)))
