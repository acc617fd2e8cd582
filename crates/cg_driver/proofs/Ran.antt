-- The steps of `run` come to status 0 over exactly the files whose source has the entry, whose heap file holds an argument of it, and on which
-- evaluation ends within the steps.
use Rattle.std.proofs.Common.{◌≡◌, ◌⊎◌, inl, inr, ◌+◌, ◌≤◌, ℕ, true, List, [], ◌∷◌, ◌++◌, Some, length, slice_get, take, refl, sym, ap, ◌∙◌, subst}
use Rattle.cg_base.specs.Types.{Tau}
use Rattle.cg_core.specs.Kernels.{Function}
use Rattle.cg_driver_entry.specs.Entries.{ReachesAbstract}
use Rattle.cg_driver_steps.proofs.Joining.{judged_runs, then_settles}
use Rattle.cg_driver_steps.proofs.Topping.{came_done}
use Rattle.cg_driver_steps.specs.declared.status.Status.TheVariants.{Done}
use Rattle.cg_driver_steps.specs.Scripts.{ComesTo}
use Rattle.cg_driver_steps.specs.Steps.{Runs, Settles, goes}
use Rattle.cg_driver_steps.specs.World.{calm}
use Rattle.cg_driver_words.specs.Words.{run}
use Rattle.cg_lower.specs.Collected.{Copy}
use Rattle.cg_outside.specs.Held.{Held, bytes_at}
use Rattle.cg_value.specs.Foreign.{Foreign}
use Rattle.cg_value.specs.Values.{Val}
use Rattle.cg_driver.specs.Accepted.{IsAcceptedSource, IsRunnable}
use Rattle.cg_driver.specs.Commands.{HoldsArgument, Judgement, Judges, allowed, concrete, entry_at, entry_rules, evaluated, has_argument, heap_steps, instanced, run_rules, run_steps, reads_source, script_of, source_rules}
use Rattle.cg_driver.specs.Entered.{argument_type, is_entry}
use Rattle.cg_driver.specs.Externs.{Extern}
use Rattle.cg_driver.specs.Found.{Argument, Found, functions, heap_limit, nothing, source_limit, with_argument, with_copies, with_entry, with_heap, with_program, with_source, with_value}
use Rattle.cg_driver.specs.Instanced.{HasInstances}
use Rattle.cg_driver.specs.Run.{Evaluates}
use Rattle.cg_driver.proofs.Accepting.{accepted_of, lists, parted, parted_steps, settled, short_whole, stays, whole}
use Rattle.cg_driver.proofs.Judging.{ruling}
use Rattle.cg_driver.proofs.Saying.{accepted_settles}

-- ---- what the steps found

-- the judgement of the entry's name
named : (name : List ℕ) (Q : Type 0) (js : List Judgement) (f n : Found)
    → (⊥ × Q) ⊎ ((next : Found) × ((at : ℕ) × (next ≡ with_entry at f) × (entry_at name (functions f) ≡ Some at)) × Settles Judges js next (goes n))
    → (at : ℕ) × (entry_at name (functions f) ≡ Some at) × Settles Judges js (with_entry at f) (goes n)
named name Q js f n (inl r) = absurd r.0
named name Q js f n (inr r) = (r.1.0, r.1.2, subst (λ x. Settles Judges js x (goes n)) r.1.1 r.2)

-- that of what the heap file holds
held : (t : Tau) (Q : Type 0) (js : List Judgement) (f n : Found)
    → (⊥ × Q) ⊎ ((next : Found) × ((a : Argument) × (next ≡ with_argument a f) × HoldsArgument f.heap t a) × Settles Judges js next (goes n))
    → (a : Argument) × HoldsArgument f.heap t a × Settles Judges js (with_argument a f) (goes n)
held t Q js f n (inl r) = absurd r.0
held t Q js f n (inr r) = (r.1.0, r.1.2, subst (λ x. Settles Judges js x (goes n)) r.1.1 r.2)

-- and that of the steps
ended : (x : Foreign) (fs : List Function) (at : ℕ) (arg : Val) (steps : ℕ) (Q : Type 0) (f n : Found)
    → (⊥ × Q) ⊎ ((next : Found) × ((value : Val) × (cost : ℕ) × (next ≡ with_value value cost f) × Evaluates x fs at arg steps value cost) × Settles Judges [] next (goes n))
    → (value : Val) × (cost : ℕ) × Evaluates x fs at arg steps value cost
ended x fs at arg steps Q f n (inl r) = absurd r.0
ended x fs at arg steps Q f n (inr r) = (r.1.0, r.1.1, r.1.3)

-- the judgements behind the source that all go
record IsFound (name : List ℕ) (f m : Found) : Type 0 where
  at : ℕ
  copies : List Copy
  named : entry_at name (functions f) ≡ Some at
  allowed : is_entry (slice_get (functions f) at) ≡ true
  concrete : ReachesAbstract (functions f) at → ⊥
  instances : HasInstances (functions f) copies
  state : m ≡ with_copies copies (with_entry at f)

found_of : (file name : List ℕ) (f m : Found) → Settles Judges (entry_rules file name ++ instanced ∷ []) f (goes m) → IsFound name f m
found_of file name f m r =
    let n = named name _ (allowed file ∷ concrete file ∷ instanced ∷ []) f m r in
    let g = with_entry n.0 f in
    let a = stays (is_entry (slice_get (functions f) n.0) ≡ true) _ (concrete file ∷ instanced ∷ []) g m n.2 in
    let c = stays (ReachesAbstract (functions f) n.0 → ⊥) _ (instanced ∷ []) g m a.1 in
    let l = lists _ [] g m c.1 in
    let end : goes m ≡ goes (with_copies l.0 g) = l.2 in
    record { at = n.0; copies = l.0; named = n.1; allowed = a.0; concrete = c.0; instances = l.1; state = cc }

-- those behind the heap file
record IsRun (x : Foreign) (steps : ℕ) (f : Found) : Type 0 where
  short : length f.heap ≤ heap_limit
  argument : Argument
  holds : HoldsArgument f.heap (argument_type (functions f) f.at) argument
  value : Val
  cost : ℕ
  ends : Evaluates x (functions f) f.at argument.value steps value cost

run_of : (table : Extern) (heap : List ℕ) (steps : ℕ) (f n : Found) → Settles Judges (run_rules table heap steps) f (goes n) → IsRun table.values steps f
run_of table heap steps f n r =
    let short = stays (length f.heap ≤ heap_limit) _ (has_argument heap ∷ evaluated table.values steps ∷ []) f n r in
    let a = held (argument_type (functions f) f.at) _ (evaluated table.values steps ∷ []) f n short.1 in
    let e = ended table.values (functions f) f.at a.0.value steps _ (with_argument a.0 f) n a.2 in
    record { short = short.0; argument = a.0; holds = a.1; value = e.0; cost = e.1; ends = e.2 }

-- what they found of the whole heap file
ran_whole : (table : Extern) (files : Held) (heap : List ℕ) (steps : ℕ) (f n : Found) (after : Held) → Runs Judges (heap_steps table heap steps) f (calm files) (goes n) (calm after)
    → IsRun table.values steps (with_heap (bytes_at files heap) f)
ran_whole table files heap steps f n after (inl r) = absurd r.0
ran_whole table files heap steps f n after (inr r) =
    let ran = run_of table heap steps r.0 n (settled (run_rules table heap steps) r.0 r.1 (calm after) n r.3) in
    let is : r.0.heap ≡ take (heap_limit + 1) (bytes_at files heap) = ap (λ g. g.heap) r.2.2 ∙ r.2.1 in
    let all : r.0.heap ≡ bytes_at files heap = whole heap_limit (bytes_at files heap) r.0.heap is ran.short in
    let state : r.0 ≡ with_heap (bytes_at files heap) f = r.2.2 ∙ ap (λ b. with_heap b f) (sym (ap (λ g. g.heap) r.2.2) ∙ all) in
    subst (IsRun table.values steps) state ran

run_whole : (table : Extern) (files : Held) (file name heap : List ℕ) (steps : ℕ) (n : Found) (after : Held) → Runs Judges (reads_source file ∷ run_steps table file name heap steps) nothing (calm files) (goes n) (calm after)
    → IsRunnable table (bytes_at files file) name (bytes_at files heap) steps
run_whole table files file name heap steps n after (inl r) = absurd r.0
run_whole table files file name heap steps n after (inr r) =
    let rest = subst (λ w. Runs Judges (run_steps table file name heap steps) r.0 w (goes n) (calm after)) r.2.3 r.3 in
    let p = parted_steps (source_rules file ++ entry_rules file name ++ instanced ∷ []) (heap_steps table heap steps) r.0 (calm files) (calm after) n rest in
    let q = parted (source_rules file) (entry_rules file name ++ instanced ∷ []) r.0 p.0 p.1 in
    let accepted = accepted_of file r.0 q.0 q.1 in
    let found = found_of file name q.0 p.0 q.2 in
    let is : r.0.source ≡ take (source_limit + 1) (bytes_at files file) = ap (λ f. f.source) r.2.2 ∙ r.2.1 in
    let all : r.0.source ≡ bytes_at files file = whole source_limit (bytes_at files file) r.0.source is accepted.limits.short in
    let ran = subst (λ m. IsRun table.values steps (with_heap (bytes_at files heap) m)) found.state (ran_whole table files heap steps p.0 n after p.2) in
    record {
      kernel = functions q.0;
      copies = found.copies;
      at = found.at;
      argument = ran.argument;
      value = ran.value;
      cost = ran.cost;
      accepted = subst (λ x. IsAcceptedSource x (functions q.0)) all accepted;
      instances = found.instances;
      named = found.named;
      allowed = found.allowed;
      concrete = found.concrete;
      short = ran.short;
      holds = ran.holds;
      ends = ran.ends;
    }

pub only_run : (table : Extern) (files : Held) (file name heap : List ℕ) (steps : ℕ) → ComesTo Judges (script_of table (Some (run file name heap steps))) files Done → IsRunnable table (bytes_at files file) name (bytes_at files heap) steps
only_run table files file name heap steps k =
    let d = came_done Judges ruling (script_of table (Some (run file name heap steps))) files k in run_whole table files file name heap steps d.0 d.1 d.2

-- ---- and back

pub all_run : (table : Extern) (files : Held) (file name heap : List ℕ) (steps : ℕ) → IsRunnable table (bytes_at files file) name (bytes_at files heap) steps → ComesTo Judges (script_of table (Some (run file name heap steps))) files Done
all_run table files file name heap steps b =
    let bytes = take (source_limit + 1) (bytes_at files file) in
    let f = with_source bytes nothing in
    let next = with_program b.accepted.accepted.program f in
    let same : b.kernel ≡ functions next = b.accepted.kernel in
    let entered = with_entry b.at next in
    let listed = with_copies b.copies entered in
    let text = take (heap_limit + 1) (bytes_at files heap) in
    let text_is : text ≡ bytes_at files heap = short_whole heap_limit (bytes_at files heap) b.short in
    let opened = with_heap text listed in
    let given = with_argument b.argument opened in
    let last = with_value b.value b.cost given in
    let found : Settles Judges (entry_rules file name ++ instanced ∷ []) next (goes listed) = inr (
      entered,
      (b.at, refl, subst (λ x. entry_at name x ≡ Some b.at) same b.named),
      inr (
        entered,
        (refl, subst (λ x. is_entry (slice_get x b.at) ≡ true) same b.allowed),
        inr (entered, (refl, subst (λ x. ReachesAbstract x b.at → ⊥) same b.concrete), inr (listed, (b.copies, refl, subst (λ x. HasInstances x b.copies) same b.instances), refl)),
      ),
    ) in
    let ran : Settles Judges (run_rules table heap steps) opened (goes last) = inr (
      opened,
      (refl, subst (λ x. length x ≤ heap_limit) (sym text_is) b.short),
      inr (
        given,
        (b.argument, refl, subst (λ x. HoldsArgument x (argument_type (functions next) b.at) b.argument) (sym text_is) (subst (λ x. HoldsArgument (bytes_at files heap) (argument_type x b.at) b.argument) same b.holds)),
        inr (last, (b.value, b.cost, refl, subst (λ x. Evaluates table.values x b.at b.argument.value steps b.value b.cost) same b.ends), refl),
      ),
    ) in
    let settles : Settles Judges (source_rules file ++ entry_rules file name ++ instanced ∷ []) f (goes listed) =
    then_settles Judges (source_rules file) (entry_rules file name ++ instanced ∷ []) f next (goes listed)
    (accepted_settles file (bytes_at files file) b.kernel b.accepted f (short_whole source_limit (bytes_at files file) b.accepted.limits.short)) found in
    let rest : Runs Judges (heap_steps table heap steps) listed (calm files) (goes last) (calm files) =
    inr (opened, calm files, (text, refl, refl, refl), judged_runs Judges (run_rules table heap steps) [] opened last (calm files) (calm files) (goes last) ran (refl, refl)) in (
      goes last,
      files,
      inr (
        f,
        calm files,
        (bytes, refl, refl, refl),
        judged_runs Judges (source_rules file ++ entry_rules file name ++ instanced ∷ []) (heap_steps table heap steps) f listed (calm files) (calm files) (goes last) settles rest,
      ),
      refl,
    )
