-- From the parts of the two runs of a function to what is said of them.
use Rattle.std.proofs.Common.{◌≡◌, ℕ, zero, suc, IsTrue, List, [], ◌∷◌, inl, inr, Option, Some, Result, Ok, Err, map, slice_get, refl, sym, ap, ◌∙◌, subst, arith}
use Rattle.std.specs.Prelude.{IfOk}
use Rattle.cg_base.specs.declared.fun.Fun.TheVariants.{User}
use Rattle.cg_base.specs.declared.memory.Memory.{Memory}
use Rattle.cg_base.specs.Types.{Tau, arrow}
use Rattle.cg_cmachine.specs.Answers.{EndsAs}
use Rattle.cg_cmachine.specs.declared.answer.Ran.{Ran}
use Rattle.cg_cmachine_def.specs.Outcomes.{State, done, needs, stuck}
use Rattle.cg_cmachine_def.specs.Runs.{Linked, crun}
use Rattle.cg_lower.specs.Collected.{Copy}
use Rattle.cg_core.specs.Kernels.{Function}
use Rattle.cg_core.specs.declared.term.Term.{Term}
use Rattle.cg_core.specs.declared.term.Typed.{Typed}
use Rattle.cg_ctree.specs.declared.why.Why.{Why}
use Rattle.cg_ctree.specs.Spells.{CSpells}
use Rattle.cg_ctree.specs.Trees.{Program}
use Rattle.cg_inst.specs.Judged.{core_in}
use Rattle.cg_cgen_def.specs.Names.{function_name}
use Rattle.cg_eval_def.specs.Evaluation.{Table, evaluation, IsSpent}
use Rattle.cg_eval_def.specs.Foreigns.{table_of, table_over}
use Rattle.cg_driver_laws.specs.Laws.{EntriesRun, copies_in}
use Rattle.cg_heap.specs.Calls.{heap_of}
use Rattle.cg_heap.specs.declared.cell.Scalar.{Scalar}
use Rattle.cg_heap.specs.FirstOrder.{is_first_order}
use Rattle.cg_heap.specs.Reps.{Represents}
use Rattle.cg_heap.specs.Stored.{Stored}
use Rattle.cg_heap.specs.Steps.{count}
use Rattle.cg_heaptext.specs.declared.start.Start.{Start}
use Rattle.cg_typing.specs.Parts.{given_by, taken_by}
use Rattle.cg_typing.specs.declared.checked.Checked.{Checked}
use Rattle.cg_typing.specs.Holds.{cores_in, kept_at, trees_in}
use Rattle.cg_typing.specs.Instances.{Instance}
use Rattle.cg_typing.specs.Kept.{AreKept, maybe_core, maybe_tree}
use Rattle.cg_value.specs.Foreign.{Foreign}
use Rattle.cg_value.specs.Values.{Val, value_of, function}
use Rattle.cg_driver_steps.specs.declared.report.Report.{Report}
use Rattle.cg_driver_steps.specs.declared.status.Status.{Status}
use Rattle.cg_driver_steps.specs.declared.status.Status.TheVariants.{Done, Refused, Usage, ReadFault, WriteFault, Memory as NoMemory, StepLimit, HeapRefused, CertRefused, TooLarge}
use Rattle.cg_driver_steps.specs.Steps.{refuses, goes}
use Rattle.cg_driver_steps.specs.Parts.{IsLine, Reports, Rules}
use Rattle.cg_driver.specs.Built.{CanRun, KeepsCopies}
use Rattle.cg_driver.specs.Commands.{Judges, evaluated, ran_lines}
use Rattle.cg_driver_lines.specs.declared.machined.Machined.{Machined}
use Rattle.cg_driver.specs.Entered.{argument_type, entry_place, entry_type, result_type}
use Rattle.cg_driver.specs.Executed.{cores_of, Gives, GivesAlike, IsReady, Machines, ReadsBack, Runs, Executes}
use Rattle.cg_driver.specs.Externs.{Extern, IsLawfulExtern, linked_in}
use Rattle.cg_driver.specs.Found.{Argument, Found, functions, with_value}
use Rattle.cg_driver.specs.Instanced.{IsMeant, bodies_in, emitted}
use Rattle.cg_driver.specs.Judged.{argument_of, functions_in, CanBeBuilt, HoldsCores, IsStartOf}
use Rattle.cg_driver_lines.specs.Lines.{report, step_limit_line}
use Rattle.cg_driver.specs.Run.{begun, budget, table_in}
use Rattle.cg_driver_text.proofs.Begun.{filled_low, filled_represents}
use Rattle.cg_driver_text.specs.Filled.{unlinked}
use Rattle.cg_driver.proofs.Ends.{end_same}
use Rattle.cg_driver.proofs.Saying.{each, line_says}

-- ---- the cores of a checked source, as the code keeps them and as plain trees

body_same : (cores : List (Option (Term Typed))) (i : ℕ) → maybe_core (kept_at cores i) ≡ kept_at (map maybe_core cores) i
body_same [] i = refl
body_same (c ∷ cores) zero = refl
body_same (c ∷ cores) (suc i) = body_same cores i

pub bodies_same : (checked : Checked) → core_in checked ≡ bodies_in (cores_of checked)
bodies_same checked = λ j i. body_same (cores_in checked) i j

table_same : (x : Foreign) (checked : Checked) → table_of x checked ≡ table_in x (functions_in checked) (cores_of checked)
table_same x checked = ap (table_over x (functions_in checked)) (bodies_same checked)

-- ---- what is ready

-- what the entry takes and gives, as a state that keeps these instances sees it
pub types_here : (checked : Checked) (list : List Instance) (at place : ℕ) (argument result : Tau) → CanRun checked list at place argument result → (f : Found) → KeepsCopies checked list f → f.at ≡ at
    → (argument_type (functions f) f.at ≡ argument) × (result_type (functions f) f.at ≡ result)
types_here checked list at place argument result can f kept there =
    let arrow_is : entry_type (slice_get (functions f) f.at) ≡ arrow argument result =
    ap (λ fs. entry_type (slice_get fs f.at)) kept.same ∙ ap (λ i. entry_type (slice_get (functions_in checked) i)) there ∙ ap entry_type can.ty.there ∙ can.ty.typed.is in
    (ap taken_by arrow_is, ap given_by arrow_is)

pub ready_of : (checked : Checked) (list : List Instance) (at place : ℕ) (argument result : Tau) (bytes : List ℕ) (start : Start) → CanRun checked list at place argument result → IsStartOf bytes argument start
    → IsReady checked list at place argument result (argument_of start)
ready_of checked list at place argument result bytes start can s =
    record { can = can; writes = λ q. count q start.writes; reads = λ q. count q start.reads; represents = s.held.represents; placeable = s.held.placeable s.short }

-- ---- the run

-- the list of derivations that a checked source keeps
kept_trees : (checked : Checked) → CanBeBuilt checked → AreKept (functions_in checked) (functions_in checked) (map maybe_core (cores_in checked)) (map maybe_tree (trees_in checked))
kept_trees checked ready = subst (AreKept (functions_in checked) (functions_in checked) (map maybe_core (cores_in checked))) (sym ready.marks.are) ready.marks.kept

-- the C of an entry's instance, linked to a lawful table, gives what represents what evaluation gives
pub gives_alike : EntriesRun → (table : Extern) → IsLawfulExtern table → (checked : Checked) (list : List Instance) → CanBeBuilt checked → (m : IsMeant (copies_in checked list))
    → (at place steps cost : ℕ) (argument result : Tau) (a : Argument) (value : Val) → IsReady checked list at place argument result a → Gives table checked at a.value steps value cost
    → GivesAlike (linked_in table (functions_in checked) (copies_in checked list) m.program) (function_name place) a.scalars (begun a) result value cost
gives_alike law table lawful checked list built m at place steps cost argument result a value ready gives =
    let ty = ready.can.ty in
    let few = ready.can.listed.few in
    let r = law table.values table.heap lawful.values lawful.heap checked list m.program (kept_trees checked built) ready.can.listed.is m.simulates (table.links (functions_in checked) (copies_in checked list))
    (lawful.links (functions_in checked) (core_in checked) list (omega (arith, few)))
    place at steps cost ty.function argument result a.scalars (begun a) a.value value ready.writes ready.reads ready.can.stands ty.there
    (λ none. ready.can.allowed.concrete (record { place = at; function = ty.function; stands = ty.there; abstract = none; reached = inl refl })) ty.typed.is
    (λ r. ready.can.allowed.concrete r.abstract)
    (λ world. filled_represents a.cells (λ h. Represents world h argument a.scalars a.value ready.writes ready.reads) (ready.represents world))
    (filled_low a.cells) gives in
    record { world = r.0; writes = ready.writes; reads = ready.reads; gives = r.1 }

-- what was seen of the run is what is said of it
pub ran_so : (linked : Linked) (name : List ℕ) (us : List Scalar) (m after : Stored) (most : ℕ) (t : Tau) (value : Val) (cost : ℕ) → most ≡ budget cost → IsTrue (is_first_order t)
    → GivesAlike linked name us m t value cost → (ran : Ran) → EndsAs (crun linked most name us m) most after ran
    → (r : Machined) → ReadsBack after t ran r → Runs linked name us m most t value r
ran_so linked name us m after most t value cost is plain g ran ended r back =
    let state : State = record { store = after; made = ran.made; freed = ran.freed } in
    let gives : crun linked most name us m ≡ done g.gives.given g.gives.state g.gives.left = subst (λ n. crun linked n name us m ≡ done g.gives.given g.gives.state g.gives.left) (sym is) g.gives.ends in
    let e = end_same ran.value g.gives.given state g.gives.state ended.left g.gives.left (crun linked most name us m) ended.ends gives in
    let here : Represents g.world (heap_of after) t ran.value value g.gives.writes' g.gives.reads' =
    subst (λ us. Represents g.world (heap_of after) t us value g.gives.writes' g.gives.reads') (sym e.given)
    (subst (λ s. Represents g.world (heap_of s.store) t g.gives.given value g.gives.writes' g.gives.reads') (sym e.state) g.gives.represents) in
    let same : value_of r.value ≡ value = back.is g.world value here.holds plain in
    let steps = back.steps in
    let counted = ended.steps in (
      record {
        given = ran.value;
        state = state;
        left = ended.left;
        ends = ended.ends;
        counted = omega (arith, steps, counted);
        are_made = back.made;
        are_freed = back.freed;
        world = g.world;
        writes = g.gives.writes';
        reads = g.gives.reads';
        represents = subst (λ v. Represents g.world (heap_of after) t ran.value v g.gives.writes' g.gives.reads') (sym same) here;
        are_kept = λ q. back.are_kept q ∙ sym (here.are_writes q);
      },
      same,
    )

-- ---- the machine's answers

module _ (linked : Linked) (name : List ℕ) (us : List Scalar) (m : Stored) (t : Tau) (cost : ℕ) where
  -- the run is neither stuck nor short of steps
  pub not_stuck : (why : Why) → (value : Val) × GivesAlike linked name us m t value cost → (after : Stored) × (crun linked (budget cost) name us m ≡ stuck why after) → ⊥
  not_stuck why g e = let a = e.1 in let b = g.1.gives.ends in absurd (cc)

  pub not_short : (value : Val) × GivesAlike linked name us m t value cost → (after : Stored) × (crun linked (budget cost) name us m ≡ needs after) → ⊥
  not_short g e = let a = e.1 in let b = g.1.gives.ends in absurd (cc)

  -- and what is read back is what it gives
  pub gives_so : (after : Stored) → IsTrue (is_first_order t) → (ran : Ran) → EndsAs (crun linked (budget cost) name us m) (budget cost) after ran
      → (r : Result Machined Memory) → IfOk r (ReadsBack after t ran) → (value : Val) → GivesAlike linked name us m t value cost → IfOk r (Runs linked name us m (budget cost) t value)
  gives_so after plain ran ended r back value g =
      each (ReadsBack after t ran) (Runs linked name us m (budget cost) t value) (ran_so linked name us m after (budget cost) t value cost refl plain g ran ended) r back

-- what is said of the one program that a text spells is said of any that it spells
pub of_spelled : (bytes : List ℕ) (p q : Program) → ((r : Program) → CSpells bytes r → r ≡ p) → CSpells bytes q → (P : Linked → Type 0) → P (unlinked p) → P (unlinked q)
of_spelled bytes p q only spelled P h = subst (λ x. P (unlinked x)) (sym (only q spelled)) h

-- ---- what is said

-- what the machine gave is what is said of the C of an entry
pub machined : (table : Extern) (functions : List Function) (copies : List Copy) (meant : IsMeant copies) (name : List ℕ) (place : ℕ) (t : Tau) (us : List Scalar) (m : Stored) (value : Val) (cost : ℕ) → name ≡ function_name place
    → (r : Result Machined Memory) → IfOk r (Runs (linked_in table functions copies meant.program) name us m (budget cost) t value) → IfOk r (Machines table functions copies place t us m value cost)
machined table functions copies meant name place t us m value cost is r h =
    each (Runs (linked_in table functions copies meant.program) name us m (budget cost) t value) (Machines table functions copies place t us m value cost)
    (λ x ran. record { program = meant.program; spelled = meant.spelled; runs = subst (λ n. Runs (linked_in table functions copies meant.program) n us m (budget cost) t value x) is ran }) r h

pub said_of : (table : Extern) (checked : Checked) (list : List Instance) (at place : ℕ) (t : Tau) (a : Argument) (value : Val) (cost : ℕ) (r : Machined) → HoldsCores checked → entry_place (copies_in checked list) at ≡ Some place
    → Machines table (functions_in checked) (copies_in checked list) place t a.scalars (begun a) value cost r → (p : Report) → IsLine Done (report t value (value_of r.value) cost r.steps r.made r.freed r.kept) p
    → (steps : ℕ) → Gives table checked at a.value steps value cost → Reports (Executes table (functions_in checked) (copies_in checked list) at t a steps) p
said_of table checked list at place t a value cost r cores stands m p line steps gives =
    line_says (Executes table (functions_in checked) (copies_in checked list) at t a steps) Done (report t value (value_of r.value) cost r.steps r.made r.freed r.kept) p line (
      value,
      cost,
      record {
        cores = cores_of checked;
        derived = cores;
        gives = ap (λ (x : Table). evaluation x steps (function (User at) []) a.value) (sym (table_same table.values checked)) ∙ gives;
      },
      record {
        place = place;
        stands = stands;
        program = m.program;
        spelled = m.spelled;
        result = value_of r.value;
        taken = r.steps;
        made = r.made;
        freed = r.freed;
        kept = r.kept;
        runs = m.runs.0;
        equal = m.runs.1;
        lines = refl;
      },
    )

pub runs_out : (table : Extern) (checked : Checked) (copies : List Copy) (at : ℕ) (t : Tau) (a : Argument) (steps : ℕ) → HoldsCores checked → IsSpent (table_of table.values checked) steps (function (User at) []) a.value
    → Executes table (functions_in checked) copies at t a steps StepLimit (step_limit_line steps)
runs_out table checked copies at t a steps cores out = (
  record {
    cores = cores_of checked;
    derived = cores;
    spent = subst (λ (x : Table). IsSpent x steps (function (User at) []) a.value) (table_same table.values checked) out;
  },
  refl,
)

-- what both runs say is what the last judgement of `run` comes to
pub executed : (table : Extern) (checked : Checked) (list : List Instance) (at : ℕ) (t : Tau) (a : Argument) (steps : ℕ) (f : Found) → KeepsCopies checked list f → f.at ≡ at → result_type (functions f) f.at ≡ t → f.argument ≡ a
    → (r : Result Report Memory) → IfOk r (Reports (Executes table (functions_in checked) (copies_in checked list) at t a steps)) → Rules Judges (ran_lines table) (evaluated table.values steps ∷ []) f r
executed table checked list at t a steps f kept there typed given (Err e) h = tt
executed table checked list at t a steps f kept there typed given (Ok r) h = from r.status refl (moved h)
  where
    moved : Executes table (functions_in checked) (copies_in checked list) at t a steps r.status r.text.items
        → Executes table (functions f) f.copies f.at (result_type (functions f) f.at) f.argument steps r.status r.text.items
    moved h =
        subst (λ x. Executes table x f.copies f.at (result_type (functions f) f.at) f.argument steps r.status r.text.items) (sym kept.same)
        (subst (λ x. Executes table (functions_in checked) x f.at (result_type (functions f) f.at) f.argument steps r.status r.text.items) (sym kept.copies)
        (subst (λ x. Executes table (functions_in checked) (copies_in checked list) x (result_type (functions f) f.at) f.argument steps r.status r.text.items) (sym there)
        (subst (λ x. Executes table (functions_in checked) (copies_in checked list) at x f.argument steps r.status r.text.items) (sym typed)
        (subst (λ x. Executes table (functions_in checked) (copies_in checked list) at t x steps r.status r.text.items) (sym given) h))))

    from : (s : Status) → r.status ≡ s → Executes table (functions f) f.copies f.at (result_type (functions f) f.at) f.argument steps s r.text.items → Rules Judges (ran_lines table) (evaluated table.values steps ∷ []) f (Ok r)
    from Done is h = (goes (with_value h.0 h.1 f), inr (with_value h.0 h.1 f, (h.0, h.1, refl, h.2), refl), (is, h.3))
    from StepLimit is h = (refuses StepLimit r.text.items, inl (tt, (refl, h.1, h.0)), (is, refl))
    from Refused is h = absurd h
    from Usage is h = absurd h
    from ReadFault is h = absurd h
    from WriteFault is h = absurd h
    from NoMemory is h = absurd h
    from HeapRefused is h = absurd h
    from CertRefused is h = absurd h
    from TooLarge is h = absurd h
