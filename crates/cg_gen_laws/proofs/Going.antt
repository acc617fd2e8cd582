-- The judgements of `gen` go, one after the other, and so its steps do.
use Rattle.std.proofs.Common.{◌≡◌, inr, ℕ, ◌+◌, ◌-◌, ◌^◌, ◌<◌, ◌≤◌, true, [], ◌∷◌, ◌++◌, Some, length, slice_get, refl, sym, ap, ◌∙◌, subst, arith}
use Rattle.cg_base.specs.Types.{Tau}
use Rattle.cg_heap.specs.declared.cell.Cell.TheVariants.{Slots}
use Rattle.cg_heap.specs.declared.cell.Scalar.TheVariants.{Address, Word}
use Rattle.cg_resolve_def.specs.Desugar.{functions_of}
use Rattle.cg_driver_entry.specs.Entries.{ReachesAbstract}
use Rattle.cg_driver_steps.proofs.Joining.{judged_runs, then_settles}
use Rattle.cg_driver_steps.specs.Steps.{Outcome, Runs, Settles, goes}
use Rattle.cg_driver_steps.specs.World.{World}
use Rattle.cg_driver_words.specs.Words.{default_steps, gen}
use Rattle.cg_gen.specs.Generated.{name, source, heap as made_heap}
use Rattle.cg_gen_def.specs.Kernels.{cell_type, functions}
use Rattle.cg_gen_def.specs.Programs.{program}
use Rattle.cg_gen_def.specs.Results.{cell_after, cost_of}
use Rattle.cg_gen_certificate_laws.specs.Laws.{CertificateIsShort}
use Rattle.cg_gen_text_laws.specs.Laws.{SourceIsShort, SourceIsSpelled}
use Rattle.cg_gen_names_laws.specs.Laws.{EntryIsLast, KernelIsMade, LimitsAreKept, NamesAreInOrder}
use Rattle.cg_gen_run_laws.specs.Laws.{EvaluationGives, HeapIsHeld, StepsAreEnough}
use Rattle.cg_gen_typing_laws.specs.Laws.{CoresAreDerived, InstancesAreWithin, KernelIsAccepted, TypesAreSmall}
use Rattle.cg_gen_typing_laws.proofs.Kernel.{functions_as_many}
use Rattle.cg_driver.specs.Accepted.{IsAcceptedSource}
use Rattle.cg_driver.specs.Commands.{HoldsArgument, Judges, Judgement, certifiable, entry_at, entry_rules, instanced, made, made_name, made_rules, run_rules, script_of, source_rules}
use Rattle.cg_driver.specs.Entered.{argument_type, is_entry}
use Rattle.cg_driver.specs.Externs.{Extern}
use Rattle.cg_driver.specs.Found.{Argument, Found, certificate_limit, functions as functions_found, heap_limit, with_argument, with_copies, with_entry, with_program, with_value}
use Rattle.cg_driver.specs.Instanced.{HasInstances, certified_text}
use Rattle.cg_driver.specs.Run.{Evaluates}
use Rattle.cg_driver.proofs.Saying.{accepted_settles}
use Rattle.cg_gen_laws.specs.Laws.{GenGoes, GenIsNeverRefused, GivesMade}
use Rattle.cg_gen_laws.proofs.Entered.{allowed, argument_is, concrete}
use Rattle.cg_gen_laws.proofs.Listed.{as_many, copies, evaluates, has_instances, is_accepted}
use Rattle.cg_gen_laws.proofs.Once.{once, settled}

-- what the heap file holds
abbrev cell : Argument
cell = record { cells = (1, Slots (Word 0 ∷ Word 0 ∷ [])) ∷ []; scalars = Address 1 ∷ []; value = cell_after 0 }

-- ---- the judgements behind those of the source, in a state with the kernel of so many functions

-- those of the entry
entered : (before : ℕ) (f : Found) → functions_found f ≡ functions (before + 1) → entry_at (name (before + 1)) (functions (before + 1)) ≡ Some before
    → Settles Judges (entry_rules made_name (name (before + 1))) f (goes (with_entry before f))
entered before f same named =
    let next = with_entry before f in
    inr (
      next,
      (before, refl, subst (λ fs. entry_at (name (before + 1)) fs ≡ Some before) (sym same) named),
      inr (
        next,
        (refl, subst (λ fs. is_entry (slice_get fs before) ≡ true) (sym same) (allowed before)),
        inr (next, (refl, subst (λ fs. ReachesAbstract fs before → ⊥) (sym same) (concrete (before + 1) before)), refl),
      ),
    )

-- those of the instances and the certificate
listed : (n : ℕ) (f : Found) → functions_found f ≡ functions n → HasInstances (functions n) (copies n) → length (certified_text (functions n)) ≤ certificate_limit
    → Settles Judges (instanced ∷ certifiable ∷ []) f (goes (with_copies (copies n) f))
listed n f same instances brief =
    let next = with_copies (copies n) f in
    inr (
      next,
      (copies n, refl, subst (λ fs. HasInstances fs (copies n)) (sym same) instances),
      inr (next, (refl, subst (λ fs. length (certified_text fs) ≤ certificate_limit) (sym same) brief), refl),
    )

-- those of a run
heap_fits : length made_heap ≤ heap_limit
heap_fits = omega arith

holds_at : (t : Tau) → t ≡ cell_type → HoldsArgument made_heap cell_type cell → HoldsArgument made_heap t cell
holds_at t is held = subst (λ x. HoldsArgument made_heap x cell) (sym is) held

ran : (table : Extern) (before : ℕ) (f : Found) → functions_found f ≡ functions (before + 1) → f.at ≡ before → f.heap ≡ made_heap
    → HoldsArgument made_heap cell_type cell → Evaluates table.values (functions (before + 1)) before cell.value default_steps (cell_after (before + 1)) (cost_of (before + 1))
    → Settles Judges (run_rules table made_name default_steps) f (goes (with_value (cell_after (before + 1)) (cost_of (before + 1)) (with_argument cell f)))
ran table before f same at heap held ends =
    let given = with_argument cell f in
    let next = with_value (cell_after (before + 1)) (cost_of (before + 1)) given in
    let takes : argument_type (functions_found f) f.at ≡ cell_type = (λ i. argument_type (same i) (at i)) ∙ argument_is before in
    inr (
      f,
      (refl, subst (λ bytes. length bytes ≤ heap_limit) (sym heap) heap_fits),
      inr (
        given,
        (cell, refl, subst (λ bytes. HoldsArgument bytes (argument_type (functions_found f) f.at) cell) (sym heap) (holds_at (argument_type (functions_found f) f.at) takes held)),
        inr (
          next,
          (
            cell_after (before + 1),
            cost_of (before + 1),
            refl,
            subst (λ fs. Evaluates table.values fs f.at cell.value default_steps (cell_after (before + 1)) (cost_of (before + 1))) (sym same)
                (subst (λ k. Evaluates table.values (functions (before + 1)) k cell.value default_steps (cell_after (before + 1)) (cost_of (before + 1))) (sym at) ends),
          ),
          refl,
        ),
      ),
    )

-- ---- all of them

-- the state that they go to
abbrev read : ℕ → Found
read n = with_program (program n) (made n)

abbrev ready : ℕ → Found
ready before = with_copies (copies (before + 1)) (with_entry before (read (before + 1)))

abbrev final : ℕ → Found
final before = with_value (cell_after (before + 1)) (cost_of (before + 1)) (with_argument cell (ready before))

-- so many functions are few enough for their names to be apart, and for their numbers to stand in their bodies
few_names : (n : ℕ) → n ≤ 4096 → n < 10 ^ 64
few_names n few = omega (arith, few)

few_numbers : (n : ℕ) → n ≤ 4096 → n < 2 ^ 32
few_numbers n few = omega (arith, few)

module _ (spelled : SourceIsSpelled) (short : SourceIsShort) (brief : CertificateIsShort)
    (names : NamesAreInOrder) (made_kernel : KernelIsMade) (limits : LimitsAreKept) (entry : EntryIsLast)
    (derived : CoresAreDerived) (typed : KernelIsAccepted) (types : TypesAreSmall) (within : InstancesAreWithin)
    (gives : EvaluationGives) (enough : StepsAreEnough) (held : HeapIsHeld) where
  kernel : (n : ℕ) → n ≤ 4096 → functions_of (program n) ≡ functions n
  kernel n few = made_kernel n (few_names n few)

  abbrev accepted : (n : ℕ) → n ≤ 4096 → IsAcceptedSource (source n) (functions n)
  accepted n few =
      is_accepted n (kernel n few) (spelled n few) (short n few) (names n (few_names n few)) (limits n few).0 (limits n few).1 (typed n (few_numbers n few)) (types n)

  instances : (n : ℕ) → n ≤ 4096 → HasInstances (functions n) (copies n)
  instances n few = let d = derived n (few_numbers n few) in has_instances n d.0 d.1 (within n few)

  ends : (table : Extern) (before : ℕ) → before + 1 ≤ 4096
      → Evaluates table.values (functions (before + 1)) before cell.value default_steps (cell_after (before + 1)) (cost_of (before + 1))
  ends table before few =
      let d = derived (before + 1) (few_numbers (before + 1) few) in
      evaluates gives table.values before default_steps d.0 d.1 (enough (before + 1) few)

  source_goes : (n : ℕ) → n ≤ 4096 → Settles Judges (source_rules made_name) (made n) (goes (read n))
  source_goes n few = accepted_settles made_name (source n) (functions n) (accepted n few) (made n) refl

  rest_goes : (table : Extern) (before : ℕ) → before + 1 ≤ 4096
      → Settles Judges (instanced ∷ certifiable ∷ run_rules table made_name default_steps) (with_entry before (read (before + 1))) (goes (final before))
  rest_goes table before few =
      then_settles Judges (instanced ∷ certifiable ∷ []) (run_rules table made_name default_steps) (with_entry before (read (before + 1))) (ready before) (goes (final before))
      (listed (before + 1) (with_entry before (read (before + 1))) (kernel (before + 1) few) (instances (before + 1) few) (brief (before + 1) few))
      (ran table before (ready before) (kernel (before + 1) few) refl refl held (ends table before few))

  entry_goes : (table : Extern) (before : ℕ) → before + 1 ≤ 4096
      → Settles Judges (entry_rules made_name (name (before + 1)) ++ instanced ∷ certifiable ∷ run_rules table made_name default_steps) (read (before + 1)) (goes (final before))
  entry_goes table before few =
      then_settles Judges (entry_rules made_name (name (before + 1))) (instanced ∷ certifiable ∷ run_rules table made_name default_steps)
      (read (before + 1)) (with_entry before (read (before + 1))) (goes (final before))
      (entered before (read (before + 1)) (kernel (before + 1) few) (entry before (few_names (before + 1) few))) (rest_goes table before few)

  all_go : (table : Extern) (before : ℕ) → before + 1 ≤ 4096 → Settles Judges (made_rules table (before + 1)) (made (before + 1)) (goes (final before))
  all_go table before few =
      then_settles Judges (source_rules made_name) (entry_rules made_name (name (before + 1)) ++ instanced ∷ certifiable ∷ run_rules table made_name default_steps)
      (made (before + 1)) (read (before + 1)) (goes (final before)) (source_goes (before + 1) few) (entry_goes table before few)

  gives_made : (before : ℕ) → before + 1 ≤ 4096 → GivesMade (before + 1) (final before)
  gives_made before few =
      let same = kernel (before + 1) few in
      record {
        source = refl;
        accepted = subst (IsAcceptedSource (source (before + 1))) (sym same) (accepted (before + 1) few);
        kernel = same;
        count = ap length same ∙ functions_as_many (before + 1);
        instances = as_many (before + 1);
        value = refl;
        cost = refl;
      }

  abbrev Goes : Extern → World → ℕ → Type 0
  Goes table world n =
      (found : Found) × Runs Judges (script_of table (Some (gen n))).steps (script_of table (Some (gen n))).start world (goes found) world × GivesMade n found

  goes_behind : (table : Extern) (world : World) (before : ℕ) → before + 1 ≤ 4096 → Goes table world (before + 1)
  goes_behind table world before few = (
    final before,
    judged_runs Judges (made_rules table (before + 1)) [] (made (before + 1)) (final before) world world (goes (final before)) (all_go table before few) (refl, refl),
    gives_made before few,
  )

  pub gen_goes : GenGoes
  gen_goes table n some few world =
      let same : (n - 1) + 1 ≡ n = omega (arith, some) in
      subst (Goes table world) same (goes_behind table world (n - 1) (omega (arith, some, few)))

-- ---- nothing else

pub never_refused : ((j : Judgement) (f : Found) (o o' : Outcome Found) → Judges j f o → Judges j f o' → o ≡ o') → GenGoes → GenIsNeverRefused
never_refused single go table n some few old new outcome r =
    let g = go table n some few old in
    let wanted = settled Judges (made_rules table n) (made n) old old (goes g.0) g.1 in
    let came = settled Judges (made_rules table n) (made n) old new outcome r in
    (g.0, once Judges single (made_rules table n) (made n) g.0 outcome wanted.0 came.0, g.2, came.1)
