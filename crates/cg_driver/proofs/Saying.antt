-- From what the functions for judgements answer to what the judgements come to.
use Rattle.std.proofs.Common.{◌≡◌, inl, inr, ◌<◌, ◌≤◌, ◌+◌, ℕ, Bool, true, false, cond, List, [], ◌∷◌, Option, Some, None, Result, Ok, Err, length, map, refl, sym, ap, ◌∙◌, subst, arith}
use Rattle.std.specs.Prelude.{codes, IfOk, nat_lt, not, position, slice_get, bytes_eq}
use Rattle.std.specs.List.{position_or_len}
use Rattle.cg_base.specs.declared.limit.Limit.{Limit}
use Rattle.cg_base.specs.declared.limit.Limit.TheVariants as limits
use Rattle.cg_base.specs.declared.memory.Memory.{Memory}
use Rattle.cg_base.specs.declared.place.Place.{Place}
use Rattle.cg_base.specs.Places.{most}
use Rattle.cg_cert.specs.Laws.{AreNamed}
use Rattle.cg_check.specs.declared.refusal.Refusal.TheVariants.{Limit as Beyond}
use Rattle.cg_check.specs.Judged.{IsChecked, Refuses}
use Rattle.cg_faults.specs.Fails.{AreTypesWithin, Fails}
use Rattle.cg_check_def.specs.Kept.{function_tree}
use Rattle.cg_core.specs.declared.kernel.KFun.{KFun}
use Rattle.cg_core.specs.declared.kernel.Kernel.{Kernel}
use Rattle.cg_core.specs.Kernels.{Function, function_of, kernel_of}
use Rattle.cg_resolve_def.specs.Desugar.{deepest_body, functions_of, functions_limit, term_limit, NamesStand, WithinLimits}
use Rattle.cg_resolve_def.specs.Faults.{NameFault, program_faults}
use Rattle.cg_resolve_def.specs.Mentions.{mentions}
use Rattle.cg_resolve_def.specs.Order.{AreOrdered, AreGrowing}
use Rattle.cg_resolve_def.specs.Takes.{missing_fields}
use Rattle.cg_graphs.specs.Circles.{NoCircle}
use Rattle.cg_driver_entry.specs.Entries.{ReachesAbstract}
use Rattle.cg_faults.specs.declared.rule.Rule.{Rule}
use Rattle.cg_faults.specs.Rule.{rule, type_limit}
use Rattle.cg_base.specs.Types.{Tau}
use Rattle.cg_heaptext.specs.Answers.{Answers as Answered, IsFault}
use Rattle.cg_heaptext.specs.declared.fault.HeapFault.{HeapFault}
use Rattle.cg_heaptext.specs.declared.fault.HeapFault.TheVariants.{H1, H2, H3, H4, H5, H6, H7, Memory as Wanting}
use Rattle.cg_heaptext.specs.declared.start.Start.{Start}
use Rattle.cg_core_def.specs.Lawful.{IsLawfulKernel}
use Rattle.cg_resolve_names.specs.Says.{IsFirst}
use Rattle.cg_resolve_takes.specs.Says as takes
use Rattle.cg_parser_def.specs.Grammar.{Spells}
use Rattle.cg_parser_def.specs.Bounded.{depth_limit}
use Rattle.cg_parser_laws.proofs.ItemFaults.{spelled_ordered}
use Rattle.cg_parser_laws.proofs.ItemTakes.{spelled_growing}
use Rattle.cg_parser_laws.proofs.Spelling.{spelled_named}
use Rattle.cg_resolve.specs.Answers.{IsCircleAt, Passes}
use Rattle.cg_driver_steps.specs.declared.report.Report.{Report}
use Rattle.cg_driver_steps.specs.declared.report.Step.{Step}
use Rattle.cg_driver_steps.specs.declared.report.Step.TheVariants.{Goes, Ends}
use Rattle.cg_driver_steps.specs.declared.status.Status.{Status}
use Rattle.cg_driver_steps.specs.declared.status.Status.TheVariants.{Refused, HeapRefused, TooLarge}
use Rattle.cg_driver_steps.specs.Steps.{refuses, goes, Settles}
use Rattle.cg_driver_steps.specs.Parts.{IsLine, Reports, Steps, Judged}
use Rattle.cg_driver_steps.proofs.Joining.{then_settles, ends_settles}
use Rattle.cg_surface.specs.Programs.{Entry, program_depth}
use Rattle.cg_typing.specs.Accepted.{IsAcceptedKernel}
use Rattle.cg_typing.specs.declared.checked.Checked.{Checked}
use Rattle.cg_typing.specs.Holds.{kernel_in, cores_in, trees_in}
use Rattle.cg_typing.specs.Parts.{nodes, type_size}
use Rattle.cg_typing.specs.Kept.{AreKept, maybe_core, maybe_tree}
use Rattle.cg_driver.specs.Accepted.{HasKernel, IsAcceptedSource}
use Rattle.cg_driver.specs.Commands.{HoldsArgument, Judgement, RefusesSyntax, Judges, kernel_rules, resolving_rules, reading_rules, source_rules, entry_rules, type_rules, heap_rules, entry_at}
use Rattle.cg_driver.specs.Entered.{argument_type, is_entry}
use Rattle.cg_driver.specs.Found.{Found, with_program, with_entry, with_argument, functions, source_limit, heap_limit}
use Rattle.cg_driver.specs.Judged.{functions_in, IsCheckedKernel, IsCheckedSource, IsKernelOf, IsReadSource, Keeps, RefusesKernel, RefusesProgram, RefusesReading, RefusesSource, RefusesEntry, RefusesFunction, RefusesBytes, IsAllowed, IsAllowedAt, IsEntry, IsStartOf, argument_of}
use Rattle.cg_driver_lines.specs.Lines.{IsFaultOfFile, fault_line, name_rule, rule_line, no_entry_line, entry_type_line, abstract_line, heap_line, limit_name, limit_line}
use Rattle.cg_driver.proofs.Sources.{accepted_source, resolved_in}

-- a report of a line says what the line says
pub line_says : (Q : Status → List ℕ → Type 0) (wanted : Status) (line : List ℕ) (r : Report) → IsLine wanted line r → Q wanted line → Reports Q r
line_says Q wanted line r is q = subst (λ s. Q s r.text.items) (sym is.0) (subst (λ t. Q wanted t) (sym is.1) q)

pub each : {T E : Type 0} (P Q : T → Type 0) → ((r : T) → P r → Q r) → (r : Result T E) → IfOk r P → IfOk r Q
each P Q step (Ok r) h = step r h
each P Q step (Err e) h = tt

-- what holds of a step that goes on
pub goes_is : {T E : Type 0} (P : T → Type 0) (S : Status → List ℕ → Type 0) (r : Result (Step T) E) (x : T) → r ≡ Ok (Goes x) → IfOk r (Steps P S) → P x
goes_is P S r x is said = subst (λ y. IfOk y (Steps P S)) is said

-- the same, where memory may have run out
pub line_told : {E : Type 0} (Q : Status → List ℕ → Type 0) (wanted : Status) (line : List ℕ) → Q wanted line → (r : Result Report E) → IfOk r (IsLine wanted line) → IfOk r (Reports Q)
line_told Q wanted line q r h = each (IsLine wanted line) (Reports Q) (λ x is. line_says Q wanted line x is q) r h

pub steps_follow : {T E : Type 0} (P Q : T → Type 0) (S U : Status → List ℕ → Type 0) → ((x : T) → P x → Q x) → ((s : Status) (text : List ℕ) → S s text → U s text)
    → (r : Result (Step T) E) → IfOk r (Steps P S) → IfOk r (Steps Q U)
steps_follow P Q S U on out (Ok (Goes x)) said = on x said
steps_follow P Q S U on out (Ok (Ends r)) said = out r.status r.text.items said
steps_follow P Q S U on out (Err e) said = tt

-- what a function for judgements answers is what they come to
pub steps_judged : {T : Type 0} (P : T → Type 0) (S : Status → List ℕ → Type 0) (K : T → Found → Type 0) (js : List Judgement) (f : Found)
    → ((x : T) → P x → (next : Found) × Settles Judges js f (goes next) × K x next) → ((s : Status) (text : List ℕ) → S s text → Settles Judges js f (refuses s text))
    → (r : Result (Step T) Memory) → IfOk r (Steps P S) → Judged Judges K js f r
steps_judged P S K js f on out (Ok (Goes x)) said = on x said
steps_judged P S K js f on out (Ok (Ends r)) said = out r.status r.text.items said
steps_judged P S K js f on out (Err e) said = tt

-- ---- kernels

-- a kernel that the checker keeps
pub kernel_kept : (kernel : Kernel) (checked : Checked) → IsChecked kernel checked → IsCheckedKernel (kernel_of kernel) checked
kernel_kept kernel checked c =
    record {
      accepted = c.accepted;
      within = c.within;
      same = ap kernel_of c.same;
      cores = (
        map maybe_tree (trees_in checked),
        subst (λ k. AreKept (kernel_of k) (kernel_of k) (map maybe_core (cores_in checked)) (map maybe_tree (trees_in checked))) (sym c.same) c.kept,
      );
      marks = record {
        are = subst (λ k. map maybe_tree (trees_in checked) ≡ map (function_tree (kernel_of k)) (kernel_of k)) (sym c.same) c.trees;
        kept = subst (λ k. AreKept (kernel_of k) (kernel_of k) (map maybe_core (cores_in checked)) (map (function_tree (kernel_of k)) (kernel_of k))) (sym c.same)
            (subst (AreKept (kernel_of kernel) (kernel_of kernel) (map maybe_core (cores_in checked))) c.trees c.kept);
      };
    }

-- one of which a rule fails
pub rule_refused : (file : List ℕ) (fs : List Function) (broken : Rule) (place : Place) → IsLawfulKernel fs → Fails fs (rule broken) place
    → RefusesKernel file fs Refused (fault_line file place (rule_line broken))
rule_refused file fs broken place lawful fails f same =
    inl (tt, inl (refl, record { lawful = subst IsLawfulKernel (sym same) lawful; broken = broken; place = place; fails = subst (λ x. Fails x (rule broken) place) (sym same) fails; line = refl }))

-- one of which a type passes the limit
pub type_refused : (file : List ℕ) (fs : List Function) (limit : Limit) (name : List ℕ) → name ≡ limit_name limit → IsLawfulKernel fs → Refuses fs (Beyond limit)
    → RefusesKernel file fs TooLarge (limit_line name)
type_refused file fs limit name is lawful h f same =
    inl (
      tt,
      inr (
        refl,
        record {
          lawful = subst IsLawfulKernel (sym same) lawful;
          place = h.1.0;
          fails = subst (λ x. Fails x type_limit h.1.0) (sym same) h.1.1;
          line = ap limit_line (is ∙ ap limit_name h.0);
        },
      ),
    )

-- ---- programs

-- names in order, and all within its limits
resolved : (file : List ℕ) (p : List Entry) → NamesStand p → WithinLimits p → (f : Found) → f.program ≡ p → Settles Judges (resolving_rules file) f (goes f)
resolved file p names within f same =
    let stand = subst NamesStand (sym same) names in
    let limits = subst WithinLimits (sym same) within in
    inr (
      f,
      (refl, stand.names),
      inr (
        f,
        (refl, stand.circles),
        inr (
          f,
          (refl, stand.fields),
          inr (f, (refl, limits.0), inr (f, (refl, limits.1), inr (f, (refl, limits.2), inr (f, (refl, limits.3), refl)))),
        ),
      ),
    )

-- its kernel
pub kernel_read : (p : List Entry) (kernel : Kernel) → NamesStand p → WithinLimits p → kernel_of kernel ≡ functions_of p → IsLawfulKernel (kernel_of kernel) → IsKernelOf p kernel
kernel_read p kernel names limits same lawful = record { names = names; limits = limits; same = same; lawful = lawful }

module _ (file : List ℕ) (p : List Entry) where
  -- the first fault N1, N2 or N4
  pub misnamed : (fault : NameFault) → IsFirst fault (program_faults p) → RefusesProgram file p Refused (name_rule file fault)
  misnamed fault first ordered growing f same =
      inl (tt, (refl, record { ordered = subst (λ q. AreOrdered (program_faults q)) (sym same) ordered; fault = fault; first = subst (λ q. IsFirst fault (program_faults q)) (sym same) first; line = refl }))

  pub circular : (place : Place) → program_faults p ≡ [] → IsCircleAt p place → RefusesProgram file p Refused (fault_line file place (codes "N3 circle of mentions"))
  circular place none first ordered growing f same =
      inr (f, (refl, ap program_faults same ∙ none), inl (tt, (refl, record { place = place; first = subst (λ q. IsCircleAt q place) (sym same) first; line = refl })))

  pub untakable : (place : Place) → program_faults p ≡ [] → NoCircle (mentions p) → takes.IsFirst place (missing_fields p) → RefusesProgram file p Refused (fault_line file place (codes "N5 take of no field"))
  untakable place none straight first ordered growing f same =
      inr (
        f,
        (refl, ap program_faults same ∙ none),
        inr (
          f,
          (refl, subst (λ q. NoCircle (mentions q)) (sym same) straight),
          inl (
            tt,
            (
              refl,
              record {
                growing = subst (λ q. AreGrowing (missing_fields q)) (sym same) growing;
                place = place;
                first = subst (λ q. takes.IsFirst place (missing_fields q)) (sym same) first;
                line = refl;
              },
            ),
          ),
        ),
      )

  -- the first limit that is passed
  passes : (limit : Limit) → NamesStand p → Passes p limit → (f : Found) → f.program ≡ p → Settles Judges (resolving_rules file) f (refuses TooLarge (limit_line (limit_name limit)))
  passes limit names found f same = go limit (subst NamesStand (sym same) names) (subst (λ q. Passes q limit) (sym same) found)
    where
      go : (limit : Limit) → NamesStand f.program → Passes f.program limit → Settles Judges (resolving_rules file) f (refuses TooLarge (limit_line (limit_name limit)))
      go limits.Functions s h = inr (f, (refl, s.names), inr (f, (refl, s.circles), inr (f, (refl, s.fields), inl (tt, (refl, refl, h)))))
      go limits.Fields s h = inr (f, (refl, s.names), inr (f, (refl, s.circles), inr (f, (refl, s.fields), inr (f, (refl, h.0), inl (tt, (refl, refl, h.1))))))
      go limits.Ty s h = inr (f, (refl, s.names), inr (f, (refl, s.circles), inr (f, (refl, s.fields), inr (f, (refl, h.0), inr (f, (refl, h.1), inl (tt, (refl, refl, h.2)))))))
      go limits.Depth s h = inr (f, (refl, s.names), inr (f, (refl, s.circles), inr (f, (refl, s.fields), inr (f, (refl, h.0), inr (f, (refl, h.1), inr (f, (refl, h.2), inl (tt, (refl, refl, h.3))))))))
      go limits.Source s h = absurd h
      go limits.Nesting s h = absurd h
      go limits.Instances s h = absurd h
      go limits.Core s h = absurd h
      go limits.Heap s h = absurd h
      go limits.Certificate s h = absurd h

  pub limited : (limit : Limit) (name : List ℕ) → name ≡ limit_name limit → NamesStand p → Passes p limit → RefusesProgram file p TooLarge (limit_line name)
  limited limit name is names found ordered growing f same =
      subst (λ n. Settles Judges (resolving_rules file) f (refuses TooLarge (limit_line n))) (sym is) (passes limit names found f same)

-- ---- sources

-- a source is read as the one program that it spells within the depth
pub source_read : (source : List ℕ) (p : List Entry) → length source ≤ source_limit → Spells source p → program_depth p ≤ depth_limit
    → (kernel : Kernel) → IsKernelOf p kernel → IsReadSource source kernel
source_read source p short spelled deep kernel c =
    record {
      program = p;
      short = short;
      resolved = record { spelled = spelled; shallow = deep; names = c.names; limits = c.limits };
      same = c.same;
      lawful = c.lawful;
    }

pub program_refused : (file source : List ℕ) (p : List Entry) → length source ≤ source_limit → Spells source p → program_depth p ≤ depth_limit
    → (s : Status) (text : List ℕ) → RefusesProgram file p s text → RefusesReading file source s text
program_refused file source p short spelled deep s text j f same =
    let told : length source < most = omega (arith, short) in
    let next = with_program p f in
    inr (
      f,
      (refl, subst (λ x. length x ≤ source_limit) (sym same) short),
      inr (
        next,
        (p, refl, subst (λ x. Spells x p) (sym same) spelled),
        inr (
          next,
          (refl, deep),
          j (spelled_ordered source p told spelled) (spelled_growing source p told spelled) next refl,
        ),
      ),
    )

pub long_refused : (file source : List ℕ) → source_limit < length source → RefusesReading file source TooLarge (limit_line (codes "source"))
long_refused file source long f same = inl (tt, (refl, refl, subst (λ x. source_limit < length x) (sym same) long))

pub syntax_refused : (file source text : List ℕ) → length source ≤ source_limit → RefusesSyntax file source text → RefusesReading file source Refused text
syntax_refused file source text short s f same =
    inr (f, (refl, subst (λ x. length x ≤ source_limit) (sym same) short), inl (tt, (refl, subst (λ x. RefusesSyntax file x text) (sym same) s)))

pub deep_refused : (file source : List ℕ) → length source ≤ source_limit → (p : List Entry) × Spells source p × (depth_limit < program_depth p) × ((q : List Entry) → Spells source q → q ≡ p)
    → RefusesReading file source TooLarge (limit_line (codes "nesting"))
deep_refused file source short beyond f same =
    inr (f, (refl, subst (λ x. length x ≤ source_limit) (sym same) short), inr (with_program beyond.0 f, (beyond.0, refl, subst (λ x. Spells x beyond.0) (sym same) beyond.1), inl (tt, (refl, refl, beyond.2))))

-- the rules of reading of a source that has a kernel all go
pub reading_settles : (file source : List ℕ) (p : List Entry) → length source ≤ source_limit → HasKernel source p → (f : Found) → f.source ≡ source
    → Settles Judges (reading_rules file) f (goes (with_program p f))
reading_settles file source p short has f same =
    let next = with_program p f in
    inr (
      f,
      (refl, subst (λ x. length x ≤ source_limit) (sym same) short),
      inr (
        next,
        (p, refl, subst (λ x. Spells x p) (sym same) has.spelled),
        inr (next, (refl, has.shallow), resolved file p has.names has.limits next refl),
      ),
    )

-- and those of a source that is accepted
pub accepted_settles : (file source : List ℕ) (fs : List Function) (a : IsAcceptedSource source fs) (f : Found) → f.source ≡ source → Settles Judges (source_rules file) f (goes (with_program a.accepted.program f))
accepted_settles file source fs a f same =
    let next = with_program a.accepted.program f in
    then_settles Judges (reading_rules file) (kernel_rules file) f next (goes next)
    (reading_settles file source a.accepted.program a.limits.short (resolved_in source fs a) f same) (inr (next, (refl, a.accepted.typed, a.limits.types), refl))

-- a source is refused where it isn't read, and where its kernel is refused
pub reading_refused : (file source : List ℕ) (s : Status) (text : List ℕ) → RefusesReading file source s text → RefusesSource file source s text
reading_refused file source s text j f same = ends_settles Judges (reading_rules file) (kernel_rules file) f (refuses s text) tt (j f same)

pub kernel_refused : (file source : List ℕ) (kernel : Kernel) → IsReadSource source kernel → (s : Status) (text : List ℕ) → RefusesKernel file (kernel_of kernel) s text → RefusesSource file source s text
kernel_refused file source kernel r s text j f same =
    then_settles Judges (reading_rules file) (kernel_rules file) f (with_program r.program f) (refuses s text)
    (reading_settles file source r.program r.short r.resolved f same) (j (with_program r.program f) (sym r.same))

-- what is said of a source that is read up to its kernel
pub read_is : (file source : List ℕ) (r : Result (Step Kernel) Memory) (kernel : Kernel) → r ≡ Ok (Goes kernel) → IfOk r (Steps (IsReadSource source) (RefusesReading file source)) → IsReadSource source kernel
read_is file source r kernel is said = subst (λ x. IfOk x (Steps (IsReadSource source) (RefusesReading file source))) is said

pub unread_is : (file source : List ℕ) (r : Result (Step Kernel) Memory) (report : Report) → r ≡ Ok (Ends report) → IfOk r (Steps (IsReadSource source) (RefusesReading file source))
    → Reports (RefusesSource file source) report
unread_is file source r report is said =
    reading_refused file source report.status report.text.items (subst (λ x. IfOk x (Steps (IsReadSource source) (RefusesReading file source))) is said)

pub source_checked : (source : List ℕ) (kernel : Kernel) → IsReadSource source kernel → (checked : Checked) → IsCheckedKernel (kernel_of kernel) checked → IsCheckedSource source checked
source_checked source kernel r checked c =
    record {
      accepted = accepted_source source r.program (functions_in checked) r.short r.resolved (subst IsAcceptedKernel r.same c.accepted) (subst AreTypesWithin r.same c.within) (c.same ∙ r.same);
      cores = c.cores;
      ready = record {
        marks = c.marks;
        named = subst AreNamed (sym (c.same ∙ r.same)) (spelled_named source r.program r.resolved.spelled);
        shallow = subst (λ fs. deepest_body fs ≤ term_limit) (sym (c.same ∙ r.same)) r.resolved.limits.3;
      };
      few = subst (λ fs. length fs ≤ functions_limit) (sym (c.same ∙ r.same)) r.resolved.limits.0;
    }

pub source_judged : (file source : List ℕ) (f : Found) → f.source ≡ source → (r : Result (Step Checked) Memory) → IfOk r (Steps (IsCheckedSource source) (RefusesSource file source)) → Judged Judges Keeps (source_rules file) f r
source_judged file source f same r said =
    steps_judged (IsCheckedSource source) (RefusesSource file source) Keeps (source_rules file) f
    (λ checked c. (
      with_program c.accepted.accepted.program f,
      accepted_settles file source (functions_in checked) c.accepted f same,
      record { same = sym c.accepted.kernel; cores = c.cores; few = c.few },
    ))
    (λ s text j. j f same) r said

-- ---- entries

-- the entry among the functions of the program and among what they stand for
entry_mapped : (name : List ℕ) (fs : List KFun) → position (λ f. bytes_eq f.at.name name) fs ≡ entry_at name (map function_of fs)
entry_mapped name fs = λ i. cond (nat_lt (lens fs i) (longs fs i)) (Some (lens fs i)) None
  where
    lens : (fs : List KFun) → position_or_len (λ f. bytes_eq f.at.name name) fs ≡ position_or_len (λ f. bytes_eq f.at.name name) (map function_of fs)
    lens [] = refl
    lens (f ∷ fs) = λ i. cond (not (bytes_eq f.at.name name)) (1 + lens fs i) 0

    longs : (fs : List KFun) → length fs ≡ length (map function_of fs)
    longs [] = refl
    longs (f ∷ fs) = omega (arith, longs fs)

pub entry_found : (name : List ℕ) (checked : Checked) (kernel : Kernel) (fs : List KFun) (o : Option ℕ) → kernel ≡ kernel_in checked → fs ≡ kernel.funs
    → o ≡ position (λ f. bytes_eq f.at.name name) fs → entry_at name (functions_in checked) ≡ o
entry_found name checked kernel fs o k f e =
    sym (e ∙ ap (position (λ f. bytes_eq f.at.name name)) f ∙ entry_mapped name kernel.funs ∙ ap (λ x. entry_at name (kernel_of x)) k)

-- the functions that the code looks at are those of the source
pub functions_seen : (checked : Checked) (kernel : Kernel) (fs : List KFun) → kernel ≡ kernel_in checked → fs ≡ kernel.funs → map function_of fs ≡ functions_in checked
functions_seen checked kernel fs k f = ap (map function_of) f ∙ ap kernel_of k

pub absent_refused : (file entry : List ℕ) (fs : List Function) → entry_at entry fs ≡ None → RefusesEntry file entry fs Refused (no_entry_line file)
absent_refused file entry fs none f same = inl (tt, (refl, refl, ap (entry_at entry) same ∙ none))

-- one whose type isn't allowed, and one that reaches an abstract function
module _ (file : List ℕ) (fs : List Function) (at : ℕ) (f : Found) (same : functions f ≡ fs) (there : f.at ≡ at) where
  typed_here : (b : Bool) → is_entry (slice_get fs at) ≡ b → is_entry (slice_get (functions f) f.at) ≡ b
  typed_here b is = ap (λ gs. is_entry (slice_get gs f.at)) same ∙ ap (λ i. is_entry (slice_get fs i)) there ∙ is

  reaches_here : ReachesAbstract fs at → ReachesAbstract (functions f) f.at
  reaches_here r = subst (λ gs. ReachesAbstract gs f.at) (sym same) (subst (ReachesAbstract fs) (sym there) r)

  reached_there : ReachesAbstract (functions f) f.at → ReachesAbstract fs at
  reached_there r = subst (ReachesAbstract fs) there (subst (λ gs. ReachesAbstract gs f.at) same r)

  mistyped : is_entry (slice_get fs at) ≡ false → Settles Judges (type_rules file) f (refuses Refused (entry_type_line file))
  mistyped is = inl (tt, (refl, refl, typed_here false is))

  reaching : is_entry (slice_get fs at) ≡ true → ReachesAbstract fs at → Settles Judges (type_rules file) f (refuses Refused (abstract_line file))
  reaching is r = inr (f, (refl, typed_here true is), inl (tt, (refl, refl, reaches_here r)))

  settled : IsAllowed fs at → Settles Judges (type_rules file) f (goes f)
  settled a = inr (f, (refl, typed_here true a.typed), inr (f, (refl, λ r. a.concrete (reached_there r)), refl))

pub mistyped_refused : (file : List ℕ) (fs : List Function) (at : ℕ) → is_entry (slice_get fs at) ≡ false → RefusesFunction file fs at Refused (entry_type_line file)
mistyped_refused file fs at is f same there = mistyped file fs at f same there is

pub reaching_refused : (file : List ℕ) (fs : List Function) (at : ℕ) → is_entry (slice_get fs at) ≡ true → ReachesAbstract fs at → RefusesFunction file fs at Refused (abstract_line file)
reaching_refused file fs at is r f same there = reaching file fs at f same there is r

-- one that is found, and then refused
pub function_refused : (file entry : List ℕ) (fs : List Function) (at : ℕ) → entry_at entry fs ≡ Some at → (s : Status) (text : List ℕ) → RefusesFunction file fs at s text
    → RefusesEntry file entry fs s text
function_refused file entry fs at named s text j f same = inr (with_entry at f, (at, refl, ap (entry_at entry) same ∙ named), j (with_entry at f) same refl)

-- what is said of the function that an entry is, is said of the entry
pub entry_told : (file entry : List ℕ) (fs : List Function) (at : ℕ) → entry_at entry fs ≡ Some at → (r : Result (Step ℕ) Memory)
    → IfOk r (Steps (IsAllowedAt fs at) (RefusesFunction file fs at)) → IfOk r (Steps (IsEntry entry fs) (RefusesEntry file entry fs))
entry_told file entry fs at named r said =
    steps_follow (IsAllowedAt fs at) (IsEntry entry fs) (RefusesFunction file fs at) (RefusesEntry file entry fs)
    (λ next a. record { named = named ∙ ap Some (sym a.0); allowed = subst (IsAllowed fs) (sym a.0) a.1 })
    (function_refused file entry fs at named) r said

-- a state in which the entry was found
pub record HasEntry (fs : List Function) (at : ℕ) (next : Found) : Type 0 where
  pub same : functions next ≡ fs
  pub found : next.at ≡ at

pub entry_judged : (file entry : List ℕ) (fs : List Function) (f : Found) → functions f ≡ fs → (r : Result (Step ℕ) Memory) → IfOk r (Steps (IsEntry entry fs) (RefusesEntry file entry fs))
    → Judged Judges (λ at next. HasEntry fs at next) (entry_rules file entry) f r
entry_judged file entry fs f same r said =
    steps_judged (IsEntry entry fs) (RefusesEntry file entry fs) (λ at next. HasEntry fs at next) (entry_rules file entry) f
    (λ at e. (
      with_entry at f,
      inr (with_entry at f, (at, refl, ap (entry_at entry) same ∙ e.named), settled file fs at (with_entry at f) same refl e.allowed),
      record { same = same; found = refl },
    ))
    (λ s text j. j f same) r said

-- ---- heap files

pub heap_long_refused : (heap bytes : List ℕ) (t : Tau) → heap_limit < length bytes → RefusesBytes heap bytes t TooLarge (limit_line (codes "heap"))
heap_long_refused heap bytes t long f same is = inl (tt, (refl, refl, subst (λ x. heap_limit < length x) (sym same) long))

-- a fault of the answer that isn't want of memory is the first one
fault_is : (bytes : List ℕ) (t : Tau) (fault : HeapFault) → Answered bytes t (Err fault) → IsFaultOfFile fault → IsFault bytes t fault
fault_is bytes t (H1 line) a real = a
fault_is bytes t (H2 line) a real = a
fault_is bytes t (H3 line) a real = a
fault_is bytes t (H4 line) a real = a
fault_is bytes t (H5 line) a real = a
fault_is bytes t (H6 line) a real = a
fault_is bytes t (H7 line) a real = a
fault_is bytes t Wanting a real = absurd real

pub heap_fault_refused : (heap bytes : List ℕ) (t : Tau) → length bytes ≤ heap_limit → (fault : HeapFault) → Answered bytes t (Err fault) → IsFaultOfFile fault
    → RefusesBytes heap bytes t HeapRefused (heap_line heap fault)
heap_fault_refused heap bytes t short fault a real f same is =
    inr (
      f,
      (refl, subst (λ x. length x ≤ heap_limit) (sym same) short),
      inl (
        tt,
        (
          refl,
          record {
            fault = fault;
            first = subst (λ x. IsFault x (argument_type (functions f) f.at) fault) (sym same) (subst (λ u. IsFault bytes u fault) (sym is) (fault_is bytes t fault a real));
            line = refl;
          },
        ),
      ),
    )

-- a state in which the argument was found
pub record HasArgument (f : Found) (start : Start) (next : Found) : Type 0 where
  pub same : next ≡ with_argument (argument_of start) f

pub bytes_judged : (heap bytes : List ℕ) (t : Tau) (f : Found) → f.heap ≡ bytes → argument_type (functions f) f.at ≡ t → (r : Result (Step Start) Memory)
    → IfOk r (Steps (IsStartOf bytes t) (RefusesBytes heap bytes t)) → Judged Judges (HasArgument f) (heap_rules heap) f r
bytes_judged heap bytes t f same is r said =
    steps_judged (IsStartOf bytes t) (RefusesBytes heap bytes t) (HasArgument f) (heap_rules heap) f
    (λ start a. (
      with_argument (argument_of start) f,
      inr (f, (refl, subst (λ x. length x ≤ heap_limit) (sym same) a.short), inr (with_argument (argument_of start) f, (argument_of start, refl, text_here start a), refl)),
      record { same = refl },
    ))
    (λ s text j. j f same is) r said
  where
    text_here : (start : Start) → IsStartOf bytes t start → HoldsArgument f.heap (argument_type (functions f) f.at) (argument_of start)
    text_here start a = subst (λ x. HoldsArgument x (argument_type (functions f) f.at) (argument_of start)) (sym same) (subst (λ u. HoldsArgument bytes u (argument_of start)) (sym is) a.held.text)

-- what the reader answers of a file within its limit
pub start_here : (bytes : List ℕ) (t : Tau) (start : Start) → length bytes ≤ heap_limit → nodes t ≤ type_size → Answered bytes t (Ok start) → IsStartOf bytes t start
start_here bytes t start short small a = record { short = short; held = a.holds small }
