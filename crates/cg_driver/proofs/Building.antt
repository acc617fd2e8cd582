-- From what the functions of `build` answer to what its judgements and writes come to.
use Rattle.std.proofs.Common.{◌≡◌, ◌∙◌, ◌<◌, ◌≤◌, inl, inr, ℕ, List, [], ◌∷◌, Result, Ok, Err, length, map, refl, sym, ap, subst, arith}
use Rattle.std.proofs.lemmas.List.{length-map}
use Rattle.std.specs.Prelude.{IfOk, Vec, codes}
use Rattle.std.specs.declared.alloc.Global.{Global}
use Rattle.cg_base.specs.declared.limit.Limit.{Limit}
use Rattle.cg_base.specs.declared.limit.Limit.TheVariants as limits
use Rattle.cg_base.specs.declared.memory.Memory.{Memory}
use Rattle.cg_cert.proofs.Marked.{kept as are_marked}
use Rattle.cg_cert.proofs.Printed.{printed as certificate_printed}
use Rattle.cg_cert.specs.Certificates.{certificate}
use Rattle.cg_cert.specs.Texts.{text as text_of}
use Rattle.cg_check_def.specs.Kept.{function_tree}
use Rattle.cg_lower.specs.Collected.{Copy}
use Rattle.cg_lower.specs.Copies.{copies_of, pair_of}
use Rattle.cg_core.specs.declared.kernel.KFun.{KFun}
use Rattle.cg_core.specs.declared.kernel.Kernel.{Kernel}
use Rattle.cg_core.specs.Kernels.{function_of, kernel_of}
use Rattle.cg_ctext.specs.Printed.{printed}
use Rattle.cg_ctree.specs.Spells.{CSpells, IsPrintable}
use Rattle.cg_ctree.specs.Trees.{Program}
use Rattle.cg_resolve_def.specs.Desugar.{deepest_body}
use Rattle.cg_heap.specs.ForeignHeaps.{ForeignHeap, IsLawfulOnHeaps}
use Rattle.cg_heap.specs.NoForeignHeap.{no_foreign_heap, none_is_lawful_on_heaps}
use Rattle.cg_inst.specs.Answered.{Answers}
use Rattle.cg_inst.specs.declared.fault.InstFault.TheVariants.{Limit as OverLimit}
use Rattle.cg_inst.specs.Judged.{AreTooMany, HaveLargeTypes, HaveTooManyNodes, IsWithin, core_in}
use Rattle.cg_inst.specs.Lists.{Cores}
use Rattle.cg_inst.specs.Views.{instance_of}
use Rattle.cg_inst_laws.specs.Laws.{entry_of}
use Rattle.cg_lower.specs.Programs.{lowered}
use Rattle.cg_lower.specs.Promises.{CanBePrinted, IsSimulated}
use Rattle.cg_mono.specs.Copies.{copy_of}
use Rattle.cg_mono.specs.declared.copies.Copy.{Copy as OneCopy}
use Rattle.cg_mono.specs.declared.copies.Mono.{Mono}
use Rattle.cg_mono.specs.Monos.{copies_in as kept_copies}
use Rattle.cg_driver_laws.proofs.Refined.{sources_are_refined}
use Rattle.cg_driver_laws.specs.Laws.{SourcesPrint, copies_in, copies_over}
use Rattle.cg_driver_steps.specs.declared.report.Report.{Report}
use Rattle.cg_driver_steps.specs.declared.report.Step.{Step}
use Rattle.cg_driver_steps.specs.declared.status.Status.TheVariants.{Done, TooLarge}
use Rattle.cg_driver_steps.specs.Parts.{IsLine, Judged, Rules, Steps}
use Rattle.cg_driver_steps.specs.Steps.{goes}
use Rattle.cg_typing.specs.declared.checked.Checked.{Checked}
use Rattle.cg_typing.specs.Holds.{cores_in, kernel_in, trees_in}
use Rattle.cg_typing.specs.Instances.{Entry, Instance}
use Rattle.cg_typing.specs.Kept.{AreKept, maybe_core, maybe_tree}
use Rattle.cg_driver.specs.Built.{IsWritten, IsListed, KeepsCopies, RefusesCertificate, RefusesInstances}
use Rattle.cg_driver.specs.Commands.{Judges, IsBuilt, certifiable, instanced}
use Rattle.cg_driver.specs.declared.build.Built.{Built}
use Rattle.cg_driver.specs.Found.{Found, certificate_limit, functions, with_copies}
use Rattle.cg_driver.specs.Instanced.{HasInstances, IsCompiled, IsMeant, IsProved, PassesInstances, RefinesOver, RefinesWith, bodies_in, certified_text, emitted, too_large, too_many, too_wide}
use Rattle.cg_driver.specs.Judged.{CanBeBuilt, HoldsCores, HoldsMarks, functions_in}
use Rattle.cg_driver_lines.specs.Lines.{built_line as written_line, limit_line, limit_name}
use Rattle.cg_driver.specs.Executed.{cores_of}
use Rattle.cg_driver.proofs.Cores.{one_list}
use Rattle.cg_driver.proofs.Executing.{bodies_same}
use Rattle.cg_driver.proofs.Saying.{steps_judged}
use Rattle.cg_value.specs.Foreign.{Foreign, IsLawful}
use Rattle.cg_value.specs.NoForeign.{no_foreign, none_is_lawful}

-- ---- instances

has_instances : (checked : Checked) → HoldsCores checked → (list : List Instance) → IsListed checked list → HasInstances (functions_in checked) (copies_in checked list)
has_instances checked cores list within =
    record {
      cores = cores_of checked;
      derived = cores;
      list = list;
      within = subst (λ (b : Cores). IsWithin (functions_in checked) b list) (bodies_same checked) within;
      are = ap (λ (b : Cores). copies_over (functions_in checked) b list) (bodies_same checked);
    }

-- a state behind another, in which these instances were found
pub record IsListedIn (checked : Checked) (f : Found) (list : List Instance) (next : Found) : Type 0 where
  pub kept : KeepsCopies checked list next
  pub at : next.at ≡ f.at

-- what is said of the list of a checked source is what the judgement comes to
pub listed_judged : (checked : Checked) → HoldsCores checked → (f : Found) → functions f ≡ functions_in checked → (r : Result (Step (List Instance)) Memory)
    → IfOk r (Steps (IsListed checked) (RefusesInstances (functions_in checked))) → Judged Judges (IsListedIn checked f) (instanced ∷ []) f r
listed_judged checked cores f same r said =
    steps_judged (IsListed checked) (RefusesInstances (functions_in checked)) (IsListedIn checked f) (instanced ∷ []) f
    (λ list within.
    let next = with_copies (copies_in checked list) f in (
      next,
      inr (next, (copies_in checked list, refl, subst (λ fs. HasInstances fs (copies_in checked list)) (sym same) (has_instances checked cores list within)), refl),
      record { kept = record { same = same; copies = refl }; at = refl },
    ))
    (λ s text j. j f same) r said

-- what was found stays where a state changes elsewhere
pub kept_on : {checked : Checked} {list : List Instance} {f next : Found} → functions next ≡ functions f → next.copies ≡ f.copies → KeepsCopies checked list f → KeepsCopies checked list next
kept_on same copies kept = record { same = same ∙ kept.same; copies = copies ∙ kept.copies }

module _ (checked : Checked) (cores : HoldsCores checked) where
  -- the same cores, as the list was made of them and as plain trees
  moved : (P : Cores → Type 0) → P (core_in checked) → P (bodies_in (cores_of checked))
  moved P h = subst P (bodies_same checked) h

  passes : (limit : Limit) → Answers (functions_in checked) (core_in checked) (Err (OverLimit limit)) → PassesInstances (functions_in checked) (limit_line (limit_name limit))
  passes limits.Instances h = too_many (cores_of checked) cores (moved (AreTooMany (functions_in checked)) h) refl
  passes limits.Core h = too_large (cores_of checked) cores (moved (HaveTooManyNodes (functions_in checked)) h) refl
  passes limits.Ty h = too_wide (cores_of checked) cores (moved (HaveLargeTypes (functions_in checked)) h) refl
  passes limits.Source h = absurd h
  passes limits.Nesting h = absurd h
  passes limits.Functions h = absurd h
  passes limits.Fields h = absurd h
  passes limits.Depth h = absurd h
  passes limits.Heap h = absurd h
  passes limits.Certificate h = absurd h

  -- one whose instances pass a limit
  pub instances_refused : (limit : Limit) (name : List ℕ) → name ≡ limit_name limit → Answers (functions_in checked) (core_in checked) (Err (OverLimit limit))
      → RefusesInstances (functions_in checked) TooLarge (limit_line name)
  instances_refused limit name is h f same =
      inl (tt, (refl, subst (PassesInstances (functions f)) (ap limit_line (sym is)) (subst (λ fs. PassesInstances fs (limit_line (limit_name limit))) (sym same) (passes limit h))))

-- ---- the C text

-- the copies of a list are those of the definition
pairs_same : (f : Instance → Entry) (cs : List OneCopy) → map copy_of cs ≡ map f (map (λ c. instance_of c.instance) cs)
    → map pair_of cs ≡ map (λ x. (x, f x)) (map (λ c. instance_of c.instance) cs)
pairs_same f [] same = refl
pairs_same f (c ∷ cs) same =
    let first : copy_of c ≡ f (instance_of c.instance) = cc in
    let rest : map copy_of cs ≡ map f (map (λ c. instance_of c.instance) cs) = cc in
    let others = pairs_same f cs rest in
    λ i. (instance_of c.instance, first i) ∷ others i

pub copies_same : (checked : Checked) (list : List Instance) (m : Mono) → map (λ c. instance_of c.instance) (kept_copies m) ≡ list
    → map copy_of (kept_copies m) ≡ map (entry_of (functions_in checked) (core_in checked)) list → copies_of m ≡ copies_in checked list
copies_same checked list m is entries =
    subst (λ xs. copies_of m ≡ map (λ x. (x, entry_of (functions_in checked) (core_in checked) x)) xs) is
    (pairs_same (entry_of (functions_in checked) (core_in checked)) (kept_copies m) (subst (λ xs. map copy_of (kept_copies m) ≡ map (entry_of (functions_in checked) (core_in checked)) xs) (sym is) entries))

module _ (checked : Checked) (list : List Instance) (m : Mono) (same : copies_of m ≡ copies_in checked list) (p : Program) where
  pub can_print : SourcesPrint → IsListed checked list → deepest_body (functions_in checked) ≤ 512 → CanBePrinted (copies_of m) p → IsPrintable p
  can_print law within shallow printed = law checked list p within.is (omega (arith, shallow)) (subst (λ cs. CanBePrinted cs p) same printed)

  pub text_emitted : p ≡ lowered (copies_of m) → (r : Result (Vec ℕ Global) Memory) → IfOk r (λ t. t.items ≡ printed p) → IfOk r (λ t. t.items ≡ emitted (copies_in checked list))
  text_emitted made (Ok t) is = is ∙ ap printed (made ∙ ap lowered same)
  text_emitted made (Err e) is = tt

  pub text_meant : p ≡ lowered (copies_of m) → IsSimulated (copies_of m) p → (r : Result (Vec ℕ Global) Memory) → IfOk r (λ t. CSpells t.items p) → IfOk r (λ t. t.items ≡ printed p)
      → IfOk r (λ t. IsMeant (copies_in checked list))
  text_meant made simulates (Ok t) spelled is =
      record { program = p; spelled = subst (λ bytes. CSpells bytes p) (is ∙ ap printed (made ∙ ap lowered same)) spelled; simulates = subst (λ cs. IsSimulated cs p) same simulates }
  text_meant made simulates (Err e) spelled is = tt

-- ---- the certificate

-- what is printed of the derivations that are kept is the text of the certificate
pub certificate_is : (checked : Checked) → HoldsMarks checked → (bytes : List ℕ) → bytes ≡ text_of (certificate (kernel_of (kernel_in checked)) (map maybe_tree (trees_in checked)))
    → bytes ≡ certified_text (functions_in checked)
certificate_is checked marks bytes is = is ∙ ap (λ trees. text_of (certificate (functions_in checked) trees)) marks.are

-- one that is too long
pub certificate_refused : (checked : Checked) → certificate_limit < length (certified_text (functions_in checked)) → RefusesCertificate (functions_in checked) TooLarge (limit_line (codes "certificate"))
certificate_refused checked long f same = inl (tt, (refl, refl, subst (λ fs. certificate_limit < length (certified_text fs)) (sym same) long))

-- a state as it was, in which the instances were found of which this is written
pub record KeepsBuilt (checked : Checked) (list : List Instance) (f : Found) (built : Built) (found : Found) : Type 0 where
  pub same : found ≡ f
  pub kept : KeepsCopies checked list found
  pub is : IsWritten checked list built

pub made_judged : (checked : Checked) (list : List Instance) (f : Found) → KeepsCopies checked list f → (r : Result (Step Built) Memory)
    → IfOk r (Steps (IsWritten checked list) (RefusesCertificate (functions_in checked))) → Judged Judges (KeepsBuilt checked list f) (certifiable ∷ []) f r
made_judged checked list f kept r said =
    steps_judged (IsWritten checked list) (RefusesCertificate (functions_in checked)) (KeepsBuilt checked list f) (certifiable ∷ []) f
    (λ built b. (f, inr (f, (refl, subst (λ fs. length (certified_text fs) ≤ certificate_limit) (sym kept.same) b.brief), refl), record { same = refl; kept = kept; is = b }))
    (λ s text j. j f kept.same) r said

-- ---- what is written

module _ (checked : Checked) (list : List Instance) (found : Found) (built : Built) (b : IsWritten checked list built) (kept : KeepsCopies checked list found) where
  pub text_is : (bytes : List ℕ) → bytes ≡ built.text.items → bytes ≡ emitted found.copies
  text_is bytes is = is ∙ b.text ∙ ap emitted (sym kept.copies)

  pub certificate_written : (bytes : List ℕ) → bytes ≡ built.certificate.items → bytes ≡ certified_text (functions found)
  certificate_written bytes is = is ∙ b.certificate ∙ ap certified_text (sym kept.same)

-- ---- what is printed

-- the derivations that are kept, as the code keeps them
kept_trees : (checked : Checked) → HoldsMarks checked → AreKept (functions_in checked) (functions_in checked) (map maybe_core (cores_in checked)) (map maybe_tree (trees_in checked))
kept_trees checked marks = subst (λ ds. AreKept (functions_in checked) (functions_in checked) (map maybe_core (cores_in checked)) ds) (sym marks.are) marks.kept

-- what the C does on any heap, over any lawful table
refined : (x : Foreign) (y : ForeignHeap) → IsLawful x → IsLawfulOnHeaps x y → (checked : Checked) → HoldsMarks checked → (copies : List Copy) (p : Program) → IsSimulated copies p
    → RefinesWith x y (functions_in checked) copies p
refined x y lawful on_heaps checked marks copies p simulates cores derived =
    subst (λ b. RefinesOver x y (functions_in checked) b copies p) (bodies_same checked ∙ ap bodies_in (one_list (functions_in checked) (cores_of checked) cores (map (function_tree (functions_in checked)) (functions_in checked), marks.kept) derived)) here
  where
    here : RefinesOver x y (functions_in checked) (core_in checked) copies p
    here list is same links linked among known at n k z core us m v w writes reads there stands body holds low gives =
        sources_are_refined x y lawful on_heaps checked list p (kept_trees checked marks) is (subst (λ cs. IsSimulated cs p) same simulates) links linked among known
        at n k z core us m v w writes reads there stands body holds low gives

proved : (checked : Checked) → CanBeBuilt checked → IsProved (functions_in checked)
proved checked ready =
    let fs = functions_in checked in
    let trees = map (function_tree fs) fs in
    record {
      written = certificate_printed fs trees ready.named (are_marked fs fs (map maybe_core (cores_in checked)) trees ready.marks.kept);
      spells = record { cores = map maybe_core (cores_in checked); trees = trees; kept = ready.marks.kept; lists = refl };
    }

-- the line of what is written
pub built_said : (checked : Checked) (list : List Instance) (built : Built) (found : Found) → CanBeBuilt checked → IsWritten checked list built → KeepsCopies checked list found
    → (kernel : Kernel) (fs : List KFun) → kernel ≡ kernel_in checked → fs ≡ kernel.funs → (line : List ℕ) → line ≡ written_line (map function_of fs) built.instances → IsBuilt found line
built_said checked list built found ready b kept kernel fs k is line said =
    let functions_are : map function_of fs ≡ functions found = ap (map function_of) is ∙ ap kernel_of k ∙ sym kept.same in
    let count : built.instances ≡ length found.copies = b.counted ∙ sym (length-map list _) ∙ ap length (sym kept.copies) in (
      said ∙ ap (λ g. written_line g built.instances) functions_are ∙ ap (written_line (functions found)) count,
      subst (λ fs. IsCompiled fs found.copies) (sym kept.same)
          (subst (λ cs. IsCompiled (functions_in checked) cs) (sym kept.copies)
          (record {
            meant = b.meant;
            refines = refined no_foreign no_foreign_heap none_is_lawful none_is_lawful_on_heaps checked ready.marks (copies_in checked list) b.meant.program b.meant.simulates;
            refines_with = λ x y lawful on_heaps. refined x y lawful on_heaps checked ready.marks (copies_in checked list) b.meant.program b.meant.simulates;
            proved = proved checked ready;
          })),
    )

-- what is said once all is written
pub concluded : (checked : Checked) (list : List Instance) (built : Built) (found : Found) → CanBeBuilt checked → IsWritten checked list built → KeepsCopies checked list found
    → (kernel : Kernel) (fs : List KFun) → kernel ≡ kernel_in checked → fs ≡ kernel.funs → (r : Result Report Memory)
    → IfOk r (IsLine Done (written_line (map function_of fs) built.instances)) → Rules Judges IsBuilt [] found r
concluded checked list built found ready b kept kernel fs k is (Ok r) said =
    (goes found, refl, (said.0, built_said checked list built found ready b kept kernel fs k is r.text.items said.1))
concluded checked list built found ready b kept kernel fs k is (Err e) said = tt
