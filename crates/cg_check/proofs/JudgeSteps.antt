-- A kernel is judged by what the pass answers.
use Rattle.std.proofs.Common.{◌≡◌, Option, Some, None, Ok, Err, List, [], ◌∷◌, map, refl, sym, ap, ◌∙◌}
use Rattle.cg_base.specs.declared.place.Place.{Place}
use Rattle.cg_base.specs.Types.{Tau}
use Rattle.cg_check_pieces.specs.declared.kept.KeptBodies.{KeptBodies}
use Rattle.cg_check_context.specs.declared.stop.Stop.{Stop}
use Rattle.cg_check_context.specs.declared.stop.Stop.TheVariants.{Rule as Broken, Size, Memory}
use Rattle.cg_check.specs.Bodies.{refusal_of}
use Rattle.cg_check_pieces.specs.Bodies.{Both, Lists, as_lists, core_in, lists_in, lists_of, tree_in}
use Rattle.cg_check.specs.Judged.{Refuses, IsChecked}
use Rattle.cg_faults.specs.Fails.{AreTypesWithin, Fails}
use Rattle.cg_check_context.specs.View.{Agrees}
use Rattle.cg_check_laws.proofs.Main.{kept}
use Rattle.cg_check_laws.proofs.OnePass.{first_fault}
use Rattle.cg_check_def.specs.Kept.{body_core, body_tree, body_kept, function_core, function_tree, function_kept}
use Rattle.cg_check_def.specs.Pass.{check_kernel, verdict}
use Rattle.cg_core.specs.declared.derivation.Deriv.{Deriv}
use Rattle.cg_core.specs.declared.kernel.Kernel.{Kernel}
use Rattle.cg_core.specs.declared.term.Term.{Term}
use Rattle.cg_core.specs.declared.term.Typed.{Typed}
use Rattle.cg_core.specs.Kernels.{Function, Body, kernel_of}
use Rattle.cg_faults.specs.Events.{Fault, kernel_events, first_failing}
use Rattle.cg_faults.specs.Rule.{Test, rule, type_limit}
use Rattle.cg_faults_laws.proofs.Occurring.{kernels_are_accepted_or_at_fault}
use Rattle.cg_core_def.specs.Lawful.{IsLawfulKernel}
use Rattle.cg_typing.specs.Accepted.{IsAcceptedKernel}
use Rattle.cg_typing.specs.declared.checked.Checked.{Checked}
use Rattle.cg_typing.specs.Holds.{kernel_in, cores_in, trees_in}
use Rattle.cg_typing.specs.Kept.{AreKept, maybe_core, maybe_tree}
use Rattle.cg_typing.specs.Parts.{taken_by, given_by}

-- the first fault, from what the pass answers
this_fault : (o : Option Fault) (all : List (Option Both)) (fault : Fault) → as_lists (verdict o all) ≡ Err fault → o ≡ Some fault
this_fault None all fault h = absurd (cc)
this_fault (Some other) all fault h = cc

no_fault : (o : Option Fault) (all : List (Option Both)) (lists : Lists) → as_lists (verdict o all) ≡ Ok lists → o ≡ None
no_fault None all lists h = refl
no_fault (Some other) all lists h = absurd (cc)

all_kept : (o : Option Fault) (all : List (Option Both)) (lists : Lists) → as_lists (verdict o all) ≡ Ok lists → lists_in all ≡ lists
all_kept None all lists h = cc
all_kept (Some other) all lists h = absurd (cc)

-- the cores and the derivations of what the pass keeps
core_is : (functions : List Function) (argument result : Tau) (o : Option Body) → core_in (body_kept functions argument result o) ≡ body_core functions argument result o
core_is functions argument result None = refl
core_is functions argument result (Some body) = refl

tree_is : (functions : List Function) (argument result : Tau) (o : Option Body) → tree_in (body_kept functions argument result o) ≡ body_tree functions argument o
tree_is functions argument result None = refl
tree_is functions argument result (Some body) = refl

each : {A B C : Type 0} (f : B → C) (g : A → B) (h : A → C) (xs : List A) → ((x : A) → f (g x) ≡ h x) → map f (map g xs) ≡ map h xs
each f g h [] e = refl
each f g h (x ∷ xs) e = cc (e x, each f g h xs e)

module _ (functions : List Function) (lawful : IsLawfulKernel functions) where
  abbrev First : Option Fault
  First = first_failing (kernel_events functions)

  abbrev All : List (Option Both)
  All = map (function_kept functions) functions

  judged : as_lists (check_kernel functions) ≡ as_lists (verdict First All)
  judged = ap as_lists (first_fault functions lawful)

  at_fault : (test : Test) (place : Place) → as_lists (check_kernel functions) ≡ Err (test, place) → Fails functions test place
  at_fault test place h = (kernels_are_accepted_or_at_fault.fault functions lawful test place).0 (this_fault First All (test, place) (sym judged ∙ h))

  accepted : (lists : Lists) → as_lists (check_kernel functions) ≡ Ok lists → IsAcceptedKernel functions × AreTypesWithin functions
  accepted lists h = (kernels_are_accepted_or_at_fault.accepted functions lawful).0 (no_fault First All lists (sym judged ∙ h))

  cores_are : (lists : Lists) → as_lists (check_kernel functions) ≡ Ok lists → lists.0 ≡ map (function_core functions) functions
  cores_are lists h =
      ap (λ l. l.0) (sym (all_kept First All lists (sym judged ∙ h)))
      ∙ each core_in (function_kept functions) (function_core functions) functions (λ f. core_is functions (taken_by f.ty.ty) (given_by f.ty.ty) f.body)

  trees_are : (lists : Lists) → as_lists (check_kernel functions) ≡ Ok lists → lists.1 ≡ map (function_tree functions) functions
  trees_are lists h =
      ap (λ l. l.1) (sym (all_kept First All lists (sym judged ∙ h)))
      ∙ each tree_in (function_kept functions) (function_tree functions) functions (λ f. tree_is functions (taken_by f.ty.ty) (given_by f.ty.ty) f.body)

  are_kept : (lists : Lists) → as_lists (check_kernel functions) ≡ Ok lists → AreKept functions functions lists.0 lists.1
  are_kept lists h = rw (cores_are lists h) (rw (trees_are lists h) (kept functions lawful (accepted lists h).0))

  pub refuses : (stop : Stop) → Agrees lists_of (Err stop) (as_lists (check_kernel functions)) → Refuses functions (refusal_of stop)
  refuses (Broken r place) h = at_fault (rule r) place h
  refuses (Size place) h = (refl, (place, at_fault type_limit place h))
  refuses Memory h = tt

module _ (kernel : Kernel) (bodies : KeptBodies) (lawful : IsLawfulKernel (kernel_of kernel)) (h : as_lists (check_kernel (kernel_of kernel)) ≡ Ok (lists_of bodies)) where
  pub may_be_kept : AreKept (kernel_of kernel) (kernel_of kernel) (map maybe_core bodies.cores) (map maybe_tree bodies.trees)
  may_be_kept = are_kept (kernel_of kernel) lawful (lists_of bodies) h

  those_may : (cores : List (Option (Term Typed))) (trees : List (Option Deriv)) → cores ≡ bodies.cores → trees ≡ bodies.trees
      → AreKept (kernel_of kernel) (kernel_of kernel) (map maybe_core cores) (map maybe_tree trees)
  those_may cores trees c d = rw c (rw d may_be_kept)

  pub is_checked : (checked : Checked) → kernel_in checked ≡ kernel → cores_in checked ≡ bodies.cores → trees_in checked ≡ bodies.trees → IsChecked kernel checked
  is_checked checked same cores trees =
      let fine = accepted (kernel_of kernel) lawful (lists_of bodies) h in
      record {
        accepted = fine.0;
        within = fine.1;
        same = same;
        cores = ap (map maybe_core) cores ∙ cores_are (kernel_of kernel) lawful (lists_of bodies) h;
        trees = ap (map maybe_tree) trees ∙ trees_are (kernel_of kernel) lawful (lists_of bodies) h;
        kept = those_may (cores_in checked) (trees_in checked) cores trees;
      }

pub ruleset judge_steps = (refuses, may_be_kept, is_checked)
