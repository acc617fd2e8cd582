-- A certificate is judged by what the pass answers.
use Rattle.std.proofs.Common.{◌≡◌, true, false, Option, Some, None, Ok, Err, List, [], ◌∷◌, map, refl, sym, ap, ◌∙◌}
use Rattle.cg_cert.specs.Certificates.{certificate}
use Rattle.cg_cert.specs.declared.cert.Cert.{Cert}
use Rattle.cg_cert.specs.declared.fault.CertFault.{CertFault}
use Rattle.cg_cert.specs.declared.fault.CertFault.TheVariants.{C1, C2, C3, Limit, Memory}
use Rattle.cg_certcheck.proofs.FaultKinds.{node_fault}
use Rattle.cg_check_pieces.specs.Bodies.{Both, Lists, as_lists, core_in, lists_in, lists_of, tree_in}
use Rattle.cg_check_pieces.specs.declared.kept.KeptBodies.{KeptBodies}
use Rattle.cg_certcheck.specs.Judged.{Refuses, IsRechecked}
use Rattle.cg_certcheck_context.specs.View.{Agrees}
use Rattle.cg_certcheck_laws.proofs.Main.{decide, kept_listed}
use Rattle.cg_certcheck_laws.proofs.PassKernel.{first_fault}
use Rattle.cg_certcheck_def.specs.Events.{Event, event, AllHold, cert_events, first_failing}
use Rattle.cg_certcheck_laws.specs.Laws.{all_kept}
use Rattle.cg_certcheck_def.specs.Pass.{check_cert, verdict}
use Rattle.cg_core.specs.declared.derivation.Deriv.{Deriv}
use Rattle.cg_core.specs.declared.kernel.Kernel.{Kernel}
use Rattle.cg_core.specs.declared.term.Term.{Term}
use Rattle.cg_core.specs.declared.term.Typed.{Typed}
use Rattle.cg_core.specs.Kernels.{Function, kernel_of}
use Rattle.cg_faults.specs.Fails.{AreTypesWithin}
use Rattle.cg_core_def.specs.Lawful.{IsLawfulKernel}
use Rattle.cg_typing.specs.declared.checked.Checked.{Checked}
use Rattle.cg_typing.specs.Holds.{kernel_in, cores_in, trees_in}
use Rattle.cg_typing.specs.Kept.{AreKept, maybe_core, maybe_tree}

-- the first fault, from what the pass answers
this_fault : (o : Option CertFault) (all : List (Option Both)) (fault : CertFault) → as_lists (verdict o all) ≡ Err fault → o ≡ Some fault
this_fault None all fault h = absurd (cc)
this_fault (Some other) all fault h = cc

no_fault : (o : Option CertFault) (all : List (Option Both)) (lists : Lists) → as_lists (verdict o all) ≡ Ok lists → o ≡ None
no_fault None all lists h = refl
no_fault (Some other) all lists h = absurd (cc)

kept_lists : (o : Option CertFault) (all : List (Option Both)) (lists : Lists) → as_lists (verdict o all) ≡ Ok lists → lists_in all ≡ lists
kept_lists None all lists h = cc
kept_lists (Some other) all lists h = absurd (cc)

pub all_hold : (xs : List Event) → first_failing xs ≡ None → AllHold xs
all_hold [] h = tt
all_hold (event fault true ∷ xs) h = (refl, all_hold xs h)
all_hold (event fault false ∷ xs) h = absurd (cc)

module _ (functions : List Function) (cert : Cert) (lawful : IsLawfulKernel functions) where
  abbrev First : Option CertFault
  First = first_failing (cert_events functions cert)

  abbrev All : List (Option Both)
  All = all_kept functions functions cert.funs

  judged : as_lists (check_cert functions cert) ≡ as_lists (verdict First All)
  judged = ap as_lists (first_fault functions cert)

  at_fault : (fault : CertFault) → as_lists (check_cert functions cert) ≡ Err fault → First ≡ Some fault
  at_fault fault h = this_fault First All fault (sym judged ∙ h)

  fine : (lists : Lists) → as_lists (check_cert functions cert) ≡ Ok lists → AllHold (cert_events functions cert)
  fine lists h = all_hold (cert_events functions cert) (no_fault First All lists (sym judged ∙ h))

  cores_are : (lists : Lists) → as_lists (check_cert functions cert) ≡ Ok lists → lists.0 ≡ map core_in All
  cores_are lists h = ap (λ l. l.0) (sym (kept_lists First All lists (sym judged ∙ h)))

  trees_are : (lists : Lists) → as_lists (check_cert functions cert) ≡ Ok lists → lists.1 ≡ map tree_in All
  trees_are lists h = ap (λ l. l.1) (sym (kept_lists First All lists (sym judged ∙ h)))

  are_kept : (lists : Lists) → as_lists (check_cert functions cert) ≡ Ok lists → AreKept functions functions lists.0 lists.1
  are_kept lists h = rw (cores_are lists h) (rw (trees_are lists h) (kept_listed functions cert lawful (fine lists h)).0)

  are_listed : (lists : Lists) → as_lists (check_cert functions cert) ≡ Ok lists → cert ≡ certificate functions lists.1
  are_listed lists h = (kept_listed functions cert lawful (fine lists h)).1 ∙ ap (certificate functions) (sym (trees_are lists h))

  within : (lists : Lists) → as_lists (check_cert functions cert) ≡ Ok lists → AreTypesWithin functions
  within lists h = ((decide functions cert lawful).0 (fine lists h)).1

  refused : (fault : CertFault) → First ≡ Some fault → Refuses functions cert fault
  refused (C1 n) h = (node_fault functions cert (C1 n) h, h)
  refused (C2 n) h = (node_fault functions cert (C2 n) h, h)
  refused (C3 n) h = (node_fault functions cert (C3 n) h, h)
  refused (Limit limit) h = (node_fault functions cert (Limit limit) h, h)
  refused Memory h = tt

  pub refuses : (fault : CertFault) → Agrees lists_of (Err fault) (as_lists (check_cert functions cert)) → Refuses functions cert fault
  refuses (C1 n) h = refused (C1 n) (at_fault (C1 n) h)
  refuses (C2 n) h = refused (C2 n) (at_fault (C2 n) h)
  refuses (C3 n) h = refused (C3 n) (at_fault (C3 n) h)
  refuses (Limit limit) h = refused (Limit limit) (at_fault (Limit limit) h)
  refuses Memory h = tt

module _ (kernel : Kernel) (cert : Cert) (bodies : KeptBodies) (lawful : IsLawfulKernel (kernel_of kernel)) (h : as_lists (check_cert (kernel_of kernel) cert) ≡ Ok (lists_of bodies)) where
  pub may_be_kept : AreKept (kernel_of kernel) (kernel_of kernel) (map maybe_core bodies.cores) (map maybe_tree bodies.trees)
  may_be_kept = are_kept (kernel_of kernel) cert lawful (lists_of bodies) h

  those_may : (cores : List (Option (Term Typed))) (trees : List (Option Deriv)) → cores ≡ bodies.cores → trees ≡ bodies.trees
      → AreKept (kernel_of kernel) (kernel_of kernel) (map maybe_core cores) (map maybe_tree trees)
  those_may cores trees c d = rw c (rw d may_be_kept)

  pub is_rechecked : (checked : Checked) → kernel_in checked ≡ kernel → cores_in checked ≡ bodies.cores → trees_in checked ≡ bodies.trees → IsRechecked kernel cert checked
  is_rechecked checked same cores trees =
      record {
        same = same;
        lists = are_listed (kernel_of kernel) cert lawful (lists_of bodies) h ∙ ap (λ ds. certificate (kernel_of kernel) (map maybe_tree ds)) (sym trees);
        kept = those_may (cores_in checked) (trees_in checked) cores trees;
        within = within (kernel_of kernel) cert lawful (lists_of bodies) h;
      }

pub ruleset judge_steps = (refuses, may_be_kept, is_rechecked)
