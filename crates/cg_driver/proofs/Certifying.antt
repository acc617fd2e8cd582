-- What the judgement of a certificate comes to, and its line.
use Rattle.std.proofs.Common.{◌≡◌, ◌∙◌, ℕ, true, false, List, [], ◌∷◌, Option, Some, None, refl, sym, ap, subst}
use Rattle.std.specs.Prelude.{codes}
use Rattle.std.proofs.lemmas.Option.{same_Some}
use Rattle.cg_base.specs.declared.limit.Limit.{Limit}
use Rattle.cg_base.specs.declared.limit.Limit.TheVariants.{Ty}
use Rattle.cg_cert.specs.declared.cert.Cert.{Cert}
use Rattle.cg_cert.specs.declared.fault.CertFault.{CertFault}
use Rattle.cg_cert.specs.declared.fault.CertFault.TheVariants.{C1, C2, C3, Limit as Beyond, Memory}
use Rattle.cg_certcheck.proofs.FaultKinds.{node_fault}
use Rattle.cg_certcheck.specs.Judged.{IsNodeFault}
use Rattle.cg_certcheck_laws.proofs.Main.{decide}
use Rattle.cg_certcheck_def.specs.Events.{Event, event, AllHold, cert_events, first_failing}
use Rattle.cg_certcheck_laws.specs.Laws.{SpellsDerivation}
use Rattle.cg_faults.specs.Fails.{AreTypesWithin}
use Rattle.cg_core.specs.Kernels.{Function}
use Rattle.cg_core_def.specs.Lawful.{IsLawfulKernel}
use Rattle.cg_driver_steps.specs.declared.status.Status.{Status}
use Rattle.cg_driver_steps.specs.declared.status.Status.TheVariants.{Usage, CertRefused, TooLarge}
use Rattle.cg_driver_steps.specs.Scripts.{IsRuling}
use Rattle.cg_driver_steps.specs.Steps.{Outcome, refuses, goes}
use Rattle.cg_driver.specs.Commands.{certified, Judges, RefusesNode, broken_row, out_of_place, too_large}
use Rattle.cg_driver.specs.Found.{Found, functions}
use Rattle.cg_driver_lines.specs.Lines.{limit_line, node_line}
use Rattle.cg_certcheck.proofs.JudgeSteps.{all_hold}

-- the status and the line of a certificate's fault
abbrev status_of : CertFault → Status
status_of (C2 n) = CertRefused
status_of (C3 n) = CertRefused
status_of fault = TooLarge

abbrev line_of : List ℕ → CertFault → List ℕ
line_of file (C2 n) = node_line file (codes "C2") n
line_of file (C3 n) = node_line file (codes "C3") n
line_of file fault = limit_line (codes "type")

record Misfit (file : List ℕ) (fs : List Function) (cert : Cert) (status : Status) (text : List ℕ) : Type 0 where
  fault : CertFault
  first : first_failing (cert_events fs cert) ≡ Some fault
  said : status ≡ status_of fault
  line : text ≡ line_of file fault

misfit : (file : List ℕ) (fs : List Function) (cert : Cert) (s : Status) (t : List ℕ) → RefusesNode file fs cert s t → Misfit file fs cert s t
misfit file fs cert s t (broken_row n first said line) = record { fault = C2 n; first = first; said = said; line = line }
misfit file fs cert s t (out_of_place n first said line) = record { fault = C3 n; first = first; said = said; line = line }
misfit file fs cert s t (too_large first said line) = record { fault = Beyond Ty; first = first; said = said; line = line }

abbrev the_refusal : Status → List ℕ → Outcome Found
the_refusal s t = refuses s t

-- a certificate has one fault
pub one_node : (file : List ℕ) (fs : List Function) (cert : Cert) (s s' : Status) (t t' : List ℕ) → RefusesNode file fs cert s t → RefusesNode file fs cert s' t' → the_refusal s t ≡ the_refusal s' t'
one_node file fs cert s s' t t' d d' =
    let a = misfit file fs cert s t d in
    let b = misfit file fs cert s' t' d' in
    let same : a.fault ≡ b.fault = same_Some a.fault b.fault (sym a.first ∙ b.first) in
    ap (λ x. the_refusal x t) (a.said ∙ ap status_of same ∙ sym b.said) ∙ ap (the_refusal s') (a.line ∙ ap (line_of file) same ∙ sym b.line)

none_failing : (xs : List Event) → AllHold xs → first_failing xs ≡ None
none_failing [] h = refl
none_failing (event fault true ∷ xs) h = none_failing xs h.1
none_failing (event fault false ∷ xs) h = let e = h.0 in absurd (cc)

-- one that spells a derivation within the limit has none
pub none_misfits : (file : List ℕ) (fs : List Function) (cert : Cert) (s : Status) (t : List ℕ) → IsLawfulKernel fs → RefusesNode file fs cert s t → SpellsDerivation fs cert → AreTypesWithin fs → ⊥
none_misfits file fs cert s t lawful d spells narrow =
    let some = (misfit file fs cert s t d).first in
    let none : first_failing (cert_events fs cert) ≡ None = none_failing (cert_events fs cert) ((decide fs cert lawful).1 (spells, narrow)) in
    absurd (cc)

-- the line of a fault
pub limit_refuses : (file : List ℕ) (fs : List Function) (cert : Cert) (limit : Limit) → limit ≡ Ty → first_failing (cert_events fs cert) ≡ Some (Beyond limit)
    → RefusesNode file fs cert TooLarge (limit_line (codes "type"))
limit_refuses file fs cert limit is first = too_large (first ∙ ap (λ l. Some (Beyond l)) is) refl refl

-- of lawful functions the events decide
pub certificates_decide : (file : List ℕ) (f : Found) → IsLawfulKernel (functions f) → (o : Outcome Found) × Judges (certified file) f o
certificates_decide file f lawful = go (first_failing (cert_events (functions f) f.cert)) refl
  where
    kind : (fault : CertFault) → first_failing (cert_events (functions f) f.cert) ≡ Some fault → IsNodeFault fault
    kind fault is = node_fault (functions f) f.cert fault is

    go : (first : Option CertFault) → first_failing (cert_events (functions f) f.cert) ≡ first → (o : Outcome Found) × Judges (certified file) f o
    go None is = let a = (decide (functions f) f.cert lawful).0 (all_hold (cert_events (functions f) f.cert) is) in (goes f, (refl, a.0, a.1))
    go (Some (C1 n)) is = absurd (kind (C1 n) is)
    go (Some (C2 n)) is = (refuses CertRefused (node_line file (codes "C2") n), (lawful, broken_row n is refl refl))
    go (Some (C3 n)) is = (refuses CertRefused (node_line file (codes "C3") n), (lawful, out_of_place n is refl refl))
    go (Some (Beyond limit)) is = (refuses TooLarge (limit_line (codes "type")), (lawful, limit_refuses file (functions f) f.cert limit (kind (Beyond limit) is) is))
    go (Some Memory) is = absurd (kind Memory is)

pub node_ruling : (file : List ℕ) (fs : List Function) (cert : Cert) (s : Status) (t : List ℕ) → RefusesNode file fs cert s t → IsRuling s
node_ruling file fs cert s t (broken_row n first said line) = subst IsRuling (sym said) tt
node_ruling file fs cert s t (out_of_place n first said line) = subst IsRuling (sym said) tt
node_ruling file fs cert s t (too_large first said line) = subst IsRuling (sym said) tt

pub node_not_usage : (file : List ℕ) (fs : List Function) (cert : Cert) (s : Status) (t : List ℕ) → RefusesNode file fs cert s t → s ≡ Usage → ⊥
node_not_usage file fs cert s t (broken_row n first said line) e = absurd (cc)
node_not_usage file fs cert s t (out_of_place n first said line) e = absurd (cc)
node_not_usage file fs cert s t (too_large first said line) e = absurd (cc)
