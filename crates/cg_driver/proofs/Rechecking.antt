-- From what the functions for certificates answer to what the judgements come to.
use Rattle.std.proofs.Common.{◌≡◌, ◌<◌, ◌≤◌, inl, inr, ℕ, List, [], ◌∷◌, Result, Ok, Err, length, refl, sym, ap, ◌∙◌, subst}
use Rattle.std.specs.Prelude.{codes, IfOk, map}
use Rattle.cg_base.specs.declared.limit.Limit.{Limit}
use Rattle.cg_base.specs.declared.memory.Memory.{Memory}
use Rattle.cg_cert.specs.Answers.{Answers as IsReadAs}
use Rattle.cg_cert.specs.declared.cert.Cert.{Cert}
use Rattle.cg_cert.specs.declared.fault.CertFault.TheVariants.{C1, C2, C3, Limit as Beyond}
use Rattle.cg_certcheck.specs.Judged.{IsRechecked, Refuses}
use Rattle.cg_certcheck_laws.specs.Laws.{SpellsDerivation}
use Rattle.cg_faults.specs.Fails.{AreTypesWithin}
use Rattle.cg_core.specs.declared.kernel.Kernel.{Kernel}
use Rattle.cg_core.specs.Kernels.{Function, kernel_of}
use Rattle.cg_core_def.specs.Lawful.{IsLawfulKernel}
use Rattle.cg_driver_steps.specs.declared.report.Report.{Report}
use Rattle.cg_driver_steps.specs.declared.report.Step.{Step}
use Rattle.cg_driver_steps.specs.declared.status.Status.TheVariants.{Done, CertRefused, TooLarge}
use Rattle.cg_driver_steps.specs.Steps.{refuses, goes}
use Rattle.cg_driver_steps.specs.Parts.{IsLine, Reports, Rules, Steps, Judged}
use Rattle.cg_typing.specs.declared.checked.Checked.{Checked}
use Rattle.cg_typing.specs.Holds.{cores_in, trees_in}
use Rattle.cg_typing.specs.Kept.{maybe_core, maybe_tree}
use Rattle.cg_driver.specs.Commands.{Judges, certified, text_rules, reading_rules, RefusesNode, broken_row, out_of_place, rechecked_line}
use Rattle.cg_driver.specs.Found.{Found, with_program, with_cert, functions, certificate_limit}
use Rattle.cg_driver.specs.Judged.{IsCertificate, IsReadSource, KeepsKernel, RefusesCert, RefusesReading, RefusesText}
use Rattle.cg_driver_lines.specs.Lines.{byte_line, node_line, limit_line, limit_name, rechecked_line as accepted_text}
use Rattle.cg_driver.proofs.Certifying.{limit_refuses}
use Rattle.cg_driver.proofs.Saying.{reading_settles, steps_judged}

-- ---- the source

pub reading_judged : (file source : List ℕ) (f : Found) → f.source ≡ source → (r : Result (Step Kernel) Memory) → IfOk r (Steps (IsReadSource source) (RefusesReading file source))
    → Judged Judges KeepsKernel (reading_rules file) f r
reading_judged file source f same r said =
    steps_judged (IsReadSource source) (RefusesReading file source) KeepsKernel (reading_rules file) f
    (λ kernel c. (with_program c.program f, reading_settles file source c.program c.short c.resolved f same, record { same = sym c.same; lawful = c.lawful }))
    (λ s text j. j f same) r said

-- ---- the text of a certificate

pub text_long_refused : (name bytes : List ℕ) → certificate_limit < length bytes → RefusesText name bytes TooLarge (limit_line (codes "certificate"))
text_long_refused name bytes long f same = inl (tt, (refl, refl, subst (λ x. certificate_limit < length x) (sym same) long))

pub byte_refused : (name bytes : List ℕ) (byte : ℕ) → length bytes ≤ certificate_limit → IsReadAs bytes (Err (C1 byte)) → RefusesText name bytes CertRefused (byte_line name byte)
byte_refused name bytes byte brief is f same =
    inr (f, (refl, subst (λ x. length x ≤ certificate_limit) (sym same) brief), inl (tt, (byte, refl, refl, subst (λ x. IsReadAs x (Err (C1 byte))) (sym same) is)))

-- a state in which the certificate was found
pub record HasCert (f : Found) (cert : Cert) (next : Found) : Type 0 where
  pub same : next ≡ with_cert cert f

pub text_judged : (name bytes : List ℕ) (f : Found) → f.certificate ≡ bytes → (r : Result (Step Cert) Memory) → IfOk r (Steps (IsCertificate bytes) (RefusesText name bytes))
    → Judged Judges (HasCert f) (text_rules name) f r
text_judged name bytes f same r said =
    steps_judged (IsCertificate bytes) (RefusesText name bytes) (HasCert f) (text_rules name) f
    (λ cert c. (
      with_cert cert f,
      inr (f, (refl, subst (λ x. length x ≤ certificate_limit) (sym same) c.brief), inr (with_cert cert f, (cert, refl, subst (λ x. IsReadAs x (Ok cert)) (sym same) c.written), refl)),
      record { same = refl },
    ))
    (λ s text j. j f same) r said

-- ---- its nodes

module _ (name : List ℕ) (fs : List Function) (cert : Cert) (lawful : IsLawfulKernel fs) where
  pub row_refused : (node : ℕ) → Refuses fs cert (C2 node) → RefusesCert name fs cert CertRefused (node_line name (codes "C2") node)
  row_refused node h f same is =
      inl (tt, (subst IsLawfulKernel (sym same) lawful, broken_row node (subst (λ x. Refuses x f.cert (C2 node)) (sym same) (subst (λ c. Refuses fs c (C2 node)) (sym is) h)).1 refl refl))

  pub place_refused : (node : ℕ) → Refuses fs cert (C3 node) → RefusesCert name fs cert CertRefused (node_line name (codes "C3") node)
  place_refused node h f same is =
      inl (tt, (subst IsLawfulKernel (sym same) lawful, out_of_place node (subst (λ x. Refuses x f.cert (C3 node)) (sym same) (subst (λ c. Refuses fs c (C3 node)) (sym is) h)).1 refl refl))

  pub size_refused : (limit : Limit) (text : List ℕ) → text ≡ limit_name limit → Refuses fs cert (Beyond limit) → RefusesCert name fs cert TooLarge (limit_line text)
  size_refused limit text told h f same is =
      let there = subst (λ x. Refuses x f.cert (Beyond limit)) (sym same) (subst (λ c. Refuses fs c (Beyond limit)) (sym is) h) in
      let line : limit_line (codes "type") ≡ limit_line text = ap limit_line (sym (told ∙ ap limit_name h.0)) in
      inl (tt, (subst IsLawfulKernel (sym same) lawful, subst (RefusesNode name (functions f) f.cert TooLarge) line (limit_refuses name (functions f) f.cert limit there.0 there.1)))

-- what is said of a certificate that is refused are the last rules
pub refused_rules : (name : List ℕ) (fs : List Function) (cert : Cert) (f : Found) → functions f ≡ fs → f.cert ≡ cert → (r : Result Report Memory) → IfOk r (Reports (RefusesCert name fs cert))
    → Rules Judges rechecked_line (certified name ∷ []) f r
refused_rules name fs cert f same is (Ok r) h = (refuses r.status r.text.items, h f same is, (refl, refl))
refused_rules name fs cert f same is (Err e) h = tt

-- and of one that spells a derivation
pub rechecked_rules : (name : List ℕ) (kernel : Kernel) (cert : Cert) (checked : Checked) → IsRechecked kernel cert checked → (f : Found) → functions f ≡ kernel_of kernel → f.cert ≡ cert
    → (r : Result Report Memory) → IfOk r (IsLine Done accepted_text) → Rules Judges rechecked_line (certified name ∷ []) f r
rechecked_rules name kernel cert checked c f same is (Err e) h = tt
rechecked_rules name kernel cert checked c f same is (Ok r) h =
    let spells : SpellsDerivation (kernel_of kernel) cert =
    record { cores = map maybe_core (cores_in checked); trees = map maybe_tree (trees_in checked); kept = c.kept; lists = c.lists } in
    let here : SpellsDerivation (functions f) f.cert = subst (λ x. SpellsDerivation x f.cert) (sym same) (subst (SpellsDerivation (kernel_of kernel)) (sym is) spells) in
    (goes f, inr (f, (refl, here, subst AreTypesWithin (sym same) c.within), refl), h)
