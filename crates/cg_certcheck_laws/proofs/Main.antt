-- The events of a certificate decide exactly whether it spells a derivation of the kernel within the limit on types, and what the pass
-- keeps is that derivation.
use Rattle.std.proofs.Common.{Bool, true, List, map, ap, subst, sym, ◌∙◌}
use Rattle.cg_cert.specs.declared.cert.Cert.{Cert}
use Rattle.cg_cert.specs.declared.cert.CertFun.{CertFun}
use Rattle.cg_cert.specs.Certificates.{certificate}
use Rattle.cg_typing.proofs.KeptAccepted.{kept_accepted}
use Rattle.cg_typing.specs.Kept.{AreKept}
use Rattle.cg_core.specs.Kernels.{Function}
use Rattle.cg_faults.specs.Events.{kernel_events}
use Rattle.cg_faults_laws.proofs.Occurring.{types_are_within}
use Rattle.cg_certcheck_def.specs.Events.{cert_events}
use Rattle.cg_certcheck_laws.specs.Laws.{SpellsDerivation, EventsDecide, KeptIsListed, all_kept}
use Rattle.cg_check_pieces.specs.Bodies.{tree_in}
use Rattle.cg_certcheck_laws.proofs.KernelComplete.{functions_complete}
use Rattle.cg_certcheck_laws.proofs.KernelSound.{functions_sound}
use Rattle.cg_certcheck_laws.proofs.Limits.{LimitsFor, limits_asked}
use Rattle.cg_certcheck_laws.proofs.Rows.{HoldFor, all_hold}

abbrev cert_of : List CertFun → Cert
cert_of funs = record { funs = funs }

-- of a certificate that spells a derivation no event fails, but for the limit on types where that isn't asked for
pub spelled_holds : (functions : List Function) (cert : Cert) (limited : Bool) → SpellsDerivation functions cert → LimitsFor limited (kernel_events functions)
    → HoldFor limited (cert_events functions cert)
spelled_holds functions cert limited h l =
    subst (λ c. HoldFor limited (cert_events functions c)) (sym h.lists) (functions_complete functions limited functions h.cores h.trees h.kept l 1)

pub decide : EventsDecide
decide functions cert lawful = (
  λ h. let r = functions_sound functions functions lawful.functions_stand cert.funs 1 h in (
    record { cores = r.cores; trees = r.trees; kept = r.kept; lists = ap cert_of r.lists },
    (types_are_within functions lawful (kept_accepted functions r.cores r.trees r.kept)).0 r.limits,
  ),
  λ h. all_hold (cert_events functions cert)
      (spelled_holds functions cert true h.0
      (limits_asked (kernel_events functions) ((types_are_within functions lawful (kept_accepted functions h.0.cores h.0.trees h.0.kept)).1 h.1))),
)

pub kept_listed : KeptIsListed
kept_listed functions cert lawful h =
    let r = functions_sound functions functions lawful.functions_stand cert.funs 1 h in
    let trees = map tree_in (all_kept functions functions cert.funs) in (
      subst (λ c. AreKept functions functions c trees) (sym r.as_cores) (subst (λ d. AreKept functions functions r.cores d) (sym r.as_trees) r.kept),
      ap cert_of r.lists ∙ ap (certificate functions) (sym r.as_trees),
    )
