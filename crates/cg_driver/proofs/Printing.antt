-- What is printed of a source that the checker keeps is a certificate of it.
use Rattle.std.proofs.Common.{map, refl, sym, subst}
use Rattle.cg_cert.proofs.Printed.{checked_printed}
use Rattle.cg_cert.specs.Certificates.{certificate}
use Rattle.cg_cert.specs.declared.cert.Cert.{Cert}
use Rattle.cg_cert.specs.Laws.{AreNamed}
use Rattle.cg_certcheck_laws.specs.Laws.{SpellsDerivation}
use Rattle.cg_faults.specs.Fails.{AreTypesWithin}
use Rattle.cg_core.specs.Kernels.{kernel_of}
use Rattle.cg_parser_laws.proofs.Spelling.{spelled_named}
use Rattle.cg_typing.specs.Holds.{kernel_in, cores_in, trees_in}
use Rattle.cg_typing.specs.Kept.{maybe_core, maybe_tree}
use Rattle.cg_driver.specs.Accepted.{PrintedIsCertified}

pub printed_certified : PrintedIsCertified
printed_certified source p checked short has same kept brief =
    let cert : Cert = certificate (kernel_of (kernel_in checked)) (map maybe_tree (trees_in checked)) in
    let named : AreNamed (kernel_of (kernel_in checked)) = subst AreNamed (sym same) (spelled_named source p has.spelled) in
    let spells : SpellsDerivation (kernel_of (kernel_in checked)) cert =
    record { cores = map maybe_core (cores_in checked); trees = map maybe_tree (trees_in checked); kept = kept.kept; lists = refl } in
    record {
      program = p;
      cert = cert;
      short = short;
      resolved = has;
      brief = brief;
      written = checked_printed checked named;
      spells = subst (λ fs. SpellsDerivation fs cert) same spells;
      within = subst AreTypesWithin same kept.within;
    }
