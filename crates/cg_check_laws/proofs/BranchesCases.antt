-- Computed cases of branches and variants.
use Rattle.std.proofs.Common.{refl, [], arith}
use Rattle.cg_core.specs.Terms.{erased}
use Rattle.cg_faults.specs.Same.{same}
use Rattle.cg_kinds.specs.Kinds.{kinds, both, bang, subst}
use Rattle.cg_check_laws.proofs.LeafRows.{var_row, lit_row}
use Rattle.cg_check_laws.proofs.Tests.{splits}
use Rattle.cg_check_laws.specs.Cases.{Branches, IfDerived, ConDerived, CaseDerived, EsacDerived, IfRefused, ConRefused, CaseRefused, EsacRefused}

if_derived : IfDerived
unfolding kinds both bang subst erased same
if_derived = record { derives = record { tree = refl; splits = splits [] _ _ _ refl; condition = var_row refl refl refl; first = lit_row refl (omega arith) refl; second = lit_row refl (omega arith) refl; is = refl; alike = refl }; holds = refl }

con_derived : ConDerived
unfolding kinds both bang subst erased same
con_derived = record { derives = record { tree = refl; checked = refl; left = refl; payload = var_row refl refl refl }; holds = refl }

case_derived : CaseDerived
unfolding kinds both bang subst erased same
case_derived = record { derives = record { tree = refl; splits = splits [] _ _ _ refl; subject = var_row refl refl tt; left = refl; first = var_row refl refl refl; second = lit_row refl (omega arith) refl; is = refl; alike = refl }; holds = refl }

esac_derived : EsacDerived
unfolding kinds both bang subst erased same
esac_derived = record { derives = record { tree = refl; subject = var_row refl refl tt; left = refl; last = refl; is = refl; meets = refl }; holds = refl }

if_refused : IfRefused
unfolding kinds both bang subst erased same
if_refused = refl

con_refused : ConRefused
unfolding kinds both bang subst erased same
con_refused = refl

case_refused : CaseRefused
unfolding kinds both bang subst erased same
case_refused = refl

esac_refused : EsacRefused
unfolding kinds both bang subst erased same
esac_refused = refl

pub branches : Branches
branches = record { if_derived = if_derived; con_derived = con_derived; case_derived = case_derived; esac_derived = esac_derived; if_refused = if_refused; con_refused = con_refused; case_refused = case_refused; esac_refused = esac_refused }
