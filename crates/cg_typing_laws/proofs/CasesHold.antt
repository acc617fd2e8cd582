-- The computed cases hold.
use Rattle.std.proofs.Common.{refl, [], arith}
use Rattle.cg_kinds.specs.Kinds.{kinds, both, bang, subst}
use Rattle.cg_check_laws.proofs.LeafRows.{var_row}
use Rattle.cg_check_laws.proofs.Tests.{splits}
use Rattle.cg_typing_laws.specs.Cases.{Substituted, Weakened}

pub substituted : Substituted
unfolding kinds both bang subst
substituted = record {
  before = record { tree = refl; whole = var_row refl refl tt; left = refl; shared = refl; is = refl; meets = refl };
  replaced = refl;
  after = record { tree = refl; whole = var_row refl refl tt; left = refl; shared = refl; is = refl; meets = refl };
  unshared = λ h. let q = h.shared in absurd (cc);
  annotated = record { tree = refl; arrays = refl; value = var_row refl refl refl; is = refl; meets = refl };
  no_words = λ h. let q = h.arrays in absurd (cc);
}

pub weakened_case : Weakened
unfolding kinds both bang subst
weakened_case = record {
  gone = record { tree = refl; counted = refl; splits = splits [] _ _ _ refl; left = var_row refl refl refl; right = var_row refl refl refl; alike = refl; takes = refl; is = refl; meets = refl };
  present = record { tree = refl; counted = refl; splits = splits [] _ _ _ refl; left = var_row refl refl refl; right = var_row refl refl refl; alike = refl; takes = refl; is = refl; meets = refl };
  same_marks = λ h. h.splits.fits 1 (omega arith);
  renumbered = refl;
  behind = record { tree = refl; counted = refl; splits = splits [] _ _ _ refl; left = var_row refl refl refl; right = var_row refl refl refl; alike = refl; takes = refl; is = refl; meets = refl };
}
