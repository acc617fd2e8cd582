-- Computed cases of records and written types, and of the limit on types.
use Rattle.std.proofs.Common.{refl, [], arith}
use Rattle.cg_core.specs.Terms.{erased}
use Rattle.cg_faults.specs.Same.{same}
use Rattle.cg_kinds.specs.Kinds.{kinds, both, bang, subst}
use Rattle.cg_check_laws.proofs.LeafRows.{var_row, lit_row}
use Rattle.cg_check_laws.proofs.Tests.{splits}
use Rattle.cg_check_laws.specs.Cases.{Records, StructDerived, MemberDerived, TakeDerived, PutDerived, CastDerived, AnnotDerived, StructRefused, MemberRefused, TakeRefused, TakeTakenRefused, TakeNothingRefused, PutRefused, CastRefused, AnnotRefused, TypeTooLarge, SightedRefused}

struct_derived : StructDerived
unfolding kinds both bang subst erased same
struct_derived = record { derives = record { tree = refl; fields = record { marked = refl; parts = refl; splits = splits [] _ _ _ refl; value = var_row refl refl refl; later = record { ended = refl; parts = refl; value = var_row refl refl refl } }; is = refl; meets = refl }; holds = refl }

member_derived : MemberDerived
unfolding kinds both bang subst erased same
member_derived = record { derives = record { tree = refl; whole = var_row refl refl tt; left = refl; shared = refl; is = refl; meets = refl }; holds = refl }

take_derived : TakeDerived
unfolding kinds both bang subst erased same
take_derived = record { derives = record { tree = refl; splits = splits [] _ _ _ refl; whole = var_row refl refl tt; left = refl; written = refl; body = var_row refl refl refl; is = refl }; holds = refl }

put_derived : PutDerived
unfolding kinds both bang subst erased same
put_derived = record { derives = record { tree = refl; splits = splits [] _ _ _ refl; whole = var_row refl refl tt; there = refl; written = refl; over = refl; value = lit_row refl (omega arith) refl; is = refl; meets = refl }; holds = refl }

cast_derived : CastDerived
unfolding kinds both bang subst erased same
cast_derived = record { derives = record { tree = refl; checked = refl; operand = var_row refl refl tt; widens = refl }; holds = refl }

annot_derived : AnnotDerived
unfolding kinds both bang subst erased same
annot_derived = record { derives = record { tree = refl; arrays = refl; value = var_row refl refl refl; is = refl; meets = refl }; holds = refl }

struct_refused : StructRefused
unfolding kinds both bang subst erased same
struct_refused = refl

member_refused : MemberRefused
unfolding kinds both bang subst erased same
member_refused = refl

take_refused : TakeRefused
unfolding kinds both bang subst erased same
take_refused = refl

take_taken_refused : TakeTakenRefused
unfolding kinds both bang subst erased same
take_taken_refused = refl

take_nothing_refused : TakeNothingRefused
unfolding kinds both bang subst erased same
take_nothing_refused = refl

put_refused : PutRefused
unfolding kinds both bang subst erased same
put_refused = refl

cast_refused : CastRefused
unfolding kinds both bang subst erased same
cast_refused = refl

annot_refused : AnnotRefused
unfolding kinds both bang subst erased same
annot_refused = refl

pub type_too_large : TypeTooLarge
unfolding kinds both bang subst erased same
type_too_large = refl

pub records : Records
records = record { struct_derived = struct_derived; member_derived = member_derived; take_derived = take_derived; put_derived = put_derived; cast_derived = cast_derived; annot_derived = annot_derived; struct_refused = struct_refused; member_refused = member_refused; take_refused = take_refused; take_taken_refused = take_taken_refused; take_nothing_refused = take_nothing_refused; put_refused = put_refused; cast_refused = cast_refused; annot_refused = annot_refused }

pub sighted_refused : SightedRefused
unfolding kinds both bang subst erased same
sighted_refused = refl
