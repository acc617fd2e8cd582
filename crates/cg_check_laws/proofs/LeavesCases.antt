-- Computed cases of leaves.
use Rattle.std.proofs.Common.{refl, arith}
use Rattle.cg_core.specs.Terms.{erased}
use Rattle.cg_faults.specs.Same.{same}
use Rattle.cg_kinds.specs.Kinds.{kinds, both, bang, subst}
use Rattle.cg_check_laws.proofs.LeafRows.{var_row, unit_row, bool_row, lit_row, fun_row}
use Rattle.cg_check_laws.specs.Cases.{Leaves, VarDerived, UnitDerived, BoolDerived, LitDerived, FunDerived, VarRefused, UnitRefused, BoolRefused, LitRefused, FunRefused, NewRefused}

var_derived : VarDerived
unfolding kinds both bang subst erased same
var_derived = record { derives = var_row refl refl refl; holds = refl }

unit_derived : UnitDerived
unfolding kinds both bang subst erased same
unit_derived = record { derives = unit_row refl refl; holds = refl }

bool_derived : BoolDerived
unfolding kinds both bang subst erased same
bool_derived = record { derives = bool_row refl refl; holds = refl }

lit_derived : LitDerived
unfolding kinds both bang subst erased same
lit_derived = record { derives = lit_row refl (omega arith) refl; holds = refl }

fun_derived : FunDerived
unfolding kinds both bang subst erased same
fun_derived = record { derives = fun_row refl refl refl refl refl; holds = refl }

var_refused : VarRefused
unfolding kinds both bang subst erased same
var_refused = refl

unit_refused : UnitRefused
unfolding kinds both bang subst erased same
unit_refused = refl

bool_refused : BoolRefused
unfolding kinds both bang subst erased same
bool_refused = refl

lit_refused : LitRefused
unfolding kinds both bang subst erased same
lit_refused = refl

fun_refused : FunRefused
unfolding kinds both bang subst erased same
fun_refused = refl

new_refused : NewRefused
unfolding kinds both bang subst erased same
new_refused = refl

pub leaves : Leaves
leaves = record { var_derived = var_derived; unit_derived = unit_derived; bool_derived = bool_derived; lit_derived = lit_derived; fun_derived = fun_derived; var_refused = var_refused; unit_refused = unit_refused; bool_refused = bool_refused; lit_refused = lit_refused; fun_refused = fun_refused; new_refused = new_refused }
