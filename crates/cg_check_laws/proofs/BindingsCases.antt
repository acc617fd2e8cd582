-- Computed cases of operators, calls and bindings.
use Rattle.std.proofs.Common.{refl, [], arith}
use Rattle.cg_core.specs.Terms.{erased}
use Rattle.cg_faults.specs.Same.{same}
use Rattle.cg_kinds.specs.Kinds.{kinds, both, bang, subst}
use Rattle.cg_check_laws.proofs.LeafRows.{var_row, lit_row, fun_row}
use Rattle.cg_check_laws.proofs.Tests.{splits}
use Rattle.cg_check_laws.specs.Cases.{Bindings, ComplementDerived, AddDerived, EqDerived, AppDerived, LetDerived, LetBangDerived, AddRefused, AppRefused, LetRefused, LiteralRefused, LetBangRefused, ObservedRefused}

complement_derived : ComplementDerived
unfolding kinds both bang subst erased same
complement_derived = record { derives = record { tree = refl; counted = refl; operand = var_row refl refl refl; takes = refl; is = refl; meets = refl }; holds = refl }

add_derived : AddDerived
unfolding kinds both bang subst erased same
add_derived = record { derives = record { tree = refl; counted = refl; splits = splits [] _ _ _ refl; left = var_row refl refl refl; right = lit_row refl (omega arith) refl; alike = refl; takes = refl; is = refl; meets = refl }; holds = refl }

eq_derived : EqDerived
unfolding kinds both bang subst erased same
eq_derived = record { derives = record { tree = refl; counted = refl; splits = splits [] _ _ _ refl; left = lit_row refl (omega arith) refl; right = var_row refl refl tt; alike = refl; takes = refl; is = refl; meets = refl }; holds = refl }

app_derived : AppDerived
unfolding kinds both bang subst erased same
app_derived = record { derives = record { tree = refl; splits = splits [] _ _ _ refl; function = fun_row refl refl refl refl tt; argument = var_row refl refl refl; is_arrow = refl; meets = refl }; holds = refl }

let_derived : LetDerived
unfolding kinds both bang subst erased same
let_derived = record { derives = record { tree = refl; splits = splits [] _ _ _ refl; value = var_row refl refl tt; body = var_row refl refl refl; is = refl }; holds = refl }

let_bang_derived : LetBangDerived
unfolding kinds both bang subst erased same
let_bang_derived = record { derives = record { tree = refl; splits = splits [] _ _ _ refl; value = record { tree = refl; whole = var_row refl refl tt; left = refl; shared = refl; is = refl; meets = tt }; escapes = refl; body = var_row refl refl refl; is = refl }; holds = refl }

add_refused : AddRefused
unfolding kinds both bang subst erased same
add_refused = refl

app_refused : AppRefused
unfolding kinds both bang subst erased same
app_refused = refl

let_refused : LetRefused
unfolding kinds both bang subst erased same
let_refused = refl

literal_refused : LiteralRefused
unfolding kinds both bang subst erased same
literal_refused = refl

let_bang_refused : LetBangRefused
unfolding kinds both bang subst erased same
let_bang_refused = refl

observed_refused : ObservedRefused
unfolding kinds both bang subst erased same
observed_refused = refl

pub bindings : Bindings
bindings = record { complement_derived = complement_derived; add_derived = add_derived; eq_derived = eq_derived; app_derived = app_derived; let_derived = let_derived; let_bang_derived = let_bang_derived; add_refused = add_refused; app_refused = app_refused; let_refused = let_refused; literal_refused = literal_refused; let_bang_refused = let_bang_refused; observed_refused = observed_refused }
