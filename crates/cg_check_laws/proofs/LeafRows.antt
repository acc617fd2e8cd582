-- Rows of leaves, where the tests say that what isn't used may be dropped.
use Rattle.std.proofs.Common.{◌≡◌, ℕ, true, false, IsTrue, Option, Some, List, length, nat_eq, refl}
use Rattle.cg_base.specs.declared.fun.Fun.{Fun}
use Rattle.cg_base.specs.declared.kind.Kinds.{Kinds}
use Rattle.cg_base.specs.Types as types
use Rattle.cg_base.specs.Types.{Tau}
use Rattle.cg_core.specs.declared.derivation.Node.TheVariants as nodes
use Rattle.cg_core.specs.Kernels.{Function}
use Rattle.cg_core.specs.Terms.{Arg}
use Rattle.cg_kinds.specs.Kinds.{is_word}
use Rattle.cg_typing.specs.Contexts.{Context, look}
use Rattle.cg_typing.specs.Functions.{fun_type, takes_as_many, asked_by, are_good_arguments}
use Rattle.cg_typing.specs.Rules.{Meets, InRange, VarRow, UnitRow, BoolRow, LitRow, FunRow}
use Rattle.cg_typing.specs.Trees.{leaf}
use Rattle.cg_check_laws.proofs.Tests.{drops_test, all_drop, others_drop}

pub var_row : {functions : List Function} {vars : List Kinds} {g : Context} {direction : Option Tau} {i : ℕ} {t : Tau}
    → look g i ≡ Some t → drops_test vars (λ j. nat_eq j i) g ≡ true → Meets direction t → VarRow functions vars g (leaf nodes.Var) direction i t
var_row {functions = functions} {vars = vars} {g = g} {direction = direction} {i = i} {t = t} present drops meets =
    record { tree = refl; present = present; others = others_drop vars i g drops; meets = meets }

pub unit_row : {functions : List Function} {vars : List Kinds} {g : Context} {direction : Option Tau}
    → drops_test vars (λ j. false) g ≡ true → Meets direction types.unit → UnitRow functions vars g (leaf nodes.Unit) direction types.unit
unit_row {functions = functions} {vars = vars} {g = g} {direction = direction} drops meets =
    record { tree = refl; is = refl; others = all_drop vars g drops; meets = meets }

pub bool_row : {functions : List Function} {vars : List Kinds} {g : Context} {direction : Option Tau}
    → drops_test vars (λ j. false) g ≡ true → Meets direction types.bool → BoolRow functions vars g (leaf nodes.Bool) direction types.bool
bool_row {functions = functions} {vars = vars} {g = g} {direction = direction} drops meets =
    record { tree = refl; is = refl; others = all_drop vars g drops; meets = meets }

pub lit_row : {functions : List Function} {vars : List Kinds} {g : Context} {value : Option ℕ} {t : Tau}
    → IsTrue (is_word t) → InRange value t → drops_test vars (λ j. false) g ≡ true → LitRow functions vars g (leaf nodes.Lit) (Some t) value t
lit_row {functions = functions} {vars = vars} {g = g} {value = value} {t = t} is_a_word in_range drops =
    record { tree = refl; checked = refl; is_a_word = is_a_word; in_range = in_range; others = all_drop vars g drops }

pub fun_row : {functions : List Function} {vars : List Kinds} {g : Context} {direction : Option Tau} {f : Fun} {args : List Arg} {t : Tau}
    → IsTrue (takes_as_many functions f (length args)) → IsTrue (are_good_arguments vars (asked_by functions f) args) → fun_type functions f args ≡ Some t
    → drops_test vars (λ j. false) g ≡ true → Meets direction t → FunRow functions vars g (leaf nodes.Fun) direction f args t
fun_row {functions = functions} {vars = vars} {g = g} {direction = direction} {f = f} {args = args} {t = t} many arguments is drops meets =
    record { tree = refl; many = many; arguments = arguments; is = is; others = all_drop vars g drops; meets = meets }
