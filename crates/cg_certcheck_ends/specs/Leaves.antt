-- Leaves of a body: variables, literals, and functions that are mentioned.
use Rattle.std.specs.Prelude.{ℕ, Bool, ◌&&◌, Option, List, Ok}
use Rattle.cg_base.specs.declared.fun.Fun.{Fun}
use Rattle.cg_base.specs.declared.kind.Kinds.{Kinds}
use Rattle.cg_base.specs.declared.place.Place.{Place}
use Rattle.cg_base.specs.Types as types
use Rattle.cg_base.specs.Types.{Tau}
use Rattle.cg_certcheck_context.specs.Steps.{leaf_reached, leaf_tested}
use Rattle.cg_certcheck_def.specs.Events.{is_number}
use Rattle.cg_certcheck_def.specs.Pass.{Out, Cursor, Got, bind, row, made, wanted}
use Rattle.cg_certcheck_def.specs.Tests.{is_present, drops_all, drops_but}
use Rattle.cg_core.specs.declared.derivation.Node.{Node}
use Rattle.cg_core.specs.declared.derivation.Node.TheVariants as nodes
use Rattle.cg_core.specs.Kernels.{Function}
use Rattle.cg_core.specs.Terms.{Shape, var, unit, bool, lit, fun, Arg, Note}
use Rattle.cg_faults.specs.Plain.{mentioned}
use Rattle.cg_kinds.specs.Kinds.{or_unit}
use Rattle.cg_typing.specs.Contexts.{Context, look}
use Rattle.cg_typing.specs.Functions.{asked_by, are_good_arguments}
use Rattle.cg_typing.specs.Trees.{leaf}

-- a leaf of this type, of whose context it is known whether it may end here
abbrev pub leaf_by : Option Tau → Place → Tau → Shape Note → Node → Bool → Cursor → Out Got
leaf_by d place t shape node holds at = bind (leaf_tested d t node holds at) (λ behind. Ok (made place t shape (leaf node) behind))

abbrev pub var_by : List Kinds → Context → Option Tau → Cursor → Place → ℕ → Out Got
var_by vars g d at place i = leaf_by d place (or_unit (look g i)) (var i) nodes.Var (is_present (look g i) && drops_but vars i g) at

abbrev pub unit_by : List Kinds → Context → Option Tau → Cursor → Place → Out Got
unit_by vars g d at place = leaf_by d place types.unit unit nodes.Unit (drops_all vars g) at

abbrev pub bool_by : List Kinds → Context → Option Tau → Cursor → Place → Bool → Out Got
bool_by vars g d at place b = leaf_by d place types.bool (bool b) nodes.Bool (drops_all vars g) at

abbrev pub literal_by : List Kinds → Context → Option Tau → Cursor → Place → Option ℕ → Out Got
literal_by vars g d at place value =
    bind (leaf_reached at nodes.Lit) (λ behind. row at.next (drops_all vars g && is_number value d) (Ok (made place (wanted d types.unit) (lit value) (leaf nodes.Lit) behind)))

abbrev pub mention_by : List Function → List Kinds → Context → Option Tau → Cursor → Place → Fun → List Arg → Out Got
mention_by functions vars g d at place f args =
    leaf_by d place (mentioned functions f args) (fun f args) nodes.Fun (drops_all vars g && are_good_arguments vars (asked_by functions f) args) at
