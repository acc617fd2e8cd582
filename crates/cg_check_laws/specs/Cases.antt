-- Computed cases of the rows: for each form a body that is derived, of which no event fails, and one that is refused, with
-- the rule and the place of its first event that fails. All stand on one line, and a node's place is its column.
use Rattle.std.specs.Prelude.{◌≡◌, ℕ, zero, suc, true, false, Option, Some, None, List, [], ◌∷◌, codes}
use Rattle.cg_base.specs.declared.fun.Fun.TheVariants.{User, Lib as OfLib}
use Rattle.cg_base.specs.declared.fun.Lib.TheVariants.{New}
use Rattle.cg_base.specs.declared.kind.Bound.{Bound}
use Rattle.cg_base.specs.declared.kind.Kinds.{Kinds}
use Rattle.cg_base.specs.declared.kind.Sigil.TheVariants.{R, W}
use Rattle.cg_base.specs.declared.place.Place.{Place}
use Rattle.cg_base.specs.Types as types
use Rattle.cg_base.specs.Types.{Tau, arrow, variant, fields, part}
use Rattle.cg_core.specs.declared.derivation.Mark.TheVariants.{Left, Right, Both, Seen}
use Rattle.cg_core.specs.declared.derivation.Node.TheVariants as nodes
use Rattle.cg_core.specs.declared.op.Op.TheVariants.{Add, Complement, Eq}
use Rattle.cg_core.specs.Derivations as trees
use Rattle.cg_core.specs.Derivations.{Derivation, derivation}
use Rattle.cg_core.specs.Kernels.{Function, Body}
use Rattle.cg_core.specs.Terms.{Tree, var, unit, bool, lit, fun, op, app, lets, let_bang, if_else, con, case_of, esac, struct, member, take_field, put, cast, annot, none, more, end, field, Note, erased}
use Rattle.cg_kinds.specs.Kinds.{no_kinds, seen_kinds}
use Rattle.cg_faults.specs.declared.rule.Rule.{Rule}
use Rattle.cg_faults.specs.declared.rule.Rule.TheVariants.{K1, K2, K3, K4, K5, K6, K7, T1, T2, T3, T4, T5, T6, T7, T8, T9, T10, T11, T12, T13, T14}
use Rattle.cg_faults.specs.Events.{body_events, first_failing}
use Rattle.cg_faults.specs.Fails.{Fails}
use Rattle.cg_typing.specs.Library.{state, array, pair, unboxed, whole}
use Rattle.cg_faults.specs.Rule.{Test, rule, type_limit}
use Rattle.cg_typing.specs.Rules.{Derives}
use Rattle.cg_typing.specs.Samples.{cell, core, named, node, spot, u8, u16, u32, written, x}
use Rattle.cg_typing.specs.Trees.{leaf, one, two, three}

-- ---- what a case says

-- the argument of a body is bound at column 0
abbrev pub body_at : Tree Place → Option Body
body_at body = Some (record { param = spot 0; term = body })

abbrev pub first_fault : List Function → Tau → Tau → Tree Place → Option (Test × Place)
first_fault functions argument result body = first_failing (body_events functions [] argument result (body_at body))

-- a body of this core is derived by this derivation, and none of its events fails
pub record IsDerived (functions : List Function) (argument result : Tau) (tree : Derivation) (core : Tree Note) : Type 0 where
  pub derives : Derives functions [] (Some argument ∷ []) tree (Some result) core
  pub holds : first_fault functions argument result (erased core) ≡ None

-- a body is refused by this rule at this column
abbrev pub IsRefused : List Function → Tau → Tau → Tree Place → Rule → ℕ → Type 0
IsRefused functions argument result body r column = first_fault functions argument result body ≡ Some (rule r, spot column)

-- ---- words for types and functions

abbrev pub a : List ℕ
a = codes "A"

abbrev pub b : List ℕ
b = codes "B"

-- `{x : U32}!`, `{x : U32}` without its field, and `#{x : U8}`
abbrev pub seen_cell : Tau
seen_cell = fields (whole x u32 types.end) R

abbrev pub empty_cell : Tau
empty_cell = fields (part x u32 true types.end) W

abbrev pub flat_cell : Tau
flat_cell = unboxed (whole x u8 types.end)

-- `<A U8>`, `<A U8 | B>`, and the latter without A
abbrev pub only_a : Tau
only_a = variant (whole a u8 types.end)

abbrev pub a_or_b : Tau
a_or_b = variant (whole a u8 (whole b types.unit types.end))

abbrev pub not_a : Tau
not_a = variant (part a u8 true (whole b types.unit types.end))

-- functions without a body: `f : U8 -> U8`, `eat : SysState -> ()`, `id : all a. a -> a`, `d : all (a :< DS). a -> a`
abbrev pub function : List Bound → Tau → Function
function vars t = record { at = named 0 (codes "f"); vars = vars; ty = written 0 t; body = None }

abbrev pub bound : Kinds → List Bound
bound kinds = record { name = codes "a"; kinds = kinds } ∷ []

abbrev pub four : List Function
four =
    function [] (arrow u8 u8) ∷ (function [] (arrow state types.unit) ∷ (function (bound no_kinds) (arrow (types.var 0) (types.var 0))
    ∷ (function (bound seen_kinds) (arrow (types.var 0) (types.var 0)) ∷ [])))

-- ---- leaves

-- `s`; `#{p1 = s, p2 = s}`
abbrev pub VarDerived : Type 0
VarDerived = IsDerived [] state state (leaf nodes.Var) (core 1 state (var 0))

abbrev pub VarRefused : Type 0
VarRefused = IsRefused [] state (pair state state) (node 1 (struct (field (codes "p1") (node 2 (var 0)) (field (codes "p2") (node 3 (var 0)) end)))) K4 3

-- `()`; the same for a number
abbrev pub UnitDerived : Type 0
UnitDerived = IsDerived [] u8 types.unit (leaf nodes.Unit) (core 1 types.unit unit)

abbrev pub UnitRefused : Type 0
UnitRefused = IsRefused [] u8 u8 (node 1 unit) T1 1

-- `True`; the same for a number
abbrev pub BoolDerived : Type 0
BoolDerived = IsDerived [] u8 types.bool (leaf nodes.Bool) (core 1 types.bool (bool true))

abbrev pub BoolRefused : Type 0
BoolRefused = IsRefused [] u8 u8 (node 1 (bool true)) T1 1

-- `255`; `256`
abbrev pub LitDerived : Type 0
LitDerived = IsDerived [] u8 u8 (leaf nodes.Lit) (core 1 u8 (lit (Some 255)))

abbrev pub LitRefused : Type 0
LitRefused = IsRefused [] u8 u8 (node 1 (lit (Some 256))) T3 1

-- `id[SysState]`; `d[SysState]`
abbrev pub FunDerived : Type 0
FunDerived = IsDerived four u8 (arrow state state) (leaf nodes.Fun) (core 1 (arrow state state) (fun (User 2) (written 2 state ∷ [])))

abbrev pub FunRefused : Type 0
FunRefused = IsRefused four u8 (arrow state state) (node 1 (fun (User 3) (written 2 state ∷ []))) K1 2

-- `new[U8]`
abbrev pub NewRefused : Type 0
NewRefused = IsRefused [] u8 u8 (node 1 (fun (OfLib New) (written 2 u8 ∷ []))) T13 2

pub record Leaves : Type 0 where
  pub var_derived : VarDerived
  pub var_refused : VarRefused
  pub unit_derived : UnitDerived
  pub unit_refused : UnitRefused
  pub bool_derived : BoolDerived
  pub bool_refused : BoolRefused
  pub lit_derived : LitDerived
  pub lit_refused : LitRefused
  pub fun_derived : FunDerived
  pub fun_refused : FunRefused
  pub new_refused : NewRefused

-- ---- operators, calls and bindings

-- `complement x`; `x + 1`; `1 == x`, whose guide is x; `() + ()`
abbrev pub ComplementDerived : Type 0
ComplementDerived = IsDerived [] u8 u8 (one nodes.Op (leaf nodes.Var)) (core 1 u8 (op Complement (more (core 2 u8 (var 0)) none)))

abbrev pub AddDerived : Type 0
AddDerived =
    IsDerived [] u8 u8 (two nodes.Op (Left ∷ []) (leaf nodes.Var) (leaf nodes.Lit))
    (core 2 u8 (op Add (more (core 1 u8 (var 0)) (more (core 3 u8 (lit (Some 1))) none))))

abbrev pub EqDerived : Type 0
EqDerived =
    IsDerived [] u8 types.bool (two nodes.Op (Right ∷ []) (leaf nodes.Lit) (leaf nodes.Var))
    (core 2 types.bool (op Eq (more (core 1 u8 (lit (Some 1))) (more (core 3 u8 (var 0)) none))))

abbrev pub AddRefused : Type 0
AddRefused = IsRefused [] types.unit types.unit (node 2 (op Add (more (node 1 (var 0)) (more (node 3 (var 0)) none)))) T12 2

-- `f x`; `x 1`
abbrev pub AppDerived : Type 0
AppDerived =
    IsDerived four u8 u8 (two nodes.App (Right ∷ []) (leaf nodes.Fun) (leaf nodes.Var))
    (core 1 u8 (app (core 1 (arrow u8 u8) (fun (User 0) [])) (core 2 u8 (var 0))))

abbrev pub AppRefused : Type 0
AppRefused = IsRefused [] u8 u8 (node 1 (app (node 1 (var 0)) (node 2 (lit (Some 1))))) T4 1

-- `let t = s in t`; `let t = s in ()`; `let t = 1 in ()`
abbrev pub LetDerived : Type 0
LetDerived =
    IsDerived [] state state (two nodes.Let (Left ∷ []) (leaf nodes.Var) (leaf nodes.Var))
    (core 1 state (lets (spot 1) (core 2 state (var 0)) (core 3 state (var 1))))

abbrev pub LetRefused : Type 0
LetRefused = IsRefused [] state types.unit (node 1 (lets (spot 1) (node 2 (var 0)) (node 3 unit))) K3 1

abbrev pub LiteralRefused : Type 0
LiteralRefused = IsRefused [] u8 types.unit (node 1 (lets (spot 1) (node 2 (lit (Some 1))) (node 3 unit))) T2 2

-- `let n = r.x !r in r`; `let n = r !r in r`
abbrev pub LetBangDerived : Type 0
LetBangDerived =
    IsDerived [] cell cell (two nodes.LetBang (Seen ∷ []) (one nodes.Member (leaf nodes.Var)) (leaf nodes.Var))
    (core 1 cell (let_bang (record { var = 0; place = spot 5 } ∷ []) (spot 2) (core 3 u32 (member (core 3 seen_cell (var 0)) (named 4 x))) (core 6 cell (var 0))))

abbrev pub LetBangRefused : Type 0
LetBangRefused = IsRefused [] cell cell (node 1 (let_bang (record { var = 0; place = spot 4 } ∷ []) (spot 2) (node 3 (var 0)) (node 5 (var 0)))) K2 3

-- `r` observed, and then used nowhere: the argument is K3
abbrev pub ObservedRefused : Type 0
ObservedRefused =
    IsRefused [] cell u32 (node 1 (let_bang (record { var = 0; place = spot 5 } ∷ []) (spot 2) (node 3 (member (node 3 (var 0)) (named 4 x))) (node 6 (var 1)))) K3 0

pub record Bindings : Type 0 where
  pub complement_derived : ComplementDerived
  pub add_derived : AddDerived
  pub eq_derived : EqDerived
  pub add_refused : AddRefused
  pub app_derived : AppDerived
  pub app_refused : AppRefused
  pub let_derived : LetDerived
  pub let_refused : LetRefused
  pub literal_refused : LiteralRefused
  pub let_bang_derived : LetBangDerived
  pub let_bang_refused : LetBangRefused
  pub observed_refused : ObservedRefused

-- ---- branches and variants

-- `if b then 1 else 2`; `if True then eat s else ()`
abbrev pub IfDerived : Type 0
IfDerived =
    IsDerived [] types.bool u8 (three nodes.If (Left ∷ []) (leaf nodes.Var) (leaf nodes.Lit) (leaf nodes.Lit))
    (core 1 u8 (if_else (core 2 types.bool (var 0)) (core 3 u8 (lit (Some 1))) (core 4 u8 (lit (Some 2)))))

abbrev pub IfRefused : Type 0
IfRefused =
    IsRefused four state types.unit (node 1 (if_else (node 2 (bool true)) (node 3 (app (node 3 (fun (User 1) [])) (node 4 (var 0)))) (node 5 unit))) K5 5

-- `A x`; `B x` of a variant that has no B
abbrev pub ConDerived : Type 0
ConDerived = IsDerived [] u8 a_or_b (one nodes.Con (leaf nodes.Var)) (core 1 a_or_b (con a (core 2 u8 (var 0))))

abbrev pub ConRefused : Type 0
ConRefused = IsRefused [] u8 only_a (node 1 (con b (node 2 (var 0)))) T8 1

-- `v | A x -> x | y -> 0`; the same of what is left
abbrev pub CaseDerived : Type 0
CaseDerived =
    IsDerived [] a_or_b u8 (three nodes.Case (Left ∷ []) (leaf nodes.Var) (leaf nodes.Var) (leaf nodes.Lit))
    (core 2 u8 (case_of (core 1 a_or_b (var 0)) (named 2 a) (spot 3) (core 4 u8 (var 1)) (core 6 u8 (lit (Some 0)))))

abbrev pub CaseRefused : Type 0
CaseRefused = IsRefused [] not_a u8 (node 2 (case_of (node 1 (var 0)) (named 2 a) (spot 3) (node 4 (var 1)) (node 6 (lit (Some 0))))) T10 2

-- `v | A x -> x` as the last alternative; the same with B left
abbrev pub EsacDerived : Type 0
EsacDerived = IsDerived [] only_a u8 (one nodes.Esac (leaf nodes.Var)) (core 2 u8 (esac (named 2 a) (core 1 only_a (var 0))))

abbrev pub EsacRefused : Type 0
EsacRefused = IsRefused [] a_or_b u8 (node 2 (esac (named 2 a) (node 1 (var 0)))) T9 2

pub record Branches : Type 0 where
  pub if_derived : IfDerived
  pub if_refused : IfRefused
  pub con_derived : ConDerived
  pub con_refused : ConRefused
  pub case_derived : CaseDerived
  pub case_refused : CaseRefused
  pub esac_derived : EsacDerived
  pub esac_refused : EsacRefused

-- ---- records and written types

-- `#{p1 = x, p2 = x}`; the same as a record that is written to
abbrev pub StructDerived : Type 0
StructDerived =
    IsDerived [] u8 (pair u8 u8) (derivation nodes.Struct ((Both ∷ []) ∷ []) (trees.part (leaf nodes.Var) (trees.part (leaf nodes.Var) trees.done)))
    (core 1 (pair u8 u8) (struct (field (codes "p1") (core 2 u8 (var 0)) (field (codes "p2") (core 3 u8 (var 0)) end))))

abbrev pub StructRefused : Type 0
StructRefused = IsRefused [] u32 cell (node 1 (struct (field x (node 2 (var 0)) end))) T1 1

-- `r.x`; the same of a record that can't be shared
abbrev pub MemberDerived : Type 0
MemberDerived = IsDerived [] flat_cell u8 (one nodes.Member (leaf nodes.Var)) (core 1 u8 (member (core 1 flat_cell (var 0)) (named 2 x)))

abbrev pub MemberRefused : Type 0
MemberRefused = IsRefused [] cell u32 (node 1 (member (node 1 (var 0)) (named 2 x))) K6 2

-- `let s {x = v} = r in s`; the same of a record that is only read, and of one without the field, and at another name
abbrev pub TakeDerived : Type 0
TakeDerived =
    IsDerived [] cell empty_cell (two nodes.Take (Left ∷ []) (leaf nodes.Var) (leaf nodes.Var))
    (core 1 empty_cell (take_field (core 4 cell (var 0)) (named 2 x) (spot 1) (spot 3) (core 5 empty_cell (var 1))))

abbrev pub TakeRefused : Type 0
TakeRefused = IsRefused [] seen_cell seen_cell (node 1 (take_field (node 4 (var 0)) (named 2 x) (spot 1) (spot 3) (node 5 (var 1)))) T7 2

abbrev pub TakeTakenRefused : Type 0
TakeTakenRefused = IsRefused [] empty_cell empty_cell (node 1 (take_field (node 4 (var 0)) (named 2 x) (spot 1) (spot 3) (node 5 (var 1)))) T6 2

abbrev pub TakeNothingRefused : Type 0
TakeNothingRefused = IsRefused [] cell cell (node 1 (take_field (node 4 (var 0)) (named 2 a) (spot 1) (spot 3) (node 5 (var 1)))) T5 2

-- `r {x = 1}` of a record without its field; over a field that can't be dropped
abbrev pub PutDerived : Type 0
PutDerived =
    IsDerived [] empty_cell cell (two nodes.Put (Left ∷ []) (leaf nodes.Var) (leaf nodes.Lit))
    (core 1 cell (put (core 1 empty_cell (var 0)) (named 2 x) (core 3 u32 (lit (Some 1)))))

abbrev pub PutRefused : Type 0
PutRefused = IsRefused [] (fields (whole x state types.end) W) cell (node 1 (put (node 1 (var 0)) (named 2 x) (node 3 (lit (Some 1))))) K7 2

-- `upcast x` of 8 bits to 16; of 16 to 8
abbrev pub CastDerived : Type 0
CastDerived = IsDerived [] u8 u16 (one nodes.Cast (leaf nodes.Var)) (core 1 u16 (cast (core 2 u8 (var 0))))

abbrev pub CastRefused : Type 0
CastRefused = IsRefused [] u16 u8 (node 1 (cast (node 2 (var 0)))) T11 1

-- `(x : U8)`; `(x : WordArray Bool)`
abbrev pub AnnotDerived : Type 0
AnnotDerived = IsDerived [] u8 u8 (one nodes.Annot (leaf nodes.Var)) (core 1 u8 (annot (core 1 u8 (var 0)) (written 2 u8)))

abbrev pub AnnotRefused : Type 0
AnnotRefused = IsRefused [] u8 u8 (node 1 (annot (node 1 (var 0)) (written 2 (array types.bool)))) T14 2

pub record Records : Type 0 where
  pub struct_derived : StructDerived
  pub struct_refused : StructRefused
  pub member_derived : MemberDerived
  pub member_refused : MemberRefused
  pub take_derived : TakeDerived
  pub take_refused : TakeRefused
  pub take_taken_refused : TakeTakenRefused
  pub take_nothing_refused : TakeNothingRefused
  pub put_derived : PutDerived
  pub put_refused : PutRefused
  pub cast_derived : CastDerived
  pub cast_refused : CastRefused
  pub annot_derived : AnnotDerived
  pub annot_refused : AnnotRefused

-- ---- the limit on types

-- a pair of pairs, so many deep
abbrev pub doubled : ℕ → Tau → Tau
doubled zero t = t
doubled (suc n) t = pair (doubled n t) (doubled n t)

-- `let t = f in ()`, where the type of f has more than 1,024 nodes
abbrev pub TypeTooLarge : Type 0
TypeTooLarge =
    first_fault (function [] (arrow u8 (doubled 9 u8)) ∷ []) u8 types.unit (node 1 (lets (spot 1) (node 2 (fun (User 0) [])) (node 3 unit)))
    ≡ Some (type_limit, spot 2)

-- ---- a variable that may be shared and not dropped: it is used, and then observed without a use behind that

abbrev pub shared_kinds : Kinds
shared_kinds = record { drop = false; share = true; escape = false }

-- `eat : all (a :< S). a -> ()`, and `let y = eat[a] x in let z = () !x in ()`
abbrev pub SightedRefused : Type 0
SightedRefused =
    first_failing (body_events (function (bound shared_kinds) (arrow (types.var 0) types.unit) ∷ []) (shared_kinds ∷ []) (types.var 0) types.unit
    (body_at (node 1 (lets (spot 1) (node 2 (app (node 2 (fun (User 0) (written 3 (types.var 0) ∷ []))) (node 4 (var 0))))
    (node 5 (let_bang (record { var = 0; place = spot 8 } ∷ []) (spot 6) (node 7 unit) (node 9 unit)))))))
    ≡ Some (rule K3, spot 8)

-- ---- cases of faults in their own words, of bodies that are a leaf

-- a function, and a kernel of it alone
abbrev pub with_body : Tau → Tree Place → Function
with_body t body = record { at = named 0 (codes "f"); vars = []; ty = written 0 t; body = body_at body }

abbrev pub only : Tau → Tree Place → List Function
only t body = with_body t body ∷ []

-- `f : U8 -> U8` and `()`; `True`; `256`; `new[U8]`
abbrev pub UnitFails : Type 0
UnitFails = Fails (only (arrow u8 u8) (node 1 unit)) (rule T1) (spot 1)

abbrev pub BoolFails : Type 0
BoolFails = Fails (only (arrow u8 u8) (node 1 (bool true))) (rule T1) (spot 1)

abbrev pub LitFails : Type 0
LitFails = Fails (only (arrow u8 u8) (node 1 (lit (Some 256)))) (rule T3) (spot 1)

abbrev pub NewFails : Type 0
NewFails = Fails (only (arrow u8 u8) (node 1 (fun (OfLib New) (written 2 u8 ∷ [])))) (rule T13) (spot 2)

-- `f : SysState -> ()` and `f s = ()`: the argument is never used
abbrev pub DroppedFails : Type 0
DroppedFails = Fails (only (arrow state types.unit) (node 1 unit)) (rule K3) (spot 0)

pub record Faults : Type 0 where
  pub unit_fails : UnitFails
  pub bool_fails : BoolFails
  pub lit_fails : LitFails
  pub new_fails : NewFails
  pub dropped_fails : DroppedFails
