-- Types for the type variables change nothing of a core in which none stands.
use Rattle.std.proofs.Common.{◌≡◌, true, IsTrue, List, [], ◌∷◌, ◌++◌, map, refl, ap}
use Rattle.std.proofs.lemmas.Bool.{and_parts}
use Rattle.std.specs.List.{list_all}
use Rattle.cg_base.proofs.Counts.{no_steps as never}
use Rattle.cg_base.specs.Types as tau
use Rattle.cg_base.specs.Types.{Tau}
use Rattle.cg_core.specs.Terms as tree
use Rattle.cg_core.specs.Terms.{Arg, Note, Tree, term, Shape, fun, op, app, lets, let_bang, if_else, con, case_of, esac, struct, member, take_field, put, cast, annot, Trees, Named}
use Rattle.cg_inst_laws.proofs.Each.{Each, each_left, each_right}
use Rattle.cg_kinds.specs.Kinds.{subst, subst_all, subst_parts}
use Rattle.cg_mono_closed.specs.Closed.{ClosedCoresStay, closed, closed_all, closed_arg, closed_node, closed_parts, closed_shape}
use Rattle.cg_typing.specs.Instances.{nodes_below, nodes_of, nodes_of_all, nodes_of_fields}
use Rattle.cg_typing.specs.Subst.{subst_arg, subst_core, subst_cores, subst_fields, subst_shape}

abbrev IsClosedNode : Tree Note → Type 0
IsClosedNode t = IsTrue (closed_node t)

each_closed : (ts : List (Tree Note)) → IsTrue (list_all closed_node ts) → Each IsClosedNode ts
each_closed [] h = tt
each_closed (t ∷ ts) h = let p = and_parts (closed_node t) _ h in (p.0, each_closed ts p.1)

-- ---- types for the type variables change nothing of a core whose nodes have none

-- those of a form's parts
two_parts : (x y : Tree Note) → Each IsClosedNode (nodes_of x ++ nodes_of y) → Each IsClosedNode (nodes_of x) × Each IsClosedNode (nodes_of y)
two_parts x y h = (each_left IsClosedNode (nodes_of x) (nodes_of y) h, each_right IsClosedNode (nodes_of x) (nodes_of y) h)

three_parts : (x y z : Tree Note) → Each IsClosedNode (nodes_of x ++ nodes_of y ++ nodes_of z) → Each IsClosedNode (nodes_of x) × Each IsClosedNode (nodes_of y) × Each IsClosedNode (nodes_of z)
three_parts x y z h = let p = two_parts x y (each_left IsClosedNode (nodes_of x ++ nodes_of y) (nodes_of z) h) in (p.0, p.1, each_right IsClosedNode (nodes_of x ++ nodes_of y) (nodes_of z) h)

module _ (types : List Tau) where
  mutual
    unfolding subst

    type_stays : (t : Tau) → IsTrue (closed t) → subst types t ≡ t
    type_stays (tau.var n) h = never h
    type_stays (tau.seen n) h = never h
    type_stays tau.unit h = refl
    type_stays (tau.word w) h = refl
    type_stays tau.bool h = refl
    type_stays (tau.arrow a b) h = let p = and_parts (closed a) _ h in let x = type_stays a p.0 in let y = type_stays b p.1 in λ k. tau.arrow (x k) (y k)
    type_stays (tau.abs name ts sigil) h = ap (λ us. tau.abs name us sigil) (all_stay ts h)
    type_stays (tau.variant ps) h = ap tau.variant (parts_stay ps h)
    type_stays (tau.fields ps sigil) h = ap (λ qs. tau.fields qs sigil) (parts_stay ps h)

    all_stay : (ts : tau.Taus) → IsTrue (closed_all ts) → subst_all types ts ≡ ts
    all_stay tau.none h = refl
    all_stay (tau.more t ts) h = let p = and_parts (closed t) _ h in let x = type_stays t p.0 in let y = all_stay ts p.1 in λ k. tau.more (x k) (y k)

    parts_stay : (ps : tau.Parts) → IsTrue (closed_parts ps) → subst_parts types ps ≡ ps
    parts_stay tau.end h = refl
    parts_stay (tau.part name t taken ps) h = let p = and_parts (closed t) _ h in let x = type_stays t p.0 in let y = parts_stay ps p.1 in λ k. tau.part name (x k) taken (y k)

  arg_stays : (a : Arg) → IsTrue (closed_arg a) → subst_arg types a ≡ a
  arg_stays a h = ap (λ t. record { place = a.place; ty = t }) (type_stays a.ty h)

  args_stay : (args : List Arg) → IsTrue (list_all closed_arg args) → map (subst_arg types) args ≡ args
  args_stay [] h = refl
  args_stay (a ∷ args) h = let p = and_parts (closed_arg a) _ h in let x = arg_stays a p.0 in let y = args_stay args p.1 in λ k. x k ∷ y k

  mutual
    core_stays : (t : Tree Note) → Each IsClosedNode (nodes_of t) → subst_core types t ≡ t
    core_stays (term note s) h =
        let own = and_parts (closed note.ty) (closed_shape s) h.0 in
        let x : record { place = note.place; ty = subst types note.ty } ≡ note = ap (λ t. record { place = note.place; ty = t }) (type_stays note.ty own.0) in
        let y = shape_stays s own.1 h.1 in λ k. term (x k) (y k)

    shape_stays : (s : Shape Note) → IsTrue (closed_shape s) → Each IsClosedNode (nodes_below s) → subst_shape types s ≡ s
    shape_stays (tree.var i) own h = refl
    shape_stays tree.unit own h = refl
    shape_stays (tree.bool b) own h = refl
    shape_stays (tree.lit v) own h = refl
    shape_stays (fun f args) own h = ap (fun f) (args_stay args own)
    shape_stays (op o ts) own h = ap (op o) (cores_stay ts h)
    shape_stays (app f x) own h = let h = two_parts f x h in let p = core_stays f h.0 in let q = core_stays x h.1 in λ k. app (p k) (q k)
    shape_stays (lets binder x y) own h = let h = two_parts x y h in let p = core_stays x h.0 in let q = core_stays y h.1 in λ k. lets binder (p k) (q k)
    shape_stays (let_bang os binder x y) own h = let h = two_parts x y h in let p = core_stays x h.0 in let q = core_stays y h.1 in λ k. let_bang os binder (p k) (q k)
    shape_stays (if_else c x y) own h = let h = three_parts c x y h in let p = core_stays c h.0 in let q = core_stays x h.1 in let r = core_stays y h.2 in λ k. if_else (p k) (q k) (r k)
    shape_stays (con n x) own h = ap (con n) (core_stays x h)
    shape_stays (case_of c a binder x y) own h = let h = three_parts c x y h in let p = core_stays c h.0 in let q = core_stays x h.1 in let r = core_stays y h.2 in λ k. case_of (p k) a binder (q k) (r k)
    shape_stays (esac a x) own h = ap (esac a) (core_stays x h)
    shape_stays (struct fs) own h = ap struct (fields_stay fs h)
    shape_stays (member x a) own h = ap (λ x. member x a) (core_stays x h)
    shape_stays (take_field x a rest binder y) own h = let h = two_parts x y h in let p = core_stays x h.0 in let q = core_stays y h.1 in λ k. take_field (p k) a rest binder (q k)
    shape_stays (put x a y) own h = let h = two_parts x y h in let p = core_stays x h.0 in let q = core_stays y h.1 in λ k. put (p k) a (q k)
    shape_stays (cast x) own h = ap cast (core_stays x h)
    shape_stays (annot x a) own h = let p = core_stays x h in let q = arg_stays a own in λ k. annot (p k) (q k)

    cores_stay : (ts : Trees Note) → Each IsClosedNode (nodes_of_all ts) → subst_cores types ts ≡ ts
    cores_stay tree.none h = refl
    cores_stay (tree.more t ts) h =
        let p = core_stays t (each_left IsClosedNode (nodes_of t) (nodes_of_all ts) h) in let q = cores_stay ts (each_right IsClosedNode (nodes_of t) (nodes_of_all ts) h) in λ k. tree.more (p k) (q k)

    fields_stay : (fs : Named Note) → Each IsClosedNode (nodes_of_fields fs) → subst_fields types fs ≡ fs
    fields_stay tree.end h = refl
    fields_stay (tree.field n t fs) h =
        let p = core_stays t (each_left IsClosedNode (nodes_of t) (nodes_of_fields fs) h) in let q = fields_stay fs (each_right IsClosedNode (nodes_of t) (nodes_of_fields fs) h) in λ k. tree.field n (p k) (q k)

-- where no node has a type variable, the core stays
pub closed_cores_stay : ClosedCoresStay
closed_cores_stay c h types = core_stays types c (each_closed (nodes_of c) h)
