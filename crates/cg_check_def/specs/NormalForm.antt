-- The core of plain typing, and the derivation whose marks are the occurrences: each present variable goes where it
-- occurs, to both sides where it occurs on both, and to the second where it doesn't occur. An observed one is seen.
use Rattle.std.specs.Prelude.{ℕ, zero, suc, Bool, true, false, ◌||◌, not, cond, Option, Some, None, List, [], ◌∷◌}
use Rattle.cg_base.specs.declared.place.Place.{Place}
use Rattle.cg_base.specs.Types as types
use Rattle.cg_base.specs.Types.{Tau}
use Rattle.cg_core.specs.declared.derivation.Mark.{Mark}
use Rattle.cg_core.specs.declared.derivation.Mark.TheVariants.{Gone, Left, Right, Both, Seen}
use Rattle.cg_core.specs.declared.derivation.Node.TheVariants as nodes
use Rattle.cg_core.specs.declared.term.Seen.{Seen as Observer}
use Rattle.cg_core.specs.Derivations as trees
use Rattle.cg_core.specs.Derivations.{Derivation, Derivations, derivation}
use Rattle.cg_core.specs.Kernels.{Function}
use Rattle.cg_core.specs.Terms.{Tree, term, Shape, var, unit, bool, lit, fun, op, app, lets, let_bang, if_else, con, case_of, esac, struct, member, take_field, put, cast, annot, none, more, Named, end, field, Note}
use Rattle.cg_typing.specs.Contexts.{Context, push, first, second, among}
use Rattle.cg_faults.specs.Events.{field_directions, next_direction, later_directions}
use Rattle.cg_faults.specs.Occurrences.{touched, touched_fields}
use Rattle.cg_typing.specs.Operators.{Sort, arithmetic, sort_of, operand, checked_type}
use Rattle.cg_typing.specs.Parts.{taken_by, field_in, alternative_in, held, with_part}
use Rattle.cg_faults.specs.Plain.{observed, plain, plain_in}
use Rattle.cg_typing.specs.Rules.{is_literal, second_branch}
use Rattle.cg_typing.specs.Trees.{leaf, one, two, three}

-- ---- marks

-- the mark of an entry that is observed or not, and occurs on the first side or not, and on the second
abbrev pub pick : Bool → Bool → Bool → Option Tau → Mark
pick seen a b None = Gone
pick true a b (Some t) = Seen
pick false true true (Some t) = Both
pick false true false (Some t) = Left
pick false false b (Some t) = Right

abbrev pub marks : (ℕ → Bool) → (ℕ → Bool) → (ℕ → Bool) → Context → List Mark
marks seen a b [] = []
marks seen a b (entry ∷ g) = pick (seen zero) (a zero) (b zero) entry ∷ marks (λ i. seen (suc i)) (λ i. a (suc i)) (λ i. b (suc i)) g

-- the marks between two parts, between a part and two branches, and between a field and the later ones
abbrev pub marks_between : Tree Place → Tree Place → Context → List Mark
marks_between e k g = marks (λ i. false) (λ i. touched i e) (λ i. touched i k) g

abbrev pub marks_observed : List Observer → Tree Place → Tree Place → Context → List Mark
marks_observed observers e k g = marks (λ i. among i observers) (λ i. touched i e) (λ i. touched i k) g

abbrev pub marks_before_branches : Tree Place → Tree Place → Tree Place → Context → List Mark
marks_before_branches e x y g = marks (λ i. false) (λ i. touched i e) (λ i. touched i x || touched i y) g

abbrev pub marks_before_fields : Tree Place → Named Place → Context → List Mark
marks_before_fields e fs g = marks (λ i. false) (λ i. touched i e) (λ i. touched_fields i fs) g

-- ---- the core

abbrev pub noted : Place → Tau → Note
noted place t = record { place = place; ty = t }

-- the type of an operator's operands: the one that arithmetic is checked against, or else the guide's
abbrev pub operand_type : Sort → Option Tau → Tau → Tau
operand_type arithmetic (Some t) guide = t
operand_type sort direction guide = guide

module _ (functions : List Function) where
  abbrev mutual
    -- the core that a term has in a plain context, in a direction
    pub core : List Tau → Option Tau → Tree Place → Tree Note
    core p direction (term place shape) =
        term (noted place (plain_in functions p direction (term place shape))) (core_shape p direction shape)

    pub core_shape : List Tau → Option Tau → Shape Place → Shape Note
    core_shape p direction (var i) = var i
    core_shape p direction unit = unit
    core_shape p direction (bool b) = bool b
    core_shape p direction (lit value) = lit value
    core_shape p direction (fun f args) = fun f args
    core_shape p direction (op o (more x none)) =
        op o (more (core p (operand (sort_of o) direction true (operand_type (sort_of o) direction (plain functions p x))) x) none)
    core_shape p direction (op o (more l (more r none))) =
        let t = operand_type (sort_of o) direction (cond (is_literal l) (plain functions p r) (plain functions p l)) in
        op o (more (core p (operand (sort_of o) direction (not (is_literal l)) t) l) (more (core p (operand (sort_of o) direction (is_literal l) t) r) none))
    core_shape p direction (op o ts) = op o none
    core_shape p direction (app f x) = app (core p None f) (core p (Some (taken_by (plain functions p f))) x)
    core_shape p direction (lets binder e k) = lets binder (core p None e) (core (push p (plain functions p e)) direction k)
    core_shape p direction (let_bang observers binder e k) =
        let_bang observers binder (core (observed observers p) None e) (core (push p (plain functions (observed observers p) e)) direction k)
    core_shape p direction (if_else c x y) =
        if_else (core p (Some types.bool) c) (core p direction x) (core p (second_branch direction (plain functions p x)) y)
    core_shape p direction (con name e) = con name (core p (Some (held (alternative_in name (checked_type direction)))) e)
    core_shape p direction (case_of e at binder x y) =
        let t = plain functions p e in
        let q = push p (held (alternative_in at.name t)) in
        case_of (core p None e) at binder (core q direction x)
        (core (push p (with_part at.name true t)) (second_branch direction (plain functions q x)) y)
    core_shape p direction (esac at e) = esac at (core p None e)
    core_shape p direction (struct fs) = struct (core_fields p (field_directions direction) fs)
    core_shape p direction (member e at) = member (core p None e) at
    core_shape p direction (take_field e at rest binder k) =
        let t = plain functions p e in
        take_field (core p None e) at rest binder (core (push (push p (with_part at.name true t)) (held (field_in at.name t))) direction k)
    core_shape p direction (put e at x) = put (core p None e) at (core p (Some (held (field_in at.name (plain functions p e)))) x)
    core_shape p direction (cast e) = cast (core p None e)
    core_shape p direction (annot e a) = annot (core p (Some a.ty) e) a

    pub core_fields : List Tau → List (Option Tau) → Named Place → Named Note
    core_fields p directions end = end
    core_fields p directions (field name e fs) = field name (core p (next_direction directions) e) (core_fields p (later_directions directions) fs)

  -- ---- the derivation

  abbrev mutual
    -- the derivation of a term with the occurrence marks, in a context, and a plain one that tells types
    pub tree : Context → List Tau → Tree Place → Derivation
    tree g p (term place shape) = tree_shape g p shape

    pub tree_shape : Context → List Tau → Shape Place → Derivation
    tree_shape g p (var i) = leaf nodes.Var
    tree_shape g p unit = leaf nodes.Unit
    tree_shape g p (bool b) = leaf nodes.Bool
    tree_shape g p (lit value) = leaf nodes.Lit
    tree_shape g p (fun f args) = leaf nodes.Fun
    tree_shape g p (op o (more x none)) = one nodes.Op (tree g p x)
    tree_shape g p (op o (more l (more r none))) =
        let m = marks_between l r g in two nodes.Op m (tree (first m g) p l) (tree (second m g) p r)
    tree_shape g p (op o ts) = leaf nodes.Op
    tree_shape g p (app f x) = let m = marks_between f x g in two nodes.App m (tree (first m g) p f) (tree (second m g) p x)
    tree_shape g p (lets binder e k) =
        let m = marks_between e k g in
        let t = plain functions p e in
        two nodes.Let m (tree (first m g) p e) (tree (push (second m g) (Some t)) (push p t) k)
    tree_shape g p (let_bang observers binder e k) =
        let m = marks_observed observers e k g in
        let t = plain functions (observed observers p) e in
        two nodes.LetBang m (tree (first m g) (observed observers p) e) (tree (push (second m g) (Some t)) (push p t) k)
    tree_shape g p (if_else c x y) =
        let m = marks_before_branches c x y g in
        three nodes.If m (tree (first m g) p c) (tree (second m g) p x) (tree (second m g) p y)
    tree_shape g p (con name e) = one nodes.Con (tree g p e)
    tree_shape g p (case_of e at binder x y) =
        let m = marks_before_branches e x y g in
        let t = held (alternative_in at.name (plain functions p e)) in
        let u = with_part at.name true (plain functions p e) in
        three nodes.Case m (tree (first m g) p e) (tree (push (second m g) (Some t)) (push p t) x) (tree (push (second m g) (Some u)) (push p u) y)
    tree_shape g p (esac at e) = one nodes.Esac (tree g p e)
    tree_shape g p (struct fs) = derivation nodes.Struct (field_marks g fs) (field_trees g p fs)
    tree_shape g p (member e at) = one nodes.Member (tree g p e)
    tree_shape g p (take_field e at rest binder k) =
        let m = marks_between e k g in
        let t = with_part at.name true (plain functions p e) in
        let u = held (field_in at.name (plain functions p e)) in
        two nodes.Take m (tree (first m g) p e) (tree (push (push (second m g) (Some t)) (Some u)) (push (push p t) u) k)
    tree_shape g p (put e at x) = let m = marks_between e x g in two nodes.Put m (tree (first m g) p e) (tree (second m g) p x)
    tree_shape g p (cast e) = one nodes.Cast (tree g p e)
    tree_shape g p (annot e a) = one nodes.Annot (tree g p e)

    -- the derivations of fields, each but the last with what is split off for it
    pub field_trees : Context → List Tau → Named Place → Derivations
    field_trees g p end = trees.done
    field_trees g p (field name e end) = trees.part (tree g p e) trees.done
    field_trees g p (field name e (field later x fs)) =
        let m = marks_before_fields e (field later x fs) g in
        trees.part (tree (first m g) p e) (field_trees (second m g) p (field later x fs))

    pub field_marks : Context → Named Place → List (List Mark)
    field_marks g end = []
    field_marks g (field name e end) = []
    field_marks g (field name e (field later x fs)) =
        let m = marks_before_fields e (field later x fs) g in
        m ∷ field_marks (second m g) (field later x fs)
