-- The second checker as a pure function: one pass over a term and the nodes of a certificate side by side, which answers the term's type,
-- its core, its derivation and what is left of the nodes, or the first fault that it meets. It finds no splits: those of the certificate
-- are tested, and the contexts of the parts are what they leave.
use Rattle.std.specs.Prelude.{ℕ, suc, Bool, true, false, ◌&&◌, not, Option, Some, None, Result, Ok, Err, List, [], ◌∷◌}
use Rattle.cg_base.specs.declared.kind.Kinds.{Kinds}
use Rattle.cg_base.specs.declared.kind.Sigil.TheVariants.{U}
use Rattle.cg_base.specs.declared.limit.Limit.TheVariants.{Ty}
use Rattle.cg_base.specs.declared.place.Place.{Place}
use Rattle.cg_base.specs.Types as types
use Rattle.cg_base.specs.Types.{Tau, fields, Parts, part}
use Rattle.cg_cert.specs.declared.cert.Cert.{Cert}
use Rattle.cg_cert.specs.declared.cert.CertFun.{CertFun}
use Rattle.cg_cert.specs.declared.cert.CertNode.{CertNode}
use Rattle.cg_cert.specs.declared.fault.CertFault.{CertFault}
use Rattle.cg_cert.specs.declared.fault.CertFault.TheVariants.{C2, C3, Limit}
use Rattle.cg_check_def.specs.NormalForm.{noted}
use Rattle.cg_core.specs.declared.derivation.Mark.{Mark}
use Rattle.cg_core.specs.declared.derivation.Node.{Node}
use Rattle.cg_core.specs.declared.derivation.Node.TheVariants as nodes
use Rattle.cg_core.specs.declared.op.Op.{Op}
use Rattle.cg_core.specs.declared.term.Seen.{Seen}
use Rattle.cg_core.specs.Derivations as trees
use Rattle.cg_core.specs.Derivations.{Derivation, Derivations, derivation}
use Rattle.cg_core.specs.Kernels.{Function, Body}
use Rattle.cg_core.specs.Terms.{Tree, term, Shape, var, unit, bool, lit, fun, op, app, lets, let_bang, if_else, con, case_of, esac, struct, member, take_field, put, cast, annot, none, more, Named, end, field, Note}
use Rattle.cg_faults.specs.Events.{field_directions, next_direction, later_directions}
use Rattle.cg_faults.specs.Plain.{mentioned}
use Rattle.cg_kinds.specs.Kinds.{kinds, is_word, or_unit}
use Rattle.cg_certcheck_def.specs.Events.{is_some, name_at, strings_at, marks_next, behind, no_strings, one_string, field_strings, value_of, meets, is_number, is_record, is_alternative, alternative_held, is_cast, is_over, is_named, nodes_next, funs_behind}
use Rattle.cg_certcheck_def.specs.Tests.{same_node, is_present, drops_all, drops_but}
use Rattle.cg_typing.specs.Accepted.{kinds_of_vars}
use Rattle.cg_typing.specs.Contexts.{Context, look, push, first, second, shares}
use Rattle.cg_typing.specs.Functions.{asked_by, are_good_arguments}
use Rattle.cg_typing.specs.Operators.{Sort, arithmetic, logic, sort_of, takes}
use Rattle.cg_typing.specs.Parts.{is_arrow, taken_by, given_by, is_read_only, field_in, alternative_in, held, is_there, is_left, may_be_put_over, with_part, is_last, has_word_arrays, is_small_enough}
use Rattle.cg_typing.specs.Rules.{is_literal, note_at, second_branch}
use Rattle.cg_typing.specs.Trees.{first_marks, later_marks, leaf, one, two, three}

-- ---- answers

-- a value, or the first fault
abbrev pub Out : Type 0 → Type 0
Out A = Result A CertFault

abbrev pub bind : {A B : Type 0} → Out A → (A → Out B) → Out B
bind (Ok a) f = f a
bind (Err fault) f = Err fault

-- goes on where the test holds
abbrev pub test : {A : Type 0} → CertFault → Bool → Out A → Out A
test fault true k = k
test fault false k = Err fault

abbrev pub row : {A : Type 0} → ℕ → Bool → Out A → Out A
row n holds k = test (C2 n) holds k

abbrev pub stands : {A : Type 0} → ℕ → Bool → Out A → Out A
stands n holds k = test (C3 n) holds k

-- where the pass stands among the nodes: those that are left, and the number of the next one
pub record Cursor : Type 0 where
  pub nodes : List CertNode
  pub next : ℕ

abbrev pub step : Cursor → Cursor
step at = record { nodes = behind at.nodes; next = suc at.next }

-- reaching a node: that there is one, and its name and marks
abbrev pub reach : {A : Type 0} → Cursor → Node → Bool → Out A → Out A
reach at node marked k = stands at.next (is_some at.nodes) (row at.next (same_node (name_at at.nodes) node && marked) k)

-- what a part comes to: its type, its core, its derivation, and where the pass stands behind it
pub record Got : Type 0 where
  pub ty : Tau
  pub core : Tree Note
  pub tree : Derivation
  pub at : Cursor

abbrev pub made : Place → Tau → Shape Note → Derivation → Cursor → Got
made place t shape tree at = record { ty = t; core = term (noted place t) shape; tree = tree; at = at }

-- what the fields of a record come to
pub record GotFields : Type 0 where
  pub parts : Parts
  pub cores : Named Note
  pub trees : Derivations
  pub at : Cursor

abbrev pub no_fields : Cursor → GotFields
no_fields at = record { parts = types.end; cores = end; trees = trees.done; at = at }

-- a field in front of others
abbrev pub in_front : List ℕ → Got → GotFields → GotFields
in_front name u v = record { parts = part name u.ty false v.parts; cores = field name u.core v.cores; trees = trees.part u.tree v.trees; at = v.at }

-- the type that a node is checked against, or else this one
abbrev pub wanted : Option Tau → Tau → Tau
wanted None t = t
wanted (Some w) t = w

-- ---- operators

-- the way in which a part is checked, from a place among the nodes
abbrev pub Way : Type 0
Way = Cursor → Option Tau → Out Got

abbrev pub operated : Op → Place → Tau → Got → Got
operated o place t u = made place t (op o (more u.core none)) (one nodes.Op u.tree) u.at

abbrev pub operated_both : List Mark → Op → Place → Tau → Got → Got → Cursor → Got
operated_both m o place t x y at = made place t (op o (more x.core (more y.core none))) (two nodes.Op m x.tree y.tree) at

abbrev pub unary : Sort → Op → Option Tau → Place → Cursor → Way → Out Got
unary logic o direction place at x =
    bind (x (step at) (Some types.bool)) (λ u. row at.next (meets direction types.bool) (Ok (operated o place types.bool u)))
unary arithmetic o (Some t) place at x = row at.next (is_word t) (bind (x (step at) (Some t)) (λ u. Ok (operated o place t u)))
unary arithmetic o None place at x = bind (x (step at) None) (λ u. row at.next (is_word u.ty) (Ok (operated o place u.ty u)))
unary sort o direction place at x =
    bind (x (step at) None) (λ u. row at.next (takes sort u.ty && meets direction types.bool) (Ok (operated o place types.bool u)))

module _ (functions : List Function) (vars : List Kinds) where
  -- a literal that stands left of its guide: it is reached first
  abbrev pub reach_literal : {A : Type 0} → Context → Cursor → Out A → Out A
  reach_literal g at k = reach at nodes.Lit (no_strings at.nodes) (row at.next (drops_all vars g) k)

  -- and judged behind it
  abbrev pub literal : Place → Option ℕ → Tau → Cursor → (Got → Out Got) → Out Got
  literal place value t at k =
      row at.next (is_number value (Some t)) (test (Limit Ty) (is_small_enough t) (k (made place t (lit value) (leaf nodes.Lit) (step at))))

  -- with two operands, of which the left one is such a literal, with its note and value, or none
  abbrev pub binary : List Mark → Sort → Op → Option Tau → Place → Bool → Place → Option ℕ → Context → Cursor → Way → Way → Out Got
  binary m logic o direction place is note value g at l r =
      bind (l (step at) (Some types.bool)) (λ x. bind (r x.at (Some types.bool)) (λ y.
      row at.next (meets direction types.bool) (Ok (operated_both m o place types.bool x y y.at))))
  binary m arithmetic o (Some t) place is note value g at l r =
      row at.next (is_word t) (bind (l (step at) (Some t)) (λ x. bind (r x.at (Some t)) (λ y. Ok (operated_both m o place t x y y.at))))
  binary m arithmetic o None place true note value g at l r =
      reach_literal g (step at) (bind (r (step (step at)) None) (λ y. row at.next (is_word y.ty)
      (literal note value y.ty (step at) (λ x. Ok (operated_both m o place y.ty x y y.at)))))
  binary m arithmetic o None place false note value g at l r =
      bind (l (step at) None) (λ x. row at.next (is_word x.ty) (bind (r x.at (Some x.ty)) (λ y. Ok (operated_both m o place x.ty x y y.at))))
  binary m sort o direction place true note value g at l r =
      reach_literal g (step at) (bind (r (step (step at)) None) (λ y. row at.next (takes sort y.ty)
      (literal note value y.ty (step at) (λ x. row at.next (meets direction types.bool) (Ok (operated_both m o place types.bool x y y.at))))))
  binary m sort o direction place false note value g at l r =
      bind (l (step at) None) (λ x. row at.next (takes sort x.ty) (bind (r x.at (Some x.ty)) (λ y.
      row at.next (meets direction types.bool) (Ok (operated_both m o place types.bool x y y.at)))))

  -- a leaf
  abbrev pub leaf_at : Context → Option Tau → Place → Tau → Shape Note → Node → Bool → Cursor → Out Got
  leaf_at g direction place t shape node holds at =
      reach at node (no_strings at.nodes) (row at.next (holds && meets direction t) (Ok (made place t shape (leaf node) (step at))))

  -- a node with one mark string, handed on
  abbrev pub split_at : {A : Type 0} → List Seen → Context → Node → Cursor → (List Mark → Out A) → Out A
  split_at observers g node at k = reach at node (one_string vars observers (strings_at at.nodes) g) (k (marks_next at.nodes))

  abbrev mutual
    -- a term in a context that the marks left, in a direction, from a place among the nodes
    pub check : Context → Option Tau → Cursor → Tree Place → Out Got
    check g direction at (term place shape) =
        bind (check_shape g direction at place shape) (λ u. test (Limit Ty) (is_small_enough u.ty) (Ok u))

    pub check_shape : Context → Option Tau → Cursor → Place → Shape Place → Out Got
    check_shape g direction at place (var i) =
        leaf_at g direction place (or_unit (look g i)) (var i) nodes.Var (is_present (look g i) && drops_but vars i g) at
    check_shape g direction at place unit = leaf_at g direction place types.unit unit nodes.Unit (drops_all vars g) at
    check_shape g direction at place (bool b) = leaf_at g direction place types.bool (bool b) nodes.Bool (drops_all vars g) at
    check_shape g direction at place (lit value) =
        reach at nodes.Lit (no_strings at.nodes) (row at.next (drops_all vars g && is_number value direction)
        (Ok (made place (wanted direction types.unit) (lit value) (leaf nodes.Lit) (step at))))
    check_shape g direction at place (fun f args) =
        leaf_at g direction place (mentioned functions f args) (fun f args) nodes.Fun (drops_all vars g && are_good_arguments vars (asked_by functions f) args) at
    check_shape g direction at place (op o (more x none)) =
        reach at nodes.Op (no_strings at.nodes) (unary (sort_of o) o direction place at (λ from way. check g way from x))
    check_shape g direction at place (op o (more l (more r none))) =
        split_at [] g nodes.Op at (λ m. binary m (sort_of o) o direction place (is_literal l) (note_at l) (value_of l) (first m g) at
        (λ from way. check (first m g) way from l) (λ from way. check (second m g) way from r))
    check_shape g direction at place (op o ts) = Err (C2 at.next)
    check_shape g direction at place (app f x) =
        split_at [] g nodes.App at (λ m. bind (check (first m g) None (step at) f) (λ u. row at.next (is_arrow u.ty)
        (bind (check (second m g) (Some (taken_by u.ty)) u.at x) (λ v. row at.next (meets direction (given_by u.ty))
        (Ok (made place (given_by u.ty) (app u.core v.core) (two nodes.App m u.tree v.tree) v.at))))))
    check_shape g direction at place (lets binder e k) =
        split_at [] g nodes.Let at (λ m. bind (check (first m g) None (step at) e) (λ u. bind (check (push (second m g) (Some u.ty)) direction u.at k) (λ v.
        Ok (made place v.ty (lets binder u.core v.core) (two nodes.Let m u.tree v.tree) v.at))))
    check_shape g direction at place (let_bang observers binder e k) =
        split_at observers g nodes.LetBang at (λ m. bind (check (first m g) None (step at) e) (λ u. row at.next (kinds vars u.ty).escape
        (bind (check (push (second m g) (Some u.ty)) direction u.at k) (λ v.
        Ok (made place v.ty (let_bang observers binder u.core v.core) (two nodes.LetBang m u.tree v.tree) v.at)))))
    check_shape g direction at place (if_else c x y) =
        split_at [] g nodes.If at (λ m. bind (check (first m g) (Some types.bool) (step at) c) (λ u. bind (check (second m g) direction u.at x) (λ v.
        bind (check (second m g) (second_branch direction v.ty) v.at y) (λ w.
        Ok (made place v.ty (if_else u.core v.core w.core) (three nodes.If m u.tree v.tree w.tree) w.at)))))
    check_shape g direction at place (con name e) =
        reach at nodes.Con (no_strings at.nodes) (row at.next (is_alternative name direction)
        (bind (check g (Some (alternative_held name direction)) (step at) e) (λ u.
        Ok (made place (wanted direction types.unit) (con name u.core) (one nodes.Con u.tree) u.at))))
    check_shape g direction at place (case_of e alternative binder x y) =
        split_at [] g nodes.Case at (λ m. bind (check (first m g) None (step at) e) (λ u. row at.next (is_left (alternative_in alternative.name u.ty))
        (bind (check (push (second m g) (Some (held (alternative_in alternative.name u.ty)))) direction u.at x) (λ v.
        bind (check (push (second m g) (Some (with_part alternative.name true u.ty))) (second_branch direction v.ty) v.at y) (λ w.
        Ok (made place v.ty (case_of u.core alternative binder v.core w.core) (three nodes.Case m u.tree v.tree w.tree) w.at))))))
    check_shape g direction at place (esac alternative e) =
        reach at nodes.Esac (no_strings at.nodes) (bind (check g None (step at) e) (λ u.
        row at.next (is_left (alternative_in alternative.name u.ty) && (is_last alternative.name u.ty && meets direction (held (alternative_in alternative.name u.ty))))
        (Ok (made place (held (alternative_in alternative.name u.ty)) (esac alternative u.core) (one nodes.Esac u.tree) u.at))))
    check_shape g direction at place (struct fs) =
        reach at nodes.Struct (field_strings vars fs (strings_at at.nodes) g) (row at.next (is_record direction fs)
        (bind (check_fields g (field_directions direction) (strings_at at.nodes) (step at) fs) (λ u.
        Ok (made place (wanted direction (fields u.parts U)) (struct u.cores) (derivation nodes.Struct (strings_at at.nodes) u.trees) u.at))))
    check_shape g direction at place (member e name) =
        reach at nodes.Member (no_strings at.nodes) (bind (check g None (step at) e) (λ u.
        row at.next (is_left (field_in name.name u.ty) && (shares vars u.ty && meets direction (held (field_in name.name u.ty))))
        (Ok (made place (held (field_in name.name u.ty)) (member u.core name) (one nodes.Member u.tree) u.at))))
    check_shape g direction at place (take_field e name rest binder k) =
        split_at [] g nodes.Take at (λ m. bind (check (first m g) None (step at) e) (λ u.
        row at.next (is_left (field_in name.name u.ty) && not (is_read_only u.ty))
        (bind (check (push (push (second m g) (Some (with_part name.name true u.ty))) (Some (held (field_in name.name u.ty)))) direction u.at k) (λ v.
        Ok (made place v.ty (take_field u.core name rest binder v.core) (two nodes.Take m u.tree v.tree) v.at)))))
    check_shape g direction at place (put e name x) =
        split_at [] g nodes.Put at (λ m. bind (check (first m g) None (step at) e) (λ u.
        row at.next (is_there (field_in name.name u.ty) && (not (is_read_only u.ty) && may_be_put_over vars (field_in name.name u.ty)))
        (bind (check (second m g) (Some (held (field_in name.name u.ty))) u.at x) (λ v. row at.next (meets direction (with_part name.name false u.ty))
        (Ok (made place (with_part name.name false u.ty) (put u.core name v.core) (two nodes.Put m u.tree v.tree) v.at))))))
    check_shape g direction at place (cast e) =
        reach at nodes.Cast (no_strings at.nodes) (row at.next (is_present direction) (bind (check g None (step at) e) (λ u.
        row at.next (is_cast direction u.ty) (Ok (made place (wanted direction types.unit) (cast u.core) (one nodes.Cast u.tree) u.at)))))
    check_shape g direction at place (annot e a) =
        reach at nodes.Annot (no_strings at.nodes) (row at.next (has_word_arrays a.ty) (bind (check g (Some a.ty) (step at) e) (λ u.
        row at.next (meets direction a.ty) (Ok (made place a.ty (annot u.core a) (one nodes.Annot u.tree) u.at)))))

    -- fields in their order, over the mark strings that are left
    pub check_fields : Context → List (Option Tau) → List (List Mark) → Cursor → Named Place → Out GotFields
    check_fields g directions strings at end = Ok (no_fields at)
    check_fields g directions strings at (field name e end) =
        bind (check g (next_direction directions) at e) (λ u. Ok (in_front name u (no_fields u.at)))
    check_fields g directions strings at (field name e (field later x fs)) =
        bind (check (first (first_marks strings) g) (next_direction directions) at e) (λ u.
        bind (check_fields (second (first_marks strings) g) (later_directions directions) (later_marks strings) u.at (field later x fs)) (λ v. Ok (in_front name u v)))

-- ---- functions and kernels

-- what is kept of a body, and the number of the next node behind it
abbrev pub Kept : Type 0
Kept = Option (Tree Note × Derivation)

-- a body in the context of the argument alone: no node is left behind it
abbrev pub check_body : List Function → Function → Tree Place → Cursor → Out Got
check_body functions f body at =
    bind (check functions (kinds_of_vars f) (Some (taken_by f.ty.ty) ∷ []) (Some (given_by f.ty.ty)) at body) (λ u.
    stands u.at.next (is_over u.at.nodes) (Ok u))

-- functions in the order of their signatures, over the functions of the certificate that are left, of whose nodes the next has this number
abbrev pub from_body : List Function → Function → Option Body → List CertFun → ℕ → (List CertFun → ℕ → Out (List Kept)) → Out (List Kept)
from_body functions f None funs n later = bind (later funs n) (λ kept. Ok (None ∷ kept))
from_body functions f (Some body) funs n later =
    stands n (is_named funs f.at.name) (bind (check_body functions f body.term (record { nodes = nodes_next funs; next = n })) (λ u.
    bind (later (funs_behind funs) u.at.next) (λ kept. Ok (Some (u.core, u.tree) ∷ kept))))

abbrev pub check_functions : List Function → List Function → List CertFun → ℕ → Out (List Kept)
check_functions functions [] funs n = stands n (is_over funs) (Ok [])
check_functions functions (f ∷ fs) funs n =
    row n (is_arrow f.ty.ty && has_word_arrays f.ty.ty) (from_body functions f f.body funs n (λ rest m. check_functions functions fs rest m))

-- a certificate against a kernel: what is kept of each function
abbrev pub check_cert : List Function → Cert → Out (List Kept)
check_cert functions cert = check_functions functions functions cert.funs 1

-- the answer where this is the first fault, and where there is none
abbrev pub verdict : {A : Type 0} → Option CertFault → A → Out A
verdict None kept = Ok kept
verdict (Some fault) kept = Err fault
