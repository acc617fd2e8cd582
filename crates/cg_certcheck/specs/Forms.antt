-- Forms of nodes as the second checker takes them: a node is reached, and then one step after another.
use Rattle.std.specs.Prelude.{ℕ, true, cond, Option, Some, None, List, [], Ok, Err}
use Rattle.cg_base.specs.declared.kind.Kinds.{Kinds}
use Rattle.cg_base.specs.declared.kind.Sigil.TheVariants.{U}
use Rattle.cg_base.specs.declared.place.Place.{Place}
use Rattle.cg_base.specs.Types as types
use Rattle.cg_base.specs.Types.{Tau, fields}
use Rattle.cg_cert.specs.declared.fault.CertFault.TheVariants.{C2}
use Rattle.cg_certcheck.specs.Operators.{by_left, by_right, unary_by}
use Rattle.cg_certcheck_ends.specs.Ends.{app_end, esac_end, member_end, put_end, cast_end, annot_end}
use Rattle.cg_certcheck_ends.specs.Leaves.{var_by, unit_by, bool_by, literal_by, mention_by}
use Rattle.cg_certcheck_gots.specs.Records.{struct_node}
use Rattle.cg_certcheck_nodes.specs.Nodes.{let_node, let_bang_node, if_node, con_node, case_node, take_node}
use Rattle.cg_certcheck_context.specs.Steps.{leaf_reached, split_reached, record_reached, literal_reached}
use Rattle.cg_certcheck_gots.specs.Held.{alternative_held, taken_held, put_held}
use Rattle.cg_check_pieces.specs.Directions.{is_by_right, may_be_made_of}
use Rattle.cg_core.specs.declared.at.At.{At}
use Rattle.cg_core.specs.declared.derivation.Mark.{Mark}
use Rattle.cg_core.specs.declared.derivation.Node.TheVariants as nodes
use Rattle.cg_core.specs.declared.op.Op.{Op}
use Rattle.cg_core.specs.declared.term.Seen.{Seen}
use Rattle.cg_core.specs.Kernels.{Function}
use Rattle.cg_core.specs.Terms.{Tree, Shape, var, unit, bool, lit, fun, op, app, lets, let_bang, if_else, con, case_of, esac, struct, member, take_field, put, cast, annot, none, more, Named, Arg}
use Rattle.cg_faults.specs.Events.{field_directions, next_direction, later_directions}
use Rattle.cg_kinds.specs.Kinds.{kinds}
use Rattle.cg_certcheck_def.specs.Events.{value_of}
use Rattle.cg_certcheck_def.specs.Pass.{Out, Cursor, Got, GotFields, bind, row, in_front, no_fields, wanted, check, check_fields}
use Rattle.cg_typing.specs.Contexts.{Context, push, first, second}
use Rattle.cg_typing.specs.Operators.{Sort, sort_of}
use Rattle.cg_typing.specs.Parts.{is_arrow, taken_by as asked_by_arrow, with_part, has_word_arrays}
use Rattle.cg_typing.specs.Rules.{is_literal, note_at, second_branch}
use Rattle.cg_typing.specs.Trees.{first_marks, later_marks}

module _ (functions : List Function) (vars : List Kinds) where
  -- ---- operators

  abbrev pub op_one : Context → Option Tau → Cursor → Place → Op → Tree Place → Out Got
  op_one g d at place o x =
      bind (leaf_reached at nodes.Op) (λ behind. unary_by (sort_of o) o d at.next place (λ way. check functions vars g way behind x))

  -- of two, whose node has this number and these marks, from a place on: the left operand is checked first, or reached first
  abbrev pub operands_left : Sort → List Mark → Context → Option Tau → ℕ → Cursor → Place → Op → Tree Place → Tree Place → Out Got
  operands_left sort m g d n at place o l r =
      by_left m sort o d n place (λ way. check functions vars (first m g) way at l) (λ from way. check functions vars (second m g) way from r)

  abbrev pub operands_right : Sort → List Mark → Context → Option Tau → ℕ → Cursor → Place → Op → Tree Place → Tree Place → Out Got
  operands_right sort m g d n at place o l r =
      by_right m sort o d n place (note_at l) (value_of l) at.next (literal_reached vars (first m g) at) (λ from way. check functions vars (second m g) way from r)

  abbrev pub operands_by : Sort → List Mark → Context → Option Tau → ℕ → Cursor → Place → Op → Tree Place → Tree Place → Out Got
  operands_by sort m g d n at place o l r =
      cond (is_by_right sort d (is_literal l)) (operands_right sort m g d n at place o l r) (operands_left sort m g d n at place o l r)

  abbrev pub op_two : Context → Option Tau → Cursor → Place → Op → Tree Place → Tree Place → Out Got
  op_two g d at place o l r = bind (split_reached vars [] g nodes.Op at) (λ s. operands_by (sort_of o) s.marks g d at.next s.at place o l r)

  -- ---- the other forms

  abbrev pub app_by : Context → Option Tau → Cursor → Place → Tree Place → Tree Place → Out Got
  app_by g d at place f x =
      bind (split_reached vars [] g nodes.App at) (λ s. bind (check functions vars (first s.marks g) None s.at f) (λ u. row at.next (is_arrow u.ty)
      (bind (check functions vars (second s.marks g) (Some (asked_by_arrow u.ty)) u.at x) (λ v. app_end s.marks d at.next place u v))))

  abbrev pub let_by : Context → Option Tau → Cursor → Place → Place → Tree Place → Tree Place → Out Got
  let_by g d at place binder e k =
      bind (split_reached vars [] g nodes.Let at) (λ s. bind (check functions vars (first s.marks g) None s.at e) (λ u.
      bind (check functions vars (push (second s.marks g) (Some u.ty)) d u.at k) (λ v. Ok (let_node s.marks place binder u v))))

  abbrev pub let_bang_by : Context → Option Tau → Cursor → Place → List Seen → Place → Tree Place → Tree Place → Out Got
  let_bang_by g d at place observers binder e k =
      bind (split_reached vars observers g nodes.LetBang at) (λ s. bind (check functions vars (first s.marks g) None s.at e) (λ u.
      row at.next (kinds vars u.ty).escape
      (bind (check functions vars (push (second s.marks g) (Some u.ty)) d u.at k) (λ v. Ok (let_bang_node s.marks place observers binder u v)))))

  abbrev pub if_by : Context → Option Tau → Cursor → Place → Tree Place → Tree Place → Tree Place → Out Got
  if_by g d at place c x y =
      bind (split_reached vars [] g nodes.If at) (λ s. bind (check functions vars (first s.marks g) (Some types.bool) s.at c) (λ u.
      bind (check functions vars (second s.marks g) d u.at x) (λ v. bind (check functions vars (second s.marks g) (second_branch d v.ty) v.at y) (λ w.
      Ok (if_node s.marks place u v w)))))

  abbrev pub con_from : Context → Option Tau → ℕ → Cursor → Place → List ℕ → Tree Place → Out Got
  con_from g None n at place name e = Err (C2 n)
  con_from g (Some t) n at place name e =
      bind (alternative_held n name t) (λ h. bind (check functions vars g (Some h) at e) (λ u. Ok (con_node place t name u)))

  abbrev pub con_by : Context → Option Tau → Cursor → Place → List ℕ → Tree Place → Out Got
  con_by g d at place name e = bind (leaf_reached at nodes.Con) (λ behind. con_from g d at.next behind place name e)

  -- the other branch of a match, behind the first one
  abbrev pub other_by : List Mark → Context → Option Tau → Place → At → Place → Tree Place → Got → Got → Out Got
  other_by m g d place alternative binder y u v =
      bind (check functions vars (push (second m g) (Some (with_part alternative.name true u.ty))) (second_branch d v.ty) v.at y) (λ w.
      Ok (case_node m place alternative binder u v w))

  abbrev pub case_by : Context → Option Tau → Cursor → Place → Tree Place → At → Place → Tree Place → Tree Place → Out Got
  case_by g d at place e alternative binder x y =
      bind (split_reached vars [] g nodes.Case at) (λ s. bind (check functions vars (first s.marks g) None s.at e) (λ u.
      bind (alternative_held at.next alternative.name u.ty) (λ h.
      bind (check functions vars (push (second s.marks g) (Some h)) d u.at x) (λ v. other_by s.marks g d place alternative binder y u v))))

  abbrev pub esac_by : Context → Option Tau → Cursor → Place → At → Tree Place → Out Got
  esac_by g d at place alternative e =
      bind (leaf_reached at nodes.Esac) (λ behind. bind (check functions vars g None behind e) (λ u. esac_end d at.next place alternative u))

  -- the last field of a record, and one in front of later ones
  abbrev pub last_field : Context → List (Option Tau) → Cursor → List ℕ → Tree Place → Out GotFields
  last_field g directions at name e = bind (check functions vars g (next_direction directions) at e) (λ u. Ok (in_front name u (no_fields u.at)))

  abbrev pub more_fields : Context → List (Option Tau) → List (List Mark) → Cursor → List ℕ → Tree Place → Named Place → Out GotFields
  more_fields g directions strings at name e fs =
      bind (check functions vars (first (first_marks strings) g) (next_direction directions) at e) (λ u.
      bind (check_fields functions vars (second (first_marks strings) g) (later_directions directions) (later_marks strings) u.at fs) (λ v. Ok (in_front name u v)))

  abbrev pub struct_by : Context → Option Tau → Cursor → Place → Named Place → Out Got
  struct_by g d at place fs =
      bind (record_reached vars fs g at) (λ s. row at.next (may_be_made_of d fs)
      (bind (check_fields functions vars g (field_directions d) s.marks s.at fs) (λ u. Ok (struct_node s.marks place (wanted d (fields u.parts U)) u))))

  abbrev pub member_by : Context → Option Tau → Cursor → Place → Tree Place → At → Out Got
  member_by g d at place e name =
      bind (leaf_reached at nodes.Member) (λ behind. bind (check functions vars g None behind e) (λ u. member_end vars d at.next place name u))

  -- the body of a take, behind the record, of whose field this is held
  abbrev pub taken_by : List Mark → Context → Option Tau → At → Tree Place → Got → Tau → Out Got
  taken_by m g d name k u h = check functions vars (push (push (second m g) (Some (with_part name.name true u.ty))) (Some h)) d u.at k

  abbrev pub take_by : Context → Option Tau → Cursor → Place → Tree Place → At → Place → Place → Tree Place → Out Got
  take_by g d at place e name rest binder k =
      bind (split_reached vars [] g nodes.Take at) (λ s. bind (check functions vars (first s.marks g) None s.at e) (λ u.
      bind (taken_held at.next name.name u.ty) (λ h. bind (taken_by s.marks g d name k u h) (λ v. Ok (take_node s.marks place name rest binder u v)))))

  abbrev pub put_by : Context → Option Tau → Cursor → Place → Tree Place → At → Tree Place → Out Got
  put_by g d at place e name x =
      bind (split_reached vars [] g nodes.Put at) (λ s. bind (check functions vars (first s.marks g) None s.at e) (λ u.
      bind (put_held vars at.next name.name u.ty) (λ h. bind (check functions vars (second s.marks g) (Some h) u.at x) (λ v.
      put_end s.marks d at.next place name u v))))

  abbrev pub cast_from : Context → Option Tau → ℕ → Cursor → Place → Tree Place → Out Got
  cast_from g None n at place e = Err (C2 n)
  cast_from g (Some t) n at place e = bind (check functions vars g None at e) (λ u. cast_end t n place u)

  abbrev pub cast_by : Context → Option Tau → Cursor → Place → Tree Place → Out Got
  cast_by g d at place e = bind (leaf_reached at nodes.Cast) (λ behind. cast_from g d at.next behind place e)

  abbrev pub annot_by : Context → Option Tau → Cursor → Place → Tree Place → Arg → Out Got
  annot_by g d at place e a =
      bind (leaf_reached at nodes.Annot) (λ behind. row at.next (has_word_arrays a.ty) (bind (check functions vars g (Some a.ty) behind e) (λ u. annot_end d at.next place a u)))

  -- a node of any form
  abbrev pub form_by : Context → Option Tau → Cursor → Place → Shape Place → Out Got
  form_by g d at place (var i) = var_by vars g d at place i
  form_by g d at place unit = unit_by vars g d at place
  form_by g d at place (bool b) = bool_by vars g d at place b
  form_by g d at place (lit value) = literal_by vars g d at place value
  form_by g d at place (fun f args) = mention_by functions vars g d at place f args
  form_by g d at place (op o (more x none)) = op_one g d at place o x
  form_by g d at place (op o (more l (more r none))) = op_two g d at place o l r
  form_by g d at place (op o ts) = Err (C2 at.next)
  form_by g d at place (app f x) = app_by g d at place f x
  form_by g d at place (lets binder e k) = let_by g d at place binder e k
  form_by g d at place (let_bang observers binder e k) = let_bang_by g d at place observers binder e k
  form_by g d at place (if_else c x y) = if_by g d at place c x y
  form_by g d at place (con name e) = con_by g d at place name e
  form_by g d at place (case_of e alternative binder x y) = case_by g d at place e alternative binder x y
  form_by g d at place (esac alternative e) = esac_by g d at place alternative e
  form_by g d at place (struct fs) = struct_by g d at place fs
  form_by g d at place (member e name) = member_by g d at place e name
  form_by g d at place (take_field e name rest binder k) = take_by g d at place e name rest binder k
  form_by g d at place (put e name x) = put_by g d at place e name x
  form_by g d at place (cast e) = cast_by g d at place e
  form_by g d at place (annot e a) = annot_by g d at place e a
