-- Forms of nodes as one step of the pass after another, where tests stand between their parts.
use Rattle.std.specs.Prelude.{Bool, false, not, Option, Some, None, List, length, Ok, true}
use Rattle.cg_base.specs.declared.kind.Kinds.{Kinds}
use Rattle.cg_base.specs.declared.place.Place.{Place}
use Rattle.cg_base.specs.Types as types
use Rattle.cg_base.specs.Types.{Tau}
use Rattle.cg_check_ends.specs.Ends.{case_end, esac_end, if_end, member_end, put_end, record_type}
use Rattle.cg_check_nodes.specs.Nodes as forms
use Rattle.cg_check_nodes.specs.Scopes.{fine, scope_end, taken_end}
use Rattle.cg_check_pieces.specs.Directions.{may_be_made_of}
use Rattle.cg_check_def.specs.Pass.{Out, Got, bind, need, check, check_fields, observers_test}
use Rattle.cg_core.specs.declared.at.At.{At}
use Rattle.cg_core.specs.declared.term.Seen.{Seen}
use Rattle.cg_core.specs.Kernels.{Function}
use Rattle.cg_core.specs.Terms.{Tree, Named}
use Rattle.cg_faults.specs.declared.rule.Rule.TheVariants.{K2, K7, T1, T5, T6, T7, T8, T10}
use Rattle.cg_faults.specs.Events.{field_directions}
use Rattle.cg_faults.specs.Plain.{observed}
use Rattle.cg_kinds.specs.Kinds.{kinds}
use Rattle.cg_typing.specs.Contexts.{push}
use Rattle.cg_typing.specs.Parts.{field_in, alternative_in, held, is_there, is_left, is_read_only, may_be_put_over, with_part}
use Rattle.cg_typing.specs.Rules.{note_at, second_branch}
use Rattle.cg_check_uses.specs.Uses.{mark, mark_but, seen_places}

-- what a part holds that is named, after the tests on it
abbrev pub alternative_held : At → Tau → Out Tau
alternative_held at t =
    need T8 at.place (is_there (alternative_in at.name t)) (need T10 at.place (is_left (alternative_in at.name t)) (Ok (held (alternative_in at.name t))))

abbrev pub taken_held : At → Tau → Out Tau
taken_held at t =
    need T5 at.place (is_there (field_in at.name t)) (need T7 at.place (not (is_read_only t))
    (need T6 at.place (is_left (field_in at.name t)) (Ok (held (field_in at.name t)))))

abbrev pub put_held : List Kinds → At → Tau → Out Tau
put_held vars at t =
    need T5 at.place (is_there (field_in at.name t)) (need T7 at.place (not (is_read_only t))
    (need K7 at.place (may_be_put_over vars (field_in at.name t)) (Ok (held (field_in at.name t)))))

module _ (functions : List Function) (vars : List Kinds) where
  -- a term in the scope of a new variable, with K3 at its end
  abbrev pub scoped : List Tau → List Bool → Option Tau → Place → Tau → Tree Place → Out Got
  scoped p before direction binder t e = bind (check functions vars (push p t) before direction e) (λ v. scope_end functions vars binder t v)

  abbrev pub let_by : List Tau → List Bool → Option Tau → Place → Place → Tree Place → Tree Place → Out Got
  let_by p before direction place binder e k =
      bind (check functions vars p before None e) (λ u. bind (scoped p (push (mark before u.uses) false) direction binder u.ty k) (λ v.
      Ok (forms.let_node (length p) place binder u v)))

  abbrev pub let_bang_by : List Tau → List Bool → Option Tau → Place → List Seen → Place → Tree Place → Tree Place → Out Got
  let_bang_by p before direction place observers binder e k =
      let seen = seen_places (length p) observers in
      bind (observers_test functions vars p before observers fine) (λ _. bind (check functions vars (observed observers p) before None e) (λ u.
      bind (need K2 (note_at e) (kinds vars u.ty).escape (Ok (push (mark_but seen before u.uses) false))) (λ flags.
      bind (scoped p flags direction binder u.ty k) (λ v. Ok (forms.let_bang_node (length p) seen place observers binder u v)))))

  -- a second branch, after the first
  abbrev pub if_by : List Tau → List Bool → Option Tau → Place → Tree Place → Tree Place → Tree Place → Out Got
  if_by p before direction place c x y =
      bind (check functions vars p before (Some types.bool) c) (λ u. bind (check functions vars p (mark before u.uses) direction x) (λ v.
      bind (check functions vars p (mark before u.uses) (second_branch direction v.ty) y) (λ w.
      if_end functions vars p place (note_at x) (note_at y) u v w)))

  -- the other branch of a match, behind the first one
  abbrev pub other_by : List Tau → List Bool → Option Tau → Place → At → Place → Place → Tree Place → Got → Got → Out Got
  other_by p before direction place at binder note y u v =
      bind (scoped p before (second_branch direction v.ty) at.place (with_part at.name true u.ty) y) (λ w. case_end functions vars p place at binder note (note_at y) u v w)

  -- the branches of a match on a value
  abbrev pub matched_by : List Tau → List Bool → Option Tau → Place → At → Place → Tree Place → Tree Place → Got → Tau → Out Got
  matched_by p before direction place at binder x y u h =
      bind (scoped p (push (mark before u.uses) false) direction binder h x) (λ v.
      other_by p (push (mark before u.uses) false) direction place at binder (note_at x) y u v)

  abbrev pub case_by : List Tau → List Bool → Option Tau → Place → Tree Place → At → Place → Tree Place → Tree Place → Out Got
  case_by p before direction place e at binder x y =
      bind (check functions vars p before None e) (λ u. bind (alternative_held at u.ty) (λ h. matched_by p before direction place at binder x y u h))

  abbrev pub member_by : List Tau → List Bool → Option Tau → Place → Tree Place → At → Out Got
  member_by p before direction place e at = bind (check functions vars p before None e) (λ u. member_end vars direction place at u)

  abbrev pub esac_by : List Tau → List Bool → Option Tau → Place → Tree Place → At → Out Got
  esac_by p before direction place e at = bind (check functions vars p before None e) (λ u. esac_end direction place at u)

  abbrev pub struct_by : List Tau → List Bool → Option Tau → Place → Named Place → Out Got
  struct_by p before direction place fs =
      need T1 place (may_be_made_of direction fs) (bind (check_fields functions vars p before (field_directions direction) fs) (λ u.
      Ok (forms.struct_node place (record_type direction u.parts) u)))

  -- what a take's last part comes to, with K3 at both ends
  abbrev pub taken_by : List Tau → List Bool → Option Tau → Place → Place → Tau → Tau → Tree Place → Out Got
  taken_by p before direction rest binder t h k = bind (check functions vars (push (push p t) h) before direction k) (λ v. taken_end functions vars rest t binder h v)

  abbrev pub take_by : List Tau → List Bool → Option Tau → Place → Tree Place → At → Place → Place → Tree Place → Out Got
  take_by p before direction place e at rest binder k =
      bind (check functions vars p before None e) (λ u. bind (taken_held at u.ty) (λ h.
      bind (taken_by p (push (push (mark before u.uses) false) false) direction rest binder (with_part at.name true u.ty) h k) (λ v.
      Ok (forms.take_node (length p) place at rest binder u v))))

  abbrev pub put_by : List Tau → List Bool → Option Tau → Place → Tree Place → At → Tree Place → Out Got
  put_by p before direction place e at x =
      bind (check functions vars p before None e) (λ u. bind (put_held vars at u.ty) (λ h.
      bind (check functions vars p (mark before u.uses) (Some h) x) (λ v. put_end direction place at u v)))
