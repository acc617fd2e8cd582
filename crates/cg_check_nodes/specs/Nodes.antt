-- What each form of node comes to, by what its parts come to.
use Rattle.std.specs.Prelude.{ℕ, suc, Option, List, ◌++◌}
use Rattle.cg_base.specs.declared.place.Place.{Place}
use Rattle.cg_base.specs.Types.{Tau}
use Rattle.cg_core.specs.declared.at.At.{At}
use Rattle.cg_core.specs.declared.derivation.Node.TheVariants as nodes
use Rattle.cg_core.specs.declared.term.Seen.{Seen}
use Rattle.cg_core.specs.Derivations.{derivation}
use Rattle.cg_core.specs.Terms.{app, lets, let_bang, if_else, con, case_of, esac, struct, member, take_field, put, cast, annot, Arg}
use Rattle.cg_check_def.specs.Pass.{Got, GotFields, made}
use Rattle.cg_check_uses.specs.Marks.{marks_of_uses, marks_seen, settled, kept_beside, kept_seen, kept_new, one_part, two_parts, three_parts}
use Rattle.cg_check_uses.specs.Uses.{join, join_seen, last, front}

abbrev pub app_node : Place → Tau → Got → Got → Got
app_node place t u v = made place t (app u.core v.core) (two_parts nodes.App (marks_of_uses u.uses v.uses) u.tree v.tree) (join u.uses v.uses)

-- of a context of n variables
abbrev pub let_node : ℕ → Place → Place → Got → Got → Got
let_node n place binder u v =
    made place v.ty (lets binder u.core v.core)
    (two_parts nodes.Let (marks_of_uses u.uses (front v.uses)) u.tree (settled (kept_new n (last v.uses)) v.tree))
    (join u.uses (front v.uses))

abbrev pub let_bang_node : ℕ → List (Option Place) → Place → List Seen → Place → Got → Got → Got
let_bang_node n seen place observers binder u v =
    made place v.ty (let_bang observers binder u.core v.core)
    (two_parts nodes.LetBang (marks_seen seen u.uses (front v.uses))
    (settled (kept_seen seen u.uses) u.tree)
    (settled (kept_seen seen (front v.uses) ++ kept_new n (last v.uses)) v.tree))
    (join_seen seen u.uses (front v.uses))

abbrev pub if_node : Place → Got → Got → Got → Got
if_node place u v w =
    made place v.ty (if_else u.core v.core w.core)
    (three_parts nodes.If (marks_of_uses u.uses (join v.uses w.uses)) u.tree
    (settled (kept_beside v.uses w.uses) v.tree) (settled (kept_beside w.uses v.uses) w.tree))
    (join u.uses (join v.uses w.uses))

abbrev pub con_node : Place → Tau → List ℕ → Got → Got
con_node place t name u = made place t (con name u.core) (one_part nodes.Con u.tree) u.uses

abbrev pub case_node : ℕ → Place → At → Place → Got → Got → Got → Got
case_node n place at binder u v w =
    made place v.ty (case_of u.core at binder v.core w.core)
    (three_parts nodes.Case (marks_of_uses u.uses (join (front v.uses) (front w.uses))) u.tree
    (settled (kept_beside (front v.uses) (front w.uses) ++ kept_new n (last v.uses)) v.tree)
    (settled (kept_beside (front w.uses) (front v.uses) ++ kept_new n (last w.uses)) w.tree))
    (join u.uses (join (front v.uses) (front w.uses)))

abbrev pub esac_node : Place → Tau → At → Got → Got
esac_node place t at u = made place t (esac at u.core) (one_part nodes.Esac u.tree) u.uses

-- its fields in their order
abbrev pub struct_node : Place → Tau → GotFields → Got
struct_node place t u = made place t (struct u.cores) (derivation nodes.Struct u.strings u.trees) u.uses

abbrev pub member_node : Place → Tau → At → Got → Got
member_node place t at u = made place t (member u.core at) (one_part nodes.Member u.tree) u.uses

abbrev pub take_node : ℕ → Place → At → Place → Place → Got → Got → Got
take_node n place at rest binder u v =
    made place v.ty (take_field u.core at rest binder v.core)
    (two_parts nodes.Take (marks_of_uses u.uses (front (front v.uses))) u.tree
    (settled (kept_new n (last (front v.uses)) ++ kept_new (suc n) (last v.uses)) v.tree))
    (join u.uses (front (front v.uses)))

abbrev pub put_node : Place → Tau → At → Got → Got → Got
put_node place t at u v = made place t (put u.core at v.core) (two_parts nodes.Put (marks_of_uses u.uses v.uses) u.tree v.tree) (join u.uses v.uses)

abbrev pub cast_node : Place → Tau → Got → Got
cast_node place t u = made place t (cast u.core) (one_part nodes.Cast u.tree) u.uses

abbrev pub annot_node : Place → Arg → Got → Got
annot_node place a u = made place a.ty (annot u.core a) (one_part nodes.Annot u.tree) u.uses
