-- What each form of node comes to, by what its parts come to.
use Rattle.std.specs.Prelude.{ℕ, List}
use Rattle.cg_base.specs.declared.place.Place.{Place}
use Rattle.cg_base.specs.Types.{Tau}
use Rattle.cg_core.specs.declared.at.At.{At}
use Rattle.cg_core.specs.declared.derivation.Mark.{Mark}
use Rattle.cg_core.specs.declared.derivation.Node.TheVariants as nodes
use Rattle.cg_core.specs.declared.term.Seen.{Seen}
use Rattle.cg_core.specs.Terms.{app, lets, let_bang, if_else, con, case_of, esac, member, take_field, put, cast, annot, Arg}
use Rattle.cg_certcheck_def.specs.Pass.{Got, made}
use Rattle.cg_typing.specs.Trees.{one, two, three}

abbrev pub app_node : List Mark → Place → Tau → Got → Got → Got
app_node m place t u v = made place t (app u.core v.core) (two nodes.App m u.tree v.tree) v.at

abbrev pub let_node : List Mark → Place → Place → Got → Got → Got
let_node m place binder u v = made place v.ty (lets binder u.core v.core) (two nodes.Let m u.tree v.tree) v.at

abbrev pub let_bang_node : List Mark → Place → List Seen → Place → Got → Got → Got
let_bang_node m place observers binder u v = made place v.ty (let_bang observers binder u.core v.core) (two nodes.LetBang m u.tree v.tree) v.at

abbrev pub if_node : List Mark → Place → Got → Got → Got → Got
if_node m place u v w = made place v.ty (if_else u.core v.core w.core) (three nodes.If m u.tree v.tree w.tree) w.at

abbrev pub con_node : Place → Tau → List ℕ → Got → Got
con_node place t name u = made place t (con name u.core) (one nodes.Con u.tree) u.at

abbrev pub case_node : List Mark → Place → At → Place → Got → Got → Got → Got
case_node m place alternative binder u v w =
    made place v.ty (case_of u.core alternative binder v.core w.core) (three nodes.Case m u.tree v.tree w.tree) w.at

abbrev pub esac_node : Place → Tau → At → Got → Got
esac_node place t alternative u = made place t (esac alternative u.core) (one nodes.Esac u.tree) u.at

abbrev pub member_node : Place → Tau → At → Got → Got
member_node place t name u = made place t (member u.core name) (one nodes.Member u.tree) u.at

abbrev pub take_node : List Mark → Place → At → Place → Place → Got → Got → Got
take_node m place name rest binder u v = made place v.ty (take_field u.core name rest binder v.core) (two nodes.Take m u.tree v.tree) v.at

abbrev pub put_node : List Mark → Place → Tau → At → Got → Got → Got
put_node m place t name u v = made place t (put u.core name v.core) (two nodes.Put m u.tree v.tree) v.at

abbrev pub cast_node : Place → Tau → Got → Got
cast_node place t u = made place t (cast u.core) (one nodes.Cast u.tree) u.at

abbrev pub annot_node : Place → Arg → Got → Got
annot_node place a u = made place a.ty (annot u.core a) (one nodes.Annot u.tree) u.at
