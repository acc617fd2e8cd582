-- What a record comes to, by what its fields come to.
use Rattle.std.specs.Prelude.{List}
use Rattle.cg_base.specs.declared.place.Place.{Place}
use Rattle.cg_base.specs.Types.{Tau}
use Rattle.cg_core.specs.declared.derivation.Mark.{Mark}
use Rattle.cg_core.specs.declared.derivation.Node.TheVariants as nodes
use Rattle.cg_core.specs.Derivations.{derivation}
use Rattle.cg_core.specs.Terms.{struct}
use Rattle.cg_certcheck_def.specs.Pass.{Got, GotFields, made}

abbrev pub struct_node : List (List Mark) → Place → Tau → GotFields → Got
struct_node strings place t u = made place t (struct u.cores) (derivation nodes.Struct strings u.trees) u.at
