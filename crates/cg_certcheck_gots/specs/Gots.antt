-- What the parts of a body come to.
use Rattle.std.specs.Prelude.{List}
use Rattle.cg_base.specs.Types.{type_of}
use Rattle.cg_cert.specs.declared.cert.CertNode.{CertNode}
use Rattle.cg_certcheck_gots.specs.declared.fields.Fields.{Fields}
use Rattle.cg_certcheck_gots.specs.declared.got.Got.{Got as Made}
use Rattle.cg_certcheck_context.specs.View.{cursor_of}
use Rattle.cg_core.specs.Derivations.{derivation_of}
use Rattle.cg_core.specs.Kernels.{the_core}
use Rattle.cg_certcheck_def.specs.Pass.{Got, GotFields}
use Rattle.cg_check_pieces.specs.Fields.{cores_back, parts_back, trees_back}

-- over these nodes
abbrev pub got_in : List CertNode → Made → Got
got_in nodes g = record { ty = type_of g.core.value.note.ty; core = the_core g.core.value; tree = derivation_of g.tree; at = cursor_of nodes g.at }

-- of fields the last one comes first in each list
abbrev pub fields_in : List CertNode → Fields → GotFields
fields_in nodes f = record { parts = parts_back f.parts; cores = cores_back f.cores; trees = trees_back f.trees; at = cursor_of nodes f.at }
