-- The fields of a record, of which those in front of the last one were checked before it.
use Rattle.std.specs.Prelude.{Ok, List, [], ◌∷◌, ◌++◌, map}
use Rattle.cg_base.specs.declared.place.Place.{Place}
use Rattle.cg_cert.specs.declared.cert.CertNode.{CertNode}
use Rattle.cg_certcheck.specs.declared.pass.Checked.{Checked}
use Rattle.cg_certcheck_def.specs.Pass.{Out, GotFields, bind, in_front}
use Rattle.cg_certcheck_gots.specs.Gots.{got_in}
use Rattle.cg_core.specs.declared.term.FieldTerm.{FieldTerm}
use Rattle.cg_core.specs.Kernels.{the_field}
use Rattle.cg_core.specs.Terms.{Named, to_named}

-- fields and a last one behind them
abbrev pub named_with : List (FieldTerm Place) → FieldTerm Place → Named Place
named_with front last = to_named (map the_field (front ++ last ∷ []))

-- fields in front of what the later ones come to, over these nodes
abbrev pub all_before : List CertNode → List Checked → GotFields → GotFields
all_before nodes [] later = later
all_before nodes (c ∷ cs) later = in_front c.name.now (got_in nodes c.got) (all_before nodes cs later)

-- the same, where the later ones may fail
abbrev pub ahead : List CertNode → List Checked → Out GotFields → Out GotFields
ahead nodes before later = bind later (λ v. Ok (all_before nodes before v))
