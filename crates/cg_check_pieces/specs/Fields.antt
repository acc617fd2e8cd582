-- What lists of fields stand for, of which the last field comes first.
use Rattle.std.specs.Prelude.{List, map, reverse}
use Rattle.cg_base.specs.declared.ty.Part.{Part}
use Rattle.cg_base.specs.Types.{Parts, part_of, to_parts}
use Rattle.cg_core.specs.declared.derivation.Deriv.{Deriv}
use Rattle.cg_core.specs.declared.term.FieldTerm.{FieldTerm}
use Rattle.cg_core.specs.declared.term.Typed.{Typed}
use Rattle.cg_core.specs.Derivations.{Derivations, derivation_of, to_derivations}
use Rattle.cg_core.specs.Kernels.{the_core_field}
use Rattle.cg_core.specs.Terms.{Named, Note, to_named}

abbrev pub parts_back : List Part → Parts
parts_back ps = to_parts (map part_of (reverse ps))

abbrev pub cores_back : List (FieldTerm Typed) → Named Note
cores_back fs = to_named (map the_core_field (reverse fs))

abbrev pub trees_back : List Deriv → Derivations
trees_back ds = to_derivations (map derivation_of (reverse ds))
