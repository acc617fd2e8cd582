-- Fields of records with types in the place of their type variables.
use Rattle.std.specs.Prelude.{List}
use Rattle.cg_base.specs.Types.{Tau}
use Rattle.cg_core.specs.Terms.{Note, OneField}
use Rattle.cg_typing.specs.Subst.{subst_core}

abbrev pub subst_field : List Tau → OneField Note → OneField Note
subst_field types f = record { name = f.name; term = subst_core types f.term }
