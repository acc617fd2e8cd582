-- What the fields of a record stand for, of which the last comes first in each list.
use Rattle.std.specs.Prelude.{ℕ, Bool, cond, List, [], ◌∷◌, reverse}
use Rattle.cg_base.specs.Types as types
use Rattle.cg_check_nodes.specs.declared.fields.Fields.{Fields}
use Rattle.cg_check_def.specs.Pass.{GotFields}
use Rattle.cg_core.specs.Derivations.{done}
use Rattle.cg_core.specs.Terms.{end}
use Rattle.cg_check_pieces.specs.Fields.{cores_back, parts_back, trees_back}
use Rattle.cg_check_uses.specs.declared.entry.Use.{Use}
use Rattle.cg_check_uses.specs.Marks.{marks_of_uses}
use Rattle.cg_check_uses.specs.Uses.{join, no_uses}

abbrev pub fields_of : Fields → GotFields
fields_of f = record { parts = parts_back f.parts; cores = cores_back f.cores; strings = reverse f.strings; trees = trees_back f.trees; uses = f.uses.items }

-- fields behind one that does this, which is the last or not
abbrev pub with_uses : List Use → Bool → GotFields → GotFields
with_uses uses alone v =
    record { parts = v.parts; cores = v.cores; strings = cond alone [] (marks_of_uses uses v.uses ∷ v.strings); trees = v.trees; uses = join uses v.uses }

-- no fields, in a context of n variables
abbrev pub nothing : ℕ → GotFields
nothing n = record { parts = types.end; cores = end; strings = []; trees = done; uses = no_uses n }
