-- The faults of a field and of an alternative, behind the names of those before it.
use Rattle.std.specs.Prelude.{ℕ, List, [], ◌++◌, Option, Some, None, Result, Ok, Err, ⊤, if◌then◌else◌}
use Rattle.cg_base.specs.declared.place.Place.{Place}
use Rattle.cg_base.specs.Places.{is_at}
use Rattle.cg_surface.specs.Programs.{Entry}
use Rattle.cg_surface.specs.Written.{Written, OneField, OneAlt}
use Rattle.cg_surface.specs.Exprs.{OneBind}
use Rattle.cg_surface.specs.Exprs as exprs
use Rattle.cg_resolve_def.specs.Faults.{NameFault, again, field_with, bound, pattern_faults, seen_faults, type_faults, expr_faults}
use Rattle.cg_resolve_names.specs.declared.fault.NamingFault.{NamingFault}
use Rattle.cg_resolve_names.specs.declared.fault.NamingFault.TheVariants.{N1, N2, N4, Memory}

abbrev pub field_faults : List Entry → List (List ℕ) → List (List ℕ) → OneField → List NameFault
field_faults entries vars before f = again before f.at.place f.at.name ++ type_faults entries vars f.ty

-- of the type of a payload, where one is written
abbrev pub payload_faults : List Entry → List (List ℕ) → Option Written → List NameFault
payload_faults entries vars None = []
payload_faults entries vars (Some t) = type_faults entries vars t

abbrev pub alternative_faults : List Entry → List (List ℕ) → List (List ℕ) → OneAlt → List NameFault
alternative_faults entries vars before a = again before a.at.place a.at.name ++ payload_faults entries vars a.ty

-- of a binding among these variables, and of an alternative of a match
abbrev pub bind_faults : List Entry → List (List ℕ) → List (List ℕ) → OneBind → List NameFault
bind_faults entries vars names b = pattern_faults b.pattern ++ expr_faults entries vars names b.value ++ seen_faults names b.seen

abbrev pub choice_faults : List Entry → List (List ℕ) → List (List ℕ) → exprs.OneAlt → List NameFault
choice_faults entries vars names a = pattern_faults a.pattern ++ expr_faults entries vars (bound a.pattern ++ names) a.body

-- of a field of a record, behind the names of those before it
abbrev pub value_faults : List Entry → List (List ℕ) → List (List ℕ) → List (List ℕ) → exprs.OneField → List NameFault
value_faults entries vars names before f = field_with before f.at (expr_faults entries vars names f.value)

-- the first fault of a field whose name stands among those before it, by what a search in its value answers: at the field's own place
-- an unknown name comes first
abbrev pub fault_again : Place → Result ⊤ NamingFault → NamingFault
fault_again place (Ok done) = N2 place
fault_again place (Err (N1 p)) = if is_at p place then N1 p else N2 place
fault_again place (Err (N2 p)) = N2 place
fault_again place (Err (N4 p)) = N2 place
fault_again place (Err Memory) = Memory
