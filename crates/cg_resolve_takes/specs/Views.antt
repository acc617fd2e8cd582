-- What heads of the code stand for.
use Rattle.std.specs.Prelude.{ℕ, Bool, List}
use Rattle.std.specs.BTreeMap.{BTreeMap}
use Rattle.std.specs.Option.{option_map}
use Rattle.cg_resolve_def.specs.Declared.{is_among}
use Rattle.cg_resolve_declared.specs.Tables.{find, has}
use Rattle.cg_resolve_takes.specs.declared.head.Fields.{Fields}
use Rattle.cg_resolve_takes.specs.declared.head.Fields.TheVariants.{Written, Components}
use Rattle.cg_resolve_takes.specs.declared.head.TypeHead.{TypeHead}
use Rattle.cg_resolve_takes.specs.declared.head.TypeHead.TheVariants.{Record, Parameter, Other}
use Rattle.cg_resolve_takes.specs.Heads.{Head, record_of, parameter, other, Heads, component_names}
use denote.Ref.{Bor}

-- the test of the names of fields
abbrev pub test_of : Fields → List ℕ → Bool
test_of (Written names) n = has names.value n
test_of (Components count) n = is_among (component_names count) n

-- a head
abbrev pub head_view : TypeHead → Head
head_view (Record fields) = record_of (test_of fields)
head_view (Parameter i) = parameter i
head_view Other = other

-- the heads that a table has
abbrev pub heads_in : BTreeMap (Bor (List ℕ)) TypeHead → Heads
heads_in table n = option_map head_view (find table n)
