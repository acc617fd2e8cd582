-- What is asked of parts of a type, as code holds them, and of what stands for them (docs/LANGUAGE.md, "Heap files").
use Rattle.std.specs.Prelude.{Bool, false, List, map, Option, Some, None}
use Rattle.std.specs.Str.{bytes_eq}
use Rattle.cg_base.specs.declared.ty.Part.{Part}
use Rattle.cg_base.specs.Types.{part_of, to_parts}
use Rattle.cg_heaptext_def.specs.Reading.{as_many, have_names}
use Rattle.cg_heaptext_def.specs.Trees.{Fields, Written, names_in}
use Rattle.cg_heaptext_values.specs.declared.list.FieldAt.{FieldAt}

-- the fields have these names, and as many as these
abbrev pub names_of : List Part → Fields → Bool
names_of parts fs = have_names (to_parts (map part_of parts)) (names_in fs)

-- there are as many values
abbrev pub as_many_of : List Part → List Written → Bool
as_many_of parts vs = as_many (to_parts (map part_of parts)) vs

-- a field is there, and has the name of a part
abbrev pub named_by : Part → Option FieldAt → Bool
named_by part (Some field) = bytes_eq part.name field.name.now
named_by part None = false
