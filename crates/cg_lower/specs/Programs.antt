-- The C program of a list of instances: one definite program (docs/LANGUAGE.md, "The C of instances", functions).
use Rattle.std.specs.Prelude.{ℕ, ◌-◌, nat_lt, List, length, map, if◌then◌else◌}
use Rattle.cg_lower.specs.Calls.{calls_in}
use Rattle.cg_lower.specs.Collected.{Copy, entries_of, table_in, whole_of}
use Rattle.cg_ctree.specs.Trees.{Program}
use Rattle.cg_lower_def.specs.Functions.{Item, of_arrow, of_instance, program_in}
use Rattle.cg_lower_def.specs.Lowered.{Whole}
use Rattle.cg_lower_def.specs.Structs.{structs_in}
use Rattle.cg_graphs.specs.Ranks.{in_order}

-- the function that a node of the graph of calls is, where there are so many arrow types
abbrev pub item_of : ℕ → ℕ → Item
item_of arrows i = if nat_lt i arrows then of_arrow i else of_instance (i - arrows)

-- the functions in order: those of arrow types, and each instance behind those that it calls by their names
abbrev pub items_in : Whole → List Copy → List Item
items_in whole copies = map (item_of (length whole.arrows)) (in_order (calls_in whole copies))

-- the C program of a list of instances
abbrev pub lowered : List Copy → Program
lowered copies = program_in (whole_of copies) (structs_in (table_in copies)) (entries_of copies) (items_in (whole_of copies) copies)
