-- What the C of a list of instances needs: the types whose structs are declared, and the arrow types of calls through function values
-- (docs/LANGUAGE.md, "The C of instances").
use Rattle.std.specs.Prelude.{◌≡◌, ℕ, zero, suc, List, [], ◌∷◌, ◌++◌, Option, Some, None, map, if◌then◌else◌}
use Rattle.std.specs.List.{AllByRecursion, flat_map}
use Rattle.cg_base.specs.declared.fun.Fun.{Fun}
use Rattle.cg_base.specs.declared.fun.Fun.TheVariants.{User, Lib as OfLib}
use Rattle.cg_base.specs.Types.{Tau, Parts, end, part}
use Rattle.cg_core.specs.Terms.{Note, Tree, term, fun, app}
use Rattle.cg_lower_tables.specs.Found.{Known, with_arrow}
use Rattle.cg_lower_tables.specs.Added.{added}
use Rattle.cg_lower_def.specs.Lowered.{Whole}
use Rattle.cg_lower_def.specs.Structs.{IsCovered, numbered_in}
use Rattle.cg_inst_types.specs.Places.{Keeps}
use Rattle.cg_eval_operations.specs.Iterators.{is_iterator}
use Rattle.cg_typing.specs.Instances.{Entry, Instance, nodes_of}
use Rattle.cg_typing.specs.Parts.{given_by, taken_by}
use Rattle.cg_typing.specs.Rules.{type_at}
use Rattle.cg_update.specs.Turns.{fields_in}

-- an instance with its type and its body
abbrev pub Copy : Type 0
Copy = Instance × Entry

abbrev pub list_of : List Copy → List Instance
list_of copies = map (λ (c : Copy). c.0) copies

abbrev pub entries_of : List Copy → List Entry
entries_of copies = map (λ (c : Copy). c.1) copies

-- the type of the part at a place, where there is one
abbrev pub part_types : ℕ → Parts → List Tau
part_types i end = []
part_types zero (part x t taken ps) = t ∷ []
part_types (suc i) (part x t taken ps) = part_types i ps

-- the arrow type of the function that an iterator of an arrow type calls: its fourth field
abbrev pub turned_by : Fun → Tau → List Tau
turned_by (User i) t = []
turned_by (OfLib lib) t = if is_iterator lib then part_types 3 (fields_in (taken_by t)) else []

-- the nodes of a body, where there is one
abbrev pub nodes_maybe : Option (Tree Note) → List (Tree Note)
nodes_maybe None = []
nodes_maybe (Some core) = nodes_of core

-- ---- types

-- what functions of these arrow types take and give
abbrev pub parts_of_arrows : List Tau → List Tau
parts_of_arrows [] = []
parts_of_arrows (t ∷ ts) = taken_by t ∷ given_by t ∷ parts_of_arrows ts

-- the types of an instance: what it takes and gives, what its turns take and give, and the types of its nodes
abbrev pub types_of : Copy → List Tau
types_of c = parts_of_arrows (c.1.ty ∷ turned_by c.0.fun c.1.ty) ++ map type_at (nodes_maybe c.1.body)

unfoldable pub added_all : List Tau → List Tau → List Tau
added_all [] table = table
added_all (t ∷ ts) table = added_all ts (added t table)

-- the types of all instances have their structs in this table
abbrev pub table_in : List Copy → List Tau
table_in copies = added_all (flat_map types_of copies) []

-- ---- arrow types of calls

-- that of a call through this function value; none, where the function is named
abbrev pub value_called : Tree Note → List Tau
value_called (term note (fun f args)) = []
value_called f = type_at f ∷ []

abbrev pub called_at : Tree Note → List Tau
called_at (term note (app f x)) = value_called f
called_at t = []

-- those of an instance: of its turns, and of the calls in its body
abbrev pub arrows_of : Copy → List Tau
arrows_of c = turned_by c.0.fun c.1.ty ++ flat_map called_at (nodes_maybe c.1.body)

unfoldable pub with_arrows : List Tau → List Tau → List Tau
with_arrows known [] = known
with_arrows known (t ∷ ts) = with_arrows (with_arrow known t) ts

-- those of all instances, each once
abbrev pub arrows_in : List Copy → List Tau
arrows_in copies = with_arrows [] (flat_map arrows_of copies)

-- what lowering knows of the whole
abbrev pub whole_of : List Copy → Whole
whole_of copies = record { numbered = numbered_in (table_in copies); arrows = arrows_in copies; list = list_of copies }

-- ---- how it is collected

-- what is collected grows by types, arrow types of calls, and instances
pub record Grows (places new_places : Known) (table new_table : List Tau) (types arrows : List Tau) (list : List Instance) : Type 0 where
  pub table_is : new_table ≡ added_all types table
  pub covered : AllByRecursion (IsCovered new_table) types
  pub kept : Keeps table new_table
  pub arrows_are : new_places.arrows ≡ with_arrows places.arrows arrows
  pub list_is : new_places.list ≡ places.list ++ list
