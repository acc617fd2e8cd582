-- How many nodes a type has with types for its type variables, told by what is known of it before these are: how many of its nodes are no
-- type variable, and which type variables stand in it.
use Rattle.std.specs.Prelude.{ℕ, ◌+◌, List, [], ◌∷◌, ◌++◌, IsTrue, nat_le, slice_get}
use Rattle.std.specs.List.{All}
use Rattle.cg_base.specs.Types.{Tau, var, seen, unit, word, bool, arrow, abs, variant, fields, Taus, none, more, Parts, end, part}
use Rattle.cg_inst.specs.declared.widths.Width.{Width}
use Rattle.cg_kinds.specs.Kinds.{or_unit}
use Rattle.cg_inst_types.specs.Layers.{capped}
use Rattle.cg_typing.specs.Parts.{nodes, type_size}

-- how many nodes of a type are no type variable
unfoldable mutual
  pub own_nodes : Tau → ℕ
  own_nodes (var n) = 0
  own_nodes (seen n) = 0
  own_nodes unit = 1
  own_nodes (word w) = 1
  own_nodes bool = 1
  own_nodes (arrow a b) = own_nodes a + own_nodes b + 1
  own_nodes (abs name ts sigil) = own_nodes_all ts + 1
  own_nodes (variant ps) = own_nodes_parts ps + 1
  own_nodes (fields ps sigil) = own_nodes_parts ps + 1

  pub own_nodes_all : Taus → ℕ
  own_nodes_all none = 0
  own_nodes_all (more t ts) = own_nodes t + own_nodes_all ts

  pub own_nodes_parts : Parts → ℕ
  own_nodes_parts end = 0
  own_nodes_parts (part name t taken ps) = own_nodes t + own_nodes_parts ps

-- the type variables that stand in a type, one for each time that it does
unfoldable mutual
  pub variables_in : Tau → List ℕ
  variables_in (var n) = n ∷ []
  variables_in (seen n) = n ∷ []
  variables_in unit = []
  variables_in (word w) = []
  variables_in bool = []
  variables_in (arrow a b) = variables_in a ++ variables_in b
  variables_in (abs name ts sigil) = variables_in_all ts
  variables_in (variant ps) = variables_in_parts ps
  variables_in (fields ps sigil) = variables_in_parts ps

  pub variables_in_all : Taus → List ℕ
  variables_in_all none = []
  variables_in_all (more t ts) = variables_in t ++ variables_in_all ts

  pub variables_in_parts : Parts → List ℕ
  variables_in_parts end = []
  variables_in_parts (part name t taken ps) = variables_in t ++ variables_in_parts ps

-- how many nodes these have together, where these types stand for the type variables
unfoldable pub nodes_for : List Tau → List ℕ → ℕ
nodes_for args [] = 0
nodes_for args (v ∷ vs) = nodes (or_unit (slice_get args v)) + nodes_for args vs

-- both of a type, and as they are held
abbrev pub width_of : Tau → ℕ × List ℕ
width_of t = (capped (own_nodes t), variables_in t)

abbrev pub width_in : Width → ℕ × List ℕ
width_in w = (w.base, w.variables.items)

-- how many nodes they tell
abbrev pub nodes_by : List Tau → ℕ × List ℕ → ℕ
nodes_by args w = capped (w.0 + nodes_for args w.1)

-- these are few enough, for one type and for each of several
abbrev pub IsSmallBy : List Tau → ℕ × List ℕ → Type 0
IsSmallBy args w = IsTrue (nat_le (nodes_by args w) type_size)

abbrev pub AreSmallBy : List Tau → List (ℕ × List ℕ) → Type 0
AreSmallBy args widths = All (IsSmallBy args) widths
