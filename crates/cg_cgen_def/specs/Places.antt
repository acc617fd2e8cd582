-- Where the value of a term is kept: a number, or a part of a variable (docs/LANGUAGE.md, "The C of instances", values).
use Rattle.std.specs.Prelude.{ℕ, true, false, List, [], ◌∷◌, ◌++◌, map}
use Rattle.cg_ctree.specs.declared.tree.COpnd.{COpnd}
use Rattle.cg_ctree.specs.declared.tree.COpnd.TheVariants.{Number, Path}
use Rattle.cg_ctree.specs.declared.tree.CPath.{CPath}
use Rattle.cg_cgen_def.specs.Names.{name, field_name, tag_name, payload_name}

-- a part of a value: a field of a record, the tag of a variant, or one of its payloads
pub data Step : Type 0 where
  field : ℕ → Step
  tag : Step
  payload : ℕ → Step

abbrev pub step_name : Step → List ℕ
step_name (field i) = field_name i
step_name tag = tag_name
step_name (payload i) = payload_name i

-- a variable: the function's argument, or a local
pub data Base : Type 0 where
  argument : Base
  local : ℕ → Base

-- a0, the argument, and x0, x1 and so on, the locals
abbrev pub argument_name : List ℕ
argument_name = name 97 0

abbrev pub local_name : ℕ → List ℕ
local_name j = name 120 j

abbrev pub base_name : Base → List ℕ
base_name argument = argument_name
base_name (local j) = local_name j

-- a number, or the part of a variable that steps lead to
pub data Place : Type 0 where
  number : ℕ → Place
  held : Base → List Step → Place

-- a part of what is kept at a place; a number has none
abbrev pub at : Step → Place → Place
at s (number n) = number n
at s (held b steps) = held b (steps ++ s ∷ [])

-- the path to a part of a variable, and that to a part of the cell that a variable points to
abbrev pub path : Base → List Step → CPath
path b steps = record { base = base_name b; arrow = false; members = map step_name steps }

abbrev pub arrow_path : Base → List Step → CPath
arrow_path b steps = record { base = base_name b; arrow = true; members = map step_name steps }

abbrev pub operand : Place → COpnd
operand (number n) = Number n
operand (held b steps) = Path (path b steps)

-- the variable that a place is a part of
abbrev pub base_of : Place → Base
base_of (number n) = argument
base_of (held b steps) = b

-- the argument, and a field of it
abbrev pub whole_argument : Place
whole_argument = held argument []

abbrev pub field_of_argument : ℕ → Place
field_of_argument i = held argument (field i ∷ [])

-- a local
abbrev pub whole_local : ℕ → Place
whole_local j = held (local j) []
