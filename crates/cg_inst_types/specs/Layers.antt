-- The types of a table: each is made from those that stand before it.
use Rattle.std.specs.Prelude.{◌≡◌, ℕ, ◌<◌, min, Bool, true, false, IsTrue, List, [], ◌∷◌, ◌++◌, Some, length, fold, map, slice_get}
use Rattle.cg_base.specs.Types.{Tau, unit, word, bool, arrow, abs, variant, fields, none, more, end, part}
use Rattle.cg_kinds.specs.Kinds.{bang}
use Rattle.cg_typing.specs.Parts.{nodes}
use Rattle.cg_inst_types.specs.declared.rows.Node.{Node}
use Rattle.cg_inst_types.specs.declared.rows.Node.TheVariants as node
use Rattle.cg_inst_types.specs.declared.rows.Fact.{Fact}
use Rattle.cg_inst_types.specs.Forms.{with_argument, with_part}
use Rattle.cg_inst_types.specs.Places.{Each, IsOnce, type_at, name_at}

-- it can have arguments, and it can have parts
abbrev pub is_abs : Tau → Bool
is_abs (abs name ts sigil) = true
is_abs _ = false

abbrev pub has_parts : Tau → Bool
has_parts (variant ps) = true
has_parts (fields ps sigil) = true
has_parts _ = false

-- the type of a node, where the types and the names of its parts are these
abbrev pub made : List (List ℕ) → List Tau → Node → Tau
made names types node.Unit = unit
made names types (node.Word w) = word w
made names types node.Bool = bool
made names types (node.Arrow from to) = arrow (type_at types from) (type_at types to)
made names types (node.Abs name sigil) = abs (name_at names name) none sigil
made names types (node.Argument rest ty) = with_argument (type_at types rest) (type_at types ty)
made names types node.Variant = variant end
made names types (node.Record sigil) = fields end sigil
made names types (node.Part rest name ty taken) = with_part (type_at types rest) (name_at names name) (type_at types ty) taken

-- the types of nodes, each made from those before it
abbrev pub types_of : List (List ℕ) → List Node → List Tau
types_of names nodes = fold (λ types node. types ++ made names types node ∷ []) [] nodes

-- the places of a node's parts, and of its name
abbrev pub parts_of : Node → List ℕ
parts_of (node.Arrow from to) = from ∷ to ∷ []
parts_of (node.Argument rest ty) = rest ∷ ty ∷ []
parts_of (node.Part rest name ty taken) = rest ∷ ty ∷ []
parts_of _ = []

abbrev pub names_of : Node → List ℕ
names_of (node.Abs name sigil) = name ∷ []
names_of (node.Part rest name ty taken) = name ∷ []
names_of _ = []

-- what gets one part more is of the form that can
abbrev pub is_formed : List Tau → Node → Bool
is_formed types (node.Argument rest ty) = is_abs (type_at types rest)
is_formed types (node.Part rest name ty taken) = has_parts (type_at types rest)
is_formed types _ = true

-- a node's parts and its name are there, and it is formed
abbrev pub Fits : List (List ℕ) → List Tau → Node → Type 0
Fits names types n = Each (λ i. i < length types) (parts_of n) × Each (λ i. i < length names) (names_of n) × IsTrue (is_formed types n)

-- a number as a u32: the largest for what is larger
abbrev pub capped : ℕ → ℕ
capped n = min n 4294967295

-- what is known of a type is so: where its bang stands, and how many nodes it has
pub record IsKnown (types : List Tau) (t : Tau) (fact : Fact) : Type 0 where
  pub observed : slice_get types fact.observed ≡ Some (bang t)
  pub size : fact.nodes ≡ capped (nodes t)

-- a table's names and rows: each type stands once, made from its node, with what is known of it
pub record IsSound (names : List (List ℕ)) (rows : List (Node × Fact)) : Type 0 where
  pub small : length rows < 4294967296
  pub names_once : IsOnce names
  pub once : IsOnce (types_of names (map (λ r. r.0) rows))
  pub fits : (i : ℕ) (n : Node) → slice_get (map (λ r. r.0) rows) i ≡ Some n → Fits names (types_of names (map (λ r. r.0) rows)) n
  pub holds : (i : ℕ) (n : Node) → slice_get (map (λ r. r.0) rows) i ≡ Some n → slice_get (types_of names (map (λ r. r.0) rows)) i ≡ Some (made names (types_of names (map (λ r. r.0) rows)) n)
  pub known : (i : ℕ) (f : Fact) → slice_get (map (λ r. r.1) rows) i ≡ Some f → IsKnown (types_of names (map (λ r. r.0) rows)) (type_at (types_of names (map (λ r. r.0) rows)) i) f

-- the parts of a type, where what has several is made from one with a part less, and that part; and its name
abbrev pub parts_in : Tau → List Tau
parts_in (arrow a b) = a ∷ b ∷ []
parts_in (abs name (more t ts) sigil) = abs name ts sigil ∷ t ∷ []
parts_in (variant (part name t taken ps)) = variant ps ∷ t ∷ []
parts_in (fields (part name t taken ps) sigil) = fields ps sigil ∷ t ∷ []
parts_in _ = []

abbrev pub names_in : Tau → List (List ℕ)
names_in (abs name none sigil) = name ∷ []
names_in (variant (part name t taken ps)) = name ∷ []
names_in (fields (part name t taken ps) sigil) = name ∷ []
names_in _ = []

-- what a table holds: names and types by their places
pub record Shared : Type 0 where
  pub names : List (List ℕ)
  pub types : List Tau

abbrev pub shared_of : List (List ℕ) → List (Node × Fact) → Shared
shared_of names rows = record { names = names; types = types_of names (map (λ r. r.0) rows) }

-- the types at these places, of the first of a table
abbrev pub types_at : List Tau → List ℕ → List Tau
types_at types places = map (type_at types) places
