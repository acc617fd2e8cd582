-- Types of the C subset with their structs looked up: trees, so that sizes and paths are recursions on them (docs/LANGUAGE.md, "The C
-- subset", layouts).
use Rattle.std.specs.Prelude.{ℕ, zero, suc, ◌+◌, Bool, false, ◌&&◌, ◌||◌, nat_eq, List, [], ◌∷◌, length, Option, Some, None, if◌then◌else◌}
use Rattle.std.specs.List.{list_any}
use Rattle.std.specs.Str.{bytes_eq}
use Rattle.cg_base.specs.Words.{same_word}
use Rattle.cg_base.specs.declared.kind.Word.{Word}
use Rattle.cg_ctree.specs.declared.tree.CDecl.{CDecl}
use Rattle.cg_ctree.specs.declared.tree.CStruct.{CStruct}
use Rattle.cg_ctree.specs.declared.tree.CTy.{CTy}
use Rattle.cg_ctree.specs.declared.tree.CTy.TheVariants as ty

mutual
  -- a word, a pointer to a struct by its name, or a struct with its members
  pub data Layout : Type 0 where
    cell : Word → Layout
    pointer : List ℕ → Layout
    group : List ℕ → Members → Layout

  pub data Members : Type 0 where
    empty : Members
    member : List ℕ → Layout → Members → Members

-- how many slots a value has
unfoldable mutual
  pub size : Layout → ℕ
  size (cell w) = 1
  size (pointer x) = 1
  size (group x ms) = sizes ms

  pub sizes : Members → ℕ
  sizes empty = 0
  sizes (member x l ms) = size l + sizes ms

-- whether a value of the one type is of the other: structs and pointers by the struct's name, which also says how many slots there are
abbrev pub same_layout : Layout → Layout → Bool
same_layout (cell v) (cell w) = same_word v w
same_layout (pointer x) (pointer y) = bytes_eq x y
same_layout (group x ms) (group y ns) = bytes_eq x y && nat_eq (sizes ms) (sizes ns)
same_layout _ _ = false

-- ---- structs by their names

-- the members of the first struct of a name; none where there is no such struct
abbrev pub declared : List ℕ → List CStruct → List CDecl
declared x [] = []
declared x (s ∷ ss) = if bytes_eq x s.name then s.members else declared x ss

-- the structs that members are
abbrev pub structs_among : List CDecl → List (List ℕ)
structs_among [] = []
structs_among (d ∷ ds) = by_type d.ty (structs_among ds) where
  by_type : CTy → List (List ℕ) → List (List ℕ)
  by_type (ty.Struct x) rest = x ∷ rest
  by_type (ty.Word w) rest = rest
  by_type (ty.Pointer x) rest = rest

-- whether a struct is reached from members, through at most so many structs
abbrev pub is_reached : ℕ → List CStruct → List ℕ → List CDecl → Bool
is_reached zero ss x ds = false
is_reached (suc n) ss x ds = list_any (λ y. bytes_eq y x || is_reached n ss x (declared y ss)) (structs_among ds)

-- a struct that holds itself, through members that are structs
abbrev pub holds_itself : List CStruct → List ℕ → Bool
holds_itself ss x = is_reached (length ss) ss x (declared x ss)

-- the members that count: a struct that holds itself has none
abbrev pub members_in : List CStruct → List ℕ → List CDecl
members_in ss x = if holds_itself ss x then [] else declared x ss

-- ---- layouts of types

abbrev pub laid : (CTy → Layout) → List CDecl → Members
laid f [] = empty
laid f (d ∷ ds) = member d.name (f d.ty) (laid f ds)

-- a type's layout, where structs stand in each other at most n deep
abbrev pub layout_within : ℕ → List CStruct → CTy → Layout
layout_within n ss (ty.Word w) = cell w
layout_within n ss (ty.Pointer x) = pointer x
layout_within zero ss (ty.Struct x) = group x empty
layout_within (suc n) ss (ty.Struct x) = group x (laid (layout_within n ss) (members_in ss x))

-- structs that don't hold themselves stand in each other as deep as there are structs, at most
abbrev pub layout : List CStruct → CTy → Layout
layout ss t = layout_within (length ss) ss t

-- what a pointer to a struct points to
abbrev pub pointed : List CStruct → List ℕ → Layout
pointed ss x = layout ss (ty.Struct x)

-- ---- parts of values

-- a part of a value: how many slots stand before it, and its layout
pub record Spot : Type 0 where
  pub start : ℕ
  pub layout : Layout

abbrev pub spot : ℕ → Layout → Spot
spot n l = record { start = n; layout = l }

abbrev pub behind : ℕ → Option Spot → Option Spot
behind n None = None
behind n (Some s) = Some (spot (n + s.start) s.layout)

-- the first member of a name
abbrev pub find_member : List ℕ → Members → Option Spot
find_member x empty = None
find_member x (member y l ms) = if bytes_eq x y then Some (spot 0 l) else behind (size l) (find_member x ms)

abbrev pub members_of : Layout → Members
members_of (cell w) = empty
members_of (pointer x) = empty
members_of (group x ms) = ms

abbrev pub further : Option Spot → (Layout → Option Spot) → Option Spot
further None f = None
further (Some s) f = behind s.start (f s.layout)

-- the part that members lead to; None where a dot follows no struct, or a name is none of its members
abbrev pub walk : List (List ℕ) → Layout → Option Spot
walk [] l = Some (spot 0 l)
walk (x ∷ xs) l = further (find_member x (members_of l)) (λ k. walk xs k)
