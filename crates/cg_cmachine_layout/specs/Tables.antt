-- Tables of structs: what is computed of them, and what it says of their layouts.
use Rattle.std.specs.Prelude.{◌≡◌, ℕ, zero, suc, ◌+◌, ◌<◌, ◌≤◌, Bool, false, ◌||◌, eqb, if◌then◌else◌, List, [], ◌∷◌, length, get_or, set, replicate, map, Option, Some, None}
use Rattle.std.specs.BTreeMap.{BTreeMap, get_by}
use Rattle.std.specs.Cmp.Lexicographic.{slice_cmp}
use Rattle.std.specs.List.{list_any, position_from}
use Rattle.std.specs.Ordering.{nat_cmp}
use Rattle.std.specs.Str.{bytes_eq}
use Rattle.cg_graphs.specs.Circles.{IsOrder}
use Rattle.cg_ctree.specs.declared.tree.CDecl.{CDecl}
use Rattle.cg_ctree.specs.declared.tree.CStruct.{CStruct}
use Rattle.cg_ctree.specs.declared.tree.CTy.{CTy}
use Rattle.cg_ctree.specs.declared.tree.CTy.TheVariants as ty
use Rattle.cg_cmachine_def.specs.Layouts.{find_member, layout, members_in, members_of, size, spot}
use Rattle.cg_cmachine_layout.specs.declared.counted.Counted.{Counted}
use Rattle.cg_cmachine_layout.specs.declared.counted.Counted.TheVariants.{Word, Pointer, Struct}
use Rattle.cg_cmachine_layout.specs.declared.counted.Offset.{Offset}
use Rattle.cg_cmachine_layout.specs.declared.sizes.Row.{Row}
use Rattle.cg_cmachine_layout.specs.Counts.{IsCounted, counted_layout}
use denote.Ref.{Bor}

-- ---- names

-- names, each with a place
abbrev pub Table : Type 0
Table = BTreeMap (Bor (List ℕ)) ℕ

-- the place that a table has for a name
abbrev pub place : Table → List ℕ → Option ℕ
place table name = get_by (λ key. slice_cmp nat_cmp name key.now) table

-- a table has the place of the first of each of these names, and no others (docs/LANGUAGE.md, "The C subset": the first of a
-- name counts)
pub record Indexes (names : List (List ℕ)) (table : Table) : Type 0 where
  pub first : (name : List ℕ) → place table name ≡ position_from (bytes_eq name) 0 names

-- the places of a table are below a number
abbrev pub Within : Table → ℕ → Type 0
Within names n = (x : List ℕ) (at : ℕ) → place names x ≡ Some at → at < n

-- what references to members point to
abbrev pub slices : List (Bor (List CDecl)) → List (List CDecl)
slices structs = map (λ members. members.now) structs

-- ---- structs in structs

-- the declared struct that a type is
abbrev pub struct_at : Table → CTy → Option ℕ
struct_at names (ty.Word w) = None
struct_at names (ty.Struct x) = place names x
struct_at names (ty.Pointer x) = None

abbrev pub listed : Option ℕ → List ℕ → List ℕ
listed None rest = rest
listed (Some at) rest = at ∷ rest

-- the declared structs that members are
abbrev pub targets : Table → List CDecl → List ℕ
targets names [] = []
targets names (d ∷ ds) = listed (struct_at names d.ty) (targets names ds)

-- whether one of these structs is this one, or is marked
abbrev pub any_reaches : ℕ → List Bool → List ℕ → Bool
any_reaches goal marks js = list_any (λ j. eqb j goal || get_or marks j false) js

-- which structs reach this one through one struct more than those that are marked
abbrev pub later : List (List ℕ) → ℕ → List Bool → List Bool
later edges goal marks = map (any_reaches goal marks) edges

-- which structs reach this one through at most so many structs
abbrev pub rounds : ℕ → List (List ℕ) → ℕ → List Bool
rounds zero edges goal = replicate (length edges) false
rounds (suc n) edges goal = later edges goal (rounds n edges goal)

-- whether a struct holds itself
abbrev pub holds : List (List ℕ) → ℕ → Bool
holds edges at = get_or (rounds (length edges) edges at) at false

-- the members that count, of the structs from a place on
abbrev pub counted : List (List ℕ) → ℕ → List (List CDecl) → List (List CDecl)
counted edges i [] = []
counted edges i (ds ∷ dss) = (if holds edges i then [] else ds) ∷ counted edges (i + 1) dss

-- the members that count of each declared struct, and an order in which each stands behind those that it holds
pub record IsSettled (ss : List CStruct) (names : Table) (structs : List (List CDecl)) (order : List ℕ) : Type 0 where
  pub long : length structs ≡ length ss
  pub counts : (x : List ℕ) (at : ℕ) → place names x ≡ Some at → get_or structs at [] ≡ members_in ss x
  pub ordered : IsOrder (map (targets names) structs) order

-- ---- sizes

-- the slots beside a type
abbrev pub slots_in : Counted → ℕ
slots_in (Word w) = 1
slots_in (Pointer x) = 1
slots_in (Struct x n) = n

-- a type with no number beside it
abbrev pub type_of : Counted → CTy
type_of (Word w) = ty.Word w
type_of (Pointer x) = ty.Pointer x.now
type_of (Struct x n) = ty.Struct x.now

abbrev pub size_of : List ℕ → Option ℕ → ℕ
size_of sizes None = 0
size_of sizes (Some at) = get_or sizes at 0

-- the slots of a struct; none where it isn't declared
abbrev pub struct_slots : Table → List ℕ → List ℕ → ℕ
struct_slots names sizes x = size_of sizes (place names x)

-- the slots of a type
abbrev pub slots_of : Table → List ℕ → CTy → ℕ
slots_of names sizes (ty.Word w) = 1
slots_of names sizes (ty.Struct x) = struct_slots names sizes x
slots_of names sizes (ty.Pointer x) = 1

-- the slots of members
abbrev pub slots : Table → List ℕ → List CDecl → ℕ
slots names sizes [] = 0
slots names sizes (d ∷ ds) = slots_of names sizes d.ty + slots names sizes ds

-- the sizes, where those of these structs are put in their order
abbrev pub sized : Table → List (List CDecl) → List ℕ → List ℕ → List ℕ
sized names structs sizes [] = sizes
sized names structs sizes (at ∷ order) = sized names structs (set sizes at (slots names sizes (get_or structs at []))) order

-- ---- members

-- where a member stands, its type, and its slots
pub record Place : Type 0 where
  pub start : ℕ
  pub ty : CTy
  pub slots : ℕ

abbrev pub place_of : Offset → Place
place_of p = record { start = p.start; ty = type_of p.kind; slots = slots_in p.kind }

-- where members stand, behind so many slots
abbrev pub placed : Table → List ℕ → ℕ → List CDecl → List Place
placed names sizes n [] = []
placed names sizes n (d ∷ ds) = record { start = n; ty = d.ty; slots = slots_of names sizes d.ty } ∷ placed names sizes (n + slots_of names sizes d.ty) ds

-- a struct's members, by their names and their places
pub record IsRow (names : Table) (sizes : List ℕ) (ds : List CDecl) (row : Row) : Type 0 where
  pub by_name : Indexes (map (λ d. d.name) ds) row.names
  pub parts : map place_of row.parts.items ≡ placed names sizes 0 ds

-- ---- the whole

-- a table of structs: the first of each name, its slots, and its members that count
pub record IsTable (ss : List CStruct) (names : Table) (sizes : List ℕ) (rows : List Row) : Type 0 where
  pub by_name : Indexes (map (λ s. s.name) ss) names
  pub sized : (x : List ℕ) (at : ℕ) → place names x ≡ Some at → get_or sizes at 0 ≡ size (layout ss (ty.Struct x))
  pub long : length rows ≡ length ss
  pub laid : (x : List ℕ) (at : ℕ) (d : Row) → place names x ≡ Some at → IsRow names sizes (members_in ss x) (get_or rows at d)

-- the first member of a name
pub record IsMember (ss : List CStruct) (x : List ℕ) (k : Counted) (p : Offset) : Type 0 where
  pub found : find_member x (members_of (counted_layout ss k)) ≡ Some (spot p.start (counted_layout ss p.kind))
  pub sized : IsCounted ss p.kind
  pub within : p.start + size (counted_layout ss p.kind) ≤ size (counted_layout ss k)
