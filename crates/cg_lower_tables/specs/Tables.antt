-- Tables of structs: what is kept for each struct, and when it is right.
use Rattle.std.specs.Prelude.{◌≡◌, ℕ, suc, ◌≤◌, true, false, List, [], ◌∷◌, Some, length, map, slice_get}
use Rattle.cg_base.specs.declared.kind.Sigil.TheVariants.{U, W}
use Rattle.cg_base.specs.Types.{Tau, var, variant, fields, Parts, end, part, Piece}
use Rattle.cg_ctree.specs.declared.tree.CDecl.{CDecl}
use Rattle.cg_ctree.specs.declared.tree.CStruct.{CStruct}
use Rattle.cg_ctree.specs.declared.tree.CTy.{CTy}
use Rattle.cg_ctree.specs.declared.tree.CTy.TheVariants as ty
use Rattle.cg_cgen_def.specs.Names.{declared, name, struct_name}
use Rattle.cg_lower_def.specs.CTypes.{c_type, form}
use Rattle.cg_lower_def.specs.Structs.{HasBelow, struct_members}
use Rattle.cg_inst_types.specs.Places.{type_at}
use Rattle.cg_lower_tables.specs.declared.members.Kind.{Kind}
use Rattle.cg_lower_tables.specs.declared.members.Kind.TheVariants as kind
use Rattle.cg_lower_tables.specs.declared.members.Member.{Member}
use Rattle.cg_lower_tables.specs.declared.members.Row.{Row}
use Rattle.cg_lower_tables.specs.declared.members.Shape.{Shape}
use Rattle.cg_lower_tables.specs.declared.members.Shape.TheVariants as shape
use Rattle.cg_lower_tables.specs.Plain.{host_struct, plain}

-- ---- layers of types

-- the type of a kind with these parts
abbrev pub made : Kind → Parts → Tau
made kind.Variant ps = variant ps
made kind.Unboxed ps = fields ps U
made kind.Boxed ps = fields ps W

-- a part without a name
abbrev pub unnamed : Tau → Piece
unnamed t = record { name = []; ty = t; taken = false }

-- a type variable for each of these, counted from a number on
abbrev pub variables_from : ℕ → List Member → List Piece
variables_from i [] = []
variables_from i (m ∷ ms) = unnamed (var i) ∷ variables_from (suc i) ms

module _ (types : List Tau) where
  -- the parts that these stand for
  abbrev pub parts_at : List Member → Parts
  parts_at [] = end
  parts_at (m ∷ ms) = part [] (type_at types m.at) false (parts_at ms)

  -- ---- what stands for a type

  -- a place of a type that stands for its form
  abbrev pub IsPlainAt : ℕ → Type 0
  IsPlainAt at = slice_get types at ≡ Some (plain (type_at types at))

  -- a type as C has it, where structs are numbered
  abbrev pub shown : (Tau → ℕ) → ℕ → Shape → CTy
  shown numbered at (shape.Word w) = ty.Word w
  shown numbered at (shape.Abstract host) = ty.Pointer (host_struct host)
  shown numbered at shape.Struct = ty.Struct (struct_name (numbered (form (type_at types at))))
  shown numbered at (shape.Pointer to) = ty.Pointer (struct_name (numbered (form (type_at types to))))

  -- what is pointed to stands there
  abbrev pub PointsTo : Shape → Type 0
  PointsTo (shape.Pointer to) = IsPlainAt to
  PointsTo _ = Unit {0}

  -- it stands for a type, and C sees it so
  pub record IsMember (m : Member) (t : Tau) : Type 0 where
    pub place : slice_get types m.at ≡ Some (plain t)
    pub to : PointsTo m.shape
    pub seen : (numbered : Tau → ℕ) → c_type numbered t ≡ shown numbered m.at m.shape

  abbrev pub AreMembers : List Member → Parts → Type 0
  AreMembers [] end = Unit {0}
  AreMembers (m ∷ ms) (part x t taken ps) = IsMember m t × AreMembers ms ps
  AreMembers _ _ = ⊥

  -- a struct is that of a type
  abbrev pub IsFor : Row → Tau → Type 0
  IsFor row (variant ps) = (row.is_variant ≡ true) × AreMembers row.members ps
  IsFor row (fields ps sigil) = (row.is_variant ≡ false) × AreMembers row.members ps
  IsFor row _ = ⊥

  -- members by a letter and numbers
  abbrev pub declared_from : (Tau → ℕ) → ℕ → ℕ → List Member → List CDecl
  declared_from numbered letter i [] = []
  declared_from numbered letter i (m ∷ ms) = declared (shown numbered m.at m.shape) (name letter i) ∷ declared_from numbered letter (suc i) ms

-- ---- tables

-- the types of structs
abbrev pub table_of : List Tau → List (ℕ × Row) → List Tau
table_of types rows = map (λ r. type_at types r.0) rows

-- a struct of a table: of a type that stands for its form, behind those that are its parts
pub record IsRow (types : List Tau) (table : List Tau) (i : ℕ) (r : ℕ × Row) : Type 0 where
  pub plain : IsPlainAt types r.0
  pub for_type : IsFor types r.1 (type_at types r.0)
  pub below : HasBelow table i (type_at types r.0)

pub record IsSound (types : List Tau) (rows : List (ℕ × Row)) : Type 0 where
  pub few : length rows ≤ 4294967296
  pub each : (i : ℕ) (r : ℕ × Row) → slice_get rows i ≡ Some r → IsRow types (table_of types rows) i r

-- what a table of structs holds: types by their places, and the types of its structs
pub record Known : Type 0 where
  pub types : List Tau
  pub table : List Tau

abbrev pub known_of : List Tau → List (ℕ × Row) → Known
known_of types rows = record { types = types; table = table_of types rows }

-- the struct of a number
abbrev pub struct_at : List Tau → ℕ → CStruct
struct_at table i = record { name = struct_name i; members = struct_members table (type_at table i) }
