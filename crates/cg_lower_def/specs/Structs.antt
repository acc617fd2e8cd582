-- The structs of a C program: one for each form of an unboxed record or a variant, in an order in which what stands in a struct is declared
-- before it (docs/LANGUAGE.md, "The C of instances", types).
use Rattle.std.specs.Prelude.{◌≡◌, ℕ, zero, suc, ◌^◌, ◌<◌, ◌≤◌, Bool, true, List, [], ◌∷◌, length, slice_get, Some, if◌then◌else◌}
use Rattle.std.specs.List.{list_any}
use Rattle.cg_base.specs.declared.kind.Sigil.TheVariants.{U}
use Rattle.cg_base.specs.Same.{same_type}
use Rattle.cg_base.specs.Types.{Tau, variant, fields, Parts, end, part}
use Rattle.cg_ctree.specs.declared.tree.CDecl.{CDecl}
use Rattle.cg_ctree.specs.declared.tree.CStruct.{CStruct}
use Rattle.cg_cgen_def.specs.Names.{struct_name}
use Rattle.cg_lower_def.specs.CTypes.{count, form, form_parts, IsDeclared, record_members, variant_members}

-- where the first type of a form stands in a table of types
unfoldable pub numbered_in : List Tau → Tau → ℕ
numbered_in [] t = zero
numbered_in (u ∷ us) t = if same_type (form u) t then zero else suc (numbered_in us t)

-- a type of a form is in the table
abbrev pub is_in : List Tau → Tau → Bool
is_in table t = list_any (λ u. same_type (form u) t) table

module _ (table : List Tau) where
  -- the members of a type's struct
  abbrev pub struct_members : Tau → List CDecl
  struct_members (variant ps) = variant_members (numbered_in table) ps
  struct_members (fields ps sigil) = record_members (numbered_in table) ps
  struct_members t = []

  abbrev pub structs_from : ℕ → List Tau → List CStruct
  structs_from k [] = []
  structs_from k (t ∷ ts) = record { name = struct_name k; members = struct_members t } ∷ structs_from (suc k) ts

  -- the structs of a table
  abbrev pub structs_in : List CStruct
  structs_in = structs_from zero table

  -- the structs that parts are, without those that they point to, stand below a place
  unfoldable pub StandBelow : ℕ → Parts → Type 0
  StandBelow i end = Unit {0}
  StandBelow i (part x (variant ps) taken qs) = (numbered_in table (variant (form_parts ps)) < i) × StandBelow i qs
  StandBelow i (part x (fields ps U) taken qs) = (numbered_in table (fields (form_parts ps) U) < i) × StandBelow i qs
  StandBelow i (part x t taken qs) = StandBelow i qs

  abbrev pub HasBelow : ℕ → Tau → Type 0
  HasBelow i (variant ps) = StandBelow i ps
  HasBelow i (fields ps sigil) = StandBelow i ps
  HasBelow i t = ⊥

  -- each struct's parts stand before it, and there are few
  pub record IsTable : Type 0 where
    pub few : length table ≤ 2 ^ 32
    pub ordered : (i : ℕ) (t : Tau) → slice_get table i ≡ Some t → HasBelow i t

  -- the structs of a type and of all types in it have their forms in the table, and none has more than 2^32 members
  unfoldable mutual
    pub IsCovered : Tau → Type 0
    IsCovered (variant ps) = (is_in table (variant (form_parts ps)) ≡ true) × (count ps ≤ 2 ^ 32) × AreCovered ps
    IsCovered (fields ps sigil) = (is_in table (fields (form_parts ps) U) ≡ true) × (count ps ≤ 2 ^ 32) × AreCovered ps
    IsCovered t = Unit {0}

    pub AreCovered : Parts → Type 0
    AreCovered end = Unit {0}
    AreCovered (part x t taken ps) = IsCovered t × AreCovered ps

-- all structs of a type that is covered are declared as its members say
abbrev pub CoveredAreDeclared : Type 0
CoveredAreDeclared = (table : List Tau) (t : Tau) → IsTable table → IsCovered table t → IsDeclared (numbered_in table) (structs_in table) t
