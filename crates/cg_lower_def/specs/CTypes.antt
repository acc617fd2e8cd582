-- Types as C has them, and the structs that they are of (docs/LANGUAGE.md, "The C of instances", types).
use Rattle.std.specs.Prelude.{◌≡◌, ℕ, suc, ◌^◌, ◌≤◌, false, List, [], ◌∷◌, ◌++◌, codes, if◌then◌else◌}
use Rattle.std.specs.Str.{bytes_eq}
use Rattle.cg_base.specs.declared.kind.Sigil.TheVariants.{R, W, U}
use Rattle.cg_base.specs.declared.kind.Word.{Word}
use Rattle.cg_base.specs.declared.kind.Word.TheVariants.{U8, U32}
use Rattle.cg_base.specs.Types.{Tau, word, arrow, abs, variant, fields, Taus, none, more, Parts, end, part}
use Rattle.cg_cmachine_def.specs.BuiltIns.{width_text}
use Rattle.cg_cmachine_def.specs.Layouts.{members_in}
use Rattle.cg_ctree.specs.declared.tree.CDecl.{CDecl}
use Rattle.cg_ctree.specs.declared.tree.CStruct.{CStruct}
use Rattle.cg_ctree.specs.declared.tree.CTy.{CTy}
use Rattle.cg_ctree.specs.declared.tree.CTy.TheVariants as ty
use Rattle.cg_cgen_def.specs.Names.{declared, name, struct_name, tag_name}

-- the word of an array's elements
abbrev pub element : Taus → Word
element (more (word w) none) = w
element _ = U8

-- The struct that a pointer of an abstract type points to: those of the allocator and of arrays belong to cogent.h, and all types of the
-- user share one.
abbrev pub abstract_struct : List ℕ → Taus → List ℕ
abstract_struct x args =
    if bytes_eq x (codes "SysState") then codes "SysState"
    else if bytes_eq x (codes "WordArray") then codes "W" ++ width_text (element args) else codes "Foreign"

-- how many parts there are
unfoldable pub count : Parts → ℕ
count end = 0
count (part x t taken ps) = suc (count ps)

-- A type with all left out that C doesn't see: names, what is taken, whether a cell may be written, and what words stand for.
unfoldable mutual
  pub form : Tau → Tau
  form (word w) = word w
  form (arrow a b) = word U32
  form (abs x args sigil) = abs (abstract_struct x args) none W
  form (variant ps) = variant (form_parts ps)
  form (fields ps U) = fields (form_parts ps) U
  form (fields ps R) = fields (form_parts ps) W
  form (fields ps W) = fields (form_parts ps) W
  form _ = word U8

  pub form_parts : Parts → Parts
  form_parts end = end
  form_parts (part x t taken ps) = part [] (form t) false (form_parts ps)

-- Over a number for each struct, by the form of the record or variant that it is for.
module _ (numbered : Tau → ℕ) where
  -- the struct of a record, and that of a variant
  abbrev pub record_struct : Parts → List ℕ
  record_struct ps = struct_name (numbered (fields (form_parts ps) U))

  abbrev pub variant_struct : Parts → List ℕ
  variant_struct ps = struct_name (numbered (variant (form_parts ps)))

  -- a type as C has it; a type variable has no values
  abbrev pub c_type : Tau → CTy
  c_type (word w) = ty.Word w
  c_type (arrow a b) = ty.Word U32
  c_type (abs x args sigil) = ty.Pointer (abstract_struct x args)
  c_type (variant ps) = ty.Struct (variant_struct ps)
  c_type (fields ps U) = ty.Struct (record_struct ps)
  c_type (fields ps R) = ty.Pointer (record_struct ps)
  c_type (fields ps W) = ty.Pointer (record_struct ps)
  c_type _ = ty.Word U8

  -- the members for parts, named by a letter and a number from one on
  abbrev pub members_from : ℕ → ℕ → Parts → List CDecl
  members_from letter i end = []
  members_from letter i (part x t taken ps) = declared (c_type t) (name letter i) ∷ members_from letter (suc i) ps

  -- the members of the struct of a record, and of that of a variant
  abbrev pub record_members : Parts → List CDecl
  record_members ps = members_from 109 0 ps

  abbrev pub variant_members : Parts → List CDecl
  variant_members ps = declared (ty.Word U32) tag_name ∷ members_from 97 0 ps

  -- The structs of a type, and of all types in it, are among these, and none has more than 2^32 members.
  module _ (ss : List CStruct) where
    unfoldable mutual
      pub IsDeclared : Tau → Type 0
      IsDeclared (variant ps) = (members_in ss (variant_struct ps) ≡ variant_members ps) × (count ps ≤ 2 ^ 32) × AreDeclared ps
      IsDeclared (fields ps sigil) = (members_in ss (record_struct ps) ≡ record_members ps) × (count ps ≤ 2 ^ 32) × AreDeclared ps
      IsDeclared _ = Unit {0}

      pub AreDeclared : Parts → Type 0
      AreDeclared end = Unit {0}
      AreDeclared (part x t taken ps) = IsDeclared t × AreDeclared ps
