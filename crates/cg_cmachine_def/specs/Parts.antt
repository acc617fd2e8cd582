-- Parts of values by their types: what members lead to, and how many slots stand before it (docs/LANGUAGE.md, "The C subset", layouts).
use Rattle.std.specs.Prelude.{ℕ, ◌+◌, List, [], ◌∷◌, Option, Some, None, if◌then◌else◌}
use Rattle.std.specs.Str.{bytes_eq}
use Rattle.cg_ctree.specs.declared.tree.CDecl.{CDecl}
use Rattle.cg_ctree.specs.declared.tree.CStruct.{CStruct}
use Rattle.cg_ctree.specs.declared.tree.CTy.{CTy}
use Rattle.cg_ctree.specs.declared.tree.CTy.TheVariants as ty
use Rattle.cg_cmachine_def.specs.Layouts.{layout, members_in, size}

-- a part of a value: how many slots stand before it, and its type
pub record Part : Type 0 where
  pub start : ℕ
  pub ty : CTy

abbrev pub part : ℕ → CTy → Part
part n t = record { start = n; ty = t }

-- a part, behind so many slots
abbrev pub part_behind : ℕ → Option Part → Option Part
part_behind n None = None
part_behind n (Some p) = Some (part (n + p.start) p.ty)

-- the slots of declarations
abbrev pub sizes_of : List CStruct → List CDecl → ℕ
sizes_of ss [] = 0
sizes_of ss (d ∷ ds) = size (layout ss d.ty) + sizes_of ss ds

-- the first member of a name, behind those before it
abbrev pub member_part : List CStruct → List ℕ → List CDecl → Option Part
member_part ss x [] = None
member_part ss x (d ∷ ds) = if bytes_eq x d.name then Some (part 0 d.ty) else part_behind (size (layout ss d.ty)) (member_part ss x ds)

-- a struct's members; other types have none
abbrev pub members_of_type : List CStruct → CTy → List CDecl
members_of_type ss (ty.Struct x) = members_in ss x
members_of_type ss (ty.Word w) = []
members_of_type ss (ty.Pointer x) = []

-- a part of a part
abbrev pub part_within : Option Part → (CTy → Option Part) → Option Part
part_within None f = None
part_within (Some p) f = part_behind p.start (f p.ty)

-- the part that members lead to; None where a dot follows no struct, or a name is none of its members
abbrev pub part_at : List CStruct → List (List ℕ) → CTy → Option Part
part_at ss [] t = Some (part 0 t)
part_at ss (x ∷ xs) t = part_within (member_part ss x (members_of_type ss t)) (λ u. part_at ss xs u)
