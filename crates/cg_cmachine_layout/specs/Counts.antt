-- Types of values and parts of values as the code holds them, beside layouts (docs/LANGUAGE.md, "The C subset", layouts).
use Rattle.std.specs.Prelude.{◌≡◌, ℕ, ◌+◌, ◌≤◌, List, Option, Some, None}
use Rattle.cg_ctree.specs.declared.tree.CStruct.{CStruct}
use Rattle.cg_ctree.specs.declared.tree.CTy.TheVariants as ty
use Rattle.cg_cmachine_def.specs.Layouts.{Layout, cell, layout, pointer, size, spot, walk}
use Rattle.cg_cmachine_layout.specs.declared.counted.Counted.{Counted}
use Rattle.cg_cmachine_layout.specs.declared.counted.Counted.TheVariants.{Word, Pointer, Struct}
use Rattle.cg_cmachine_layout.specs.declared.counted.Offset.{Offset}

-- the layout of a type
abbrev pub counted_layout : List CStruct → Counted → Layout
counted_layout ss (Word w) = cell w
counted_layout ss (Pointer x) = pointer x.now
counted_layout ss (Struct x n) = layout ss (ty.Struct x.now)

-- the number beside a struct is that of its slots
abbrev pub IsCounted : List CStruct → Counted → Type 0
IsCounted ss (Word w) = Unit {0}
IsCounted ss (Pointer x) = Unit {0}
IsCounted ss (Struct x n) = n ≡ size (layout ss (ty.Struct x.now))

-- the struct that a type is
abbrev pub struct_of : Counted → Option (List ℕ)
struct_of (Word w) = None
struct_of (Pointer x) = None
struct_of (Struct x n) = Some x.now

-- the part that members lead to, which stands within the whole
pub record IsOffset (ss : List CStruct) (xs : List (List ℕ)) (k : Counted) (p : Offset) : Type 0 where
  pub found : walk xs (counted_layout ss k) ≡ Some (spot p.start (counted_layout ss p.kind))
  pub sized : IsCounted ss p.kind
  pub within : p.start + size (counted_layout ss p.kind) ≤ size (counted_layout ss k)
