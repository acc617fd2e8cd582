-- What the code's types stand for.
use Rattle.std.specs.Prelude.{◌≡◌, ℕ, ◌+◌, ◌≤◌, List, Some}
use Rattle.cg_cmachine_layout.specs.declared.kind.Kind.{Kind}
use Rattle.cg_cmachine_layout.specs.declared.kind.Kind.TheVariants as kind
use Rattle.cg_cmachine_layout.specs.declared.kind.Part.{Part}
use Rattle.cg_cmachine_layout.specs.declared.shape.Shape.{Shape}
use Rattle.cg_cmachine_def.specs.Layouts.{Layout, cell, layout, pointer, size, spot, walk}
use Rattle.cg_ctree.specs.declared.tree.CTy.TheVariants as ty

abbrev pub shape_layout : Shape → Layout
shape_layout s = layout s.structs.now (ty.Struct s.name.now)

abbrev pub layout_of : Kind → Layout
layout_of (kind.Word w) = cell w
layout_of (kind.Pointer x) = pointer x.now
layout_of (kind.Struct s) = shape_layout s

-- members of a value of a layout lead to a part
pub record IsPart (xs : List (List ℕ)) (l : Layout) (p : Part) : Type 0 where
  pub found : walk xs l ≡ Some (spot p.start (layout_of p.kind))
  pub within : p.start + size (layout_of p.kind) ≤ size l
