-- A struct's layout is a group of its name.
use Rattle.std.proofs.Common.{◌≡◌, ℕ, zero, suc, ◌&&◌, List, length, refl}
use Rattle.std.specs.Bool.{nat_eq}
use Rattle.std.specs.Str.{bytes_eq}
use Rattle.cg_cmachine_layout.specs.declared.shape.Shape.{Shape}
use Rattle.cg_cmachine_layout.specs.Kinds.{shape_layout}
use Rattle.cg_cmachine_def.specs.Layouts.{Layout, Members, cell, pointer, group, members_of, layout_within, same_layout, size}
use Rattle.cg_base.specs.declared.kind.Word.{Word}
use Rattle.cg_ctree.specs.declared.tree.CStruct.{CStruct}
use Rattle.cg_ctree.specs.declared.tree.CTy.TheVariants as ty

grouped : (n : ℕ) (ss : List CStruct) (x : List ℕ) → layout_within n ss (ty.Struct x) ≡ group x (members_of (layout_within n ss (ty.Struct x)))
grouped zero ss x = refl
grouped (suc n) ss x = refl

pub shape_grouped : (s : Shape) → shape_layout s ≡ group s.name.now (members_of (shape_layout s))
shape_grouped s = grouped (length s.structs.now) s.structs.now s.name.now

same_groups : (x y : List ℕ) (ms ns : Members) → same_layout (group x ms) (group y ns) ≡ (bytes_eq x y && nat_eq (size (group x ms)) (size (group y ns)))
unfolding size
same_groups x y ms ns = refl

same_at : (k l : Layout) (x y : List ℕ) (ms ns : Members) → k ≡ group x ms → l ≡ group y ns → same_layout k l ≡ (bytes_eq x y && nat_eq (size k) (size l))
same_at k l x y ms ns e f = rw (e, f) (same_groups x y ms ns)

-- shapes are the same where their names and their numbers of slots are
pub same_shapes : (s t : Shape) → same_layout (shape_layout s) (shape_layout t) ≡ (bytes_eq s.name.now t.name.now && nat_eq (size (shape_layout s)) (size (shape_layout t)))
same_shapes s t = same_at (shape_layout s) (shape_layout t) s.name.now t.name.now _ _ (shape_grouped s) (shape_grouped t)

pub one_word : (w : Word) → size (cell w) ≡ 1
unfolding size
one_word w = refl

pub one_pointer : (x : List ℕ) → size (pointer x) ≡ 1
unfolding size
one_pointer x = refl

pub ruleset group_steps = (same_shapes, one_word, one_pointer)
