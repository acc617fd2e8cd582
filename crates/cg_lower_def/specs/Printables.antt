-- The C of a list of instances can be printed (docs/LANGUAGE.md, "The C text").
use Rattle.std.specs.Prelude.{◌≡◌, ℕ, zero, suc, max, ◌≤◌, List, Some, slice_get}
use Rattle.std.specs.List.{AllByRecursion}
use Rattle.cg_core.specs.Terms.{Note, Tree, term, Shape, op, app, lets, let_bang, if_else, con, case_of, esac, struct, member, take_field, put, cast, annot, Trees, none, more, Named, end, field}
use Rattle.cg_ctree.specs.declared.tree.CStruct.{CStruct}
use Rattle.cg_ctree.specs.Spells.{IsPrintable, IsPrintableStruct}
use Rattle.cg_heap.specs.declared.foreign.Link.{Link}
use Rattle.cg_typing.specs.Instances.{Entry}
use Rattle.cg_update.specs.Calls.{Program}
use Rattle.cg_lower_def.specs.Functions.{Item, program_in}
use Rattle.cg_lower_def.specs.Lowered.{Whole}
use Rattle.cg_lower_def.specs.Simulated.{IsProgramOf}

-- how deep a core is: a leaf is 1 deep
abbrev mutual
  pub depth : Tree Note → ℕ
  depth (term note shape) = suc (depth_below shape)

  pub depth_below : Shape Note → ℕ
  depth_below (op o ts) = depth_of_all ts
  depth_below (app f x) = max (depth f) (depth x)
  depth_below (lets binder e k) = max (depth e) (depth k)
  depth_below (let_bang observers binder e k) = max (depth e) (depth k)
  depth_below (if_else c x y) = max (depth c) (max (depth x) (depth y))
  depth_below (con name e) = depth e
  depth_below (case_of e at binder x y) = max (depth e) (max (depth x) (depth y))
  depth_below (esac at e) = depth e
  depth_below (struct fs) = depth_of_fields fs
  depth_below (member e at) = depth e
  depth_below (take_field e at rest binder k) = max (depth e) (depth k)
  depth_below (put e at x) = max (depth e) (depth x)
  depth_below (cast e) = depth e
  depth_below (annot e a) = depth e
  depth_below leaf = zero

  pub depth_of_all : Trees Note → ℕ
  depth_of_all none = zero
  depth_of_all (more t ts) = max (depth t) (depth_of_all ts)

  pub depth_of_fields : Named Note → ℕ
  depth_of_fields end = zero
  depth_of_fields (field name t fs) = max (depth t) (depth_of_fields fs)

-- no body is deeper than 2,048
abbrev pub AreShallow : List Entry → Type 0
AreShallow entries = (k : ℕ) (e : Entry) (core : Tree Note) → slice_get entries k ≡ Some e → e.body ≡ Some core → depth core ≤ 2048

-- the C of a list of instances whose bodies aren't too deep can be printed, where its structs can
abbrev pub LoweringIsPrintable : Type 0
LoweringIsPrintable =
    (p : Program) (whole : Whole) (ss : List CStruct) (links : List Link) (order : List Item) → IsProgramOf p whole ss links order → AllByRecursion IsPrintableStruct ss → AreShallow p.entries
    → IsPrintable (program_in whole ss p.entries order)
