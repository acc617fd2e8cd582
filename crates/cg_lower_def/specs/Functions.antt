-- The C program of a list of instances (docs/LANGUAGE.md, "The C of instances", functions).
use Rattle.std.specs.Prelude.{ℕ, List, [], ◌∷◌, Option, Some, None, slice_get, if◌then◌else◌}
use Rattle.std.specs.Option.{option_map}
use Rattle.cg_base.specs.declared.fun.Fun.{Fun}
use Rattle.cg_base.specs.declared.fun.Fun.TheVariants.{User, Lib as OfLib}
use Rattle.cg_core.specs.Terms.{Note, Tree}
use Rattle.cg_ctree.specs.declared.tree.CStruct.{CStruct}
use Rattle.cg_ctree.specs.Trees as trees
use Rattle.cg_cmachine_def.specs.Runs.{Linked}
use Rattle.cg_heap.specs.declared.foreign.Link.{Link}
use Rattle.cg_eval_operations.specs.Iterators.{is_iterator}
use Rattle.cg_typing.specs.Instances.{Entry, Instance}
use Rattle.cg_typing.specs.Parts.{given_by, taken_by}
use Rattle.cg_update.specs.Calls.{Program}
use Rattle.cg_cgen_def.specs.Names.{declared, function_name}
use Rattle.cg_lower_def.specs.Dispatch.{dispatch_of}
use Rattle.cg_lower_def.specs.IteratorCode.{low_iterator}
use Rattle.cg_cgen_def.specs.Places.{whole_argument, argument_name}
use Rattle.cg_lower_def.specs.LibraryCode.{low_library}
use Rattle.cg_cgen_def.specs.Bodies.{Low, body_of}
use Rattle.cg_lower_def.specs.Lowered.{Whole, low, typed}

module _ (whole : Whole) where
  -- a body in the context of its argument
  abbrev pub low_body : Tree Note → Low
  low_body core = low whole 0 (whole_argument ∷ []) core

  -- what stands for an instance without a body: nothing for an abstract function
  abbrev pub low_outside : Fun → Instance → Option Low
  low_outside (User i) x = None
  low_outside (OfLib lib) x = if is_iterator lib then Some (low_iterator whole lib x.types) else Some (low_library whole lib x.types)

  abbrev pub low_instance : Instance → Option (Tree Note) → Option Low
  low_instance x (Some core) = Some (low_body core)
  low_instance x None = low_outside x.fun x

  -- the C function of the instance at a place
  abbrev pub function_of : ℕ → Instance → Entry → trees.Function
  function_of k x e = record {
    ty = typed whole (given_by e.ty);
    name = function_name k;
    params = declared (typed whole (taken_by e.ty)) argument_name ∷ [];
    body = option_map body_of (low_instance x e.body);
  }

  abbrev pub function_maybe : ℕ → Option Instance → Option Entry → Option trees.Function
  function_maybe k (Some x) (Some e) = Some (function_of k x e)
  function_maybe k x e = None

  abbrev pub function_at : List Entry → ℕ → Option trees.Function
  function_at entries k = function_maybe k (slice_get whole.list k) (slice_get entries k)

-- a function of a program: that of the instance at a place, or that of an arrow type
pub data Item : Type 0 where
  of_instance : ℕ → Item
  of_arrow : ℕ → Item

abbrev pub function_of_item : Whole → List Entry → Item → Option trees.Function
function_of_item whole entries (of_instance k) = function_at whole entries k
function_of_item whole entries (of_arrow j) = option_map (dispatch_of whole entries j) (slice_get whole.arrows j)

-- the functions of some items, in this order
abbrev pub with_function : Option trees.Function → List trees.Function → List trees.Function
with_function None fs = fs
with_function (Some f) fs = f ∷ fs

abbrev pub functions_at : (Item → Option trees.Function) → List Item → List trees.Function
functions_at at [] = []
functions_at at (i ∷ is) = with_function (at i) (functions_at at is)

-- a C program with these structs, and its functions in this order
abbrev pub program_in : Whole → List CStruct → List Entry → List Item → trees.Program
program_in whole ss entries order = record { structs = ss; functions = functions_at (function_of_item whole entries) order }

-- with the abstract functions of a table
abbrev pub linked_in : Whole → List CStruct → Program → List Link → List Item → Linked
linked_in whole ss p links order = record { program = program_in whole ss p.entries order; links = links; asked = p.on_heaps.asked }
