-- How the code comes to the C of a list of instances: what its parts are, and what is known of them.
use Rattle.std.specs.Prelude.{◌≡◌, ℕ, List, [], ◌∷◌, map, slice_get, if◌then◌else◌}
use Rattle.cg_base.specs.declared.fun.Lib.{Lib}
use Rattle.cg_base.specs.Types.{Tau}
use Rattle.cg_lower_nodes.specs.declared.state.Lowering.{Lowering}
use Rattle.cg_lower_nodes.specs.Kept.{kept_of}
use Rattle.cg_lower_nodes.specs.Views.{place_of}
use Rattle.cg_lower.specs.Collected.{Copy}
use Rattle.cg_ctree.specs.declared.tree.CFun.{CFun}
use Rattle.cg_lower.specs.Promises.{IsFewMaybe}
use Rattle.cg_cgen_def.specs.Names.{declared, function_name}
use Rattle.cg_lower_def.specs.CTypes.{c_type}
use Rattle.cg_lower_def.specs.Functions.{Item, of_arrow, of_instance}
use Rattle.cg_lower_def.specs.IteratorCode.{low_iterator}
use Rattle.cg_cgen_def.specs.Places.{whole_argument, argument_name}
use Rattle.cg_lower_def.specs.LibraryCode.{low_library}
use Rattle.cg_cgen_def.specs.Bodies.{Low}
use Rattle.cg_lower_def.specs.Lowered.{Whole}
use Rattle.cg_eval_operations.specs.Iterators.{is_iterator}
use Rattle.cg_typing.specs.Parts.{given_by, taken_by}

-- ---- functions

-- nothing is lowered, in the scope of the argument alone
pub record Begins (old new : Lowering) : Type 0 where
  pub kept : kept_of new ≡ kept_of old
  pub locals : new.locals ≡ []
  pub code : new.stmts ≡ []
  pub scope : map place_of new.scope.items ≡ whole_argument ∷ []

-- the C of a function of the library
abbrev pub library_low : Whole → Lib → List Tau → Low
library_low whole lib types = if is_iterator lib then low_iterator whole lib types else low_library whole lib types

-- the C of an item, if it is an instance, has fewer than 2^64 locals
abbrev pub IsFewItem : Whole → List Copy → Item → Type 0
IsFewItem whole copies (of_instance k) = IsFewMaybe whole (slice_get copies k)
IsFewItem whole copies (of_arrow j) = Unit {0}

-- the function of an instance without its body
pub record IsHead (numbered : Tau → ℕ) (k : ℕ) (t : Tau) (f : CFun) : Type 0 where
  pub ty_is : f.ty ≡ c_type numbered (given_by t)
  pub name_is : f.name ≡ function_name k
  pub params_are : f.params ≡ declared (c_type numbered (taken_by t)) argument_name ∷ []
