-- What types the function of an entry has (docs/LANGUAGE.md, "Entries").
use Rattle.std.specs.Prelude.{◌≡◌, ◌≤◌, IsTrue}
use Rattle.cg_base.specs.Types.{Tau, arrow}
use Rattle.cg_core.specs.Kernels.{Function}
use Rattle.cg_core_def.specs.Lawful.{IsLawfulType}
use Rattle.cg_typing.specs.Parts.{nodes, type_size}
use Rattle.cg_heap.specs.FirstOrder.{is_first_order}

-- what a function takes and gives, as an entry: types without type variables, functions and users' abstract types, of few nodes
pub record HasEntryType (f : Function) (argument result : Tau) : Type 0 where
  pub is : f.ty.ty ≡ arrow argument result
  pub lawful : IsLawfulType 0 argument
  pub plain : IsTrue (is_first_order argument)
  pub plain_result : IsTrue (is_first_order result)
  pub small : nodes argument ≤ type_size
  pub small_result : nodes result ≤ type_size
