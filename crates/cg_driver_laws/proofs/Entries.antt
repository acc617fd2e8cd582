-- Entries run in C as evaluation says, from any heap that represents their argument.
use Rattle.std.proofs.Common.{◌≡◌, ℕ, Option, Some, None, List, [], length, slice_get, refl, sym, ap, ◌∙◌, eqb-true, subst as at}
use Rattle.std.specs.Option.{option_map}
use Rattle.cg_base.specs.declared.fun.Fun.TheVariants.{User}
use Rattle.cg_base.specs.Types.{arrow}
use Rattle.cg_core.specs.Derivations.{Derivation}
use Rattle.cg_core.specs.Kernels.{Function}
use Rattle.cg_core.specs.Terms.{Note, Tree}
use Rattle.cg_core_def.specs.Lawful.{IsLawfulType}
use Rattle.cg_driver_entry.proofs.Closed.{functions_from}
use Rattle.cg_driver_laws.proofs.Programs.{abstract_is, core_missing}
use Rattle.cg_driver_laws.proofs.Reached.{reach_known, reached_places, stands_reached}
use Rattle.cg_driver_laws.proofs.Refined.{sources_are_refined}
use Rattle.cg_driver_laws.proofs.Sound.{closed_over}
use Rattle.cg_driver_laws.specs.Laws.{EntriesRun, GivesRefined, linked_over, program_over}
use Rattle.cg_cgen_def.specs.Names.{function_name}
use Rattle.cg_heap.specs.Calls.{heap_of}
use Rattle.cg_heap.specs.Reps.{Represents}
use Rattle.cg_graphs.proofs.Marked.{marks_are_there}
use Rattle.cg_inst.specs.Judged.{core_in, functions_in}
use Rattle.cg_inst.specs.Lists.{Cores, IsList}
use Rattle.cg_inst_laws.proofs.Bodies.{AreTyped, source_typed, tree_in}
use Rattle.cg_inst_laws.proofs.Closed.{lawful_stays}
use Rattle.cg_inst_laws.proofs.Each.{each_at}
use Rattle.cg_inst_laws.proofs.Entries.{list_good}
use Rattle.cg_inst_laws.specs.Laws.{entry_of, instance_mentions}
use Rattle.cg_kinds.specs.Kinds.{or_unit, subst}
use Rattle.cg_typing.specs.Functions.{has_vars}
use Rattle.cg_typing.specs.Instances.{Instance, IsGood}
use Rattle.cg_typing.specs.Parts.{given_by, taken_by}
use Rattle.cg_typing.specs.Subst.{subst_core}
use Rattle.cg_update_laws.specs.Laws.{world_among}

module _ (functions : List Function) (cores : Cores) (trees : ℕ → Option Derivation) (typed : AreTyped functions cores trees)
    (list : List Instance) (is : IsList functions cores list) (from i : ℕ) (f : Function)
    (here : slice_get list from ≡ Some (record { fun = User i; types = [] })) (there : slice_get functions i ≡ Some f) where
  abbrev one : Instance
  one = record { fun = User i; types = [] }

  -- a function has no type variables, where the list has its instance at no types
  no_vars : length f.vars ≡ 0
  no_vars = eqb-true (length f.vars) 0 (sym (ap (λ o. has_vars o 0) there) ∙ (each_at (IsGood functions) list from one (list_good functions cores trees typed list is) here).many)

  -- so this instance is of its type
  entry_type : (entry_of functions cores one).ty ≡ f.ty.ty
  unfolding subst
  entry_type =
      ap (λ o. or_unit (option_map (λ (g : Function). subst [] g.ty.ty) o)) there
      ∙ lawful_stays [] f.ty.ty (at (λ n. IsLawfulType n f.ty.ty) no_vars (typed.lawful i f there).ty)

  -- and has a body, where the function has one
  body_there : (f.body ≡ None → ⊥) → (c : Tree Note) × ((entry_of functions cores one).body ≡ Some c)
  body_there some = go (option_map (subst_core []) (cores i)) refl
    where
      go : (o : Option (Tree Note)) → option_map (subst_core []) (cores i) ≡ o → (c : Tree Note) × (o ≡ Some c)
      go (Some c) e = (c, refl)
      go None e =
          let kept = typed.kept i f there in
          absurd (some (abstract_is functions _ kept.argument kept.result f.body (cores i) (trees i) kept.kept (core_missing [] (cores i) e)))

pub entries_run : EntriesRun
entries_run x y lawful on_heaps checked list program kept is simulated links linked from i n k f a b us m v w writes reads here there some ty reaches represents low gives =
    let functions = functions_in checked in
    let cores = core_in checked in
    let typed = source_typed checked kept in
    let r = functions_from functions i in
    let closed = closed_over x functions i r reaches in
    let d = marks_are_there (instance_mentions functions cores list) from in
    let among = reached_places functions cores (tree_in checked) typed list is x y r.among closed from i here r.here d.0 d.1 in
    let one : Instance = record { fun = User i; types = [] } in
    let e : (entry_of functions cores one).ty ≡ arrow a b = entry_type functions cores (tree_in checked) typed list is from i f here there ∙ ty in
    let c = body_there functions cores (tree_in checked) typed list is from i f here there some in
    let world = world_among (program_over x y functions cores list) among in (
      world,
      at (λ t. GivesRefined world (linked_over program links y) (function_name from) us m writes reads t w k) (ap given_by e)
          (sources_are_refined x y lawful on_heaps checked list program kept is simulated links linked among
          (reach_known functions cores (tree_in checked) typed list is x y r.among closed from i here r.here d.0 d.1) from n k one c.0 us m v w writes reads here
          (stands_reached functions cores (tree_in checked) typed list is x y r.among closed from i here r.here d.0 d.1) c.1
          (at (λ t. Represents world (heap_of m) t us v writes reads) (sym (ap taken_by e)) (represents world)) low gives),
    )
