-- The laws of the C of sources.
use Rattle.std.proofs.Common.{List, [], ◌∷◌, map}
use Rattle.std.proofs.Math.Logic.{∥∥₁_elim, ∥∥₁_map}
use Rattle.cg_lower.specs.Collected.{Copy}
use Rattle.cg_heap.specs.declared.foreign.Link.{Link}
use Rattle.cg_heap.specs.ForeignHeaps.{ForeignHeap}
use Rattle.cg_heap.specs.NoForeignHeap.{no_foreign_heap}
use Rattle.cg_inst.specs.Judged.{core_in, functions_in}
use Rattle.cg_inst.specs.Lists.{IsList}
use Rattle.cg_inst_laws.proofs.Bodies.{AreTyped, source_typed, tree_in}
use Rattle.cg_inst_laws.proofs.Each.{Each}
use Rattle.cg_inst_laws.proofs.Entries.{list_derived, list_good}
use Rattle.cg_inst_laws.proofs.Sources.{instances_are_good}
use Rattle.cg_inst_laws.specs.Laws.{entry_of}
use Rattle.cg_lower.specs.Promises.{IsProgramOf}
use Rattle.cg_typing.specs.declared.checked.Checked.{Checked}
use Rattle.cg_typing.specs.Holds.{cores_in, trees_in}
use Rattle.cg_typing.specs.Instances.{AreInstances, Instance}
use Rattle.cg_typing.specs.Kept.{AreKept, maybe_core, maybe_tree}
use Rattle.cg_value.specs.Foreign.{Foreign}
use Rattle.cg_value.specs.NoForeign.{no_foreign}
use Rattle.cg_driver_laws.specs.Laws.{AreLinked, FunctionsStand, SourcesArePrograms, SourcesPrint, copies_in, program_over}
use Rattle.cg_driver_laws.proofs.Depths.{are_shallow}
use Rattle.cg_driver_laws.proofs.Fronts.{user_in}
use Rattle.cg_driver_laws.proofs.Instances.{IsFine, IsProperEntry, entry_proper, list_fine}
use Rattle.cg_driver_laws.proofs.Printed.{printable_once}
use Rattle.cg_driver_laws.proofs.Programs.{is_program, none_are_linked}
use Rattle.cg_driver_laws.proofs.Structs.{have_fields}

module _ (checked : Checked) (list : List Instance) (is : IsList (functions_in checked) (core_in checked) list) where
  -- what is kept of the source
  abbrev pub Kept : Type 0
  Kept = AreKept (functions_in checked) (functions_in checked) (map maybe_core (cores_in checked)) (map maybe_tree (trees_in checked))

  module _ (kept : Kept) where
    typed : AreTyped (functions_in checked) (core_in checked) (tree_in checked)
    typed = source_typed checked kept

    pub instances : AreInstances (functions_in checked) list (map (entry_of (functions_in checked) (core_in checked)) list)
    instances = list_derived (functions_in checked) (core_in checked) (tree_in checked) typed list is

    -- over any table
    pub program_is : (x : Foreign) (y : ForeignHeap) (links : List Link) → AreLinked x (functions_in checked) list links
        → IsProgramOf (program_over x y (functions_in checked) (core_in checked) list) links (copies_in checked list)
    program_is x y links linked = is_program (functions_in checked) (core_in checked) x y (tree_in checked) typed list links linked instances (instances_are_good checked list is)

    -- and over none
    alone_is : IsProgramOf (program_over no_foreign no_foreign_heap (functions_in checked) (core_in checked) list) [] (copies_in checked list)
    alone_is = program_is no_foreign no_foreign_heap [] (none_are_linked (functions_in checked) list)

    -- the copies have proper types
    copies_proper : Each (λ (c : Copy). IsProperEntry c.1) (copies_in checked list)
    copies_proper = each_copy list (list_fine (functions_in checked) (core_in checked) (tree_in checked) typed list is)
      where
        each_copy : (xs : List Instance) → Each (IsFine (functions_in checked) (core_in checked) (tree_in checked) typed) xs → Each (λ (c : Copy). IsProperEntry c.1) (copies_in checked xs)
        each_copy [] h = tt
        each_copy (x ∷ xs) h = (entry_proper (functions_in checked) (core_in checked) (tree_in checked) typed x h.0, each_copy xs h.1)

pub functions_stand : FunctionsStand
functions_stand checked list is i f there none = user_in (functions_in checked) (core_in checked) list is i f there none

pub sources_print : SourcesPrint
sources_print checked list program is shallow printed =
    ∥∥₁_elim checked.kept (printable_once program) (λ kept.
    let good = list_good (functions_in checked) (core_in checked) (tree_in checked) (typed checked list is kept) list is in
    printed (program_over no_foreign no_foreign_heap (functions_in checked) (core_in checked) list) [] (alone_is checked list is kept) (have_fields (copies_in checked list) (copies_proper checked list is kept))
    (are_shallow (functions_in checked) (core_in checked) (tree_in checked) (typed checked list is kept) list good shallow))

pub sources_are_programs : SourcesArePrograms
sources_are_programs x y checked list links is linked = ∥∥₁_map checked.kept (λ kept. program_is checked list is kept x y links linked)
