-- The copies of the instances of a source are those of a program over any table.
use Rattle.std.proofs.Common.{◌≡◌, ℕ, true, Option, Some, None, List, [], ◌∷◌, map, slice_get, refl, sym, ap, ◌∙◌}
use Rattle.std.proofs.lemmas.Bool.{and_parts}
use Rattle.std.proofs.lemmas.Option.{slice_get-map}
use Rattle.std.specs.Option.{option_map}
use Rattle.cg_base.specs.declared.fun.Fun.TheVariants.{User}
use Rattle.cg_base.specs.declared.kind.Kinds.{Kinds}
use Rattle.cg_base.specs.Types.{Tau}
use Rattle.cg_cgen_def.specs.Names.{function_name}
use Rattle.cg_cmachine_def.specs.Runs.{linked_to}
use Rattle.cg_core.specs.Derivations.{Derivation}
use Rattle.cg_core.specs.Terms.{Note, Tree}
use Rattle.cg_ctree.specs.Trees.{Program as CText}
use Rattle.cg_heap.specs.declared.foreign.Link.{Link}
use Rattle.cg_heap.specs.ForeignHeaps.{ForeignHeap}
use Rattle.cg_heap.specs.NoForeignHeap.{no_foreign_heap}
use Rattle.cg_lower.specs.Collected.{entries_of, list_of}
use Rattle.cg_core.specs.Kernels.{Body, Function}
use Rattle.cg_inst.specs.Lists.{Cores, core_of}
use Rattle.cg_inst_laws.proofs.Bodies.{AreTyped}
use Rattle.cg_inst_laws.specs.Laws.{entry_of}
use Rattle.cg_lower.specs.Promises.{IsProgramOf}
use Rattle.cg_eval_def.specs.Foreigns.{is_empty, is_known}
use Rattle.cg_typing.specs.Instances.{AreInstances, Entry, Instance, IsGood}
use Rattle.cg_typing.specs.Kept.{IsKeptMaybe}
use Rattle.cg_typing.specs.Subst.{subst_core}
use Rattle.cg_value.specs.Foreign.{Foreign}
use Rattle.cg_value.specs.NoForeign.{no_foreign}
use Rattle.cg_driver_laws.specs.Laws.{AreLinked, NoneAreLinked, copies_over, linked_over, program_over}
use Rattle.cg_base.proofs.Counts.{no_steps as never}

-- what knows no function knows none of the source
none_known : (f : Function) → is_known no_foreign f ≡ true → ⊥
none_known f h = never (and_parts (is_empty f.vars) _ h).1

-- so none has to be linked
pub none_are_linked : NoneAreLinked
none_are_linked functions list k i types f here there abstract known = absurd (none_known f known)

-- and a program that is linked to no table is the program alone: of it nothing is asked
pub alone : (program : CText) → linked_over program [] no_foreign_heap ≡ record { program = program; links = []; asked = λ name us m. None }
alone program = refl

-- a function whose core isn't there has no body
pub abstract_is : (functions : List Function) (vars : List Kinds) (a b : Tau) (body : Option Body) (core : Option (Tree Note)) (tree : Option Derivation)
    → IsKeptMaybe functions vars a b body core tree → core ≡ None → body ≡ None
abstract_is functions vars a b None core tree k e = refl
abstract_is functions vars a b (Some body) None tree k e = absurd k
abstract_is functions vars a b (Some body) (Some c) tree k e = absurd (cc)

-- nor has one whose instance has none
pub core_missing : (types : List Tau) (core : Option (Tree Note)) → option_map (subst_core types) core ≡ None → core ≡ None
core_missing types None e = refl
core_missing types (Some c) e = absurd (cc)

module _ (functions : List Function) (cores : Cores) where
  pub list_same : (list : List Instance) → list ≡ list_of (copies_over functions cores list)
  list_same [] = refl
  list_same (x ∷ list) = ap (λ xs. x ∷ xs) (list_same list)

  entries_same : (list : List Instance) → map (entry_of functions cores) list ≡ entries_of (copies_over functions cores list)
  entries_same [] = refl
  entries_same (x ∷ list) = ap (λ es. entry_of functions cores x ∷ es) (entries_same list)

  module _ (x : Foreign) (y : ForeignHeap) (trees : ℕ → Option Derivation) (typed : AreTyped functions cores trees) (list : List Instance) (links : List Link) (linked : AreLinked x functions list links) where
    -- an abstract function of the list that the table knows is linked
    is_linked : (k i : ℕ) (z : Instance) (f : Function) → slice_get list k ≡ Some z → (entry_of functions cores z).body ≡ None → z.fun ≡ User i → slice_get functions i ≡ Some f
        → is_known x f ≡ true → linked_to (function_name k) links ≡ Some f.at.name
    is_linked k i z f here missing is there known =
        linked k i z.types f (here ∙ ap (λ g. Some (record { fun = g; types = z.types })) is) there
        (let kept = typed.kept i f there in abstract_is functions _ kept.argument kept.result f.body (cores i) (trees i) kept.kept
        (core_missing z.types (cores i) (sym (ap (λ g. option_map (subst_core z.types) (core_of cores g)) is) ∙ missing))) known

    pub is_program : AreInstances functions list (map (entry_of functions cores) list) → ((k : ℕ) (z : Instance) → slice_get list k ≡ Some z → IsGood functions z)
        → IsProgramOf (program_over x y functions cores list) links (copies_over functions cores list)
    is_program instances good = record {
      list = list_same list;
      entries = entries_same list;
      instances = instances;
      good = good;
      linked = λ k i z e f here there is missing at known.
          is_linked k i z f here (ap (λ (e : Entry). e.body) (entry_there k z e here there) ∙ missing) is at known;
    }
      where
        entry_there : (k : ℕ) (z : Instance) (e : Entry) → slice_get list k ≡ Some z → slice_get (map (entry_of functions cores) list) k ≡ Some e → entry_of functions cores z ≡ e
        entry_there k z e here there = let q : Some (entry_of functions cores z) ≡ Some e = sym (slice_get-map (entry_of functions cores) list k ∙ ap (option_map (entry_of functions cores)) here) ∙ there in cc
