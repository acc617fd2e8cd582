-- Evaluation over the copies of a source's list of instances: alike with any fuel, and so are calls.
use Rattle.std.proofs.Common.{ℕ, zero, suc, Option, List, map, subst as at}
use Rattle.std.proofs.lemmas.Grind.{not_there}
use Rattle.std.proofs.Math.Logic.{∥∥₁_elim}
use Rattle.std.proofs.Props.{props}
use Rattle.std.specs.Option.{option_map}
use Rattle.cg_base.specs.declared.fun.Fun.TheVariants.{User}
use Rattle.cg_base.specs.Types.{Tau}
use Rattle.cg_core.specs.Derivations.{Derivation}
use Rattle.cg_core.specs.Kernels.{Function}
use Rattle.cg_core.specs.Terms.{term}
use Rattle.cg_eval_def.specs.Evaluation.{Outcome, spent, stuck, gives, evaluate, outcome, with_fuel}
use Rattle.cg_eval_def.specs.Foreigns.{table_of}
use Rattle.cg_inst.specs.Judged.{core_in, functions_in}
use Rattle.cg_inst.specs.Lists.{Cores, IsList}
use Rattle.cg_inst_laws.specs.Laws.{place_in}
use Rattle.cg_kinds.specs.Kinds.{subst}
use Rattle.cg_typing.specs.declared.checked.Checked.{Checked}
use Rattle.cg_typing.specs.Holds.{cores_in, trees_in}
use Rattle.cg_typing.specs.Instances.{Instance, MentionsOnly}
use Rattle.cg_typing.specs.Kept.{AreKept, maybe_core, maybe_tree}
use Rattle.cg_typing.specs.Subst.{subst_core}
use Rattle.cg_value.specs.Fits.{World}
use Rattle.cg_value.specs.Foreign.{Foreign, IsLawful}
use Rattle.cg_mono_laws.specs.Laws.{EvaluationIsKept, IsFitting, world_over}
use Rattle.cg_eval_laws.proofs.Calls.{AreTyped}
use Rattle.cg_eval_laws.proofs.Soundness.{source_typed}
use Rattle.cg_inst_laws.proofs.Bodies.{tree_in}
use Rattle.cg_inst_laws.proofs.Entries.{mentions_only}
use Rattle.cg_inst_laws.proofs.Growth.{mentions_stay}
use Rattle.cg_inst_laws.proofs.Sources.{instances_are_good}
use Rattle.cg_mono_laws.proofs.Calls.{AreFine, K, T, W, calls_alike, mentions_fit}
use Rattle.cg_mono_laws.proofs.Listed.{found_at_place}
use Rattle.cg_mono_laws.proofs.Nodes.{AlikeCalls, AlikeRuns, node_alike}
use Rattle.cg_mono_laws.proofs.Outcomes.{AreAlike, pay_alike, spent_alike}
use Rattle.cg_mono_laws.proofs.Same.{never_other}

-- ---- any functions that are typed, with a list of instances that is fine

module _ (x : Foreign) (functions : List Function) (core : Cores) (list : List Instance) (tree : ℕ → Option Derivation) (typed : AreTyped functions core tree) (fine : AreFine functions core list)
    (lawful : IsLawful x) where
  -- evaluation with any fuel
  fuel_alike : (fuel : ℕ) → AlikeRuns functions list (W x functions core list) (with_fuel (T x functions core list) fuel) (with_fuel (K x functions core list) fuel)
  unfolding with_fuel
  fuel_alike zero vars given are shut g vs fit d direction c h r left = spent_alike (W x functions core list) _
  fuel_alike (suc fuel) vars given are shut g vs fit d direction (term note s) h r left =
      let source = with_fuel (T x functions core list) fuel in let copies = with_fuel (K x functions core list) fuel in let runs = fuel_alike fuel in
      pay_alike (W x functions core list) (subst given note.ty) left _ _ (λ rest.
      node_alike functions list (W x functions core list) (T x functions core list) (K x functions core list) (mentions_fit x functions core list tree typed fine) source copies runs
      (calls_alike x functions core list tree typed fine lawful source copies runs) vars given are shut s note g vs fit d direction h r rest)

  -- evaluation, whose fuel is its budget
  evaluation_alike : AlikeRuns functions list (W x functions core list) (evaluate (T x functions core list)) (evaluate (K x functions core list))
  unfolding evaluate
  evaluation_alike vars given are shut g vs fit d direction c h r left = fuel_alike left vars given are shut g vs fit d direction c h r left

  -- and calls over it
  evaluated_calls_alike : AlikeCalls functions list (W x functions core list) (T x functions core list) (K x functions core list) (evaluate (T x functions core list)) (evaluate (K x functions core list))
  evaluated_calls_alike = calls_alike x functions core list tree typed fine lawful (evaluate (T x functions core list)) (evaluate (K x functions core list)) evaluation_alike

-- ---- a checked source

-- the list of a source is fine
source_fine : (checked : Checked) (list : List Instance) → IsList (functions_in checked) (core_in checked) list → AreFine (functions_in checked) (core_in checked) list
source_fine checked list is = record {
  good = λ f types h. let one : Instance = record { fun = f; types = types } in instances_are_good checked list is (place_in list one) one (found_at_place list one h);
  heard = λ i types c h e.
      let functions = functions_in checked in let core = core_in checked in let one : Instance = record { fun = User i; types = types } in
      let there = found_at_place list one h in let g = instances_are_good checked list is (place_in list one) one there in
      let heard = mentions_only list types g.closed (core i) (mentions_stay functions core list is (place_in list one) one there) in record {
        all = at (λ o. MentionsOnly list (option_map (subst_core types) o)) e heard;
      };
}

-- there is one proof at most that a value fits, if one is given
fitting_once : (world : World) (t : Tau) (o : Outcome) → IsProp (IsFitting world t o)
fitting_once world t spent = hlevel props
fitting_once world t stuck = hlevel props
fitting_once world t (gives v left) = hlevel props

-- the law
pub evaluation_is_kept : EvaluationIsKept
evaluation_is_kept x lawful checked list is a b f v n h k = record {
  same = never_other _ _ (λ no. not_there checked.kept (λ kept. no (alike kept).same));
  fits = ∥∥₁_elim checked.kept (fitting_once (world_over x (functions_in checked) list) b (outcome (table_of x checked) n f v)) (λ kept. (alike kept).fits);
}
  where
    alike : AreKept (functions_in checked) (functions_in checked) (map maybe_core (cores_in checked)) (map maybe_tree (trees_in checked))
        → AreAlike (world_over x (functions_in checked) list) b (outcome (T x (functions_in checked) (core_in checked) list) n f v) (outcome (K x (functions_in checked) (core_in checked) list) n f v)
    alike kept =
        evaluated_calls_alike x (functions_in checked) (core_in checked) list (tree_in checked) (source_typed checked kept) (source_fine checked list is) lawful a b f v n h k
