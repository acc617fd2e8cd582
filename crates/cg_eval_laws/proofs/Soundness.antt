-- Type soundness: evaluation of what is typed is sound with any fuel, and so are calls in a checked source.
use Rattle.std.proofs.Common.{◌≡◌, ℕ, zero, suc, Bool, IsTrue, Option, Some, List, [], length, map, refl, ap, ◌∙◌, eq-eqb, subst as at}
use Rattle.std.proofs.Math.Logic.{∥∥₁_elim}
use Rattle.std.proofs.Props.{props}
use Rattle.std.specs.Option.{option_map}
use Rattle.std.specs.Prelude.{slice_get}
use Rattle.cg_base.specs.declared.fun.Fun.TheVariants.{User}
use Rattle.cg_base.specs.Types.{Tau}
use Rattle.cg_core.specs.Derivations.{Derivation}
use Rattle.cg_core.specs.Kernels.{Function, kernel_of}
use Rattle.cg_core.specs.Terms.{Note, Tree, term}
use Rattle.cg_eval_def.specs.Evaluation.{Outcome, spent, stuck, gives, evaluate, outcome, with_fuel}
use Rattle.cg_eval_def.specs.Foreigns.{IsClosed, table_of, table_over, world_of}
use Rattle.cg_typing.specs.Functions.{has_vars}
use Rattle.cg_kinds.specs.Kinds.{subst}
use Rattle.cg_core_def.specs.Lawful.{IsLawfulFunction, IsLawfulType}
use Rattle.cg_typing.specs.declared.checked.Checked.{Checked}
use Rattle.cg_typing.specs.Holds.{cores_in, kept_at, kernel_in, trees_in}
use Rattle.cg_typing.specs.Kept.{AreKept, maybe_core, maybe_tree}
use Rattle.cg_value.specs.Fits.{World, fits}
use Rattle.cg_value.specs.Foreign.{Foreign, IsLawful}
use Rattle.cg_value.specs.Values.{function}
use Rattle.cg_eval_laws.specs.Laws.{CallsAreSound, FunctionsFit, IsSound}
use Rattle.cg_eval_laws.proofs.Calls.{AreTyped, calls_sound, mentions_fit}
use Rattle.cg_inst_laws.proofs.Closed.{lawful_stays}
use Rattle.cg_eval_laws.proofs.Nodes.{CallsSound, SoundRun, node_sound}
use Rattle.cg_eval_laws.proofs.Outcomes.{pay_sound}
use Rattle.cg_eval_laws.proofs.Reached.{arities}
use Rattle.cg_inst_laws.proofs.Bodies.{kept_of, one_of_all}

-- ---- any functions that are typed

module _ (x : Foreign) (functions : List Function) (among : ℕ → Bool) (core : ℕ → Option (Tree Note)) (tree : ℕ → Option Derivation)
    (typed : AreTyped functions core tree) (lawful : IsLawful x) (closed : IsClosed x functions among) where
  abbrev W : World
  W = world_of x functions among

  -- evaluation with any fuel
  pub fuel_sound : (fuel : ℕ) → SoundRun functions among W (with_fuel (table_over x functions core) fuel)
  unfolding with_fuel
  fuel_sound zero vars given fine shut g vs fit d direction c h r left = tt
  fuel_sound (suc fuel) vars given fine shut g vs fit d direction (term note s) h r left =
      let run = with_fuel (table_over x functions core) fuel in let sound = fuel_sound fuel in
      pay_sound W (subst given note.ty) left _ (λ rest. node_sound functions among W (table_over x functions core) (mentions_fit x functions among core tree typed) run sound
      (calls_sound x functions among core tree typed lawful closed run sound) vars given fine shut s note g vs fit d direction h r rest)

  pub evaluation_sound : SoundRun functions among W (evaluate (table_over x functions core))
  unfolding evaluate
  evaluation_sound vars given fine shut g vs fit d direction c h r left = fuel_sound left vars given fine shut g vs fit d direction c h r left

  pub evaluated_calls_sound : CallsSound functions among W (table_over x functions core) (evaluate (table_over x functions core))
  evaluated_calls_sound = calls_sound x functions among core tree typed lawful closed (evaluate (table_over x functions core)) evaluation_sound

-- ---- a checked source

-- the functions of a checked source are typed
pub source_typed : (checked : Checked)
    → AreKept (kernel_of (kernel_in checked)) (kernel_of (kernel_in checked)) (map maybe_core (cores_in checked)) (map maybe_tree (trees_in checked))
    → AreTyped (kernel_of (kernel_in checked)) (λ i. maybe_core (kept_at (cores_in checked) i)) (λ i. maybe_tree (kept_at (trees_in checked) i))
source_typed checked k =
    let functions = kernel_of (kernel_in checked) in record {
      kept = λ i f e. kept_of functions functions (cores_in checked) (trees_in checked) i f k e;
      lawful = λ i f e. one_of_all (IsLawfulFunction (arities functions)) functions i f checked.lawful.functions_stand e;
    }

-- there is one proof at most that an outcome is sound
sound_once : (world : World) (t : Tau) (o : Outcome) → IsProp (IsSound world t o)
sound_once world t spent = hlevel props
sound_once world t stuck = hlevel props
sound_once world t (gives v left) = hlevel props

pub calls_are_sound : CallsAreSound
calls_are_sound x lawful checked among closed a b f v n h k =
    let functions = kernel_of (kernel_in checked) in
    ∥∥₁_elim checked.kept (sound_once (world_of x functions among) b (outcome (table_of x checked) n f v))
    (λ kept. evaluated_calls_sound x functions among (λ i. maybe_core (kept_at (cores_in checked) i)) (λ i. maybe_tree (kept_at (trees_in checked) i)) (source_typed checked kept) lawful closed a b f v n h k)

-- a function without type variables, in a source that is typed
pub typed_function_fits : (x : Foreign) (functions : List Function) (among : ℕ → Bool) (core : ℕ → Option (Tree Note)) (tree : ℕ → Option Derivation) → AreTyped functions core tree
    → (i : ℕ) (f : Function) → slice_get functions i ≡ Some f → IsTrue (among i) → f.vars ≡ [] → IsTrue (fits (world_of x functions among) f.ty.ty (function (User i) []))
typed_function_fits x functions among core tree typed i f e m none =
    mentions_fit x functions among core tree typed (User i) [] f.ty.ty (record {
      many = ap (λ o. has_vars o 0) e ∙ eq-eqb (length f.vars) 0 (ap length none);
      closed = refl;
      good = refl;
      is = ap (option_map (λ (g : Function). subst [] g.ty.ty)) e ∙ ap Some (lawful_stays [] f.ty.ty (at (λ vars. IsLawfulType (length vars) f.ty.ty) none (typed.lawful i f e).ty));
    }) m

pub functions_fit : FunctionsFit
functions_fit x checked among i f e m none =
    let functions = kernel_of (kernel_in checked) in
    ∥∥₁_elim checked.kept (fits_once (fits (world_of x functions among) f.ty.ty (function (User i) [])))
    (λ kept. typed_function_fits x functions among (λ i. maybe_core (kept_at (cores_in checked) i)) (λ i. maybe_tree (kept_at (trees_in checked) i)) (source_typed checked kept) i f e m none)
  where
    fits_once : (b : Bool) → IsProp (IsTrue b)
    fits_once b = hlevel props
