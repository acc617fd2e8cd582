-- Evaluation of an entry is never stuck.
use Rattle.std.proofs.Common.{◌≡◌, ℕ, IsTrue, List, [], refl, subst}
use Rattle.cg_base.specs.declared.fun.Fun.TheVariants.{User}
use Rattle.cg_base.specs.Types.{Tau}
use Rattle.cg_core.specs.Kernels.{Function}
use Rattle.cg_driver_entry.proofs.Closed.{AreFrom, functions_from}
use Rattle.cg_eval_laws.proofs.Soundness.{calls_are_sound, functions_fit}
use Rattle.cg_eval_laws.proofs.Widening.{fits_wider}
use Rattle.cg_eval_laws.specs.Laws.{IsSound}
use Rattle.cg_inst.proofs.Names.{by_cases}
use Rattle.cg_inst.specs.Judged.{functions_in}
use Rattle.cg_eval_def.specs.Evaluation.{Outcome, outcome, stuck}
use Rattle.cg_eval_def.specs.Foreigns.{IsClosed, is_known, table_of, world_of}
use Rattle.cg_value.specs.Fits.{World, fits}
use Rattle.cg_value.specs.Foreign.{Foreign, first_order}
use Rattle.cg_value.specs.Values.{function}
use Rattle.cg_driver_laws.specs.Laws.{EntriesAreSound, ReachesUnknown}

-- the functions that are reached from one, where the table knows the abstract ones
pub closed_over : (x : Foreign) (functions : List Function) (at : ℕ) (r : AreFrom functions at) → (ReachesUnknown x functions at → ⊥) → IsClosed x functions r.among
closed_over x functions at r not = record {
  mentions = r.mentions;
  known = λ i f e among none. by_cases (λ b. IsTrue b) (is_known x f) (λ q. refl)
      (λ q. absurd (not (record { abstract = record { place = i; function = f; stands = e; abstract = none; reached = r.reached i f e among }; unknown = q })));
}

-- what is sound is not stuck
not_stuck : (world : World) (t : Tau) (o : Outcome) → IsSound world t o → o ≡ stuck → ⊥
not_stuck world t o sound e = subst (IsSound world t) e sound

pub entries_are_sound : EntriesAreSound
entries_are_sound x lawful checked i n f a b v there none is reaches fitting e =
    let functions = functions_in checked in
    let r = functions_from functions i in
    let world = world_of x functions r.among in
    not_stuck world b (outcome (table_of x checked) n (function (User i) []) v)
    (calls_are_sound x lawful checked r.among (closed_over x functions i r reaches) a b (function (User i) []) v n
    (subst (λ t. IsTrue (fits world t (function (User i) []))) is (functions_fit x checked r.among i f there r.here none))
    (fits_wider (first_order x) world refl (λ g types t h. absurd (cc)) a v fitting))
    e
