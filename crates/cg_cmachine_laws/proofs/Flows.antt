-- What comes after what comes after.
use Rattle.std.proofs.Common.{◌≡◌, ℕ, refl}
use Rattle.cg_cmachine_def.specs.Operands.{Frame}
use Rattle.cg_cmachine_def.specs.Outcomes.{State, Outcome, done, stuck, needs, astray}
use Rattle.cg_cmachine_def.specs.Runs.{Flow, goes, back, onward}

pub onward_twice : (r : Outcome Flow) (f g : Frame → State → ℕ → Outcome Flow) → onward (onward r f) g ≡ onward r (λ fr s b. onward (f fr s b) g)
onward_twice (done (goes fr) s b) f g = refl
onward_twice (done (back us) s b) f g = refl
onward_twice (stuck w m) f g = refl
onward_twice (needs m) f g = refl
onward_twice astray f g = refl
