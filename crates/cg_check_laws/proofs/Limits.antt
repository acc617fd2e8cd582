-- No event fails exactly where every rule holds and no type passes the limit.
use Rattle.std.proofs.Common.{◌≡◌, true, false, None, List, [], ◌∷◌, refl}
use Rattle.cg_faults.specs.Events.{Event, event, RulesHold, LimitsHold, first_failing, kernel_events}
use Rattle.cg_check_laws.specs.Laws.{AcceptedWithinLimits}
use Rattle.cg_faults.specs.Rule.{rule, type_limit}
use Rattle.cg_check_laws.proofs.Main.{kernels}

all_hold : (xs : List Event) → first_failing xs ≡ None → RulesHold xs × LimitsHold xs
all_hold [] e = (tt, tt)
all_hold (event (rule r) p true ∷ xs) e = let h = all_hold xs e in ((refl, h.0), (tt, h.1))
all_hold (event type_limit p true ∷ xs) e = let h = all_hold xs e in ((tt, h.0), (refl, h.1))
all_hold (event test p false ∷ xs) e = absurd (cc)

none_fails : (xs : List Event) → RulesHold xs → LimitsHold xs → first_failing xs ≡ None
none_fails [] h k = refl
none_fails (event test p true ∷ xs) h k = none_fails xs h.1 k.1
none_fails (event (rule r) p false ∷ xs) h k = absurd (let z = h.0 in cc)
none_fails (event type_limit p false ∷ xs) h k = absurd (let z = k.0 in cc)

pub within_limits : AcceptedWithinLimits
within_limits functions lawful = (
  λ e. let h = all_hold (kernel_events functions) e in ((kernels functions lawful).0 h.0, h.1),
  λ h. none_fails (kernel_events functions) ((kernels functions lawful).1 h.0) h.1,
)
