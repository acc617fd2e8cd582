use Rattle.std.proofs.Common.{◌≡◌, drop}
use Rattle.cg_check_uses.specs.Noted.{over}
use Rattle.cg_check_uses.specs.Uses.{seen_at, seen_places}
use Rattle.cg_check_uses.proofs.uses.seen_places.Given as goal

abbrev pub invariant-loop-observer : goal.invariant-loop-observer
invariant-loop-observer l = over l.seen.items (λ i. seen_at i (drop l.observer-index l.observer-items)) ≡ seen_places l.count l.observers
