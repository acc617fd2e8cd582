-- Observed variables by position.
use Rattle.std.proofs.Common.{◌≡◌, ◌<◌, ◌≤◌, ℕ, zero, suc, false, Option, List, [], ◌∷◌, length, get_or, refl, arith}
use Rattle.cg_base.specs.declared.place.Place.{Place}
use Rattle.cg_check_pieces.specs.View.{is_seen_at}
use Rattle.cg_check_uses.specs.Uses.{is_seen}

pub seen_get : (ss : List (Option Place)) (i : ℕ) (d : Option Place) → i < length ss → is_seen_at ss i ≡ is_seen (get_or ss i d)
seen_get [] i d h = absurd (omega (arith, h))
seen_get (s ∷ ss) zero d h = refl
seen_get (s ∷ ss) (suc i) d h = seen_get ss i d (omega (arith, h))

pub seen_past : (ss : List (Option Place)) (i : ℕ) → length ss ≤ i → is_seen_at ss i ≡ false
seen_past [] i h = refl
seen_past (s ∷ ss) zero h = absurd (omega (arith, h))
seen_past (s ∷ ss) (suc i) h = seen_past ss i (omega (arith, h))

pub ruleset seen_steps = (seen_get, seen_past)
