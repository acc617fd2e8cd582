-- How observers are noted in a table, one after another.
use Rattle.std.specs.Prelude.{ℕ, suc, Option, List, [], ◌∷◌}
use Rattle.cg_base.specs.declared.place.Place.{Place}
use Rattle.cg_core.specs.declared.term.Seen.{Seen}
use Rattle.cg_check_uses.specs.Uses.{first_of, seen_at}

-- each entry, or else what a list of observers says of its variable
abbrev pub over : List (Option Place) → (ℕ → Option Place) → List (Option Place)
over [] added = []
over (p ∷ ps) added = first_of p (added 0) ∷ over ps (λ i. added (suc i))

-- with one observer more
abbrev pub noted : List (Option Place) → Seen → List (Option Place)
noted seen o = over seen (λ i. seen_at i (o ∷ []))
