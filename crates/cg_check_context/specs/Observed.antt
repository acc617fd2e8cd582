-- Contexts in which a `let!` observes some variables, and again as they were.
use Rattle.std.specs.Prelude.{Bool, false, ◌||◌, Option, List, [], ◌∷◌}
use Rattle.cg_base.specs.declared.place.Place.{Place}
use Rattle.cg_check_context.specs.View.{Entry}
use Rattle.cg_check_uses.specs.Uses.{is_seen}

-- some are observed, besides those that are
abbrev pub see : List (Option Place) → List Entry → List Entry
see seen [] = []
see [] (e ∷ es) = e ∷ es
see (s ∷ seen) (e ∷ es) = record { ty = e.ty; observed = is_seen s || e.observed } ∷ see seen es

-- just these are
abbrev pub with_flags : List Bool → List Entry → List Entry
with_flags flags [] = []
with_flags [] (e ∷ es) = record { ty = e.ty; observed = false } ∷ with_flags [] es
with_flags (b ∷ flags) (e ∷ es) = record { ty = e.ty; observed = b } ∷ with_flags flags es
