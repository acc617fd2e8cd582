-- What type variables, directions, terms and observers stand for.
use Rattle.std.specs.Prelude.{ℕ, zero, suc, Bool, false, Option, List, [], ◌∷◌, map}
use Rattle.std.specs.Option.{option_map}
use Rattle.cg_base.specs.declared.kind.Bound.{Bound}
use Rattle.cg_base.specs.declared.kind.Kinds.{Kinds}
use Rattle.cg_base.specs.declared.place.Place.{Place}
use Rattle.cg_base.specs.declared.ty.Ty.{Ty}
use Rattle.cg_base.specs.Types.{Tau, type_of}
use Rattle.cg_core.specs.Terms.{Tree, term, Shape}
use Rattle.cg_check_uses.specs.Uses.{is_seen}

-- the kinds of type variables
abbrev pub bounds_of : List Bound → List Kinds
bounds_of = map (λ (b : Bound). b.kinds)

-- a direction
abbrev pub way_of : Option Ty → Option Tau
way_of = option_map type_of

-- what a term is made of
abbrev pub shape_at : {A : Type 0} → Tree A → Shape A
shape_at (term a shape) = shape

-- whether a `let!` observes a variable, of which observers were listed by position
abbrev pub is_seen_at : List (Option Place) → ℕ → Bool
is_seen_at [] i = false
is_seen_at (s ∷ seen) zero = is_seen s
is_seen_at (s ∷ seen) (suc i) = is_seen_at seen i
