-- Lists of types in a table: a list stands there as the arguments of an abstract type without a name, which no source writes.
use Rattle.std.specs.Prelude.{◌≡◌, ℕ, List, [], Option, Some, slice_get}
use Rattle.cg_base.specs.declared.kind.Sigil.TheVariants.{U}
use Rattle.cg_base.specs.Types.{Tau, abs, to_taus, tau_list}

abbrev pub listing : List Tau → Tau
listing ts = abs [] (to_taus ts) U

-- the list that a type stands for
abbrev pub list_of : Option Tau → List Tau
list_of (Some (abs name ts sigil)) = tau_list ts
list_of _ = []

-- the list that stands at a place
abbrev pub list_at : List Tau → ℕ → List Tau
list_at types at = list_of (slice_get types at)

-- a list stands at a place
abbrev pub IsListing : List Tau → ℕ → Type 0
IsListing types at = slice_get types at ≡ Some (listing (list_at types at))
