-- How what is met in a heap file is judged, one by one: what doesn't fit, which numbers pass their types, and which cell is aliased first
-- (docs/LANGUAGE.md, "Heap files").
use Rattle.std.specs.Prelude.{◌≡◌, ℕ, ◌≤◌, nat_eq, nat_le, Bool, true, false, ◌&&◌, ◌||◌, not, List, [], ◌∷◌, ◌++◌, slice_get, Option, Some, None, Result, Ok, Err, if◌then◌else◌}
use Rattle.std.specs.List.{list_any}
use Rattle.cg_base.specs.declared.place.Place.{Place}
use Rattle.cg_base.specs.Same.{same_type}
use Rattle.cg_base.specs.Types.{Tau}
use Rattle.cg_kinds.specs.Shapes.{shape}
use Rattle.cg_heaptext_def.specs.HeapText.{FirstOf, IsAliased, IsMisfit, Nowhere, is_written}
use Rattle.cg_heaptext_def.specs.Reading.{Event, misfit, counted, mention}
use Rattle.cg_heaptext_def.specs.Trees.{Numeral, amount}
use Rattle.cg_heaptext_places.specs.Noted.{IsLeast, noted}

-- a cell that was mentioned: the place of the sign, the address, and the type at which the cell is read
pub record Met : Type 0 where
  pub place : Place
  pub address : ℕ
  pub ty : Tau

-- what was noted of all that was met: the cells in their order, the earliest number that passes its type, and the first alias
pub record State : Type 0 where
  pub cells : List Met
  pub over : Option Place
  pub aliased : Option Place

abbrev pub start : State
start = record { cells = []; over = None; aliased = None }

-- ---- what is asked of one thing that is met

-- a type of another shape, and one with which a type makes an alias
abbrev pub unlike : Tau → Tau → Bool
unlike t s = not (same_type (shape s) (shape t))

abbrev pub shared : Tau → Tau → Bool
shared t s = is_written s || is_written t

-- the address was mentioned at a type that passes a test
abbrev pub was_met : (Tau → Bool) → List Met → ℕ → Bool
was_met test ms q = list_any (λ m. nat_eq m.address q && test m.ty) ms

-- the earlier alias, or this place where there is none and this is one
abbrev pub kept : Option Place → Bool → Place → Option Place
kept (Some found) is place = Some found
kept None true place = Some place
kept None false place = None

-- the earliest number that passes its type, with one more number
abbrev pub counting : Option Place → Numeral → ℕ → Option Place
counting over n bound = if nat_le bound (amount n) then noted over n.place else over

-- with one more cell
abbrev pub mentioning : State → Place → ℕ → Tau → State
mentioning s p q t = record { cells = s.cells ++ record { place = p; address = q; ty = t } ∷ []; over = s.over; aliased = kept s.aliased (was_met (shared t) s.cells q) p }

-- with one more thing; or it doesn't fit, and this is its place
abbrev pub judged : State → Event → Result State Place
judged s (misfit p) = Err p
judged s (counted n bound) = Ok (record { cells = s.cells; over = counting s.over n bound; aliased = s.aliased })
judged s (mention p q t) = if was_met (unlike t) s.cells q then Err p else Ok (mentioning s p q t)

-- ---- and of all

-- what follows, where nothing misfitted
abbrev pub after : Result State Place → (State → Result State Place) → Result State Place
after (Ok s) next = next s
after (Err p) next = Err p

abbrev pub run : State → List Event → Result State Place
run s [] = Ok s
run s (e ∷ es) = after (judged s e) (λ s. run s es)

-- ---- what that is to say

-- a number that passes its type stands at this place
abbrev pub IsOverIn : List Event → Place → Type 0
IsOverIn es place = (i bound : ℕ) × (n : Numeral) × (slice_get es i ≡ Some (counted n bound)) × (bound ≤ amount n) × (place ≡ n.place)

-- the first alias, or that there is none
abbrev pub IsFirstAlias : List Event → Option Place → Type 0
IsFirstAlias es None = Nowhere IsAliased es
IsFirstAlias es (Some place) = FirstOf IsAliased es place

-- the cells that are mentioned, in order
abbrev pub met_in : List Event → List Met
met_in [] = []
met_in (misfit p ∷ es) = met_in es
met_in (counted n bound ∷ es) = met_in es
met_in (mention p q t ∷ es) = record { place = p; address = q; ty = t } ∷ met_in es

-- What was noted of these things is so; or this is the place of the first that doesn't fit.
abbrev pub Judges : List Event → Result State Place → Type 0
Judges es (Ok s) = Nowhere IsMisfit es × IsLeast (IsOverIn es) s.over × IsFirstAlias es s.aliased × (s.cells ≡ met_in es)
Judges es (Err place) = FirstOf IsMisfit es place
