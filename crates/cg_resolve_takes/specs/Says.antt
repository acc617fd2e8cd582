-- What a search for fields that are taken where they aren't answers.
use Rattle.std.specs.Prelude.{◌≡◌, ℕ, List, [], ◌∷◌, Option, Result, Ok, Err, IsOkAnd, ⊤}
use Rattle.std.specs.Option.{option_map}
use Rattle.cg_base.specs.declared.place.Place.{Place}
use Rattle.cg_resolve_takes.specs.Heads.{chosen}
use Rattle.cg_resolve_takes.specs.Views.{test_of}
use Rattle.cg_resolve_takes.specs.declared.head.Fields.{Fields}
use Rattle.cg_resolve_takes.specs.declared.fault.TakeFault.{TakeFault}
use Rattle.cg_resolve_takes.specs.declared.fault.TakeFault.TheVariants.{N5, Memory}

-- this place is the first
abbrev pub IsFirst : Place → List Place → Type 0
IsFirst p [] = ⊥
IsFirst p (first ∷ later) = first ≡ p

-- this fault is the first of those at these places
abbrev pub IsFirstFault : List Place → TakeFault → Type 0
IsFirstFault places (N5 p) = IsFirst p places
IsFirstFault places Memory = ⊤

-- these are the places: there is none, or this one is the first
abbrev pub TakesSay : {T : Type 0} → List Place → Result T TakeFault → Type 0
TakesSay places (Ok done) = places ≡ []
TakesSay places (Err fault) = IsFirstFault places fault

-- what a search answers that goes on over these places: the fault that it has found before, or else what these say
abbrev pub GoesOn : {T : Type 0} → Result ⊤ TakeFault → List Place → Result T TakeFault → Type 0
GoesOn (Ok done) places result = TakesSay places result
GoesOn (Err fault) places result = result ≡ Err fault

-- the same where the places are told by what was found before
abbrev pub GoesFrom : {A T : Type 0} → Result A TakeFault → (A → List Place) → Result T TakeFault → Type 0
GoesFrom (Ok found) places result = TakesSay (places found) result
GoesFrom (Err fault) places result = result ≡ Err fault

-- the fault that was found, if there is one
abbrev pub told : {T : Type 0} → Result T TakeFault → Result ⊤ TakeFault
told (Ok found) = Ok tt
told (Err fault) = Err fault

-- the fields at a position, where it is the one that is wanted, else those before; or the fault of either
abbrev pub IsChosen : Option ℕ → ℕ → Result (Option Fields) TakeFault → Result (Option Fields) TakeFault → Result (Option Fields) TakeFault → Type 0
IsChosen wanted position before (Err fault) result = result ≡ Err fault
IsChosen wanted position (Err fault) (Ok here) result = ⊤
IsChosen wanted position (Ok before) (Ok here) result = IsOkAnd result (λ fields. option_map test_of fields ≡ chosen wanted position (option_map test_of before) (option_map test_of here))
