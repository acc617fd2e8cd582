-- What a search for faults of names answers.
use Rattle.std.specs.Prelude.{◌≡◌, List, [], ◌∷◌, Result, Ok, Err, ⊤}
use Rattle.cg_resolve_def.specs.Faults.{NameFault, unknown, twice, arguments}
use Rattle.cg_resolve_names.specs.declared.fault.NamingFault.{NamingFault}
use Rattle.cg_resolve_names.specs.declared.fault.NamingFault.TheVariants.{N1, N2, N4, Memory}

-- this name fault is the first
abbrev pub IsFirst : NameFault → List NameFault → Type 0
IsFirst fault [] = ⊥
IsFirst fault (first ∷ later) = first ≡ fault

-- this fault is the first of these
abbrev pub IsFirstFault : List NameFault → NamingFault → Type 0
IsFirstFault faults (N1 p) = IsFirst (unknown p) faults
IsFirstFault faults (N2 p) = IsFirst (twice p) faults
IsFirstFault faults (N4 p) = IsFirst (arguments p) faults
IsFirstFault faults Memory = ⊤

-- these are the faults: there is none, or this one is the first
abbrev pub Says : {T : Type 0} → List NameFault → Result T NamingFault → Type 0
Says faults (Ok done) = faults ≡ []
Says faults (Err fault) = IsFirstFault faults fault

-- what a search answers that goes on over these: the fault that it has found before, or else what these say
abbrev pub GoesOn : Result ⊤ NamingFault → List NameFault → Result ⊤ NamingFault → Type 0
GoesOn (Ok done) faults result = Says faults result
GoesOn (Err fault) faults result = result ≡ Err fault
