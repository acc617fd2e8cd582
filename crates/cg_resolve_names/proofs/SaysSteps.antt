-- The first of the faults of two parts.
use Rattle.std.proofs.Common.{◌≡◌, List, [], ◌∷◌, ◌++◌, Result, sym, subst}
use Rattle.cg_resolve_def.specs.Faults.{NameFault}
use Rattle.cg_resolve_names.specs.Says.{IsFirst, Says, IsFirstFault}
use Rattle.cg_resolve_names.specs.declared.fault.NamingFault.{NamingFault}
use Rattle.cg_resolve_names.specs.declared.fault.NamingFault.TheVariants.{N1, N2, N4, Memory}

first_stays : (fault : NameFault) (xs ys : List NameFault) → IsFirst fault xs → IsFirst fault (xs ++ ys)
first_stays fault [] ys h = absurd h
first_stays fault (x ∷ xs) ys h = h

-- a fault of the first part
pub says_first : (xs ys : List NameFault) (fault : NamingFault) → IsFirstFault xs fault → IsFirstFault (xs ++ ys) fault
says_first xs ys (N1 p) h = first_stays _ xs ys h
says_first xs ys (N2 p) h = first_stays _ xs ys h
says_first xs ys (N4 p) h = first_stays _ xs ys h
says_first xs ys Memory h = h

-- no fault of the first part
pub says_second : {T : Type 0} (xs ys : List NameFault) (result : Result T NamingFault) → xs ≡ [] → Says ys result → Says (xs ++ ys) result
says_second xs ys result none h = subst (λ l. Says (l ++ ys) result) (sym none) h
