-- What comes of judging the limits of a list of instances.
use Rattle.std.specs.Prelude.{◌≡◌, ◌≤◌, ◌<◌, ℕ, slice_get, List, Option, Some, None, Result, Ok, Err}
use Rattle.cg_base.specs.declared.limit.Limit.TheVariants.{Core as OfCore, Ty as OfTy}
use Rattle.std.specs.Option.{option_map}
use Rattle.cg_base.specs.declared.fun.Fun.{Fun}
use Rattle.cg_inst.specs.Measured.{AreSmallBy}
use Rattle.cg_inst.specs.declared.fault.InstFault.{InstFault}
use Rattle.cg_inst.specs.declared.fault.InstFault.TheVariants.{Limit, Memory}
use Rattle.cg_inst.specs.Lists.{Cores, HasSmallTypes, HaveSmallTypes, core_of, most_nodes, nodes_in, nodes_maybe}
use Rattle.cg_typing.specs.Instances.{Instance}

-- the function of the instance at a place
abbrev pub function_at : List Instance → ℕ → Option Fun
function_at list i = option_map (λ x. x.fun) (slice_get list i)

-- widths tell that the types of an instance are small enough, if it is one of this function
abbrev pub AreSmallAt : Fun → List (ℕ × List ℕ) → Option Instance → Type 0
AreSmallAt fun widths None = Unit {0}
AreSmallAt fun widths (Some x) = x.fun ≡ fun → AreSmallBy x.types widths

module _ (cores : Cores) where
  -- the bodies have few enough nodes, or too many
  abbrev pub CoresFit : List Instance → Result Unit InstFault → Type 0
  CoresFit list (Ok _) = nodes_in cores list ≤ most_nodes
  CoresFit list (Err (Limit OfCore)) = most_nodes < nodes_in cores list
  CoresFit list (Err (Limit _)) = ⊥
  CoresFit list (Err Memory) = Unit {0}

  -- the types of all nodes are small enough, or not all
  abbrev pub TypesFit : List Instance → Result Unit InstFault → Type 0
  TypesFit list (Ok _) = HaveSmallTypes cores list
  TypesFit list (Err (Limit OfTy)) = HaveSmallTypes cores list → ⊥
  TypesFit list (Err (Limit _)) = ⊥
  TypesFit list (Err Memory) = Unit {0}

  -- those of one instance, where there is one
  abbrev pub HasSmallTypesAt : Option Instance → Type 0
  HasSmallTypesAt None = Unit {0}
  HasSmallTypesAt (Some x) = HasSmallTypes x.types (nodes_maybe (core_of cores x.fun))

  -- those of all instances of a function, and of all whose function stands before a place
  abbrev pub HaveSmallTypesOf : List Instance → Fun → Type 0
  HaveSmallTypesOf list fun = (i : ℕ) → function_at list i ≡ Some fun → HasSmallTypesAt (slice_get list i)

  abbrev pub HaveSmallTypesUntil : List Instance → ℕ → Type 0
  HaveSmallTypesUntil list n = (i : ℕ) (fun : Fun) → i < n → function_at list i ≡ Some fun → HaveSmallTypesOf list fun

  -- the types of all nodes of the instances of a function are small enough, or not all types are
  abbrev pub TypesFitOf : List Instance → Fun → Result Unit InstFault → Type 0
  TypesFitOf list fun (Ok _) = HaveSmallTypesOf list fun
  TypesFitOf list fun (Err (Limit OfTy)) = HaveSmallTypes cores list → ⊥
  TypesFitOf list fun (Err (Limit _)) = ⊥
  TypesFitOf list fun (Err Memory) = Unit {0}

  abbrev pub TypesFitUntil : List Instance → ℕ → Result Unit InstFault → Type 0
  TypesFitUntil list n (Ok _) = HaveSmallTypesUntil list n
  TypesFitUntil list n (Err (Limit OfTy)) = HaveSmallTypes cores list → ⊥
  TypesFitUntil list n (Err (Limit _)) = ⊥
  TypesFitUntil list n (Err Memory) = Unit {0}
