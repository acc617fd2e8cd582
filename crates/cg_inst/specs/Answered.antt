-- What `instances` answers of a source.
use Rattle.std.specs.Prelude.{List, Result, Ok, Err}
use Rattle.cg_base.specs.declared.limit.Limit.TheVariants.{Core as OfCore, Instances as OfInstances, Ty as OfTy}
use Rattle.cg_core.specs.Kernels.{Function}
use Rattle.cg_inst.specs.declared.fault.InstFault.{InstFault}
use Rattle.cg_inst.specs.declared.fault.InstFault.TheVariants.{Limit, Memory}
use Rattle.cg_inst.specs.Judged.{AreTooMany, HaveLargeTypes, HaveTooManyNodes, IsWithin}
use Rattle.cg_inst.specs.Lists.{Cores}
use Rattle.cg_typing.specs.Instances.{Instance}

-- the list, where it is within all limits, and else the first limit that it passes; want of memory is free
abbrev pub Answers : List Function → Cores → Result (List Instance) InstFault → Type 0
Answers functions cores (Ok list) = IsWithin functions cores list
Answers functions cores (Err (Limit OfInstances)) = AreTooMany functions cores
Answers functions cores (Err (Limit OfCore)) = HaveTooManyNodes functions cores
Answers functions cores (Err (Limit OfTy)) = HaveLargeTypes functions cores
Answers functions cores (Err (Limit _)) = ⊥
Answers functions cores (Err Memory) = Unit {0}
