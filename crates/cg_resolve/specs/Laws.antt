-- The law of what resolving answers.
use Rattle.std.specs.Prelude.{◌≡◌, List, Result, Ok, Err}
use Rattle.cg_core.specs.declared.kernel.Kernel.{Kernel}
use Rattle.cg_core.specs.Kernels.{kernel_of}
use Rattle.cg_surface.specs.Programs.{Entry}
use Rattle.cg_resolve.specs.Answers.{Answers}
use Rattle.cg_resolve.specs.declared.fault.Fault.{Fault}
use Rattle.cg_resolve.specs.declared.fault.Fault.TheVariants.{Memory}

-- the same kernel, or the same fault at the same place, or the same limit
abbrev pub Same : Result Kernel Fault → Result Kernel Fault → Type 0
Same (Ok k) (Ok l) = kernel_of k ≡ kernel_of l
Same (Err f) (Err g) = f ≡ g
Same (Ok k) (Err f) = ⊥
Same (Err f) (Ok k) = ⊥

-- two right answers for the same entries are the same, where memory is wanting in neither
abbrev pub OneAnswer : Type 0
OneAnswer = (entries : List Entry) (a b : Result Kernel Fault) → Answers entries a → Answers entries b → (a ≡ Err Memory → ⊥) → (b ≡ Err Memory → ⊥) → Same a b
