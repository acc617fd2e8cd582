-- The type that a core's node notes.
use Rattle.std.proofs.Common.{◌≡◌, ap}
use Rattle.cg_base.specs.Types.{type_of}
use Rattle.cg_core.specs.declared.term.Term.{Term}
use Rattle.cg_core.specs.declared.term.Typed.{Typed}
use Rattle.cg_core.specs.Kernels.{the_core}
use Rattle.cg_core.proofs.Operands.{core_is}
use Rattle.cg_typing.specs.Rules.{type_at}

pub type_of_core : (t : Term Typed) → type_at (the_core t) ≡ type_of t.note.ty
type_of_core t = ap type_at (core_is t)
