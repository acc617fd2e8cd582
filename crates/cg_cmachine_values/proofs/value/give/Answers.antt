use Rattle.std.proofs.Common.{sym}
use Rattle.cg_cmachine_values.proofs.value.give.Goals as goal
use Rattle.cg_cmachine_layout.proofs.Groups.{one_word as size_word, one_pointer as size_pointer}

pub returns-in-Word-kind-clause-many : goal.returns-in-Word-kind-clause-many
returns-in-Word-kind-clause-many c = rw c.in-Word-kind.is (sym (size_word c.in-Word-kind.other))

pub returns-in-Pointer-kind-clause-many : goal.returns-in-Pointer-kind-clause-many
returns-in-Pointer-kind-clause-many c = rw c.in-Pointer-kind.is (sym (size_pointer c.in-Pointer-kind.other.now))
