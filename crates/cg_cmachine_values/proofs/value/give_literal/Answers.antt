use Rattle.std.proofs.Common.{sym}
use Rattle.cg_cmachine_values.proofs.value.give_literal.Goals as goal
use Rattle.cg_cmachine_layout.proofs.Groups.{one_word as size_word}

pub returns-in-Word-clause-many : goal.returns-in-Word-clause-many
returns-in-Word-clause-many c = rw c.in-Word.is (sym (size_word c.in-Word.word))
