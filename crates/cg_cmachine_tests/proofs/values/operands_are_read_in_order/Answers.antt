use Rattle.std.proofs.Common.{arith}
use Rattle.cg_base.specs.declared.kind.Word.TheVariants.{U32}
use Rattle.cg_cmachine_tests.proofs.values.operands_are_read_in_order.Goals as goal
use Rattle.cg_cmachine_layout.proofs.Groups.{one_word as size_word}

pub write-requires : goal.write-requires
write-requires g c = record { within = let one = size_word U32 in omega arith }

pub both-requires : goal.both-requires
both-requires g c = let one = size_word U32 in let many = c.write.ensures.many in omega arith
