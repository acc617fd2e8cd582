use Rattle.std.proofs.Common.{rules, true}
use Rattle.cg_base.specs.declared.kind.Sigil.TheVariants.{W}
use Rattle.cg_base.specs.declared.ty.Ty.TheVariants.{Bool}
use Rattle.cg_heap_tests.proofs.TestSteps.{small_records}
use Rattle.cg_heap_tests.proofs.library.record_type.Goals as goal

pub returns : goal.returns
returns c = small_records c.push-2.new.self c.push.new.self (record { name = c.in_ok-name.name; ty = Bool; taken = true }) W (search rules) (search rules) (search rules)
