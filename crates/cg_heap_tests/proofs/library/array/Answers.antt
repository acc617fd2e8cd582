use Rattle.cg_heap_tests.proofs.TestSteps.{words_placed}
use Rattle.cg_heap_tests.proofs.library.array.Goals as goal

pub returns-clause-array : goal.returns-clause-array
returns-clause-array c = rw c.in_ok-place.ensures.ok (words_placed 4 c.new-store.result c.push-2.new.self)
