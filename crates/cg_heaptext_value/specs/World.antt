-- Heaps in which no value of a function and of a user's abstract type is.
use Rattle.std.specs.Prelude.{false, None}
use Rattle.cg_heap.specs.Reps.{HeapWorld}

-- there is no function, and no number stands for a value of a user's abstract type
abbrev pub no_world : HeapWorld
no_world = record { instance_at = λ n. None; stands = λ name ns v. false }
