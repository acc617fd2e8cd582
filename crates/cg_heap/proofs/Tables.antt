-- What follows from the laws of a table.
use Rattle.std.proofs.Common.{◌≡◌, ◌+◌, ◌≤◌, ℕ, List, Some, subst, arith}
use Rattle.cg_heap.specs.Calls.{Answer}
use Rattle.cg_heap.specs.declared.cell.Scalar.{Scalar}
use Rattle.cg_heap.specs.ForeignHeaps.{ForeignHeap, Answers, IsAnswered, IsLawfulOnHeaps, most_made, world_over}
use Rattle.cg_heap.specs.Stored.{Stored}
use Rattle.cg_value.specs.Foreign.{Foreign}

-- no call that is answered raises the top by more than the cells that one may make
pub rises_little : {x : Foreign} {y : ForeignHeap} → IsLawfulOnHeaps x y → (name : List ℕ) (us : List Scalar) (s : Stored) (a : Answer)
    → y.asked name us s ≡ Some a → a.out.store.top ≤ s.top + most_made
rises_little {x} {y} laws name us s a answered =
    let c = laws.is_call name us s a answered in
    let given = subst (Answers (world_over x y c.0) s c.1 c.2 us c.3 (x.value name c.3) (x.cost name c.3)) answered (laws.is_answered c.0 name s us c.1 c.2 c.3 c.4) in
    let is : IsAnswered (world_over x y c.0) s c.1 c.2 us c.3 (x.value name c.3) a.out = given.1 in
    let rises = is.rises in
    let few = is.few in
    omega arith
