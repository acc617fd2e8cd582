use Rattle.std.proofs.Common.{◌≡◌, ◌++◌, drop, map}
use Rattle.cg_base.specs.Types.{part_of, to_parts}
use Rattle.cg_heap.specs.Reps.{first_number, tail}
use Rattle.cg_heap.specs.Stored.{cell_at}
use Rattle.cg_heap.specs.Addresses.{reached_all, reached_at}
use Rattle.cg_heap.proofs.reach.+add.Given as goal

abbrev pub invariant-add_all-loop-part : goal.invariant-add_all-loop-part
invariant-add_all-loop-part g l =
    l.found ++ reached_all (λ q. cell_at (g.S.Store.stored l.store) q) l.sigil (to_parts (map part_of (drop l.part-index l.parts))) l.rest
    ≡ l.fn.found ++ reached_all (λ q. cell_at (g.S.Store.stored l.store) q) l.sigil (to_parts (map part_of l.parts)) l.scalars

abbrev pub invariant-add_chosen-loop-alternative : goal.invariant-add_chosen-loop-alternative
invariant-add_chosen-loop-alternative g l =
    (l.found ≡ l.fn.found)
    × (reached_at (λ q. cell_at (g.S.Store.stored l.store) q) l.sigil (to_parts (map part_of (drop l.alternative-index l.alternatives))) l.left l.rest
    ≡ reached_at (λ q. cell_at (g.S.Store.stored l.store) q) l.sigil (to_parts (map part_of l.alternatives)) (first_number l.scalars) (tail l.scalars))
