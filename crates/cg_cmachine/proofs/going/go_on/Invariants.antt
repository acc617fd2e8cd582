use Rattle.std.proofs.Common.{◌≡◌, ◌≤◌}
use Rattle.cg_cmachine_running.specs.declared.machine.Next.TheVariants.{Goes}
use Rattle.cg_cmachine_running.specs.Machine.{IsLow, IsNext, IsState, said, slack, weight}
use Rattle.cg_cmachine.proofs.going.go_on.Given as goal

abbrev pub invariant-loop-next : goal.invariant-loop-next
invariant-loop-next g l =
    let r = l.run.program.now in
    let asked = (g.X.ExternHeap.on_heaps l.table).asked in
    record {
      same : said r asked l.run.budget l.m (g.S.Store.stored l.store) l.next ≡ said r asked l.run.budget l.fn.m (g.S.Store.stored l.fn.store) Goes;
      state : IsState r l.m;
      next : IsNext r l.m l.next;
      low : IsLow (slack l.next) l.m (g.S.Store.stored l.store);
      within : l.m.left ≤ l.fn.m.left;
    }

abbrev pub decreases-loop-next : goal.decreases-loop-next
decreases-loop-next g l = weight l.m l.next
