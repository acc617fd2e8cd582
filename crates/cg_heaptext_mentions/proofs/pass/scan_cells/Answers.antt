use Rattle.cg_heaptext_mentions.specs.Judged.{lacks, mention_out_of_range}
use Rattle.cg_heaptext_mentions.proofs.Cells.{cells_end, cells_turn}
use Rattle.cg_heaptext_mentions.proofs.pass.scan_cells.Goals as goal

pub loop-entry-preserved : goal.loop-entry-preserved
loop-entry-preserved c =
    let w = c.loop-entry.invariant in
    let found = c.scan_cell-found in
    record {
      absent = λ ns m.
          cells_turn (lacks ns) (λ m. m.place) c.args.entries.now c.args.before.absent c.loop-entry.entry-index c.entry-item.result c.loop-entry.found.absent found.result.absent c.loop-entry-test.true c.entry-item.is (found.ensures.absent ns m)
          (w.absent ns m);
      out =
          cells_turn mention_out_of_range (λ m. m.address.place) c.args.entries.now c.args.before.out c.loop-entry.entry-index c.entry-item.result c.loop-entry.found.out found.result.out c.loop-entry-test.true c.entry-item.is found.ensures.out
          w.out;
    }

pub returns-clause-absent : goal.returns-clause-absent
returns-clause-absent c = λ ns m.
    cells_end (lacks ns) (λ m. m.place) c.args.entries.now c.args.before.absent c.loop-entry.entry-index c.loop-entry.found.absent c.loop-entry-test.false (c.loop-entry.invariant.absent ns m)

pub returns-clause-out : goal.returns-clause-out
returns-clause-out c =
    cells_end mention_out_of_range (λ m. m.address.place) c.args.entries.now c.args.before.out c.loop-entry.entry-index c.loop-entry.found.out c.loop-entry-test.false c.loop-entry.invariant.out
