use Rattle.cg_heaptext_def.specs.Footprints.{amounts}
use Rattle.cg_heaptext_def.specs.Trees.{amount}
use Rattle.cg_heaptext_entries.specs.Index.{numeral_of}
use Rattle.cg_heaptext_value.proofs.Found.{item_none, item_some, none_found, one_found, past_found}
use Rattle.cg_heaptext_value.proofs.cells.cell_at.Goals as goal

pub returns-in_err-at : goal.returns-in_err-at
returns-in_err-at c = λ h a d.
    rw c.from_residual.ensures (none_found c.args.index.now.entries h a.entries (amount (numeral_of c.args.address.now)) c.find.result (c.find.ensures (amounts h) a.positions d) c.in_err-at.was)

pub returns-in_err-entry : goal.returns-in_err-entry
returns-in_err-entry c = λ h a d.
    rw c.from_residual-in_err-entry.ensures
    (past_found c.args.index.now.entries h a.entries (amount (numeral_of c.args.address.now)) c.find.result (c.find.ensures (amounts h) a.positions d) c.in_ok-at.at c.in_ok-at.was
    (item_none c.args.index.now.entries c.in_ok-at.at c.get.result (rw c.as_slice.ensures at c.get.ensures.lookup) c.in_err-entry.was))

pub returns : goal.returns
returns c = λ h a d.
    one_found c.args.index.now.entries h a.entries (amount (numeral_of c.args.address.now)) c.find.result (c.find.ensures (amounts h) a.positions d) c.in_ok-at.at c.in_ok-entry.entry.now c.copy.result c.in_ok-at.was
    (item_some c.args.index.now.entries c.in_ok-at.at c.get.result c.in_ok-entry.entry (rw c.as_slice.ensures at c.get.ensures.lookup) c.in_ok-entry.was) c.copy.ensures
