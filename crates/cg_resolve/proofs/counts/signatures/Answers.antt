use Rattle.std.proofs.Common.{arith, map}
use Rattle.cg_surface.specs.Programs.{entry_of}
use Rattle.cg_resolve_def.specs.Desugar.{function_of_entry}
use Rattle.cg_resolve.proofs.FunctionSteps.{counted_more}
use Rattle.cg_resolve.proofs.counts.signatures.Goals as goal

pub loop-item-preserved : goal.loop-item-preserved
loop-item-preserved c = (
  omega (arith, c.one_if_signature-count.ensures.small),
  omega (arith, c.one_if_signature-count.ensures.count (map entry_of c.args.items.now), counted_more (function_of_entry (map entry_of c.args.items.now)) c.args.items.now c.loop-item.item-index c.item-item.result c.loop-item-test.true c.item-item.is c.loop-item.count c.loop-item.invariant.1),
)
