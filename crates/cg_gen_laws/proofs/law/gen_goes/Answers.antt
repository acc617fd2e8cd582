use Rattle.cg_gen_laws.proofs.Going.{gen_goes}
use Rattle.cg_gen_laws.proofs.law.gen_goes.Goals as goal

pub returns : goal.returns
returns c =
    gen_goes c.source_is_spelled.ensures c.source_is_short.ensures c.certificate_is_short.ensures
    c.names_are_in_order.ensures c.kernel_is_made.ensures c.limits_are_kept.ensures c.entry_is_last.ensures
    c.cores_are_derived.ensures c.kernel_is_accepted.ensures c.types_are_small.ensures c.instances_are_within.ensures
    c.evaluation_gives.ensures c.steps_are_enough.ensures c.heap_is_held.ensures
