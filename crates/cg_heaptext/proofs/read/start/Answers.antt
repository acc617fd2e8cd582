use Rattle.std.proofs.Common.{refl}
use Rattle.cg_base.specs.Types.{type_of}
use Rattle.cg_heaptext.proofs.Starting.{holds}
use Rattle.cg_heaptext.proofs.read.start.Goals as goal

pub returns : goal.returns
returns c = λ h sound none narrow met placing.
    let stands = c.argument-argument.ensures h sound.file.entries in
    holds h (type_of c.args.ty.now) none narrow c.args.placing c.args.mentions.now
    (record { cells = c.args.placing.cells; arg = c.in_ok-arg.arg; value = c.in_ok-value.value; reads = c.in_ok-reads.reads; writes = c.in_ok-writes.writes })
    placing met refl (c.in_ok-arg.ensures h.argument stands) (c.in_ok-value.ensures h sound.file.entries sound.map h.argument stands) c.in_ok-reads.ensures c.in_ok-writes.ensures
