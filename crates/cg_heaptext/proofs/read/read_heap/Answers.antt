use Rattle.cg_base.specs.Types.{type_of}
use Rattle.cg_heaptext.proofs.Whole.{answers}
use Rattle.cg_heaptext.proofs.read.read_heap.Goals as goal

pub returns : goal.returns
returns c =
    let f = c.in_ok-index.ensures in
    answers c.args.bytes.now f.0 (type_of c.args.ty.now) c.read_index.result f.1 (c.read_index.ensures f.0 (record { bytes = c.args.bytes.now; spells = f.1; entries = f.3 }))
