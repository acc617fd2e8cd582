use Rattle.std.proofs.Common.{rules, ◌≡◌, ap, ◌∙◌}
use Rattle.cg_base.specs.Types.{type_of}
use Rattle.cg_heap.specs.Stored.{cell_at}
use Rattle.cg_heap.specs.Addresses.{reached}
use Rattle.cg_heap.specs.Steps.{count}
use Rattle.cg_heap.proofs.Listed.{reached_count}
use Rattle.cg_heap.proofs.reach.reached.Goals as goal

pub returns : goal.returns
returns g c = λ q.
    let found : c.add.new.found ≡ reached (λ p. cell_at (g.S.Store.stored c.args.store.now) p) c.args.sigil (type_of c.args.ty.now) c.args.scalars.now = search rules in
    ap (λ ps. count q ps) found ∙ reached_count (λ p. cell_at (g.S.Store.stored c.args.store.now) p) c.args.sigil (type_of c.args.ty.now) c.args.scalars.now q
