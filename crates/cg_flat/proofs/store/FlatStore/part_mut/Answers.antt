use Rattle.std.proofs.Common.{◌≡◌, length, ap, arith}
use Rattle.cg_flat.specs.Seen.{seen}
use Rattle.cg_flat.specs.Settled.{settled}
use Rattle.cg_flat.proofs.Lent.{flat_rewritten, left_long, left_words}
use Rattle.cg_flat.proofs.Needs.{bounded}
use Rattle.cg_flat.proofs.store.FlatStore.part_mut.Goals as goal

pub overflow_add-span : goal.overflow_add-span
overflow_add-span c =
    let fits = c.requires in
    let same : length c.self.inside.words.items ≡ length c.args.self.now.words = ap (λ f. length f.words) c.self.view_is in
    let few = bounded c.self.inside.words in
    record { fits = omega arith }

pub invariant_of-self-lent : goal.invariant_of-self-lent
invariant_of-self-lent c = λ w.
    rw (left_words c.self.inside.words.len c.args.span.start w c.self.inside.words.items c.self.inside.words.ok.0) (record {
      flat = flat_rewritten (seen c.self.inside.words.items c.self.inside.spans.entries (settled c.self.inside.freed.items c.self.inside.holes.items) c.self.inside.top) _ c.self.invariant.flat c.self.invariant.short (left_long c.args.span.start w c.self.inside.words.items);
      free = c.self.invariant.free;
      room = c.self.invariant.room;
      short = c.self.invariant.short;
    })
