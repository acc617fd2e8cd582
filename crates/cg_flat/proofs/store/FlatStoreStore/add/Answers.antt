use Rattle.std.proofs.Common.{◌≡◌, ◌+◌, length, refl, sym, ap, ◌∙◌, arith}
use Rattle.std.specs.FinMap as table
use Rattle.cg_heap.specs.Stored.{fresh_cell}
use Rattle.cg_flat.specs.Flat.{written}
use Rattle.cg_flat.specs.Seen.{seen}
use Rattle.cg_flat.specs.Settled.{settled}
use Rattle.cg_flat.proofs.Cells.{fresh_words}
use Rattle.cg_flat.proofs.Laid.{holes_within}
use Rattle.cg_flat.proofs.Lent.{short_put, words_short}
use Rattle.cg_flat.proofs.Maps.{held_at, put_in}
use Rattle.cg_flat.proofs.Needs.{absent_above, bounded, put_down}
use Rattle.cg_flat.proofs.Settles.{free_made}
use Rattle.cg_flat.proofs.store.FlatStoreStore.add.Goals as goal

pub overflow_add-at : goal.overflow_add-at
overflow_add-at c =
    let small = c.requires in
    let top : c.self.inside.top ≡ c.args.self.now.top = ap (λ f. f.top) c.self.view_is in
    record { fits = omega arith }

pub make_room-requires-clause-within : goal.make_room-requires-clause-within
make_room-requires-clause-within c = holes_within (seen c.self.inside.words.items c.self.inside.spans.entries (settled c.self.inside.freed.items c.self.inside.holes.items) c.self.inside.top) c.self.invariant.flat

pub make_room-requires-clause-small : goal.make_room-requires-clause-small
make_room-requires-clause-small c = c.fresh_shape-form.ensures.small

pub make_room-requires-clause-absent : goal.make_room-requires-clause-absent
make_room-requires-clause-absent c = sym (held_at c.self.inside.spans.entries (c.self.inside.top + 1)) ∙ (absent_above (seen c.self.inside.words.items c.self.inside.spans.entries (settled c.self.inside.freed.items c.self.inside.holes.items) c.self.inside.top) (c.self.inside.top + 1) c.self.invariant.flat (omega arith))

pub invariant_of-self-2 : goal.invariant_of-self-2
invariant_of-self-2 c =
    let flat = (put_down (seen c.self.inside.words.items c.self.inside.spans.entries (settled c.self.inside.freed.items c.self.inside.holes.items) c.self.inside.top) (c.self.inside.top + 1) (c.self.inside.top + 1) (fresh_cell c.args.fresh) c.fresh_shape-form.result.0 c.fresh_shape-form.result.1 c.in_ok-start.start c.make_room.new.words.items c.clear.new.words.items (table.from_entries c.make_room.new.spans.entries) (settled c.make_room.new.freed.items c.make_room.new.holes.items)
    c.self.invariant.flat (absent_above (seen c.self.inside.words.items c.self.inside.spans.entries (settled c.self.inside.freed.items c.self.inside.holes.items) c.self.inside.top) (c.self.inside.top + 1) c.self.invariant.flat (omega arith)) (omega arith) (omega arith) (omega arith) (let small = c.requires in let top : c.self.inside.top ≡ c.args.self.now.top = ap (λ f. f.top) c.self.view_is in omega arith) c.fresh_shape-form.ensures.short c.fresh_shape-form.ensures.form c.fresh_shape-form.ensures.count c.in_ok-start.ensures.start c.in_ok-start.ensures.words (c.clear.ensures ∙ ap (λ l. written c.in_ok-start.start l c.make_room.new.words.items) (fresh_words c.args.fresh c.fresh_shape-form.result.1 c.fresh_shape-form.ensures.count))
    (put_in c.self.inside.spans c.make_room.new.spans (c.self.inside.top + 1) (record { form = c.fresh_shape-form.result.0; start = c.in_ok-start.start; count = c.fresh_shape-form.result.1 }) c.in_ok-start.ensures.spans) (ap (λ l. settled l c.make_room.new.holes.items) c.in_ok-start.ensures.freed ∙ c.in_ok-start.ensures.holes)).flat in
    let none : length c.make_room.new.freed.items ≡ 0 = ap length c.in_ok-start.ensures.freed in
    let room = c.in_ok-start.ensures.room in
    record {
      flat = flat;
      free = free_made _ c.make_room.new.freed.items c.make_room.new.holes.items flat (bounded c.clear.new.words) c.in_ok-start.ensures.freed refl;
      room = omega arith;
      short = short_put (table.from_entries c.self.inside.spans.entries) (table.from_entries c.make_room.new.spans.entries) (c.self.inside.top + 1) (record { form = c.fresh_shape-form.result.0; start = c.in_ok-start.start; count = c.fresh_shape-form.result.1 }) (put_in c.self.inside.spans c.make_room.new.spans (c.self.inside.top + 1) (record { form = c.fresh_shape-form.result.0; start = c.in_ok-start.start; count = c.fresh_shape-form.result.1 }) c.in_ok-start.ensures.spans)
          c.self.invariant.short (λ kind. rw c.fresh_shape-form.ensures.count (words_short (fresh_cell c.args.fresh) c.fresh_shape-form.ensures.short (sym c.fresh_shape-form.ensures.form ∙ kind)));
    }

pub returns-clause-ok : goal.returns-clause-ok
returns-clause-ok c =
    rw (← c.self.view_is) (put_down (seen c.self.inside.words.items c.self.inside.spans.entries (settled c.self.inside.freed.items c.self.inside.holes.items) c.self.inside.top) (c.self.inside.top + 1) (c.self.inside.top + 1) (fresh_cell c.args.fresh) c.fresh_shape-form.result.0 c.fresh_shape-form.result.1 c.in_ok-start.start c.make_room.new.words.items c.clear.new.words.items (table.from_entries c.make_room.new.spans.entries) (settled c.make_room.new.freed.items c.make_room.new.holes.items)
    c.self.invariant.flat (absent_above (seen c.self.inside.words.items c.self.inside.spans.entries (settled c.self.inside.freed.items c.self.inside.holes.items) c.self.inside.top) (c.self.inside.top + 1) c.self.invariant.flat (omega arith)) (omega arith) (omega arith) (omega arith) (let small = c.requires in let top : c.self.inside.top ≡ c.args.self.now.top = ap (λ f. f.top) c.self.view_is in omega arith) c.fresh_shape-form.ensures.short c.fresh_shape-form.ensures.form c.fresh_shape-form.ensures.count c.in_ok-start.ensures.start c.in_ok-start.ensures.words (c.clear.ensures ∙ ap (λ l. written c.in_ok-start.start l c.make_room.new.words.items) (fresh_words c.args.fresh c.fresh_shape-form.result.1 c.fresh_shape-form.ensures.count))
    (put_in c.self.inside.spans c.make_room.new.spans (c.self.inside.top + 1) (record { form = c.fresh_shape-form.result.0; start = c.in_ok-start.start; count = c.fresh_shape-form.result.1 }) c.in_ok-start.ensures.spans) (ap (λ l. settled l c.make_room.new.holes.items) c.in_ok-start.ensures.freed ∙ c.in_ok-start.ensures.holes)).stored

pub returns-clause-flat : goal.returns-clause-flat
returns-clause-flat c =
    rw (← c.self.view_is) (put_down (seen c.self.inside.words.items c.self.inside.spans.entries (settled c.self.inside.freed.items c.self.inside.holes.items) c.self.inside.top) (c.self.inside.top + 1) (c.self.inside.top + 1) (fresh_cell c.args.fresh) c.fresh_shape-form.result.0 c.fresh_shape-form.result.1 c.in_ok-start.start c.make_room.new.words.items c.clear.new.words.items (table.from_entries c.make_room.new.spans.entries) (settled c.make_room.new.freed.items c.make_room.new.holes.items)
    c.self.invariant.flat (absent_above (seen c.self.inside.words.items c.self.inside.spans.entries (settled c.self.inside.freed.items c.self.inside.holes.items) c.self.inside.top) (c.self.inside.top + 1) c.self.invariant.flat (omega arith)) (omega arith) (omega arith) (omega arith) (let small = c.requires in let top : c.self.inside.top ≡ c.args.self.now.top = ap (λ f. f.top) c.self.view_is in omega arith) c.fresh_shape-form.ensures.short c.fresh_shape-form.ensures.form c.fresh_shape-form.ensures.count c.in_ok-start.ensures.start c.in_ok-start.ensures.words (c.clear.ensures ∙ ap (λ l. written c.in_ok-start.start l c.make_room.new.words.items) (fresh_words c.args.fresh c.fresh_shape-form.result.1 c.fresh_shape-form.ensures.count))
    (put_in c.self.inside.spans c.make_room.new.spans (c.self.inside.top + 1) (record { form = c.fresh_shape-form.result.0; start = c.in_ok-start.start; count = c.fresh_shape-form.result.1 }) c.in_ok-start.ensures.spans) (ap (λ l. settled l c.make_room.new.holes.items) c.in_ok-start.ensures.freed ∙ c.in_ok-start.ensures.holes)).is
