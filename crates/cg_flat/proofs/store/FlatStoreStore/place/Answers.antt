use Rattle.std.proofs.Common.{◌≡◌, max, length, refl, sym, ap, ◌∙◌, arith}
use Rattle.std.specs.FinMap as table
use Rattle.cg_heap.specs.Stored.{cell_at}
use Rattle.cg_flat.specs.Flat.{stored_of}
use Rattle.cg_flat.specs.Seen.{seen}
use Rattle.cg_flat.specs.Settled.{settled}
use Rattle.cg_flat.proofs.Laid.{holes_within}
use Rattle.cg_flat.proofs.Lent.{short_put, words_short}
use Rattle.cg_flat.proofs.Maps.{held_at, put_in}
use Rattle.cg_flat.proofs.Needs.{absent_held, bounded, put_down}
use Rattle.cg_flat.proofs.Settles.{free_made}
use Rattle.cg_flat.proofs.store.FlatStoreStore.place.Goals as goal

pub cell_shape-form-requires : goal.cell_shape-form-requires
cell_shape-form-requires c = c.requires.short

pub make_room-requires-clause-within : goal.make_room-requires-clause-within
make_room-requires-clause-within c = holes_within (seen c.self.inside.words.items c.self.inside.spans.entries (settled c.self.inside.freed.items c.self.inside.holes.items) c.self.inside.top) c.self.invariant.flat

pub make_room-requires-clause-small : goal.make_room-requires-clause-small
make_room-requires-clause-small c = c.cell_shape-form.ensures.small

pub make_room-requires-clause-absent : goal.make_room-requires-clause-absent
make_room-requires-clause-absent c = sym (held_at c.self.inside.spans.entries c.args.at) ∙ (absent_held (seen c.self.inside.words.items c.self.inside.spans.entries (settled c.self.inside.freed.items c.self.inside.holes.items) c.self.inside.top) c.args.at (ap (λ f. cell_at (stored_of f) c.args.at) c.self.view_is ∙ c.requires.absent))

pub invariant_of-self-2 : goal.invariant_of-self-2
invariant_of-self-2 c =
    let flat = (put_down (seen c.self.inside.words.items c.self.inside.spans.entries (settled c.self.inside.freed.items c.self.inside.holes.items) c.self.inside.top) c.args.at (max c.self.inside.top c.args.at) c.args.cell c.cell_shape-form.result.0 c.cell_shape-form.result.1 c.in_ok-start.start c.make_room.new.words.items c.write_cell.new.words.items (table.from_entries c.make_room.new.spans.entries) (settled c.make_room.new.freed.items c.make_room.new.holes.items)
    c.self.invariant.flat (absent_held (seen c.self.inside.words.items c.self.inside.spans.entries (settled c.self.inside.freed.items c.self.inside.holes.items) c.self.inside.top) c.args.at (ap (λ f. cell_at (stored_of f) c.args.at) c.self.view_is ∙ c.requires.absent)) c.requires.least (omega arith) (omega arith) (let most = c.requires.most in let small = c.self.invariant.flat.sound.small in omega arith) c.requires.short c.cell_shape-form.ensures.form c.cell_shape-form.ensures.count c.in_ok-start.ensures.start c.in_ok-start.ensures.words c.write_cell.ensures
    (put_in c.self.inside.spans c.make_room.new.spans c.args.at (record { form = c.cell_shape-form.result.0; start = c.in_ok-start.start; count = c.cell_shape-form.result.1 }) c.in_ok-start.ensures.spans) (ap (λ l. settled l c.make_room.new.holes.items) c.in_ok-start.ensures.freed ∙ c.in_ok-start.ensures.holes)).flat in
    let none : length c.make_room.new.freed.items ≡ 0 = ap length c.in_ok-start.ensures.freed in
    let room = c.in_ok-start.ensures.room in
    rw c.max-self-inside.ensures (record {
      flat = flat;
      free = free_made _ c.make_room.new.freed.items c.make_room.new.holes.items flat (bounded c.write_cell.new.words) c.in_ok-start.ensures.freed refl;
      room = omega arith;
      short = short_put (table.from_entries c.self.inside.spans.entries) (table.from_entries c.make_room.new.spans.entries) c.args.at (record { form = c.cell_shape-form.result.0; start = c.in_ok-start.start; count = c.cell_shape-form.result.1 }) (put_in c.self.inside.spans c.make_room.new.spans c.args.at (record { form = c.cell_shape-form.result.0; start = c.in_ok-start.start; count = c.cell_shape-form.result.1 }) c.in_ok-start.ensures.spans)
          c.self.invariant.short (λ kind. rw c.cell_shape-form.ensures.count (words_short c.args.cell c.requires.short (sym c.cell_shape-form.ensures.form ∙ kind)));
    })

pub returns-clause-ok : goal.returns-clause-ok
returns-clause-ok c =
    rw (c.max-self-inside.ensures, ← c.self.view_is) (put_down (seen c.self.inside.words.items c.self.inside.spans.entries (settled c.self.inside.freed.items c.self.inside.holes.items) c.self.inside.top) c.args.at (max c.self.inside.top c.args.at) c.args.cell c.cell_shape-form.result.0 c.cell_shape-form.result.1 c.in_ok-start.start c.make_room.new.words.items c.write_cell.new.words.items (table.from_entries c.make_room.new.spans.entries) (settled c.make_room.new.freed.items c.make_room.new.holes.items)
    c.self.invariant.flat (absent_held (seen c.self.inside.words.items c.self.inside.spans.entries (settled c.self.inside.freed.items c.self.inside.holes.items) c.self.inside.top) c.args.at (ap (λ f. cell_at (stored_of f) c.args.at) c.self.view_is ∙ c.requires.absent)) c.requires.least (omega arith) (omega arith) (let most = c.requires.most in let small = c.self.invariant.flat.sound.small in omega arith) c.requires.short c.cell_shape-form.ensures.form c.cell_shape-form.ensures.count c.in_ok-start.ensures.start c.in_ok-start.ensures.words c.write_cell.ensures
    (put_in c.self.inside.spans c.make_room.new.spans c.args.at (record { form = c.cell_shape-form.result.0; start = c.in_ok-start.start; count = c.cell_shape-form.result.1 }) c.in_ok-start.ensures.spans) (ap (λ l. settled l c.make_room.new.holes.items) c.in_ok-start.ensures.freed ∙ c.in_ok-start.ensures.holes)).stored

pub returns-clause-flat : goal.returns-clause-flat
returns-clause-flat c =
    rw (c.max-self-inside.ensures, ← c.self.view_is) (put_down (seen c.self.inside.words.items c.self.inside.spans.entries (settled c.self.inside.freed.items c.self.inside.holes.items) c.self.inside.top) c.args.at (max c.self.inside.top c.args.at) c.args.cell c.cell_shape-form.result.0 c.cell_shape-form.result.1 c.in_ok-start.start c.make_room.new.words.items c.write_cell.new.words.items (table.from_entries c.make_room.new.spans.entries) (settled c.make_room.new.freed.items c.make_room.new.holes.items)
    c.self.invariant.flat (absent_held (seen c.self.inside.words.items c.self.inside.spans.entries (settled c.self.inside.freed.items c.self.inside.holes.items) c.self.inside.top) c.args.at (ap (λ f. cell_at (stored_of f) c.args.at) c.self.view_is ∙ c.requires.absent)) c.requires.least (omega arith) (omega arith) (let most = c.requires.most in let small = c.self.invariant.flat.sound.small in omega arith) c.requires.short c.cell_shape-form.ensures.form c.cell_shape-form.ensures.count c.in_ok-start.ensures.start c.in_ok-start.ensures.words c.write_cell.ensures
    (put_in c.self.inside.spans c.make_room.new.spans c.args.at (record { form = c.cell_shape-form.result.0; start = c.in_ok-start.start; count = c.cell_shape-form.result.1 }) c.in_ok-start.ensures.spans) (ap (λ l. settled l c.make_room.new.holes.items) c.in_ok-start.ensures.freed ∙ c.in_ok-start.ensures.holes)).is
