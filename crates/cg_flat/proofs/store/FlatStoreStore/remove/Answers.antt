use Rattle.std.proofs.Common.{◌≡◌, ◌+◌, cond, length, refl, sym, ap, subst, ◌∙◌, arith}
use Rattle.std.specs.FinMap as table
use Rattle.std.specs.Option.{is_some}
use Rattle.cg_flat.specs.Flat.{IsFlat, stored_of, without_span}
use Rattle.cg_flat.specs.Seen.{seen}
use Rattle.cg_flat.specs.Settled.{settled}
use Rattle.cg_flat.proofs.Laid.{flat_removed, stored_removed}
use Rattle.cg_flat.proofs.Lent.{short_removed}
use Rattle.cg_flat.proofs.Maps.{held_at, taken_out}
use Rattle.cg_flat.proofs.Needs.{bounded, removed_is, stored_without}
use Rattle.cg_flat.proofs.Settles.{free_more, settled_more}
use Rattle.cg_flat.proofs.Stores.{held_none, held_some}
use Rattle.cg_flat.proofs.store.FlatStoreStore.remove.Goals as goal

pub returns-in-Some-clause-answer : goal.returns-in-Some-clause-answer
returns-in-Some-clause-answer c = rw (← c.self.view_is) (sym (ap is_some (held_some (seen c.self.inside.words.items c.self.inside.spans.entries (settled c.self.inside.freed.items c.self.inside.holes.items) c.self.inside.top) c.args.at c.in-Some.span (held_at c.self.inside.spans.entries c.args.at ∙ sym c.remove.ensures.value ∙ c.in-Some.is))))

pub returns-in-Some-clause-store : goal.returns-in-Some-clause-store
returns-in-Some-clause-store c =
    rw (← c.self.view_is) (ap stored_of (removed_is (seen c.self.inside.words.items c.self.inside.spans.entries (settled c.self.inside.freed.items c.self.inside.holes.items) c.self.inside.top) c.args.at c.in-Some.span (table.from_entries c.remove.new.self.entries) (settled c.free.new.freed.items c.self.inside.holes.items) (taken_out c.self.inside.spans c.remove.new.self c.args.at c.remove.ensures.updates) (settled_more c.in-Some.span c.self.inside.freed.items c.free.new.freed.items c.self.inside.holes.items c.free.ensures.freed)) ∙ stored_removed (seen c.self.inside.words.items c.self.inside.spans.entries (settled c.self.inside.freed.items c.self.inside.holes.items) c.self.inside.top) c.args.at c.in-Some.span)

pub returns-in-Some-clause-flat : goal.returns-in-Some-clause-flat
returns-in-Some-clause-flat c =
    rw (← c.self.view_is) (removed_is (seen c.self.inside.words.items c.self.inside.spans.entries (settled c.self.inside.freed.items c.self.inside.holes.items) c.self.inside.top) c.args.at c.in-Some.span (table.from_entries c.remove.new.self.entries) (settled c.free.new.freed.items c.self.inside.holes.items) (taken_out c.self.inside.spans c.remove.new.self c.args.at c.remove.ensures.updates) (settled_more c.in-Some.span c.self.inside.freed.items c.free.new.freed.items c.self.inside.holes.items c.free.ensures.freed) ∙ ap (λ o. without_span c.args.at o (seen c.self.inside.words.items c.self.inside.spans.entries (settled c.self.inside.freed.items c.self.inside.holes.items) c.self.inside.top)) (sym (held_at c.self.inside.spans.entries c.args.at ∙ sym c.remove.ensures.value ∙ c.in-Some.is)))

pub returns-in-None-clause-answer : goal.returns-in-None-clause-answer
returns-in-None-clause-answer c = rw (← c.self.view_is) (sym (ap is_some (held_none (seen c.self.inside.words.items c.self.inside.spans.entries (settled c.self.inside.freed.items c.self.inside.holes.items) c.self.inside.top) c.args.at (held_at c.self.inside.spans.entries c.args.at ∙ sym c.remove.ensures.value ∙ c.in-None.is))))

pub returns-in-None-clause-store : goal.returns-in-None-clause-store
returns-in-None-clause-store c = rw (← c.self.view_is) (stored_without (seen c.self.inside.words.items c.self.inside.spans.entries (settled c.self.inside.freed.items c.self.inside.holes.items) c.self.inside.top) c.args.at (table.from_entries c.remove.new.self.entries) (settled c.self.inside.freed.items c.self.inside.holes.items) (taken_out c.self.inside.spans c.remove.new.self c.args.at c.remove.ensures.updates))

pub returns-in-None-clause-flat : goal.returns-in-None-clause-flat
returns-in-None-clause-flat c =
    let same = rw c.in-None.is at c.remove.ensures.unchanged in
    rw (← c.self.view_is)
    (ap (λ es. seen c.self.inside.words.items es (settled c.self.inside.freed.items c.self.inside.holes.items) c.self.inside.top) same
    ∙ sym (ap (λ o. without_span c.args.at o (seen c.self.inside.words.items c.self.inside.spans.entries (settled c.self.inside.freed.items c.self.inside.holes.items) c.self.inside.top)) (held_at c.self.inside.spans.entries c.args.at ∙ sym c.remove.ensures.value ∙ c.in-None.is)))

pub invariant_of-self : goal.invariant_of-self
invariant_of-self c =
    let len : length c.remove.new.self.entries + 1 ≡ length c.self.inside.spans.entries = ap (λ o. length c.remove.new.self.entries + cond (is_some o) 1 0) (sym c.in-Some.is) ∙ c.remove.ensures.len in
    let longer = c.free.ensures.longer in
    let capacity = c.free.ensures.capacity in
    let room = c.self.invariant.room in
    record {
      flat = subst IsFlat
          (sym (removed_is (seen c.self.inside.words.items c.self.inside.spans.entries (settled c.self.inside.freed.items c.self.inside.holes.items) c.self.inside.top) c.args.at c.in-Some.span (table.from_entries c.remove.new.self.entries) (settled c.free.new.freed.items c.self.inside.holes.items) (taken_out c.self.inside.spans c.remove.new.self c.args.at c.remove.ensures.updates) (settled_more c.in-Some.span c.self.inside.freed.items c.free.new.freed.items c.self.inside.holes.items c.free.ensures.freed)))
          (flat_removed (seen c.self.inside.words.items c.self.inside.spans.entries (settled c.self.inside.freed.items c.self.inside.holes.items) c.self.inside.top) c.args.at c.in-Some.span c.self.invariant.flat (held_at c.self.inside.spans.entries c.args.at ∙ sym c.remove.ensures.value ∙ c.in-Some.is));
      free = free_more (seen c.self.inside.words.items c.self.inside.spans.entries (settled c.self.inside.freed.items c.self.inside.holes.items) c.self.inside.top) c.args.at c.in-Some.span c.self.inside.freed.items c.free.new.freed.items c.self.inside.holes.items
          c.self.invariant.flat (bounded c.self.inside.words) (held_at c.self.inside.spans.entries c.args.at ∙ sym c.remove.ensures.value ∙ c.in-Some.is) refl c.self.invariant.free c.free.ensures.freed;
      room = omega arith;
      short = short_removed (table.from_entries c.self.inside.spans.entries) (table.from_entries c.remove.new.self.entries) c.args.at (taken_out c.self.inside.spans c.remove.new.self c.args.at c.remove.ensures.updates) c.self.invariant.short;
    }
