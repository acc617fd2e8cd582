use Rattle.std.proofs.Common.{List, length, refl, sym, ap, ◌∙◌, subst, arith}
use Rattle.std.proofs.lemmas.Option.{slice_get_read}
use Rattle.std.specs.Option.{option_map}
use Rattle.std.specs.Prelude.{None}
use Rattle.cg_base.specs.Types.{type_of}
use Rattle.cg_heaptext_entries.specs.Index.{AreEntries}
use Rattle.cg_heaptext_entries.specs.declared.entry.EntryAt.{EntryAt}
use Rattle.cg_heaptext_contents.specs.Placings.{read_type}
use Rattle.cg_heaptext_contents.proofs.PlacingSteps.{entries_end, none_placed, one_more, some_of_map}
use Rattle.cg_heaptext_contents.proofs.placing.place_cells.Goals as goal

pub loop-at-init : goal.loop-at-init
loop-at-init c = λ h t a r. none_placed h t (record { cells = c.new.result; over = None; large = None }) c.new.ensures refl refl

pub loop-at-preserved : goal.loop-at-preserved
loop-at-preserved c = λ h t a r.
    let xs = c.as_slice-entry-items.result.now in
    let ty = c.first_type-ty.result in
    one_more h t xs c.loop-at.at c.entry-item.result (option_map (λ t. type_of t.now) ty) c.is_some.result c.in_ok-content.content c.loop-at.placing c.add.new.self
    (subst (λ (ys : List EntryAt). AreEntries ys h.entries) (sym c.as_slice-entry-items.ensures) a)
    (slice_get_read xs (length xs) c.loop-at.at c.entry-item.result refl c.loop-at-test.true c.entry-item.is)
    (λ e there. c.first_type-ty.ensures ∙ ap (λ ms. read_type ms c.loop-at.at) c.as_slice.ensures ∙ r c.loop-at.at e there)
    c.in_ok-content.ensures
    (c.is_some.ensures ∙ sym (some_of_map (λ t. type_of t.now) ty))
    c.in_ok-add.ensures.over c.in_ok-add.ensures.large c.in_ok-add.ensures.cells (c.loop-at.invariant h t a r)

pub returns : goal.returns
returns c = λ h t a r.
    let xs = c.as_slice-entry-items.result.now in
    entries_end h t xs c.loop-at.at c.loop-at.placing (subst (λ (ys : List EntryAt). AreEntries ys h.entries) (sym c.as_slice-entry-items.ensures) a)
    (omega (arith, c.loop-at-test.false, c.loop-at.auto.at-end)) (c.loop-at.invariant h t a r)
