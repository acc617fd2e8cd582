use Rattle.std.proofs.Common.{◌≡◌, ◌+◌, ◌++◌, map, length, refl, ap, arith, rules}
use Rattle.cg_core.specs.Kernels.{the_term, the_field}
use Rattle.cg_surface.specs.declared.expr.SExpr.{the_lemmas}
use Rattle.cg_surface.specs.Exprs.{expr_of, alt_of, field_of}
use Rattle.cg_surface.specs.Patterns.{pattern_of}
use Rattle.cg_resolve_def.specs.Desugar.{depth_of}
use Rattle.cg_resolve_def.specs.Terms.{first_place}
use Rattle.cg_resolve_sites.specs.declared.frames.Site.{Site}
use Rattle.cg_resolve_sites.specs.Sites.{entry_of, scope_of, scope_in}
use Rattle.cg_resolve_sites.proofs.FrameLaws.{depth_pos}
use Rattle.cg_resolve_terms.specs.Terms.{term_in, payload_in, components_in, field_in}
use Rattle.cg_resolve_terms.proofs.ChoiceLaws.{turn_room, turn_more, turn_err, case_err_of}
use Rattle.cg_resolve_terms.proofs.LookLaws.{look_plain, look_err_at, branches_say}
use Rattle.cg_resolve_terms.proofs.TermForms.{let_says, let_err, put_err, if_says, test_err, branch_deep, other_deep, match_says, match_err}
use Rattle.cg_resolve_terms.proofs.TermLaws.{finish_ok, finish_err, observe_err, plain_ok, plain_err, observed_ok, observed_err, let_observed, small_more, payload_says, payload_err, payload_scope}
use Rattle.cg_resolve_terms.proofs.TermLists.{fields_start, fields_room, put_deep, put_more, tuple_more, tuple_err, record_more, record_err}
use Rattle.cg_resolve_terms.proofs.terms.+term.Goals as goal

pub term-returns-then-above-ge-TERM_LIMIT : goal.term-returns-then-above-ge-TERM_LIMIT
term-returns-then-above-ge-TERM_LIMIT t c = omega (arith, depth_pos (term_in c.args.names.now (scope_of c.args.scope.now) (expr_of c.args.expr.now)))

pub below_puts-returns-then-puts-above : goal.below_puts-returns-then-puts-above
below_puts-returns-then-puts-above t c = omega (arith, depth_pos (term_in c.args.names.now (scope_of c.args.scope.now) (expr_of c.args.whole.now)))

-- ---- at a site

pub finish-returns : goal.finish-returns
finish-returns t c =
    finish_ok c.args.site.now c.level.result (term_in c.args.names.now (scope_in c.args.site.now) (expr_of c.args.body.now)) _ c.in_ok-rest.rest c.in_ok-close.field-0 c.requires.fits c.level.ensures
    (ap (λ l. term_in c.args.names.now (scope_of l) (expr_of c.args.body.now)) c.as_slice.ensures.value) c.in_ok-rest.ensures c.in_ok-close.ensures

pub finish-returns-in_err-rest : goal.finish-returns-in_err-rest
finish-returns-in_err-rest t c =
    finish_err c.args.site.now c.level.result (term_in c.args.names.now (scope_in c.args.site.now) (expr_of c.args.body.now)) _ c.in_err-rest.field-0.0 c.from_residual.result c.level.ensures
    (ap (λ l. term_in c.args.names.now (scope_of l) (expr_of c.args.body.now)) c.as_slice.ensures.value) c.from_residual.ensures.1 c.in_err-rest.ensures

pub observe-returns-in_err-value : goal.observe-returns-in_err-value
observe-returns-in_err-value t c =
    observe_err c.args.site.now c.args.site.now c.args.node c.args.seen.now c.args.place (term_in c.args.names.now (scope_in c.args.site.now) (expr_of c.args.value.now)) _ (entry_of c.args.entry) _
    c.in_err-value.field-0.0 c.from_residual.result (ap (λ n. n + 1) c.level-above.ensures) (ap (λ l. term_in c.args.names.now (scope_of l) (expr_of c.args.value.now)) c.as_slice.ensures.value)
    c.from_residual.ensures.1 c.in_err-value.ensures

pub bind_plain-value_at-requires : goal.bind_plain-value_at-requires
bind_plain-value_at-requires t c = (omega (arith, c.decreases), (c.requires.names, (c.requires.fits, small_more _ c.under.ensures.small)))

pub bind_plain-returns : goal.bind_plain-returns
bind_plain-returns t c =
    plain_ok c.args.site.now c.bound_to.new.site (pattern_of c.args.pattern.now) (term_in c.args.names.now (scope_in c.args.site.now) (expr_of c.args.value.now)) c.under.result c.inner_place.result
    c.in_ok-value.value c.bound_to.result c.under.ensures.value c.inner_place.ensures c.in_ok-value.ensures c.bound_to.ensures

pub bind_plain-returns-in_err-value : goal.bind_plain-returns-in_err-value
bind_plain-returns-in_err-value t c =
    plain_err c.args.site.now c.args.site.now (pattern_of c.args.pattern.now) (term_in c.args.names.now (scope_in c.args.site.now) (expr_of c.args.value.now)) c.under.result
    c.in_err-value.field-0.0 c.from_residual.result c.under.ensures.value c.from_residual.ensures.1 c.in_err-value.ensures

pub bind_observed-returns : goal.bind_observed-returns
bind_observed-returns t c =
    let count : c.len-at.result ≡ length c.args.site.now.scope.items = search rules in
    observed_ok c.args.names.now c.args.site.now c.observe.new.site c.args.place c.args.bind.now c.bind_later.new.site c.inner_place-inner.result c.first_place.result
    (entry_of c.its_name-entry.result) c.len-at.result c.bind_later.result c.inner_place-inner.ensures c.its_name-entry.ensures count c.first_place.ensures
    c.in_ok-observe.ensures c.bind_later.ensures

pub bind_observed-returns-in_err-observe : goal.bind_observed-returns-in_err-observe
bind_observed-returns-in_err-observe t c =
    observed_err c.args.names.now c.args.site.now c.observe.new.site c.args.place c.args.bind.now c.inner_place-inner.result (entry_of c.its_name-entry.result)
    c.in_err-observe.field-0.0 c.from_residual.result c.inner_place-inner.ensures c.its_name-entry.ensures c.from_residual.ensures.1 c.in_err-observe.ensures

pub bind_let-returns-else-len-eq0 : goal.bind_let-returns-else-len-eq0
bind_let-returns-else-len-eq0 t c =
    let_observed c.args.names.now c.args.site.now c.bind_observed.new.site c.args.place c.args.bind.now c.bind_observed.result (omega arith) c.bind_observed.ensures

-- ---- lists

pub put_all-loop-field-preserved : goal.put_all-loop-field-preserved
put_all-loop-field-preserved t c = (
  put_more c.args.names.now (scope_of c.args.scope.now) c.args.place (the_term c.args.whole) c.as_slice-field-items.result.now c.loop-field.field-index c.field-item.result (omega arith) c.field-item.is
      c.loop-field.made c.in_ok-made.made c.in_ok-value.value c.loop-field.invariant.0 c.in_ok-value.ensures.0 c.in_ok-made.ensures,
  omega (arith, c.loop-field.invariant.1),
  omega (arith, c.loop-field.invariant.1, c.loop-field.invariant.2, c.in_ok-value.ensures.1, ap depth_of c.in_ok-value.ensures.0, ap depth_of c.in_ok-made.ensures),
)

pub put_all-returns-in_err-value : goal.put_all-returns-in_err-value
put_all-returns-in_err-value t c =
    rw (← c.as_slice-field-items.ensures)
    (put_deep c.args.names.now (scope_of c.args.scope.now) c.args.place (the_term c.args.whole) c.as_slice-field-items.result.now c.loop-field.field-index c.field-item.result (omega arith) c.field-item.is
    c.args.above c.loop-field.left c.in_err-value.field-0.0 _ c.loop-field.invariant.1 c.from_residual.ensures.1 c.in_err-value.ensures)

pub tuple_term-loop-item-init : goal.tuple_term-loop-item-init
tuple_term-loop-item-init t c = (
  ap (λ l. map the_field l ++ components_in c.args.names.now (scope_of c.args.scope.now) 0 (map expr_of c.as_slice-item-items.result.now)) c.new-fields.ensures,
  refl,
  fields_start c.new-fields.result c.args.above c.new-fields.ensures c.requires.above,
)

pub tuple_term-loop-item-preserved : goal.tuple_term-loop-item-preserved
tuple_term-loop-item-preserved t c = (
  tuple_more c.args.names.now (scope_of c.args.scope.now) c.as_slice-item-items.result.now c.loop-item.fields c.loop-item.item-index c.loop-item.index c.item-item.result (omega arith) c.item-item.is
      c.loop-item.invariant.1 c.loop-item.invariant.0 c.push.new.self (record { name = c.in_ok-name.name; term = c.in_ok-term.term }) c.in_ok-push.ensures.ok c.in_ok-name.ensures c.in_ok-term.ensures.0,
  omega (arith, c.loop-item.invariant.1),
  fields_room c.loop-item.fields c.push.new.self (record { name = c.in_ok-name.name; term = c.in_ok-term.term }) c.args.above c.in_ok-push.ensures.ok
      (omega (arith, c.in_ok-term.ensures.1, ap depth_of c.in_ok-term.ensures.0)) c.loop-item.invariant.2,
)

pub tuple_term-returns-in_err-term : goal.tuple_term-returns-in_err-term
tuple_term-returns-in_err-term t c =
    rw (← c.as_slice-item-items.ensures)
    (tuple_err c.args.names.now (scope_of c.args.scope.now) c.as_slice-item-items.result.now c.loop-item.fields c.loop-item.item-index c.loop-item.index c.item-item.result (omega arith) c.item-item.is
    c.loop-item.invariant.1 c.loop-item.invariant.0 c.args.place c.args.above c.in_err-term.field-0.0 _ c.from_residual-in_err-term.ensures.1 c.in_err-term.ensures)

pub record_term-loop-field-init : goal.record_term-loop-field-init
record_term-loop-field-init t c = (
  ap (λ l. map the_field l ++ map (field_in c.args.names.now (scope_of c.args.scope.now)) (map field_of c.as_slice-field-items.result.now)) c.new-made.ensures,
  fields_start c.new-made.result c.args.above c.new-made.ensures c.requires.above,
)

pub record_term-loop-field-preserved : goal.record_term-loop-field-preserved
record_term-loop-field-preserved t c = (
  record_more c.args.names.now (scope_of c.args.scope.now) c.as_slice-field-items.result.now c.loop-field.made c.loop-field.field-index c.field-item.result (omega arith) c.field-item.is
      c.loop-field.invariant.0 c.push.new.self (record { name = c.in_ok-name.name; term = c.in_ok-term.term }) c.in_ok-push.ensures.ok c.in_ok-name.ensures c.in_ok-term.ensures.0,
  fields_room c.loop-field.made c.push.new.self (record { name = c.in_ok-name.name; term = c.in_ok-term.term }) c.args.above c.in_ok-push.ensures.ok
      (omega (arith, c.in_ok-term.ensures.1, ap depth_of c.in_ok-term.ensures.0)) c.loop-field.invariant.1,
)

pub record_term-returns-in_err-term : goal.record_term-returns-in_err-term
record_term-returns-in_err-term t c =
    rw (← c.as_slice-field-items.ensures)
    (record_err c.args.names.now (scope_of c.args.scope.now) c.as_slice-field-items.result.now c.loop-field.made c.loop-field.field-index c.field-item.result (omega arith) c.field-item.is
    c.loop-field.invariant.0 c.args.place c.args.above c.in_err-term.field-0.0 _ c.from_residual-in_err-term.ensures.1 c.in_err-term.ensures)

-- ---- forms with parts of their own

pub put_term-returns-in_err-whole : goal.put_term-returns-in_err-whole
put_term-returns-in_err-whole t c =
    put_err c.args.names.now c.args.place (scope_of c.args.scope.now) c.args.whole.now c.args.fields.now c.args.above c.len.result c.in_err-whole.field-0.0 _ c.len.ensures
    c.from_residual.ensures.1 c.in_err-whole.ensures

pub let_term-returns : goal.let_term-returns
let_term-returns t c =
    let_says c.args.names.now c.args.place c.args.scope.now c.args.above c.in_ok-site.site c.bind_all.new.site c.in_ok-site.ensures.frames c.in_ok-site.ensures.above c.in_ok-site.ensures.scope
    c.args.binds.now c.args.body.now _ c.in_ok-bind_all.ensures c.finish.ensures

pub let_term-returns-in_err-bind_all : goal.let_term-returns-in_err-bind_all
let_term-returns-in_err-bind_all t c =
    let_err c.args.names.now c.args.place c.args.scope.now c.args.above c.in_ok-site.site c.bind_all.new.site c.in_ok-site.ensures.frames c.in_ok-site.ensures.above c.in_ok-site.ensures.scope
    c.args.binds.now c.args.body.now c.in_err-bind_all.field-0.0 _ c.from_residual-in_err-bind_all.ensures.1 c.in_err-bind_all.ensures

pub if_term-returns : goal.if_term-returns
if_term-returns t c =
    if_says c.args.names.now c.args.place c.args.scope.now c.args.above c.in_ok-site.site c.look_into.new.site c.in_ok-site.ensures.frames c.in_ok-site.ensures.above c.in_ok-site.ensures.scope
    c.args.test.now c.args.seen.now c.args.yes.now c.args.no.now c.in_ok-test.test _ c.in_ok-test.ensures c.branches_term.ensures

pub if_term-returns-in_err-test : goal.if_term-returns-in_err-test
if_term-returns-in_err-test t c =
    test_err c.args.names.now c.args.place c.args.scope.now c.args.above c.in_ok-site.site c.look_into.new.site c.in_ok-site.ensures.frames c.in_ok-site.ensures.above c.in_ok-site.ensures.scope
    c.args.test.now c.args.seen.now c.args.yes.now c.args.no.now c.in_err-test.field-0.0 _ c.from_residual-in_err-test.ensures.1 c.in_err-test.ensures

pub branches_term-returns : goal.branches_term-returns
branches_term-returns t c =
    branches_say c.args.site.now c.args.place (the_term c.args.test)
    (term_in c.args.names.now (scope_in c.args.site.now) (expr_of c.args.yes.now)) (term_in c.args.names.now (scope_in c.args.site.now) (expr_of c.args.no.now))
    c.in_ok-yes.yes c.in_ok-no.no c.in_ok-whole.whole c.in_ok-close.field-0 c.requires.fits c.requires.test c.in_ok-yes.ensures c.in_ok-no.ensures c.in_ok-whole.ensures c.in_ok-close.ensures

pub branches_term-returns-in_err-yes : goal.branches_term-returns-in_err-yes
branches_term-returns-in_err-yes t c =
    branch_deep c.args.site.now c.args.place (the_term c.args.test)
    (term_in c.args.names.now (scope_in c.args.site.now) (expr_of c.args.yes.now)) (term_in c.args.names.now (scope_in c.args.site.now) (expr_of c.args.no.now))
    c.in_err-yes.field-0.0 _ c.from_residual.ensures.1 c.in_err-yes.ensures

pub branches_term-returns-in_err-no : goal.branches_term-returns-in_err-no
branches_term-returns-in_err-no t c =
    other_deep c.args.site.now c.args.place (the_term c.args.test)
    (term_in c.args.names.now (scope_in c.args.site.now) (expr_of c.args.yes.now)) (term_in c.args.names.now (scope_in c.args.site.now) (expr_of c.args.no.now))
    c.in_err-no.field-0.0 _ c.from_residual-in_err-no.ensures.1 c.in_err-no.ensures

pub match_term-returns : goal.match_term-returns
match_term-returns t c =
    match_says c.args.names.now c.args.place c.args.scope.now c.args.above c.in_ok-site.site c.look_into.new.site c.in_ok-site.ensures.frames c.in_ok-site.ensures.above c.in_ok-site.ensures.scope
    c.args.value.now c.args.seen.now c.args.choices.now c.under_choices-stands.result c.under_choices-stands.ensures.value
    c.in_ok-subject.subject _ c.in_ok-subject.ensures c.match_all.ensures

pub match_term-returns-in_err-subject : goal.match_term-returns-in_err-subject
match_term-returns-in_err-subject t c =
    match_err c.args.names.now c.args.place c.args.scope.now c.args.above c.in_ok-site.site c.look_into.new.site c.in_ok-site.ensures.frames c.in_ok-site.ensures.above c.in_ok-site.ensures.scope
    c.args.value.now c.args.seen.now c.args.choices.now c.under_choices-stands.result c.under_choices-stands.ensures.value
    c.in_err-subject.field-0.0 _ c.from_residual-in_err-subject.ensures.1 c.in_err-subject.ensures

-- ---- what is looked into

pub look_into-returns-then-len-eq0 : goal.look_into-returns-then-len-eq0
look_into-returns-then-len-eq0 t c =
    look_plain c.args.stands c.args.site.now c.args.place (first_place (expr_of c.args.value.now)) (term_in c.args.names.now (scope_in c.args.site.now) (expr_of c.args.value.now)) c.args.seen.now
    c.value_at.result (omega arith) c.requires.fits c.value_at.ensures

pub look_into-returns-in_err-observe : goal.look_into-returns-in_err-observe
look_into-returns-in_err-observe t c =
    look_err_at c.args.stands c.args.site.now c.observe.new.site c.args.place (first_place (expr_of c.args.value.now)) c.first_place-first.result
    (term_in c.args.names.now (scope_in c.args.site.now) (expr_of c.args.value.now)) c.args.seen.now c.in_err-observe.field-0.0 c.from_residual.result c.first_place-first.ensures (omega arith)
    c.from_residual.ensures.1 c.in_err-observe.ensures

-- ---- alternatives

pub match_all-open_case-requires : goal.match_all-open_case-requires
match_all-open_case-requires t c = (
  search (rules, the_lemmas),
  (
    c.requires.names,
    (
      c.loop-choice.invariant.0.fits,
      turn_room c.args.names.now c.args.site.now (map alt_of c.as_slice-choice-items.result.now) (the_term c.args.subject) c.loop-choice.site (the_term c.loop-choice.subject) c.as_slice-choice-items.result.now
          c.loop-choice.choice-index c.loop-choice.left c.choice-item.result (omega arith) c.choice-item.is c.loop-choice.invariant.1 c.loop-choice.invariant.0 (omega arith),
    ),
  ),
)

pub match_all-loop-choice-preserved : goal.match_all-loop-choice-preserved
match_all-loop-choice-preserved t c =
    let count : c.len-at.result ≡ length c.loop-choice.site.scope.items = search rules in (
      turn_more c.args.names.now c.args.site.now (map alt_of c.as_slice-choice-items.result.now) (the_term c.args.subject) c.loop-choice.site (the_term c.loop-choice.subject) c.as_slice-choice-items.result.now
          c.loop-choice.choice-index c.loop-choice.left c.choice-item.result (omega arith) c.choice-item.is c.loop-choice.invariant.1 c.loop-choice.invariant.0
          c.open_case.new.site (the_term c.variable_term-subject.result) c.len-at.result (omega arith) c.variable_term-subject.ensures count c.in_ok-open_case.ensures,
      omega (arith, c.loop-choice.invariant.1),
    )

pub match_all-returns-in_err-open_case : goal.match_all-returns-in_err-open_case
match_all-returns-in_err-open_case t c =
    rw (← c.as_slice-choice-items.ensures)
    (turn_err c.args.names.now c.args.site.now (map alt_of c.as_slice-choice-items.result.now) (the_term c.args.subject) c.loop-choice.site (the_term c.loop-choice.subject) c.as_slice-choice-items.result.now
    c.loop-choice.choice-index c.loop-choice.left c.choice-item.result (omega arith) c.choice-item.is c.loop-choice.invariant.1 c.loop-choice.invariant.0
    c.in_err-open_case.field-0.0 _ (omega arith) c.from_residual.ensures.1 c.in_err-open_case.ensures)

pub open_case-returns-in_err-first : goal.open_case-returns-in_err-first
open_case-returns-in_err-first t c =
    case_err_of c.args.site.now c.args.site.now c.args.names.now c.args.choice.now (the_term c.args.subject) _ _ c.in_err-first.field-0.0 _ c.as_slice-scope.ensures.value (ap (λ n. n + 1) c.level-above.ensures)
    c.from_residual.ensures.1 c.in_err-first.ensures

pub payload-returns-then-above-ge-TERM_LIMIT : goal.payload-returns-then-above-ge-TERM_LIMIT
payload-returns-then-above-ge-TERM_LIMIT t c = omega (arith, depth_pos (payload_in c.args.names.now (pattern_of c.args.pattern.now) (scope_of c.args.scope.now) (expr_of c.args.body.now)))

pub payload-returns : goal.payload-returns
payload-returns t c =
    let pushed : Site = record { above = c.in_ok-site.site.above; frames = c.in_ok-site.site.frames; scope = c.push.new.self } in
    payload_says c.args.names.now pushed c.bind_later.new.site (pattern_of c.args.pattern.now) (expr_of c.args.body.now) c.args.scope.now (length c.args.scope.now) c.args.above c.inner_place.result
    c.in_ok-site.ensures.frames c.in_ok-site.ensures.above
    (payload_scope c.in_ok-site.site.scope.items c.push.new.self.items c.args.scope.now c.its_name.result (pattern_of c.args.pattern.now) c.in_ok-push.ensures.items c.in_ok-site.ensures.scope c.its_name.ensures)
    refl c.inner_place.ensures _ c.in_ok-bind_later.ensures c.finish.ensures

pub payload-returns-in_err-bind_later : goal.payload-returns-in_err-bind_later
payload-returns-in_err-bind_later t c =
    let pushed : Site = record { above = c.in_ok-site.site.above; frames = c.in_ok-site.site.frames; scope = c.push.new.self } in
    payload_err c.args.names.now pushed c.bind_later.new.site (pattern_of c.args.pattern.now) (expr_of c.args.body.now) c.args.scope.now (length c.args.scope.now) c.args.above c.inner_place.result
    c.in_ok-site.ensures.frames c.in_ok-site.ensures.above
    (payload_scope c.in_ok-site.site.scope.items c.push.new.self.items c.args.scope.now c.its_name.result (pattern_of c.args.pattern.now) c.in_ok-push.ensures.items c.in_ok-site.ensures.scope c.its_name.ensures)
    refl c.inner_place.ensures c.in_err-bind_later.field-0.0 _ c.from_residual-in_err-bind_later.ensures.1 c.in_err-bind_later.ensures
