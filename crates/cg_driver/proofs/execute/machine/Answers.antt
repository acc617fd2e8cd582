use Rattle.std.proofs.Common.{map, subst, sym, arith, ◌∙◌}
use Rattle.cg_base.specs.Types.{type_of}
use Rattle.cg_ctree.specs.Spells.{CSpells}
use Rattle.cg_driver_laws.specs.Laws.{copies_in}
use Rattle.cg_heaptext_contents.specs.Placings.{pair_of}
use Rattle.cg_driver.specs.Executed.{GivesAlike, the_argument}
use Rattle.cg_driver.specs.Externs.{no_extern, none_is_lawful_extern}
use Rattle.cg_driver.specs.Judged.{functions_in}
use Rattle.cg_driver_text.specs.Filled.{filled, no_cells, unlinked}
use Rattle.cg_driver.proofs.Executing.{gives_alike, machined}
use Rattle.cg_driver.proofs.execute.machine.Goals as goal

pub run_on-requires-clause-few : goal.run_on-requires-clause-few
run_on-requires-clause-few c =
    let g = c.requires.gives in
    let least = (c.more_budget.ensures _ g.3 0 c.args.cost _ _ _ g.6).0 in
    let most = g.4 in
    omega (arith, least, most)

pub run_on-requires-clause-placeable : goal.run_on-requires-clause-placeable
run_on-requires-clause-placeable c = c.requires.gives.5.placeable

pub run_on-requires-clause-plain : goal.run_on-requires-clause-plain
run_on-requires-clause-plain c = c.requires.gives.5.can.ty.typed.plain_result

pub run_on-requires-clause-ends : goal.run_on-requires-clause-ends
run_on-requires-clause-ends c =
    let g = c.requires.gives in
    let m = c.in_ok-text.ensures.meant in (
      m.program,
      g.2,
      subst (λ b. CSpells b m.program) (sym (c.deref.ensures.value ∙ c.in_ok-text.ensures.text)) m.spelled,
      subst (λ n. GivesAlike (unlinked m.program) n c.args.start.arg (filled (map pair_of c.args.start.cells) no_cells) (type_of c.args.ty.now) g.2 c.args.cost) (sym c.in_ok-function.ensures)
          (gives_alike c.entries_run.ensures no_extern (none_is_lawful_extern c.none_are_linked.ensures) c.args.checked.now c.args.list.now c.requires.ready m
          c.args.chosen.at c.args.chosen.place g.3 c.args.cost g.0 (type_of c.args.ty.now) (the_argument c.args.start.cells c.args.start.arg g.1) g.2 g.5 g.6),
    )

pub returns : goal.returns
returns c argument v w steps few ready gives =
    let m = c.in_ok-text.ensures.meant in
    machined no_extern (functions_in c.args.checked.now) (copies_in c.args.checked.now c.args.list.now) m c.in_ok-function.function c.args.chosen.place (type_of c.args.ty.now) c.args.start.arg
    (filled (map pair_of c.args.start.cells) no_cells) w c.args.cost c.in_ok-function.ensures c.run_on.result
    (c.run_on.ensures m.program w (subst (λ b. CSpells b m.program) (sym (c.deref.ensures.value ∙ c.in_ok-text.ensures.text)) m.spelled)
    (subst (λ n. GivesAlike (unlinked m.program) n c.args.start.arg (filled (map pair_of c.args.start.cells) no_cells) (type_of c.args.ty.now) w c.args.cost) (sym c.in_ok-function.ensures)
    (gives_alike c.entries_run.ensures no_extern (none_is_lawful_extern c.none_are_linked.ensures) c.args.checked.now c.args.list.now c.requires.ready m
    c.args.chosen.at c.args.chosen.place steps c.args.cost argument (type_of c.args.ty.now) (the_argument c.args.start.cells c.args.start.arg v) w ready gives)))
