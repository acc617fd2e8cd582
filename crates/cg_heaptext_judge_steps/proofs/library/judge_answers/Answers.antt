use Rattle.std.proofs.Common.{true, false, map, Ok, sym, ◌∙◌}
use Rattle.cg_base.specs.Types.{to_taus, type_of}
use Rattle.cg_heaptext_def.specs.Trees.{answers}
use Rattle.cg_heaptext_judge_steps.proofs.Within.{allocator_told}
use Rattle.cg_heaptext_judge_steps.proofs.library.judge_answers.Goals as goal

pub returns-then-is_allocator : goal.returns-then-is_allocator
returns-then-is_allocator c = λ p bs s.
    allocator_told c.args.name.now (to_taus (map type_of c.args.args.now)) p bs true (Ok tt) (sym c.if-is_allocator.true ∙ c.is_allocator.ensures) tt

pub returns-else-is_allocator : goal.returns-else-is_allocator
returns-else-is_allocator c = λ p bs s.
    allocator_told c.args.name.now (to_taus (map type_of c.args.args.now)) p bs false c.misfit_cell.result (sym c.if-is_allocator.false ∙ c.is_allocator.ensures) (c.misfit_cell.ensures (answers p bs) s)
