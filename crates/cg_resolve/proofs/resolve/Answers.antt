use Rattle.std.proofs.Common.{rules, ◌≡◌, map, Ok, sym, ap, ◌∙◌, subst}
use Rattle.cg_resolve_declared.specs.Declarations.{entries_of}
use Rattle.cg_core_def.specs.Lawful.{IsLawfulKernel}
use Rattle.cg_resolve_laws.proofs.Kernel.{desugared_lawful}
use Rattle.cg_resolve_def.specs.Shaped.{IsShaped}
use Rattle.cg_surface.specs.Programs.{program_of, entry_of}
use Rattle.cg_resolve_def.specs.Desugar.{NamesStand}
use Rattle.cg_resolve.specs.Answers.{Answers}
use Rattle.cg_resolve.proofs.AnswerSteps.{handed_on, order_answers, take_answers, stand, count_answers, size_answers, depth_answers, kernel_answers}
use Rattle.cg_resolve.proofs.resolve.Goals as goal

pub returns-in_err-order-clause-answers : goal.returns-in_err-order-clause-answers
returns-in_err-order-clause-answers c =
    let whole : entries_of c.in_ok-declared.declared ≡ program_of c.args.program.now = c.in_ok-declared.ensures.items ∙ ap (map entry_of) c.as_slice.ensures in
    subst (λ entries. Answers entries c.from_residual-in_err-order.result) whole
    (handed_on (entries_of c.in_ok-declared.declared) c.in_err-order.field-0.0 c.from_residual-in_err-order.result c.from_residual-in_err-order.ensures.1
    (order_answers (entries_of c.in_ok-declared.declared) c.in_err-order.field-0.0 (search rules) c.in_err-order.ensures))

pub returns-in_err-check_takes-clause-answers : goal.returns-in_err-check_takes-clause-answers
returns-in_err-check_takes-clause-answers c =
    let whole : entries_of c.in_ok-declared.declared ≡ program_of c.args.program.now = c.in_ok-declared.ensures.items ∙ ap (map entry_of) c.as_slice.ensures in
    subst (λ entries. Answers entries c.from_residual-in_err-check_takes.result) whole
    (handed_on (entries_of c.in_ok-declared.declared) _ c.from_residual-in_err-check_takes.result c.from_residual-in_err-check_takes.ensures.1
    (take_answers (entries_of c.in_ok-declared.declared) c.in_err-check_takes.field-0.0 c.in_ok-order.order.items c.in_ok-check_names.ensures c.in_ok-order.ensures c.in_err-check_takes.ensures))

pub returns-in_err-check_counts-clause-answers : goal.returns-in_err-check_counts-clause-answers
returns-in_err-check_counts-clause-answers c =
    let whole : entries_of c.in_ok-declared.declared ≡ program_of c.args.program.now = c.in_ok-declared.ensures.items ∙ ap (map entry_of) c.as_slice.ensures in
    let names : NamesStand (entries_of c.in_ok-declared.declared) =
    stand (entries_of c.in_ok-declared.declared) c.in_ok-order.order.items c.in_ok-check_names.ensures c.in_ok-order.ensures (search rules) in
    subst (λ entries. Answers entries c.from_residual-in_err-check_counts.result) whole
    (handed_on (entries_of c.in_ok-declared.declared) c.in_err-check_counts.field-0.0 c.from_residual-in_err-check_counts.result c.from_residual-in_err-check_counts.ensures.1
    (count_answers (entries_of c.in_ok-declared.declared) c.in_err-check_counts.field-0.0 names c.in_err-check_counts.ensures))

pub returns-in_err-synonyms-clause-answers : goal.returns-in_err-synonyms-clause-answers
returns-in_err-synonyms-clause-answers c =
    let whole : entries_of c.in_ok-declared.declared ≡ program_of c.args.program.now = c.in_ok-declared.ensures.items ∙ ap (map entry_of) c.as_slice.ensures in
    let names : NamesStand (entries_of c.in_ok-declared.declared) =
    stand (entries_of c.in_ok-declared.declared) c.in_ok-order.order.items c.in_ok-check_names.ensures c.in_ok-order.ensures c.in_ok-check_takes.ensures in
    subst (λ entries. Answers entries c.from_residual-in_err-synonyms.result) whole
    (handed_on (entries_of c.in_ok-declared.declared) _ c.from_residual-in_err-synonyms.result c.from_residual-in_err-synonyms.ensures.1
    (size_answers (entries_of c.in_ok-declared.declared) c.in_err-synonyms.field-0.0 names c.in_ok-check_counts.ensures c.in_err-synonyms.ensures))

pub returns-in_err-kernel-clause-answers : goal.returns-in_err-kernel-clause-answers
returns-in_err-kernel-clause-answers c =
    let whole : entries_of c.in_ok-declared.declared ≡ program_of c.args.program.now = c.in_ok-declared.ensures.items ∙ ap (map entry_of) c.as_slice.ensures in
    let names : NamesStand (entries_of c.in_ok-declared.declared) =
    stand (entries_of c.in_ok-declared.declared) c.in_ok-order.order.items c.in_ok-check_names.ensures c.in_ok-order.ensures c.in_ok-check_takes.ensures in
    subst (λ entries. Answers entries c.from_residual-in_err-kernel.result) whole
    (handed_on (entries_of c.in_ok-declared.declared) _ c.from_residual-in_err-kernel.result c.from_residual-in_err-kernel.ensures.1
    (depth_answers (entries_of c.in_ok-declared.declared) c.in_err-kernel.field-0.0 names c.in_ok-check_counts.ensures c.in_ok-synonyms.ensures.0 c.in_err-kernel.ensures))

pub returns-clause-answers : goal.returns-clause-answers
returns-clause-answers c =
    let whole : entries_of c.in_ok-declared.declared ≡ program_of c.args.program.now = c.in_ok-declared.ensures.items ∙ ap (map entry_of) c.as_slice.ensures in
    let names : NamesStand (entries_of c.in_ok-declared.declared) =
    stand (entries_of c.in_ok-declared.declared) c.in_ok-order.order.items c.in_ok-check_names.ensures c.in_ok-order.ensures c.in_ok-check_takes.ensures in
    subst (λ entries. Answers entries (Ok c.in_ok-kernel.field-0)) whole
    (kernel_answers (entries_of c.in_ok-declared.declared) c.in_ok-kernel.field-0 names c.in_ok-check_counts.ensures c.in_ok-synonyms.ensures.0 c.in_ok-kernel.ensures)

pub returns-clause-lawful : goal.returns-clause-lawful
returns-clause-lawful c = λ shaped.
    let whole : entries_of c.in_ok-declared.declared ≡ program_of c.args.program.now = c.in_ok-declared.ensures.items ∙ ap (map entry_of) c.as_slice.ensures in
    subst IsLawfulKernel (sym c.in_ok-kernel.ensures.1)
    (desugared_lawful (entries_of c.in_ok-declared.declared) c.in_ok-order.order.items (subst IsShaped (sym whole) shaped) c.in_ok-check_names.ensures c.in_ok-order.ensures c.in_ok-check_counts.ensures.1)
