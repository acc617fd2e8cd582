use Rattle.std.proofs.Common.{ap, sym, ◌∙◌}
use Rattle.cg_certcheck_def.specs.Tests.{is_present}
use Rattle.cg_certcheck_context.specs.Contexts.{entry_of}
use Rattle.cg_certcheck_context.proofs.context.is_present.Goals as goal

pub returns-in-Gone : goal.returns-in-Gone
returns-in-Gone c vars = sym (ap (λ e. is_present (entry_of vars e)) c.in-Gone.is) ∙ ap is_present (c.entry_at.ensures vars)

pub returns-in-Present : goal.returns-in-Present
returns-in-Present c vars = sym (ap (λ e. is_present (entry_of vars e)) c.in-Present.is) ∙ ap is_present (c.entry_at.ensures vars)

pub returns-in-Droppable : goal.returns-in-Droppable
returns-in-Droppable c vars = sym (ap (λ e. is_present (entry_of vars e)) c.in-Droppable.is) ∙ ap is_present (c.entry_at.ensures vars)

pub returns-in-Observed : goal.returns-in-Observed
returns-in-Observed c vars = sym (ap (λ e. is_present (entry_of vars e)) c.in-Observed.is) ∙ ap is_present (c.entry_at.ensures vars)
