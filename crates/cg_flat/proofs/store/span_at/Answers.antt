use Rattle.std.proofs.Common.{sym, ◌∙◌}
use Rattle.cg_flat.proofs.Maps.{held_at}
use Rattle.cg_flat.proofs.store.span_at.Goals as goal

pub returns : goal.returns
returns c = c.copied.ensures ∙ c.get.ensures.value ∙ sym (held_at c.args.spans.now.entries c.args.at)
