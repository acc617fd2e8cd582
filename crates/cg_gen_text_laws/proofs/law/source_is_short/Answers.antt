use Rattle.cg_gen_text_laws.proofs.Sources.{short}
use Rattle.cg_gen_text_laws.proofs.law.source_is_short.Goals as goal

pub returns : goal.returns
returns c = short
