use Rattle.cg_gen_text_laws.proofs.Sources.{source_tokens, lexes}
use Rattle.cg_gen_text_laws.proofs.Readings.{source_read}
use Rattle.cg_gen_text_laws.proofs.law.source_is_spelled.Goals as goal

pub returns : goal.returns
returns c = λ n h. (source_tokens n, lexes n h, source_read n)
