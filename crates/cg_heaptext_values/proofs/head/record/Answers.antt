use Rattle.std.proofs.Common.{refl, true}
use Rattle.cg_heaptext_def.specs.Tokens.{sign}
use Rattle.cg_heaptext_values.proofs.Heads.{tells_record}
use Rattle.cg_heaptext_values.proofs.head.record.Goals as goal

pub returns : goal.returns
returns c x p o = tells_record c.args.lexer.now (record { token = sign x; place = p }) x (record { lexer = c.copy.result; more = true }) refl o refl c.copy.ensures
