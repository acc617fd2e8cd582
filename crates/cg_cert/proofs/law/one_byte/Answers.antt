use Rattle.cg_cert.proofs.OneByte.{one_byte, no_byte}
use Rattle.cg_cert.proofs.law.one_byte.Goals as goal

pub returns : goal.returns
returns c = λ bytes n a. ((λ m b. one_byte bytes n m a b), (λ cert text. no_byte bytes cert n text a))
