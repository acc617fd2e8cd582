use Rattle.cg_heap_laws.proofs.Aliased.{not_apart}
use Rattle.cg_heap_laws.proofs.law.aliased_is_not_apart.Goals as goal

pub returns : goal.returns
returns c = λ h x y ps qs s p. not_apart h x y ps qs p s
