-- Derivations that get one part after another.
use Rattle.std.specs.Prelude.{◌≡◌, Result, IfOk}
use Rattle.cg_base.specs.declared.memory.Memory.{Memory}
use Rattle.cg_core.specs.declared.derivation.Deriv.{Deriv}
use Rattle.cg_core.specs.Derivations.{Derivation, Derivations, derivation, derivation_of, done, part}

-- one more behind those that there are
abbrev pub behind : Derivations → Derivation → Derivations
behind done d = part d done
behind (part e es) d = part e (behind es d)

abbrev pub with_last : Derivation → Derivation → Derivation
with_last (derivation node strings parts) d = derivation node strings (behind parts d)

-- what was made, where there was memory for it, stands for this one
abbrev pub Derives : Result Deriv Memory → Derivation → Type 0
Derives made d = IfOk made (λ tree. derivation_of tree ≡ d)
