-- A fault of clap's is a list of words that calls for nothing.
use Rattle.std.proofs.Common.{◌≡◌, refl, List, [], ◌∷◌, Option, None, inl, inr, true}
use Rattle.clap.specs.Words.{HasKind, Kinds, Row, Text, is_simple_and_free, kind_of}
use Rattle.clap.proofs.OnLiterals.{clap_on_literals}
use Rattle.clap.specs.declared.error.Error.{Error}
use Rattle.clap.specs.declared.error.kind.ErrorKind.TheVariants.{OutOfMemory}
use Rattle.cg_driver_words.specs.Apps.{cogent_app}
use Rattle.cg_driver_words.specs.Matches.{command_from}

pub refused : (ks : Kinds) (s : Option (Text × List Row)) (e : Error) → HasKind ks e → (kind_of e ≡ OutOfMemory → ⊥) → None ≡ command_from ks s
refused [] s e (inl m) n = absurd (n m)
refused [] s e (inr a) n = absurd a
refused (k ∷ ks) s e h n = refl

pub simple : is_simple_and_free cogent_app ≡ true
unfolding clap_on_literals
simple = refl
