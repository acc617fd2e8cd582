-- A turn that fails after others have read: what the reader lost in all.
use Rattle.std.proofs.Common.{◌≡◌, ℕ, ◌+◌, ◌<◌, List, ◌++◌, Err, length, length-append, arith}
use Rattle.std.specs.declared.option.Option.{Option}
use Rattle.std.specs.Io.KnownBytes.{Consumes}
use Rattle.std.proofs.KnownBytes.{Consumes-trans, Consumes-kept}
use Rattle.cg_outside.specs.declared.outside.FileFault.{FileFault}
use Rattle.cg_outside.specs.declared.outside.FileFault.TheVariants.{Failed, Memory}
use Rattle.cg_cli.specs.Loops.{ReadsTurn, ReadsFront}

pub failed_turn : (most room : ℕ) (old mid new : Option (List ℕ)) (before after : List ℕ) (fault : FileFault) → length before + room ≡ most + 1
    → 0 < room → Consumes old mid before → ReadsTurn room mid new before after (Err fault) → ReadsFront most old new (Err fault)
failed_turn most room old mid new before after Failed fits some lost kept = (before, omega arith, Consumes-kept _ _ _ _ lost kept)
failed_turn most room old mid new before after Memory fits some lost (more, long, lost_more) =
    (before ++ more, omega (arith, length-append before more), Consumes-trans _ _ _ _ _ lost lost_more)
