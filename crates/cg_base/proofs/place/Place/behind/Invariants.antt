use Rattle.std.proofs.Common.{◌≡◌, drop}
use Rattle.cg_base.specs.Places.{place_after}
use Rattle.cg_base.proofs.place.Place.behind.Given as goal

abbrev pub invariant-loop-byte : goal.invariant-loop-byte
invariant-loop-byte l = place_after l.place (drop l.byte-index l.bytes) ≡ place_after l.fn.self l.bytes
