use Rattle.std.proofs.Common.{◌≡◌, ◌++◌, drop, map}
use Rattle.cg_cmachine_layout.specs.Tables.{place_of, placed}
use Rattle.cg_cmachine_layout.proofs.sizes.parts.Given as goal

abbrev pub invariant-loop-member : goal.invariant-loop-member
invariant-loop-member l =
    map place_of l.parts.items ++ placed l.names l.sizes l.end (drop l.member-index l.members) ≡ placed l.names l.sizes 0 l.members
