use Rattle.std.proofs.Common.{arith}
use Rattle.std.proofs.lemmas.List.{map_push}
use Rattle.std.proofs.lemmas.List.FromFn.{map-range_with_len_more}
use Rattle.cg_typing.specs.Holds.{cores_in, kept_at}
use Rattle.cg_typing.specs.Kept.{maybe_core}
use Rattle.cg_driver_entry.specs.Entries.{users_in}
use Rattle.cg_driver_entry.proofs.mentions.mentions.Goals as goal

pub loop-at-preserved : goal.loop-at-preserved
loop-at-preserved c =
    let h = map-range_with_len_more (λ i. users_in (maybe_core (kept_at (cores_in c.args.checked.now) i))) 0 c.loop-at.at c.loop-at.at (omega arith) in
    grind (arith, h, map_push)
