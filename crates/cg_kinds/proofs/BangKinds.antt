-- An observed type may be shared and dropped.
use Rattle.std.proofs.Common.{◌≡◌, true, List}
use Rattle.cg_base.specs.declared.kind.Kinds.{Kinds}
use Rattle.cg_base.specs.Types.{Tau}
use Rattle.cg_kinds.proofs.Laws.{bang_free}
use Rattle.cg_kinds.specs.Kinds.{bang, kinds}

pub bang_shares : (vs : List Kinds) (t : Tau) → (kinds vs (bang t)).share ≡ true
bang_shares vs t = (bang_free vs t).1

pub bang_drops : (vs : List Kinds) (t : Tau) → (kinds vs (bang t)).drop ≡ true
bang_drops vs t = (bang_free vs t).0
