-- The laws of bang, of kinds and of shapes.
use Rattle.std.specs.Prelude.{◌≡◌, ℕ, ◌<◌, ◌≤◌, true, List, length, IsTrue, slice_index_or as get_or}
use Rattle.cg_base.specs.declared.kind.Kinds.{Kinds}
use Rattle.cg_base.specs.Types.{Tau}
use Rattle.cg_kinds.specs.Kinds.{kinds, bang, subst, width}
use Rattle.cg_kinds.specs.Shapes.{shape}

-- to observe twice is to observe once
abbrev pub BangIsIdempotent : Type 0
BangIsIdempotent = (t : Tau) → bang (bang t) ≡ bang t

-- what is observed may be dropped and shared
abbrev pub BangedIsDroppedAndShared : Type 0
BangedIsDroppedAndShared = (vars : List Kinds) (t : Tau) → ((kinds vars (bang t)).drop ≡ true) × ((kinds vars (bang t)).share ≡ true)

-- each permission of the second is one of the first
pub record AreKept (k l : Kinds) : Type 0 where
  pub drop : IsTrue l.drop → IsTrue k.drop
  pub share : IsTrue l.share → IsTrue k.share
  pub escape : IsTrue l.escape → IsTrue k.escape

-- each argument has the kinds of its variable
abbrev pub AreMet : List Kinds → List Tau → List Kinds → Type 0
AreMet vars args wants = (n : ℕ) (d : Tau) (e : Kinds) → n < length wants → AreKept (kinds vars (get_or args n d)) (get_or wants n e)

-- with such arguments, a type keeps the kinds that it had with its variables
abbrev pub SubstKeepsKinds : Type 0
SubstKeepsKinds =
    (vars : List Kinds) (args : List Tau) (wants : List Kinds) → length args ≡ length wants → AreMet vars args wants →
    (t : Tau) → width t ≤ length args → AreKept (kinds vars (subst args t)) (kinds wants t)

-- the shape of a shape is the shape
abbrev pub ShapeIsIdempotent : Type 0
ShapeIsIdempotent = (t : Tau) → shape (shape t) ≡ shape t

-- without type variables, what is observed has the shape that it had
abbrev pub BangedHasItsShape : Type 0
BangedHasItsShape = (t : Tau) → width t ≡ 0 → shape (bang t) ≡ shape t
