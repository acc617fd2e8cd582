-- The laws of splits.
use Rattle.std.specs.Prelude.{◌≡◌, ◌⊎◌, ℕ, ◌<◌, false, Some, None, List, [], length}
use Rattle.cg_base.specs.declared.kind.Kinds.{Kinds}
use Rattle.cg_base.specs.Types.{Tau}
use Rattle.cg_core.specs.declared.derivation.Mark.{Mark}
use Rattle.cg_core.specs.declared.term.Seen.{Seen as Observer}
use Rattle.cg_typing.specs.Contexts.{Context, look, first, second, Splits, shares}

-- each present entry is present on one side at least
abbrev pub SplitsLoseNothing : Type 0
SplitsLoseNothing =
    (vars : List Kinds) (observers : List Observer) (marks : List Mark) (g : Context) → Splits vars observers marks g
    → (i : ℕ) (t : Tau) → i < length g → look g i ≡ Some t → (look (first marks g) i ≡ Some t) ⊎ (look (second marks g) i ≡ Some t)

-- without observers an entry that can't be shared is gone on one side
abbrev pub LinearGoesOneWay : Type 0
LinearGoesOneWay =
    (vars : List Kinds) (marks : List Mark) (g : Context) → Splits vars [] marks g
    → (i : ℕ) (t : Tau) → i < length g → look g i ≡ Some t → shares vars t ≡ false → (look (first marks g) i ≡ None) ⊎ (look (second marks g) i ≡ None)
