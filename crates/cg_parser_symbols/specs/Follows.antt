-- When a reader over trees up to a depth follows one over whole trees.
use Rattle.std.specs.Prelude.{◌≡◌, Option, Some, None}
use Rattle.cg_base.specs.Reader.{Reader}
use Rattle.cg_parser_symbols.specs.Symbols.{Seen}

abbrev pub option_map : {X Y : Type 0} → (X → Y) → Option X → Option Y
option_map h None = None
option_map h (Some x) = Some (h x)

-- whatever the one does, the other does with what its states and trees stand for
pub record Follows {State Held Tree Kept : Type 0} (plain : Reader State Seen Tree) (bounded : Reader Held Seen Kept) (held : State → Held) (kept : Tree → Kept) : Type 0 where
  pub begins : bounded.begin ≡ held plain.begin
  pub steps : (s : State) (t : Seen) → bounded.step (held s) t ≡ held (plain.step s t)
  pub opens : (s : State) → bounded.is_open (held s) ≡ plain.is_open s
  pub finishes : (s : State) → bounded.finish (held s) ≡ option_map kept (plain.finish s)
