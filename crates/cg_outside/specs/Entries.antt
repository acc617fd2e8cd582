-- What a list of files holds: of two entries with one name the first counts.
use Rattle.std.specs.Prelude.{ℕ, List, map, Vec}
use Rattle.std.specs.declared.alloc.Global.{Global}
use Rattle.std.specs.FinMap.{from_entries}
use Rattle.cg_outside.specs.Held.{Held}

-- the names with their bytes
abbrev pub entries_of : List (List ℕ × Vec ℕ Global) → List (List ℕ × List ℕ)
entries_of files = map (λ f. (f.0, f.1.items)) files

-- the map of these files; of two with one name it has the first
abbrev pub held_of : List (List ℕ × Vec ℕ Global) → Held
held_of files = from_entries (entries_of files)
