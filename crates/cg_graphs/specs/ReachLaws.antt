-- The law of what is reached.
use Rattle.std.specs.Prelude.{ℕ, Bool, List}
use Rattle.cg_graphs.specs.Reach.{AreReached}

-- for each graph and node there are marks of what is reached
abbrev pub MarksAreThere : Type 0
MarksAreThere = (edges : List (List ℕ)) (from : ℕ) → (marks : List Bool) × AreReached edges from marks
