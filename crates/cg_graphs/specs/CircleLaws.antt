-- The laws of orders and circles.
use Rattle.std.specs.Prelude.{ℕ, ◌<◌, List, length}
use Rattle.cg_graphs.specs.Circles.{IsFirstCircle, NoCircle, IsOrder}

-- where there is an order, there is no circle
abbrev pub OrderedHasNoCircle : Type 0
OrderedHasNoCircle = (edges : List (List ℕ)) (order : List ℕ) → IsOrder edges order → NoCircle edges

-- the first node that mentions itself is one
abbrev pub CircleIsAtNode : Type 0
CircleIsAtNode = (edges : List (List ℕ)) (i : ℕ) → IsFirstCircle edges i → i < length edges
