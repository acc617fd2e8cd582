-- What the search for an order answers.
use Rattle.std.specs.Prelude.{ℕ, List, map, Result, Ok, Err, ⊤}
use Rattle.std.specs.Global.{Vec}
use Rattle.cg_graphs.specs.declared.fault.NoOrder.{NoOrder}
use Rattle.cg_graphs.specs.declared.fault.NoOrder.TheVariants.{Circle, Memory}
use Rattle.cg_graphs.specs.Circles.{IsFirstCircle, IsOrder}

-- the lists that vectors hold
abbrev pub lists : List (Vec ℕ) → List (List ℕ)
lists vectors = map (λ v. v.items) vectors

-- an order of all nodes, or the first node that mentions itself, or want of memory
abbrev pub OrderSays : List (List ℕ) → Result (Vec ℕ) NoOrder → Type 0
OrderSays edges (Ok order) = IsOrder edges order.items
OrderSays edges (Err (Circle i)) = IsFirstCircle edges i
OrderSays edges (Err Memory) = ⊤
