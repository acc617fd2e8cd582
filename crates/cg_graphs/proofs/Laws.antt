-- Where there is an order there is no circle, and the first node that mentions itself is one of the graph.
use Rattle.std.proofs.Common.{◌≡◌, ℕ, zero, suc, ◌<◌, List, length, Some, sym, ap, ◌∙◌, arith}
use Rattle.std.specs.List.{slice_get}
use Rattle.std.proofs.lemmas.List.{get_or-take, length-take}
use Rattle.std.proofs.lemmas.Option.{slice_get-get_or}
use Rattle.cg_graphs.specs.Circles.{Mentions, Reaches, mentioned, onward, IsFirstCircle, NoCircle, IsOrder}
use Rattle.cg_graphs.proofs.Places.{reaches_in}

pub circle_at_node : (edges : List (List ℕ)) (i : ℕ) → IsFirstCircle edges i → i < length edges
circle_at_node edges i first = reaches_in edges i i first.circle

module _ (edges : List (List ℕ)) (order : List ℕ) (is : IsOrder edges order) where
  -- what a node mentions stands before it
  before : (i j k : ℕ) → Mentions edges i j → slice_get order k ≡ Some i → (l : ℕ) × (l < k) × (slice_get order l ≡ Some j)
  before i j k m at =
      let c = is.behind k i j at m in
      let le : c.0 < k = omega (arith, length-take k order, c.1) in
      let inside : c.0 < length order = omega (arith, length-take k order, c.1) in
      (c.0, le, slice_get-get_or order c.0 j inside ∙ ap Some (sym (get_or-take k order c.0 j le) ∙ c.2))

  -- so each node that it reaches stands before it, at each place where it stands
  reached_before : (i j : ℕ) → Reaches edges i j → (k : ℕ) → slice_get order k ≡ Some i → (l : ℕ) × (l < k) × (slice_get order l ≡ Some j)
  reached_before i _ (mentioned j m) k at = before i j k m at
  reached_before i _ (onward j n r m) k at =
      let one = reached_before i j r k at in
      let two = before j n one.0 m one.2 in
      (two.0, (let a = one.1 in let b = two.1 in omega arith), two.2)

  -- a circle would go down for ever
  down : (i : ℕ) → Reaches edges i i → (bound k : ℕ) → k < bound → slice_get order k ≡ Some i → ⊥
  down i r zero k lt at = absurd (omega arith)
  down i r (suc bound) k lt at = let next = reached_before i i r k at in down i r bound next.0 (let l = next.1 in omega arith) next.2

  pub order_has_no_circle : NoCircle edges
  order_has_no_circle i r =
      let c = is.whole i (reaches_in edges i i r) in
      down i r (suc c.0) c.0 (omega arith) (slice_get-get_or order c.0 i c.1 ∙ ap Some c.2)
