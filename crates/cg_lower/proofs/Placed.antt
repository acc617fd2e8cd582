-- Each instance and each arrow type has its place in the order, and nothing else.
use Rattle.std.proofs.Common.{◌≡◌, ℕ, ◌+◌, ◌-◌, ◌<◌, nat_lt, Bool, true, false, List, [], length, map, replicate, refl, ap, ◌∙◌, subst, arith, if◌then◌else◌}
use Rattle.std.proofs.lemmas.Bool.{le-ltb, lt-ltb, ltb-false, ltb-true}
use Rattle.std.proofs.lemmas.List.{length-append, length-map, length-replicate}
use Rattle.std.specs.List.{Contains}
use Rattle.cg_lower.specs.Calls.{calls_in, calls_of, nodes_called}
use Rattle.cg_lower.specs.Collected.{Copy}
use Rattle.cg_lower_def.specs.Functions.{Item, of_arrow, of_instance}
use Rattle.cg_lower_def.specs.Lowered.{Whole}
use Rattle.cg_lower_def.specs.Simulated.{IsWithin}
use Rattle.cg_graphs.proofs.Standing.{has_nodes}
use Rattle.cg_graphs.specs.Ranks.{in_order}
use Rattle.cg_update.specs.Calls.{Program}
use Rattle.cg_lower.specs.Programs.{item_of, items_in}
use Rattle.cg_lower.proofs.Lists.{contains_mapped, mapped_only}

-- ---- items of nodes

pub arrow_item : (arrows j : ℕ) → j < arrows → item_of arrows j ≡ of_arrow j
arrow_item arrows j h = ap (λ b. if b then of_arrow j else of_instance (j - arrows)) (lt-ltb j arrows h)

instance_item : (arrows k : ℕ) → item_of arrows (arrows + k) ≡ of_instance k
instance_item arrows k =
    ap (λ b. if b then of_arrow (arrows + k) else of_instance (arrows + k - arrows)) (le-ltb (arrows + k) arrows (omega arith)) ∙ ap of_instance (behind arrows k)
  where
    behind : (n k : ℕ) → n + k - n ≡ k
    behind n k = omega arith

module _ (whole : Whole) (copies : List Copy) where
  -- a node for each arrow type and each instance
  graph_size : length (calls_in whole copies) ≡ length whole.arrows + length copies
  graph_size =
      length-append (replicate (length whole.arrows) []) (map (λ (c : Copy). nodes_called whole (calls_of whole c)) copies)
      ∙ ap (λ n. n + length (map (λ (c : Copy). nodes_called whole (calls_of whole c)) copies)) (length-replicate (length whole.arrows) [])
      ∙ ap (λ n. length whole.arrows + n) (length-map copies (λ (c : Copy). nodes_called whole (calls_of whole c)))

  node_stands : (i : ℕ) → i < length whole.arrows + length copies → Contains (items_in whole copies) (item_of (length whole.arrows) i)
  node_stands i h =
      contains_mapped (item_of (length whole.arrows)) (in_order (calls_in whole copies)) i ((has_nodes (calls_in whole copies)).stands i (omega (arith, h, graph_size)))

  -- an instance, and an arrow type
  pub instance_stands : (k : ℕ) → k < length copies → Contains (items_in whole copies) (of_instance k)
  instance_stands k h = subst (Contains (items_in whole copies)) (instance_item (length whole.arrows) k) (node_stands (length whole.arrows + k) (omega (arith, h)))

  pub arrow_stands : (j : ℕ) → j < length whole.arrows → Contains (items_in whole copies) (of_arrow j)
  arrow_stands j h = subst (Contains (items_in whole copies)) (arrow_item (length whole.arrows) j h) (node_stands j (omega (arith, h)))

  module _ (p : Program) (size : length copies ≡ length p.list) where
    node_within : (i : ℕ) → i < length whole.arrows + length copies → IsWithin p whole (item_of (length whole.arrows) i)
    node_within i h = by_test (nat_lt i (length whole.arrows)) refl
      where
        by_test : (b : Bool) → nat_lt i (length whole.arrows) ≡ b → IsWithin p whole (if b then of_arrow i else of_instance (i - length whole.arrows))
        by_test true e = ltb-true i (length whole.arrows) e
        by_test false e = let behind = ltb-false i (length whole.arrows) e in omega (arith, h, size, behind)

    -- nothing else stands there
    pub items_within : (i : Item) → Contains (items_in whole copies) i → IsWithin p whole i
    items_within i c =
        mapped_only (item_of (length whole.arrows)) (IsWithin p whole) (in_order (calls_in whole copies)) i
        (λ n d. node_within n (let h = (has_nodes (calls_in whole copies)).only n d in omega (arith, h, graph_size))) c
