-- The derived equality of nodes is equality.
use Rattle.std.proofs.Common.{◌≡◌, true, rules, arith}
use Rattle.cg_inst_types.specs.declared.rows.Node.{Node}
use Rattle.cg_inst_types.specs.contracts.rows.NodePartialEq.TheImpl.{ghosts}

pub node_eq_sound : (a b : Node) → ghosts.eq a b ≡ true → a ≡ b
node_eq_sound a b e = grind (rules, arith)

pub node_eq_complete : (a b : Node) → a ≡ b → ghosts.eq a b ≡ true
node_eq_complete a b e = grind (rules, arith)
