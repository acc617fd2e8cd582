-- Depths of lists of which a part was emptied in place.
use Rattle.std.proofs.Common.{arith, ◌≡◌, ℕ, zero, suc, ◌≤◌, List, [], ◌∷◌, slice_index_or, slice_set}
use denote.Param.Weighed.{most}
use Rattle.cg_ctree.specs.declared.tree.COpnd.{COpnd}
use Rattle.cg_ctree.specs.declared.tree.CCase.{CCase, roll-CCase, size-CCase, the_lemmas}
use Rattle.cg_ctree.specs.declared.tree.CStmt.{CStmt, Switch, size-CStmt}

-- a list is no deeper with a shallower item in one's place
pub most-set : {X : Type 0} (depth : X → ℕ) (xs : List X) (i : ℕ) (x d : X)
    → depth x ≤ depth (slice_index_or xs i d) → most depth (slice_set xs i x) ≤ most depth xs
most-set depth [] i x d le = omega arith
most-set depth (y ∷ ys) zero x d le = omega arith
most-set depth (y ∷ ys) (suc i) x d le = let rest : most depth (slice_set ys i x) ≤ most depth ys = most-set depth ys i x d le in omega arith

-- no case is shallower than one without statements
pub case_depth : (case : CCase) (n : ℕ) (body : List CStmt) → body ≡ [] → size-CCase (roll-CCase record { tag = n; body = body }) ≤ size-CCase case
case_depth case n body empty = grind (arith, the_lemmas)

-- a switch is as deep as its cases let it be
pub switch_depth : (operand : COpnd) (before after : List CCase)
    → most size-CCase after ≤ most size-CCase before → size-CStmt (Switch operand after) ≤ size-CStmt (Switch operand before)
switch_depth operand before after le = grind (arith, the_lemmas)
