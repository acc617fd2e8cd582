-- The operands of resolved statements stand within the frame.
use Rattle.std.proofs.Common.{List}
use Rattle.cg_cmachine_running.specs.Flat.{IsActionWithin, IsRightWithin}
use Rattle.cg_cmachine_resolve.specs.declared.line.Action.{Action}
use Rattle.cg_cmachine_resolve.specs.declared.line.Action.TheVariants as action
use Rattle.cg_cmachine_resolve.specs.declared.line.Right.{Right}
use Rattle.cg_cmachine_resolve.specs.declared.line.Right.TheVariants as right
use Rattle.cg_cmachine_resolve.specs.Lines.{DoesForm, IsRight, Whole}
use Rattle.cg_cmachine_resolve.specs.Scopes.{Scope, total}
use Rattle.cg_ctree.specs.declared.tree.CCase.{CCase}
use Rattle.cg_ctree.specs.declared.tree.CRhs.{CRhs}
use Rattle.cg_ctree.specs.declared.tree.CRhs.TheVariants.{Opnd, Conv, Binary, Flip, IsNull, Call, New}
use Rattle.cg_ctree.specs.declared.tree.CStmt.{CStmt, CStmt-F}
use Rattle.cg_ctree.specs.declared.tree.CStmt.TheOpen as form

module _ (w : Whole) (vs : Scope) where
  -- the operands of what stands on the right
  pub right_within : (e : CRhs) (e' : Right) → IsRight w vs e e' → IsRightWithin (total vs) e'
  right_within (Opnd o) (right.Operand q) d = d.within
  right_within (Conv k o) (right.Convert k' q) d = (d.1).within
  right_within (Binary outer inner op l r') (right.Binary outer' inner' op' q q') d = ((d.3).within, (d.4).within)
  right_within (Flip outer inner o) (right.Flip outer' inner' q) d = (d.2).within
  right_within (IsNull o) (right.IsNull q) d = d.within
  right_within (Call f os) (right.Call c qs) d = (d.1).within
  right_within (New o x) (right.New q name shape) d = (d.0).within
  right_within _ _ d = absurd d

module _ (w : Whole) (vs : Scope) (blocks : List (List CStmt)) where
  -- the operands of an action
  pub does_within : (f : CStmt-F CStmt CCase) (a : Action) → DoesForm w vs blocks f a → IsActionWithin (total vs) a
  does_within (form.Assign t e) (action.Assign q e') d = ((d.0).within, right_within w vs e e' d.1)
  does_within (form.If o x y) (action.If q i j) d = (d.0).within
  does_within (form.While o x) (action.While q i) d = (d.0).within
  does_within (form.Switch o cs) (action.Switch q es) d = (d.0).within
  does_within (form.Call f os) (action.Call c qs) d = (d.1).within
  does_within (form.Return o) (action.Return q) d = d.within
  does_within _ _ d = absurd d
