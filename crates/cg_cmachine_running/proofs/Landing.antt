-- What a value that arrives at a statement does.
use Rattle.std.proofs.Common.{◌≡◌, ℕ, [], refl, sym, ap, ◌∙◌, subst}
use Rattle.cg_cmachine_running.proofs.Assigning.{assigned_is}
use Rattle.cg_cmachine_running.proofs.Layers.{form_of, lines_behind, stands_here}
use Rattle.cg_cmachine_running.proofs.Stands.{form_here}
use Rattle.cg_cmachine_running.specs.declared.machine.Machine.{Machine}
use Rattle.cg_cmachine_running.specs.Flat.{put_at}
use Rattle.cg_cmachine_running.specs.Machine.{Asked, IsFrame, block, by_names, calls, framed, landed_here, landing, lay_at, program, scope_at}
use Rattle.cg_cmachine_resolve.specs.declared.code.Position.{Position}
use Rattle.cg_cmachine_resolve.specs.declared.line.Action.{Action}
use Rattle.cg_cmachine_resolve.specs.declared.line.Action.TheVariants as action
use Rattle.cg_cmachine_resolve.specs.declared.line.Line.{Line}
use Rattle.cg_cmachine_resolve.specs.declared.line.Right.{Right}
use Rattle.cg_cmachine_resolve.specs.Lines.{DoesForm, IsWhole}
use Rattle.cg_cmachine_resolve.specs.Resolutions.{Resolution, IsLine, blocks_in, lines_at, next}
use Rattle.cg_cmachine_def.specs.Operands.{Value}
use Rattle.cg_cmachine_def.specs.Outcomes.{State, done}
use Rattle.cg_cmachine_def.specs.Runs.{goes, run_block}
use Rattle.cg_ctree.specs.declared.tree.CCase.{CCase}
use Rattle.cg_ctree.specs.declared.tree.CStmt.{CStmt, CStmt-F, out-CStmt}
use Rattle.cg_ctree.specs.declared.tree.CStmt.TheOpen as form
use Rattle.cg_ctree.specs.Trees.{also, block_of, to_block}
use Rattle.cg_cmachine_values.specs.declared.place.Place.{Place}

-- behind the last statement, and one further
pub block_past : (r : Resolution) (asked : Asked) (n : ℕ) (at : Position) → lines_at r at ≡ [] → block r asked n (next at) ≡ block r asked n at
unfolding block
block_past r asked n at e =
    ap (λ z. run_block (program r asked n) (calls r asked n) n (lay_at r at.function) (block_of z)) (lines_behind r at e ∙ sym e)

module _ (r : Resolution) (asked : Asked) (n : ℕ) (m : Machine) (v : Value) (s : State) (left : ℕ) where
  -- An assignment takes it.
  pub landed_put : (line : Line) (place : Place) (e : Right) → IsLine r m.frame.at line → IsFrame r m.frame → line.action ≡ action.Assign place e → IsWhole v
      → landed_here r asked n m (done v s left) ≡ by_names r asked n m.frame.at.function (put_at m.frame.slots.items place v s left)
  landed_put line place e h k is w =
      by_form (out-CStmt line.source.now)
      (subst (λ a. DoesForm r.whole (scope_at r m.frame.at.function) (blocks_in r m.frame.at.function) (out-CStmt line.source.now) a) is (stands_here r m.frame.at line h))
      (form_here r m.frame.at line h)
    where
      by_form : (f : CStmt-F CStmt CCase) → DoesForm r.whole (scope_at r m.frame.at.function) (blocks_in r m.frame.at.function) f (action.Assign place e)
          → block_of (lines_at r m.frame.at) ≡ also (form_of f) (block_of (lines_at r (next m.frame.at)))
          → landed_here r asked n m (done v s left) ≡ by_names r asked n m.frame.at.function (put_at m.frame.slots.items place v s left)
      by_form (form.Assign t e') d b = ap (λ z. landing r asked n m.frame z v s left) b ∙ assigned_is r asked n m s.store k.many t place d.0 v w s.store s left
      by_form _ d b = absurd d

  -- Any other statement lets it go.
  pub landed_past : (line : Line) → IsLine r m.frame.at line → ((place : Place) (e : Right) → line.action ≡ action.Assign place e → ⊥)
      → landed_here r asked n m (done v s left) ≡ done (goes (framed r m.frame)) s left
  landed_past line h other =
      by_form (out-CStmt line.source.now) line.action other (stands_here r m.frame.at line h) (form_here r m.frame.at line h)
    where
      by_form : (f : CStmt-F CStmt CCase) (a : Action) → ((place : Place) (e : Right) → a ≡ action.Assign place e → ⊥)
          → DoesForm r.whole (scope_at r m.frame.at.function) (blocks_in r m.frame.at.function) f a
          → block_of (lines_at r m.frame.at) ≡ also (form_of f) (block_of (lines_at r (next m.frame.at)))
          → landed_here r asked n m (done v s left) ≡ done (goes (framed r m.frame)) s left
      by_form (form.Assign t e') (action.Assign place e) other d b = absurd (other place e refl)
      by_form (form.If o x y) a other d b = ap (λ z. landing r asked n m.frame z v s left) b
      by_form (form.While o x) a other d b = ap (λ z. landing r asked n m.frame z v s left) b
      by_form (form.Switch o cs) a other d b = ap (λ z. landing r asked n m.frame z v s left) b
      by_form (form.Call f os) a other d b = ap (λ z. landing r asked n m.frame z v s left) b
      by_form (form.Return o) a other d b = ap (λ z. landing r asked n m.frame z v s left) b
      by_form _ _ other d b = absurd d

  -- Behind the last statement it goes too.
  pub landed_end : lines_at r m.frame.at ≡ [] → landed_here r asked n m (done v s left) ≡ done (goes (framed r m.frame)) s left
  unfolding to_block
  landed_end e = ap (λ z. landing r asked n m.frame (block_of z) v s left) e
