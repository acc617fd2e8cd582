-- Statements, and where they end, as equations.
use Rattle.std.proofs.Common.{◌≡◌, ℕ, List, [], ◌∷◌, ◌++◌, refl, sym, ap, ◌∙◌}
use Rattle.cg_cmachine_builtins.specs.Called.{state_of}
use Rattle.cg_cmachine_resolve.specs.declared.code.Position.{Position}
use Rattle.cg_cmachine_resolve.specs.declared.line.Callee.{Callee}
use Rattle.cg_cmachine_resolve.specs.declared.line.Line.{Line}
use Rattle.cg_cmachine_resolve.specs.declared.line.Right.{Right}
use Rattle.cg_cmachine_resolve.specs.declared.line.Right.TheVariants as right
use Rattle.cg_cmachine_resolve.specs.Resolutions.{IsLine, Resolution, lines_at, next}
use Rattle.cg_cmachine_def.specs.Operands as operands
use Rattle.cg_cmachine_def.specs.Operands.{Value, scalars_of}
use Rattle.cg_cmachine_def.specs.Outcomes.{State, Outcome, done, stuck, needs, lift}
use Rattle.cg_cmachine_def.specs.Runs.{Flow, back, goes, onward}
use Rattle.cg_ctree.specs.declared.why.Why.TheVariants.{NoReturn}
use Rattle.cg_cmachine_values.specs.declared.place.Operand.{Operand}
use Rattle.cg_cmachine_values.specs.declared.place.Place.{Place}
use Rattle.cg_heap.specs.Stored.{Stored}
use Rattle.cg_cmachine_running.specs.declared.machine.Frame.{Frame}
use Rattle.cg_cmachine_running.specs.declared.machine.Kont.{Kont}
use Rattle.cg_cmachine_running.specs.declared.machine.Kont.TheVariants.{After, Return}
use Rattle.cg_cmachine_running.specs.declared.machine.Machine.{Machine}
use Rattle.cg_cmachine_running.specs.Flat.{plain_at, put_at}
use Rattle.cg_cmachine_values.specs.declared.fault.RunFault.{RunFault}
use Rattle.cg_cmachine_values.specs.declared.fault.RunFault.TheVariants.{Stuck, Budget, Memory}
use Rattle.cg_heap.specs.declared.cell.Scalar.{Scalar}
use Rattle.std.specs.Prelude.{Err}
use Rattle.cg_cmachine_builtins.specs.declared.changes.Changes.{Changes}
use Rattle.cg_cmachine_running.specs.Machine.{Asked, Cont, Ends, Went, IsTyped, block, by_names, lay_at, landed, on_kont, waits}
use Rattle.cg_cmachine_running.specs.Statements.{assigns}
use Rattle.cg_cmachine_running.proofs.Stands.{block_needs, block_none}
use Rattle.cg_cmachine_running.proofs.Steps.{waits_needs, waits_none, waits_push, waits_stuck}

module _ (r : Resolution) (asked : Asked) (n : ℕ) where
  -- what waits is taken
  pub waits_pop : (fs gs : List Kont) (f : Kont) (g : ℕ) (o : Outcome Flow) → gs ≡ fs ++ f ∷ [] → on_kont r asked n f (waits r asked n fs) g o ≡ waits r asked n gs g o
  waits_pop fs gs f g o e = sym (ap (λ z. waits r asked n z g o) e ∙ ap (λ k. k g o) (waits_push r asked n fs f))

  -- statements end
  pub end_after : (fs gs : List Kont) (b i f : ℕ) (fr : operands.Frame) (s : State) (left : ℕ) → gs ≡ fs ++ After b i ∷ []
      → waits r asked n fs f (block r asked n (record { function = f; block = b; index = i }) fr s left) ≡ waits r asked n gs f (done (goes fr) s left)
  unfolding on_kont
  end_after fs gs b i f fr s left e = waits_pop fs gs (After b i) f (done (goes fr) s left) e

  pub end_return : (fs gs : List Kont) (saved : Frame) (f : ℕ) (fr : operands.Frame) (s : State) (left : ℕ) → gs ≡ fs ++ Return saved ∷ []
      → waits r asked n gs f (done (goes fr) s left) ≡ stuck NoReturn s.store
  unfolding on_kont
  end_return fs gs saved f fr s left e = sym (waits_pop fs gs (Return saved) f (done (goes fr) s left) e) ∙ waits_stuck r asked n fs saved.at.function NoReturn s.store

  pub end_last : (gs : List Kont) (f : ℕ) (fr : operands.Frame) (s : State) (left : ℕ) → gs ≡ [] → waits r asked n gs f (done (goes fr) s left) ≡ stuck NoReturn s.store
  end_last gs f fr s left e = waits_none r asked n gs f (done (goes fr) s left) e

  -- a value is returned
  pub back_after : (k : Cont) (b i f : ℕ) (us : List _) (s : State) (left : ℕ) → on_kont r asked n (After b i) k f (done (back us) s left) ≡ k f (done (back us) s left)
  unfolding on_kont
  back_after k b i f us s left = refl

  pub back_return : (k : Cont) (fr : Frame) (f : ℕ) (v : Value) (s : State) (left : ℕ) → IsTyped (lay_at r f) v
      → k fr.at.function (onward (landed r asked n fr (done v s left)) (block r asked n (next fr.at))) ≡ on_kont r asked n (Return fr) k f (done (back (scalars_of v)) s left)
  unfolding on_kont
  back_return k fr f v s left h = ap (λ z. k fr.at.function (onward (landed r asked n fr (done z s left)) (block r asked n (next fr.at)))) h.typed

  -- an assignment of other than a call or `cg_new`
  pub assigns_plain : (m : Machine) (store : Stored) (place : Place) (e : Right) → ((c : Callee) (os : _) → e ≡ right.Call c os → ⊥) → ((o : Operand) (name : _) (shape : _) → e ≡ right.New o name shape → ⊥)
      → by_names r asked n m.frame.at.function (lift store (plain_at store m.frame.slots.items e) (λ v. put_at m.frame.slots.items place v (state_of store m.changes) m.left))
      ≡ assigns r asked n m store place e
  assigns_plain m store place (right.Operand o) h i = refl
  assigns_plain m store place (right.Convert w o) h i = refl
  assigns_plain m store place (right.Binary w k op l o) h i = refl
  assigns_plain m store place (right.Flip w k o) h i = refl
  assigns_plain m store place (right.IsNull o) h i = refl
  assigns_plain m store place (right.Call c os) h i = absurd (h c os refl)
  assigns_plain m store place (right.New o name shape) h i = absurd (i o name shape refl)

  -- the statements at hand
  pub first_none : (fs : List Kont) (at : Position) (fr : operands.Frame) (s : State) (left : ℕ) → lines_at r at ≡ []
      → waits r asked n fs at.function (done (goes fr) s left) ≡ waits r asked n fs at.function (block r asked n at fr s left)
  first_none fs at fr s left e = ap (waits r asked n fs at.function) (sym (block_none r asked n at fr s left e))

  pub first_needs : (fs : List Kont) (at : Position) (fr : operands.Frame) (s : State) (left : ℕ) (line : Line) → IsLine r at line → left ≡ 0
      → waits r asked n fs at.function (block r asked n at fr s left) ≡ needs s.store
  first_needs fs at fr s left line h e =
      ap (λ l. waits r asked n fs at.function (block r asked n at fr s l)) e
      ∙ ap (waits r asked n fs at.function) (block_needs r asked n at line fr s h) ∙ waits_needs r asked n fs at.function s.store

  -- what a step that fails says of the run
  pub ends_went : {A : Type 0} (of : A → Value) (o p : Outcome (List Scalar)) (m : Machine) (store : Stored) (c : Changes) (left : ℕ) (fault : RunFault) → p ≡ o → Went r asked n p m store (Err fault)
      → Ends of o store c left (Err fault)
  ends_went of o p m store c left (Stuck why) h e = sym h ∙ e
  ends_went of o p m store c left Budget h e = sym h ∙ e
  ends_went of o p m store c left Memory h e = tt

pub ruleset statement_steps = (waits_stuck, end_after, end_return, end_last, back_after)
