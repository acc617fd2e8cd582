-- What stands on the right of an assignment, in a frame of slots.
use Rattle.std.specs.Prelude.{ℕ, List, [], ◌∷◌, cond, nat_eq, Option, Some, None}
use Rattle.cg_base.specs.declared.kind.Word.TheVariants.{U8}
use Rattle.cg_cmachine_resolve.specs.declared.line.Action.{Action}
use Rattle.cg_cmachine_resolve.specs.declared.line.Action.TheVariants as action
use Rattle.cg_cmachine_resolve.specs.declared.line.Right.{Right}
use Rattle.cg_cmachine_resolve.specs.declared.line.Right.TheVariants as right
use Rattle.cg_cmachine_def.specs.Operands.{Value, address_in, word_in}
use Rattle.cg_cmachine_def.specs.Operations.{flag, word_value, converted, computed, flipped}
use Rattle.cg_cmachine_def.specs.Outcomes.{Judged, ok, no, on, State, Outcome, done, lift}
use Rattle.cg_ctree.specs.declared.why.Why.TheVariants.{KindsDiffer}
use Rattle.cg_cmachine_values.specs.declared.place.Operand.{Operand}
use Rattle.cg_cmachine_values.specs.declared.place.Place.{Place}
use Rattle.cg_cmachine_values.specs.Values.{AreWithin, IsOperandWithin, IsWithin, judged, write_place}
use Rattle.cg_heap.specs.declared.cell.Scalar.{Scalar}
use Rattle.cg_heap.specs.Stored.{Stored}

-- a word of any width
abbrev pub word_at : Stored → List Scalar → Operand → Judged ℕ
word_at m us o = on (judged m us o) word_in

abbrev pub plain_at : Stored → List Scalar → Right → Judged Value
plain_at m us (right.Operand o) = judged m us o
plain_at m us (right.Convert w o) = on (word_at m us o) (λ k. ok (converted w k))
plain_at m us (right.Binary outer inner o l r) = on (word_at m us l) (λ a. on (word_at m us r) (λ b. computed outer inner o a b))
plain_at m us (right.Flip outer inner o) = on (word_at m us o) (λ k. ok (flipped outer inner k))
plain_at m us (right.IsNull o) = on (judged m us o) (λ v. on (address_in v) (λ p. ok (word_value U8 (flag (nat_eq p 0)))))
plain_at m us _ = no KindsDiffer

-- an assignment of a value to a place: the slots of the frame; where it is stuck, the store of the state stands
abbrev pub put_at : List Scalar → Place → Value → State → ℕ → Outcome (List Scalar)
put_at us place v s left = lift s.store (write_place s.store us place v) (λ w. done w.slots (record { store = w.store; made = s.made; freed = s.freed }) left)

-- the block of the first case of a number
abbrev pub first_case : ℕ → List (ℕ × ℕ) → Option ℕ
first_case k [] = None
first_case k (e ∷ es) = cond (nat_eq k e.0) (Some e.1) (first_case k es)

-- the operands stand within a frame of so many slots
abbrev pub IsRightWithin : ℕ → Right → Type 0
IsRightWithin n (right.Operand o) = IsOperandWithin n o
IsRightWithin n (right.Convert w o) = IsOperandWithin n o
IsRightWithin n (right.Binary outer inner op l r) = IsOperandWithin n l × IsOperandWithin n r
IsRightWithin n (right.Flip outer inner o) = IsOperandWithin n o
IsRightWithin n (right.IsNull o) = IsOperandWithin n o
IsRightWithin n (right.Call c os) = AreWithin n os.items
IsRightWithin n (right.New o name shape) = IsOperandWithin n o

abbrev pub IsActionWithin : ℕ → Action → Type 0
IsActionWithin n (action.Assign p r) = IsWithin n p × IsRightWithin n r
IsActionWithin n (action.If o i j) = IsOperandWithin n o
IsActionWithin n (action.While o i) = IsOperandWithin n o
IsActionWithin n (action.Switch o es) = IsOperandWithin n o
IsActionWithin n (action.Call c os) = AreWithin n os.items
IsActionWithin n (action.Return o) = IsOperandWithin n o
