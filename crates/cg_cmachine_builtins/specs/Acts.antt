-- What a call of a built-in does once its operands are judged, and whether an assignment of a pointer can be done.
use Rattle.std.specs.Prelude.{ℕ, Bool, List, [], ◌∷◌, Option, Some, None, length}
use Rattle.cg_base.specs.declared.kind.Word.{Word}
use Rattle.cg_base.specs.declared.kind.Word.TheVariants.{U32}
use Rattle.cg_cmachine_def.specs.BuiltIns.{BuiltIn, free, create, free_array, length_of, get, put, Given, allocator, array_of, is_there, pointer_of, number_of, make_array, given_back, length_at, element_at, with_element_at, nothing, as_asked}
use Rattle.cg_cmachine_def.specs.Operands.{Value, address_in}
use Rattle.cg_cmachine_def.specs.Operations.{word_value}
use Rattle.cg_cmachine_def.specs.Outcomes.{Judged, ok, no, on, State, Outcome, done}
use Rattle.cg_ctree.specs.declared.why.Why.{Why}
use Rattle.cg_ctree.specs.declared.why.Why.TheVariants.{KindsDiffer}
use Rattle.cg_cmachine_builtins.specs.declared.act.Act as code
use Rattle.cg_cmachine_builtins.specs.declared.act.Act.TheVariants as act
use Rattle.cg_cmachine_builtins.specs.declared.room.Room.{Room}
use Rattle.cg_cmachine_builtins.specs.declared.room.Room.TheVariants as room
use Rattle.cg_heap.specs.declared.cell.Cell.{Cell}
use Rattle.cg_heap.specs.declared.cell.Cell.TheVariants.{Slots, Words, Answers}
use Rattle.cg_heap.specs.declared.cell.Fresh.{Fresh}
use Rattle.cg_heap.specs.Stored.{Stored, changed, with_element, with_fresh}

-- ---- what a call does

-- a cell is given back; an array is asked for, of an allocator; a value is given; or the store becomes this one
pub data Act : Type 0 where
  back : ℕ → Act
  array : Word → ℕ → ℕ → Act
  gives : Value → Act
  keeps : Stored → Act

-- what one of the code stands for, on a store
abbrev pub act_of : Stored → code.Act → Act
act_of m (act.Back p) = back p
act_of m (act.Array w q n) = array w q n
act_of m (act.Number w n) = gives (word_value w n)
act_of m (act.Element p i n) = keeps (changed (with_element i n) p m)
act_of m act.Nothing = keeps m

abbrev pub perform : Act → State → ℕ → Outcome Given
perform (back p) s left = given_back p s left
perform (array w q n) s left = make_array w q n s left
perform (gives v) s left = done (Some v) s left
perform (keeps m) s left = nothing s left m

-- the operands of a call, judged
abbrev pub acts : Stored → BuiltIn → Bool → List Value → Judged Act
acts m free wanted (q ∷ p ∷ []) =
    on (is_there m q) (λ _. on (is_there m p) (λ _. on (pointer_of allocator q) (λ _. on (address_in p) (λ a. on (as_asked wanted) (λ _. ok (back a))))))
acts m (free_array w) wanted (q ∷ p ∷ []) =
    on (is_there m q) (λ _. on (is_there m p) (λ _. on (pointer_of allocator q) (λ _. on (pointer_of (array_of w) p) (λ a. on (as_asked wanted) (λ _. ok (back a))))))
acts m (create w) wanted (q ∷ n ∷ []) =
    on (is_there m q) (λ _. on (pointer_of allocator q) (λ a. on (number_of U32 n) (λ k. ok (array w a k))))
acts m (length_of w) wanted (p ∷ []) =
    on (is_there m p) (λ _. on (pointer_of (array_of w) p) (λ a. ok (gives (word_value U32 (length_at a m)))))
acts m (get w) wanted (p ∷ i ∷ []) =
    on (is_there m p) (λ _. on (pointer_of (array_of w) p) (λ a. on (number_of U32 i) (λ k. on (element_at w a k m) (λ v. ok (gives v)))))
acts m (put w) wanted (p ∷ i ∷ v ∷ []) =
    on (is_there m p) (λ _. on (pointer_of (array_of w) p) (λ a. on (number_of U32 i) (λ k. on (number_of w v) (λ n. on (as_asked wanted) (λ _.
    on (with_element_at a k n m) (λ after. ok (keeps after)))))))
acts m _ wanted vs = no KindsDiffer

-- ---- whether an assignment can be done

-- why it can't
abbrev pub refusal : {A : Type 0} → Judged A → Option Why
refusal (ok a) = None
refusal (no why) = Some why

-- what a write asks of a cell
abbrev pub room_of : Option Cell → Room
room_of None = room.Absent
room_of (Some (Slots us)) = room.Slots (length us)
room_of (Some (Words ns)) = room.Closed
room_of (Some (Answers bs)) = room.Closed

-- a store with a cell that is made, if one is
abbrev pub with_made : Option Fresh → Stored → Stored
with_made None m = m
with_made (Some f) m = with_fresh f m
