-- The C of the library's functions does what the library does on heaps.
use Rattle.std.proofs.Common.{◌≡◌, ℕ, suc, ◌+◌, ◌*◌, ◌^◌, ◌<◌, ◌≤◌, ◌-◌, ◌&&◌, Bool, true, false, Option, Some, List, [], ◌∷◌, ◌++◌, cond, nat_le, length, replicate, get_or, refl, sym, ap, ◌∙◌, subst, arith, codes, IsTrue}
use Rattle.std.proofs.lemmas.Bool.{and_parts}
use Rattle.std.proofs.lemmas.List.{append-nil}
use Rattle.cg_base.specs.declared.fun.Lib.{Lib}
use Rattle.cg_base.specs.declared.fun.Lib.TheVariants.{New, Free, Create, FreeArray, Length, Get, Put}
use Rattle.cg_base.specs.declared.kind.Sigil.TheVariants.{R, W, U}
use Rattle.cg_base.specs.declared.kind.Word.{Word}
use Rattle.cg_base.specs.declared.kind.Word.TheVariants.{U8, U32}
use Rattle.cg_base.specs.Types.{Tau, word, arrow, abs, fields, none, more, Parts, end, part}
use Rattle.cg_base.specs.Words.{bits}
use Rattle.cg_cmachine_laws.proofs.LayoutLaws.{layout_unfolds}
use Rattle.cg_cmachine_def.specs.BuiltIns.{allocator, array_of, array_call, create, free, free_array, get, length_of, put, width_text}
use Rattle.cg_cmachine_def.specs.Layouts.{Layout, cell, pointer, layout, pointed, size}
use Rattle.cg_cmachine_def.specs.Operands.{Frame, judge, judge_all, typed}
use Rattle.cg_cmachine_def.specs.Operations.{word_value}
use Rattle.cg_cmachine_def.specs.Outcomes as runs
use Rattle.cg_cmachine_def.specs.Outcomes.{ok, done}
use Rattle.cg_cmachine_def.specs.Runs.{Linked}
use Rattle.cg_cmachine_def.specs.Targets.{with_scalars, write}
use Rattle.cg_ctree.specs.declared.tree.COpnd.{COpnd}
use Rattle.cg_ctree.specs.declared.tree.CRhs.{CRhs}
use Rattle.cg_ctree.specs.declared.tree.CRhs.TheVariants.{Call as called_by, New as made_by}
use Rattle.cg_ctree.specs.declared.tree.CStruct.{CStruct}
use Rattle.cg_ctree.specs.declared.tree.CTy.TheVariants as ty
use Rattle.cg_ctree.specs.Trees.{Stmt}
use Rattle.cg_heap.specs.Calls.{Out}
use Rattle.cg_heap.specs.declared.cell.Cell.TheVariants.{Answers}
use Rattle.cg_heap.specs.declared.cell.Fresh.{Fresh as Fresh'}
use Rattle.cg_heap.specs.declared.cell.Fresh.TheVariants.{Slots as FreshSlots, Words as FreshWords}
use Rattle.cg_heap.specs.declared.cell.Scalar.{Scalar}
use Rattle.cg_heap.specs.declared.cell.Scalar.TheVariants.{Unset, Word as NumberScalar, Address}
use Rattle.cg_heap.specs.Reps.{slots, slots_of_parts}
use Rattle.cg_heap.specs.Stored.{Stored, cell_at, changed, with_element, with_fresh, without_answer, without_cell}
use Rattle.cg_kinds.specs.Kinds.{bang, is_word}
use Rattle.cg_core_def.specs.Lawful.{library_arity}
use Rattle.cg_lib_heap.specs.Library.{freed_at, granted, kept, library_heap, next_at, words_at}
use Rattle.cg_eval_operations.specs.Iterators.{is_iterator}
use Rattle.cg_typing.specs.Functions.{are_good_arguments, asked_by_library, meets_asked, next_asked}
use Rattle.cg_typing.specs.Instances.{as_arguments}
use Rattle.cg_typing.specs.Library.{array, library_type, maybe, pair, state, triple}
use Rattle.cg_typing.specs.Parts.{all_parts_taken, all_taken, given_by, has_word_arrays, is_cell, taken_by}
use Rattle.cg_update.specs.Calls.{are_answers, has_cells, library, library_cost}
use Rattle.cg_update.specs.Machines.{is_machine}
use Rattle.cg_update.specs.Outcomes.{State, Outcome, no_result, gives, given}
use Rattle.cg_update.specs.Turns.{fields_in}
use Rattle.cg_value.specs.Fits.{most_elements}
use Rattle.cg_cgen_def.specs.Names.{struct_name}
use Rattle.cg_lower_def.specs.CTypes.{c_type, form, form_parts, record_struct, IsDeclared}
use Rattle.cg_cgen_def.specs.Places.{whole_argument, field_of_argument, Place, field, argument, argument_name, local, local_name, path, operand}
use Rattle.cg_lower_def.specs.LibraryCode.{low_fresh, low_library}
use Rattle.cg_cgen_def.specs.Bodies.{Low}
use Rattle.cg_lower_def.specs.Lowered.{Whole}
use Rattle.cg_lower_def.specs.Simulated.{as_run}
use Rattle.cg_lower_laws.proofs.Frames.{Is, Fresh, Keeps, is_kept, set_is}
use Rattle.cg_lower_laws.proofs.Inversions.{where_is, pay_for_is}
use Rattle.cg_lower_laws.proofs.Layouts.{lay, size_slots}
use Rattle.cg_lower_laws.proofs.LibraryAsks.{Asked, asked_none, asked_some}
use Rattle.cg_lower_laws.proofs.LibraryParts.{word_type, two_scalars, three_scalars, first_of_two, second_of_two, first_of_three, second_of_three, third_of_three, answers_are, slots_are, words_are, held_read, one_judged, two_judged, three_judged, address_value, new_address, after_made, after_none, struct_made, struct_none, array_made, array_none, create_callee, length_callee, get_callee, put_callee, free_array_callee, free_callee, after_free, free_called, free_array_called, length_called, get_called, put_called, element_below}
use Rattle.cg_lower_laws.proofs.Operands.{IsReadable, below_is, address_is, given_typed, write_whole}
use Rattle.cg_lower_laws.proofs.Runs.{Runs, runs_built, runs_done, runs_new}

-- what the statements of a function do: they leave its result at the place of its value, where it can be read
pub record LibraryRan (q : Linked) (l : Layout) (a : Low) (fr : Frame) (s s' : State) (result : Layout) (ws : List Scalar) (left rest : ℕ) : Type 0 where
  pub steps : ℕ
  pub frame : Frame
  pub within : steps + 32 * rest ≤ 32 * left + 16
  pub runs : Runs q l a.code fr (as_run s) steps frame (as_run s')
  pub keeps : Keeps frame a.value result ws
  pub readable : IsReadable result ws

-- the same of an outcome
abbrev RanTo : Linked → Layout → Low → Frame → State → Layout → ℕ → Outcome → Type 0
RanTo q l a fr s result left no_result = Unit {0}
RanTo q l a fr s result left (gives ws s' rest) = LibraryRan q l a fr s s' result ws left rest

-- a function that did what it gave on a heap, and took 6 steps at most beside its cost
finished : (q : Linked) (l : Layout) (a : Low) (fr frame : Frame) (s s' : State) (o : Out) (result : Layout) (ws : List Scalar) (cost left rest steps : ℕ)
    → given o s (left - cost) ≡ gives ws s' rest → cost ≤ left → steps ≤ cost + 6
    → Runs q l a.code fr (as_run s) steps frame (record { store = o.store; made = s.made ++ o.made; freed = s.freed ++ o.freed })
    → Keeps frame a.value result o.result → IsReadable result o.result
    → LibraryRan q l a fr s s' result ws left rest
finished q l a fr frame s s' o result ws cost left rest steps e enough few runs keeps readable =
    subst (RanTo q l a fr s result left) e
    (record { steps = steps; frame = frame; within = omega (arith, enough, few); runs = runs; keeps = keeps; readable = readable })

-- nothing was made or freed
nothing_made : (q : Linked) (l : Layout) (code : List Stmt) (fr frame : Frame) (s : State) (m : Stored) (t : runs.State) (steps : ℕ)
    → Runs q l code fr t steps frame (record { store = m; made = s.made; freed = s.freed })
    → Runs q l code fr t steps frame (record { store = m; made = s.made ++ []; freed = s.freed ++ [] })
nothing_made q l code fr frame s m t steps r = rw (append-nil s.made, append-nil s.freed) r

-- one was freed
one_freed : (q : Linked) (l : Layout) (code : List Stmt) (fr frame : Frame) (s : State) (m : Stored) (p : ℕ) (t : runs.State) (steps : ℕ)
    → Runs q l code fr t steps frame (record { store = m; made = s.made; freed = s.freed ++ p ∷ [] })
    → Runs q l code fr t steps frame (record { store = m; made = s.made ++ []; freed = s.freed ++ p ∷ [] })
one_freed q l code fr frame s m p t steps r = rw append-nil r

-- one was made
one_made : (q : Linked) (l : Layout) (code : List Stmt) (fr frame : Frame) (s : State) (m : Stored) (p : ℕ) (t : runs.State) (steps : ℕ)
    → Runs q l code fr t steps frame (record { store = m; made = s.made ++ p ∷ []; freed = s.freed })
    → Runs q l code fr t steps frame (record { store = m; made = s.made ++ p ∷ []; freed = s.freed ++ [] })
one_made q l code fr frame s m p t steps r = rw append-nil r

-- what has to be proved of a function that takes and gives values of these types
abbrev Claim : Lib → List Tau → Tau → Tau → Type 0
Claim lib args a b =
    (q : Linked) (whole : Whole) (l : Layout) (types : ℕ → Option Tau) (fr : Frame) (s s' : State) (us ws : List Scalar) (left rest : ℕ)
    → IsDeclared whole.numbered q.program.structs a → IsDeclared whole.numbered q.program.structs b
    → Is fr argument_name (layout q.program.structs (c_type whole.numbered a)) us → Fresh (layout q.program.structs) fr 0 (low_library whole lib args).locals
    → is_machine types a us ≡ true → library lib args us s left ≡ gives ws s' rest
    → LibraryRan q l (low_library whole lib args) fr s s' (layout q.program.structs (c_type whole.numbered b)) ws left rest

-- where the cells are there, and where the cost is paid
cells_there : (lib : Lib) (args : List Tau) (us : List Scalar) (s : State) (left : ℕ) (ws : List Scalar) (s' : State) (rest : ℕ)
    → library lib args us s left ≡ gives ws s' rest → has_cells lib args us s.store ≡ true
cells_there lib args us s left ws s' rest e = (where_is (has_cells lib args us s.store) _ ws s' rest e).0

paid : (lib : Lib) (args : List Tau) (us : List Scalar) (s : State) (left : ℕ) (ws : List Scalar) (s' : State) (rest : ℕ)
    → library lib args us s left ≡ gives ws s' rest
    → (library_cost lib us s.store ≤ left) × (given (library_heap lib args us s.store) s (left - library_cost lib us s.store) ≡ gives ws s' rest)
paid lib args us s left ws s' rest e =
    pay_for_is (library_cost lib us s.store) left (λ rest. given (library_heap lib args us s.store) s rest) ws s' rest (where_is (has_cells lib args us s.store) _ ws s' rest e).1

-- an array that is read
abbrev seen_array : Word → Tau
seen_array w = abs (codes "WordArray") (more (word w) none) R

-- scalars by their cells
two_are : (us : List Scalar) (u v x y : Scalar) → us ≡ u ∷ v ∷ [] → u ∷ [] ≡ x ∷ [] → v ∷ [] ≡ y ∷ [] → us ≡ x ∷ y ∷ []
two_are us u v x y e f g = cc

three_are : (us : List Scalar) (u v w x y z : Scalar) → us ≡ u ∷ v ∷ w ∷ [] → u ∷ [] ≡ x ∷ [] → v ∷ [] ≡ y ∷ [] → w ∷ [] ≡ z ∷ [] → us ≡ x ∷ y ∷ z ∷ []
three_are us u v w x y z e f g h = cc

-- ---- functions on arrays

-- how long an array is, at the address of one, and of any machine value
length_at : (q : Linked) (whole : Whole) (l : Layout) (w : Word) (fr : Frame) (s s' : State) (p : ℕ) (ws : List Scalar) (left rest : ℕ)
    → Is fr argument_name (array_of w) (Address p ∷ []) → Fresh (layout q.program.structs) fr 0 (ty.Word U32 ∷ [])
    → library Length (word w ∷ []) (Address p ∷ []) s left ≡ gives ws s' rest
    → LibraryRan q l (low_library whole Length (word w ∷ [])) fr s s' (cell U32) ws left rest
unfolding size
length_at q whole l w fr s s' p ws left rest is fresh e =
    let c = words_are w (cell_at s.store p) (cells_there Length (word w ∷ []) (Address p ∷ []) s left ws s' rest e) in
    let pay = paid Length (word w ∷ []) (Address p ∷ []) s left ws s' rest e in
    let n : ℕ = length (words_at p s.store) in
    let frame : Frame = with_scalars (local_name 0) (NumberScalar n ∷ []) fr in
    let read = held_read q.program.structs s.store fr argument [] (array_of w) (Address p ∷ []) (is_kept fr argument (array_of w) (Address p ∷ []) is) (p, refl) in
    finished q l (low_library whole Length (word w ∷ [])) fr frame s s' (kept (NumberScalar n ∷ []) s.store) (cell U32) ws 0 left rest 1 pay.1 pay.0 (omega arith)
    (nothing_made q l _ fr frame s s.store (as_run s) 1
    (runs_built q l (path (local 0) []) (array_call w (codes "length")) (length_of w) (operand whole_argument ∷ []) fr (as_run s) (as_run s)
    (typed (array_of w) (Address p ∷ []) ∷ []) (word_value U32 n) 0 (record { frame = frame; store = s.store })
    (length_callee q w) (one_judged q.program.structs s.store fr (operand whole_argument) (typed (array_of w) (Address p ∷ [])) read)
    (λ m. let zero_more : 0 + m ≡ m = omega arith in rw zero_more (length_called w p (words_at p s.store) (as_run s) m c.0))
    (write_whole whole.numbered q.program.structs s.store fr (local 0) (cell U32) (Unset ∷ []) (NumberScalar n ∷ []) (word_value U32 n) fresh.0 (given_typed (cell U32) (NumberScalar n ∷ [])))))
    (is_kept frame (local 0) (cell U32) (NumberScalar n ∷ []) (set_is fr (local_name 0) (cell U32) (Unset ∷ []) (NumberScalar n ∷ []) fresh.0 refl))
    (n, refl, c.1)

length_ran : (w : Word) → Claim Length (word w ∷ []) (seen_array w) (word U32)
unfolding is_machine
length_ran w q whole l types fr s s' us ws left rest da db is fresh machine e =
    let p = address_is us machine in
    length_at q whole l w fr s s' p.0 ws left rest (subst (λ z. Is fr argument_name (array_of w) z) p.1 is) fresh
    (subst (λ z. library Length (word w ∷ []) z s left ≡ gives ws s' rest) p.1 e)

-- an element that is read
get_at : (q : Linked) (whole : Whole) (l : Layout) (w : Word) (fr : Frame) (s s' : State) (p i : ℕ) (ws : List Scalar) (left rest : ℕ) → i < 2 ^ 32
    → Keeps fr (field_of_argument 0) (array_of w) (Address p ∷ []) → Keeps fr (field_of_argument 1) (cell U32) (NumberScalar i ∷ [])
    → Fresh (layout q.program.structs) fr 0 (ty.Word w ∷ [])
    → library Get (word w ∷ []) (Address p ∷ NumberScalar i ∷ []) s left ≡ gives ws s' rest
    → LibraryRan q l (low_library whole Get (word w ∷ [])) fr s s' (cell w) ws left rest
unfolding size
get_at q whole l w fr s s' p i ws left rest small first second fresh e =
    let us : List Scalar = Address p ∷ NumberScalar i ∷ [] in
    let c = words_are w (cell_at s.store p) (cells_there Get (word w ∷ []) us s left ws s' rest e) in
    let pay = paid Get (word w ∷ []) us s left ws s' rest e in
    let n : ℕ = get_or (words_at p s.store) i 0 in
    let frame : Frame = with_scalars (local_name 0) (NumberScalar n ∷ []) fr in
    finished q l (low_library whole Get (word w ∷ [])) fr frame s s' (kept (NumberScalar n ∷ []) s.store) (cell w) ws 0 left rest 1 pay.1 pay.0 (omega arith)
    (nothing_made q l _ fr frame s s.store (as_run s) 1
    (runs_built q l (path (local 0) []) (array_call w (codes "get")) (get w) (operand (field_of_argument 0) ∷ operand (field_of_argument 1) ∷ []) fr (as_run s) (as_run s)
    (typed (array_of w) (Address p ∷ []) ∷ word_value U32 i ∷ []) (word_value w n) 0 (record { frame = frame; store = s.store })
    (get_callee q w)
    (two_judged q.program.structs s.store fr (operand (field_of_argument 0)) (operand (field_of_argument 1)) (typed (array_of w) (Address p ∷ [])) (word_value U32 i)
    (held_read q.program.structs s.store fr argument (field 0 ∷ []) (array_of w) (Address p ∷ []) first (p, refl))
    (held_read q.program.structs s.store fr argument (field 1 ∷ []) (cell U32) (NumberScalar i ∷ []) second (i, refl, small)))
    (λ m. let zero_more : 0 + m ≡ m = omega arith in rw zero_more (get_called w p i (words_at p s.store) (as_run s) m c.0 c.2 small))
    (write_whole whole.numbered q.program.structs s.store fr (local 0) (cell w) (Unset ∷ []) (NumberScalar n ∷ []) (word_value w n) fresh.0 (given_typed (cell w) (NumberScalar n ∷ [])))))
    (is_kept frame (local 0) (cell w) (NumberScalar n ∷ []) (set_is fr (local_name 0) (cell w) (Unset ∷ []) (NumberScalar n ∷ []) fresh.0 refl))
    (n, refl, element_below w i (words_at p s.store) c.2)

get_ran : (w : Word) → Claim Get (word w ∷ []) (pair (seen_array w) (word U32)) (word w)
unfolding is_machine slots
get_ran w q whole l types fr s s' us ws left rest da db is fresh machine e =
    let two = two_scalars types (seen_array w) (word U32) us refl refl machine in
    let p = address_is (two.first ∷ []) two.is_first in
    let i = below_is (2 ^ 32) (two.second ∷ []) two.is_second in
    let are : us ≡ Address p.0 ∷ NumberScalar i.0 ∷ [] = two_are us two.first two.second (Address p.0) (NumberScalar i.0) two.are p.1 i.1 in
    let there = subst (λ z. Is fr argument_name (lay whole.numbered q.program.structs (pair (seen_array w) (word U32))) z) are is in
    get_at q whole l w fr s s' p.0 i.0 ws left rest i.2
    (first_of_two whole.numbered q.program.structs fr (seen_array w) (word U32) (Address p.0) (NumberScalar i.0) refl da there)
    (second_of_two whole.numbered q.program.structs fr (seen_array w) (word U32) (Address p.0) (NumberScalar i.0) refl refl da there)
    fresh (subst (λ z. library Get (word w ∷ []) z s left ≡ gives ws s' rest) are e)

-- an element that is written
put_at : (q : Linked) (whole : Whole) (l : Layout) (w : Word) (fr : Frame) (s s' : State) (p i n : ℕ) (ws : List Scalar) (left rest : ℕ) → i < 2 ^ 32 → n < 2 ^ bits w
    → Keeps fr (field_of_argument 0) (array_of w) (Address p ∷ []) → Keeps fr (field_of_argument 1) (cell U32) (NumberScalar i ∷ [])
    → Keeps fr (field_of_argument 2) (cell w) (NumberScalar n ∷ [])
    → library Put (word w ∷ []) (Address p ∷ NumberScalar i ∷ NumberScalar n ∷ []) s left ≡ gives ws s' rest
    → LibraryRan q l (low_library whole Put (word w ∷ [])) fr s s' (array_of w) ws left rest
put_at q whole l w fr s s' p i n ws left rest small below first second third e =
    let us : List Scalar = Address p ∷ NumberScalar i ∷ NumberScalar n ∷ [] in
    let c = words_are w (cell_at s.store p) (cells_there Put (word w ∷ []) us s left ws s' rest e) in
    let pay = paid Put (word w ∷ []) us s left ws s' rest e in
    let m : Stored = changed (with_element i n) p s.store in
    finished q l (low_library whole Put (word w ∷ [])) fr fr s s' (kept (Address p ∷ []) m) (array_of w) ws 0 left rest 1 pay.1 pay.0 (omega arith)
    (nothing_made q l _ fr fr s m (as_run s) 1
    (runs_done q l (array_call w (codes "put")) (put w) (operand (field_of_argument 0) ∷ operand (field_of_argument 1) ∷ operand (field_of_argument 2) ∷ []) fr (as_run s)
    (record { store = m; made = s.made; freed = s.freed })
    (typed (array_of w) (Address p ∷ []) ∷ word_value U32 i ∷ word_value w n ∷ []) (put_callee q w)
    (three_judged q.program.structs s.store fr (operand (field_of_argument 0)) (operand (field_of_argument 1)) (operand (field_of_argument 2)) (typed (array_of w) (Address p ∷ [])) (word_value U32 i) (word_value w n)
    (held_read q.program.structs s.store fr argument (field 0 ∷ []) (array_of w) (Address p ∷ []) first (p, refl))
    (held_read q.program.structs s.store fr argument (field 1 ∷ []) (cell U32) (NumberScalar i ∷ []) second (i, refl, small))
    (held_read q.program.structs s.store fr argument (field 2 ∷ []) (cell w) (NumberScalar n ∷ []) third (n, refl, below)))
    (λ b. put_called w p i n (words_at p s.store) (as_run s) b c.0 small below)))
    first (p, refl)

put_ran : (w : Word) → Claim Put (word w ∷ []) (triple (array (word w)) (word U32) (word w)) (array (word w))
unfolding is_machine slots
put_ran w q whole l types fr s s' us ws left rest da db is fresh machine e =
    let three = three_scalars types (array (word w)) (word U32) (word w) us refl refl refl machine in
    let p = address_is (three.first ∷ []) three.is_first in
    let i = below_is (2 ^ 32) (three.second ∷ []) three.is_second in
    let n = below_is (2 ^ bits w) (three.third ∷ []) three.is_third in
    let are : us ≡ Address p.0 ∷ NumberScalar i.0 ∷ NumberScalar n.0 ∷ [] =
    three_are us three.first three.second three.third (Address p.0) (NumberScalar i.0) (NumberScalar n.0) three.are p.1 i.1 n.1 in
    let there = subst (λ z. Is fr argument_name (lay whole.numbered q.program.structs (triple (array (word w)) (word U32) (word w))) z) are is in
    put_at q whole l w fr s s' p.0 i.0 n.0 ws left rest i.2 n.2
    (first_of_three whole.numbered q.program.structs fr (array (word w)) (word U32) (word w) (Address p.0) (NumberScalar i.0) (NumberScalar n.0) refl da there)
    (second_of_three whole.numbered q.program.structs fr (array (word w)) (word U32) (word w) (Address p.0) (NumberScalar i.0) (NumberScalar n.0) refl refl da there)
    (third_of_three whole.numbered q.program.structs fr (array (word w)) (word U32) (word w) (Address p.0) (NumberScalar i.0) (NumberScalar n.0) refl refl refl da there)
    (subst (λ z. library Put (word w ∷ []) z s left ≡ gives ws s' rest) are e)

-- ---- cells that are given back

-- an array
free_array_at : (q : Linked) (whole : Whole) (l : Layout) (w : Word) (fr : Frame) (s s' : State) (p r : ℕ) (ws : List Scalar) (left rest : ℕ)
    → Keeps fr (field_of_argument 0) allocator (Address p ∷ []) → Keeps fr (field_of_argument 1) (array_of w) (Address r ∷ [])
    → library FreeArray (word w ∷ []) (Address p ∷ Address r ∷ []) s left ≡ gives ws s' rest
    → LibraryRan q l (low_library whole FreeArray (word w ∷ [])) fr s s' allocator ws left rest
free_array_at q whole l w fr s s' p r ws left rest first second e =
    let us : List Scalar = Address p ∷ Address r ∷ [] in
    let cells = and_parts (are_answers (cell_at s.store p)) _ (cells_there FreeArray (word w ∷ []) us s left ws s' rest e) in
    let c = answers_are (cell_at s.store p) cells.0 in
    let d = words_are w (cell_at s.store r) cells.1 in
    let pay = paid FreeArray (word w ∷ []) us s left ws s' rest e in
    finished q l (low_library whole FreeArray (word w ∷ [])) fr fr s s' (freed_at p r s.store) allocator ws 0 left rest 1 pay.1 pay.0 (omega arith)
    (one_freed q l _ fr fr s (without_cell r s.store) r (as_run s) 1
    (runs_done q l (array_call w (codes "free")) (free_array w) (operand (field_of_argument 0) ∷ operand (field_of_argument 1) ∷ []) fr (as_run s) (after_free r (as_run s))
    (address_value (codes "SysState") p ∷ typed (array_of w) (Address r ∷ []) ∷ []) (free_array_callee q w)
    (two_judged q.program.structs s.store fr (operand (field_of_argument 0)) (operand (field_of_argument 1)) (address_value (codes "SysState") p) (typed (array_of w) (Address r ∷ []))
    (held_read q.program.structs s.store fr argument (field 0 ∷ []) allocator (Address p ∷ []) first (p, refl))
    (held_read q.program.structs s.store fr argument (field 1 ∷ []) (array_of w) (Address r ∷ []) second (r, refl)))
    (λ b. free_array_called w p r _ _ (as_run s) b c.1 d.0)))
    first (p, refl)

free_array_ran : (w : Word) → Claim FreeArray (word w ∷ []) (pair state (array (word w))) state
unfolding is_machine slots
free_array_ran w q whole l types fr s s' us ws left rest da db is fresh machine e =
    let two = two_scalars types state (array (word w)) us refl refl machine in
    let p = address_is (two.first ∷ []) two.is_first in
    let r = address_is (two.second ∷ []) two.is_second in
    let are : us ≡ Address p.0 ∷ Address r.0 ∷ [] = two_are us two.first two.second (Address p.0) (Address r.0) two.are p.1 r.1 in
    let there = subst (λ z. Is fr argument_name (lay whole.numbered q.program.structs (pair state (array (word w)))) z) are is in
    free_array_at q whole l w fr s s' p.0 r.0 ws left rest
    (first_of_two whole.numbered q.program.structs fr state (array (word w)) (Address p.0) (Address r.0) refl da there)
    (second_of_two whole.numbered q.program.structs fr state (array (word w)) (Address p.0) (Address r.0) refl refl da there)
    (subst (λ z. library FreeArray (word w ∷ []) z s left ≡ gives ws s' rest) are e)

-- a record
free_at : (q : Linked) (whole : Whole) (l : Layout) (x : List ℕ) (args : List Tau) (fr : Frame) (s s' : State) (p r : ℕ) (ws : List Scalar) (left rest : ℕ)
    → Keeps fr (field_of_argument 0) allocator (Address p ∷ []) → Keeps fr (field_of_argument 1) (pointer x) (Address r ∷ [])
    → library Free args (Address p ∷ Address r ∷ []) s left ≡ gives ws s' rest
    → LibraryRan q l (low_library whole Free args) fr s s' allocator ws left rest
free_at q whole l x args fr s s' p r ws left rest first second e =
    let us : List Scalar = Address p ∷ Address r ∷ [] in
    let cells = and_parts (are_answers (cell_at s.store p)) _ (cells_there Free args us s left ws s' rest e) in
    let c = answers_are (cell_at s.store p) cells.0 in
    let d = slots_are (cell_at s.store r) cells.1 in
    let pay = paid Free args us s left ws s' rest e in
    finished q l (low_library whole Free args) fr fr s s' (freed_at p r s.store) allocator ws 0 left rest 1 pay.1 pay.0 (omega arith)
    (one_freed q l _ fr fr s (without_cell r s.store) r (as_run s) 1
    (runs_done q l (codes "cg_free") free (operand (field_of_argument 0) ∷ operand (field_of_argument 1) ∷ []) fr (as_run s) (after_free r (as_run s))
    (address_value (codes "SysState") p ∷ address_value x r ∷ []) (free_callee q)
    (two_judged q.program.structs s.store fr (operand (field_of_argument 0)) (operand (field_of_argument 1)) (address_value (codes "SysState") p) (address_value x r)
    (held_read q.program.structs s.store fr argument (field 0 ∷ []) allocator (Address p ∷ []) first (p, refl))
    (held_read q.program.structs s.store fr argument (field 1 ∷ []) (pointer x) (Address r ∷ []) second (r, refl)))
    (λ b. free_called x p r _ _ (as_run s) b c.1 d.1)))
    first (p, refl)

free_ran : (ps : Parts) (args : List Tau) → Claim Free args (pair state (fields ps W)) state
unfolding is_machine slots
free_ran ps args q whole l types fr s s' us ws left rest da db is fresh machine e =
    let two = two_scalars types state (fields ps W) us refl refl machine in
    let p = address_is (two.first ∷ []) two.is_first in
    let r = address_is (two.second ∷ []) two.is_second in
    let are : us ≡ Address p.0 ∷ Address r.0 ∷ [] = two_are us two.first two.second (Address p.0) (Address r.0) two.are p.1 r.1 in
    let there = subst (λ z. Is fr argument_name (lay whole.numbered q.program.structs (pair state (fields ps W))) z) are is in
    free_at q whole l (record_struct whole.numbered ps) args fr s s' p.0 r.0 ws left rest
    (first_of_two whole.numbered q.program.structs fr state (fields ps W) (Address p.0) (Address r.0) refl da there)
    (second_of_two whole.numbered q.program.structs fr state (fields ps W) (Address p.0) (Address r.0) refl refl da there)
    (subst (λ z. library Free args z s left ≡ gives ws s' rest) are e)

-- ---- cells that are made

module _ (q : Linked) (whole : Whole) (l : Layout) (t : Tau) (x : List ℕ) (is_pointer : lay whole.numbered q.program.structs t ≡ pointer x) (one : slots t ≡ 1)
    (d : IsDeclared whole.numbered q.program.structs (pair state (maybe t))) where
  -- the result is a struct
  result_readable : (us : List Scalar) → IsReadable (lay whole.numbered q.program.structs (pair state (maybe t))) us
  result_readable us =
      subst (λ z. IsReadable z us) (sym (layout_unfolds q.program.structs (record_struct whole.numbered (fields_in (pair state (maybe t)))))) tt

  -- the address of the cell is written
  address_written : (fr : Frame) (m : Stored) (r : ℕ) → Fresh (layout q.program.structs) fr 0 (c_type whole.numbered t ∷ ty.Word U8 ∷ c_type whole.numbered (pair state (maybe t)) ∷ [])
      → write q.program.structs fr m (path (local 0) []) (address_value x r) ≡ ok (record { frame = with_scalars (local_name 0) (Address r ∷ []) fr; store = m })
  address_written fr m r fresh =
      write_whole whole.numbered q.program.structs m fr (local 0) (pointer x) _ (Address r ∷ []) (address_value x r)
      (subst (λ z. Is fr (local_name 0) z (replicate (size (layout q.program.structs (c_type whole.numbered t))) Unset)) is_pointer fresh.0) (given_typed (pointer x) (Address r ∷ []))

  -- a function that made a cell, and one that made none
  made_ran : (make : CRhs) (v : Place) (fr : Frame) (s s' : State) (p : ℕ) (f : Fresh') (cost : ℕ) (ws : List Scalar) (left rest : ℕ)
      → (cost ≤ left) × (given (granted p true f (changed without_answer p s.store)) s (left - cost) ≡ gives ws s' rest)
      → Asked q whole.numbered l t x is_pointer one d make v fr (as_run s) (suc cost) (Address p ∷ NumberScalar 1 ∷ Unset ∷ Address (new_address p (as_run s)) ∷ []) (after_made p f (as_run s))
      → LibraryRan q l (low_fresh whole t make v) fr s s' (lay whole.numbered q.program.structs (pair state (maybe t))) ws left rest
  made_ran make v fr s s' p f cost ws left rest pay a =
      finished q l (low_fresh whole t make v) fr a.frame s s' (granted p true f (changed without_answer p s.store)) _ ws cost left rest (suc cost + 5) pay.1 pay.0 (omega arith)
      (one_made q l _ fr a.frame s _ (new_address p (as_run s)) (as_run s) (suc cost + 5) a.runs)
      (is_kept a.frame (local 2) _ _ a.holds) (result_readable _)

  none_ran : (make : CRhs) (v : Place) (fr : Frame) (s s' : State) (p : ℕ) (f : Fresh') (ws : List Scalar) (left rest : ℕ)
      → (0 ≤ left) × (given (granted p false f (changed without_answer p s.store)) s (left - 0) ≡ gives ws s' rest)
      → Asked q whole.numbered l t x is_pointer one d make v fr (as_run s) 1 (Address p ∷ NumberScalar 0 ∷ NumberScalar 0 ∷ Unset ∷ []) (after_none p (as_run s))
      → LibraryRan q l (low_fresh whole t make v) fr s s' (lay whole.numbered q.program.structs (pair state (maybe t))) ws left rest
  none_ran make v fr s s' p f ws left rest pay a =
      finished q l (low_fresh whole t make v) fr a.frame s s' (granted p false f (changed without_answer p s.store)) _ ws 0 left rest 6 pay.1 pay.0 (omega arith)
      (nothing_made q l _ fr a.frame s _ (as_run s) 6 a.runs)
      (is_kept a.frame (local 2) _ _ a.holds) (result_readable _)

-- an array
create_at : (q : Linked) (whole : Whole) (l : Layout) (w : Word) (fr : Frame) (s s' : State) (p n : ℕ) (ws : List Scalar) (left rest : ℕ) → n < 2 ^ 32
    → IsDeclared whole.numbered q.program.structs (pair state (maybe (array (word w))))
    → Keeps fr (field_of_argument 0) allocator (Address p ∷ []) → Keeps fr (field_of_argument 1) (cell U32) (NumberScalar n ∷ [])
    → Fresh (layout q.program.structs) fr 0 (low_library whole Create (word w ∷ [])).locals
    → library Create (word w ∷ []) (Address p ∷ NumberScalar n ∷ []) s left ≡ gives ws s' rest
    → LibraryRan q l (low_library whole Create (word w ∷ [])) fr s s' (lay whole.numbered q.program.structs (pair state (maybe (array (word w))))) ws left rest
unfolding slots
create_at q whole l w fr s s' p n ws left rest small d first second fresh e =
    by_test (next_at p s.store && nat_le n most_elements) refl (paid Create (word w ∷ []) (Address p ∷ NumberScalar n ∷ []) s left ws s' rest e)
  where
    os : List COpnd
    os = operand (field_of_argument 0) ∷ operand (field_of_argument 1) ∷ []

    make : CRhs
    make = called_by (array_call w (codes "create")) os

    c : (bs : List Bool) × (cell_at s.store p ≡ Some (Answers bs))
    c = answers_are (cell_at s.store p) (cells_there Create (word w ∷ []) (Address p ∷ NumberScalar n ∷ []) s left ws s' rest e)

    judged : judge_all q.program.structs s.store fr os ≡ ok (address_value (codes "SysState") p ∷ word_value U32 n ∷ [])
    judged =
        two_judged q.program.structs s.store fr (operand (field_of_argument 0)) (operand (field_of_argument 1)) (address_value (codes "SysState") p) (word_value U32 n)
        (held_read q.program.structs s.store fr argument (field 0 ∷ []) allocator (Address p ∷ []) first (p, refl))
        (held_read q.program.structs s.store fr argument (field 1 ∷ []) (cell U32) (NumberScalar n ∷ []) second (n, refl, small))

    by_test : (b : Bool) → (next_at p s.store && nat_le n most_elements) ≡ b
        → (cond b n 0 ≤ left) × (given (granted p b (FreshWords n) (changed without_answer p s.store)) s (left - cond b n 0) ≡ gives ws s' rest)
        → LibraryRan q l (low_library whole Create (word w ∷ [])) fr s s' (lay whole.numbered q.program.structs (pair state (maybe (array (word w))))) ws left rest
    by_test true allowed pay =
        made_ran q whole l (array (word w)) (codes "W" ++ width_text w) refl refl d make (field_of_argument 0) fr s s' p (FreshWords n) n ws left rest pay
        (asked_some q whole.numbered l (array (word w)) (codes "W" ++ width_text w) refl refl d fr (as_run s) (after_made p (FreshWords n) (as_run s)) (suc n) make (field_of_argument 0) p (new_address p (as_run s))
        fresh first tt (λ z. omega (arith, z))
        (runs_built q l (path (local 0) []) (array_call w (codes "create")) (create w) os fr (as_run s) (after_made p (FreshWords n) (as_run s))
        (address_value (codes "SysState") p ∷ word_value U32 n ∷ []) (typed (array_of w) (Address (new_address p (as_run s)) ∷ [])) n
        (record { frame = with_scalars (local_name 0) (Address (new_address p (as_run s)) ∷ []) fr; store = with_fresh (FreshWords n) (changed without_answer p s.store) })
        (create_callee q w) judged (λ m. array_made w p n (Answers c.0) (as_run s) m c.1 small allowed)
        (address_written q whole l (array (word w)) (codes "W" ++ width_text w) refl refl d fr (with_fresh (FreshWords n) (changed without_answer p s.store)) (new_address p (as_run s)) fresh)))
    by_test false refused pay =
        none_ran q whole l (array (word w)) (codes "W" ++ width_text w) refl refl d make (field_of_argument 0) fr s s' p (FreshWords n) ws left rest pay
        (asked_none q whole.numbered l (array (word w)) (codes "W" ++ width_text w) refl refl d fr (as_run s) (after_none p (as_run s)) 1 make (field_of_argument 0) p
        fresh first tt
        (runs_built q l (path (local 0) []) (array_call w (codes "create")) (create w) os fr (as_run s) (after_none p (as_run s))
        (address_value (codes "SysState") p ∷ word_value U32 n ∷ []) (typed (array_of w) (Address 0 ∷ [])) 0
        (record { frame = with_scalars (local_name 0) (Address 0 ∷ []) fr; store = changed without_answer p s.store })
        (create_callee q w) judged (λ m. let zero_more : 0 + m ≡ m = omega arith in rw zero_more (array_none w p n (Answers c.0) (as_run s) m c.1 small refused))
        (address_written q whole l (array (word w)) (codes "W" ++ width_text w) refl refl d fr (changed without_answer p s.store) 0 fresh)))

create_ran : (w : Word) → Claim Create (word w ∷ []) (pair state (word U32)) (pair state (maybe (array (word w))))
unfolding is_machine slots
create_ran w q whole l types fr s s' us ws left rest da db is fresh machine e =
    let two = two_scalars types state (word U32) us refl refl machine in
    let p = address_is (two.first ∷ []) two.is_first in
    let n = below_is (2 ^ 32) (two.second ∷ []) two.is_second in
    let are : us ≡ Address p.0 ∷ NumberScalar n.0 ∷ [] = two_are us two.first two.second (Address p.0) (NumberScalar n.0) two.are p.1 n.1 in
    let there = subst (λ z. Is fr argument_name (lay whole.numbered q.program.structs (pair state (word U32))) z) are is in
    create_at q whole l w fr s s' p.0 n.0 ws left rest n.2 db
    (first_of_two whole.numbered q.program.structs fr state (word U32) (Address p.0) (NumberScalar n.0) refl da there)
    (second_of_two whole.numbered q.program.structs fr state (word U32) (Address p.0) (NumberScalar n.0) refl refl da there)
    fresh (subst (λ z. library Create (word w ∷ []) z s left ≡ gives ws s' rest) are e)

-- C doesn't see what is taken, and there are as many slots
taken_form : (ps : Parts) → form_parts (all_parts_taken ps) ≡ form_parts ps
unfolding form_parts
taken_form end = refl
taken_form (part x t taken ps) = ap (λ qs. part [] (form t) false qs) (taken_form ps)

taken_slots : (ps : Parts) → slots_of_parts (all_parts_taken ps) ≡ slots_of_parts ps
unfolding slots
taken_slots end = refl
taken_slots (part x t taken ps) = ap (λ n. slots t + n) (taken_slots ps)

-- the record of which a cell is made is declared, and its size
record_declared : (numbered : Tau → ℕ) (ss : List CStruct) (ps : Parts) → IsDeclared numbered ss (pair state (maybe (fields ps W))) → IsDeclared numbered ss (fields ps U)
unfolding IsDeclared
record_declared numbered ss ps d = d.2.1.0.2.1.0

record_size : (numbered : Tau → ℕ) (ss : List CStruct) (ps : Parts) → IsDeclared numbered ss (pair state (maybe (fields (all_parts_taken ps) W)))
    → size (pointed ss (record_struct numbered ps)) ≡ slots_of_parts ps
unfolding slots
record_size numbered ss ps d =
    ap (λ qs. size (pointed ss (struct_name (numbered (fields qs U))))) (sym (taken_form ps))
    ∙ size_slots numbered ss (fields (all_parts_taken ps) U) (record_declared numbered ss (all_parts_taken ps) d)
    ∙ taken_slots ps

-- a record
new_at : (q : Linked) (whole : Whole) (l : Layout) (ps : Parts) (fr : Frame) (s s' : State) (p : ℕ) (ws : List Scalar) (left rest : ℕ)
    → (d : IsDeclared whole.numbered q.program.structs (pair state (maybe (fields (all_parts_taken ps) W))))
    → Is fr argument_name allocator (Address p ∷ [])
    → Fresh (layout q.program.structs) fr 0 (low_library whole New (fields ps W ∷ [])).locals
    → library New (fields ps W ∷ []) (Address p ∷ []) s left ≡ gives ws s' rest
    → LibraryRan q l (low_library whole New (fields ps W ∷ [])) fr s s' (lay whole.numbered q.program.structs (pair state (maybe (fields (all_parts_taken ps) W)))) ws left rest
unfolding slots
new_at q whole l ps fr s s' p ws left rest d is fresh e =
    by_test (next_at p s.store) refl (paid New (fields ps W ∷ []) (Address p ∷ []) s left ws s' rest e)
  where
    t : Tau
    t = fields (all_parts_taken ps) W

    x : List ℕ
    x = record_struct whole.numbered ps

    is_pointer : lay whole.numbered q.program.structs t ≡ pointer x
    is_pointer = ap (λ qs. pointer (struct_name (whole.numbered (fields qs U)))) (taken_form ps)

    make : CRhs
    make = made_by (operand whole_argument) x

    c : (bs : List Bool) × (cell_at s.store p ≡ Some (Answers bs))
    c = answers_are (cell_at s.store p) (cells_there New (fields ps W ∷ []) (Address p ∷ []) s left ws s' rest e)

    has_size : size (pointed q.program.structs x) ≡ slots_of_parts ps
    has_size = record_size whole.numbered q.program.structs ps d

    kept_there : Keeps fr whole_argument allocator (Address p ∷ [])
    kept_there = is_kept fr argument allocator (Address p ∷ []) is

    judged : judge q.program.structs s.store fr (operand whole_argument) ≡ ok (address_value (codes "SysState") p)
    judged = held_read q.program.structs s.store fr argument [] allocator (Address p ∷ []) kept_there (p, refl)

    by_test : (b : Bool) → next_at p s.store ≡ b
        → (0 ≤ left) × (given (granted p b (FreshSlots (slots_of_parts ps)) (changed without_answer p s.store)) s (left - 0) ≡ gives ws s' rest)
        → LibraryRan q l (low_library whole New (fields ps W ∷ [])) fr s s' (lay whole.numbered q.program.structs (pair state (maybe t))) ws left rest
    by_test true allowed pay =
        made_ran q whole l t x is_pointer refl d make whole_argument fr s s' p (FreshSlots (slots_of_parts ps)) 0 ws left rest pay
        (asked_some q whole.numbered l t x is_pointer refl d fr (as_run s) (after_made p (FreshSlots (slots_of_parts ps)) (as_run s)) 1 make whole_argument p (new_address p (as_run s))
        fresh kept_there tt (λ z. omega (arith, z))
        (runs_new q l (path (local 0) []) (operand whole_argument) x fr (as_run s) (after_made p (FreshSlots (slots_of_parts ps)) (as_run s)) (address_value (codes "SysState") p) (address_value x (new_address p (as_run s)))
        (record { frame = with_scalars (local_name 0) (Address (new_address p (as_run s)) ∷ []) fr; store = with_fresh (FreshSlots (slots_of_parts ps)) (changed without_answer p s.store) })
        judged
        (λ m. struct_made x (size (pointed q.program.structs x)) p (Answers c.0) (as_run s) m c.1 allowed ∙ ap (λ n. done (Some (address_value x (new_address p (as_run s)))) (after_made p (FreshSlots n) (as_run s)) m) has_size)
        (address_written q whole l t x is_pointer refl d fr (with_fresh (FreshSlots (slots_of_parts ps)) (changed without_answer p s.store)) (new_address p (as_run s)) fresh)))
    by_test false refused pay =
        none_ran q whole l t x is_pointer refl d make whole_argument fr s s' p (FreshSlots (slots_of_parts ps)) ws left rest pay
        (asked_none q whole.numbered l t x is_pointer refl d fr (as_run s) (after_none p (as_run s)) 1 make whole_argument p
        fresh kept_there tt
        (runs_new q l (path (local 0) []) (operand whole_argument) x fr (as_run s) (after_none p (as_run s)) (address_value (codes "SysState") p) (address_value x 0)
        (record { frame = with_scalars (local_name 0) (Address 0 ∷ []) fr; store = changed without_answer p s.store })
        judged (λ m. struct_none x (size (pointed q.program.structs x)) p (Answers c.0) (as_run s) m c.1 refused)
        (address_written q whole l t x is_pointer refl d fr (changed without_answer p s.store) 0 fresh)))

new_ran : (ps : Parts) → Claim New (fields ps W ∷ []) state (pair state (maybe (fields (all_parts_taken ps) W)))
unfolding is_machine
new_ran ps q whole l types fr s s' us ws left rest da db is fresh machine e =
    let p = address_is us machine in
    new_at q whole l ps fr s s' p.0 ws left rest db (subst (λ z. Is fr argument_name allocator z) p.1 is) fresh
    (subst (λ z. library New (fields ps W ∷ []) z s left ≡ gives ws s' rest) p.1 e)

-- ---- all of them

-- a record to write
cell_type : (t : Tau) → is_cell t ≡ true → (ps : Parts) × (t ≡ fields ps W)
cell_type (fields ps W) e = (ps, refl)
cell_type t e = absurd (cc)

-- the first type argument is what the function asks
pub meets : (lib : Lib) (t : Tau) (ts : List Tau) → IsTrue (are_good_arguments [] (asked_by_library lib) (as_arguments (t ∷ ts))) → meets_asked [] (next_asked (asked_by_library lib)) t ≡ true
meets lib t ts good = (and_parts (meets_asked [] (next_asked (asked_by_library lib)) t) _ (and_parts (has_word_arrays t) _ good).1).0

-- the types are those of the function's arrow
at_types : (lib : Lib) (args : List Tau) (x y a b : Tau) → arrow x y ≡ arrow a b → Claim lib args x y → Claim lib args a b
at_types lib args x y a b e claim = subst (λ z. Claim lib args (taken_by z) (given_by z)) e claim

-- a function whose type argument is a word, and one whose argument is a record to write
on_array : (lib : Lib) (x y : Tau → Tau) (t a b : Tau) → arrow (x t) (y t) ≡ arrow a b → is_word t ≡ true → ((w : Word) → Claim lib (word w ∷ []) (x (word w)) (y (word w))) → Claim lib (t ∷ []) a b
on_array lib x y t a b e is claim =
    let w = word_type t is in at_types lib (t ∷ []) (x t) (y t) a b e (subst (λ z. Claim lib (z ∷ []) (x z) (y z)) (sym w.1) (claim w.0))

on_record : (lib : Lib) (x y : Tau → Tau) (t a b : Tau) → arrow (x t) (y t) ≡ arrow a b → is_cell t ≡ true → ((ps : Parts) → Claim lib (fields ps W ∷ []) (x (fields ps W)) (y (fields ps W))) → Claim lib (t ∷ []) a b
on_record lib x y t a b e is claim =
    let ps = cell_type t is in at_types lib (t ∷ []) (x t) (y t) a b e (subst (λ z. Claim lib (z ∷ []) (x z) (y z)) (sym ps.1) (claim ps.0))

-- what has to be proved of each function
claimed : (lib : Lib) (args : List Tau) (a b : Tau) → is_iterator lib ≡ false → library_type lib args ≡ arrow a b → length args ≡ library_arity lib
    → IsTrue (are_good_arguments [] (asked_by_library lib) (as_arguments args)) → Claim lib args a b
unfolding bang
claimed New (t ∷ []) a b n e one good = on_record New (λ t. state) (λ t. pair state (maybe (all_taken t))) t a b e (meets New t [] good) (λ ps. new_ran ps)
claimed Free (t ∷ []) a b n e one good = on_record Free (λ t. pair state (all_taken t)) (λ t. state) t a b e (meets Free t [] good) (λ ps. free_ran (all_parts_taken ps) (fields ps W ∷ []))
claimed Create (t ∷ []) a b n e one good = on_array Create (λ t. pair state (word U32)) (λ t. pair state (maybe (array t))) t a b e (meets Create t [] good) create_ran
claimed FreeArray (t ∷ []) a b n e one good = on_array FreeArray (λ t. pair state (array t)) (λ t. state) t a b e (meets FreeArray t [] good) free_array_ran
claimed Length (t ∷ []) a b n e one good = on_array Length (λ t. bang (array t)) (λ t. word U32) t a b e (meets Length t [] good) length_ran
claimed Get (t ∷ []) a b n e one good = on_array Get (λ t. pair (bang (array t)) (word U32)) (λ t. t) t a b e (meets Get t [] good) get_ran
claimed Put (t ∷ []) a b n e one good = on_array Put (λ t. triple (array t) (word U32) t) (λ t. array t) t a b e (meets Put t [] good) put_ran
claimed lib args a b n e one good = absurd (first_of (cc, omega (arith, one)))

-- in a frame with the argument and unset locals, where the structs of both types are declared
pub library_ran : (q : Linked) (whole : Whole) (l : Layout) (types : ℕ → Option Tau) (lib : Lib) (args : List Tau) (a b : Tau) (fr : Frame) (s s' : State) (us ws : List Scalar) (left rest : ℕ)
    → is_iterator lib ≡ false → library_type lib args ≡ arrow a b → length args ≡ library_arity lib → IsTrue (are_good_arguments [] (asked_by_library lib) (as_arguments args))
    → IsDeclared whole.numbered q.program.structs a → IsDeclared whole.numbered q.program.structs b
    → Is fr argument_name (layout q.program.structs (c_type whole.numbered a)) us → Fresh (layout q.program.structs) fr 0 (low_library whole lib args).locals
    → is_machine types a us ≡ true → library lib args us s left ≡ gives ws s' rest
    → LibraryRan q l (low_library whole lib args) fr s s' (layout q.program.structs (c_type whole.numbered b)) ws left rest
library_ran q whole l types lib args a b fr s s' us ws left rest no_iterator ty arity good da db is fresh machine e =
    claimed lib args a b no_iterator ty arity good q whole l types fr s s' us ws left rest da db is fresh machine e
