-- Iterators over arrays: `fold`, which reads an array, and `map`, which also writes it.
use Rattle.std.proofs.Common.{◌≡◌, ℕ, zero, suc, ◌+◌, ◌^◌, ◌<◌, ◌≤◌, Bool, true, false, cond, min, Option, Some, List, [], ◌∷◌, ◌++◌, length, length-append, replicate, get_or, map, nat_lt, slice_get, slice_set, take, unwrap_or, refl, sym, ap, ◌∙◌, subst, arith, codes}
use Rattle.std.proofs.lemmas.Bool.{and_parts, eq-eqb, le-leb, le-ltb, lt-ltb, ltb-false, ltb-true}
use Rattle.std.proofs.lemmas.List.{append-nil, drop_all, length-replicate, replicate-append-replicate}
use Rattle.std.proofs.Math.Seq.{take-append_seam}
use Rattle.std.proofs.Math.Nat.{mod-eq_of_lt, min_comm, min-eq_left, min-le_left}
use Rattle.std.specs.Cmp.{nat_cmp_total, unsigned_tied}
use Rattle.std.specs.FinMap as map'
use Rattle.std.specs.FinMap.{get-insert}
use Rattle.std.specs.List.{list_all}
use Rattle.cg_base.specs.declared.fun.Lib.{Lib}
use Rattle.cg_base.specs.declared.fun.Lib.TheVariants.{Fold, Map}
use Rattle.cg_base.specs.declared.kind.Sigil.{Sigil}
use Rattle.cg_base.specs.declared.kind.Sigil.TheVariants.{R, W, U}
use Rattle.cg_base.specs.declared.kind.Word.{Word}
use Rattle.cg_base.specs.declared.kind.Word.TheVariants.{U8, U32}
use Rattle.cg_base.specs.Types.{Tau, word, arrow, abs, fields, none, more, Parts, end, part}
use Rattle.cg_base.specs.Words.{bits}
use Rattle.cg_cgen.proofs.Numbers.{flag_is_small}
use Rattle.cg_cmachine_laws.proofs.LayoutLaws.{layout_unfolds}
use Rattle.cg_cmachine_def.specs.BuiltIns.{array_call, array_of, get, length_of, put}
use Rattle.cg_cmachine_def.specs.Layouts.{Layout, cell, size, spot, walk}
use Rattle.cg_cmachine_def.specs.Operands.{Frame, typed}
use Rattle.cg_cmachine_def.specs.Operations.{flag, word_value}
use Rattle.cg_cmachine_def.specs.Outcomes as runs
use Rattle.cg_cmachine_def.specs.Runs.{Linked, judged_word}
use Rattle.cg_cmachine_def.specs.Targets.{spliced, with_scalars}
use Rattle.cg_ctree.specs.declared.tree.COp.TheVariants as cop
use Rattle.cg_ctree.specs.declared.tree.CRhs.TheVariants.{Call as called}
use Rattle.cg_ctree.specs.Trees.{Stmt, assign, branch, call as done_by, stop, to_block, while}
use Rattle.cg_heap.specs.declared.cell.Cell.{Cell}
use Rattle.cg_heap.specs.declared.cell.Cell.TheVariants.{Words}
use Rattle.cg_heap.specs.declared.cell.Scalar.{Scalar}
use Rattle.cg_heap.specs.declared.cell.Scalar.TheVariants.{Unset, Word as NumberScalar, Address}
use Rattle.cg_heap.specs.Reps.{first_address, first_number, slots}
use Rattle.cg_heap.specs.Stored.{Stored, cell_at, changed, in_cell, in_place, with_element}
use Rattle.cg_kinds.specs.Kinds.{bang}
use Rattle.cg_lib_heap.specs.Library.{words_at}
use Rattle.cg_eval_operations.specs.Iterators.{counted, indices_from}
use Rattle.cg_typing.specs.Library.{array, given, library_type, pair}
use Rattle.cg_typing.specs.Parts.{given_by, taken_by}
use Rattle.cg_update.specs.Calls.{are_words}
use Rattle.cg_update.specs.Machines.{are_machine, is_machine, part_at, type_of_part}
use Rattle.cg_update.specs.Outcomes.{State, Outcome, gives, where_true, with_store}
use Rattle.cg_update.specs.Turns.{Argument, array_in, ended, field_in, field_of, turns}
use Rattle.cg_lower_def.specs.CTypes.{c_type, count, record_struct, IsDeclared}
use Rattle.cg_cgen_def.specs.Loops.{array_begins, array_goes_on, array_of_argument, array_reads, computing, fold_low, less, map_low, turning}
use Rattle.cg_cgen_def.specs.Places.{whole_local, field_of_argument, whole_argument, Place, Step, argument, argument_name, field, held, local, local_name, number, operand, path, step_name}
use Rattle.cg_lower_def.specs.IteratorCode.{function_type, types_in}
use Rattle.cg_cgen_def.specs.Bodies.{setting}
use Rattle.cg_lower_def.specs.Simulated.{as_run}
use Rattle.cg_lower_laws.proofs.Frames.{Fresh, Is, Keeps, is_kept}
use Rattle.cg_lower_laws.proofs.Inversions.{bind_is, pay_is, same_rest, same_scalars, same_state, where_is}
use Rattle.cg_lower_laws.proofs.Iterating.{Does, IteratorClaim, LoopRan, Price, TurnCalled}
use Rattle.cg_lower_laws.proofs.Layouts.{field_leads, machine_slots, size_slots}
use Rattle.cg_lower_laws.proofs.LibraryParts.{element_below, get_called, get_callee, held_read, length_called, length_callee, one_judged, put_called, put_callee, three_judged, two_judged, words_are}
use Rattle.cg_lower_laws.proofs.Loops.{Loops, loops_end, loops_turn, runs_while}
use Rattle.cg_lower_laws.proofs.NumberLoops.{counted_next, counted_none}
use Rattle.cg_lower_laws.proofs.Operands.{IsReadable, address_is, below_is, given_typed, keeps_field, machine_readable, place_is, write_part, write_whole}
use Rattle.cg_lower_laws.proofs.Records.{spliced_next}
use Rattle.cg_lower_laws.proofs.Runs.{runs_branch, runs_built, runs_done, runs_none, runs_on}
use Rattle.cg_lower_laws.proofs.Standing.{KeepsNumber, Local, Reaches, Scene, computes, number_judged, reaches_on, replaced, scene_set, scene_whole, sets, stand_at}
use Rattle.cg_lower_laws.proofs.Terms.{lay_c}
use Rattle.cg_lower_laws.proofs.Turning.{MachinePart, less_is, machine_front, machine_part, middle_spliced, sum_is, turn_runs, type_is}
use Rattle.cg_base.proofs.Sequences.{length_set}

-- ---- arrays that are written

-- and all of them stay below a number
all_set : (m : ℕ) (ns : List ℕ) (i k : ℕ) → nat_lt k m ≡ true → list_all (λ n. nat_lt n m) ns ≡ true → list_all (λ n. nat_lt n m) (slice_set ns i k) ≡ true
all_set m [] i k h all = refl
all_set m (n ∷ ns) zero k h all = rw h (and_parts (nat_lt n m) _ all).1
all_set m (n ∷ ns) (suc i) k h all = let both = and_parts (nat_lt n m) _ all in rw both.0 (all_set m ns i k h both.1)

-- so an array is one still
still_words : (w : Word) (ns : List ℕ) (i k : ℕ) → k < 2 ^ bits w → are_words (word w) (Some (Words ns)) ≡ true → are_words (word w) (Some (Words (slice_set ns i k))) ≡ true
still_words w ns i k h e =
    let both = and_parts (nat_lt (length ns) (2 ^ 32)) _ e in
    rw (length_set ns i k, both.0) (all_set (2 ^ bits w) ns i k (lt-ltb k (2 ^ bits w) h) both.1)

-- a cell that is put in is there
put_there : (m : Stored) (a : ℕ) (c : Cell) → cell_at (in_place a (Some c) m) a ≡ Some c
put_there m a c = get-insert nat_cmp_total m.cells a c a ∙ ap (λ b. cond b (Some c) (map'.get m.cells a)) (unsigned_tied a a ∙ eq-eqb a a refl)

-- an array in a store is one still behind an element that is written
kept_words : (w : Word) (m : Stored) (a i k : ℕ) → k < 2 ^ bits w → are_words (word w) (cell_at m a) ≡ true → are_words (word w) (cell_at (changed (with_element i k) a m) a) ≡ true
kept_words w m a i k h e =
    let ns : List ℕ = words_at a m in
    let cells = words_are w (cell_at m a) e in
    by_test (nat_lt i (length ns)) ns refl cells.0 (subst (λ c. are_words (word w) c ≡ true) cells.0 e)
  where
    by_test : (b : Bool) (ns : List ℕ) → nat_lt i (length ns) ≡ b → cell_at m a ≡ Some (Words ns) → are_words (word w) (Some (Words ns)) ≡ true
        → are_words (word w) (cell_at (changed (with_element i k) a m) a) ≡ true
    by_test true ns lt at are =
        subst (λ o. are_words (word w) (cell_at (in_place a (in_cell (with_element i k) o) m) a) ≡ true) (sym at)
        (rw lt (rw (put_there m a (Words (slice_set ns i k))) (still_words w ns i k h are)))
    by_test false ns lt at are =
        subst (λ o. are_words (word w) (cell_at (in_place a (in_cell (with_element i k) o) m) a) ≡ true) (sym at)
        (rw lt (rw at are))

-- ---- what both are made of

module _ (types : ℕ → Option Tau) (numbered : Tau → ℕ) (q : Linked) (l : Layout) (few : (k : ℕ) (t : Tau) → types k ≡ Some t → k < 2 ^ 32) (w : Word) (sigil : Sigil) (c o r : Tau) (us : List Scalar) where
  abbrev lay_of : Tau → Layout
  lay_of t = lay_c q (c_type numbered t)

  -- what the function takes, and what the iterator takes
  abbrev item_parts : Parts
  item_parts = part (codes "elem") (word w) false (part (codes "acc") c false (part (codes "obsv") (bang o) false end))

  abbrev item : Tau
  item = fields item_parts U

  abbrev array_type : Tau
  array_type = abs (codes "WordArray") (more (word w) none) sigil

  abbrev parts : Parts
  parts = part (codes "arr") array_type false (part (codes "frm") (word U32) false (part (codes "to") (word U32) false
      (part (codes "f") (arrow item r) false (part (codes "acc") c false (part (codes "obsv") (bang o) false end)))))

  abbrev taken : Tau
  taken = fields parts U

  abbrev x : Argument
  x = record { ty = taken; scalars = us }

  abbrev argument_local : Local
  argument_local = record { layout = lay_of taken; scalars = us }

  -- the array, the bounds, the function, what is handed on first, and what is observed
  abbrev at_array : ℕ
  at_array = array_in x

  abbrev from : ℕ
  from = first_number (field_in x 1)

  abbrev bound : ℕ
  bound = first_number (field_in x 2)

  abbrev function : ℕ
  function = first_number (field_in x 3)

  abbrev first : List Scalar
  first = field_in x 4

  abbrev seen : List Scalar
  seen = field_in x 5

  -- the locals of a loop
  abbrev standing : List Scalar → List Scalar → List Scalar → List Scalar → List Local → List Local
  standing index last test item_now others =
      record { layout = cell U32; scalars = index } ∷ record { layout = cell U32; scalars = last } ∷ record { layout = cell U8; scalars = test }
      ∷ record { layout = lay_of item; scalars = item_now } ∷ others

  module _ (d : IsDeclared numbered q.program.structs taken) (di : IsDeclared numbered q.program.structs item) (machine : is_machine types taken us ≡ true) where
    -- a field of the argument
    abbrev Field : ℕ → Type 0
    Field i = MachinePart types i parts us

    part_of : (i : ℕ) → i < 6 → Field i
    unfolding count is_machine
    part_of i h = machine_part types i parts us refl machine h

    field_is : (i : ℕ) (f : Field i) → field_in x i ≡ f.scalars
    field_is i f = ap (λ z. unwrap_or z []) f.there

    field_kept : (fr : Frame) (xs : List Local) (i : ℕ) → i < 6 → Scene argument_local fr xs → Keeps fr (field_of_argument i) (lay_of (type_of_part i parts)) (field_in x i)
    field_kept fr xs i h scene =
        let f = part_of i h in
        subst (λ z. Keeps fr (field_of_argument i) (lay_of (type_of_part i parts)) z) (sym (field_is i f))
        (keeps_field numbered q.program.structs fr whole_argument parts i us f.scalars d (is_kept fr argument (lay_of taken) us scene.argued) f.there)

    -- the array and the bounds
    array_is : field_in x 0 ≡ Address at_array ∷ []
    unfolding is_machine type_of_part
    array_is =
        let f = part_of 0 (omega arith) in
        let b = address_is f.scalars f.machine in
        let e = field_is 0 f ∙ b.1 in e ∙ ap (λ z. Address z ∷ []) (sym (ap first_address e))

    from_is : (field_in x 1 ≡ NumberScalar from ∷ []) × (from < 2 ^ 32)
    unfolding is_machine type_of_part
    from_is =
        let f = part_of 1 (omega arith) in
        let b = below_is (2 ^ 32) f.scalars f.machine in
        let e = field_is 1 f ∙ b.1 in
        let same : b.0 ≡ from = sym (ap first_number e) in
        (e ∙ ap (λ z. NumberScalar z ∷ []) same, subst (λ z. z < 2 ^ 32) same b.2)

    bound_is : (field_in x 2 ≡ NumberScalar bound ∷ []) × (bound < 2 ^ 32)
    unfolding is_machine type_of_part
    bound_is =
        let f = part_of 2 (omega arith) in
        let b = below_is (2 ^ 32) f.scalars f.machine in
        let e = field_is 2 f ∙ b.1 in
        let same : b.0 ≡ bound = sym (ap first_number e) in
        (e ∙ ap (λ z. NumberScalar z ∷ []) same, subst (λ z. z < 2 ^ 32) same b.2)

    -- which the C reads
    array_kept : (fr : Frame) (xs : List Local) → Scene argument_local fr xs → Keeps fr array_of_argument (array_of w) (Address at_array ∷ [])
    unfolding type_of_part
    array_kept fr xs scene = subst (λ z. Keeps fr (field_of_argument 0) (array_of w) z) array_is (field_kept fr xs 0 (omega arith) scene)

    from_kept : (fr : Frame) (xs : List Local) → Scene argument_local fr xs → Keeps fr (field_of_argument 1) (cell U32) (NumberScalar from ∷ [])
    unfolding type_of_part
    from_kept fr xs scene = subst (λ z. Keeps fr (field_of_argument 1) (cell U32) z) from_is.0 (field_kept fr xs 1 (omega arith) scene)

    bound_kept : (fr : Frame) (xs : List Local) → Scene argument_local fr xs → Keeps fr (field_of_argument 2) (cell U32) (NumberScalar bound ∷ [])
    unfolding type_of_part
    bound_kept fr xs scene = subst (λ z. Keeps fr (field_of_argument 2) (cell U32) z) bound_is.0 (field_kept fr xs 2 (omega arith) scene)

    -- the function, what is handed on first, and what is observed
    function_is : (field_in x 3 ≡ NumberScalar function ∷ []) × (types function ≡ Some (arrow item r)) × (function < 2 ^ 32)
    unfolding is_machine type_of_part
    function_is =
        let f = part_of 3 (omega arith) in
        let k = place_is types (arrow item r) f.scalars f.machine in
        let e = field_is 3 f ∙ k.1 in
        let same : k.0 ≡ function = sym (ap first_number e) in
        let ty = subst (λ z. types z ≡ Some (arrow item r)) same (type_is (types k.0) (arrow item r) k.2) in
        (e ∙ ap (λ z. NumberScalar z ∷ []) same, ty, few function (arrow item r) ty)

    function_kept : (fr : Frame) (xs : List Local) → Scene argument_local fr xs → Keeps fr (field_of_argument 3) (cell U32) (NumberScalar function ∷ [])
    unfolding type_of_part
    function_kept fr xs scene = subst (λ z. Keeps fr (field_of_argument 3) (cell U32) z) function_is.0 (field_kept fr xs 3 (omega arith) scene)

    first_machine : is_machine types c first ≡ true
    unfolding type_of_part
    first_machine = let f = part_of 4 (omega arith) in subst (λ z. is_machine types c z ≡ true) (sym (field_is 4 f)) f.machine

    first_kept : (fr : Frame) (xs : List Local) → Scene argument_local fr xs → Keeps fr (field_of_argument 4) (lay_of c) first
    unfolding type_of_part
    first_kept fr xs scene = field_kept fr xs 4 (omega arith) scene

    seen_machine : is_machine types (bang o) seen ≡ true
    unfolding type_of_part
    seen_machine = let f = part_of 5 (omega arith) in subst (λ z. is_machine types (bang o) z ≡ true) (sym (field_is 5 f)) f.machine

    seen_kept : (fr : Frame) (xs : List Local) → Scene argument_local fr xs → Keeps fr (field_of_argument 5) (lay_of (bang o)) seen
    unfolding type_of_part
    seen_kept fr xs scene = field_kept fr xs 5 (omega arith) scene

    seen_long : length seen ≡ slots (bang o)
    seen_long = machine_slots types (bang o) seen seen_machine

    -- what the function takes
    item_machine : (n : ℕ) (cs : List Scalar) → n < 2 ^ bits w → is_machine types c cs ≡ true → is_machine types item (NumberScalar n ∷ (cs ++ seen)) ≡ true
    unfolding is_machine are_machine
    item_machine n cs h m =
        let last = machine_front types (codes "obsv") (bang o) end seen [] seen_machine refl in
        machine_front types (codes "elem") (word w) (part (codes "acc") c false (part (codes "obsv") (bang o) false end)) (NumberScalar n ∷ []) (cs ++ seen) (lt-ltb n (2 ^ bits w) h)
        (machine_front types (codes "acc") c (part (codes "obsv") (bang o) false end) cs seen m
        (subst (λ z. are_machine types (part (codes "obsv") (bang o) false end) z ≡ true) (append-nil seen) last))

    -- its parts
    item_size : size (lay_of item) ≡ 1 + (slots c + slots (bang o))
    unfolding slots
    item_size = size_slots numbered q.program.structs item di ∙ omega arith

    elem_leads : walk (step_name (field 0) ∷ []) (lay_of item) ≡ Some (spot 0 (cell w))
    unfolding type_of_part count
    elem_leads = field_leads numbered q.program.structs item_parts U 0 di (omega arith)

    acc_leads : walk (step_name (field 1) ∷ []) (lay_of item) ≡ Some (spot 1 (lay_of c))
    unfolding type_of_part count slots
    acc_leads = field_leads numbered q.program.structs item_parts U 1 di (omega arith)

    obsv_leads : walk (step_name (field 2) ∷ []) (lay_of item) ≡ Some (spot (1 + slots c) (lay_of (bang o)))
    unfolding type_of_part count slots
    obsv_leads = field_leads numbered q.program.structs item_parts U 2 di (omega arith) ∙ ap (λ n. Some (spot n (lay_of (bang o)))) (omega arith)

    acc_size : size (lay_of c) ≡ slots c
    unfolding IsDeclared
    acc_size = size_slots numbered q.program.structs c di.2.1.0

    obsv_size : size (lay_of (bang o)) ≡ slots (bang o)
    unfolding IsDeclared
    obsv_size = size_slots numbered q.program.structs (bang o) di.2.1.1.0

    -- what is handed on, as a part
    acc_part : (u : Scalar) (cs : List Scalar) → is_machine types c cs ≡ true → part_at 1 item_parts (u ∷ (cs ++ seen)) ≡ Some cs
    unfolding part_at slots
    acc_part u cs m =
        let long = machine_slots types c cs m in
        let all = length-append cs seen in
        rw (le-leb (slots c) (length (cs ++ seen)) (omega (arith, long, all))) (ap Some (subst (λ n. take n (cs ++ seen) ≡ cs) long (take-append_seam cs seen)))

    -- unset slots, by these parts
    item_unset : replicate (size (lay_of item)) Unset ≡ Unset ∷ (replicate (slots c) Unset ++ replicate (slots (bang o)) Unset)
    item_unset =
        let n : size (lay_of item) ≡ suc (slots c + slots (bang o)) = item_size ∙ omega arith in
        ap (λ k. replicate k Unset) n ∙ ap (λ z. Unset ∷ z) (sym (replicate-append-replicate (slots c) (slots (bang o)) Unset))

    -- ---- what stands before the loop

    abbrev Reach : List Stmt → Frame → runs.State → ℕ → List Local → runs.State → Type 0
    Reach code fr s n xs t = Reaches q numbered l argument_local code fr s n xs t

    -- there are few locals
    few_locals : (z e m it : List Scalar) (extra : List Local) → length extra ≤ 2 → length (standing z e m it extra) ≤ 2 ^ 64
    few_locals z e m it extra h = omega (arith, h)

    -- what is observed is set
    observes : (fr : Frame) (s : runs.State) (z e m acc old : List Scalar) (u : Scalar) (extra : List Local) → length acc ≡ slots c → length old ≡ slots (bang o) → length extra ≤ 2
        → Scene argument_local fr (standing z e m (u ∷ (acc ++ old)) extra)
        → Reach (setting 3 (field 2 ∷ []) (field_of_argument 5) ∷ []) fr s 1 (standing z e m (u ∷ (acc ++ seen)) extra) s
    observes fr s z e m acc old u extra h k short scene =
        sets q numbered l argument_local fr s 3 (standing z e m (u ∷ (acc ++ old)) extra) (record { layout = lay_of item; scalars = u ∷ (acc ++ old) }) (field 2 ∷ []) (field_of_argument 5)
        (lay_of (bang o)) (1 + slots c) seen (u ∷ (acc ++ seen)) scene refl obsv_leads (seen_kept fr (standing z e m (u ∷ (acc ++ old)) extra) scene)
        (machine_readable numbered q.program.structs types few (bang o) seen seen_machine)
        (spliced_next (1 + slots c) (slots (bang o)) (u ∷ acc) old seen (lay_of (bang o)) obsv_size (omega (arith, h))
        ∙ ap (λ y. (u ∷ (acc ++ seen)) ++ y) (drop_all (slots (bang o)) old (omega (arith, k))) ∙ append-nil (u ∷ (acc ++ seen)))
        (let all = length-append acc seen in omega (arith, all, h, seen_long, item_size)) (few_locals z e m (u ∷ (acc ++ old)) extra short)

    -- what is handed on first is set
    hands : (fr : Frame) (s : runs.State) (z e m old last : List Scalar) (u : Scalar) (extra : List Local) → length old ≡ slots c → length last ≡ slots (bang o) → length extra ≤ 2
        → Scene argument_local fr (standing z e m (u ∷ (old ++ last)) extra)
        → Reach (setting 3 (field 1 ∷ []) (field_of_argument 4) ∷ []) fr s 1 (standing z e m (u ∷ (first ++ last)) extra) s
    hands fr s z e m old last u extra h k short scene =
        sets q numbered l argument_local fr s 3 (standing z e m (u ∷ (old ++ last)) extra) (record { layout = lay_of item; scalars = u ∷ (old ++ last) }) (field 1 ∷ []) (field_of_argument 4)
        (lay_of c) 1 first (u ∷ (first ++ last)) scene refl acc_leads (first_kept fr (standing z e m (u ∷ (old ++ last)) extra) scene)
        (machine_readable numbered q.program.structs types few c first first_machine)
        (middle_spliced 1 (slots c) (u ∷ []) old last first (lay_of c) acc_size (omega arith) h)
        (let all = length-append first last in let long = machine_slots types c first first_machine in omega (arith, all, k, long, item_size)) (few_locals z e m (u ∷ (old ++ last)) extra short)

    -- the index is read as a number
    index_number : (fr : Frame) (z : ℕ) (e m it : List Scalar) (extra : List Local) → z < 2 ^ 32 → Scene argument_local fr (standing (NumberScalar z ∷ []) e m it extra) → KeepsNumber fr U32 (whole_local 0) z
    index_number fr z e m it extra h scene =
        record { keeps = scene_whole argument_local fr 0 (standing (NumberScalar z ∷ []) e m it extra) (record { layout = cell U32; scalars = NumberScalar z ∷ [] }) refl scene; small = h }

    -- and the end
    last_number : (fr : Frame) (e : ℕ) (z m it : List Scalar) (extra : List Local) → e < 2 ^ 32 → Scene argument_local fr (standing z (NumberScalar e ∷ []) m it extra) → KeepsNumber fr U32 (whole_local 1) e
    last_number fr e z m it extra h scene =
        record { keeps = scene_whole argument_local fr 1 (standing z (NumberScalar e ∷ []) m it extra) (record { layout = cell U32; scalars = NumberScalar e ∷ [] }) refl scene; small = h }

    -- and whether a turn comes
    test_number : (fr : Frame) (b : Bool) (z e it : List Scalar) (extra : List Local) → Scene argument_local fr (standing z e (NumberScalar (flag b) ∷ []) it extra) → KeepsNumber fr U8 (whole_local 2) (flag b)
    test_number fr b z e it extra scene =
        record { keeps = scene_whole argument_local fr 2 (standing z e (NumberScalar (flag b) ∷ []) it extra) (record { layout = cell U8; scalars = NumberScalar (flag b) ∷ [] }) refl scene; small = let one = flag_is_small b in omega (arith, one) }

    -- whether the index is below the end
    tests : (fr : Frame) (s : runs.State) (z e : ℕ) (m it : List Scalar) (extra : List Local) → z < 2 ^ 32 → e < 2 ^ 32 → length extra ≤ 2
        → Scene argument_local fr (standing (NumberScalar z ∷ []) (NumberScalar e ∷ []) m it extra)
        → Reach (less U32 2 (whole_local 0) (whole_local 1) ∷ []) fr s 1 (standing (NumberScalar z ∷ []) (NumberScalar e ∷ []) (NumberScalar (flag (nat_lt z e)) ∷ []) it extra) s
    tests fr s z e m it extra h k short scene =
        computes q numbered l argument_local fr s 2 (standing (NumberScalar z ∷ []) (NumberScalar e ∷ []) m it extra) (record { layout = cell U8; scalars = m }) cop.Lt U8 U32 (whole_local 0) (whole_local 1) z e
        (flag (nat_lt z e)) scene refl refl (index_number fr z (NumberScalar e ∷ []) m it extra h scene) (last_number fr e (NumberScalar z ∷ []) m it extra k scene) (less_is U32 z e h k)
        (few_locals (NumberScalar z ∷ []) (NumberScalar e ∷ []) m it extra short)

    -- whether the bound is below the length
    bounded : (fr : Frame) (s : runs.State) (e : ℕ) (z m it : List Scalar) (extra : List Local) → e < 2 ^ 32 → length extra ≤ 2 → Scene argument_local fr (standing z (NumberScalar e ∷ []) m it extra)
        → Reach (less U32 2 (field_of_argument 2) (whole_local 1) ∷ []) fr s 1 (standing z (NumberScalar e ∷ []) (NumberScalar (flag (nat_lt bound e)) ∷ []) it extra) s
    bounded fr s e z m it extra k short scene =
        computes q numbered l argument_local fr s 2 (standing z (NumberScalar e ∷ []) m it extra) (record { layout = cell U8; scalars = m }) cop.Lt U8 U32 (field_of_argument 2) (whole_local 1) bound e
        (flag (nat_lt bound e)) scene refl refl (record { keeps = bound_kept fr (standing z (NumberScalar e ∷ []) m it extra) scene; small = bound_is.1 }) (last_number fr e z m it extra k scene)
        (less_is U32 bound e bound_is.1 k) (few_locals z (NumberScalar e ∷ []) m it extra short)

    -- the bound is the end
    ends_at_bound : (fr : Frame) (s : runs.State) (e : ℕ) (z m it : List Scalar) (extra : List Local) → length extra ≤ 2 → Scene argument_local fr (standing z (NumberScalar e ∷ []) m it extra)
        → Reach (setting 1 [] (field_of_argument 2) ∷ []) fr s 1 (standing z (NumberScalar bound ∷ []) m it extra) s
    unfolding size
    ends_at_bound fr s e z m it extra short scene =
        sets q numbered l argument_local fr s 1 (standing z (NumberScalar e ∷ []) m it extra) (record { layout = cell U32; scalars = NumberScalar e ∷ [] }) [] (field_of_argument 2) (cell U32) 0
        (NumberScalar bound ∷ []) (NumberScalar bound ∷ []) scene refl refl (bound_kept fr (standing z (NumberScalar e ∷ []) m it extra) scene) (bound, refl, bound_is.1) refl refl
        (few_locals z (NumberScalar e ∷ []) m it extra short)

    -- where the index begins
    starts : (fr : Frame) (s : runs.State) (u : Scalar) (e m it : List Scalar) (extra : List Local) → length extra ≤ 2 → Scene argument_local fr (standing (u ∷ []) e m it extra)
        → Reach (setting 0 [] (field_of_argument 1) ∷ []) fr s 1 (standing (NumberScalar from ∷ []) e m it extra) s
    unfolding size
    starts fr s u e m it extra short scene =
        sets q numbered l argument_local fr s 0 (standing (u ∷ []) e m it extra) (record { layout = cell U32; scalars = u ∷ [] }) [] (field_of_argument 1) (cell U32) 0
        (NumberScalar from ∷ []) (NumberScalar from ∷ []) scene refl refl (from_kept fr (standing (u ∷ []) e m it extra) scene) (from, refl, from_is.1) refl refl
        (few_locals (u ∷ []) e m it extra short)

    -- how long the array is
    measures : (fr : Frame) (s : runs.State) (u : Scalar) (z m it : List Scalar) (extra : List Local) → length extra ≤ 2 → are_words (word w) (cell_at s.store at_array) ≡ true
        → Scene argument_local fr (standing z (u ∷ []) m it extra)
        → Reach (assign (path (local 1) []) (called (array_call w (codes "length")) (operand array_of_argument ∷ [])) ∷ []) fr s 1
        (standing z (NumberScalar (length (words_at at_array s.store)) ∷ []) m it extra) s
    unfolding size
    measures fr s u z m it extra short there scene =
        let n : ℕ = length (words_at at_array s.store) in
        let cells = words_are w (cell_at s.store at_array) there in
        let xs : List Local = standing z (u ∷ []) m it extra in
        record {
          frame = with_scalars (local_name 1) (NumberScalar n ∷ []) fr;
          runs =
              runs_built q l (path (local 1) []) (array_call w (codes "length")) (length_of w) (operand array_of_argument ∷ []) fr s s
              (typed (array_of w) (Address at_array ∷ []) ∷ []) (word_value U32 n) 0 (record { frame = with_scalars (local_name 1) (NumberScalar n ∷ []) fr; store = s.store })
              (length_callee q w)
              (one_judged q.program.structs s.store fr (operand array_of_argument) (typed (array_of w) (Address at_array ∷ []))
              (held_read q.program.structs s.store fr argument (field 0 ∷ []) (array_of w) (Address at_array ∷ []) (array_kept fr xs scene) (at_array, refl)))
              (λ m. let zero_more : 0 + m ≡ m = omega arith in rw zero_more (length_called w at_array (words_at at_array s.store) s m cells.0))
              (write_whole numbered q.program.structs s.store fr (local 1) (cell U32) (u ∷ []) (NumberScalar n ∷ []) (word_value U32 n)
              (stand_at fr 0 1 1 xs (record { layout = cell U32; scalars = u ∷ [] }) (omega arith) refl scene.locals) (given_typed (cell U32) (NumberScalar n ∷ [])));
          scene = scene_set argument_local fr 1 xs (record { layout = cell U32; scalars = u ∷ [] }) (NumberScalar n ∷ []) refl refl (few_locals z (u ∷ []) m it extra short) scene;
        }

    -- an element that is read
    reads_element : (fr : Frame) (s : runs.State) (z : ℕ) (e m it : List Scalar) (u : Scalar) (extra : List Local) → z < 2 ^ 32 → length extra ≤ 2 → are_words (word w) (cell_at s.store at_array) ≡ true
        → Scene argument_local fr (standing (NumberScalar z ∷ []) e m (u ∷ it) extra)
        → Reach (array_reads w ∷ []) fr s 1 (standing (NumberScalar z ∷ []) e m (NumberScalar (get_or (words_at at_array s.store) z 0) ∷ it) extra) s
    unfolding size
    reads_element fr s z e m it u extra h short there scene =
        let n : ℕ = get_or (words_at at_array s.store) z 0 in
        let cells = words_are w (cell_at s.store at_array) there in
        let xs : List Local = standing (NumberScalar z ∷ []) e m (u ∷ it) extra in
        let is = stand_at fr 0 3 3 xs (record { layout = lay_of item; scalars = u ∷ it }) (omega arith) refl scene.locals in
        record {
          frame = with_scalars (local_name 3) (NumberScalar n ∷ it) fr;
          runs =
              runs_built q l (path (local 3) (field 0 ∷ [])) (array_call w (codes "get")) (get w) (operand array_of_argument ∷ operand (whole_local 0) ∷ []) fr s s
              (typed (array_of w) (Address at_array ∷ []) ∷ word_value U32 z ∷ []) (word_value w n) 0 (record { frame = with_scalars (local_name 3) (NumberScalar n ∷ it) fr; store = s.store })
              (get_callee q w)
              (two_judged q.program.structs s.store fr (operand array_of_argument) (operand (whole_local 0)) (typed (array_of w) (Address at_array ∷ [])) (word_value U32 z)
              (held_read q.program.structs s.store fr argument (field 0 ∷ []) (array_of w) (Address at_array ∷ []) (array_kept fr xs scene) (at_array, refl))
              (held_read q.program.structs s.store fr (local 0) [] (cell U32) (NumberScalar z ∷ []) (scene_whole argument_local fr 0 xs (record { layout = cell U32; scalars = NumberScalar z ∷ [] }) refl scene) (z, refl, h)))
              (λ m. let zero_more : 0 + m ≡ m = omega arith in rw zero_more (get_called w at_array z (words_at at_array s.store) s m cells.0 cells.2 h))
              (write_part numbered q.program.structs s.store fr (local 3) (field 0 ∷ []) (lay_of item) (u ∷ it) (NumberScalar n ∷ []) (spot 0 (cell w)) (word_value w n)
              is elem_leads (given_typed (cell w) (NumberScalar n ∷ [])));
          scene = scene_set argument_local fr 3 xs (record { layout = lay_of item; scalars = u ∷ it }) (NumberScalar n ∷ it) refl is.sized (few_locals (NumberScalar z ∷ []) e m (u ∷ it) extra short) scene;
        }

    -- an element that is written
    puts_element : (fr : Frame) (s : State) (z k : ℕ) (e m it : List Scalar) (extra : List Local) (steps : List Step) → z < 2 ^ 32 → k < 2 ^ bits w → are_words (word w) (cell_at s.store at_array) ≡ true
        → Keeps fr (held (local 4) steps) (cell w) (NumberScalar k ∷ []) → Scene argument_local fr (standing (NumberScalar z ∷ []) e m it extra)
        → Reach (done_by (array_call w (codes "put")) (operand array_of_argument ∷ operand (whole_local 0) ∷ operand (held (local 4) steps) ∷ []) ∷ []) fr (as_run s) 1
        (standing (NumberScalar z ∷ []) e m it extra) (as_run (with_store (changed (with_element z k) at_array s.store) s))
    puts_element fr s z k e m it extra steps h small there keeps scene =
        let cells = words_are w (cell_at s.store at_array) there in
        let xs : List Local = standing (NumberScalar z ∷ []) e m it extra in
        record {
          frame = fr;
          runs =
              runs_done q l (array_call w (codes "put")) (put w) (operand array_of_argument ∷ operand (whole_local 0) ∷ operand (held (local 4) steps) ∷ []) fr (as_run s)
              (as_run (with_store (changed (with_element z k) at_array s.store) s))
              (typed (array_of w) (Address at_array ∷ []) ∷ word_value U32 z ∷ word_value w k ∷ []) (put_callee q w)
              (three_judged q.program.structs s.store fr (operand array_of_argument) (operand (whole_local 0)) (operand (held (local 4) steps)) (typed (array_of w) (Address at_array ∷ [])) (word_value U32 z) (word_value w k)
              (held_read q.program.structs s.store fr argument (field 0 ∷ []) (array_of w) (Address at_array ∷ []) (array_kept fr xs scene) (at_array, refl))
              (held_read q.program.structs s.store fr (local 0) [] (cell U32) (NumberScalar z ∷ []) (scene_whole argument_local fr 0 xs (record { layout = cell U32; scalars = NumberScalar z ∷ [] }) refl scene) (z, refl, h))
              (held_read q.program.structs s.store fr (local 4) steps (cell w) (NumberScalar k ∷ []) keeps (k, refl, small)))
              (λ b. put_called w at_array z k (words_at at_array s.store) (as_run s) b cells.0 h small);
          scene = scene;
        }

    -- what is handed on is set to what is kept elsewhere
    carries : (fr : Frame) (s : runs.State) (z e m old cs : List Scalar) (u : Scalar) (v : Place) (extra : List Local) → length old ≡ slots c → is_machine types c cs ≡ true → length extra ≤ 2
        → Keeps fr v (lay_of c) cs → Scene argument_local fr (standing z e m (u ∷ (old ++ seen)) extra)
        → Reach (setting 3 (field 1 ∷ []) v ∷ []) fr s 1 (standing z e m (u ∷ (cs ++ seen)) extra) s
    carries fr s z e m old cs u v extra h formed short keeps scene =
        sets q numbered l argument_local fr s 3 (standing z e m (u ∷ (old ++ seen)) extra) (record { layout = lay_of item; scalars = u ∷ (old ++ seen) }) (field 1 ∷ []) v
        (lay_of c) 1 cs (u ∷ (cs ++ seen)) scene refl acc_leads keeps
        (machine_readable numbered q.program.structs types few c cs formed)
        (middle_spliced 1 (slots c) (u ∷ []) old seen cs (lay_of c) acc_size (omega arith) h)
        (let all = length-append cs seen in let long = machine_slots types c cs formed in omega (arith, all, seen_long, long, item_size)) (few_locals z e m (u ∷ (old ++ seen)) extra short)

    -- the end is the lesser of the bound and the length
    ends : (fr : Frame) (s : runs.State) (e : ℕ) (z it : List Scalar) (extra : List Local) (b : Bool) → nat_lt bound e ≡ b → length extra ≤ 2
        → Scene argument_local fr (standing z (NumberScalar e ∷ []) (NumberScalar (flag b) ∷ []) it extra)
        → Reach (branch (operand (whole_local 2)) (to_block (setting 1 [] (field_of_argument 2) ∷ [])) stop ∷ []) fr s (suc (flag b)) (standing z (NumberScalar (min bound e) ∷ []) (NumberScalar (flag b) ∷ []) it extra) s
    unfolding to_block
    ends fr s e z it extra true h short scene =
        let made = ends_at_bound fr s e z (NumberScalar 1 ∷ []) it extra short scene in
        let lt = ltb-true bound e h in
        let same : bound ≡ min bound e = sym (min-eq_left (omega (arith, lt))) in
        record {
          frame = made.frame;
          runs =
              runs_branch q l (operand (whole_local 2)) (setting 1 [] (field_of_argument 2) ∷ []) [] fr made.frame s s 1 1
              (number_judged q.program.structs s.store fr U8 (whole_local 2) 1 (test_number fr true z (NumberScalar e ∷ []) it extra scene)) made.runs;
          scene = subst (λ n. Scene argument_local made.frame (standing z (NumberScalar n ∷ []) (NumberScalar 1 ∷ []) it extra)) same made.scene;
        }
    ends fr s e z it extra false h short scene =
        let ge = ltb-false bound e h in
        let same : e ≡ min bound e = sym (min-eq_left (omega (arith, ge))) ∙ min_comm e bound in
        record {
          frame = fr;
          runs =
              runs_branch q l (operand (whole_local 2)) (setting 1 [] (field_of_argument 2) ∷ []) [] fr fr s s 0 0
              (number_judged q.program.structs s.store fr U8 (whole_local 2) 0 (test_number fr false z (NumberScalar e ∷ []) it extra scene)) (runs_none q l fr s);
          scene = subst (λ n. Scene argument_local fr (standing z (NumberScalar n ∷ []) (NumberScalar 0 ∷ []) it extra)) same scene;
        }

    -- where the loop ends
    abbrev last_of : Stored → ℕ
    last_of m = min bound (length (words_at at_array m))

    -- which is a number of 32 bits
    last_small : (m : Stored) → last_of m < 2 ^ 32
    last_small m = let le = min-le_left bound (length (words_at at_array m)) in let small = bound_is.1 in omega (arith, le, small)

    -- the locals before a test
    abbrev looping : ℕ → ℕ → List Scalar → List Local → List Local
    looping n to it extra = standing (NumberScalar n ∷ []) (NumberScalar to ∷ []) (NumberScalar (flag (nat_lt n to)) ∷ []) it extra

    -- all that stands before the loop
    begins : (fr : Frame) (s : runs.State) (u v t y : Scalar) (oldc oldo : List Scalar) (extra : List Local) → length oldc ≡ slots c → length oldo ≡ slots (bang o) → length extra ≤ 2
        → are_words (word w) (cell_at s.store at_array) ≡ true → Scene argument_local fr (standing (u ∷ []) (v ∷ []) (t ∷ []) (y ∷ (oldc ++ oldo)) extra)
        → Reach (array_begins w) fr s (1 + (1 + (1 + (suc (flag (nat_lt bound (length (words_at at_array s.store)))) + (1 + (1 + 1)))))) (looping from (last_of s.store) (y ∷ (first ++ seen)) extra) s
    begins fr s u v t y oldc oldo extra h k short there scene =
        join (setting 0 [] (field_of_argument 1)) from1 fr 1 _ _ _ (starts fr s u (v ∷ []) (t ∷ []) it extra short scene) (λ fr1 sc1.
        join (assign (path (local 1) []) (called (array_call w (codes "length")) (operand array_of_argument ∷ []))) from2 fr1 1 _ _ _ (measures fr1 s v i0 (t ∷ []) it extra short there sc1) (λ fr2 sc2.
        join (less U32 2 (field_of_argument 2) (whole_local 1)) from3 fr2 1 _ _ _ (bounded fr2 s n i0 (t ∷ []) it extra small short sc2) (λ fr3 sc3.
        join (branch (operand (whole_local 2)) (to_block (setting 1 [] (field_of_argument 2) ∷ [])) stop) from4 fr3 (suc (flag (nat_lt bound n))) _ _ _ (ends fr3 s n i0 it extra (nat_lt bound n) refl short sc3) (λ fr4 sc4.
        join (less U32 2 (whole_local 0) (whole_local 1)) from5 fr4 1 _ _ _ (tests fr4 s from to (NumberScalar (flag (nat_lt bound n)) ∷ []) it extra from_is.1 (last_small s.store) short sc4) (λ fr5 sc5.
        join (setting 3 (field 1 ∷ []) (field_of_argument 4)) from6 fr5 1 _ _ _ (hands fr5 s i0 i1 i2 oldc oldo y extra h k short sc5) (λ fr6 sc6.
        observes fr6 s i0 i1 i2 first oldo y extra (machine_slots types c first first_machine) k short sc6))))))
      where
        n : ℕ
        n = length (words_at at_array s.store)

        to : ℕ
        to = last_of s.store

        it : List Scalar
        it = y ∷ (oldc ++ oldo)

        i0 : List Scalar
        i0 = NumberScalar from ∷ []

        i1 : List Scalar
        i1 = NumberScalar to ∷ []

        i2 : List Scalar
        i2 = NumberScalar (flag (nat_lt from to)) ∷ []

        small : n < 2 ^ 32
        small = (words_are w (cell_at s.store at_array) there).1

        from6 : List Stmt
        from6 = setting 3 (field 2 ∷ []) (field_of_argument 5) ∷ []

        from5 : List Stmt
        from5 = setting 3 (field 1 ∷ []) (field_of_argument 4) ∷ from6

        from4 : List Stmt
        from4 = less U32 2 (whole_local 0) (whole_local 1) ∷ from5

        from3 : List Stmt
        from3 = branch (operand (whole_local 2)) (to_block (setting 1 [] (field_of_argument 2) ∷ [])) stop ∷ from4

        from2 : List Stmt
        from2 = less U32 2 (field_of_argument 2) (whole_local 1) ∷ from3

        from1 : List Stmt
        from1 = assign (path (local 1) []) (called (array_call w (codes "length")) (operand array_of_argument ∷ [])) ∷ from2

        join : (z : Stmt) (rest : List Stmt) (fr : Frame) (i j : ℕ) (xs ys : List Local) → Reach (z ∷ []) fr s i xs s → ((fr' : Frame) → Scene argument_local fr' xs → Reach rest fr' s j ys s) → Reach (z ∷ rest) fr s (i + j) ys s
        join z rest fr i j xs ys one others = reaches_on q numbered l argument_local (z ∷ []) rest fr s s s i j xs ys one others

    -- the next index
    nexts : (fr : Frame) (s : runs.State) (n : ℕ) (e m it : List Scalar) (extra : List Local) → suc n < 2 ^ 32 → length extra ≤ 2 → Scene argument_local fr (standing (NumberScalar n ∷ []) e m it extra)
        → Reach (computing U32 0 (whole_local 0) (number 1) ∷ []) fr s 1 (standing (NumberScalar (n + 1) ∷ []) e m it extra) s
    nexts fr s n e m it extra h short scene =
        computes q numbered l argument_local fr s 0 (standing (NumberScalar n ∷ []) e m it extra) (record { layout = cell U32; scalars = NumberScalar n ∷ [] }) cop.Add U32 U32 (whole_local 0) (number 1) n 1
        (n + 1) scene refl refl (index_number fr n e m it extra (omega (arith, h)) scene) (record { keeps = record { word = U32; laid = refl; is = refl; small = omega arith }; small = omega arith })
        (sum_is U32 n 1 (omega (arith, h)) (omega arith) ∙ ap (λ k. runs.ok (word_value U32 k)) (mod-eq_of_lt (omega (arith, h)))) (few_locals (NumberScalar n ∷ []) e m it extra short)

    -- and whether it is below the end
    goes_on : (fr : Frame) (s : runs.State) (n to : ℕ) (m it : List Scalar) (extra : List Local) → n < to → to < 2 ^ 32 → length extra ≤ 2
        → Scene argument_local fr (standing (NumberScalar n ∷ []) (NumberScalar to ∷ []) m it extra) → Reach array_goes_on fr s 2 (looping (n + 1) to it extra) s
    goes_on fr s n to m it extra h k short scene =
        reaches_on q numbered l argument_local (computing U32 0 (whole_local 0) (number 1) ∷ []) (less U32 2 (whole_local 0) (whole_local 1) ∷ []) fr s s s 1 1
        (standing (NumberScalar (n + 1) ∷ []) (NumberScalar to ∷ []) m it extra) (looping (n + 1) to it extra)
        (nexts fr s n (NumberScalar to ∷ []) m it extra (omega (arith, h, k)) short scene)
        (λ fr1 sc1. tests fr1 s (n + 1) to m it extra (omega (arith, h, k)) k short sc1)

    -- ---- turns

    -- a turn's call, whose answer goes to a part of a local
    module _ (callee : List ℕ) (price : Price) (call : List Scalar → State → ℕ → Outcome) (does : Does types numbered q callee price function item r call) where
      -- the call
      called_is : (n : ℕ) (cs ws : List Scalar) (s s' : State) (left rest : ℕ) → n < 2 ^ bits w → is_machine types c cs ≡ true
          → call (NumberScalar n ∷ (cs ++ seen)) s left ≡ gives ws s' rest
          → TurnCalled types numbered q callee price r (typed (cell U32) (NumberScalar function ∷ [])) (typed (lay_of item) (NumberScalar n ∷ (cs ++ seen))) s s' ws left rest
      called_is n cs ws s s' left rest h m e =
          does (NumberScalar n ∷ (cs ++ seen)) ws s s' left rest function_is.1 e (item_machine n cs h m)

      -- and what is set to its answer
      turn_is : (fr : Frame) (s s' : State) (n to i : ℕ) (z e m cs ws after : List Scalar) (extra : List Local) (y : Local) (steps : List Step) (left rest : ℕ)
          → Scene argument_local fr (standing z e m (NumberScalar n ∷ (cs ++ seen)) extra) → n < 2 ^ bits w → is_machine types c cs ≡ true → length extra ≤ 2
          → slice_get (standing z e m (NumberScalar n ∷ (cs ++ seen)) extra) to ≡ Some y → walk (map step_name steps) y.layout ≡ Some (spot i (lay_of r))
          → spliced (spot i (lay_of r)) ws y.scalars ≡ after → length after ≡ size y.layout
          → (turn : TurnCalled types numbered q callee price r (typed (cell U32) (NumberScalar function ∷ [])) (typed (lay_of item) (NumberScalar n ∷ (cs ++ seen))) s s' ws left rest)
          → Reach (turning callee to steps 3 ∷ []) fr (as_run s) (suc turn.steps) (replaced to after (standing z e m (NumberScalar n ∷ (cs ++ seen)) extra)) (as_run s')
      turn_is fr s s' n to i z e m cs ws after extra y steps left rest scene h mc short at leads becomes sized turn =
          turn_runs types numbered q l callee price argument_local fr s s' r to 3 i (standing z e m (NumberScalar n ∷ (cs ++ seen)) extra) y
          (record { layout = lay_of item; scalars = NumberScalar n ∷ (cs ++ seen) }) steps (NumberScalar function ∷ []) (NumberScalar n ∷ (cs ++ seen)) ws after left rest
          scene at refl refl (machine_readable numbered q.program.structs types few item (NumberScalar n ∷ (cs ++ seen)) (item_machine n cs h mc))
          (function_kept fr (standing z e m (NumberScalar n ∷ (cs ++ seen)) extra) scene) (function, refl, function_is.2) leads becomes sized
          (few_locals z e m (NumberScalar n ∷ (cs ++ seen)) extra short) turn

    -- ---- the loop

    -- statements that make a turn up to its index, with one more local or none that they set
    module _ (price : Price) (lib : Lib) (args : List Tau) (call : List Scalar → State → ℕ → Outcome) (code : List Stmt) (extra : List Scalar → List Local) (short : (ys : List Scalar) → length (extra ys) ≤ 2) where
      -- what a turn does
      record Turned (fr : Frame) (s : State) (n to : ℕ) (test : List Scalar) (is : List ℕ) (left : ℕ) (ws : List Scalar) (s' : State) (rest : ℕ) : Type 0 where
        handed : List Scalar
        state : State
        kept : ℕ
        answer : List Scalar
        element : Scalar
        steps : ℕ
        within : steps + price.worth kept + 3 ≤ price.worth left
        formed : is_machine types c handed ≡ true
        there : are_words (word w) (cell_at state.store at_array) ≡ true
        reach : Reach code fr (as_run s) steps (standing (NumberScalar n ∷ []) (NumberScalar to ∷ []) test (element ∷ (handed ++ seen)) (extra answer)) (as_run state)
        later : turns call lib args x is handed state kept ≡ gives ws s' rest

      abbrev Turn : Type 0
      Turn =
          (fr : Frame) (s s' : State) (n to : ℕ) (test cs ys ws : List Scalar) (u : Scalar) (is : List ℕ) (left rest : ℕ) → n < to → to < 2 ^ 32 → is_machine types c cs ≡ true
          → are_words (word w) (cell_at s.store at_array) ≡ true
          → Scene argument_local fr (standing (NumberScalar n ∷ []) (NumberScalar to ∷ []) test (u ∷ (cs ++ seen)) (extra ys))
          → turns call lib args x (n ∷ is) cs s left ≡ gives ws s' rest → Turned fr s n to test is left ws s' rest

      -- what the whole loop does
      record Looped (fr : Frame) (s : State) (to left : ℕ) (ws : List Scalar) (s' : State) (rest : ℕ) : Type 0 where
        steps : ℕ
        frame : Frame
        index : ℕ
        handed : List Scalar
        answer : List Scalar
        element : Scalar
        within : steps + price.worth rest ≤ price.worth left + 1
        formed : is_machine types c handed ≡ true
        is : ended lib x handed ≡ ws
        loops : Loops q l (operand (whole_local 2)) (code ++ array_goes_on) fr (as_run s) steps frame (as_run s')
        scene : Scene argument_local frame (looping index to (element ∷ (handed ++ seen)) (extra answer))

      -- what the test says
      tested : (fr : Frame) (s : runs.State) (n to : ℕ) (it : List Scalar) (others : List Local) (b : Bool) → nat_lt n to ≡ b → Scene argument_local fr (looping n to it others)
          → judged_word q.program.structs s.store fr (operand (whole_local 2)) ≡ runs.ok (flag b)
      tested fr s n to it others b e scene =
          number_judged q.program.structs s.store fr U8 (whole_local 2) (flag (nat_lt n to)) (test_number fr (nat_lt n to) (NumberScalar n ∷ []) (NumberScalar to ∷ []) it others scene)
          ∙ ap (λ z. runs.ok (flag z)) e

      -- no turn comes
      no_turn : (fr : Frame) (s s' : State) (n to : ℕ) (cs ys ws : List Scalar) (u : Scalar) (left rest : ℕ) → nat_lt n to ≡ false → is_machine types c cs ≡ true
          → Scene argument_local fr (looping n to (u ∷ (cs ++ seen)) (extra ys)) → turns call lib args x [] cs s left ≡ gives ws s' rest → Looped fr s to left ws s' rest
      unfolding turns
      no_turn fr s s' n to cs ys ws u left rest h m scene e =
          let same = same_rest (ended lib x cs) ws s s' left rest e in
          record {
            steps = 1;
            frame = fr;
            index = n;
            handed = cs;
            answer = ys;
            element = u;
            within = omega (arith, ap price.worth same);
            formed = m;
            is = same_scalars (ended lib x cs) ws s s' left rest e;
            loops =
                subst (λ z. Loops q l (operand (whole_local 2)) (code ++ array_goes_on) fr (as_run s) 1 fr (as_run z)) (same_state (ended lib x cs) ws s s' left rest e)
                (loops_end q l (operand (whole_local 2)) (code ++ array_goes_on) fr (as_run s) (tested fr (as_run s) n to (u ∷ (cs ++ seen)) (extra ys) false h scene));
            scene = scene;
          }

      -- a turn, and then the others
      one_turn : (fr : Frame) (s s' : State) (n to : ℕ) (cs ys ws : List Scalar) (u : Scalar) (is : List ℕ) (left rest : ℕ) → nat_lt n to ≡ true → to < 2 ^ 32
          → Scene argument_local fr (looping n to (u ∷ (cs ++ seen)) (extra ys))
          → (t : Turned fr s n to (NumberScalar (flag (nat_lt n to)) ∷ []) is left ws s' rest)
          → ((fr' : Frame) → Scene argument_local fr' (looping (n + 1) to (t.element ∷ (t.handed ++ seen)) (extra t.answer)) → Looped fr' t.state to t.kept ws s' rest)
          → Looped fr s to left ws s' rest
      one_turn fr s s' n to cs ys ws u is left rest h small scene t others =
          let made =
          reaches_on q numbered l argument_local code array_goes_on fr (as_run s) (as_run t.state) (as_run t.state) t.steps 2
          (standing (NumberScalar n ∷ []) (NumberScalar to ∷ []) (NumberScalar (flag (nat_lt n to)) ∷ []) (t.element ∷ (t.handed ++ seen)) (extra t.answer))
          (looping (n + 1) to (t.element ∷ (t.handed ++ seen)) (extra t.answer)) t.reach
          (λ fr1 sc1. goes_on fr1 (as_run t.state) n to (NumberScalar (flag (nat_lt n to)) ∷ []) (t.element ∷ (t.handed ++ seen)) (extra t.answer) (ltb-true n to h) small (short t.answer) sc1) in
          let z = others made.frame made.scene in
          record {
            steps = 1 + (t.steps + 2) + z.steps;
            frame = z.frame;
            index = z.index;
            handed = z.handed;
            answer = z.answer;
            element = z.element;
            within = let a = t.within in let b = z.within in omega (arith, a, b);
            formed = z.formed;
            is = z.is;
            loops =
                loops_turn q l (operand (whole_local 2)) (code ++ array_goes_on) fr made.frame z.frame (as_run s) (as_run t.state) (as_run s') 0 (t.steps + 2) z.steps
                (tested fr (as_run s) n to (u ∷ (cs ++ seen)) (extra ys) true h scene) made.runs z.loops;
            scene = z.scene;
          }

      -- all turns
      all_turns : Turn → (m n to : ℕ) (fr : Frame) (s s' : State) (cs ys ws : List Scalar) (u : Scalar) (left rest : ℕ) → to ≤ n + m → to < 2 ^ 32 → is_machine types c cs ≡ true
          → are_words (word w) (cell_at s.store at_array) ≡ true → Scene argument_local fr (looping n to (u ∷ (cs ++ seen)) (extra ys))
          → turns call lib args x (counted m n to 1) cs s left ≡ gives ws s' rest → Looped fr s to left ws s' rest
      all_turns turn zero n to fr s s' cs ys ws u left rest enough small mc there scene e =
          no_turn fr s s' n to cs ys ws u left rest (le-ltb n to (omega (arith, enough))) mc scene
          (subst (λ is. turns call lib args x is cs s left ≡ gives ws s' rest) (counted_none zero n to 1 (le-ltb n to (omega (arith, enough)))) e)
      all_turns turn (suc m) n to fr s s' cs ys ws u left rest enough small mc there scene e =
          by_test (nat_lt n to) refl
          (λ t fr1 sc1. all_turns turn m (n + 1) to fr1 t.state s' t.handed t.answer ws t.element t.kept rest (omega (arith, enough)) small t.formed t.there sc1 t.later)
        where
          by_test : (b : Bool) → nat_lt n to ≡ b
              → ((t : Turned fr s n to (NumberScalar (flag (nat_lt n to)) ∷ []) (counted m (n + 1) to 1) left ws s' rest) (fr' : Frame) → Scene argument_local fr' (looping (n + 1) to (t.element ∷ (t.handed ++ seen)) (extra t.answer)) → Looped fr' t.state to t.kept ws s' rest)
              → Looped fr s to left ws s' rest
          by_test false h others =
              no_turn fr s s' n to cs ys ws u left rest h mc scene (subst (λ is. turns call lib args x is cs s left ≡ gives ws s' rest) (counted_none (suc m) n to 1 h) e)
          by_test true h others =
              let t =
              turn fr s s' n to (NumberScalar (flag (nat_lt n to)) ∷ []) cs ys ws u (counted m (n + 1) to 1) left rest (ltb-true n to h) small mc there scene
              (subst (λ is. turns call lib args x is cs s left ≡ gives ws s' rest) (counted_next m n to 1 h) e) in
              one_turn fr s s' n to cs ys ws u (counted m (n + 1) to 1) left rest h small scene t (others t)

      -- what all statements up to the end of the loop do
      record Made (fr : Frame) (s : State) (left : ℕ) (ws : List Scalar) (s' : State) (rest : ℕ) : Type 0 where
        steps : ℕ
        index : ℕ
        to : ℕ
        handed : List Scalar
        answer : List Scalar
        element : Scalar
        within : steps + price.worth rest ≤ price.worth left + 9
        formed : is_machine types c handed ≡ true
        is : ended lib x handed ≡ ws
        reach : Reach (array_begins w ++ while (operand (whole_local 2)) (to_block (code ++ array_goes_on)) ∷ []) fr (as_run s) steps (looping index to (element ∷ (handed ++ seen)) (extra answer)) (as_run s')

      -- they do that
      made_is : Turn → (fr : Frame) (s s' : State) (u v t y : Scalar) (oldc oldo ys ws : List Scalar) (left rest : ℕ) → length oldc ≡ slots c → length oldo ≡ slots (bang o)
          → are_words (word w) (cell_at s.store at_array) ≡ true → Scene argument_local fr (standing (u ∷ []) (v ∷ []) (t ∷ []) (y ∷ (oldc ++ oldo)) (extra ys))
          → turns call lib args x (counted (last_of s.store) from (last_of s.store) 1) first s left ≡ gives ws s' rest → Made fr s left ws s' rest
      made_is turn fr s s' u v t y oldc oldo ys ws left rest h k there scene e =
          let to : ℕ = last_of s.store in
          let start = begins fr (as_run s) u v t y oldc oldo (extra ys) h k (short ys) there scene in
          let loop = all_turns turn to from to start.frame s s' first ys ws y left rest (omega arith) (last_small s.store) first_machine there start.scene e in
          let one = flag_is_small (nat_lt bound (length (words_at at_array s.store))) in
          record {
            steps = 1 + (1 + (1 + (suc (flag (nat_lt bound (length (words_at at_array s.store)))) + (1 + (1 + 1))))) + loop.steps;
            index = loop.index;
            to = to;
            handed = loop.handed;
            answer = loop.answer;
            element = loop.element;
            within = let b = loop.within in omega (arith, one, b);
            formed = loop.formed;
            is = loop.is;
            reach = record {
              frame = loop.frame;
              runs =
                  runs_on q l (array_begins w) (while (operand (whole_local 2)) (to_block (code ++ array_goes_on)) ∷ []) fr start.frame loop.frame (as_run s) (as_run s) (as_run s')
                  (1 + (1 + (1 + (suc (flag (nat_lt bound (length (words_at at_array s.store)))) + (1 + (1 + 1)))))) loop.steps start.runs
                  (runs_while q l (operand (whole_local 2)) (code ++ array_goes_on) start.frame loop.frame (as_run s) (as_run s') loop.steps loop.loops);
              scene = loop.scene;
            };
          }

-- ---- fold

module _ (types : ℕ → Option Tau) (numbered : Tau → ℕ) (q : Linked) (l : Layout) (few : (k : ℕ) (t : Tau) → types k ≡ Some t → k < 2 ^ 32) (w : Word) (c o : Tau) (us : List Scalar)
    (d : IsDeclared numbered q.program.structs (taken types numbered q l few w R c o c us)) (di : IsDeclared numbered q.program.structs (item types numbered q l few w R c o c us))
    (machine : is_machine types (taken types numbered q l few w R c o c us) us ≡ true) (ts : List Tau) (callee : List ℕ) (price : Price) (call : List Scalar → State → ℕ → Outcome) (does : Does types numbered q callee price (function types numbered q l few w R c o c us) (item types numbered q l few w R c o c us) c call)
    (ty : function_type Fold (word w ∷ ts) ≡ arrow (item types numbered q l few w R c o c us) c) where
  -- the function of a fold, and a turn's statements up to its index
  abbrev fold_code : List Stmt
  fold_code = array_reads w ∷ turning callee 3 (field 1 ∷ []) 3 ∷ []

  -- what stands behind a call
  abbrev fold_behind : List ℕ → List Scalar → State → ℕ → Outcome
  fold_behind is ws t rest =
      where_true (are_words (word w) (cell_at t.store (at_array types numbered q l few w R c o c us))) (turns call Fold (word w ∷ ts) (x types numbered q l few w R c o c us) is ws (with_store t.store t) rest)

  -- there are no more
  no_others : (ys : List Scalar) → length {A = Local} [] ≤ 2
  no_others ys = omega arith

  -- a turn of a fold
  fold_turn : Turn types numbered q l few w R c o c us d di machine price Fold (word w ∷ ts) call fold_code (λ ys. []) no_others
  unfolding turns
  fold_turn fr s s' n to test cs ys ws u is left rest h small mc there scene e =
      let paid = pay_is left _ ws s' rest e in
      let b = bind_is (call (NumberScalar N ∷ (cs ++ observed)) s paid.0) (fold_behind is) ws s' rest paid.2 in
      let after = where_is (are_words (word w) (cell_at b.state.store address)) _ ws s' rest b.later in
      let turn = called_is types numbered q l few w R c o c us d di machine callee price call does N cs b.scalars s b.state paid.0 b.rest below mc b.first in
      let long = machine_slots types c b.scalars turn.machine in
      record {
        handed = b.scalars;
        state = b.state;
        kept = b.rest;
        answer = [];
        element = NumberScalar N;
        steps = 1 + suc turn.steps;
        within = let paid_one = ap price.worth paid.1 in let cost = turn.within in let pay = price.pays paid.0 in omega (arith, paid_one, cost, pay);
        formed = turn.machine;
        there = after.0;
        reach =
            reaches_on q numbered l (argument_local types numbered q l few w R c o c us) (array_reads w ∷ []) (turning callee 3 (field 1 ∷ []) 3 ∷ []) fr (as_run s) (as_run s) (as_run b.state) 1 (suc turn.steps)
            (stand cs) (stand b.scalars)
            (reads_element types numbered q l few w R c o c us d di machine fr (as_run s) n (NumberScalar to ∷ []) test (cs ++ observed) u [] (omega (arith, h, small)) (omega arith) there scene)
            (λ fr1 sc1.
            turn_is types numbered q l few w R c o c us d di machine callee price call does fr1 s b.state N 3 1 (NumberScalar n ∷ []) (NumberScalar to ∷ []) test cs b.scalars (NumberScalar N ∷ (b.scalars ++ observed)) []
            (record { layout = lay_of types numbered q l few w R c o c us (item types numbered q l few w R c o c us); scalars = NumberScalar N ∷ (cs ++ observed) }) (field 1 ∷ []) paid.0 b.rest sc1 below mc (omega arith) refl
            (acc_leads types numbered q l few w R c o c us d di machine)
            (middle_spliced 1 (slots c) (NumberScalar N ∷ []) cs observed b.scalars (lay_of types numbered q l few w R c o c us c) (acc_size types numbered q l few w R c o c us d di machine) (omega arith) (machine_slots types c cs mc))
            (let all = length-append b.scalars observed in omega (arith, all, long, seen_long types numbered q l few w R c o c us d di machine, item_size types numbered q l few w R c o c us d di machine))
            turn);
        later = after.1;
      }
    where
      address : ℕ
      address = at_array types numbered q l few w R c o c us

      observed : List Scalar
      observed = seen types numbered q l few w R c o c us

      N : ℕ
      N = get_or (words_at address s.store) n 0

      below : N < 2 ^ bits w
      below = element_below w n (words_at address s.store) (words_are w (cell_at s.store address) there).2

      stand : List Scalar → List Local
      stand cs = standing types numbered q l few w R c o c us (NumberScalar n ∷ []) (NumberScalar to ∷ []) test (NumberScalar N ∷ (cs ++ observed)) []

  -- the whole of a fold
  fold_done : (fr : Frame) (s s' : State) (ws : List Scalar) (left rest : ℕ) → Fresh (lay_c q) fr 0 (fold_low (types_in numbered Fold (word w ∷ ts)) callee).locals
      → Is fr argument_name (lay_of types numbered q l few w R c o c us (taken types numbered q l few w R c o c us)) us
      → are_words (word w) (cell_at s.store (at_array types numbered q l few w R c o c us)) ≡ true
      → turns call Fold (word w ∷ ts) (x types numbered q l few w R c o c us)
      (counted (last_of types numbered q l few w R c o c us d di machine s.store) (from types numbered q l few w R c o c us) (last_of types numbered q l few w R c o c us d di machine s.store) 1)
      (first types numbered q l few w R c o c us) s left ≡ gives ws s' rest
      → LoopRan price q l (fold_low (types_in numbered Fold (word w ∷ ts)) callee) fr s s' (lay_of types numbered q l few w R c o c us c) ws left rest
  unfolding size type_of_part count
  fold_done fr s s' ws left rest fresh is there e =
      let unset = subst (λ t. Is fr (local_name 3) (lay_of types numbered q l few w R c o c us (taken_by t)) (replicate (size (lay_of types numbered q l few w R c o c us (taken_by t))) Unset)) ty fresh.1.1.1.0 in
      let item_there = subst (λ z. Is fr (local_name 3) (lay_of types numbered q l few w R c o c us (item types numbered q l few w R c o c us)) z) (item_unset types numbered q l few w R c o c us d di machine) unset in
      let scene : Scene (argument_local types numbered q l few w R c o c us) fr (standing types numbered q l few w R c o c us (Unset ∷ []) (Unset ∷ []) (Unset ∷ []) (Unset ∷ (replicate (slots c) Unset ++ replicate (slots (bang o)) Unset)) []) =
      record { argued = is; locals = (fresh.0, (fresh.1.0, (fresh.1.1.0, (item_there, tt)))) } in
      let made =
      made_is types numbered q l few w R c o c us d di machine price Fold (word w ∷ ts) call fold_code (λ ys. []) no_others fold_turn fr s s' Unset Unset Unset Unset (replicate (slots c) Unset) (replicate (slots (bang o)) Unset) [] ws left rest
      (length-replicate (slots c) Unset) (length-replicate (slots (bang o)) Unset) there scene e in
      let item_now : List Scalar = made.element ∷ (made.handed ++ seen types numbered q l few w R c o c us) in
      let item_local : Local = record { layout = lay_of types numbered q l few w R c o c us (item types numbered q l few w R c o c us); scalars = item_now } in
      let formed : is_machine types c ws ≡ true = subst (λ z. is_machine types c z ≡ true) made.is made.formed in
      record {
        steps = made.steps;
        frame = made.reach.frame;
        within = let b = made.within in omega (arith, b);
        runs = made.reach.runs;
        keeps =
            keeps_field numbered q.program.structs made.reach.frame (whole_local 3) (item_parts types numbered q l few w R c o c us) 1 item_now ws di
            (scene_whole (argument_local types numbered q l few w R c o c us) made.reach.frame 3 (looping types numbered q l few w R c o c us d di machine made.index made.to item_now [])
            item_local (refl {a = Some item_local}) made.reach.scene)
            (acc_part types numbered q l few w R c o c us d di machine made.element made.handed made.formed ∙ ap Some made.is);
        readable = machine_readable numbered q.program.structs types few c ws formed;
      }

pub fold_ran : (w : Word) (ts : List Tau) → IteratorClaim Fold (word w ∷ ts)
unfolding bang type_of_part indices_from
fold_ran w ts types numbered q l callee price call fr s s' us ws left rest few does dt dg di dr is fresh machine e =
    let there = where_is (are_words (word w) (cell_at s.store (array_in (record { ty = taken_by (library_type Fold (word w ∷ ts)); scalars = us })))) _ ws s' rest e in
    fold_done types numbered q l few w (given (word w ∷ ts) 1) (given (word w ∷ ts) 2) us dt di machine ts callee price call does refl fr s s' ws left rest fresh is there.0 there.1

-- ---- map

module _ (types : ℕ → Option Tau) (numbered : Tau → ℕ) (q : Linked) (l : Layout) (few : (k : ℕ) (t : Tau) → types k ≡ Some t → k < 2 ^ 32) (w : Word) (c o : Tau) (us : List Scalar)
    (d : IsDeclared numbered q.program.structs (taken types numbered q l few w W c o (pair (word w) c) us)) (di : IsDeclared numbered q.program.structs (item types numbered q l few w W c o (pair (word w) c) us))
    (machine : is_machine types (taken types numbered q l few w W c o (pair (word w) c) us) us ≡ true) (ts : List Tau) (callee : List ℕ) (price : Price) (call : List Scalar → State → ℕ → Outcome) (does : Does types numbered q callee price (function types numbered q l few w W c o (pair (word w) c) us) (item types numbered q l few w W c o (pair (word w) c) us) (pair (word w) c) call)
    (ty : function_type Map (word w ∷ ts) ≡ arrow (item types numbered q l few w W c o (pair (word w) c) us) (pair (word w) c))
    (dr : IsDeclared numbered q.program.structs (pair (word w) c)) (dg : IsDeclared numbered q.program.structs (pair (array (word w)) c)) where
  -- what a turn gives, and what the whole gives
  abbrev both_parts : Parts
  both_parts = part (codes "p1") (word w) false (part (codes "p2") c false end)

  abbrev result_parts : Parts
  result_parts = part (codes "p1") (array (word w)) false (part (codes "p2") c false end)

  abbrev result_size : ℕ
  result_size = size (lay_c q (c_type numbered (pair (array (word w)) c)))

  -- the locals behind the loop's own
  abbrev map_others : List Scalar → List Scalar → List Local
  map_others ys rs =
      record { layout = lay_c q (c_type numbered (pair (word w) c)); scalars = ys } ∷ record { layout = lay_c q (c_type numbered (pair (array (word w)) c)); scalars = rs } ∷ []

  abbrev map_extra : List Scalar → List Local
  map_extra ys = map_others ys (replicate result_size Unset)

  -- there are two more
  map_short : (ys : List Scalar) → length (map_extra ys) ≤ 2
  map_short ys = omega arith

  -- the parts of what a turn gives
  record GivenParts (ws : List Scalar) : Type 0 where
    there : part_at 0 both_parts ws ≡ Some (NumberScalar (first_number (field_of (pair (word w) c) ws 0)) ∷ [])
    small : first_number (field_of (pair (word w) c) ws 0) < 2 ^ bits w
    later : part_at 1 both_parts ws ≡ Some (field_of (pair (word w) c) ws 1)
    formed : is_machine types c (field_of (pair (word w) c) ws 1) ≡ true

  -- which are there
  given_parts : (ws : List Scalar) → is_machine types (pair (word w) c) ws ≡ true → GivenParts ws
  unfolding is_machine type_of_part count
  given_parts ws m =
      let f = machine_part types 0 both_parts ws refl m (omega arith) in
      let g = machine_part types 1 both_parts ws refl m (omega arith) in
      let b = below_is (2 ^ bits w) f.scalars f.machine in
      let e : field_of (pair (word w) c) ws 0 ≡ NumberScalar b.0 ∷ [] = ap (λ z. unwrap_or z []) f.there ∙ b.1 in
      let same : b.0 ≡ first_number (field_of (pair (word w) c) ws 0) = sym (ap first_number e) in
      let is : field_of (pair (word w) c) ws 1 ≡ g.scalars = ap (λ z. unwrap_or z []) g.there in
      record {
        there = f.there ∙ ap Some (b.1 ∙ ap (λ z. NumberScalar z ∷ []) same);
        small = subst (λ n. n < 2 ^ bits w) same b.2;
        later = g.there ∙ ap Some (sym is);
        formed = subst (λ z. is_machine types c z ≡ true) (sym is) g.machine;
      }

  -- the function of a map, and a turn's statements up to its index
  abbrev map_puts : List Stmt
  map_puts =
      done_by (array_call w (codes "put")) (operand array_of_argument ∷ operand (whole_local 0) ∷ operand (held (local 4) (field 0 ∷ [])) ∷ [])
      ∷ setting 3 (field 1 ∷ []) (held (local 4) (field 1 ∷ [])) ∷ []

  abbrev map_code : List Stmt
  map_code = array_reads w ∷ turning callee 4 [] 3 ∷ map_puts

  -- the state behind a turn, and what stands behind a call
  abbrev map_state : ℕ → List Scalar → State → State
  map_state n ws t = with_store (changed (with_element n (first_number (field_of (pair (word w) c) ws 0))) (at_array types numbered q l few w W c o (pair (word w) c) us) t.store) t

  abbrev map_behind : ℕ → List ℕ → List Scalar → State → ℕ → Outcome
  map_behind n is ws t rest =
      where_true (are_words (word w) (cell_at t.store (at_array types numbered q l few w W c o (pair (word w) c) us)))
      (turns call Map (word w ∷ ts) (x types numbered q l few w W c o (pair (word w) c) us) is (field_of (pair (word w) c) ws 1) (map_state n ws t) rest)

  -- the element is written, and what is handed on is set
  map_puts_run : (fr : Frame) (s : State) (n k : ℕ) (e m cs ws : List Scalar) → n < 2 ^ 32 → length cs ≡ slots c → are_words (word w) (cell_at s.store (at_array types numbered q l few w W c o (pair (word w) c) us)) ≡ true
      → GivenParts ws
      → Scene (argument_local types numbered q l few w W c o (pair (word w) c) us) fr (standing types numbered q l few w W c o (pair (word w) c) us (NumberScalar n ∷ []) e m (NumberScalar k ∷ (cs ++ seen types numbered q l few w W c o (pair (word w) c) us)) (map_extra ws))
      → Reaches q numbered l (argument_local types numbered q l few w W c o (pair (word w) c) us) map_puts fr (as_run s) 2
      (standing types numbered q l few w W c o (pair (word w) c) us (NumberScalar n ∷ []) e m (NumberScalar k ∷ (field_of (pair (word w) c) ws 1 ++ seen types numbered q l few w W c o (pair (word w) c) us)) (map_extra ws)) (as_run (map_state n ws s))
  unfolding type_of_part
  map_puts_run fr s n k e m cs ws small long there g scene =
      reaches_on q numbered l around
      (done_by (array_call w (codes "put")) (operand array_of_argument ∷ operand (whole_local 0) ∷ operand (held (local 4) (field 0 ∷ [])) ∷ []) ∷ [])
      (setting 3 (field 1 ∷ []) (held (local 4) (field 1 ∷ [])) ∷ []) fr (as_run s) (as_run (map_state n ws s)) (as_run (map_state n ws s)) 1 1 (stand cs) (stand (field_of (pair (word w) c) ws 1))
      (puts_element types numbered q l few w W c o (pair (word w) c) us d di machine fr s n (first_number (field_of (pair (word w) c) ws 0)) e m (NumberScalar k ∷ (cs ++ observed)) (map_extra ws) (field 0 ∷ []) small g.small there
      (keeps_field numbered q.program.structs fr (whole_local 4) both_parts 0 ws (NumberScalar (first_number (field_of (pair (word w) c) ws 0)) ∷ []) dr (kept fr scene) g.there) scene)
      (λ fr1 sc1.
      carries types numbered q l few w W c o (pair (word w) c) us d di machine fr1 (as_run (map_state n ws s)) (NumberScalar n ∷ []) e m cs (field_of (pair (word w) c) ws 1) (NumberScalar k) (held (local 4) (field 1 ∷ [])) (map_extra ws)
      long g.formed (map_short ws)
      (keeps_field numbered q.program.structs fr1 (whole_local 4) both_parts 1 ws (field_of (pair (word w) c) ws 1) dr (kept fr1 sc1) g.later) sc1)
    where
      around : Local
      around = argument_local types numbered q l few w W c o (pair (word w) c) us

      observed : List Scalar
      observed = seen types numbered q l few w W c o (pair (word w) c) us

      stand : List Scalar → List Local
      stand ds = standing types numbered q l few w W c o (pair (word w) c) us (NumberScalar n ∷ []) e m (NumberScalar k ∷ (ds ++ observed)) (map_extra ws)

      kept : (fr : Frame) → Scene around fr (stand cs) → Keeps fr (whole_local 4) (lay_c q (c_type numbered (pair (word w) c))) ws
      kept fr scene = scene_whole around fr 4 (stand cs) (record { layout = lay_c q (c_type numbered (pair (word w) c)); scalars = ws }) refl scene

  -- a turn of a map
  map_turn : Turn types numbered q l few w W c o (pair (word w) c) us d di machine price Map (word w ∷ ts) call map_code map_extra map_short
  unfolding turns type_of_part
  map_turn fr s s' n to test cs ys ws u is left rest h small mc there scene e =
      let paid = pay_is left _ ws s' rest e in
      let b = bind_is (call (NumberScalar N ∷ (cs ++ observed)) s paid.0) (map_behind n is) ws s' rest paid.2 in
      let after = where_is (are_words (word w) (cell_at b.state.store address)) _ ws s' rest b.later in
      let turn = called_is types numbered q l few w W c o (pair (word w) c) us d di machine callee price call does N cs b.scalars s b.state paid.0 b.rest below mc b.first in
      let g = given_parts b.scalars turn.machine in
      record {
        handed = field_of (pair (word w) c) b.scalars 1;
        state = map_state n b.scalars b.state;
        kept = b.rest;
        answer = b.scalars;
        element = NumberScalar N;
        steps = 1 + (suc turn.steps + 2);
        within = let paid_one = ap price.worth paid.1 in let cost = turn.within in let pay = price.pays paid.0 in omega (arith, paid_one, cost, pay);
        formed = g.formed;
        there = kept_words w b.state.store address n (first_number (field_of (pair (word w) c) b.scalars 0)) g.small after.0;
        reach =
            reaches_on q numbered l around (array_reads w ∷ []) (turning callee 4 [] 3 ∷ map_puts) fr (as_run s) (as_run s) (as_run (map_state n b.scalars b.state)) 1 (suc turn.steps + 2)
            (stand cs (map_extra ys)) (stand (field_of (pair (word w) c) b.scalars 1) (map_extra b.scalars))
            (reads_element types numbered q l few w W c o (pair (word w) c) us d di machine fr (as_run s) n (NumberScalar to ∷ []) test (cs ++ observed) u (map_extra ys) (omega (arith, h, small)) (map_short ys) there scene)
            (λ fr1 sc1.
            reaches_on q numbered l around (turning callee 4 [] 3 ∷ []) map_puts fr1 (as_run s) (as_run b.state) (as_run (map_state n b.scalars b.state)) (suc turn.steps) 2
            (stand cs (map_extra b.scalars)) (stand (field_of (pair (word w) c) b.scalars 1) (map_extra b.scalars))
            (turn_is types numbered q l few w W c o (pair (word w) c) us d di machine callee price call does fr1 s b.state N 4 0 (NumberScalar n ∷ []) (NumberScalar to ∷ []) test cs b.scalars b.scalars (map_extra ys)
            (record { layout = lay; scalars = ys }) [] paid.0 b.rest sc1 below mc (map_short ys) refl refl
            (ap (λ z. b.scalars ++ z) (drop_all (0 + size lay) ys (let sized = (stand_at fr1 0 4 4 (stand cs (map_extra ys)) (record { layout = lay; scalars = ys }) (omega arith) refl sc1.locals).sized in omega (arith, sized))) ∙ append-nil b.scalars)
            (machine_slots types (pair (word w) c) b.scalars turn.machine ∙ sym (size_slots numbered q.program.structs (pair (word w) c) dr))
            turn)
            (λ fr2 sc2. map_puts_run fr2 b.state n N (NumberScalar to ∷ []) test cs b.scalars (omega (arith, h, small)) (machine_slots types c cs mc) after.0 g sc2));
        later = after.1;
      }
    where
      around : Local
      around = argument_local types numbered q l few w W c o (pair (word w) c) us

      lay : Layout
      lay = lay_c q (c_type numbered (pair (word w) c))

      address : ℕ
      address = at_array types numbered q l few w W c o (pair (word w) c) us

      observed : List Scalar
      observed = seen types numbered q l few w W c o (pair (word w) c) us

      N : ℕ
      N = get_or (words_at address s.store) n 0

      below : N < 2 ^ bits w
      below = element_below w n (words_at address s.store) (words_are w (cell_at s.store address) there).2

      stand : List Scalar → List Local → List Local
      stand ds others = standing types numbered q l few w W c o (pair (word w) c) us (NumberScalar n ∷ []) (NumberScalar to ∷ []) test (NumberScalar N ∷ (ds ++ observed)) others

  -- the unset slots of the result
  result_unset : replicate result_size Unset ≡ Unset ∷ replicate (slots c) Unset
  unfolding slots
  result_unset =
      let n : result_size ≡ suc (slots c) = size_slots numbered q.program.structs (pair (array (word w)) c) dg ∙ omega arith in
      ap (λ k. replicate k Unset) n

  -- and how many they are
  result_long : result_size ≡ 1 + slots c
  unfolding slots
  result_long = size_slots numbered q.program.structs (pair (array (word w)) c) dg ∙ omega arith

  -- the array in the result
  gives_array : (fr : Frame) (s : runs.State) (z e m it ys : List Scalar)
      → Scene (argument_local types numbered q l few w W c o (pair (word w) c) us) fr (standing types numbered q l few w W c o (pair (word w) c) us z e m it (map_others ys (Unset ∷ replicate (slots c) Unset)))
      → Reaches q numbered l (argument_local types numbered q l few w W c o (pair (word w) c) us) (setting 5 (field 0 ∷ []) array_of_argument ∷ []) fr s 1
      (standing types numbered q l few w W c o (pair (word w) c) us z e m it (map_others ys (Address (at_array types numbered q l few w W c o (pair (word w) c) us) ∷ replicate (slots c) Unset))) s
  unfolding size type_of_part count
  gives_array fr s z e m it ys scene =
      let address : ℕ = at_array types numbered q l few w W c o (pair (word w) c) us in
      let unset : List Scalar = replicate (slots c) Unset in
      let xs : List Local = standing types numbered q l few w W c o (pair (word w) c) us z e m it (map_others ys (Unset ∷ unset)) in
      let long = length-replicate (slots c) Unset in
      sets q numbered l (argument_local types numbered q l few w W c o (pair (word w) c) us) fr s 5 xs (record { layout = lay_c q (c_type numbered (pair (array (word w)) c)); scalars = Unset ∷ unset }) (field 0 ∷ []) array_of_argument
      (array_of w) 0 (Address address ∷ []) (Address address ∷ unset) scene refl (field_leads numbered q.program.structs result_parts U 0 dg (omega arith))
      (array_kept types numbered q l few w W c o (pair (word w) c) us d di machine fr xs scene) (address, refl) refl (omega (arith, long, result_long)) (omega arith)

  -- and what is handed on, behind it
  gives_handed : (fr : Frame) (s : runs.State) (z e m ys cs : List Scalar) (u v : Scalar) → is_machine types c cs ≡ true
      → Scene (argument_local types numbered q l few w W c o (pair (word w) c) us) fr
      (standing types numbered q l few w W c o (pair (word w) c) us z e m (u ∷ (cs ++ seen types numbered q l few w W c o (pair (word w) c) us)) (map_others ys (v ∷ replicate (slots c) Unset)))
      → Reaches q numbered l (argument_local types numbered q l few w W c o (pair (word w) c) us) (setting 5 (field 1 ∷ []) (held (local 3) (field 1 ∷ [])) ∷ []) fr s 1
      (standing types numbered q l few w W c o (pair (word w) c) us z e m (u ∷ (cs ++ seen types numbered q l few w W c o (pair (word w) c) us)) (map_others ys (v ∷ cs))) s
  unfolding type_of_part count slots
  gives_handed fr s z e m ys cs u v formed scene =
      let unset : List Scalar = replicate (slots c) Unset in
      let item_now : List Scalar = u ∷ (cs ++ seen types numbered q l few w W c o (pair (word w) c) us) in
      let xs : List Local = standing types numbered q l few w W c o (pair (word w) c) us z e m item_now (map_others ys (v ∷ unset)) in
      let long = length-replicate (slots c) Unset in
      let cs_long = machine_slots types c cs formed in
      sets q numbered l (argument_local types numbered q l few w W c o (pair (word w) c) us) fr s 5 xs (record { layout = lay_c q (c_type numbered (pair (array (word w)) c)); scalars = v ∷ unset }) (field 1 ∷ []) (held (local 3) (field 1 ∷ []))
      (lay_c q (c_type numbered c)) 1 cs (v ∷ cs) scene refl (field_leads numbered q.program.structs result_parts U 1 dg (omega arith))
      (keeps_field numbered q.program.structs fr (whole_local 3) (item_parts types numbered q l few w W c o (pair (word w) c) us) 1 item_now cs di
      (scene_whole (argument_local types numbered q l few w W c o (pair (word w) c) us) fr 3 xs (record { layout = lay_c q (c_type numbered (item types numbered q l few w W c o (pair (word w) c) us)); scalars = item_now }) refl scene)
      (acc_part types numbered q l few w W c o (pair (word w) c) us d di machine u cs formed))
      (machine_readable numbered q.program.structs types few c cs formed)
      (spliced_next 1 (slots c) (v ∷ []) unset cs (lay_c q (c_type numbered c)) (acc_size types numbered q l few w W c o (pair (word w) c) us d di machine) (omega arith)
      ∙ ap (λ y. (v ∷ cs) ++ y) (drop_all (slots c) unset (omega (arith, long))) ∙ append-nil (v ∷ cs))
      (omega (arith, cs_long, result_long)) (omega arith)

  -- the whole of a map
  map_done : (fr : Frame) (s s' : State) (ws : List Scalar) (left rest : ℕ) → Fresh (lay_c q) fr 0 (map_low (types_in numbered Map (word w ∷ ts)) callee).locals
      → Is fr argument_name (lay_of types numbered q l few w W c o (pair (word w) c) us (taken types numbered q l few w W c o (pair (word w) c) us)) us
      → are_words (word w) (cell_at s.store (at_array types numbered q l few w W c o (pair (word w) c) us)) ≡ true
      → given_by (library_type Map (word w ∷ ts)) ≡ pair (array (word w)) c
      → turns call Map (word w ∷ ts) (x types numbered q l few w W c o (pair (word w) c) us)
      (counted (last_of types numbered q l few w W c o (pair (word w) c) us d di machine s.store) (from types numbered q l few w W c o (pair (word w) c) us) (last_of types numbered q l few w W c o (pair (word w) c) us d di machine s.store) 1)
      (first types numbered q l few w W c o (pair (word w) c) us) s left ≡ gives ws s' rest
      → LoopRan price q l (map_low (types_in numbered Map (word w ∷ ts)) callee) fr s s' (lay_c q (c_type numbered (pair (array (word w)) c))) ws left rest
  unfolding size type_of_part count
  map_done fr s s' ws left rest fresh is there result e =
      let item_unset' = subst (λ t. Is fr (local_name 3) (lay (taken_by t)) (replicate (size (lay (taken_by t))) Unset)) ty fresh.1.1.1.0 in
      let item_there = subst (λ z. Is fr (local_name 3) (lay (item types numbered q l few w W c o (pair (word w) c) us)) z) (item_unset types numbered q l few w W c o (pair (word w) c) us d di machine) item_unset' in
      let answer_there = subst (λ t. Is fr (local_name 4) (lay (given_by t)) (replicate (size (lay (given_by t))) Unset)) ty fresh.1.1.1.1.0 in
      let result_there = subst (λ t. Is fr (local_name 5) (lay t) (replicate (size (lay t)) Unset)) result fresh.1.1.1.1.1.0 in
      let scene : Scene around fr (standing types numbered q l few w W c o (pair (word w) c) us (Unset ∷ []) (Unset ∷ []) (Unset ∷ []) (Unset ∷ (replicate (slots c) Unset ++ replicate (slots (bang o)) Unset)) (map_extra first_answer)) =
      record { argued = is; locals = (fresh.0, (fresh.1.0, (fresh.1.1.0, (item_there, (answer_there, (result_there, tt)))))) } in
      let made =
      made_is types numbered q l few w W c o (pair (word w) c) us d di machine price Map (word w ∷ ts) call map_code map_extra map_short map_turn fr s s' Unset Unset Unset Unset (replicate (slots c) Unset) (replicate (slots (bang o)) Unset) first_answer ws left rest
      (length-replicate (slots c) Unset) (length-replicate (slots (bang o)) Unset) there scene e in
      finished made
    where
      around : Local
      around = argument_local types numbered q l few w W c o (pair (word w) c) us

      lay : Tau → Layout
      lay t = lay_c q (c_type numbered t)

      address : ℕ
      address = at_array types numbered q l few w W c o (pair (word w) c) us

      first_answer : List Scalar
      first_answer = replicate (size (lay_c q (c_type numbered (pair (word w) c)))) Unset

      finished : Made types numbered q l few w W c o (pair (word w) c) us d di machine price Map (word w ∷ ts) call map_code map_extra map_short fr s left ws s' rest
          → LoopRan price q l (map_low (types_in numbered Map (word w ∷ ts)) callee) fr s s' (lay_c q (c_type numbered (pair (array (word w)) c))) ws left rest
      finished made =
          let index : List Scalar = NumberScalar made.index ∷ [] in
          let last : List Scalar = NumberScalar made.to ∷ [] in
          let test : List Scalar = NumberScalar (flag (nat_lt made.index made.to)) ∷ [] in
          let item_now : List Scalar = made.element ∷ (made.handed ++ seen types numbered q l few w W c o (pair (word w) c) us) in
          let scene = subst (λ z. Scene around made.reach.frame (standing types numbered q l few w W c o (pair (word w) c) us index last test item_now (map_others made.answer z))) result_unset made.reach.scene in
          let one = gives_array made.reach.frame (as_run s') index last test item_now made.answer scene in
          let two = gives_handed one.frame (as_run s') index last test made.answer made.handed made.element (Address address) made.formed one.scene in
          let are : Address address ∷ made.handed ≡ ws = ap (λ z. z ++ made.handed) (sym (array_is types numbered q l few w W c o (pair (word w) c) us d di machine)) ∙ made.is in
          record {
            steps = made.steps + 2;
            frame = two.frame;
            within = let b = made.within in omega (arith, b);
            runs =
                runs_on q l (array_begins w ++ while (operand (whole_local 2)) (to_block (map_code ++ array_goes_on)) ∷ []) (setting 5 (field 0 ∷ []) array_of_argument ∷ setting 5 (field 1 ∷ []) (held (local 3) (field 1 ∷ [])) ∷ [])
                fr made.reach.frame two.frame (as_run s) (as_run s') (as_run s') made.steps 2 made.reach.runs
                (runs_on q l (setting 5 (field 0 ∷ []) array_of_argument ∷ []) (setting 5 (field 1 ∷ []) (held (local 3) (field 1 ∷ [])) ∷ []) made.reach.frame one.frame two.frame (as_run s') (as_run s') (as_run s') 1 1 one.runs two.runs);
            keeps =
                subst (λ z. Keeps two.frame (whole_local 5) (lay_c q (c_type numbered (pair (array (word w)) c))) z) are
                (scene_whole around two.frame 5 (standing types numbered q l few w W c o (pair (word w) c) us index last test item_now (map_others made.answer (Address address ∷ made.handed)))
                (record { layout = lay_c q (c_type numbered (pair (array (word w)) c)); scalars = Address address ∷ made.handed }) refl two.scene);
            readable = subst (λ z. IsReadable z ws) (sym (layout_unfolds q.program.structs (record_struct numbered result_parts))) tt;
          }

pub map_ran : (w : Word) (ts : List Tau) → IteratorClaim Map (word w ∷ ts)
unfolding type_of_part indices_from
map_ran w ts types numbered q l callee price call fr s s' us ws left rest few does dt dg di dr is fresh machine e =
    let there = where_is (are_words (word w) (cell_at s.store (array_in (record { ty = taken_by (library_type Map (word w ∷ ts)); scalars = us })))) _ ws s' rest e in
    map_done types numbered q l few w (given (word w ∷ ts) 1) (given (word w ∷ ts) 2) us dt di machine ts callee price call does refl dr dg fr s s' ws left rest fresh is there.0 refl there.1
