-- Loops over numbers that a turn may end: `seq32_break`.
use Rattle.std.proofs.Common.{◌≡◌, ℕ, zero, suc, ◌+◌, ◌-◌, ◌^◌, ◌<◌, ◌≤◌, true, false, ◌&&◌, cond, not, Option, Some, List, [], ◌∷◌, ◌++◌, length, replicate, nat_eq, nat_lt, slice_get, unwrap_or, if◌then◌else◌, refl, sym, ap, ◌∙◌, subst, arith, inl, inr}
use Rattle.std.proofs.lemmas.Bool.{eqb-true, le-ltb, ltb-true, cases_Bool}
use Rattle.cg_base.specs.declared.fun.Lib.TheVariants.{Seq32Break}
use Rattle.cg_base.specs.declared.kind.Word.TheVariants.{U8, U32}
use Rattle.cg_base.specs.Types.{Tau, arrow}
use Rattle.cg_cgen.proofs.Numbers.{flag_is_small}
use Rattle.cg_cmachine_def.specs.Layouts.{Layout, cell, size}
use Rattle.cg_cmachine_def.specs.Operands.{Frame}
use Rattle.cg_cmachine_def.specs.Operations.{flag}
use Rattle.cg_cmachine_def.specs.Outcomes as runs
use Rattle.cg_cmachine_def.specs.Outcomes.{ok}
use Rattle.cg_cmachine_def.specs.Runs.{Linked, judged_word}
use Rattle.cg_ctree.specs.Trees.{to_block, while}
use Rattle.cg_heap.specs.declared.cell.Scalar.{Scalar}
use Rattle.cg_heap.specs.declared.cell.Scalar.TheVariants.{Unset, Word as NumberScalar}
use Rattle.cg_heap.specs.Reps.{first_number, slots, slots_of_parts}
use Rattle.cg_heap.specs.Stored.{Stored}
use Rattle.cg_eval_operations.specs.Iterators.{counted, indices_from}
use Rattle.cg_eval_operations.specs.Positions.{position_among}
use Rattle.cg_typing.specs.Library.{given, pair, stopped}
use Rattle.cg_update.specs.Machines.{is_machine, only_at, part_at, type_of_part}
use Rattle.cg_update.specs.Outcomes.{State, Outcome, no_result, gives, bind, pay}
use Rattle.cg_update.specs.Turns.{Argument, carried, ended, field_in, indices, stops, turns}
use Rattle.cg_lower_def.specs.CTypes.{c_type, IsDeclared}
use Rattle.cg_cgen_def.specs.Loops.{break_begins, break_ends, break_goes_on, break_low, break_stops, break_tag, break_turn, loop_begins, loop_goes_on, turning}
use Rattle.cg_cgen_def.specs.Places.{whole_local, field_of_argument, field, held, local, local_name, number, operand, payload, tag}
use Rattle.cg_lower_def.specs.IteratorCode.{types_in}
use Rattle.cg_cgen_def.specs.Bodies.{setting}
use Rattle.cg_lower_def.specs.Simulated.{as_run}
use Rattle.cg_lower_laws.proofs.Bodies.{length_replicate}
use Rattle.cg_lower_laws.proofs.Frames.{Is, Keeps}
use Rattle.cg_lower_laws.proofs.Inversions.{Bound, bind_is, pay_is, same_rest, same_scalars, same_state}
use Rattle.cg_lower_laws.proofs.Iterating.{Does, IteratorClaim, LoopRan, Price}
use Rattle.cg_lower_laws.proofs.Layouts.{machine_slots, size_slots}
use Rattle.cg_lower_laws.proofs.Loops.{Loops, loops_end, loops_turn, runs_while}
use Rattle.cg_lower_laws.proofs.NumberLoops as numbers
use Rattle.cg_lower_laws.proofs.Operands.{IsReadable, machine_readable}
use Rattle.cg_lower_laws.proofs.Runs.{Runs, runs_branch, runs_none, runs_on}
use Rattle.cg_lower_laws.proofs.Standing.{Local, Reaches, Scene, number_judged, reaches_branch, reaches_on, scene_whole, sets}
use Rattle.cg_lower_laws.proofs.Stopping.{Answered, answer_reads, answer_set, answered, both, carried_kept, first_leads, flag_leads, iterate_leads, result_carried, result_iterate, result_long, result_second, result_tagged, result_unset, tag_kept}
use Rattle.cg_lower_laws.proofs.Stopping as stopping
use Rattle.cg_lower_laws.proofs.Terms.{lay_c}
use Rattle.cg_lower_laws.proofs.Turning.{numeral, turn_runs}

-- a number that isn't 0
one_more : (n : ℕ) → nat_eq n 0 ≡ false → (k : ℕ) × (n ≡ suc k)
one_more zero e = absurd (cc)
one_more (suc k) e = (k, refl)

module _ (types : ℕ → Option Tau) (numbered : Tau → ℕ) (q : Linked) (l : Layout) (callee : List ℕ) (price : Price) (few : (k : ℕ) (t : Tau) → types k ≡ Some t → k < 2 ^ 32) (c o b : Tau) (us : List Scalar) (args : List Tau) where
  abbrev lay_of : Tau → Layout
  lay_of t = lay_c q (c_type numbered t)

  -- what a turn and the whole give
  abbrev r : Tau
  r = pair c (stopped b)

  abbrev item : Tau
  item = numbers.item types numbered q l callee price few U32 c o r us

  abbrev taken : Tau
  taken = numbers.taken types numbered q l callee price few U32 c o r us

  abbrev x : Argument
  x = record { ty = taken; scalars = us }

  abbrev argument_local : Local
  argument_local = record { layout = lay_of taken; scalars = us }

  module _ (d : IsDeclared numbered q.program.structs taken) (di : IsDeclared numbered q.program.structs item) (machine : is_machine types taken us ≡ true) (dr : IsDeclared numbered q.program.structs r)
      (call : List Scalar → State → ℕ → Outcome) (source : Does types numbered q callee price (first_number (field_in x 3)) item r call) where
    abbrev from : ℕ
    from = (numbers.from types numbered q l callee price few U32 c o r us d di machine).0

    abbrev to : ℕ
    to = (numbers.to types numbered q l callee price few U32 c o r us d di machine).0

    abbrev step : ℕ
    step = (numbers.step types numbered q l callee price few U32 c o r us d di machine).0

    -- the number behind another, where one comes
    abbrev next : ℕ → ℕ
    next = numbers.next types numbered q l callee price few U32 c o r us d di machine

    -- so many steps are taken to it
    abbrev on_steps : ℕ → ℕ
    on_steps = numbers.goes_steps types numbered q l callee price few U32 c o r us d di machine

    abbrev seen : List Scalar
    seen = field_in x 5

    to_small : to < 2 ^ 32
    to_small = (numbers.to types numbered q l callee price few U32 c o r us d di machine).2

    dc : IsDeclared numbered q.program.structs c
    unfolding IsDeclared
    dc = dr.2.0

    -- the locals of a loop, with what a turn gives and the result
    abbrev item_with : List Scalar → List Scalar → List Scalar
    item_with cs idx = cs ++ (seen ++ idx)

    abbrev others : List Scalar → List Scalar → List Local
    others ys rs = record { layout = lay_of r; scalars = ys } ∷ record { layout = lay_of r; scalars = rs } ∷ []

    abbrev standing : List Scalar → List Scalar → List Scalar → List Scalar → List Scalar → List Scalar → List Scalar → List Local
    standing index over more has_step item_now ys rs = numbers.standing types numbered q l callee price few U32 c o r us d di machine index over more has_step item_now (others ys rs)

    -- a tag and an answer that are kept
    abbrev result : List Scalar → Scalar → Scalar → List Scalar
    result = stopping.result types numbered q.program.structs c b dr

    -- so many unset slots
    abbrev unset : ℕ → List Scalar
    unset n = replicate n Unset

    -- ---- the update semantics

    -- what stands behind a call
    abbrev behind : List ℕ → List Scalar → State → ℕ → Outcome
    behind is ws t rest = cond (stops Seq32Break x ws) (gives ws t rest) (turns call Seq32Break args x is (carried Seq32Break x ws) t rest)

    at_end : (cs : List Scalar) (s : State) (left : ℕ) → turns call Seq32Break args x [] cs s left ≡ gives (ended Seq32Break x cs) s left
    unfolding turns
    at_end cs s left = refl

    at_turn : (i : ℕ) (is : List ℕ) (cs : List Scalar) (s : State) (left : ℕ)
        → turns call Seq32Break args x (i ∷ is) cs s left ≡ pay left (λ paid. bind (call ((cs ++ seen) ++ NumberScalar i ∷ []) s paid) (λ ws t rest. behind is ws t rest))
    unfolding turns
    at_turn i is cs s left = refl

    -- by the parts of what a turn gives
    stops_is : (ws : List Scalar) (a : Answered types numbered q.program.structs c b ws) → stops Seq32Break x ws ≡ nat_eq a.number 0
    unfolding type_of_part position_among
    stops_is ws a = ap (λ z. nat_eq (first_number (unwrap_or z [])) 0) a.second

    carried_is : (ws : List Scalar) (a : Answered types numbered q.program.structs c b ws) → carried Seq32Break x ws ≡ a.carried
    unfolding type_of_part
    carried_is ws a = ap (λ z. unwrap_or z []) a.first

    ended_is : (cs : List Scalar) → ended Seq32Break x cs ≡ result cs (NumberScalar 1) (NumberScalar 0)
    unfolding type_of_part position_among only_at slots_of_parts
    ended_is cs = refl

    -- ---- a turn

    -- the index is set, and the function called
    record Asked (fr : Frame) (s s' : State) (n : ℕ) (over more has_step cs ws rs : List Scalar) (left rest : ℕ) : Type 0 where
      steps : ℕ
      within : steps + price.worth rest + price.left_over ≤ price.worth left + price.granted + 2
      reaches : Reaches q numbered l argument_local (setting 4 (field 2 ∷ []) (whole_local 0) ∷ turning callee 5 [] 4 ∷ []) fr (as_run s) steps
          (standing (NumberScalar n ∷ []) over more has_step (item_with cs (NumberScalar n ∷ [])) ws rs) (as_run s')
      answer : Answered types numbered q.program.structs c b ws
      is_long : length ws ≡ size (lay_of r)

    asked : (fr : Frame) (s s' : State) (n : ℕ) (over more has_step cs idx ys ws rs : List Scalar) (left rest : ℕ) → n < to → is_machine types c cs ≡ true → length idx ≡ 1
        → call ((cs ++ seen) ++ NumberScalar n ∷ []) s left ≡ gives ws s' rest → Scene argument_local fr (standing (NumberScalar n ∷ []) over more has_step (item_with cs idx) ys rs)
        → Asked fr s s' n over more has_step cs ws rs left rest
    asked fr s s' n over more has_step cs idx ys ws rs left rest h m one e scene =
        let small : n < 2 ^ 32 = omega (arith, h, to_small) in
        let done = numbers.asked_called types numbered q l callee price few U32 c o r us d di machine Seq32Break args call source cs ws n s s' left rest m small e in
        let taking : done.steps + price.worth rest + price.left_over ≤ price.worth left + price.granted = done.within in
        let now : List Scalar = item_with cs (NumberScalar n ∷ []) in
        record {
          steps = 1 + suc done.steps;
          within = omega (arith, taking);
          answer = answered types numbered q.program.structs c b ws done.machine;
          is_long = machine_slots types r ws done.machine ∙ sym (size_slots numbered q.program.structs r dr);
          reaches =
              reaches_on q numbered l argument_local (setting 4 (field 2 ∷ []) (whole_local 0) ∷ []) (turning callee 5 [] 4 ∷ []) fr (as_run s) (as_run s) (as_run s') 1 (suc done.steps)
              (standing (NumberScalar n ∷ []) over more has_step now ys rs) (standing (NumberScalar n ∷ []) over more has_step now ws rs)
              (numbers.index_set types numbered q l callee price few U32 c o r us d di machine Seq32Break args call source fr (as_run s) n over more has_step cs idx (others ys rs) h (omega arith) (machine_slots types c cs m) one scene)
              (λ fr1 scene1.
              turn_runs types numbered q l callee price argument_local fr1 s s' r 5 4 0 (standing (NumberScalar n ∷ []) over more has_step now ys rs) (record { layout = lay_of r; scalars = ys }) (record { layout = lay_of item; scalars = now })
              [] (NumberScalar (numbers.function types numbered q l callee price few U32 c o r us d di machine).0 ∷ []) now ws ws left rest
              scene1 refl refl refl (machine_readable numbered q.program.structs types few item now (numbers.item_machine types numbered q l callee price few U32 c o r us d di machine cs n m small))
              (numbers.function_kept types numbered q l callee price few U32 c o r us d di machine Seq32Break args call source fr1 (standing (NumberScalar n ∷ []) over more has_step now ys rs) scene1)
              (function_reads) refl
              (answer_set types numbered q.program.structs c b dr ys ws (scene_whole argument_local fr1 5 (standing (NumberScalar n ∷ []) over more has_step now ys rs) (record { layout = lay_of r; scalars = ys }) refl scene1).full)
              (machine_slots types r ws done.machine ∙ sym (size_slots numbered q.program.structs r dr)) (omega arith) done);
        }
      where
        -- the function's place can be read
        function_reads : IsReadable (cell U32) (NumberScalar (numbers.function types numbered q l callee price few U32 c o r us d di machine).0 ∷ [])
        function_reads = let f = numbers.function types numbered q l callee price few U32 c o r us d di machine in (f.0, refl, few f.0 (arrow item r) f.2)

    -- a turn that isn't the last: what is carried is handed on, and the next index
    goes : (fr : Frame) (s : runs.State) (n : ℕ) (over more has_step cs ws rs : List Scalar) (a : Answered types numbered q.program.structs c b ws) → n < to → length cs ≡ slots c
        → Scene argument_local fr (standing (NumberScalar n ∷ []) over more has_step (item_with cs (NumberScalar n ∷ [])) ws rs)
        → Reaches q numbered l argument_local break_goes_on fr s (1 + on_steps n)
        (standing (NumberScalar (next n) ∷ []) (NumberScalar (to - n) ∷ []) (NumberScalar (flag (nat_lt (n + step) to)) ∷ []) has_step (item_with a.carried (NumberScalar n ∷ [])) ws rs) s
    goes fr s n over more has_step cs ws rs a h long scene =
        reaches_on q numbered l argument_local (setting 4 (field 0 ∷ []) (held (local 5) (field 0 ∷ [])) ∷ []) (loop_goes_on U32) fr s s s 1 (on_steps n)
        (standing (NumberScalar n ∷ []) over more has_step (item_with a.carried (NumberScalar n ∷ [])) ws rs) _
        (sets q numbered l argument_local fr s 4 (standing (NumberScalar n ∷ []) over more has_step (item_with cs (NumberScalar n ∷ [])) ws rs) (record { layout = lay_of item; scalars = item_with cs (NumberScalar n ∷ []) })
        (field 0 ∷ []) (held (local 5) (field 0 ∷ [])) (lay_of c) 0 a.carried (item_with a.carried (NumberScalar n ∷ [])) scene refl
        (numbers.acc_leads types numbered q l callee price few U32 c o r us d di machine)
        (carried_kept types numbered q.program.structs c b dr fr (whole_local 5) ws a (scene_whole argument_local fr 5 _ (record { layout = lay_of r; scalars = ws }) refl scene))
        (machine_readable numbered q.program.structs types few c a.carried a.machine)
        (numbers.acc_set types numbered q l callee price few U32 c o r us d di machine cs a.carried (seen ++ NumberScalar n ∷ []) dc long)
        (numbers.item_long types numbered q l callee price few U32 c o r us d di machine a.carried (NumberScalar n ∷ []) (machine_slots types c a.carried a.machine) refl) (omega arith))
        (λ fr1 scene1. numbers.goes_on types numbered q l callee price few U32 c o r us d di machine fr1 s n over more has_step (item_with a.carried (NumberScalar n ∷ [])) (others ws rs) h (omega arith) scene1)

    -- the last turn: it gives the result
    stops_here : (fr : Frame) (s : runs.State) (index over has_step item_now ws rs : List Scalar) (m : Scalar) → length ws ≡ size (lay_of r) → Scene argument_local fr (standing index over (m ∷ []) has_step item_now ws rs)
        → Reaches q numbered l argument_local break_stops fr s 2 (standing index over (NumberScalar 0 ∷ []) has_step item_now ws ws) s
    unfolding size
    stops_here fr s index over has_step item_now ws rs m long scene =
        reaches_on q numbered l argument_local (setting 6 [] (whole_local 5) ∷ []) (setting 2 [] (number 0) ∷ []) fr s s s 1 1 (standing index over (m ∷ []) has_step item_now ws ws) (standing index over (NumberScalar 0 ∷ []) has_step item_now ws ws)
        (sets q numbered l argument_local fr s 6 (standing index over (m ∷ []) has_step item_now ws rs) (record { layout = lay_of r; scalars = rs }) [] (whole_local 5) (lay_of r) 0 ws ws scene refl refl
        (scene_whole argument_local fr 5 (standing index over (m ∷ []) has_step item_now ws rs) (record { layout = lay_of r; scalars = ws }) refl scene) (answer_reads types numbered q.program.structs c b dr ws)
        (answer_set types numbered q.program.structs c b dr rs ws (scene_whole argument_local fr 6 (standing index over (m ∷ []) has_step item_now ws rs) (record { layout = lay_of r; scalars = rs }) refl scene).full) long (omega arith))
        (λ fr1 scene1.
        sets q numbered l argument_local fr1 s 2 (standing index over (m ∷ []) has_step item_now ws ws) (record { layout = cell U8; scalars = m ∷ [] }) [] (number 0) (cell U8) 0 (NumberScalar 0 ∷ []) (NumberScalar 0 ∷ []) scene1 refl refl
        (numeral fr1 U8 0 (omega arith)).keeps (0, refl, omega arith) refl refl (omega arith))

    -- the tag of what a turn gave, and of the result
    tag_judged : (fr : Frame) (m : Stored) (xs : List Local) (j n : ℕ) (ws ns : List Scalar) → n < 2 → slice_get xs j ≡ Some (record { layout = lay_of r; scalars = ws }) → part_at 1 (both types numbered q.program.structs c b) ws ≡ Some (NumberScalar n ∷ ns)
        → Scene argument_local fr xs → judged_word q.program.structs m fr (operand (break_tag j)) ≡ ok n
    tag_judged fr m xs j n ws ns small at e scene =
        number_judged q.program.structs m fr U32 (break_tag j) n
        (record {
          keeps = tag_kept types numbered q.program.structs c b dr fr (whole_local j) ws ns n e (scene_whole argument_local fr j xs (record { layout = lay_of r; scalars = ws }) at scene);
          small = omega (arith, small);
        })

    -- a whole turn, by its tag
    goes_turned : (fr : Frame) (s s' : State) (n : ℕ) (over more has_step cs ws rs : List Scalar) (left rest : ℕ) (a : Asked fr s s' n over more has_step cs ws rs left rest) → n < to → length cs ≡ slots c → nat_eq a.answer.number 0 ≡ false
        → Reaches q numbered l argument_local (break_turn callee) fr (as_run s) (a.steps + (suc (1 + on_steps n)))
        (standing (NumberScalar (next n) ∷ []) (NumberScalar (to - n) ∷ []) (NumberScalar (flag (nat_lt (n + step) to)) ∷ []) has_step (item_with a.answer.carried (NumberScalar n ∷ [])) ws rs) (as_run s')
    goes_turned fr s s' n over more has_step cs ws rs left rest a h long on =
        let now : List Local = standing (NumberScalar n ∷ []) over more has_step (item_with cs (NumberScalar n ∷ [])) ws rs in
        let k = one_more a.answer.number on in
        reaches_on q numbered l argument_local (setting 4 (field 2 ∷ []) (whole_local 0) ∷ turning callee 5 [] 4 ∷ []) _ fr (as_run s) (as_run s') (as_run s') a.steps (suc (1 + on_steps n)) now _ a.reaches
        (λ fr1 scene1.
        reaches_branch q numbered l argument_local (operand (break_tag 5)) break_goes_on break_stops fr1 (as_run s') (as_run s') (suc k.0) (1 + on_steps n) _
        (tag_judged fr1 s'.store now 5 a.answer.number ws a.answer.others a.answer.small refl a.answer.second scene1 ∙ ap ok k.1)
        (goes fr1 (as_run s') n over more has_step cs ws rs a.answer h long scene1))

    stops_turned : (fr : Frame) (s s' : State) (n : ℕ) (over has_step cs ws rs : List Scalar) (m : Scalar) (left rest : ℕ) (a : Asked fr s s' n over (m ∷ []) has_step cs ws rs left rest) → length ws ≡ size (lay_of r) → nat_eq a.answer.number 0 ≡ true
        → Reaches q numbered l argument_local (break_turn callee) fr (as_run s) (a.steps + 3)
        (standing (NumberScalar n ∷ []) over (NumberScalar 0 ∷ []) has_step (item_with cs (NumberScalar n ∷ [])) ws ws) (as_run s')
    stops_turned fr s s' n over has_step cs ws rs m left rest a long stop =
        let now : List Local = standing (NumberScalar n ∷ []) over (m ∷ []) has_step (item_with cs (NumberScalar n ∷ [])) ws rs in
        reaches_on q numbered l argument_local (setting 4 (field 2 ∷ []) (whole_local 0) ∷ turning callee 5 [] 4 ∷ []) _ fr (as_run s) (as_run s') (as_run s') a.steps 3 now _ a.reaches
        (λ fr1 scene1.
        reaches_branch q numbered l argument_local (operand (break_tag 5)) break_goes_on break_stops fr1 (as_run s') (as_run s') 0 2 _
        (tag_judged fr1 s'.store now 5 a.answer.number ws a.answer.others a.answer.small refl a.answer.second scene1 ∙ ap ok (eqb-true a.answer.number 0 stop))
        (stops_here fr1 (as_run s') (NumberScalar n ∷ []) over has_step (item_with cs (NumberScalar n ∷ [])) ws rs m long scene1))

    -- ---- all turns

    -- the result where no turn was the last, before what is carried is set
    abbrev begun : List Scalar
    begun = result (unset (slots c)) (NumberScalar 1) (NumberScalar 0)

    -- all turns from a number on, and what is behind them
    record Looped (fr : Frame) (s s' : State) (ws : List Scalar) (left rest : ℕ) : Type 0 where
      steps : ℕ
      last : ℕ
      middle : Frame
      frame : Frame
      within : steps + last + price.worth rest ≤ price.worth left + 3
      loops : Loops q l (operand (whole_local 2)) (break_turn callee) fr (as_run s) steps middle (as_run s')
      runs : Runs q l break_ends middle (as_run s') last frame (as_run s')
      keeps : Keeps frame (whole_local 6) (lay_of r) ws

    -- whether a turn comes
    comes_judged : (fr : Frame) (m : Stored) (index over has_step item_now ys rs : List Scalar) (n : ℕ) → n < 2 → Scene argument_local fr (standing index over (NumberScalar n ∷ []) has_step item_now ys rs)
        → judged_word q.program.structs m fr (operand (whole_local 2)) ≡ ok n
    comes_judged fr m index over has_step item_now ys rs n small scene =
        number_judged q.program.structs m fr U8 (whole_local 2) n
        (record {
          keeps = scene_whole argument_local fr 2 (standing index over (NumberScalar n ∷ []) has_step item_now ys rs) (record { layout = cell U8; scalars = NumberScalar n ∷ [] }) refl scene;
          small = omega (arith, small);
        })

    -- what is carried is set in the result
    result_made : (fr : Frame) (s : runs.State) (index over more has_step cs idx ys : List Scalar) → is_machine types c cs ≡ true → Scene argument_local fr (standing index over more has_step (item_with cs idx) ys begun)
        → Reaches q numbered l argument_local break_ends fr s 2 (standing index over more has_step (item_with cs idx) ys (result cs (NumberScalar 1) (NumberScalar 0))) s
    unfolding type_of_part part_at to_block
    result_made fr s index over more has_step cs idx ys fine scene =
        let now : List Local = standing index over more has_step (item_with cs idx) ys begun in
        let long = machine_slots types c cs fine in
        let none = length_replicate (slots c) Unset in
        reaches_branch q numbered l argument_local (operand (break_tag 6)) (setting 6 (field 0 ∷ []) (held (local 4) (field 0 ∷ [])) ∷ []) [] fr s s 1 1 _
        (tag_judged fr s.store now 6 1 begun (unset (slots b) ++ NumberScalar 0 ∷ []) (omega arith) refl (result_second types numbered q.program.structs c b dr (unset (slots c)) (NumberScalar 1) (NumberScalar 0) none) scene)
        (sets q numbered l argument_local fr s 6 now (record { layout = lay_of r; scalars = begun }) (field 0 ∷ []) (held (local 4) (field 0 ∷ [])) (lay_of c) 0 cs (result cs (NumberScalar 1) (NumberScalar 0)) scene refl
        (first_leads types numbered q.program.structs c b dr)
        (numbers.carried_kept types numbered q l callee price few U32 c o r us d di machine fr now cs idx long refl scene)
        (machine_readable numbered q.program.structs types few c cs fine)
        (result_carried types numbered q.program.structs c b dr (unset (slots c)) cs (NumberScalar 1) (NumberScalar 0) none)
        (result_long types numbered q.program.structs c b dr cs (NumberScalar 1) (NumberScalar 0) long) (omega arith))

    -- no number is left
    loop_ends : (fr : Frame) (s s' : State) (index over has_step cs idx ys ws : List Scalar) (left rest : ℕ) → is_machine types c cs ≡ true → turns call Seq32Break args x [] cs s left ≡ gives ws s' rest
        → Scene argument_local fr (standing index over (NumberScalar 0 ∷ []) has_step (item_with cs idx) ys begun) → Looped fr s s' ws left rest
    loop_ends fr s s' index over has_step cs idx ys ws left rest fine e scene =
        let final : List Scalar = result cs (NumberScalar 1) (NumberScalar 0) in
        let given : gives final s left ≡ gives ws s' rest = ap (λ z. gives z s left) (sym (ended_is cs)) ∙ sym (at_end cs s left) ∙ e in
        let us_same : final ≡ ws = same_scalars final ws s s' left rest given in
        let s_same : s ≡ s' = same_state final ws s s' left rest given in
        let left_same : left ≡ rest = same_rest final ws s s' left rest given in
        let made = result_made fr (as_run s) index over (NumberScalar 0 ∷ []) has_step cs idx ys fine scene in
        record {
          steps = 1;
          last = 2;
          middle = fr;
          frame = made.frame;
          within = omega (arith, ap price.worth left_same);
          loops =
              subst (λ z. Loops q l (operand (whole_local 2)) (break_turn callee) fr (as_run s) 1 fr (as_run z)) s_same
              (loops_end q l (operand (whole_local 2)) (break_turn callee) fr (as_run s) (comes_judged fr s.store index over has_step (item_with cs idx) ys begun 0 (omega arith) scene));
          runs = subst (λ z. Runs q l break_ends fr (as_run z) 2 made.frame (as_run z)) s_same made.runs;
          keeps =
              subst (λ z. Keeps made.frame (whole_local 6) (lay_of r) z) us_same
              (scene_whole argument_local made.frame 6 (standing index over (NumberScalar 0 ∷ []) has_step (item_with cs idx) ys final) (record { layout = lay_of r; scalars = final }) refl made.scene);
        }

    -- none from a number on
    loop_past : (m n : ℕ) (fr : Frame) (s s' : State) (index over has_step cs idx ys ws : List Scalar) (left rest : ℕ) → nat_lt n to ≡ false → is_machine types c cs ≡ true
        → turns call Seq32Break args x (counted m n to step) cs s left ≡ gives ws s' rest
        → Scene argument_local fr (standing index over (NumberScalar (flag (nat_lt n to)) ∷ []) has_step (item_with cs idx) ys begun) → Looped fr s s' ws left rest
    loop_past m n fr s s' index over has_step cs idx ys ws left rest past fine e scene =
        loop_ends fr s s' index over has_step cs idx ys ws left rest fine (ap (λ z. turns call Seq32Break args x z cs s left) (sym (numbers.counted_none m n to step past)) ∙ e)
        (subst (λ b. Scene argument_local fr (standing index over (NumberScalar (flag b) ∷ []) has_step (item_with cs idx) ys begun)) past scene)

    -- the same of an outcome
    abbrev LoopedTo : Frame → State → ℕ → Outcome → Type 0
    LoopedTo fr s left no_result = Unit {0}
    LoopedTo fr s left (gives ws s' rest) = Looped fr s s' ws left rest

    -- the result is there
    nothing_set : (fr : Frame) (s : runs.State) (index over more has_step item_now ys ws : List Scalar) (a : Answered types numbered q.program.structs c b ws) → nat_eq a.number 0 ≡ true
        → Scene argument_local fr (standing index over more has_step item_now ys ws) → Runs q l break_ends fr s 1 fr s
    unfolding to_block
    nothing_set fr s index over more has_step item_now ys ws a stop scene =
        runs_branch q l (operand (break_tag 6)) (setting 6 (field 0 ∷ []) (held (local 4) (field 0 ∷ [])) ∷ []) [] fr fr s s 0 0
        (tag_judged fr s.store (standing index over more has_step item_now ys ws) 6 a.number ws a.others a.small refl a.second scene ∙ ap ok (eqb-true a.number 0 stop))
        (runs_none q l fr s)

    -- a turn that is the last
    loop_stops : (n : ℕ) (is : List ℕ) (fr : Frame) (s t s' : State) (over has_step cs idx ys us' ws : List Scalar) (left mid rest : ℕ) (a : Asked fr s t n over (NumberScalar 1 ∷ []) has_step cs us' begun left mid)
        → nat_eq a.answer.number 0 ≡ true → behind is us' t mid ≡ gives ws s' rest
        → Scene argument_local fr (standing (NumberScalar n ∷ []) over (NumberScalar 1 ∷ []) has_step (item_with cs idx) ys begun) → Looped fr s s' ws (suc left) rest
    loop_stops n is fr s t s' over has_step cs idx ys us' ws left mid rest a stop e scene =
        let given : gives us' t mid ≡ gives ws s' rest =
        ap (λ z. cond z (gives us' t mid) (turns call Seq32Break args x is (carried Seq32Break x us') t mid)) (sym (stops_is us' a.answer ∙ stop)) ∙ e in
        let turned = stops_turned fr s t n over has_step cs us' begun (NumberScalar 1) left mid a a.is_long stop in
        let index : List Scalar = NumberScalar n ∷ [] in
        let item_now : List Scalar = item_with cs (NumberScalar n ∷ []) in
        let taking : a.steps + price.worth mid + price.left_over ≤ price.worth left + price.granted + 2 = a.within in
        let pay = price.pays left in
        subst (LoopedTo fr s (suc left)) given
        (record {
          steps = 1 + (a.steps + 3) + 1;
          last = 1;
          middle = turned.frame;
          frame = turned.frame;
          within = omega (arith, taking, pay);
          loops =
              loops_turn q l (operand (whole_local 2)) (break_turn callee) fr turned.frame turned.frame (as_run s) (as_run t) (as_run t) 0 (a.steps + 3) 1
              (comes_judged fr s.store index over has_step (item_with cs idx) ys begun 1 (omega arith) scene) turned.runs
              (loops_end q l (operand (whole_local 2)) (break_turn callee) turned.frame (as_run t) (comes_judged turned.frame t.store index over has_step item_now us' us' 0 (omega arith) turned.scene));
          runs = nothing_set turned.frame (as_run t) index over (NumberScalar 0 ∷ []) has_step item_now us' us' a.answer stop turned.scene;
          keeps = scene_whole argument_local turned.frame 6 (standing index over (NumberScalar 0 ∷ []) has_step item_now us' us') (record { layout = lay_of r; scalars = us' }) refl turned.scene;
        })

    -- all turns from the next number on
    abbrev Later : ℕ → ℕ → List Scalar → List Scalar → List Scalar → State → ℕ → ℕ → Type 0
    Later m n has_step cs ws s' left rest =
        (fr : Frame) (s : State) (over ys : List Scalar) → turns call Seq32Break args x (counted m (n + step) to step) cs s left ≡ gives ws s' rest → is_machine types c cs ≡ true
        → Scene argument_local fr (standing (NumberScalar (next n) ∷ []) over (NumberScalar (flag (nat_lt (n + step) to)) ∷ []) has_step (item_with cs (NumberScalar n ∷ [])) ys begun)
        → Looped fr s s' ws left rest

    -- a turn that isn't the last
    loop_goes : (m n : ℕ) (fr : Frame) (s t s' : State) (over has_step cs idx ys us' ws : List Scalar) (left mid rest : ℕ) (a : Asked fr s t n over (NumberScalar 1 ∷ []) has_step cs us' begun left mid)
        → n < to → is_machine types c cs ≡ true → nat_eq a.answer.number 0 ≡ false → behind (counted m (n + step) to step) us' t mid ≡ gives ws s' rest
        → Scene argument_local fr (standing (NumberScalar n ∷ []) over (NumberScalar 1 ∷ []) has_step (item_with cs idx) ys begun)
        → Later m n has_step a.answer.carried ws s' mid rest → Looped fr s s' ws (suc left) rest
    loop_goes m n fr s t s' over has_step cs idx ys us' ws left mid rest a h fine on e scene rest_runs =
        let handed : turns call Seq32Break args x (counted m (n + step) to step) a.answer.carried t mid ≡ gives ws s' rest =
        ap (λ z. turns call Seq32Break args x (counted m (n + step) to step) z t mid) (sym (carried_is us' a.answer))
        ∙ ap (λ z. cond z (gives us' t mid) (turns call Seq32Break args x (counted m (n + step) to step) (carried Seq32Break x us') t mid)) (sym (stops_is us' a.answer ∙ on)) ∙ e in
        let turned = goes_turned fr s t n over (NumberScalar 1 ∷ []) has_step cs us' begun left mid a h (machine_slots types c cs fine) on in
        let later = rest_runs turned.frame t (NumberScalar (to - n) ∷ []) us' handed a.answer.machine turned.scene in
        let first_part : a.steps + price.worth mid + price.left_over ≤ price.worth left + price.granted + 2 = a.within in
        let pay = price.pays left in
        let last_part : later.steps + later.last + price.worth rest ≤ price.worth mid + 3 = later.within in
        let one = flag_is_small (nat_lt (n + step) to) in
        record {
          steps = 1 + (a.steps + (suc (1 + on_steps n))) + later.steps;
          last = later.last;
          middle = later.middle;
          frame = later.frame;
          within = omega (arith, first_part, last_part, one, pay);
          loops =
              loops_turn q l (operand (whole_local 2)) (break_turn callee) fr turned.frame later.middle (as_run s) (as_run t) (as_run s') 0 (a.steps + (suc (1 + on_steps n))) later.steps
              (comes_judged fr s.store (NumberScalar n ∷ []) over has_step (item_with cs idx) ys begun 1 (omega arith) scene) turned.runs later.loops;
          runs = later.runs;
          keeps = later.keeps;
        }

    loop_turns : (m n z : ℕ) (fr : Frame) (s s' : State) (over has_step cs idx ys ws : List Scalar) (left rest : ℕ) → nat_lt n to ≡ true → (nat_lt n to ≡ true → z ≡ n) → is_machine types c cs ≡ true → length idx ≡ 1
        → turns call Seq32Break args x (counted (suc m) n to step) cs s left ≡ gives ws s' rest
        → Scene argument_local fr (standing (NumberScalar z ∷ []) over (NumberScalar (flag (nat_lt n to)) ∷ []) has_step (item_with cs idx) ys begun)
        → ((us' : List Scalar) (mid : ℕ) → Later m n has_step us' ws s' mid rest) → Looped fr s s' ws left rest
    loop_turns m n z fr s s' over has_step cs idx ys ws left rest more here fine one e scene rest_runs =
        subst (λ k. Looped fr s s' ws k rest) (sym paid.1)
        (elim (cases_Bool (nat_eq a.answer.number 0)) [
          | inl stop ↦ loop_stops n (counted m (n + step) to step) fr s after.state s' over has_step cs idx ys after.scalars ws paid.0 after.rest rest a stop after.later start
          | inr on ↦ loop_goes m n fr s after.state s' over has_step cs idx ys after.scalars ws paid.0 after.rest rest a lt fine on after.later start (rest_runs a.answer.carried after.rest)
        ])
      where
        lt : n < to
        lt = ltb-true n to more

        paid : (k : ℕ) × (left ≡ suc k) × (bind (call ((cs ++ seen) ++ NumberScalar n ∷ []) s k) (λ us t rest. behind (counted m (n + step) to step) us t rest) ≡ gives ws s' rest)
        paid =
            pay_is left (λ paid. bind (call ((cs ++ seen) ++ NumberScalar n ∷ []) s paid) (λ us t rest. behind (counted m (n + step) to step) us t rest)) ws s' rest
            (sym (at_turn n (counted m (n + step) to step) cs s left) ∙ ap (λ z. turns call Seq32Break args x z cs s left) (sym (numbers.counted_next m n to step more)) ∙ e)

        after : Bound (call ((cs ++ seen) ++ NumberScalar n ∷ []) s paid.0) (λ us t rest. behind (counted m (n + step) to step) us t rest) ws s' rest
        after = bind_is (call ((cs ++ seen) ++ NumberScalar n ∷ []) s paid.0) (λ us t rest. behind (counted m (n + step) to step) us t rest) ws s' rest paid.2

        start : Scene argument_local fr (standing (NumberScalar n ∷ []) over (NumberScalar 1 ∷ []) has_step (item_with cs idx) ys begun)
        start =
            subst (λ b. Scene argument_local fr (standing (NumberScalar n ∷ []) over (NumberScalar (flag b) ∷ []) has_step (item_with cs idx) ys begun)) more
            (subst (λ y. Scene argument_local fr (standing (NumberScalar y ∷ []) over (NumberScalar (flag (nat_lt n to)) ∷ []) has_step (item_with cs idx) ys begun)) (here more) scene)

        a : Asked fr s after.state n over (NumberScalar 1 ∷ []) has_step cs after.scalars begun paid.0 after.rest
        a = asked fr s after.state n over (NumberScalar 1 ∷ []) has_step cs idx ys after.scalars begun paid.0 after.rest lt fine one after.first start

    loop_runs : (m n z : ℕ) (fr : Frame) (s s' : State) (over has_step cs idx ys ws : List Scalar) (left rest : ℕ) → to ≤ n + m → 0 < step → (nat_lt n to ≡ true → z ≡ n) → is_machine types c cs ≡ true → length idx ≡ 1
        → turns call Seq32Break args x (counted m n to step) cs s left ≡ gives ws s' rest
        → Scene argument_local fr (standing (NumberScalar z ∷ []) over (NumberScalar (flag (nat_lt n to)) ∷ []) has_step (item_with cs idx) ys begun) → Looped fr s s' ws left rest
    loop_runs zero n z fr s s' over has_step cs idx ys ws left rest enough positive here fine one e scene =
        loop_past zero n fr s s' (NumberScalar z ∷ []) over has_step cs idx ys ws left rest (le-ltb n to (omega (arith, enough))) fine e scene
    loop_runs (suc m) n z fr s s' over has_step cs idx ys ws left rest enough positive here fine one e scene = elim (cases_Bool (nat_lt n to)) [
      | inl more ↦ loop_turns m n z fr s s' over has_step cs idx ys ws left rest more here fine one e scene (λ us' mid fr' t over' ys' e' fine' scene'.
          loop_runs m (n + step) (next n) fr' t s' over' has_step us' (NumberScalar n ∷ []) ys' ws mid rest (omega (arith, enough, positive)) positive
          (λ again. ap (λ b. cond b (n + step) n) again) fine' refl e' scene')
      | inr past ↦ loop_past (suc m) n fr s s' (NumberScalar z ∷ []) over has_step cs idx ys ws left rest past fine e scene
    ]

    -- all turns
    looped_from : (fr : Frame) (s s' : State) (over has_step idx ys ws : List Scalar) (left rest : ℕ) → length idx ≡ 1
        → turns call Seq32Break args x (indices_from from to step) (field_in x 4) s left ≡ gives ws s' rest
        → Scene argument_local fr (standing (NumberScalar from ∷ []) over (NumberScalar (flag (nat_lt from to && not (nat_eq step 0))) ∷ []) has_step (item_with (field_in x 4) idx) ys begun)
        → Looped fr s s' ws left rest
    unfolding indices_from
    looped_from fr s s' over has_step idx ys ws left rest one e scene = elim (cases_Bool (nat_eq step 0)) [
      | inl none ↦ loop_ends fr s s' (NumberScalar from ∷ []) over has_step (field_in x 4) idx ys ws left rest first_machine
          (ap (λ b. turns call Seq32Break args x (if b then [] else counted to from to step) (field_in x 4) s left) (sym none) ∙ e)
          (subst (λ n. Scene argument_local fr (standing (NumberScalar from ∷ []) over (NumberScalar n ∷ []) has_step (item_with (field_in x 4) idx) ys begun)) (numbers.none_comes (nat_lt from to) (nat_eq step 0) none) scene)
      | inr some ↦ loop_runs to from from fr s s' over has_step (field_in x 4) idx ys ws left rest (omega arith) (numbers.positive step some) (λ more. refl) first_machine one
          (ap (λ b. turns call Seq32Break args x (if b then [] else counted to from to step) (field_in x 4) s left) (sym some) ∙ e)
          (subst (λ n. Scene argument_local fr (standing (NumberScalar from ∷ []) over (NumberScalar n ∷ []) has_step (item_with (field_in x 4) idx) ys begun)) (numbers.some_comes (nat_lt from to) (nat_eq step 0) some) scene)
    ]
      where
        first_machine : is_machine types c (field_in x 4) ≡ true
        first_machine = numbers.first_machine types numbered q l callee price few U32 c o r us d di machine

    -- ---- before the first turn

    -- what is carried first, and the result where no turn is the last
    begins_set : (fr : Frame) (s : runs.State) (index over more has_step ys : List Scalar)
        → Scene argument_local fr (standing index over more has_step (item_with (unset (slots c)) (unset 1)) ys (result (unset (slots c)) Unset Unset))
        → Reaches q numbered l argument_local break_begins fr s 3 (standing index over more has_step (item_with (field_in x 4) (unset 1)) ys begun) s
    unfolding type_of_part size
    begins_set fr s index over more has_step ys scene =
        let none = length_replicate (slots c) Unset in
        let f4 = numbers.part_of types numbered q l callee price few U32 c o r us d di machine 4 (omega arith) in
        let first_is = numbers.field_is types numbered q l callee price few U32 c o r us d di machine 4 f4 in
        let fine = numbers.first_machine types numbered q l callee price few U32 c o r us d di machine in
        let stand : List Scalar → List Scalar → List Local = λ it rs. standing index over more has_step it ys rs in
        let now : List Scalar = item_with (field_in x 4) (unset 1) in
        reaches_on q numbered l argument_local (setting 4 (field 0 ∷ []) (field_of_argument 4) ∷ []) _ fr s s s 1 2 (standing index over more has_step now ys (result (unset (slots c)) Unset Unset)) _
        (sets q numbered l argument_local fr s 4 (standing index over more has_step (item_with (unset (slots c)) (unset 1)) ys (result (unset (slots c)) Unset Unset)) (record { layout = lay_of item; scalars = item_with (unset (slots c)) (unset 1) })
        (field 0 ∷ []) (field_of_argument 4) (lay_of c) 0 (field_in x 4) now scene refl
        (numbers.acc_leads types numbered q l callee price few U32 c o r us d di machine)
        (subst (λ z. Keeps fr (field_of_argument 4) (lay_of c) z) (sym first_is) (numbers.field_kept types numbered q l callee price few U32 c o r us d di machine fr _ 4 scene f4))
        (machine_readable numbered q.program.structs types few c (field_in x 4) fine)
        (numbers.acc_set types numbered q l callee price few U32 c o r us d di machine (unset (slots c)) (field_in x 4) (seen ++ unset 1) dc none)
        (numbers.item_long types numbered q l callee price few U32 c o r us d di machine (field_in x 4) (unset 1) (machine_slots types c (field_in x 4) fine) refl) (omega arith))
        (λ fr1 scene1. reaches_on q numbered l argument_local (setting 6 (field 1 ∷ tag ∷ []) (number 1) ∷ []) (setting 6 (field 1 ∷ payload 1 ∷ []) (number 0) ∷ []) fr1 s s s 1 1
        (standing index over more has_step now ys (result (unset (slots c)) (NumberScalar 1) Unset)) (standing index over more has_step now ys begun)
        (sets q numbered l argument_local fr1 s 6 (standing index over more has_step now ys (result (unset (slots c)) Unset Unset)) (record { layout = lay_of r; scalars = result (unset (slots c)) Unset Unset })
        (field 1 ∷ tag ∷ []) (number 1) (cell U32) (slots c) (NumberScalar 1 ∷ []) (result (unset (slots c)) (NumberScalar 1) Unset) scene1 refl (flag_leads types numbered q.program.structs c b dr)
        (numeral fr1 U32 1 (omega arith)).keeps (1, refl, omega arith) (result_tagged types numbered q.program.structs c b dr (unset (slots c)) Unset Unset (NumberScalar 1) none)
        (result_long types numbered q.program.structs c b dr (unset (slots c)) (NumberScalar 1) Unset none) (omega arith))
        (λ fr2 scene2. sets q numbered l argument_local fr2 s 6 (standing index over more has_step now ys (result (unset (slots c)) (NumberScalar 1) Unset)) (record { layout = lay_of r; scalars = result (unset (slots c)) (NumberScalar 1) Unset })
        (field 1 ∷ payload 1 ∷ []) (number 0) (cell U8) (slots c + suc (slots b)) (NumberScalar 0 ∷ []) begun scene2 refl (iterate_leads types numbered q.program.structs c b dr)
        (numeral fr2 U8 0 (omega arith)).keeps (0, refl, omega arith) (result_iterate types numbered q.program.structs c b dr (unset (slots c)) (NumberScalar 1) Unset (NumberScalar 0) none)
        (result_long types numbered q.program.structs c b dr (unset (slots c)) (NumberScalar 1) (NumberScalar 0) none) (omega arith)))

    -- all that the C does, from the argument to the result
    break_runs : (fr : Frame) (s s' : State) (ys ws : List Scalar) (left rest : ℕ) → turns call Seq32Break args x (indices Seq32Break x s.store) (field_in x 4) s left ≡ gives ws s' rest
        → Scene argument_local fr
        (standing (Unset ∷ []) (Unset ∷ []) (Unset ∷ []) (Unset ∷ []) (numbers.unset_item types numbered q l callee price few U32 c o r us d di machine) ys (result (unset (slots c)) Unset Unset))
        → LoopRan price q l (break_low (types_in numbered Seq32Break args) callee) fr s s' (lay_of r) ws left rest
    break_runs fr s s' ys ws left rest e scene =
        let has_step : List Scalar = NumberScalar (flag (not (nat_eq step 0))) ∷ [] in
        let more : List Scalar = NumberScalar (flag (nat_lt from to && not (nat_eq step 0))) ∷ [] in
        let started = numbers.loop_begun types numbered q l callee price few U32 c o r us d di machine fr (as_run s) (others ys (result (unset (slots c)) Unset Unset)) (omega arith) scene in
        let set = begins_set started.frame (as_run s) (NumberScalar from ∷ []) (Unset ∷ []) more has_step ys started.scene in
        let looped = looped_from set.frame s s' (Unset ∷ []) has_step (unset 1) ys ws left rest refl
        (subst (λ z. turns call Seq32Break args x z (field_in x 4) s left ≡ gives ws s' rest) indices_are e) set.scene in
        let taking : looped.steps + looped.last + price.worth rest ≤ price.worth left + 3 = looped.within in
        record {
          steps = 5 + (3 + (looped.steps + looped.last));
          frame = looped.frame;
          within = omega (arith, taking);
          runs =
              runs_on q l (loop_begins U32) _ fr started.frame looped.frame (as_run s) (as_run s) (as_run s') 5 (3 + (looped.steps + looped.last)) started.runs
              (runs_on q l break_begins _ started.frame set.frame looped.frame (as_run s) (as_run s) (as_run s') 3 (looped.steps + looped.last) set.runs
              (runs_on q l (while (operand (whole_local 2)) (to_block (break_turn callee)) ∷ []) break_ends set.frame looped.middle looped.frame (as_run s) (as_run s') (as_run s') looped.steps looped.last
              (runs_while q l (operand (whole_local 2)) (break_turn callee) set.frame looped.middle (as_run s) (as_run s') looped.steps looped.loops) looped.runs));
          keeps = looped.keeps;
          readable = answer_reads types numbered q.program.structs c b dr ws;
        }
      where
        -- the indices are those of its bounds and its step
        indices_are : indices Seq32Break x s.store ≡ indices_from from to step
        indices_are =
            rw ((numbers.from types numbered q l callee price few U32 c o r us d di machine).1, (numbers.to types numbered q l callee price few U32 c o r us d di machine).1, (numbers.step types numbered q l callee price few U32 c o r us d di machine).1) refl

-- ---- the iterator

pub break_ran : (args : List Tau) → IteratorClaim Seq32Break args
unfolding type_of_part
break_ran args types numbered q l callee price call fr s s' us ws left rest few source dt dr di dc is fresh machine e =
    break_runs types numbered q l callee price few c o b us args dt di machine dr call source fr s s' unset ws left rest e
    (numbers.seq_scene types numbered q l callee price few U32 c o r us dt di machine fr (c_type numbered r ∷ c_type numbered r ∷ [])
    (record { layout = lay; scalars = unset } ∷ record { layout = lay; scalars = stopping.result types numbered q.program.structs c b dr (replicate (slots c) Unset) Unset Unset } ∷ []) is fresh
    (fresh.1.1.1.1.1.0, (subst (λ z. Is fr (local_name 6) lay z) (result_unset types numbered q.program.structs c b dr) fresh.1.1.1.1.1.1.0, tt)))
  where
    c : Tau
    c = given args 0

    b : Tau
    b = given args 1

    o : Tau
    o = given args 2

    r : Tau
    r = pair c (stopped b)

    lay : Layout
    lay = lay_c q (c_type numbered r)

    unset : List Scalar
    unset = replicate (size lay) Unset
