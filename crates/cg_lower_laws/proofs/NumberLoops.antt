-- Loops over numbers, of which every turn but the last goes on.
use Rattle.std.proofs.Common.{◌≡◌, ℕ, zero, suc, ◌+◌, ◌-◌, ◌^◌, ◌<◌, ◌≤◌, Bool, true, false, ◌&&◌, cond, not, Option, Some, List, [], ◌∷◌, ◌++◌, length, length-append, replicate, nat_eq, nat_lt, slice_get, unwrap_or, append_assoc, if◌then◌else◌, refl, sym, ap, ◌∙◌, subst, arith, codes, inl, inr}
use Rattle.std.proofs.lemmas.Bool.{le-leb, le-ltb, lt-ltb, ltb-false, ltb-true, cases_Bool}
use Rattle.std.proofs.lemmas.List.{append-nil, replicate-append-replicate}
use Rattle.std.proofs.Math.Nat.{mod-eq_of_lt}
use Rattle.cg_base.specs.declared.fun.Lib.{Lib}
use Rattle.cg_base.specs.declared.fun.Lib.TheVariants.{Seq32, Seq64}
use Rattle.cg_base.specs.declared.kind.Sigil.TheVariants.{U}
use Rattle.cg_base.specs.declared.kind.Word.{Word}
use Rattle.cg_base.specs.declared.kind.Word.TheVariants.{U8, U32, U64}
use Rattle.cg_base.specs.Types.{Tau, word, arrow, fields, Parts, end, part}
use Rattle.cg_base.specs.Words.{bits}
use Rattle.cg_cgen.proofs.Numbers.{bit_fits, flag_is_small}
use Rattle.cg_cmachine_def.specs.Layouts.{Layout, cell, size, spot, walk}
use Rattle.cg_cmachine_def.specs.Operands.{Frame, typed}
use Rattle.cg_cmachine_def.specs.Operations.{flag, word_value}
use Rattle.cg_cmachine_def.specs.Outcomes as runs
use Rattle.cg_cmachine_def.specs.Outcomes.{ok}
use Rattle.cg_cmachine_def.specs.Runs.{Linked}
use Rattle.cg_cmachine_def.specs.Targets.{spliced}
use Rattle.cg_ctree.specs.declared.tree.COp.TheVariants as cop
use Rattle.cg_ctree.specs.declared.tree.CTy.{CTy}
use Rattle.cg_ctree.specs.declared.tree.CTy.TheVariants as ty
use Rattle.cg_ctree.specs.Trees.{Stmt, branch, stop, to_block}
use Rattle.cg_heap.specs.declared.cell.Scalar.{Scalar}
use Rattle.cg_heap.specs.declared.cell.Scalar.TheVariants.{Unset, Word as NumberScalar}
use Rattle.cg_heap.specs.Reps.{first_number, slots}
use Rattle.cg_heap.specs.Stored.{Stored}
use Rattle.cg_kinds.specs.Kinds.{bang}
use Rattle.cg_eval_operations.specs.Iterators.{counted, indices_from}
use Rattle.cg_typing.specs.Library.{given, turn_of_loop}
use Rattle.cg_update.specs.Machines.{are_machine, is_machine, part_at, type_of_part}
use Rattle.cg_update.specs.Outcomes.{State, Outcome, gives, bind, pay}
use Rattle.cg_update.specs.Turns.{Argument, field_in, indices, turns}
use Rattle.cg_lower_def.specs.CTypes.{c_type, count, IsDeclared}
use Rattle.cg_cgen_def.specs.Loops.{Types, computing, loop_begins, loop_goes_on, loop_low, turning}
use Rattle.cg_cgen_def.specs.Places.{whole_local, field_of_argument, whole_argument, argument, argument_name, field, held, local, local_name, number, operand, step_name}
use Rattle.cg_lower_def.specs.IteratorCode.{types_in}
use Rattle.cg_cgen_def.specs.Bodies.{setting}
use Rattle.cg_lower_def.specs.Simulated.{as_run}
use Rattle.cg_lower_laws.proofs.Bodies.{length_replicate}
use Rattle.cg_lower_laws.proofs.Frames.{Fresh, Is, Keeps, is_kept}
use Rattle.cg_lower_laws.proofs.Inversions.{bind_is, pay_is, same_rest, same_scalars, same_state}
use Rattle.cg_lower_laws.proofs.Iterating.{Does, IteratorClaim, LoopRan, Price, TurnCalled}
use Rattle.cg_lower_laws.proofs.Layouts.{field_leads, machine_slots, size_slots}
use Rattle.cg_lower_laws.proofs.Loops.{Loops, loops_end, loops_turn, runs_while}
use Rattle.cg_lower_laws.proofs.Operands.{below_is, field_declared, keeps_field, machine_readable, place_is}
use Rattle.cg_lower_laws.proofs.Runs.{runs_on}
use Rattle.cg_lower_laws.proofs.Standing.{KeepsNumber, Local, Reaches, Scene, computes, Stand, number_judged, reaches_branch, reaches_none, reaches_on, scene_whole, sets}
use Rattle.cg_lower_laws.proofs.Terms.{lay_c}
use Rattle.cg_lower_laws.proofs.Turning.{MachinePart, both_is, difference_is, differs_is, flag_fits, less_is, machine_front, machine_part, middle_spliced, numeral, sum_is, take_front, turn_runs, type_is}

-- ---- loops of the update semantics

-- the turns of a loop that no turn ends
pub record IsPlainLoop (lib : Lib) : Type 0 where
  pub at_end : (call : List Scalar → State → ℕ → Outcome) (types : List Tau) (x : Argument) (us : List Scalar) (s : State) (left : ℕ) → turns call lib types x [] us s left ≡ gives us s left
  pub at_turn : (call : List Scalar → State → ℕ → Outcome) (types : List Tau) (x : Argument) (i : ℕ) (is : List ℕ) (us : List Scalar) (s : State) (left : ℕ)
      → turns call lib types x (i ∷ is) us s left ≡ pay left (λ paid. bind (call (us ++ field_in x 5 ++ NumberScalar i ∷ []) s paid) (λ ws t rest. turns call lib types x is ws t rest))
  pub counts : (x : Argument) (m : Stored) → indices lib x m ≡ indices_from (first_number (field_in x 0)) (first_number (field_in x 1)) (first_number (field_in x 2))

pub plain_32 : IsPlainLoop Seq32
unfolding turns
plain_32 = record { at_end = λ call types x us s left. refl; at_turn = λ call types x i is us s left. refl; counts = λ x m. refl }

pub plain_64 : IsPlainLoop Seq64
unfolding turns
plain_64 = record { at_end = λ call types x us s left. refl; at_turn = λ call types x i is us s left. refl; counts = λ x m. refl }

-- no number is left, and one is
pub counted_none : (m n to step : ℕ) → nat_lt n to ≡ false → counted m n to step ≡ []
unfolding counted
counted_none zero n to step e = refl
counted_none (suc m) n to step e = rw e refl

pub counted_next : (m n to step : ℕ) → nat_lt n to ≡ true → counted (suc m) n to step ≡ n ∷ counted m (n + step) to step
unfolding counted
counted_next m n to step e = rw e refl

-- whether one number more is left, by what is left behind this one
pub goes_on_is : (n to step : ℕ) → n < to → nat_lt step (to - n) ≡ nat_lt (n + step) to
goes_on_is n to step h = elim (cases_Bool (nat_lt (n + step) to)) [
  | inl e ↦ let lt = ltb-true (n + step) to e in lt-ltb step (to - n) (omega (arith, lt, h)) ∙ sym e
  | inr e ↦ let ge = ltb-false (n + step) to e in le-ltb step (to - n) (omega (arith, ge, h)) ∙ sym e
]

-- whether there is a first turn, where the step is 0 and where it isn't
pub none_comes : (a b : Bool) → b ≡ true → flag (a && not b) ≡ 0
none_comes true b e = rw e refl
none_comes false b e = refl

pub some_comes : (a b : Bool) → b ≡ false → flag (a && not b) ≡ flag a
some_comes true b e = rw e refl
some_comes false b e = refl

-- a number that isn't 0
pub positive : (n : ℕ) → nat_eq n 0 ≡ false → 0 < n
positive zero e = absurd (cc)
positive (suc n) e = omega arith

-- ---- the C of loops

module _ (types : ℕ → Option Tau) (numbered : Tau → ℕ) (q : Linked) (l : Layout) (callee : List ℕ) (price : Price) (few : (k : ℕ) (t : Tau) → types k ≡ Some t → k < 2 ^ 32) (w : Word) (c o r : Tau) (us : List Scalar) where
  abbrev lay_of : Tau → Layout
  lay_of t = lay_c q (c_type numbered t)

  -- what the function takes, and what the loop takes
  abbrev pub item_parts : Parts
  item_parts = part (codes "acc") c false (part (codes "obsv") (bang o) false (part (codes "idx") (word w) false end))

  abbrev pub item : Tau
  item = fields item_parts U

  abbrev pub parts : Parts
  parts = part (codes "frm") (word w) false (part (codes "to") (word w) false (part (codes "step") (word w) false
      (part (codes "f") (arrow item r) false (part (codes "acc") c false (part (codes "obsv") (bang o) false end)))))

  abbrev pub taken : Tau
  taken = fields parts U

  abbrev pub x : Argument
  x = record { ty = taken; scalars = us }

  abbrev pub argument_local : Local
  argument_local = record { layout = lay_of taken; scalars = us }

  module _ (d : IsDeclared numbered q.program.structs taken) (di : IsDeclared numbered q.program.structs item) (machine : is_machine types taken us ≡ true) where
    -- a field of the argument
    abbrev pub Field : ℕ → Type 0
    Field i = MachinePart types i parts us

    pub part_of : (i : ℕ) → i < 6 → Field i
    unfolding count is_machine
    part_of i h = machine_part types i parts us refl machine h

    pub field_is : (i : ℕ) (f : Field i) → field_in x i ≡ f.scalars
    field_is i f = ap (λ z. unwrap_or z []) f.there

    pub field_kept : (fr : Frame) (xs : List Local) (i : ℕ) → Scene argument_local fr xs → (f : Field i) → Keeps fr (field_of_argument i) (lay_of (type_of_part i parts)) f.scalars
    field_kept fr xs i scene f =
        keeps_field numbered q.program.structs fr whole_argument parts i us f.scalars d (is_kept fr argument (lay_of taken) us scene.argued) f.there

    -- the bounds and the step
    pub from : (n : ℕ) × (field_in x 0 ≡ NumberScalar n ∷ []) × (n < 2 ^ bits w)
    unfolding is_machine type_of_part
    from = let f = part_of 0 (omega arith) in let b = below_is (2 ^ bits w) f.scalars f.machine in (b.0, field_is 0 f ∙ b.1, b.2)

    pub to : (n : ℕ) × (field_in x 1 ≡ NumberScalar n ∷ []) × (n < 2 ^ bits w)
    unfolding is_machine type_of_part
    to = let f = part_of 1 (omega arith) in let b = below_is (2 ^ bits w) f.scalars f.machine in (b.0, field_is 1 f ∙ b.1, b.2)

    pub step : (n : ℕ) × (field_in x 2 ≡ NumberScalar n ∷ []) × (n < 2 ^ bits w)
    unfolding is_machine type_of_part
    step = let f = part_of 2 (omega arith) in let b = below_is (2 ^ bits w) f.scalars f.machine in (b.0, field_is 2 f ∙ b.1, b.2)

    -- which the C reads
    bound_kept : (fr : Frame) (xs : List Local) (i n : ℕ) → i < 3 → lay_of (type_of_part i parts) ≡ cell w → i < 6 → field_in x i ≡ NumberScalar n ∷ [] → n < 2 ^ bits w → Scene argument_local fr xs
        → KeepsNumber fr w (field_of_argument i) n
    bound_kept fr xs i n h is_word j e small scene =
        let f = part_of i j in
        record { keeps = subst (λ z. Keeps fr (field_of_argument i) (cell w) z) (sym (field_is i f) ∙ e) (subst (λ z. Keeps fr (field_of_argument i) z f.scalars) is_word (field_kept fr xs i scene f)); small = small }

    -- the function, what is handed on first, and what is observed
    pub function : (k : ℕ) × (field_in x 3 ≡ NumberScalar k ∷ []) × (types k ≡ Some (arrow item r))
    unfolding is_machine type_of_part
    function =
        let f = part_of 3 (omega arith) in
        let k = place_is types (arrow item r) f.scalars f.machine in (k.0, field_is 3 f ∙ k.1, type_is (types k.0) (arrow item r) k.2)

    pub first_machine : is_machine types c (field_in x 4) ≡ true
    unfolding type_of_part
    first_machine = let f = part_of 4 (omega arith) in subst (λ z. is_machine types c z ≡ true) (sym (field_is 4 f)) f.machine

    seen_machine : is_machine types (bang o) (field_in x 5) ≡ true
    unfolding type_of_part
    seen_machine = let f = part_of 5 (omega arith) in subst (λ z. is_machine types (bang o) z ≡ true) (sym (field_is 5 f)) f.machine

    abbrev pub seen : List Scalar
    seen = field_in x 5

    seen_long : length seen ≡ slots (bang o)
    seen_long = machine_slots types (bang o) seen seen_machine

    -- what the function takes
    pub item_machine : (cs : List Scalar) (n : ℕ) → is_machine types c cs ≡ true → n < 2 ^ bits w → is_machine types item (cs ++ (seen ++ NumberScalar n ∷ [])) ≡ true
    unfolding is_machine are_machine
    item_machine cs n m h =
        machine_front types (codes "acc") c (part (codes "obsv") (bang o) false (part (codes "idx") (word w) false end)) cs (seen ++ NumberScalar n ∷ []) m
        (machine_front types (codes "obsv") (bang o) (part (codes "idx") (word w) false end) seen (NumberScalar n ∷ []) seen_machine
        (machine_front types (codes "idx") (word w) end (NumberScalar n ∷ []) [] (lt-ltb n (2 ^ bits w) h) refl))

    -- the locals of a loop
    abbrev pub standing : List Scalar → List Scalar → List Scalar → List Scalar → List Scalar → List Local → List Local
    standing index left more has_step item_now others =
        record { layout = cell w; scalars = index } ∷ record { layout = cell w; scalars = left } ∷ record { layout = cell U8; scalars = more }
        ∷ record { layout = cell U8; scalars = has_step } ∷ record { layout = lay_of item; scalars = item_now } ∷ others

    -- the parts of what the function takes
    item_size : size (lay_of item) ≡ slots c + slots (bang o) + 1
    unfolding slots
    item_size = size_slots numbered q.program.structs item di ∙ omega arith

    pub acc_leads : walk (step_name (field 0) ∷ []) (lay_of item) ≡ Some (spot 0 (lay_of c))
    unfolding type_of_part count
    acc_leads = field_leads numbered q.program.structs item_parts U 0 di (omega arith)

    obsv_leads : walk (step_name (field 1) ∷ []) (lay_of item) ≡ Some (spot (slots c) (lay_of (bang o)))
    unfolding type_of_part count
    obsv_leads = field_leads numbered q.program.structs item_parts U 1 di (omega arith) ∙ ap (λ n. Some (spot n (lay_of (bang o)))) (omega arith)

    idx_leads : walk (step_name (field 2) ∷ []) (lay_of item) ≡ Some (spot (slots c + slots (bang o)) (cell w))
    unfolding type_of_part count
    idx_leads = field_leads numbered q.program.structs item_parts U 2 di (omega arith) ∙ ap (λ n. Some (spot n (cell w))) (omega arith)

    -- the number behind another, where one comes
    abbrev pub next : ℕ → ℕ
    next n = cond (nat_lt (n + step.0) to.0) (n + step.0) n

    -- so many steps are taken to it
    abbrev pub goes_steps : ℕ → ℕ
    goes_steps n = 1 + (1 + suc (flag (nat_lt (n + step.0) to.0)))

    -- it is set, where one comes
    steps_on : (b : Bool) (fr : Frame) (s : runs.State) (n : ℕ) (left has_step item_now : List Scalar) (others : List Local) → n < to.0 → nat_lt (n + step.0) to.0 ≡ b → length others ≤ 2
        → Scene argument_local fr (standing (NumberScalar n ∷ []) left (NumberScalar (flag b) ∷ []) has_step item_now others)
        → Reaches q numbered l argument_local (branch (operand (whole_local 2)) (to_block (computing w 0 (whole_local 0) (field_of_argument 2) ∷ [])) stop ∷ []) fr s (suc (flag b))
        (standing (NumberScalar (cond b (n + step.0) n) ∷ []) left (NumberScalar (flag b) ∷ []) has_step item_now others) s
    unfolding type_of_part to_block
    steps_on true fr s n left has_step item_now others h e few_others scene =
        let below : n < 2 ^ bits w = let b = to.2 in omega (arith, h, b) in
        let lt = ltb-true (n + step.0) to.0 e in
        let bound = to.2 in
        reaches_branch q numbered l argument_local (operand (whole_local 2)) (computing w 0 (whole_local 0) (field_of_argument 2) ∷ []) [] fr s s 1 1 _
        (number_judged q.program.structs s.store fr U8 (whole_local 2) 1 (record { keeps = scene_whole argument_local fr 2 _ (record { layout = cell U8; scalars = NumberScalar 1 ∷ [] }) refl scene; small = omega arith }))
        (computes q numbered l argument_local fr s 0 _ (record { layout = cell w; scalars = NumberScalar n ∷ [] }) cop.Add w w (whole_local 0) (field_of_argument 2) n step.0 (n + step.0) scene refl refl
        (record { keeps = scene_whole argument_local fr 0 _ (record { layout = cell w; scalars = NumberScalar n ∷ [] }) refl scene; small = below })
        (bound_kept fr _ 2 step.0 (omega arith) refl (omega arith) step.1 step.2 scene)
        (sum_is w n step.0 below step.2 ∙ ap (λ m. ok (word_value w m)) (mod-eq_of_lt (omega (arith, lt, bound)))) (omega (arith, few_others)))
    steps_on false fr s n left has_step item_now others h e few_others scene =
        reaches_branch q numbered l argument_local (operand (whole_local 2)) (computing w 0 (whole_local 0) (field_of_argument 2) ∷ []) [] fr s s 0 0 _
        (number_judged q.program.structs s.store fr U8 (whole_local 2) 0 (record { keeps = scene_whole argument_local fr 2 _ (record { layout = cell U8; scalars = NumberScalar 0 ∷ [] }) refl scene; small = omega arith }))
        (reaches_none q numbered l argument_local fr s _ scene)

    -- whether another turn comes, and its number where one does
    pub goes_on : (fr : Frame) (s : runs.State) (n : ℕ) (left more has_step item_now : List Scalar) (others : List Local) → n < to.0 → length others ≤ 2
        → Scene argument_local fr (standing (NumberScalar n ∷ []) left more has_step item_now others)
        → Reaches q numbered l argument_local (loop_goes_on w) fr s (goes_steps n)
        (standing (NumberScalar (next n) ∷ []) (NumberScalar (to.0 - n) ∷ []) (NumberScalar (flag (nat_lt (n + step.0) to.0)) ∷ []) has_step item_now others) s
    unfolding type_of_part
    goes_on fr s n left more has_step item_now others h few_others scene =
        let below : n < 2 ^ bits w = let b = to.2 in omega (arith, h, b) in
        reaches_on q numbered l argument_local _ _ fr s s s 1 (1 + suc (flag (nat_lt (n + step.0) to.0))) _ _
        (computes q numbered l argument_local fr s 1 _ (record { layout = cell w; scalars = left }) cop.Sub w w (field_of_argument 1) (whole_local 0) to.0 n (to.0 - n) scene refl refl
        (bound_kept fr _ 1 to.0 (omega arith) refl (omega arith) to.1 to.2 scene)
        (record { keeps = scene_whole argument_local fr 0 _ (record { layout = cell w; scalars = NumberScalar n ∷ [] }) refl scene; small = below })
        (difference_is w to.0 n to.2 (omega (arith, h))) (omega (arith, few_others)))
        (λ fr1 scene1. reaches_on q numbered l argument_local _ _ fr1 s s s 1 (suc (flag (nat_lt (n + step.0) to.0))) _ _
        (computes q numbered l argument_local fr1 s 2 _ (record { layout = cell U8; scalars = more }) cop.Lt U8 w (field_of_argument 2) (whole_local 1) step.0 (to.0 - n) (flag (nat_lt (n + step.0) to.0)) scene1 refl refl
        (bound_kept fr1 _ 2 step.0 (omega arith) refl (omega arith) step.1 step.2 scene1)
        (record { keeps = scene_whole argument_local fr1 1 _ (record { layout = cell w; scalars = NumberScalar (to.0 - n) ∷ [] }) refl scene1; small = let b = to.2 in omega (arith, b) })
        (less_is w step.0 (to.0 - n) step.2 (let b = to.2 in omega (arith, b)) ∙ ap (λ b. ok (word_value U8 (flag b))) (goes_on_is n to.0 step.0 h)) (omega (arith, few_others)))
        (λ fr2 scene2. steps_on (nat_lt (n + step.0) to.0) fr2 s n (NumberScalar (to.0 - n) ∷ []) has_step item_now others h refl few_others scene2))

    -- the parts of what the function takes, one of which is set
    pub acc_set : (cs ws behind : List Scalar) → IsDeclared numbered q.program.structs c → length cs ≡ slots c → spliced (spot 0 (lay_of c)) ws (cs ++ behind) ≡ ws ++ behind
    acc_set cs ws behind dc e = middle_spliced 0 (slots c) [] cs behind ws (lay_of c) (size_slots numbered q.program.structs c dc) refl e

    idx_set : (cs ws idx : List Scalar) → length cs ≡ slots c → length idx ≡ 1 → spliced (spot (slots c + slots (bang o)) (cell w)) ws (cs ++ (seen ++ idx)) ≡ cs ++ (seen ++ ws)
    unfolding size
    idx_set cs ws idx e one =
        let all = length-append cs seen in
        ap (spliced (spot (slots c + slots (bang o)) (cell w)) ws) (sym (append_assoc cs seen idx) ∙ ap (λ z. (cs ++ seen) ++ z) (sym (append-nil idx)))
        ∙ middle_spliced (slots c + slots (bang o)) 1 (cs ++ seen) idx [] ws (cell w) refl (omega (arith, all, e, seen_long)) one
        ∙ ap (λ z. (cs ++ seen) ++ z) (append-nil ws) ∙ append_assoc cs seen ws

    pub item_long : (cs idx : List Scalar) → length cs ≡ slots c → length idx ≡ 1 → length (cs ++ (seen ++ idx)) ≡ size (lay_of item)
    item_long cs idx e one = let a = length-append cs (seen ++ idx) in let b = length-append seen idx in omega (arith, a, b, e, one, seen_long, item_size)

    -- what is carried is kept there
    pub carried_kept : (fr : Frame) (xs : List Local) (cs idx : List Scalar) → length cs ≡ slots c → slice_get xs 4 ≡ Some (record { layout = lay_of item; scalars = cs ++ (seen ++ idx) }) → Scene argument_local fr xs
        → Keeps fr (held (local 4) (field 0 ∷ [])) (lay_of c) cs
    unfolding part_at type_of_part
    carried_kept fr xs cs idx long at scene =
        let all = length-append cs (seen ++ idx) in
        keeps_field numbered q.program.structs fr (whole_local 4) item_parts 0 (cs ++ (seen ++ idx)) cs di
        (scene_whole argument_local fr 4 xs (record { layout = lay_of item; scalars = cs ++ (seen ++ idx) }) at scene)
        (rw (le-leb (slots c) (length (cs ++ (seen ++ idx))) (omega (arith, all, long)), take_front (slots c) cs (seen ++ idx) long) refl)

    -- ---- before the first turn

    -- so many unset slots
    abbrev pub unset : ℕ → List Scalar
    unset n = replicate n Unset

    abbrev pub unset_item : List Scalar
    unset_item = unset (slots c) ++ (unset (slots (bang o)) ++ unset 1)

    pub unset_item_is : replicate (size (lay_of item)) Unset ≡ unset_item
    unset_item_is =
        ap unset (item_size ∙ omega arith) ∙ sym (replicate-append-replicate (slots c) (slots (bang o) + 1) Unset)
        ∙ ap (λ z. unset (slots c) ++ z) (sym (replicate-append-replicate (slots (bang o)) 1 Unset))

    -- whether there is a first turn
    abbrev pub comes : Bool
    comes = nat_lt from.0 to.0 && not (nat_eq step.0 0)

    -- what is observed is set in what the function takes
    seen_set : length (unset (slots c)) ≡ slots c → length (unset (slots (bang o))) ≡ slots (bang o)
        → IsDeclared numbered q.program.structs (bang o) → spliced (spot (slots c) (lay_of (bang o))) seen unset_item ≡ unset (slots c) ++ (seen ++ unset 1)
    seen_set e e' dobs = middle_spliced (slots c) (slots (bang o)) (unset (slots c)) (unset (slots (bang o))) (unset 1) seen (lay_of (bang o)) (size_slots numbered q.program.structs (bang o) dobs) e e'

    observed_declared : IsDeclared numbered q.program.structs (bang o)
    unfolding type_of_part count
    observed_declared = field_declared numbered q.program.structs item_parts U 1 di (omega arith)

    pub carried_declared : IsDeclared numbered q.program.structs c
    unfolding type_of_part count
    carried_declared = field_declared numbered q.program.structs item_parts U 0 di (omega arith)

    pub loop_begun : (fr : Frame) (s : runs.State) (others : List Local) → length others ≤ 2 → Scene argument_local fr (standing (Unset ∷ []) (Unset ∷ []) (Unset ∷ []) (Unset ∷ []) unset_item others)
        → Reaches q numbered l argument_local (loop_begins w) fr s 5
        (standing (NumberScalar from.0 ∷ []) (Unset ∷ []) (NumberScalar (flag comes) ∷ []) (NumberScalar (flag (not (nat_eq step.0 0))) ∷ []) (unset (slots c) ++ (seen ++ unset 1)) others) s
    unfolding type_of_part size
    loop_begun fr s others few_others scene =
        let f0 = part_of 0 (omega arith) in
        let f5 = part_of 5 (omega arith) in
        reaches_on q numbered l argument_local _ _ fr s s s 1 4 _ _
        (sets q numbered l argument_local fr s 0 _ (record { layout = cell w; scalars = Unset ∷ [] }) [] (field_of_argument 0) (cell w) 0 (NumberScalar from.0 ∷ []) (NumberScalar from.0 ∷ []) scene refl refl
        (bound_kept fr _ 0 from.0 (omega arith) refl (omega arith) from.1 from.2 scene).keeps (from.0, refl, from.2) refl refl (omega (arith, few_others)))
        (λ fr1 scene1. reaches_on q numbered l argument_local _ _ fr1 s s s 1 3 _ _
        (computes q numbered l argument_local fr1 s 2 _ (record { layout = cell U8; scalars = Unset ∷ [] }) cop.Lt U8 w (whole_local 0) (field_of_argument 1) from.0 to.0 (flag (nat_lt from.0 to.0)) scene1 refl refl
        (record { keeps = scene_whole argument_local fr1 0 _ (record { layout = cell w; scalars = NumberScalar from.0 ∷ [] }) refl scene1; small = from.2 })
        (bound_kept fr1 _ 1 to.0 (omega arith) refl (omega arith) to.1 to.2 scene1) (less_is w from.0 to.0 from.2 to.2) (omega (arith, few_others)))
        (λ fr2 scene2. reaches_on q numbered l argument_local _ _ fr2 s s s 1 2 _ _
        (computes q numbered l argument_local fr2 s 3 _ (record { layout = cell U8; scalars = Unset ∷ [] }) cop.Ne U8 w (field_of_argument 2) (number 0) step.0 0 (flag (not (nat_eq step.0 0))) scene2 refl refl
        (bound_kept fr2 _ 2 step.0 (omega arith) refl (omega arith) step.1 step.2 scene2) (numeral fr2 w 0 (bit_fits w 0 (omega arith))) (differs_is w step.0 0 step.2 (bit_fits w 0 (omega arith))) (omega (arith, few_others)))
        (λ fr3 scene3. reaches_on q numbered l argument_local _ _ fr3 s s s 1 1 _ _
        (computes q numbered l argument_local fr3 s 2 _ (record { layout = cell U8; scalars = NumberScalar (flag (nat_lt from.0 to.0)) ∷ [] }) cop.And U8 U8 (whole_local 2) (whole_local 3)
        (flag (nat_lt from.0 to.0)) (flag (not (nat_eq step.0 0))) (flag comes) scene3 refl refl
        (record { keeps = scene_whole argument_local fr3 2 _ (record { layout = cell U8; scalars = NumberScalar (flag (nat_lt from.0 to.0)) ∷ [] }) refl scene3; small = flag_fits (nat_lt from.0 to.0) })
        (record { keeps = scene_whole argument_local fr3 3 _ (record { layout = cell U8; scalars = NumberScalar (flag (not (nat_eq step.0 0))) ∷ [] }) refl scene3; small = flag_fits (not (nat_eq step.0 0)) })
        (both_is (nat_lt from.0 to.0) (not (nat_eq step.0 0))) (omega (arith, few_others)))
        (λ fr4 scene4. sets q numbered l argument_local fr4 s 4 _ (record { layout = lay_of item; scalars = unset_item }) (field 1 ∷ []) (field_of_argument 5) (lay_of (bang o)) (slots c) seen (unset (slots c) ++ (seen ++ unset 1))
        scene4 refl obsv_leads (subst (λ z. Keeps fr4 (field_of_argument 5) (lay_of (bang o)) z) (sym (field_is 5 f5)) (field_kept fr4 _ 5 scene4 f5))
        (machine_readable numbered q.program.structs types few (bang o) seen seen_machine)
        (seen_set (length_replicate (slots c) Unset) (length_replicate (slots (bang o)) Unset) observed_declared)
        (item_long (unset (slots c)) (unset 1) (length_replicate (slots c) Unset) refl) (omega (arith, few_others))))))

    module _ (lib : Lib) (args : List Tau) (call : List Scalar → State → ℕ → Outcome) (source : Does types numbered q callee price (first_number (field_in x 3)) item r call) where
      -- the tag of what is called
      tagged : first_number (field_in x 3) ≡ function.0
      tagged = ap first_number function.1

      abbrev Asked : List Scalar → List Scalar → State → State → ℕ → ℕ → Type 0
      Asked asks ws s s' left rest = TurnCalled types numbered q callee price r (typed (cell U32) (NumberScalar function.0 ∷ [])) (typed (lay_of item) asks) s s' ws left rest

      -- what is asked of the function is called
      pub asked_called : (cs ws : List Scalar) (n : ℕ) (s s' : State) (left rest : ℕ) → is_machine types c cs ≡ true → n < 2 ^ bits w → call ((cs ++ seen) ++ NumberScalar n ∷ []) s left ≡ gives ws s' rest
          → Asked (cs ++ (seen ++ NumberScalar n ∷ [])) ws s s' left rest
      asked_called cs ws n s s' left rest m h e =
          subst (λ k. Does types numbered q callee price k item r call) tagged source (cs ++ (seen ++ NumberScalar n ∷ [])) ws s s' left rest function.2
          (subst (λ z. call z s left ≡ gives ws s' rest) (append_assoc cs seen (NumberScalar n ∷ [])) e)
          (item_machine cs n m h)

      -- the index is set in what the function takes
      pub index_set : (fr : Frame) (s : runs.State) (n : ℕ) (left more has_step cs idx : List Scalar) (others : List Local) → n < to.0 → length others ≤ 2 → length cs ≡ slots c → length idx ≡ 1
          → Scene argument_local fr (standing (NumberScalar n ∷ []) left more has_step (cs ++ (seen ++ idx)) others)
          → Reaches q numbered l argument_local (setting 4 (field 2 ∷ []) (whole_local 0) ∷ []) fr s 1 (standing (NumberScalar n ∷ []) left more has_step (cs ++ (seen ++ NumberScalar n ∷ [])) others) s
      index_set fr s n left more has_step cs idx others h few_others long one scene =
          sets q numbered l argument_local fr s 4 _ (record { layout = lay_of item; scalars = cs ++ (seen ++ idx) }) (field 2 ∷ []) (whole_local 0) (cell w) (slots c + slots (bang o)) (NumberScalar n ∷ []) (cs ++ (seen ++ NumberScalar n ∷ []))
          scene refl idx_leads (scene_whole argument_local fr 0 _ (record { layout = cell w; scalars = NumberScalar n ∷ [] }) refl scene) (n, refl, let b = to.2 in omega (arith, h, b))
          (idx_set cs (NumberScalar n ∷ []) idx long one) (item_long cs (NumberScalar n ∷ []) long refl) (omega (arith, few_others))

      -- the function's place is read
      pub function_kept : (fr : Frame) (xs : List Local) → Scene argument_local fr xs → Keeps fr (field_of_argument 3) (cell U32) (NumberScalar function.0 ∷ [])
      unfolding type_of_part
      function_kept fr xs scene = let f = part_of 3 (omega arith) in subst (λ z. Keeps fr (field_of_argument 3) (cell U32) z) (sym (field_is 3 f) ∙ function.1) (field_kept fr xs 3 scene f)

      module _ (plain : IsPlainLoop lib) (same : r ≡ c) (dc : IsDeclared numbered q.program.structs c) (lib_types : Types) where
        -- a turn
        abbrev body : List Stmt
        body = setting 4 (field 2 ∷ []) (whole_local 0) ∷ turning callee 4 (field 0 ∷ []) 4 ∷ loop_goes_on w

        record Turned (fr : Frame) (s s' : State) (n : ℕ) (has_step ws : List Scalar) (left rest : ℕ) : Type 0 where
          steps : ℕ
          within : steps + price.worth rest + price.left_over ≤ price.worth left + price.granted + 6
          reaches : Reaches q numbered l argument_local body fr (as_run s) steps
              (standing (NumberScalar (next n) ∷ []) (NumberScalar (to.0 - n) ∷ []) (NumberScalar (flag (nat_lt (n + step.0) to.0)) ∷ []) has_step (ws ++ (seen ++ NumberScalar n ∷ [])) []) (as_run s')
          is_fine : is_machine types c ws ≡ true

        turn : (fr : Frame) (s s' : State) (n : ℕ) (over more has_step cs idx ws : List Scalar) (left rest : ℕ) → n < to.0 → is_machine types c cs ≡ true → length idx ≡ 1
            → call ((cs ++ seen) ++ NumberScalar n ∷ []) s left ≡ gives ws s' rest → Scene argument_local fr (standing (NumberScalar n ∷ []) over more has_step (cs ++ (seen ++ idx)) [])
            → Turned fr s s' n has_step ws left rest
        turn fr s s' n over more has_step cs idx ws left rest h m one e scene =
            let long = machine_slots types c cs m in
            let asked = asked_called cs ws n s s' left rest m (let b = to.2 in omega (arith, h, b)) e in
            let given = subst (λ z. is_machine types z ws ≡ true) same asked.machine in
            let taking : asked.steps + price.worth rest + price.left_over ≤ price.worth left + price.granted = asked.within in
            record {
              steps = 1 + (suc asked.steps + (goes_steps n));
              within = let one = flag_is_small (nat_lt (n + step.0) to.0) in omega (arith, taking, one);
              is_fine = given;
              reaches =
                  reaches_on q numbered l argument_local _ _ fr (as_run s) (as_run s) (as_run s') 1 (suc asked.steps + (goes_steps n)) _ _
                  (index_set fr (as_run s) n over more has_step cs idx [] h (omega arith) long one scene)
                  (λ fr1 scene1. reaches_on q numbered l argument_local _ _ fr1 (as_run s) (as_run s') (as_run s') (suc asked.steps) (goes_steps n) _ _
                  (turn_runs types numbered q l callee price argument_local fr1 s s' r 4 4 0 _ (record { layout = lay_of item; scalars = cs ++ (seen ++ NumberScalar n ∷ []) }) (record { layout = lay_of item; scalars = cs ++ (seen ++ NumberScalar n ∷ []) })
                  (field 0 ∷ []) (NumberScalar function.0 ∷ []) (cs ++ (seen ++ NumberScalar n ∷ [])) ws (ws ++ (seen ++ NumberScalar n ∷ [])) left rest
                  scene1 refl refl refl (machine_readable numbered q.program.structs types few item (cs ++ (seen ++ NumberScalar n ∷ [])) (item_machine cs n m (let b = to.2 in omega (arith, h, b))))
                  (function_kept fr1 _ scene1) (function.0, refl, few function.0 (arrow item r) function.2)
                  (subst (λ z. walk (step_name (field 0) ∷ []) (lay_of item) ≡ Some (spot 0 (lay_of z))) (sym same) acc_leads)
                  (subst (λ z. spliced (spot 0 (lay_of z)) ws (cs ++ (seen ++ NumberScalar n ∷ [])) ≡ ws ++ (seen ++ NumberScalar n ∷ [])) (sym same) (acc_set cs ws (seen ++ NumberScalar n ∷ []) dc long))
                  (item_long ws (NumberScalar n ∷ []) (machine_slots types c ws given) refl) (omega arith) asked)
                  (λ fr2 scene2. goes_on fr2 (as_run s') n over more has_step (ws ++ (seen ++ NumberScalar n ∷ [])) [] h (omega arith) scene2));
            }

        -- all turns from a number on
        record Looped (fr : Frame) (s s' : State) (ws : List Scalar) (left rest : ℕ) : Type 0 where
          steps : ℕ
          frame : Frame
          within : steps + price.worth rest ≤ price.worth left + 1
          loops : Loops q l (operand (whole_local 2)) body fr (as_run s) steps frame (as_run s')
          keeps : Keeps frame (held (local 4) (field 0 ∷ [])) (lay_of c) ws
          is_fine : is_machine types c ws ≡ true

        -- no number is left
        loop_ends : (fr : Frame) (s s' : State) (index over has_step cs idx ws : List Scalar) (left rest : ℕ) → is_machine types c cs ≡ true
            → turns call lib args x [] cs s left ≡ gives ws s' rest
            → Scene argument_local fr (standing index over (NumberScalar 0 ∷ []) has_step (cs ++ (seen ++ idx)) [])
            → Looped fr s s' ws left rest
        unfolding part_at type_of_part
        loop_ends fr s s' index over has_step cs idx ws left rest fine e scene =
            let given : gives cs s left ≡ gives ws s' rest = sym (plain.at_end call args x cs s left) ∙ e in
            let us_same : cs ≡ ws = same_scalars cs ws s s' left rest given in
            let s_same : s ≡ s' = same_state cs ws s s' left rest given in
            let left_same : left ≡ rest = same_rest cs ws s s' left rest given in
            let zero : KeepsNumber fr U8 (whole_local 2) 0 = record { keeps = scene_whole argument_local fr 2 _ (record { layout = cell U8; scalars = NumberScalar 0 ∷ [] }) refl scene; small = omega arith } in
            record {
              steps = 1;
              frame = fr;
              within = omega (arith, ap price.worth left_same);
              loops = subst (λ z. Loops q l (operand (whole_local 2)) body fr (as_run s) 1 fr (as_run z)) s_same (loops_end q l (operand (whole_local 2)) body fr (as_run s) (number_judged q.program.structs s.store fr U8 (whole_local 2) 0 zero));
              keeps =
                  subst (λ z. Keeps fr (held (local 4) (field 0 ∷ [])) (lay_of c) z) us_same
                  (carried_kept fr (standing index over (NumberScalar 0 ∷ []) has_step (cs ++ (seen ++ idx)) []) cs idx (machine_slots types c cs fine) refl scene);
              is_fine = subst (λ z. is_machine types c z ≡ true) us_same fine;
            }

        -- none from a number on
        loop_past : (m n : ℕ) (fr : Frame) (s s' : State) (index over has_step cs idx ws : List Scalar) (left rest : ℕ) → nat_lt n to.0 ≡ false → is_machine types c cs ≡ true
            → turns call lib args x (counted m n to.0 step.0) cs s left ≡ gives ws s' rest
            → Scene argument_local fr (standing index over (NumberScalar (flag (nat_lt n to.0)) ∷ []) has_step (cs ++ (seen ++ idx)) [])
            → Looped fr s s' ws left rest
        loop_past m n fr s s' index over has_step cs idx ws left rest past fine e scene =
            loop_ends fr s s' index over has_step cs idx ws left rest fine (ap (λ z. turns call lib args x z cs s left) (sym (counted_none m n to.0 step.0 past)) ∙ e)
            (subst (λ b. Scene argument_local fr (standing index over (NumberScalar (flag b) ∷ []) has_step (cs ++ (seen ++ idx)) [])) past scene)

        -- all turns from the next number on
        abbrev Later : ℕ → ℕ → List Scalar → List Scalar → List Scalar → State → ℕ → ℕ → Type 0
        Later m n has_step cs ws s' left rest =
            (fr : Frame) (s : State) (over : List Scalar) → turns call lib args x (counted m (n + step.0) to.0 step.0) cs s left ≡ gives ws s' rest → is_machine types c cs ≡ true
            → Scene argument_local fr (standing (NumberScalar (next n) ∷ []) over (NumberScalar (flag (nat_lt (n + step.0) to.0)) ∷ []) has_step (cs ++ (seen ++ NumberScalar n ∷ [])) [])
            → Looped fr s s' ws left rest

        loop_turns : (m n z : ℕ) (fr : Frame) (s s' : State) (over has_step cs idx ws : List Scalar) (left rest : ℕ) → nat_lt n to.0 ≡ true → (nat_lt n to.0 ≡ true → z ≡ n) → is_machine types c cs ≡ true → length idx ≡ 1
            → turns call lib args x (counted (suc m) n to.0 step.0) cs s left ≡ gives ws s' rest
            → Scene argument_local fr (standing (NumberScalar z ∷ []) over (NumberScalar (flag (nat_lt n to.0)) ∷ []) has_step (cs ++ (seen ++ idx)) [])
            → ((us' : List Scalar) (mid : ℕ) → Later m n has_step us' ws s' mid rest) → Looped fr s s' ws left rest
        loop_turns m n z fr s s' over has_step cs idx ws left rest more here fine one e scene rest_runs =
            let paid = pay_is left (λ paid. bind (call ((cs ++ seen) ++ NumberScalar n ∷ []) s paid) (λ us t rest. turns call lib args x (counted m (n + step.0) to.0 step.0) us t rest)) ws s' rest
            (sym (plain.at_turn call args x n (counted m (n + step.0) to.0 step.0) cs s left) ∙ ap (λ z. turns call lib args x z cs s left) (sym (counted_next m n to.0 step.0 more)) ∙ e) in
            let b = bind_is (call ((cs ++ seen) ++ NumberScalar n ∷ []) s paid.0) (λ us t rest. turns call lib args x (counted m (n + step.0) to.0 step.0) us t rest) ws s' rest paid.2 in
            let lt = ltb-true n to.0 more in
            let t = turn fr s b.state n over (NumberScalar (flag (nat_lt n to.0)) ∷ []) has_step cs idx b.scalars paid.0 b.rest lt fine one b.first
            (subst (λ y. Scene argument_local fr (standing (NumberScalar y ∷ []) over (NumberScalar (flag (nat_lt n to.0)) ∷ []) has_step (cs ++ (seen ++ idx)) [])) (here more) scene) in
            let later = rest_runs b.scalars b.rest t.reaches.frame b.state (NumberScalar (to.0 - n) ∷ []) b.later t.is_fine t.reaches.scene in
            let there : KeepsNumber fr U8 (whole_local 2) 1 =
            record { keeps = scene_whole argument_local fr 2 _ (record { layout = cell U8; scalars = NumberScalar 1 ∷ [] }) (ap (λ b. Some (record { layout = cell U8; scalars = NumberScalar (flag b) ∷ [] })) more) scene; small = omega arith } in
            let first_part : t.steps + price.worth b.rest + price.left_over ≤ price.worth paid.0 + price.granted + 6 = t.within in
            let last_part : later.steps + price.worth rest ≤ price.worth b.rest + 1 = later.within in
            let was : price.worth left ≡ price.worth (suc paid.0) = ap price.worth paid.1 in
            let pay = price.pays paid.0 in
            record {
              steps = 1 + t.steps + later.steps;
              frame = later.frame;
              within = omega (arith, first_part, last_part, was, pay);
              loops =
                  loops_turn q l (operand (whole_local 2)) body fr t.reaches.frame later.frame (as_run s) (as_run b.state) (as_run s') 0 t.steps later.steps
                  (number_judged q.program.structs s.store fr U8 (whole_local 2) 1 there) t.reaches.runs later.loops;
              keeps = later.keeps;
              is_fine = later.is_fine;
            }

        loop_runs : (m n z : ℕ) (fr : Frame) (s s' : State) (over has_step cs idx ws : List Scalar) (left rest : ℕ) → to.0 ≤ n + m → 0 < step.0 → (nat_lt n to.0 ≡ true → z ≡ n) → is_machine types c cs ≡ true → length idx ≡ 1
            → turns call lib args x (counted m n to.0 step.0) cs s left ≡ gives ws s' rest
            → Scene argument_local fr (standing (NumberScalar z ∷ []) over (NumberScalar (flag (nat_lt n to.0)) ∷ []) has_step (cs ++ (seen ++ idx)) [])
            → Looped fr s s' ws left rest
        loop_runs zero n z fr s s' over has_step cs idx ws left rest enough positive here fine one e scene =
            loop_past zero n fr s s' (NumberScalar z ∷ []) over has_step cs idx ws left rest (le-ltb n to.0 (omega (arith, enough))) fine e scene
        loop_runs (suc m) n z fr s s' over has_step cs idx ws left rest enough positive here fine one e scene = elim (cases_Bool (nat_lt n to.0)) [
          | inl more ↦ loop_turns m n z fr s s' over has_step cs idx ws left rest more here fine one e scene (λ us' mid fr' t over' e' fine' scene'.
              loop_runs m (n + step.0) (next n) fr' t s' over' has_step us' (NumberScalar n ∷ []) ws mid rest (omega (arith, enough, positive)) positive
              (λ again. ap (λ b. cond b (n + step.0) n) again) fine' refl e' scene')
          | inr past ↦ loop_past (suc m) n fr s s' (NumberScalar z ∷ []) over has_step cs idx ws left rest past fine e scene
        ]

        -- all turns
        looped_from : (fr : Frame) (s s' : State) (over has_step idx ws : List Scalar) (left rest : ℕ) → length idx ≡ 1
            → turns call lib args x (indices_from from.0 to.0 step.0) (field_in x 4) s left ≡ gives ws s' rest
            → Scene argument_local fr (standing (NumberScalar from.0 ∷ []) over (NumberScalar (flag comes) ∷ []) has_step (field_in x 4 ++ (seen ++ idx)) [])
            → Looped fr s s' ws left rest
        unfolding indices_from
        looped_from fr s s' over has_step idx ws left rest one e scene = elim (cases_Bool (nat_eq step.0 0)) [
          | inl none ↦ loop_ends fr s s' (NumberScalar from.0 ∷ []) over has_step (field_in x 4) idx ws left rest first_machine
              (ap (λ b. turns call lib args x (if b then [] else counted to.0 from.0 to.0 step.0) (field_in x 4) s left) (sym none) ∙ e)
              (subst (λ n. Scene argument_local fr (standing (NumberScalar from.0 ∷ []) over (NumberScalar n ∷ []) has_step (field_in x 4 ++ (seen ++ idx)) [])) (none_comes (nat_lt from.0 to.0) (nat_eq step.0 0) none) scene)
          | inr some ↦ loop_runs to.0 from.0 from.0 fr s s' over has_step (field_in x 4) idx ws left rest (omega arith) (positive step.0 some) (λ more. refl) first_machine one
              (ap (λ b. turns call lib args x (if b then [] else counted to.0 from.0 to.0 step.0) (field_in x 4) s left) (sym some) ∙ e)
              (subst (λ n. Scene argument_local fr (standing (NumberScalar from.0 ∷ []) over (NumberScalar n ∷ []) has_step (field_in x 4 ++ (seen ++ idx)) [])) (some_comes (nat_lt from.0 to.0) (nat_eq step.0 0) some) scene)
        ]

        -- all that the C does, from the argument to the result
        seq_runs : (fr : Frame) (s s' : State) (ws : List Scalar) (left rest : ℕ) → turns call lib args x (indices lib x s.store) (field_in x 4) s left ≡ gives ws s' rest
            → Scene argument_local fr (standing (Unset ∷ []) (Unset ∷ []) (Unset ∷ []) (Unset ∷ []) unset_item [])
            → LoopRan price q l (loop_low w lib_types callee) fr s s' (lay_of c) ws left rest
        unfolding type_of_part
        seq_runs fr s s' ws left rest e scene =
            let begun = loop_begun fr (as_run s) [] (omega arith) scene in
            let f4 = part_of 4 (omega arith) in
            let first_set = sets q numbered l argument_local begun.frame (as_run s) 4 _ (record { layout = lay_of item; scalars = unset (slots c) ++ (seen ++ unset 1) }) (field 0 ∷ []) (field_of_argument 4) (lay_of c) 0 (field_in x 4) (field_in x 4 ++ (seen ++ unset 1))
            begun.scene refl acc_leads (subst (λ z. Keeps begun.frame (field_of_argument 4) (lay_of c) z) (sym (field_is 4 f4)) (field_kept begun.frame _ 4 begun.scene f4))
            (machine_readable numbered q.program.structs types few c (field_in x 4) first_machine)
            (acc_set (unset (slots c)) (field_in x 4) (seen ++ unset 1) dc (length_replicate (slots c) Unset)) (item_long (field_in x 4) (unset 1) (machine_slots types c (field_in x 4) first_machine) refl) (omega arith) in
            let looped = looped_from first_set.frame s s' (Unset ∷ []) (NumberScalar (flag (not (nat_eq step.0 0))) ∷ []) (unset 1) ws left rest refl
            (subst (λ z. turns call lib args x z (field_in x 4) s left ≡ gives ws s' rest) (plain.counts x s.store ∙ rw (from.1, to.1, step.1) refl) e) first_set.scene in
            let taking : looped.steps + price.worth rest ≤ price.worth left + 1 = looped.within in
            record {
              steps = 5 + (1 + looped.steps);
              frame = looped.frame;
              within = omega (arith, taking);
              runs =
                  runs_on q l (loop_begins w) _ fr begun.frame looped.frame (as_run s) (as_run s) (as_run s') 5 (1 + looped.steps) begun.runs
                  (runs_on q l (setting 4 (field 0 ∷ []) (field_of_argument 4) ∷ []) _ begun.frame first_set.frame looped.frame (as_run s) (as_run s) (as_run s') 1 looped.steps first_set.runs
                  (runs_while q l (operand (whole_local 2)) body first_set.frame looped.frame (as_run s) (as_run s') looped.steps looped.loops));
              keeps = looped.keeps;
              readable = machine_readable numbered q.program.structs types few c ws looped.is_fine;
            }

-- ---- the iterators

-- the unset locals of a loop, before others
pub seq_scene : (types : ℕ → Option Tau) (numbered : Tau → ℕ) (q : Linked) (l : Layout) (callee : List ℕ) (price : Price) (few : (k : ℕ) (t : Tau) → types k ≡ Some t → k < 2 ^ 32) (w : Word) (c o r : Tau) (us : List Scalar)
    (d : IsDeclared numbered q.program.structs (taken types numbered q l callee price few w c o r us)) (di : IsDeclared numbered q.program.structs (turn_of_loop w c o))
    (machine : is_machine types (taken types numbered q l callee price few w c o r us) us ≡ true) (fr : Frame) (ts : List CTy) (others : List Local)
    → Is fr argument_name (lay_c q (c_type numbered (taken types numbered q l callee price few w c o r us))) us
    → Fresh (lay_c q) fr 0 (ty.Word w ∷ ty.Word w ∷ ty.Word U8 ∷ ty.Word U8 ∷ c_type numbered (turn_of_loop w c o) ∷ ts) → Stand fr 5 others
    → Scene (argument_local types numbered q l callee price few w c o r us) fr
    (standing types numbered q l callee price few w c o r us d di machine (Unset ∷ []) (Unset ∷ []) (Unset ∷ []) (Unset ∷ []) (unset_item types numbered q l callee price few w c o r us d di machine) others)
unfolding size
seq_scene types numbered q l callee price few w c o r us d di machine fr ts others is fresh stand = record {
  argued = is;
  locals = (
    fresh.0,
    (
      fresh.1.0,
      (
        fresh.1.1.0,
        (
          fresh.1.1.1.0,
          (subst (λ z. Is fr (local_name 4) (lay_c q (c_type numbered (turn_of_loop w c o))) z) (unset_item_is types numbered q l callee price few w c o r us d di machine) fresh.1.1.1.1.0, stand),
        ),
      ),
    ),
  );
}

pub seq32_ran : (args : List Tau) → IteratorClaim Seq32 args
unfolding type_of_part
seq32_ran args types numbered q l callee price call fr s s' us ws left rest few source dt dr di dc is fresh machine e =
    seq_runs types numbered q l callee price few U32 (given args 0) (given args 1) (given args 0) us dt di machine Seq32 args call source plain_32 refl dc (types_in numbered Seq32 args) fr s s' ws left rest e
    (seq_scene types numbered q l callee price few U32 (given args 0) (given args 1) (given args 0) us dt di machine fr [] [] is fresh tt)

pub seq64_ran : (args : List Tau) → IteratorClaim Seq64 args
unfolding type_of_part
seq64_ran args types numbered q l callee price call fr s s' us ws left rest few source dt dr di dc is fresh machine e =
    seq_runs types numbered q l callee price few U64 (given args 0) (given args 1) (given args 0) us dt di machine Seq64 args call source plain_64 refl dc (types_in numbered Seq64 args) fr s s' ws left rest e
    (seq_scene types numbered q l callee price few U64 (given args 0) (given args 1) (given args 0) us dt di machine fr [] [] is fresh tt)
