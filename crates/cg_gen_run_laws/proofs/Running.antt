-- Evaluation of the bodies of the generated functions, one behind the other.
use Rattle.std.proofs.Common.{◌≡◌, ◌∙◌, ℕ, zero, suc, ◌+◌, ◌-◌, ◌*◌, ◌%◌, ◌^◌, ◌<◌, ◌≤◌, ◌⊎◌, inl, inr, [], ◌∷◌, ◌++◌, codes, Some, refl, ap, sym, length-append, arith}
use Rattle.std.specs.Prelude.{slice_get, length}
use Rattle.std.specs.Option.{option_map}
use Rattle.std.proofs.Math.Nat.{mod-add-mod}
use Rattle.cg_base.proofs.Counts.{one_more}
use Rattle.cg_base.proofs.Sequences.{get_front, get_last}
use Rattle.cg_base.specs.declared.fun.Fun.TheVariants.{User}
use Rattle.cg_core.specs.Terms.{Tree, Note, term, take_field}
use Rattle.cg_value.specs.Values.{Val, number, parts, more, none, function}
use Rattle.cg_value.specs.Foreign.{Foreign}
use Rattle.cg_value.specs.Forms.{field, with_field, without}
use Rattle.cg_value.specs.Values.{to_vals, val_list}
use Rattle.cg_eval_operations.specs.Operators.{operated_both}
use Rattle.cg_eval_operations.specs.Positions.{position, position_among}
use Rattle.cg_eval_def.specs.Evaluation as evaluating
use Rattle.cg_eval_def.specs.Evaluation.{Outcome, gives, bind, Table, Body, Context, only, push, enter, with_fuel, evaluate, evaluation, outcome}
use Rattle.cg_eval_def.specs.Foreigns.{table_over}
use Rattle.cg_typing.specs.Rules.{type_at}
use Rattle.cg_typing.specs.Holds.{joined, kept_at}
use Rattle.cg_gen_def.specs.Kernels.{body_in, subject_in, core_behind, cores, functions, with_type}
use Rattle.cg_gen_def.specs.Results.{number_after, cell_after, cost_of}
use Rattle.cg_gen_run_laws.specs.Laws.{EvaluationGives, StepsAreEnough}

-- so many more
abbrev four : ℕ → ℕ
four n = suc (suc (suc (suc n)))

abbrev eight : ℕ → ℕ
eight n = four (four n)

-- the cell with a number
abbrev cell : ℕ → Val
cell a = parts (more (number a) (more (number 0) none))

-- what a function behind so many others makes of the number
abbrev next : ℕ → ℕ → ℕ
next before a = ((a * 3) % 2 ^ 32 + (before + 1)) % 2 ^ 32

-- what follows the subject, where the field that is taken stands at this position
abbrev follows : Tree Note → Tree Note
follows (term note (take_field e at p q k)) = k
follows t = t

abbrev after : Table → ℕ → ℕ → Val → ℕ → Val → ℕ → Outcome
after table fuel before x p v rest = with_fuel table fuel (follows (core_behind before)) (push (push (only [] x) (without v p)) (field v p)) rest

body_runs : (table : Table) (before fuel start : ℕ) (x : Val)
    → with_fuel table (suc fuel) (core_behind before) (only [] x) (suc start)
    ≡ bind (with_fuel table fuel (subject_in with_type before) (only [] x) start)
    (after table fuel before x (position (codes "val") (type_at (subject_in with_type before))))
unfolding with_fuel body_in
body_runs table before fuel start x = refl

front : (before : ℕ) → position (codes "val") (type_at (subject_in with_type before)) ≡ 0
unfolding subject_in position position_among
front zero = refl
front (suc before) = refl

put_runs : (table : Table) (before a fuel left : ℕ) (x : Val)
    → after table (four fuel) before x 0 (cell a) (eight left) ≡ gives (cell (next before a)) left
unfolding with_fuel body_in position position_among without field with_field to_vals val_list operated_both
put_runs table before a fuel left x = refl

-- what a function behind so many others gives, where its subject gives a cell
from_subject : (table : Table) (before a fuel start left : ℕ) (x : Val)
    → with_fuel table (four fuel) (subject_in with_type before) (only [] x) start ≡ gives (cell a) (eight left)
    → with_fuel table (suc (four fuel)) (core_behind before) (only [] x) (suc start) ≡ gives (cell (next before a)) left
from_subject table before a fuel start left x subject =
    body_runs table before (four fuel) start x
    ∙ ap (λ p. bind (with_fuel table (four fuel) (subject_in with_type before) (only [] x) start) (after table (four fuel) before x p)) (front before)
    ∙ ap (λ o. bind o (after table (four fuel) before x 0)) subject
    ∙ put_runs table before a fuel left x

-- what the subject gives
first_subject : (table : Table) (fuel left : ℕ) (x : Val) → with_fuel table (suc fuel) (subject_in with_type 0) (only [] x) (suc left) ≡ gives x left
unfolding with_fuel subject_in
first_subject table fuel left x = refl

later_subject : (table : Table) (before fuel left : ℕ) (x : Val)
    → with_fuel table (suc (suc fuel)) (subject_in with_type (suc before)) (only [] x) (suc (suc (suc left)))
    ≡ enter table (with_fuel table (suc fuel)) before x left (table.body before [])
unfolding with_fuel subject_in
later_subject table before fuel left x = refl

-- ---- all of them

-- how much more fuel than 5 a function behind so many others needs, and its cost, with what is left of both
deep : ℕ → ℕ → ℕ
deep zero spare = spare
deep (suc before) spare = suc (suc (deep before spare))

paid : ℕ → ℕ → ℕ
paid zero left = suc (suc (eight left))
paid (suc before) left = four (paid before (eight left))

-- the functions before one have these bodies
abbrev HasBodies : Table → ℕ → Type 0
HasBodies table n = (i : ℕ) → i < n → table.body i [] ≡ Some (record { term = core_behind i; types = [] })

next_is : (before : ℕ) → next before (number_after before) ≡ number_after (suc before)
next_is before = mod-add-mod (number_after before * 3) (2 ^ 32) (before + 1)

runs : (table : Table) (before spare left : ℕ) → HasBodies table before
    → with_fuel table (suc (four (deep before spare))) (core_behind before) (only [] (cell 0)) (paid before left)
    ≡ gives (cell (number_after (suc before))) left
unfolding deep paid
runs table zero spare left has =
    from_subject table 0 0 spare (suc (eight left)) left (cell 0) (first_subject table (suc (suc (suc spare))) (eight left) (cell 0))
    ∙ ap (λ a. gives (cell a) left) (next_is 0)
runs table (suc before) spare left has =
    let called : table.body before [] ≡ Some (record { term = core_behind before; types = [] }) = has before (omega arith) in
    let subject = later_subject table before (four (deep before spare)) (paid before (eight left)) (cell 0)
    ∙ ap (enter table (with_fuel table (suc (four (deep before spare)))) before (cell 0) (paid before (eight left))) called
    ∙ runs table before spare (eight left) (λ i lt. has i (omega arith)) in
    let start = suc (suc (suc (paid before (eight left)))) in
    from_subject table (suc before) (number_after (suc before)) (suc (suc (deep before spare))) start left (cell 0) subject
    ∙ ap (λ a. gives (cell a) left) (next_is (suc before))

deep_is : (before spare : ℕ) → deep before spare ≡ 2 * before + spare
unfolding deep
deep_is zero spare = omega arith
deep_is (suc before) spare = let e = deep_is before spare in omega arith

paid_is : (before left : ℕ) → paid before left ≡ 12 * before + 10 + left
unfolding paid
paid_is zero left = omega arith
paid_is (suc before) left = let e = paid_is before (eight left) in omega arith

-- with other words for fuel and budget
at_sizes : (table : Table) (before fuel budget spare left : ℕ) → HasBodies table before → fuel ≡ suc (four (deep before spare)) → budget ≡ paid before left
    → with_fuel table fuel (core_behind before) (only [] (cell 0)) budget ≡ gives (cell_after (suc before)) left
at_sizes table before fuel budget spare left has e f =
    ap (λ n. with_fuel table n (core_behind before) (only [] (cell 0)) budget) e
    ∙ ap (λ n. with_fuel table (suc (four (deep before spare))) (core_behind before) (only [] (cell 0)) n) f
    ∙ runs table before spare left has

enough_fuel : (before steps : ℕ) → cost_of (before + 1) ≤ steps → steps ≡ suc (four (deep before (steps - (2 * before + 5))))
enough_fuel before steps enough = let e = deep_is before (steps - (2 * before + 5)) in omega arith

enough_budget : (before steps : ℕ) → cost_of (before + 1) ≤ steps → steps ≡ paid before (steps - cost_of (before + 1))
enough_budget before steps enough = let e = paid_is before (steps - cost_of (before + 1)) in omega arith

evaluates : (table : Table) (before steps : ℕ) → HasBodies table before → cost_of (before + 1) ≤ steps
    → evaluate table (core_behind before) (only [] (cell 0)) steps ≡ gives (cell_after (suc before)) (steps - cost_of (before + 1))
unfolding evaluate
evaluates table before steps has enough =
    let spare = steps - (2 * before + 5) in let left = steps - cost_of (before + 1) in
    at_sizes table before steps steps spare left has (enough_fuel before steps enough) (enough_budget before steps enough)

costs : (steps cost : ℕ) → cost ≤ steps → steps - (steps - cost) ≡ cost
costs steps cost within = omega arith

calls : (table : Table) (before steps : ℕ) → HasBodies table (suc before) → cost_of (before + 1) ≤ steps
    → evaluation table steps (function (User before) []) (cell 0) ≡ Some (cell_after (suc before), cost_of (before + 1))
unfolding evaluation
calls table before steps has enough =
    ap (λ b. evaluating.cost_of table steps (enter table (evaluate table) before (cell 0) steps b)) (has before (omega arith))
    ∙ ap (evaluating.cost_of table steps) (evaluates table before steps (λ i lt. has i (omega arith)) enough)
    ∙ ap (λ k. Some (cell_after (suc before), k)) (costs steps (cost_of (before + 1)) enough)

-- ---- over the functions of the source

below_suc : (i n : ℕ) → i < suc n → (i < n) ⊎ (i ≡ n)
below_suc i n lt = grind arith

cores_number : (n : ℕ) → length (cores n) ≡ n
unfolding cores
cores_number zero = refl
cores_number (suc n) = length-append (cores n) (Some (core_behind n) ∷ []) ∙ ap (λ m. m + 1) (cores_number n) ∙ omega arith

-- each function has its core
core_next : (n i : ℕ) → ((i < n) → slice_get (cores n) i ≡ Some (Some (core_behind i))) → (i < n) ⊎ (i ≡ n)
    → slice_get (cores n ++ Some (core_behind n) ∷ []) i ≡ Some (Some (core_behind i))
core_next n i has (inl less) = get_front (cores n) (Some (core_behind n) ∷ []) i (Some (core_behind i)) (has less)
core_next n i has (inr e) =
    ap (slice_get (cores n ++ Some (core_behind n) ∷ [])) (e ∙ sym (cores_number n))
    ∙ get_last (cores n) (Some (core_behind n))
    ∙ ap (λ k. Some (Some (core_behind k))) (sym e)

core_at : (n i : ℕ) → i < n → slice_get (cores n) i ≡ Some (Some (core_behind i))
unfolding cores
core_at zero i lt = absurd (omega arith)
core_at (suc n) i lt = core_next n i (core_at n i) (below_suc i n lt)

has_bodies : (x : Foreign) (n : ℕ) → HasBodies (table_over x (functions n) (λ i. kept_at (cores n) i)) n
has_bodies x n i lt = ap (λ core. option_map (λ c. record { term = c; types = [] }) (joined core)) (core_at n i lt)

pub evaluation_gives : EvaluationGives
evaluation_gives x before steps enough =
    let table = table_over x (functions (before + 1)) (λ i. kept_at (cores (before + 1)) i) in
    calls table before steps (λ i lt. has_bodies x (before + 1) i (omega arith)) enough
    ∙ ap (λ n. Some (cell_after n, cost_of (before + 1))) (one_more before)

pub steps_are_enough : StepsAreEnough
steps_are_enough n few = omega arith
