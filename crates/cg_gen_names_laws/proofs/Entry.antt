-- The function of the last name is the last.
use Rattle.std.proofs.Common.{◌≡◌, ℕ, zero, suc, ◌+◌, ◌^◌, ◌<◌, Bool, true, false, cond, List, length, Some, None, nat_lt, not, sym, ap, ◌∙◌, arith}
use Rattle.std.proofs.lemmas.Bool.Decides.{nat_tests}
use Rattle.std.specs.List.{position, position_or_len}
use Rattle.std.specs.Str.{bytes_eq}
use Rattle.cg_base.proofs.Sequences.{same_when}
use Rattle.cg_core.specs.Kernels.{Function}
use Rattle.cg_gen.specs.Generated.{name}
use Rattle.cg_gen_def.specs.Kernels.{function_behind, functions}
use Rattle.cg_gen_names_laws.specs.Laws.{EntryIsLast}
use Rattle.cg_gen_names_laws.proofs.Lists.{functions_are, one_function, so_many, spread}
use Rattle.cg_gen_names_laws.proofs.Names.{apart}

-- whether a function has this name
abbrev pub is_named : ℕ → Function → Bool
is_named t f = bytes_eq f.at.name (name t)

pub is_here : (i t : ℕ) → t ≡ i + 1 → is_named t (function_behind i) ≡ true
unfolding function_behind
is_here i t same = same_when (name (i + 1)) (name t) (ap name (sym same))

is_later : (i t : ℕ) → i + 1 < t → t < 10 ^ 64 → bytes_eq (name (i + 1)) (name t) ≡ false
is_later i t later small = apart (i + 1) t (omega arith) small (λ e. omega arith)

is_not_here : (i t : ℕ) → i + 1 < t → t < 10 ^ 64 → is_named t (function_behind i) ≡ false
unfolding function_behind
is_not_here i t later small = is_later i t later small

-- all before the last have other names
all_before : (i k t : ℕ) → t ≡ i + k + 1 → t < 10 ^ 64 → position_or_len (is_named t) (spread one_function i (suc k)) ≡ k
all_before i zero t same small = ap (λ b. cond (not b) 1 0) (is_here i t (omega arith))
all_before i (suc k) t same small =
    ap (λ b. cond (not b) (1 + position_or_len (is_named t) (spread one_function (suc i) (suc k))) 0) (is_not_here i t (omega arith) small)
    ∙ ap (λ j. 1 + j) (all_before (suc i) k t (omega arith) small) ∙ next k
  where
    next : (j : ℕ) → 1 + j ≡ suc j
    next j = omega arith

below : (k : ℕ) → nat_lt k (suc k) ≡ true
below k = grind (arith, nat_tests)

found : (p : Function → Bool) (fs : List Function) (k : ℕ) → position_or_len p fs ≡ k → length fs ≡ suc k → position p fs ≡ Some k
found p fs k first long =
    ap (λ j. cond (nat_lt j (length fs)) (Some j) None) first ∙ ap (λ m. cond (nat_lt k m) (Some k) None) long ∙ ap (λ b. cond b (Some k) None) (below k)

pub entry_is_last : EntryIsLast
entry_is_last before small =
    let next : before + 1 ≡ suc before = omega arith in
    let are : functions (before + 1) ≡ spread one_function 0 (suc before) = functions_are (before + 1) ∙ ap (spread one_function 0) next in
    ap (position (is_named (before + 1))) are
    ∙ found (is_named (before + 1)) (spread one_function 0 (suc before)) before (all_before 0 before (before + 1) (omega arith) small) (so_many 0 (suc before))
