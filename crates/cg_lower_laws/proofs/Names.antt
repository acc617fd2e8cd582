-- Names of a letter and a number are apart where their numbers are.
use Rattle.std.proofs.Common.{◌≡◌, ℕ, ◌^◌, ◌<◌, true, false, bytes_eq}
use Rattle.std.proofs.lemmas.Bool.{false_from_ne_true}
use Rattle.std.proofs.lemmas.Fmt.{decimal_injective}
use Rattle.cg_cgen_def.specs.Names.{name}
use Rattle.cg_ctree.proofs.Division.{rest_same as tail_is}
use Rattle.cg_base.proofs.Sequences.{is_name as name_is}

-- names of one letter have the same number
number_is : (letter i j : ℕ) → i < 2 ^ 64 → j < 2 ^ 64 → bytes_eq (name letter i) (name letter j) ≡ true → i ≡ j
number_is letter i j hi hj e = decimal_injective i j hi hj (tail_is letter letter _ _ (name_is (name letter i) (name letter j) e))

pub apart : (letter i j : ℕ) → i < 2 ^ 64 → j < 2 ^ 64 → (i ≡ j → ⊥) → bytes_eq (name letter i) (name letter j) ≡ false
apart letter i j hi hj ne = false_from_ne_true _ (λ e. ne (number_is letter i j hi hj e))
