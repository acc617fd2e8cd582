-- What operators give is in range of its type.
use Rattle.std.proofs.Common.{◌≡◌, ℕ, zero, ◌+◌, ◌-◌, ◌*◌, ◌/◌, ◌%◌, ◌^◌, ◌<◌, ◌≤◌, Bool, true, false, not, IsTrue, refl, arith, nat_eq, nat_lt, nat_le, lt-ltb, ltb-true, List}
use Rattle.std.proofs.lemmas.Bool.{eqb-false}
use Rattle.std.proofs.lemmas.Nat.{mod_below, or_lt, xor_lt, pow_pos}
use Rattle.std.proofs.Math.Nat.{div-le_self}
use Rattle.std.specs.Int.Bits.{and_lt}
use Rattle.std.specs.Prelude.{if◌then◌else◌}
use Rattle.cg_base.specs.Types.{Tau, word, bool}
use Rattle.cg_base.specs.Words.{bits}
use Rattle.cg_core.specs.declared.op.Op.{Op}
use Rattle.cg_core.specs.declared.op.Op.TheVariants.{Add, Sub, Mul, Div, Rem, And, Or, Xor, Shl, Shr, Complement, Eq, Ne, Lt, Gt, Le, Ge, Both, Either, Not}
use Rattle.cg_eval_operations.specs.Operators.{truth, complement, on_one, on_two, operated, operated_both}
use Rattle.cg_kinds.specs.Kinds.{subst}
use Rattle.cg_typing.specs.Operators.{Sort, arithmetic, equality, order, logic, sort_of, takes, gives}
use Rattle.cg_value.specs.Fits.{World, fits}
use Rattle.cg_value.specs.Values.{Val, number}
use Rattle.cg_inst.proofs.Names.{by_cases}
use Rattle.cg_base.proofs.Counts.{no_steps as never}

-- ---- numbers

modulo : (n a : ℕ) → a % 2 ^ n < 2 ^ n
modulo n a = mod_below a (2 ^ n) (pow_pos n)

below : (n a b : ℕ) → a < 2 ^ n → b ≤ a → b < 2 ^ n
below n a b h k = omega arith

quotient : (n a b : ℕ) → a < 2 ^ n → a / b < 2 ^ n
quotient n a b h = below n a (a / b) h (div-le_self a b)

chosen_below : (m : ℕ) (b : Bool) (x y : ℕ) → (b ≡ true → x < m) → (b ≡ false → y < m) → (if b then x else y) < m
chosen_below m b x y f g = by_cases (λ b. (if b then x else y) < m) b f g

remainder : (n a b : ℕ) → b < 2 ^ n → (b ≡ 0 → ⊥) → a % b < 2 ^ n
remainder n a b h k = let p : a % b < b = mod_below a b (omega arith) in omega arith

truth_below : (b : Bool) → truth b < 2
truth_below true = omega arith
truth_below false = omega arith

complement_below : (n a : ℕ) → complement n a < 2 ^ n
complement_below n a = let p = pow_pos n in omega arith

-- ---- words

one_word : (o : Op) (n a : ℕ) → sort_of o ≡ arithmetic → on_one o n a < 2 ^ n
one_word Complement n a h = complement_below n a
one_word Not n a h = absurd (cc)
one_word _ n a h = pow_pos n

two_words : (o : Op) (n a b : ℕ) → sort_of o ≡ arithmetic → a < 2 ^ n → b < 2 ^ n → on_two o n a b < 2 ^ n
two_words Add n a b h x y = modulo n (a + b)
two_words Sub n a b h x y = modulo n (a + (2 ^ n - b))
two_words Mul n a b h x y = modulo n (a * b)
two_words Div n a b h x y = chosen_below (2 ^ n) (nat_eq b zero) zero (a / b) (λ e. pow_pos n) (λ e. quotient n a b x)
two_words Rem n a b h x y = chosen_below (2 ^ n) (nat_eq b zero) zero (a % b) (λ e. pow_pos n) (λ e. remainder n a b y (eqb-false b zero e))
two_words And n a b h x y = and_lt n a b x y
two_words Or n a b h x y = or_lt n a b x y
two_words Xor n a b h x y = xor_lt n a b x y
two_words Shl n a b h x y = chosen_below (2 ^ n) (nat_lt b n) ((a * 2 ^ b) % 2 ^ n) zero (λ e. modulo n (a * 2 ^ b)) (λ e. pow_pos n)
two_words Shr n a b h x y = chosen_below (2 ^ n) (nat_lt b n) (a / 2 ^ b) zero (λ e. quotient n a (2 ^ b) x) (λ e. pow_pos n)
two_words Complement n a b h x y = pow_pos n
two_words _ n a b h x y = absurd (cc)

-- ---- truth values

one_truth : (o : Op) (n a : ℕ) → (sort_of o ≡ arithmetic → ⊥) → on_one o n a < 2
one_truth Complement n a h = absurd (h refl)
one_truth Not n a h = omega arith
one_truth _ n a h = omega arith

two_truths : (o : Op) (n a b : ℕ) → (sort_of o ≡ arithmetic → ⊥) → (sort_of o ≡ logic → (a < 2) × (b < 2)) → on_two o n a b < 2
two_truths Eq n a b h k = truth_below (nat_eq a b)
two_truths Ne n a b h k = truth_below (not (nat_eq a b))
two_truths Lt n a b h k = truth_below (nat_lt a b)
two_truths Gt n a b h k = truth_below (nat_lt b a)
two_truths Le n a b h k = truth_below (nat_le a b)
two_truths Ge n a b h k = truth_below (nat_le b a)
two_truths Both n a b h k = and_lt 1 a b (k refl).0 (k refl).1
two_truths Either n a b h k = or_lt 1 a b (k refl).0 (k refl).1
two_truths Not n a b h k = omega arith
two_truths _ n a b h k = absurd (h refl)

-- ---- operators

module _ (world : World) (given : List Tau) where
  abbrev F : Tau → Val → Type 0
  F t v = IsTrue (fits world (subst given t) v)

  sorted_one : (o : Op) (s : Sort) → sort_of o ≡ s → (t : Tau) (v : Val) → IsTrue (takes s t) → F t v → F (gives s t) (operated o t v)
  unfolding fits subst operated
  sorted_one o arithmetic e (word w) (number a) k f = lt-ltb _ _ (one_word o (bits w) a e)
  sorted_one o equality e (word w) (number a) k f = lt-ltb _ _ (one_truth o (bits w) a (λ d. cc))
  sorted_one o equality e bool (number a) k f = lt-ltb _ _ (one_truth o 1 a (λ d. cc))
  sorted_one o order e (word w) (number a) k f = lt-ltb _ _ (one_truth o (bits w) a (λ d. cc))
  sorted_one o logic e bool (number a) k f = lt-ltb _ _ (one_truth o 1 a (λ d. cc))
  sorted_one o arithmetic e (word w) _ k f = never f
  sorted_one o equality e (word w) _ k f = never f
  sorted_one o equality e bool _ k f = never f
  sorted_one o order e (word w) _ k f = never f
  sorted_one o logic e bool _ k f = never f
  sorted_one o arithmetic e _ v k f = never k
  sorted_one o equality e _ v k f = never k
  sorted_one o order e _ v k f = never k
  sorted_one o logic e _ v k f = never k

  sorted_two : (o : Op) (s : Sort) → sort_of o ≡ s → (t : Tau) (v w : Val) → IsTrue (takes s t) → F t v → F t w → F (gives s t) (operated_both o t v w)
  unfolding fits subst operated_both
  sorted_two o arithmetic e (word w) (number a) (number b) k f g = lt-ltb _ _ (two_words o (bits w) a b e (ltb-true a _ f) (ltb-true b _ g))
  sorted_two o equality e (word w) (number a) (number b) k f g = lt-ltb _ _ (two_truths o (bits w) a b (λ d. cc) (λ d. absurd (cc)))
  sorted_two o equality e bool (number a) (number b) k f g = lt-ltb _ _ (two_truths o 1 a b (λ d. cc) (λ d. absurd (cc)))
  sorted_two o order e (word w) (number a) (number b) k f g = lt-ltb _ _ (two_truths o (bits w) a b (λ d. cc) (λ d. absurd (cc)))
  sorted_two o logic e bool (number a) (number b) k f g = lt-ltb _ _ (two_truths o 1 a b (λ d. cc) (λ d. (ltb-true a 2 f, ltb-true b 2 g)))
  sorted_two o arithmetic e (word w) (number a) _ k f g = never g
  sorted_two o arithmetic e (word w) _ v k f g = never f
  sorted_two o equality e (word w) (number a) _ k f g = never g
  sorted_two o equality e (word w) _ v k f g = never f
  sorted_two o equality e bool (number a) _ k f g = never g
  sorted_two o equality e bool _ v k f g = never f
  sorted_two o order e (word w) (number a) _ k f g = never g
  sorted_two o order e (word w) _ v k f g = never f
  sorted_two o logic e bool (number a) _ k f g = never g
  sorted_two o logic e bool _ v k f g = never f
  sorted_two o arithmetic e _ v w k f g = never k
  sorted_two o equality e _ v w k f g = never k
  sorted_two o order e _ v w k f g = never k
  sorted_two o logic e _ v w k f g = never k

  pub operated_fits : (o : Op) (t : Tau) (v : Val) → IsTrue (takes (sort_of o) t) → F t v → F (gives (sort_of o) t) (operated o t v)
  operated_fits o t v k f = sorted_one o (sort_of o) refl t v k f

  pub operated_both_fit : (o : Op) (t : Tau) (v w : Val) → IsTrue (takes (sort_of o) t) → F t v → F t w → F (gives (sort_of o) t) (operated_both o t v w)
  operated_both_fit o t v w k f g = sorted_two o (sort_of o) refl t v w k f g
