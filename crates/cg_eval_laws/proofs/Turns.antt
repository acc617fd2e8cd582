-- Turns of an iterator: what is kept by each turn is kept by all.
use Rattle.std.proofs.Common.{◌≡◌, ℕ, zero, suc, ◌+◌, ◌<◌, true, IsTrue, Option, Some, None, List, [], ◌∷◌, nat_eq, nat_lt, ltb-true}
use Rattle.std.specs.Prelude.{if◌then◌else◌}
use Rattle.cg_base.specs.declared.fun.Lib.{Lib}
use Rattle.cg_base.specs.Types.{Tau}
use Rattle.cg_eval_def.specs.Evaluation.{Outcome, gives, turns}
use Rattle.cg_eval_operations.specs.Iterators.{asked, changed, carried, counted, ended, indices_from, stops}
use Rattle.cg_value.specs.Fits.{World, fits}
use Rattle.cg_value.specs.Values.{Val}
use Rattle.cg_eval_laws.specs.Laws.{IsSound}
use Rattle.cg_inst.proofs.Names.{by_cases, either_way}
use Rattle.cg_eval_laws.proofs.Outcomes.{bind_sound, pay_sound}

-- each of some numbers
abbrev pub Each : (ℕ → Type 0) → List ℕ → Type 0
Each P [] = Unit {0}
Each P (i ∷ is) = P i × Each P is

pub each_so : (P Q : ℕ → Type 0) → ((i : ℕ) → P i → Q i) → (is : List ℕ) → Each P is → Each Q is
each_so P Q f [] h = tt
each_so P Q f (i ∷ is) h = (f i h.0, each_so P Q f is h.1)

-- the indices of turns are below their end
counted_below : (n i to step : ℕ) → Each (λ i. i < to) (counted n i to step)
unfolding counted
counted_below zero i to step = tt
counted_below (suc n) i to step =
    by_cases (λ b. Each (λ i. i < to) (if b then i ∷ counted n (i + step) to step else [])) (nat_lt i to)
    (λ e. (ltb-true i to e, counted_below n (i + step) to step)) (λ e. tt {0})

pub indices_below : (i to step : ℕ) → Each (λ i. i < to) (indices_from i to step)
unfolding indices_from
indices_below i to step = either_way (λ b. Each (λ i. i < to) (if b then [] else counted to i to step)) (nat_eq step zero) (tt {0}) (counted_below to i to step)

module _ (world : World) where
  abbrev F : Tau → Val → Type 0
  F t v = IsTrue (fits world t v)

  -- the array over which turns go is of this type, where they go over one
  abbrev pub Over : Option Tau → Val → Type 0
  Over None a = Unit {0}
  Over (Some t) a = F t a

  -- What each turn keeps, at an index below a limit, where `seen` is observed: the array and what is handed on are of their types. What a turn
  -- asks of its function is of the type that this takes. Where the function gives what is of its result's type, so are the next array and what
  -- is handed on, and what the iterator gives.
  pub record TurnsKeep (lib : Lib) (seen : Val) (limit : ℕ) (over : Option Tau) (takes result carry whole : Tau) : Type 0 where
    pub on_ask : (i : ℕ) (a s : Val) → i < limit → Over over a → F carry s → F takes (asked lib seen i a s)
    pub on_more : (i : ℕ) (a v : Val) → Over over a → F result v → Over over (changed lib i a v)
    pub on_carry : (v : Val) → F result v → F carry (carried lib v)
    pub on_stop : (v : Val) → F result v → stops lib v ≡ true → F whole v
    pub on_end : (a s : Val) → Over over a → F carry s → F whole (ended lib a s)

  pub turns_sound : (turn : ℕ → Val → Val → ℕ → Outcome) (lib : Lib) (seen : Val) (limit : ℕ) (over : Option Tau) (takes result carry whole : Tau)
      → TurnsKeep lib seen limit over takes result carry whole → ((i : ℕ) (a s : Val) (left : ℕ) → F takes (asked lib seen i a s) → IsSound world result (turn i a s left))
      → (is : List ℕ) → Each (λ i. i < limit) is → (a s : Val) (left : ℕ) → Over over a → F carry s → IsSound world whole (turns turn lib is a s left)
  unfolding turns
  turns_sound turn lib seen limit over takes result carry whole t sound [] e a s left o f = t.on_end a s o f
  turns_sound turn lib seen limit over takes result carry whole t sound (i ∷ is) e a s left o f =
      pay_sound world whole left _ (λ paid. bind_sound world result whole (turn i a s paid) _ (sound i a s paid (t.on_ask i a s e.0 o f))
      (λ v rest g. by_cases (λ b. IsSound world whole (if b then gives v rest else turns turn lib is (changed lib i a v) (carried lib v) rest)) (stops lib v)
      (λ q. t.on_stop v g q)
      (λ q. turns_sound turn lib seen limit over takes result carry whole t sound is e.1 (changed lib i a v) (carried lib v) rest (t.on_more i a v o g) (t.on_carry v g))))
