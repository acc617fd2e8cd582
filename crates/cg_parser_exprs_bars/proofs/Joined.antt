-- A bar that belongs to an open match, on the way to it.
use Rattle.std.proofs.Common.{◌≡◌, ℕ, zero, suc, ◌-◌, ◌<◌, ◌≤◌, List, ◌∷◌, true, false, cond, Option, refl, ap, ◌∙◌, sym, arith, true≢false}
use Rattle.std.specs.Prelude.{nat_le, IfOk, Result, Ok, Err}
use Rattle.std.proofs.lemmas.Bool.{le-leb, lt-leb, false≢true}
use Rattle.cg_surface.specs.Exprs.{Expr}
use Rattle.cg_parser_exprs_def.specs.Machine as machine
use Rattle.cg_parser_exprs_def.specs.Machine.{Branch}
use Rattle.cg_parser_build.specs.Bounded.{bounded}
use Rattle.cg_parser_exprs_def.specs.Held.{Held, Within, Types, Patterns, types, patterns}
use Rattle.cg_parser_exprs_frames.specs.Stack.{mode_of}
use Rattle.cg_parser_exprs_bars.specs.Walk.{is_match, next_at}
use Rattle.cg_parser_exprs_frames.specs.declared.frame.Mode.{Mode}

abbrev joined : ℕ → Option Expr → List Within → Held
joined = machine.joined types patterns bounded

abbrev closes : Within → ℕ
closes = machine.closes types patterns bounded

abbrev fill : Within → Option Expr → Option Expr
fill = machine.fill types patterns bounded

-- a frame that is no alternative's body is closed, where it can be
other : (j : ℕ) (e : Option Expr) (f : Within) (fs : List Within) → is_match f ≡ false → joined j e (f ∷ fs) ≡ cond (nat_le (closes f) 12) (joined j (fill f e) fs) machine.Stuck
other zero e (Branch o p con x) fs h = absurd (true≢false h)
other zero e f fs h = refl
other (suc j) e (Branch o p con x) fs h = absurd (true≢false h)
other (suc j) e f fs h = refl

pub closed : (j : ℕ) (e t : Option Expr) (f : Within) (fs : List Within) (n : ℕ) → is_match f ≡ false → n ≡ closes f → n ≤ 12 → t ≡ fill f e → joined j e (f ∷ fs) ≡ joined j t fs
closed j e t f fs n h is low filled =
    other j e f fs h ∙ ap (λ b. cond b (joined j (fill f e) fs) machine.Stuck) (le-leb (closes f) 12 (omega arith)) ∙ ap (λ u. joined j u fs) (sym filled)

pub shut : (j : ℕ) (e : Option Expr) (f : Within) (fs : List Within) (n : ℕ) → is_match f ≡ false → n ≡ closes f → 12 < n → joined j e (f ∷ fs) ≡ machine.Stuck
shut j e f fs n h is high = other j e f fs h ∙ ap (λ b. cond b (joined j (fill f e) fs) machine.Stuck) (lt-leb (closes f) 12 (omega arith))

-- the body of an alternative of a match inside is closed, and that of the match itself ends there
inner : (j : ℕ) (e : Option Expr) (f : Within) (fs : List Within) → is_match f ≡ true → joined (suc j) e (f ∷ fs) ≡ joined j (fill f e) fs
inner j e (Branch o p con x) fs h = refl
inner j e f fs h = absurd (false≢true h)

pub passed : (j : ℕ) (e t : Option Expr) (f : Within) (fs : List Within) → is_match f ≡ true → 0 < j → t ≡ fill f e → joined j e (f ∷ fs) ≡ joined (j - 1) t fs
passed j e t f fs h some filled =
    let n : j ≡ suc (j - 1) = omega arith in
    ap (λ k. joined k e (f ∷ fs)) n ∙ inner (j - 1) e f fs h ∙ ap (λ u. joined (j - 1) u fs) (sym filled)

here : (e : Option Expr) (f : Within) (fs : List Within) → is_match f ≡ true → joined 0 e (f ∷ fs) ≡ next_at f e fs
here e (Branch o p con x) fs h = refl
here e f fs h = absurd (false≢true h)

pub reached : (j : ℕ) (e : Option Expr) (f : Within) (fs : List Within) → is_match f ≡ true → j ≡ 0 → joined j e (f ∷ fs) ≡ next_at f e fs
reached j e f fs h none = ap (λ k. joined k e (f ∷ fs)) none ∙ here e f fs h

-- what is answered, of what is the same
pub arrives : {E : Type 0} (r : Result Mode E) (fs : List Within) (m n : Held) → IfOk r (λ k. (ts : Types) (ps : Patterns) → mode_of k ts ps fs ≡ n) → m ≡ n → IfOk r (λ k. (ts : Types) (ps : Patterns) → mode_of k ts ps fs ≡ m)
arrives (Ok k) fs m n h is = λ ts ps. h ts ps ∙ sym is
arrives (Err x) fs m n h is = h
