-- How places follow each other in a text that is short enough for each to be told.
use Rattle.std.proofs.Common.{◌≡◌, ◌⊎◌, inl, inr, ℕ, ◌+◌, ◌≤◌, ◌==◌, true, false, min, List, [], ◌∷◌, length, refl, sym, ◌∙◌, subst, arith, if◌then◌else◌}
use Rattle.std.proofs.Math.Nat.{min-eq_left}
use Rattle.cg_base.specs.declared.place.Place.{Place}
use Rattle.cg_base.specs.Places.{most, IsBefore, place_past, place_after}

pub before_trans : (p q r : Place) → IsBefore p q → IsBefore q r → IsBefore p r
before_trans p q r (inl a) (inl b) = inl (omega arith)
before_trans p q r (inl a) (inr b) = inl (omega (arith, b.0))
before_trans p q r (inr a) (inl b) = inl (omega (arith, a.0))
before_trans p q r (inr a) (inr b) = inr (a.0 ∙ b.0, omega (arith, a.1, b.1))

pub before_self : (p : Place) → IsBefore p p → ⊥
before_self p (inl a) = omega arith
before_self p (inr a) = omega (arith, a.1)

-- the same place, or one before
abbrev pub IsAtMost : Place → Place → Type 0
IsAtMost p q = (p ≡ q) ⊎ IsBefore p q

pub most_before : (p q r : Place) → IsAtMost p q → IsBefore q r → IsBefore p r
most_before p q r (inl e) b = subst (λ x. IsBefore x r) (sym e) b
most_before p q r (inr a) b = before_trans p q r a b

pub before_most : (p q r : Place) → IsBefore p q → IsAtMost q r → IsBefore p r
before_most p q r a (inl e) = subst (λ x. IsBefore p x) e a
before_most p q r a (inr b) = before_trans p q r a b

pub most_trans : (p q r : Place) → IsAtMost p q → IsAtMost q r → IsAtMost p r
most_trans p q r a (inl e) = subst (λ x. IsAtMost p x) e a
most_trans p q r a (inr b) = inr (most_before p q r a b)

-- so many bytes may follow
abbrev pub HasRoom : Place → ℕ → Type 0
HasRoom p n = (p.line + n ≤ most) × (p.column + n ≤ most)

-- behind a byte
past : (p : Place) (b n : ℕ) → HasRoom p (n + 1) → IsBefore p (place_past p b) × HasRoom (place_past p b) n
past p b n h =
    let line : min (p.line + 1) most ≡ p.line + 1 = min-eq_left (omega (arith, h.0)) in
    let column : min (p.column + 1) most ≡ p.column + 1 = min-eq_left (omega (arith, h.1)) in
    elim (b == 10) as (λ c. let q : Place = if c then record { line = min (p.line + 1) most; column = 1 } else record p { column = min (p.column + 1) most } in IsBefore p q × HasRoom q n) [
      | true ↦ (inl (omega (arith, line)), (omega (arith, line, h.0), omega (arith, h.0)))
      | false ↦ (inr (refl, omega (arith, column)), (omega (arith, h.0), omega (arith, column, h.1)))
    ]

-- behind some bytes
pub after : (p : Place) (bytes : List ℕ) (n : ℕ) → HasRoom p (length bytes + n) → IsAtMost p (place_after p bytes) × HasRoom (place_after p bytes) n
after p [] n h = (inl refl, (omega (arith, h.0), omega (arith, h.1)))
after p (b ∷ bytes) n h =
    let one = past p b (length bytes + n) (omega (arith, h.0), omega (arith, h.1)) in
    let more = after (place_past p b) bytes n one.1 in
    (inr (before_most p (place_past p b) (place_after p (b ∷ bytes)) one.0 more.0), more.1)

-- behind one and more
pub after_some : (p : Place) (b : ℕ) (bytes : List ℕ) (n : ℕ) → HasRoom p (length (b ∷ bytes) + n) → IsBefore p (place_after p (b ∷ bytes)) × HasRoom (place_after p (b ∷ bytes)) n
after_some p b bytes n h =
    let one = past p b (length bytes + n) (omega (arith, h.0), omega (arith, h.1)) in
    let more = after (place_past p b) bytes n one.1 in
    (before_most p (place_past p b) (place_after p (b ∷ bytes)) one.0 more.0, more.1)
