-- Where instances stand.
use Rattle.std.proofs.Common.{◌≡◌, ℕ, zero, suc, ◌+◌, ◌<◌, ◌≤◌, Bool, true, false, List, [], ◌∷◌, Option, Some, None, drop, get_or, length, map, refl, sym, ap, ◌∙◌, arith, unwrap_or, if◌then◌else◌}
use Rattle.std.specs.Option.{option_map}
use Rattle.cg_inst.proofs.SameInstance.{instance_is, instance_same}
use Rattle.cg_inst.specs.declared.instance.Instance.{Instance as Held}
use Rattle.cg_inst.specs.Lists.{same_instance}
use Rattle.cg_inst.specs.Views.{instance_of}
use Rattle.cg_typing.specs.Instances.{Instance}
use Rattle.cg_update.specs.Updates.{place_of}

-- a place that is counted from another on; 0, where there is none
abbrev pub found_from : ℕ → Option ℕ → ℕ
found_from i None = 0
found_from i (Some j) = i + j

pub found_zero : (o : Option ℕ) → unwrap_or o 0 ≡ found_from 0 o
found_zero None = refl
found_zero (Some j) = omega arith

pub found_more : (i : ℕ) (o : Option ℕ) → found_from i (option_map suc o) ≡ found_from (i + 1) o
found_more i None = refl
found_more i (Some j) = omega arith

other_instance : (x y : Instance) → (y ≡ x → ⊥) → same_instance x y ≡ false
other_instance x y h = go (same_instance x y) refl
  where
    go : (b : Bool) → same_instance x y ≡ b → same_instance x y ≡ false
    go true e = absurd (h (sym (instance_is x y e)))
    go false e = e

pub place_past : (x : Instance) (ys : List Held) (i : ℕ) → length ys ≤ i → place_of x (map instance_of (drop i ys)) ≡ None
unfolding place_of
place_past x [] zero h = refl
place_past x [] (suc i) h = refl
place_past x (y ∷ ys) zero h = absurd (omega arith)
place_past x (y ∷ ys) (suc i) h = place_past x ys i (omega arith)

-- the next instance is this one, or it isn't
pub place_there : (x : Instance) (ys : List Held) (i : ℕ) (y : Held) → i < length ys → y ≡ get_or ys i y → instance_of y ≡ x → place_of x (map instance_of (drop i ys)) ≡ Some zero
unfolding place_of
place_there x [] i y h e s = absurd (omega arith)
place_there x (z ∷ ys) zero y h e s =
    ap (λ b. if b then Some zero else option_map suc (place_of x (map instance_of ys)))
    (ap (same_instance x) (ap instance_of (sym e) ∙ s) ∙ instance_same x)
place_there x (z ∷ ys) (suc i) y h e s = place_there x ys i y (omega arith) e s

pub place_later : (x : Instance) (ys : List Held) (i : ℕ) (y : Held) → i < length ys → y ≡ get_or ys i y → (instance_of y ≡ x → ⊥)
    → place_of x (map instance_of (drop i ys)) ≡ option_map suc (place_of x (map instance_of (drop (i + 1) ys)))
unfolding place_of
place_later x [] i y h e s = absurd (omega arith)
place_later x (z ∷ ys) zero y h e s =
    ap (λ b. if b then Some zero else option_map suc (place_of x (map instance_of ys))) (other_instance x (instance_of z) (λ w. s (ap instance_of e ∙ w)))
place_later x (z ∷ ys) (suc i) y h e s =
    place_later x ys i y (omega arith) e s ∙ ap (λ j. option_map suc (place_of x (map instance_of (drop j (z ∷ ys))))) (next i)
  where
    next : (i : ℕ) → suc (i + 1) ≡ suc i + 1
    next i = omega arith

pub ruleset instance_steps = (found_zero, found_more, place_past, place_there, place_later)
