-- Tests that are partly known.
use Rattle.std.proofs.Common.{◌≡◌, Bool, cond, true, false, refl, ◌&&◌}

pub same_if : {X : Type 0} (b : Bool) (x : X) → cond b x x ≡ x
same_if true x = refl
same_if false x = refl

pub never : {X : Type 0} (b : Bool) (x y : X) → cond (b && false) x y ≡ y
never true x y = refl
never false x y = refl
