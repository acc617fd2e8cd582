-- One step of a pass after another, whatever its faults are.
use Rattle.std.proofs.Common.{◌≡◌, Result, Ok, Err, refl}

-- as both passes say it
abbrev pub bind : {A B E : Type 0} → Result A E → (A → Result B E) → Result B E
bind (Ok a) f = f a
bind (Err fault) f = Err fault

-- steps that answer alike
pub same_steps : {A B E : Type 0} (x : Result A E) (f g : A → Result B E) → ((a : A) → f a ≡ g a) → bind x f ≡ bind x g
same_steps (Ok a) f g h = h a
same_steps (Err fault) f g h = refl

-- one step after two
pub again : {A B C E : Type 0} (x : Result A E) (f : A → Result B E) (g : B → Result C E) → bind (bind x f) g ≡ bind x (λ a. bind (f a) g)
again (Ok a) f g = refl
again (Err fault) f g = refl
