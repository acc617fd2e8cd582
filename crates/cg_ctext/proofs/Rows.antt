-- Things in a row, with commas between, and members with signs before them.
use Rattle.std.proofs.Common.{◌≡◌, ℕ, Bool, true, false, List, [], ◌∷◌, ◌++◌, codes, refl, sym, ap, ◌∙◌, append_assoc, append-nil}
use Rattle.cg_ctext.specs.Printed.{more_text, some_text, dots_text, members_text}
use Rattle.cg_ctext.specs.Signs.{sign_before}

-- what stands before the next thing
unfoldable pub comma : {A : Type 0} → List A → List ℕ
comma [] = []
comma (x ∷ xs) = codes ", "

pub comma_none : (A : Type 0) → comma {A = A} [] ≡ []
unfolding comma
comma_none A = refl

pub comma_some : {A : Type 0} (xs : List A) (x : A) → comma (xs ++ x ∷ []) ≡ codes ", "
unfolding comma
comma_some [] x = refl
comma_some (y ∷ xs) x = refl

more_next : {A : Type 0} (text : A → List ℕ) (xs : List A) (x : A) → more_text text (xs ++ x ∷ []) ≡ more_text text xs ++ (codes ", " ++ text x)
more_next text [] x = append-nil (codes ", " ++ text x)
more_next text (y ∷ xs) x = ap (λ z. (codes ", " ++ text y) ++ z) (more_next text xs x) ∙ sym (append_assoc (codes ", " ++ text y) (more_text text xs) (codes ", " ++ text x))

-- one thing more
pub some_next : {A : Type 0} (text : A → List ℕ) (xs : List A) (x : A) → some_text text (xs ++ x ∷ []) ≡ some_text text xs ++ (comma xs ++ text x)
unfolding comma
some_next text [] x = append-nil (text x)
some_next text (y ∷ xs) x = ap (λ z. text y ++ z) (more_next text xs x) ∙ sym (append_assoc (text y) (more_text text xs) (codes ", " ++ text x))

-- ---- members

pub sign_some : (arrow : Bool) (xs : List (List ℕ)) (x : List ℕ) → sign_before arrow (xs ++ x ∷ []) ≡ codes "."
sign_some true [] x = refl
sign_some false [] x = refl
sign_some true (y ∷ xs) x = refl
sign_some false (y ∷ xs) x = refl

dots_next : (xs : List (List ℕ)) (x : List ℕ) → dots_text (xs ++ x ∷ []) ≡ dots_text xs ++ (codes "." ++ x)
dots_next [] x = append-nil (codes "." ++ x)
dots_next (y ∷ xs) x = ap (λ z. (codes "." ++ y) ++ z) (dots_next xs x) ∙ sym (append_assoc (codes "." ++ y) (dots_text xs) (codes "." ++ x))

-- one member more
pub members_next : (arrow : Bool) (xs : List (List ℕ)) (x : List ℕ) → members_text arrow (xs ++ x ∷ []) ≡ members_text arrow xs ++ (sign_before arrow xs ++ x)
members_next false [] x = append-nil (codes "." ++ x)
members_next false (y ∷ xs) x = dots_next (y ∷ xs) x
members_next true [] x = append-nil (codes "->" ++ x)
members_next true (y ∷ xs) x = ap (λ z. (codes "->" ++ y) ++ z) (dots_next xs x) ∙ sym (append_assoc (codes "->" ++ y) (dots_text xs) (codes "." ++ x))

pub ruleset row_steps = (comma_none, comma_some, some_next, sign_some, members_next)
