-- The signs between the members of a path.
use Rattle.std.specs.Prelude.{ℕ, Bool, true, false, List, [], ◌∷◌, codes}

-- the sign before the next member, behind these ("The C text", `path`)
abbrev pub sign_before : Bool → List (List ℕ) → List ℕ
sign_before true [] = codes "->"
sign_before false [] = codes "."
sign_before arrow (x ∷ xs) = codes "."
