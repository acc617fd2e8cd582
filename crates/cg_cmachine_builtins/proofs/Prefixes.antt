-- Names behind prefixes.
use Rattle.std.proofs.Common.{◌≡◌, ◌≢◌, ℕ, Bool, true, false, List, [], ◌∷◌, ◌++◌, refl, sym, ap, ◌∙◌}
use Rattle.std.specs.Cmp.Lexicographic.{bytes_decides}
use Rattle.std.specs.Option.{option_or}
use Rattle.std.specs.Prelude.{codes, if◌then◌else◌}
use Rattle.std.specs.Str.{bytes_eq}
use Rattle.std.specs.declared.option.Option.TheVariants.{None, Some}
use Rattle.cg_cmachine_def.specs.BuiltIns.{built_in, first_named}
use Rattle.cg_cmachine_builtins.specs.Names.{Named, short_names, narrow_names, prefixed, wide_names}
use Rattle.cg_base.proofs.Counts.{eqb_same}

-- of equal beginnings nothing is asked
same_behind : (p xs ys : List ℕ) → bytes_eq (p ++ xs) (p ++ ys) ≡ bytes_eq xs ys
same_behind [] xs ys = refl
same_behind (c ∷ p) xs ys = rw (eqb_same c) (same_behind p xs ys)

first_behind : (p rest : List ℕ) (es : Named) → first_named (p ++ rest) (prefixed p es) ≡ first_named rest es
first_behind p rest [] = refl
first_behind p rest (e ∷ es) = rw (same_behind p rest e.0, first_behind p rest es) refl

pub found_behind : (p x rest : List ℕ) (es : Named) → x ≡ p ++ rest → first_named x (prefixed p es) ≡ first_named rest es
found_behind p x rest es e = rw e (first_behind p rest es)

other : (x y : List ℕ) → x ≢ y → bytes_eq x y ≡ false
other x y h = pick (bytes_eq x y) refl
  where
    pick : (b : Bool) → bytes_eq x y ≡ b → b ≡ false
    pick true e = absurd (h ((bytes_decides x y).0 e))
    pick false e = refl

pub not_behind : (p x : List ℕ) (es : Named) → ((rest : List ℕ) → x ≢ p ++ rest) → first_named x (prefixed p es) ≡ None
not_behind p x [] h = refl
not_behind p x (e ∷ es) h = rw (other x (p ++ e.0) (h e.0), not_behind p x es h) refl

-- names in two lists
pub first_append : (x : List ℕ) (es fs : Named) → first_named x (es ++ fs) ≡ option_or (first_named x es) (first_named x fs)
first_append x [] fs = refl
first_append x (e ∷ es) fs = pick (bytes_eq x e.0) (first_append x es fs)
  where
    pick : (b : Bool) → first_named x (es ++ fs) ≡ option_or (first_named x es) (first_named x fs)
        → (if b then Some e.1 else first_named x (es ++ fs)) ≡ option_or (if b then Some e.1 else first_named x es) (first_named x fs)
    pick true h = refl
    pick false h = h

-- what is none of the names
pub not_named : (x y p : List ℕ) → y ≡ x → p ≡ codes "cg_" → ((rest : List ℕ) → y ≢ p ++ rest) → built_in x ≡ None
not_named x y p e f h = not_behind (codes "cg_") x short_names (λ rest is. h rest (e ∙ is ∙ ap (λ p. p ++ rest) (sym f)))

pub not_behind_cg : (x n f p : List ℕ) → n ≡ codes "new" → f ≡ codes "free" → p ≡ codes "w" → bytes_eq x n ≡ false → bytes_eq x f ≡ false → ((rest : List ℕ) → x ≢ p ++ rest)
    → first_named x short_names ≡ None
not_behind_cg x n f p new freed w a b h =
    rw (rw new at a, rw freed at b) (not_behind (codes "w") x (narrow_names ++ wide_names) (λ rest is. h rest (is ∙ ap (λ p. p ++ rest) (sym w))))

pub ruleset prefix_steps = (found_behind, not_behind, first_append)
