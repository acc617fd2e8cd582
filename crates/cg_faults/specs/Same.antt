-- Whether two types are the same, as a test.
use Rattle.std.specs.Prelude.{ℕ, Bool, true, false, ◌&&◌, not, List, [], ◌∷◌, nat_eq}
use Rattle.cg_base.specs.declared.kind.Sigil.{Sigil}
use Rattle.cg_base.specs.declared.kind.Sigil.TheVariants.{R, W, U}
use Rattle.cg_base.specs.Words.{same_word}
use Rattle.cg_base.specs.Types.{Tau, var, seen, unit, word, bool, arrow, abs, variant, fields, Taus, none, more, Parts, end, part}

abbrev pub same_name : List ℕ → List ℕ → Bool
same_name [] [] = true
same_name (x ∷ xs) (y ∷ ys) = nat_eq x y && same_name xs ys
same_name _ _ = false

abbrev pub same_sigil : Sigil → Sigil → Bool
same_sigil R R = true
same_sigil W W = true
same_sigil U U = true
same_sigil _ _ = false

abbrev pub same_bool : Bool → Bool → Bool
same_bool true b = b
same_bool false b = not b

unfoldable mutual
  pub same : Tau → Tau → Bool
  same (var n) (var m) = nat_eq n m
  same (seen n) (seen m) = nat_eq n m
  same unit unit = true
  same (word v) (word w) = same_word v w
  same bool bool = true
  same (arrow a b) (arrow c d) = same a c && same b d
  same (abs name args sigil) (abs name' args' sigil') = same_name name name' && (same_all args args' && same_sigil sigil sigil')
  same (variant alts) (variant alts') = same_parts alts alts'
  same (fields ps sigil) (fields ps' sigil') = same_parts ps ps' && same_sigil sigil sigil'
  same _ _ = false

  pub same_all : Taus → Taus → Bool
  same_all none none = true
  same_all (more t ts) (more u us) = same t u && same_all ts us
  same_all _ _ = false

  pub same_parts : Parts → Parts → Bool
  same_parts end end = true
  same_parts (part name t taken ps) (part name' t' taken' ps') =
      same_name name name' && (same t t' && (same_bool taken taken' && same_parts ps ps'))
  same_parts _ _ = false
