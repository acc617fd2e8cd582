-- The marks of a split, told by what its parts touch, and derivations that are made of those of their parts.
use Rattle.std.specs.Prelude.{ℕ, zero, suc, Bool, true, false, ◌&&◌, not, cond, Option, Some, None, List, [], ◌∷◌, length, map, slice_set}
use Rattle.cg_base.specs.declared.place.Place.{Place}
use Rattle.cg_core.specs.declared.derivation.Mark.{Mark}
use Rattle.cg_core.specs.declared.derivation.Mark.TheVariants.{Gone, Left, Right, Both, Seen as SeenMark}
use Rattle.cg_core.specs.declared.derivation.Node.{Node}
use Rattle.cg_core.specs.Derivations as trees
use Rattle.cg_core.specs.Derivations.{Derivation, Derivations, derivation}
use Rattle.cg_check_uses.specs.declared.entry.Use.{Use}
use Rattle.cg_check_uses.specs.Uses.{pairs, triples, is_seen}

-- the mark of a variable that the first side touches or not, and the second: where neither does it counts as gone
abbrev pub mark_of : Bool → Bool → Mark
mark_of true true = Both
mark_of true false = Left
mark_of false true = Right
mark_of false false = Gone

abbrev pub marks_of_uses : List Use → List Use → List Mark
marks_of_uses us vs = pairs (λ u v. mark_of u.touched v.touched) us vs

-- of a `let!`, whose observers are seen
abbrev pub mark_seen : Option Place → Use → Use → Mark
mark_seen None u v = mark_of u.touched v.touched
mark_seen (Some place) u v = SeenMark

abbrev pub marks_seen : List (Option Place) → List Use → List Use → List Mark
marks_seen seen us vs = triples mark_seen seen us vs

-- what is present in a part that doesn't touch it goes along to the second side of each split
abbrev pub keep_all : List ℕ → List Mark → List Mark
keep_all [] ms = ms
keep_all (i ∷ kept) ms = keep_all kept (slice_set ms i Right)

abbrev mutual
  pub settle : List ℕ → Derivation → Derivation
  settle kept (derivation node strings parts) = derivation node (map (keep_all kept) strings) (settle_behind kept (length strings) parts)

  -- in all parts but the first n, which are first sides
  pub settle_behind : List ℕ → ℕ → Derivations → Derivations
  settle_behind kept n trees.done = trees.done
  settle_behind kept zero (trees.part d ds) = trees.part (settle kept d) (settle_behind kept zero ds)
  settle_behind kept (suc n) (trees.part d ds) = trees.part d (settle_behind kept n ds)

abbrev pub settled : List ℕ → Derivation → Derivation
settled [] d = d
settled (i ∷ kept) d = settle (i ∷ kept) d

-- the positions of flags that are raised, from a number on
abbrev pub raised : ℕ → List Bool → List ℕ
raised n [] = []
raised n (b ∷ bs) = cond b (n ∷ raised (suc n) bs) (raised (suc n) bs)

-- those that one branch doesn't touch, and the other does
abbrev pub kept_beside : List Use → List Use → List ℕ
kept_beside us vs = raised 0 (pairs (λ u v. not u.touched && v.touched) us vs)

-- those that are observed and not touched
abbrev pub kept_seen : List (Option Place) → List Use → List ℕ
kept_seen seen us = raised 0 (pairs (λ s u. is_seen s && not u.touched) seen us)

-- a new variable at a position that isn't touched
abbrev pub kept_new : ℕ → Use → List ℕ
kept_new n u = cond u.touched [] (n ∷ [])

abbrev pub one_part : Node → Derivation → Derivation
one_part node a = derivation node [] (trees.part a trees.done)

abbrev pub two_parts : Node → List Mark → Derivation → Derivation → Derivation
two_parts node marks a b = derivation node (marks ∷ []) (trees.part a (trees.part b trees.done))

abbrev pub three_parts : Node → List Mark → Derivation → Derivation → Derivation → Derivation
three_parts node marks a b c = derivation node (marks ∷ []) (trees.part a (trees.part b (trees.part c trees.done)))
