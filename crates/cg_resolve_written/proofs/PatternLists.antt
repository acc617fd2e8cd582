-- Lists of patterns of the code, an item further, and how many items they have.
use Rattle.std.proofs.Common.{◌≡◌, ℕ, ◌+◌, ◌<◌, List, [], ◌∷◌, length, map, take, get_or, refl, ap, ◌∙◌, arith}
use Rattle.std.proofs.lemmas.List.{map-append, take_more, length-map}
use Rattle.cg_surface.proofs.Views.{pattern_field_is}
use Rattle.cg_surface.specs.declared.pattern.Pat.{Pat, the_lemmas}
use Rattle.cg_surface.specs.declared.pattern.FPat.{FPat}
use Rattle.cg_surface.specs.Patterns.{Pattern, Patterns, OneField, pattern_of, field_of, and_pattern, and_field, no_patterns, patterns_behind, to_patterns, to_fields, patterns_push, fields_push, patterns_none, fields_none}
use Rattle.cg_resolve_def.specs.Takes.{patterns_length}

patterns_more : (before : Patterns) (xs : List Pattern) → patterns_length (patterns_behind before xs) ≡ patterns_length before + length xs
patterns_more before [] = omega arith
patterns_more before (x ∷ xs) = patterns_more (and_pattern before x) xs ∙ omega arith

pub patterns_counted : (xs : List Pat) → patterns_length (to_patterns (map pattern_of xs)) ≡ length xs
unfolding to_patterns
patterns_counted xs = patterns_more no_patterns (map pattern_of xs) ∙ omega (arith, length-map xs pattern_of)

-- each says first that the item is itself, so that `grind` finds it where the item is read
pub patterns_at : (xs : List Pat) (i : ℕ) (d : Pat) → i < length xs → (get_or xs i d ≡ get_or xs i d)
    × (to_patterns (map pattern_of (take (i + 1) xs)) ≡ and_pattern (to_patterns (map pattern_of (take i xs))) (pattern_of (get_or xs i d)))
patterns_at xs i d lt = (
  refl,
  ap (λ l. to_patterns (map pattern_of l)) (take_more xs i d lt) ∙ ap to_patterns (map-append pattern_of (take i xs) (get_or xs i d ∷ [])) ∙ patterns_push (map pattern_of (take i xs)) (pattern_of (get_or xs i d)),
)

pub fields_at : (fs : List FPat) (i : ℕ) (d : FPat) → i < length fs → (get_or fs i d ≡ get_or fs i d)
    × (to_fields (map field_of (take (i + 1) fs)) ≡ and_field (to_fields (map field_of (take i fs))) (get_or fs i d).at (pattern_of (get_or fs i d).pat))
fields_at fs i d lt = (
  refl,
  ap (λ l. to_fields (map field_of l)) (take_more fs i d lt) ∙ ap to_fields (map-append field_of (take i fs) (get_or fs i d ∷ [])) ∙ fields_push (map field_of (take i fs)) (field_of (get_or fs i d))
      ∙ ap (λ (f : OneField). and_field (to_fields (map field_of (take i fs))) f.at f.pattern) (pattern_field_is (get_or fs i d)),
)

pub ruleset pattern_lists = (patterns_counted, patterns_at, fields_at, patterns_none, fields_none, the_lemmas)
