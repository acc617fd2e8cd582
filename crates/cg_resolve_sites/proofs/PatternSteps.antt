-- Patterns, one layer at a time.
use Rattle.std.proofs.Common.{◌≡◌, ℕ, suc, List, [], ◌∷◌, length, map, Some, refl, sym, ◌∙◌, arith}
use Rattle.std.proofs.lemmas.Bool.Decides.{nat_tests}
use Rattle.cg_surface.specs.declared.pattern.Pat.{the_lemmas}
use Rattle.cg_surface.specs.Patterns.{Pattern, Patterns, FieldPatterns, OneField, to_patterns, to_fields, patterns_behind, fields_behind, and_pattern, and_field}
use Rattle.cg_resolve_sites.specs.Stands.{under_patterns, under_fields, parts_under}

patterns_behind_some : (xs : List Pattern) (before : Patterns) (x : Pattern) → under_patterns (patterns_behind (and_pattern before x) xs) ≡ Some 1
patterns_behind_some [] before x = refl
patterns_behind_some (y ∷ xs) before x = patterns_behind_some xs (and_pattern before x) y

fields_behind_some : (fs : List OneField) (before : FieldPatterns) (f : OneField) → under_fields (fields_behind (and_field before f.at f.pattern) fs) ≡ Some 1
fields_behind_some [] before f = refl
fields_behind_some (g ∷ fs) before f = fields_behind_some fs (and_field before f.at f.pattern) g

pub some_parts : (n : ℕ) → parts_under (suc n) ≡ Some 1
some_parts n = grind (arith, nat_tests)

pub patterns_under : {X : Type 0} (view : X → Pattern) (xs : List X) → under_patterns (to_patterns (map view xs)) ≡ parts_under (length xs)
unfolding to_patterns
patterns_under view [] = refl
patterns_under view (x ∷ xs) = patterns_behind_some (map view xs) _ (view x) ∙ sym (some_parts (length xs))

pub fields_under : {X : Type 0} (view : X → OneField) (fs : List X) → under_fields (to_fields (map view fs)) ≡ parts_under (length fs)
unfolding to_fields
fields_under view [] = refl
fields_under view (f ∷ fs) = fields_behind_some (map view fs) _ (view f) ∙ sym (some_parts (length fs))

pub ruleset pattern_steps = (patterns_under, fields_under, the_lemmas)
