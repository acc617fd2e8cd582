-- Lists of the code with one item more.
use Rattle.std.proofs.Common.{◌≡◌, List, [], ◌∷◌, ◌++◌, map, ◌∙◌, ap}
use Rattle.std.proofs.lemmas.List.{map-append}
use Rattle.cg_surface.specs.declared.pattern.Pat.{Pat}
use Rattle.cg_surface.specs.declared.pattern.FPat.{FPat}
use Rattle.cg_surface.specs.Patterns.{OneField, pattern_of, field_of, and_pattern, to_patterns, patterns_push, patterns_none, and_field, to_fields, fields_push, fields_none}
use Rattle.cg_surface.proofs.Views.{pattern_field_is as field_is}

pub pattern_pushed : (xs : List Pat) (x : Pat) → to_patterns (map pattern_of (xs ++ x ∷ [])) ≡ and_pattern (to_patterns (map pattern_of xs)) (pattern_of x)
pattern_pushed xs x = ap to_patterns (map-append pattern_of xs (x ∷ [])) ∙ patterns_push (map pattern_of xs) (pattern_of x)

pub field_pushed : (fs : List FPat) (f : FPat) → to_fields (map field_of (fs ++ f ∷ [])) ≡ and_field (to_fields (map field_of fs)) f.at (pattern_of f.pat)
field_pushed fs f =
    ap to_fields (map-append field_of fs (f ∷ []))
    ∙ fields_push (map field_of fs) (field_of f)
    ∙ ap (λ (o : OneField). and_field (to_fields (map field_of fs)) o.at o.pattern) (field_is f)

-- what grind needs of lists
pub ruleset list_steps = (pattern_pushed, field_pushed, patterns_none, fields_none)
