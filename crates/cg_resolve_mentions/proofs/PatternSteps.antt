-- Steps over the variables of patterns.
use Rattle.std.proofs.Common.{◌≡◌, ℕ, ◌+◌, ◌<◌, Bool, true, false, ◌||◌, List, ◌++◌, map, length, get_or, take, sym, ap, ◌∙◌, refl}
use Rattle.std.proofs.lemmas.List.{map-append}
use Rattle.cg_surface.specs.declared.pattern.Pat.{Pat}
use Rattle.cg_surface.specs.declared.pattern.FPat.{FPat}
use Rattle.cg_surface.specs.declared.pattern.PatForm.{the_lemmas}
use Rattle.cg_surface.specs.Patterns.{and_pattern, pattern_of, field_of, to_patterns, to_fields, patterns_push, fields_push, patterns_none, fields_none}
use Rattle.cg_resolve_def.specs.Declared.{is_among}
use Rattle.cg_resolve_def.specs.Faults.{names_of, bound, variables, all_variables, field_variables}
use Rattle.cg_resolve_names.specs.Scopes.{SameNames}
use Rattle.cg_resolve_names.proofs.PatternSteps.{one_field}
use Rattle.cg_resolve_names.proofs.ScopeSteps.{among_append}
use Rattle.cg_surface.proofs.Views.{pattern_field_is}
use Rattle.cg_resolve_mentions.proofs.Pushed.{so_far}

-- names that come into scope in two steps
pub same_twice : (first second names mid new : List (List ℕ)) → SameNames mid (first ++ names) → SameNames new (second ++ mid) → SameNames new ((first ++ second) ++ names)
same_twice first second names mid new same more = λ n.
    more n
    ∙ among_append second mid n
    ∙ ap (λ b. is_among second n || b) (same n ∙ among_append first names n)
    ∙ swap (is_among second n) (is_among first n) (is_among names n)
    ∙ ap (λ b. b || is_among names n) (sym (among_append first second n))
    ∙ sym (among_append (first ++ second) names n)
  where
    swap : (b c d : Bool) → (b || (c || d)) ≡ ((c || b) || d)
    swap true true d = refl
    swap true false d = refl
    swap false true d = refl
    swap false false d = refl

module _ (names scope new : List (List ℕ)) where
  -- a turn of the loop over the components of a tuple, and over fields
  pub pattern_turn : (items : List Pat) (i : ℕ) (x : Pat) → i < length items → x ≡ get_or items i x → SameNames scope (names_of (all_variables (to_patterns (map pattern_of (take i items)))) ++ names)
      → SameNames new (bound (pattern_of x) ++ scope) → SameNames new (names_of (all_variables (to_patterns (map pattern_of (take (i + 1) items)))) ++ names)
  pattern_turn items i x within is same more = λ n.
      same_twice (names_of (all_variables (to_patterns (map pattern_of (take i items))))) (bound (pattern_of x)) names scope new same more n
      ∙ ap (λ l. is_among (l ++ names) n)
      (sym (ap (λ xs. names_of (all_variables xs)) (so_far to_patterns and_pattern patterns_push pattern_of items i x within is)
      ∙ map-append (λ at. at.name) (all_variables (to_patterns (map pattern_of (take i items)))) (variables (pattern_of x))))

  pub field_turn : (items : List FPat) (i : ℕ) (x : FPat) → i < length items → x ≡ get_or items i x → SameNames scope (names_of (field_variables (to_fields (map field_of (take i items)))) ++ names)
      → SameNames new (bound (pattern_of x.pat) ++ scope) → SameNames new (names_of (field_variables (to_fields (map field_of (take (i + 1) items)))) ++ names)
  field_turn items i x within is same more = λ n.
      same_twice (names_of (field_variables (to_fields (map field_of (take i items))))) (bound (pattern_of x.pat)) names scope new same more n
      ∙ ap (λ y. is_among ((names_of (field_variables (to_fields (map field_of (take i items)))) ++ bound y) ++ names) n) (sym (ap (λ f. f.pattern) (pattern_field_is x)))
      ∙ ap (λ l. is_among (l ++ names) n)
      (sym (ap (λ fs. names_of (field_variables fs)) (so_far to_fields one_field fields_push field_of items i x within is)
      ∙ map-append (λ at. at.name) (field_variables (to_fields (map field_of (take i items)))) (variables (field_of x).pattern)))

pub ruleset pattern_steps = (the_lemmas, patterns_none, fields_none)
