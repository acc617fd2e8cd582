-- Steps over the variables of patterns.
use Rattle.std.proofs.Common.{◌≡◌, ℕ, ◌+◌, ◌<◌, Bool, true, false, ◌||◌, List, [], ◌∷◌, ◌++◌, Result, map, length, get_or, take, sym, ap, ◌∙◌, subst, refl, append-nil, append_assoc}
use Rattle.std.proofs.lemmas.List.{map-append}
use Rattle.std.specs.Cmp.Lexicographic.{nat_list_eq_equiv}
use Rattle.std.specs.Str.{bytes_eq}
use Rattle.cg_base.specs.declared.place.Place.{Place}
use Rattle.cg_core.specs.declared.at.At.{At}
use Rattle.cg_surface.specs.declared.pattern.Pat.{Pat}
use Rattle.cg_surface.specs.declared.pattern.FPat.{FPat}
use Rattle.cg_surface.specs.declared.pattern.PatForm.{the_lemmas}
use Rattle.cg_surface.specs.Patterns.{Pattern, Patterns, and_pattern, FieldPatterns, OneField, and_field, pattern_of, field_of, to_patterns, to_fields, patterns_push, fields_push, patterns_none, fields_none}
use Rattle.cg_surface.specs.Patterns as patterns
use Rattle.cg_resolve_def.specs.Declared.{is_among}
use Rattle.cg_resolve_def.specs.Faults.{NameFault, twins, names_of, again, bound, variables, all_variables, field_variables}
use Rattle.cg_resolve_names.specs.Says.{Says, IsFirstFault}
use Rattle.cg_resolve_names.specs.Scopes.{SameNames}
use Rattle.cg_resolve_names.specs.declared.fault.NamingFault.{NamingFault}
use Rattle.cg_resolve_names.proofs.Loops.{turn, fault, so_far}
use Rattle.cg_resolve_names.proofs.Same.{twins_same}
use Rattle.cg_surface.proofs.Views.{pattern_field_is}
use Rattle.cg_resolve_names.proofs.SaysSteps.{says_second}
use Rattle.cg_resolve_names.proofs.ScopeSteps.{among_one}

-- names that have to be apart, in two parts
pub twins_append : (names : List (List ℕ)) (ats later : List At) → twins names (ats ++ later) ≡ twins names ats ++ twins (names ++ names_of ats) later
twins_append names [] later = ap (λ l. twins l later) (sym (append-nil names))
twins_append names (at ∷ ats) later =
    ap (λ l. again names at.place at.name ++ l)
    (twins_append (at.name ∷ names) ats later
    ∙ ap (λ l. twins (at.name ∷ names) ats ++ l) (twins_same ((at.name ∷ names) ++ names_of ats) (names ++ at.name ∷ names_of ats) (moved names at.name (names_of ats)) later))
    ∙ sym (append_assoc (again names at.place at.name) (twins (at.name ∷ names) ats) (twins (names ++ at.name ∷ names_of ats) later))
  where
    moved : (names : List (List ℕ)) (m : List ℕ) (others : List (List ℕ)) → SameNames ((m ∷ names) ++ others) (names ++ m ∷ others)
    moved [] m others = λ n. refl
    moved (x ∷ names) m others = λ n. swap (bytes_eq n m) (bytes_eq n x) (is_among (names ++ others) n) ∙ ap (λ b. bytes_eq n x || b) (moved names m others n)
      where
        swap : (b c d : Bool) → (b || (c || d)) ≡ (c || (b || d))
        swap true true d = refl
        swap true false d = refl
        swap false true d = refl
        swap false false d = refl

-- the variables of one pattern more
pub twins_pattern : (names : List (List ℕ)) (xs : Patterns) (x : Pattern) → twins names (all_variables (and_pattern xs x)) ≡ twins names (all_variables xs) ++ twins (names ++ names_of (all_variables xs)) (variables x)
twins_pattern names xs x = twins_append names (all_variables xs) (variables x)

pub twins_field : (names : List (List ℕ)) (fs : FieldPatterns) (f : OneField) → twins names (field_variables (and_field fs f.at f.pattern)) ≡ twins names (field_variables fs) ++ twins (names ++ names_of (field_variables fs)) (variables f.pattern)
twins_field names fs f = twins_append names (field_variables fs) (variables f.pattern)

abbrev pub one_field : FieldPatterns → OneField → FieldPatterns
one_field fs f = and_field fs f.at f.pattern

-- a turn of the loop over the components of a tuple, and over fields
module _ (names : List (List ℕ)) where
  abbrev patterns_of : Patterns → List NameFault
  patterns_of xs = twins names (all_variables xs)

  abbrev one_of : Patterns → Pattern → List NameFault
  one_of xs x = twins (names ++ names_of (all_variables xs)) (variables x)

  abbrev fields_of : FieldPatterns → List NameFault
  fields_of fs = twins names (field_variables fs)

  abbrev one_field_of : FieldPatterns → OneField → List NameFault
  one_field_of fs f = twins (names ++ names_of (field_variables fs)) (variables f.pattern)

  module _ (items : List Pat) (i : ℕ) (x : Pat) (within : i < length items) (is : x ≡ get_or items i x) (scope : List (List ℕ))
      (scope_is : scope ≡ names ++ names_of (all_variables (to_patterns (map pattern_of (take i items))))) (none : twins names (all_variables (to_patterns (map pattern_of (take i items)))) ≡ []) where
    pub pattern_fault : (first : NamingFault) → IsFirstFault (twins scope (variables (pattern_of x))) first → IsFirstFault (twins names (all_variables (to_patterns (map pattern_of items)))) first
    pattern_fault first h =
        fault to_patterns and_pattern patterns_push patterns_of one_of (twins_pattern names) pattern_of items i x within is none first
        (subst (λ l. IsFirstFault (twins l (variables (pattern_of x))) first) scope_is h)

    pub pattern_turn : twins scope (variables (pattern_of x)) ≡ [] → twins names (all_variables (to_patterns (map pattern_of (take (i + 1) items)))) ≡ []
    pattern_turn no_more =
        turn to_patterns and_pattern patterns_push patterns_of one_of (twins_pattern names) pattern_of items i x within is none (subst (λ l. twins l (variables (pattern_of x)) ≡ []) scope_is no_more)

    pub pattern_names : (new : List (List ℕ)) → new ≡ scope ++ bound (pattern_of x) → new ≡ names ++ names_of (all_variables (to_patterns (map pattern_of (take (i + 1) items))))
    pattern_names new new_is =
        new_is
        ∙ ap (λ l. l ++ bound (pattern_of x)) scope_is
        ∙ append_assoc names (names_of (all_variables (to_patterns (map pattern_of (take i items))))) (bound (pattern_of x))
        ∙ ap (λ l. names ++ l) (sym (map-append (λ at. at.name) (all_variables (to_patterns (map pattern_of (take i items)))) (variables (pattern_of x))))
        ∙ ap (λ xs. names ++ names_of (all_variables xs)) (sym (ap to_patterns (so_far to_patterns and_pattern patterns_push patterns_of one_of (twins_pattern names) pattern_of items i x within is) ∙ patterns_push (map pattern_of (take i items)) (pattern_of x)))

  module _ (items : List FPat) (i : ℕ) (x : FPat) (within : i < length items) (is : x ≡ get_or items i x) (scope : List (List ℕ))
      (scope_is : scope ≡ names ++ names_of (field_variables (to_fields (map field_of (take i items))))) (none : twins names (field_variables (to_fields (map field_of (take i items)))) ≡ []) where
    value : (field_of x).pattern ≡ pattern_of x.pat
    value = ap (λ f. f.pattern) (pattern_field_is x)

    pub field_fault : (first : NamingFault) → IsFirstFault (twins scope (variables (pattern_of x.pat))) first → IsFirstFault (twins names (field_variables (to_fields (map field_of items)))) first
    field_fault first h =
        fault to_fields one_field fields_push fields_of one_field_of (twins_field names) field_of items i x within is none first
        (subst (λ l. IsFirstFault (twins l (variables (field_of x).pattern)) first) scope_is (subst (λ y. IsFirstFault (twins scope (variables y)) first) (sym value) h))

    pub field_turn : twins scope (variables (pattern_of x.pat)) ≡ [] → twins names (field_variables (to_fields (map field_of (take (i + 1) items)))) ≡ []
    field_turn no_more =
        turn to_fields one_field fields_push fields_of one_field_of (twins_field names) field_of items i x within is none (subst (λ l. twins l (variables (field_of x).pattern) ≡ []) scope_is (ap (λ y. twins scope (variables y)) value ∙ no_more))

    pub fields_names : (new : List (List ℕ)) → new ≡ scope ++ bound (pattern_of x.pat) → new ≡ names ++ names_of (field_variables (to_fields (map field_of (take (i + 1) items))))
    fields_names new new_is =
        new_is
        ∙ ap (λ y. scope ++ bound y) (sym value)
        ∙ ap (λ l. l ++ bound (field_of x).pattern) scope_is
        ∙ append_assoc names (names_of (field_variables (to_fields (map field_of (take i items))))) (bound (field_of x).pattern)
        ∙ ap (λ l. names ++ l) (sym (map-append (λ at. at.name) (field_variables (to_fields (map field_of (take i items)))) (variables (field_of x).pattern)))
        ∙ ap (λ fs. names ++ names_of (field_variables fs)) (sym (ap to_fields (so_far to_fields one_field fields_push fields_of one_field_of (twins_field names) field_of items i x within is) ∙ fields_push (map field_of (take i items)) (field_of x)))

-- the fields of a pattern, behind its name
pub twins_take : (names scope : List (List ℕ)) (p : Place) (n : List ℕ) (fs : FieldPatterns) (result : Result Unit NamingFault) → again names p n ≡ [] → scope ≡ names ++ n ∷ []
    → Says (twins scope (field_variables fs)) result → Says (twins names (variables (patterns.take p n fs))) result
twins_take names scope p n fs result none is says =
    says_second (again names p n) (twins (n ∷ names) (field_variables fs)) result none
    (subst (λ l. Says l result) (ap (λ l. twins l (field_variables fs)) is ∙ twins_same (names ++ n ∷ []) (n ∷ names) (λ m. among_one names n m ∙ ap (λ b. b || is_among names m) (nat_list_eq_equiv.symm n m)) (field_variables fs)) says)

pub ruleset pattern_steps = (the_lemmas, patterns_none, fields_none)
