-- Patterns as plain trees, with no memory in them, and what a pattern of the code stands for.
use Rattle.std.specs.Prelude.{◌≡◌, ℕ, ◌+◌, max, List, [], ◌∷◌, ◌++◌, refl}
use Rattle.cg_base.specs.declared.place.Place.{Place}
use Rattle.cg_core.specs.declared.at.At.{At}
use Rattle.cg_surface.specs.declared.pattern.Pat.{Pat}
use Rattle.cg_surface.specs.declared.pattern.FPat.{FPat}
use Rattle.cg_surface.specs.declared.pattern.PatForm.TheOpen as open'
use Rattle.cg_surface.specs.declared.pattern.PatForm.TheOpen.{PatForm-F, FPat-F, Pat-F}
use Rattle.cg_surface.specs.declared.pattern.PatForm.TheFolds.{fold-Pat, fold-FPat}

mutual
  -- a pattern, with the place of its first token; lists have their last item outermost
  pub data Pattern : Type 0 where
    name : Place → List ℕ → Pattern
    any : Place → Pattern
    unit : Place → Pattern
    paren : Place → Pattern → Pattern
    tuple : Place → Patterns → Pattern
    fields : Place → FieldPatterns → Pattern
    take : Place → List ℕ → FieldPatterns → Pattern

  pub data Patterns : Type 0 where
    no_patterns : Patterns
    and_pattern : Patterns → Pattern → Patterns

  -- fields, each with its pattern
  pub data FieldPatterns : Type 0 where
    no_fields : FieldPatterns
    and_field : FieldPatterns → At → Pattern → FieldPatterns

-- a field as a value
pub record OneField : Type 0 where
  pub at : At
  pub pattern : Pattern

-- the tree's own lists, made of lists behind those before them
abbrev pub patterns_behind : Patterns → List Pattern → Patterns
patterns_behind before [] = before
patterns_behind before (x ∷ xs) = patterns_behind (and_pattern before x) xs

abbrev pub fields_behind : FieldPatterns → List OneField → FieldPatterns
fields_behind before [] = before
fields_behind before (f ∷ fs) = fields_behind (and_field before f.at f.pattern) fs

unfoldable pub to_patterns : List Pattern → Patterns
to_patterns xs = patterns_behind no_patterns xs

unfoldable pub to_fields : List OneField → FieldPatterns
to_fields fs = fields_behind no_fields fs

-- one layer, with what its children stand for
abbrev pub layer : PatForm-F (Place → Pattern) OneField Pattern → Place → Pattern
layer (open'.Name n) = λ p. name p n
layer open'.Any = λ p. any p
layer open'.Unit = λ p. unit p
layer (open'.Paren x) = λ p. paren p x.value
layer (open'.Tuple xs) = λ p. tuple p (to_patterns xs)
layer (open'.Fields fs) = λ p. fields p (to_fields fs)
layer (open'.Take n fs) = λ p. take p n (to_fields fs)

abbrev pub field_layer : FPat-F (Place → Pattern) OneField Pattern → OneField
field_layer f = record { at = f.at; pattern = f.pat }

abbrev pub pattern_layer : Pat-F (Place → Pattern) OneField Pattern → Pattern
pattern_layer x = x.form x.place

-- the pattern that a value of the code stands for
abbrev pub pattern_of : Pat → Pattern
pattern_of = fold-Pat (Place → Pattern) OneField Pattern layer field_layer pattern_layer

abbrev pub field_of : FPat → OneField
field_of = fold-FPat (Place → Pattern) OneField Pattern layer field_layer pattern_layer

-- the place of a pattern
abbrev pub place_of : Pattern → Place
place_of (name p n) = p
place_of (any p) = p
place_of (unit p) = p
place_of (paren p x) = p
place_of (tuple p xs) = p
place_of (fields p fs) = p
place_of (take p n fs) = p

-- how many nodes lie on the longest way down: fields are none of their own
abbrev mutual
  pub depth_of : Pattern → ℕ
  depth_of (name p n) = 1
  depth_of (any p) = 1
  depth_of (unit p) = 1
  depth_of (paren p x) = depth_of x + 1
  depth_of (tuple p xs) = patterns_depth xs + 1
  depth_of (fields p fs) = fields_depth fs + 1
  depth_of (take p n fs) = fields_depth fs + 1

  pub patterns_depth : Patterns → ℕ
  patterns_depth no_patterns = 0
  patterns_depth (and_pattern xs x) = max (patterns_depth xs) (depth_of x)

  pub fields_depth : FieldPatterns → ℕ
  fields_depth no_fields = 0
  fields_depth (and_field fs at x) = max (fields_depth fs) (depth_of x)

-- an item more at the end
patterns_more : (xs : List Pattern) (before : Patterns) (x : Pattern) → patterns_behind before (xs ++ x ∷ []) ≡ and_pattern (patterns_behind before xs) x
patterns_more [] before x = refl
patterns_more (y ∷ xs) before x = patterns_more xs (and_pattern before y) x

fields_more : (fs : List OneField) (before : FieldPatterns) (f : OneField) → fields_behind before (fs ++ f ∷ []) ≡ and_field (fields_behind before fs) f.at f.pattern
fields_more [] before f = refl
fields_more (g ∷ fs) before f = fields_more fs (and_field before g.at g.pattern) f

pub patterns_push : (xs : List Pattern) (x : Pattern) → to_patterns (xs ++ x ∷ []) ≡ and_pattern (to_patterns xs) x
unfolding to_patterns
patterns_push xs x = patterns_more xs no_patterns x

pub fields_push : (fs : List OneField) (f : OneField) → to_fields (fs ++ f ∷ []) ≡ and_field (to_fields fs) f.at f.pattern
unfolding to_fields
fields_push fs f = fields_more fs no_fields f

pub patterns_none : to_patterns [] ≡ no_patterns
unfolding to_patterns
patterns_none = refl

pub fields_none : to_fields [] ≡ no_fields
unfolding to_fields
fields_none = refl
