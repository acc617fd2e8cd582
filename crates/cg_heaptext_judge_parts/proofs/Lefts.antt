-- What is left of parts and of what stands for them, as a loop goes over both.
use Rattle.std.proofs.Common.{◌≡◌, ℕ, ◌+◌, ◌<◌, ◌≤◌, Bool, true, false, ◌&&◌, List, [], ◌∷◌, length, drop, get_or, Option, Some, None, is_none, is_some, not, refl, sym, ap, ◌∙◌, add-one, drop-cons}
use Rattle.std.proofs.lemmas.List.{drop_all}
use Rattle.std.specs.Str.{bytes_eq}
use Rattle.cg_base.specs.declared.ty.Part.{Part}
use Rattle.cg_base.proofs.Views.{piece_of}
use Rattle.cg_base.specs.Types.{Piece, to_parts}
use Rattle.cg_heaptext_def.specs.Trees.{Fields, Written, end, field}
use Rattle.cg_heaptext_judge_parts.specs.Parts.{as_many_of, named_by, names_of}
use Rattle.cg_heaptext_lexer.specs.Next.{Cursor}
use Rattle.cg_heaptext_values.specs.Values.{FieldsStand, TakesField, TakesValue, ValuesStand}
use Rattle.cg_heaptext_values.specs.declared.list.FieldAt.{FieldAt}
use Rattle.cg_heaptext_values.specs.declared.list.FieldsAt.{FieldsAt}
use Rattle.cg_heaptext_values.specs.declared.list.ValuesAt.{ValuesAt}

-- a test whether nothing is there
pub told : {A : Type 0} (o : Option A) (b : Bool) → is_some o ≡ not b → b ≡ is_none o
told o true e = sym (ap not e)
told o false e = sym (ap not e)

-- the next part, and what is left behind it
next : (xs : List Part) (i : ℕ) (x : Part) → i < length xs → x ≡ get_or xs i x → drop i xs ≡ x ∷ drop (i + 1) xs
next xs i x within is = let e : drop i xs ≡ get_or xs i x ∷ drop (i + 1) xs = rw add-one (drop-cons xs i x within) in e ∙ ap (λ y. y ∷ drop (i + 1) xs) (sym is)

-- ---- names

names_split : (p : Part) (ps : List Part) (x : List ℕ) (v : Written) (fs : Fields) → names_of (p ∷ ps) (field x v fs) ≡ bytes_eq p.name x && names_of ps fs
unfolding to_parts
names_split p ps x v fs = ap (λ (q : Piece). bytes_eq q.name x && names_of ps fs) (piece_of p)

names_over : (p : Part) (ps : List Part) → names_of (p ∷ ps) end ≡ false
unfolding to_parts
names_over p ps = refl

-- a field of that name was taken
taken_named : (p : Part) (ps : List Part) (fs : Fields) (r : Option FieldAt) (new : FieldsAt) → TakesField fs r new → named_by p r ≡ true
    → (rest : Fields) × FieldsStand new rest × (names_of (p ∷ ps) fs ≡ names_of ps rest)
taken_named p ps end r new t e = absurd (cc)
taken_named p ps (field x v fs) None new t e = absurd t
taken_named p ps (field x v fs) (Some at) new t e = (fs, t.2, names_split p ps x v fs ∙ ap (λ y. bytes_eq p.name y && names_of ps fs) (sym t.0) ∙ ap (λ b. b && names_of ps fs) e)

-- or none
none_named : (p : Part) (ps : List Part) (fs : Fields) (r : Option FieldAt) (new : FieldsAt) → TakesField fs r new → named_by p r ≡ false → names_of (p ∷ ps) fs ≡ false
none_named p ps end r new t e = names_over p ps
none_named p ps (field x v fs) None new t e = absurd t
none_named p ps (field x v fs) (Some at) new t e = names_split p ps x v fs ∙ ap (λ y. bytes_eq p.name y && names_of ps fs) (sym t.0) ∙ ap (λ b. b && names_of ps fs) e

-- no part is left
none_left : (fs : Fields) (r : Option FieldAt) (new : FieldsAt) → TakesField fs r new → is_none r ≡ names_of [] fs
unfolding to_parts
none_left end r new t = ap is_none t
none_left (field x v fs) None new t = absurd t
none_left (field x v fs) (Some at) new t = refl

-- the fields that are left have the names that are left exactly where all have all
abbrev pub Left : List Part → ℕ → FieldsAt → FieldsAt → Type 0
Left ps i old now = (fs : Fields) → FieldsStand old fs → (rest : Fields) × FieldsStand now rest × (names_of ps fs ≡ names_of (drop i ps) rest)

abbrev pub Takes : FieldsAt → Option FieldAt → FieldsAt → Type 0
Takes now r new = (fs : Fields) → FieldsStand now fs → TakesField fs r new

module _ (ps : List Part) (i : ℕ) (old now : FieldsAt) (r : Option FieldAt) (new : FieldsAt) (left : Left ps i old now) (takes : Takes now r new) where
  pub left_more : (p : Part) → i < length ps → p ≡ get_or ps i p → named_by p r ≡ true → Left ps (i + 1) old new
  left_more p within is e fs s =
      let l = left fs s in
      let t = taken_named p (drop (i + 1) ps) l.0 r new (takes l.0 l.1) e in
      (t.0, t.1, l.2 ∙ ap (λ qs. names_of qs l.0) (next ps i p within is) ∙ t.2)

  pub left_fails : (p : Part) → i < length ps → p ≡ get_or ps i p → named_by p r ≡ false → (fs : Fields) → FieldsStand old fs → false ≡ names_of ps fs
  left_fails p within is e fs s =
      let l = left fs s in
      sym (l.2 ∙ ap (λ qs. names_of qs l.0) (next ps i p within is) ∙ none_named p (drop (i + 1) ps) l.0 r new (takes l.0 l.1) e)

  pub left_ends : length ps ≤ i → (fs : Fields) → FieldsStand old fs → is_none r ≡ names_of ps fs
  left_ends over fs s =
      let l = left fs s in
      sym (l.2 ∙ ap (λ qs. names_of qs l.0) (drop_all i ps over) ∙ sym (none_left l.0 r new (takes l.0 l.1)))

-- ---- values

-- the values that are left are as many as the parts that are left exactly where all are
abbrev pub LeftValues : List Part → ℕ → ValuesAt → ValuesAt → Type 0
LeftValues ps i old now = (vs : List Written) → ValuesStand old vs → (rest : List Written) × ValuesStand now rest × (as_many_of ps vs ≡ as_many_of (drop i ps) rest)

abbrev pub TakesOne : ValuesAt → Option Cursor → ValuesAt → Type 0
TakesOne now r new = (vs : List Written) → ValuesStand now vs → TakesValue vs r new

taken_one : (p : Part) (ps : List Part) (vs : List Written) (r : Option Cursor) (new : ValuesAt) → TakesValue vs r new → is_none r ≡ false
    → (rest : List Written) × ValuesStand new rest × (as_many_of (p ∷ ps) vs ≡ as_many_of ps rest)
unfolding to_parts
taken_one p ps [] r new t e = let none : is_none r ≡ true = ap is_none t in absurd (cc)
taken_one p ps (v ∷ vs) None new t e = absurd t
taken_one p ps (v ∷ vs) (Some at) new t e = (vs, t.1, refl)

taken_none : (p : Part) (ps : List Part) (vs : List Written) (r : Option Cursor) (new : ValuesAt) → TakesValue vs r new → is_none r ≡ true → as_many_of (p ∷ ps) vs ≡ false
unfolding to_parts
taken_none p ps [] r new t e = refl
taken_none p ps (v ∷ vs) None new t e = absurd t
taken_none p ps (v ∷ vs) (Some at) new t e = absurd (cc)

no_part : (vs : List Written) (r : Option Cursor) (new : ValuesAt) → TakesValue vs r new → is_none r ≡ as_many_of [] vs
unfolding to_parts
no_part [] r new t = ap is_none t
no_part (v ∷ vs) None new t = absurd t
no_part (v ∷ vs) (Some at) new t = refl

module _ (ps : List Part) (i : ℕ) (old now : ValuesAt) (r : Option Cursor) (new : ValuesAt) (left : LeftValues ps i old now) (takes : TakesOne now r new) where
  pub values_more : (p : Part) → i < length ps → p ≡ get_or ps i p → is_none r ≡ false → LeftValues ps (i + 1) old new
  values_more p within is e vs s =
      let l = left vs s in
      let t = taken_one p (drop (i + 1) ps) l.0 r new (takes l.0 l.1) e in
      (t.0, t.1, l.2 ∙ ap (λ qs. as_many_of qs l.0) (next ps i p within is) ∙ t.2)

  pub values_fail : (p : Part) → i < length ps → p ≡ get_or ps i p → is_none r ≡ true → (vs : List Written) → ValuesStand old vs → false ≡ as_many_of ps vs
  values_fail p within is e vs s =
      let l = left vs s in
      sym (l.2 ∙ ap (λ qs. as_many_of qs l.0) (next ps i p within is) ∙ taken_none p (drop (i + 1) ps) l.0 r new (takes l.0 l.1) e)

  pub values_end : length ps ≤ i → (vs : List Written) → ValuesStand old vs → is_none r ≡ as_many_of ps vs
  values_end over vs s =
      let l = left vs s in
      sym (l.2 ∙ ap (λ qs. as_many_of qs l.0) (drop_all i ps over) ∙ sym (no_part l.0 r new (takes l.0 l.1)))
