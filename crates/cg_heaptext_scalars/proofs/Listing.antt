-- The scalars of fields, one behind the other.
use Rattle.std.proofs.Common.{◌≡◌, ℕ, ◌+◌, ◌<◌, ◌≤◌, Bool, true, false, cond, List, [], ◌∷◌, ◌++◌, length, drop, get_or, None, Some, refl, sym, ap, ◌∙◌}
use Rattle.std.proofs.lemmas.List.{at_drop_more, at_drop_all}
use Rattle.cg_base.proofs.Views.{piece_of}
use Rattle.cg_base.specs.declared.ty.Part.{Part}
use Rattle.cg_base.specs.Types.{Tau, Parts, Piece, end, part, part_of, to_parts}
use Rattle.cg_heap.specs.declared.cell.Scalar.{Scalar}
use Rattle.cg_heap.specs.Reps.{slots}
use Rattle.cg_heaptext_def.specs.Reading.{scalars, scalars_all}
use Rattle.cg_heaptext_def.specs.Trees as trees
use Rattle.cg_heaptext_def.specs.Trees.{Fields, Written, bare, values_in}
use Rattle.cg_heaptext_lexer.specs.Next.{Cursor}
use Rattle.cg_heaptext_values.specs.declared.list.FieldAt.{FieldAt}
use Rattle.cg_heaptext_values.specs.declared.list.FieldsAt.{FieldsAt}
use Rattle.cg_heaptext_values.specs.declared.list.ValuesAt.{ValuesAt}
use Rattle.cg_heaptext_values.specs.Values.{FieldsStand, StandsAt, TakesField, TakesValue, ValuesStand}
use Rattle.cg_heaptext_scalars.specs.Given.{Adds, field_in, pieces, unset}
use Rattle.cg_heaptext_scalars.proofs.Adding.{Goes, goes_no_more, goes_on}

abbrev pub all_in : List Part → List Written → List Scalar
all_in ps vs = scalars_all (pieces ps) vs

split_taken : (x : List ℕ) (t : Tau) (b : Bool) (ps : Parts) (v : Written) (vs : List Written) → scalars_all (part x t b ps) (v ∷ vs) ≡ cond b (unset (slots t)) (scalars t (bare v)) ++ scalars_all ps vs
unfolding scalars
split_taken x t true ps v vs = refl
split_taken x t false ps v vs = refl

no_values : (ps : Parts) → scalars_all ps [] ≡ []
unfolding scalars
no_values end = refl
no_values (part x t true ps) = refl
no_values (part x t false ps) = refl

no_fields : (vs : List Written) → all_in [] vs ≡ []
unfolding scalars to_parts
no_fields [] = refl
no_fields (v ∷ vs) = refl

-- the next field with its value, and those behind it
fields_split : (p : Part) (ps : List Part) (v : Written) (vs : List Written) → all_in (p ∷ ps) (v ∷ vs) ≡ field_in p v ++ all_in ps vs
unfolding to_parts
fields_split p ps v vs =
    let q = part_of p in
    split_taken q.name q.ty q.taken (pieces ps) v vs
    ∙ ap (λ (r : Piece). cond r.taken (unset (slots r.ty)) (scalars r.ty (bare v)) ++ all_in ps vs) (piece_of p)

field_next : (ps : List Part) (i : ℕ) (p : Part) (v : Written) (vs : List Written) → i < length ps → p ≡ get_or ps i p → all_in (drop i ps) (v ∷ vs) ≡ field_in p v ++ all_in (drop (i + 1) ps) vs
field_next ps i p v vs within is =
    at_drop_more (λ l. all_in l (v ∷ vs)) ps i p within
    ∙ fields_split (get_or ps i p) (drop (i + 1) ps) v vs
    ∙ ap (λ (q : Part). field_in q v ++ all_in (drop (i + 1) ps) vs) (sym is)

-- ---- a loop over fields; `Stand` says which values are left
module _ {S : Type 0} (Stand : S → List Written → Type 0) where
  -- where these values stood first, those that stand now are left for the parts from this one on
  abbrev pub Going : List Part → S → List Scalar → ℕ → S → List Scalar → Type 0
  Going ps first old i now new = (vs : List Written) → Stand first vs → (ws : List Written) × Stand now ws × Goes old (all_in ps vs) new (all_in (drop i ps) ws)

  -- the first of what is left stands here
  abbrev pub Takes : S → Cursor → S → Type 0
  Takes now at new = (ws : List Written) → Stand now ws → (v : Written) × (vs : List Written) × (ws ≡ v ∷ vs) × StandsAt at v × Stand new vs

  module _ (ps : List Part) (first now : S) (old new : List Scalar) (i : ℕ) (going : Going ps first old i now new) where
    pub field_passed : (p : Part) → i < length ps → p ≡ get_or ps i p → (at : Cursor) (later : S) (newer : List Scalar) → Takes now at later → ((v : Written) → StandsAt at v → Adds new (field_in p v) newer)
        → Going ps first old (i + 1) later newer
    field_passed p within is at later newer takes added vs s =
        let g = going vs s in
        let t = takes g.0 g.1 in
        (t.1, t.4, goes_on old (all_in ps vs) new newer (field_in p t.0) (all_in (drop i ps) g.0) (all_in (drop (i + 1) ps) t.1) g.2 (added t.0 t.3) (ap (all_in (drop i ps)) t.2 ∙ field_next ps i p t.0 t.1 within is))

    pub values_over : ((ws : List Written) → Stand now ws → ws ≡ []) → (vs : List Written) → Stand first vs → Adds old (all_in ps vs) new
    values_over over vs s =
        let g = going vs s in
        goes_no_more old (all_in ps vs) new (all_in (drop i ps) g.0) g.2 (ap (all_in (drop i ps)) (over g.0 g.1) ∙ no_values (pieces (drop i ps)))

    pub fields_over : length ps ≤ i → (vs : List Written) → Stand first vs → Adds old (all_in ps vs) new
    fields_over over vs s =
        let g = going vs s in
        goes_no_more old (all_in ps vs) new (all_in (drop i ps) g.0) g.2 (at_drop_all (λ l. all_in l g.0) ps i over ∙ no_fields g.0)

-- ---- values of a tuple
value_taken : (ws : List Written) (at : Cursor) (new : ValuesAt) → TakesValue ws (Some at) new → (v : Written) × (vs : List Written) × (ws ≡ v ∷ vs) × StandsAt at v × ValuesStand new vs
value_taken [] at new t = absurd (cc)
value_taken (v ∷ vs) at new t = (v, vs, refl, t.0, t.1)

no_value_taken : (ws : List Written) (new : ValuesAt) → TakesValue ws None new → ws ≡ []
no_value_taken [] new t = refl
no_value_taken (v ∷ vs) new t = absurd t

pub value_takes : (now new : ValuesAt) (at : Cursor) → ((vs : List Written) → ValuesStand now vs → TakesValue vs (Some at) new) → Takes ValuesStand now at new
value_takes now new at next ws s = value_taken ws at new (next ws s)

pub value_over : (now new : ValuesAt) → ((vs : List Written) → ValuesStand now vs → TakesValue vs None new) → (ws : List Written) → ValuesStand now ws → ws ≡ []
value_over now new next ws s = no_value_taken ws new (next ws s)

-- ---- fields of a record, of which the values are asked for
abbrev pub FieldsOf : FieldsAt → List Written → Type 0
FieldsOf at vs = (fs : Fields) × FieldsStand at fs × (values_in fs ≡ vs)

field_taken : (fs : Fields) (at : FieldAt) (new : FieldsAt) → TakesField fs (Some at) new → (v : Written) × (vs : List Written) × (values_in fs ≡ v ∷ vs) × StandsAt at.value v × FieldsOf new vs
field_taken trees.end at new t = absurd (cc)
field_taken (trees.field x v fs) at new t = (v, values_in fs, refl, t.1, (fs, t.2, refl))

no_field_taken : (fs : Fields) (new : FieldsAt) → TakesField fs None new → values_in fs ≡ []
no_field_taken trees.end new t = refl
no_field_taken (trees.field x v fs) new t = absurd t

pub field_takes : (now new : FieldsAt) (at : FieldAt) → ((fs : Fields) → FieldsStand now fs → TakesField fs (Some at) new) → Takes FieldsOf now at.value new
field_takes now new at next ws s = let t = field_taken s.0 at new (next s.0 s.1) in (t.0, t.1, sym s.2 ∙ t.2, t.3, t.4)

pub field_over : (now new : FieldsAt) → ((fs : Fields) → FieldsStand now fs → TakesField fs None new) → (ws : List Written) → FieldsOf now ws → ws ≡ []
field_over now new next ws s = sym s.2 ∙ no_field_taken s.0 new (next s.0 s.1)
