-- The values of fields, one behind the other, and of alternatives.
use Rattle.std.proofs.Common.{◌≡◌, ℕ, ◌+◌, ◌<◌, ◌≤◌, Bool, true, false, cond, List, [], ◌∷◌, ◌++◌, length, drop, get_or, map, Option, if◌then◌else◌, refl, sym, ap, ◌∙◌, append_assoc}
use Rattle.std.proofs.lemmas.List.{at_drop_more, at_drop_all, map-append}
use Rattle.std.specs.Str.{bytes_eq}
use Rattle.cg_base.proofs.Sequences.{append_none}
use Rattle.cg_base.proofs.Views.{piece_of}
use Rattle.cg_base.specs.declared.ty.Part.{Part}
use Rattle.cg_base.specs.Types.{Tau, Parts, Piece, part, part_of, to_parts, type_of}
use Rattle.cg_heaptext_def.specs.HeapText.{cells_of}
use Rattle.cg_heaptext_def.specs.Reading.{value, value_all, value_applied}
use Rattle.cg_heaptext_def.specs.Trees.{Cell, Heap, Written, bare}
use Rattle.cg_heaptext_entries.specs.declared.entry.Index.{Index}
use Rattle.cg_heaptext_index.specs.declared.map.Addresses.{Addresses}
use Rattle.cg_heaptext_lexer.specs.Next.{Cursor}
use Rattle.cg_heaptext_scalars.proofs.Listing.{Takes}
use Rattle.cg_heaptext_values.specs.Values.{StandsAt}
use Rattle.cg_value.proofs.FormSteps.{fields_is}
use Rattle.cg_value.specs.declared.value.Value.{Value}
use Rattle.cg_value.specs.declared.value.Value.TheVariants.{Fields as Record, Unit}
use Rattle.cg_value.specs.Values as values
use Rattle.cg_value.specs.Values.{Val, Vals, parts, to_vals, val_list, value_of}
use Rattle.cg_heaptext_value.specs.Capped.{capped_value, capped_values}
use Rattle.cg_heaptext_value.specs.Given.{AreCells, field_in, pieces}
use Rattle.cg_heaptext_value.proofs.Forms.{unit_is}
use Rattle.cg_heaptext_value.proofs.Told.{no_values}

list_vals : (vs : Vals) → to_vals (val_list vs) ≡ vs
unfolding to_vals val_list
list_vals values.none = refl
list_vals (values.more v vs) = ap (values.more v) (list_vals vs)

pub none_listed : val_list values.none ≡ []
unfolding val_list
none_listed = refl

-- a record of no fields
pub no_fields_are : (xs : List Value) (vs : Vals) → xs ≡ [] → vs ≡ values.none → value_of (Record xs) ≡ parts (capped_values vs)
unfolding to_vals
no_fields_are xs vs e none = fields_is xs ∙ ap (λ (ys : List Value). parts (to_vals (map value_of ys))) e ∙ ap (λ ws. parts (capped_values ws)) (sym none)

module _ (cells : ℕ → Option Cell) where
  -- the values of fields, as they are given
  abbrev pub all_in : List Part → List Written → List Val
  all_in ps vs = val_list (capped_values (value_all cells (pieces ps) vs))

  split_taken : (x : List ℕ) (t : Tau) (b : Bool) (ps : Parts) (v : Written) (vs : List Written)
      → val_list (capped_values (value_all cells (part x t b ps) (v ∷ vs))) ≡ capped_value (cond b values.gone (value cells t (bare v))) ∷ val_list (capped_values (value_all cells ps vs))
  unfolding value val_list
  split_taken x t true ps v vs = refl
  split_taken x t false ps v vs = refl

  no_fields : (vs : List Written) → all_in [] vs ≡ []
  unfolding value to_parts val_list
  no_fields [] = refl
  no_fields (v ∷ vs) = refl

  -- the next field with its value, and those behind it
  fields_split : (p : Part) (ps : List Part) (v : Written) (vs : List Written) → all_in (p ∷ ps) (v ∷ vs) ≡ capped_value (field_in cells p v) ∷ all_in ps vs
  unfolding to_parts
  fields_split p ps v vs =
      let q = part_of p in
      split_taken q.name q.ty q.taken (pieces ps) v vs
      ∙ ap (λ (r : Piece). capped_value (cond r.taken values.gone (value cells r.ty (bare v))) ∷ all_in ps vs) (piece_of p)

  field_next : (ps : List Part) (i : ℕ) (p : Part) (v : Written) (vs : List Written) → i < length ps → p ≡ get_or ps i p → all_in (drop i ps) (v ∷ vs) ≡ capped_value (field_in cells p v) ∷ all_in (drop (i + 1) ps) vs
  field_next ps i p v vs within is =
      at_drop_more (λ l. all_in l (v ∷ vs)) ps i p within
      ∙ fields_split (get_or ps i p) (drop (i + 1) ps) v vs
      ∙ ap (λ (q : Part). capped_value (field_in cells q v) ∷ all_in (drop (i + 1) ps) vs) (sym is)

  -- ---- alternatives
  module _ (x : List ℕ) (w : Written) where
    alternative_split : (p : Part) (ps : List Part) → value_applied cells (pieces (p ∷ ps)) x w ≡ (if bytes_eq x p.name then value cells (type_of p.ty) (bare w) else value_applied cells (pieces ps) x w)
    unfolding value to_parts
    alternative_split p ps = ap (λ (q : Piece). if bytes_eq x q.name then value cells q.ty (bare w) else value_applied cells (pieces ps) x w) (piece_of p)

    pub alternative_next : (ps : List Part) (i : ℕ) (p : Part) → i < length ps → p ≡ get_or ps i p
        → value_applied cells (pieces (drop i ps)) x w ≡ (if bytes_eq x p.name then value cells (type_of p.ty) (bare w) else value_applied cells (pieces (drop (i + 1) ps)) x w)
    alternative_next ps i p within is =
        at_drop_more (λ l. value_applied cells (pieces l) x w) ps i p within
        ∙ alternative_split (get_or ps i p) (drop (i + 1) ps)
        ∙ ap (λ (q : Part). if bytes_eq x q.name then value cells (type_of q.ty) (bare w) else value_applied cells (pieces (drop (i + 1) ps)) x w) (sym is)

    no_alternative : value_applied cells (pieces []) x w ≡ values.nothing
    unfolding value to_parts
    no_alternative = refl

    pub alternative_past : (ps : List Part) (i : ℕ) → length ps ≤ i → value_applied cells (pieces (drop i ps)) x w ≡ values.nothing
    alternative_past ps i over = at_drop_all (λ l. value_applied cells (pieces l) x w) ps i over ∙ no_alternative

-- ---- a loop over alternatives
abbrev pub Seeks : List Part → List ℕ → ℕ → Type 0
Seeks ps x i = (cells : ℕ → Option Cell) (w : Written) → value_applied cells (pieces (drop i ps)) x w ≡ value_applied cells (pieces ps) x w

module _ (ps : List Part) (x : List ℕ) (i : ℕ) (w : Seeks ps x i) where
  module _ (p : Part) (within : i < length ps) (is : p ≡ get_or ps i p) where
    by_test : (b : Bool) → bytes_eq x p.name ≡ b → (cells : ℕ → Option Cell) (v : Written)
        → (if b then value cells (type_of p.ty) (bare v) else value_applied cells (pieces (drop (i + 1) ps)) x v) ≡ value_applied cells (pieces ps) x v
    by_test b e cells v =
        ap (λ c. if c then value cells (type_of p.ty) (bare v) else value_applied cells (pieces (drop (i + 1) ps)) x v) (sym e) ∙ sym (alternative_next cells x v ps i p within is) ∙ w cells v

    pub alternative_here : bytes_eq x p.name ≡ true → (cells : ℕ → Option Cell) (v : Written) → value cells (type_of p.ty) (bare v) ≡ value_applied cells (pieces ps) x v
    alternative_here e = by_test true e

    pub alternative_passed : bytes_eq x p.name ≡ false → Seeks ps x (i + 1)
    alternative_passed e = by_test false e

  pub alternative_none : length ps ≤ i → (cells : ℕ → Option Cell) (v : Written) → value_of Unit ≡ capped_value (value_applied cells (pieces ps) x v)
  alternative_none over cells v = unit_is ∙ ap capped_value (sym (alternative_past cells x v ps i over) ∙ w cells v)

-- ---- a loop over fields; `Stand` says which values are left
module _ {S : Type 0} (Stand : S → List Written → Type 0) (index : Index) (addresses : Addresses) where
  -- Where these values stood first, those that stand now are left for the parts from this one on.
  abbrev pub Going : List Part → S → ℕ → S → List Value → Type 0
  Going ps first i now read = (h : Heap) → AreCells index addresses h → (vs : List Written) → Stand first vs
      → (ws : List Written) × Stand now ws × (map value_of read ++ all_in (cells_of h) (drop i ps) ws ≡ all_in (cells_of h) ps vs)

  pub going : (ps : List Part) (first : S) (read : List Value) → read ≡ [] → Going ps first 0 first read
  going ps first read none h a vs s = (vs, s, ap (λ (xs : List Value). map value_of xs ++ all_in (cells_of h) ps vs) none)

  module _ (ps : List Part) (first now : S) (read : List Value) (i : ℕ) (w : Going ps first i now read) where
    pub field_passed : (p : Part) → i < length ps → p ≡ get_or ps i p → (at : Cursor) (later : S) (x : Value) (newer : List Value) → Takes Stand now at later
        → ((h : Heap) → AreCells index addresses h → (v : Written) → StandsAt at v → value_of x ≡ capped_value (field_in (cells_of h) p v)) → newer ≡ read ++ x ∷ []
        → Going ps first (i + 1) later newer
    field_passed p within is at later x newer takes told push h a vs s =
        let g = w h a vs s in
        let t = takes g.0 g.1 in
        let rest = all_in (cells_of h) (drop (i + 1) ps) t.1 in (
          t.1,
          t.4,
          ap (λ (xs : List Value). map value_of xs ++ rest) push
              ∙ ap (λ (xs : List Val). xs ++ rest) (map-append value_of read (x ∷ []))
              ∙ append_assoc (map value_of read) (value_of x ∷ []) rest
              ∙ ap (λ (y : Val). map value_of read ++ y ∷ rest) (told h a t.0 t.3)
              ∙ ap (λ (xs : List Val). map value_of read ++ xs) (sym (field_next (cells_of h) ps i p t.0 t.1 within is))
              ∙ ap (λ (us : List Written). map value_of read ++ all_in (cells_of h) (drop i ps) us) (sym t.2)
              ∙ g.2,
        )

    whole : (h : Heap) (vs ws : List Written) → map value_of read ++ all_in (cells_of h) (drop i ps) ws ≡ all_in (cells_of h) ps vs → all_in (cells_of h) (drop i ps) ws ≡ [] → value_of (Record read) ≡ parts (capped_values (value_all (cells_of h) (pieces ps) vs))
    whole h vs ws all none =
        fields_is read
        ∙ ap (λ (xs : List Val). parts (to_vals xs)) (sym (append_none (map value_of read)) ∙ ap (λ (xs : List Val). map value_of read ++ xs) (sym none) ∙ all)
        ∙ ap parts (list_vals (capped_values (value_all (cells_of h) (pieces ps) vs)))

    pub values_over : ((ws : List Written) → Stand now ws → ws ≡ []) → (h : Heap) → AreCells index addresses h → (vs : List Written) → Stand first vs → value_of (Record read) ≡ parts (capped_values (value_all (cells_of h) (pieces ps) vs))
    values_over over h a vs s =
        let g = w h a vs s in
        whole h vs g.0 g.2 (ap (all_in (cells_of h) (drop i ps)) (over g.0 g.1) ∙ ap (λ us. val_list (capped_values us)) (no_values (cells_of h) (pieces (drop i ps))) ∙ none_listed)

    pub fields_over : length ps ≤ i → (h : Heap) → AreCells index addresses h → (vs : List Written) → Stand first vs → value_of (Record read) ≡ parts (capped_values (value_all (cells_of h) (pieces ps) vs))
    fields_over over h a vs s =
        let g = w h a vs s in
        whole h vs g.0 g.2 (at_drop_all (λ l. all_in (cells_of h) l g.0) ps i over ∙ no_fields (cells_of h) g.0)
