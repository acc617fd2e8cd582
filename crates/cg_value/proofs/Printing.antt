-- Printing, item by item.
use Rattle.std.proofs.Common.{◌≡◌, ◌<◌, ◌≤◌, ◌+◌, ℕ, zero, suc, Bool, true, false, ◌&&◌, not, if◌then◌else◌, List, [], ◌∷◌, ◌++◌, length, drop, get_or, map, codes, append_assoc, refl, sym, ap, ◌∙◌, arith}
use Rattle.std.proofs.lemmas.List.{at_drop_more, at_drop_all, append-nil}
use Rattle.std.specs.Str.{bytes_eq}
use Rattle.cg_base.proofs.Views.{piece_of}
use Rattle.cg_base.specs.declared.kind.Sigil.TheVariants.{U}
use Rattle.cg_base.specs.declared.ty.Part.{Part}
use Rattle.cg_base.specs.Types.{part_of, to_parts, type_of}
use Rattle.cg_value.specs.declared.value.Value.{Value}
use Rattle.cg_value.specs.Printed.{are_components, component, field_text, fields_text, is_tuple, is_unit, listed, payload, payload_text, printed, shows_payload}
use Rattle.cg_value.specs.Values.{Val, to_vals, value_of}
use Rattle.cg_base.proofs.Sequences.{same_when, same_unless}

one_more : (out lead item rest : List ℕ) → ((out ++ lead) ++ item) ++ rest ≡ out ++ ((lead ++ item) ++ rest)
one_more out lead item rest = append_assoc (out ++ lead) item rest ∙ append_assoc out lead (item ++ rest) ∙ ap (λ l. out ++ l) (sym (append_assoc lead item rest))

-- items of a list
module _ {A : Type 0} (text : A → List ℕ) where
  pub listed_more : (out lead : List ℕ) (xs : List A) (i : ℕ) (d : A) → i < length xs
      → ((out ++ lead) ++ text (get_or xs i d)) ++ listed text (codes ", ") (drop (i + 1) xs) ≡ out ++ listed text lead (drop i xs)
  unfolding listed
  listed_more out lead xs i d h =
      one_more out lead (text (get_or xs i d)) (listed text (codes ", ") (drop (i + 1) xs)) ∙ sym (ap (λ l. out ++ l) (at_drop_more (listed text lead) xs i d h))

  pub listed_past : (out lead : List ℕ) (xs : List A) (i : ℕ) → length xs ≤ i → out ++ listed text lead (drop i xs) ≡ out
  unfolding listed
  listed_past out lead xs i h = ap (λ l. out ++ l) (at_drop_all (listed text lead) xs i h) ∙ append-nil out

-- components
pub components_rest : (ps : List Part) (i : ℕ) (d : Part) → i < length ps
    → are_components i (to_parts (map part_of (drop i ps))) ≡ bytes_eq (get_or ps i d).name (component i) && are_components (i + 1) (to_parts (map part_of (drop (i + 1) ps)))
unfolding are_components to_parts
components_rest ps i d h =
    at_drop_more (λ l. are_components i (to_parts (map part_of l))) ps i d h
    ∙ ap (λ q. bytes_eq q.name (component i) && are_components (i + 1) (to_parts (map part_of (drop (i + 1) ps)))) (piece_of (get_or ps i d))

pub components_stop : (ps : List Part) (i : ℕ) (d : Part) → i < length ps → bytes_eq (get_or ps i d).name (component i) ≡ false
    → are_components i (to_parts (map part_of (drop i ps))) ≡ false
components_stop ps i d h e = components_rest ps i d h ∙ ap (λ b. b && are_components (i + 1) (to_parts (map part_of (drop (i + 1) ps)))) e

pub components_more : (ps : List Part) (i : ℕ) (d : Part) → i < length ps → bytes_eq (get_or ps i d).name (component i) ≡ true
    → are_components (i + 1) (to_parts (map part_of (drop (i + 1) ps))) ≡ are_components i (to_parts (map part_of (drop i ps)))
components_more ps i d h e = sym (components_rest ps i d h ∙ ap (λ b. b && are_components (i + 1) (to_parts (map part_of (drop (i + 1) ps)))) e)

pub components_past : (ps : List Part) (i : ℕ) → length ps ≤ i → are_components i (to_parts (map part_of (drop i ps))) ≡ true
unfolding are_components to_parts
components_past ps i h = at_drop_all (λ l. are_components i (to_parts (map part_of l))) ps i h

pub tuple_when : (ps : List Part) → 2 ≤ length ps → is_tuple (to_parts (map part_of ps)) U ≡ are_components zero (to_parts (map part_of ps))
unfolding is_tuple to_parts
tuple_when [] h = absurd (omega arith)
tuple_when (p ∷ []) h = absurd (omega arith)
tuple_when (p ∷ q ∷ ps) h = refl

pub tuple_unless : (ps : List Part) → length ps < 2 → is_tuple (to_parts (map part_of ps)) U ≡ false
unfolding is_tuple to_parts
tuple_unless [] h = refl
tuple_unless (p ∷ []) h = refl
tuple_unless (p ∷ q ∷ ps) h = absurd (omega arith)

-- alternatives by their names
module _ (x : List ℕ) where
  shows_rest : (ps : List Part) (i : ℕ) (d : Part) → i < length ps
      → shows_payload x (to_parts (map part_of (drop i ps)))
      ≡ (if bytes_eq x (get_or ps i d).name then not (is_unit (type_of (get_or ps i d).ty)) else shows_payload x (to_parts (map part_of (drop (i + 1) ps))))
  unfolding shows_payload to_parts
  shows_rest ps i d h =
      at_drop_more (λ l. shows_payload x (to_parts (map part_of l))) ps i d h
      ∙ ap (λ q. if bytes_eq x q.name then not (is_unit q.ty) else shows_payload x (to_parts (map part_of (drop (i + 1) ps)))) (piece_of (get_or ps i d))

  pub shows_stop : (ps : List Part) (i : ℕ) (d : Part) → i < length ps → x ≡ (get_or ps i d).name
      → shows_payload x (to_parts (map part_of (drop i ps))) ≡ not (is_unit (type_of (get_or ps i d).ty))
  shows_stop ps i d h e =
      shows_rest ps i d h
      ∙ ap (λ b. if b then not (is_unit (type_of (get_or ps i d).ty)) else shows_payload x (to_parts (map part_of (drop (i + 1) ps)))) (same_when x (get_or ps i d).name e)

  pub shows_more : (ps : List Part) (i : ℕ) (d : Part) → i < length ps → (x ≡ (get_or ps i d).name → ⊥)
      → shows_payload x (to_parts (map part_of (drop (i + 1) ps))) ≡ shows_payload x (to_parts (map part_of (drop i ps)))
  shows_more ps i d h e =
      sym (shows_rest ps i d h
      ∙ ap (λ b. if b then not (is_unit (type_of (get_or ps i d).ty)) else shows_payload x (to_parts (map part_of (drop (i + 1) ps)))) (same_unless x (get_or ps i d).name e))

  pub shows_past : (ps : List Part) (i : ℕ) → length ps ≤ i → shows_payload x (to_parts (map part_of (drop i ps))) ≡ false
  unfolding shows_payload to_parts
  shows_past ps i h = at_drop_all (λ l. shows_payload x (to_parts (map part_of l))) ps i h

-- the payload of an alternative
module _ (x : List ℕ) (v : Val) where
  payload_rest : (ps : List Part) (i : ℕ) (d : Part) → i < length ps
      → payload x v (to_parts (map part_of (drop i ps)))
      ≡ (if bytes_eq x (get_or ps i d).name then payload_text v (type_of (get_or ps i d).ty) (printed v (type_of (get_or ps i d).ty)) else payload x v (to_parts (map part_of (drop (i + 1) ps))))
  unfolding printed to_parts
  payload_rest ps i d h =
      at_drop_more (λ l. payload x v (to_parts (map part_of l))) ps i d h
      ∙ ap (λ q. if bytes_eq x q.name then payload_text v q.ty (printed v q.ty) else payload x v (to_parts (map part_of (drop (i + 1) ps)))) (piece_of (get_or ps i d))

  pub payload_stop : (ps : List Part) (i : ℕ) (d : Part) → i < length ps → x ≡ (get_or ps i d).name
      → payload x v (to_parts (map part_of (drop i ps))) ≡ payload_text v (type_of (get_or ps i d).ty) (printed v (type_of (get_or ps i d).ty))
  payload_stop ps i d h e =
      payload_rest ps i d h
      ∙ ap (λ b. if b then payload_text v (type_of (get_or ps i d).ty) (printed v (type_of (get_or ps i d).ty)) else payload x v (to_parts (map part_of (drop (i + 1) ps)))) (same_when x (get_or ps i d).name e)

  pub payload_more : (ps : List Part) (i : ℕ) (d : Part) → i < length ps → (x ≡ (get_or ps i d).name → ⊥)
      → payload x v (to_parts (map part_of (drop (i + 1) ps))) ≡ payload x v (to_parts (map part_of (drop i ps)))
  payload_more ps i d h e =
      sym (payload_rest ps i d h
      ∙ ap (λ b. if b then payload_text v (type_of (get_or ps i d).ty) (printed v (type_of (get_or ps i d).ty)) else payload x v (to_parts (map part_of (drop (i + 1) ps)))) (same_unless x (get_or ps i d).name e))

  pub payload_past : (ps : List Part) (i : ℕ) → length ps ≤ i → payload x v (to_parts (map part_of (drop i ps))) ≡ []
  unfolding printed to_parts
  payload_past ps i h = at_drop_all (λ l. payload x v (to_parts (map part_of l))) ps i h

-- fields
module _ (tuple : Bool) where
  fields_rest : (lead : List ℕ) (vs : List Value) (ps : List Part) (i : ℕ) (v : Value) (p : Part) → i < length vs → i < length ps
      → fields_text tuple lead (to_vals (map value_of (drop i vs))) (to_parts (map part_of (drop i ps)))
      ≡ lead ++ field_text tuple (get_or ps i p).name (get_or ps i p).taken (printed (value_of (get_or vs i v)) (type_of (get_or ps i p).ty))
      ++ fields_text tuple (codes ", ") (to_vals (map value_of (drop (i + 1) vs))) (to_parts (map part_of (drop (i + 1) ps)))
  unfolding printed to_parts to_vals
  fields_rest lead vs ps i v p h k =
      at_drop_more (λ l. fields_text tuple lead (to_vals (map value_of l)) (to_parts (map part_of (drop i ps)))) vs i v h
      ∙ at_drop_more (λ l. fields_text tuple lead (to_vals (map value_of (get_or vs i v ∷ drop (i + 1) vs))) (to_parts (map part_of l))) ps i p k
      ∙ ap (λ q. lead ++ field_text tuple q.name q.taken (printed (value_of (get_or vs i v)) q.ty)
      ++ fields_text tuple (codes ", ") (to_vals (map value_of (drop (i + 1) vs))) (to_parts (map part_of (drop (i + 1) ps)))) (piece_of (get_or ps i p))

  pub fields_more : (out lead : List ℕ) (vs : List Value) (ps : List Part) (i : ℕ) (v : Value) (p : Part) → i < length vs → i < length ps
      → ((out ++ lead) ++ field_text tuple (get_or ps i p).name (get_or ps i p).taken (printed (value_of (get_or vs i v)) (type_of (get_or ps i p).ty)))
      ++ fields_text tuple (codes ", ") (to_vals (map value_of (drop (i + 1) vs))) (to_parts (map part_of (drop (i + 1) ps)))
      ≡ out ++ fields_text tuple lead (to_vals (map value_of (drop i vs))) (to_parts (map part_of (drop i ps)))
  fields_more out lead vs ps i v p h k =
      let field = field_text tuple (get_or ps i p).name (get_or ps i p).taken (printed (value_of (get_or vs i v)) (type_of (get_or ps i p).ty)) in
      let rest = fields_text tuple (codes ", ") (to_vals (map value_of (drop (i + 1) vs))) (to_parts (map part_of (drop (i + 1) ps))) in
      one_more out lead field rest ∙ sym (ap (λ l. out ++ l) (fields_rest lead vs ps i v p h k))

  pub fields_past : (out lead : List ℕ) (vs : List Value) (ps : List Part) (i : ℕ) → (i < length vs → i < length ps → ⊥)
      → out ++ fields_text tuple lead (to_vals (map value_of (drop i vs))) (to_parts (map part_of (drop i ps))) ≡ out
  unfolding printed to_parts to_vals
  fields_past out lead vs ps i h = ap (λ l. out ++ l) (go vs ps i h) ∙ append-nil out
    where
      none_left : (vs : List Value) → fields_text tuple lead (to_vals (map value_of vs)) (to_parts []) ≡ []
      none_left [] = refl
      none_left (v ∷ vs) = refl

      go : (vs : List Value) (ps : List Part) (i : ℕ) → (i < length vs → i < length ps → ⊥)
          → fields_text tuple lead (to_vals (map value_of (drop i vs))) (to_parts (map part_of (drop i ps))) ≡ []
      go [] ps zero h = refl
      go [] ps (suc i) h = refl
      go (v ∷ vs) [] zero h = refl
      go (v ∷ vs) [] (suc i) h = none_left (drop i vs)
      go (v ∷ vs) (p ∷ ps) zero h = absurd (h (omega arith) (omega arith))
      go (v ∷ vs) (p ∷ ps) (suc i) h = go vs ps i (λ a b. h (omega (arith, a)) (omega (arith, b)))

pub ruleset printing = (tuple_when, tuple_unless, listed_more, listed_past, components_stop, components_more, components_past, shows_stop, shows_more, shows_past, payload_stop, payload_more, payload_past, fields_more, fields_past)
