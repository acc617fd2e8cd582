-- Which values fit, part by part.
use Rattle.std.proofs.Common.{◌≡◌, ◌≢◌, ◌<◌, ◌≤◌, ◌+◌, ℕ, zero, suc, Bool, true, false, ◌&&◌, not, if◌then◌else◌, List, [], ◌∷◌, length, drop, get_or, map, refl, sym, ap, ◌∙◌, arith}
use Rattle.std.proofs.lemmas.List.{at_drop_more, at_drop_all}
use Rattle.std.specs.Str.{bytes_eq}
use Rattle.cg_base.proofs.Views.{piece_of}
use Rattle.cg_base.specs.declared.ty.Part.{Part}
use Rattle.cg_base.specs.declared.ty.Ty.{Ty}
use Rattle.cg_base.specs.Types.{Tau, var, seen, unit, word, bool, arrow, abs, variant, fields, Taus, more, part_of, to_parts, to_taus, type_of}
use Rattle.cg_value.specs.declared.value.Value.{Value}
use Rattle.cg_value.specs.Fits.{World, fits, fits_abstract, fits_alternative, fits_fields, is_gone}
use Rattle.cg_value.specs.Values.{Val, to_vals, value_of}
use Rattle.cg_base.proofs.Sequences.{same_when, same_unless}

module _ (w : World) where
  -- alternatives
  alternatives_rest : (x : List ℕ) (v : Val) (ps : List Part) (i : ℕ) (d : Part) → i < length ps
      → fits_alternative w x (to_parts (map part_of (drop i ps))) v
      ≡ (if bytes_eq x (get_or ps i d).name then not (get_or ps i d).taken && fits w (type_of (get_or ps i d).ty) v else fits_alternative w x (to_parts (map part_of (drop (i + 1) ps))) v)
  unfolding fits_alternative to_parts
  alternatives_rest x v ps i d h =
      at_drop_more (λ l. fits_alternative w x (to_parts (map part_of l)) v) ps i d h
      ∙ ap (λ q. if bytes_eq x q.name then not q.taken && fits w q.ty v else fits_alternative w x (to_parts (map part_of (drop (i + 1) ps))) v) (piece_of (get_or ps i d))

  pub alternatives_stop : (x : List ℕ) (v : Val) (ps : List Part) (i : ℕ) (d : Part) → i < length ps → x ≡ (get_or ps i d).name
      → fits_alternative w x (to_parts (map part_of (drop i ps))) v ≡ (not (get_or ps i d).taken && fits w (type_of (get_or ps i d).ty) v)
  alternatives_stop x v ps i d h e =
      alternatives_rest x v ps i d h
      ∙ ap (λ b. if b then not (get_or ps i d).taken && fits w (type_of (get_or ps i d).ty) v else fits_alternative w x (to_parts (map part_of (drop (i + 1) ps))) v) (same_when x (get_or ps i d).name e)

  pub alternatives_more : (x : List ℕ) (v : Val) (ps : List Part) (i : ℕ) (d : Part) → i < length ps → (x ≡ (get_or ps i d).name → ⊥)
      → fits_alternative w x (to_parts (map part_of (drop (i + 1) ps))) v ≡ fits_alternative w x (to_parts (map part_of (drop i ps))) v
  alternatives_more x v ps i d h e =
      sym (alternatives_rest x v ps i d h
      ∙ ap (λ b. if b then not (get_or ps i d).taken && fits w (type_of (get_or ps i d).ty) v else fits_alternative w x (to_parts (map part_of (drop (i + 1) ps))) v) (same_unless x (get_or ps i d).name e))

  pub alternatives_past : (x : List ℕ) (v : Val) (ps : List Part) (i : ℕ) → length ps ≤ i → fits_alternative w x (to_parts (map part_of (drop i ps))) v ≡ false
  unfolding fits_alternative to_parts
  alternatives_past x v ps i h = at_drop_all (λ l. fits_alternative w x (to_parts (map part_of l)) v) ps i h

  -- fields
  fields_rest : (vs : List Value) (ps : List Part) (i : ℕ) (v : Value) (p : Part) → i < length vs → i < length ps
      → fits_fields w (to_parts (map part_of (drop i ps))) (to_vals (map value_of (drop i vs)))
      ≡ ((if (get_or ps i p).taken then is_gone (value_of (get_or vs i v)) else fits w (type_of (get_or ps i p).ty) (value_of (get_or vs i v)))
      && fits_fields w (to_parts (map part_of (drop (i + 1) ps))) (to_vals (map value_of (drop (i + 1) vs))))
  unfolding fits_fields to_parts to_vals
  fields_rest vs ps i v p h k =
      at_drop_more (λ l. fits_fields w (to_parts (map part_of (drop i ps))) (to_vals (map value_of l))) vs i v h
      ∙ at_drop_more (λ l. fits_fields w (to_parts (map part_of l)) (to_vals (map value_of (get_or vs i v ∷ drop (i + 1) vs)))) ps i p k
      ∙ ap (λ q. (if q.taken then is_gone (value_of (get_or vs i v)) else fits w q.ty (value_of (get_or vs i v)))
      && fits_fields w (to_parts (map part_of (drop (i + 1) ps))) (to_vals (map value_of (drop (i + 1) vs)))) (piece_of (get_or ps i p))

  pub field_fails : (vs : List Value) (ps : List Part) (i : ℕ) (v : Value) (p : Part) → i < length vs → i < length ps
      → (if (get_or ps i p).taken then is_gone (value_of (get_or vs i v)) else fits w (type_of (get_or ps i p).ty) (value_of (get_or vs i v))) ≡ false
      → fits_fields w (to_parts (map part_of (drop i ps))) (to_vals (map value_of (drop i vs))) ≡ false
  field_fails vs ps i v p h k e = fields_rest vs ps i v p h k ∙ ap (λ b. b && fits_fields w (to_parts (map part_of (drop (i + 1) ps))) (to_vals (map value_of (drop (i + 1) vs)))) e

  pub field_fits : (vs : List Value) (ps : List Part) (i : ℕ) (v : Value) (p : Part) → i < length vs → i < length ps
      → (if (get_or ps i p).taken then is_gone (value_of (get_or vs i v)) else fits w (type_of (get_or ps i p).ty) (value_of (get_or vs i v))) ≡ true
      → fits_fields w (to_parts (map part_of (drop (i + 1) ps))) (to_vals (map value_of (drop (i + 1) vs)))
      ≡ fits_fields w (to_parts (map part_of (drop i ps))) (to_vals (map value_of (drop i vs)))
  field_fits vs ps i v p h k e = sym (fields_rest vs ps i v p h k ∙ ap (λ b. b && fits_fields w (to_parts (map part_of (drop (i + 1) ps))) (to_vals (map value_of (drop (i + 1) vs)))) e)

  pub fields_past : (vs : List Value) (ps : List Part) (i : ℕ) → length vs ≤ i → length ps ≡ length vs
      → fits_fields w (to_parts (map part_of (drop i ps))) (to_vals (map value_of (drop i vs))) ≡ true
  unfolding fits_fields to_parts to_vals
  fields_past [] [] zero h e = refl
  fields_past [] [] (suc i) h e = refl
  fields_past [] (p ∷ ps) i h e = absurd (omega (arith, e))
  fields_past (v ∷ vs) [] i h e = absurd (omega (arith, e))
  fields_past (v ∷ vs) (p ∷ ps) zero h e = absurd (omega (arith, h))
  fields_past (v ∷ vs) (p ∷ ps) (suc i) h e = fields_past vs ps i (omega (arith, h)) (omega (arith, e))

  -- no values fit fields of another number
  pub other_number : (vs : List Value) (ps : List Part) → length vs ≢ length ps → fits_fields w (to_parts (map part_of ps)) (to_vals (map value_of vs)) ≡ false
  unfolding fits_fields to_parts to_vals
  other_number [] [] h = absurd (h refl)
  other_number (v ∷ vs) [] h = refl
  other_number [] (p ∷ ps) h = refl
  other_number (v ∷ vs) (p ∷ ps) h = and_false _ _ (other_number vs ps (λ e. h (ap suc e)))
    where
      and_false : (a b : Bool) → b ≡ false → (a && b) ≡ false
      and_false true b e = e
      and_false false b e = refl

  -- nothing fits an abstract type of two arguments or more
  two_arguments : (name : List ℕ) (t u : Tau) (us : Taus) (v : Val) → fits_abstract w name (more t (more u us)) v ≡ false
  two_arguments name (var n) u us v = refl
  two_arguments name (seen n) u us v = refl
  two_arguments name unit u us v = refl
  two_arguments name (word s) u us v = refl
  two_arguments name bool u us v = refl
  two_arguments name (arrow a b) u us v = refl
  two_arguments name (abs x ts sigil) u us v = refl
  two_arguments name (variant ps) u us v = refl
  two_arguments name (fields ps sigil) u us v = refl

  pub many_arguments : (name : List ℕ) (ts : List Ty) (v : Val) → 2 ≤ length ts → fits_abstract w name (to_taus (map type_of ts)) v ≡ false
  unfolding to_taus
  many_arguments name [] v h = absurd (omega (arith, h))
  many_arguments name (t ∷ []) v h = absurd (omega (arith, h))
  many_arguments name (t ∷ u ∷ ts) v h = two_arguments name (type_of t) (type_of u) (to_taus (map type_of ts)) v

pub ruleset fit_steps = (many_arguments, alternatives_stop, alternatives_more, alternatives_past, field_fails, field_fits, fields_past, other_number)
