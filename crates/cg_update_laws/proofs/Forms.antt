-- What each form makes of scalars that represent values: numbers, records and variants.
use Rattle.std.proofs.Common.{◌≡◌, ℕ, zero, suc, Bool, true, false, not, nat_eq, IsTrue, Option, Some, None, List, [], ◌∷◌, unwrap_or, refl, sym, ap, ◌∙◌, arith, lt-ltb, ltb-true, eqb-true, eq-eqb, subst as at}
use Rattle.std.proofs.lemmas.Bool.{leb-true}
use Rattle.std.proofs.Math.Pow.{pow_mono}
use Rattle.std.specs.Str.{bytes_eq}
use Rattle.cg_base.specs.declared.kind.Sigil.TheVariants.{U}
use Rattle.cg_base.specs.Types as types
use Rattle.cg_base.specs.Types.{Tau, word, bool, variant, fields, Parts}
use Rattle.cg_core.specs.declared.op.Op.{Op}
use Rattle.cg_eval_laws.proofs.FitOperators.{operated_fits, operated_both_fit}
use Rattle.cg_heap.specs.declared.cell.Scalar.{Scalar}
use Rattle.cg_heap.specs.declared.cell.Scalar.TheVariants.{Word}
use Rattle.cg_heap.specs.Reps.{first_number, Heap, HeapWorld, Holds, HoldsAt, tail}
use Rattle.cg_inst.proofs.Names.{by_cases}
use Rattle.cg_kinds.specs.Kinds.{is_word, subst}
use Rattle.cg_eval_operations.specs.Operators.{literal, on_one, on_two, operated, operated_both, truth, width}
use Rattle.cg_eval_operations.specs.Positions.{position_among}
use Rattle.cg_typing.specs.Operators.{Sort, arithmetic, equality, order, logic, gives as type_given, sort_of, takes}
use Rattle.cg_typing.specs.Parts.{alternative_in, held, is_bool, is_last, is_left, part_named, widens, with_part}
use Rattle.cg_typing.specs.Rules.{InRange}
use Rattle.cg_update.specs.Machines.{part_at, type_of_part}
use Rattle.cg_update.specs.Turns.{alternatives_in, chosen_in, field_of, place_in}
use Rattle.cg_update.specs.Updates as updates
use Rattle.cg_value.specs.Fits.{World, fits}
use Rattle.cg_value.specs.Forms.{field, has_name, is_true, payload_in}
use Rattle.cg_value.specs.Values.{Val, chosen, nothing, number}
use Rattle.cg_update.specs.Among.{are_apart}
use Rattle.cg_update_laws.proofs.Named.{IsRead, is_untaken, place_held, alternative_made, at_place, last_name, others_held, payload_held, place_name, slots_with}
use Rattle.cg_typing_laws.proofs.Named.{left_is_there as left_there}
use Rattle.cg_base.proofs.Sequences.{itself as name_same, is_name as name_is}
use Rattle.cg_base.proofs.Counts.{no_steps as never}
use Rattle.cg_base.proofs.Truths.{first_holds}
use Rattle.cg_typing.proofs.Lists.{scalar_taken}

-- ---- numbers

-- no functions and no abstract types
abbrev plain : World
plain = record { is_of = λ f ts t. false; holds = λ x v. false }

pub scalar_given : (sort : Sort) (t : Tau) → IsTrue (takes sort t) → IsTrue (takes equality (type_given sort t))
scalar_given arithmetic t h = first_holds (is_word t) (is_bool t) h
scalar_given equality t h = refl
scalar_given order t h = refl
scalar_given logic t h = refl

module _ (world : HeapWorld) (h : Heap) where
  abbrev H : Tau → List Scalar → Val → Type 0
  H t us v = Holds world h t us v

  -- a number of a word or a truth value
  number_fits : (t : Tau) (us : List Scalar) (v : Val) → IsTrue (takes equality t) → H t us v → (v ≡ number (first_number us)) × IsTrue (fits plain (subst [] t) v)
  unfolding Holds fits subst
  number_fits (word w) us v k f = (f.2, ap (fits plain (word w)) f.2 ∙ lt-ltb _ _ f.1)
  number_fits bool us v k f = (f.2, ap (fits plain bool) f.2 ∙ lt-ltb _ _ f.1)
  number_fits _ us v k f = never k

  fitting_held : (t : Tau) (n : ℕ) → IsTrue (takes equality t) → IsTrue (fits plain (subst [] t) (number n)) → H t (Word n ∷ []) (number n)
  unfolding Holds fits subst
  fitting_held (word w) n k f = (refl, ltb-true n _ f, refl)
  fitting_held bool n k f = (refl, ltb-true n _ f, refl)
  fitting_held _ n k f = never k

  pub operated_held : (o : Op) (t : Tau) (us : List Scalar) (v : Val) → IsTrue (takes (sort_of o) t) → H t us v
      → H (type_given (sort_of o) t) (updates.number (on_one o (width t) (first_number us))) (operated o t v)
  unfolding operated
  operated_held o t us v k f =
      let p = number_fits t us v (scalar_taken (sort_of o) t k) f in
      let here : operated o t v ≡ number (on_one o (width t) (first_number us)) = ap (operated o t) p.0 in
      let q = operated_fits plain [] o t v k p.1 in
      at (λ z. H (type_given (sort_of o) t) (updates.number (on_one o (width t) (first_number us))) z) (sym here)
      (fitting_held (type_given (sort_of o) t) (on_one o (width t) (first_number us)) (scalar_given (sort_of o) t k) (at (λ z. IsTrue (fits plain (subst [] (type_given (sort_of o) t)) z)) here q))

  pub operated_both_held : (o : Op) (t : Tau) (us ws : List Scalar) (v w : Val) → IsTrue (takes (sort_of o) t) → H t us v → H t ws w
      → H (type_given (sort_of o) t) (updates.number (on_two o (width t) (first_number us) (first_number ws))) (operated_both o t v w)
  unfolding operated_both
  operated_both_held o t us ws v w k f g =
      let p = number_fits t us v (scalar_taken (sort_of o) t k) f in
      let r = number_fits t ws w (scalar_taken (sort_of o) t k) g in
      let here : operated_both o t v w ≡ number (on_two o (width t) (first_number us) (first_number ws)) = ap (λ z. operated_both o t z w) p.0 ∙ ap (operated_both o t (number (first_number us))) r.0 in
      let q = operated_both_fit plain [] o t v w k p.1 r.1 in
      at (λ z. H (type_given (sort_of o) t) (updates.number (on_two o (width t) (first_number us) (first_number ws))) z) (sym here)
      (fitting_held (type_given (sort_of o) t) (on_two o (width t) (first_number us) (first_number ws)) (scalar_given (sort_of o) t k) (at (λ z. IsTrue (fits plain (subst [] (type_given (sort_of o) t)) z)) here q))

  pub nothing_held : H types.unit (updates.number 0) nothing
  unfolding Holds
  nothing_held = (refl, refl)

  pub truth_held : (b : Bool) → H bool (updates.number (truth b)) (number (truth b))
  unfolding Holds
  truth_held true = (refl, omega arith, refl)
  truth_held false = (refl, omega arith, refl)

  pub literal_held : (n : Option ℕ) (t : Tau) → IsTrue (is_word t) → InRange n t → H t (updates.literal n) (literal n)
  unfolding Holds
  literal_held None t k r = absurd r
  literal_held (Some n) (word w) k r = (refl, r, refl)
  literal_held (Some n) _ k r = never k

  pub cast_held : (t u : Tau) → IsTrue (widens t u) → (us : List Scalar) (v : Val) → H t us v → H u us v
  unfolding Holds
  cast_held (word a) (word b) k us v f = let wide = pow_mono (leb-true _ _ k) in let low = f.1 in (f.0, omega arith, f.2)
  cast_held _ _ k us v f = never k

  -- a condition
  pub truth_is : (us : List Scalar) (v : Val) → H bool us v → is_true v ≡ not (nat_eq (first_number us) 0)
  unfolding Holds is_true
  truth_is us v f = ap is_true f.2 ∙ by_number (first_number us)
    where
      by_number : (n : ℕ) → is_true (number n) ≡ not (nat_eq n 0)
      by_number zero = refl
      by_number (suc n) = by_cases (λ b. true ≡ not b) (nat_eq (suc n) 0) (λ e. absurd (let q = eqb-true (suc n) 0 e in omega (arith, q))) (λ e. refl)

  -- a field by its place
  pub place_of_held : (i : ℕ) (ps : Parts) (us : List Scalar) (v : Val) → H (fields ps U) us v → IsTrue (is_untaken i ps) → H (type_of_part i ps) (field_of (fields ps U) us i) (field v i)
  unfolding Holds field
  place_of_held i ps us v k l = at (λ z. H (type_of_part i ps) (unwrap_or (part_at i ps us) []) (field z i)) (sym k.3) (place_held world h i ps us k.0 k.2 l)

  -- ---- variants

  pub con_held : (n : List ℕ) (t : Tau) (us : List Scalar) (v : Val) → IsTrue (is_left (alternative_in n t)) → H (held (alternative_in n t)) us v → H t (chosen_in n t us) (chosen n v)
  unfolding Holds
  con_held n (variant ps) us v l k = let m = alternative_made world h n ps us v l k in (n, v, refl, m.1, m.0, refl)
  con_held n _ us v l k = never l

  -- the place of an alternative is that of its name
  pub name_held : (n : List ℕ) (t : Tau) (us : List Scalar) (v : Val) → IsTrue (are_apart (alternatives_in t)) → H t us v → IsTrue (is_left (alternative_in n t)) → has_name n v ≡ nat_eq (first_number us) (place_in n t)
  unfolding Holds has_name
  name_held n (variant ps) us v u k l = ap (has_name n) k.5 ∙ by_cases (λ b. b ≡ nat_eq (first_number us) (position_among n ps)) (bytes_eq n k.0) here elsewhere
    where
      here : bytes_eq n k.0 ≡ true → true ≡ nat_eq (first_number us) (position_among n ps)
      here e =
          sym (eq-eqb _ _ (at_place world h n ps (first_number us) (tail us) k.1 u
          (at (λ z. HoldsAt world h ps (first_number us) (tail us) z k.1) (sym (name_is n k.0 e)) k.4)))

      elsewhere : bytes_eq n k.0 ≡ false → false ≡ nat_eq (first_number us) (position_among n ps)
      elsewhere e = by_cases (λ b. false ≡ b) (nat_eq (first_number us) (position_among n ps))
          (λ q. absurd (let s = name_same n in
          let p = place_name world h n ps (tail us) k.0 k.1 (left_there (part_named n ps) l) (at (λ i. HoldsAt world h ps i (tail us) k.0 k.1) (eqb-true _ _ q) k.4) in
          let r = ap (bytes_eq n) p in cc)) (λ q. refl)
  name_held n _ us v u k l = never l

  -- the payload of this alternative
  pub payload_read : (n : List ℕ) (t : Tau) (us : List Scalar) (v : Val) → H t us v → IsTrue (is_left (alternative_in n t)) → nat_eq (first_number us) (place_in n t) ≡ true
      → IsRead world h (place_in n t) (alternatives_in t) (tail us) (held (alternative_in n t)) (payload_in v)
  unfolding Holds payload_in
  payload_read n (variant ps) us v k l e =
      at (λ z. IsRead world h (position_among n ps) ps (tail us) (held (part_named n ps)) (payload_in z)) (sym k.5)
      (payload_held world h n ps (tail us) k.0 k.1 (left_there (part_named n ps) l) k.3 (at (λ i. HoldsAt world h ps i (tail us) k.0 k.1) (eqb-true _ _ e) k.4))
  payload_read n _ us v k l e = never l

  -- another alternative
  pub others_are_held : (n : List ℕ) (t : Tau) (us : List Scalar) (v : Val) → H t us v → IsTrue (is_left (alternative_in n t)) → has_name n v ≡ false → H (with_part n true t) us v
  unfolding Holds has_name
  others_are_held n (variant ps) us v k l e =
      (k.0, k.1, k.2, k.3 ∙ sym (slots_with n true ps), others_held world h n ps (first_number us) (tail us) k.0 k.1 (sym (ap (has_name n) k.5) ∙ e) k.4, k.5)
  others_are_held n _ us v k l e = never l

  -- the last alternative that is left
  pub last_is : (n : List ℕ) (t : Tau) (us : List Scalar) (v : Val) → H t us v → IsTrue (is_last n t) → has_name n v ≡ true
  unfolding Holds has_name
  last_is n (variant ps) us v k o = ap (has_name n) k.5 ∙ ap (bytes_eq n) (last_name world h n ps (first_number us) (tail us) k.0 k.1 o k.4) ∙ name_same n
  last_is n _ us v k o = never o
