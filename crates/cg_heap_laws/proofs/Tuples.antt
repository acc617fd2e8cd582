-- Unboxed pairs and triples of types of one slot: taken apart, and what they reach.
use Rattle.std.proofs.Common.{◌≡◌, ℕ, ◌+◌, false, List, [], ◌∷◌, length, codes, refl, sym, ap, ◌∙◌, subst, arith}
use Rattle.cg_base.specs.declared.kind.Sigil.{Sigil}
use Rattle.cg_base.specs.declared.kind.Sigil.TheVariants.{W, R, U}
use Rattle.cg_base.specs.Types.{Tau, fields, Parts, end, part}
use Rattle.cg_heap.specs.declared.cell.Scalar.{Scalar}
use Rattle.cg_heap.specs.Reps.{Heap, HeapWorld, Holds, HoldsAll, slots, foot, foot_all}
use Rattle.cg_typing.specs.Library.{pair, triple}
use Rattle.cg_heap_laws.proofs.LibraryParts.{apart, no_more, together, together_foot}
use Rattle.cg_value.specs.Forms as forms
use Rattle.cg_value.specs.Values as values
use Rattle.cg_value.specs.Values.{Val, Vals, parts}
use Rattle.cg_base.proofs.Sequences.{append_none}

-- lists one behind the other, as one
three_are : (us us1 us2 us3 : List Scalar) (u x y : Scalar) → us ≡ u ∷ us1 → us1 ≡ x ∷ us2 → us2 ≡ y ∷ us3 → us3 ≡ [] → us ≡ u ∷ x ∷ y ∷ []
three_are us us1 us2 us3 u x y a b c d = cc

values_are : (v : Val) (vs vs1 vs2 vs3 : Vals) (u x y : Val) → v ≡ parts vs → vs ≡ values.more u vs1 → vs1 ≡ values.more x vs2 → vs2 ≡ values.more y vs3 → vs3 ≡ values.none
    → v ≡ parts (values.more u (values.more x (values.more y values.none)))
values_are v vs vs1 vs2 vs3 u x y a b c d e = cc

module _ (world : HeapWorld) (h : Heap) where
  -- one scalar for each of two values
  pub record IsPair (a b : Tau) (us : List Scalar) (v : Val) : Type 0 where
    pub one : Scalar
    pub two : Scalar
    pub value_one : Val
    pub value_two : Val
    pub are_scalars : us ≡ one ∷ two ∷ []
    pub is_value : v ≡ forms.pair value_one value_two
    pub holds_one : Holds world h a (one ∷ []) value_one
    pub holds_two : Holds world h b (two ∷ []) value_two

  pub pair_is : (a b : Tau) → slots a ≡ 1 → slots b ≡ 1 → (us : List Scalar) (v : Val) → Holds world h (pair a b) us v → IsPair a b us v
  unfolding Holds
  pair_is a b m n us v r =
      let x = apart world h (codes "p1") a (part (codes "p2") b false end) m us r.0 r.2 in
      let y = apart world h (codes "p2") b end n x.scalars x.rest x.others in
      let z = no_more world h y.scalars y.rest y.others in
      record {
        one = x.scalar;
        two = y.scalar;
        value_one = x.value;
        value_two = y.value;
        are_scalars = x.are_scalars ∙ ap (λ us. x.scalar ∷ us) (y.are_scalars ∙ ap (λ us. y.scalar ∷ us) z.0);
        is_value = r.3 ∙ ap parts (x.are_values ∙ ap (λ vs. values.more x.value vs) (y.are_values ∙ ap (λ vs. values.more y.value vs) z.1));
        holds_one = x.first;
        holds_two = y.first;
      }

  -- three
  pub record IsTriple (a b c : Tau) (us : List Scalar) (v : Val) : Type 0 where
    pub one : Scalar
    pub two : Scalar
    pub three : Scalar
    pub value_one : Val
    pub value_two : Val
    pub value_three : Val
    pub are_scalars : us ≡ one ∷ two ∷ three ∷ []
    pub is_value : v ≡ parts (values.more value_one (values.more value_two (values.more value_three values.none)))
    pub holds_one : Holds world h a (one ∷ []) value_one
    pub holds_two : Holds world h b (two ∷ []) value_two
    pub holds_three : Holds world h c (three ∷ []) value_three

  pub triple_is : (a b c : Tau) → slots a ≡ 1 → slots b ≡ 1 → slots c ≡ 1 → (us : List Scalar) (v : Val) → Holds world h (triple a b c) us v → IsTriple a b c us v
  unfolding Holds
  triple_is a b c m n k us v r =
      let x = apart world h (codes "p1") a (part (codes "p2") b false (part (codes "p3") c false end)) m us r.0 r.2 in
      let y = apart world h (codes "p2") b (part (codes "p3") c false end) n x.scalars x.rest x.others in
      let w = apart world h (codes "p3") c end k y.scalars y.rest y.others in
      let z = no_more world h w.scalars w.rest w.others in
      record {
        one = x.scalar;
        two = y.scalar;
        three = w.scalar;
        value_one = x.value;
        value_two = y.value;
        value_three = w.value;
        are_scalars = three_are us x.scalars y.scalars w.scalars x.scalar y.scalar w.scalar x.are_scalars y.are_scalars w.are_scalars z.0;
        is_value = values_are v r.0 x.rest y.rest w.rest x.value y.value w.value r.3 x.are_values y.are_values w.are_values z.1;
        holds_one = x.first;
        holds_two = y.first;
        holds_three = w.first;
      }

  -- a pair, of one scalar and of any number
  pub is_pair : (a b : Tau) (u : Scalar) (us : List Scalar) (v w : Val) → Holds world h a (u ∷ []) v → Holds world h b us w
      → Holds world h (pair a b) (u ∷ us) (forms.pair v w)
  unfolding Holds
  is_pair a b u us v w r r' = (values.more v (values.more w values.none), tt, together world h (codes "p1") a (part (codes "p2") b false end) (u ∷ []) us v (values.more w values.none) r (second us r'), refl)
    where
      second : (us : List Scalar) → Holds world h b us w → HoldsAll world h (part (codes "p2") b false end) us (values.more w values.none)
      second us r = subst (λ us. HoldsAll world h (part (codes "p2") b false end) us (values.more w values.none)) (append_none us) (together world h (codes "p2") b end us [] w values.none r refl)

-- a record that isn't boxed reaches what its fields reach
unbox_foot : (h : Heap) (ps : Parts) (us : List Scalar) (q : ℕ) → (foot h W (fields ps U) us q ≡ foot_all h W ps us q) × (foot h R (fields ps U) us q ≡ foot_all h R ps us q)
unfolding foot
unbox_foot h ps us q = (omega arith, omega arith)

-- no fields reach nothing
end_foot : (h : Heap) (s : Sigil) (q : ℕ) → foot_all h s end [] q ≡ 0
unfolding foot
end_foot h s q = refl

module _ (h : Heap) where
  -- a pair reaches what its two parts reach
  pub pair_foot : (a b : Tau) (u : Scalar) (us : List Scalar) → 1 ≡ slots a → length us ≡ slots b → (q : ℕ)
      → (foot h W (pair a b) (u ∷ us) q ≡ foot h W a (u ∷ []) q + foot h W b us q) × (foot h R (pair a b) (u ∷ us) q ≡ foot h R a (u ∷ []) q + foot h R b us q)
  pair_foot a b u us m n q = ((unbox_foot h (part (codes "p1") a false (part (codes "p2") b false end)) (u ∷ us) q).0 ∙ both W, (unbox_foot h (part (codes "p1") a false (part (codes "p2") b false end)) (u ∷ us) q).1 ∙ both R)
    where
      both : (s : Sigil) → foot_all h s (part (codes "p1") a false (part (codes "p2") b false end)) (u ∷ us) q ≡ foot h s a (u ∷ []) q + foot h s b us q
      both s =
          let x = together_foot h s (codes "p1") a (part (codes "p2") b false end) (u ∷ []) us m q in
          let y : foot_all h s (part (codes "p2") b false end) us q ≡ foot h s b us q + foot_all h s end [] q =
          sym (ap (λ us. foot_all h s (part (codes "p2") b false end) us q) (append_none us)) ∙ together_foot h s (codes "p2") b end us [] n q in
          let z = end_foot h s q in
          omega arith

  -- and a triple what its three parts write
  pub triple_foot : (a b c : Tau) (u x y : Scalar) → 1 ≡ slots a → 1 ≡ slots b → 1 ≡ slots c → (q : ℕ)
      → foot h W (triple a b c) (u ∷ x ∷ y ∷ []) q ≡ foot h W a (u ∷ []) q + foot h W b (x ∷ []) q + foot h W c (y ∷ []) q
  triple_foot a b c u x y m n k q =
      let z = end_foot h W q in
      let g = (unbox_foot h (part (codes "p1") a false (part (codes "p2") b false (part (codes "p3") c false end))) (u ∷ x ∷ y ∷ []) q).0 in
      let d = together_foot h W (codes "p1") a (part (codes "p2") b false (part (codes "p3") c false end)) (u ∷ []) (x ∷ y ∷ []) m q in
      let e = together_foot h W (codes "p2") b (part (codes "p3") c false end) (x ∷ []) (y ∷ []) n q in
      let f = together_foot h W (codes "p3") c end (y ∷ []) [] k q in
      omega arith
