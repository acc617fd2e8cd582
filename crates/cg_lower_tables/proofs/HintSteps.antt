-- Hints to where items of a list first stand.
use Rattle.std.proofs.Common.{◌≡◌, ℕ, zero, suc, ◌+◌, ◌<◌, ◌≤◌, ◌⊎◌, inl, inr, Bool, true, false, cond, nat_eq, List, [], ◌∷◌, ◌++◌, Option, Some, None, is_some, length, slice_get, true≢false, refl, sym, ap, ◌∙◌, subst, arith}
use Rattle.std.specs.Prelude.{Result, Ok, Err, OnErr, OnOk}
use Rattle.std.specs.Map.{lookup}
use Rattle.std.specs.Option.{option_map}
use Rattle.std.proofs.lemmas.List.{length-append}
use Rattle.indexmap.specs.IndexMap.{insert_entry}
use Rattle.indexmap.proofs.MapLemmas.{absent_from_lookup, insert_entry-absent}
use Rattle.cg_base.specs.Same.{same_type}
use Rattle.cg_base.specs.Types.{Tau}
use Rattle.cg_inst.proofs.SameInstance.{instance_is, instance_same}
use Rattle.cg_inst.proofs.SameType.{same_is, same_self}
use Rattle.cg_inst.specs.Lists.{same_instance}
use Rattle.cg_lower_def.specs.Lowered.{arrow_number}
use Rattle.cg_inst_types.specs.Places.{IsOnce, Keeps}
use Rattle.cg_typing.specs.Instances.{Instance}
use Rattle.cg_update.specs.Updates.{place_of}
use Rattle.cg_lower_tables.specs.declared.keys.Key.{Key}
use Rattle.cg_lower_tables.specs.Hints.{AreHints, IsHint, IsKeyOf, IsPlaceOf, IsSound, KeepsHints, hint_of, same_key}
use Rattle.cg_lower_tables.proofs.KeySteps.{key_stays, one_key, one_place, place_stays}
use Rattle.cg_inst_types.proofs.Searches.{none_left}
use Rattle.cg_lower_tables.proofs.Rows.{get_push}

-- ---- one entry more

module _ {K : Type 0} (test : K → Bool) (k : K) (v : ℕ) where
  pub lookup_kept : (es : List (K × ℕ)) (j : ℕ) → lookup test es ≡ Some j → lookup test (es ++ (k, v) ∷ []) ≡ Some j
  lookup_kept [] j e = absurd (cc)
  lookup_kept (x ∷ es) j e = by (test x.0) e (lookup_kept es j)
    where
      by : (b : Bool) → cond b (Some x.1) (lookup test es) ≡ Some j → (lookup test es ≡ Some j → lookup test (es ++ (k, v) ∷ []) ≡ Some j)
          → cond b (Some x.1) (lookup test (es ++ (k, v) ∷ [])) ≡ Some j
      by true e rest = e
      by false e rest = rest e

  pub lookup_low : (es : List (K × ℕ)) (j : ℕ) → lookup test (es ++ (k, v) ∷ []) ≡ Some j → (lookup test es ≡ Some j) ⊎ (j ≡ v)
  lookup_low [] j e = by (test k) e
    where
      by : (b : Bool) → cond b (Some v) None ≡ Some j → (None ≡ Some j) ⊎ (j ≡ v)
      by true e = inr (cc)
      by false e = inl e
  lookup_low (x ∷ es) j e = by (test x.0) e (lookup_low es j)
    where
      by : (b : Bool) → cond b (Some x.1) (lookup test (es ++ (k, v) ∷ [])) ≡ Some j → (lookup test (es ++ (k, v) ∷ []) ≡ Some j → (lookup test es ≡ Some j) ⊎ (j ≡ v))
          → (cond b (Some x.1) (lookup test es) ≡ Some j) ⊎ (j ≡ v)
      by true e rest = inl e
      by false e rest = rest e

  pub lookup_held : test k ≡ true → (es : List (K × ℕ)) → (j : ℕ) × (lookup test (es ++ (k, v) ∷ []) ≡ Some j)
  lookup_held t [] = (v, ap (λ b. cond b (Some v) None) t)
  lookup_held t (x ∷ es) = by (test x.0) (lookup_held t es)
    where
      by : (b : Bool) → (j : ℕ) × (lookup test (es ++ (k, v) ∷ []) ≡ Some j) → (j : ℕ) × (cond b (Some x.1) (lookup test (es ++ (k, v) ∷ [])) ≡ Some j)
      by true rest = (x.1, refl)
      by false rest = rest

-- a place that is one more than the last
pub low_at : {K : Type 0} (old new : K → Option ℕ) (at n : ℕ) → at ≡ n → ((q : K) (j : ℕ) → new q ≡ Some j → (old q ≡ Some j) ⊎ (j ≡ at))
    → (q : K) (j : ℕ) → new q ≡ Some j → (old q ≡ Some j) ⊎ (j ≡ n)
low_at old new at n e low = subst (λ m. (q : _) (j : ℕ) → new q ≡ Some j → (old q ≡ Some j) ⊎ (j ≡ m)) e low

-- what holds of a list that has one more, or has none more
either : {A B E : Type 0} (P : B → Type 0) (r : Result A E) (new more old : B) → OnOk r (new ≡ more) → OnErr r (new ≡ old) → P more → P old → P new
either P (Ok u) new more old p q m o = subst P (sym p) m
either P (Err e) new more old p q m o = subst P (sym q) o

pub some_there : {A : Type 0} (o : Option A) → is_some o ≡ true → (j : A) × (o ≡ Some j)
some_there None p = absurd (true≢false (sym p))
some_there (Some x) p = (x, refl)

pub inserted : {K : Type 0} (eq : K → K → Bool) (k : K) (v : ℕ) (es : List (K × ℕ)) → is_some (lookup (eq k) es) ≡ false → insert_entry eq es k v ≡ es ++ (k, v) ∷ []
inserted eq k v es p = insert_entry-absent eq k v es (absent_from_lookup (eq k) es (none_left (lookup (eq k) es) p))

-- ---- what is kept for a list

module _ {A K : Type 0} (IsKey : K → A → Type 0) (hint : K → Option ℕ) (xs : List A) (are : AreHints IsKey hint xs) where
  pub hinted : ((k l : K) (x : A) → IsKey k x → IsKey l x → k ≡ l) → (k : K) (x : A) → IsKey k x → IsHint xs x (hint k)
  hinted one k x is = by (hint k) refl
    where
      by : (o : Option ℕ) → hint k ≡ o → IsHint xs x o
      by None e = λ i at.
          let h = are.each i x at in
          let same : h.0 ≡ k = one h.0 k x h.1 is in let there : hint k ≡ Some h.2 = ap hint (sym same) ∙ h.3 in absurd (cc)
      by (Some j) e = λ i at.
          let h = are.each i x at in
          let same : h.0 ≡ k = one h.0 k x h.1 is in
          let there : hint k ≡ Some h.2 = ap hint (sym same) ∙ h.3 in let number : h.2 ≡ j = cc in let le = h.4 in omega (arith, number, le)

  pub noted : (new : K → Option ℕ) → ((q : K) (j : ℕ) → hint q ≡ Some j → new q ≡ Some j) → ((q : K) (j : ℕ) → new q ≡ Some j → (hint q ≡ Some j) ⊎ (j ≡ length xs)) → AreHints IsKey new xs
  noted new kept low = record {
    each = λ i x at. let h = are.each i x at in (h.0, h.1, h.2, kept h.0 h.2 h.3, h.4);
    low = λ q j e. by q j (low q j e);
  }
    where
      by : (q : K) (j : ℕ) → (hint q ≡ Some j) ⊎ (j ≡ length xs) → j ≤ length xs
      by q j (inl e) = are.low q j e
      by q j (inr e) = omega (arith, e)

  pub listed_more : (k : K) (x : A) → IsKey k x → (j : ℕ) → hint k ≡ Some j → AreHints IsKey hint (xs ++ x ∷ [])
  listed_more k x is j e = record {
    each = λ i y at. by i y (get_push xs x i y at);
    low = λ q n f. let le = are.low q n f in let count : length (xs ++ x ∷ []) ≡ length xs + 1 = length-append xs (x ∷ []) in omega (arith, le, count);
  }
    where
      by : (i : ℕ) (y : A) → (slice_get xs i ≡ Some y) ⊎ ((i ≡ length xs) × (x ≡ y)) → (q : K) × IsKey q y × (n : ℕ) × (hint q ≡ Some n) × (n ≤ i)
      by i y (inl at) = are.each i y at
      by i y (inr at) = (k, subst (IsKey k) at.1 is, j, e, let le = are.low k j e in let last = at.0 in omega (arith, le, last))

  pub rekeyed : (IsNew : K → A → Type 0) → ((k : K) (x : A) → IsKey k x → IsNew k x) → AreHints IsNew hint xs
  rekeyed IsNew f = record {
    each = λ i x at. let h = are.each i x at in (h.0, f h.0 x h.1, h.2, h.3, h.4);
    low = are.low;
  }

-- what is kept where a place is noted, and then an item comes or none does
module _ {A K : Type 0} (IsKey : List Tau → K → A → Type 0) (eq : K → K → Bool) (k : K) (x : A) (xs : List A) (hints more : List (K × ℕ)) (at : ℕ) (count : at ≡ length xs)
    (kept : (q : K) (j : ℕ) → hint_of eq hints q ≡ Some j → hint_of eq more q ≡ Some j)
    (low : (q : K) (j : ℕ) → hint_of eq more q ≡ Some j → (hint_of eq hints q ≡ Some j) ⊎ (j ≡ at)) where
  pub keeps_noted : KeepsHints IsKey eq k x xs hints xs more
  keeps_noted types is are = noted (IsKey types) (hint_of eq hints) xs are (hint_of eq more) kept (low_at (hint_of eq hints) (hint_of eq more) at (length xs) count low)

  module _ {E : Type 0} (r : Result Unit E) (new : List A) (ok : OnOk r (new ≡ xs ++ x ∷ [])) (err : OnErr r (new ≡ xs)) where
    pub keeps_more : (j : ℕ) × (hint_of eq more k ≡ Some j) → KeepsHints IsKey eq k x xs hints new more
    keeps_more held types is are =
        either (AreHints (IsKey types) (hint_of eq more)) r new (xs ++ x ∷ []) xs ok err
        (listed_more (IsKey types) (hint_of eq more) xs (keeps_noted types is are) k x is held.0 held.1) (keeps_noted types is are)

    pub few_more : at < 4294967296 → length xs ≤ 4294967296 → length new ≤ 4294967296
    few_more room few =
        let more : length (xs ++ x ∷ []) ≡ length xs + 1 = length-append xs (x ∷ []) in
        either (λ ys. length ys ≤ 4294967296) r new (xs ++ x ∷ []) xs ok err (omega (arith, more, room, count)) few

-- ---- what is kept for both lists

module _ (types : List Tau) (list : List Instance) (places : List (Key × ℕ)) (arrows : List Tau) (numbers : List (ℕ × ℕ)) (sound : IsSound types list places arrows numbers) where
  -- the table of types grows
  pub sound_types : (new : List Tau) → Keeps types new → IsSound new list places arrows numbers
  sound_types new kept = record {
    few = sound.few;
    few_arrows = sound.few_arrows;
    of_list = rekeyed (IsKeyOf types) (hint_of same_key places) list sound.of_list (IsKeyOf new) (key_stays types new kept);
    of_arrows = rekeyed (IsPlaceOf types) (hint_of nat_eq numbers) arrows sound.of_arrows (IsPlaceOf new) (place_stays types new kept);
  }

  pub place_hinted : IsOnce types → (k : Key) (x : Instance) → IsKeyOf types k x → IsHint list x (hint_of same_key places k)
  place_hinted once k x is = hinted (IsKeyOf types) (hint_of same_key places) list sound.of_list (one_key types once) k x is

  pub number_hinted : IsOnce types → (k : ℕ) (t : Tau) → IsPlaceOf types k t → IsHint arrows t (hint_of nat_eq numbers k)
  number_hinted once k t is = hinted (IsPlaceOf types) (hint_of nat_eq numbers) arrows sound.of_arrows (one_place types once) k t is

  -- the table of types grows, and one of the lists
  module _ (grown : List Tau) (kept : Keeps types grown) where
    pub list_sound : (new : List Instance) (more : List (Key × ℕ)) → (length list ≤ 4294967296 → length new ≤ 4294967296) → AreHints (IsKeyOf grown) (hint_of same_key more) new
        → IsSound grown new more arrows numbers
    list_sound new more few are = record {
      few = few sound.few;
      few_arrows = sound.few_arrows;
      of_list = are;
      of_arrows = (sound_types grown kept).of_arrows;
    }

    pub arrows_sound : (new : List Tau) (more : List (ℕ × ℕ)) → (length arrows ≤ 4294967296 → length new ≤ 4294967296) → AreHints (IsPlaceOf grown) (hint_of nat_eq more) new
        → IsSound grown list places new more
    arrows_sound new more few are = record {
      few = sound.few;
      few_arrows = few sound.few_arrows;
      of_list = (sound_types grown kept).of_list;
      of_arrows = are;
    }

-- ---- what is found by a hint

pub place_none : (x : Instance) (ys : List Instance) → IsHint ys x None → place_of x ys ≡ None
unfolding place_of
place_none x [] h = refl
place_none x (y ∷ ys) h = by (same_instance x y) refl (place_none x ys (λ i at. h (suc i) at))
  where
    by : (b : Bool) → same_instance x y ≡ b → place_of x ys ≡ None → cond b (Some zero) (option_map suc (place_of x ys)) ≡ None
    by true e rest = absurd (h zero (ap Some (sym (instance_is x y e))))
    by false e rest = ap (option_map suc) rest

pub place_first : (x : Instance) (ys : List Instance) (j : ℕ) → slice_get ys j ≡ Some x → IsHint ys x (Some j) → place_of x ys ≡ Some j
unfolding place_of
place_first x [] j e h = absurd (cc)
place_first x (y ∷ ys) zero e h =
    let same : y ≡ x = cc in ap (λ b. cond b (Some zero) (option_map suc (place_of x ys))) (ap (same_instance x) same ∙ instance_same x)
place_first x (y ∷ ys) (suc j) e h = by (same_instance x y) refl (place_first x ys j e (λ i at. let le = h (suc i) at in omega (arith, le)))
  where
    by : (b : Bool) → same_instance x y ≡ b → place_of x ys ≡ Some j → cond b (Some zero) (option_map suc (place_of x ys)) ≡ Some (suc j)
    by true f rest = absurd (let le = h zero (ap Some (sym (instance_is x y f))) in omega (arith, le))
    by false f rest = ap (option_map suc) rest

pub number_none : (t : Tau) (us : List Tau) → IsHint us t None → arrow_number us t ≡ length us
unfolding arrow_number
number_none t [] h = refl
number_none t (u ∷ us) h = by (same_type u t) refl (number_none t us (λ i at. h (suc i) at))
  where
    by : (b : Bool) → same_type u t ≡ b → arrow_number us t ≡ length us → cond b zero (suc (arrow_number us t)) ≡ length (u ∷ us)
    by true e rest = absurd (h zero (ap Some (same_is u t e)))
    by false e rest = ap suc rest

pub number_first : (t : Tau) (us : List Tau) (j : ℕ) → slice_get us j ≡ Some t → IsHint us t (Some j) → arrow_number us t ≡ j
unfolding arrow_number
number_first t [] j e h = absurd (cc)
number_first t (u ∷ us) zero e h =
    let same : u ≡ t = cc in ap (λ b. cond b zero (suc (arrow_number us t))) (ap (λ v. same_type v t) same ∙ same_self t)
number_first t (u ∷ us) (suc j) e h = by (same_type u t) refl (number_first t us j e (λ i at. let le = h (suc i) at in omega (arith, le)))
  where
    by : (b : Bool) → same_type u t ≡ b → arrow_number us t ≡ j → cond b zero (suc (arrow_number us t)) ≡ suc j
    by true f rest = absurd (let le = h zero (ap Some (same_is u t f)) in omega (arith, le))
    by false f rest = ap suc rest

pub ruleset hint_steps = (lookup_kept, lookup_low)
