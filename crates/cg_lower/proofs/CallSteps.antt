-- Calls by name, one after the other, and the places of instances by their arrow types.
use Rattle.std.proofs.Common.{◌≡◌, ⊎_elim, ℕ, zero, suc, ◌+◌, ◌<◌, ◌≤◌, Bool, true, false, List, [], ◌∷◌, ◌++◌, length, get_or, map, replicate, set, slice_get, take, Some, refl, sym, ap, subst, ◌∙◌, arith, if◌then◌else◌}
use Rattle.std.proofs.lemmas.Bool.{cases_eq}
use Rattle.std.proofs.lemmas.List.{append_assoc, append-nil, get_or-map, get_or-set_same, get_or-set_other, length-map, length-set, length-take-le, map-append, map-set, same_lists}
use Rattle.std.specs.Global.{Vec}
use Rattle.cg_base.specs.Same.{same_type}
use Rattle.cg_base.specs.Types.{Tau, unit}
use Rattle.cg_graphs.specs.Orders.{lists}
use Rattle.cg_lower.proofs.CollectSteps.{mapped_more}
use Rattle.cg_lower.specs.Calls.{AreApart, calls_in, calls_of, nodes_called, put_tag, tags_of}
use Rattle.cg_lower.specs.Collected.{Copy, entries_of}
use Rattle.cg_lower.specs.Copies.{pair_of}
use Rattle.cg_lower_def.specs.Lowered.{Whole}
use Rattle.cg_mono.specs.Copies.{copy_of}
use Rattle.cg_mono.specs.declared.copies.Copy.{Copy as OneCopy}
use Rattle.cg_core.specs.declared.term.Form.{the_lemmas}
use Rattle.cg_inst.proofs.SameType.{same_is, same_self}
use Rattle.cg_lower_def.specs.Dispatch.{tags_from}
use Rattle.cg_lower_def.specs.Lowered.{arrow_number}
use Rattle.cg_typing.specs.Instances.{Entry}
use Rattle.cg_core.proofs.Operands.{core_is}

-- ---- lists

pub replicate_more : {A : Type 0} (n : ℕ) (x : A) → replicate n x ++ x ∷ [] ≡ replicate (n + 1) x
replicate_more n x = more n x ∙ ap (λ z. replicate z x) (one n)
  where
    one : (n : ℕ) → suc n ≡ n + 1
    one n = omega arith

    more : {A : Type 0} (n : ℕ) (x : A) → replicate n x ++ x ∷ [] ≡ replicate (suc n) x
    more zero x = refl
    more (suc n) x = ap (λ z. x ∷ z) (more n x)

pub lists_more : (vs : List (Vec ℕ)) (v : Vec ℕ) → lists (vs ++ v ∷ []) ≡ lists vs ++ v.items ∷ []
lists_more vs v = map-append (λ (w : Vec ℕ). w.items) vs (v ∷ [])

-- the calls of one instance more
pub calls_more : (whole : Whole) (xs : List OneCopy) (i : ℕ) (x : OneCopy) (edges : List (Vec ℕ)) (v : Vec ℕ) → i < length xs → x ≡ get_or xs i x
    → lists edges ≡ calls_in whole (map pair_of (take i xs)) → v.items ≡ nodes_called whole (calls_of whole (pair_of x))
    → lists (edges ++ v ∷ []) ≡ calls_in whole (map pair_of (take (i + 1) xs))
calls_more whole xs i x edges v within is e f =
    lists_more edges v ∙ ap (λ z. z ++ v.items ∷ []) e ∙ ap (λ z. calls_in whole (map pair_of (take i xs)) ++ z ∷ []) f
    ∙ append_assoc (replicate (length whole.arrows) []) (map (λ (c : Copy). nodes_called whole (calls_of whole c)) (map pair_of (take i xs))) (nodes_called whole (calls_of whole (pair_of x)) ∷ [])
    ∙ ap (λ z. replicate (length whole.arrows) [] ++ z)
    (sym (map-append (λ (c : Copy). nodes_called whole (calls_of whole c)) (map pair_of (take i xs)) (pair_of x ∷ [])) ∙ ap (map (λ (c : Copy). nodes_called whole (calls_of whole c))) (mapped_more pair_of xs i x within is))

-- the entry of one instance more
pub entries_more : (xs : List OneCopy) (i : ℕ) (x : OneCopy) → i < length xs → x ≡ get_or xs i x
    → entries_of (map pair_of (take i xs)) ++ copy_of x ∷ [] ≡ entries_of (map pair_of (take (i + 1) xs))
entries_more xs i x within is = sym (map-append (λ (c : Copy). c.1) (map pair_of (take i xs)) (pair_of x ∷ [])) ∙ ap entries_of (mapped_more pair_of xs i x within is)

pub entries_size : (xs : List OneCopy) (i : ℕ) → i < length xs → length (entries_of (map pair_of (take i xs))) ≡ i
entries_size xs i within =
    length-map (map pair_of (take i xs)) (λ (c : Copy). c.1) ∙ length-map (take i xs) pair_of ∙ length-take-le i xs (omega (arith, within))

-- a place that joins those of a number, as vectors hold them
pub put_one : (vs : List (Vec ℕ)) (r at : ℕ) (b v : Vec ℕ) → r < length vs → b ≡ get_or vs r b → v.items ≡ b.items ++ at ∷ [] → lists (set vs r v) ≡ put_tag (lists vs) r at
put_one vs r at b v h e f =
    map-set (λ (w : Vec ℕ). w.items) vs r v
    ∙ ap (set (lists vs) r) (f ∙ ap (λ z. z ++ at ∷ []) (ap (λ (w : Vec ℕ). w.items) e ∙ sym (get_or-map (λ (w : Vec ℕ). w.items) vs r b [] h)))

past_end : (xs : List (List ℕ)) (r : ℕ) (x : List ℕ) → length xs ≤ r → set xs r x ≡ xs
past_end [] r x h = refl
past_end (y ∷ ys) zero x h = absurd (omega (arith, h))
past_end (y ∷ ys) (suc r) x h = ap (λ z. y ∷ z) (past_end ys r x (omega (arith, h)))

pub put_none : (vs : List (Vec ℕ)) (r at : ℕ) → length vs ≤ r → lists vs ≡ put_tag (lists vs) r at
put_none vs r at h = sym (past_end (lists vs) r (get_or (lists vs) r [] ++ at ∷ []) (omega (arith, h, length-map vs (λ (w : Vec ℕ). w.items))))

-- ---- places by arrow types

abbrev one_more : Bool → ℕ → List ℕ
one_more true k = k ∷ []
one_more false k = []

tags_step : (b : Bool) (k : ℕ) (xs ys zs : List ℕ) → xs ≡ ys ++ zs → (if b then k ∷ xs else xs) ≡ (if b then k ∷ ys else ys) ++ zs
tags_step true k xs ys zs e = ap (λ z. k ∷ z) e
tags_step false k xs ys zs e = e

first_tag : (b : Bool) (k : ℕ) → (if b then k ∷ [] else []) ≡ one_more b (k + 0)
first_tag true k = ap (λ z. z ∷ []) (none k)
  where
    none : (k : ℕ) → k ≡ k + 0
    none k = omega arith
first_tag false k = refl

shifted : (k n : ℕ) → suc k + n ≡ k + suc n
shifted k n = omega arith

tags_more : (k : ℕ) (t : Tau) (es : List Entry) (e : Entry) → tags_from k t (es ++ e ∷ []) ≡ tags_from k t es ++ one_more (same_type e.ty t) (k + length es)
tags_more k t [] e = first_tag (same_type e.ty t) k
tags_more k t (d ∷ es) e =
    tags_step (same_type d.ty t) k (tags_from (suc k) t (es ++ e ∷ [])) (tags_from (suc k) t es) (one_more (same_type e.ty t) (k + suc (length es)))
    (tags_more (suc k) t es e ∙ ap (λ z. tags_from (suc k) t es ++ one_more (same_type e.ty t) z) (shifted k (length es)))

tags_last : (t : Tau) (es : List Entry) (e : Entry) → tags_from 0 t (es ++ e ∷ []) ≡ tags_from 0 t es ++ one_more (same_type e.ty t) (length es)
tags_last t es e = tags_more 0 t es e ∙ ap (λ z. tags_from 0 t es ++ one_more (same_type e.ty t) z) (from_none (length es))
  where
    from_none : (n : ℕ) → 0 + n ≡ n
    from_none n = omega arith

-- where an arrow type stands, it is that one
number_step : (b : Bool) (u t : Tau) (us : List Tau) (n : ℕ) → same_type u t ≡ b → (n < length us → slice_get us n ≡ Some t) → (if b then zero else suc n) < suc (length us)
    → slice_get (u ∷ us) (if b then zero else suc n) ≡ Some t
number_step true u t us n e f h = ap Some (same_is u t e)
number_step false u t us n e f h = f (omega (arith, h))

number_is : (us : List Tau) (t : Tau) → arrow_number us t < length us → slice_get us (arrow_number us t) ≡ Some t
unfolding arrow_number
number_is [] t h = absurd (omega (arith, h))
number_is (u ∷ us) t h = number_step (same_type u t) u t us (arrow_number us t) refl (number_is us t) h

-- it stands no later than at a place where the type is
first_step : (b : Bool) (n j : ℕ) → n ≤ j → (if b then zero else suc n) ≤ suc j
first_step true n j h = omega arith
first_step false n j h = omega (arith, h)

first_here : (b : Bool) (n : ℕ) → b ≡ true → (if b then zero else suc n) ≤ 0
first_here true n e = omega arith
first_here false n e = absurd (cc)

number_first : (us : List Tau) (t : Tau) (j : ℕ) → slice_get us j ≡ Some t → arrow_number us t ≤ j
unfolding arrow_number
number_first [] t j e = absurd (cc)
number_first (u ∷ us) t zero e = first_here (same_type u t) (arrow_number us t) (let s : t ≡ u = cc in ap (same_type u) s ∙ same_self u)
number_first (u ∷ us) t (suc j) e = first_step (same_type u t) (arrow_number us t) j (number_first us t j e)

slice_or : (us : List Tau) (j : ℕ) (d : Tau) → j < length us → slice_get us j ≡ Some (get_or us j d)
slice_or [] j d h = absurd (omega (arith, h))
slice_or (u ∷ us) zero d h = refl
slice_or (u ∷ us) (suc j) d h = slice_or us j d (omega (arith, h))

slice_within : (us : List Tau) (j : ℕ) (t : Tau) → slice_get us j ≡ Some t → j < length us
slice_within [] j t e = absurd (cc)
slice_within (u ∷ us) zero t e = omega arith
slice_within (u ∷ us) (suc j) t e = let h = slice_within us j t e in omega (arith, h)

module _ (arrows : List Tau) (apart : AreApart arrows) (es : List Entry) (e : Entry) where
  joined_at : (j : ℕ) (d : List ℕ) → j < length arrows → arrow_number arrows e.ty ≡ j → get_or (put_tag (tags_of es arrows) j (length es)) j d ≡ get_or (tags_of (es ++ e ∷ []) arrows) j d
  joined_at j d h is =
      let t = get_or arrows j unit in
      let at : e.ty ≡ t = (let f = number_is arrows e.ty (omega (arith, h, is)) in let g = subst (λ z. slice_get arrows z ≡ Some e.ty) is f in let s = slice_or arrows j unit h in cc) in
      let same : same_type e.ty t ≡ true = ap (λ z. same_type z t) at ∙ same_self t in
      get_or-set_same (tags_of es arrows) j (get_or (tags_of es arrows) j [] ++ length es ∷ []) d (omega (arith, h, length-map arrows (λ t. tags_from 0 t es)))
      ∙ ap (λ z. z ++ length es ∷ []) (get_or-map (λ t. tags_from 0 t es) arrows j unit [] h)
      ∙ sym (get_or-map (λ t. tags_from 0 t (es ++ e ∷ [])) arrows j unit d h ∙ tags_last t es e ∙ ap (λ b. tags_from 0 t es ++ one_more b (length es)) same)

  stays_at : (x j : ℕ) (d : List ℕ) → j < length arrows → x ≡ arrow_number arrows e.ty → (j ≡ x → ⊥)
      → get_or (put_tag (tags_of es arrows) x (length es)) j d ≡ get_or (tags_of (es ++ e ∷ []) arrows) j d
  stays_at x j d h is ne =
      let t = get_or arrows j unit in
      get_or-set_other (tags_of es arrows) x j (get_or (tags_of es arrows) x [] ++ length es ∷ []) d ne
      ∙ get_or-map (λ t. tags_from 0 t es) arrows j unit d h
      ∙ sym (append-nil (tags_from 0 t es))
      ∙ sym (get_or-map (λ t. tags_from 0 t (es ++ e ∷ [])) arrows j unit d h ∙ tags_last t es e ∙ ap (λ b. tags_from 0 t es ++ one_more b (length es)) (isnt (same_type e.ty t) refl))
    where
      clash : same_type e.ty (get_or arrows j unit) ≡ true → ⊥
      clash same =
          let at : slice_get arrows j ≡ Some e.ty = slice_or arrows j unit h ∙ ap Some (sym (same_is e.ty (get_or arrows j unit) same)) in
          let first = number_first arrows e.ty j at in
          let there = number_is arrows e.ty (omega (arith, first, h)) in
          absurd (ne (apart j (arrow_number arrows e.ty) e.ty e.ty at there (same_self e.ty) ∙ sym is))

      isnt : (b : Bool) → same_type e.ty (get_or arrows j unit) ≡ b → same_type e.ty (get_or arrows j unit) ≡ false
      isnt true f = absurd (clash f)
      isnt false f = f

  at_each : (x j : ℕ) (d : List ℕ) → x ≡ arrow_number arrows e.ty → j < length arrows → get_or (put_tag (tags_of es arrows) x (length es)) j d ≡ get_or (tags_of (es ++ e ∷ []) arrows) j d
  at_each x j d is h =
      ⊎_elim (λ s. subst (λ z. get_or (put_tag (tags_of es arrows) z (length es)) j d ≡ get_or (tags_of (es ++ e ∷ []) arrows) j d) s (joined_at j d h (sym is ∙ sym s))) (stays_at x j d h is) (cases_eq j x)

  -- an instance joins those of its arrow type
  pub tagged_more : (x : ℕ) → x ≡ arrow_number arrows e.ty → put_tag (tags_of es arrows) x (length es) ≡ tags_of (es ++ e ∷ []) arrows
  tagged_more x is =
      let size = length-map arrows (λ t. tags_from 0 t es) in
      let long = length-map arrows (λ t. tags_from 0 t (es ++ e ∷ [])) in
      let same = length-set (tags_of es arrows) x (get_or (tags_of es arrows) x [] ++ length es ∷ []) in
      same_lists (put_tag (tags_of es arrows) x (length es)) (tags_of (es ++ e ∷ []) arrows) (same ∙ size ∙ sym long)
      (λ j d h. at_each x j d is (omega (arith, h, same, size)))

pub no_tags : (arrows : List Tau) → replicate (length arrows) [] ≡ tags_of [] arrows
no_tags [] = refl
no_tags (t ∷ ts) = ap (λ z. [] ∷ z) (no_tags ts)

pub ruleset call_steps = (the_lemmas, core_is)
