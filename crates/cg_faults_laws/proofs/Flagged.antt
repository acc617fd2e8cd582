-- The flags that the events hand on to the parts of a node are those of the node, and what the earlier parts touch.
use Rattle.std.proofs.Common.{◌≡◌, ◌⊎◌, ℕ, suc, ◌<◌, ◌≤◌, Bool, true, false, ◌&&◌, not, Some, List, length, slice_get, inl, inr, ⊎_elim, refl, sym, ap, ◌∙◌, subst, arith}
use Rattle.std.proofs.lemmas.Option.{slice_get_within}
use Rattle.cg_base.specs.declared.place.Place.{Place}
use Rattle.cg_core.specs.declared.term.Seen.{Seen}
use Rattle.cg_core.specs.Kernels.{Function}
use Rattle.cg_core.specs.Terms.{Tree}
use Rattle.cg_faults.specs.Events.{Before, after, after_seen, upto}
use Rattle.cg_faults.specs.Occurrences.{touched}
use Rattle.cg_faults.specs.Sites.{Entry, Site, shape_inside, observe, parts}
use Rattle.cg_faults.specs.Touches.{IsChoice}
use Rattle.cg_typing.specs.Contexts.{push, among}
use Rattle.cg_check_laws.proofs.Basics.{lt_test, lt_test_is, below_suc}
use Rattle.cg_faults_laws.proofs.Scopes.{of_push, of_observed, to_observed, seen_if}
use Rattle.cg_faults_laws.proofs.Standing.{IsTouchedPart, IsFlagged}
use Rattle.cg_check_laws.proofs.OneFault.{some_is}
use Rattle.cg_base.proofs.Truths.{both as and_both, or_true as or_right, or_left, or_cases}

-- what stands in a later scope at a position of the first stands there too
abbrev pub Back : List Entry → List Entry → Type 0
Back scope later = (i : ℕ) (e : Entry) → slice_get later i ≡ Some e → i < length scope → slice_get scope i ≡ Some e

pub back_push : (scope later : List Entry) (new : Entry) → length scope ≤ length later → Back scope later → Back scope (push later new)
back_push scope later new l h i e at lt = ⊎_elim (λ p. h i e p lt) (λ p. absurd (omega (arith, l, lt, p.0))) (of_push later new e i at)

module _ (functions : List Function) (s : Site) (b : Before) where
  abbrev Touched : ℕ → ℕ → Type 0
  Touched i j = IsTouchedPart functions s i j

  -- the flags in the scope of the site itself, before part j
  abbrev pub Flags : ℕ → Before → Type 0
  Flags j flags = IsFlagged functions s b j s flags

  before_part : (i j k : ℕ) (h : Touched i j) → h.number < k → Touched i k
  before_part i j k h l =
      record {
        number = h.number;
        part = h.part;
        entry = h.entry;
        earlier = l;
        is = h.is;
        in_scope = h.in_scope;
        unobserved = h.unobserved;
        is_touched = h.is_touched;
        together = h.together;
      }

  none_first : (i : ℕ) → Touched i 0 → ⊥
  none_first i h = absurd (omega (arith, h.earlier))

  -- no position of the site's own scope is a new one
  none_new : (i : ℕ) (e : Entry) → slice_get s.scope i ≡ Some e → length s.scope ≤ i → ⊥
  none_new i e at l = absurd (omega (arith, slice_get_within s.scope i e at, l))

  -- a part in the same scope
  pub flagged_here : (j : ℕ) (p : Site) (flags : Before) → p.scope ≡ s.scope → Flags j flags → IsFlagged functions s b j p flags
  flagged_here j p flags same h =
      record {
        old = λ i e at. h.old i e (subst (λ scope. slice_get scope i ≡ Some e) same at);
        new = λ i e at. h.new i e (subst (λ scope. slice_get scope i ≡ Some e) same at);
      }

  -- a part with more in scope
  pub flagged_bound : (j : ℕ) (p : Site) (n : ℕ) (flags : Before) → Back s.scope p.scope → n ≡ length s.scope → Flags j flags → IsFlagged functions s b j p (upto n flags)
  flagged_bound j p n flags back long h =
      record {
        old = λ i e at seen l. (
          λ k. (h.old i e (back i e at l) seen l).0 (lt_test_is i n (flags i) k).1,
          λ k. lt_test i n (flags i) (omega (arith, l, long)) ((h.old i e (back i e at l) seen l).1 k),
        );
        new = λ i e at l. above i l (upto n flags i) refl;
      }
    where
      above : (i : ℕ) → length s.scope ≤ i → (q : Bool) → upto n flags i ≡ q → q ≡ false
      above i l true k = absurd (omega (arith, l, long, (lt_test_is i n (flags i) k).0))
      above i l false k = refl

  -- the first part
  pub flagged_start : Flags 0 b
  flagged_start =
      record {
        old = λ i e at seen l. (λ h. inl h, λ h. ⊎_elim (λ x. x) (λ x. absurd (none_first i x)) h);
        new = λ i e at l. absurd (none_new i e at l);
      }

  -- with the flags of a part that touches nothing
  pub flagged_literal : (l : Tree Place) → ((i : ℕ) → touched i l ≡ false) → Flags 0 (after b l)
  flagged_literal l none =
      record {
        old = λ i e at seen lt. (
          λ h. ⊎_elim (λ x. inl x) (λ x. absurd (let z = none i in cc)) (or_cases (b i) (touched i l) h),
          λ h. ⊎_elim (λ x. or_left (b i) (touched i l) x) (λ x. absurd (none_first i x)) h,
        );
        new = λ i e at l. absurd (none_new i e at l);
      }

  -- behind one part more, which stands in the same scope and is no branch
  pub flagged_next : (j : ℕ) (flags : Before) (q : Site) → slice_get (parts functions s) j ≡ Some q → q.scope ≡ s.scope → (IsChoice (shape_inside s.node) → j ≡ 0) → Flags j flags
      → Flags (suc j) (after flags q.node)
  flagged_next j flags q at same one h =
      record {
        old = λ i e in_scope seen l. (to i e in_scope seen l, from i e in_scope seen l);
        new = λ i e in_scope l. absurd (none_new i e in_scope l);
      }
    where
      here : (i : ℕ) (e : Entry) → slice_get s.scope i ≡ Some e → e.observed ≡ false → touched i q.node ≡ true → Touched i (suc j)
      here i e in_scope seen t =
          record {
            number = j;
            part = q;
            entry = e;
            earlier = omega arith;
            is = at;
            in_scope = subst (λ scope. slice_get scope i ≡ Some e) (sym same) in_scope;
            unobserved = seen;
            is_touched = t;
            together = one;
          }

      to : (i : ℕ) (e : Entry) → slice_get s.scope i ≡ Some e → e.observed ≡ false → i < length s.scope → after flags q.node i ≡ true → (b i ≡ true) ⊎ Touched i (suc j)
      to i e in_scope seen l t =
          ⊎_elim (λ x. ⊎_elim (λ y. inl y) (λ y. inr (before_part i j (suc j) y (omega (arith, y.earlier)))) ((h.old i e in_scope seen l).0 x)) (λ x. inr (here i e in_scope seen x))
          (or_cases (flags i) (touched i q.node) t)

      last : (i : ℕ) (x : Touched i (suc j)) → x.number ≡ j → touched i q.node ≡ true
      last i x e =
          let part : x.part ≡ q = some_is (slice_get (parts functions s) j) x.part q (subst (λ n. slice_get (parts functions s) n ≡ Some x.part) e x.is) at in
          subst (λ p. touched i p.node ≡ true) part x.is_touched

      from : (i : ℕ) (e : Entry) → slice_get s.scope i ≡ Some e → e.observed ≡ false → i < length s.scope → (b i ≡ true) ⊎ Touched i (suc j) → after flags q.node i ≡ true
      from i e in_scope seen l (inl x) = or_left (flags i) (touched i q.node) ((h.old i e in_scope seen l).1 (inl x))
      from i e in_scope seen l (inr x) =
          ⊎_elim (λ y. or_left (flags i) (touched i q.node) ((h.old i e in_scope seen l).1 (inr (before_part i (suc j) j x y)))) (λ y. or_right (flags i) (touched i q.node) (last i x y))
          (below_suc x.number j x.earlier)

  -- behind the first of two branches, whose touches are none of the second's
  pub flagged_branch : (j : ℕ) (flags : Before) → 0 < j → IsChoice (shape_inside s.node) → Flags j flags → Flags (suc j) flags
  flagged_branch j flags more choice h =
      record {
        old = λ i e in_scope seen l. (
          λ k. ⊎_elim (λ y. inl y) (λ y. inr (before_part i j (suc j) y (omega (arith, y.earlier)))) ((h.old i e in_scope seen l).0 k),
          λ k. (h.old i e in_scope seen l).1 (⊎_elim (λ y. inl y) (λ y. inr (before_part i (suc j) j y (omega (arith, more, y.together choice)))) k),
        );
        new = h.new;
      }

  -- ---- a `let!`

  module _ (os : List Seen) where
    -- its first part, in which some are observed
    pub flagged_seen : (p : Site) → p.scope ≡ observe (λ i. among i os) s.scope → IsFlagged functions s b 0 p b
    flagged_seen p same =
        record {
          old = λ i e at seen l. (λ h. inl h, λ h. ⊎_elim (λ x. x) (λ x. absurd (none_first i x)) h);
          new = λ i e at l. absurd (let z = of_observed (λ i. among i os) s.scope i e (subst (λ scope. slice_get scope i ≡ Some e) same at) in none_new i z.0 z.1 l);
        }

    -- behind its first part
    pub flagged_behind : (q : Site) → slice_get (parts functions s) 0 ≡ Some q → q.scope ≡ observe (λ i. among i os) s.scope → Flags 1 (after_seen os b q.node)
    flagged_behind q at same =
        record {
          old = λ i e in_scope seen l. (
            λ k. ⊎_elim (λ x. inl x) (λ x. inr (here i e in_scope seen (and_both (not (among i os)) (touched i q.node) x))) (or_cases (b i) (not (among i os) && touched i q.node) k),
            λ k. ⊎_elim (λ x. or_left (b i) (not (among i os) && touched i q.node) x) (λ x. or_right (b i) (not (among i os) && touched i q.node) (there i e in_scope x (among i os) refl)) k,
          );
          new = λ i e in_scope l. absurd (none_new i e in_scope l);
        }
      where
        stands : (i : ℕ) (e : Entry) → slice_get s.scope i ≡ Some e → slice_get q.scope i ≡ Some (seen_if (among i os) e)
        stands i e in_scope = subst (λ scope. slice_get scope i ≡ Some (seen_if (among i os) e)) (sym same) (to_observed (λ i. among i os) s.scope i e in_scope)

        unseen : (q : Bool) → not q ≡ true → q ≡ false
        unseen true h = absurd (cc)
        unseen false h = refl

        here : (i : ℕ) (e : Entry) → slice_get s.scope i ≡ Some e → e.observed ≡ false → (not (among i os) ≡ true) × (touched i q.node ≡ true) → Touched i 1
        here i e in_scope seen t =
            record {
              number = 0;
              part = q;
              entry = e;
              earlier = omega arith;
              is = at;
              in_scope = subst (λ o. slice_get q.scope i ≡ Some (seen_if o e)) (unseen (among i os) t.0) (stands i e in_scope);
              unobserved = seen;
              is_touched = t.1;
              together = λ c. refl;
            }

        there : (i : ℕ) (e : Entry) → slice_get s.scope i ≡ Some e → (x : Touched i 1) → (o : Bool) → among i os ≡ o → (not o && touched i q.node) ≡ true
        there i e in_scope x o k = go o k
          where
            first : x.part ≡ q
            first = some_is (slice_get (parts functions s) 0) x.part q (subst (λ n. slice_get (parts functions s) n ≡ Some x.part) (omega (arith, x.earlier)) x.is) at

            entry : x.entry ≡ seen_if (among i os) e
            entry = some_is (slice_get q.scope i) x.entry _ (subst (λ p. slice_get p.scope i ≡ Some x.entry) first x.in_scope) (stands i e in_scope)

            go : (o : Bool) → among i os ≡ o → (not o && touched i q.node) ≡ true
            go true k = absurd (let z : x.entry.observed ≡ true = ap (λ e. e.observed) entry ∙ ap (λ o. (seen_if o e).observed) k in let u = x.unobserved in cc)
            go false k = subst (λ p. touched i p.node ≡ true) first x.is_touched
