-- What was noted last is the first of all places that were noted.
use Rattle.std.proofs.Common.{◌≡◌, ℕ, zero, suc, ◌<◌, ◌≤◌, Bool, true, false, ◌&&◌, ◌⊎◌, inl, inr, List, [], ◌∷◌, ◌++◌, refl, sym, ap, ◌∙◌, arith, subst}
use Rattle.std.proofs.lemmas.Bool.{and_parts, cases_lt, eq-eqb, eqb-true, ltb-false, ltb-true, or_parts}
use Rattle.std.specs.Prelude.{nat_lt, ◌==◌, slice_get, Option, Some, None, if◌then◌else◌}
use Rattle.cg_base.proofs.Options.{some_is}
use Rattle.cg_base.proofs.Truths.{either_bool, or_cases}
use Rattle.cg_base.specs.declared.place.Place.{Place}
use Rattle.cg_base.specs.Places.{IsBefore}
use Rattle.cg_heaptext_places.specs.Noted.{AreThose, IsLeast, is_before, joined, noted, noted_all}

-- ---- places in their order

-- a place is another one or stands behind it
record NotBefore (p q : Place) : Type 0 where
  line : q.line ≤ p.line
  column : p.line ≡ q.line → q.column ≤ p.column

not_before : (p q : Place) → is_before p q ≡ false → NotBefore p q
not_before p q e =
    let parts = or_parts (nat_lt p.line q.line) ((p.line == q.line) && nat_lt p.column q.column) e in
    record {
      line = ltb-false p.line q.line parts.0;
      column = λ same. ltb-false p.column q.column (sym (ap (λ b. b && nat_lt p.column q.column) (eq-eqb p.line q.line same)) ∙ parts.1);
    }

behind : (p q : Place) → is_before p q ≡ true → NotBefore q p
behind p q e = at_parts (or_cases (nat_lt p.line q.line) ((p.line == q.line) && nat_lt p.column q.column) e)
  where
    at_parts : (nat_lt p.line q.line ≡ true) ⊎ (((p.line == q.line) && nat_lt p.column q.column) ≡ true) → NotBefore q p
    at_parts (inl e) = let l = ltb-true p.line q.line e in record { line = omega (arith, l); column = λ same. omega (arith, l, same) }
    at_parts (inr e) =
        let b = and_parts (p.line == q.line) (nat_lt p.column q.column) e in let l = eqb-true p.line q.line b.0 in let c = ltb-true p.column q.column b.1 in
        record { line = omega (arith, l); column = λ same. omega (arith, c) }

itself : (p : Place) → NotBefore p p
itself p = record { line = omega arith; column = λ same. omega arith }

chained : (p m q : Place) → NotBefore p m → NotBefore m q → NotBefore p q
chained p m q a b = record {
  line = omega (arith, a.line, b.line);
  column = λ same. let e : p.line ≡ m.line = omega (arith, a.line, b.line, same) in let c = a.column e in let d = b.column (sym e ∙ same) in omega (arith, c, d);
}

never : (p q : Place) → NotBefore p q → IsBefore p q → ⊥
never p q n (inl l) = omega (arith, n.line, l)
never p q n (inr b) = let c = n.column b.0 in omega (arith, c, b.1)

-- what isn't before another is that one or behind it
in_order : (p q : Place) → (IsBefore p q → ⊥) → NotBefore p q
in_order p q none = at (cases_lt p.line q.line)
  where
    at : (p.line < q.line) ⊎ (q.line ≤ p.line) → NotBefore p q
    at (inl l) = absurd (none (inl l))
    at (inr l) = record { line = l; column = λ same. column same (cases_lt p.column q.column) }
      where
        column : p.line ≡ q.line → (p.column < q.column) ⊎ (q.column ≤ p.column) → q.column ≤ p.column
        column same (inl c) = absurd (none (inr (same, c)))
        column same (inr c) = c

sooner : (p m q : Place) → IsBefore p m → NotBefore q m → IsBefore p q
sooner p m q (inl l) n = inl (omega (arith, l, n.line))
sooner p m q (inr b) n = at (cases_lt m.line q.line)
  where
    at : (m.line < q.line) ⊎ (q.line ≤ m.line) → IsBefore p q
    at (inl l) = inl (omega (arith, l, b.0))
    at (inr l) =
        let same : q.line ≡ m.line = omega (arith, l, n.line) in let c = n.column same in
        inr (b.0 ∙ sym same, omega (arith, c, b.1))

-- ---- noting

-- the earliest place, among what was found before and these
record Left (found : Option Place) (ps : List Place) (p : Place) : Type 0 where
  among : (found ≡ Some p) ⊎ ((i : ℕ) × (slice_get ps i ≡ Some p))
  before : (q : Place) → found ≡ Some q → NotBefore q p
  all : (i : ℕ) (q : Place) → slice_get ps i ≡ Some q → NotBefore q p

-- what stands after a place was noted
record Took (found : Option Place) (p m : Place) : Type 0 where
  is : noted found p ≡ Some m
  one : (found ≡ Some m) ⊎ (m ≡ p)
  before : (q : Place) → found ≡ Some q → NotBefore q m
  at : NotBefore p m

took_first : (q p : Place) → (is_before p q ≡ true) ⊎ (is_before p q ≡ false) → Took (Some q) p (if is_before p q then p else q)
took_first q p (inl e) = subst (λ (b : Bool). Took' b) (sym e) (record { is = ap (λ b. if b then Some p else Some q) e; one = inr refl; before = λ x same. subst (λ y. NotBefore y p) (some_is q x same) (behind p q e); at = itself p })
  where
    Took' : Bool → Type 0
    Took' b = Took (Some q) p (if b then p else q)
took_first q p (inr e) = subst (λ (b : Bool). Took' b) (sym e) (record { is = ap (λ b. if b then Some p else Some q) e; one = inl refl; before = λ x same. subst (λ y. NotBefore y q) (some_is q x same) (itself q); at = not_before p q e })
  where
    Took' : Bool → Type 0
    Took' b = Took (Some q) p (if b then p else q)

took : (found : Option Place) (p : Place) → (m : Place) × Took found p m
took None p = (p, record { is = refl; one = inr refl; before = λ q e. absurd (cc); at = itself p })
took (Some q) p = (if is_before p q then p else q, took_first q p (either_bool (is_before p q)))

-- among what was found and one more, or these
passed_on : (found : Option Place) (p m q : Place) (ps : List Place) → Took found p m → Left (Some m) ps q → (found ≡ Some q) ⊎ ((i : ℕ) × (slice_get (p ∷ ps) i ≡ Some q))
passed_on found p m q ps t l = at l.among t.one
  where
    at : (Some m ≡ Some q) ⊎ ((i : ℕ) × (slice_get ps i ≡ Some q)) → (found ≡ Some m) ⊎ (m ≡ p) → (found ≡ Some q) ⊎ ((i : ℕ) × (slice_get (p ∷ ps) i ≡ Some q))
    at (inr (i, e)) one = inr (suc i, e)
    at (inl e) (inl f) = inl (f ∙ e)
    at (inl e) (inr f) = inr (zero, sym (ap (λ x. Some x) f) ∙ e)

all_behind : (found : Option Place) (p m q : Place) (ps : List Place) → Took found p m → Left (Some m) ps q → (i : ℕ) (r : Place) → slice_get (p ∷ ps) i ≡ Some r → NotBefore r q
all_behind found p m q ps t l zero r e = subst (λ x. NotBefore x q) (some_is p r e) (chained p m q t.at (l.before m refl))
all_behind found p m q ps t l (suc i) r e = l.all i r e

-- where one place was found, one is left
left : (m : Place) (ps : List Place) → (q : Place) × (noted_all (Some m) ps ≡ Some q) × Left (Some m) ps q
left m [] = (m, refl, record { among = inl refl; before = λ q e. subst (λ x. NotBefore x m) (some_is m q e) (itself m); all = λ i q e. absurd (cc) })
left m (p ∷ ps) =
    let t = took (Some m) p in let l = left t.0 ps in (
      l.0,
      ap (λ found. noted_all found ps) t.1.is ∙ l.1,
      record {
        among = passed_on (Some m) p t.0 l.0 ps t.1 l.2;
        before = λ r e. chained r t.0 l.0 (t.1.before r e) (l.2.before t.0 refl);
        all = all_behind (Some m) p t.0 l.0 ps t.1 l.2;
      },
    )

-- the place at the front, and those behind it
among_those : (m q : Place) (ps : List Place) → (Some m ≡ Some q) ⊎ ((i : ℕ) × (slice_get ps i ≡ Some q)) → (i : ℕ) × (slice_get (m ∷ ps) i ≡ Some q)
among_those m q ps (inl e) = (zero, e)
among_those m q ps (inr (i, e)) = (suc i, e)

none_before : (m q : Place) (ps : List Place) → Left (Some m) ps q → (i : ℕ) (r : Place) → slice_get (m ∷ ps) i ≡ Some r → NotBefore r q
none_before m q ps l zero r e = subst (λ x. NotBefore x q) (some_is m r e) (l.before m refl)
none_before m q ps l (suc i) r e = l.all i r e

module _ (P : Place → Type 0) where
  -- of all places of which something holds, all noted, the first is left
  pub noted_is_least : (ps : List Place) → AreThose P ps → IsLeast P (noted_all None ps)
  noted_is_least [] those = λ p holds. absurd (cc ((those.all p holds).1))
  noted_is_least (m ∷ ps) those =
      let l = left m ps in
      subst (IsLeast P) (sym l.1) (
        let at = among_those m l.0 ps l.2.among in those.hold at.0 l.0 at.1,
        λ p holds before. let at = those.all p holds in never p l.0 (none_before m l.0 ps l.2 at.0 p at.1) before,
      )

  -- places that are the same, in whatever order, are noted as one
  pub least_of : (found : Option Place) (ps : List Place) → found ≡ noted_all None ps → AreThose P ps → IsLeast P found
  least_of found ps is those = subst (IsLeast P) (sym is) (noted_is_least ps those)

-- what was noted before, and one more behind
pub noted_more : (found : Option Place) (ps : List Place) (p : Place) → noted_all found (ps ++ p ∷ []) ≡ noted (noted_all found ps) p
noted_more found [] p = refl
noted_more found (q ∷ ps) p = noted_more (noted found q) ps p

pub noted_both : (found : Option Place) (ps qs : List Place) → noted_all found (ps ++ qs) ≡ noted_all (noted_all found ps) qs
noted_both found [] qs = refl
noted_both found (p ∷ ps) qs = noted_both (noted found p) ps qs

-- ---- what was found of two things, or of one

module _ (P Q R : Place → Type 0) (left : (p : Place) → P p → R p) (right : (p : Place) → Q p → R p) (either : (p : Place) → R p → P p ⊎ Q p) where
  -- the first place of two, of which something else holds each
  pub joined_least : (found other : Option Place) → IsLeast P found → IsLeast Q other → IsLeast R (joined found other)
  joined_least None None a b = λ p r. at p (either p r)
    where
      at : (p : Place) → P p ⊎ Q p → ⊥
      at p (inl x) = a p x
      at p (inr y) = b p y
  joined_least None (Some q) a b = (right q b.0, λ p r before. at p before (either p r))
    where
      at : (p : Place) → IsBefore p q → P p ⊎ Q p → ⊥
      at p before (inl x) = a p x
      at p before (inr y) = b.1 p y before
  joined_least (Some q) None a b = (left q a.0, λ p r before. at p before (either p r))
    where
      at : (p : Place) → IsBefore p q → P p ⊎ Q p → ⊥
      at p before (inl x) = a.1 p x before
      at p before (inr y) = b p y
  joined_least (Some q) (Some s) a b = by (either_bool (is_before s q))
    where
      first : (p : Place) → NotBefore q s → IsBefore p s → P p ⊎ Q p → ⊥
      first p n before (inl x) = never p q (in_order p q (a.1 p x)) (sooner p s q before n)
      first p n before (inr y) = b.1 p y before

      by : (is_before s q ≡ true) ⊎ (is_before s q ≡ false) → IsLeast R (noted (Some q) s)
      by (inl e) = subst (IsLeast R) (ap (λ c. if c then Some s else Some q) (sym e)) (right s b.0, λ p r before. first p (behind s q e) before (either p r))
      by (inr e) = subst (IsLeast R) (ap (λ c. if c then Some s else Some q) (sym e)) (left q a.0, λ p r before. second p before (either p r))
        where
          second : (p : Place) → IsBefore p q → P p ⊎ Q p → ⊥
          second p before (inl x) = a.1 p x before
          second p before (inr y) = never p q (chained p s q (in_order p s (b.1 p y)) (not_before s q e)) before

-- the same places, said otherwise
pub same_least : (P R : Place → Type 0) → ((p : Place) → P p → R p) → ((p : Place) → R p → P p) → (found : Option Place) → IsLeast P found → IsLeast R found
same_least P R to back None a = λ p r. a p (back p r)
same_least P R to back (Some q) a = (to q a.0, λ p r before. a.1 p (back p r) before)
