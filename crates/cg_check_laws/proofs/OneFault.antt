-- The order of reading is total, so at most one rule fails first, at one place.
use Rattle.std.proofs.Common.{◌≡◌, ◌⊎◌, ◌<◌, ◌≤◌, ℕ, false, Option, Some, None, List, [], ◌∷◌, slice_get, inl, inr, ⊎_elim, refl, sym, ap, ◌∙◌, subst, arith}
use Rattle.cg_base.specs.declared.place.Place.{Place}
use Rattle.cg_core.specs.Kernels.{Function, Body}
use Rattle.cg_faults.specs.Conditions.{Condition, typed, touched, missed, unused, observed, Breaks, IsUnusedBehind}
use Rattle.cg_faults.specs.Fails.{Moment, at_signature, at_node, at_end, NodeBefore, MomentBefore, Judged, JudgedBefore, root_of, signature_conditions, body_conditions, FailsInBody, FailsInFunction, FailsAt, Fails}
use Rattle.cg_faults.specs.Rule.{Test}
use Rattle.cg_faults.specs.Sites.{Path, Variable, Site, down}
use Rattle.cg_faults.specs.Touches.{PathBefore}

numbers : (i j : ℕ) → (i < j) ⊎ ((i ≡ j) ⊎ (j < i))
numbers i j = grind arith

before_or : (i j : ℕ) → (i ≤ j) ⊎ (j < i)
before_or i j = grind arith

paths : (p q : Path) → PathBefore p q ⊎ ((p ≡ q) ⊎ PathBefore q p)
paths [] [] = inr (inl refl)
paths [] (j ∷ q) = inl tt
paths (i ∷ p) [] = inr (inr tt)
paths (i ∷ p) (j ∷ q) = ⊎_elim (λ l. inl (inl l)) (λ r. ⊎_elim (λ e. same e (paths p q)) (λ g. inr (inr (inl g))) r) (numbers i j)
  where
    same : i ≡ j → PathBefore p q ⊎ ((p ≡ q) ⊎ PathBefore q p) → PathBefore (i ∷ p) (j ∷ q) ⊎ (((i ∷ p) ≡ (j ∷ q)) ⊎ PathBefore (j ∷ q) (i ∷ p))
    same e (inl l) = inl (inr (e, l))
    same e (inr (inl f)) = inr (inl (cc))
    same e (inr (inr g)) = inr (inr (inr (sym e, g)))

nodes : (p : Path) (n : ℕ) (q : Path) (m : ℕ) → NodeBefore p n q m ⊎ (((p ≡ q) × (n ≡ m)) ⊎ NodeBefore q m p n)
nodes [] n [] m = ⊎_elim (λ l. inl l) (λ r. inr (⊎_elim (λ e. inl (refl, e)) (λ g. inr g) r)) (numbers n m)
nodes [] n (j ∷ q) m = ⊎_elim (λ l. inl l) (λ g. inr (inr g)) (before_or n j)
nodes (i ∷ p) n [] m = ⊎_elim (λ l. inr (inr l)) (λ g. inl g) (before_or m i)
nodes (i ∷ p) n (j ∷ q) m = ⊎_elim (λ l. inl (inl l)) (λ r. ⊎_elim (λ e. same e (nodes p n q m)) (λ g. inr (inr (inl g))) r) (numbers i j)
  where
    same : i ≡ j → NodeBefore p n q m ⊎ (((p ≡ q) × (n ≡ m)) ⊎ NodeBefore q m p n) → NodeBefore (i ∷ p) n (j ∷ q) m ⊎ ((((i ∷ p) ≡ (j ∷ q)) × (n ≡ m)) ⊎ NodeBefore (j ∷ q) m (i ∷ p) n)
    same e (inl l) = inl (inr (e, l))
    same e (inr (inl f)) = inr (inl (let x = f.0 in cc, f.1))
    same e (inr (inr g)) = inr (inr (inr (sym e, g)))

moments : (a b : Moment) → MomentBefore a b ⊎ ((a ≡ b) ⊎ MomentBefore b a)
moments at_signature at_signature = inr (inl refl)
moments at_signature (at_node q m) = inl tt
moments at_signature at_end = inl tt
moments (at_node p n) at_signature = inr (inr tt)
moments (at_node p n) (at_node q m) = ⊎_elim (λ l. inl l) (λ r. ⊎_elim (λ e. inr (inl (let x = e.0 in let y = e.1 in cc))) (λ g. inr (inr g)) r) (nodes p n q m)
moments (at_node p n) at_end = inl tt
moments at_end at_signature = inr (inr tt)
moments at_end (at_node q m) = inr (inr tt)
moments at_end at_end = inr (inl refl)

judged_as : ℕ → Moment → ℕ → Judged
judged_as f m n = record { fun = f; moment = m; number = n }

same_judged : (a b : Judged) → a.fun ≡ b.fun → a.moment ≡ b.moment → a.number ≡ b.number → a ≡ b
unfolding judged_as
same_judged a b e f n = ap (λ x. judged_as x a.moment a.number) e ∙ ap (λ y. judged_as b.fun y a.number) f ∙ ap (λ z. judged_as b.fun b.moment z) n

judgements : (a b : Judged) → JudgedBefore a b ⊎ ((a ≡ b) ⊎ JudgedBefore b a)
judgements a b = ⊎_elim (λ l. inl (inl l)) (λ r. ⊎_elim (λ e. in_function e (moments a.moment b.moment)) (λ g. inr (inr (inl g))) r) (numbers a.fun b.fun)
  where
    at_moment : a.fun ≡ b.fun → a.moment ≡ b.moment → (a.number < b.number) ⊎ ((a.number ≡ b.number) ⊎ (b.number < a.number)) → JudgedBefore a b ⊎ ((a ≡ b) ⊎ JudgedBefore b a)
    at_moment e f (inl l) = inl (inr (e, inr (f, l)))
    at_moment e f (inr (inl n)) = inr (inl (same_judged a b e f n))
    at_moment e f (inr (inr g)) = inr (inr (inr (sym e, inr (sym f, g))))

    in_function : a.fun ≡ b.fun → MomentBefore a.moment b.moment ⊎ ((a.moment ≡ b.moment) ⊎ MomentBefore b.moment a.moment) → JudgedBefore a b ⊎ ((a ≡ b) ⊎ JudgedBefore b a)
    in_function e (inl l) = inl (inr (e, inl l))
    in_function e (inr (inl f)) = at_moment e f (numbers a.number b.number)
    in_function e (inr (inr g)) = inr (inr (inr (sym e, inl g)))

-- two things are one
abbrev One : Test → Test → Place → Place → Type 0
One t u p q = (t ≡ u) × (p ≡ q)

pub some_is : {X : Type 0} (o : Option X) (x y : X) → o ≡ Some x → o ≡ Some y → x ≡ y
some_is None x y e f = absurd (cc)
some_is (Some z) x y e f = cc

module _ (functions : List Function) (root : Site) where
  -- the first observer without a use behind it is one
  observers : (x : Variable) (p q : Place) → IsUnusedBehind functions root x p → IsUnusedBehind functions root x q → p ≡ q
  observers x p q u v = ⊎_elim (λ l. earlier l) (λ r. ⊎_elim (λ e. same e (numbers u.number v.number)) (λ g. later g) r) (paths u.path v.path)
    where
      earlier : PathBefore u.path v.path → p ≡ q
      earlier l = absurd (u.unused (v.first (record { path = u.path; observer = Some u.number }) u.number refl (u.observer, u.sighting) (inl l)))

      later : PathBefore v.path u.path → p ≡ q
      later l = absurd (v.unused (u.first (record { path = v.path; observer = Some v.number }) v.number refl (v.observer, v.sighting) (inl l)))

      same : u.path ≡ v.path → (u.number < v.number) ⊎ ((u.number ≡ v.number) ⊎ (v.number < u.number)) → p ≡ q
      same e (inl l) = absurd (u.unused (v.first (record { path = u.path; observer = Some u.number }) u.number refl (u.observer, u.sighting) (inr (e, l))))
      same e (inr (inl n)) =
          let s : u.sighting.site ≡ v.sighting.site = some_is (down functions (Some root) v.path) _ _ (subst (λ z. down functions (Some root) z ≡ Some u.sighting.site) e u.sighting.stands) v.sighting.stands in
          let a = u.sighting.is in let b = v.sighting.is in
          let os : u.sighting.observers ≡ v.sighting.observers = cc in
          let o : u.observer ≡ v.observer = some_is (slice_get v.sighting.observers v.number) _ _ (subst (λ z. slice_get z v.number ≡ Some u.observer) os (subst (λ z. slice_get u.sighting.observers z ≡ Some u.observer) n u.sighting.among)) v.sighting.among in
          u.at ∙ ap (λ o. o.place) o ∙ sym v.at
      same e (inr (inr g)) = absurd (v.unused (u.first (record { path = v.path; observer = Some v.number }) v.number refl (v.observer, v.sighting) (inr (sym e, g))))

  breaks : (c : Condition) (t u : Test) (p q : Place) → Breaks functions root c t p → Breaks functions root c u q → One t u p q
  breaks (typed tested at holds) t u p q a b = (a.0 ∙ sym b.0, a.1 ∙ sym b.1)
  breaks (touched at shared x touch) t u p q a b = (a.0 ∙ sym b.0, a.1 ∙ sym b.1)
  breaks (missed at dropped x one other) t u p q a b = (a.0 ∙ sym b.0, a.1 ∙ sym b.1)
  breaks (unused at dropped x) t u p q a b = (a.0 ∙ sym b.0, a.1 ∙ sym b.1)
  breaks (observed dropped x) t u p q a b = (a.0 ∙ sym b.0, observers x p q a.3 b.3)

module _ (functions : List Function) where
  in_body : (f : Function) (body : Option Body) (m : Moment) (n : ℕ) (t u : Test) (p q : Place) → FailsInBody functions f body m n t p → FailsInBody functions f body m n u q → One t u p q
  in_body f None m n t u p q a b = absurd a
  in_body f (Some body) m n t u p q a b =
      let c : a.0 ≡ b.0 = some_is (slice_get (body_conditions functions f body m) n) _ _ a.1 b.1 in
      breaks functions (root_of f body) b.0 t u p q (subst (λ c. Breaks functions (root_of f body) c t p) c a.2) b.2

  in_function : (f : Function) (m : Moment) (n : ℕ) (t u : Test) (p q : Place) → FailsInFunction functions f m n t p → FailsInFunction functions f m n u q → One t u p q
  in_function f at_signature n t u p q a b =
      let c : typed t p false ≡ typed u q false = some_is (slice_get (signature_conditions f) n) _ _ a.is b.is in (cc, cc)
  in_function f (at_node path m) n t u p q a b = in_body f f.body (at_node path m) n t u p q a b
  in_function f at_end n t u p q a b = in_body f f.body at_end n t u p q a b

  fails_at : (j : Judged) (t u : Test) (p q : Place) → FailsAt functions j t p → FailsAt functions j u q → One t u p q
  fails_at j t u p q a b =
      let f : a.function ≡ b.function = some_is (slice_get functions j.fun) _ _ a.is b.is in
      in_function b.function j.moment j.number t u p q (subst (λ f. FailsInFunction functions f j.moment j.number t p) f a.fails) b.fails

  pub one_fault : (t u : Test) (p q : Place) → Fails functions t p → Fails functions u q → One t u p q
  one_fault t u p q a b = ⊎_elim (λ l. absurd (b.first a.judged l t p a.fails))
      (λ r. ⊎_elim (λ e. fails_at b.judged t u p q (subst (λ j. FailsAt functions j t p) e a.fails) b.fails) (λ g. absurd (a.first b.judged g u q b.fails)) r)
      (judgements a.judged b.judged)
