-- Some earlier touch clashes with a touch of a variable exactly where one stands before it in another part of some node, and in no
-- other branch of it.
use Rattle.std.proofs.Common.{◌≡◌, ◌⊎◌, ◌↔◌, ℕ, zero, suc, ◌<◌, true, false, Option, Some, None, List, [], ◌∷◌, ◌++◌, slice_get, inl, inr, ⊎_elim, refl, sym, ap, ◌∙◌, subst, arith}
use Rattle.cg_core.specs.Kernels.{Function, Body}
use Rattle.cg_typing.specs.Contexts.{among}
use Rattle.cg_faults.specs.Fails.{root_of}
use Rattle.cg_check_laws.specs.Laws.{IsLawfulIn}
use Rattle.cg_faults.specs.Sites.{Path, Variable, Site, observe, shape_inside, part_in, parts_of, parts, down}
use Rattle.cg_faults.specs.Touches.{Touch, PathBefore, NumberBefore, IsChoice, IsTouchAt, IsTouch, AreInBranches, Clash, IsClashing}
use Rattle.cg_faults_laws.proofs.Scopes.{Has, keeps_observed}
use Rattle.cg_faults_laws.proofs.Parts.{IsWell, part_is}
use Rattle.cg_faults_laws.proofs.Uses.{below, root_well}
use Rattle.cg_faults_laws.proofs.Standing.{IsTouchedBefore}
use Rattle.cg_faults_laws.proofs.Touches.{among_at, touch_from, into_part, to_root, touch_tells}
use Rattle.cg_check_laws.proofs.OneFault.{some_is}
use Rattle.cg_base.proofs.Truths.{or_left}

-- ---- paths

-- where two paths part
record Parting (p q : Path) : Type 0 where
  pub above : Path
  pub one : ℕ
  pub other : ℕ
  pub first : Path
  pub second : Path
  pub earlier : one < other
  pub is_first : p ≡ above ++ (one ∷ first)
  pub is_second : q ≡ above ++ (other ∷ second)

-- a path that stands before another leads to it, or they part
abbrev Ahead : Path → Path → Type 0
Ahead p q = ((j : ℕ) × (below : Path) × (q ≡ p ++ (j ∷ below))) ⊎ Parting p q

deeper : (i j : ℕ) (p q : Path) → i ≡ j → Ahead p q → Ahead (i ∷ p) (j ∷ q)
deeper i j p q e (inl h) = inl (h.0, h.1, let k = h.2 in cc)
deeper i j p q e (inr h) =
    inr (record { above = i ∷ h.above; one = h.one; other = h.other; first = h.first; second = h.second; earlier = h.earlier; is_first = ap (λ p. i ∷ p) h.is_first; is_second = let k = h.is_second in cc })

ahead : (p q : Path) → PathBefore p q → Ahead p q
ahead [] [] h = absurd h
ahead [] (j ∷ q) h = inl (j, q, refl)
ahead (i ∷ p) [] h = absurd h
ahead (i ∷ p) (j ∷ q) h =
    ⊎_elim (λ l. inr (record { above = []; one = i; other = j; first = p; second = q; earlier = l; is_first = refl; is_second = refl }))
    (λ r. deeper i j p q r.0 (ahead p q r.1)) h

parted : (above first second : Path) (one other : ℕ) → one < other → PathBefore (above ++ (one ∷ first)) (above ++ (other ∷ second))
parted [] first second one other h = inl h
parted (k ∷ above) first second one other h = inr (refl, parted above first second one other h)

-- paths part at one place only
one_parting : (a b : Path) (i j k l : ℕ) (p q r t : Path) → a ++ (i ∷ p) ≡ b ++ (k ∷ r) → a ++ (j ∷ q) ≡ b ++ (l ∷ t) → (i ≡ j → ⊥) → (k ≡ l → ⊥) → (a ≡ b) × (i ≡ k)
one_parting [] [] i j k l p q r t e f g h = (refl, cc)
one_parting [] (m ∷ b) i j k l p q r t e f g h = let x : i ≡ m = cc in let y : j ≡ m = cc in absurd (g (x ∙ sym y))
one_parting (m ∷ a) [] i j k l p q r t e f g h = let x : m ≡ k = cc in let y : m ≡ l = cc in absurd (h (sym x ∙ y))
one_parting (m ∷ a) (n ∷ b) i j k l p q r t e f g h =
    let x : m ≡ n = cc in
    let v : a ++ (i ∷ p) ≡ b ++ (k ∷ r) = cc in
    let w : a ++ (j ∷ q) ≡ b ++ (l ∷ t) = cc in
    let z = one_parting a b i j k l p q r t v w g h in (let y = z.0 in cc, z.1)

-- nor does the other lead from the one
pub no_lead : (a : Path) (i j : ℕ) (p q r : Path) → a ++ (j ∷ q) ≡ (a ++ (i ∷ p)) ++ r → i ≡ j
no_lead [] i j p q r e = cc
no_lead (m ∷ a) i j p q r e = let v : a ++ (j ∷ q) ≡ (a ++ (i ∷ p)) ++ r = cc in no_lead a i j p q r v

one_number : (a : Path) (i j : ℕ) (p q : Path) → a ++ (i ∷ p) ≡ a ++ (j ∷ q) → i ≡ j
one_number [] i j p q e = cc
one_number (m ∷ a) i j p q e = let v : a ++ (i ∷ p) ≡ a ++ (j ∷ q) = cc in one_number a i j p q v

both_observe : (a b : Option ℕ) → NumberBefore a b → (n : ℕ) × (m : ℕ) × (a ≡ Some n) × (b ≡ Some m)
both_observe (Some n) (Some m) h = (n, m, refl, refl)
both_observe (Some n) None h = absurd h
both_observe None b h = absurd h

-- ---- what stands on the way, and below a touch

module _ (functions : List Function) where
  pub on_way : (o : Option Site) (p q : Path) (z : Site) → down functions o (p ++ q) ≡ Some z → (s : Site) × (down functions o p ≡ Some s)
  on_way None p q z h = absurd (cc)
  on_way (Some s) [] q z h = (s, refl)
  on_way (Some s) (j ∷ p) q z h = on_way (slice_get (parts functions s) j) p q z h

  pub touch_stands : (root : Site) (x : Variable) (path : Path) (t : Option ℕ) → IsTouchAt functions root x path t → (z : Site) × (down functions (Some root) path ≡ Some z)
  touch_stands root x path None u = (u.site, u.stands)
  touch_stands root x path (Some n) u = (u.1.site, u.1.stands)

  -- nothing stands where there is no part
  nowhere_below : (z y : Site) (j : ℕ) (q : Path) → slice_get (parts functions z) j ≡ None → down functions (Some z) (j ∷ q) ≡ Some y → ⊥
  nowhere_below z y j q e h = let k : down functions None q ≡ Some y = subst (λ o. down functions o q ≡ Some y) e h in absurd (cc)

module _ (functions : List Function) (f : Function) (body : Body) (types_in : ℕ) (lawful : IsLawfulIn functions types_in body.term) (x : Variable) where
  abbrev Root : Site
  Root = root_of f body

  stands_from : (p q : Path) (t : Option ℕ) (z : Site) → down functions (Some Root) p ≡ Some z → IsTouchAt functions Root x (p ++ q) t → (y : Site) × (down functions (Some z) q ≡ Some y)
  stands_from p q t z at u = let s = touch_stands functions Root x (p ++ q) t u in (s.0, to_root functions Root z p q at s.0 s.1)

  -- no touch stands below another, but for the second part of a sighting
  below_touch : (p q : Path) (t u : Option ℕ) (j : ℕ) → IsTouchAt functions Root x p t → IsTouchAt functions Root x (p ++ (j ∷ q)) u → (j ≡ 1 → (n : ℕ) → t ≡ Some n → ⊥) → ⊥
  below_touch p q None u j a b h =
      let y = stands_from p (j ∷ q) u a.site a.stands b in
      nowhere_below functions a.site y.0 j q (ap (λ shape. slice_get (parts_of functions a.site shape) j) a.is) y.1
  below_touch p q (Some n) u zero pair b h =
      let a = pair.1 in
      let o = pair.0 in
      let z = a.site in
      let first : Site = part_in z 0 (observe (λ i. among i a.observers) z.scope) None a.value in
      let at : slice_get (parts functions z) 0 ≡ Some first = ap (λ shape. slice_get (parts_of functions z shape) 0) a.is in
      let well : IsWell z = (below functions types_in p Root z a.stands (root_well f body) (1, lawful)).0 in
      let has : Has x o.var false z.scope = record { entry = a.occurs.entry; at = a.occurs.in_scope; is = a.occurs.variable; flag = a.occurs.unobserved } in
      let seen : Has x o.var true first.scope =
      subst (λ b. Has x o.var b first.scope) (or_left (among o.var a.observers) false (among_at a.observers n o o.var a.among refl)) (keeps_observed (λ i. among i a.observers) z.scope x o.var false has) in
      let there : IsTouchAt functions z x (0 ∷ q) u = touch_from functions Root z x (p ++ (0 ∷ q)) (0 ∷ q) u (to_root functions Root z p (0 ∷ q) a.stands) b in
      let inside : IsTouchAt functions first x q u = touch_from functions z first x (0 ∷ q) q u (into_part functions z first 0 q at) there in
      let wrong : true ≡ false = (touch_tells functions x o.var q u true first (part_is functions 0 z well 0 first at).well seen inside).0 in
      absurd (cc)
  below_touch p q (Some n) u (suc zero) a b h = h refl n refl
  below_touch p q (Some n) u (suc (suc j)) pair b h =
      let a = pair.1 in
      let y = stands_from p (suc (suc j) ∷ q) u a.site a.stands b in
      nowhere_below functions a.site y.0 (suc (suc j)) q (ap (λ shape. slice_get (parts_of functions a.site shape) (suc (suc j))) a.is) y.1

  module _ (u : Touch) (touches : IsTouch functions Root x u) where
    parts_before : (t : Touch) → IsTouch functions Root x t → Clash functions Root t u → Parting t.path u.path → IsTouchedBefore functions Root x u.path
    parts_before t a clash q =
        let z = touch_stands functions Root x u.path u.observer touches in
        let w = on_way functions (Some Root) q.above (q.other ∷ q.second) z.0 (subst (λ p. down functions (Some Root) p ≡ Some z.0) q.is_second z.1) in
        record {
          above = q.above;
          one = q.one;
          other = q.other;
          first = q.first;
          second = q.second;
          observer = t.observer;
          site = w.0;
          earlier = q.earlier;
          there = q.is_second;
          touches = subst (λ p. IsTouchAt functions Root x p t.observer) q.is_first a;
          stands = w.1;
          together = λ c. decided w.0 w.1 c q.one refl;
        }
      where
        decided : (s : Site) → down functions (Some Root) q.above ≡ Some s → IsChoice (shape_inside s.node) → (n : ℕ) → q.one ≡ n → n ≡ 0
        decided s at c zero e = refl
        decided s at c (suc n) e =
            absurd (clash (inl (record {
              above = q.above;
              one = q.one;
              other = q.other;
              first = q.first;
              second = q.second;
              site = s;
              is_first = q.is_first;
              is_second = q.is_second;
              branches = let l = q.earlier in (omega (arith, e), omega (arith, l), λ k. absurd (omega (arith, l, k)));
              stands = at;
              choice = c;
            })))

    -- what clashes with it stands before it
    pub clashes_before : IsClashing functions Root x u → IsTouchedBefore functions Root x u.path
    clashes_before c =
        let t = c.earlier in
        ⊎_elim (λ b. ⊎_elim (λ l. absurd (led l.0 l.1 l.2)) (λ q. parts_before t c.touches c.clash q) (ahead t.path u.path b)) (λ b. absurd (of_one b.0 (both_observe t.observer u.observer b.1))) c.before
      where
        led : (j : ℕ) (q : Path) → u.path ≡ c.earlier.path ++ (j ∷ q) → ⊥
        led j q e =
            below_touch c.earlier.path q c.earlier.observer u.observer j c.touches (subst (λ p. IsTouchAt functions Root x p u.observer) e touches)
            (λ k n o. c.clash (inr (inl (record { number = n; below = q; sighting = o; second = e ∙ ap (λ j. c.earlier.path ++ (j ∷ q)) k }))))

        of_one : c.earlier.path ≡ u.path → (n : ℕ) × (m : ℕ) × (c.earlier.observer ≡ Some n) × (u.observer ≡ Some m) → ⊥
        of_one e h = c.clash (inr (inr (record { number = h.0; other = h.1; earlier = h.2; later = h.3; one = e })))

    -- and what stands before it clashes with it
    pub before_clashes : IsTouchedBefore functions Root x u.path → IsClashing functions Root x u
    before_clashes b = record { earlier = first; touches = b.touches; before = inl before; clash = apart }
      where
        first : Touch
        first = record { path = b.above ++ (b.one ∷ b.first); observer = b.observer }

        before : PathBefore (b.above ++ (b.one ∷ b.first)) u.path
        before = subst (λ p. PathBefore (b.above ++ (b.one ∷ b.first)) p) (sym b.there) (parted b.above b.first b.second b.one b.other b.earlier)

        two : b.one ≡ b.other → ⊥
        two e = let l = b.earlier in absurd (omega (arith, l, e))

        in_branches : AreInBranches functions Root first u → ⊥
        in_branches a =
            let same = one_parting b.above a.above b.one b.other a.one a.other b.first b.second a.first a.second a.is_first (sym b.there ∙ a.is_second) two a.branches.2 in
            let site : a.site ≡ b.site = some_is (down functions (Some Root) a.above) a.site b.site a.stands (ap (λ p. down functions (Some Root) p) (sym same.0) ∙ b.stands) in
            let none : b.one ≡ 0 = b.together (subst (λ s. IsChoice (shape_inside s.node)) site a.choice) in
            let some = a.branches.0 in
            let number = same.1 in
            absurd (omega (arith, none, some, number))

        apart : Clash functions Root first u
        apart (inl a) = in_branches a
        apart (inr (inl a)) = two (no_lead b.above b.one b.other b.first b.second (1 ∷ a.below) (sym b.there ∙ a.second))
        apart (inr (inr a)) = two (one_number b.above b.one b.other b.first b.second (a.one ∙ b.there))

    -- an earlier touch clashes with this one exactly where one stands before it
    pub clashing : IsClashing functions Root x u ↔ IsTouchedBefore functions Root x u.path
    clashing = (clashes_before, before_clashes)
