-- Flags for earlier touches stand at the body's own node, where there are none, and go down from a site to its parts.
use Rattle.std.proofs.Common.{◌≡◌, ◌⊎◌, ◌↔◌, ℕ, zero, suc, ◌<◌, true, false, ◌||◌, Option, Some, None, List, [], ◌∷◌, ◌++◌, slice_get, inl, inr, ⊎_elim, refl, sym, ap, ◌∙◌, subst, arith, append-nil, append_assoc}
use Rattle.std.proofs.lemmas.Option.{slice_get_within}
use Rattle.cg_core.specs.Kernels.{Function, Body}
use Rattle.cg_kinds.specs.Kinds.{bang}
use Rattle.cg_kinds.proofs.Laws.{bang_free}
use Rattle.cg_typing.specs.Contexts.{push, drops, shares}
use Rattle.cg_typing.specs.Accepted.{kinds_of_vars}
use Rattle.cg_faults.specs.Events.{Before, nowhere}
use Rattle.cg_faults.specs.Fails.{root_of}
use Rattle.cg_check_laws.specs.Laws.{IsLawfulIn}
use Rattle.cg_faults.specs.Sites.{Path, Variable, bound_at, Entry, Site, shape_inside, parts, down}
use Rattle.cg_faults.specs.Touches.{IsChoice, IsTouchAt}
use Rattle.cg_faults_laws.proofs.Scopes.{push_append, fresh_bound}
use Rattle.cg_faults_laws.proofs.Parts.{part_is}
use Rattle.cg_faults_laws.proofs.Paths.{part_follows, path_is, IsIn, IsBoundBetween, origin}
use Rattle.cg_faults_laws.proofs.Binders.{bound_in}
use Rattle.cg_faults_laws.proofs.Bound.{bound_variables_stand_below}
use Rattle.cg_faults_laws.proofs.Uses.{root_well}
use Rattle.cg_faults_laws.proofs.Touches.{touch_from, into_part, out_of_part, from_root, to_root, touch_tells, touches_agree}
use Rattle.cg_faults_laws.proofs.Standing.{IsTouchedBefore, IsTouchedPart, IsFlagged, Stand}
use Rattle.cg_faults_laws.proofs.Earlier.{no_lead, touch_stands}
use Rattle.cg_faults_laws.proofs.Exact.{IsOld, IsNew, entry_is, part_exact}
use Rattle.cg_check_laws.proofs.OneFault.{some_is}

-- ---- paths

no_way : (above second : Path) (other : ℕ) → [] ≡ above ++ (other ∷ second) → ⊥
no_way [] second other e = absurd (cc)
no_way (k ∷ above) second other e = absurd (cc)

-- where a path with one step more parts: at its last step, or above
last_split : (path above second : Path) (j other : ℕ) → path ++ (j ∷ []) ≡ above ++ (other ∷ second) → ((above ≡ path) × (other ≡ j)) ⊎ ((rest : Path) × (path ≡ above ++ (other ∷ rest)))
last_split [] [] second j other e = inl (refl, cc)
last_split [] (m ∷ above) second j other e = let v : [] ≡ above ++ (other ∷ second) = cc in absurd (no_way above second other v)
last_split (k ∷ path) [] second j other e = inr (path, cc)
last_split (k ∷ path) (m ∷ above) second j other e =
    let n : k ≡ m = cc in
    let v : path ++ (j ∷ []) ≡ above ++ (other ∷ second) = cc in
    ⊎_elim (λ l. inl (let h = l.0 in cc, l.1)) (λ r. inr (r.0, let h = r.1 in cc)) (last_split path above second j other v)

module _ (functions : List Function) (f : Function) (body : Body) (types_in : ℕ) (lawful : IsLawfulIn functions types_in body.term) where
  abbrev Root : Site
  Root = root_of f body

  -- the body's own node: the argument isn't observed, and nothing stands before it
  pub root_stands : Stand functions f body types_in Root nowhere
  root_stands = record { stands = refl; well = root_well f body; lawful = lawful; seen = none; flags = λ i e at o. (λ h. absurd (cc), λ b. absurd (no_way b.above b.second b.other b.there)) }
    where
      none : (i : ℕ) (e : Entry) → slice_get Root.scope i ≡ Some e → e.observed ≡ true → (drops (kinds_of_vars f) e.ty ≡ true) × (shares (kinds_of_vars f) e.ty ≡ true)
      none zero e at o = absurd (cc)
      none (suc i) e at o = absurd (cc)

  -- where a touch stands, its variable is in scope
  touch_in : (root : Site) (x : Variable) (path : Path) (t : Option ℕ) → IsTouchAt functions root x path t → (z : Site) × (down functions (Some root) path ≡ Some z) × IsIn functions x z.scope
  touch_in root x path None u = (u.site, u.stands, (u.position, u.occurs.entry, u.occurs.in_scope, u.occurs.variable))
  touch_in root x path (Some n) u = (u.1.site, u.1.stands, (u.0.var, u.1.occurs.entry, u.1.occurs.in_scope, u.1.occurs.variable))

  module _ (s : Site) (b : Before) (stand : Stand functions f body types_in s b) (j : ℕ) (p : Site) (at : slice_get (parts functions s) j ≡ Some p) where
    way : p.path ≡ s.path ++ (j ∷ [])
    way = (part_follows functions s j p at).0 ∙ (sym (append-nil (push s.path j)) ∙ push_append s.path [] j)

    -- a touch in a part of the site, from that part
    record PartTouch (x : Variable) (one : ℕ) (first : Path) (t : Option ℕ) : Type 0 where
      pub part : Site
      pub is : slice_get (parts functions s) one ≡ Some part
      pub touches : IsTouchAt functions part x first t

    part_touch : (x : Variable) (one : ℕ) (first : Path) (t : Option ℕ) → IsTouchAt functions Root x (s.path ++ (one ∷ first)) t → PartTouch x one first t
    part_touch x one first t u = go (slice_get (parts functions s) one) refl
      where
        there : IsTouchAt functions s x (one ∷ first) t
        there = touch_from functions Root s x (s.path ++ (one ∷ first)) (one ∷ first) t (to_root functions Root s s.path (one ∷ first) stand.stands) u

        go : (o : Option Site) → slice_get (parts functions s) one ≡ o → PartTouch x one first t
        go None e = let z = touch_stands functions s x (one ∷ first) t there in let k : down functions None first ≡ Some z.0 = subst (λ o. down functions o first ≡ Some z.0) e z.1 in absurd (cc)
        go (Some q) e = record { part = q; is = e; touches = touch_from functions s q x (one ∷ first) first t (into_part functions s q one first e) there }

    -- ---- a variable of the site's own scope
    module _ (i : ℕ) (g : Entry) (in_scope : slice_get s.scope i ≡ Some g) (unobserved : g.observed ≡ false) where
      goes_down : IsTouchedBefore functions Root g.variable s.path → IsTouchedBefore functions Root g.variable p.path
      goes_down h =
          record {
            above = h.above;
            one = h.one;
            other = h.other;
            first = h.first;
            second = h.second ++ (j ∷ []);
            observer = h.observer;
            site = h.site;
            earlier = h.earlier;
            there = way ∙ (ap (λ q. q ++ (j ∷ [])) h.there ∙ append_assoc h.above (h.other ∷ h.second) (j ∷ []));
            touches = h.touches;
            stands = h.stands;
            together = h.together;
          }

      from_part : IsTouchedPart functions s i j → IsTouchedBefore functions Root g.variable p.path
      from_part h =
          let q = h.part in
          let path : q.path ≡ s.path ++ (h.number ∷ []) = (part_follows functions s h.number q h.is).0 ∙ (sym (append-nil (push s.path h.number)) ∙ push_append s.path [] h.number) in
          let stands : down functions (Some Root) q.path ≡ Some q =
          subst (λ r. down functions (Some Root) r ≡ Some q) (sym path) (from_root functions Root s s.path (h.number ∷ []) stand.stands q (out_of_part functions s q h.number [] h.is q refl)) in
          let t = (touches_agree functions f body types_in lawful q.path q stands i h.entry h.in_scope h.unobserved).0 h.is_touched in
          let there : q.path ++ t.below ≡ s.path ++ (h.number ∷ t.below) = ap (λ r. r ++ t.below) (part_follows functions s h.number q h.is).0 ∙ push_append s.path t.below h.number in
          let touch : IsTouchAt functions Root h.entry.variable (s.path ++ (h.number ∷ t.below)) t.observer = subst (λ r. IsTouchAt functions Root h.entry.variable r t.observer) there t.touches in
          record {
            above = s.path;
            one = h.number;
            other = j;
            first = t.below;
            second = [];
            observer = t.observer;
            site = s;
            earlier = h.earlier;
            there = way;
            touches = subst (λ x. IsTouchAt functions Root x (s.path ++ (h.number ∷ t.below)) t.observer) variable touch;
            stands = stand.stands;
            together = h.together;
          }
        where
          variable : h.entry.variable ≡ g.variable
          variable =
              ⊎_elim (λ o. o.variable ∙ ap (λ e. e.variable) (some_is (slice_get s.scope i) o.entry g o.at in_scope))
              (λ n. let l = n.behind in let w = slice_get_within s.scope i g in_scope in absurd (omega (arith, l, w)))
              (entry_is s h.part.scope (part_exact functions types_in s stand.lawful h.number h.part h.is).scope i h.entry h.in_scope)

      touched_part : (one : ℕ) (first : Path) (t : Option ℕ) → one < j → (IsChoice (shape_inside s.node) → one ≡ 0) → PartTouch g.variable one first t → IsTouchedPart functions s i j
      touched_part one first t earlier together u =
          let q = part_is functions types_in s stand.well one u.part u.is in
          let has = q.keeps g.variable i false (record { entry = g; at = in_scope; is = refl; flag = unobserved }) in
          let r = touch_tells functions g.variable i first t (q.observes i || false) u.part q.well has u.touches in
          record {
            number = one;
            part = u.part;
            entry = has.entry;
            earlier = earlier;
            is = u.is;
            in_scope = has.at;
            unobserved = has.flag ∙ r.0;
            is_touched = r.1;
            together = together;
          }

      comes_down : IsTouchedBefore functions Root g.variable p.path → IsTouchedBefore functions Root g.variable s.path ⊎ IsTouchedPart functions s i j
      comes_down h = ⊎_elim (λ l. inr (here l.0 l.1)) (λ r. inl (above r.0 r.1)) (last_split s.path h.above h.second j h.other (sym way ∙ h.there))
        where
          here : h.above ≡ s.path → h.other ≡ j → IsTouchedPart functions s i j
          here e n =
              let site : h.site ≡ s = some_is (down functions (Some Root) s.path) h.site s (ap (λ q. down functions (Some Root) q) (sym e) ∙ h.stands) stand.stands in
              let l = h.earlier in
              touched_part h.one h.first h.observer (omega (arith, l, n)) (λ c. h.together (subst (λ z. IsChoice (shape_inside z.node)) (sym site) c))
              (part_touch g.variable h.one h.first h.observer (subst (λ q. IsTouchAt functions Root g.variable (q ++ (h.one ∷ h.first)) h.observer) e h.touches))

          above : (rest : Path) → s.path ≡ h.above ++ (h.other ∷ rest) → IsTouchedBefore functions Root g.variable s.path
          above rest e =
              record {
                above = h.above;
                one = h.one;
                other = h.other;
                first = h.first;
                second = rest;
                observer = h.observer;
                site = h.site;
                earlier = h.earlier;
                there = e;
                touches = h.touches;
                stands = h.stands;
                together = h.together;
              }

    -- ---- a variable that is bound at the site
    module _ (i n : ℕ) (e : Entry) (in_scope : slice_get p.scope i ≡ Some e) (variable : e.variable ≡ bound_at s.path n) where
      -- it is in scope in no other part
      in_other_part : (one : ℕ) (first : Path) (t : Option ℕ) → one < j → PartTouch (bound_at s.path n) one first t → ⊥
      in_other_part one first t earlier u =
          let z = touch_in u.part (bound_at s.path n) first t u.touches in
          ⊎_elim (λ l. scoped l) (λ r. between z.0 r) (origin functions first u.part z.0 (bound_at s.path n) z.1 z.2)
        where
          scoped : IsIn functions (bound_at s.path n) u.part.scope → ⊥
          scoped l =
              let a = bound_in functions s stand.well one u.part u.is n l.0 l.1 l.2 l.3 in
              let c = bound_in functions s stand.well j p at n i e in_scope variable in
              absurd (omega (arith, a, c, earlier))

          between : (z : Site) → IsBoundBetween functions u.part z first (bound_at s.path n) → ⊥
          between z r =
              fresh_bound s.path one n r.above r.number
              (r.bound ∙ ap (λ q. bound_at q r.number) (path_is functions r.above u.part r.site r.stands ∙ ap (λ q. q ++ r.above) (part_follows functions s one u.part u.is).0))

      none_before : IsTouchedBefore functions Root (bound_at s.path n) p.path → ⊥
      none_before h = ⊎_elim (λ l. here l.0 l.1) (λ r. above r.0 r.1) (last_split s.path h.above h.second j h.other (sym way ∙ h.there))
        where
          here : h.above ≡ s.path → h.other ≡ j → ⊥
          here k m =
              let l = h.earlier in
              in_other_part h.one h.first h.observer (omega (arith, l, m))
              (part_touch (bound_at s.path n) h.one h.first h.observer (subst (λ q. IsTouchAt functions Root (bound_at s.path n) (q ++ (h.one ∷ h.first)) h.observer) k h.touches))

          above : (rest : Path) → s.path ≡ h.above ++ (h.other ∷ rest) → ⊥
          above rest k =
              let q = bound_variables_stand_below functions f body s.path n (h.above ++ (h.one ∷ h.first)) h.observer h.touches in
              let same = no_lead h.above h.other h.one rest h.first q.0 (q.1 ∙ ap (λ r. r ++ q.0) k) in
              let l = h.earlier in
              absurd (omega (arith, l, same))

    -- ---- all of it
    seen_there : (i : ℕ) (e : Entry) → e.observed ≡ true → IsOld s i e → (drops (kinds_of_vars f) e.ty ≡ true) × (shares (kinds_of_vars f) e.ty ≡ true)
    seen_there i e o old = ⊎_elim (λ k. kept k) (λ k. banged k.1) old.same
      where
        kept : e ≡ old.entry → (drops (kinds_of_vars f) e.ty ≡ true) × (shares (kinds_of_vars f) e.ty ≡ true)
        kept k =
            subst (λ t. (drops (kinds_of_vars f) t ≡ true) × (shares (kinds_of_vars f) t ≡ true)) (sym (ap (λ e. e.ty) k)) (stand.seen i old.entry old.at (sym (ap (λ e. e.observed) k) ∙ o))

        banged : e.ty ≡ bang old.entry.ty → (drops (kinds_of_vars f) e.ty ≡ true) × (shares (kinds_of_vars f) e.ty ≡ true)
        banged k = subst (λ t. (drops (kinds_of_vars f) t ≡ true) × (shares (kinds_of_vars f) t ≡ true)) (sym k) (bang_free (kinds_of_vars f) old.entry.ty)

    flags_there : (flags : Before) → IsFlagged functions s b j p flags → (i : ℕ) (e : Entry) → slice_get p.scope i ≡ Some e → e.observed ≡ false → IsOld s i e ⊎ IsNew s i e
        → (flags i ≡ true ↔ IsTouchedBefore functions Root e.variable p.path)
    flags_there flags h i e in_scope o (inl old) =
        subst (λ x. flags i ≡ true ↔ IsTouchedBefore functions Root x p.path) (sym old.variable) (to, back)
      where
        unobserved : old.entry.observed ≡ false
        unobserved = ⊎_elim (λ k. sym (ap (λ e. e.observed) k) ∙ o) (λ k. let q = k.0 in absurd (cc)) old.same

        told : flags i ≡ true ↔ (b i ≡ true ⊎ IsTouchedPart functions s i j)
        told = h.old i e in_scope o (slice_get_within s.scope i old.entry old.at)

        to : flags i ≡ true → IsTouchedBefore functions Root old.entry.variable p.path
        to k =
            ⊎_elim (λ l. goes_down i old.entry old.at unobserved ((stand.flags i old.entry old.at unobserved).0 l))
            (λ r. from_part i old.entry old.at unobserved r) (told.0 k)

        back : IsTouchedBefore functions Root old.entry.variable p.path → flags i ≡ true
        back k =
            told.1 (⊎_elim (λ l. inl ((stand.flags i old.entry old.at unobserved).1 l)) (λ r. inr r) (comes_down i old.entry old.at unobserved k))
    flags_there flags h i e in_scope o (inr new) =
        let none = h.new i e in_scope new.behind in (
          λ k. absurd (cc),
          λ k. absurd (none_before i new.number e in_scope new.variable (subst (λ x. IsTouchedBefore functions Root x p.path) new.variable k)),
        )

    pub part_stands_at : (flags : Before) → IsFlagged functions s b j p flags → Stand functions f body types_in p flags
    part_stands_at flags h =
        let exact = part_exact functions types_in s stand.lawful j p at in
        record {
          stands = subst (λ q. down functions (Some Root) q ≡ Some p) (sym way) (from_root functions Root s s.path (j ∷ []) stand.stands p (out_of_part functions s p j [] at p refl));
          well = (part_is functions types_in s stand.well j p at).well;
          lawful = exact.lawful;
          seen = λ i e in_scope o. ⊎_elim (λ k. seen_there i e o k) (λ k. let q = k.unobserved in absurd (cc)) (entry_is s p.scope exact.scope i e in_scope);
          flags = λ i e in_scope o. flags_there flags h i e in_scope o (entry_is s p.scope exact.scope i e in_scope);
        }

  -- flags go down to the parts of a site
  pub part_stands : (s : Site) (b : Before) → Stand functions f body types_in s b → (j : ℕ) (p : Site) → slice_get (parts functions s) j ≡ Some p
      → (flags : Before) → IsFlagged functions s b j p flags → Stand functions f body types_in p flags
  part_stands s b stand j p at flags h = part_stands_at s b stand j p at flags h
