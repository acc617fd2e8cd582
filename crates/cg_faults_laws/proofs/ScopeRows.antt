-- Where the scope of a variable ends: the tests on its uses and on what stands behind its sightings tell what the conditions say.
use Rattle.std.proofs.Common.{◌≡◌, ℕ, Bool, true, false, ◌||◌, cond, Option, Some, None, List, [], ◌∷◌, ◌++◌, length, map, slice_get, inl, inr, ⊎_elim, refl, sym, ap, ◌∙◌, subst, arith, append_assoc}
use Rattle.cg_base.specs.declared.kind.Kinds.{Kinds}
use Rattle.cg_base.specs.declared.place.Place.{Place}
use Rattle.cg_base.specs.Types.{Tau}
use Rattle.cg_core.specs.Kernels.{Function, Body}
use Rattle.cg_faults.specs.declared.rule.Rule.TheVariants.{K3}
use Rattle.cg_typing.specs.Accepted.{kinds_of_vars}
use Rattle.cg_faults.specs.Conditions.{unused, observed, IsUnusedBehind, scope_conditions}
use Rattle.cg_faults.specs.Events.{Before, Fault, judged, scope_end, first_failing}
use Rattle.cg_faults.specs.Fails.{root_of}
use Rattle.cg_check_laws.specs.Laws.{IsLawfulIn}
use Rattle.cg_faults.specs.Occurrences.{Sighting, used, sightings}
use Rattle.cg_faults.specs.Rule.{rule}
use Rattle.cg_faults.specs.Sites.{Path, Variable, argument, bound_at, Entry, Site, parts, down}
use Rattle.cg_faults.specs.Touches.{Touch, PathBefore, NumberBefore, TouchBefore, IsUse, IsTouchAt, IsTouch, HasUse}
use Rattle.cg_typing.specs.Contexts.{push, drops}
use Rattle.cg_faults_laws.proofs.Binders.{bound_in}
use Rattle.cg_faults_laws.proofs.Bound.{bound_variables_stand_below}
use Rattle.cg_faults_laws.proofs.Missed.{first_missed, Anywhere, IsSightedAt, IsUsedBehind, Outcome}
use Rattle.cg_faults_laws.proofs.Parts.{IsWell, LawfulSome}
use Rattle.cg_faults_laws.proofs.Paths.{IsIn, IsBoundBetween, origin, part_follows, path_is}
use Rattle.cg_faults_laws.proofs.Scopes.{Has, push_append, fresh_bound, lacks_bound}
use Rattle.cg_faults_laws.proofs.Sightings.{tell}
use Rattle.cg_faults_laws.proofs.Standing.{Stand}
use Rattle.cg_faults_laws.proofs.Tells.{Result, Tells}
use Rattle.cg_faults_laws.proofs.Touches.{sighting_from, from_root, to_root}
use Rattle.cg_faults_laws.proofs.Uses.{find, use_from, use_at, use_tells, root_well}

-- ---- paths with a common beginning

push_end : (p q : Path) (j : ℕ) → push (p ++ q) j ≡ p ++ push q j
push_end [] q j = refl
push_end (i ∷ p) q j = ap (λ p. i ∷ p) (push_end p q j)

behind_is : (p q b : Path) → push (p ++ q) 1 ++ b ≡ p ++ (push q 1 ++ b)
behind_is p q b = ap (λ p. p ++ b) (push_end p q 1) ∙ append_assoc p (push q 1) b

path_before : (p q r : Path) → PathBefore (p ++ q) (p ++ r) → PathBefore q r
path_before [] q r h = h
path_before (i ∷ p) q r h = ⊎_elim (λ l. absurd (omega (arith, l))) (λ k. path_before p q r k.1) h

path_same : (p q r : Path) → p ++ q ≡ p ++ r → q ≡ r
path_same [] q r h = h
path_same (i ∷ p) q r h = path_same p q r (cc)

-- ---- the events

fault_at : Option Place → Option Fault
fault_at None = None
fault_at (Some place) = Some (rule K3, place)

droppable : (ss : List Sighting) → first_failing (map (λ s. judged K3 s.place (true || s.used_later)) ss) ≡ None
droppable [] = refl
droppable (s ∷ ss) = droppable ss

missed_is : (ss : List Sighting) → first_failing (map (λ s. judged K3 s.place (false || s.used_later)) ss) ≡ fault_at (first_missed ss)
unfolding fault_at
missed_is [] = refl
missed_is (s ∷ ss) = go s.used_later (missed_is ss)
  where
    go : (u : Bool) → first_failing (map (λ s. judged K3 s.place (false || s.used_later)) ss) ≡ fault_at (first_missed ss)
        → first_failing (judged K3 s.place u ∷ map (λ s. judged K3 s.place (false || s.used_later)) ss) ≡ fault_at (cond u (first_missed ss) (Some s.place))
    go true h = h
    go false h = refl

-- a variable that stands unobserved in the scope of a site, and is touched only below
module _ (functions : List Function) (types_in : ℕ) (x : Variable) (i : ℕ) (root p : Site) (path : Path) (stands : down functions (Some root) path ≡ Some p) (w : IsWell p) (l : LawfulSome functions types_in p.node)
    (h : Has x i false p.scope) (under : (q : Path) (t : Option ℕ) → IsTouchAt functions root x q t → (below : Path) × (q ≡ path ++ below)) where
  used_is : used i p.node ≡ true → HasUse functions root x []
  used_is u = let q = find functions types_in x i p.node p.path p.scope p.direction l h u in (path ++ q.0, use_from functions x root p path q.0 stands q.1)

  is_used : HasUse functions root x [] → used i p.node ≡ true
  is_used u =
      let b = under u.0 None u.1 in
      (use_tells functions x i b.0 false p w h (use_at functions x root p path b.0 stands (subst (λ q. IsUse functions root x q) b.1 u.1))).1

  behind_from : (q : Path) → IsUsedBehind functions x p q → IsUsedBehind functions x root (path ++ q)
  behind_from q u = (u.0, subst (λ r. IsUse functions root x r) (sym (behind_is path q u.0)) (use_from functions x root p path (push q 1 ++ u.0) stands u.1))

  behind_at : (q : Path) → IsUsedBehind functions x root (path ++ q) → IsUsedBehind functions x p q
  behind_at q u = (u.0, use_at functions x root p path (push q 1 ++ u.0) stands (subst (λ r. IsUse functions root x r) (behind_is path q u.0) u.1))

  sighted_at : (q : Path) (m : ℕ) → IsSightedAt functions x root (path ++ q) m → IsSightedAt functions x p q m
  sighted_at q m t = (t.0, sighting_from functions root p x (path ++ q) q m t.0 (to_root functions root p path q stands) t.1)

  -- the first sighting with no use behind it, in the whole body
  abbrev OnRoot : Option Place → Type 0
  OnRoot None = (q : Path) (m : ℕ) → IsSightedAt functions x root q m → IsUsedBehind functions x root q
  OnRoot (Some place) = IsUnusedBehind functions root x place

  on_root : (o : Option Place) → Outcome functions x p Anywhere o → OnRoot o
  on_root None k = λ q m t. (let b = under q (Some m) t in
      subst (λ q. IsUsedBehind functions x root q) (sym b.1) (behind_from b.0 (k b.0 m tt (sighted_at b.0 m (subst (λ q. IsSightedAt functions x root q m) b.1 t)))))
  on_root (Some place) k =
      record {
        path = path ++ k.path;
        number = k.number;
        observer = k.observer;
        sighting = sighting_from functions p root x k.path (path ++ k.path) k.number k.observer (from_root functions root p path k.path stands) k.sighting;
        at = k.at;
        unused = λ u. k.unused (behind_at k.path u);
        first = before;
      }
    where
      before : (t : Touch) (n : ℕ) → t.observer ≡ Some n → IsTouch functions root x t → TouchBefore t (record { path = path ++ k.path; observer = Some k.number }) → HasUse functions root x (push t.path 1)
      before t n e touch b =
          let u : IsSightedAt functions x root t.path n = subst (λ o. IsTouchAt functions root x t.path o) e touch in
          let r = under t.path (Some n) u in
          let c : TouchBefore (record { path = r.0; observer = Some n }) (record { path = k.path; observer = Some k.number }) =
          ⊎_elim (λ l. inl (path_before path r.0 k.path (subst (λ q. PathBefore q (path ++ k.path)) r.1 l)))
          (λ z. inr (path_same path r.0 k.path (sym r.1 ∙ z.0), subst (λ o. NumberBefore o (Some k.number)) e z.1)) b in
          subst (λ q. IsUsedBehind functions x root q) (sym r.1) (behind_from r.0 (k.first r.0 n tt (sighted_at r.0 n (subst (λ q. IsSightedAt functions x root q n) r.1 u)) c))

  tells_used : (o : Option Place) (binder : Place) → HasUse functions root x [] → OnRoot o → Result functions root (fault_at o) (unused binder false x ∷ (observed false x ∷ []))
  unfolding fault_at
  tells_used None binder u k = ((λ t p b. b.3 u), ((λ t p b. (let m = b.3 in m.unused (k m.path m.number (m.observer, m.sighting)))), tt))
  tells_used (Some place) binder u k = inr ((λ t p b. b.3 u), inl (refl, refl, u, k))

  tells_rows : (d u : Bool) (ss : List Sighting) (binder : Place) → (u ≡ true → HasUse functions root x []) → (HasUse functions root x [] → u ≡ true) → OnRoot (first_missed ss)
      → Tells functions root (judged K3 binder (d || u) ∷ map (λ s. judged K3 s.place (d || s.used_later)) ss) (unused binder d x ∷ (observed d x ∷ []))
  tells_rows true u ss binder f g k =
      record {
        result = subst (λ o. Result functions root o (unused binder true x ∷ (observed true x ∷ []))) (sym (droppable ss))
            ((λ t p b. let z = b.2 in absurd (cc)), ((λ t p b. let z = b.1 in absurd (cc)), tt));
      }
  tells_rows false true ss binder f g k =
      record { result = subst (λ o. Result functions root o (unused binder false x ∷ (observed false x ∷ []))) (sym (missed_is ss)) (tells_used (first_missed ss) binder (f refl) k) }
  tells_rows false false ss binder f g k = record { result = inl (refl, refl, refl, (λ z. let e = g z in absurd (cc))) }

  tells_end : (vars : List Kinds) (binder : Place) (t : Tau) → Tells functions root (scope_end functions vars i binder t p.node) (scope_conditions vars binder t x)
  tells_end vars binder t =
      tells_rows (drops vars t) (used i p.node) (sightings i p.node) binder used_is is_used
      (on_root (first_missed (sightings i p.node)) (tell functions types_in x i p.node p.path p.scope p.direction w l h))

module _ (functions : List Function) (f : Function) (body : Body) (types_in : ℕ) (lawful : IsLawfulIn functions types_in body.term) where
  -- what is bound at a site is touched only below the part that binds it
  module _ (s : Site) (b : Before) (st : Stand functions f body types_in s b) (j : ℕ) (p : Site) (at : slice_get (parts functions s) j ≡ Some p)
      (n i : ℕ) (e : Entry) (in_scope : slice_get p.scope i ≡ Some e) (is : e.variable ≡ bound_at s.path n) where
    bound_here : (k : ℕ) (c : Site) (below : Path) → slice_get (parts functions s) k ≡ Some c → IsIn functions (bound_at s.path n) c.scope → (s.path ++ (k ∷ below)) ≡ p.path ++ below
    bound_here k c below k_at h =
        let same : k ≡ j = bound_in functions s st.well k c k_at n h.0 h.1 h.2 h.3 ∙ sym (bound_in functions s st.well j p at n i e in_scope is) in
        sym (push_append s.path below k) ∙ ap (λ q. q ++ below) (ap (λ k. push s.path k) same ∙ sym (part_follows functions s j p at).0)

    bound_below : (k : ℕ) (c z : Site) (below : Path) → slice_get (parts functions s) k ≡ Some c → IsBoundBetween functions c z below (bound_at s.path n) → ⊥
    bound_below k c z below k_at b =
        fresh_bound s.path k n b.above b.number (b.bound ∙ ap (λ q. bound_at q b.number) (path_is functions b.above c b.site b.stands ∙ ap (λ q. q ++ b.above) (part_follows functions s k c k_at).0))

    in_part : (below : Path) (z : Site) → down functions (Some s) below ≡ Some z → IsIn functions (bound_at s.path n) z.scope → (rest : Path) × (s.path ++ below ≡ p.path ++ rest)
    in_part [] z d h =
        let same : z ≡ s = cc in absurd (lacks_bound s.scope s.path n st.well.fresh h.0 h.1 (subst (λ z. slice_get z.scope h.0 ≡ Some h.1) same h.2) h.3)
    in_part (k ∷ below) z d h = go (slice_get (parts functions s) k) refl d
      where
        go : (o : Option Site) → slice_get (parts functions s) k ≡ o → down functions o below ≡ Some z → (rest : Path) × (s.path ++ (k ∷ below) ≡ p.path ++ rest)
        go None k_at d = absurd (cc)
        go (Some c) k_at d =
            ⊎_elim (λ l. (below, bound_here k c below k_at l)) (λ r. absurd (bound_below k c z below k_at r)) (origin functions below c z (bound_at s.path n) d h)

    stands_at : (q : Path) (t : Option ℕ) → IsTouchAt functions (root_of f body) (bound_at s.path n) q t
        → (z : Site) × (down functions (Some (root_of f body)) q ≡ Some z) × IsIn functions (bound_at s.path n) z.scope
    stands_at q None u = (u.site, u.stands, (u.position, u.occurs.entry, u.occurs.in_scope, u.occurs.variable))
    stands_at q (Some k) u = (u.1.site, u.1.stands, (u.0.var, u.1.occurs.entry, u.1.occurs.in_scope, u.1.occurs.variable))

    under_part : (q : Path) (t : Option ℕ) → IsTouchAt functions (root_of f body) (bound_at s.path n) q t → (below : Path) × (q ≡ p.path ++ below)
    under_part q t u =
        let c = bound_variables_stand_below functions f body s.path n q t u in
        let z = stands_at q t u in
        let r = in_part c.0 z.0 (to_root functions (root_of f body) s s.path c.0 st.stands z.0 (subst (λ q. down functions (Some (root_of f body)) q ≡ Some z.0) c.1 z.1)) z.2 in
        (r.0, c.1 ∙ r.1)

  pub tells_scope : (s : Site) (b : Before) → Stand functions f body types_in s b → (j : ℕ) (p : Site) → slice_get (parts functions s) j ≡ Some p → (flags : Before) → Stand functions f body types_in p flags
      → (n i : ℕ) (e : Entry) → slice_get p.scope i ≡ Some e → e.variable ≡ bound_at s.path n → e.observed ≡ false → (binder : Place)
      → Tells functions (root_of f body) (scope_end functions (kinds_of_vars f) i binder e.ty p.node) (scope_conditions (kinds_of_vars f) binder e.ty (bound_at s.path n))
  tells_scope s b st j p at flags sp n i e in_scope is unobserved binder =
      tells_end functions types_in (bound_at s.path n) i (root_of f body) p p.path sp.stands sp.well (length p.scope, sp.lawful)
      (record { entry = e; at = in_scope; is = is; flag = unobserved }) (under_part s b st j p at n i e in_scope is) (kinds_of_vars f) binder e.ty

  pub tells_argument : (binder : Place) (t : Tau) → Tells functions (root_of f body) (scope_end functions (kinds_of_vars f) 0 binder t body.term) (scope_conditions (kinds_of_vars f) binder t argument)
  tells_argument binder t =
      tells_end functions types_in argument 0 (root_of f body) (root_of f body) [] refl (root_well f body) (1, lawful)
      (record { entry = _; at = refl; is = refl; flag = refl }) (λ q t u. (q, refl)) (kinds_of_vars f) binder t
