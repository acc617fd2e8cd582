-- The events of K4 at a variable and at the observers of a `let!` tell what their conditions say.
use Rattle.std.proofs.Common.{◌≡◌, ◌↔◌, ℕ, zero, suc, ◌+◌, ◌<◌, Bool, true, false, ◌||◌, not, cond, Option, Some, None, List, [], ◌∷◌, length, map, slice_get, inl, ⊎_elim, refl, sym, ap, ◌∙◌, subst, arith}
use Rattle.std.proofs.lemmas.Option.{slice_get_cases, slice_get_within, get_or_from_slice_get}
use Rattle.cg_base.specs.declared.place.Place.{Place}
use Rattle.cg_core.specs.declared.term.Seen.{Seen}
use Rattle.cg_core.specs.Kernels.{Function, Body}
use Rattle.cg_core.specs.Terms.{Tree, term, var, let_bang}
use Rattle.cg_faults.specs.declared.rule.Rule.TheVariants.{K4}
use Rattle.cg_typing.specs.Contexts.{shares}
use Rattle.cg_typing.specs.Accepted.{kinds_of_vars}
use Rattle.cg_faults.specs.Conditions.{touched, touch_condition, observer_conditions}
use Rattle.cg_faults.specs.Events.{event, Before, judged, observer_events}
use Rattle.cg_faults.specs.Fails.{root_of}
use Rattle.cg_check_laws.specs.Laws.{IsLawfulIn}
use Rattle.cg_faults.specs.Plain.{plain_at}
use Rattle.cg_faults.specs.Rule.{Test, rule}
use Rattle.cg_faults.specs.Sites.{Variable, Entry, Site, scope_types, shape_inside}
use Rattle.cg_faults.specs.Touches.{Touch, IsTouch, IsClashing}
use Rattle.cg_faults_laws.proofs.Parts.{Lawful}
use Rattle.cg_faults_laws.proofs.Tells.{Tells, tells_append, tells_nothing}
use Rattle.cg_faults_laws.proofs.Standing.{Stand}
use Rattle.cg_faults_laws.proofs.Earlier.{clashing}
use Rattle.cg_base.proofs.Truths.{or_true as or_right}

plain_is : (scope : List Entry) (i : ℕ) (e : Entry) → slice_get scope i ≡ Some e → plain_at (map (λ e. e.ty) scope) i ≡ e.ty
plain_is [] i e h = absurd (cc)
plain_is (z ∷ scope) zero e h = let same : z ≡ e = cc in ap (λ e. e.ty) same
plain_is (z ∷ scope) (suc i) e h = plain_is scope i e h

module _ (functions : List Function) (root : Site) where
  -- an event that holds, where nothing is judged
  tells_no_condition : (t : Test) (p : Place) (h : Bool) → h ≡ true → Tells functions root (event t p h ∷ []) []
  tells_no_condition t p true e = record { result = tt }
  tells_no_condition t p false e = absurd (cc)

  -- the touch clashes where the flag says so
  tells_clash : (x : Variable) (u : Touch) (place : Place) (before share : Bool) → (before ≡ true ↔ IsClashing functions root x u)
      → Tells functions root (judged K4 place (not before || share) ∷ []) (touched place share x u ∷ [])
  tells_clash x u place true true h = record { result = ((λ t p b. let z = b.2 in absurd (cc)), tt) }
  tells_clash x u place true false h = record { result = inl (refl, refl, refl, h.0 refl) }
  tells_clash x u place false share h = record { result = ((λ t p b. let z : false ≡ true = h.1 b.3 in absurd (cc)), tt) }

module _ (functions : List Function) (f : Function) (body : Body) (types_in : ℕ) (lawful : IsLawfulIn functions types_in body.term) where
  abbrev Root : Site
  Root = root_of f body

  lawful_var : (n : ℕ) (e : Tree Place) (i : ℕ) → shape_inside e ≡ var i → Lawful functions types_in n e → i < n
  lawful_var n (term a shape) i h l = subst (λ shape. Lawful functions types_in n (term a shape)) h l

  lawful_observers : (n : ℕ) (t : Tree Place) (os : List Seen) (binder : Place) (e k : Tree Place) → shape_inside t ≡ let_bang os binder e k → Lawful functions types_in n t
      → (m : ℕ) (o : Seen) → slice_get os m ≡ Some o → o.var < n
  lawful_observers n (term a shape) os binder e k h l m o at =
      let q : Lawful functions types_in n (term a (let_bang os binder e k)) = subst (λ shape. Lawful functions types_in n (term a shape)) h l in
      subst (λ o. o.var < n) (get_or_from_slice_get os m o o at) (q.0 m o (slice_get_within os m o at))

  module _ (s : Site) (b : Before) (stand : Stand functions f body types_in s b) where
    abbrev here : Option ℕ → Touch
    here observer = record { path = s.path; observer = observer }

    -- the event of a touch of the variable at a position of the site's scope
    tells_touch : (place : Place) (i : ℕ) (observer : Option ℕ) → i < length s.scope
        → ((e : Entry) → slice_get s.scope i ≡ Some e → e.observed ≡ false → IsTouch functions Root e.variable (here observer))
        → Tells functions Root (judged K4 place (not (b i) || shares (kinds_of_vars f) (plain_at (scope_types s) i)) ∷ [])
        (touch_condition (kinds_of_vars f) place (here observer) (slice_get s.scope i))
    tells_touch place i observer inside touches = go (slice_get s.scope i) refl
      where
        entry : (e : Entry) → slice_get s.scope i ≡ Some e → (q : Bool) → e.observed ≡ q
            → Tells functions Root (judged K4 place (not (b i) || shares (kinds_of_vars f) (plain_at (scope_types s) i)) ∷ [])
            (cond q [] (touched place (shares (kinds_of_vars f) e.ty) e.variable (here observer) ∷ []))
        entry e at true o =
            tells_no_condition functions Root (rule K4) place _
            (or_right (not (b i)) (shares (kinds_of_vars f) (plain_at (scope_types s) i)) (ap (λ t. shares (kinds_of_vars f) t) (plain_is s.scope i e at) ∙ (stand.seen i e at o).1))
        entry e at false o =
            let c = clashing functions f body types_in lawful e.variable (here observer) (touches e at o) in
            let h = stand.flags i e at o in
            subst (λ t. Tells functions Root (judged K4 place (not (b i) || shares (kinds_of_vars f) t) ∷ []) (touched place (shares (kinds_of_vars f) e.ty) e.variable (here observer) ∷ []))
            (sym (plain_is s.scope i e at))
            (tells_clash functions Root e.variable (here observer) place (b i) (shares (kinds_of_vars f) e.ty) (λ k. c.1 (h.0 k), λ k. h.1 (c.0 k)))

        go : (o : Option Entry) → slice_get s.scope i ≡ o
            → Tells functions Root (judged K4 place (not (b i) || shares (kinds_of_vars f) (plain_at (scope_types s) i)) ∷ []) (touch_condition (kinds_of_vars f) place (here observer) o)
        go None at = ⊎_elim (λ l. let k = l.2 in absurd (cc)) (λ r. let k = r.0 in absurd (omega (arith, k, inside))) (slice_get_cases s.scope i).1
        go (Some e) at = entry e at e.observed refl

    -- those of the observers of a `let!` from one on
    tells_from : (os : List Seen) (binder : Place) (e k : Tree Place) → shape_inside s.node ≡ let_bang os binder e k
        → ((m : ℕ) (o : Seen) → slice_get os m ≡ Some o → o.var < length s.scope)
        → (rest : List Seen) (n : ℕ) → ((m : ℕ) (o : Seen) (l : ℕ) → l ≡ m + n → slice_get rest m ≡ Some o → slice_get os l ≡ Some o)
        → Tells functions Root (observer_events functions (kinds_of_vars f) (scope_types s) b rest) (observer_conditions (kinds_of_vars f) s n rest)
    tells_from os binder e k is inside [] n there = tells_nothing functions Root
    tells_from os binder e k is inside (o ∷ rest) n there =
        tells_append functions Root (judged K4 o.place (not (b o.var) || shares (kinds_of_vars f) (plain_at (scope_types s) o.var)) ∷ [])
        (observer_events functions (kinds_of_vars f) (scope_types s) b rest)
        (touch_condition (kinds_of_vars f) o.place (here (Some n)) (slice_get s.scope o.var))
        (observer_conditions (kinds_of_vars f) s (suc n) rest)
        (tells_touch o.place o.var (Some n) (inside n o (there zero o n (omega arith) refl)) sighted)
        (tells_from os binder e k is inside rest (suc n) (λ m p l eq h. there (suc m) p l (omega (arith, eq)) h))
      where
        sighted : (x : Entry) → slice_get s.scope o.var ≡ Some x → x.observed ≡ false → IsTouch functions Root x.variable (here (Some n))
        sighted x at unobserved = (
          o,
          record {
            site = s;
            observers = os;
            binder = binder;
            value = e;
            body = k;
            stands = stand.stands;
            is = is;
            among = there zero o n (omega arith) refl;
            occurs = record { entry = x; in_scope = at; variable = refl; unobserved = unobserved };
          },
        )

  -- K4 at a variable
  pub tells_variable : (s : Site) (b : Before) → Stand functions f body types_in s b → (i : ℕ) → shape_inside s.node ≡ var i → (place : Place)
      → Tells functions Root (judged K4 place (not (b i) || shares (kinds_of_vars f) (plain_at (scope_types s) i)) ∷ [])
      (touch_condition (kinds_of_vars f) place (record { path = s.path; observer = None }) (slice_get s.scope i))
  tells_variable s b stand i is place =
      tells_touch s b stand place i None (lawful_var (length s.scope) s.node i is stand.lawful)
      (λ e at o. record { site = s; position = i; stands = stand.stands; is = is; occurs = record { entry = e; in_scope = at; variable = refl; unobserved = o } })

  -- and at the observers of a `let!`
  pub tells_observers : (s : Site) (b : Before) → Stand functions f body types_in s b → (os : List Seen) (binder : Place) (e k : Tree Place) → shape_inside s.node ≡ let_bang os binder e k
      → Tells functions Root (observer_events functions (kinds_of_vars f) (scope_types s) b os) (observer_conditions (kinds_of_vars f) s 0 os)
  tells_observers s b stand os binder e k is =
      tells_from s b stand os binder e k is (lawful_observers (length s.scope) s.node os binder e k is stand.lawful) os 0
      (λ m o l eq h. (let same : m ≡ l = omega (arith, eq) in subst (λ l. slice_get os l ≡ Some o) same h))
