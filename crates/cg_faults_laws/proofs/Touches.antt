-- A variable is touched in a site's node, by the test on terms, exactly where a touch of it stands there or below: a use, or a sighting.
use Rattle.std.proofs.Common.{nat_eq, inl, inr, ◌≡◌, ℕ, zero, suc, Bool, true, false, ◌||◌, Option, Some, None, List, [], ◌∷◌, ◌++◌, length, map, slice_get, refl, sym, ap, ◌∙◌, subst, arith, eqb-true, eq-eqb}
use Rattle.cg_base.specs.declared.place.Place.{Place}
use Rattle.cg_base.specs.Types.{Tau, Parts}
use Rattle.cg_core.specs.declared.term.Seen.{Seen}
use Rattle.cg_core.specs.Kernels.{Function}
use Rattle.cg_core.specs.Terms.{Tree, term, Shape, var, unit, bool, lit, fun, op, app, lets, let_bang, if_else, con, case_of, esac, struct, member, take_field, put, cast, annot, none, more, Named, end, field}
use Rattle.cg_core_def.specs.Lawful.{AreLawfulFields}
use Rattle.cg_typing.specs.Contexts.{push, among}
use Rattle.cg_faults.specs.Fails.{root_of}
use Rattle.cg_faults.specs.Occurrences.{touched, touched_fields}
use Rattle.cg_typing.specs.Operators.{sort_of}
use Rattle.cg_faults.specs.Plain.{plain}
use Rattle.cg_typing.specs.Rules.{is_literal}
use Rattle.cg_faults.specs.Sites.{Path, Variable, Entry, Site, observe, scope_types, shape_inside, part_at, field_parts, next_part, parts_behind, parts_against, parts, down}
use Rattle.cg_faults.specs.Touches.{IsUnobserved, IsSighting, IsTouchAt}
use Rattle.cg_check_laws.proofs.Basics.{or_false}
use Rattle.cg_check_laws.proofs.Clash.{at_most_two}
use Rattle.cg_faults_laws.specs.Laws.{TouchesAgree}
use Rattle.cg_faults_laws.proofs.Scopes.{Has, keeps_all, keeps_push, keeps_observed}
use Rattle.cg_faults_laws.proofs.Uses.{moved, down_append, below, root_well}
use Rattle.cg_faults_laws.proofs.Parts.{IsWell, InOrder, left_first, right_first, operands_are, part_is, site_of, LawfulSome}
use Rattle.cg_check_uses.proofs.Numbers.{apart}
use Rattle.cg_check_laws.proofs.OneFault.{some_is}
use Rattle.cg_base.proofs.Truths.{either_bool as bool_is, either as or_elim, either_false as none_or, or_true as or_right, or_left}

pub among_at : (os : List Seen) (n : ℕ) (o : Seen) (i : ℕ) → slice_get os n ≡ Some o → i ≡ o.var → among i os ≡ true
among_at [] n o i h e = absurd (cc)
among_at (p ∷ os) zero o i h e = let same : p ≡ o = cc in or_left (nat_eq i p.var) (among i os) (eq-eqb i p.var (e ∙ sym (ap (λ p. p.var) same)))
among_at (p ∷ os) (suc n) o i h e = or_right (nat_eq i p.var) (among i os) (among_at os n o i h e)

var_touched : (e : Tree Place) (i j : ℕ) → shape_inside e ≡ var j → i ≡ j → touched i e ≡ true
var_touched (term a shape) i j h same = subst (λ s. touched i (term a s) ≡ true) (sym h) (eq-eqb i j same)

observer_touched : (t : Tree Place) (i : ℕ) (os : List Seen) (v : Place) (e k : Tree Place) → shape_inside t ≡ let_bang os v e k → among i os ≡ true → touched i t ≡ true
observer_touched (term a shape) i os v e k h q = subst (λ s. touched i (term a s) ≡ true) (sym h) (or_left (among i os) (touched i e || touched i k) q)

module _ (functions : List Function) where
  pub sighting_from : (a b : Site) (x : Variable) (p q : Path) (n : ℕ) (o : Seen) → ((s : Site) → down functions (Some a) p ≡ Some s → down functions (Some b) q ≡ Some s)
      → IsSighting functions a x p n o → IsSighting functions b x q n o
  sighting_from a b x p q n o f u =
      record {
        site = u.site;
        observers = u.observers;
        binder = u.binder;
        value = u.value;
        body = u.body;
        stands = f u.site u.stands;
        is = u.is;
        among = u.among;
        occurs = moved functions a b x u.site o.var u.occurs;
      }

  -- a touch from one site and from another, of which the sites below are the same
  pub touch_from : (a b : Site) (x : Variable) (p q : Path) (t : Option ℕ) → ((s : Site) → down functions (Some a) p ≡ Some s → down functions (Some b) q ≡ Some s)
      → IsTouchAt functions a x p t → IsTouchAt functions b x q t
  touch_from a b x p q None f u =
      record { site = u.site; position = u.position; stands = f u.site u.stands; is = u.is; occurs = moved functions a b x u.site u.position u.occurs }
  touch_from a b x p q (Some n) f u = (u.0, sighting_from a b x p q n u.0 f u.1)

  pub into_part : (s p : Site) (j : ℕ) (path : Path) → slice_get (parts functions s) j ≡ Some p → (z : Site) → down functions (Some s) (j ∷ path) ≡ Some z → down functions (Some p) path ≡ Some z
  into_part s p j path at z h = subst (λ o. down functions o path ≡ Some z) at h

  pub out_of_part : (s p : Site) (j : ℕ) (path : Path) → slice_get (parts functions s) j ≡ Some p → (z : Site) → down functions (Some p) path ≡ Some z → down functions (Some s) (j ∷ path) ≡ Some z
  out_of_part s p j path at z h = subst (λ o. down functions o path ≡ Some z) (sym at) h

  pub from_root : (root s : Site) (path below : Path) → down functions (Some root) path ≡ Some s → (z : Site) → down functions (Some s) below ≡ Some z → down functions (Some root) (path ++ below) ≡ Some z
  from_root root s path below at z h = down_append functions (Some root) path below ∙ (ap (λ o. down functions o below) at ∙ h)

  pub to_root : (root s : Site) (path below : Path) → down functions (Some root) path ≡ Some s → (z : Site) → down functions (Some root) (path ++ below) ≡ Some z → down functions (Some s) below ≡ Some z
  to_root root s path below at z h = sym (down_append functions (Some root) path below ∙ ap (λ o. down functions o below) at) ∙ h

  -- a variable that stands unobserved in a scope without double entries
  pub here : (x : Variable) (i j : ℕ) (o : Bool) (s z : Site) → IsWell s → Has x i o s.scope → Some s ≡ Some z → IsUnobserved functions s x z j → (o ≡ false) × (i ≡ j)
  here x i j o s z w h stands u =
      let same : s ≡ z = some_is (Some s) s z refl stands in
      let at : slice_get s.scope j ≡ Some u.entry = subst (λ s. slice_get s.scope j ≡ Some u.entry) (sym same) u.in_scope in
      let place : i ≡ j = w.distinct i j h.entry u.entry h.at at (h.is ∙ sym u.variable) in
      let entry : h.entry ≡ u.entry = some_is (slice_get s.scope j) h.entry u.entry (subst (λ i. slice_get s.scope i ≡ Some h.entry) place h.at) at in
      (sym h.flag ∙ (ap (λ e. e.observed) entry ∙ u.unobserved), place)

  -- where a touch stands at or below, the variable isn't observed, and the test says that it is touched
  pub touch_tells : (x : Variable) (i : ℕ) (path : Path) (t : Option ℕ) (o : Bool) (s : Site) → IsWell s → Has x i o s.scope → IsTouchAt functions s x path t → (o ≡ false) × (touched i s.node ≡ true)
  touch_tells x i [] None o s w h u =
      let same : s ≡ u.site = some_is (Some s) s u.site refl u.stands in
      let q = here x i u.position o s u.site w h u.stands u.occurs in
      (q.0, var_touched s.node i u.position (subst (λ s. shape_inside s.node ≡ var u.position) (sym same) u.is) q.1)
  touch_tells x i [] (Some n) o s w h pair =
      let u = pair.1 in
      let same : s ≡ u.site = some_is (Some s) s u.site refl u.stands in
      let q = here x i pair.0.var o s u.site w h u.stands u.occurs in (
        q.0,
        observer_touched s.node i u.observers u.binder u.value u.body (subst (λ s. shape_inside s.node ≡ let_bang u.observers u.binder u.value u.body) (sym same) u.is)
            (among_at u.observers n pair.0 i u.among q.1),
      )
  touch_tells x i (j ∷ path) t o s w h u = go (touch_tells x i path t) (stands_at t u) (slice_get (parts functions s) j) refl
    where
      stands_at : (t : Option ℕ) → IsTouchAt functions s x (j ∷ path) t → (z : Site) × (down functions (Some s) (j ∷ path) ≡ Some z)
      stands_at None u = (u.site, u.stands)
      stands_at (Some n) u = (u.1.site, u.1.stands)

      go : ((o : Bool) (s : Site) → IsWell s → Has x i o s.scope → IsTouchAt functions s x path t → (o ≡ false) × (touched i s.node ≡ true))
          → (z : Site) × (down functions (Some s) (j ∷ path) ≡ Some z) → (q : Option Site) → slice_get (parts functions s) j ≡ q → (o ≡ false) × (touched i s.node ≡ true)
      go f z None e = let k : down functions None path ≡ Some z.0 = subst (λ o. down functions o path ≡ Some z.0) e z.1 in absurd (cc)
      go f z (Some p) e =
          let part = part_is functions 0 s w j p e in
          let r = f (part.observes i || o) p part.well (part.keeps x i o h) (touch_from s p x (j ∷ path) path t (into_part s p j path e) u) in
          let n = or_false (part.observes i) o r.0 in
          (n.1, part.touches i r.1)

module _ (functions : List Function) (types_in : ℕ) (x : Variable) (i : ℕ) where
  -- a touch stands in a site, at its own path or below
  abbrev TouchedIn : Site → Type 0
  TouchedIn s = (path : Path) × (t : Option ℕ) × IsTouchAt functions s x path t

  through : (s p : Site) (j : ℕ) → slice_get (parts functions s) j ≡ Some p → TouchedIn p → TouchedIn s
  through s p j at u = (j ∷ u.0, u.1, touch_from functions p s x u.0 (j ∷ u.0) u.1 (out_of_part functions s p j u.0 at) u.2)

  -- where the test says that a variable is touched which isn't observed, a touch stands there
  abbrev Finds : Tree Place → Type 0
  Finds e = (path : Path) (scope : List Entry) (dir : Option Tau) → LawfulSome functions types_in e → Has x i false scope → touched i e ≡ true → TouchedIn (site_of path scope dir e)

  keep_push : (scope : List Entry) (e : Entry) → Has x i false scope → Has x i false (push scope e)
  keep_push scope e h = keeps_push scope scope e (keeps_all scope) x i false h

  keep_seen : (os : List Seen) (scope : List Entry) → among i os ≡ false → Has x i false scope → Has x i false (observe (λ i. among i os) scope)
  keep_seen os scope q h = subst (λ b. Has x i b (observe (λ i. among i os) scope)) (none_or (among i os) false q refl) (keeps_observed (λ i. among i os) scope x i false h)

  find_ordered : (s : Site) (l r : Tree Place) (ps : List Site) → InOrder s l r ps → Finds l → Finds r → LawfulSome functions types_in l → LawfulSome functions types_in r → Has x i false s.scope
      → (touched i l || (touched i r || false)) ≡ true → (j : ℕ) × (p : Site) × (slice_get ps j ≡ Some p) × TouchedIn p
  find_ordered s l r _ (left_first d d') f g a b h u =
      or_elim (touched i l) (touched i r || false) u (λ q. (0, part_at s 0 d l, refl, f (push s.path 0) s.scope d a h q))
      (λ q. (1, part_at s 1 d' r, refl, g (push s.path 1) s.scope d' b h (or_elim (touched i r) false q (λ q. q) (λ q. absurd (cc)))))
  find_ordered s l r _ (right_first d d') f g a b h u =
      or_elim (touched i l) (touched i r || false) u (λ q. (1, part_at s 1 d' l, refl, f (push s.path 1) s.scope d' a h q))
      (λ q. (0, part_at s 0 d r, refl, g (push s.path 0) s.scope d b h (or_elim (touched i r) false q (λ q. q) (λ q. absurd (cc)))))

  -- the observer that is this variable
  observer_is : (os : List Seen) → among i os ≡ true → (n : ℕ) × (o : Seen) × (slice_get os n ≡ Some o) × (i ≡ o.var)
  observer_is [] h = absurd (cc)
  observer_is (o ∷ os) h = or_elim (nat_eq i o.var) (among i os) h (λ q. (0, o, refl, eqb-true i o.var q)) (λ q. (let r = observer_is os q in (suc r.0, r.1, r.2, r.3)))

  sighted : (a v : Place) (os : List Seen) (e k : Tree Place) (path : Path) (scope : List Entry) (dir : Option Tau) → Has x i false scope → among i os ≡ true
      → TouchedIn (site_of path scope dir (term a (let_bang os v e k)))
  sighted a v os e k path scope dir h q =
      let r = observer_is os q in (
        [],
        Some r.0,
        (
          r.1,
          record {
            site = site_of path scope dir (term a (let_bang os v e k));
            observers = os;
            binder = v;
            value = e;
            body = k;
            stands = refl;
            is = refl;
            among = r.2;
            occurs = record { entry = h.entry; in_scope = subst (λ i. slice_get scope i ≡ Some h.entry) r.3 h.at; variable = h.is; unobserved = h.flag };
          },
        ),
      )

  mutual
    find : (e : Tree Place) → Finds e
    find (term a shape) path scope dir l h u = find_shape a shape path scope dir l h u

    find_shape : (a : Place) (shape : Shape Place) → Finds (term a shape)
    find_shape a (var j) path scope dir l h u = (
      [],
      None,
      record {
        site = site_of path scope dir (term a (var j));
        position = j;
        stands = refl;
        is = refl;
        occurs = let same : i ≡ j = eqb-true i j u in record { entry = h.entry; in_scope = subst (λ i. slice_get scope i ≡ Some h.entry) same h.at; variable = h.is; unobserved = h.flag };
      },
    )
    find_shape a unit path scope dir l h u = absurd (cc)
    find_shape a (bool b) path scope dir l h u = absurd (cc)
    find_shape a (lit v) path scope dir l h u = absurd (cc)
    find_shape a (fun f args) path scope dir l h u = absurd (cc)
    find_shape a (op o none) path scope dir l h u = absurd (cc)
    find_shape a (op o (more t none)) path scope dir l h u =
        through (site_of path scope dir (term a (op o (more t none)))) _ 0 refl (find t (push path 0) scope _ (l.0, l.1.1.0) h (or_elim (touched i t) false u (λ q. q) (λ q. absurd (cc))))
    find_shape a (op o (more t (more r none))) path scope dir l h u =
        let s = site_of path scope dir (term a (op o (more t (more r none)))) in
        let q = find_ordered s t r _ (operands_are (sort_of o) dir (is_literal t) s t r (plain functions (scope_types s) t) (plain functions (scope_types s) r)) (find t) (find r) (l.0, l.1.1.0) (l.0, l.1.1.1.0) h u in
        through s q.1 q.0 q.2 q.3
    find_shape a (op o (more t (more r (more y ts)))) path scope dir l h u = absurd (let z = at_most_two o in let k = l.1.0 in omega arith)
    find_shape a (app f y) path scope dir l h u =
        let s = site_of path scope dir (term a (app f y)) in
        or_elim (touched i f) (touched i y) u (λ q. through s _ 0 refl (find f (push path 0) scope None (l.0, l.1.0) h q))
        (λ q. through s _ 1 refl (find y (push path 1) scope _ (l.0, l.1.1) h q))
    find_shape a (lets v e k) path scope dir l h u =
        let s = site_of path scope dir (term a (lets v e k)) in
        or_elim (touched i e) (touched i k) u (λ q. through s _ 0 refl (find e (push path 0) scope None (l.0, l.1.0) h q))
        (λ q. through s _ 1 refl (find k (push path 1) _ dir (suc l.0, l.1.1) (keep_push scope _ h) q))
    find_shape a (let_bang os v e k) path scope dir l h u =
        let s = site_of path scope dir (term a (let_bang os v e k)) in
        elim (bool_is (among i os)) [
          | inl q ↦ sighted a v os e k path scope dir h q
          | inr q ↦ or_elim (among i os) (touched i e || touched i k) u (λ r. apart (among i os) r q)
              (λ r. or_elim (touched i e) (touched i k) r
              (λ r. through s _ 0 refl (find e (push path 0) _ None (l.0, l.1.1) (keep_seen os scope q h) r))
              (λ r. through s _ 1 refl (find k (push path 1) _ dir (suc l.0, l.1.2) (keep_push scope _ h) r)))
        ]
    find_shape a (if_else c y z) path scope dir l h u =
        let s = site_of path scope dir (term a (if_else c y z)) in
        or_elim (touched i c) (touched i y || touched i z) u (λ q. through s _ 0 refl (find c (push path 0) scope _ (l.0, l.1.0) h q))
        (λ q. or_elim (touched i y) (touched i z) q (λ q. through s _ 1 refl (find y (push path 1) scope dir (l.0, l.1.1) h q))
        (λ q. through s _ 2 refl (find z (push path 2) scope _ (l.0, l.1.2) h q)))
    find_shape a (con n e) path scope dir l h u = through (site_of path scope dir (term a (con n e))) _ 0 refl (find e (push path 0) scope _ l h u)
    find_shape a (case_of e at v y z) path scope dir l h u =
        let s = site_of path scope dir (term a (case_of e at v y z)) in
        or_elim (touched i e) (touched i y || touched i z) u (λ q. through s _ 0 refl (find e (push path 0) scope None (l.0, l.1.0) h q))
        (λ q. or_elim (touched i y) (touched i z) q (λ q. through s _ 1 refl (find y (push path 1) _ dir (suc l.0, l.1.1) (keep_push scope _ h) q))
        (λ q. through s _ 2 refl (find z (push path 2) _ _ (suc l.0, l.1.2) (keep_push scope _ h) q)))
    find_shape a (esac at e) path scope dir l h u = through (site_of path scope dir (term a (esac at e))) _ 0 refl (find e (push path 0) scope None l h u)
    find_shape a (struct fs) path scope dir l h u =
        let s = site_of path scope dir (term a (struct fs)) in
        let q = find_fields fs s 0 (parts_against dir) (l.0, l.1.2) h u in
        through s q.1 q.0 q.2 q.3
    find_shape a (member e at) path scope dir l h u = through (site_of path scope dir (term a (member e at))) _ 0 refl (find e (push path 0) scope None l h u)
    find_shape a (take_field e at v w k) path scope dir l h u =
        let s = site_of path scope dir (term a (take_field e at v w k)) in
        or_elim (touched i e) (touched i k) u (λ q. through s _ 0 refl (find e (push path 0) scope None (l.0, l.1.0) h q))
        (λ q. through s _ 1 refl (find k (push path 1) _ dir (suc (suc l.0), l.1.1) (keep_push _ _ (keep_push scope _ h)) q))
    find_shape a (put e at y) path scope dir l h u =
        let s = site_of path scope dir (term a (put e at y)) in
        or_elim (touched i e) (touched i y) u (λ q. through s _ 0 refl (find e (push path 0) scope None (l.0, l.1.0) h q))
        (λ q. through s _ 1 refl (find y (push path 1) scope _ (l.0, l.1.1) h q))
    find_shape a (cast e) path scope dir l h u = through (site_of path scope dir (term a (cast e))) _ 0 refl (find e (push path 0) scope None l h u)
    find_shape a (annot e t) path scope dir l h u = through (site_of path scope dir (term a (annot e t))) _ 0 refl (find e (push path 0) scope _ (l.0, l.1.0) h u)

    find_fields : (fs : Named Place) (s : Site) (j : ℕ) (against : Option Parts) → (n : ℕ) × AreLawfulFields (map (λ f. length f.vars) functions) types_in n fs → Has x i false s.scope
        → touched_fields i fs ≡ true → (k : ℕ) × (p : Site) × (slice_get (field_parts s j against fs) k ≡ Some p) × TouchedIn p
    find_fields end s j against l h u = absurd (cc)
    find_fields (field name e fs) s j against l h u =
        or_elim (touched i e) (touched_fields i fs) u (λ q. (0, part_at s j (next_part against) e, refl, find e (push s.path j) s.scope (next_part against) (l.0, l.1.0) h q))
        (λ q. let r = find_fields fs s (suc j) (parts_behind against) (l.0, l.1.1) h q in (suc r.0, r.1, r.2, r.3))

pub touches_agree : TouchesAgree
touches_agree functions f body types_in lawful path s at i e in_scope unobserved =
    let root = root_of f body in
    let b = below functions types_in path root s at (root_well f body) (1, lawful) in
    let has : Has e.variable i false s.scope = record { entry = e; at = in_scope; is = refl; flag = unobserved } in (
      λ u. (let q = find functions types_in e.variable i s.node s.path s.scope s.direction b.1 has u in
          record { below = q.0; observer = q.1; touches = touch_from functions s root e.variable q.0 (path ++ q.0) q.1 (from_root functions root s path q.0 at) q.2 }),
      λ h. (touch_tells functions e.variable i h.below h.observer false s b.0 has
          (touch_from functions root s e.variable (path ++ h.below) h.below h.observer (to_root functions root s path h.below at) h.touches)).1,
    )
