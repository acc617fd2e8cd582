-- The sightings of a variable that a term lists are those that stand below its site: the first with no use behind it is the same.
use Rattle.std.proofs.Common.{◌≡◌, ◌<◌, ℕ, zero, suc, Bool, true, false, ◌||◌, cond, nat_eq, Option, Some, None, List, [], ◌∷◌, ◌++◌, length, map, slice_get, ⊎_elim, refl, sym, ap, ◌∙◌, subst, arith, eqb-true, eq-eqb}
use Rattle.cg_base.specs.declared.place.Place.{Place}
use Rattle.cg_base.specs.Types as types
use Rattle.cg_base.specs.Types.{Tau, Parts}
use Rattle.cg_core.specs.declared.term.Seen.{Seen}
use Rattle.cg_core.specs.Kernels.{Function}
use Rattle.cg_core.specs.Terms.{Tree, term, Shape, var, unit, bool, lit, fun, op, app, lets, let_bang, if_else, con, case_of, esac, struct, member, take_field, put, cast, annot, none, more, Named, end, field}
use Rattle.cg_core_def.specs.Lawful.{AreLawfulFields}
use Rattle.cg_typing.specs.Contexts.{push, among}
use Rattle.cg_faults.specs.Occurrences.{Sighting, used, sightings_among, sightings, sightings_fields}
use Rattle.cg_typing.specs.Operators.{Sort, arithmetic, equality, order, logic, sort_of}
use Rattle.cg_faults.specs.Plain.{plain}
use Rattle.cg_typing.specs.Rules.{is_literal}
use Rattle.cg_faults.specs.Sites.{Path, Variable, Entry, Site, observe, scope_types, shape_inside, part_at, operands, field_parts, next_part, parts_behind, parts_against, parts}
use Rattle.cg_faults.specs.Touches.{TouchBefore}
use Rattle.cg_check_laws.proofs.Basics.{or_false}
use Rattle.cg_check_laws.proofs.Clash.{at_most_two}
use Rattle.cg_faults_laws.proofs.Missed.{first_missed, missed_append, Own, Anywhere, IsSightedAt, IsUsedBehind, IsNoLetBang, Outcome, Rows, more_rows, last_row, two_rows, whole, parted}
use Rattle.cg_faults_laws.proofs.Parts.{IsWell, part_is, site_of, LawfulSome}
use Rattle.cg_faults_laws.proofs.Scopes.{Has, keeps_all, keeps_push, keeps_observed, in_part}
use Rattle.cg_faults_laws.proofs.Touches.{here, touch_tells}
use Rattle.cg_faults_laws.proofs.Uses.{use_in_part, use_of_part, use_tells, find}
use Rattle.cg_check_uses.proofs.Numbers.{apart}
use Rattle.cg_check_laws.proofs.OneFault.{some_is}
use Rattle.cg_base.proofs.Truths.{either_false as none_or}

-- ---- the observers of one `let!`

-- the first of them that is this variable
abbrev pub FirstSeen : ℕ → List Seen → Option Place → Type 0
FirstSeen i os None = (n : ℕ) (o : Seen) → slice_get os n ≡ Some o → i ≡ o.var → ⊥
FirstSeen i os (Some place) =
    (n : ℕ) × (o : Seen) × (slice_get os n ≡ Some o) × (i ≡ o.var) × (place ≡ o.place) × ((m : ℕ) (p : Seen) → m < n → slice_get os m ≡ Some p → i ≡ p.var → ⊥)

not_seen : (i : ℕ) (o p : Seen) → nat_eq i o.var ≡ false → Some o ≡ Some p → i ≡ p.var → ⊥
not_seen i o p h e k = let same : o ≡ p = cc in apart (nat_eq i o.var) (eq-eqb i o.var (k ∙ sym (ap (λ o. o.var) same))) h

behind_one : (i : ℕ) (o : Seen) (os : List Seen) (place : Option Place) → nat_eq i o.var ≡ false → FirstSeen i os place → FirstSeen i (o ∷ os) place
behind_one i o os None h f = none_seen
  where
    none_seen : (n : ℕ) (p : Seen) → slice_get (o ∷ os) n ≡ Some p → i ≡ p.var → ⊥
    none_seen zero p e k = not_seen i o p h e k
    none_seen (suc n) p e k = f n p e k
behind_one i o os (Some place) h f = (suc f.0, f.1, f.2, f.3, f.4, before)
  where
    before : (m : ℕ) (p : Seen) → m < suc f.0 → slice_get (o ∷ os) m ≡ Some p → i ≡ p.var → ⊥
    before zero p l e k = not_seen i o p h e k
    before (suc m) p l e k = f.5 m p (omega (arith, l)) e k

seen_first : (i : ℕ) (os : List Seen) → FirstSeen i os (first_missed (sightings_among i false os))
seen_first i [] = λ n o e. absurd (cc)
seen_first i (o ∷ os) = go (nat_eq i o.var) refl (seen_first i os)
  where
    go : (q : Bool) → nat_eq i o.var ≡ q → FirstSeen i os (first_missed (sightings_among i false os))
        → FirstSeen i (o ∷ os) (first_missed (cond q (record { place = o.place; used_later = false } ∷ []) [] ++ sightings_among i false os))
    go true h f = (0, o, refl, eqb-true i o.var h, refl, (λ m p l. absurd (omega (arith, l))))
    go false h f = behind_one i o os (first_missed (sightings_among i false os)) h f

seen_used : (i : ℕ) (os : List Seen) → first_missed (sightings_among i true os) ≡ None
seen_used i [] = refl
seen_used i (o ∷ os) = go (nat_eq i o.var) (seen_used i os)
  where
    go : (q : Bool) → first_missed (sightings_among i true os) ≡ None → first_missed (cond q (record { place = o.place; used_later = true } ∷ []) [] ++ sightings_among i true os) ≡ None
    go true h = h
    go false h = h

module _ (functions : List Function) (x : Variable) (i : ℕ) (s : Site) (w : IsWell s) (h : Has x i false s.scope) (os : List Seen) (v : Place) (e k : Tree Place) (is : shape_inside s.node ≡ let_bang os v e k) where
  -- a sighting at the `let!` itself is one of its observers
  own_observer : (m : ℕ) (t : IsSightedAt functions x s [] m) → (slice_get os m ≡ Some t.0) × (i ≡ t.0.var)
  own_observer m t =
      let same : s ≡ t.1.site = some_is (Some s) s t.1.site refl t.1.stands in
      let shape : shape_inside s.node ≡ let_bang t.1.observers t.1.binder t.1.value t.1.body =
      subst (λ s. shape_inside s.node ≡ let_bang t.1.observers t.1.binder t.1.value t.1.body) (sym same) t.1.is in
      let list : t.1.observers ≡ os = cc in
      (subst (λ os. slice_get os m ≡ Some t.0) list t.1.among, (here functions x i t.0.var false s t.1.site w h t.1.stands t.1.occurs).1)

  own_missed : (o : Option Place) → FirstSeen i os o → (IsUsedBehind functions x s [] → ⊥) → Outcome functions x s Own o
  own_missed None f g = none_seen
    where
      none_seen : Outcome functions x s Own None
      none_seen [] m c t = let q = own_observer m t in absurd (f m t.0 q.0 q.1)
      none_seen (j ∷ q) m c t = absurd c
  own_missed (Some place) f g =
      record {
        path = [];
        number = f.0;
        observer = f.1;
        within = tt;
        sighting = record {
          site = s;
          observers = os;
          binder = v;
          value = e;
          body = k;
          stands = refl;
          is = is;
          among = f.2;
          occurs = record { entry = h.entry; in_scope = subst (λ i. slice_get s.scope i ≡ Some h.entry) f.3 h.at; variable = h.is; unobserved = h.flag };
        };
        at = f.4;
        unused = g;
        first = before;
      }
    where
      before : (q : Path) (m : ℕ) → Own q → IsSightedAt functions x s q m → TouchBefore (record { path = q; observer = Some m }) (record { path = []; observer = Some f.0 }) → IsUsedBehind functions x s q
      before [] m c t b = let q = own_observer m t in ⊎_elim (λ l. absurd l) (λ r. absurd (f.5 m t.0 r.1 q.0 q.1)) b
      before (j ∷ q) m c t b = absurd c

  own_used : IsUsedBehind functions x s [] → Outcome functions x s Own None
  own_used u [] m c t = u
  own_used u (j ∷ q) m c t = absurd c

  own : (u : Bool) → (u ≡ true → IsUsedBehind functions x s []) → (IsUsedBehind functions x s [] → u ≡ true) → Outcome functions x s Own (first_missed (sightings_among i u os))
  own true f g = subst (λ o. Outcome functions x s Own o) (sym (seen_used i os)) (own_used (f refl))
  own false f g = own_missed (first_missed (sightings_among i false os)) (seen_first i os) (λ u. let z = g u in absurd (cc))

-- ---- operands in the other order, where the left one is a literal

data Order (s : Site) (l r : Tree Place) (literal : Bool) : List Site → Type 0 where
  left_first : (d d' : Option Tau) → Order s l r literal (part_at s 0 d l ∷ (part_at s 1 d' r ∷ []))
  right_first : (d d' : Option Tau) → literal ≡ true → Order s l r literal (part_at s 0 d r ∷ (part_at s 1 d' l ∷ []))

order_is : (sort : Sort) (direction : Option Tau) (literal : Bool) (s : Site) (l r : Tree Place) (a b : Tau) → Order s l r literal (operands sort direction literal s l r a b)
order_is logic direction literal s l r a b = left_first (Some types.bool) (Some types.bool)
order_is arithmetic (Some t) literal s l r a b = left_first (Some t) (Some t)
order_is arithmetic None true s l r a b = right_first None (Some b) refl
order_is arithmetic None false s l r a b = left_first None (Some a)
order_is equality direction true s l r a b = right_first None (Some b) refl
order_is equality direction false s l r a b = left_first None (Some a)
order_is order direction true s l r a b = right_first None (Some b) refl
order_is order direction false s l r a b = left_first None (Some a)

literal_sees : (i : ℕ) (e : Tree Place) → is_literal e ≡ true → sightings i e ≡ []
literal_sees i (term a (lit v)) h = refl
literal_sees i (term a (var j)) h = absurd (cc)
literal_sees i (term a unit) h = absurd (cc)
literal_sees i (term a (bool b)) h = absurd (cc)
literal_sees i (term a (fun f args)) h = absurd (cc)
literal_sees i (term a (op o ts)) h = absurd (cc)
literal_sees i (term a (app f y)) h = absurd (cc)
literal_sees i (term a (lets v e k)) h = absurd (cc)
literal_sees i (term a (let_bang os v e k)) h = absurd (cc)
literal_sees i (term a (if_else c y z)) h = absurd (cc)
literal_sees i (term a (con n e)) h = absurd (cc)
literal_sees i (term a (case_of e at v y z)) h = absurd (cc)
literal_sees i (term a (esac at e)) h = absurd (cc)
literal_sees i (term a (struct fs)) h = absurd (cc)
literal_sees i (term a (member e at)) h = absurd (cc)
literal_sees i (term a (take_field e at v w k)) h = absurd (cc)
literal_sees i (term a (put e at y)) h = absurd (cc)
literal_sees i (term a (cast e)) h = absurd (cc)
literal_sees i (term a (annot e t)) h = absurd (cc)

module _ (functions : List Function) (types_in : ℕ) (x : Variable) (i : ℕ) where
  -- what the list says of a term, wherever it stands with the variable unobserved
  abbrev pub Told : Tree Place → Type 0
  Told e =
      (path : Path) (scope : List Entry) (dir : Option Tau) → IsWell (site_of path scope dir e) → LawfulSome functions types_in e → Has x i false scope
      → Outcome functions x (site_of path scope dir e) Anywhere (first_missed (sightings i e))

  keep_push : (scope : List Entry) (e : Entry) → Has x i false scope → Has x i false (push scope e)
  keep_push scope e h = keeps_push scope scope e (keeps_all scope) x i false h

  -- a part, by what is told of its node
  told : (s p : Site) (j : ℕ) → IsWell s → LawfulSome functions types_in s.node → slice_get (parts functions s) j ≡ Some p → Has x i false p.scope → Told p.node
      → Outcome functions x p Anywhere (first_missed (sightings i p.node))
  told s p j w l at h f = let part = part_is functions types_in s w j p at in f p.path p.scope p.direction part.well (part.lawful l) h

  -- the first part of a `let!`: where it observes the variable, no sighting stands there
  told_seen : (s p : Site) (j : ℕ) (os : List Seen) (b : Bool) → among i os ≡ b → IsWell s → LawfulSome functions types_in s.node → slice_get (parts functions s) j ≡ Some p
      → p.scope ≡ observe (λ i. among i os) s.scope → Has x i false s.scope → Told p.node → Outcome functions x p Anywhere (first_missed (cond b [] (sightings i p.node)))
  told_seen s p j os b q w l at scope h f = go b q (subst (λ scope. Has x i (among i os || false) scope) (sym scope) (keeps_observed (λ i. among i os) s.scope x i false h))
    where
      go : (b : Bool) → among i os ≡ b → Has x i (among i os || false) p.scope → Outcome functions x p Anywhere (first_missed (cond b [] (sightings i p.node)))
      go true q has =
          let part = part_is functions types_in s w j p at in
          λ path m c t. apart (among i os) q (or_false (among i os) false (touch_tells functions x i path (Some m) (among i os || false) p part.well has t).0).0
      go false q has = told s p j w l at (subst (λ b. Has x i b p.scope) (none_or (among i os) false q refl) has) f

  swapped : (a b : List Sighting) → a ≡ [] → first_missed (a ++ (b ++ [])) ≡ first_missed (b ++ a)
  swapped [] b h = refl
  swapped (y ∷ a) b h = absurd (cc)

  ordered : (s : Site) (l r : Tree Place) (ps : List Site) → Order s l r (is_literal l) ps → IsWell s → LawfulSome functions types_in l → LawfulSome functions types_in r → Has x i false s.scope
      → Told l → Told r → Rows functions x ps (first_missed (sightings i l ++ (sightings i r ++ [])))
  ordered s l r _ (left_first d d') w a b h f g =
      let first = f (push s.path 0) s.scope d (in_part s.scope s.path 0 w) a h in
      let second = g (push s.path 1) s.scope d' (in_part s.scope s.path 1 w) b h in
      more_rows functions x (part_at s 0 d l) (part_at s 1 d' r ∷ []) (sightings i l) (sightings i r ++ []) first (more_rows functions x (part_at s 1 d' r) [] (sightings i r) [] second refl)
  ordered s l r _ (right_first d d' q) w a b h f g =
      let first = g (push s.path 0) s.scope d (in_part s.scope s.path 0 w) b h in
      let second = f (push s.path 1) s.scope d' (in_part s.scope s.path 1 w) a h in
      subst (λ o. Rows functions x (part_at s 0 d r ∷ (part_at s 1 d' l ∷ [])) o) (sym (swapped (sightings i l) (sightings i r) (literal_sees i l q)))
      (two_rows functions x (part_at s 0 d r) (part_at s 1 d' l) (sightings i r) (sightings i l) first second)

  nothing : (s : Site) → IsNoLetBang s → parts functions s ≡ [] → Outcome functions x s Anywhere None
  nothing s f e = parted functions x s f None (subst (λ ps. Rows functions x ps None) (sym e) refl)

  -- one part, two and three
  one : (s p : Site) → IsWell s → LawfulSome functions types_in s.node → IsNoLetBang s → parts functions s ≡ p ∷ []
      → Has x i false p.scope → Told p.node → Outcome functions x s Anywhere (first_missed (sightings i p.node))
  one s p w l f e h t =
      parted functions x s f _ (subst (λ ps. Rows functions x ps (first_missed (sightings i p.node))) (sym e)
      (last_row functions x p (sightings i p.node) (told s p 0 w l (ap (λ ps. slice_get ps 0) e) h t)))

  two : (s p q : Site) → IsWell s → LawfulSome functions types_in s.node → IsNoLetBang s → parts functions s ≡ p ∷ (q ∷ [])
      → Has x i false p.scope → Told p.node → Has x i false q.scope → Told q.node → Outcome functions x s Anywhere (first_missed (sightings i p.node ++ sightings i q.node))
  two s p q w l f e h t k u =
      parted functions x s f _ (subst (λ ps. Rows functions x ps (first_missed (sightings i p.node ++ sightings i q.node))) (sym e)
      (two_rows functions x p q (sightings i p.node) (sightings i q.node) (told s p 0 w l (ap (λ ps. slice_get ps 0) e) h t) (told s q 1 w l (ap (λ ps. slice_get ps 1) e) k u)))

  three : (s p q r : Site) → IsWell s → LawfulSome functions types_in s.node → IsNoLetBang s
      → parts functions s ≡ p ∷ (q ∷ (r ∷ [])) → Has x i false p.scope → Told p.node → Has x i false q.scope → Told q.node → Has x i false r.scope → Told r.node
      → Outcome functions x s Anywhere (first_missed (sightings i p.node ++ (sightings i q.node ++ sightings i r.node)))
  three s p q r w l f e h t k u m v =
      parted functions x s f _ (subst (λ ps. Rows functions x ps (first_missed (sightings i p.node ++ (sightings i q.node ++ sightings i r.node)))) (sym e)
      (more_rows functions x p (q ∷ (r ∷ [])) (sightings i p.node) (sightings i q.node ++ sightings i r.node) (told s p 0 w l (ap (λ ps. slice_get ps 0) e) h t)
      (two_rows functions x q r (sightings i q.node) (sightings i r.node) (told s q 1 w l (ap (λ ps. slice_get ps 1) e) k u) (told s r 2 w l (ap (λ ps. slice_get ps 2) e) m v))))

  mutual
    pub tell : (e : Tree Place) → Told e
    tell (term a shape) path scope dir w l h = tell_shape a shape path scope dir w l h

    tell_shape : (a : Place) (shape : Shape Place) → Told (term a shape)
    tell_shape a (var j) path scope dir w l h = nothing (site_of path scope dir (term a (var j))) (λ os v e k q. absurd (cc)) refl
    tell_shape a unit path scope dir w l h = nothing (site_of path scope dir (term a unit)) (λ os v e k q. absurd (cc)) refl
    tell_shape a (bool b) path scope dir w l h = nothing (site_of path scope dir (term a (bool b))) (λ os v e k q. absurd (cc)) refl
    tell_shape a (lit n) path scope dir w l h = nothing (site_of path scope dir (term a (lit n))) (λ os v e k q. absurd (cc)) refl
    tell_shape a (fun f args) path scope dir w l h = nothing (site_of path scope dir (term a (fun f args))) (λ os v e k q. absurd (cc)) refl
    tell_shape a (op o none) path scope dir w l h = nothing (site_of path scope dir (term a (op o none))) (λ os v e k q. absurd (cc)) refl
    tell_shape a (op o (more t none)) path scope dir w l h =
        let s = site_of path scope dir (term a (op o (more t none))) in
        parted functions x s (λ os v e k q. absurd (cc)) _ (more_rows functions x _ [] (sightings i t) [] (told s _ 0 w l refl h (tell t)) refl)
    tell_shape a (op o (more t (more r none))) path scope dir w l h =
        let s = site_of path scope dir (term a (op o (more t (more r none)))) in
        parted functions x s (λ os v e k q. absurd (cc)) _
        (ordered s t r _ (order_is (sort_of o) dir (is_literal t) s t r (plain functions (scope_types s) t) (plain functions (scope_types s) r)) w (l.0, l.1.1.0) (l.0, l.1.1.1.0) h (tell t) (tell r))
    tell_shape a (op o (more t (more r (more y ts)))) path scope dir w l h = absurd (let z = at_most_two o in let k = l.1.0 in omega arith)
    tell_shape a (app f y) path scope dir w l h = two (site_of path scope dir (term a (app f y))) _ _ w l (λ os v e k q. absurd (cc)) refl h (tell f) h (tell y)
    tell_shape a (lets v e k) path scope dir w l h = two (site_of path scope dir (term a (lets v e k))) _ _ w l (λ os v e k q. absurd (cc)) refl h (tell e) (keep_push scope _ h) (tell k)
    tell_shape a (let_bang os v e k) path scope dir w l h =
        let s = site_of path scope dir (term a (let_bang os v e k)) in
        let body = told s _ 1 w l refl (keep_push scope _ h) (tell k) in
        let part = part_is functions types_in s w 1 _ refl in
        subst (λ o. Outcome functions x s Anywhere o) (sym (missed_append (sightings_among i (used i k) os) (cond (among i os) [] (sightings i e) ++ sightings i k)))
        (whole functions x s (first_missed (sightings_among i (used i k) os)) (first_missed (cond (among i os) [] (sightings i e) ++ sightings i k))
        (own functions x i s w h os v e k refl (used i k)
        (λ u. let q = find functions types_in x i k _ _ _ (part.lawful l) (keep_push scope _ h) u in (q.0, use_of_part functions x s _ 1 q.0 refl q.1))
        (λ u. (use_tells functions x i u.0 false _ part.well (keep_push scope _ h) (use_in_part functions x s _ 1 u.0 refl u.1)).1))
        (two_rows functions x _ _ (cond (among i os) [] (sightings i e)) (sightings i k) (told_seen s _ 0 os (among i os) refl w l refl refl h (tell e)) body))
    tell_shape a (if_else c y z) path scope dir w l h =
        three (site_of path scope dir (term a (if_else c y z))) _ _ _ w l (λ os v e k q. absurd (cc)) refl h (tell c) h (tell y) h (tell z)
    tell_shape a (con n e) path scope dir w l h = one (site_of path scope dir (term a (con n e))) _ w l (λ os v e k q. absurd (cc)) refl h (tell e)
    tell_shape a (case_of e at v y z) path scope dir w l h =
        three (site_of path scope dir (term a (case_of e at v y z))) _ _ _ w l (λ os v e k q. absurd (cc)) refl h (tell e) (keep_push scope _ h) (tell y) (keep_push scope _ h) (tell z)
    tell_shape a (esac at e) path scope dir w l h = one (site_of path scope dir (term a (esac at e))) _ w l (λ os v e k q. absurd (cc)) refl h (tell e)
    tell_shape a (struct fs) path scope dir w l h =
        let s = site_of path scope dir (term a (struct fs)) in
        parted functions x s (λ os v e k q. absurd (cc)) _ (tell_fields fs s 0 (parts_against dir) w (l.0, l.1.2) h)
    tell_shape a (member e at) path scope dir w l h = one (site_of path scope dir (term a (member e at))) _ w l (λ os v e k q. absurd (cc)) refl h (tell e)
    tell_shape a (take_field e at v u k) path scope dir w l h =
        two (site_of path scope dir (term a (take_field e at v u k))) _ _ w l (λ os v e k q. absurd (cc)) refl h (tell e) (keep_push _ _ (keep_push scope _ h)) (tell k)
    tell_shape a (put e at y) path scope dir w l h = two (site_of path scope dir (term a (put e at y))) _ _ w l (λ os v e k q. absurd (cc)) refl h (tell e) h (tell y)
    tell_shape a (cast e) path scope dir w l h = one (site_of path scope dir (term a (cast e))) _ w l (λ os v e k q. absurd (cc)) refl h (tell e)
    tell_shape a (annot e t) path scope dir w l h = one (site_of path scope dir (term a (annot e t))) _ w l (λ os v e k q. absurd (cc)) refl h (tell e)

    tell_fields : (fs : Named Place) (s : Site) (j : ℕ) (against : Option Parts) → IsWell s → (n : ℕ) × AreLawfulFields (map (λ f. length f.vars) functions) types_in n fs → Has x i false s.scope
        → Rows functions x (field_parts s j against fs) (first_missed (sightings_fields i fs))
    tell_fields end s j against w l h = refl
    tell_fields (field name e fs) s j against w l h =
        more_rows functions x (part_at s j (next_part against) e) (field_parts s (suc j) (parts_behind against) fs) (sightings i e) (sightings_fields i fs)
        (tell e (push s.path j) s.scope (next_part against) (in_part s.scope s.path j w) (l.0, l.1.0) h) (tell_fields fs s (suc j) (parts_behind against) w (l.0, l.1.1) h)
