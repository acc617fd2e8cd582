-- A variable is used in a site's node, by the test on terms, exactly where a use of it stands there or below.
use Rattle.std.proofs.Common.{◌≡◌, ℕ, zero, suc, Bool, true, false, ◌&&◌, ◌||◌, not, Option, Some, None, List, [], ◌∷◌, ◌++◌, length, map, slice_get, refl, sym, ap, ◌∙◌, subst, arith, eqb-true, eq-eqb}
use Rattle.cg_base.specs.declared.place.Place.{Place}
use Rattle.cg_base.specs.Types.{Tau, Parts}
use Rattle.cg_core.specs.declared.term.Seen.{Seen}
use Rattle.cg_core.specs.Kernels.{Function, Body}
use Rattle.cg_core.specs.Terms.{Tree, term, Shape, var, unit, bool, lit, fun, op, app, lets, let_bang, if_else, con, case_of, esac, struct, member, take_field, put, cast, annot, none, more, Named, end, field}
use Rattle.cg_core_def.specs.Lawful.{AreLawfulFields}
use Rattle.cg_typing.specs.Contexts.{push, among}
use Rattle.cg_faults.specs.Fails.{root_of}
use Rattle.cg_faults.specs.Occurrences.{used, used_fields}
use Rattle.cg_typing.specs.Operators.{sort_of}
use Rattle.cg_faults.specs.Plain.{plain}
use Rattle.cg_typing.specs.Rules.{is_literal}
use Rattle.cg_faults.specs.Sites.{Path, Variable, argument, bound_at, Entry, Site, observe, scope_types, shape_inside, part_at, field_parts, next_part, parts_behind, parts_against, parts, down}
use Rattle.cg_faults.specs.Touches.{IsUnobserved, IsUse}
use Rattle.cg_check_laws.proofs.Basics.{or_false}
use Rattle.cg_check_laws.proofs.Clash.{at_most_two}
use Rattle.cg_faults_laws.specs.Laws.{UsesAgree}
use Rattle.cg_faults_laws.proofs.Scopes.{Has, Distinct, AreFresh, keeps_all, keeps_push, keeps_observed}
use Rattle.cg_faults_laws.proofs.Parts.{IsWell, InOrder, left_first, right_first, operands_are, part_is, site_of, LawfulSome}
use Rattle.cg_check_laws.proofs.OneFault.{some_is}
use Rattle.cg_base.proofs.Truths.{either as or_elim, either_false as none_or}

var_used : (e : Tree Place) (i j : ℕ) → shape_inside e ≡ var j → i ≡ j → used i e ≡ true
var_used (term a shape) i j h same = subst (λ s. used i (term a s) ≡ true) (sym h) (eq-eqb i j same)

module _ (functions : List Function) where
  pub down_append : (o : Option Site) (p q : Path) → down functions o (p ++ q) ≡ down functions (down functions o p) q
  down_append None p q = refl
  down_append (Some s) [] q = refl
  down_append (Some s) (j ∷ p) q = down_append (slice_get (parts functions s) j) p q

  -- what stands unobserved in a scope is said without the body
  pub moved : (a b : Site) (x : Variable) (s : Site) (i : ℕ) → IsUnobserved functions a x s i → IsUnobserved functions b x s i
  moved a b x s i u = record { entry = u.entry; in_scope = u.in_scope; variable = u.variable; unobserved = u.unobserved }

  -- a use below a part, from the part and from the node
  pub use_in_part : (x : Variable) (s p : Site) (j : ℕ) (path : Path) → slice_get (parts functions s) j ≡ Some p → IsUse functions s x (j ∷ path) → IsUse functions p x path
  use_in_part x s p j path at u =
      record {
        site = u.site;
        position = u.position;
        stands = subst (λ o. down functions o path ≡ Some u.site) at u.stands;
        is = u.is;
        occurs = moved s p x u.site u.position u.occurs;
      }

  pub use_of_part : (x : Variable) (s p : Site) (j : ℕ) (path : Path) → slice_get (parts functions s) j ≡ Some p → IsUse functions p x path → IsUse functions s x (j ∷ path)
  use_of_part x s p j path at u =
      record {
        site = u.site;
        position = u.position;
        stands = subst (λ o. down functions o path ≡ Some u.site) (sym at) u.stands;
        is = u.is;
        occurs = moved p s x u.site u.position u.occurs;
      }

  -- a use below a site, from the site and from the body
  pub use_from : (x : Variable) (root s : Site) (path below : Path) → down functions (Some root) path ≡ Some s → IsUse functions s x below → IsUse functions root x (path ++ below)
  use_from x root s path below at u =
      record {
        site = u.site;
        position = u.position;
        stands = down_append (Some root) path below ∙ (ap (λ o. down functions o below) at ∙ u.stands);
        is = u.is;
        occurs = moved s root x u.site u.position u.occurs;
      }

  pub use_at : (x : Variable) (root s : Site) (path below : Path) → down functions (Some root) path ≡ Some s → IsUse functions root x (path ++ below) → IsUse functions s x below
  use_at x root s path below at u =
      record {
        site = u.site;
        position = u.position;
        stands = sym (down_append (Some root) path below ∙ ap (λ o. down functions o below) at) ∙ u.stands;
        is = u.is;
        occurs = moved root s x u.site u.position u.occurs;
      }

  -- a site below has a scope, and is lawful
  pub below : (types_in : ℕ) (path : Path) (s p : Site) → down functions (Some s) path ≡ Some p → IsWell s → LawfulSome functions types_in s.node → IsWell p × LawfulSome functions types_in p.node
  below types_in [] s p at w l = let same : s ≡ p = cc in (subst (λ s. IsWell s) same w, subst (λ s. LawfulSome functions types_in s.node) same l)
  below types_in (j ∷ path) s p at w l = go (λ q. below types_in path q p) (slice_get (parts functions s) j) refl at
    where
      go : ((q : Site) → down functions (Some q) path ≡ Some p → IsWell q → LawfulSome functions types_in q.node → IsWell p × LawfulSome functions types_in p.node)
          → (o : Option Site) → slice_get (parts functions s) j ≡ o → down functions o path ≡ Some p → IsWell p × LawfulSome functions types_in p.node
      go f None e h = absurd (cc)
      go f (Some q) e h = let part = part_is functions types_in s w j q e in f q h part.well (part.lawful l)

  -- where a use stands at or below, the variable isn't observed, and the test says that it is used
  pub use_tells : (x : Variable) (i : ℕ) (path : Path) (o : Bool) (s : Site) → IsWell s → Has x i o s.scope → IsUse functions s x path → (o ≡ false) × (used i s.node ≡ true)
  use_tells x i [] o s w h u =
      let same : s ≡ u.site = some_is (Some s) s u.site refl u.stands in
      let at : slice_get s.scope u.position ≡ Some u.occurs.entry = subst (λ s. slice_get s.scope u.position ≡ Some u.occurs.entry) (sym same) u.occurs.in_scope in
      let place : i ≡ u.position = w.distinct i u.position h.entry u.occurs.entry h.at at (h.is ∙ sym u.occurs.variable) in
      let entry : h.entry ≡ u.occurs.entry = some_is (slice_get s.scope u.position) h.entry u.occurs.entry (subst (λ i. slice_get s.scope i ≡ Some h.entry) place h.at) at in (
        sym h.flag ∙ (ap (λ e. e.observed) entry ∙ u.occurs.unobserved),
        var_used s.node i u.position (subst (λ s. shape_inside s.node ≡ var u.position) (sym same) u.is) place,
      )
  use_tells x i (j ∷ path) o s w h u = go (use_tells x i path) (slice_get (parts functions s) j) refl u.stands
    where
      go : ((o : Bool) (s : Site) → IsWell s → Has x i o s.scope → IsUse functions s x path → (o ≡ false) × (used i s.node ≡ true))
          → (q : Option Site) → slice_get (parts functions s) j ≡ q → down functions q path ≡ Some u.site → (o ≡ false) × (used i s.node ≡ true)
      go f None e d = absurd (cc)
      go f (Some p) e d =
          let part = part_is functions 0 s w j p e in
          let t = f (part.observes i || o) p part.well (part.keeps x i o h) (use_in_part x s p j path e u) in
          let n = or_false (part.observes i) o t.0 in
          (n.1, part.uses i n.0 t.1)

module _ (functions : List Function) (types_in : ℕ) (x : Variable) (i : ℕ) where
  -- a use stands in a site, at its own path or below
  abbrev pub UsedIn : Site → Type 0
  UsedIn s = (path : Path) × IsUse functions s x path

  through : (s p : Site) (j : ℕ) → slice_get (parts functions s) j ≡ Some p → UsedIn p → UsedIn s
  through s p j at u = (j ∷ u.0, use_of_part functions x s p j u.0 at u.1)

  -- where the test says that a variable is used which isn't observed, a use stands there
  abbrev pub Finds : Tree Place → Type 0
  Finds e = (path : Path) (scope : List Entry) (dir : Option Tau) → LawfulSome functions types_in e → Has x i false scope → used i e ≡ true → UsedIn (site_of path scope dir e)

  keep_push : (scope : List Entry) (e : Entry) → Has x i false scope → Has x i false (push scope e)
  keep_push scope e h = keeps_push scope scope e (keeps_all scope) x i false h

  keep_seen : (os : List Seen) (scope : List Entry) → among i os ≡ false → Has x i false scope → Has x i false (observe (λ i. among i os) scope)
  keep_seen os scope q h = subst (λ b. Has x i b (observe (λ i. among i os) scope)) (none_or (among i os) false q refl) (keeps_observed (λ i. among i os) scope x i false h)

  find_ordered : (s : Site) (l r : Tree Place) (ps : List Site) → InOrder s l r ps → Finds l → Finds r → LawfulSome functions types_in l → LawfulSome functions types_in r → Has x i false s.scope
      → (used i l || (used i r || false)) ≡ true → (j : ℕ) × (p : Site) × (slice_get ps j ≡ Some p) × UsedIn p
  find_ordered s l r _ (left_first d d') f g a b h u =
      or_elim (used i l) (used i r || false) u (λ q. (0, part_at s 0 d l, refl, f (push s.path 0) s.scope d a h q))
      (λ q. (1, part_at s 1 d' r, refl, g (push s.path 1) s.scope d' b h (or_elim (used i r) false q (λ q. q) (λ q. absurd (cc)))))
  find_ordered s l r _ (right_first d d') f g a b h u =
      or_elim (used i l) (used i r || false) u (λ q. (1, part_at s 1 d' l, refl, f (push s.path 1) s.scope d' a h q))
      (λ q. (0, part_at s 0 d r, refl, g (push s.path 0) s.scope d b h (or_elim (used i r) false q (λ q. q) (λ q. absurd (cc)))))

  and_parts : (q u : Bool) → (not q && u) ≡ true → (q ≡ false) × (u ≡ true)
  and_parts true u h = absurd (cc)
  and_parts false u h = (refl, h)

  mutual
    pub find : (e : Tree Place) → Finds e
    find (term a shape) path scope dir l h u = find_shape a shape path scope dir l h u

    find_shape : (a : Place) (shape : Shape Place) → Finds (term a shape)
    find_shape a (var j) path scope dir l h u = (
      [],
      record {
        site = site_of path scope dir (term a (var j));
        position = j;
        stands = refl;
        is = refl;
        occurs = let same : i ≡ j = eqb-true i j u in record { entry = h.entry; in_scope = subst (λ i. slice_get scope i ≡ Some h.entry) same h.at; variable = h.is; unobserved = h.flag };
      },
    )
    find_shape a unit path scope dir l h u = absurd (cc)
    find_shape a (bool b) path scope dir l h u = absurd (cc)
    find_shape a (lit v) path scope dir l h u = absurd (cc)
    find_shape a (fun f args) path scope dir l h u = absurd (cc)
    find_shape a (op o none) path scope dir l h u = absurd (cc)
    find_shape a (op o (more t none)) path scope dir l h u =
        through (site_of path scope dir (term a (op o (more t none)))) _ 0 refl (find t (push path 0) scope _ (l.0, l.1.1.0) h (or_elim (used i t) false u (λ q. q) (λ q. absurd (cc))))
    find_shape a (op o (more t (more r none))) path scope dir l h u =
        let s = site_of path scope dir (term a (op o (more t (more r none)))) in
        let q = find_ordered s t r _ (operands_are (sort_of o) dir (is_literal t) s t r (plain functions (scope_types s) t) (plain functions (scope_types s) r)) (find t) (find r) (l.0, l.1.1.0) (l.0, l.1.1.1.0) h u in
        through s q.1 q.0 q.2 q.3
    find_shape a (op o (more t (more r (more y ts)))) path scope dir l h u = absurd (let z = at_most_two o in let k = l.1.0 in omega arith)
    find_shape a (app f y) path scope dir l h u =
        let s = site_of path scope dir (term a (app f y)) in
        or_elim (used i f) (used i y) u (λ q. through s _ 0 refl (find f (push path 0) scope None (l.0, l.1.0) h q))
        (λ q. through s _ 1 refl (find y (push path 1) scope _ (l.0, l.1.1) h q))
    find_shape a (lets v e k) path scope dir l h u =
        let s = site_of path scope dir (term a (lets v e k)) in
        or_elim (used i e) (used i k) u (λ q. through s _ 0 refl (find e (push path 0) scope None (l.0, l.1.0) h q))
        (λ q. through s _ 1 refl (find k (push path 1) _ dir (suc l.0, l.1.1) (keep_push scope _ h) q))
    find_shape a (let_bang os v e k) path scope dir l h u =
        let s = site_of path scope dir (term a (let_bang os v e k)) in
        or_elim (not (among i os) && used i e) (used i k) u
        (λ q. let b = and_parts (among i os) (used i e) q in through s _ 0 refl (find e (push path 0) _ None (l.0, l.1.1) (keep_seen os scope b.0 h) b.1))
        (λ q. through s _ 1 refl (find k (push path 1) _ dir (suc l.0, l.1.2) (keep_push scope _ h) q))
    find_shape a (if_else c y z) path scope dir l h u =
        let s = site_of path scope dir (term a (if_else c y z)) in
        or_elim (used i c) (used i y || used i z) u (λ q. through s _ 0 refl (find c (push path 0) scope _ (l.0, l.1.0) h q))
        (λ q. or_elim (used i y) (used i z) q (λ q. through s _ 1 refl (find y (push path 1) scope dir (l.0, l.1.1) h q))
        (λ q. through s _ 2 refl (find z (push path 2) scope _ (l.0, l.1.2) h q)))
    find_shape a (con n e) path scope dir l h u = through (site_of path scope dir (term a (con n e))) _ 0 refl (find e (push path 0) scope _ l h u)
    find_shape a (case_of e at v y z) path scope dir l h u =
        let s = site_of path scope dir (term a (case_of e at v y z)) in
        or_elim (used i e) (used i y || used i z) u (λ q. through s _ 0 refl (find e (push path 0) scope None (l.0, l.1.0) h q))
        (λ q. or_elim (used i y) (used i z) q (λ q. through s _ 1 refl (find y (push path 1) _ dir (suc l.0, l.1.1) (keep_push scope _ h) q))
        (λ q. through s _ 2 refl (find z (push path 2) _ _ (suc l.0, l.1.2) (keep_push scope _ h) q)))
    find_shape a (esac at e) path scope dir l h u = through (site_of path scope dir (term a (esac at e))) _ 0 refl (find e (push path 0) scope None l h u)
    find_shape a (struct fs) path scope dir l h u =
        let s = site_of path scope dir (term a (struct fs)) in
        let q = find_fields fs s 0 (parts_against dir) (l.0, l.1.2) h u in
        through s q.1 q.0 q.2 q.3
    find_shape a (member e at) path scope dir l h u = through (site_of path scope dir (term a (member e at))) _ 0 refl (find e (push path 0) scope None l h u)
    find_shape a (take_field e at v w k) path scope dir l h u =
        let s = site_of path scope dir (term a (take_field e at v w k)) in
        or_elim (used i e) (used i k) u (λ q. through s _ 0 refl (find e (push path 0) scope None (l.0, l.1.0) h q))
        (λ q. through s _ 1 refl (find k (push path 1) _ dir (suc (suc l.0), l.1.1) (keep_push _ _ (keep_push scope _ h)) q))
    find_shape a (put e at y) path scope dir l h u =
        let s = site_of path scope dir (term a (put e at y)) in
        or_elim (used i e) (used i y) u (λ q. through s _ 0 refl (find e (push path 0) scope None (l.0, l.1.0) h q))
        (λ q. through s _ 1 refl (find y (push path 1) scope _ (l.0, l.1.1) h q))
    find_shape a (cast e) path scope dir l h u = through (site_of path scope dir (term a (cast e))) _ 0 refl (find e (push path 0) scope None l h u)
    find_shape a (annot e t) path scope dir l h u = through (site_of path scope dir (term a (annot e t))) _ 0 refl (find e (push path 0) scope _ (l.0, l.1.0) h u)

    find_fields : (fs : Named Place) (s : Site) (j : ℕ) (against : Option Parts) → (n : ℕ) × AreLawfulFields (map (λ f. length f.vars) functions) types_in n fs → Has x i false s.scope
        → used_fields i fs ≡ true → (k : ℕ) × (p : Site) × (slice_get (field_parts s j against fs) k ≡ Some p) × UsedIn p
    find_fields end s j against l h u = absurd (cc)
    find_fields (field name e fs) s j against l h u =
        or_elim (used i e) (used_fields i fs) u (λ q. (0, part_at s j (next_part against) e, refl, find e (push s.path j) s.scope (next_part against) (l.0, l.1.0) h q))
        (λ q. let r = find_fields fs s (suc j) (parts_behind against) (l.0, l.1.1) h q in (suc r.0, r.1, r.2, r.3))

variable_in : Option Entry → Variable
variable_in None = argument
variable_in (Some e) = e.variable

-- the body's own scope has the argument alone
pub root_well : (f : Function) (body : Body) → IsWell (root_of f body)
unfolding variable_in
root_well f body = record { distinct = one; fresh = outside }
  where
    one : Distinct (root_of f body).scope
    one zero zero e g h k same = refl
    one zero (suc j) e g h k same = absurd (cc)
    one (suc i) j e g h k same = absurd (cc)

    outside : AreFresh (root_of f body).scope []
    outside zero e h q n same = let z : argument ≡ bound_at q n = ap (λ o. variable_in o) h ∙ same in absurd (cc)
    outside (suc i) e h q n same = absurd (cc)

pub uses_agree : UsesAgree
uses_agree functions f body types_in lawful path s at i e in_scope unobserved =
    let root = root_of f body in
    let b = below functions types_in path root s at (root_well f body) (1, lawful) in
    let has : Has e.variable i false s.scope = record { entry = e; at = in_scope; is = refl; flag = unobserved } in (
      λ u. (let q = find functions types_in e.variable i s.node s.path s.scope s.direction b.1 has u in (q.0, use_from functions e.variable root s path q.0 at q.1)),
      λ h. (use_tells functions e.variable i h.0 false s b.0 has (use_at functions e.variable root s path h.0 at h.1)).1,
    )
