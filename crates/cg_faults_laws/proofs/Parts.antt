-- The parts of a node: the scope of each is the node's with some entries observed and new ones behind, and what it uses, unless it
-- observes that, the node uses.
use Rattle.std.proofs.Common.{◌≡◌, ℕ, zero, suc, Bool, true, false, ◌&&◌, ◌||◌, not, Option, Some, None, List, [], ◌∷◌, length, map, slice_get, refl, subst}
use Rattle.cg_base.specs.declared.place.Place.{Place}
use Rattle.cg_base.specs.Types as types
use Rattle.cg_base.specs.Types.{Tau, Parts}
use Rattle.cg_core.specs.declared.term.Seen.{Seen}
use Rattle.cg_core.specs.Kernels.{Function}
use Rattle.cg_core.specs.Terms.{Tree, term, Shape, var, unit, bool, lit, fun, op, app, lets, let_bang, if_else, con, case_of, esac, struct, member, take_field, put, cast, annot, none, more, Named, end, field}
use Rattle.cg_core_def.specs.Lawful.{IsLawfulTerm, AreLawfulFields}
use Rattle.cg_typing.specs.Contexts.{push, among}
use Rattle.cg_faults.specs.Occurrences.{touched, touched_fields, used, used_fields}
use Rattle.cg_typing.specs.Operators.{Sort, arithmetic, equality, order, logic, sort_of}
use Rattle.cg_typing.specs.Rules.{is_literal}
use Rattle.cg_faults.specs.Sites.{Path, bound_at, Entry, Site, observe, binding, part_in, part_at, operands, field_parts, next_part, parts_behind, parts}
use Rattle.cg_faults_laws.proofs.Scopes.{IsScope, Keeps, no_one, keeps_all, keeps_push, keeps_observed, in_part, below_all, fresh_bound, lacks_bound, lacks_second, distinct_push, fresh_push, observed_scope}
use Rattle.cg_base.proofs.Truths.{or_true as or_right, or_left}

-- each of these, by its number
abbrev pub Every : {A : Type 0} → (A → Type 0) → List A → Type 0
Every P [] = Unit {0}
Every P (x ∷ xs) = P x × Every P xs

pub every_at : {A : Type 0} (P : A → Type 0) (xs : List A) (i : ℕ) (x : A) → Every P xs → slice_get xs i ≡ Some x → P x
every_at P [] i x h e = absurd (cc)
every_at P (y ∷ xs) zero x h e = let same : y ≡ x = cc in subst P same h.0
every_at P (y ∷ xs) (suc i) x h e = every_at P xs i x h.1 e

-- the operands of an operator stand in one order or the other
pub data InOrder (s : Site) (l r : Tree Place) : List Site → Type 0 where
  left_first : (d d' : Option Tau) → InOrder s l r (part_at s 0 d l ∷ (part_at s 1 d' r ∷ []))
  right_first : (d d' : Option Tau) → InOrder s l r (part_at s 0 d r ∷ (part_at s 1 d' l ∷ []))

pub operands_are : (sort : Sort) (direction : Option Tau) (literal : Bool) (s : Site) (l r : Tree Place) (a b : Tau) → InOrder s l r (operands sort direction literal s l r a b)
operands_are logic direction literal s l r a b = left_first (Some types.bool) (Some types.bool)
operands_are arithmetic (Some t) literal s l r a b = left_first (Some t) (Some t)
operands_are arithmetic None true s l r a b = right_first None (Some b)
operands_are arithmetic None false s l r a b = left_first None (Some a)
operands_are equality direction true s l r a b = right_first None (Some b)
operands_are equality direction false s l r a b = left_first None (Some a)
operands_are order direction true s l r a b = right_first None (Some b)
operands_are order direction false s l r a b = left_first None (Some a)

unless : (q u v : Bool) → q ≡ false → u ≡ true → ((not q && u) || v) ≡ true
unless true u v h k = absurd (cc)
unless false true v h k = refl
unless false false v h k = absurd (cc)

-- the scope of a site is one
abbrev pub IsWell : Site → Type 0
IsWell s = IsScope s.scope s.path

abbrev pub site_of : Path → List Entry → Option Tau → Tree Place → Site
site_of path scope direction e = record { path = path; scope = scope; direction = direction; node = e }

module _ (functions : List Function) (types_in : ℕ) where
  abbrev pub Lawful : ℕ → Tree Place → Type 0
  Lawful n e = IsLawfulTerm (map (λ f. length f.vars) functions) types_in n e

  abbrev pub LawfulSome : Tree Place → Type 0
  LawfulSome e = (n : ℕ) × Lawful n e

  -- a part of a site
  pub record IsPart (s p : Site) : Type 0 where
    pub well : IsWell p
    pub observes : ℕ → Bool
    pub keeps : Keeps observes s.scope p.scope
    pub uses : (i : ℕ) → observes i ≡ false → used i p.node ≡ true → used i s.node ≡ true
    pub touches : (i : ℕ) → touched i p.node ≡ true → touched i s.node ≡ true
    pub lawful : LawfulSome s.node → LawfulSome p.node

  module _ (s : Site) (w : IsWell s) where
    -- in the same scope
    same : (j : ℕ) (d : Option Tau) (e : Tree Place) → ((i : ℕ) → used i e ≡ true → used i s.node ≡ true) → ((i : ℕ) → touched i e ≡ true → touched i s.node ≡ true) → (LawfulSome s.node → LawfulSome e) → IsPart s (part_at s j d e)
    same j d e u v l =
        record { well = in_part s.scope s.path j w; observes = no_one; keeps = keeps_all s.scope; uses = λ i q h. u i h; touches = v; lawful = l }

    -- with one variable more
    bound : (j n : ℕ) (t : Tau) (d : Option Tau) (e : Tree Place) → ((i : ℕ) → used i e ≡ true → used i s.node ≡ true) → ((i : ℕ) → touched i e ≡ true → touched i s.node ≡ true) → (LawfulSome s.node → LawfulSome e)
        → IsPart s (part_in s j (binding s s.scope n t) d e)
    bound j n t d e u v l =
        let new : Entry = record { variable = bound_at s.path n; ty = t; observed = false } in
        record {
          well = record {
            distinct = distinct_push s.scope new w.distinct (lacks_bound s.scope s.path n w.fresh);
            fresh = fresh_push s.scope new (push s.path j) (below_all s.scope s.path j w.fresh) (fresh_bound s.path j n);
          };
          observes = no_one;
          keeps = keeps_push s.scope s.scope new (keeps_all s.scope);
          uses = λ i q h. u i h;
          touches = v;
          lawful = l;
        }

    -- with two
    bound_twice : (j : ℕ) (t u : Tau) (d : Option Tau) (e : Tree Place) → ((i : ℕ) → used i e ≡ true → used i s.node ≡ true) → ((i : ℕ) → touched i e ≡ true → touched i s.node ≡ true) → (LawfulSome s.node → LawfulSome e)
        → IsPart s (part_in s j (binding s (binding s s.scope 0 t) 1 u) d e)
    bound_twice j t u d e g v l =
        let one : Entry = record { variable = bound_at s.path 0; ty = t; observed = false } in
        let two : Entry = record { variable = bound_at s.path 1; ty = u; observed = false } in
        record {
          well = record {
            distinct = distinct_push (push s.scope one) two (distinct_push s.scope one w.distinct (lacks_bound s.scope s.path 0 w.fresh)) (lacks_second s.scope s.path one refl w.fresh);
            fresh = fresh_push (push s.scope one) two (push s.path j)
                (fresh_push s.scope one (push s.path j) (below_all s.scope s.path j w.fresh) (fresh_bound s.path j 0)) (fresh_bound s.path j 1);
          };
          observes = no_one;
          keeps = keeps_push s.scope (push s.scope one) two (keeps_push s.scope s.scope one (keeps_all s.scope));
          uses = λ i q h. g i h;
          touches = v;
          lawful = l;
        }

    -- with some observed
    seen : (j : ℕ) (os : List Seen) (d : Option Tau) (e : Tree Place) → ((i : ℕ) → among i os ≡ false → used i e ≡ true → used i s.node ≡ true) → ((i : ℕ) → touched i e ≡ true → touched i s.node ≡ true)
        → (LawfulSome s.node → LawfulSome e) → IsPart s (part_in s j (observe (λ i. among i os) s.scope) d e)
    seen j os d e u v l =
        record {
          well = in_part (observe (λ i. among i os) s.scope) s.path j (observed_scope (λ i. among i os) s.scope s.path w);
          observes = λ i. among i os;
          keeps = keeps_observed (λ i. among i os) s.scope;
          uses = u;
          touches = v;
          lawful = l;
        }

    ordered : (l r : Tree Place) (ps : List Site) → InOrder s l r ps → ((d : Option Tau) (j : ℕ) → IsPart s (part_at s j d l)) → ((d : Option Tau) (j : ℕ) → IsPart s (part_at s j d r))
        → Every (IsPart s) ps
    ordered l r _ (left_first d d') f g = (f d 0, (g d' 1, tt))
    ordered l r _ (right_first d d') f g = (g d 0, (f d' 1, tt))

    fields_are : (fs : Named Place) (j : ℕ) (against : Option Parts) → ((i : ℕ) → used_fields i fs ≡ true → used i s.node ≡ true) → ((i : ℕ) → touched_fields i fs ≡ true → touched i s.node ≡ true)
        → (LawfulSome s.node → (n : ℕ) × AreLawfulFields (map (λ f. length f.vars) functions) types_in n fs) → Every (IsPart s) (field_parts s j against fs)
    fields_are end j against u v l = tt
    fields_are (field name e fs) j against u v l = (
      same j (next_part against) e (λ i h. u i (or_left (used i e) (used_fields i fs) h)) (λ i h. v i (or_left (touched i e) (touched_fields i fs) h)) (λ h. (let q = l h in (q.0, q.1.0))),
      fields_are fs (suc j) (parts_behind against) (λ i h. u i (or_right (used i e) (used_fields i fs) h)) (λ i h. v i (or_right (touched i e) (touched_fields i fs) h)) (λ h. (let q = l h in (q.0, q.1.1))),
    )

  parts_shape : (path : Path) (scope : List Entry) (dir : Option Tau) (a : Place) (shape : Shape Place) → IsScope scope path
      → Every (IsPart (site_of path scope dir (term a shape))) (parts functions (site_of path scope dir (term a shape)))
  parts_shape path scope dir a (var i) w = tt
  parts_shape path scope dir a unit w = tt
  parts_shape path scope dir a (bool b) w = tt
  parts_shape path scope dir a (lit v) w = tt
  parts_shape path scope dir a (fun f args) w = tt
  parts_shape path scope dir a (op o none) w = tt
  parts_shape path scope dir a (op o (more x none)) w =
      (same (site_of path scope dir (term a (op o (more x none)))) w 0 _ x (λ i h. or_left (used i x) false h) (λ i h. or_left (touched i x) false h) (λ h. (h.0, h.1.1.0)), tt)
  parts_shape path scope dir a (op o (more l (more r none))) w =
      let s = site_of path scope dir (term a (op o (more l (more r none)))) in
      ordered s w l r _ (operands_are (sort_of o) dir (is_literal l) s l r _ _)
      (λ d j. same s w j d l (λ i h. or_left (used i l) (used i r || false) h) (λ i h. or_left (touched i l) (touched i r || false) h) (λ h. (h.0, h.1.1.0)))
      (λ d j. same s w j d r (λ i h. or_right (used i l) (used i r || false) (or_left (used i r) false h)) (λ i h. or_right (touched i l) (touched i r || false) (or_left (touched i r) false h)) (λ h. (h.0, h.1.1.1.0)))
  parts_shape path scope dir a (op o (more l (more r (more x ts)))) w = tt
  parts_shape path scope dir a (app f x) w =
      let s = site_of path scope dir (term a (app f x)) in
      (same s w 0 None f (λ i h. or_left (used i f) (used i x) h) (λ i h. or_left (touched i f) (touched i x) h) (λ h. (h.0, h.1.0)), (same s w 1 _ x (λ i h. or_right (used i f) (used i x) h) (λ i h. or_right (touched i f) (touched i x) h) (λ h. (h.0, h.1.1)), tt))
  parts_shape path scope dir a (lets v e k) w =
      let s = site_of path scope dir (term a (lets v e k)) in
      (same s w 0 None e (λ i h. or_left (used i e) (used i k) h) (λ i h. or_left (touched i e) (touched i k) h) (λ h. (h.0, h.1.0)), (bound s w 1 0 _ dir k (λ i h. or_right (used i e) (used i k) h) (λ i h. or_right (touched i e) (touched i k) h) (λ h. (suc h.0, h.1.1)), tt))
  parts_shape path scope dir a (let_bang os v e k) w =
      let s = site_of path scope dir (term a (let_bang os v e k)) in
      (seen s w 0 os None e (λ i q h. unless (among i os) (used i e) (used i k) q h) (λ i h. or_right (among i os) (touched i e || touched i k) (or_left (touched i e) (touched i k) h)) (λ h. (h.0, h.1.1)), (bound s w 1 0 _ dir k (λ i h. or_right (not (among i os) && used i e) (used i k) h) (λ i h. or_right (among i os) (touched i e || touched i k) (or_right (touched i e) (touched i k) h)) (λ h. (suc h.0, h.1.2)), tt))
  parts_shape path scope dir a (if_else c x y) w =
      let s = site_of path scope dir (term a (if_else c x y)) in
      (same s w 0 (Some types.bool) c (λ i h. or_left (used i c) (used i x || used i y) h) (λ i h. or_left (touched i c) (touched i x || touched i y) h) (λ h. (h.0, h.1.0)), (same s w 1 dir x (λ i h. or_right (used i c) (used i x || used i y) (or_left (used i x) (used i y) h)) (λ i h. or_right (touched i c) (touched i x || touched i y) (or_left (touched i x) (touched i y) h)) (λ h. (h.0, h.1.1)), (same s w 2 _ y (λ i h. or_right (used i c) (used i x || used i y) (or_right (used i x) (used i y) h)) (λ i h. or_right (touched i c) (touched i x || touched i y) (or_right (touched i x) (touched i y) h)) (λ h. (h.0, h.1.2)), tt)))
  parts_shape path scope dir a (con name e) w = (same (site_of path scope dir (term a (con name e))) w 0 _ e (λ i h. h) (λ i h. h) (λ h. h), tt)
  parts_shape path scope dir a (case_of e at v x y) w =
      let s = site_of path scope dir (term a (case_of e at v x y)) in
      (same s w 0 None e (λ i h. or_left (used i e) (used i x || used i y) h) (λ i h. or_left (touched i e) (touched i x || touched i y) h) (λ h. (h.0, h.1.0)), (bound s w 1 0 _ dir x (λ i h. or_right (used i e) (used i x || used i y) (or_left (used i x) (used i y) h)) (λ i h. or_right (touched i e) (touched i x || touched i y) (or_left (touched i x) (touched i y) h)) (λ h. (suc h.0, h.1.1)), (bound s w 2 1 _ _ y (λ i h. or_right (used i e) (used i x || used i y) (or_right (used i x) (used i y) h)) (λ i h. or_right (touched i e) (touched i x || touched i y) (or_right (touched i x) (touched i y) h)) (λ h. (suc h.0, h.1.2)), tt)))
  parts_shape path scope dir a (esac at e) w = (same (site_of path scope dir (term a (esac at e))) w 0 None e (λ i h. h) (λ i h. h) (λ h. h), tt)
  parts_shape path scope dir a (struct fs) w = fields_are (site_of path scope dir (term a (struct fs))) w fs 0 _ (λ i h. h) (λ i h. h) (λ h. (h.0, h.1.2))
  parts_shape path scope dir a (member e at) w = (same (site_of path scope dir (term a (member e at))) w 0 None e (λ i h. h) (λ i h. h) (λ h. h), tt)
  parts_shape path scope dir a (take_field e at v u k) w =
      let s = site_of path scope dir (term a (take_field e at v u k)) in
      (same s w 0 None e (λ i h. or_left (used i e) (used i k) h) (λ i h. or_left (touched i e) (touched i k) h) (λ h. (h.0, h.1.0)), (bound_twice s w 1 _ _ dir k (λ i h. or_right (used i e) (used i k) h) (λ i h. or_right (touched i e) (touched i k) h) (λ h. (suc (suc h.0), h.1.1)), tt))
  parts_shape path scope dir a (put e at x) w =
      let s = site_of path scope dir (term a (put e at x)) in
      (same s w 0 None e (λ i h. or_left (used i e) (used i x) h) (λ i h. or_left (touched i e) (touched i x) h) (λ h. (h.0, h.1.0)), (same s w 1 _ x (λ i h. or_right (used i e) (used i x) h) (λ i h. or_right (touched i e) (touched i x) h) (λ h. (h.0, h.1.1)), tt))
  parts_shape path scope dir a (cast e) w = (same (site_of path scope dir (term a (cast e))) w 0 None e (λ i h. h) (λ i h. h) (λ h. h), tt)
  parts_shape path scope dir a (annot e t) w = (same (site_of path scope dir (term a (annot e t))) w 0 (Some t.ty) e (λ i h. h) (λ i h. h) (λ h. (h.0, h.1.0)), tt)

  parts_term : (path : Path) (scope : List Entry) (dir : Option Tau) (e : Tree Place) → IsScope scope path → Every (IsPart (site_of path scope dir e)) (parts functions (site_of path scope dir e))
  parts_term path scope dir (term a shape) w = parts_shape path scope dir a shape w

  -- each part of a site is one
  pub part_is : (s : Site) → IsWell s → (j : ℕ) (p : Site) → slice_get (parts functions s) j ≡ Some p → IsPart s p
  part_is s w j p h = every_at (IsPart s) (parts functions s) j p (parts_term s.path s.scope s.direction s.node w) h
