-- What the scope of a part is in terms of its site's, entry by entry; and that the part is lawful in a context of just that length.
use Rattle.std.proofs.Common.{◌≡◌, ◌⊎◌, ℕ, zero, suc, ◌≤◌, Bool, true, false, Option, Some, None, List, [], ◌∷◌, length, map, slice_get, inl, inr, ⊎_elim, refl, sym, ap, ◌∙◌, subst, arith}
use Rattle.cg_base.specs.declared.place.Place.{Place}
use Rattle.cg_base.specs.Types as types
use Rattle.cg_base.specs.Types.{Tau, Parts}
use Rattle.cg_core.specs.declared.term.Seen.{Seen}
use Rattle.cg_core.specs.Kernels.{Function}
use Rattle.cg_core.specs.Terms.{Tree, term, Shape, var, unit, bool, lit, fun, op, app, lets, let_bang, if_else, con, case_of, esac, struct, member, take_field, put, cast, annot, none, more, Named, end, field}
use Rattle.cg_kinds.specs.Kinds.{bang}
use Rattle.cg_core_def.specs.Lawful.{AreLawfulFields}
use Rattle.cg_typing.specs.Contexts.{among}
use Rattle.cg_typing.specs.Operators.{sort_of}
use Rattle.cg_faults.specs.Plain.{plain}
use Rattle.cg_typing.specs.Rules.{is_literal}
use Rattle.cg_faults.specs.Sites.{Path, bound_at, Entry, Site, observe, binding, scope_types, part_in, part_at, field_parts, next_part, parts_behind, parts_against, parts}
use Rattle.cg_check_laws.proofs.Basics.{length_push}
use Rattle.cg_faults_laws.proofs.Scopes.{of_push, seen_if, seen_variable}
use Rattle.cg_faults_laws.proofs.Parts.{Every, every_at, InOrder, left_first, right_first, operands_are, site_of, Lawful}

-- the scope of a part: the site's, with some observed, or with more of the site's own behind it
pub data ScopeOf (s : Site) : List Entry → Type 0 where
  kept : ScopeOf s s.scope
  seen : (os : List Seen) → ScopeOf s (observe (λ i. among i os) s.scope)
  bound : (scope : List Entry) (n : ℕ) (t : Tau) → ScopeOf s scope → ScopeOf s (binding s scope n t)

-- an entry of the site's, as it was or observed
pub record IsOld (s : Site) (i : ℕ) (e : Entry) : Type 0 where
  pub entry : Entry
  pub at : slice_get s.scope i ≡ Some entry
  pub variable : e.variable ≡ entry.variable
  pub same : (e ≡ entry) ⊎ ((e.observed ≡ true) × (e.ty ≡ bang entry.ty))

-- and one that is bound at the site
pub record IsNew (s : Site) (i : ℕ) (e : Entry) : Type 0 where
  pub behind : length s.scope ≤ i
  pub number : ℕ
  pub variable : e.variable ≡ bound_at s.path number
  pub unobserved : e.observed ≡ false

observed_at : (test : ℕ → Bool) (es : List Entry) (i : ℕ) (f : Entry) → slice_get (observe test es) i ≡ Some f → (e : Entry) × (slice_get es i ≡ Some e) × (seen_if (test i) e ≡ f)
observed_at test [] i f h = absurd (cc)
observed_at test (z ∷ es) zero f h = let same : seen_if (test zero) z ≡ f = cc in (z, refl, same)
observed_at test (z ∷ es) (suc i) f h = observed_at (λ i. test (suc i)) es i f h

seen_or_same : (q : Bool) (e f : Entry) → seen_if q e ≡ f → (f ≡ e) ⊎ ((f.observed ≡ true) × (f.ty ≡ bang e.ty))
seen_or_same true e f h = inr (sym (ap (λ e. e.observed) h), sym (ap (λ e. e.ty) h))
seen_or_same false e f h = inl (sym h)

length_observed : (test : ℕ → Bool) (es : List Entry) → length (observe test es) ≡ length es
length_observed test [] = refl
length_observed test (e ∷ es) = ap suc (length_observed (λ i. test (suc i)) es)

longer : (s : Site) (scope : List Entry) → ScopeOf s scope → length s.scope ≤ length scope
longer s _ kept = omega arith
longer s _ (seen os) = let q = length_observed (λ i. among i os) s.scope in omega (arith, q)
longer s _ (bound scope n t h) =
    let q = length_push scope (record { variable = bound_at s.path n; ty = t; observed = false }) in let l = longer s scope h in omega (arith, q, l)

pub entry_is : (s : Site) (scope : List Entry) → ScopeOf s scope → (i : ℕ) (e : Entry) → slice_get scope i ≡ Some e → IsOld s i e ⊎ IsNew s i e
entry_is s _ kept i e at = inl (record { entry = e; at = at; variable = refl; same = inl refl })
entry_is s _ (seen os) i e at =
    let q = observed_at (λ i. among i os) s.scope i e at in
    inl (record { entry = q.0; at = q.1; variable = sym (ap (λ e. e.variable) q.2) ∙ seen_variable (among i os) q.0; same = seen_or_same (among i os) q.0 e q.2 })
entry_is s _ (bound scope n t h) i e at =
    let l = longer s scope h in
    ⊎_elim (λ q. entry_is s scope h i e q)
    (λ q. inr (record { behind = let k = q.0 in omega (arith, k, l); number = n; variable = sym (ap (λ e. e.variable) q.1); unobserved = sym (ap (λ e. e.observed) q.1) }))
    (of_push scope (record { variable = bound_at s.path n; ty = t; observed = false }) e i at)

module _ (functions : List Function) (types_in : ℕ) where
  pub record IsExact (s p : Site) : Type 0 where
    pub scope : ScopeOf s p.scope
    pub lawful : Lawful functions types_in (length p.scope) p.node

  module _ (s : Site) where
    keep : (j : ℕ) (d : Option Tau) (e : Tree Place) → Lawful functions types_in (length s.scope) e → IsExact s (part_at s j d e)
    keep j d e l = record { scope = kept; lawful = l }

    see : (j : ℕ) (os : List Seen) (d : Option Tau) (e : Tree Place) → Lawful functions types_in (length s.scope) e → IsExact s (part_in s j (observe (λ i. among i os) s.scope) d e)
    see j os d e l = record { scope = seen os; lawful = subst (λ n. Lawful functions types_in n e) (sym (length_observed (λ i. among i os) s.scope)) l }

    bind : (j n : ℕ) (t : Tau) (d : Option Tau) (e : Tree Place) → Lawful functions types_in (suc (length s.scope)) e → IsExact s (part_in s j (binding s s.scope n t) d e)
    bind j n t d e l = record { scope = bound s.scope n t kept; lawful = subst (λ n. Lawful functions types_in n e) (sym (length_push s.scope _)) l }

    bind_twice : (j n m : ℕ) (t u : Tau) (d : Option Tau) (e : Tree Place) → Lawful functions types_in (suc (suc (length s.scope))) e
        → IsExact s (part_in s j (binding s (binding s s.scope n t) m u) d e)
    bind_twice j n m t u d e l =
        record {
          scope = bound _ m u (bound s.scope n t kept);
          lawful = subst (λ n. Lawful functions types_in n e) (sym (length_push (binding s s.scope n t) _ ∙ ap suc (length_push s.scope _))) l;
        }

    keep_ordered : (l r : Tree Place) (ps : List Site) → InOrder s l r ps → Lawful functions types_in (length s.scope) l → Lawful functions types_in (length s.scope) r → Every (IsExact s) ps
    keep_ordered l r _ (left_first d d') f g = (keep 0 d l f, (keep 1 d' r g, tt))
    keep_ordered l r _ (right_first d d') f g = (keep 0 d r g, (keep 1 d' l f, tt))

    keep_fields : (fs : Named Place) (j : ℕ) (against : Option Parts) → AreLawfulFields (map (λ f. length f.vars) functions) types_in (length s.scope) fs → Every (IsExact s) (field_parts s j against fs)
    keep_fields end j against l = tt
    keep_fields (field name e fs) j against l = (keep j (next_part against) e l.0, keep_fields fs (suc j) (parts_behind against) l.1)

  exact_shape : (path : Path) (scope : List Entry) (dir : Option Tau) (a : Place) (shape : Shape Place) → Lawful functions types_in (length scope) (term a shape)
      → Every (IsExact (site_of path scope dir (term a shape))) (parts functions (site_of path scope dir (term a shape)))
  exact_shape path scope dir a (var i) l = tt
  exact_shape path scope dir a unit l = tt
  exact_shape path scope dir a (bool b) l = tt
  exact_shape path scope dir a (lit v) l = tt
  exact_shape path scope dir a (fun f args) l = tt
  exact_shape path scope dir a (op o none) l = tt
  exact_shape path scope dir a (op o (more x none)) l = (keep (site_of path scope dir (term a (op o (more x none)))) 0 _ x l.1.0, tt)
  exact_shape path scope dir a (op o (more t (more r none))) l =
      let s = site_of path scope dir (term a (op o (more t (more r none)))) in
      keep_ordered s t r _ (operands_are (sort_of o) dir (is_literal t) s t r (plain functions (scope_types s) t) (plain functions (scope_types s) r)) l.1.0 l.1.1.0
  exact_shape path scope dir a (op o (more t (more r (more x ts)))) l = tt
  exact_shape path scope dir a (app f x) l = let s = site_of path scope dir (term a (app f x)) in (keep s 0 None f l.0, (keep s 1 _ x l.1, tt))
  exact_shape path scope dir a (lets v e k) l = let s = site_of path scope dir (term a (lets v e k)) in (keep s 0 None e l.0, (bind s 1 0 _ dir k l.1, tt))
  exact_shape path scope dir a (let_bang os v e k) l = let s = site_of path scope dir (term a (let_bang os v e k)) in (see s 0 os None e l.1, (bind s 1 0 _ dir k l.2, tt))
  exact_shape path scope dir a (if_else c x y) l =
      let s = site_of path scope dir (term a (if_else c x y)) in (keep s 0 (Some types.bool) c l.0, (keep s 1 dir x l.1, (keep s 2 _ y l.2, tt)))
  exact_shape path scope dir a (con name e) l = (keep (site_of path scope dir (term a (con name e))) 0 _ e l, tt)
  exact_shape path scope dir a (case_of e at v x y) l =
      let s = site_of path scope dir (term a (case_of e at v x y)) in (keep s 0 None e l.0, (bind s 1 0 _ dir x l.1, (bind s 2 1 _ _ y l.2, tt)))
  exact_shape path scope dir a (esac at e) l = (keep (site_of path scope dir (term a (esac at e))) 0 None e l, tt)
  exact_shape path scope dir a (struct fs) l = keep_fields (site_of path scope dir (term a (struct fs))) fs 0 (parts_against dir) l.2
  exact_shape path scope dir a (member e at) l = (keep (site_of path scope dir (term a (member e at))) 0 None e l, tt)
  exact_shape path scope dir a (take_field e at v u k) l =
      let s = site_of path scope dir (term a (take_field e at v u k)) in (keep s 0 None e l.0, (bind_twice s 1 0 1 _ _ dir k l.1, tt))
  exact_shape path scope dir a (put e at x) l = let s = site_of path scope dir (term a (put e at x)) in (keep s 0 None e l.0, (keep s 1 _ x l.1, tt))
  exact_shape path scope dir a (cast e) l = (keep (site_of path scope dir (term a (cast e))) 0 None e l, tt)
  exact_shape path scope dir a (annot e t) l = (keep (site_of path scope dir (term a (annot e t))) 0 (Some t.ty) e l.0, tt)

  exact_term : (path : Path) (scope : List Entry) (dir : Option Tau) (e : Tree Place) → Lawful functions types_in (length scope) e
      → Every (IsExact (site_of path scope dir e)) (parts functions (site_of path scope dir e))
  exact_term path scope dir (term a shape) l = exact_shape path scope dir a shape l

  -- each part of a lawful site is one
  pub part_exact : (s : Site) → Lawful functions types_in (length s.scope) s.node → (j : ℕ) (p : Site) → slice_get (parts functions s) j ≡ Some p → IsExact s p
  part_exact s l j p h = every_at (IsExact s) (parts functions s) j p (exact_term s.path s.scope s.direction s.node l) h
