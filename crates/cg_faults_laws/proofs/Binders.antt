-- In which part of its node a variable stands that is bound there.
use Rattle.std.proofs.Common.{◌≡◌, ℕ, zero, suc, ◌+◌, Bool, Option, Some, List, [], ◌∷◌, slice_get, ⊎_elim, refl, sym, ap, ◌∙◌, subst, arith}
use Rattle.cg_base.specs.declared.place.Place.{Place}
use Rattle.cg_base.specs.Types.{Tau, Parts}
use Rattle.cg_core.specs.Kernels.{Function}
use Rattle.cg_core.specs.Terms.{Tree, term, Shape, var, unit, bool, lit, fun, op, app, lets, let_bang, if_else, con, case_of, esac, struct, member, take_field, put, cast, annot, none, more, Named, end, field}
use Rattle.cg_typing.specs.Contexts.{push, among}
use Rattle.cg_typing.specs.Operators.{sort_of}
use Rattle.cg_faults.specs.Plain.{plain}
use Rattle.cg_typing.specs.Rules.{is_literal}
use Rattle.cg_faults.specs.Sites.{Path, bound_at, Variable, Entry, Site, observe, scope_types, shape_inside, field_parts, parts_behind, parts_against, parts}
use Rattle.cg_faults_laws.proofs.Parts.{IsWell, InOrder, left_first, right_first, operands_are, site_of}
use Rattle.cg_faults_laws.proofs.Scopes.{lacks_bound, of_push, of_observed}

-- the part of a node in which its variable of this number is bound
abbrev pub binds : Shape Place → ℕ → ℕ
binds (case_of e at binder x y) n = suc n
binds _ n = 1

number_of : Variable → ℕ
number_of (bound_at path n) = n
number_of _ = 0

one_number : (p q : Path) (n m : ℕ) → bound_at p n ≡ bound_at q m → n ≡ m
unfolding number_of
one_number p q n m e = ap number_of e

-- where a variable of the site's own stands in part k, that part binds it
abbrev Binds : Site → (ℕ → ℕ) → ℕ → Site → Type 0
Binds s part k p = (n : ℕ) (i : ℕ) (e : Entry) → slice_get p.scope i ≡ Some e → e.variable ≡ bound_at s.path n → k ≡ part n

abbrev BindFrom : Site → (ℕ → ℕ) → ℕ → List Site → Type 0
BindFrom s part k [] = Unit {0}
BindFrom s part k (p ∷ ps) = Binds s part k p × BindFrom s part (suc k) ps

bind_at : (s : Site) (part : ℕ → ℕ) (ps : List Site) (k j m : ℕ) (p : Site) → BindFrom s part k ps → slice_get ps j ≡ Some p → m ≡ j + k → Binds s part m p
bind_at s part [] k j m p f h e = absurd (cc)
bind_at s part (q ∷ ps) k zero m p f h e = let same : q ≡ p = cc in let number : k ≡ m = omega (arith, e) in subst (λ m. Binds s part m p) number (subst (λ p. Binds s part k p) same f.0)
bind_at s part (q ∷ ps) k (suc j) m p f h e = bind_at s part ps (suc k) j m p f.1 h (omega (arith, e))

module _ (s : Site) (w : IsWell s) where
  abbrev Own : (ℕ → ℕ) → ℕ → List Entry → Type 0
  Own part k scope = (n : ℕ) (i : ℕ) (e : Entry) → slice_get scope i ≡ Some e → e.variable ≡ bound_at s.path n → k ≡ part n

  -- none stands in the site's own scope, nor where some of it is observed
  own_none : (part : ℕ → ℕ) (k : ℕ) → Own part k s.scope
  own_none part k n i e h is = absurd (lacks_bound s.scope s.path n w.fresh i e h is)

  own_observed : (part : ℕ → ℕ) (k : ℕ) (test : ℕ → Bool) → Own part k (observe test s.scope)
  own_observed part k test n i e h is = let q = of_observed test s.scope i e h in absurd (lacks_bound s.scope s.path n w.fresh i q.0 q.1 (sym q.2 ∙ is))

  own_push : (part : ℕ → ℕ) (k m : ℕ) (scope : List Entry) (new : Entry) → new.variable ≡ bound_at s.path m → k ≡ part m → Own part k scope → Own part k (push scope new)
  own_push part k m scope new named at f n i e h is =
      ⊎_elim (λ l. f n i e l is)
      (λ r. at ∙ ap part (one_number s.path s.path m n (sym named ∙ (ap (λ e. e.variable) r.1 ∙ is))))
      (of_push scope new e i h)

  binds_fields : (part : ℕ → ℕ) (fs : Named Place) (k : ℕ) (against : Option Parts) → BindFrom s part k (field_parts s k against fs)
  binds_fields part end k against = tt
  binds_fields part (field name e fs) k against = (own_none part k, binds_fields part fs (suc k) (parts_behind against))

  binds_ordered : (part : ℕ → ℕ) (l r : Tree Place) (ps : List Site) → InOrder s l r ps → BindFrom s part 0 ps
  binds_ordered part l r _ (left_first d d') = (own_none part 0, (own_none part 1, tt))
  binds_ordered part l r _ (right_first d d') = (own_none part 0, (own_none part 1, tt))

module _ (functions : List Function) where
  binds_shape : (path : Path) (scope : List Entry) (dir : Option Tau) (a : Place) (shape : Shape Place) → IsWell (site_of path scope dir (term a shape))
      → BindFrom (site_of path scope dir (term a shape)) (binds shape) 0 (parts functions (site_of path scope dir (term a shape)))
  binds_shape path scope dir a (var i) w = tt
  binds_shape path scope dir a unit w = tt
  binds_shape path scope dir a (bool b) w = tt
  binds_shape path scope dir a (lit v) w = tt
  binds_shape path scope dir a (fun f args) w = tt
  binds_shape path scope dir a (op o none) w = tt
  binds_shape path scope dir a (op o (more x none)) w = (own_none (site_of path scope dir (term a (op o (more x none)))) w _ 0, tt)
  binds_shape path scope dir a (op o (more l (more r none))) w =
      let s = site_of path scope dir (term a (op o (more l (more r none)))) in
      binds_ordered s w _ l r _ (operands_are (sort_of o) dir (is_literal l) s l r (plain functions (scope_types s) l) (plain functions (scope_types s) r))
  binds_shape path scope dir a (op o (more l (more r (more x ts)))) w = tt
  binds_shape path scope dir a (app f x) w = let s = site_of path scope dir (term a (app f x)) in (own_none s w _ 0, (own_none s w _ 1, tt))
  binds_shape path scope dir a (lets v e k) w =
      let s = site_of path scope dir (term a (lets v e k)) in (own_none s w _ 0, (own_push s w _ 1 0 scope _ refl refl (own_none s w _ 1), tt))
  binds_shape path scope dir a (let_bang os v e k) w =
      let s = site_of path scope dir (term a (let_bang os v e k)) in
      (own_observed s w _ 0 (λ i. among i os), (own_push s w _ 1 0 scope _ refl refl (own_none s w _ 1), tt))
  binds_shape path scope dir a (if_else c x y) w =
      let s = site_of path scope dir (term a (if_else c x y)) in (own_none s w _ 0, (own_none s w _ 1, (own_none s w _ 2, tt)))
  binds_shape path scope dir a (con name e) w = (own_none (site_of path scope dir (term a (con name e))) w _ 0, tt)
  binds_shape path scope dir a (case_of e at v x y) w =
      let s = site_of path scope dir (term a (case_of e at v x y)) in (
        own_none s w _ 0,
        (own_push s w _ 1 0 scope _ refl refl (own_none s w _ 1), (own_push s w _ 2 1 scope _ refl refl (own_none s w _ 2), tt)),
      )
  binds_shape path scope dir a (esac at e) w = (own_none (site_of path scope dir (term a (esac at e))) w _ 0, tt)
  binds_shape path scope dir a (struct fs) w = binds_fields (site_of path scope dir (term a (struct fs))) w _ fs 0 (parts_against dir)
  binds_shape path scope dir a (member e at) w = (own_none (site_of path scope dir (term a (member e at))) w _ 0, tt)
  binds_shape path scope dir a (take_field e at v u k) w =
      let s = site_of path scope dir (term a (take_field e at v u k)) in
      (own_none s w _ 0, (own_push s w _ 1 1 _ _ refl refl (own_push s w _ 1 0 scope _ refl refl (own_none s w _ 1)), tt))
  binds_shape path scope dir a (put e at x) w = let s = site_of path scope dir (term a (put e at x)) in (own_none s w _ 0, (own_none s w _ 1, tt))
  binds_shape path scope dir a (cast e) w = (own_none (site_of path scope dir (term a (cast e))) w _ 0, tt)
  binds_shape path scope dir a (annot e t) w = (own_none (site_of path scope dir (term a (annot e t))) w _ 0, tt)

  binds_term : (path : Path) (scope : List Entry) (dir : Option Tau) (e : Tree Place) → IsWell (site_of path scope dir e)
      → BindFrom (site_of path scope dir e) (binds (shape_inside e)) 0 (parts functions (site_of path scope dir e))
  binds_term path scope dir (term a shape) w = binds_shape path scope dir a shape w

  -- a variable that is bound at a site stands in the scope of the one part that binds it, and of no other
  pub bound_in : (s : Site) → IsWell s → (j : ℕ) (p : Site) → slice_get (parts functions s) j ≡ Some p
      → (n i : ℕ) (e : Entry) → slice_get p.scope i ≡ Some e → e.variable ≡ bound_at s.path n → j ≡ binds (shape_inside s.node) n
  bound_in s w j p h =
      bind_at s (binds (shape_inside s.node)) (parts functions s) 0 j j p (binds_term s.path s.scope s.direction s.node w) h (omega arith)
