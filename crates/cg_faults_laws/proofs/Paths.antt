-- A site's path is the way to it; and each variable in its scope stood in the scope above, or is bound at a site on the way.
use Rattle.std.proofs.Common.{◌≡◌, ◌⊎◌, ℕ, zero, suc, Bool, Option, Some, None, List, [], ◌∷◌, ◌++◌, slice_get, inl, inr, ⊎_elim, refl, sym, ap, ◌∙◌, subst, append-nil, arith, ◌+◌}
use Rattle.cg_base.specs.declared.place.Place.{Place}
use Rattle.cg_base.specs.Types.{Tau, Parts}
use Rattle.cg_core.specs.Kernels.{Function}
use Rattle.cg_core.specs.Terms.{Tree, term, Shape, var, unit, bool, lit, fun, op, app, lets, let_bang, if_else, con, case_of, esac, struct, member, take_field, put, cast, annot, none, more, Named, end, field}
use Rattle.cg_typing.specs.Contexts.{push, among}
use Rattle.cg_typing.specs.Operators.{sort_of}
use Rattle.cg_faults.specs.Plain.{plain}
use Rattle.cg_typing.specs.Rules.{is_literal}
use Rattle.cg_faults.specs.Sites.{Path, Variable, bound_at, Entry, Site, observe, scope_types, field_parts, parts_behind, parts_against, parts, down}
use Rattle.cg_faults_laws.proofs.Scopes.{push_append, of_push, of_observed}
use Rattle.cg_faults_laws.proofs.Parts.{InOrder, left_first, right_first, operands_are, site_of}

-- a scope whose variables stand in another, or are bound at this path
abbrev pub ComesFrom : List Entry → Path → List Entry → Type 0
ComesFrom scope path later = (i : ℕ) (e : Entry) → slice_get later i ≡ Some e → ((k : ℕ) × (f : Entry) × (slice_get scope k ≡ Some f) × (e.variable ≡ f.variable)) ⊎ ((n : ℕ) × (e.variable ≡ bound_at path n))

from_same : (scope : List Entry) (path : Path) → ComesFrom scope path scope
from_same scope path i e h = inl (i, e, h, refl)

from_push : (scope : List Entry) (path : Path) (later : List Entry) (n : ℕ) (new : Entry) → new.variable ≡ bound_at path n → ComesFrom scope path later → ComesFrom scope path (push later new)
from_push scope path later n new is f i e h = ⊎_elim (λ l. f i e l) (λ r. inr (n, sym (ap (λ e. e.variable) r.1) ∙ is)) (of_push later new e i h)

from_observed : (scope : List Entry) (path : Path) (test : ℕ → Bool) → ComesFrom scope path (observe test scope)
from_observed scope path test i e h = let q = of_observed test scope i e h in inl (i, q.0, q.1, q.2)

-- part k of a site: its path, and where its variables come from
abbrev pub Follows : Site → ℕ → Site → Type 0
Follows s k p = (p.path ≡ push s.path k) × ComesFrom s.scope s.path p.scope

abbrev pub FollowFrom : Site → ℕ → List Site → Type 0
FollowFrom s k [] = Unit {0}
FollowFrom s k (p ∷ ps) = Follows s k p × FollowFrom s (suc k) ps

module _ (functions : List Function) where
  follow_at : (s : Site) (ps : List Site) (k j m : ℕ) (p : Site) → FollowFrom s k ps → slice_get ps j ≡ Some p → m ≡ j + k → Follows s m p
  follow_at s [] k j m p f h e = absurd (cc)
  follow_at s (q ∷ ps) k zero m p f h e = let same : q ≡ p = cc in let number : k ≡ m = omega (arith, e) in subst (λ m. Follows s m p) number (subst (λ p. Follows s k p) same f.0)
  follow_at s (q ∷ ps) k (suc j) m p f h e = follow_at s ps (suc k) j m p f.1 h (omega (arith, e))

  plainly : (s : Site) → ComesFrom s.scope s.path s.scope
  plainly s = from_same s.scope s.path

  ordered_follow : (s : Site) (l r : Tree Place) (ps : List Site) → InOrder s l r ps → FollowFrom s 0 ps
  ordered_follow s l r _ (left_first d d') = ((refl, plainly s), ((refl, plainly s), tt))
  ordered_follow s l r _ (right_first d d') = ((refl, plainly s), ((refl, plainly s), tt))

  fields_follow : (s : Site) (fs : Named Place) (k : ℕ) (against : Option Parts) → FollowFrom s k (field_parts s k against fs)
  fields_follow s end k against = tt
  fields_follow s (field name e fs) k against = ((refl, plainly s), fields_follow s fs (suc k) (parts_behind against))

  shape_follows : (path : Path) (scope : List Entry) (dir : Option Tau) (a : Place) (shape : Shape Place)
      → FollowFrom (site_of path scope dir (term a shape)) 0 (parts functions (site_of path scope dir (term a shape)))
  shape_follows path scope dir a (var i) = tt
  shape_follows path scope dir a unit = tt
  shape_follows path scope dir a (bool b) = tt
  shape_follows path scope dir a (lit v) = tt
  shape_follows path scope dir a (fun f args) = tt
  shape_follows path scope dir a (op o none) = tt
  shape_follows path scope dir a (op o (more x none)) = ((refl, from_same scope path), tt)
  shape_follows path scope dir a (op o (more l (more r none))) =
      let s = site_of path scope dir (term a (op o (more l (more r none)))) in
      ordered_follow s l r _ (operands_are (sort_of o) dir (is_literal l) s l r (plain functions (scope_types s) l) (plain functions (scope_types s) r))
  shape_follows path scope dir a (op o (more l (more r (more x ts)))) = tt
  shape_follows path scope dir a (app f x) = ((refl, from_same scope path), ((refl, from_same scope path), tt))
  shape_follows path scope dir a (lets v e k) = ((refl, from_same scope path), ((refl, from_push scope path scope 0 _ refl (from_same scope path)), tt))
  shape_follows path scope dir a (let_bang os v e k) =
      ((refl, from_observed scope path (λ i. among i os)), ((refl, from_push scope path scope 0 _ refl (from_same scope path)), tt))
  shape_follows path scope dir a (if_else c x y) = ((refl, from_same scope path), ((refl, from_same scope path), ((refl, from_same scope path), tt)))
  shape_follows path scope dir a (con name e) = ((refl, from_same scope path), tt)
  shape_follows path scope dir a (case_of e at v x y) =
      ((refl, from_same scope path), ((refl, from_push scope path scope 0 _ refl (from_same scope path)), ((refl, from_push scope path scope 1 _ refl (from_same scope path)), tt)))
  shape_follows path scope dir a (esac at e) = ((refl, from_same scope path), tt)
  shape_follows path scope dir a (struct fs) = fields_follow (site_of path scope dir (term a (struct fs))) fs 0 (parts_against dir)
  shape_follows path scope dir a (member e at) = ((refl, from_same scope path), tt)
  shape_follows path scope dir a (take_field e at v w k) =
      ((refl, from_same scope path), ((refl, from_push scope path _ 1 _ refl (from_push scope path scope 0 _ refl (from_same scope path))), tt))
  shape_follows path scope dir a (put e at x) = ((refl, from_same scope path), ((refl, from_same scope path), tt))
  shape_follows path scope dir a (cast e) = ((refl, from_same scope path), tt)
  shape_follows path scope dir a (annot e t) = ((refl, from_same scope path), tt)

  term_follows : (path : Path) (scope : List Entry) (dir : Option Tau) (e : Tree Place) → FollowFrom (site_of path scope dir e) 0 (parts functions (site_of path scope dir e))
  term_follows path scope dir (term a shape) = shape_follows path scope dir a shape

  pub part_follows : (s : Site) (j : ℕ) (p : Site) → slice_get (parts functions s) j ≡ Some p → Follows s j p
  part_follows s j p h = follow_at s (parts functions s) 0 j j p (term_follows s.path s.scope s.direction s.node) h (omega arith)

  -- a site's path is the way to it
  pub path_is : (q : Path) (s z : Site) → down functions (Some s) q ≡ Some z → z.path ≡ s.path ++ q
  path_is [] s z h = let same : s ≡ z = cc in sym (ap (λ s. s.path) same) ∙ sym (append-nil s.path)
  path_is (j ∷ q) s z h = go (λ p k. path_is q p z k) (slice_get (parts functions s) j) refl h
    where
      go : ((p : Site) → down functions (Some p) q ≡ Some z → z.path ≡ p.path ++ q) → (o : Option Site) → slice_get (parts functions s) j ≡ o → down functions o q ≡ Some z
          → z.path ≡ s.path ++ (j ∷ q)
      go f None e k = absurd (cc)
      go f (Some p) e k = f p k ∙ (ap (λ path. path ++ q) (part_follows s j p e).0 ∙ push_append s.path q j)

  -- a variable that is bound at a site on the way from one to another
  pub record IsBoundBetween (s z : Site) (q : Path) (x : Variable) : Type 0 where
    pub above : Path
    pub part : ℕ
    pub below : Path
    pub number : ℕ
    pub site : Site
    pub way : q ≡ above ++ (part ∷ below)
    pub stands : down functions (Some s) above ≡ Some site
    pub bound : x ≡ bound_at site.path number

  abbrev pub IsIn : Variable → List Entry → Type 0
  IsIn x scope = (i : ℕ) × (e : Entry) × (slice_get scope i ≡ Some e) × (e.variable ≡ x)

  -- each variable in scope stood in the scope above, or is bound on the way
  pub origin : (q : Path) (s z : Site) (x : Variable) → down functions (Some s) q ≡ Some z → IsIn x z.scope → IsIn x s.scope ⊎ IsBoundBetween s z q x
  origin [] s z x h e = let same : z ≡ s = cc in inl (subst (λ z. IsIn x z.scope) same e)
  origin (j ∷ q) s z x h e = go (λ p k. origin q p z x k e) (slice_get (parts functions s) j) refl h
    where
      lifted : (p : Site) → slice_get (parts functions s) j ≡ Some p → IsBoundBetween p z q x → IsBoundBetween s z (j ∷ q) x
      lifted p at b =
          record {
            above = j ∷ b.above;
            part = b.part;
            below = b.below;
            number = b.number;
            site = b.site;
            way = ap (λ q. j ∷ q) b.way;
            stands = subst (λ o. down functions o b.above ≡ Some b.site) (sym at) b.stands;
            bound = b.bound;
          }

      from_part : (p : Site) → slice_get (parts functions s) j ≡ Some p → IsIn x p.scope → IsIn x s.scope ⊎ IsBoundBetween s z (j ∷ q) x
      from_part p at i =
          ⊎_elim (λ l. inl (l.0, l.1, l.2, sym l.3 ∙ i.3))
          (λ r. inr (record { above = []; part = j; below = q; number = r.0; site = s; way = refl; stands = refl; bound = sym i.3 ∙ r.1 }))
          ((part_follows s j p at).1 i.0 i.1 i.2)

      go : ((p : Site) → down functions (Some p) q ≡ Some z → IsIn x p.scope ⊎ IsBoundBetween p z q x) → (o : Option Site) → slice_get (parts functions s) j ≡ o → down functions o q ≡ Some z
          → IsIn x s.scope ⊎ IsBoundBetween s z (j ∷ q) x
      go f None at k = absurd (cc)
      go f (Some p) at k = ⊎_elim (λ i. from_part p at i) (λ b. inr (lifted p at b)) (f p k)
