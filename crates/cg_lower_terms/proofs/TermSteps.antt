-- What the code of lowering goes by.
use Rattle.std.proofs.Common.{◌≡◌, ℕ, ◌+◌, List, [], ◌∷◌, ◌++◌, length, map, take, refl, sym, ap, subst, ◌∙◌}
use Rattle.std.proofs.lemmas.List.{append-nil, map-append}
use Rattle.std.proofs.Math.Seq.{take-append_seam}
use Rattle.cg_core.specs.declared.term.Form.{the_lemmas}
use Rattle.cg_core.specs.Terms.{Note, Tree}
use Rattle.cg_ctree.specs.declared.tree.CTy.{CTy}
use Rattle.cg_ctree.specs.Trees.{stmt_of}
use Rattle.cg_cgen_def.specs.Bodies.{Low, leaf}
use Rattle.cg_lower_def.specs.Lowered.{low}
use Rattle.cg_cgen_def.specs.Places as places
use Rattle.cg_lower_nodes.specs.declared.place.Place.{Place}
use Rattle.cg_lower_nodes.specs.declared.state.Lowering.{Lowering}
use Rattle.cg_lower_nodes.specs.Grown.{After, Binds, Unbinds}
use Rattle.cg_lower_nodes.specs.Kept.{Kept, kept_of, whole_in, whole_of}
use Rattle.cg_lower_terms.specs.Forms.{Lowers, low_let, low_within, scope_of}
use Rattle.cg_lower_nodes.specs.Views.{place_of}
use Rattle.cg_lower_nodes.proofs.Growing.{after_joined, locals_after}
use Rattle.cg_typing.proofs.CoreTypes.{type_of_core}

-- a leaf, of which there is nothing but the place
pub after_leaf : (old : Lowering) (p : Place) (v : places.Place) → place_of p ≡ v → After old old p (leaf v)
after_leaf old p v e = record {
  value = e;
  locals = sym (append-nil old.locals);
  code = sym (append-nil _);
  scope = refl;
  kept = refl;
}

-- ---- terms behind others

pub whole_after : (old new : Lowering) (p : Place) (a : Low) → After old new p a → whole_of new ≡ whole_of old
whole_after old new p a h = ap whole_in h.kept

pub scope_after : (old new : Lowering) (p : Place) (a : Low) → After old new p a → scope_of new ≡ scope_of old
scope_after old new p a h = ap (map place_of) h.scope

-- a term that is lowered behind another
pub moved : (old mid new : Lowering) (p q : Place) (a : Low) (t : Tree Note)
    → After old mid p a → Lowers mid new t q → After mid new q (low (whole_of old) (length old.locals + length a.locals) (scope_of old) t)
moved old mid new p q a t f g =
    subst (λ w. After mid new q (low w (length old.locals + length a.locals) (scope_of old) t)) (whole_after old mid p a f)
    (subst (λ k. After mid new q (low (whole_of mid) k (scope_of old) t)) (locals_after old mid p a f)
    (subst (λ os. After mid new q (low (whole_of mid) (length mid.locals) os t)) (scope_after old mid p a f) g))

-- ---- variables more

-- a term, of what is known of the whole, so many locals and a scope
unfoldable pub low_at : Kept → List CTy → List places.Place → Tree Note → Low
low_at kept locals os t = low (whole_in kept) (length locals) os t

-- variables more go away again
pub after_unbound : (mid bound last new : Lowering) (ps : List Place) (q : Place) (a : Low) (depth : ℕ)
    → Binds mid bound ps → After bound last q a → Unbinds last new depth → depth ≡ length mid.scope.items → After mid new q a
after_unbound mid bound last new ps q a depth b f u e = record {
  value = f.value;
  locals = u.locals ∙ f.locals ∙ ap (λ z. z ++ a.locals) b.locals;
  code = ap (map stmt_of) u.code ∙ f.code ∙ ap (λ z. map stmt_of z ++ a.code) b.code;
  scope = u.scope ∙ ap (take depth) (f.scope ∙ b.scope) ∙ ap (λ n. take n (mid.scope.items ++ ps)) e ∙ take-append_seam mid.scope.items ps;
  kept = u.kept ∙ f.kept ∙ b.kept;
}

-- a term is lowered in a scope with variables more
pub within_is : (mid bound : Lowering) (ps : List Place) (t : Tree Note)
    → Binds mid bound ps → low (whole_of bound) (length bound.locals) (scope_of bound) t ≡ low_within mid (map place_of ps) t
unfolding low_at
within_is mid bound ps t b =
    ap (λ z. low_at z bound.locals (scope_of bound) t) b.kept
    ∙ ap (λ z. low_at (kept_of mid) z (scope_of bound) t) b.locals
    ∙ ap (λ z. low_at (kept_of mid) mid.locals z t) (ap (map place_of) b.scope ∙ map-append place_of mid.scope.items ps)

pub after_within : (mid bound last new : Lowering) (p q : Place) (t : Tree Note) (depth : ℕ)
    → Binds mid bound (p ∷ []) → Lowers bound last t q → Unbinds last new depth → depth ≡ length mid.scope.items → After mid new q (low_within mid (place_of p ∷ []) t)
after_within mid bound last new p q t depth b f u e =
    after_unbound mid bound last new (p ∷ []) q _ depth b (subst (After bound last q) (within_is mid bound (p ∷ []) t b) f) u e

-- a term behind another, in a scope with variables more
pub moved_within : (old mid new : Lowering) (p q : Place) (a : Low) (os : List places.Place) (t : Tree Note)
    → After old mid p a → After mid new q (low_within mid os t) → After mid new q (low (whole_of old) (length old.locals + length a.locals) (scope_of old ++ os) t)
moved_within old mid new p q a os t f g =
    subst (λ w. After mid new q (low w (length old.locals + length a.locals) (scope_of old ++ os) t)) (whole_after old mid p a f)
    (subst (λ k. After mid new q (low (whole_of mid) k (scope_of old ++ os) t)) (locals_after old mid p a f)
    (subst (λ z. After mid new q (low (whole_of mid) (length mid.locals) (z ++ os) t)) (scope_after old mid p a f) g))

pub after_let : (old mid new : Lowering) (p q : Place) (e b : Tree Note)
    → Lowers old mid e p → After mid new q (low_within mid (place_of p ∷ []) b) → After old new q (low_let old e b)
after_let old mid new p q e b f g =
    after_joined old mid new p q _ _ f
    (moved_within old mid new p q _ _ b f (subst (λ z. After mid new q (low_within mid (z ∷ []) b)) f.value g))

pub ruleset term_steps = (the_lemmas, after_leaf, type_of_core)
