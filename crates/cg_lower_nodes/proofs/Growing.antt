-- How what is lowered joins what was there.
use Rattle.std.proofs.Common.{◌≡◌, ℕ, ◌+◌, List, [], ◌∷◌, ◌++◌, length, map, refl, sym, ap, subst, ◌∙◌}
use Rattle.std.proofs.lemmas.List.{append-nil, length-append, append_assoc}
use Rattle.cg_base.specs.Types.{Tau}
use Rattle.cg_ctree.specs.declared.tree.CTy.{CTy}
use Rattle.cg_ctree.specs.Trees.{Stmt, stmt_of}
use Rattle.cg_lower_def.specs.CTypes.{c_type}
use Rattle.cg_cgen_def.specs.Bodies.{Low}
use Rattle.cg_lower_def.specs.Lowered.{joined, before, and_then, set}
use Rattle.cg_cgen_def.specs.Places as places
use Rattle.cg_lower_nodes.specs.declared.place.Place.{Place}
use Rattle.cg_lower_nodes.specs.declared.state.Lowering.{Lowering}
use Rattle.cg_lower_nodes.specs.Grown.{After, Adds, Sets}
use Rattle.cg_lower_nodes.specs.Kept.{c_type_in, whole_in}
use Rattle.cg_lower_nodes.specs.Views.{place_of}

-- so many locals are there once a term is lowered
pub locals_after : (old new : Lowering) (p : Place) (a : Low) → After old new p a → length new.locals ≡ length old.locals + length a.locals
locals_after old new p a h = ap length h.locals ∙ length-append old.locals a.locals

pub type_after : (old new : Lowering) (p : Place) (a : Low) (t : Tau) → After old new p a → c_type_in new t ≡ c_type_in old t
type_after old new p a t h = ap (λ z. c_type (whole_in z).numbered t) h.kept

-- nothing is lowered
pub after_none : (old : Lowering) (p : Place) → After old old p (record { value = place_of p; locals = []; code = [] })
after_none old p = record {
  value = refl;
  locals = sym (append-nil old.locals);
  code = sym (append-nil (map stmt_of old.stmts));
  scope = refl;
  kept = refl;
}

pub after_joined : (old mid new : Lowering) (p q : Place) (a b : Low) → After old mid p a → After mid new q b → After old new q (joined a b)
after_joined old mid new p q a b f g = record {
  value = g.value;
  locals = g.locals ∙ ap (λ z. z ++ b.locals) f.locals ∙ append_assoc old.locals a.locals b.locals;
  code = g.code ∙ ap (λ z. z ++ b.code) f.code ∙ append_assoc (map stmt_of old.stmts) a.code b.code;
  scope = g.scope ∙ f.scope;
  kept = g.kept ∙ f.kept;
}

pub after_before : (old mid new : Lowering) (p q : Place) (a b : Low) → After old mid p a → After mid new q b → After old new p (before a b)
after_before old mid new p q a b f g = record {
  value = f.value;
  locals = g.locals ∙ ap (λ z. z ++ b.locals) f.locals ∙ append_assoc old.locals a.locals b.locals;
  code = g.code ∙ ap (λ z. z ++ b.code) f.code ∙ append_assoc (map stmt_of old.stmts) a.code b.code;
  scope = g.scope ∙ f.scope;
  kept = g.kept ∙ f.kept;
}

pub after_then : (old mid new : Lowering) (p : Place) (a : Low) (stmts : List Stmt) → After old mid p a → Adds mid new stmts → After old new p (and_then a stmts)
after_then old mid new p a stmts f g = record {
  value = f.value;
  locals = g.locals ∙ f.locals;
  code = g.code ∙ ap (λ z. z ++ stmts) f.code ∙ append_assoc (map stmt_of old.stmts) a.code stmts;
  scope = g.scope ∙ f.scope;
  kept = g.kept ∙ f.kept;
}

pub after_set : (old mid new : Lowering) (p q : Place) (a : Low) (t : CTy) (stmts : ℕ → List Stmt)
    → After old mid p a → Sets mid new t stmts q → After old new q (set (length old.locals) t a stmts)
after_set old mid new p q a t stmts f g = record {
  value = g.value ∙ ap (λ z. places.held (places.local z) []) (locals_after old mid p a f);
  locals = g.locals ∙ ap (λ z. z ++ t ∷ []) f.locals ∙ append_assoc old.locals a.locals (t ∷ []);
  code = g.code ∙ ap (λ z. z ++ stmts (length mid.locals)) f.code ∙ append_assoc (map stmt_of old.stmts) a.code (stmts (length mid.locals))
      ∙ ap (λ z. map stmt_of old.stmts ++ (a.code ++ stmts z)) (locals_after old mid p a f);
  scope = g.scope ∙ f.scope;
  kept = g.kept ∙ f.kept;
}

-- and then a local of a type, which is set by statements on the value
pub after_node : (old mid new : Lowering) (p q : Place) (a : Low) (t : Tau) (stmts : places.Place → ℕ → List Stmt)
    → After old mid p a → Sets mid new (c_type_in mid t) (stmts (place_of p)) q → After old new q (set (length old.locals) (c_type_in old t) a (stmts a.value))
after_node old mid new p q a t stmts f g =
    after_set old mid new p q a (c_type_in old t) (stmts a.value) f
    (subst (λ z. Sets mid new (c_type_in old t) (stmts z) q) f.value (subst (λ z. Sets mid new z (stmts (place_of p)) q) (type_after old mid p a t f) g))
