-- Nodes, of what their parts gave.
use Rattle.std.proofs.Common.{◌≡◌, ℕ, true, false, List, [], ◌∷◌, length, refl, sym, ap, subst, ◌∙◌}
use Rattle.cg_base.specs.declared.kind.Word.{Word}
use Rattle.cg_base.specs.declared.kind.Sigil.TheVariants.{R, U}
use Rattle.cg_ctree.specs.declared.tree.CPath.{CPath}
use Rattle.cg_ctree.specs.declared.tree.CRhs.TheVariants.{Opnd}
use Rattle.cg_ctree.specs.declared.tree.CTy.{CTy}
use Rattle.cg_ctree.specs.declared.tree.CTy.TheVariants as ty
use Rattle.cg_ctree.specs.Trees.{Stmt, assign}
use Rattle.cg_cgen_def.specs.Bodies.{Low}
use Rattle.cg_lower_def.specs.Lowered.{bare, bare_by, owned, owned_by, set, copy, converting, before, low_cast}
use Rattle.cg_cgen_def.specs.Places as places
use Rattle.cg_lower_nodes.specs.declared.place.Place.{Place}
use Rattle.cg_lower_nodes.specs.declared.state.Lowering.{Lowering}
use Rattle.cg_lower_nodes.specs.Grown.{After, Adds, Bares, Casts, Operates, Owns, Puts, Sets}
use Rattle.cg_lower_nodes.specs.Views.{is_bare, is_number, is_own, place_of}
use Rattle.cg_lower_nodes.proofs.Growing.{after_set, after_then}
use Rattle.cg_base.proofs.Counts.{no_steps as never}

never' : {A : Type 0} → true ≡ false → A
never' h = absurd (cc)

-- and then a local of a type of C, which is set by statements on the value
pub after_valued : (old mid new : Lowering) (p q : Place) (a : Low) (t : CTy) (stmts : places.Place → ℕ → List Stmt)
    → After old mid p a → Sets mid new t (stmts (place_of p)) q → After old new q (set (length old.locals) t a (stmts a.value))
after_valued old mid new p q a t stmts f g = after_set old mid new p q a t (stmts a.value) f (subst (λ z. Sets mid new t (stmts z) q) f.value g)

-- ---- a variable of its own

bare_same : (k : ℕ) (t : CTy) (a : Low) (v : places.Place) → is_bare v ≡ true → bare_by k t a v ≡ a
bare_same k t a (places.number n) h = never h
bare_same k t a (places.held b []) h = refl
bare_same k t a (places.held b (s ∷ ss)) h = never h

bare_other : (k : ℕ) (t : CTy) (a : Low) (v : places.Place) → is_bare v ≡ false → bare_by k t a v ≡ set k t a (copy v)
bare_other k t a (places.number n) h = refl
bare_other k t a (places.held b []) h = never' h
bare_other k t a (places.held b (s ∷ ss)) h = refl

pub bares_same : (l : Lowering) (t : CTy) (p : Place) → is_bare (place_of p) ≡ true → Bares l l t p p
bares_same l t p h = record {
  by = λ old a f. subst (After old l p) (sym (bare_same (length old.locals) t a a.value (ap is_bare (sym f.value) ∙ h))) f;
}

pub bares_other : (l new : Lowering) (t : CTy) (p q : Place) → is_bare (place_of p) ≡ false → Sets l new t (copy (place_of p)) q → Bares l new t p q
bares_other l new t p q h s = record {
  by = λ old a f. subst (After old new q) (sym (bare_other (length old.locals) t a a.value (ap is_bare (sym f.value) ∙ h))) (after_valued old l new p q a t copy f s);
}

-- ---- a local of its own

owned_same : (k : ℕ) (t : CTy) (a : Low) (v : places.Place) → is_own k v ≡ true → owned_by k t a v ≡ a
owned_same k t a (places.number n) h = never h
owned_same k t a (places.held places.argument ss) h = never h
owned_same k t a (places.held (places.local j) []) h = rw h refl
owned_same k t a (places.held (places.local j) (s ∷ ss)) h = never h

owned_other : (k : ℕ) (t : CTy) (a : Low) (v : places.Place) → a.value ≡ v → is_own k v ≡ false → owned_by k t a v ≡ set k t a (copy a.value)
owned_other k t a (places.number n) e h = ap (λ z. set k t a (copy z)) (sym e)
owned_other k t a (places.held places.argument ss) e h = ap (λ z. set k t a (copy z)) (sym e)
owned_other k t a (places.held (places.local j) []) e h = rw h refl
owned_other k t a (places.held (places.local j) (s ∷ ss)) e h = ap (λ z. set k t a (copy z)) (sym e)

pub owns_same : (l : Lowering) (k : ℕ) (t : CTy) (p : Place) → is_own k (place_of p) ≡ true → Owns l l k t p p
owns_same l k t p h = record {
  by = λ old a n f. subst (After old l p) (sym (owned_same k t a a.value (ap (is_own k) (sym f.value) ∙ h))) f;
}

pub owns_other : (l new : Lowering) (k : ℕ) (t : CTy) (p q : Place) → is_own k (place_of p) ≡ false → Sets l new t (copy (place_of p)) q → Owns l new k t p q
owns_other l new k t p q h s = record {
  by = λ old a n f.
      subst (After old new q) (sym (owned_other k t a a.value refl (ap (is_own k) (sym f.value) ∙ h)))
      (subst (λ z. After old new q (set z t a (copy a.value))) (sym n) (after_valued old l new p q a t copy f s));
}

-- ---- fields that are set

pub puts_row : (mid b new : Lowering) (k : ℕ) (r : CTy) (i : ℕ) (v : places.Place) (p q : Place) (to : CPath)
    → Owns mid b k r p q → to ≡ places.path (places.base_of (place_of q)) (places.field i ∷ []) → Adds b new (assign to (Opnd (places.operand v)) ∷ []) → Puts mid new k U r i v p q
puts_row mid b new k r i v p q to h w s = record {
  by = λ old e x n u f.
      let g = h.by old (before e x) n f in
      after_then old b new q (owned k r (before e x)) _ g
      (subst (λ z. Adds b new (assign z (Opnd (places.operand x.value)) ∷ [])) (w ∙ ap (λ z. places.path (places.base_of z) (places.field i ∷ [])) g.value)
      (subst (λ z. Adds b new (assign to (Opnd (places.operand z)) ∷ [])) u s));
}

pub puts_cell : (mid b new : Lowering) (k : ℕ) (r : CTy) (i : ℕ) (v : places.Place) (p q : Place) (to : CPath)
    → Bares mid b r p q → to ≡ places.arrow_path (places.base_of (place_of q)) (places.field i ∷ []) → Adds b new (assign to (Opnd (places.operand v)) ∷ []) → Puts mid new k R r i v p q
puts_cell mid b new k r i v p q to h w s = record {
  by = λ old e x n u f.
      let g : After old b q (bare k r (before e x)) = subst (λ z. After old b q (bare z r (before e x))) (sym n) (h.by old (before e x) f) in
      after_then old b new q (bare k r (before e x)) _ g
      (subst (λ z. Adds b new (assign z (Opnd (places.operand x.value)) ∷ [])) (w ∙ ap (λ z. places.arrow_path (places.base_of z) (places.field i ∷ [])) g.value)
      (subst (λ z. Adds b new (assign to (Opnd (places.operand z)) ∷ [])) u s));
}

-- ---- casts

cast_same : (k : ℕ) (w : Word) (a : Low) (v : places.Place) → is_number v ≡ true → low_cast k w a v ≡ a
cast_same k w a (places.number n) h = refl
cast_same k w a (places.held b ss) h = never h

cast_other : (k : ℕ) (w : Word) (a : Low) (v : places.Place) → is_number v ≡ false → low_cast k w a v ≡ set k (ty.Word w) a (converting w v)
cast_other k w a (places.number n) h = never' h
cast_other k w a (places.held b ss) h = refl

pub casts_same : (l : Lowering) (w : Word) (p : Place) → is_number (place_of p) ≡ true → Casts l l w p p
casts_same l w p h = record {
  by = λ old a f. subst (After old l p) (sym (cast_same (length old.locals) w a a.value (ap is_number (sym f.value) ∙ h))) f;
}

pub casts_other : (l new : Lowering) (w : Word) (p q : Place) → is_number (place_of p) ≡ false → Sets l new (ty.Word w) (converting w (place_of p)) q → Casts l new w p q
casts_other l new w p q h s = record {
  by = λ old a f.
      subst (After old new q) (sym (cast_other (length old.locals) w a a.value (ap is_number (sym f.value) ∙ h))) (after_valued old l new p q a (ty.Word w) (converting w) f s);
}

-- ---- operators

pub operates_not : (l : Lowering) (t : CTy) (stmts : ℕ → List Stmt) (q : Place) → place_of q ≡ places.number 0 → Operates l l false t stmts q
operates_not l t stmts q e = record {
  by = λ old a p f. record { value = e; locals = f.locals; code = f.code; scope = f.scope; kept = f.kept };
}

pub operates : (l new : Lowering) (t : CTy) (stmts : ℕ → List Stmt) (q : Place) → Sets l new t stmts q → Operates l new true t stmts q
operates l new t stmts q s = record { by = λ old a p f. after_set old l new p q a t stmts f s }
