-- Contexts that marks leave, and what stands in them.
use Rattle.std.proofs.Common.{◌≡◌, Bool, true, false, ◌&&◌, ◌||◌, not, cond, ◌<◌, ◌≤◌, ℕ, zero, suc, None, List, [], ◌∷◌, ◌++◌, length, drop, get_or, append-nil, refl, ap, ◌∙◌, arith}
use Rattle.std.proofs.lemmas.Bool.{false≢true}
use Rattle.cg_base.specs.declared.kind.Kinds.{Kinds}
use Rattle.cg_base.specs.declared.ty.Ty.{the_lemmas}
use Rattle.cg_base.specs.Types.{Tau}
use Rattle.cg_certcheck_context.specs.Contexts.{context_of, entry_of, found_type, is_found}
use Rattle.cg_certcheck_context.specs.declared.context.Entry.{Entry}
use Rattle.cg_core.specs.declared.derivation.Mark.{Mark}
use Rattle.cg_kinds.proofs.Laws.{bang_free, bang_twice}
use Rattle.cg_kinds.specs.Kinds.{bang, kinds}
use Rattle.cg_typing.specs.Contexts.{first, second, look, push}

-- one entry more
pub pushed : (vars : List Kinds) (es : List Entry) (e : Entry) → context_of vars (es ++ e ∷ []) ≡ push (context_of vars es) (entry_of vars e)
pushed vars [] e = refl
pushed vars (d ∷ es) e = ap (λ g. entry_of vars d ∷ g) (pushed vars es e)

-- one of the lists is over
pub first_past : (vars : List Kinds) (ms : List Mark) (es side : List Entry) (i : ℕ) → (i < length ms → i < length es → ⊥) → context_of vars side ++ first (drop i ms) (context_of vars (drop i es)) ≡ context_of vars side
first_past vars ms es side i h = ap (λ l. context_of vars side ++ l) (go ms es i h) ∙ append-nil (context_of vars side)
  where
    none : (es : List Entry) → first [] (context_of vars es) ≡ []
    none [] = refl
    none (e ∷ es) = refl

    go : (ms : List Mark) (es : List Entry) (i : ℕ) → (i < length ms → i < length es → ⊥) → first (drop i ms) (context_of vars (drop i es)) ≡ []
    go [] es zero h = none es
    go [] es (suc i) h = none (drop (suc i) es)
    go (m ∷ ms) [] zero h = refl
    go (m ∷ ms) [] (suc i) h = refl
    go (m ∷ ms) (e ∷ es) zero h = absurd (h (omega arith) (omega arith))
    go (m ∷ ms) (e ∷ es) (suc i) h = go ms es i (λ a b. h (omega (arith, a)) (omega (arith, b)))

pub second_past : (vars : List Kinds) (ms : List Mark) (es side : List Entry) (i : ℕ) → (i < length ms → i < length es → ⊥) → context_of vars side ++ second (drop i ms) (context_of vars (drop i es)) ≡ context_of vars side
second_past vars ms es side i h = ap (λ l. context_of vars side ++ l) (go ms es i h) ∙ append-nil (context_of vars side)
  where
    none : (es : List Entry) → second [] (context_of vars es) ≡ []
    none [] = refl
    none (e ∷ es) = refl

    go : (ms : List Mark) (es : List Entry) (i : ℕ) → (i < length ms → i < length es → ⊥) → second (drop i ms) (context_of vars (drop i es)) ≡ []
    go [] es zero h = none es
    go [] es (suc i) h = none (drop (suc i) es)
    go (m ∷ ms) [] zero h = refl
    go (m ∷ ms) [] (suc i) h = refl
    go (m ∷ ms) (e ∷ es) zero h = absurd (h (omega arith) (omega arith))
    go (m ∷ ms) (e ∷ es) (suc i) h = go ms es i (λ a b. h (omega (arith, a)) (omega (arith, b)))

-- what stands at a position
pub look_at : (vars : List Kinds) (es : List Entry) (i : ℕ) (d : Entry) → i < length es → look (context_of vars es) i ≡ entry_of vars (get_or es i d)
look_at vars [] i d h = absurd (omega (arith, h))
look_at vars (e ∷ es) zero d h = refl
look_at vars (e ∷ es) (suc i) d h = look_at vars es i d (omega (arith, h))

pub look_past : (vars : List Kinds) (es : List Entry) (i : ℕ) → length es ≤ i → look (context_of vars es) i ≡ None
look_past vars [] i h = refl
look_past vars (e ∷ es) zero h = absurd (omega (arith, h))
look_past vars (e ∷ es) (suc i) h = look_past vars es i (omega (arith, h))

-- a type that may be dropped, as it was found
pub found_when : (vs : List Kinds) (t : Tau) → (kinds vs t).drop ≡ true → found_type vs (kinds vs t).share t ≡ t
found_when vs t e = go (kinds vs t).share (kinds vs t).drop e
  where
    go : (a b : Bool) → b ≡ true → cond (b && (not a || a)) t (bang t) ≡ t
    go true true e = refl
    go false true e = refl
    go a false e = absurd (false≢true e)

-- as observed it is what the type itself is
pub found_seen : (vs : List Kinds) (shared : Bool) (t : Tau) → bang (found_type vs shared t) ≡ bang t
found_seen vs shared t = go (is_found vs shared t)
  where
    go : (b : Bool) → bang (cond b t (bang t)) ≡ bang t
    go true = refl
    go false = bang_twice t

-- it may be dropped
pub found_drops : (vs : List Kinds) (shared : Bool) (t : Tau) → (kinds vs (found_type vs shared t)).drop ≡ true
found_drops vs shared t = go (kinds vs t).drop (not shared || (kinds vs t).share) refl
  where
    go : (a b : Bool) → (kinds vs t).drop ≡ a → (kinds vs (cond (a && b) t (bang t))).drop ≡ true
    go true true e = e
    go true false e = (bang_free vs t).0
    go false b e = (bang_free vs t).0

-- it may be shared where that was found
pub found_shares : (vs : List Kinds) (shared : Bool) (t : Tau) → shared ≡ true → (kinds vs (found_type vs shared t)).share ≡ true
found_shares vs true t s = go (kinds vs t).drop (kinds vs t).share refl
  where
    go : (a b : Bool) → (kinds vs t).share ≡ b → (kinds vs (cond (a && b) t (bang t))).share ≡ true
    go true true e = e
    go true false e = (bang_free vs t).1
    go false b e = (bang_free vs t).1
found_shares vs false t s = absurd (false≢true s)

-- where it wasn't found, it is asked for
pub droppable_share : (vs : List Kinds) (t : Tau) → (kinds vs (found_type vs false t)).share ≡ not (kinds vs t).drop || (kinds vs t).share
droppable_share vs t = go (kinds vs t).drop
  where
    go : (a : Bool) → (kinds vs (cond (a && true) t (bang t))).share ≡ not a || (kinds vs t).share
    go true = refl
    go false = (bang_free vs t).1

pub ruleset context_steps = (pushed, bang_twice, found_when, found_seen, look_at, look_past, the_lemmas)
