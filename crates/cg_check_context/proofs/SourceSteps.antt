-- Contexts that grow and shrink at their end, and what stands in them.
use Rattle.std.proofs.Common.{◌≡◌, ◌<◌, ◌≤◌, ℕ, zero, suc, true, false, cond, List, [], ◌∷◌, ◌++◌, length, Option, Some, None, option_to_list, get_or, refl, sym, ap, ◌∙◌, arith}
use Rattle.cg_base.specs.Types.{Tau, unit, type_of}
use Rattle.cg_check_context.specs.declared.source.Known.{Known}
use Rattle.cg_check_context.specs.View.{Entry, entries_of, fresh, types_in, type_seen}
use Rattle.cg_faults.specs.Plain.{plain_at}
use Rattle.cg_kinds.specs.Kinds.{bang}
use Rattle.cg_typing.specs.Contexts.{push}

-- one more, and one less
pub pushed : (ks : List Known) (k : Known) → entries_of (ks ++ k ∷ []) ≡ push (entries_of ks) (record { ty = type_of k.ty; observed = k.observed })
pushed [] k = refl
pushed (j ∷ ks) k = ap (λ es. record { ty = type_of j.ty; observed = j.observed } ∷ es) (pushed ks k)

not_nothing : (p : List Entry) (e : Entry) → ◌≡◌ {A = List Entry} [] (push p e) → ⊥
not_nothing [] e h = absurd (cc)
not_nothing (d ∷ p) e h = absurd (cc)

popped_last : (rest : List Known) (x : Known) (p : List Entry) (e : Entry) → entries_of (rest ++ x ∷ []) ≡ push p e → entries_of rest ≡ p
popped_last [] x [] e h = refl
popped_last [] x (d ∷ []) e h = absurd (cc)
popped_last [] x (d ∷ c ∷ p) e h = absurd (cc)
popped_last (y ∷ []) x [] e h = absurd (cc)
popped_last (y ∷ z ∷ rest) x [] e h = absurd (cc)
popped_last (y ∷ rest) x (d ∷ p) e h =
    let q : entries_of (rest ++ x ∷ []) ≡ push p e = cc in
    let i = popped_last rest x p e q in
    let j : record { ty = type_of y.ty; observed = y.observed } ≡ d = cc in cc

pub popped : (ks rest : List Known) (o : Option Known) (p : List Entry) (e : Entry) → ks ≡ rest ++ option_to_list o → (0 < length ks → o ≡ None → ⊥) → entries_of ks ≡ push p e → entries_of rest ≡ p
popped [] rest o p e h n i = absurd (not_nothing p e i)
popped (k ∷ ks) rest None p e h n i = absurd (n (omega arith) refl)
popped (k ∷ ks) rest (Some x) p e h n i = popped_last rest x p e (ap entries_of (sym h) ∙ i)

-- the types of a context with one more
pub types_pushed : (es : List Entry) (t : Tau) → types_in (push es (fresh t)) ≡ push (types_in es) t
types_pushed [] t = refl
types_pushed (e ∷ es) t = ap (λ p. type_seen e ∷ p) (types_pushed es t)

-- the type at a position
at_position : (ks : List Known) (i : ℕ) (d : Known) → i < length ks → plain_at (types_in (entries_of ks)) i ≡ cond (get_or ks i d).observed (bang (type_of (get_or ks i d).ty)) (type_of (get_or ks i d).ty)
at_position [] i d h = absurd (omega (arith, h))
at_position (k ∷ ks) zero d h = refl
at_position (k ∷ ks) (suc i) d h = at_position ks i d (omega (arith, h))

pub at_seen : (ks : List Known) (i : ℕ) (d : Known) → i < length ks → (get_or ks i d).observed ≡ true → plain_at (types_in (entries_of ks)) i ≡ bang (type_of (get_or ks i d).ty)
at_seen ks i d h o = at_position ks i d h ∙ ap (λ b. cond b (bang (type_of (get_or ks i d).ty)) (type_of (get_or ks i d).ty)) o

pub at_own : (ks : List Known) (i : ℕ) (d : Known) → i < length ks → (get_or ks i d).observed ≡ false → plain_at (types_in (entries_of ks)) i ≡ type_of (get_or ks i d).ty
at_own ks i d h o = at_position ks i d h ∙ ap (λ b. cond b (bang (type_of (get_or ks i d).ty)) (type_of (get_or ks i d).ty)) o

pub past_position : (ks : List Known) (i : ℕ) → length ks ≤ i → plain_at (types_in (entries_of ks)) i ≡ unit
past_position [] i h = refl
past_position (k ∷ ks) zero h = absurd (omega (arith, h))
past_position (k ∷ ks) (suc i) h = past_position ks i (omega (arith, h))

-- as many types as variables
pub types_long : (ks : List Known) → length (types_in (entries_of ks)) ≡ length ks
types_long [] = refl
types_long (k ∷ ks) = ap suc (types_long ks)

pub ruleset source_steps = (pushed, types_pushed, at_seen, at_own, past_position)
