-- Tests on types and contexts.
use Rattle.std.proofs.Common.{◌≡◌, ◌<◌, ◌≤◌, ◌+◌, ◌-◌, ℕ, zero, suc, Bool, true, false, ◌&&◌, List, [], ◌∷◌, length, take, drop, get_or, refl, sym, ap, ◌∙◌, arith}
use Rattle.std.proofs.lemmas.List.{at_drop_more, at_drop_all, take_all, length-drop}
use Rattle.cg_base.specs.declared.kind.Kinds.{Kinds}
use Rattle.cg_base.specs.declared.ty.Ty.{the_lemmas}
use Rattle.cg_certcheck_context.proofs.ContextSteps.{found_drops}
use Rattle.cg_certcheck_context.specs.Contexts.{context_of, entry_of}
use Rattle.cg_certcheck_context.specs.declared.context.Entry.{Entry}
use Rattle.cg_certcheck_def.specs.Tests.{drops_all, drops_but, entry_drops}
use Rattle.cg_check_laws.proofs.SameTypeTests.{same_when, same_unless}
use Rattle.cg_kinds.proofs.BangKinds.{bang_drops}

-- entries, one after another
module _ (vars : List Kinds) (es : List Entry) where
  drops_rest : (i : ℕ) (d : Entry) → i < length es
      → drops_all vars (context_of vars (drop i es)) ≡ entry_drops vars (entry_of vars (get_or es i d)) && drops_all vars (context_of vars (drop (i + 1) es))
  drops_rest i d h = at_drop_more (λ l. drops_all vars (context_of vars l)) es i d h

  pub drops_more : (i : ℕ) (d : Entry) → i < length es → entry_drops vars (entry_of vars (get_or es i d)) ≡ true
      → drops_all vars (context_of vars (drop (i + 1) es)) ≡ drops_all vars (context_of vars (drop i es))
  drops_more i d h e = sym (drops_rest i d h ∙ ap (λ b. b && drops_all vars (context_of vars (drop (i + 1) es))) e)

  pub drops_stop : (i : ℕ) (d : Entry) → i < length es → entry_drops vars (entry_of vars (get_or es i d)) ≡ false → drops_all vars (context_of vars (drop i es)) ≡ false
  drops_stop i d h e = drops_rest i d h ∙ ap (λ b. b && drops_all vars (context_of vars (drop (i + 1) es))) e

  pub drops_past : (i : ℕ) → length es ≤ i → drops_all vars (context_of vars (drop i es)) ≡ true
  drops_past i h = at_drop_all (λ l. drops_all vars (context_of vars l)) es i h

-- all but one
module _ (vars : List Kinds) where
  and_then : (a b c : Bool) → a && (b && c) ≡ (a && b) && c
  and_then true b c = refl
  and_then false b c = refl

  pub but_past : (es : List Entry) (i : ℕ) → length es ≤ i → drops_but vars i (context_of vars es) ≡ drops_all vars (context_of vars es)
  but_past [] i h = refl
  but_past (e ∷ es) zero h = absurd (omega (arith, h))
  but_past (e ∷ es) (suc i) h = ap (λ b. entry_drops vars (entry_of vars e) && b) (but_past es i (omega (arith, h)))

  but_suc : (es : List Entry) (i : ℕ) → i < length es
      → drops_but vars i (context_of vars es) ≡ drops_all vars (context_of vars (take i es)) && drops_all vars (context_of vars (drop (suc i) es))
  but_suc [] i h = absurd (omega (arith, h))
  but_suc (e ∷ es) zero h = refl
  but_suc (e ∷ es) (suc i) h =
      ap (λ b. entry_drops vars (entry_of vars e) && b) (but_suc es i (omega (arith, h)))
      ∙ and_then (entry_drops vars (entry_of vars e)) (drops_all vars (context_of vars (take i es))) (drops_all vars (context_of vars (drop (suc i) es)))

  rest_of : (es : List Entry) (i : ℕ) → i < length es → take (length es - (i + 1)) (drop (i + 1) es) ≡ drop (suc i) es
  rest_of es i h =
      let e : i + 1 ≡ suc i = omega arith in
      take_all (length es - (i + 1)) (drop (i + 1) es) (omega (arith, length-drop (i + 1) es)) ∙ ap (λ j. drop j es) e

  pub but_first : (es : List Entry) (i : ℕ) (b : Bool) → i < length es → b ≡ drops_all vars (context_of vars (take i es)) → b ≡ false → b ≡ drops_but vars i (context_of vars es)
  but_first es i b h e f = f ∙ sym (but_suc es i h ∙ ap (λ b. b && drops_all vars (context_of vars (drop (suc i) es))) (sym e ∙ f))

  pub but_both : (es : List Entry) (i : ℕ) (b c : Bool) → i < length es → b ≡ drops_all vars (context_of vars (take i es)) → b ≡ true
      → c ≡ drops_all vars (context_of vars (take (length es - (i + 1)) (drop (i + 1) es))) → c ≡ drops_but vars i (context_of vars es)
  but_both es i b c h e f k =
      k ∙ ap (λ l. drops_all vars (context_of vars l)) (rest_of es i h)
      ∙ sym (but_suc es i h ∙ ap (λ b. b && drops_all vars (context_of vars (drop (suc i) es))) (sym e ∙ f))

pub ruleset test_steps = (same_when, same_unless, bang_drops, found_drops, the_lemmas)

pub ruleset drop_steps = (drops_more, drops_stop, drops_past, but_past)
