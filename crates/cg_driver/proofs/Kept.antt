-- Lists in which each number stands equally often are equally long.
use Rattle.std.proofs.Common.{◌≡◌, ◌≤◌, ℕ, suc, ◌+◌, true, List, [], ◌∷◌, length, arith, refl, sym, ap, ◌∙◌}
use Rattle.std.proofs.lemmas.Bool.{eqb-true}
use Rattle.std.specs.Prelude.{nat_eq}
use Rattle.cg_heap.specs.Reps.{one_if}
use Rattle.cg_heap.specs.Steps.{count}
use Rattle.cg_inst.proofs.Names.{by_cases}

-- a number is itself
itself : (n : ℕ) → nat_eq n n ≡ true
itself n = grind arith

-- a list with one number taken out
record Without (k : ℕ) (ls : List ℕ) : Type 0 where
  rest : List ℕ
  shorter : length ls ≡ suc (length rest)
  others : (q : ℕ) → count q ls ≡ one_if (nat_eq k q) + count q rest

without : (k : ℕ) (ls : List ℕ) → 1 ≤ count k ls → Without k ls
without k [] h = absurd (omega (arith, h))
without k (l ∷ ls) h =
    by_cases (λ b. 1 ≤ one_if b + count k ls → Without k (l ∷ ls)) (nat_eq l k)
    (λ same _. let e : l ≡ k = eqb-true l k same in record { rest = ls; shorter = refl; others = λ q. ap (λ n. one_if (nat_eq n q) + count q ls) e })
    (λ other h.
    let r = without k ls (omega (arith, h)) in
    record {
      rest = l ∷ r.rest;
      shorter = ap suc r.shorter;
      others = λ q. let x = r.others q in omega (arith, x);
    })
    h

none : (ls : List ℕ) → ((q : ℕ) → count q ls ≡ 0) → length ls ≡ 0
none [] h = refl
none (l ∷ ls) h = let x : one_if true + count l ls ≡ 0 = ap (λ b. one_if b + count l ls) (sym (itself l)) ∙ h l in absurd (omega (arith, x))

pub equally_long : (ks ls : List ℕ) → ((q : ℕ) → count q ks ≡ count q ls) → length ks ≡ length ls
equally_long [] ls h = sym (none ls (λ q. sym (h q)))
equally_long (k ∷ ks) ls h =
    let there : one_if true + count k ks ≡ count k ls = ap (λ b. one_if b + count k ks) (sym (itself k)) ∙ h k in
    let w = without k ls (omega (arith, there)) in
    ap suc (equally_long ks w.rest (λ q. let x = h q in let y = w.others q in omega (arith, x, y))) ∙ sym w.shorter
