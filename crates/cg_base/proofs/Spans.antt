-- The longest front whose bytes pass a test. Every lexer uses these lemmas.
use Rattle.std.proofs.Common.{one-add, ◌≡◌, ℕ, ◌+◌, ◌≤◌, Bool, true, false, cond, List, [], ◌∷◌, ◌++◌, length, take, drop, refl, sym, ap, ◌∙◌, arith}
use Rattle.std.specs.List.{prefix_len}
use Rattle.std.proofs.Math.Seq.{take-append_seam, drop-append_seam}
use Rattle.cg_base.specs.Bytes.{Each, Stops}

-- a choice has a property if each of its sides has, where it is chosen
pub either_way : {A : Type 0} (Q : A → Type 0) (b : Bool) (x y : A) → (b ≡ true → Q x) → (b ≡ false → Q y) → Q (cond b x y)
either_way Q true x y h k = h refl
either_way Q false x y h k = k refl

pub spans : (p : ℕ → Bool) (xs rest : List ℕ) → Each p xs → Stops p rest → prefix_len p (xs ++ rest) ≡ length xs
spans p [] [] h s = refl
spans p [] (b ∷ rest) h s = rw s refl
spans p (x ∷ xs) rest h s = rw h.0 (omega (arith, spans p xs rest h.1 s))

pub front_passes : (p : ℕ → Bool) (xs : List ℕ) → Each p (take (prefix_len p xs) xs) × Stops p (drop (prefix_len p xs) xs) × (prefix_len p xs ≤ length xs)
front_passes p [] = (tt, tt, omega arith)
front_passes p (x ∷ xs) =
    let rest = front_passes p xs in
    elim (p x) as (λ b. p x ≡ b → Each p (take (cond b (1 + prefix_len p xs) 0) (x ∷ xs)) × Stops p (drop (cond b (1 + prefix_len p xs) 0) (x ∷ xs)) × (cond b (1 + prefix_len p xs) 0 ≤ length (x ∷ xs))) [
      | true ↦ λ e. rw one-add ((e, rest.0), rest.1, omega (arith, rest.2))
      | false ↦ λ e. (tt, e, omega arith)
    ] refl

-- the longest front is one
pub one_span : (p : ℕ → Bool) (xs r ys q : List ℕ) → Each p xs → Stops p r → Each p ys → Stops p q → xs ++ r ≡ ys ++ q → (xs ≡ ys) × (r ≡ q)
one_span p xs r ys q h s k t e =
    let n : length xs ≡ length ys = sym (spans p xs r h s) ∙ ap (prefix_len p) e ∙ spans p ys q k t in (
      sym (take-append_seam xs r) ∙ ap (λ m. take m (xs ++ r)) n ∙ ap (take (length ys)) e ∙ take-append_seam ys q,
      sym (drop-append_seam xs r) ∙ ap (λ m. drop m (xs ++ r)) n ∙ ap (drop (length ys)) e ∙ drop-append_seam ys q,
    )

-- a front that passes doesn't reach a byte that doesn't pass
pub not_all : (p : ℕ → Bool) (xs : List ℕ) (b : ℕ) (rest : List ℕ) → p b ≡ false → Each p (xs ++ b ∷ rest) → ⊥
not_all p [] b rest e h = let t : p b ≡ true = h.0 in cc
not_all p (x ∷ xs) b rest e h = not_all p xs b rest e h.1
