-- The lines of one function more.
use Rattle.std.proofs.Common.{◌≡◌, ◌∙◌, ◌+◌, ◌++◌, ℕ, suc, List, [], codes, sym, ap, refl, arith}
use Rattle.std.proofs.lemmas.List.{append_assoc, append-nil}
use Rattle.cg_gen.specs.Generated.{function, functions}

behind : (before : ℕ) → functions (suc before) ≡ functions before ++ function before
unfolding functions
behind before = refl

-- what was put behind other text is so behind the lines of the functions in front
pub one_more : (head text : List ℕ) (before : ℕ) → text ≡ head ++ functions before → text ++ function before ≡ head ++ functions (before + 1)
one_more head text before is =
    ap (λ t. t ++ function before) is ∙ append_assoc head (functions before) (function before) ∙ ap (λ fs. head ++ fs) (sym (behind before)) ∙ ap (λ n. head ++ functions n) (next before)
  where
    next : (n : ℕ) → suc n ≡ n + 1
    next n = omega arith

-- the first line, behind no text
pub header_put : (text new : List ℕ) → new ≡ [] → text ≡ new ++ codes "type Cell = {val : U32, tag : U8}\n" → text ≡ codes "type Cell = {val : U32, tag : U8}\n" ++ functions 0
unfolding functions
header_put text new empty is = is ∙ ap (λ t. t ++ codes "type Cell = {val : U32, tag : U8}\n") empty ∙ sym (append-nil (codes "type Cell = {val : U32, tag : U8}\n"))

joined : (t a b c d : List ℕ) → (((t ++ a) ++ b) ++ c) ++ d ≡ t ++ (a ++ b ++ c ++ d)
joined t a b c d = simp append_assoc

-- four pieces that were put behind each other
pub four : (t t1 t2 t3 t4 a b c d : List ℕ) → t1 ≡ t ++ a → t2 ≡ t1 ++ b → t3 ≡ t2 ++ c → t4 ≡ t3 ++ d → t4 ≡ t ++ (a ++ b ++ c ++ d)
four t t1 t2 t3 t4 a b c d e f g h = h ∙ ap (λ x. x ++ d) (g ∙ ap (λ x. x ++ c) (f ∙ ap (λ x. x ++ b) e)) ∙ joined t a b c d
