-- Locals that are declared.
use Rattle.std.proofs.Common.{◌≡◌, ℕ, suc, ◌+◌, ◌<◌, List, [], ◌∷◌, ◌++◌, get_or, length, map, take, sym, ap, ◌∙◌, arith}
use Rattle.std.proofs.lemmas.List.{length-map, length-take, map-append, take_more}
use Rattle.cg_ctree.specs.declared.tree.CDecl.{CDecl}
use Rattle.cg_ctree.specs.declared.tree.CStmt as statement
use Rattle.cg_ctree.specs.declared.tree.CTy.{CTy}
use Rattle.cg_cgen_def.specs.Bodies.{locals_from}
use Rattle.cg_cgen_def.specs.Names.{declared}
use Rattle.cg_cgen_def.specs.Places.{local_name}

-- one local more
pub locals_more : (k : ℕ) (ts : List CTy) (t : CTy) → locals_from k (ts ++ t ∷ []) ≡ locals_from k ts ++ declared t (local_name (k + length ts)) ∷ []
locals_more k [] t = ap (λ n. declared t (local_name n) ∷ []) (none_more k)
  where
    none_more : (k : ℕ) → k ≡ k + 0
    none_more k = omega arith
locals_more k (u ∷ ts) t = ap (λ z. declared u (local_name k) ∷ z) (locals_more (suc k) ts t ∙ ap (λ n. locals_from (suc k) ts ++ declared t (local_name n) ∷ []) (next k (length ts)))
  where
    next : (k n : ℕ) → suc k + n ≡ k + suc n
    next k n = omega arith

-- and of the next kind
pub declared_more : {A : Type 0} (f : A → CTy) (xs : List A) (i : ℕ) (x : A) (t : CTy) (old new : List CDecl) → i < length xs → t ≡ f (get_or xs i x) → old ≡ locals_from 0 (map f (take i xs))
    → new ≡ old ++ declared t (local_name i) ∷ [] → new ≡ locals_from 0 (map f (take (i + 1) xs))
declared_more f xs i x t old new h g d n =
    n ∙ ap (λ z. z ++ declared t (local_name i) ∷ []) d ∙ ap (λ z. locals_from 0 (map f (take i xs)) ++ declared z (local_name i) ∷ []) g
    ∙ ap (λ k. locals_from 0 (map f (take i xs)) ++ declared (f (get_or xs i x)) (local_name k) ∷ []) many ∙ sym (locals_more 0 (map f (take i xs)) (f (get_or xs i x))) ∙ ap (locals_from 0) all_of
  where
    many : i ≡ 0 + length (map f (take i xs))
    many = omega (arith, length-map (take i xs) f, length-take i xs)

    all_of : map f (take i xs) ++ f (get_or xs i x) ∷ [] ≡ map f (take (i + 1) xs)
    all_of = sym (ap (map f) (take_more xs i x h) ∙ map-append f (take i xs) (get_or xs i x ∷ []))

pub ruleset type_steps = (statement.the_lemmas)
