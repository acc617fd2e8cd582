-- What a search that is done has found, with the node that it began at.
use Rattle.std.proofs.Common.{◌≡◌, ◌↔◌, ◌⊎◌, inl, inr, ⊎_elim, ℕ, zero, suc, ◌<◌, Bool, true, false, IsTrue, List, [], ◌∷◌, length, get_or, set, sym, subst, ◌∙◌, arith}
use Rattle.std.specs.List.{Contains}
use Rattle.std.proofs.lemmas.Bool.{cases_eq}
use Rattle.std.proofs.lemmas.List.{get_or-set_same, get_or-set_other, length-set}
use Rattle.cg_graphs.specs.Circles.{Mentions, Reaches, mentioned, onward}
use Rattle.cg_graphs.specs.Reached.{reached, IsSearch}
use Rattle.cg_graphs.proofs.Places.{place}
use Rattle.cg_graphs.specs.Reach.{AreReached, IsReached}

pub inside : (marks : List Bool) (k : ℕ) → k < length marks → get_or marks k true ≡ true → get_or marks k false ≡ true
inside [] k lt h = absurd (omega arith)
inside (b ∷ marks) zero lt h = h
inside (b ∷ marks) (suc k) lt h = inside marks k (omega arith) h

module _ (edges : List (List ℕ)) (from : ℕ) (marks : List Bool) (s : IsSearch edges from (reached marks [])) where
  none_left : (k : ℕ) → Contains [] k → ⊥
  none_left k h = let lt = h.1 in absurd (omega arith)

  followed : (j k : ℕ) → (Contains [] j ⊎ ((n : ℕ) → Mentions edges j n → get_or marks n true ≡ true)) → Mentions edges j k → get_or marks k true ≡ true
  followed j k (inl c) m = absurd (none_left j c)
  followed j k (inr closed) m = closed k m

  marked : (k : ℕ) → k < length edges → get_or marks k true ≡ true → get_or marks k false ≡ true
  marked k lt h = inside marks k (let e = s.size in omega arith) h

  complete : (k : ℕ) → Reaches edges from k → get_or marks k true ≡ true
  complete _ (mentioned k m) = s.started k m
  complete _ (onward j k r m) =
      let lt : j < length edges = (place edges j m.targets [] m.at).0 in
      followed j k (s.followed j (marked j lt (complete j r))) m

  -- what is marked with it is the node or reached from it, and where there is no such node nothing is
  pub found : AreReached edges from (set marks from true)
  found = record { size = length-set marks from true ∙ s.size; marked = at }
    where
      here : (i : ℕ) → i < length edges → i ≡ from → IsTrue (get_or (set marks from true) i false) ↔ IsReached edges from i
      here i lt e = (λ h. inl e, λ r. subst (λ n. get_or (set marks from true) n false ≡ true) (sym e) (get_or-set_same marks from true false (let n = s.size in omega arith)))

      back : (i : ℕ) → i < length edges → (i ≡ from → ⊥) → IsReached edges from i → get_or marks i false ≡ true
      back i lt d (inl e) = absurd (d e)
      back i lt d (inr r) = marked i lt (complete i r)

      there : (i : ℕ) → i < length edges → (i ≡ from → ⊥) → IsTrue (get_or (set marks from true) i false) ↔ IsReached edges from i
      there i lt d = let same = get_or-set_other marks from i true false d in (λ h. inr (s.sound i (sym same ∙ h)), λ r. same ∙ back i lt d r)

      at : (i : ℕ) → i < length edges → IsTrue (get_or (set marks from true) i false) ↔ IsReached edges from i
      at i lt = ⊎_elim (here i lt) (there i lt) (cases_eq i from)
