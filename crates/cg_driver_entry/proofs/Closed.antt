-- What a search from a function marks is closed under mentions.
use Rattle.std.proofs.Common.{◌≡◌, inl, inr, ℕ, zero, suc, ◌<◌, Bool, true, false, IsTrue, List, [], ◌∷◌, length, get_or, Some, refl, ap, subst, arith}
use Rattle.std.proofs.lemmas.Bool.{and_from}
use Rattle.std.specs.List.{Contains, list_all}
use Rattle.std.specs.Prelude.{slice_get}
use Rattle.cg_graphs.specs.Circles.{Mentions, mentioned, onward}
use Rattle.cg_graphs.proofs.Places.{place}
use Rattle.cg_core.specs.Kernels.{Function}
use Rattle.cg_core_def.specs.Lawful.{body_mentions, kernel_mentions}
use Rattle.cg_graphs.specs.Reach.{AreReached, IsReached}
use Rattle.cg_graphs.proofs.Marked.{marks_are_there}
use Rattle.cg_graphs.proofs.Found.{inside as high}

-- a mark where nothing stands is one
pub low : (marks : List Bool) (k : ℕ) → (k < length marks → get_or marks k false ≡ true) → get_or marks k true ≡ true
low [] k h = refl
low (b ∷ marks) zero h = h (omega arith)
low (b ∷ marks) (suc k) h = low marks k (λ lt. h (omega arith))

-- what holds of each element holds of all
each_true : (p : ℕ → Bool) (xs : List ℕ) → ((j : ℕ) → Contains xs j → IsTrue (p j)) → IsTrue (list_all p xs)
each_true p [] h = refl
each_true p (x ∷ xs) h = and_from (p x) _ (h x (0, omega arith, refl)) (each_true p xs (λ j c. h j (suc c.0, (let lt = c.1 in omega arith), c.2)))

mentions_at : (functions : List Function) (i : ℕ) (f : Function) → slice_get functions i ≡ Some f → slice_get (kernel_mentions functions) i ≡ Some (body_mentions f.body)
mentions_at [] i f e = absurd (cc)
mentions_at (g ∷ gs) zero f e = let same : g ≡ f = cc in ap (λ (h : Function). Some (body_mentions h.body)) same
mentions_at (g ∷ gs) (suc i) f e = mentions_at gs i f e

next : (edges : List (List ℕ)) (at i j : ℕ) → IsReached edges at i → Mentions edges i j → IsReached edges at j
next edges at i j (inl e) m = inr (mentioned j (subst (λ k. Mentions edges k j) e m))
next edges at i j (inr r) m = inr (onward i j r m)

module _ (functions : List Function) (at : ℕ) (marks : List Bool) (are : AreReached (kernel_mentions functions) at marks) where
  abbrev edges : List (List ℕ)
  edges = kernel_mentions functions

  abbrev among : ℕ → Bool
  among k = get_or marks k true

  among_of : (k : ℕ) → IsReached edges at k → IsTrue (among k)
  among_of k r = low marks k (λ lt. (are.marked k (let e = are.size in omega arith)).1 r)

  reached_of : (i : ℕ) (f : Function) → slice_get functions i ≡ Some f → IsTrue (among i) → IsReached edges at i
  reached_of i f e h =
      let lt : i < length edges = (place edges i (body_mentions f.body) [] (mentions_at functions i f e)).0 in
      (are.marked i lt).0 (high marks i (let e = are.size in omega arith) h)

  mentioned_among : (i : ℕ) (f : Function) → slice_get functions i ≡ Some f → IsTrue (among i) → IsTrue (list_all among (body_mentions f.body))
  mentioned_among i f e h =
      each_true among (body_mentions f.body)
      (λ j c. among_of j (next edges at i j (reached_of i f e h) (record { targets = body_mentions f.body; at = mentions_at functions i f e; among = c })))

-- the functions that are reached from one, this one among them: what a body of one of them mentions is one of them
pub record AreFrom (functions : List Function) (at : ℕ) : Type 0 where
  pub among : ℕ → Bool
  pub here : IsTrue (among at)
  pub mentions : (i : ℕ) (f : Function) → slice_get functions i ≡ Some f → IsTrue (among i) → IsTrue (list_all among (body_mentions f.body))
  pub reached : (i : ℕ) (f : Function) → slice_get functions i ≡ Some f → IsTrue (among i) → IsReached (kernel_mentions functions) at i

pub functions_from : (functions : List Function) (at : ℕ) → AreFrom functions at
functions_from functions at =
    let d = marks_are_there (kernel_mentions functions) at in record {
      among = among functions at d.0 d.1;
      here = among_of functions at d.0 d.1 at (inl refl);
      mentions = mentioned_among functions at d.0 d.1;
      reached = reached_of functions at d.0 d.1;
    }
