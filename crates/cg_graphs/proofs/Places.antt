-- The list at a place, and the mentions in it.
use Rattle.std.proofs.Common.{◌≡◌, ℕ, ◌<◌, zero, suc, List, [], ◌∷◌, length, get_or, Some, sym, subst, refl, arith}
use Rattle.std.specs.List.{All, Contains, slice_get}
use Rattle.std.proofs.lemmas.List.Elements.{All-contains, All-get_or}
use Rattle.std.proofs.lemmas.Option.{get_or_from_slice_get, slice_get_within}
use Rattle.cg_graphs.specs.Circles.{Mentions, Reaches, mentioned, onward, Closed}

pub place : (edges : List (List ℕ)) (i : ℕ) (targets d : List ℕ) → slice_get edges i ≡ Some targets → (i < length edges) × (get_or edges i d ≡ targets)
place edges i targets d at = (slice_get_within edges i targets at, get_or_from_slice_get edges i targets d at)

-- a mention is one of the list at its place
pub is_mention : (edges : List (List ℕ)) (v k : ℕ) → Mentions edges v k → Contains (get_or edges v []) k
is_mention edges v k m = subst (λ l. Contains l k) (sym (place edges v m.targets [] m.at).1) m.among

pub mention_of : (edges : List (List ℕ)) (v k : ℕ) → Contains (get_or edges v []) k → Mentions edges v k
mention_of [] v k h = let lt = h.1 in absurd (omega arith)
mention_of (e ∷ edges) zero k h = record { targets = e; at = refl; among = h }
mention_of (e ∷ edges) (suc v) k h = let m = mention_of edges v k h in record { targets = m.targets; at = m.at; among = m.among }

-- what reaches a node is one
pub reaches_in : (edges : List (List ℕ)) (from k : ℕ) → Reaches edges from k → from < length edges
reaches_in edges from _ (mentioned k m) = (place edges from m.targets [] m.at).0
reaches_in edges from _ (onward j k r m) = reaches_in edges from j r

-- what is mentioned is a node
pub mentioned_within : (edges : List (List ℕ)) → Closed edges → (i j : ℕ) → Mentions edges i j → j < length edges
mentioned_within edges closed i j m =
    let at = place edges i m.targets [] m.at in
    All-contains (λ n. n < length edges) (get_or edges i []) j (All-get_or (All (λ n. n < length edges)) edges i [] at.0 closed) (is_mention edges i j m)
