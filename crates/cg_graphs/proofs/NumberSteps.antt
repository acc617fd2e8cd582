-- Numbers that never rise along a mention, and fall along each of the first nodes, leave those on no circle.
use Rattle.std.proofs.Common.{ℕ, ◌<◌, List, [], length, get_or, arith}
use Rattle.std.proofs.lemmas.List.Elements.{All-contains}
use Rattle.cg_graphs.specs.Circles.{Reaches, mentioned, onward}
use Rattle.cg_graphs.specs.Numbers.{IsAtMost, IsBelow, StayOrFall, Fall}
use Rattle.cg_graphs.proofs.Places.{place, is_mention}

module _ (edges : List (List ℕ)) (numbers : List ℕ) (stay : StayOrFall edges numbers (length edges)) (n : ℕ) (fall : Fall edges numbers n) where
  below : (i j : ℕ) → i < n → Reaches edges i j → get_or numbers j 0 < get_or numbers i 0
  below i _ lt (mentioned j m) = All-contains (IsBelow numbers (get_or numbers i 0)) (get_or edges i []) j (fall i [] lt) (is_mention edges i j m)
  below i _ lt (onward j k r m) =
      let one = below i j lt r in
      let inside = (place edges j m.targets [] m.at).0 in
      let two = All-contains (IsAtMost numbers (get_or numbers j 0)) (get_or edges j []) k (stay j [] inside) (is_mention edges j k m) in
      omega arith

  pub none_before : (i : ℕ) → i < n → Reaches edges i i → ⊥
  none_before i lt r = let h = below i i lt r in absurd (omega arith)
