-- Positions of names, behind those of the names before them.
use Rattle.std.proofs.Common.{◌≡◌, ℕ, ◌+◌, ◌<◌, List, [], ◌∷◌, ◌++◌, map, length, get_or, take, sym, ap, ◌∙◌, refl, append-nil, append_assoc, Bor}
use Rattle.std.proofs.lemmas.List.{map_more}
use Rattle.std.specs.BTreeMap.{BTreeMap}
use Rattle.cg_resolve_def.specs.Mentions.{all_of}
use Rattle.cg_resolve_mentions.specs.Positions.{found_in, pushed}

all_of_append : (positions : List ℕ → List ℕ) (names more : List (List ℕ)) → all_of positions (names ++ more) ≡ all_of positions names ++ all_of positions more
all_of_append positions [] more = refl
all_of_append positions (n ∷ names) more =
    ap (λ l. positions n ++ l) (all_of_append positions names more) ∙ sym (append_assoc (positions n) (all_of positions names) (all_of positions more))

pub all_of_same : (positions others : List ℕ → List ℕ) → ((n : List ℕ) → positions n ≡ others n) → (names : List (List ℕ)) → all_of positions names ≡ all_of others names
all_of_same positions others same [] = refl
all_of_same positions others same (n ∷ names) = ap (λ l. l ++ all_of positions names) (same n) ∙ ap (λ l. others n ++ l) (all_of_same positions others same names)

module _ (table : BTreeMap (Bor (List ℕ)) ℕ) where
  pub pushed_none : (targets : List ℕ) → pushed table targets [] ≡ targets
  unfolding pushed
  pushed_none targets = append-nil targets

  pub pushed_more : (targets : List ℕ) (names more : List (List ℕ)) → pushed table (pushed table targets names) more ≡ pushed table targets (names ++ more)
  unfolding pushed
  pushed_more targets names more =
      append_assoc targets (all_of (found_in table) names) (all_of (found_in table) more) ∙ ap (λ l. targets ++ l) (sym (all_of_append (found_in table) names more))

  pub pushed_behind : (targets : List ℕ) (n : List ℕ) (more : List (List ℕ)) → pushed table (pushed table targets (n ∷ [])) more ≡ pushed table targets (n ∷ more)
  pushed_behind targets n more = pushed_more targets (n ∷ []) more

-- Items that make a tree, the last outermost.
module _ {S T X : Type 0} (to : List T → S) (one : S → T → S) (push : (ts : List T) (t : T) → to (ts ++ t ∷ []) ≡ one (to ts) t) (view : X → T)
    (items : List X) (i : ℕ) (x : X) (within : i < length items) (is : x ≡ get_or items i x) where
  pub so_far : to (map view (take (i + 1) items)) ≡ one (to (map view (take i items))) (view x)
  so_far = ap to (map_more view items i x within ∙ ap (λ y. map view (take i items) ++ view y ∷ []) (sym is)) ∙ push (map view (take i items)) (view x)

  -- a turn of a loop over the items, where the mentions of the tree are those of the items before, and then the item's
  pub turn : (F : S → List (List ℕ)) (G : S → T → List (List ℕ)) → ((s : S) (t : T) → F (one s t) ≡ F s ++ G s t) → (table : BTreeMap (Bor (List ℕ)) ℕ) (start targets new : List ℕ)
      → targets ≡ pushed table start (F (to (map view (take i items)))) → new ≡ pushed table targets (G (to (map view (take i items))) (view x)) → new ≡ pushed table start (F (to (map view (take (i + 1) items))))
  turn F G step table start targets new before more =
      more
      ∙ ap (λ l. pushed table l (G (to (map view (take i items))) (view x))) before
      ∙ pushed_more table start (F (to (map view (take i items)))) (G (to (map view (take i items))) (view x))
      ∙ ap (pushed table start) (sym (ap F so_far ∙ step (to (map view (take i items))) (view x)))

pub ruleset pushed_steps = (pushed_none, pushed_more, pushed_behind)
