-- Items that are moved from one list behind another, one by one.
use Rattle.std.proofs.Common.{◌≡◌, ℕ, ◌+◌, ◌<◌, List, [], ◌∷◌, ◌++◌, length, get_or, set, take, drop, sym, ap, ◌∙◌, arith}
use Rattle.std.proofs.lemmas.List.{append_assoc, get_or-drop, drop-drop, drop-set-lt, take_more}

pub add_none : (i : ℕ) → i ≡ i + 0
add_none i = omega arith

module _ {A : Type 0} (items all : List A) (i : ℕ) (rest : drop i items ≡ drop i all) where
  pub item_is : (x : A) → get_or items i x ≡ get_or all i x
  item_is x =
      ap (λ k. get_or items k x) (add_none i) ∙ sym (get_or-drop i items 0 x) ∙ ap (λ xs. get_or xs 0 x) rest ∙ get_or-drop i all 0 x
      ∙ ap (λ k. get_or all k x) (sym (add_none i))

  pub rest_more : (y : A) → drop (i + 1) (set items i y) ≡ drop (i + 1) all
  rest_more y = drop-set-lt (i + 1) items i y (omega arith) ∙ sym (drop-drop 1 i items) ∙ ap (drop 1) rest ∙ drop-drop 1 i all

-- one item more: the item x is moved, and y is left where it was
pub moved_more : {A : Type 0} (old now last items all : List A) (i : ℕ) (x y : A) → i < length all → now ≡ old ++ take i all → drop i items ≡ drop i all → x ≡ get_or items i x
    → last ≡ now ++ x ∷ [] → (last ≡ old ++ take (i + 1) all) × (drop (i + 1) (set items i y) ≡ drop (i + 1) all)
moved_more old now last items all i x y h n r e f = (
  f ∙ ap (λ z. z ++ x ∷ []) n ∙ append_assoc old (take i all) (x ∷ []) ∙ ap (λ z. old ++ z) (ap (λ z. take i all ++ z ∷ []) (e ∙ item_is items all i r x) ∙ sym (take_more all i x h)),
  rest_more items all i r y,
)
