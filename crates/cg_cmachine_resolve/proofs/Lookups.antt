-- What `get` finds in lists.
use Rattle.std.proofs.Common.{◌≡◌, ℕ, refl, Some, None, Option, List, slice_get, option_map, sym, ap, ◌∙◌, Bor}
use Rattle.std.proofs.lemmas.Option.{slice_get-get_or, slice_get_past}
use Rattle.std.specs.Slice.{IsItemAt}

pub item_none : {X : Type 0} (xs : List X) (i : ℕ) (r : Option (Bor X)) → IsItemAt xs i r → r ≡ None → slice_get xs i ≡ None
item_none xs i None h e = slice_get_past xs i h.3
item_none xs i (Some x) h e = absurd (cc)

pub item_some : {X : Type 0} (xs : List X) (i : ℕ) (r : Option (Bor X)) (x : Bor X) → IsItemAt xs i r → r ≡ Some x → slice_get xs i ≡ Some x.now
item_some xs i None x h e = absurd (cc)
item_some xs i (Some y) x h e = let is : y ≡ x = cc in slice_get-get_or xs i y.now h.3.0 ∙ ap Some (sym h.1) ∙ ap (λ y. Some y.now) is

pub item_is : {X : Type 0} (xs : List X) (i : ℕ) (r : Option (Bor X)) → IsItemAt xs i r → option_map (λ x. x.now) r ≡ slice_get xs i
item_is xs i None h = sym (item_none xs i None h refl)
item_is xs i (Some x) h = sym (item_some xs i (Some x) x h refl)
