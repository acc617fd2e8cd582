-- Searches that go on, one after the other.
use Rattle.std.proofs.Common.{◌≡◌, ℕ, ◌+◌, ◌<◌, List, [], ◌∷◌, ◌++◌, length, get_or, take, Result, Ok, Err, refl, sym, ap, ◌∙◌, subst, append-nil}
use Rattle.std.specs.Prelude.{⊤, IfOk}
use Rattle.std.proofs.lemmas.List.{take_more}
use Rattle.std.proofs.lemmas.List.Concat.{flat_map-append}
use Rattle.std.specs.List.{flat_map}
use Rattle.cg_base.specs.declared.place.Place.{Place}
use Rattle.cg_resolve_takes.specs.Says.{GoesFrom, GoesOn, TakesSay, told}
use Rattle.cg_resolve_takes.specs.declared.fault.TakeFault.{TakeFault}
use Rattle.cg_resolve_takes.proofs.SaySteps.{says_first, says_second}

-- over no place
pub goes_none : (so_far : Result ⊤ TakeFault) → GoesOn so_far [] so_far
goes_none (Ok done) = refl
goes_none (Err fault) = refl

-- over the places of two parts
pub goes_both : {T : Type 0} (xs ys : List Place) (so_far inside : Result ⊤ TakeFault) (result : Result T TakeFault) → GoesOn so_far xs inside → GoesOn inside ys result → GoesOn so_far (xs ++ ys) result
goes_both xs ys (Err fault) inside result first second = subst (λ r. GoesOn r ys result) first second
goes_both xs ys (Ok done) (Ok more) result first second = says_second xs ys result first second
goes_both xs ys (Ok done) (Err fault) result first second = subst (λ r. TakesSay (xs ++ ys) r) (sym second) (says_first xs ys fault first)

-- over those of one item more
pub goes_more : {X T : Type 0} (f : X → List Place) (items : List X) (i : ℕ) (x : X) → i < length items → x ≡ get_or items i x → (so_far inside : Result ⊤ TakeFault) (result : Result T TakeFault)
    → GoesOn so_far (flat_map f (take i items)) inside → GoesOn inside (f x) result → GoesOn so_far (flat_map f (take (i + 1) items)) result
goes_more f items i x within is so_far inside result first second =
    subst (λ l. GoesOn so_far l result)
    (sym (ap (flat_map f) (take_more items i x within ∙ ap (λ y. take i items ++ y ∷ []) (sym is)) ∙ flat_map-append f (take i items) (x ∷ []) ∙ ap (λ l. flat_map f (take i items) ++ l) (append-nil (f x))))
    (goes_both (flat_map f (take i items)) (f x) so_far inside result first second)

-- what was found is no longer asked for
pub goes_told : {T : Type 0} (places : List Place) (so_far : Result ⊤ TakeFault) (found : Result T TakeFault) → GoesOn so_far places found → GoesOn so_far places (told found)
goes_told places (Ok done) (Ok here) goes = goes
goes_told places (Ok done) (Err fault) goes = goes
goes_told places (Err fault) found goes = ap told goes

pub goes_done : {T : Type 0} (places : List Place) (so_far inside : Result ⊤ TakeFault) (found : Result T TakeFault) → inside ≡ told found → GoesOn so_far places found → GoesOn so_far places inside
goes_done places so_far inside found is goes = subst (GoesOn so_far places) (sym is) (goes_told places so_far found goes)

-- and nothing more is looked at
pub goes_last : {T : Type 0} (places : List Place) (so_far inside : Result ⊤ TakeFault) (result : Result T TakeFault) → GoesOn so_far places inside → GoesOn inside [] result → GoesOn so_far places result
goes_last places so_far inside result first second = subst (λ l. GoesOn so_far l result) (append-nil places) (goes_both places [] so_far inside result first second)

-- over places that are told by what was found
pub goes_from : {A T : Type 0} (xs ys : List Place) (places : A → List Place) (so_far : Result ⊤ TakeFault) (found : Result A TakeFault) (result : Result T TakeFault) → GoesOn so_far xs found → IfOk found (λ a. places a ≡ ys)
    → GoesFrom found places result → GoesOn so_far (xs ++ ys) result
goes_from xs ys places (Err fault) (Ok a) result goes is more = absurd (cc)
goes_from {A} {T} xs ys places (Err fault) (Err old) result goes is more = more ∙ ap again goes
  where
    again : Result A TakeFault → Result T TakeFault
    again (Ok a) = Err old
    again (Err f) = Err f
goes_from xs ys places (Ok done) (Ok a) result goes is more = says_second xs ys result goes (subst (λ l. TakesSay l result) is more)
goes_from xs ys places (Ok done) (Err fault) result goes is more = subst (λ r. TakesSay (xs ++ ys) r) (sym more) (says_first xs ys fault goes)

nothing : {A : Type 0} (ys : List Place) (found : Result A TakeFault) → IfOk found (λ a. ys ≡ ys)
nothing ys (Ok a) = refl
nothing ys (Err fault) = tt

pub goes_end : {A T : Type 0} (xs : List Place) (so_far : Result ⊤ TakeFault) (found : Result A TakeFault) (result : Result T TakeFault) → GoesOn so_far xs found → GoesFrom found (λ a. []) result → GoesOn so_far xs result
goes_end xs so_far found result goes more = subst (λ l. GoesOn so_far l result) (append-nil xs) (goes_from xs [] (λ a. []) so_far found result goes (nothing [] found) more)

pub ruleset go_steps = (goes_none, goes_both, goes_more, goes_done, goes_last, goes_end)
