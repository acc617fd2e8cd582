-- What is judged of things and of others behind them.
use Rattle.std.proofs.Common.{◌≡◌, List, [], ◌∷◌, ◌++◌, Result, Ok, Err, refl}
use Rattle.cg_base.specs.declared.place.Place.{Place}
use Rattle.cg_heaptext_def.specs.Reading.{Event}
use Rattle.cg_heaptext_judge_def.specs.Judging.{State, after, judged, run}

-- first those, and then these
pub run_both : (s : State) (xs ys : List Event) → run s (xs ++ ys) ≡ after (run s xs) (λ s. run s ys)
run_both s [] ys = refl
run_both s (x ∷ xs) ys = both (judged s x) (λ s. run_both s xs ys)
  where
    both : (r : Result State Place) → ((s : State) → run s (xs ++ ys) ≡ after (run s xs) (λ s. run s ys)) → after r (λ s. run s (xs ++ ys)) ≡ after (after r (λ s. run s xs)) (λ s. run s ys)
    both (Ok s) others = others s
    both (Err p) others = refl
