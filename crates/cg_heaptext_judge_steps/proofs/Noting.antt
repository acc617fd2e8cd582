-- What is noted of one value or one cell.
use Rattle.std.proofs.Common.{◌≡◌, ℕ, List, [], ◌∷◌, map, Result, Ok, Err, refl, sym, ap, ◌∙◌, subst}
use Rattle.cg_heaptext_def.specs.Reading.{Event, misfit, counted}
use Rattle.cg_heaptext_def.specs.Trees.{Numeral}
use Rattle.cg_heaptext_judge_def.specs.Judging.{State, counting, run}
use Rattle.cg_heaptext_judge_notes.specs.Notes.{AreMet, Notes, Tells}
use Rattle.cg_heaptext_judge_notes.specs.declared.fault.JudgeFault.{JudgeFault}
use Rattle.cg_heaptext_judge_notes.specs.declared.fault.JudgeFault.TheVariants.{Misfit}
use Rattle.cg_heaptext_judge_notes.specs.declared.notes.Judged.{Judged}
use Rattle.cg_heaptext_judge_steps.specs.Steps.{Fits, counted_all}

-- where nothing is noted
pub fits_notes : (ns : List ℕ) (old : Judged) (es : List Event) (r : Result (Unit {0}) JudgeFault) → Fits es r → Notes ns old es r old
fits_notes ns old [] (Ok u) f s noted = noted
fits_notes ns old (misfit p ∷ es) (Err (Misfit q)) f s noted = f
fits_notes ns old es r f s noted = absurd f

-- where numbers are
counted_run : (s : State) (xs : List Numeral) (bound : ℕ) → run s (map (λ n. counted n bound) xs) ≡ Ok (record { cells = s.cells; over = counted_all s.over xs bound; aliased = s.aliased })
counted_run s [] bound = refl
counted_run s (n ∷ xs) bound = counted_run (record { cells = s.cells; over = counting s.over n bound; aliased = s.aliased }) xs bound

pub counts_noted : (ns : List ℕ) (old new : Judged) (xs : List Numeral) (bound : ℕ) → new.mentions ≡ old.mentions → new.aliased ≡ old.aliased → new.over ≡ counted_all old.over xs bound
    → Notes ns old (map (λ n. counted n bound) xs) (Ok tt) new
counts_noted ns old new xs bound mentions aliased over s noted = subst (λ x. Tells ns x (Ok tt) new) (sym (counted_run s xs bound)) (record {
  cells = subst (λ ms. AreMet ns ms s.cells) (sym mentions) noted.cells;
  over = over ∙ ap (λ o. counted_all o xs bound) noted.over;
  aliased = aliased ∙ noted.aliased;
})
