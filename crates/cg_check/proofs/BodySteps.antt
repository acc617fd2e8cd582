-- What is kept of functions, one after another.
use Rattle.std.proofs.Common.{◌≡◌, ◌<◌, ◌≤◌, ◌+◌, ℕ, Option, Ok, List, ◌∷◌, length, map, drop, get_or, ap, ◌∙◌}
use Rattle.std.proofs.lemmas.List.{at_drop_more, at_drop_all}
use Rattle.cg_check_pieces.proofs.BodySteps.{behind, behind_none, nothing_more, one_ahead}
use Rattle.cg_check_pieces.specs.Bodies.{Both, Lists, one_more}
use Rattle.cg_check_def.specs.Pass.{Out, bind, check_all, check_function}
use Rattle.cg_core.specs.declared.kernel.KFun.{KFun}
use Rattle.cg_core.specs.Kernels.{Function, function_of}

module _ (functions : List Function) (funs : List KFun) where
  abbrev Rest : ℕ → Out (List (Option Both))
  Rest i = check_all functions (map function_of (drop i funs))

  rest : (i : ℕ) (d : KFun) → i < length funs
      → Rest i ≡ bind (check_function functions (function_of (get_or funs i d))) (λ u. bind (Rest (i + 1)) (λ us. Ok (u ∷ us)))
  rest i d h = at_drop_more (λ l. check_all functions (map function_of l)) funs i d h

  pub next_kept : (i : ℕ) (d : KFun) (before : Lists) (both : Option Both) → i < length funs → check_function functions (function_of (get_or funs i d)) ≡ Ok both
      → behind before (check_all functions (map function_of (drop i funs))) ≡ behind (one_more before both) (check_all functions (map function_of (drop (i + 1) funs)))
  next_kept i d before both h e =
      ap (behind before) (rest i d h ∙ ap (λ o. bind o (λ u. bind (Rest (i + 1)) (λ us. Ok (u ∷ us)))) e) ∙ one_ahead before both (Rest (i + 1))

  pub none_left : (i : ℕ) (before : Lists) → length funs ≤ i → behind before (check_all functions (map function_of (drop i funs))) ≡ Ok before
  none_left i before h =
      ap (behind before) (at_drop_all (λ l. check_all functions (map function_of l)) funs i h) ∙ ap Ok (nothing_more before)

pub ruleset body_steps = (behind_none, next_kept, none_left)
