-- Mark strings in their list.
use Rattle.std.proofs.Common.{◌≡◌, ◌<◌, ◌≤◌, ◌-◌, suc, List, [], ◌∷◌, length, take, drop, get_or, refl, sym, ap, ◌∙◌, arith}
use Rattle.std.proofs.lemmas.List.{take_all}
use Rattle.cg_core.specs.declared.derivation.Mark.{Mark}
use Rattle.cg_typing.specs.Trees.{first_marks, later_marks}

pub next_in : (ss : List (List Mark)) (s : List Mark) → 1 ≤ length ss → s ≡ get_or ss 0 s → first_marks ss ≡ s
next_in [] s h e = absurd (omega arith)
next_in (t ∷ ss) s h e = sym e

pub none_next : (ss : List (List Mark)) → length ss < 1 → first_marks ss ≡ []
none_next [] h = refl
none_next (s ∷ ss) h = absurd (omega arith)

pub later_in : (ss : List (List Mark)) → 1 ≤ length ss → later_marks ss ≡ take (length ss - 1) (drop 1 ss)
later_in [] h = absurd (omega arith)
later_in (s ∷ ss) h =
    let less : suc (length ss) - 1 ≡ length ss = omega arith in
    sym (ap (λ n. take n ss) less ∙ take_all (length ss) ss (omega arith))

pub none_later : (ss : List (List Mark)) → length ss < 1 → later_marks ss ≡ ss
none_later [] h = refl
none_later (s ∷ ss) h = absurd (omega arith)

pub ruleset mark_steps = (next_in, none_next, later_in, none_later)
