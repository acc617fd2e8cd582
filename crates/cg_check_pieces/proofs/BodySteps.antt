-- What is kept of functions, one after another.
use Rattle.std.proofs.Common.{◌≡◌, Option, Result, Ok, Err, List, [], ◌∷◌, ◌++◌, map, append-nil, refl, sym, ap}
use Rattle.std.proofs.lemmas.List.{append_assoc, map-append}
use Rattle.cg_core.specs.declared.derivation.Deriv.{Deriv}
use Rattle.cg_core.specs.declared.term.Term.{Term}
use Rattle.cg_core.specs.declared.term.Typed.{Typed}
use Rattle.cg_core.specs.Derivations.{Derivation}
use Rattle.cg_core.specs.Terms.{Tree, Note}
use Rattle.cg_check_pieces.proofs.Steps.{bind}
use Rattle.cg_check_pieces.specs.Bodies.{Both, Lists, as_lists, core_in, tree_in, joined, lists_in, no_lists, one_more}
use Rattle.cg_typing.specs.Kept.{maybe_core, maybe_tree}

-- nothing and one function behind what was kept before
pub nothing_more : (before : Lists) → joined before no_lists ≡ before
nothing_more before = go before.0 before.1 (append-nil before.0) (append-nil before.1)
  where
    go : (cs : List (Option (Tree Note))) (ds : List (Option Derivation)) → cs ++ [] ≡ cs → ds ++ [] ≡ ds → joined (cs, ds) no_lists ≡ (cs, ds)
    go cs ds c d = cc (c, d)

pub ahead : (before : Lists) (both : Option Both) (kept : List (Option Both)) → joined before (lists_in (both ∷ kept)) ≡ joined (one_more before both) (lists_in kept)
ahead before both kept = cc (sym (append_assoc before.0 (core_in both ∷ []) (map core_in kept)), sym (append_assoc before.1 (tree_in both ∷ []) (map tree_in kept)))

-- the answer of a pass behind what it kept before
abbrev pub behind : {E : Type 0} → Lists → Result (List (Option Both)) E → Result Lists E
behind before answer = bind answer (λ kept. Ok (joined before (lists_in kept)))

pub behind_none : {E : Type 0} (answer : Result (List (Option Both)) E) → behind no_lists answer ≡ as_lists answer
behind_none (Ok kept) = refl
behind_none (Err fault) = refl

pub one_ahead : {E : Type 0} (before : Lists) (both : Option Both) (answer : Result (List (Option Both)) E)
    → behind before (bind answer (λ kept. Ok (both ∷ kept))) ≡ behind (one_more before both) answer
one_ahead before both (Ok kept) = ap Ok (ahead before both kept)
one_ahead before both (Err fault) = refl

-- one function more
pub pushed_core : (cs : List (Option (Term Typed))) (c : Option (Term Typed)) → map maybe_core (cs ++ c ∷ []) ≡ map maybe_core cs ++ maybe_core c ∷ []
pushed_core cs c = map-append maybe_core cs (c ∷ [])

pub pushed_tree : (ds : List (Option Deriv)) (d : Option Deriv) → map maybe_tree (ds ++ d ∷ []) ≡ map maybe_tree ds ++ maybe_tree d ∷ []
pushed_tree ds d = map-append maybe_tree ds (d ∷ [])

pub ruleset body_steps = (pushed_core, pushed_tree)
