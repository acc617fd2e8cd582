-- Dispatch functions, part by part.
use Rattle.std.proofs.Common.{◌≡◌, ℕ, ◌+◌, ◌<◌, ◌≤◌, List, [], ◌∷◌, ◌++◌, get_or, length, map, take, refl, sym, ap, ◌∙◌, arith}
use Rattle.std.proofs.lemmas.List.{map-append, take_all, take_more}
use Rattle.cg_ctree.specs.declared.tree.CCase.{CCase}
use Rattle.cg_ctree.specs.declared.tree.CBody.{CBody}
use Rattle.cg_ctree.specs.declared.tree.CTy.{CTy}
use Rattle.cg_ctree.specs.Trees.{body_of, Case, case, case_of, stmt_of, to_block, to_cases}
use Rattle.cg_ctree.specs.declared.tree.CStmt.{the_lemmas}
use Rattle.cg_cgen_def.specs.Dispatches.{dispatch_body, dispatch_cases, dispatched}

-- the case of a place
abbrev pub case_at : ℕ → Case
case_at k = record { tag = k; body = dispatched k }

pub cases_are : (ks : List ℕ) → to_cases (map case_at ks) ≡ dispatch_cases ks
unfolding to_cases
cases_are [] = refl
cases_are (k ∷ ks) = ap (case k (dispatched k)) (cases_are ks)

-- one case more
pub cases_more : (ks : List ℕ) (i : ℕ) (cs : List CCase) (c : CCase) → i < length ks → map case_of cs ≡ map case_at (take i ks) → case_of c ≡ case_at (get_or ks i 0)
    → map case_of (cs ++ c ∷ []) ≡ map case_at (take (i + 1) ks)
cases_more ks i cs c within so_far one =
    map-append case_of cs (c ∷ []) ∙ ap (λ z. z ++ case_of c ∷ []) so_far ∙ ap (λ z. map case_at (take i ks) ++ z ∷ []) one
    ∙ sym (ap (map case_at) (take_more ks i 0 within) ∙ map-append case_at (take i ks) (get_or ks i 0 ∷ []))

pub all_cases : (ks : List ℕ) (i : ℕ) (cs : List CCase) → length ks ≤ i → map case_of cs ≡ map case_at (take i ks) → to_cases (map case_of cs) ≡ dispatch_cases ks
all_cases ks i cs past so_far = ap to_cases (so_far ∙ ap (map case_at) (take_all i ks past)) ∙ cases_are ks

-- where there are no places, there is nothing
pub no_cases : (t : CTy) (ks : List ℕ) (b : CBody) → length ks ≡ 0 → b.locals ≡ [] → b.stmts ≡ [] → body_of b ≡ dispatch_body t ks
unfolding to_block
no_cases t [] b none l s = ap (λ ds. record { locals = ds; block = to_block (map stmt_of b.stmts) }) l ∙ ap (λ ss. record { locals = []; block = to_block (map stmt_of ss) }) s
no_cases t (k ∷ ks) b none l s = absurd (omega (arith, none))

pub ruleset dispatch_steps = (the_lemmas)
