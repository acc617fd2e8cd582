-- What statements that are written stand for.
use Rattle.std.proofs.Common.{◌≡◌, List, [], ◌∷◌, map, ap, ◌∙◌}
use Rattle.std.proofs.lemmas.List.{map-append}
use Rattle.cg_ctree.specs.declared.tree.COpnd.{COpnd}
use Rattle.cg_ctree.specs.declared.tree.CStmt as statement
use Rattle.cg_ctree.specs.declared.tree.CStmt.{CStmt}
use Rattle.cg_ctree.specs.declared.tree.CStmt.TheVariants.{If}
use Rattle.cg_ctree.specs.Trees.{Stmt, branch, stmt_of, stop, to_block}

no_block : (ss : List CStmt) → ss ≡ [] → to_block (map stmt_of ss) ≡ stop
unfolding to_block
no_block ss e = ap (λ z. to_block (map stmt_of z)) e

choice_is : (o : COpnd) (taken other : List CStmt) → stmt_of (If o taken other) ≡ branch o (to_block (map stmt_of taken)) (to_block (map stmt_of other))
choice_is o taken other = search statement.the_lemmas

-- a choice with nothing in its second branch
pub where_is : (o : COpnd) (taken other : List CStmt) (s : Stmt) → map stmt_of taken ≡ s ∷ [] → other ≡ [] → stmt_of (If o taken other) ≡ branch o (to_block (s ∷ [])) stop
where_is o taken other s e f = choice_is o taken other ∙ ap (λ z. branch o (to_block z) (to_block (map stmt_of other))) e ∙ ap (branch o (to_block (s ∷ []))) (no_block other f)

pub ruleset written_steps = (statement.the_lemmas, map-append, where_is)
