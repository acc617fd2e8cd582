-- What the statements of divisions and shifts stand for.
use Rattle.std.proofs.Common.{◌≡◌, map, List, [], ◌∷◌, ◌++◌, ap, ◌∙◌}
use Rattle.std.proofs.lemmas.List.{map-append}
use Rattle.cg_base.specs.declared.kind.Word.{Word}
use Rattle.cg_base.specs.Words.{bits}
use Rattle.cg_ctree.specs.declared.tree.COp.{COp}
use Rattle.cg_ctree.specs.declared.tree.COp.TheVariants as op
use Rattle.cg_ctree.specs.declared.tree.COpnd.{COpnd}
use Rattle.cg_ctree.specs.declared.tree.COpnd.TheVariants.{Number, Path}
use Rattle.cg_ctree.specs.declared.tree.CPath.{CPath}
use Rattle.cg_ctree.specs.declared.tree.CRhs.TheVariants.{Opnd}
use Rattle.cg_ctree.specs.declared.tree.CStmt as statement
use Rattle.cg_ctree.specs.declared.tree.CStmt.{CStmt}
use Rattle.cg_ctree.specs.declared.tree.CStmt.TheVariants.{If}
use Rattle.cg_ctree.specs.Trees.{Stmt, stop, assign, branch, to_block, stmt_of, block_of}
use Rattle.cg_cgen_def.specs.Code.{computed_by, only, divided_by, shifted_by}

block_of_one : (ss : List CStmt) (s : Stmt) → map stmt_of ss ≡ s ∷ [] → block_of ss ≡ only s
unfolding to_block
block_of_one ss s e = ap to_block e

block_of_none : (ss : List CStmt) → ss ≡ [] → block_of ss ≡ stop
unfolding to_block
block_of_none ss e = ap block_of e

choice_is : (o : COpnd) (taken other : List CStmt) → stmt_of (If o taken other) ≡ branch o (block_of taken) (block_of other)
choice_is o taken other = search statement.the_lemmas

pub divided_is : (o : COp) (word : Word) (to : CPath) (left right divisor : COpnd) (taken other : List CStmt) → divisor ≡ right
    → map stmt_of taken ≡ computed_by o word word to left right ∷ [] → map stmt_of other ≡ assign to (Opnd (Number 0)) ∷ []
    → branch divisor (block_of taken) (block_of other) ∷ [] ≡ divided_by o word to left right
divided_is o word to left right divisor taken other e f g =
    ap (λ z. branch z (block_of taken) (block_of other) ∷ []) e
    ∙ ap (λ z. branch right z (block_of other) ∷ []) (block_of_one taken _ f)
    ∙ ap (λ z. branch right (only (computed_by o word word to left right)) z ∷ []) (block_of_one other _ g)

pub shifted_is : (o : COp) (word : Word) (to test : CPath) (left right : COpnd) (first taken other made : List CStmt) → test ≡ to
    → map stmt_of first ≡ computed_by op.Lt word word to right (Number (bits word)) ∷ [] → map stmt_of taken ≡ computed_by o word word to left right ∷ [] → other ≡ []
    → made ≡ first ++ If (Path test) taken other ∷ [] → map stmt_of made ≡ shifted_by o word to left right
shifted_is o word to test left right first taken other made e f g h i =
    ap (map stmt_of) i
    ∙ map-append stmt_of first (If (Path test) taken other ∷ [])
    ∙ ap (λ z. z ++ stmt_of (If (Path test) taken other) ∷ []) f
    ∙ ap (λ z. computed_by op.Lt word word to right (Number (bits word)) ∷ z ∷ []) chosen
  where
    chosen : stmt_of (If (Path test) taken other) ≡ branch (Path to) (only (computed_by o word word to left right)) stop
    chosen =
        choice_is (Path test) taken other
        ∙ ap (λ z. branch (Path z) (block_of taken) (block_of other)) e
        ∙ ap (λ z. branch (Path to) z (block_of other)) (block_of_one taken _ g)
        ∙ ap (λ z. branch (Path to) (only (computed_by o word word to left right)) z) (block_of_none other h)

pub ruleset code_steps = (statement.the_lemmas)
