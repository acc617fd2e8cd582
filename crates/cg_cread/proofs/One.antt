-- A C text spells at most one program.
use Rattle.std.proofs.Common.{◌≡◌, ℕ, List, Some, sym, subst}
use Rattle.cg_ctree.proofs.Division.{one_division}
use Rattle.cg_ctree.specs.Spells.{SpellsTokens, CSpells}
use Rattle.cg_ctree.specs.Tokens.{Lexeme}
use Rattle.cg_ctree.specs.Trees.{Program}
use Rattle.cg_cread.specs.Machine.{Start, finish}
use Rattle.cg_cread.proofs.Complete.{complete}
use Rattle.cg_cread.proofs.Steps.{run}

-- tokens spell at most one program
one_tree : (ts : List Lexeme) (p q : Program) → SpellsTokens ts p → SpellsTokens ts q → p ≡ q
one_tree ts p q sp sq =
    let a : finish (run Start ts) ≡ Some p = complete ts p sp in
    let b : finish (run Start ts) ≡ Some q = complete ts q sq in
    cc

pub one_program : (bytes : List ℕ) (p q : Program) → CSpells bytes p → CSpells bytes q → p ≡ q
one_program bytes p q sp sq =
    one_tree sp.0 p q sp.2 (let P : List Lexeme → Type 0 = λ ts. SpellsTokens ts q in subst P (sym (one_division bytes sp.0 sq.0 sp.1 sq.1)) sq.2)
