-- Bytes spell at most one program.
use Rattle.std.proofs.Common.{◌≡◌, ℕ, List, map, Some, sym, subst}
use Rattle.cg_base.specs.Reader.{run}
use Rattle.cg_lexer.specs.Tokens.{Lexeme}
use Rattle.cg_lexer.proofs.Division.{one_division}
use Rattle.cg_surface.specs.Programs.{Entry}
use Rattle.cg_parser_symbols.specs.Symbols.{seen}
use Rattle.cg_parser_def.specs.Grammar.{SpellsTokens, Spells}
use Rattle.cg_parser.proofs.Whole.{plain, laws}

-- tokens spell at most one program
one_tree : (ts : List Lexeme) (p q : List Entry) → SpellsTokens (map seen ts) p → SpellsTokens (map seen ts) q → p ≡ q
one_tree ts p q sp sq =
    let a : plain.finish (run plain plain.begin (map seen ts)) ≡ Some p = laws.complete (map seen ts) p sp in
    let b : plain.finish (run plain plain.begin (map seen ts)) ≡ Some q = laws.complete (map seen ts) q sq in
    cc

pub one_program : (bytes : List ℕ) (p q : List Entry) → Spells bytes p → Spells bytes q → p ≡ q
one_program bytes p q sp sq =
    one_tree sp.0 p q sp.2 (subst (λ ts. SpellsTokens (map seen ts) q) (sym (one_division bytes sp.0 sq.0 sp.1 sq.1)) sq.2)
