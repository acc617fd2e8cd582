-- Tokens spell at most one heap file.
use Rattle.std.proofs.Common.{◌≡◌, List, [], Some}
use Rattle.cg_heaptext_def.specs.Grammar.{SpellsTokens}
use Rattle.cg_heaptext_def.specs.Tokens.{Lexeme}
use Rattle.cg_heaptext_def.specs.Trees.{Heap}
use Rattle.cg_heaptext_parser.specs.Machine.{Between, finish}
use Rattle.cg_heaptext_parser.proofs.Complete.{complete}
use Rattle.cg_heaptext_parser.proofs.Steps.{run}

pub one_heap : (ts : List Lexeme) (g h : Heap) → SpellsTokens ts g → SpellsTokens ts h → g ≡ h
one_heap ts g h spelled other =
    let a : finish (run (Between []) ts) ≡ Some g = complete ts g spelled in
    let b : finish (run (Between []) ts) ≡ Some h = complete ts h other in
    cc
