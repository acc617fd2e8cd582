-- The machine is an exact reader of heap files.
use Rattle.std.proofs.Common.{◌≡◌, [], refl, false, None}
use Rattle.cg_base.specs.Reader.{Reads}
use Rattle.cg_heaptext_def.specs.Grammar.{SpellsTokens}
use Rattle.cg_heaptext_def.specs.Tokens.{Lexeme}
use Rattle.cg_heaptext_parser.specs.Machine.{State, Between, Failed, step, is_open, finish, reader}
use Rattle.cg_heaptext_parser.proofs.Complete.{complete}
use Rattle.cg_heaptext_parser.proofs.Sound.{sound}
use Rattle.cg_heaptext_parser.proofs.Steps.{run}
use Rattle.cg_heaptext_parser.proofs.Viable.{completable}

-- a failure stays one, and no heap file ends there
shut : (s : State) (t : Lexeme) → is_open s ≡ false → is_open (step s t) ≡ false
shut Failed t h = refl
shut _ t h = cc

no_tree : (s : State) → is_open s ≡ false → finish s ≡ None
no_tree Failed h = refl
no_tree _ h = cc

-- the six laws
pub heap_reads : Reads reader SpellsTokens
heap_reads = record { begins = refl; shut = shut; no_tree = no_tree; complete = complete; sound = sound; viable = λ ts o. completable (run (Between []) ts) o }
