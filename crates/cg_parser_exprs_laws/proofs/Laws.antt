-- The reader of expressions is exact, over exact readers of types and patterns.
use Rattle.std.proofs.Common.{refl}
use Rattle.cg_base.specs.Reader.{Reader, Reads}
use Rattle.cg_surface.specs.Written.{Written}
use Rattle.cg_surface.specs.Patterns.{Pattern}
use Rattle.cg_parser_symbols.specs.Symbols.{Seen}
use Rattle.cg_parser_exprs_def.specs.Asked.{Asked}
use Rattle.cg_parser_exprs_def.specs.Grammar.{SpellsExpr}
use Rattle.cg_parser_exprs_def.specs.Plain.{plain_reader}
use Rattle.cg_parser_exprs_laws.proofs.Complete as complete
use Rattle.cg_parser_exprs_laws.proofs.Sound as sound
use Rattle.cg_parser_exprs_laws.proofs.Viable as viable
use Rattle.std.specs.Prelude.{List}

module _ {TS PS : Type 0} (types : Reader TS Seen Written) (patterns : Reader PS Seen Pattern) (OfType : List Seen → Written → Type 0) (OfPattern : List Seen → Pattern → Type 0)
    (asked : Asked TS PS types patterns OfType OfPattern) where
  -- the six laws
  pub laws : Reads (plain_reader types patterns) (SpellsExpr OfType OfPattern)
  laws = record {
    begins = refl;
    shut = viable.shut types patterns OfType OfPattern asked;
    no_tree = viable.no_tree types patterns OfType OfPattern asked;
    complete = complete.complete types patterns OfType OfPattern asked;
    sound = sound.sound types patterns OfType OfPattern asked;
    viable = λ ts o. let c = viable.viable_past types patterns OfType OfPattern asked ts o in (c.0, c.2, c.3);
  }
