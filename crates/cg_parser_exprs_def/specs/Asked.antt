-- What is asked of the readers of types and patterns by those of expressions.
use Rattle.std.specs.Prelude.{◌≡◌, List, true, false, Some, None}
use Rattle.cg_base.specs.declared.place.Place.{Place}
use Rattle.cg_base.specs.Reader.{Reader, Reads, run}
use Rattle.cg_surface.specs.Written.{Written}
use Rattle.cg_surface.specs.Patterns.{Pattern}
use Rattle.cg_parser_symbols.specs.Symbols.{comma, closing, closing_bracket, equals, arrow, Seen}
use Rattle.cg_parser_symbols.specs.Readings.{ArePast}

-- what is open can be completed by tokens past column 1
abbrev pub Ends : {State Tree : Type 0} → Reader State Seen Tree → Type 0
Ends {State} {Tree} R = (ts : List Seen) → R.is_open (run R R.begin ts) ≡ true → (rest : List Seen) × ArePast rest × (tree : Tree) × (R.finish (run R (run R R.begin ts) rest) ≡ Some tree)

-- they are exact, complete what is open by tokens past column 1, need a token at least, and take no token that stands behind
-- them in an expression
pub record Asked (TS PS : Type 0) (types : Reader TS Seen Written) (patterns : Reader PS Seen Pattern) (OfType : List Seen → Written → Type 0) (OfPattern : List Seen → Pattern → Type 0) : Type 0 where
  pub type_laws : Reads types OfType
  pub pattern_laws : Reads patterns OfPattern
  pub type_ends : Ends types
  pub pattern_ends : Ends patterns
  pub no_type : types.finish types.begin ≡ None
  pub no_pattern : patterns.finish patterns.begin ≡ None
  pub no_comma : (s : TS) (t : Written) (p : Place) → types.finish s ≡ Some t → types.is_open (types.step s (record { symbol = comma; place = p })) ≡ false
  pub no_closing : (s : TS) (t : Written) (p : Place) → types.finish s ≡ Some t → types.is_open (types.step s (record { symbol = closing; place = p })) ≡ false
  pub no_bracket : (s : TS) (t : Written) (p : Place) → types.finish s ≡ Some t → types.is_open (types.step s (record { symbol = closing_bracket; place = p })) ≡ false
  pub no_equals : (s : PS) (x : Pattern) (p : Place) → patterns.finish s ≡ Some x → patterns.is_open (patterns.step s (record { symbol = equals; place = p })) ≡ false
  pub no_arrow : (s : PS) (x : Pattern) (p : Place) → patterns.finish s ≡ Some x → patterns.is_open (patterns.step s (record { symbol = arrow; place = p })) ≡ false
  pub arrow_first : (p : Place) → patterns.is_open (patterns.step patterns.begin (record { symbol = arrow; place = p })) ≡ false
