-- What the reader's own values stand for.
use Rattle.cg_cread_parts.specs.Symbols as symbols
use Rattle.cg_cread_parts.specs.declared.symbol.Symbol.{Symbol}
use Rattle.cg_cread_parts.specs.declared.symbol.Symbol.TheVariants.{Name, Word, Key, Number, Count, Opening, Closing, Begin, End, Comma, Semicolon, Equals, Tilde, Colon, Dot, Arrow, Op, FirstInclude, SecondInclude, Other}

-- a symbol
abbrev pub symbol_view : Symbol → symbols.Symbol
symbol_view (Name x) = symbols.named x.now
symbol_view (Word w) = symbols.typed w
symbol_view (Key k) = symbols.keyed k
symbol_view (Number n) = symbols.number n
symbol_view (Count n) = symbols.count n
symbol_view Opening = symbols.opening
symbol_view Closing = symbols.closing
symbol_view Begin = symbols.begin
symbol_view End = symbols.end
symbol_view Comma = symbols.comma
symbol_view Semicolon = symbols.semicolon
symbol_view Equals = symbols.equals
symbol_view Tilde = symbols.tilde
symbol_view Colon = symbols.colon
symbol_view Dot = symbols.dot
symbol_view Arrow = symbols.arrow
symbol_view (Op o) = symbols.operation o
symbol_view FirstInclude = symbols.first_include
symbol_view SecondInclude = symbols.second_include
symbol_view Other = symbols.other
