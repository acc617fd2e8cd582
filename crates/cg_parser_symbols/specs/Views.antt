-- What a symbol of the code stands for.
use Rattle.cg_parser_symbols.specs.Symbols as symbols
use Rattle.cg_parser_symbols.specs.declared.symbol.Symbol.{Symbol}
use Rattle.cg_parser_symbols.specs.declared.symbol.Symbol.TheVariants.{Lower, Upper, Number, Wildcard, TypeWord, Let, In, Take, All, And, If, Then, Else, Not, Complement, Upcast, True, False, Opening, Closing, Brace, ClosingBrace, Unboxed, Bracket, ClosingBracket, Less, Greater, Colon, HasKinds, Equals, Arrow, Bang, Bar, Comma, Dot, Dots, Plus, Minus, Star, Slash, Percent, LessEqual, GreaterEqual, Equal, NotEqual, Both, Either, BitAnd, BitOr, BitXor, Other}

abbrev pub symbol_view : Symbol → symbols.Symbol
symbol_view (Lower n) = symbols.lower n.now
symbol_view (Upper n) = symbols.upper n.now
symbol_view (Number v) = symbols.numeral v
symbol_view Wildcard = symbols.wildcard
symbol_view TypeWord = symbols.type_word
symbol_view Let = symbols.let_word
symbol_view In = symbols.in_word
symbol_view Take = symbols.take_word
symbol_view All = symbols.all_word
symbol_view And = symbols.and_word
symbol_view If = symbols.if_word
symbol_view Then = symbols.then_word
symbol_view Else = symbols.else_word
symbol_view Not = symbols.not_word
symbol_view Complement = symbols.complement_word
symbol_view Upcast = symbols.upcast_word
symbol_view True = symbols.true_word
symbol_view False = symbols.false_word
symbol_view Opening = symbols.opening
symbol_view Closing = symbols.closing
symbol_view Brace = symbols.brace
symbol_view ClosingBrace = symbols.closing_brace
symbol_view Unboxed = symbols.unboxed
symbol_view Bracket = symbols.bracket
symbol_view ClosingBracket = symbols.closing_bracket
symbol_view (Less joined) = symbols.less joined
symbol_view (Greater joined) = symbols.greater joined
symbol_view Colon = symbols.colon
symbol_view HasKinds = symbols.has_kinds
symbol_view Equals = symbols.equals
symbol_view Arrow = symbols.arrow
symbol_view Bang = symbols.bang
symbol_view (Bar first) = symbols.bar first
symbol_view Comma = symbols.comma
symbol_view Dot = symbols.dot
symbol_view Dots = symbols.dots
symbol_view Plus = symbols.plus
symbol_view Minus = symbols.minus
symbol_view Star = symbols.star
symbol_view Slash = symbols.slash
symbol_view Percent = symbols.percent
symbol_view LessEqual = symbols.less_equal
symbol_view GreaterEqual = symbols.greater_equal
symbol_view Equal = symbols.equal
symbol_view NotEqual = symbols.not_equal
symbol_view Both = symbols.both
symbol_view Either = symbols.either
symbol_view BitAnd = symbols.bit_and
symbol_view BitOr = symbols.bit_or
symbol_view BitXor = symbols.bit_xor
symbol_view Other = symbols.other
