-- What the reader's own values stand for.
use Rattle.cg_heaptext_parser.specs.Outline.{Outline}
use Rattle.cg_heaptext_parser.specs.Symbols as pure
use Rattle.cg_heaptext_parser.specs.declared.reading.Reading.{Reading}
use Rattle.cg_heaptext_parser.specs.declared.symbol.Symbol.{Symbol}
use Rattle.cg_heaptext_parser.specs.declared.symbol.Symbol.TheVariants.{Digits, Named, Wild, Truth, Constructor, At, Equals, Comma, OpenRecord, OpenBrace, CloseBrace, OpenBracket, CloseBracket, OpenAngle, CloseAngle, OpenParen, CloseParen, Foreign}

abbrev pub symbol_view : Symbol → pure.Symbol
symbol_view (Digits ds) = pure.Digits ds.now
symbol_view (Named x) = pure.Named x.now
symbol_view Wild = pure.Wild
symbol_view (Truth t) = pure.Truth t
symbol_view (Constructor x) = pure.Constructor x.now
symbol_view At = pure.At
symbol_view Equals = pure.Equals
symbol_view Comma = pure.Comma
symbol_view OpenRecord = pure.OpenRecord
symbol_view OpenBrace = pure.OpenBrace
symbol_view CloseBrace = pure.CloseBrace
symbol_view OpenBracket = pure.OpenBracket
symbol_view CloseBracket = pure.CloseBracket
symbol_view OpenAngle = pure.OpenAngle
symbol_view CloseAngle = pure.CloseAngle
symbol_view OpenParen = pure.OpenParen
symbol_view CloseParen = pure.CloseParen
symbol_view Foreign = pure.Foreign

-- where a file is read
abbrev pub outline_of : Reading → Outline
outline_of r = record { phase = r.phase; in_cell = r.in_cell; opened = r.opened }
