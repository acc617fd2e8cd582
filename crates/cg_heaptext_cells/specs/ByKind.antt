-- What is asked of a token, asked of what a lexer read, which may be no token.
use Rattle.std.specs.Prelude.{ℕ, List}
use Rattle.cg_heaptext_def.specs.Tokens.{Token, number, lower, upper, sign}
use Rattle.cg_heaptext_lexer.specs.declared.token.TokenKind.{TokenKind}
use Rattle.cg_heaptext_lexer.specs.declared.token.TokenKind.TheVariants.{Number, Lower, Upper, Sign, Unknown, End}

-- what a function says of the token of this kind with this text; where none was read, something else
abbrev pub read_by : {A : Type 0} → (Token → A) → A → TokenKind → List ℕ → A
read_by f other Number x = f (number x)
read_by f other Lower x = f (lower x)
read_by f other Upper x = f (upper x)
read_by f other Sign x = f (sign x)
read_by f other Unknown x = other
read_by f other End x = other
