-- The mentions among tokens: each sign `@` has a number behind it (docs/LANGUAGE.md, "Heap files", the grammar).
use Rattle.std.specs.Prelude.{ℕ, zero, suc, List, [], ◌∷◌, ◌++◌, codes, Option, Some, None, if◌then◌else◌}
use Rattle.std.specs.Str.{bytes_eq}
use Rattle.cg_base.specs.declared.place.Place.{Place}
use Rattle.cg_heaptext_def.specs.HeapText.{Mention}
use Rattle.cg_heaptext_def.specs.Tokens.{Lexeme, Token, number, lower, upper, sign}
use Rattle.cg_heaptext_def.specs.Trees.{Numeral}
use Rattle.cg_heaptext_entries.specs.Skip.{is_closing}
use Rattle.cg_heaptext_lexer.specs.declared.token.TokenKind.{TokenKind}
use Rattle.cg_heaptext_lexer.specs.declared.token.TokenKind.TheVariants.{Number, Lower, Upper, Sign, Unknown, End}
use Rattle.cg_heaptext_mentions.specs.declared.step.Step.{Step}
use Rattle.cg_heaptext_mentions.specs.declared.step.Step.TheVariants.{At, Opens, Closes, Stays, Over}

-- what a token does
abbrev pub sign_step : List ℕ → Step
sign_step x = if bytes_eq x (codes "@") then At else if bytes_eq x (codes "#{") then Opens else if is_closing x then Closes else Stays

abbrev pub step : Token → Step
step (number x) = Stays
step (lower x) = Stays
step (upper x) = Stays
step (sign x) = sign_step x

-- the same of what was read, which may be no token
abbrev pub read_step : TokenKind → List ℕ → Step
read_step Number x = Stays
read_step Lower x = Stays
read_step Upper x = Stays
read_step Sign x = sign_step x
read_step Unknown x = Over
read_step End x = Over

-- how many unboxed records are open then; None behind a cell, and where no token stands
abbrev pub next_depth : Step → ℕ → Option ℕ
next_depth At depth = Some depth
next_depth Opens depth = Some (suc depth)
next_depth Closes zero = None
next_depth Closes (suc depth) = Some depth
next_depth Stays depth = Some depth
next_depth Over depth = None

-- the number that stands next
abbrev pub as_number : Place → Token → Option Numeral
as_number p (number x) = Some (record { place = p; digits = x })
as_number p (lower x) = None
as_number p (upper x) = None
as_number p (sign x) = None

abbrev pub number_next : List Lexeme → Option Numeral
number_next [] = None
number_next (t ∷ ts) = as_number t.place t.token

abbrev pub mentioned : Place → Option Numeral → List Mention
mentioned p None = []
mentioned p (Some n) = record { place = p; address = n } ∷ []

-- the mention that begins with a token, before these
abbrev pub begun : Step → Place → List Lexeme → List Mention
begun At p ts = mentioned p (number_next ts)
begun Opens p ts = []
begun Closes p ts = []
begun Stays p ts = []
begun Over p ts = []

-- the mentions up to the end of a cell, of which so many unboxed records are open, or up to the end of the file
abbrev pub met : Option ℕ → List Lexeme → List Mention
met None ts = []
met (Some depth) [] = []
met (Some depth) (t ∷ ts) = begun (step t.token) t.place ts ++ met (next_depth (step t.token) depth) ts
