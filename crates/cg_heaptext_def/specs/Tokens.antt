-- How the bytes of a heap file are divided into white space and tokens, each at its place (docs/LANGUAGE.md, "Heap files").
use Rattle.std.specs.Prelude.{◌≡◌, ℕ, Bool, true, List, [], ◌∷◌, ◌++◌, codes, ⊤}
use Rattle.std.specs.List.{list_any}
use Rattle.std.specs.Str.{bytes_eq}
use Rattle.cg_base.specs.Bytes.{white, digit, Each, Starts, Stops}
use Rattle.cg_base.specs.declared.place.Place.{Place}
use Rattle.cg_base.specs.Places.{first_place, place_after}
use Rattle.cg_lexer.specs.Bytes.{small, large, part_of_name}

-- the signs
abbrev pub signs : List (List ℕ)
signs = codes "@" ∷ codes "=" ∷ codes "," ∷ codes "{" ∷ codes "}" ∷ codes "#{" ∷ codes "[" ∷ codes "]" ∷ codes "<" ∷ codes ">" ∷ codes "(" ∷ codes ")" ∷ []

abbrev pub is_sign : List ℕ → Bool
is_sign text = list_any (bytes_eq text) signs

-- a token, by its bytes: a number, which is digits alone; what begins with a small letter or the line below, words of the language too; what
-- begins with a large letter; and a sign
pub data Token : Type 0 where
  number : List ℕ → Token
  lower : List ℕ → Token
  upper : List ℕ → Token
  sign : List ℕ → Token

abbrev pub token_text : Token → List ℕ
token_text (number x) = x
token_text (lower x) = x
token_text (upper x) = x
token_text (sign x) = x

-- which texts a token of each kind may have
abbrev pub IsToken : Token → Type 0
IsToken (number x) = Starts digit x × Each digit x
IsToken (lower x) = Starts small x × Each part_of_name x
IsToken (upper x) = Starts large x × Each part_of_name x
IsToken (sign x) = is_sign x ≡ true

-- a token is the longest that fits, so what follows doesn't go on with it
abbrev pub Ends : Token → List ℕ → Type 0
Ends (number x) rest = Stops digit rest
Ends (lower x) rest = Stops part_of_name rest
Ends (upper x) rest = Stops part_of_name rest
Ends (sign x) rest = ⊤

-- a token, and the place of its first byte
pub record Lexeme : Type 0 where
  pub token : Token
  pub place : Place

-- only white space and this token stand between a place, from which on the bytes are these, and what is left
pub record Takes (at : Place) (bytes : List ℕ) (t : Lexeme) (rest : List ℕ) : Type 0 where
  pub gap : List ℕ
  pub parts : bytes ≡ gap ++ (token_text t.token ++ rest)
  pub space : Each white gap
  pub stands : t.place ≡ place_after at gap
  pub fits : IsToken t.token
  pub ends : Ends t.token rest

-- the place behind a token
abbrev pub behind : Lexeme → Place
behind t = place_after t.place (token_text t.token)

-- these tokens stand between a place and what is left
abbrev pub Divides : Place → List ℕ → List Lexeme → List ℕ → Type 0
Divides at bytes [] rest = bytes ≡ rest
Divides at bytes (t ∷ ts) rest = (mid : List ℕ) × Takes at bytes t mid × Divides (behind t) mid ts rest

-- a file is these tokens and white space
abbrev pub Lexes : List ℕ → List Lexeme → Type 0
Lexes bytes ts = (last : List ℕ) × Each white last × Divides first_place bytes ts last
