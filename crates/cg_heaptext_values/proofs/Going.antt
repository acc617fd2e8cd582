-- A loop over tokens computes a function of those that stand before it.
use Rattle.std.proofs.Common.{◌≡◌, ℕ, ◌<◌, List, [], ◌∷◌, length, refl, sym, ap, ◌∙◌}
use Rattle.cg_heaptext_def.specs.Tokens.{Lexeme, Token, number, lower, upper, sign}
use Rattle.cg_heaptext_lexer.specs.Next.{Cursor, Gives, token_of}
use Rattle.cg_heaptext_lexer.specs.declared.token.TokenKind.{TokenKind}
use Rattle.cg_heaptext_lexer.specs.declared.token.TokenKind.TheVariants.{Number, Lower, Upper, Sign, Unknown, End}
use Rattle.cg_heaptext_lexer.proofs.Walking.{none_in_space, shorter, unknown_none}
use Rattle.cg_heaptext_entries.specs.Index.{Before}
use Rattle.cg_heaptext_entries.proofs.Standing.{reads, reads_none}

-- what is seen of a token is seen of what was read
pub record Sees {A : Type 0} (c : Token → A) (r : TokenKind → List ℕ → A) : Type 0 where
  pub numbers : (x : List ℕ) → c (number x) ≡ r Number x
  pub lowers : (x : List ℕ) → c (lower x) ≡ r Lower x
  pub uppers : (x : List ℕ) → c (upper x) ≡ r Upper x
  pub signs : (x : List ℕ) → c (sign x) ≡ r Sign x

module _ {A : Type 0} (c : Token → A) (r : TokenKind → List ℕ → A) (s : Sees c r) where
  seen : (k : TokenKind) (x : List ℕ) (old new : Cursor) (t u : Lexeme) (ts : List Lexeme) → Before old (u ∷ ts) → Gives k old t new → c (token_of k x) ≡ r k x
  seen Number x old new t u ts b g = s.numbers x
  seen Lower x old new t u ts b g = s.lowers x
  seen Upper x old new t u ts b g = s.uppers x
  seen Sign x old new t u ts b g = s.signs x
  seen Unknown x old new t u ts b g = absurd (unknown_none old new t.place (u ∷ ts) b.0 g b.1 b.2)
  seen End x old new t u ts b g = absurd (none_in_space old.place old.rest b.2.0 u g.space b.2.1)

  -- of the first token that stands there
  pub sees : (k : TokenKind) (x : List ℕ) (old new : Cursor) (t u : Lexeme) (ts : List Lexeme) → t.token ≡ token_of k x → Before old (u ∷ ts) → Gives k old t new → c u.token ≡ r k x
  sees k x old new t u ts e b g = ap (λ (v : Lexeme). c v.token) (sym (reads k old new t u ts b g).0) ∙ ap c e ∙ seen k x old new t u ts b g

-- Of the tokens that stood before, one function gives what another gives of those that stand now.
abbrev pub Going : {Out : Type 0} → Cursor → Cursor → (List Lexeme → Out) → (List Lexeme → Out) → Type 0
Going first now F G = (ts : List Lexeme) → Before first ts → (us : List Lexeme) × Before now us × (F ts ≡ G us)

pub going : {Out : Type 0} (first : Cursor) (F : List Lexeme → Out) → Going first first F F
going first F ts b = (ts, b, refl)

-- a function that looks at the first token, and at the end as at a token that is seen as this
pub record Looks {A Out : Type 0} (c : Token → A) (r : TokenKind → List ℕ → A) (G : List Lexeme → Out) (G' : A → List Lexeme → Out) : Type 0 where
  pub sees : Sees c r
  pub at_token : (t : Lexeme) (ts : List Lexeme) → G (t ∷ ts) ≡ G' (c t.token) ts
  pub at_end : (x : List ℕ) → G [] ≡ G' (r End x) []

module _ {A Out : Type 0} (c : Token → A) (r : TokenKind → List ℕ → A) (G : List Lexeme → Out) (G' : A → List Lexeme → Out) (l : Looks c r G G') where
  step : (k : TokenKind) (x : List ℕ) (old new : Cursor) (t : Lexeme) (us : List Lexeme) → t.token ≡ token_of k x → Gives k old t new → Before old us → (vs : List Lexeme) × Before new vs × (G us ≡ G' (r k x) vs)
  step k x old new t [] e g b =
      let n = reads_none k old new t b g in
      ([], n.1, l.at_end x ∙ ap (λ y. G' (r y x) []) (sym n.0))
  step k x old new t (u ∷ us) e g b =
      (us, (reads k old new t u us b g).1, l.at_token u us ∙ ap (λ a. G' a us) (sees c r l.sees k x old new t u us e b g))

  -- a token more, which is seen as this
  pub goes_on : (F : List Lexeme → Out) (k : TokenKind) (x : List ℕ) (first old new : Cursor) (t : Lexeme) (a : A) → t.token ≡ token_of k x → Going first old F G → Gives k old t new → a ≡ r k x → Going first new F (G' a)
  goes_on F k x first old new t a e w g same ts b =
      let p = w ts b in let q = step k x old new t p.0 e g p.1 in
      (q.0, q.1, p.2 ∙ q.2 ∙ ap (λ y. G' y q.0) (sym same))

-- ---- what is left

-- whether a token is read where this is seen
pub record Shortens {A : Type 0} (r : TokenKind → List ℕ → A) (a : A) : Type 0 where
  pub unknown : (x : List ℕ) → a ≡ r Unknown x → ⊥
  pub ended : (x : List ℕ) → a ≡ r End x → ⊥

-- behind such a token less is left
pub seen_shorter : {A : Type 0} (r : TokenKind → List ℕ → A) (a : A) → Shortens r a → (k : TokenKind) (x : List ℕ) (old new : Cursor) (t : Lexeme) → a ≡ r k x → Gives k old t new → length new.rest < length old.rest
seen_shorter r a s Number x old new t e g = shorter old new t g
seen_shorter r a s Lower x old new t e g = shorter old new t g
seen_shorter r a s Upper x old new t e g = shorter old new t g
seen_shorter r a s Sign x old new t e g = shorter old new t g
seen_shorter r a s Unknown x old new t e g = absurd (s.unknown x e)
seen_shorter r a s End x old new t e g = absurd (s.ended x e)
