-- The machine, token by token, on what the tokens spell; and states from which the same tokens lead to the same heap file.
use Rattle.std.proofs.Common.{◌≡◌, ℕ, List, [], ◌∷◌, refl, ap, ◌∙◌, true, false, Bool, cond, Some, None}
use Rattle.cg_base.specs.declared.place.Place.{Place}
use Rattle.cg_base.specs.Reader.{run as reader_run}
use Rattle.cg_heaptext_def.specs.Grammar.{token_at}
use Rattle.cg_heaptext_def.specs.Tokens.{Lexeme}
use Rattle.cg_heaptext_def.specs.Trees.{Written, constant, applied, Heap}
use Rattle.cg_heaptext_parser.specs.Machine.{State, Frame, payload, paren, Base, Want, AfterParen, AfterConstructor, Have, Failed, on_value, begins_value, on_have, on_paren, on_symbol, finish, reader}
use Rattle.cg_heaptext_parser.specs.Symbols.{Symbol, Comma, CloseParen, CloseBrace, Digits, Wild, Truth, Constructor, At, OpenParen, OpenRecord, symbol_of}
use Rattle.cg_heaptext_parser.proofs.Known.{token_of, Proper, back}

-- the state after some tokens
abbrev pub run : State → List Lexeme → State
run = reader_run reader

-- nothing comes of a failure
pub failed_none : (ts : List Lexeme) → finish (run Failed ts) ≡ None
failed_none [] = refl
failed_none (t ∷ ts) = failed_none ts

-- ---- two states alike

-- a payload that is read is its constructor's value that is read
have_alike : (b : Base) (fs : List Frame) (p : Place) (x : List ℕ) (v : Written) (y : Symbol) → on_have b (payload p x ∷ fs) v y ≡ on_have b fs (applied p x v) y
have_alike b fs p x v Comma = refl
have_alike b fs p x v CloseParen = refl
have_alike b fs p x v CloseBrace = refl
have_alike b fs p x v _ = refl

pub payload_alike : (b : Base) (fs : List Frame) (p : Place) (x : List ℕ) (v : Written) (ts : List Lexeme) → finish (run (Have b (payload p x ∷ fs) v) ts) ≡ finish (run (Have b fs (applied p x v)) ts)
payload_alike b fs p x v [] = refl
payload_alike b fs p x v (t ∷ ts) = ap (λ s. finish (run s ts)) (have_alike b fs p x v (symbol_of t.token))

-- what begins a value doesn't stand behind one, and what doesn't begin one fails before one
begins_failed : (b : Base) (fs : List Frame) (v : Written) (y : Symbol) → begins_value y ≡ true → on_have b fs v y ≡ Failed
begins_failed b fs v Comma e = cc
begins_failed b fs v CloseParen e = cc
begins_failed b fs v CloseBrace e = cc
begins_failed b fs v _ e = refl

none_failed : (b : Base) (fs : List Frame) (p : Place) (y : Symbol) → begins_value y ≡ false → on_value b fs p y ≡ Failed
none_failed b fs p (Digits ds) e = cc
none_failed b fs p Wild e = cc
none_failed b fs p (Truth t) e = cc
none_failed b fs p (Constructor x) e = cc
none_failed b fs p At e = cc
none_failed b fs p OpenParen e = cc
none_failed b fs p OpenRecord e = cc
none_failed b fs p _ e = refl

-- behind a parenthesis such a symbol begins its first value
paren_alike : (b : Base) (fs : List Frame) (q p : Place) (y : Symbol) → begins_value y ≡ true → on_paren b fs q p y ≡ on_value b (paren q [] ∷ fs) p y
paren_alike b fs q p CloseParen e = cc
paren_alike b fs q p _ e = refl

-- by a test, in either case
choose : {A : Type 0} (c : Bool) → (c ≡ true → A) → (c ≡ false → A) → A
choose true one other = one refl
choose false one other = other refl

module _ (h : Heap) where
  -- the rest of the tokens completes the heap file
  abbrev pub Gives : State → List Lexeme → Type 0
  Gives s ts = finish (run s ts) ≡ Some h

  -- nothing completes a failure
  not_failed : {A : Type 0} (s : State) (ts : List Lexeme) → s ≡ Failed → Gives s ts → A
  not_failed s ts e g = let no : finish (run s ts) ≡ None = ap (λ z. finish (run z ts)) e ∙ failed_none ts in absurd (cc)

  -- one token
  pub move : (y : Symbol) → Proper y → (s : State) (p : Place) (ts rest : List Lexeme) → token_at p (token_of y) ts rest → Gives (on_symbol s p y) rest → Gives s ts
  move y f s p ts rest r g = ap (λ x. finish (run s x)) r ∙ ap (λ z. finish (run (on_symbol s p z) rest)) (back y f) ∙ g

  -- what goes on before a value goes on behind a constructor with a payload
  pub payload_begins : (b : Base) (fs : List Frame) (q : Place) (x : List ℕ) (ts : List Lexeme) → Gives (Want b (payload q x ∷ fs)) ts → Gives (AfterConstructor b fs q x) ts
  payload_begins b fs q x [] g = cc
  payload_begins b fs q x (t ∷ ts) g =
      let y = symbol_of t.token in let want = on_value b (payload q x ∷ fs) t.place y in let have = on_have b fs (constant q x) y in
      choose (begins_value y)
      (λ e. ap (λ c. finish (run (cond c want have) ts)) e ∙ g)
      (λ e. not_failed want ts (none_failed b (payload q x ∷ fs) t.place y e) g)

  -- what goes on behind a constructor as a value goes on where it may have a payload
  pub payload_missing : (b : Base) (fs : List Frame) (q : Place) (x : List ℕ) (ts : List Lexeme) → Gives (Have b fs (constant q x)) ts → Gives (AfterConstructor b fs q x) ts
  payload_missing b fs q x [] g = g
  payload_missing b fs q x (t ∷ ts) g =
      let y = symbol_of t.token in let want = on_value b (payload q x ∷ fs) t.place y in let have = on_have b fs (constant q x) y in
      choose (begins_value y)
      (λ e. not_failed have ts (begins_failed b fs (constant q x) y e) g)
      (λ e. ap (λ c. finish (run (cond c want have) ts)) e ∙ g)

  -- what goes on before a value goes on behind a parenthesis
  pub paren_begins : (b : Base) (fs : List Frame) (q : Place) (ts : List Lexeme) → Gives (Want b (paren q [] ∷ fs)) ts → Gives (AfterParen b fs q) ts
  paren_begins b fs q [] g = cc
  paren_begins b fs q (t ∷ ts) g =
      let y = symbol_of t.token in let want = on_value b (paren q [] ∷ fs) t.place y in
      choose (begins_value y)
      (λ e. ap (λ s. finish (run s ts)) (paren_alike b fs q t.place y e) ∙ g)
      (λ e. not_failed want ts (none_failed b (paren q [] ∷ fs) t.place y e) g)
