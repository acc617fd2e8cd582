-- Which tokens spell which heap file (docs/LANGUAGE.md, "Heap files", the grammar).
use Rattle.std.specs.Prelude.{◌≡◌, ℕ, Bool, true, false, ◌||◌, List, [], ◌∷◌, codes, ⊤}
use Rattle.std.specs.Str.{bytes_eq}
use Rattle.cg_base.specs.declared.place.Place.{Place}
use Rattle.cg_lexer.specs.Tokens.{is_word}
use Rattle.cg_heaptext_def.specs.Tokens.{Lexeme, Lexes, Token, number, lower, upper, sign}
use Rattle.cg_heaptext_def.specs.Trees.{Numeral, Written, numeral, truth, nothing, gone, address, constant, applied, inside, tuple, record', Writtens, none, more, Fields, end, field, Cell, slots, elements, answers, Entry, Heap}

-- a relation between the tokens from a place on and those behind what is read there
abbrev pub Reading : Type 1
Reading = List Lexeme → List Lexeme → Type 0

-- one reading, and behind it another
infixr 15 ◌then◌
abbrev pub ◌then◌ : Reading → Reading → Reading
(R then S) ts rest = (mid : List Lexeme) × R ts mid × S mid rest

-- one token at a place that is kept, and at one that isn't
abbrev pub token_at : Place → Token → Reading
token_at p t ts rest = ts ≡ record { token = t; place = p } ∷ rest

abbrev pub token : Token → Reading
token t ts rest = (p : Place) × token_at p t ts rest

abbrev pub sign_at : Place → List ℕ → Reading
sign_at p x = token_at p (sign x)

abbrev pub mark : List ℕ → Reading
mark x = token (sign x)

-- a name of a field: a small letter or the line below begins it, and it is neither the line below alone nor a word of the language
abbrev pub IsName : List ℕ → Type 0
IsName x = (bytes_eq x (codes "_") || is_word x) ≡ false

abbrev pub truth_text : Bool → List ℕ
truth_text true = codes "True"
truth_text false = codes "False"

-- a constructor is neither of these two
abbrev pub IsConstructor : List ℕ → Type 0
IsConstructor x = (bytes_eq x (truth_text true) || bytes_eq x (truth_text false)) ≡ false

-- a payload that has a payload itself stands in parentheses
abbrev pub IsPayload : Written → Type 0
IsPayload (applied p x v) = ⊥
IsPayload v = ⊤

abbrev pub ReadsNumeral : Numeral → Reading
ReadsNumeral n = token_at n.place (number n.digits)

abbrev mutual
  pub ReadsValue : Written → Reading
  ReadsValue (numeral n) ts rest = ReadsNumeral n ts rest
  ReadsValue (truth p b) ts rest = token_at p (upper (truth_text b)) ts rest
  ReadsValue (nothing p) ts rest = (sign_at p (codes "(") then mark (codes ")")) ts rest
  ReadsValue (gone p) ts rest = token_at p (lower (codes "_")) ts rest
  ReadsValue (address p n) ts rest = (sign_at p (codes "@") then ReadsNumeral n) ts rest
  ReadsValue (constant p x) ts rest = IsConstructor x × token_at p (upper x) ts rest
  ReadsValue (applied p x v) ts rest = IsConstructor x × IsPayload v × (token_at p (upper x) then ReadsValue v) ts rest
  ReadsValue (inside p v) ts rest = (sign_at p (codes "(") then ReadsValue v then mark (codes ")")) ts rest
  ReadsValue (tuple p vs) ts rest = (sign_at p (codes "(") then ReadsTwo vs then mark (codes ")")) ts rest
  ReadsValue (record' p fs) ts rest = (sign_at p (codes "#{") then ReadsFields fs then mark (codes "}")) ts rest

  -- two values or more
  pub ReadsTwo : Writtens → Reading
  ReadsTwo none ts rest = ⊥
  ReadsTwo (more v none) ts rest = ⊥
  ReadsTwo (more v (more w vs)) ts rest = (ReadsValue v then ReadsMore (more w vs)) ts rest

  -- further values, with a comma before each
  pub ReadsMore : Writtens → Reading
  ReadsMore none ts rest = ts ≡ rest
  ReadsMore (more v vs) ts rest = (mark (codes ",") then ReadsValue v then ReadsMore vs) ts rest

  -- one field or more
  pub ReadsFields : Fields → Reading
  ReadsFields end ts rest = ⊥
  ReadsFields (field x v fs) ts rest = IsName x × (token (lower x) then mark (codes "=") then ReadsValue v then ReadsMoreFields fs) ts rest

  -- further fields, with a comma before each
  pub ReadsMoreFields : Fields → Reading
  ReadsMoreFields end ts rest = ts ≡ rest
  ReadsMoreFields (field x v fs) ts rest = IsName x × (mark (codes ",") then token (lower x) then mark (codes "=") then ReadsValue v then ReadsMoreFields fs) ts rest

-- any number of things, with commas between
abbrev pub ReadsRest : {A : Type 0} → (A → Reading) → List A → Reading
ReadsRest reads [] ts rest = ts ≡ rest
ReadsRest reads (x ∷ xs) ts rest = (mark (codes ",") then reads x then ReadsRest reads xs) ts rest

abbrev pub ReadsAny : {A : Type 0} → (A → Reading) → List A → Reading
ReadsAny reads [] ts rest = ts ≡ rest
ReadsAny reads (x ∷ xs) ts rest = (reads x then ReadsRest reads xs) ts rest

-- an answer: a yes or a no
abbrev pub bit_text : Bool → List ℕ
bit_text true = codes "1"
bit_text false = codes "0"

abbrev pub ReadsBit : Bool → Reading
ReadsBit b = token (number (bit_text b))

abbrev pub ReadsCell : Cell → Reading
ReadsCell (slots p fs) ts rest = (sign_at p (codes "{") then ReadsFields fs then mark (codes "}")) ts rest
ReadsCell (elements p ns) ts rest = (sign_at p (codes "[") then ReadsAny ReadsNumeral ns then mark (codes "]")) ts rest
ReadsCell (answers p bs) ts rest = (sign_at p (codes "<") then ReadsAny ReadsBit bs then mark (codes ">")) ts rest

abbrev pub ReadsEntry : Entry → Reading
ReadsEntry e = sign_at e.place (codes "@") then ReadsNumeral e.address then mark (codes "=") then ReadsCell e.cell

abbrev pub ReadsEntries : List Entry → Reading
ReadsEntries [] ts rest = ts ≡ rest
ReadsEntries (e ∷ es) ts rest = (ReadsEntry e then ReadsEntries es) ts rest

abbrev pub ReadsHeap : Heap → Reading
ReadsHeap h = ReadsEntries h.entries then token (lower (codes "arg")) then mark (codes "=") then ReadsValue h.argument

-- tokens are this heap file, and bytes are
abbrev pub SpellsTokens : List Lexeme → Heap → Type 0
SpellsTokens ts h = ReadsHeap h ts []

abbrev pub HeapSpells : List ℕ → Heap → Type 0
HeapSpells bytes h = (ts : List Lexeme) × Lexes bytes ts × SpellsTokens ts h
