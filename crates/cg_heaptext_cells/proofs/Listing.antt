-- Lists with commas between their items, token by token.
use Rattle.std.proofs.Common.{◌≡◌, ℕ, Bool, true, false, List, [], ◌∷◌, ◌++◌, codes, refl, sym, ap, ◌∙◌, subst, append_assoc}
use Rattle.std.specs.Str.{bytes_eq}
use Rattle.cg_base.specs.declared.place.Place.{Place}
use Rattle.cg_base.proofs.Sequences.{append_none}
use Rattle.cg_heaptext_def.specs.Grammar.{Reading, ◌then◌, ReadsAny, ReadsBit, ReadsNumeral, ReadsRest, mark, sign_at}
use Rattle.cg_heaptext_def.specs.Tokens.{Lexeme, number, sign, token_text}
use Rattle.cg_heaptext_def.specs.Trees.{Numeral, elements, answers}
use Rattle.cg_heaptext_lexer.specs.Next.{Cursor, Gives, token_of}
use Rattle.cg_heaptext_lexer.specs.declared.token.TokenKind.{TokenKind}
use Rattle.cg_heaptext_entries.specs.Index.{Before, CellStands}
use Rattle.cg_heaptext_entries.proofs.Standing.{reads, reads_none}
use Rattle.cg_heaptext_cells.specs.ByKind.{read_by}
use Rattle.cg_heaptext_cells.specs.Lists.{marked}
use Rattle.cg_heaptext_cells.specs.declared.list.Mark.{Mark}
use Rattle.cg_heaptext_cells.specs.declared.list.Mark.TheVariants.{Item, Comma, Over}
use Rattle.cg_heaptext_cells.proofs.Standing.{numeral_in, read_as}

-- what a token adds before the items that stand behind it
abbrev pub listed_by : {X : Type 0} → Mark → X → List X → List X
listed_by Item x xs = x ∷ xs
listed_by Comma x xs = xs
listed_by Over x xs = []

-- the items, up to the bracket behind them, each a function of its token
abbrev pub listed : {X : Type 0} → (Lexeme → X) → List Lexeme → List X
listed f [] = []
listed f (t ∷ ts) = listed_by (marked t.token) (f t) (listed f ts)

-- ---- what is read is listed

-- an item is one token
abbrev IsItem : (X : Type 0) → (Lexeme → X) → (X → Reading) → Type 0
IsItem X f R = (x : X) (ts rest : List Lexeme) → R x ts rest → (t : Lexeme) × (ts ≡ t ∷ rest) × (marked t.token ≡ Item) × (f t ≡ x)

module _ (X : Type 0) (f : Lexeme → X) (R : X → Reading) (is_item : IsItem X f R) where
  item_listed : (x : X) (ts rest : List Lexeme) → R x ts rest → listed f ts ≡ x ∷ listed f rest
  item_listed x ts rest r =
      let t = is_item x ts rest r in
      ap (listed f) t.1 ∙ ap (λ m. listed_by m (f t.0) (listed f rest)) t.2 ∙ ap (λ y. y ∷ listed f rest) t.3

  rest_listed : (xs : List X) (ts rest : List Lexeme) → ReadsRest R xs ts rest → listed f ts ≡ xs ++ listed f rest
  rest_listed [] ts rest r = ap (listed f) r
  rest_listed (x ∷ xs) ts rest r = ap (listed f) r.1.1 ∙ item_listed x r.0 r.2.0 r.2.1 ∙ ap (λ ys. x ∷ ys) (rest_listed xs r.2.0 rest r.2.2)

  any_listed : (xs : List X) (ts rest : List Lexeme) → ReadsAny R xs ts rest → listed f ts ≡ xs ++ listed f rest
  any_listed [] ts rest r = ap (listed f) r
  any_listed (x ∷ xs) ts rest r = item_listed x ts r.0 r.1 ∙ ap (λ ys. x ∷ ys) (rest_listed xs r.0 rest r.2)

  -- behind the bracket that opens a list
  begins : (opening closing : List ℕ) → marked (sign closing) ≡ Over → (k : TokenKind) (at new : Cursor) (t : Lexeme) → Gives k at t new
      → (p : Place) (xs : List X) (ts rest : List Lexeme) → Before at ts → (sign_at p opening then ReadsAny R xs then mark closing) ts rest → (us : List Lexeme) × Before new us × (xs ≡ listed f us)
  begins opening closing over k at new t g p xs ts rest b r =
      let u : Lexeme = record { token = sign opening; place = p } in
      let v : Lexeme = record { token = sign closing; place = r.2.2.0 } in
      let closed : listed f r.2.0 ≡ [] = ap (listed f) r.2.2.1 ∙ ap (λ m. listed_by m (f v) (listed f rest)) over in
      (r.0, (reads k at new t u r.0 (subst (Before at) r.1 b) g).1, sym (any_listed xs r.0 r.2.0 r.2.1 ∙ ap (λ ys. xs ++ ys) closed ∙ append_none xs))

-- ---- the loop

-- Where these are the items of a list, some were gathered, and the tokens that stand there list the others.
abbrev pub Going : (X : Type 0) → (Lexeme → X) → (List X → Type 0) → Cursor → List X → Type 0
Going X f Are now xs = (ys : List X) → Are ys → (us : List Lexeme) × Before now us × (ys ≡ xs ++ listed f us)

module _ (X : Type 0) (f : Lexeme → X) (Are : List X → Type 0) (k : TokenKind) (x : List ℕ) (old new : Cursor) (t : Lexeme) (is : t.token ≡ token_of k x) (g : Gives k old t new) where
  -- what the tokens list of which one was read
  stepped : (us : List Lexeme) → Before old us → (vs : List Lexeme) × Before new vs × (listed f us ≡ listed_by (read_by marked Over k x) (f t) (listed f vs))
  stepped [] b =
      let r = reads_none k old new t b g in
      ([], r.1, ap (λ y. listed_by (read_by marked Over y x) (f t) []) (sym r.0))
  stepped (u ∷ us) b =
      let r = reads k old new t u us b g in
      let same = read_as marked Over k x old new t u us is b g in
      (us, r.1, (λ i. listed_by (same i) (f (sym r.0 i)) (listed f us)))

  turned : (xs : List X) (m : Mark) → Going X f Are old xs → m ≡ read_by marked Over k x → (ys : List X) → Are ys → (vs : List Lexeme) × Before new vs × (ys ≡ xs ++ listed_by m (f t) (listed f vs))
  turned xs m w e ys a =
      let r = w ys a in
      let s = stepped r.0 r.1 in
      (s.0, s.1, r.2 ∙ ap (λ zs. xs ++ zs) (s.2 ∙ ap (λ n. listed_by n (f t) (listed f s.0)) (sym e)))

  -- behind an item it was gathered
  pub behind_item : (xs : List X) → Going X f Are old xs → Item ≡ read_by marked Over k x → Going X f Are new (xs ++ f t ∷ [])
  behind_item xs w e ys a =
      let r = turned xs Item w e ys a in
      (r.0, r.1, r.2 ∙ sym (append_assoc xs (f t ∷ []) (listed f r.0)))

  pub behind_comma : (xs : List X) → Going X f Are old xs → Comma ≡ read_by marked Over k x → Going X f Are new xs
  behind_comma xs w e ys a = turned xs Comma w e ys a

  -- behind the bracket all were
  pub all_gathered : (xs : List X) → Going X f Are old xs → Over ≡ read_by marked Over k x → (ys : List X) → Are ys → xs ≡ ys
  all_gathered xs w e ys a = let r = turned xs Over w e ys a in sym (r.2 ∙ append_none xs)

-- ---- answers

-- whether a token is a yes
abbrev pub bit_in : Lexeme → Bool
bit_in t = bytes_eq (token_text t.token) (codes "1")

bit_item : IsItem Bool bit_in ReadsBit
bit_item true ts rest r = (record { token = number (codes "1"); place = r.0 }, r.1, refl, refl)
bit_item false ts rest r = (record { token = number (codes "0"); place = r.0 }, r.1, refl, refl)

-- the answers of a cell
abbrev pub AreAnswers : Cursor → List Bool → Type 0
AreAnswers at bs = (p : Place) × CellStands at (answers p bs)

pub answers_begin : (k : TokenKind) (at new : Cursor) (t : Lexeme) (bits : List Bool) → bits ≡ [] → Gives k at t new → Going Bool bit_in (AreAnswers at) new bits
answers_begin k at new t bits e g = subst (λ xs. Going Bool bit_in (AreAnswers at) new xs) (sym e)
    (λ ys a. begins Bool bit_in ReadsBit bit_item (codes "<") (codes ">") refl k at new t g a.0 ys a.1.0 a.1.1 a.1.2 a.1.3)

-- ---- elements

numeral_item : IsItem Numeral numeral_in ReadsNumeral
numeral_item n ts rest r = (record { token = number n.digits; place = n.place }, r, refl, refl)

-- the elements of a cell
abbrev pub AreElements : Cursor → List Numeral → Type 0
AreElements at ns = (p : Place) × CellStands at (elements p ns)

pub elements_begin : (k : TokenKind) (at new : Cursor) (t : Lexeme) → Gives k at t new → Going Numeral numeral_in (AreElements at) new []
elements_begin k at new t g ys a = begins Numeral numeral_in ReadsNumeral numeral_item (codes "[") (codes "]") refl k at new t g a.0 ys a.1.0 a.1.1 a.1.2 a.1.3
