-- A cell is passed by counting the unboxed records that are open in it.
use Rattle.std.proofs.Common.{◌≡◌, ℕ, zero, suc, ◌+◌, ◌-◌, ◌<◌, Bool, true, false, List, [], ◌∷◌, length, codes, Option, Some, None, refl, sym, ap, ◌∙◌, subst, arith}
use Rattle.std.proofs.lemmas.Bool.{false≢true}
use Rattle.cg_base.specs.declared.place.Place.{Place}
use Rattle.cg_heaptext_def.specs.Grammar.{Reading, ReadsAny, ReadsBit, ReadsCell, ReadsFields, ReadsMore, ReadsMoreFields, ReadsNumeral, ReadsRest, ReadsTwo, ReadsValue, bit_text, mark, token_at, truth_text}
use Rattle.cg_heaptext_def.specs.Tokens.{Lexeme, Token, number, lower, upper, sign}
use Rattle.cg_heaptext_def.specs.Trees.{Written, numeral, truth, nothing, gone, address, constant, applied, inside, tuple, record', Writtens, none, more, Fields, end, field, Cell, slots, elements, answers}
use Rattle.cg_heaptext_def.specs.Trees as trees
use Rattle.cg_heaptext_lexer.specs.Next.{Cursor, Gives, token_of}
use Rattle.cg_heaptext_lexer.specs.declared.token.TokenKind.{TokenKind}
use Rattle.cg_heaptext_lexer.specs.declared.token.TokenKind.TheVariants.{Number, Lower, Upper, Sign, Unknown, End}
use Rattle.cg_heaptext_lexer.proofs.Walking.{none_in_space, shorter, unknown_none}
use Rattle.cg_heaptext_entries.specs.Index.{Before}
use Rattle.cg_heaptext_entries.specs.Passes.{PassesCell}
use Rattle.cg_heaptext_entries.specs.Skip.{next_depth, read_turn, skipped, turn}
use Rattle.cg_heaptext_entries.specs.declared.skip.Turn.{Turn}
use Rattle.cg_heaptext_entries.specs.declared.skip.Turn.TheVariants.{Opens, Closes, Stays, Over}
use Rattle.cg_heaptext_entries.proofs.Standing.{reads, reads_none}

-- ---- trees: what is read leaves the depth as it was

-- a token that says nothing of the depth
passed : (t : Token) (p : Place) (d : ℕ) (ts rest : List Lexeme) → turn t ≡ Stays → token_at p t ts rest → skipped (Some d) ts ≡ skipped (Some d) rest
passed t p d ts rest s e = ap (skipped (Some d)) e ∙ ap (λ u. skipped (next_depth u d) rest) s

-- a sign at any place
mark_passed : (x : List ℕ) (d : ℕ) (ts rest : List Lexeme) → turn (sign x) ≡ Stays → mark x ts rest → skipped (Some d) ts ≡ skipped (Some d) rest
mark_passed x d ts rest s m = passed (sign x) m.0 d ts rest s m.1

-- `#{` and its `}`
opened : (p : Place) (d : ℕ) (ts rest : List Lexeme) → token_at p (sign (codes "#{")) ts rest → skipped (Some d) ts ≡ skipped (Some (suc d)) rest
opened p d ts rest e = ap (skipped (Some d)) e

closed : (d : ℕ) (ts rest : List Lexeme) → mark (codes "}") ts rest → skipped (Some (suc d)) ts ≡ skipped (Some d) rest
closed d ts rest m = ap (skipped (Some (suc d))) m.1

mutual
  value_passed : (v : Written) (d : ℕ) (ts rest : List Lexeme) → ReadsValue v ts rest → skipped (Some d) ts ≡ skipped (Some d) rest
  value_passed (numeral n) d ts rest r = passed (number n.digits) n.place d ts rest refl r
  value_passed (truth p b) d ts rest r = passed (upper (truth_text b)) p d ts rest refl r
  value_passed (nothing p) d ts rest r = passed (sign (codes "(")) p d ts r.0 refl r.1 ∙ mark_passed (codes ")") d r.0 rest refl r.2
  value_passed (gone p) d ts rest r = passed (lower (codes "_")) p d ts rest refl r
  value_passed (address p n) d ts rest r = passed (sign (codes "@")) p d ts r.0 refl r.1 ∙ passed (number n.digits) n.place d r.0 rest refl r.2
  value_passed (constant p x) d ts rest r = passed (upper x) p d ts rest refl r.1
  value_passed (applied p x v) d ts rest r = let q = r.2 in passed (upper x) p d ts q.0 refl q.1 ∙ value_passed v d q.0 rest q.2
  value_passed (inside p v) d ts rest r =
      passed (sign (codes "(")) p d ts r.0 refl r.1 ∙ value_passed v d r.0 r.2.0 r.2.1 ∙ mark_passed (codes ")") d r.2.0 rest refl r.2.2
  value_passed (tuple p vs) d ts rest r =
      passed (sign (codes "(")) p d ts r.0 refl r.1 ∙ two_passed vs d r.0 r.2.0 r.2.1 ∙ mark_passed (codes ")") d r.2.0 rest refl r.2.2
  value_passed (record' p fs) d ts rest r = opened p d ts r.0 r.1 ∙ fields_passed fs (suc d) r.0 r.2.0 r.2.1 ∙ closed d r.2.0 rest r.2.2

  two_passed : (vs : Writtens) (d : ℕ) (ts rest : List Lexeme) → ReadsTwo vs ts rest → skipped (Some d) ts ≡ skipped (Some d) rest
  two_passed none d ts rest r = absurd r
  two_passed (more v none) d ts rest r = absurd r
  two_passed (more v (more w vs)) d ts rest r = value_passed v d ts r.0 r.1 ∙ more_passed (more w vs) d r.0 rest r.2

  more_passed : (vs : Writtens) (d : ℕ) (ts rest : List Lexeme) → ReadsMore vs ts rest → skipped (Some d) ts ≡ skipped (Some d) rest
  more_passed none d ts rest r = ap (skipped (Some d)) r
  more_passed (more v vs) d ts rest r =
      mark_passed (codes ",") d ts r.0 refl r.1 ∙ value_passed v d r.0 r.2.0 r.2.1 ∙ more_passed vs d r.2.0 rest r.2.2

  fields_passed : (fs : Fields) (d : ℕ) (ts rest : List Lexeme) → ReadsFields fs ts rest → skipped (Some d) ts ≡ skipped (Some d) rest
  fields_passed end d ts rest r = absurd r
  fields_passed (field x v fs) d ts rest r =
      let q = r.1 in
      passed (lower x) q.1.0 d ts q.0 refl q.1.1
      ∙ mark_passed (codes "=") d q.0 q.2.0 refl q.2.1
      ∙ value_passed v d q.2.0 q.2.2.0 q.2.2.1
      ∙ more_fields_passed fs d q.2.2.0 rest q.2.2.2

  more_fields_passed : (fs : Fields) (d : ℕ) (ts rest : List Lexeme) → ReadsMoreFields fs ts rest → skipped (Some d) ts ≡ skipped (Some d) rest
  more_fields_passed end d ts rest r = ap (skipped (Some d)) r
  more_fields_passed (field x v fs) d ts rest r =
      let c = r.1 in
      let q = c.2 in
      mark_passed (codes ",") d ts c.0 refl c.1
      ∙ passed (lower x) q.1.0 d c.0 q.0 refl q.1.1
      ∙ mark_passed (codes "=") d q.0 q.2.0 refl q.2.1
      ∙ value_passed v d q.2.0 q.2.2.0 q.2.2.1
      ∙ more_fields_passed fs d q.2.2.0 rest q.2.2.2

-- ---- lists, and cells

abbrev Passed : Reading → Type 0
Passed R = (d : ℕ) (ts rest : List Lexeme) → R ts rest → skipped (Some d) ts ≡ skipped (Some d) rest

rest_passed : {A : Type 0} (R : A → Reading) → ((x : A) → Passed (R x)) → (xs : List A) → Passed (ReadsRest R xs)
rest_passed R p [] d ts rest r = ap (skipped (Some d)) r
rest_passed R p (x ∷ xs) d ts rest r = mark_passed (codes ",") d ts r.0 refl r.1 ∙ p x d r.0 r.2.0 r.2.1 ∙ rest_passed R p xs d r.2.0 rest r.2.2

any_passed : {A : Type 0} (R : A → Reading) → ((x : A) → Passed (R x)) → (xs : List A) → Passed (ReadsAny R xs)
any_passed R p [] d ts rest r = ap (skipped (Some d)) r
any_passed R p (x ∷ xs) d ts rest r = p x d ts r.0 r.1 ∙ rest_passed R p xs d r.0 rest r.2

numeral_passed : (n : trees.Numeral) → Passed (ReadsNumeral n)
numeral_passed n d ts rest r = passed (number n.digits) n.place d ts rest refl r

bit_passed : (b : Bool) → Passed (ReadsBit b)
bit_passed b d ts rest r = passed (number (bit_text b)) r.0 d ts rest refl r.1

-- behind the first token of a cell
pub cell_passed : (c : Cell) (ts rest : List Lexeme) → ReadsCell c ts rest → (t : Lexeme) × (inner : List Lexeme) × (ts ≡ t ∷ inner) × (skipped (Some zero) inner ≡ rest)
cell_passed (slots p fs) ts rest r =
    (record { token = sign (codes "{"); place = p }, r.0, r.1, fields_passed fs zero r.0 r.2.0 r.2.1 ∙ ap (skipped (Some zero)) r.2.2.1)
cell_passed (elements p ns) ts rest r =
    (record { token = sign (codes "["); place = p }, r.0, r.1, any_passed ReadsNumeral numeral_passed ns zero r.0 r.2.0 r.2.1 ∙ ap (skipped (Some zero)) r.2.2.1)
cell_passed (answers p bs) ts rest r =
    (record { token = sign (codes "<"); place = p }, r.0, r.1, any_passed ReadsBit bit_passed bs zero r.0 r.2.0 r.2.1 ∙ ap (skipped (Some zero)) r.2.2.1)

-- ---- the loop

-- Where these tokens stood before, others stand now, and what is behind the cell is the same.
abbrev pub Going : Cursor → Cursor → Option ℕ → Type 0
Going first now o = (ts : List Lexeme) → Before first ts → (us : List Lexeme) × Before now us × (skipped (Some zero) ts ≡ skipped o us)

-- behind the first token of a cell none is open
pub going : (first : Cursor) → Going first first (Some zero)
going first ts b = (ts, b, refl)

-- the lexer's kind and text say the same as the token
turn_same : (k : TokenKind) (x : List ℕ) (old new : Cursor) (t u : Lexeme) (ts : List Lexeme) → Before old (u ∷ ts) → Gives k old t new → turn (token_of k x) ≡ read_turn k x
turn_same Number x old new t u ts b g = refl
turn_same Lower x old new t u ts b g = refl
turn_same Upper x old new t u ts b g = refl
turn_same Sign x old new t u ts b g = refl
turn_same Unknown x old new t u ts b g = absurd (unknown_none old new t.place (u ∷ ts) b.0 g b.1 b.2)
turn_same End x old new t u ts b g = absurd (none_in_space old.place old.rest b.2.0 u g.space b.2.1)

-- a token more
step : (k : TokenKind) (x : List ℕ) (old new : Cursor) (t : Lexeme) (d : ℕ) (us : List Lexeme) → t.token ≡ token_of k x → Gives k old t new → Before old us
    → (vs : List Lexeme) × Before new vs × (skipped (Some d) us ≡ skipped (next_depth (read_turn k x) d) vs)
step k x old new t d [] e g b =
    let r = reads_none k old new t b g in
    ([], r.1, ap (λ y. skipped (next_depth (read_turn y x) d) []) (sym r.0))
step k x old new t d (u ∷ us) e g b =
    let r = reads k old new t u us b g in
    let same : turn u.token ≡ read_turn k x = ap (λ (v : Lexeme). turn v.token) (sym r.0) ∙ ap turn e ∙ turn_same k x old new t u us b g in
    (us, r.1, ap (λ y. skipped (next_depth y d) us) same)

keeps_going : (k : TokenKind) (x : List ℕ) (first old new : Cursor) (t : Lexeme) (d : ℕ) → t.token ≡ token_of k x → Going first old (Some d) → Gives k old t new → Going first new (next_depth (read_turn k x) d)
keeps_going k x first old new t d e w g ts b =
    let r = w ts b in
    let s = step k x old new t d r.0 e g r.1 in
    (s.0, s.1, r.2 ∙ s.2)

-- a token more, which does this to the depth
pub turned : (k : TokenKind) (x : List ℕ) (first old new : Cursor) (t : Lexeme) (a : Turn) (d : ℕ) (o : Option ℕ) → t.token ≡ token_of k x → Going first old (Some d) → Gives k old t new → a ≡ read_turn k x → next_depth a d ≡ o → Going first new o
turned k x first old new t a d o e w g same next =
    subst (Going first new) (ap (λ y. next_depth y d) (sym same) ∙ next) (keeps_going k x first old new t d e w g)

-- how the depth is counted
pub opens_inner : (d : ℕ) → next_depth Opens d ≡ Some (d + 1)
opens_inner d = ap Some (omega arith)

pub closes_outer : (d : ℕ) → d ≡ 0 → next_depth Closes d ≡ None
closes_outer zero e = refl
closes_outer (suc d) e = absurd (omega arith)

pub closes_inner : (d : ℕ) → 0 < d → next_depth Closes d ≡ Some (d - 1)
closes_inner zero e = absurd (omega arith)
closes_inner (suc d) e = ap Some (omega arith)

-- the closing bracket of the cell was passed
pub gone_by : (first new : Cursor) → Going first new None → (ts : List Lexeme) → Before first ts → Before new (skipped (Some zero) ts)
gone_by first new w ts b = let r = w ts b in subst (Before new) (sym r.2) r.1

-- whether a token was read
abbrev pub is_token : Turn → Bool
is_token Opens = true
is_token Closes = true
is_token Stays = true
is_token Over = false

-- behind a token less is left
pub turn_shorter : (k : TokenKind) (x : List ℕ) (old new : Cursor) (t : Lexeme) (a : Turn) → a ≡ read_turn k x → is_token a ≡ true → Gives k old t new → length new.rest < length old.rest
turn_shorter Number x old new t a s e g = shorter old new t g
turn_shorter Lower x old new t a s e g = shorter old new t g
turn_shorter Upper x old new t a s e g = shorter old new t g
turn_shorter Sign x old new t a s e g = shorter old new t g
turn_shorter Unknown x old new t a s e g = absurd (false≢true (ap is_token (sym s) ∙ e))
turn_shorter End x old new t a s e g = absurd (false≢true (ap is_token (sym s) ∙ e))

-- from the first token of a cell on
pub passes_cell : (k : TokenKind) (old mid new : Cursor) (t : Lexeme) → Gives k old t mid → ((ts : List Lexeme) → Before mid ts → Before new (skipped (Some zero) ts)) → PassesCell old new
passes_cell k old mid new t g by_inner c ts rest b r =
    let p = cell_passed c ts rest r in
    let first = reads k old mid t p.0 p.1 (subst (Before old) p.2 b) g in
    subst (Before new) p.3 (by_inner p.1 first.1)
