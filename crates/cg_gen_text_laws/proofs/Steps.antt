-- Tokens on one line behind each other, with at most a blank between two, and the places at which they stand.
use Rattle.std.proofs.Common.{◌≡◌, ℕ, ◌+◌, ◌≤◌, Bool, true, false, List, [], ◌∷◌, ◌++◌, length, min, refl, sym, ap, ◌∙◌, subst, arith}
use Rattle.std.specs.Prelude.{◌==◌, ◌&&◌, nat_le}
use Rattle.std.specs.List.{list_all}
use Rattle.std.proofs.lemmas.Bool.Decides.{nat_tests}
use Rattle.cg_base.proofs.Truths as truths
use Rattle.cg_base.specs.Bytes.{Each}
use Rattle.cg_base.specs.Places.{most, place_past, place_after}
use Rattle.cg_lexer.specs.declared.token.TokenKind.{TokenKind}
use Rattle.cg_lexer.specs.Bytes.{inline}
use Rattle.cg_lexer.specs.Gaps.{blank}
use Rattle.cg_lexer.specs.Tokens.{Lexeme, Cursor, Takes, Divides}
use Rattle.cg_lexer.specs.Front.{piece_length, front_length, kind_of}
use Rattle.cg_gen_def.specs.Programs.{place}
use Rattle.cg_gen_text_laws.proofs.Fronts.{Splits, splits}

-- ---- places

one_past : (row column b : ℕ) → inline b ≡ true → column ≤ 2000 → place_past (place row column) b ≡ place row (column + 1)
one_past row column b h le =
    let feed : (b == 10) ≡ false = grind (arith, nat_tests) in
    let least : min (column + 1) most ≡ column + 1 = grind (arith, nat_tests) in
    rw (feed, least) refl

-- a text of one line leads to as many columns on
pub place_on : (row column : ℕ) (text : List ℕ) → Each inline text → column + length text ≤ 2000
    → place_after (place row column) text ≡ place row (column + length text)
place_on row column [] all le = ap (place row) (omega arith)
place_on row column (b ∷ text) all le =
    ap (λ p. place_after p text) (one_past row column b all.0 (omega (arith, le)))
    ∙ place_on row (column + 1) text all.1 (omega (arith, le))
    ∙ ap (place row) (omega arith)

line_past : (row column : ℕ) → row ≤ 10000 → place_past (place row column) 10 ≡ place (row + 1) 1
line_past row column le = let least : min (row + 1) most ≡ row + 1 = grind (arith, nat_tests) in rw least refl

-- ---- one token

-- what is left behind a token
abbrev pub cursor : List ℕ → ℕ → ℕ → Cursor
cursor rest row column = record { rest = rest; place = place row column; behind = true }

abbrev pub token : TokenKind → List ℕ → ℕ → ℕ → Bool → Bool → Lexeme
token kind text row column first joined = record { kind = kind; text = text; place = place row column; first = first; joined = joined }

-- behind a blank
abbrev pub apart : TokenKind → List ℕ → ℕ → ℕ → Lexeme
apart kind text row column = token kind text row column false false

-- behind nothing
abbrev pub joined : TokenKind → List ℕ → ℕ → ℕ → Lexeme
joined kind text row column = token kind text row column false true

-- behind a line feed
abbrev pub leading : TokenKind → List ℕ → ℕ → Lexeme
leading kind text row = token kind text row 1 true false

ends : (row column end : ℕ) (text : List ℕ) → Each inline text → end ≡ column + length text → end ≤ 2000 → place row end ≡ place_after (place row column) text
ends row column end text all e le = ap (place row) e ∙ sym (place_on row column text all (omega (arith, e, le)))

takes_joined : (kind : TokenKind) (text rest : List ℕ) (row column end : ℕ) → Splits kind text rest → Each inline text → end ≡ column + length text → end ≤ 2000
    → Takes (cursor (text ++ rest) row column) (joined kind text row column) (cursor rest row end)
takes_joined kind text rest row column end s all e le =
    record { gap = []; parts = refl; space = tt; fits = s.0; longest = s.1; stands = refl; first = refl; joined = refl; next = ends row column end text all e le; behind = refl }

takes_apart : (kind : TokenKind) (text rest : List ℕ) (row from column end : ℕ) → Splits kind text rest → Each inline text → column ≡ from + 1
    → end ≡ column + length text → end ≤ 2000
    → Takes (cursor (32 ∷ (text ++ rest)) row from) (apart kind text row column) (cursor rest row end)
takes_apart kind text rest row from column end s all d e le =
    record {
      gap = blank 32 ∷ [];
      parts = refl;
      space = (refl, tt);
      fits = s.0;
      longest = s.1;
      stands = ap (place row) d ∙ sym (one_past row from 32 refl (omega (arith, d, e, le)));
      first = refl;
      joined = refl;
      next = ends row column end text all e le;
      behind = refl;
    }

takes_leading : (kind : TokenKind) (text rest : List ℕ) (above row from end : ℕ) → Splits kind text rest → Each inline text → row ≡ above + 1
    → end ≡ 1 + length text → row ≤ 10000 → end ≤ 2000
    → Takes (cursor (10 ∷ (text ++ rest)) above from) (leading kind text row) (cursor rest row end)
takes_leading kind text rest above row from end s all d e low le =
    record {
      gap = blank 10 ∷ [];
      parts = refl;
      space = (refl, tt);
      fits = s.0;
      longest = s.1;
      stands = ap (λ r. place r 1) d ∙ sym (line_past above from (omega (arith, d, low)));
      first = refl;
      joined = refl;
      next = ends row 1 end text all e le;
      behind = refl;
    }

-- ---- tokens behind each other

-- these tokens stand between two cursors
pub record Divided (at : Cursor) (ts : List Lexeme) (after : Cursor) : Type 0 where
  pub divides : Divides at ts after

pub done : (at : Cursor) → Divided at [] at
done at = record { divides = refl }

pub behind : (at mid after : Cursor) (t : Lexeme) (ts : List Lexeme) → Takes at t mid → Divided mid ts after → Divided at (t ∷ ts) after
behind at mid after t ts k d = record { divides = (mid, k, d.divides) }

pub both : (ts us : List Lexeme) (at mid after : Cursor) → Divides at ts mid → Divides mid us after → Divides at (ts ++ us) after
both [] us at mid after d e = subst (λ (x : Cursor). Divides x us after) (sym d) e
both (t ∷ ts) us at mid after d e = (d.0, d.1, both ts us d.0 mid after d.2 e)

pub one_by_one : (ts us : List Lexeme) (at mid after : Cursor) → Divided at ts mid → Divided mid us after → Divided at (ts ++ us) after
one_by_one ts us at mid after d e = record { divides = both ts us at mid after d.divides e.divides }

-- a token with this text, where it is a token's text that this is known of, at a place, and what follows
module _ {after : Cursor} {ts : List Lexeme} (kind : TokenKind) (text rest : List ℕ) where
  pub then_leading : (above row from end : ℕ) → Splits kind text rest → Each inline text → row ≡ above + 1 → end ≡ 1 + length text → row ≤ 10000 → end ≤ 2000
      → Divided (cursor rest row end) ts after → Divided (cursor (10 ∷ (text ++ rest)) above from) (leading kind text row ∷ ts) after
  then_leading above row from end s all d e low le = behind _ (cursor rest row end) after _ ts (takes_leading kind text rest above row from end s all d e low le)

  pub then_apart : (row from column end : ℕ) → Splits kind text rest → Each inline text → column ≡ from + 1 → end ≡ column + length text → end ≤ 2000
      → Divided (cursor rest row end) ts after → Divided (cursor (32 ∷ (text ++ rest)) row from) (apart kind text row column ∷ ts) after
  then_apart row from column end s all d e le = behind _ (cursor rest row end) after _ ts (takes_apart kind text rest row from column end s all d e le)

  pub then_joined : (row column end : ℕ) → Splits kind text rest → Each inline text → end ≡ column + length text → end ≤ 2000
      → Divided (cursor rest row end) ts after → Divided (cursor (text ++ rest) row column) (joined kind text row column ∷ ts) after
  then_joined row column end s all e le = behind _ (cursor rest row end) after _ ts (takes_joined kind text rest row column end s all e le)

-- ---- tokens whose text is known, from a column on

each : (p : ℕ → Bool) (xs : List ℕ) → list_all p xs ≡ true → Each p xs
each p [] h = tt
each p (x ∷ xs) h = let parts = truths.both (p x) (list_all p xs) h in (parts.0, each p xs parts.1)

-- the text is a token's on one line, where what the lexer finds is as long
pub record IsKnown (text rest : List ℕ) : Type 0 where
  pub clear : piece_length (text ++ rest) ≡ 0
  pub long : front_length (text ++ rest) ≡ length text
  pub some : (length text == 0) ≡ false
  pub on_line : list_all inline text ≡ true

-- by computing
pub known : (text rest : List ℕ) → piece_length (text ++ rest) ≡ 0 → front_length (text ++ rest) ≡ length text → (length text == 0) ≡ false
    → list_all inline text ≡ true → IsKnown text rest
known text rest clear long some on_line = record { clear = clear; long = long; some = some; on_line = on_line }

known_splits : (text rest : List ℕ) → IsKnown text rest → Splits (kind_of text) text rest
known_splits text rest k = splits text rest k.clear k.long k.some

module _ {after : Cursor} {ts : List Lexeme} (text rest : List ℕ) (known : IsKnown text rest) (row base : ℕ) (low : base ≤ 1000) where
  -- the text at so many columns behind a base, behind a blank and behind nothing
  pub word : (k : ℕ) → nat_le (k + 1 + length text) 900 ≡ true
      → Divided (cursor rest row (base + (k + 1 + length text))) ts after
      → Divided (cursor (32 ∷ (text ++ rest)) row (base + k)) (apart (kind_of text) text row (base + (k + 1)) ∷ ts) after
  word k le =
      let fits : k + 1 + length text ≤ 900 = grind (arith, nat_tests) in
      then_apart (kind_of text) text rest row (base + k) (base + (k + 1)) (base + (k + 1 + length text)) (known_splits text rest known) (each inline text known.on_line) (omega arith) (omega arith) (omega (arith, fits, low))

  pub mark : (k : ℕ) → nat_le (k + length text) 900 ≡ true
      → Divided (cursor rest row (base + (k + length text))) ts after
      → Divided (cursor (text ++ rest) row (base + k)) (joined (kind_of text) text row (base + k) ∷ ts) after
  mark k le =
      let fits : k + length text ≤ 900 = grind (arith, nat_tests) in
      then_joined (kind_of text) text rest row (base + k) (base + (k + length text)) (known_splits text rest known) (each inline text known.on_line) (omega arith) (omega (arith, fits, low))
