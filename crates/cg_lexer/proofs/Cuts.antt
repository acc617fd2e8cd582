-- What the lexer cuts from the bytes that are left: a gap, and what stands behind it.
use Rattle.std.proofs.Common.{◌≡◌, ℕ, ◌<◌, ◌≤◌, Bool, true, false, List, [], ◌∷◌, ◌++◌, length, take, drop, refl, sym, ap, ◌∙◌, subst, arith}
use Rattle.std.specs.Prelude.{◌==◌, ◌||◌, Result, Err}
use Rattle.std.proofs.lemmas.Bool.Decides.{nat_tests}
use Rattle.std.proofs.lemmas.List.{append-nil, take-append-drop, length-take-le}
use Rattle.std.proofs.Math.Seq.{take-append_seam}
use Rattle.cg_base.specs.declared.place.Place.{Place}
use Rattle.cg_base.specs.Bytes.{white}
use Rattle.cg_base.specs.Places.{place_after}
use Rattle.cg_base.proofs.Spans.{either_way}
use Rattle.cg_lexer.specs.declared.token.Token.{Token}
use Rattle.cg_lexer.specs.declared.token.TokenKind.{TokenKind}
use Rattle.cg_lexer.specs.declared.token.TokenKind.TheVariants.{Lower, Upper, Number, Word, Sign, End}
use Rattle.cg_lexer.specs.declared.token.LexFault.{LexFault}
use Rattle.cg_lexer.specs.declared.token.LexFault.TheVariants.{UnknownByte, OpenComment}
use Rattle.cg_lexer.specs.Bytes.{dark}
use Rattle.cg_lexer.specs.Gaps.{opens, dashes, block, gap_text, IsGap}
use Rattle.cg_lexer.specs.Tokens.{IsTextOf, IsLongest, Lexeme, lexeme, Cursor, is_first, is_joined, Takes}
use Rattle.cg_lexer.specs.Front.{piece_length, IsFullGap, token_length, front_length, kind_of}
use Rattle.cg_lexer.specs.Next.{Leaves, Gives, stop_at, Next}
use Rattle.cg_lexer.proofs.Gaps.{piece_stands}
use Rattle.cg_lexer.proofs.Munch.{kind_is, some_text, text_within, stands, no_dashes}
use Rattle.cg_base.proofs.Sequences.{is_empty}

-- ---- lengths

pub front_within : (bytes : List ℕ) → front_length bytes ≤ length bytes
front_within bytes = either_way (λ (n : ℕ). n ≤ length bytes) (opens bytes) 0 (token_length bytes) (λ _. omega arith) (λ _. (stands bytes).0)

-- ---- the gap

-- the gap before what is left, and no piece is next
pub record IsCut (old : Cursor) (gap rest : List ℕ) (place : Place) : Type 0 where
  pub leaves : Leaves old rest place
  pub text : gap ≡ gap_text leaves.gap
  pub clear : piece_length rest ≡ 0

pub cut : (old : Cursor) (gap rest : List ℕ) (place : Place) (n : ℕ) → IsFullGap old.rest n → gap ≡ take n old.rest → rest ≡ drop n old.rest → place ≡ place_after old.place gap → IsCut old gap rest place
cut old gap rest place n g e f p =
    let text : gap ≡ gap_text g.front.pieces = e ∙ (λ i. take (g.front.long i) (g.front.parts i)) ∙ take-append_seam (gap_text g.front.pieces) (drop n old.rest) in
    record {
      leaves = record {
        gap = g.front.pieces;
        parts = g.front.parts ∙ ap (λ x. gap_text g.front.pieces ++ x) (sym f);
        space = subst (IsGap g.front.pieces) (sym f) g.front.space;
        stands = p ∙ ap (place_after old.place) text;
      };
      text = text;
      clear = ap piece_length f ∙ g.stops;
    }

-- ---- the token behind it

-- a text of a token, the longest
pub record IsFront (rest text after : List ℕ) : Type 0 where
  pub parts : rest ≡ text ++ after
  pub fits : IsTextOf (kind_of text) text
  pub longest : IsLongest text after

some_front : (rest text : List ℕ) (n : ℕ) → n ≡ front_length rest → text ≡ take n rest → (length text == 0) ≡ false → (opens rest ≡ false) × (0 < n) × (n ≡ token_length rest)
some_front rest text n e t some =
    let within : n ≤ length rest = subst (λ (m : ℕ). m ≤ length rest) (sym e) (front_within rest) in
    let long : length text ≡ n = ap length t ∙ length-take-le n rest within in
    let positive : 0 < n = grind (arith, nat_tests) in
    go (opens rest) refl positive
  where
    go : (b : Bool) → opens rest ≡ b → 0 < n → (opens rest ≡ false) × (0 < n) × (n ≡ token_length rest)
    go true o p = let zero : front_length rest ≡ 0 = rw o refl in absurd (omega arith)
    go false o p = (o, p, e ∙ rw o refl)

pub front : (rest text after : List ℕ) (n : ℕ) → piece_length rest ≡ 0 → n ≡ front_length rest → text ≡ take n rest → after ≡ drop n rest → (length text == 0) ≡ false → IsFront rest text after
front rest text after n clear e t a some =
    let s = some_front rest text n e t some in
    let there = stands rest in
    let within : n ≤ length rest = subst (λ (m : ℕ). m ≤ length rest) (sym s.2) there.0 in
    let long : length text ≡ n = ap length t ∙ length-take-le n rest within in
    let k = there.1 (omega (arith, s.1, s.2)) in
    let is : text ≡ take (token_length rest) rest = t ∙ ap (λ m. take m rest) s.2 in
    let fits : IsTextOf k.0 text = subst (IsTextOf k.0) (sym is) k.1 in
    let parts : rest ≡ text ++ after = sym (take-append-drop n rest) ∙ (λ i. sym t i ++ sym a i) in
    record {
      parts = parts;
      fits = subst (λ (x : TokenKind). IsTextOf x text) (kind_is k.0 text fits) fits;
      longest = record {
        no_comment = ap (λ x. opens x || dashes x) (sym parts) ∙ rw (s.0, no_dashes rest clear) refl;
        longest = λ kind other more h q. omega (arith, text_within kind other more h, ap token_length (parts ∙ q), long, s.2);
      };
    }

gives_token : (kind : TokenKind) (old new : Cursor) (t : Lexeme) → IsTextOf kind t.text → Takes old t new → Gives kind old t new
gives_token Lower old new t f k = k
gives_token Upper old new t f k = k
gives_token (Number value) old new t f k = k
gives_token Word old new t f k = k
gives_token Sign old new t f k = k
gives_token End old new t f k = absurd f

pub takes : (old : Cursor) (gap rest text after : List ℕ) (place behind : Place) (n : ℕ) (kind : TokenKind) (first joined : Bool) → IsCut old gap rest place → n ≡ front_length rest → text ≡ take n rest → after ≡ drop n rest → (length text == 0) ≡ false
    → kind ≡ kind_of text → first ≡ is_first old.behind gap → joined ≡ is_joined old.behind gap → behind ≡ place_after place text
    → Gives kind old (record { kind = kind; text = text; place = place; first = first; joined = joined }) (record { rest = after; place = behind; behind = true })
takes old gap rest text after place behind n kind first joined c e t a some k x y q =
    let f = front rest text after n c.clear e t a some in
    let fits : IsTextOf kind text = subst (λ (z : TokenKind). IsTextOf z text) (sym k) f.fits in
    gives_token kind old (record { rest = after; place = behind; behind = true }) (record { kind = kind; text = text; place = place; first = first; joined = joined }) fits
    (record {
      gap = c.leaves.gap;
      parts = c.leaves.parts ∙ ap (λ z. gap_text c.leaves.gap ++ z) f.parts;
      space = subst (IsGap c.leaves.gap) f.parts c.leaves.space;
      fits = fits;
      longest = f.longest;
      stands = c.leaves.stands;
      first = x ∙ ap (is_first old.behind) c.text;
      joined = y ∙ ap (is_joined old.behind) c.text;
      next = q;
      behind = refl;
    })

-- ---- where no token is found

begins_dark : (b : ℕ) (rest : List ℕ) → piece_length (b ∷ rest) ≡ 0 → dark b ≡ true
begins_dark b rest none = go (white b) refl
  where
    go : (w : Bool) → white b ≡ w → dark b ≡ true
    go true w = let one : piece_length (b ∷ rest) ≡ 1 = rw w refl in absurd (omega arith)
    go false w = rw w refl

pub none_found : (rest : List ℕ) → front_length rest ≡ 0 → opens rest ≡ false → (kind : TokenKind) (text more : List ℕ) → IsTextOf kind text → rest ≡ text ++ more → ⊥
none_found rest none o kind text more h e =
    let zero : token_length rest ≡ 0 = sym (let is : front_length rest ≡ token_length rest = rw o refl in is) ∙ none in
    omega (arith, zero, text_within kind text more h, ap token_length e, some_text kind text h)

pub stops : (old : Cursor) (gap rest : List ℕ) (n : ℕ) (token : Token) → IsCut old gap rest token.place → n ≡ front_length rest → token.text.now ≡ take n rest → (length token.text.now == 0) ≡ true
    → token.kind ≡ kind_of token.text.now → token.first ≡ is_first old.behind gap → token.joined ≡ is_joined old.behind gap → Next old (stop_at rest token) old
stops old gap [] n token c e t none k x y =
    let empty : token.text.now ≡ [] = is_empty token.text.now none in
    let end : token.kind ≡ End = k ∙ ap kind_of empty in
    let all : old.rest ≡ gap_text c.leaves.gap = c.leaves.parts ∙ append-nil (gap_text c.leaves.gap) in
    let same : gap ≡ old.rest = c.text ∙ sym all in
    subst (λ (z : TokenKind). Gives z old (lexeme token) old) (sym end) (
      record {
        gap = c.leaves.gap;
        parts = all;
        space = c.leaves.space;
        empty = empty;
        stands = c.leaves.stands ∙ ap (place_after old.place) (sym all);
        first = x ∙ ap (is_first old.behind) same;
        joined = y ∙ ap (is_joined old.behind) same;
      },
      refl,
    )
stops old gap (b ∷ rest) n token c e t none k x y =
    let all = b ∷ rest in
    let within : n ≤ length all = subst (λ (m : ℕ). m ≤ length all) (sym e) (front_within all) in
    let long : length token.text.now ≡ n = ap length t ∙ length-take-le n all within in
    let zero : front_length all ≡ 0 = sym e ∙ sym long ∙ ap length (is_empty token.text.now none) in
    either_way (λ (r : Result Token LexFault). Next old r old) (opens all) (Err (OpenComment token.place)) (Err (UnknownByte token.place))
    (λ o. (record { rest = all; leaves = c.leaves; begins = o; unclosed = λ inside more h q. piece_stands (block inside) all more h q c.clear }, refl))
    (λ o. (record { rest = all; leaves = c.leaves; left = begins_dark b rest c.clear; no_comment = (o, no_dashes all c.clear); no_token = none_found all zero o }, refl))
