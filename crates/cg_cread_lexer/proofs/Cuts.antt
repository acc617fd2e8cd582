-- What the lexer cuts from the bytes that are left: a gap, and what stands behind it.
use Rattle.std.proofs.Common.{◌≡◌, ℕ, Bool, List, [], ◌++◌, take, drop, sym, ap, ◌∙◌, subst}
use Rattle.std.specs.List.{AllByRecursion}
use Rattle.std.proofs.lemmas.List.{append-nil, take-append-drop}
use Rattle.std.proofs.Math.Seq.{take-append_seam}
use Rattle.cg_base.specs.declared.place.Place.{Place}
use Rattle.cg_base.specs.Places.{place_after}
use Rattle.cg_ctree.specs.Tokens.{Token, name, word, plain, literal, sign, line, token_text, Piece, IsPiece, gap_text, has_line_feed, Lexeme, Takes}
use Rattle.cg_ctree.proofs.Division.{token_clear}
use Rattle.cg_cread_lexer.specs.declared.token.TokenKind.{TokenKind}
use Rattle.cg_cread_lexer.specs.declared.token.TokenKind.TheVariants.{Name, Word, Plain, Literal, Sign, Line, Unknown, End}
use Rattle.cg_cread_lexer.specs.declared.front.Found.{Found}
use Rattle.cg_cread_lexer.specs.Front.{piece_length, IsSpace, IsGap, found}
use Rattle.cg_cread_lexer.specs.Next.{Cursor, token_of, Stands, IsUnknown, Finishes, Gives}
use Rattle.cg_cread_lexer.proofs.Gaps.{NoPiece, no_piece, clear_no_piece, one_gap}
use Rattle.cg_cread_lexer.proofs.Munch.{NoToken, IsRead, Means, front_of}

space_text : (bytes : List ℕ) (n : ℕ) (s : IsSpace bytes n) → take n bytes ≡ gap_text s.pieces
space_text bytes n s = (λ i. take (s.long i) (s.parts i)) ∙ take-append_seam (gap_text s.pieces) (drop n bytes)

-- the gap before what is left, and no piece is left
pub record IsCut (bytes gap rest : List ℕ) : Type 0 where
  pub pieces : List Piece
  pub parts : bytes ≡ gap_text pieces ++ rest
  pub space : AllByRecursion IsPiece pieces
  pub text : gap ≡ gap_text pieces
  pub clear : NoPiece rest

pub cut : (bytes gap rest : List ℕ) (n : ℕ) → IsGap bytes n → gap ≡ take n bytes → rest ≡ drop n bytes → IsCut bytes gap rest
cut bytes gap rest n g e f = record {
  pieces = g.front.pieces;
  parts = g.front.parts ∙ ap (λ x. gap_text g.front.pieces ++ x) (sym f);
  space = g.front.space;
  text = e ∙ space_text bytes n g.front;
  clear = no_piece rest (ap piece_length f ∙ g.stops);
}

-- the token behind the gap, or what stands there in its place
pub record IsCutFront (rest taken after : List ℕ) (f : Found) : Type 0 where
  pub parts : rest ≡ taken ++ after
  pub means : Means f.kind (take f.len rest) taken after

pub cut_front : (rest taken after : List ℕ) (f : Found) → f ≡ found rest → taken ≡ take f.taken rest → after ≡ drop f.taken rest → IsCutFront rest taken after f
cut_front rest taken after f e t a = record {
  parts = sym (take-append-drop f.taken rest) ∙ (λ i. sym t i ++ sym a i);
  means = rw (t, a) (front_of rest f e).means;
}

-- where no token begins behind the gap, none is taken
pub none_taken : (bytes rest : List ℕ) (pieces : List Piece) → bytes ≡ gap_text pieces ++ rest → AllByRecursion IsPiece pieces → NoPiece rest → NoToken rest → (t : Lexeme) (after : List ℕ) → Takes bytes t after → ⊥
none_taken bytes rest pieces parts space clear none t after k =
    let there : NoPiece (token_text t.token ++ after) = clear_no_piece (token_text t.token ++ after) (token_clear t.token after k.fits k.ends) in
    let g = one_gap pieces k.gap rest (token_text t.token ++ after) space k.space clear there (sym parts ∙ k.parts) in
    none t.token after k.fits k.ends g.1

module _ (old : Cursor) (gap rest taken after : List ℕ) (place behind : Place) (e : rest ≡ taken ++ after) (c : IsCut old.rest gap rest) (p : place ≡ place_after old.place gap) (q : behind ≡ place_after place taken) where
  at_place : place ≡ place_after old.place (gap_text c.pieces)
  at_place = p ∙ ap (place_after old.place) c.text

  token_stands : (t : Token) (later : Bool) → later ≡ has_line_feed gap → IsRead t taken after → Stands old (record { token = t; later = later }) place (record { rest = after; place = behind })
  token_stands t later l r = record {
    takes = record {
      gap = c.pieces;
      parts = c.parts ∙ ap (λ x. gap_text c.pieces ++ x) (e ∙ ap (λ x. x ++ after) r.2);
      space = c.space;
      stands = l ∙ ap has_line_feed c.text;
      fits = r.0;
      ends = r.1;
    };
    at = at_place;
    next = q ∙ ap (place_after place) r.2;
  }

  nothing_taken : taken ≡ [] → (rest ≡ after) × (behind ≡ place)
  nothing_taken n = (e ∙ ap (λ x. x ++ after) n, q ∙ ap (place_after place) n)

  unknown_stands : (taken ≡ []) × (after ≡ [] → ⊥) × NoToken after → IsUnknown old place (record { rest = after; place = behind })
  unknown_stands h =
      let s = nothing_taken h.0 in
      let parts : old.rest ≡ gap_text c.pieces ++ after = c.parts ∙ ap (λ x. gap_text c.pieces ++ x) s.0 in
      let clear : NoPiece after = subst NoPiece s.0 c.clear in
      record { gap = c.pieces; parts = parts; space = c.space; at = at_place; stays = s.1; left = h.1; no_space = clear; no_token = none_taken old.rest after c.pieces parts c.space clear h.2 }

  end_stands : (taken ≡ []) × (after ≡ []) → Finishes old place (record { rest = after; place = behind })
  end_stands h =
      let s = nothing_taken h.0 in
      let parts : old.rest ≡ gap_text c.pieces = c.parts ∙ ap (λ x. gap_text c.pieces ++ x) (s.0 ∙ h.1) ∙ append-nil (gap_text c.pieces) in
      record { last = c.pieces; parts = parts; space = c.space; at = at_place ∙ ap (place_after old.place) (sym parts); stays = λ i. record { rest = h.1 i; place = s.1 i } }

  kind_stands : (kind : TokenKind) (text : List ℕ) (later : Bool) → later ≡ has_line_feed gap → Means kind text taken after → Gives kind old (record { token = token_of kind text; later = later }) place (record { rest = after; place = behind })
  kind_stands Name text later l m = token_stands (name text) later l m
  kind_stands Word text later l m = token_stands (word text) later l m
  kind_stands Plain text later l m = token_stands (plain text) later l m
  kind_stands Literal text later l m = token_stands (literal text) later l m
  kind_stands Sign text later l m = token_stands (sign text) later l m
  kind_stands Line text later l m = token_stands (line text) later l m
  kind_stands Unknown text later l m = unknown_stands m
  kind_stands End text later l m = end_stands m

pub gives : (old : Cursor) (gap rest taken after : List ℕ) (place behind : Place) (f : Found) (later : Bool) → IsCut old.rest gap rest → IsCutFront rest taken after f → place ≡ place_after old.place gap → behind ≡ place_after place taken → later ≡ has_line_feed gap
    → Gives f.kind old (record { token = token_of f.kind (take f.len rest); later = later }) place (record { rest = after; place = behind })
gives old gap rest taken after place behind f later c k p q l = kind_stands old gap rest taken after place behind k.parts c p q f.kind (take f.len rest) later l k.means
