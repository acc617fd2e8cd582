-- What the lexer cuts from the bytes that are left: white space, and what stands behind it.
use Rattle.std.proofs.Common.{◌≡◌, ℕ, ◌<◌, Bool, true, false, List, [], ◌∷◌, ◌++◌, length, take, drop, refl, sym, ap, ◌∙◌, subst, arith, length-append}
use Rattle.std.specs.List.{prefix_len, AllByRecursion}
use Rattle.std.proofs.lemmas.List.{append-nil, take-append-drop}
use Rattle.std.proofs.Math.Seq.{take-append_seam, drop-append_seam}
use Rattle.std.proofs.lemmas.Bool.Decides.{nat_tests}
use Rattle.cg_base.specs.Bytes.{white, digit, Each, Starts, Stops}
use Rattle.cg_base.specs.declared.place.Place.{Place}
use Rattle.cg_base.specs.Places.{place_after}
use Rattle.cg_base.proofs.Counts.{digit_dark}
use Rattle.cg_base.proofs.Spans.{front_passes, one_span}
use Rattle.cg_lexer.specs.Bytes.{small, large}
use Rattle.cg_heaptext_def.specs.Tokens.{signs, Token, number, lower, upper, sign, token_text, IsToken, Lexeme, Takes}
use Rattle.cg_heaptext_lexer.specs.declared.front.Found.{Found}
use Rattle.cg_heaptext_lexer.specs.declared.token.TokenKind.{TokenKind}
use Rattle.cg_heaptext_lexer.specs.declared.token.TokenKind.TheVariants.{Number, Lower, Upper, Sign, Unknown, End}
use Rattle.cg_heaptext_lexer.specs.Next.{Cursor, Finishes, Gives, IsUnknown, Stands, token_of}
use Rattle.cg_heaptext_lexer.proofs.Munch.{IsFront, IsRead, Means, NoToken, among, kind_of, one_text}

-- ---- one token behind a place

white_no_small : (b : ℕ) → small b ≡ true → white b ≡ false
white_no_small b h = grind (arith, nat_tests)

white_no_large : (b : ℕ) → large b ≡ true → white b ≡ false
white_no_large b h = grind (arith, nat_tests)

-- a text that begins with no white space, whatever follows it
abbrev IsDark : List ℕ → Type 0
IsDark x = (rest : List ℕ) → Stops white (x ++ rest)

dark_sign : AllByRecursion IsDark signs
dark_sign = (λ r. refl, (λ r. refl, (λ r. refl, (λ r. refl, (λ r. refl, (λ r. refl, (λ r. refl, (λ r. refl, (λ r. refl, (λ r. refl, (λ r. refl, (λ r. refl, tt))))))))))))

dark_from : (p : ℕ → Bool) → ((b : ℕ) → p b ≡ true → white b ≡ false) → (x rest : List ℕ) → Starts p x → Stops white (x ++ rest)
dark_from p never [] rest h = absurd h
dark_from p never (b ∷ x) rest h = never b h

dark : (t : Token) (rest : List ℕ) → IsToken t → Stops white (token_text t ++ rest)
dark (number x) rest h = dark_from digit digit_dark x rest h.0
dark (lower x) rest h = dark_from small white_no_small x rest h.0
dark (upper x) rest h = dark_from large white_no_large x rest h.0
dark (sign x) rest h = among IsDark signs x dark_sign h rest

-- a text that begins with a byte of a kind that is no white space
begins_dark : (p : ℕ → Bool) → ((b : ℕ) → p b ≡ true → white b ≡ false) → (x rest : List ℕ) → Starts p x → (b : ℕ) × (more : List ℕ) × (x ++ rest ≡ b ∷ more) × (white b ≡ false)
begins_dark p never [] rest h = absurd h
begins_dark p never (b ∷ x) rest h = (b, x ++ rest, refl, never b h)

abbrev BeginsDark : List ℕ → Type 0
BeginsDark x = (rest : List ℕ) → (b : ℕ) × (more : List ℕ) × (x ++ rest ≡ b ∷ more) × (white b ≡ false)

one_byte : (b : ℕ) → white b ≡ false → BeginsDark (b ∷ [])
one_byte b h rest = (b, rest, refl, h)

signs_begin : AllByRecursion BeginsDark signs
signs_begin = (
  one_byte 64 refl,
  (
    one_byte 61 refl,
    (
      one_byte 44 refl,
      (
        one_byte 123 refl,
        (
          one_byte 125 refl,
          (
            λ rest. (35, 123 ∷ rest, refl, refl),
            (
              one_byte 91 refl,
              (
                one_byte 93 refl,
                (
                  one_byte 60 refl,
                  (one_byte 62 refl, (one_byte 40 refl, (one_byte 41 refl, tt))),
                ),
              ),
            ),
          ),
        ),
      ),
    ),
  ),
)

-- the first byte of a token is no white space
pub dark_byte : (t : Token) (rest : List ℕ) → IsToken t → (b : ℕ) × (more : List ℕ) × (token_text t ++ rest ≡ b ∷ more) × (white b ≡ false)
dark_byte (number x) rest h = begins_dark digit digit_dark x rest h.0
dark_byte (lower x) rest h = begins_dark small white_no_small x rest h.0
dark_byte (upper x) rest h = begins_dark large white_no_large x rest h.0
dark_byte (sign x) rest h = among BeginsDark signs x signs_begin h rest

-- no token is empty
pub some_text : (t : Token) → IsToken t → 0 < length (token_text t)
some_text t h = let d = dark_byte t [] h in omega (arith, ap length d.2, length-append (token_text t) [])

-- a token is its kind and its text
abbrev code : TokenKind → ℕ
code Number = 0
code Lower = 1
code Upper = 2
code Sign = 3
code Unknown = 4
code End = 5

same_token : (t u : Token) → code (kind_of t) ≡ code (kind_of u) → token_text t ≡ token_text u → t ≡ u
same_token (number x) (number y) k e = ap number e
same_token (number x) (lower y) k e = absurd (omega arith)
same_token (number x) (upper y) k e = absurd (omega arith)
same_token (number x) (sign y) k e = absurd (omega arith)
same_token (lower x) (number y) k e = absurd (omega arith)
same_token (lower x) (lower y) k e = ap lower e
same_token (lower x) (upper y) k e = absurd (omega arith)
same_token (lower x) (sign y) k e = absurd (omega arith)
same_token (upper x) (number y) k e = absurd (omega arith)
same_token (upper x) (lower y) k e = absurd (omega arith)
same_token (upper x) (upper y) k e = ap upper e
same_token (upper x) (sign y) k e = absurd (omega arith)
same_token (sign x) (number y) k e = absurd (omega arith)
same_token (sign x) (lower y) k e = absurd (omega arith)
same_token (sign x) (upper y) k e = absurd (omega arith)
same_token (sign x) (sign y) k e = ap sign e

-- texts of one length in front of the same bytes
same_front : (x y r q : List ℕ) → length x ≡ length y → x ++ r ≡ y ++ q → (x ≡ y) × (r ≡ q)
same_front x y r q n e = (
  sym (take-append_seam x r) ∙ ap (λ m. take m (x ++ r)) n ∙ ap (take (length y)) e ∙ take-append_seam y q,
  sym (drop-append_seam x r) ∙ ap (λ m. drop m (x ++ r)) n ∙ ap (drop (length y)) e ∙ drop-append_seam y q,
)

pub one_takes : (at : Place) (bytes r q : List ℕ) (t u : Lexeme) → Takes at bytes t r → Takes at bytes u q → (t ≡ u) × (r ≡ q)
one_takes at bytes r q t u k l =
    let g = one_span white k.gap (token_text t.token ++ r) l.gap (token_text u.token ++ q) k.space (dark t.token r k.fits) l.space (dark u.token q l.fits) (sym k.parts ∙ l.parts) in
    let one = one_text t.token u.token r q k.fits k.ends l.fits l.ends g.1 in
    let same = same_front (token_text t.token) (token_text u.token) r q one.1 g.1 in
    let place : t.place ≡ u.place = k.stands ∙ ap (place_after at) g.0 ∙ sym l.stands in
    let token = same_token t.token u.token (ap code one.0) same.0 in
    (λ i. record { token = token i; place = place i }, same.1)

-- ---- cuts

-- the white space before what is left, which begins with none
pub record IsCut (bytes gap rest : List ℕ) : Type 0 where
  pub parts : bytes ≡ gap ++ rest
  pub space : Each white gap
  pub clear : Stops white rest

pub cut : (bytes gap rest : List ℕ) (n : ℕ) → n ≡ prefix_len white bytes → gap ≡ take n bytes → rest ≡ drop n bytes → IsCut bytes gap rest
cut bytes gap rest n e g r =
    let f = front_passes white bytes in
    let m : take (prefix_len white bytes) bytes ≡ gap = sym (g ∙ ap (λ k. take k bytes) e) in
    let d : drop (prefix_len white bytes) bytes ≡ rest = sym (r ∙ ap (λ k. drop k bytes) e) in
    record { parts = sym (take-append-drop n bytes) ∙ (λ i. sym g i ++ sym r i); space = subst (Each white) m f.0; clear = subst (Stops white) d f.1 }

-- where no token begins behind the white space, none is taken
none_taken : (at : Place) (bytes gap rest : List ℕ) → IsCut bytes gap rest → NoToken rest → (t : Lexeme) (after : List ℕ) → Takes at bytes t after → ⊥
none_taken at bytes gap rest c none t after k =
    let g = one_span white gap rest k.gap (token_text t.token ++ after) c.space c.clear k.space (dark t.token after k.fits) (sym c.parts ∙ k.parts) in
    none t.token after k.fits k.ends g.1

module _ (old : Cursor) (gap rest text after : List ℕ) (place behind : Place) (parts : rest ≡ text ++ after) (c : IsCut old.rest gap rest) (p : place ≡ place_after old.place gap) (q : behind ≡ place_after place text) where
  abbrev new : Cursor
  new = record { rest = after; place = behind }

  token_stands : (t : Token) → token_text t ≡ text → IsRead t after → Stands old (record { token = t; place = place }) new
  token_stands t e r = record {
    takes = record { gap = gap; parts = c.parts ∙ ap (λ x. gap ++ x) (parts ∙ ap (λ x. x ++ after) (sym e)); space = c.space; stands = p; fits = r.0; ends = r.1 };
    next = q ∙ ap (place_after place) (sym e);
  }

  nothing_read : text ≡ [] → (rest ≡ after) × (behind ≡ place)
  nothing_read n = (parts ∙ ap (λ x. x ++ after) n, q ∙ ap (place_after place) n)

  unknown_stands : (xs : List ℕ) → after ≡ xs → (text ≡ []) × (after ≡ [] → ⊥) × NoToken after → IsUnknown old place new
  unknown_stands [] e h = absurd (h.1 e)
  unknown_stands (b ∷ xs) e h =
      let s = nothing_read h.0 in
      let is : rest ≡ b ∷ xs = s.0 ∙ e in
      record {
        gap = gap;
        byte = b;
        left = xs;
        parts = c.parts ∙ ap (λ x. gap ++ x) is;
        space = c.space;
        dark = subst (Stops white) is c.clear;
        at = p;
        stays = λ i. record { rest = e i; place = s.1 i };
        no_token = none_taken old.place old.rest gap rest c (subst NoToken (sym s.0) h.2);
      }

  end_stands : (text ≡ []) × (after ≡ []) → Finishes old place new
  end_stands h =
      let s = nothing_read h.0 in
      let whole : old.rest ≡ gap = c.parts ∙ ap (λ x. gap ++ x) (s.0 ∙ h.1) ∙ append-nil gap in
      record { space = subst (Each white) (sym whole) c.space; at = p ∙ ap (place_after old.place) (sym whole); stays = λ i. record { rest = h.1 i; place = s.1 i } }

  kind_stands : (kind : TokenKind) → Means kind text after → Gives kind old (record { token = token_of kind text; place = place }) new
  kind_stands Number m = token_stands (number text) refl m
  kind_stands Lower m = token_stands (lower text) refl m
  kind_stands Upper m = token_stands (upper text) refl m
  kind_stands Sign m = token_stands (sign text) refl m
  kind_stands Unknown m = unknown_stands after refl m
  kind_stands End m = end_stands m

pub gives : (old : Cursor) (gap rest text after : List ℕ) (place behind : Place) (f : Found) → IsCut old.rest gap rest → IsFront rest f → text ≡ take f.len rest → after ≡ drop f.len rest → place ≡ place_after old.place gap → behind ≡ place_after place text
    → Gives f.kind old (record { token = token_of f.kind text; place = place }) (record { rest = after; place = behind })
gives old gap rest text after place behind f c k t a p q =
    let parts : rest ≡ text ++ after = sym (take-append-drop f.len rest) ∙ (λ i. sym t i ++ sym a i) in
    let m : Means f.kind text after = subst (λ x. Means f.kind x after) (sym t) (subst (Means f.kind (take f.len rest)) (sym a) k.means) in
    kind_stands old gap rest text after place behind parts c p q f.kind m
