-- What tokens that were walked say of each whole division of a heap file.
use Rattle.std.proofs.Common.{◌≡◌, ℕ, ◌<◌, List, [], ◌∷◌, ◌++◌, length, refl, sym, ap, ◌∙◌, subst, arith, length-append}
use Rattle.cg_base.proofs.Spans.{not_all}
use Rattle.cg_base.specs.Bytes.{white, Each}
use Rattle.cg_base.specs.declared.place.Place.{Place}
use Rattle.cg_base.specs.Places.{first_place, place_after, place_past}
use Rattle.cg_heaptext_def.specs.HeapText.{place_behind}
use Rattle.cg_heaptext_def.specs.Tokens.{token_text, Lexeme, Takes, Divides, Lexes, behind}
use Rattle.cg_heaptext_lexer.specs.Laws.{OneStand}
use Rattle.cg_heaptext_lexer.specs.Next.{Cursor, start, Stands, IsUnknown, Finishes, Walks}
use Rattle.cg_heaptext_lexer.proofs.Cuts.{dark_byte, one_takes, some_text}

pub one_stand : OneStand
one_stand old a b t u k l =
    let one = one_takes old.place old.rest a.rest b.rest t u k.takes l.takes in
    let place : a.place ≡ b.place = k.next ∙ ap behind one.0 ∙ sym l.next in
    (one.0, λ i. record { rest = one.1 i; place = place i })

-- ---- walks

-- tokens that stand between two cursors divide what stands between them
pub walks_divide : (ts : List Lexeme) (from at : Cursor) → Walks from ts at → Divides from.place from.rest ts at.rest
walks_divide [] from at w = ap (λ (c : Cursor). c.rest) w
walks_divide (t ∷ ts) from at w = (w.0.rest, w.1.takes, subst (λ (p : Place). Divides p w.0.rest ts at.rest) w.1.next (walks_divide ts w.0 at w.2))

-- a token more
pub walks_more : (front : List Lexeme) (from at after : Cursor) (t : Lexeme) → Walks from front at → Stands at t after → Walks from (front ++ t ∷ []) after
walks_more [] from at after t w s = (after, subst (λ (c : Cursor). Stands c t after) (sym w) s, refl)
walks_more (u ∷ front) from at after t w s = (w.0, w.1, walks_more front w.0 at after t w.2 s)

-- the place of a cursor that was walked to
pub walked_place : (ts : List Lexeme) (from at : Cursor) → Walks from ts at → place_behind from.place ts ≡ at.place
walked_place [] from at w = ap (λ (c : Cursor). c.place) w
walked_place (t ∷ ts) from at w = ap (λ p. place_behind p ts) (sym w.1.next) ∙ walked_place ts w.0 at w.2

-- the place behind some bytes, and behind more
place_later : (p : Place) (xs ys : List ℕ) → place_after p (xs ++ ys) ≡ place_after (place_after p xs) ys
place_later p [] ys = refl
place_later p (x ∷ xs) ys = place_later (place_past p x) xs ys

-- the place of the end, told from a cursor
pub walked_end : (ts : List Lexeme) (from at : Cursor) → Walks from ts at → place_after from.place from.rest ≡ place_after at.place at.rest
walked_end [] from at w = ap (λ (c : Cursor). place_after c.place c.rest) w
walked_end (t ∷ ts) from at w =
    let k = w.1.takes in
    let text = token_text t.token in
    ap (place_after from.place) k.parts
    ∙ place_later from.place k.gap (text ++ w.0.rest)
    ∙ place_later (place_after from.place k.gap) text w.0.rest
    ∙ ap (λ p. place_after (place_after p text) w.0.rest) (sym k.stands)
    ∙ ap (λ p. place_after p w.0.rest) (sym w.1.next)
    ∙ walked_end ts w.0 at w.2

-- ---- whole divisions

-- where all is white space no token is taken
pub none_in_space : (at : Place) (bytes rest : List ℕ) (t : Lexeme) → Each white bytes → Takes at bytes t rest → ⊥
none_in_space at bytes rest t space k =
    let d = dark_byte t.token rest k.fits in
    not_all white k.gap d.0 d.1 d.3 (subst (Each white) (k.parts ∙ ap (λ x. k.gap ++ x) d.2) space)

goes_on_from : (front ts : List Lexeme) (p : Place) (bytes rest last : List ℕ) → Divides p bytes front rest → Each white last → Divides p bytes ts last
    → (more : List Lexeme) × (ts ≡ front ++ more) × Divides (place_behind p front) rest more last
goes_on_from [] ts p bytes rest last d space e = (ts, refl, subst (λ x. Divides p x ts last) d e)
goes_on_from (t ∷ front) [] p bytes rest last d space e = absurd (none_in_space p bytes d.0 t (subst (Each white) (sym e) space) d.1)
goes_on_from (t ∷ front) (u ∷ us) p bytes rest last d space e =
    let one = one_takes p bytes d.0 e.0 t u d.1 e.1 in
    let moved : Divides (behind t) d.0 us last = subst (λ x. Divides (behind t) x us last) (sym one.1) (subst (λ (v : Lexeme). Divides (behind v) e.0 us last) (sym one.0) e.2) in
    let r = goes_on_from front us (behind t) d.0 rest last d.2 space moved in
    (r.0, (λ i. sym one.0 i ∷ r.1 i), r.2)

-- each whole division goes on from the tokens that were walked
pub goes_on : (bytes : List ℕ) (front ts : List Lexeme) (at : Cursor) → Walks (start bytes) front at → Lexes bytes ts
    → (more : List Lexeme) × (last : List ℕ) × (ts ≡ front ++ more) × Each white last × Divides at.place at.rest more last
goes_on bytes front ts at w l =
    let r = goes_on_from front ts first_place bytes at.rest l.0 (walks_divide front (start bytes) at w) l.1 l.2 in
    (r.0, l.0, r.1, l.1, subst (λ p. Divides p at.rest r.0 l.0) (walked_place front (start bytes) at w) r.2)

-- ---- what is left

-- behind a token less is left
pub shorter : (old new : Cursor) (t : Lexeme) → Stands old t new → length new.rest < length old.rest
shorter old new t s =
    let d = some_text t.token s.takes.fits in
    omega (arith, d, ap length s.takes.parts, length-append s.takes.gap (token_text t.token ++ new.rest), length-append (token_text t.token) new.rest)

-- tokens behind which only white space is left are the whole file
pub walks_whole : (bytes : List ℕ) (front : List Lexeme) (at new : Cursor) (place : Place) → Walks (start bytes) front at → Finishes at place new → Lexes bytes front
walks_whole bytes front at new place w f = (at.rest, f.space, walks_divide front (start bytes) at w)

-- where only white space is left no token is
pub finishes_none : (at new : Cursor) (place : Place) (ts : List Lexeme) (last : List ℕ) → Finishes at place new → Each white last → Divides at.place at.rest ts last → ts ≡ []
finishes_none at new place [] last f space d = refl
finishes_none at new place (t ∷ ts) last f space d = absurd (none_in_space at.place at.rest d.0 t f.space d.1)

-- where something begins no token, no division goes on
pub unknown_none : (at new : Cursor) (place : Place) (ts : List Lexeme) (last : List ℕ) → IsUnknown at place new → Each white last → Divides at.place at.rest ts last → ⊥
unknown_none at new place [] last u space d = not_all white u.gap u.byte u.left u.dark (subst (Each white) (sym d ∙ u.parts) space)
unknown_none at new place (t ∷ ts) last u space d = u.no_token t d.0 d.1

-- where a token stands, each division goes on with it
pub stands_next : (at after : Cursor) (t : Lexeme) (ts : List Lexeme) (last : List ℕ) → Stands at t after → Each white last → Divides at.place at.rest ts last → (more : List Lexeme) × (ts ≡ t ∷ more)
stands_next at after t [] last s space d = absurd (none_in_space at.place at.rest after.rest t (subst (Each white) (sym d) space) s.takes)
stands_next at after t (u ∷ us) last s space d = (us, ap (λ x. x ∷ us) (sym (one_takes at.place at.rest after.rest d.0 t u s.takes d.1).0))

-- a file is one list of tokens
pub same_tokens : (bytes : List ℕ) (ts us : List Lexeme) → Lexes bytes ts → Lexes bytes us → ts ≡ us
same_tokens bytes ts us k l = go ts us first_place bytes k.0 l.0 k.2 k.1 l.2 l.1
  where
    go : (ts us : List Lexeme) (p : Place) (bytes last last' : List ℕ) → Divides p bytes ts last → Each white last → Divides p bytes us last' → Each white last' → ts ≡ us
    go [] [] p bytes last last' d s e t = refl
    go [] (u ∷ us) p bytes last last' d s e t = absurd (none_in_space p bytes e.0 u (subst (Each white) (sym d) s) e.1)
    go (v ∷ ts) [] p bytes last last' d s e t = absurd (none_in_space p bytes d.0 v (subst (Each white) (sym e) t) d.1)
    go (v ∷ ts) (u ∷ us) p bytes last last' d s e t =
        let one = one_takes p bytes d.0 e.0 v u d.1 e.1 in
        let moved : Divides (behind v) d.0 us last' = subst (λ x. Divides (behind v) x us last') (sym one.1) (subst (λ (w : Lexeme). Divides (behind w) e.0 us last') (sym one.0) e.2) in
        let more = go ts us (behind v) d.0 last last' d.2 s moved t in
        λ i. one.0 i ∷ more i
