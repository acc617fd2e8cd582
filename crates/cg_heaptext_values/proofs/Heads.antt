-- What a value is, by its first token.
use Rattle.std.proofs.Common.{◌≡◌, ℕ, true, false, ◌||◌, List, [], ◌∷◌, codes, drop, Option, Some, None, refl, sym, ap, ◌∙◌, subst}
use Rattle.std.proofs.lemmas.Bool.{false≢true, or_parts}
use Rattle.std.specs.Prelude.{if◌then◌else◌}
use Rattle.std.specs.Str.{bytes_eq}
use Rattle.cg_base.specs.declared.place.Place.{Place}
use Rattle.cg_heaptext_def.specs.Grammar.{ReadsFields, ReadsTwo, ReadsValue, truth_text}
use Rattle.cg_heaptext_def.specs.Tokens.{Lexeme, Token, number, lower, upper, sign, token_text}
use Rattle.cg_heaptext_def.specs.Trees.{Written, numeral, truth, nothing, gone, address, constant, applied, inside, tuple, record', Writtens, none, more, first, bare, listed}
use Rattle.cg_heaptext_entries.specs.Index.{Before}
use Rattle.cg_heaptext_entries.proofs.Standing.{reads}
use Rattle.cg_heaptext_entries.specs.declared.entry.Numeral.{Numeral}
use Rattle.cg_heaptext_entries.proofs.Entries.{passes_numeral}
use Rattle.cg_heaptext_lexer.specs.Next.{Cursor, Finishes, Gives, IsUnknown, token_of}
use Rattle.cg_heaptext_lexer.proofs.Walking.{none_in_space, unknown_none}
use denote.Ref.{Bor}
use Rattle.cg_heaptext_lexer.specs.declared.token.TokenKind.{TokenKind}
use Rattle.cg_heaptext_lexer.specs.declared.token.TokenKind.TheVariants.{Number, Lower, Upper, Sign}
use Rattle.cg_heaptext_values.specs.Turns.{layers_of, name_kind, opening, turn}
use Rattle.cg_heaptext_values.specs.declared.head.Head.TheVariants as head
use Rattle.cg_heaptext_values.specs.declared.head.Head.{Head}
use Rattle.cg_heaptext_values.specs.declared.list.FieldsAt.{FieldsAt}
use Rattle.cg_heaptext_values.specs.declared.list.ValuesAt.{ValuesAt}
use Rattle.cg_heaptext_values.specs.declared.turn.NameKind.{NameKind}
use Rattle.cg_heaptext_values.specs.declared.turn.NameKind.TheVariants.{True, False, Constructor}
use Rattle.cg_heaptext_values.specs.declared.turn.Opening.{Opening}
use Rattle.cg_heaptext_values.specs.declared.turn.Opening.TheVariants.{Address, Record, Parenthesis}
use Rattle.cg_heaptext_values.specs.Values.{EndsThere, IsHead, Listed, Named, StandsAt, Tells, begins, begins_at, is_bare, is_end}
use Rattle.cg_heaptext_values.specs.declared.turn.Turn.{Turn}
use Rattle.cg_heaptext_values.specs.declared.turn.Turn.TheVariants.{Opens, Closes, Parts, Stays, Over}
use Rattle.cg_heaptext_values.proofs.Bares.{bare_is, inner}
use Rattle.cg_heaptext_values.proofs.Depths.{insides, layers_are}
use Rattle.cg_heaptext_values.proofs.Takes.{fields_named, two_listed}

-- the first token of a value, at its place
record FirstToken (v : Written) (ts : List Lexeme) : Type 0 where
  token : Lexeme
  behind : List Lexeme
  is : ts ≡ token ∷ behind
  place : token.place ≡ first v

first_token : (v : Written) (ts rest : List Lexeme) → ReadsValue v ts rest → FirstToken v ts
first_token (numeral n) ts rest r = record { token = record { token = number n.digits; place = n.place }; behind = rest; is = r; place = refl }
first_token (truth p b) ts rest r = record { token = record { token = upper (truth_text b); place = p }; behind = rest; is = r; place = refl }
first_token (nothing p) ts rest r = record { token = record { token = sign (codes "("); place = p }; behind = r.0; is = r.1; place = refl }
first_token (gone p) ts rest r = record { token = record { token = lower (codes "_"); place = p }; behind = rest; is = r; place = refl }
first_token (address p n) ts rest r = record { token = record { token = sign (codes "@"); place = p }; behind = r.0; is = r.1; place = refl }
first_token (constant p x) ts rest r = record { token = record { token = upper x; place = p }; behind = rest; is = r.1; place = refl }
first_token (applied p x v) ts rest r = record { token = record { token = upper x; place = p }; behind = r.2.0; is = r.2.1; place = refl }
first_token (inside p v) ts rest r = record { token = record { token = sign (codes "("); place = p }; behind = r.0; is = r.1; place = refl }
first_token (tuple p vs) ts rest r = record { token = record { token = sign (codes "("); place = p }; behind = r.0; is = r.1; place = refl }
first_token (record' p fs) ts rest r = record { token = record { token = sign (codes "#{"); place = p }; behind = r.0; is = r.1; place = refl }

pub first_place : (k : TokenKind) (old new : Cursor) (t : Lexeme) → Gives k old t new → (v : Written) → StandsAt old v → t.place ≡ first v
first_place k old new t g v s =
    let f = first_token v s.ts s.rest s.reads in
    ap (λ (u : Lexeme). u.place) (reads k old new t f.token f.behind (subst (Before old) f.is s.before) g).0 ∙ f.place

-- ---- what begins with a sign, and with a large name

abbrev opened : Token → Option Opening
opened (sign x) = Some (opening x)
opened _ = None

abbrev value_opened : Written → Option Opening
value_opened (nothing p) = Some Parenthesis
value_opened (address p n) = Some Address
value_opened (inside p v) = Some Parenthesis
value_opened (tuple p vs) = Some Parenthesis
value_opened (record' p fs) = Some Record
value_opened _ = None

abbrev named : Token → Option NameKind
named (upper x) = Some (name_kind x)
named _ = None

abbrev value_named : Written → Option NameKind
value_named (truth p true) = Some True
value_named (truth p false) = Some False
value_named (constant p x) = Some Constructor
value_named (applied p x v) = Some Constructor
value_named _ = None

abbrev kind_of : Token → TokenKind
kind_of (number x) = Number
kind_of (lower x) = Lower
kind_of (upper x) = Upper
kind_of (sign x) = Sign

abbrev value_kind : Written → TokenKind
value_kind (numeral n) = Number
value_kind (truth p b) = Upper
value_kind (gone p) = Lower
value_kind (constant p x) = Upper
value_kind (applied p x v) = Upper
value_kind _ = Sign

is_constructor : (x : List ℕ) → (bytes_eq x (truth_text true) || bytes_eq x (truth_text false)) ≡ false → name_kind x ≡ Constructor
is_constructor x e =
    let p = or_parts (bytes_eq x (truth_text true)) (bytes_eq x (truth_text false)) e in
    ap (λ b. if b then True else if bytes_eq x (truth_text false) then False else Constructor) p.0 ∙ ap (λ b. if b then False else Constructor) p.1

abbrev place_in : Place → List Lexeme → Place
place_in p [] = p
place_in p (u ∷ us) = u.place

-- the first of tokens, or another one
abbrev front : Token → List Lexeme → Token
front t [] = t
front t (u ∷ us) = u.token

seen : {A : Type 0} (f : Token → A) (t u : Lexeme) (ts us : List Lexeme) → t ∷ ts ≡ u ∷ us → f t.token ≡ f u.token
seen f t u ts us e = ap (λ l. f (front t.token l)) e

others : (t u : Lexeme) (ts us : List Lexeme) → t ∷ ts ≡ u ∷ us → ts ≡ us
others t u ts us e = ap (drop 1) e

module _ (t : Lexeme) (ts rest : List Lexeme) where
  value_opens : (w : Written) → ReadsValue w (t ∷ ts) rest → opened t.token ≡ value_opened w
  value_opens (numeral n) r = ap (λ l. opened (front t.token l)) r
  value_opens (truth p b) r = ap (λ l. opened (front t.token l)) r
  value_opens (nothing p) r = ap (λ l. opened (front t.token l)) r.1
  value_opens (gone p) r = ap (λ l. opened (front t.token l)) r
  value_opens (address p n) r = ap (λ l. opened (front t.token l)) r.1
  value_opens (constant p x) r = ap (λ l. opened (front t.token l)) r.1
  value_opens (applied p x v) r = ap (λ l. opened (front t.token l)) r.2.1
  value_opens (inside p v) r = ap (λ l. opened (front t.token l)) r.1
  value_opens (tuple p vs) r = ap (λ l. opened (front t.token l)) r.1
  value_opens (record' p fs) r = ap (λ l. opened (front t.token l)) r.1

  value_names : (w : Written) → ReadsValue w (t ∷ ts) rest → named t.token ≡ value_named w
  value_names (numeral n) r = ap (λ l. named (front t.token l)) r
  value_names (truth p true) r = ap (λ l. named (front t.token l)) r
  value_names (truth p false) r = ap (λ l. named (front t.token l)) r
  value_names (nothing p) r = ap (λ l. named (front t.token l)) r.1
  value_names (gone p) r = ap (λ l. named (front t.token l)) r
  value_names (address p n) r = ap (λ l. named (front t.token l)) r.1
  value_names (constant p x) r = ap (λ l. named (front t.token l)) r.1 ∙ ap Some (is_constructor x r.0)
  value_names (applied p x v) r = ap (λ l. named (front t.token l)) r.2.1 ∙ ap Some (is_constructor x r.0)
  value_names (inside p v) r = ap (λ l. named (front t.token l)) r.1
  value_names (tuple p vs) r = ap (λ l. named (front t.token l)) r.1
  value_names (record' p fs) r = ap (λ l. named (front t.token l)) r.1

  value_kinds : (w : Written) → ReadsValue w (t ∷ ts) rest → kind_of t.token ≡ value_kind w
  value_kinds (numeral n) r = ap (λ l. kind_of (front t.token l)) r
  value_kinds (truth p b) r = ap (λ l. kind_of (front t.token l)) r
  value_kinds (nothing p) r = ap (λ l. kind_of (front t.token l)) r.1
  value_kinds (gone p) r = ap (λ l. kind_of (front t.token l)) r
  value_kinds (address p n) r = ap (λ l. kind_of (front t.token l)) r.1
  value_kinds (constant p x) r = ap (λ l. kind_of (front t.token l)) r.1
  value_kinds (applied p x v) r = ap (λ l. kind_of (front t.token l)) r.2.1
  value_kinds (inside p v) r = ap (λ l. kind_of (front t.token l)) r.1
  value_kinds (tuple p vs) r = ap (λ l. kind_of (front t.token l)) r.1
  value_kinds (record' p fs) r = ap (λ l. kind_of (front t.token l)) r.1

-- what stands behind the first token of unit, and of a tuple
value_begins : (v : Written) (ts rest : List Lexeme) → ReadsValue v ts rest → begins ts ≡ true
value_begins (numeral n) ts rest r = ap begins r
value_begins (truth p b) ts rest r = ap begins r
value_begins (nothing p) ts rest r = ap begins r.1
value_begins (gone p) ts rest r = ap begins r
value_begins (address p n) ts rest r = ap begins r.1
value_begins (constant p x) ts rest r = ap begins r.1
value_begins (applied p x v) ts rest r = ap begins r.2.1
value_begins (inside p v) ts rest r = ap begins r.1
value_begins (tuple p vs) ts rest r = ap begins r.1
value_begins (record' p fs) ts rest r = ap begins r.1

two_begin : (vs : Writtens) (ts rest : List Lexeme) → ReadsTwo vs ts rest → begins ts ≡ true
two_begin none ts rest r = absurd r
two_begin (more v none) ts rest r = absurd r
two_begin (more v (more w vs)) ts rest r = value_begins v ts r.0 r.1

-- behind a value none begins
ended : (rest : List Lexeme) → EndsThere rest → begins rest ≡ false
ended [] e = refl
ended (t ∷ ts) e = at (turn t.token) e
  where
    at : (a : Turn) → is_end a ≡ true → begins_at a ≡ false
    at Opens e = absurd (false≢true e)
    at Closes e = refl
    at Parts e = refl
    at Stays e = absurd (false≢true e)
    at Over e = absurd (false≢true e)

module _ (at : Cursor) (t : Lexeme) where
  -- an address, whose number is read behind its sign
  pub tells_address : (place : Place) (x : List ℕ) (k : TokenKind) (y : List ℕ) (new : Cursor) (u : Lexeme) (n : Numeral) → t.token ≡ sign x → t.place ≡ place → opening x ≡ Address → u.token ≡ token_of k y → n.place ≡ u.place → n.digits.now ≡ y → Gives k at u new
      → Tells t at (head.Address place n)
  tells_address place x k y new u n is here o e p q g w ts rest b before r ends = by w (sym (ap Some o) ∙ sym (ap opened is) ∙ value_opens t ts rest w r) b r
    where
      by : (w : Written) → Some Address ≡ value_opened w → is_bare w ≡ true → ReadsValue w (t ∷ ts) rest → IsHead (head.Address place n) w
      by (address p' m) o b r =
          let same : ts ≡ r.0 = others t (record { token = sign (codes "@"); place = p' }) ts r.0 r.1 in
          (sym here ∙ ap (λ l. place_in t.place l) r.1, (passes_numeral k y at new u n e p q g m ts rest before (subst (λ us. us ≡ record { token = number m.digits; place = m.place } ∷ rest) (sym same) r.2)).0)
      by (numeral m) o b r = absurd (cc)
      by (truth p b) o c r = absurd (cc)
      by (nothing p) o b r = absurd (cc)
      by (gone p) o b r = absurd (cc)
      by (constant p x) o b r = absurd (cc)
      by (applied p x v) o b r = absurd (cc)
      by (inside p v) o b r = absurd (cc)
      by (tuple p vs) o b r = absurd (cc)
      by (record' p fs) o b r = absurd (cc)

  -- an unboxed record
  pub tells_record : (x : List ℕ) (fs : FieldsAt) → t.token ≡ sign x → opening x ≡ Record → fs.more ≡ true → fs.lexer ≡ at → Tells t at (head.Record fs)
  tells_record x fs is o on here w ts rest b before r ends = by w (sym (ap Some o) ∙ sym (ap opened is) ∙ value_opens t ts rest w r) r
    where
      by : (w : Written) → Some Record ≡ value_opened w → ReadsValue w (t ∷ ts) rest → IsHead (head.Record fs) w
      by (record' p gs) o r =
          let same : ts ≡ r.0 = others t (record { token = sign (codes "#{"); place = p }) ts r.0 r.1 in
          subst (λ m. Named m fs.lexer gs) (sym on) (subst (λ (c : Cursor). Named true c gs) (sym here) (fields_named gs at ts r.2.0 rest before (subst (λ us. ReadsFields gs us r.2.0) (sym same) r.2.1) (codes "}", refl, r.2.2)))
      by (numeral m) o r = absurd (cc)
      by (truth p b) o r = absurd (cc)
      by (nothing p) o r = absurd (cc)
      by (gone p) o r = absurd (cc)
      by (address p m) o r = absurd (cc)
      by (constant p x) o r = absurd (cc)
      by (applied p x v) o r = absurd (cc)
      by (inside p v) o r = absurd (cc)
      by (tuple p vs) o r = absurd (cc)

  -- a tuple, where a value begins behind its parenthesis, and unit where none does
  pub tells_tuple : (x : List ℕ) (vs : ValuesAt) → t.token ≡ sign x → opening x ≡ Parenthesis → vs.more ≡ true → vs.lexer ≡ at → ((ts : List Lexeme) → Before at ts → true ≡ begins ts) → Tells t at (head.Tuple vs)
  tells_tuple x vs is o on here begun w ts rest b before r ends = by w (sym (ap Some o) ∙ sym (ap opened is) ∙ value_opens t ts rest w r) b r
    where
      by : (w : Written) → Some Parenthesis ≡ value_opened w → is_bare w ≡ true → ReadsValue w (t ∷ ts) rest → IsHead (head.Tuple vs) w
      by (nothing p) o b r = absurd (false≢true (sym (ap begins (others t (record { token = sign (codes "("); place = p }) ts r.0 r.1 ∙ r.2.1)) ∙ sym (begun ts before)))
      by (tuple p ws) o b r =
          let same : ts ≡ r.0 = others t (record { token = sign (codes "("); place = p }) ts r.0 r.1 in
          subst (λ m. Listed m vs.lexer (listed ws)) (sym on) (subst (λ (c : Cursor). Listed true c (listed ws)) (sym here) (two_listed ws at ts r.2.0 rest before (subst (λ us. ReadsTwo ws us r.2.0) (sym same) r.2.1) (codes ")", refl, r.2.2)))
      by (inside p v) o b r = absurd (false≢true b)
      by (numeral m) o b r = absurd (cc)
      by (truth p b) o c r = absurd (cc)
      by (gone p) o b r = absurd (cc)
      by (address p m) o b r = absurd (cc)
      by (constant p x) o b r = absurd (cc)
      by (applied p x v) o b r = absurd (cc)
      by (record' p fs) o b r = absurd (cc)

  pub tells_unit : (x : List ℕ) → t.token ≡ sign x → opening x ≡ Parenthesis → ((ts : List Lexeme) → Before at ts → false ≡ begins ts) → Tells t at head.Nothing
  tells_unit x is o begun w ts rest b before r ends = by w (sym (ap Some o) ∙ sym (ap opened is) ∙ value_opens t ts rest w r) b r
    where
      by : (w : Written) → Some Parenthesis ≡ value_opened w → is_bare w ≡ true → ReadsValue w (t ∷ ts) rest → IsHead head.Nothing w
      by (nothing p) o b r = tt
      by (tuple p ws) o b r = absurd (false≢true (begun ts before ∙ two_begin ws ts r.2.0 (subst (λ us. ReadsTwo ws us r.2.0) (sym (others t (record { token = sign (codes "("); place = p }) ts r.0 r.1)) r.2.1)))
      by (inside p v) o b r = absurd (false≢true b)
      by (numeral m) o b r = absurd (cc)
      by (truth p b) o c r = absurd (cc)
      by (gone p) o b r = absurd (cc)
      by (address p m) o b r = absurd (cc)
      by (constant p x) o b r = absurd (cc)
      by (applied p x v) o b r = absurd (cc)
      by (record' p fs) o b r = absurd (cc)

  -- a constructor, with a payload where a value begins behind it
  pub tells_applied : (x : Bor (List ℕ)) (v : Cursor) → t.token ≡ upper x.now → name_kind x.now ≡ Constructor → v ≡ at → ((ts : List Lexeme) → Before at ts → true ≡ begins ts) → Tells t at (head.Applied x v)
  tells_applied x v is c here begun w ts rest b before r ends = by w (sym (ap Some c) ∙ sym (ap named is) ∙ value_names t ts rest w r) r
    where
      by : (w : Written) → Some Constructor ≡ value_named w → ReadsValue w (t ∷ ts) rest → IsHead (head.Applied x v) w
      by (applied p y w) o r =
          let same : ts ≡ r.2.0 = others t (record { token = upper y; place = p }) ts r.2.0 r.2.1 in (
            ap token_text (sym is) ∙ ap (λ l. token_text (front t.token l)) r.2.1,
            subst (λ (c : Cursor). StandsAt c w) (sym here) (record { ts = ts; rest = rest; before = before; reads = subst (λ us. ReadsValue w us rest) (sym same) r.2.2; ends = ends }),
          )
      by (constant p y) o r = absurd (false≢true (sym (ended rest ends) ∙ ap begins (sym (others t (record { token = upper y; place = p }) ts rest r.1)) ∙ sym (begun ts before)))
      by (truth p true) o r = absurd (cc)
      by (truth p false) o r = absurd (cc)
      by (numeral m) o r = absurd (cc)
      by (nothing p) o r = absurd (cc)
      by (gone p) o r = absurd (cc)
      by (address p m) o r = absurd (cc)
      by (inside p v) o r = absurd (cc)
      by (tuple p vs) o r = absurd (cc)
      by (record' p fs) o r = absurd (cc)

  pub tells_constant : (x : Bor (List ℕ)) → t.token ≡ upper x.now → name_kind x.now ≡ Constructor → ((ts : List Lexeme) → Before at ts → false ≡ begins ts) → Tells t at (head.Constant x)
  tells_constant x is c begun w ts rest b before r ends = by w (sym (ap Some c) ∙ sym (ap named is) ∙ value_names t ts rest w r) r
    where
      by : (w : Written) → Some Constructor ≡ value_named w → ReadsValue w (t ∷ ts) rest → IsHead (head.Constant x) w
      by (applied p y w) o r =
          let same : ts ≡ r.2.0 = others t (record { token = upper y; place = p }) ts r.2.0 r.2.1 in
          absurd (false≢true (begun ts before ∙ ap begins same ∙ value_begins w r.2.0 rest r.2.2))
      by (constant p y) o r = ap token_text (sym is) ∙ ap (λ l. token_text (front t.token l)) r.1
      by (truth p true) o r = absurd (cc)
      by (truth p false) o r = absurd (cc)
      by (numeral m) o r = absurd (cc)
      by (nothing p) o r = absurd (cc)
      by (gone p) o r = absurd (cc)
      by (address p m) o r = absurd (cc)
      by (inside p v) o r = absurd (cc)
      by (tuple p vs) o r = absurd (cc)
      by (record' p fs) o r = absurd (cc)

  -- a number, and `_`
  pub tells_number : (n : Numeral) → t.token ≡ number n.digits.now → n.place ≡ t.place → Tells t at (head.Number n)
  tells_number n is here w ts rest b before r ends = by w (sym (ap kind_of is) ∙ value_kinds t ts rest w r) r
    where
      by : (w : Written) → Number ≡ value_kind w → ReadsValue w (t ∷ ts) rest → IsHead (head.Number n) w
      by (numeral m) o r =
          let place : n.place ≡ m.place = here ∙ ap (λ l. place_in t.place l) r in
          let digits : n.digits.now ≡ m.digits = ap token_text (sym is) ∙ ap (λ l. token_text (front t.token l)) r in
          λ i. record { place = place i; digits = digits i }
      by (truth p b) o r = absurd (cc)
      by (nothing p) o r = absurd (cc)
      by (gone p) o r = absurd (cc)
      by (address p m) o r = absurd (cc)
      by (constant p y) o r = absurd (cc)
      by (applied p y w) o r = absurd (cc)
      by (inside p v) o r = absurd (cc)
      by (tuple p vs) o r = absurd (cc)
      by (record' p fs) o r = absurd (cc)

  pub tells_gone : (x : List ℕ) → t.token ≡ lower x → Tells t at head.Gone
  tells_gone x is w ts rest b before r ends = by w (sym (ap kind_of is) ∙ value_kinds t ts rest w r)
    where
      by : (w : Written) → Lower ≡ value_kind w → IsHead head.Gone w
      by (gone p) o = tt
      by (numeral m) o = absurd (cc)
      by (truth p b) o = absurd (cc)
      by (nothing p) o = absurd (cc)
      by (address p m) o = absurd (cc)
      by (constant p y) o = absurd (cc)
      by (applied p y w) o = absurd (cc)
      by (inside p v) o = absurd (cc)
      by (tuple p vs) o = absurd (cc)
      by (record' p fs) o = absurd (cc)

-- ---- a value

-- another lexer stands behind the parentheses round the value
abbrev pub Behind : Cursor → Cursor → Type 0
Behind old at = (ts : List Lexeme) → Before old ts → Before at (drop (layers_of ts) ts)

-- what is behind the parentheses begins with a token
front_is : (v : Written) (old at : Cursor) → Behind old at → StandsAt old v → (us : List Lexeme) × (rest : List Lexeme) × Before at us × ReadsValue (bare v) us rest × EndsThere rest
front_is v old at behind s =
    let i = inner v s.ts s.rest s.reads s.ends in
    let layers : drop (layers_of s.ts) s.ts ≡ drop (insides v) s.ts = ap (λ n. drop n s.ts) (layers_are v s.ts s.rest s.reads) in
    (drop (insides v) s.ts, i.0, subst (Before at) layers (behind s.ts s.before), i.1, i.2)

pub tells_value : (k : TokenKind) (old at new : Cursor) (t : Lexeme) (h : Head) → Behind old at → Gives k at t new → Tells t new h → (v : Written) → StandsAt old v → IsHead h (bare v)
tells_value k old at new t h behind g tells v s =
    let f = front_is v old at behind s in
    let u = first_token (bare v) f.0 f.1 f.3 in
    let r = reads k at new t u.token u.behind (subst (Before at) u.is f.2) g in
    let same : f.0 ≡ t ∷ u.behind = u.is ∙ ap (λ x. x ∷ u.behind) (sym r.0) in
    tells (bare v) u.behind f.1 (bare_is v) r.1 (subst (λ us. ReadsValue (bare v) us f.1) same f.3) f.4

-- a token is read there
pub unknown_there : (old at new : Cursor) (t : Lexeme) → Behind old at → IsUnknown at t.place new → (v : Written) → StandsAt old v → ⊥
unknown_there old at new t behind g v s =
    let f = front_is v old at behind s in
    let u = first_token (bare v) f.0 f.1 f.3 in
    let b = subst (Before at) u.is f.2 in
    unknown_none at new t.place (u.token ∷ u.behind) b.0 g b.1 b.2

pub end_there : (old at new : Cursor) (t : Lexeme) → Behind old at → Finishes at t.place new → (v : Written) → StandsAt old v → ⊥
end_there old at new t behind g v s =
    let f = front_is v old at behind s in
    let u = first_token (bare v) f.0 f.1 f.3 in
    let b = subst (Before at) u.is f.2 in
    none_in_space at.place at.rest b.2.0 u.token g.space b.2.1
