-- Going over tokens, what was found goes on to what is found with their mentions.
use Rattle.std.proofs.Common.{◌≡◌, ℕ, zero, suc, ◌+◌, ◌-◌, ◌<◌, Bool, true, false, List, [], ◌∷◌, ◌++◌, length, Option, Some, None, refl, sym, ap, ◌∙◌, subst, arith}
use Rattle.std.proofs.lemmas.Bool.{false≢true}
use Rattle.cg_base.specs.Bytes.{digit, Each}
use Rattle.cg_base.specs.declared.place.Place.{Place}
use Rattle.cg_heaptext_def.specs.HeapText.{Mention}
use Rattle.cg_heaptext_def.specs.Tokens.{IsToken, Lexeme, Token, number, lower, upper, sign}
use Rattle.cg_heaptext_entries.specs.Index.{Before}
use Rattle.cg_heaptext_entries.specs.declared.entry.Numeral.{Numeral}
use Rattle.cg_heaptext_entries.proofs.Standing.{reads, reads_none}
use Rattle.cg_heaptext_lexer.specs.Next.{Cursor, Gives, token_of}
use Rattle.cg_heaptext_lexer.specs.declared.token.TokenKind.{TokenKind}
use Rattle.cg_heaptext_lexer.specs.declared.token.TokenKind.TheVariants.{Number, Lower, Upper, Sign, Unknown, End}
use Rattle.cg_heaptext_lexer.proofs.Walking.{none_in_space, shorter, unknown_none}
use Rattle.cg_heaptext_index.specs.Addresses.{IsMapOf}
use Rattle.cg_heaptext_index.specs.declared.map.Addresses.{Addresses}
use Rattle.cg_heaptext_mentions.specs.Judged.{absent_after, lacks, mention_out_of_range, note, note_all, out_after}
use Rattle.cg_heaptext_mentions.specs.Scans.{GivesNumber, NotesAt, Scans}
use Rattle.cg_heaptext_mentions.specs.Steps.{as_number, begun, met, next_depth, read_step, step}
use Rattle.cg_heaptext_mentions.specs.declared.found.Mentions.{Mentions}
use Rattle.cg_heaptext_mentions.specs.declared.step.Step.{Step}
use Rattle.cg_heaptext_mentions.specs.declared.step.Step.TheVariants.{At, Opens, Closes, Stays, Over}

-- ---- the number that stands next

-- the digits of a number
abbrev HasDigits : Token → Type 0
HasDigits (number x) = Each digit x
HasDigits (lower x) = Unit {0}
HasDigits (upper x) = Unit {0}
HasDigits (sign x) = Unit {0}

has_digits : (t : Token) → IsToken t → HasDigits t
has_digits (number x) h = h.1
has_digits (lower x) h = tt
has_digits (upper x) h = tt
has_digits (sign x) h = tt

gives_number : (x : List ℕ) (old new : Cursor) (t : Lexeme) (n : Numeral) → t.token ≡ number x → n.digits.now ≡ x → n.place ≡ t.place → Gives Number old t new → GivesNumber old (Some n)
gives_number x old new t n e d p g [] b = let none = (reads_none Number old new t b g).0 in absurd (cc)
gives_number x old new t n e d p g (u ∷ us) b =
    let r = reads Number old new t u us b g in
    let token : u.token ≡ number x = ap (λ (v : Lexeme). v.token) (sym r.0) ∙ e in
    let place : n.place ≡ u.place = p ∙ ap (λ (v : Lexeme). v.place) r.0 in
    let digits : Each digit x = subst HasDigits token (has_digits u.token b.2.1.fits) in
    (ap Some (λ i. record { place = place i; digits = d i }) ∙ ap (as_number u.place) (sym token), subst (Each digit) (sym d) digits)

pub number_given : (k : TokenKind) (x : List ℕ) (at old new : Cursor) (t : Lexeme) (n : Numeral) → t.token ≡ token_of k x → old ≡ at → k ≡ Number → n.digits.now ≡ x → n.place ≡ t.place → Gives k old t new → GivesNumber at (Some n)
number_given k x at old new t n e is kind d p g =
    subst (λ (c : Cursor). GivesNumber c (Some n)) is (gives_number x old new t n (e ∙ ap (λ j. token_of j x) kind) d p (subst (λ j. Gives j old t new) kind g))

-- where another token stands next, or none
no_number : (k : TokenKind) (x : List ℕ) (old new : Cursor) (t : Lexeme) → t.token ≡ token_of k x → (k ≡ Number → ⊥) → Gives k old t new → GivesNumber old None
no_number k x old new t e not g [] b = (refl, tt)
no_number Number x old new t e not g (u ∷ us) b = absurd (not refl)
no_number Lower x old new t e not g (u ∷ us) b = let r = reads Lower old new t u us b g in (sym (ap (as_number u.place) (ap (λ (v : Lexeme). v.token) (sym r.0) ∙ e)), tt)
no_number Upper x old new t e not g (u ∷ us) b = let r = reads Upper old new t u us b g in (sym (ap (as_number u.place) (ap (λ (v : Lexeme). v.token) (sym r.0) ∙ e)), tt)
no_number Sign x old new t e not g (u ∷ us) b = let r = reads Sign old new t u us b g in (sym (ap (as_number u.place) (ap (λ (v : Lexeme). v.token) (sym r.0) ∙ e)), tt)
no_number Unknown x old new t e not g (u ∷ us) b = absurd (unknown_none old new t.place (u ∷ us) b.0 g b.1 b.2)
no_number End x old new t e not g (u ∷ us) b = absurd (none_in_space old.place old.rest b.2.0 u g.space b.2.1)

pub number_lacks : (k : TokenKind) (x : List ℕ) (at old new : Cursor) (t : Lexeme) → t.token ≡ token_of k x → old ≡ at → (k ≡ Number → ⊥) → Gives k old t new → GivesNumber at None
number_lacks k x at old new t e is not g = subst (λ (c : Cursor). GivesNumber c None) is (no_number k x old new t e not g)

-- ---- a token more

-- the lexer's kind and text say the same as the token
step_same : (k : TokenKind) (x : List ℕ) (old new : Cursor) (t u : Lexeme) (ts : List Lexeme) → Before old (u ∷ ts) → Gives k old t new → step (token_of k x) ≡ read_step k x
step_same Number x old new t u ts b g = refl
step_same Lower x old new t u ts b g = refl
step_same Upper x old new t u ts b g = refl
step_same Sign x old new t u ts b g = refl
step_same Unknown x old new t u ts b g = absurd (unknown_none old new t.place (u ∷ ts) b.0 g b.1 b.2)
step_same End x old new t u ts b g = absurd (none_in_space old.place old.rest b.2.0 u g.space b.2.1)

stepped : (k : TokenKind) (x : List ℕ) (old new : Cursor) (t : Lexeme) (d : ℕ) (us : List Lexeme) → t.token ≡ token_of k x → Gives k old t new → Before old us
    → (vs : List Lexeme) × Before new vs × (met (Some d) us ≡ begun (read_step k x) t.place vs ++ met (next_depth (read_step k x) d) vs)
stepped k x old new t d [] e g b =
    let r = reads_none k old new t b g in
    ([], r.1, ap (λ y. begun (read_step y x) t.place [] ++ met (next_depth (read_step y x) d) []) (sym r.0))
stepped k x old new t d (u ∷ us) e g b =
    let r = reads k old new t u us b g in
    let same : step u.token ≡ read_step k x = ap (λ (v : Lexeme). step v.token) (sym r.0) ∙ ap step e ∙ step_same k x old new t u us b g in
    let place : u.place ≡ t.place = ap (λ (v : Lexeme). v.place) (sym r.0) in
    (us, r.1, λ i. begun (same i) (place i) us ++ met (next_depth (same i) d) us)

-- how the depth is counted
pub opens_inner : (d : ℕ) → next_depth Opens d ≡ Some (d + 1)
opens_inner d = ap Some (omega arith)

pub closes_outer : (d : ℕ) → d ≡ 0 → next_depth Closes d ≡ None
closes_outer zero e = refl
closes_outer (suc d) e = absurd (omega arith)

pub closes_inner : (d : ℕ) → 0 < d → next_depth Closes d ≡ Some (d - 1)
closes_inner zero e = absurd (omega arith)
closes_inner (suc d) e = ap Some (omega arith)

-- whether a token was read
abbrev pub is_token : Step → Bool
is_token At = true
is_token Opens = true
is_token Closes = true
is_token Stays = true
is_token Over = false

-- behind a token less is left
pub step_shorter : (k : TokenKind) (x : List ℕ) (old new : Cursor) (t : Lexeme) (s : Step) → s ≡ read_step k x → is_token s ≡ true → Gives k old t new → length new.rest < length old.rest
step_shorter Number x old new t s e h g = shorter old new t g
step_shorter Lower x old new t s e h g = shorter old new t g
step_shorter Upper x old new t s e h g = shorter old new t g
step_shorter Sign x old new t s e h g = shorter old new t g
step_shorter Unknown x old new t s e h g = absurd (false≢true (ap is_token (sym e) ∙ h))
step_shorter End x old new t s e h g = absurd (false≢true (ap is_token (sym e) ∙ h))

-- ---- the loop

module _ (test : Mention → Bool) (place : Mention → Place) where
  pub note_both : (found : Option Place) (ms ns : List Mention) → note_all test place found (ms ++ ns) ≡ note_all test place (note_all test place found ms) ns
  note_both found [] ns = refl
  note_both found (m ∷ ms) ns = note_both (note test place found m) ms ns

  -- Where these tokens stood before, others stand now, and with the mentions of those the same is found.
  abbrev pub Going : Cursor → Cursor → Option ℕ → Option Place → Option Place → Type 0
  Going first now o before found = (ts : List Lexeme) → Before first ts → (us : List Lexeme) × Before now us × (note_all test place before (met (Some zero) ts) ≡ note_all test place found (met o us))

  -- at the beginning
  pub going : (first now : Cursor) (before : Option Place) → now ≡ first → Going first now (Some zero) before before
  going first now before is ts b = (ts, subst (λ (c : Cursor). Before c ts) (sym is) b, refl)

  -- a token more, which does this
  pub turned : (k : TokenKind) (x : List ℕ) (first old new : Cursor) (t : Lexeme) (s : Step) (d : ℕ) (o : Option ℕ) (before found next : Option Place) → t.token ≡ token_of k x → s ≡ read_step k x → next_depth s d ≡ o
      → ((us : List Lexeme) → Before new us → next ≡ note_all test place found (begun s t.place us)) → Gives k old t new → Going first old (Some d) before found → Going first new o before next
  turned k x first old new t s d o before found next e same depth noting g w ts b =
      let r = w ts b in
      let q = stepped k x old new t d r.0 e g r.1 in
      let parts : met (Some d) r.0 ≡ begun s t.place q.0 ++ met o q.0 =
      q.2 ∙ ap (λ y. begun y t.place q.0 ++ met (next_depth y d) q.0) (sym same) ∙ ap (λ y. begun s t.place q.0 ++ met y q.0) depth in
      (q.0, q.1, r.2 ∙ ap (note_all test place found) parts ∙ note_both found (begun s t.place q.0) (met o q.0) ∙ ap (λ f. note_all test place f (met o q.0)) (sym (noting q.0 q.1)))

  -- behind the last
  pub scans : (first new : Cursor) (before found : Option Place) → Going first new None before found → Scans (note_all test place) first before found
  scans first new before found w ts b = let r = w ts b in sym r.2

-- what is absent, and what is out of range
pub record Scanned (addresses : Addresses) (first now : Cursor) (o : Option ℕ) (before found : Mentions) : Type 0 where
  pub absent : (ns : List ℕ) → IsMapOf addresses ns → Going (lacks ns) (λ m. m.place) first now o before.absent found.absent
  pub out : Going mention_out_of_range (λ m. m.address.place) first now o before.out found.out

pub scanned : (addresses : Addresses) (first now : Cursor) (before : Mentions) → now ≡ first → Scanned addresses first now (Some zero) before before
scanned addresses first now before is = record { absent = λ ns m. going (lacks ns) (λ m. m.place) first now before.absent is; out = going mention_out_of_range (λ m. m.address.place) first now before.out is }

module _ (addresses : Addresses) (k : TokenKind) (x : List ℕ) (first old new : Cursor) (t : Lexeme) (e : t.token ≡ token_of k x) (g : Gives k old t new) (d : ℕ) (before found : Mentions) (w : Scanned addresses first old (Some d) before found) where
  -- a mention more
  pub mention_turned : (next : Mentions) → At ≡ read_step k x → ((ns : List ℕ) → IsMapOf addresses ns → NotesAt (absent_after ns) t.place new found.absent next.absent) → NotesAt out_after t.place new found.out next.out → Scanned addresses first new (Some d) before next
  mention_turned next same absent out = record {
    absent = λ ns m. turned (lacks ns) (λ m. m.place) k x first old new t At d (Some d) before.absent found.absent next.absent e same refl (absent ns m) g (w.absent ns m);
    out = turned mention_out_of_range (λ m. m.address.place) k x first old new t At d (Some d) before.out found.out next.out e same refl out g w.out;
  }

  -- a token more that begins none
  pub other_turned : (s : Step) (o : Option ℕ) → s ≡ read_step k x → next_depth s d ≡ o → ((us : List Lexeme) → begun s t.place us ≡ []) → Scanned addresses first new o before found
  other_turned s o same depth none = record {
    absent = λ ns m. turned (lacks ns) (λ m. m.place) k x first old new t s d o before.absent found.absent found.absent e same depth (λ us b. ap (absent_after ns found.absent) (sym (none us))) g (w.absent ns m);
    out = turned mention_out_of_range (λ m. m.address.place) k x first old new t s d o before.out found.out found.out e same depth (λ us b. ap (out_after found.out) (sym (none us))) g w.out;
  }

-- behind the last
pub scans_absent : (addresses : Addresses) (first new : Cursor) (before found : Mentions) → Scanned addresses first new None before found → (ns : List ℕ) → IsMapOf addresses ns → Scans (absent_after ns) first before.absent found.absent
scans_absent addresses first new before found w ns m = scans (lacks ns) (λ m. m.place) first new before.absent found.absent (w.absent ns m)

pub scans_out : (addresses : Addresses) (first new : Cursor) (before found : Mentions) → Scanned addresses first new None before found → Scans out_after first before.out found.out
scans_out addresses first new before found w = scans mention_out_of_range (λ m. m.address.place) first new before.out found.out w.out
