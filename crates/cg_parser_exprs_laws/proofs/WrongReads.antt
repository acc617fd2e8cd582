-- What an unfinished expression has read leads the machine to its frames.
use Rattle.std.proofs.Common.{◌≡◌, ◌⊎◌, inl, inr, ⊎_elim, ℕ, zero, suc, ◌≤◌, List, [], ◌∷◌, refl, sym, ◌∙◌, ap, arith, false, true, Some, None}
use Rattle.std.proofs.lemmas.Bool.{le-leb}
use Rattle.cg_base.specs.declared.place.Place.{Place}
use Rattle.cg_base.specs.Reader.{Reader}
use Rattle.cg_core.specs.declared.at.At.{At}
use Rattle.cg_core.specs.declared.op.Op.TheVariants.{Complement, Not}
use Rattle.cg_surface.specs.Written.{Written}
use Rattle.cg_surface.specs.Patterns.{Pattern}
use Rattle.cg_surface.specs.Exprs.{Expr, unit, unary, no_exprs, and_expr, no_fields, no_binds, and_bind, Alts, no_alts, and_alt}
use Rattle.cg_parser_symbols.specs.Symbols.{Symbol, Seen, lower, upper, opening, unboxed, brace, in_word, then_word, else_word, not_word, complement_word, upcast_word, let_word, if_word, bar, equals}
use Rattle.cg_parser_symbols.specs.Readings.{token}
use Rattle.cg_parser_exprs_def.specs.Asked.{Asked}
use Rattle.cg_parser_exprs_def.specs.Grammar.{looseness, AreNamed, AltsBind}
use Rattle.cg_parser_exprs_def.specs.Grammar as grammar
use Rattle.cg_parser_exprs_def.specs.Machine.{Owner, Record, Put, Operation, Upcast, InParen, InTuple, InField, Argument, Payload, Operand, RightOf, Bound, Body, Condition, Then, Else, Branch, Want, AfterUpper, WantField, AfterField, InPattern, WantAlt, starts_atom, is_second, ToLeft, ToRight}
use Rattle.cg_parser_exprs_def.specs.Unfinished as unfinished
use Rattle.cg_parser_exprs_def.specs.Unfinished.{Frame, outcome, Fits, OwnerFits}
use Rattle.cg_parser_exprs_laws.proofs.CompleteSteps.{level_high, left_high, loose_le, anywhere, stands, First, first}
use Rattle.cg_parser_exprs_laws.proofs.CompleteModes as modes
use Rattle.cg_parser_exprs_laws.proofs.CompleteModes.{go, called, as_wanted, upper_starts, op_read, ended, seen_ends, bar_opens, bar_joins, open_of}
use Rattle.cg_parser_exprs_laws.proofs.CompleteParts.{head_read, pattern_read, seen_read}
use Rattle.cg_parser_exprs_laws.proofs.Complete as complete
use Rattle.cg_parser_exprs_laws.proofs.Complete.{reads, list_read, fields_read, binds_read, alts_read}

-- what stands where there is so much room begins with a token that is no second sign of a shift, and with one of an atom where nothing
-- else has room
pub record Next (r : ℕ) (ts : List Seen) : Type 0 where
  pub y : Symbol
  pub p : Place
  pub more : List Seen
  pub reads : token y p ts more
  pub left : is_second ToLeft y ≡ false
  pub right : is_second ToRight y ≡ false
  pub atom : r ≡ 0 → starts_atom y ≡ true

-- an expression does
pub next_of : (e : Expr) (r : ℕ) (ts : List Seen) → looseness e ≤ r → First e ts → Next r ts
next_of e r ts h f = record { y = f.y; p = f.p; more = f.more; reads = f.reads; left = f.left; right = f.right; atom = λ z. f.atom (omega arith) }

-- and what does begins as an operand, or as an atom where nothing else has room
as_operand : (r : ℕ) (ts : List Seen) (n : Next r ts) → First (unary n.p Not (unit n.p)) ts
as_operand r ts n = record { y = n.y; p = n.p; more = n.more; reads = n.reads; left = n.left; right = n.right; atom = λ l. absurd (omega arith) }

as_atom : (r : ℕ) (ts : List Seen) (n : Next r ts) → r ≡ 0 → First (unit n.p) ts
as_atom r ts n z = record { y = n.y; p = n.p; more = n.more; reads = n.reads; left = n.left; right = n.right; atom = λ l. n.atom z }

-- what holds where there is room holds, or there is none
pub or_none : {A : Type 0} (r : ℕ) → ((1 ≤ r) → A) → A ⊎ (r ≡ 0)
or_none zero h = inr refl
or_none (suc r) h = inl (h (omega arith))

module _ {TS PS : Type 0} (types : Reader TS Seen Written) (patterns : Reader PS Seen Pattern) (OfType : List Seen → Written → Type 0) (OfPattern : List Seen → Pattern → Type 0)
    (asked : Asked TS PS types patterns OfType OfPattern) where
  abbrev Stage : Type 0
  Stage = modes.Stage types patterns

  abbrev closed : ℕ → Expr → List Frame → Expr × List Frame
  closed = modes.closed types patterns

  abbrev room : List Frame → ℕ
  room = modes.room types patterns

  abbrev opens : List Frame → List ℕ
  opens = modes.opens types patterns

  abbrev run : Stage → List Seen → Stage
  run = modes.run types patterns

  abbrev observing : Stage → Expr × List Frame → List At → Stage
  observing = modes.observing types patterns

  abbrev Reached : Expr → List Frame → List ℕ → List Seen → List Seen → Type 0
  Reached = modes.Reached types patterns

  abbrev Opening : Stage → Expr → List At → List Frame → Type 0
  Opening = complete.Opening types patterns OfType OfPattern asked

  abbrev Whole : Expr → List Seen → List Seen → Type 0
  Whole = unfinished.Whole OfType OfPattern

  abbrev OwnerRead : Owner Expr → List Seen → List Seen → Type 0
  OwnerRead = unfinished.OwnerRead OfType OfPattern

  abbrev BarRead : Alts → ℕ → List ℕ → List Seen → List Seen → Type 0
  BarRead = unfinished.BarRead OfType OfPattern

  abbrev Begun : List ℕ → Frame → List Seen → List Seen → Type 0
  Begun = unfinished.Begun OfType OfPattern

  abbrev Below : List Frame → List Seen → List Seen → Type 0
  Below = unfinished.Below OfType OfPattern

  abbrev Good : List Frame → Type 0
  Good = unfinished.Good OfType OfPattern

  -- the first token of an expression in a frame of its own
  whole_next : (e : Expr) (r : ℕ) (ts rest : List Seen) → looseness e ≤ r → grammar.Binds e → Whole e ts rest → Next r ts
  whole_next e r ts rest h b w = next_of e r ts h (first OfType OfPattern e [] w.0 ts rest b w.1)

  -- the first token of a frame
  begun_next : (f : Frame) (fs : List Frame) (ts rest : List Seen) → outcome f ≤ room fs → Fits (room fs) f → Begun (opens fs) f ts rest → Next (room fs) ts
  begun_next (InParen p) fs ts rest h g r = record { y = opening; p = p; more = rest; reads = r; left = refl; right = refl; atom = λ z. refl }
  begun_next (InTuple p es) fs ts rest h g r = record { y = opening; p = p; more = r.0; reads = r.1; left = refl; right = refl; atom = λ z. refl }
  begun_next (InField (Record p) gs at) fs ts rest h g r = record { y = unboxed; p = p; more = r.0; reads = r.1; left = refl; right = refl; atom = λ z. refl }
  begun_next (InField (Put e) gs at) fs ts rest h g r = whole_next e (room fs) ts r.1.0 (omega (arith, g.0.0)) g.0.1 r.1.1
  begun_next (Argument f) fs ts rest h g r = whole_next f (room fs) ts rest (omega (arith, h, g.0)) g.2 r
  begun_next (Payload p n) fs ts rest h g r = record { y = upper n; p = p; more = rest; reads = r; left = refl; right = refl; atom = λ z. refl }
  begun_next (Operand p (Operation Complement)) fs ts rest h g r = record { y = complement_word; p = p; more = rest; reads = r; left = refl; right = refl; atom = λ z. absurd (omega arith) }
  begun_next (Operand p (Operation Not)) fs ts rest h g r = record { y = not_word; p = p; more = rest; reads = r; left = refl; right = refl; atom = λ z. absurd (omega arith) }
  begun_next (Operand p (Operation o)) fs ts rest h g r = absurd r
  begun_next (Operand p Upcast) fs ts rest h g r = record { y = upcast_word; p = p; more = rest; reads = r; left = refl; right = refl; atom = λ z. absurd (omega arith) }
  begun_next (RightOf p o a) fs ts rest h g r = whole_next a (room fs) ts r.0 (omega (arith, h, g.1, left_high o)) g.3 r.1
  begun_next (Bound p bs x) fs ts rest h g r = record { y = let_word; p = p; more = r.0; reads = r.1; left = refl; right = refl; atom = λ z. absurd (omega arith) }
  begun_next (Body p bs) fs ts rest h g r = record { y = let_word; p = p; more = r.0; reads = r.1; left = refl; right = refl; atom = λ z. absurd (omega arith) }
  begun_next (Condition p) fs ts rest h g r = record { y = if_word; p = p; more = rest; reads = r; left = refl; right = refl; atom = λ z. absurd (omega arith) }
  begun_next (Then p c seen) fs ts rest h g r = record { y = if_word; p = p; more = r.0; reads = r.1; left = refl; right = refl; atom = λ z. absurd (omega arith) }
  begun_next (Else p c seen a) fs ts rest h g r = record { y = if_word; p = p; more = r.0; reads = r.1; left = refl; right = refl; atom = λ z. absurd (omega arith) }
  begun_next (Branch o p c x) fs ts rest h g r = whole_next o.subject (room fs) ts r.1.0 (omega (arith, h, g.0)) g.2 r.1.1

  -- an expression that no match ends, in a frame of its own, is read where there is room for it
  whole_reads : (e : Expr) (fs : List Frame) (ts rest : List Seen) → grammar.Binds e → modes.Fits types patterns e fs → looseness e ≤ room fs → looseness e ≤ 11 → Whole e ts rest → Reached e fs (opens fs) ts rest
  whole_reads e fs ts rest b fit h l w =
      reads types patterns OfType OfPattern asked e fs (opens fs) ts rest b fit h (anywhere OfType OfPattern e [] w.0 (opens fs) ts rest l w.1)

  -- what the fields in braces belong to
  owner_reads : (o : Owner Expr) (fs : List Frame) (ts rest : List Seen) → OwnerFits (room fs) o → OwnerRead o ts rest → run (Want fs) ts ≡ run (WantField o no_fields fs) rest
  owner_reads (Record p) fs ts rest g r = go types patterns (Want fs) unboxed p ts rest (WantField (Record p) no_fields fs) r refl
  owner_reads (Put e) fs ts rest g r =
      let heads = or_none (room fs) g.2 in
      let m = whole_reads e fs ts r.0 g.1 (⊎_elim (λ x. inl (stands e x)) (λ x. inr x) heads) (omega (arith, g.0)) (omega (arith, g.0)) r.1 in
      m.2 ∙ go types patterns m.0 brace r.2.0 r.0 rest (WantField (Put e) no_fields fs) r.2.1 (m.1.braces g.0 heads r.2.0)

  -- a match up to a bar, behind its subject and what is observed
  bar_reads : (s : Stage) (e : Expr) (seen : List At) (before : Alts) (c : ℕ) (fs : List Frame) (ts rest : List Seen) → Opening s e seen fs → AreNamed before → AltsBind before → BarRead before c (opens fs) ts rest
      → run s ts ≡ run (WantAlt (open_of types patterns e seen before c) fs) rest
  bar_reads s e seen no_alts c fs ts rest opens_bar n b r =
      go types patterns s (bar r.1) r.0 ts rest (WantAlt (open_of types patterns e seen no_alts c) fs) r.4 (opens_bar r.1 r.0 r.3 ∙ ap (λ column. WantAlt (open_of types patterns e seen no_alts column) fs) (sym r.2))
  bar_reads s e seen (and_alt choices p None x a) c fs ts rest opens_bar n b r = absurd n
  bar_reads s e seen (and_alt choices p (Some name) x a) c fs ts rest opens_bar n b r =
      let l = r.6 in
      let w = alts_read types patterns OfType OfPattern asked s e seen c fs opens_bar (and_alt choices p (Some name) x a) r.0 ts l.0 n b l.1 in
      w.2 ∙ go types patterns w.0 (bar r.2) r.1 l.0 rest (WantAlt (open_of types patterns e seen (and_alt choices p (Some name) x a) c) fs) l.2 (bar_joins types patterns (open_of types patterns e seen choices c) p name x a fs r.0 r.3 w.0 w.1 r.4 r.2 r.1 r.5)

  -- the condition of an `if`, with what is observed, up to its `then`
  condition_reads : (p : Place) (c : Expr) (seen : List At) (fs : List Frame) (ts rest : List Seen) → 12 ≤ room fs → grammar.Stands c → grammar.Binds c → Begun (opens fs) (Then p c seen) ts rest → run (Want fs) ts ≡ run (Want (Then p c seen ∷ fs)) rest
  condition_reads p c seen fs ts rest h st b r =
      let k = r.2 in let j = k.2 in
      let m = reads types patterns OfType OfPattern asked c (Condition p ∷ fs) k.1.0 r.0 k.0 b (inl st) (loose_le c) k.1.1 in
      go types patterns (Want fs) if_word p ts r.0 (Want (Condition p ∷ fs)) r.1 (rw (le-leb 12 (room fs) h) refl)
      ∙ m.2
      ∙ seen_read types patterns OfType OfPattern asked c (Condition p ∷ fs) k.1.0 m.0 m.1 seen k.0 j.0 j.1
      ∙ go types patterns (observing m.0 (closed 11 m.1.inner m.1.frames) seen) then_word j.2.0 j.0 rest (Want (Then p c seen ∷ fs)) j.2.1
      (seen_ends types patterns (Condition p) c fs k.1.0 m.0 (omega arith) m.1 then_word j.2.0 refl seen)

  -- what a frame has read leads to it, where what stands behind goes on with it
  begun_reads : (f : Frame) (fs : List Frame) (ts rest : List Seen) → outcome f ≤ room fs → Fits (room fs) f → Next (room (f ∷ fs)) rest → Begun (opens fs) f ts rest → run (Want fs) ts ≡ run (Want (f ∷ fs)) rest
  begun_reads (InParen p) fs ts rest h g n r = go types patterns (Want fs) opening p ts rest (Want (InParen p ∷ fs)) r refl
  begun_reads (InTuple p no_exprs) fs ts rest h g n r = absurd (g.0 (unit p))
  begun_reads (InTuple p (and_expr es e)) fs ts rest h g n r =
      go types patterns (Want fs) opening p ts r.0 (Want (InParen p ∷ fs)) r.1 refl
      ∙ list_read types patterns OfType OfPattern asked p fs (and_expr es e) r.0 rest g.1 r.2
  begun_reads (InField o gs at) fs ts rest h g n r =
      let k = r.2 in let j = k.2 in
      owner_reads o fs ts r.0 g.0 r.1
      ∙ fields_read types patterns OfType OfPattern asked o fs gs r.0 k.0 g.1 k.1
      ∙ go types patterns (WantField o gs fs) (lower at.name) at.place k.0 j.0 (AfterField o gs at fs) j.1 refl
      ∙ go types patterns (AfterField o gs at fs) equals j.2.0 j.0 rest (Want (InField o gs at ∷ fs)) j.2.1 refl
  begun_reads (Argument f) fs ts rest h g n r =
      let m = whole_reads f fs ts rest g.2 (inl (stands f g.1)) (omega (arith, h, g.0)) (omega (arith, g.0)) r in
      m.2 ∙ as_wanted types patterns m.0 (Argument f ∷ fs) (λ y p s. called types patterns f fs (opens fs) m.0 g.0 h (inl g.1) m.1 y p s) (unit n.p) rest (omega arith) (as_atom 0 rest n refl)
  begun_reads (Payload p name) fs ts rest h g n r =
      go types patterns (Want fs) (upper name) p ts rest (AfterUpper p name fs) r (rw (le-leb 1 (room fs) (omega (arith, h))) refl)
      ∙ as_wanted types patterns (AfterUpper p name fs) (Payload p name ∷ fs) (λ y q s. upper_starts types patterns p name fs y q s) (unit n.p) rest (omega arith) (as_atom 0 rest n refl)
  begun_reads (Operand p (Operation Complement)) fs ts rest h g n r = go types patterns (Want fs) complement_word p ts rest (Want (Operand p (Operation Complement) ∷ fs)) r (rw (le-leb 2 (room fs) h) refl)
  begun_reads (Operand p (Operation Not)) fs ts rest h g n r = go types patterns (Want fs) not_word p ts rest (Want (Operand p (Operation Not) ∷ fs)) r (rw (le-leb 2 (room fs) h) refl)
  begun_reads (Operand p (Operation o)) fs ts rest h g n r = absurd r
  begun_reads (Operand p Upcast) fs ts rest h g n r = go types patterns (Want fs) upcast_word p ts rest (Want (Operand p Upcast ∷ fs)) r (rw (le-leb 2 (room fs) h) refl)
  begun_reads (RightOf p o a) fs ts rest h g n r =
      let m = whole_reads a fs ts r.0 g.3 (inl g.2) (omega (arith, h, g.1, left_high o)) (omega (arith, g.1, left_high o, level_high o)) r.1 in
      m.2 ∙ op_read types patterns o p a (unary n.p Not (unit n.p)) fs (opens fs) m.0 r.0 rest g.1 h m.1 r.2 (as_operand (room (RightOf p o a ∷ fs)) rest n)
  begun_reads (Bound p bs x) fs ts rest h g n r =
      let k = r.2 in let j = k.2 in
      go types patterns (Want fs) let_word p ts r.0 (InPattern p no_binds patterns.begin fs) r.1 (rw (le-leb 12 (room fs) h) refl)
      ∙ binds_read types patterns OfType OfPattern asked p fs bs r.0 k.0 g k.1
      ∙ pattern_read types patterns OfType OfPattern asked p bs fs x k.0 j.0 rest j.1 j.2
  begun_reads (Body p no_binds) fs ts rest h g n r = absurd r.2.1
  begun_reads (Body p (and_bind bs x a seen)) fs ts rest h g n r =
      let k = r.2 in let l = k.1 in let i = l.2 in let j = i.2 in let v = j.2 in
      let m = reads types patterns OfType OfPattern asked a (Bound p bs x ∷ fs) v.1.0 j.0 v.0 g.2 (inl g.1) (loose_le a) v.1.1 in
      go types patterns (Want fs) let_word p ts r.0 (InPattern p no_binds patterns.begin fs) r.1 (rw (le-leb 12 (room fs) h) refl)
      ∙ binds_read types patterns OfType OfPattern asked p fs bs r.0 l.0 g.0 l.1
      ∙ pattern_read types patterns OfType OfPattern asked p bs fs x l.0 i.0 j.0 i.1 j.1
      ∙ m.2
      ∙ seen_read types patterns OfType OfPattern asked a (Bound p bs x ∷ fs) v.1.0 m.0 m.1 seen v.0 k.0 v.2
      ∙ go types patterns (observing m.0 (closed 11 m.1.inner m.1.frames) seen) in_word k.2.0 k.0 rest (Want (Body p (and_bind bs x a seen) ∷ fs)) k.2.1
      (seen_ends types patterns (Bound p bs x) a fs v.1.0 m.0 (omega arith) m.1 in_word k.2.0 refl seen)
  begun_reads (Condition p) fs ts rest h g n r = go types patterns (Want fs) if_word p ts rest (Want (Condition p ∷ fs)) r (rw (le-leb 12 (room fs) h) refl)
  begun_reads (Then p c seen) fs ts rest h g n r = condition_reads p c seen fs ts rest h g.0 g.1 r
  begun_reads (Else p c seen a) fs ts rest h g n r =
      let k = r.2 in let j = k.2 in let i = j.2 in let l = i.2 in
      let m = reads types patterns OfType OfPattern asked a (Then p c seen ∷ fs) l.1.0 i.0 l.0 g.3 (inl g.2) (loose_le a) l.1.1 in
      condition_reads p c seen fs ts i.0 h g.0 g.1 (r.0, r.1, (k.0, k.1, (j.0, j.1, i.1)))
      ∙ m.2
      ∙ go types patterns m.0 else_word l.2.0 l.0 rest (Want (Else p c seen a ∷ fs)) l.2.1 (ended types patterns (Then p c seen) a fs l.1.0 m.0 (omega arith) m.1 else_word l.2.0 refl)
  begun_reads (Branch o p c x) fs ts rest h g n r =
      let w = r.1 in let k = w.2 in let j = r.2 in
      let m = whole_reads o.subject fs ts w.0 g.2 (inl g.1) (omega (arith, h, g.0)) g.0 w.1 in
      m.2
      ∙ seen_read types patterns OfType OfPattern asked o.subject fs (opens fs) m.0 m.1 o.seen w.0 k.0 k.1
      ∙ bar_reads (observing m.0 (closed 11 m.1.inner m.1.frames) o.seen) o.subject o.seen o.before o.column fs k.0 r.0 (λ first q new. bar_opens types patterns o.subject fs m.0 m.1 g.0 h o.seen first q new) g.3 g.4 k.2
      ∙ head_read types patterns OfType OfPattern asked o p c x fs r.0 j.0 rest j.1 j.2

  -- what all frames have read leads to them
  pub below_reads : (fs : List Frame) (ts rest : List Seen) → Good fs → Next (room fs) rest → Below fs ts rest → run (Want []) ts ≡ run (Want fs) rest
  below_reads [] ts rest g n r = ap (run (Want [])) r
  below_reads (f ∷ fs) ts rest g n r = below_reads fs ts r.0 g.2 (begun_next f fs r.0 rest g.0 g.1 r.2) r.1 ∙ begun_reads f fs r.0 rest g.0 g.1 n r.2
