-- The machine reads each expression that the tokens spell.
use Rattle.std.proofs.Common.{◌≡◌, inl, inr, ⊎_elim, ℕ, ◌≤◌, List, [], ◌∷◌, refl, sym, subst, ◌∙◌, ap, arith, true, false, Bool, Option, Some, None}
use Rattle.std.specs.Prelude.{nat_le}
use Rattle.std.proofs.lemmas.Bool.{le-leb, leb-true}
use Rattle.cg_base.specs.declared.place.Place.{Place}
use Rattle.cg_base.specs.Reader.{Reader}
use Rattle.cg_base.specs.Reader as readers
use Rattle.cg_core.specs.declared.at.At.{At}
use Rattle.cg_core.specs.declared.op.Op.TheVariants.{Complement, Not}
use Rattle.cg_surface.specs.Written.{Written, no_types, and_type}
use Rattle.cg_surface.specs.Patterns.{Pattern}
use Rattle.cg_surface.specs.Exprs.{Expr, name, number, bool, unit, paren, sig, tuple, fields, con, con_of, app, member, put, unary, upcast, binary, lets, if_else, match_of, Exprs, no_exprs, and_expr, FieldExprs, no_fields, and_field, Binds as Bindings, no_binds, and_bind, Alts, no_alts, and_alt, place_of}
use Rattle.cg_parser_symbols.specs.Symbols.{Symbol, Seen, lower, upper, numeral, true_word, false_word, opening, closing, unboxed, dot, brace, closing_brace, comma, colon, in_word, and_word, then_word, else_word, not_word, complement_word, upcast_word, let_word, if_word, bar, equals}
use Rattle.cg_parser_symbols.specs.Readings.{token, sign}
use Rattle.cg_parser_exprs_def.specs.Asked.{Asked}
use Rattle.cg_parser_exprs_def.specs.Bars.{New, bar_choice}
use Rattle.cg_parser_exprs_def.specs.Grammar.{looseness, OnlyLast, Binds, ExprsBind, FieldsBind, BindsBind, AltsBind, SpellsExpr}
use Rattle.cg_parser_exprs_def.specs.Grammar as grammar
use Rattle.cg_parser_exprs_def.specs.Machine as machine
use Rattle.cg_parser_exprs_def.specs.Machine.{Owner, Record, Put, Operation, Upcast, Open, InParen, InTuple, InField, Argument, Payload, Operand, RightOf, Bound, Body, Condition, Then, Else, Branch, Want, Have, AfterLower, AfterUpper, InSig, AfterDot, WantField, AfterField, InPattern, WantAlt}
use Rattle.cg_parser_build.specs.Plain.{trees}
use Rattle.cg_parser_exprs_def.specs.Plain.{plain_reader}
use Rattle.cg_parser_exprs_laws.proofs.CompleteSteps.{level_high, level_low, left_high, loose_le, stands, anywhere, first}
use Rattle.cg_parser_exprs_laws.proofs.CompleteModes as modes
use Rattle.cg_parser_exprs_laws.proofs.CompleteModes.{Frame, ends_whole, go, behind_have, behind_lower, behind_upper, through, through_call, through_branch, reached, ended, called, as_wanted, upper_starts, op_read, seen_ends, bar_opens, bar_joins, listed_opens, listed_closes, listed_hole, listed_comma}
use Rattle.cg_parser_exprs_laws.proofs.CompleteParts.{head_read, args_read, sig_read, pattern_read, seen_read}

module _ {TS PS : Type 0} (types : Reader TS Seen Written) (patterns : Reader PS Seen Pattern) (OfType : List Seen → Written → Type 0) (OfPattern : List Seen → Pattern → Type 0)
    (asked : Asked TS PS types patterns OfType OfPattern) where
  -- the machine over whole trees, in short names
  abbrev pub Stage : Type 0
  Stage = modes.Stage types patterns

  abbrev closed : ℕ → Expr → List Frame → Expr × List Frame
  closed = modes.closed types patterns

  abbrev room : List Frame → ℕ
  room = modes.room types patterns

  abbrev opens : List Frame → List ℕ
  opens = modes.opens types patterns

  abbrev on_end : Symbol → Expr → List Frame → Stage
  on_end = modes.on_end types patterns

  abbrev mode_step : Stage → Symbol → Place → Stage
  mode_step = modes.mode_step types patterns

  abbrev whole : Expr → List Frame → Option Expr
  whole = modes.whole types patterns

  abbrev mode_end : Stage → Option Expr
  mode_end = modes.mode_end types patterns

  abbrev run : Stage → List Seen → Stage
  run = modes.run types patterns

  abbrev Behind : Expr → List Frame → List ℕ → Stage → Type 0
  Behind = modes.Behind types patterns

  abbrev Fits : Expr → List Frame → Type 0
  Fits = modes.Fits types patterns

  abbrev Reached : Expr → List Frame → List ℕ → List Seen → List Seen → Type 0
  Reached = modes.Reached types patterns

  abbrev observing : Stage → Expr × List Frame → List At → Stage
  observing = modes.observing types patterns

  abbrev open_of : Expr → List At → Alts → ℕ → Open Expr Alts
  open_of = modes.open_of types patterns

  abbrev listed : Place → Exprs → Frame
  listed = modes.listed types patterns

  -- how the parts of the grammar are read, with the readers of types and patterns
  abbrev pub ReadsExpr : Expr → List ℕ → List ℕ → List Seen → List Seen → Type 0
  ReadsExpr = grammar.ReadsExpr OfType OfPattern

  abbrev WholeExpr : Expr → List Seen → List Seen → Type 0
  WholeExpr e ts rest = (to : List ℕ) × ReadsExpr e [] to ts rest

  -- where an expression is read that no match ends, what is open there is open before
  same_open : (e : Expr) (fs : List Frame) (to os : List ℕ) (ts rest : List Seen) → to ≡ os → Reached e fs os ts rest → Reached e fs to ts rest
  same_open e fs to os ts rest h r = (r.0, let P : List ℕ → Type 0 = λ x. Behind e fs x r.0 in subst P (sym h) r.1, r.2)

  -- a field, up to the symbol behind it
  field_then : (y : Symbol) (o : Owner Expr) (gs : FieldExprs) (at : At) (e : Expr) (fs : List Frame) (to : Expr → Stage) → ends_whole y ≡ true
      → machine.after_field types patterns trees y o gs at fs ≡ to (name at.place at.name no_types) → on_end y e (InField o gs at ∷ fs) ≡ to e
      → ((os : List ℕ) (ts rest : List Seen) → ReadsExpr e [] os ts rest → Reached e (InField o gs at ∷ fs) os ts rest)
      → (ts mid rest : List Seen) → grammar.FieldAs OfType OfPattern (WholeExpr e) at e ts mid → sign y mid rest → run (WantField o gs fs) ts ≡ run (to e) rest
  field_then y o gs at e fs to h alone valued reading ts mid rest r q =
      ⊎_elim
      (λ w.
      go types patterns (WantField o gs fs) (lower at.name) at.place ts mid (AfterField o gs at fs) w.1 refl
      ∙ go types patterns (AfterField o gs at fs) y q.0 mid rest (to (name at.place at.name no_types)) q.1 alone
      ∙ ap (λ x. run (to x) rest) (sym w.0))
      (λ w.
      let k = w.2 in let v = k.2 in let m = reading v.0 k.0 mid v.1 in
      go types patterns (WantField o gs fs) (lower at.name) at.place ts w.0 (AfterField o gs at fs) w.1 refl
      ∙ go types patterns (AfterField o gs at fs) equals k.1.0 w.0 k.0 (Want (InField o gs at ∷ fs)) k.1.1 refl
      ∙ m.2
      ∙ go types patterns m.0 y q.0 mid rest (to e) q.1 (ended types patterns (InField o gs at) e fs v.0 m.0 (omega arith) m.1 y q.0 h ∙ valued))
      r

  -- an upper name alone
  upper_read : (p : Place) (n : List ℕ) (fs : List Frame) (to : List ℕ) (ts rest : List Seen) → to ≡ opens fs → token (upper n) p ts rest → Reached (con p n) fs to ts rest
  upper_read p n fs to ts rest h r = pick (nat_le 1 (room fs)) refl
    where
      pick : (b : Bool) → nat_le 1 (room fs) ≡ b → Reached (con p n) fs to ts rest
      pick true q = (AfterUpper p n fs, behind_upper types patterns p n fs to (leb-true 1 (room fs) q) h, go types patterns (Want fs) (upper n) p ts rest (AfterUpper p n fs) r (rw q refl))
      pick false q = (Have (con p n) fs, behind_have types patterns (con p n) fs to h, go types patterns (Want fs) (upper n) p ts rest (Have (con p n) fs) r (rw q refl))

  -- the alternatives of a match are read: the mode behind the last one
  abbrev pub AltsReached : Stage → Expr → List At → ℕ → List Frame → Alts → List ℕ → List Seen → List Seen → Type 0
  AltsReached s e seen c fs no_alts to ts rest = ⊥
  AltsReached s e seen c fs (and_alt before p head x a) to ts rest = (m : Stage) × Behind a (Branch (open_of e seen before c) p head x ∷ fs) to m × (run s ts ≡ run m rest)

  -- where a match opens
  abbrev pub Opening : Stage → Expr → List At → List Frame → Type 0
  Opening s e seen fs = (first : Bool) (q : Place) → bar_choice first q.column (opens fs) ≡ New → mode_step s (bar first) q ≡ WantAlt (open_of e seen no_alts q.column) fs

  mutual
    -- what the tokens spell is read
    pub reads : (e : Expr) (fs : List Frame) (to : List ℕ) (ts rest : List Seen) → Binds e → Fits e fs → looseness e ≤ room fs → ReadsExpr e (opens fs) to ts rest → Reached e fs to ts rest
    reads (name p n no_types) fs to ts rest b fit h r =
        let k = r.1 in
        (AfterLower p n fs, behind_lower types patterns p n fs to r.0, go types patterns (Want fs) (lower n) p ts k.0 (AfterLower p n fs) k.1 refl ∙ ap (run (AfterLower p n fs)) k.2)
    reads (name p n (and_type args t)) fs to ts rest b fit h r =
        let k = r.1 in
        reached types patterns (name p n (and_type args t)) fs to ts rest r.0 (go types patterns (Want fs) (lower n) p ts k.0 (AfterLower p n fs) k.1 refl ∙ args_read types patterns OfType OfPattern asked p n fs args t k.0 rest k.2)
    reads (number p v) fs to ts rest b fit h r = reached types patterns (number p v) fs to ts rest r.0 (go types patterns (Want fs) (numeral v) p ts rest (Have (number p v) fs) r.1 refl)
    reads (bool p true) fs to ts rest b fit h r = reached types patterns (bool p true) fs to ts rest r.0 (go types patterns (Want fs) true_word p ts rest (Have (bool p true) fs) r.1 refl)
    reads (bool p false) fs to ts rest b fit h r = reached types patterns (bool p false) fs to ts rest r.0 (go types patterns (Want fs) false_word p ts rest (Have (bool p false) fs) r.1 refl)
    reads (unit p) fs to ts rest b fit h r =
        let k = r.1 in
        reached types patterns (unit p) fs to ts rest r.0
        (go types patterns (Want fs) opening p ts k.0 (Want (InParen p ∷ fs)) k.1 refl
        ∙ go types patterns (Want (InParen p ∷ fs)) closing k.2.0 k.0 rest (Have (unit p) fs) k.2.1 refl)
    reads (paren p a) fs to ts rest b fit h r =
        let k = r.1 in let j = k.2 in
        let m = reads a (InParen p ∷ fs) j.1.0 k.0 j.0 b.1 (inl b.0) (loose_le a) j.1.1 in
        reached types patterns (paren p a) fs to ts rest r.0
        (go types patterns (Want fs) opening p ts k.0 (Want (InParen p ∷ fs)) k.1 refl
        ∙ m.2
        ∙ go types patterns m.0 closing j.2.0 j.0 rest (Have (paren p a) fs) j.2.1 (ended types patterns (InParen p) a fs j.1.0 m.0 (omega arith) m.1 closing j.2.0 refl))
    reads (sig p a t) fs to ts rest b fit h r =
        let k = r.1 in let j = k.2 in let i = j.2 in
        let m = reads a (InParen p ∷ fs) j.1.0 k.0 j.0 b.1 (inl b.0) (loose_le a) j.1.1 in
        reached types patterns (sig p a t) fs to ts rest r.0
        (go types patterns (Want fs) opening p ts k.0 (Want (InParen p ∷ fs)) k.1 refl
        ∙ m.2
        ∙ go types patterns m.0 colon i.1.0 j.0 i.0 (InSig p a types.begin fs) i.1.1 (ended types patterns (InParen p) a fs j.1.0 m.0 (omega arith) m.1 colon i.1.0 refl)
        ∙ sig_read types patterns OfType OfPattern asked p a fs t i.0 i.2.0 rest i.2.1 i.2.2)
    reads (tuple p no_exprs) fs to ts rest b fit h r = absurd b.0
    reads (tuple p (and_expr no_exprs a)) fs to ts rest b fit h r = absurd b.0
    reads (tuple p (and_expr (and_expr es d) a)) fs to ts rest b fit h r =
        let k = r.1 in let j = k.2 in let l = j.1 in
        let m = reads a (InTuple p (and_expr es d) ∷ fs) l.2.0 l.0 j.0 b.1.2 (inl b.1.1) (loose_le a) l.2.1 in
        reached types patterns (tuple p (and_expr (and_expr es d) a)) fs to ts rest r.0
        (go types patterns (Want fs) opening p ts k.0 (Want (InParen p ∷ fs)) k.1 refl
        ∙ list_read p fs (and_expr es d) k.0 l.0 b.1.0 l.1
        ∙ m.2
        ∙ go types patterns m.0 closing j.2.0 j.0 rest (Have (tuple p (and_expr (and_expr es d) a)) fs) j.2.1 (ended types patterns (InTuple p (and_expr es d)) a fs l.2.0 m.0 (omega arith) m.1 closing j.2.0 refl))
    reads (fields p no_fields) fs to ts rest b fit h r = absurd r.1.2.1
    reads (fields p (and_field gs at a)) fs to ts rest b fit h r =
        let k = r.1 in let j = k.2 in let l = j.1 in
        reached types patterns (fields p (and_field gs at a)) fs to ts rest r.0
        (go types patterns (Want fs) unboxed p ts k.0 (WantField (Record p) no_fields fs) k.1 refl
        ∙ fields_read (Record p) fs gs k.0 l.0 b.0 l.1
        ∙ field_then closing_brace (Record p) gs at a fs (λ x. Have (fields p (and_field gs at x)) fs) refl refl refl
        (λ os us end q. reads a (InField (Record p) gs at ∷ fs) os us end b.2 (inl b.1) (loose_le a) q) l.0 j.0 rest l.2 j.2)
    reads (con p n) fs to ts rest b fit h r = upper_read p n fs to ts rest r.0 r.1
    reads (con_of p n a) fs to ts rest b fit h r =
        let k = r.1 in
        let m = reads a (Payload p n ∷ fs) (opens fs) k.0 rest b.1 (inr refl) b.0 (anywhere OfType OfPattern a [] k.2.0 (opens fs) k.0 rest (omega (arith, b.0)) k.2.1) in
        same_open (con_of p n a) fs to (opens fs) ts rest r.0 (
          m.0,
          through types patterns (Payload p n) a fs (opens fs) m.0 refl (omega (arith, b.0)) (omega arith) (omega arith) m.1,
          go types patterns (Want fs) (upper n) p ts k.0 (AfterUpper p n fs) k.1 (rw (le-leb 1 (room fs) (omega arith)) refl)
              ∙ as_wanted types patterns (AfterUpper p n fs) (Payload p n ∷ fs) (λ y q s. upper_starts types patterns p n fs y q s) a k.0 b.0 (first OfType OfPattern a [] k.2.0 k.0 rest b.1 k.2.1)
              ∙ m.2,
        )
    reads (app p f a) fs to ts rest b fit h r =
        let k = r.2 in
        let m = reads f fs (opens fs) ts k.0 b.2 (inl (stands f b.1)) (omega (arith, b.0)) (anywhere OfType OfPattern f [] k.1.0 (opens fs) ts k.0 (omega (arith, b.0)) k.1.1) in
        let i = reads a (Argument f ∷ fs) (opens fs) k.0 rest b.4 (inr refl) b.3 (anywhere OfType OfPattern a [] k.2.0 (opens fs) k.0 rest (omega (arith, b.3)) k.2.1) in
        same_open (app p f a) fs to (opens fs) ts rest r.0 (
          i.0,
          (let P : Place → Type 0 = λ q. Behind (app q f a) fs (opens fs) i.0 in subst P (sym r.1) (through_call types patterns f a fs (opens fs) i.0 b.3 i.1)),
          m.2
              ∙ as_wanted types patterns m.0 (Argument f ∷ fs) (λ y q s. called types patterns f fs (opens fs) m.0 b.0 h (inl b.1) m.1 y q s) a k.0 b.3 (first OfType OfPattern a [] k.2.0 k.0 rest b.4 k.2.1)
              ∙ i.2,
        )
    reads (member p a at) fs to ts rest b fit h r =
        let k = r.2 in let j = k.2 in
        let m = reads a fs (opens fs) ts k.0 b.1 (⊎_elim (λ x. inl (stands a x)) (λ x. inr x) fit) (omega (arith, b.0)) (anywhere OfType OfPattern a [] k.1.0 (opens fs) ts k.0 (omega (arith, b.0)) k.1.1) in
        reached types patterns (member p a at) fs to ts rest r.0
        (m.2
        ∙ go types patterns m.0 dot j.1.0 k.0 j.0 (AfterDot a fs) j.1.1 (m.1.dots b.0 fit j.1.0)
        ∙ go types patterns (AfterDot a fs) (lower at.name) at.place j.0 rest (Have (member (place_of a) a at) fs) j.2 refl
        ∙ ap (λ q. run (Have (member q a at) fs) rest) (sym r.1))
    reads (put p a no_fields) fs to ts rest b fit h r = absurd r.2.2.2.1
    reads (put p a (and_field gs at d)) fs to ts rest b fit h r =
        let k = r.2 in let j = k.2 in let i = j.2 in let l = i.1 in
        let m = reads a fs (opens fs) ts k.0 b.1 (⊎_elim (λ x. inl (stands a x)) (λ x. inr x) fit) (omega (arith, b.0)) (anywhere OfType OfPattern a [] k.1.0 (opens fs) ts k.0 (omega (arith, b.0)) k.1.1) in
        reached types patterns (put p a (and_field gs at d)) fs to ts rest r.0
        (m.2
        ∙ go types patterns m.0 brace j.1.0 k.0 j.0 (WantField (Put a) no_fields fs) j.1.1 (m.1.braces b.0 fit j.1.0)
        ∙ fields_read (Put a) fs gs j.0 l.0 b.2.0 l.1
        ∙ field_then closing_brace (Put a) gs at d fs (λ x. Have (put (place_of a) a (and_field gs at x)) fs) refl refl refl
        (λ os us end q. reads d (InField (Put a) gs at ∷ fs) os us end b.2.2 (inl b.2.1) (loose_le d) q) l.0 i.0 rest l.2 i.2
        ∙ ap (λ q. run (Have (put q a (and_field gs at d)) fs) rest) (sym r.1))
    reads (unary p Complement a) fs to ts rest b fit h r =
        let k = r.1 in
        let m = reads a (Operand p (Operation Complement) ∷ fs) (opens fs) k.0 rest b.2 (inl b.1) b.0 (anywhere OfType OfPattern a [] k.2.0 (opens fs) k.0 rest (omega (arith, b.0)) k.2.1) in
        same_open (unary p Complement a) fs to (opens fs) ts rest r.0 (
          m.0,
          through types patterns (Operand p (Operation Complement)) a fs (opens fs) m.0 refl (omega (arith, b.0)) (omega arith) (omega arith) m.1,
          go types patterns (Want fs) complement_word p ts k.0 (Want (Operand p (Operation Complement) ∷ fs)) k.1 (rw (le-leb 2 (room fs) h) refl) ∙ m.2,
        )
    reads (unary p Not a) fs to ts rest b fit h r =
        let k = r.1 in
        let m = reads a (Operand p (Operation Not) ∷ fs) (opens fs) k.0 rest b.2 (inl b.1) b.0 (anywhere OfType OfPattern a [] k.2.0 (opens fs) k.0 rest (omega (arith, b.0)) k.2.1) in
        same_open (unary p Not a) fs to (opens fs) ts rest r.0 (
          m.0,
          through types patterns (Operand p (Operation Not)) a fs (opens fs) m.0 refl (omega (arith, b.0)) (omega arith) (omega arith) m.1,
          go types patterns (Want fs) not_word p ts k.0 (Want (Operand p (Operation Not) ∷ fs)) k.1 (rw (le-leb 2 (room fs) h) refl) ∙ m.2,
        )
    reads (unary p o a) fs to ts rest b fit h r = absurd r.1.1
    reads (upcast p a) fs to ts rest b fit h r =
        let k = r.1 in
        let m = reads a (Operand p Upcast ∷ fs) (opens fs) k.0 rest b.2 (inl b.1) b.0 (anywhere OfType OfPattern a [] k.2.0 (opens fs) k.0 rest (omega (arith, b.0)) k.2.1) in
        same_open (upcast p a) fs to (opens fs) ts rest r.0 (
          m.0,
          through types patterns (Operand p Upcast) a fs (opens fs) m.0 refl (omega (arith, b.0)) (omega arith) (omega arith) m.1,
          go types patterns (Want fs) upcast_word p ts k.0 (Want (Operand p Upcast ∷ fs)) k.1 (rw (le-leb 2 (room fs) h) refl) ∙ m.2,
        )
    reads (binary p o a c) fs to ts rest b fit h r =
        let k = r.1 in let j = k.2 in
        let m = reads a fs (opens fs) ts k.0 b.2 (inl b.1) (omega (arith, b.0, left_high o)) (anywhere OfType OfPattern a [] k.1.0 (opens fs) ts k.0 (omega (arith, b.0, left_high o, level_high o)) k.1.1) in
        let i = reads c (RightOf p o a ∷ fs) (opens fs) j.0 rest b.5 (inl b.4) b.3 (anywhere OfType OfPattern c [] j.2.0 (opens fs) j.0 rest (omega (arith, b.3, level_high o)) j.2.1) in
        same_open (binary p o a c) fs to (opens fs) ts rest r.0 (
          i.0,
          through types patterns (RightOf p o a) c fs (opens fs) i.0 refl (omega (arith, b.3)) (omega arith) (level_low o) i.1,
          m.2 ∙ op_read types patterns o p a c fs (opens fs) m.0 k.0 j.0 b.0 h m.1 j.1 (first OfType OfPattern c [] j.2.0 j.0 rest b.5 j.2.1) ∙ i.2,
        )
    reads (lets p no_binds c) fs to ts rest b fit h r = absurd r.2.1
    reads (lets p (and_bind bs x a seen) c) fs to ts rest b fit h r =
        let k = r.2 in let l = k.1 in let i = l.2 in let j = i.2 in let v = j.2 in
        let m = reads a (Bound p bs x ∷ fs) v.1.0 j.0 v.0 b.0.2 (inl b.0.1) (loose_le a) v.1.1 in
        let w = reads c (Body p (and_bind bs x a seen) ∷ fs) to k.2.0 rest b.2 (inl b.1) (loose_le c) k.2.2 in (
          w.0,
          through types patterns (Body p (and_bind bs x a seen)) c fs to w.0 refl (loose_le c) (omega arith) (omega arith) w.1,
          go types patterns (Want fs) let_word p ts r.0 (InPattern p no_binds patterns.begin fs) r.1 (rw (le-leb 12 (room fs) h) refl)
              ∙ binds_read p fs bs r.0 l.0 b.0.0 l.1
              ∙ pattern_read types patterns OfType OfPattern asked p bs fs x l.0 i.0 j.0 i.1 j.1
              ∙ m.2
              ∙ seen_read types patterns OfType OfPattern asked a (Bound p bs x ∷ fs) v.1.0 m.0 m.1 seen v.0 k.0 v.2
              ∙ go types patterns (observing m.0 (closed 11 m.1.inner m.1.frames) seen) in_word k.2.1.0 k.0 k.2.0 (Want (Body p (and_bind bs x a seen) ∷ fs)) k.2.1.1
              (seen_ends types patterns (Bound p bs x) a fs v.1.0 m.0 (omega arith) m.1 in_word k.2.1.0 refl seen)
              ∙ w.2,
        )
    reads (if_else p c seen a d) fs to ts rest b fit h r =
        let k = r.2 in let j = k.2 in let i = j.2 in let l = i.2 in let v = l.2 in
        let m = reads c (Condition p ∷ fs) k.1.0 r.0 k.0 b.1 (inl b.0) (loose_le c) k.1.1 in
        let n = reads a (Then p c seen ∷ fs) l.1.0 i.0 l.0 b.3 (inl b.2) (loose_le a) l.1.1 in
        let w = reads d (Else p c seen a ∷ fs) to v.0 rest b.5 (inl b.4) (loose_le d) v.2 in (
          w.0,
          through types patterns (Else p c seen a) d fs to w.0 refl (loose_le d) (omega arith) (omega arith) w.1,
          go types patterns (Want fs) if_word p ts r.0 (Want (Condition p ∷ fs)) r.1 (rw (le-leb 12 (room fs) h) refl)
              ∙ m.2
              ∙ seen_read types patterns OfType OfPattern asked c (Condition p ∷ fs) k.1.0 m.0 m.1 seen k.0 j.0 j.1
              ∙ go types patterns (observing m.0 (closed 11 m.1.inner m.1.frames) seen) then_word i.1.0 j.0 i.0 (Want (Then p c seen ∷ fs)) i.1.1
              (seen_ends types patterns (Condition p) c fs k.1.0 m.0 (omega arith) m.1 then_word i.1.0 refl seen)
              ∙ n.2
              ∙ go types patterns n.0 else_word v.1.0 l.0 v.0 (Want (Else p c seen a ∷ fs)) v.1.1 (ended types patterns (Then p c seen) a fs l.1.0 n.0 (omega arith) n.1 else_word v.1.0 refl)
              ∙ w.2,
        )
    reads (match_of p a seen no_alts) fs to ts rest b fit h r = absurd r.2.2.2
    reads (match_of p a seen (and_alt before q head x d)) fs to ts rest b fit h r =
        let k = r.2 in let j = k.2 in
        let m = reads a fs (opens fs) ts k.0 b.2 (inl b.1) (omega (arith, b.0)) (anywhere OfType OfPattern a [] k.1.0 (opens fs) ts k.0 b.0 k.1.1) in
        let w = alts_read (observing m.0 (closed 11 m.1.inner m.1.frames) seen) a seen r.1 fs (λ f o new. bar_opens types patterns a fs m.0 m.1 b.0 h seen f o new) (and_alt before q head x d) to j.0 rest b.3 b.4 j.2 in (
          w.0,
          (let P : Place → Type 0 = λ o. Behind (match_of o a seen (and_alt before q head x d)) fs to w.0 in subst P (sym r.0) (through_branch types patterns (open_of a seen before r.1) q head x d fs to w.0 w.1)),
          m.2 ∙ seen_read types patterns OfType OfPattern asked a fs (opens fs) m.0 m.1 seen k.0 j.0 j.1 ∙ w.2,
        )

    -- expressions, each with a comma behind it, are read
    pub list_read : (p : Place) (fs : List Frame) (es : Exprs) (ts rest : List Seen) → ExprsBind es → grammar.ExprsBefore OfType OfPattern es ts rest → run (Want (InParen p ∷ fs)) ts ≡ run (Want (listed p es ∷ fs)) rest
    list_read p fs no_exprs ts rest b r = ap (run (Want (InParen p ∷ fs))) r
    list_read p fs (and_expr es e) ts rest b r =
        let k = r.2 in
        let from : ReadsExpr e (opens (listed p es ∷ fs)) k.1.0 r.0 k.0 = let P : List ℕ → Type 0 = λ os. ReadsExpr e os k.1.0 r.0 k.0 in subst P (sym (listed_opens types patterns p es fs)) k.1.1 in
        let m = reads e (listed p es ∷ fs) k.1.0 r.0 k.0 b.2 (inl b.1) (omega (arith, loose_le e, listed_hole types patterns p es)) from in
        list_read p fs es ts r.0 b.0 r.1
        ∙ m.2
        ∙ go types patterns m.0 comma k.2.0 k.0 rest (Want (listed p (and_expr es e) ∷ fs)) k.2.1 (ended types patterns (listed p es) e fs k.1.0 m.0 (listed_closes types patterns p es) m.1 comma k.2.0 refl ∙ listed_comma types patterns p es e fs)

    -- fields, each with a comma behind it
    pub fields_read : (o : Owner Expr) (fs : List Frame) (gs : FieldExprs) (ts rest : List Seen) → FieldsBind gs → grammar.FieldsBefore OfType OfPattern gs ts rest → run (WantField o no_fields fs) ts ≡ run (WantField o gs fs) rest
    fields_read o fs no_fields ts rest b r = ap (run (WantField o no_fields fs)) r
    fields_read o fs (and_field gs at e) ts rest b r =
        let k = r.2 in
        fields_read o fs gs ts r.0 b.0 r.1
        ∙ field_then comma o gs at e fs (λ x. WantField o (and_field gs at x) fs) refl refl refl
        (λ os us end q. reads e (InField o gs at ∷ fs) os us end b.2 (inl b.1) (loose_le e) q) r.0 k.0 rest k.1 k.2

    -- bindings, each with `and` behind it
    pub binds_read : (p : Place) (fs : List Frame) (bs : Bindings) (ts rest : List Seen) → BindsBind bs → grammar.BindsBefore OfType OfPattern bs ts rest
        → run (InPattern p no_binds patterns.begin fs) ts ≡ run (InPattern p bs patterns.begin fs) rest
    binds_read p fs no_binds ts rest b r = ap (run (InPattern p no_binds patterns.begin fs)) r
    binds_read p fs (and_bind bs x a seen) ts rest b r =
        let i = r.2 in let j = i.2 in let v = j.2 in let u = v.2 in
        let m = reads a (Bound p bs x ∷ fs) v.1.0 j.0 v.0 b.2 (inl b.1) (loose_le a) v.1.1 in
        binds_read p fs bs ts r.0 b.0 r.1
        ∙ pattern_read types patterns OfType OfPattern asked p bs fs x r.0 i.0 j.0 i.1 j.1
        ∙ m.2
        ∙ seen_read types patterns OfType OfPattern asked a (Bound p bs x ∷ fs) v.1.0 m.0 m.1 seen v.0 u.0 u.1
        ∙ go types patterns (observing m.0 (closed 11 m.1.inner m.1.frames) seen) and_word u.2.0 u.0 rest (InPattern p (and_bind bs x a seen) patterns.begin fs) u.2.1
        (seen_ends types patterns (Bound p bs x) a fs v.1.0 m.0 (omega arith) m.1 and_word u.2.0 refl seen)

    -- the alternatives of a match, behind its subject and what is observed
    pub alts_read : (s : Stage) (e : Expr) (seen : List At) (c : ℕ) (fs : List Frame) → Opening s e seen fs → (choices : Alts) (to : List ℕ) (ts rest : List Seen) → OnlyLast choices → AltsBind choices
        → grammar.ReadsAlts OfType OfPattern choices c (opens fs) to ts rest → AltsReached s e seen c fs choices to ts rest
    alts_read s e seen c fs opening_bar no_alts to ts rest last b r = absurd r
    alts_read s e seen c fs opening_bar (and_alt no_alts p head x a) to ts rest last b r =
        let q = r.0 in let k = r.4 in let j = k.2 in let i = j.2 in let o = open_of e seen no_alts c in
        let m = reads a (Branch o p head x ∷ fs) to i.0 rest b.2 (inl b.1) (loose_le a) i.2 in (
          m.0,
          m.1,
          go types patterns s (bar r.1) q ts k.0 (WantAlt o fs) k.1 (opening_bar r.1 q r.3 ∙ ap (λ column. WantAlt (open_of e seen no_alts column) fs) (sym r.2))
              ∙ head_read types patterns OfType OfPattern asked o p head x fs k.0 j.0 i.0 j.1 i.1
              ∙ m.2,
        )
    alts_read s e seen c fs opening_bar (and_alt (and_alt choices p' None x' a') p head x a) to ts rest last b r = absurd last
    alts_read s e seen c fs opening_bar (and_alt (and_alt choices p' (Some n) x' a') p head x a) to ts rest last b r =
        let q = r.1 in let l = r.6 in let k = l.2 in let j = k.2 in let i = j.2 in
        let w = alts_read s e seen c fs opening_bar (and_alt choices p' (Some n) x' a') r.0 ts l.0 last b.0 l.1 in
        let o = open_of e seen (and_alt choices p' (Some n) x' a') c in
        let m = reads a (Branch o p head x ∷ fs) to i.0 rest b.2 (inl b.1) (loose_le a) i.2 in (
          m.0,
          m.1,
          w.2
              ∙ go types patterns w.0 (bar r.2) q l.0 k.0 (WantAlt o fs) k.1 (bar_joins types patterns (open_of e seen choices c) p' n x' a' fs r.0 r.3 w.0 w.1 r.4 r.2 q r.5)
              ∙ head_read types patterns OfType OfPattern asked o p head x fs k.0 j.0 i.0 j.1 i.1
              ∙ m.2,
        )

  -- each expression that the tokens spell is read
  pub complete : (ts : List Seen) (e : Expr) → SpellsExpr OfType OfPattern ts e → (plain_reader types patterns).finish (readers.run (plain_reader types patterns) (Want []) ts) ≡ Some e
  complete ts e s =
      let m = reads e [] s.2.0 ts [] s.1 (inl s.0) (loose_le e) s.2.1 in
      ap mode_end m.2 ∙ m.1.finishes ∙ ap (λ r. whole r.0 r.1) (m.1.shuts 12 (loose_le e))
