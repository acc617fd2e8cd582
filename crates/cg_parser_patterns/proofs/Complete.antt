-- The machine reads each pattern that the tokens spell.
use Rattle.std.proofs.Common.{◌≡◌, List, [], ◌∷◌, ⊎_elim, refl, sym, ◌∙◌, ap, Some}
use Rattle.cg_base.specs.declared.place.Place.{Place}
use Rattle.cg_core.specs.declared.at.At.{At}
use Rattle.cg_surface.specs.Patterns.{Pattern, name, any, unit, paren, tuple, fields, take, Patterns, no_patterns, and_pattern, FieldPatterns, no_fields, and_field}
use Rattle.cg_parser_symbols.specs.Symbols.{Symbol, lower, wildcard, opening, closing, brace, closing_brace, unboxed, equals, comma, Seen}
use Rattle.cg_parser_symbols.specs.Readings.{token}
use Rattle.cg_parser_patterns.specs.Grammar.{FieldAs, ReadsPattern, PatternsBefore, FieldsBefore, ReadsFields, SpellsPattern}
use Rattle.cg_parser_patterns.specs.Machine.{Opener, Unboxed, Taken, InParen, InTuple, InField, Want, Have, Head, WantField, AfterField}
use Rattle.cg_parser_patterns.proofs.Short.{Frame, Stage, opened, on_close, on_comma, on_brace, mode_step, finish, run}

-- the state behind a pattern that began under these frames
abbrev pub after : Pattern → List Frame → Stage
after (name p n) fs = Head p n fs
after (any p) fs = Have (any p) fs
after (unit p) fs = Have (unit p) fs
after (paren p x) fs = Have (paren p x) fs
after (tuple p xs) fs = Have (tuple p xs) fs
after (fields p done) fs = Have (fields p done) fs
after (take p n done) fs = Have (take p n done) fs

-- behind it a sign is read as behind any pattern
after_close : (x : Pattern) (fs : List Frame) (q : Place) → mode_step (after x fs) closing q ≡ on_close x fs
after_close (name p n) fs q = refl
after_close (any p) fs q = refl
after_close (unit p) fs q = refl
after_close (paren p x) fs q = refl
after_close (tuple p xs) fs q = refl
after_close (fields p done) fs q = refl
after_close (take p n done) fs q = refl

after_comma : (x : Pattern) (fs : List Frame) (q : Place) → mode_step (after x fs) comma q ≡ on_comma x fs
after_comma (name p n) fs q = refl
after_comma (any p) fs q = refl
after_comma (unit p) fs q = refl
after_comma (paren p x) fs q = refl
after_comma (tuple p xs) fs q = refl
after_comma (fields p done) fs q = refl
after_comma (take p n done) fs q = refl

after_brace : (x : Pattern) (fs : List Frame) (q : Place) → mode_step (after x fs) closing_brace q ≡ on_brace x fs
after_brace (name p n) fs q = refl
after_brace (any p) fs q = refl
after_brace (unit p) fs q = refl
after_brace (paren p x) fs q = refl
after_brace (tuple p xs) fs q = refl
after_brace (fields p done) fs q = refl
after_brace (take p n done) fs q = refl

after_end : (x : Pattern) → finish (after x []) ≡ Some x
after_end (name p n) = refl
after_end (any p) = refl
after_end (unit p) = refl
after_end (paren p x) = refl
after_end (tuple p xs) = refl
after_end (fields p done) = refl
after_end (take p n done) = refl

-- one token more
go : (s : Stage) (y : Symbol) (p : Place) (ts rest : List Seen) (to : Stage) → token y p ts rest → mode_step s y p ≡ to → run s ts ≡ run to rest
go s y p ts rest to r q = ap (run s) r ∙ ap (λ x. run x rest) q

-- the frame in parentheses, behind some patterns with their commas
abbrev under : Place → Patterns → Frame
under p no_patterns = InParen p
under p (and_pattern xs x) = InTuple p (and_pattern xs x)

comma_under : (p : Place) (xs : Patterns) (x : Pattern) (fs : List Frame) → on_comma x (under p xs ∷ fs) ≡ Want (InTuple p (and_pattern xs x) ∷ fs)
comma_under p no_patterns x fs = refl
comma_under p (and_pattern xs y) x fs = refl

-- a pattern is read wherever one is wanted
abbrev IsRead : Pattern → Type 0
IsRead x = (fs : List Frame) (ts rest : List Seen) → ReadsPattern x ts rest → run (Want fs) ts ≡ run (after x fs) rest

module _ (o : Opener) (fs : List Frame) where
  -- a field is read, with the sign behind it, before which one that is written alone is bound to its name
  field_read : (done : FieldPatterns) (at : At) (x : Pattern) (y : Symbol) (p : Place) (ts mid rest : List Seen) (to : Stage)
      → IsRead x → FieldAs (ReadsPattern x) at x ts mid → token y p mid rest
      → mode_step (AfterField o done at fs) y p ≡ mode_step (after (name at.place at.name) (InField o done at ∷ fs)) y p
      → mode_step (after x (InField o done at ∷ fs)) y p ≡ to
      → run (WantField o done fs) ts ≡ run to rest
  field_read done at x y p ts mid rest to known r t same e =
      ⊎_elim
      (λ a. go (WantField o done fs) (lower at.name) at.place ts mid (AfterField o done at fs) a.1 refl
      ∙ go (AfterField o done at fs) y p mid rest to t (same ∙ ap (λ z. mode_step (after z (InField o done at ∷ fs)) y p) (sym a.0) ∙ e))
      (λ b. go (WantField o done fs) (lower at.name) at.place ts b.0 (AfterField o done at fs) b.1 refl
      ∙ go (AfterField o done at fs) equals b.2.1.0 b.0 b.2.0 (Want (InField o done at ∷ fs)) b.2.1.1 refl
      ∙ known (InField o done at ∷ fs) b.2.0 mid b.2.2
      ∙ go (after x (InField o done at ∷ fs)) y p mid rest to t e)
      r

mutual
  -- what the tokens spell is read
  pub reads : (x : Pattern) (fs : List Frame) (ts rest : List Seen) → ReadsPattern x ts rest → run (Want fs) ts ≡ run (after x fs) rest
  reads (name p n) fs ts rest r = go (Want fs) (lower n) p ts rest (Head p n fs) r refl
  reads (any p) fs ts rest r = go (Want fs) wildcard p ts rest (Have (any p) fs) r refl
  reads (unit p) fs ts rest r =
      go (Want fs) opening p ts r.0 (Want (InParen p ∷ fs)) r.1 refl
      ∙ go (Want (InParen p ∷ fs)) closing r.2.0 r.0 rest (Have (unit p) fs) r.2.1 refl
  reads (paren p x) fs ts rest r =
      go (Want fs) opening p ts r.0 (Want (InParen p ∷ fs)) r.1 refl
      ∙ reads x (InParen p ∷ fs) r.0 r.2.0 r.2.1
      ∙ go (after x (InParen p ∷ fs)) closing r.2.2.0 r.2.0 rest (Have (paren p x) fs) r.2.2.1 (after_close x (InParen p ∷ fs) r.2.2.0)
  reads (tuple p no_patterns) fs ts rest r = absurd r.0
  reads (tuple p (and_pattern no_patterns x)) fs ts rest r = absurd r.0
  reads (tuple p (and_pattern (and_pattern xs y) x)) fs ts rest r =
      let q = r.1 in let l = q.2.1 in
      go (Want fs) opening p ts q.0 (Want (InParen p ∷ fs)) q.1 refl
      ∙ patterns_read p (and_pattern xs y) fs q.0 l.0 l.1
      ∙ reads x (InTuple p (and_pattern xs y) ∷ fs) l.0 q.2.0 l.2
      ∙ go (after x (InTuple p (and_pattern xs y) ∷ fs)) closing q.2.2.0 q.2.0 rest (Have (tuple p (and_pattern (and_pattern xs y) x)) fs) q.2.2.1 (after_close x (InTuple p (and_pattern xs y) ∷ fs) q.2.2.0)
  reads (fields p done) fs ts rest r =
      go (Want fs) unboxed p ts r.0 (WantField (Unboxed p) no_fields fs) r.1 refl
      ∙ all_fields_read (Unboxed p) done fs r.0 r.2.0 rest r.2.2.0 r.2.1 r.2.2.1
  reads (take p n done) fs ts rest r =
      go (Want fs) (lower n) p ts r.0 (Head p n fs) r.1 refl
      ∙ go (Head p n fs) brace r.2.1.0 r.0 r.2.0 (WantField (Taken p n) no_fields fs) r.2.1.1 refl
      ∙ all_fields_read (Taken p n) done fs r.2.0 r.2.2.0 rest r.2.2.2.0 r.2.2.1 r.2.2.2.1

  -- patterns with their commas
  patterns_read : (p : Place) (xs : Patterns) (fs : List Frame) (ts rest : List Seen) → PatternsBefore xs ts rest → run (Want (InParen p ∷ fs)) ts ≡ run (Want (under p xs ∷ fs)) rest
  patterns_read p no_patterns fs ts rest r = ap (run (Want (InParen p ∷ fs))) r
  patterns_read p (and_pattern xs x) fs ts rest r =
      patterns_read p xs fs ts r.0 r.1
      ∙ reads x (under p xs ∷ fs) r.0 r.2.0 r.2.1
      ∙ go (after x (under p xs ∷ fs)) comma r.2.2.0 r.2.0 rest (Want (InTuple p (and_pattern xs x) ∷ fs)) r.2.2.1 (after_comma x (under p xs ∷ fs) r.2.2.0 ∙ comma_under p xs x fs)

  -- fields with their commas
  fields_read : (o : Opener) (done : FieldPatterns) (fs : List Frame) (ts rest : List Seen) → FieldsBefore done ts rest → run (WantField o no_fields fs) ts ≡ run (WantField o done fs) rest
  fields_read o no_fields fs ts rest r = ap (run (WantField o no_fields fs)) r
  fields_read o (and_field done at x) fs ts rest r =
      fields_read o done fs ts r.0 r.1
      ∙ field_read o fs done at x comma r.2.2.0 r.0 r.2.0 rest (WantField o (and_field done at x) fs) (reads x) r.2.1 r.2.2.1 refl (after_comma x (InField o done at ∷ fs) r.2.2.0)

  -- all the fields, and the brace behind them
  all_fields_read : (o : Opener) (done : FieldPatterns) (fs : List Frame) (ts mid rest : List Seen) (p : Place) → ReadsFields done ts mid → token closing_brace p mid rest → run (WantField o no_fields fs) ts ≡ run (Have (opened o done) fs) rest
  all_fields_read o no_fields fs ts mid rest p r t = absurd r
  all_fields_read o (and_field done at x) fs ts mid rest p r t =
      fields_read o done fs ts r.0 r.1
      ∙ field_read o fs done at x closing_brace p r.0 mid rest (Have (opened o (and_field done at x)) fs) (reads x) r.2 t refl (after_brace x (InField o done at ∷ fs) p)

-- each pattern that the tokens spell is read
pub complete : (ts : List Seen) (x : Pattern) → SpellsPattern ts x → finish (run (Want []) ts) ≡ Some x
complete ts x r = ap finish (reads x [] ts [] r) ∙ after_end x
