-- What the machine has read is what its state spells.
use Rattle.std.proofs.Common.{◌≡◌, List, [], ◌∷◌, inl, inr, refl, sym, subst, Option, Some, None}
use Rattle.std.specs.Prelude.{⊤}
use Rattle.cg_base.specs.declared.place.Place.{Place}
use Rattle.cg_core.specs.declared.at.At.{At}
use Rattle.cg_surface.specs.Patterns.{Pattern, name, Patterns, no_patterns, and_pattern, FieldPatterns, and_field}
use Rattle.cg_parser_symbols.specs.Symbols.{Symbol, lower, wildcard, opening, closing, brace, closing_brace, unboxed, equals, comma, Seen}
use Rattle.cg_parser_symbols.specs.Readings.{Reading, ◌then◌, token, sign}
use Rattle.cg_parser_patterns.specs.Grammar.{AreMany, FieldAs, ReadsPattern, PatternsBefore, FieldsBefore, SpellsPattern}
use Rattle.cg_parser_patterns.specs.Machine as machine
use Rattle.cg_parser_patterns.specs.Machine.{Opener, Unboxed, Taken, InParen, InTuple, InField, Want, Have, Head, WantField, AfterField, Stuck}
use Rattle.cg_parser_patterns.specs.Plain.{trees}
use Rattle.cg_parser_patterns.proofs.Short.{Frame, Stage, opened, on_close, on_comma, on_brace, go_on, mode_step, whole, finish, step, run}

-- there is one at least
abbrev pub AreSome : Patterns → Type 0
AreSome no_patterns = ⊥
AreSome (and_pattern xs x) = ⊤

many : (xs : Patterns) (x : Pattern) → AreSome xs → AreMany (and_pattern xs x)
many no_patterns x h = h
many (and_pattern xs y) x h = tt

-- the tokens that open fields, and those that a frame has read
abbrev pub Opens : Opener → Reading
Opens (Unboxed p) = token unboxed p
Opens (Taken p n) = token (lower n) p then sign brace

abbrev pub Begun : Frame → Reading
Begun (InParen p) all rest = token opening p all rest
Begun (InTuple p xs) all rest = AreSome xs × (token opening p then PatternsBefore xs) all rest
Begun (InField o done at) all rest = (Opens o then FieldsBefore done then token (lower at.name) at.place then sign equals) all rest

abbrev pub Below : List Frame → Reading
Below [] all rest = all ≡ rest
Below (f ∷ fs) all rest = (Below fs then Begun f) all rest

-- the state has read the tokens from the first up to the rest
abbrev pub Read : Stage → Reading
Read (Want fs) = Below fs
Read (Have x fs) = Below fs then ReadsPattern x
Read (Head p n fs) = Below fs then token (lower n) p
Read (WantField o done fs) = Below fs then Opens o then FieldsBefore done
Read (AfterField o done at fs) = Below fs then Opens o then FieldsBefore done then token (lower at.name) at.place
Read Stuck = λ all rest. ⊤

-- the symbol that is read
abbrev ahead : Symbol → Place → List Seen → List Seen
ahead y p rest = record { symbol = y; place = p } ∷ rest

-- fields between their braces are a pattern
opened_reads : (o : Opener) (done : FieldPatterns) (at : At) (x : Pattern) (p : Place) (all mid rest : List Seen) → Opens o all mid → (FieldsBefore done then FieldAs (ReadsPattern x) at x) mid (ahead closing_brace p rest) → ReadsPattern (opened o (and_field done at x)) all rest
opened_reads (Unboxed q) done at x p all mid rest r f = (mid, r, (ahead closing_brace p rest, f, (p, refl)))
opened_reads (Taken q n) done at x p all mid rest r f = (r.0, r.1, (mid, r.2, (ahead closing_brace p rest, f, (p, refl))))

module _ (all rest : List Seen) (p : Place) where
  on_close_holds : (x : Pattern) (fs : List Frame) → Read (Have x fs) all (ahead closing p rest) → Read (on_close x fs) all rest
  on_close_holds x [] r = tt
  on_close_holds x (InParen q ∷ fs) r = (r.1.0, r.1.1, (r.0, r.1.2, (ahead closing p rest, r.2, (p, refl))))
  on_close_holds x (InTuple q xs ∷ fs) r =
      let b = r.1.2 in (r.1.0, r.1.1, (many xs x b.0, (b.1.0, b.1.1, (ahead closing p rest, (r.0, b.1.2, r.2), (p, refl)))))
  on_close_holds x (InField o done at ∷ fs) r = tt

  on_comma_holds : (x : Pattern) (fs : List Frame) → Read (Have x fs) all (ahead comma p rest) → Read (on_comma x fs) all rest
  on_comma_holds x [] r = tt
  on_comma_holds x (InParen q ∷ fs) r = (r.1.0, r.1.1, (tt, (r.0, r.1.2, (r.0, refl, (ahead comma p rest, r.2, (p, refl))))))
  on_comma_holds x (InTuple q xs ∷ fs) r =
      let b = r.1.2 in (r.1.0, r.1.1, (tt, (b.1.0, b.1.1, (r.0, b.1.2, (ahead comma p rest, r.2, (p, refl))))))
  on_comma_holds x (InField o done at ∷ fs) r =
      let b = r.1.2 in let d = b.2 in
      (r.1.0, r.1.1, (b.0, b.1, (d.0, d.1, (ahead comma p rest, inr (d.2.0, d.2.1, (r.0, d.2.2, r.2)), (p, refl)))))

  on_brace_holds : (x : Pattern) (fs : List Frame) → Read (Have x fs) all (ahead closing_brace p rest) → Read (on_brace x fs) all rest
  on_brace_holds x [] r = tt
  on_brace_holds x (InParen q ∷ fs) r = tt
  on_brace_holds x (InTuple q xs ∷ fs) r = tt
  on_brace_holds x (InField o done at ∷ fs) r =
      let b = r.1.2 in let d = b.2 in
      (r.1.0, r.1.1, opened_reads o done at x p r.1.0 b.0 rest b.1 (d.0, d.1, inr (d.2.0, d.2.1, (r.0, d.2.2, r.2))))

  go_on_holds : (y : Symbol) (x : Pattern) (fs : List Frame) → Read (Have x fs) all (ahead y p rest) → Read (go_on y x fs) all rest
  go_on_holds closing x fs r = on_close_holds x fs r
  go_on_holds comma x fs r = on_comma_holds x fs r
  go_on_holds closing_brace x fs r = on_brace_holds x fs r
  go_on_holds _ x fs r = tt

  name_on_holds : (y : Symbol) (q : Place) (n : List _) (fs : List Frame) → Read (Head q n fs) all (ahead y p rest) → Read (machine.name_on trees y q n fs) all rest
  name_on_holds brace q n fs r = (r.0, r.1, (rest, (ahead brace p rest, r.2, (p, refl)), refl))
  name_on_holds closing q n fs r = on_close_holds (name q n) fs r
  name_on_holds comma q n fs r = on_comma_holds (name q n) fs r
  name_on_holds closing_brace q n fs r = on_brace_holds (name q n) fs r
  name_on_holds _ q n fs r = tt

  on_empty_holds : (fs : List Frame) → Below fs all (ahead closing p rest) → Read (machine.on_empty trees fs) all rest
  on_empty_holds [] r = tt
  on_empty_holds (InParen q ∷ fs) r = (r.0, r.1, (ahead closing p rest, r.2, (p, refl)))
  on_empty_holds (InTuple q xs ∷ fs) r = tt
  on_empty_holds (InField o done at ∷ fs) r = tt

  start_holds : (y : Symbol) (fs : List Frame) → Below fs all (ahead y p rest) → Read (machine.start trees y p fs) all rest
  start_holds (lower n) fs r = (_, r, refl)
  start_holds wildcard fs r = (_, r, refl)
  start_holds opening fs r = (_, r, refl)
  start_holds closing fs r = on_empty_holds fs r
  start_holds unboxed fs r = (ahead unboxed p rest, r, (rest, refl, refl))
  start_holds _ fs r = tt

  field_holds : (y : Symbol) (o : Opener) (done : FieldPatterns) (fs : List Frame) → Read (WantField o done fs) all (ahead y p rest) → Read (machine.field trees y p o done fs) all rest
  field_holds (lower n) o done fs r = (r.0, r.1, (r.2.0, r.2.1, (ahead (lower n) p rest, r.2.2, refl)))
  field_holds _ o done fs r = tt

  field_on_holds : (y : Symbol) (o : Opener) (done : FieldPatterns) (at : At) (fs : List Frame) → Read (AfterField o done at fs) all (ahead y p rest) → Read (machine.field_on trees y o done at fs) all rest
  field_on_holds equals o done at fs r =
      let f = r.2 in let d = f.2 in (r.0, r.1, (f.0, f.1, (d.0, d.1, (ahead equals p rest, d.2, (p, refl)))))
  field_on_holds comma o done at fs r =
      let f = r.2 in let d = f.2 in (r.0, r.1, (f.0, f.1, (d.0, d.1, (ahead comma p rest, inl (refl, d.2), (p, refl)))))
  field_on_holds closing_brace o done at fs r =
      let f = r.2 in let d = f.2 in (r.0, r.1, opened_reads o done at (name at.place at.name) p r.0 f.0 rest f.1 (d.0, d.1, inl (refl, d.2)))
  field_on_holds _ o done at fs r = tt

  mode_holds : (m : Stage) (y : Symbol) → Read m all (ahead y p rest) → Read (mode_step m y p) all rest
  mode_holds (Want fs) y r = start_holds y fs r
  mode_holds (Have x fs) y r = go_on_holds y x fs r
  mode_holds (Head q n fs) y r = name_on_holds y q n fs r
  mode_holds (WantField o done fs) y r = field_holds y o done fs r
  mode_holds (AfterField o done at fs) y r = field_on_holds y o done at fs r
  mode_holds Stuck y r = tt

run_holds : (m : Stage) (all ts : List Seen) → Read m all ts → Read (run m ts) all []
run_holds m all [] r = r
run_holds m all (t ∷ ts) r = run_holds (step m t) all ts (mode_holds all ts t.place m t.symbol r)

-- the pattern that ends there
abbrev Ended : Option Pattern → List Seen → Type 0
Ended None all = ⊤
Ended (Some x) all = SpellsPattern all x

whole_is : (x : Pattern) (fs : List Frame) (all : List Seen) → Read (Have x fs) all [] → Ended (whole x fs) all
whole_is x [] all r = let P : List Seen → Type 0 = λ ts. ReadsPattern x ts [] in subst P (sym r.1) r.2
whole_is x (f ∷ fs) all r = tt

ended : (m : Stage) (all : List Seen) → Read m all [] → Ended (finish m) all
ended (Want fs) all r = tt
ended (Have x fs) all r = whole_is x fs all r
ended (Head p n fs) all r = whole_is (name p n) fs all r
ended (WantField o done fs) all r = tt
ended (AfterField o done at fs) all r = tt
ended Stuck all r = tt

-- what is read to its end is spelled
pub sound : (ts : List Seen) (x : Pattern) → finish (run (Want []) ts) ≡ Some x → SpellsPattern ts x
sound ts x e = let P : Option Pattern → Type 0 = λ o. Ended o ts in subst P e (ended (run (Want []) ts) ts (run_holds (Want []) ts ts refl))
