-- What the machine has read is what its mode spells.
use Rattle.std.proofs.Common.{◌≡◌, ℕ, ◌≤◌, List, [], ◌∷◌, ◌++◌, inl, inr, refl, sym, subst, arith, Bool, Option, Some, None}
use Rattle.std.specs.Prelude.{nat_le, ⊤}
use Rattle.std.proofs.lemmas.Bool.{leb-true}
use Rattle.cg_base.specs.declared.place.Place.{Place}
use Rattle.cg_core.specs.declared.at.At.{At}
use Rattle.cg_surface.specs.Written.{Written, no_types, and_type, WrittenFields, WrittenAlts}
use Rattle.cg_parser_symbols.specs.Symbols.{Symbol, lower, upper, take_word, opening, closing, brace, closing_brace, unboxed, less, greater, colon, arrow, bang, bar, comma, dots, Seen}
use Rattle.cg_parser_symbols.specs.Readings.{Reading, ◌then◌, token, sign, either_token}
use Rattle.cg_parser_types.specs.Grammar.{looseness, record_sign, NamesBefore, ReadsNames, ReadsType, ReadsArgs, TypesBefore, FieldsBefore, AltsBefore, AreMany, Binds, ArgsBind, TypesBind, FieldsBind, AltsBind, SpellsType}
use Rattle.cg_parser_types.specs.Machine as machine
use Rattle.cg_parser_types.specs.Machine.{InParen, InTuple, InField, InAlt, InArgs, InArrow, Want, Alone, Head, Taken, WantField, AfterField, WantAlt, AfterAlt, AfterTake, TakeOpen, TakeDots, TakeName, TakeMore, Stuck, name_at, starts, strength}
use Rattle.cg_parser_types.specs.Plain.{trees}
use Rattle.cg_parser_types.proofs.Short.{Frame, Mode, closed, room, closes, fill, bare, on_end, go_past, start, mode_step, whole, end_whole, mode_end, step, run}
use Rattle.cg_parser_types.proofs.Complete.{loose_le}
use Rattle.cg_base.proofs.Spans.{either_way as choose}

-- how loosely the type of a frame is bound
abbrev pub outcome : Frame → ℕ
outcome (InParen p) = 0
outcome (InTuple p ts) = 0
outcome (InField p boxed gs at) = 0
outcome (InAlt p choices at) = 0
outcome (InArgs p n args) = 1
outcome (InArrow a) = 3

-- the tokens that a frame has read
abbrev pub Begun : Frame → Reading
Begun (InParen p) = token opening p
Begun (InTuple p parts) = token opening p then TypesBefore parts
Begun (InField p boxed gs at) = token (record_sign boxed) p then FieldsBefore gs then token (lower at.name) at.place then sign colon
Begun (InAlt p choices at) = either_token less p then AltsBefore choices then token (upper at.name) at.place
Begun (InArgs p n args) = token (upper n) p then ReadsArgs args
Begun (InArrow a) = ReadsType a then sign arrow

abbrev pub Below : List Frame → Reading
Below [] all rest = all ≡ rest
Below (f ∷ fs) all rest = (Below fs then Begun f) all rest

-- a frame's own types are bound tightly enough
abbrev pub Fits : Frame → Type 0
Fits (InParen p) = ⊤
Fits (InTuple p parts) = ((a : Written) → AreMany (and_type parts a)) × TypesBind parts
Fits (InField p boxed gs at) = FieldsBind gs
Fits (InAlt p choices at) = AltsBind choices
Fits (InArgs p n args) = ArgsBind args
Fits (InArrow a) = (looseness a ≤ 2) × Binds a

-- each frame has room for the one on it
abbrev pub Good : List Frame → Type 0
Good [] = ⊤
Good (f ∷ fs) = (outcome f ≤ room fs) × Fits f × Good fs

abbrev pub Sound : Mode → Type 0
Sound (Want fs) = Good fs
Sound (Alone t fs) = (looseness t ≤ 0) × Binds t × Good fs
Sound (Head p n fs) = (1 ≤ room fs) × Good fs
Sound (Taken t fs) = (looseness t ≤ 2) × (2 ≤ room fs) × Binds t × Good fs
Sound (WantField p boxed gs fs) = FieldsBind gs × Good fs
Sound (AfterField p boxed gs at fs) = FieldsBind gs × Good fs
Sound (WantAlt p choices fs) = AltsBind choices × Good fs
Sound (AfterAlt p choices at fs) = AltsBind choices × Good fs
Sound (AfterTake p t fs) = (looseness t ≤ 2) × (2 ≤ room fs) × Binds t × Good fs
Sound (TakeOpen p t fs) = (looseness t ≤ 2) × (2 ≤ room fs) × Binds t × Good fs
Sound (TakeDots p t fs) = (looseness t ≤ 2) × (2 ≤ room fs) × Binds t × Good fs
Sound (TakeName t ns fs) = (looseness t ≤ 2) × (2 ≤ room fs) × Binds t × Good fs
Sound (TakeMore t ns fs) = (looseness t ≤ 2) × (2 ≤ room fs) × Binds t × Good fs
Sound Stuck = ⊤

-- the mode has read the tokens from the first of the type up to the rest
abbrev pub ModeRead : Mode → Reading
ModeRead (Want fs) = Below fs
ModeRead (Alone t fs) = Below fs then ReadsType t
ModeRead (Head p n fs) = Below fs then token (upper n) p
ModeRead (Taken t fs) = Below fs then ReadsType t
ModeRead (WantField p boxed gs fs) = Below fs then token (record_sign boxed) p then FieldsBefore gs
ModeRead (AfterField p boxed gs at fs) = Below fs then token (record_sign boxed) p then FieldsBefore gs then token (lower at.name) at.place
ModeRead (WantAlt p choices fs) = Below fs then either_token less p then AltsBefore choices
ModeRead (AfterAlt p choices at fs) = Below fs then either_token less p then AltsBefore choices then token (upper at.name) at.place
ModeRead (AfterTake p t fs) = Below fs then ReadsType t then token take_word p
ModeRead (TakeOpen p t fs) = Below fs then ReadsType t then token take_word p then sign opening
ModeRead (TakeDots p t fs) = Below fs then ReadsType t then token take_word p then sign opening then sign dots
ModeRead (TakeName t ns fs) = Below fs then ReadsType t then sign take_word then sign opening then ReadsNames ns
ModeRead (TakeMore t ns fs) = Below fs then ReadsType t then sign take_word then sign opening then NamesBefore ns
ModeRead Stuck = λ all rest. ⊤

-- both at once
pub record Holds (all rest : List Seen) (m : Mode) : Type 0 where
  pub sound : Sound m
  pub read : ModeRead m all rest

-- a type has been read under these frames
pub record Spelled (all rest : List Seen) (t : Written) (fs : List Frame) : Type 0 where
  pub loose : looseness t ≤ room fs
  pub binds : Binds t
  pub good : Good fs
  pub read : (Below fs then ReadsType t) all rest

fill_holds : (all rest : List Seen) (f : Frame) (t : Written) (fs : List Frame) → closes f ≤ 3 → Spelled all rest t (f ∷ fs) → Spelled all rest (fill f t) fs
fill_holds all rest (InParen p) t fs h s = absurd (omega arith)
fill_holds all rest (InTuple p ts) t fs h s = absurd (omega arith)
fill_holds all rest (InField p boxed gs at) t fs h s = absurd (omega arith)
fill_holds all rest (InAlt p choices at) t fs h s = absurd (omega arith)
fill_holds all rest (InArgs p n args) t fs h s =
    let g = s.good in let r = s.read in
    record {
      loose = g.0;
      binds = (g.1, s.loose, s.binds);
      good = g.2;
      read = (r.1.0, r.1.1, inl (r.1.2.0, r.1.2.1, (r.0, r.1.2.2, r.2)));
    }
fill_holds all rest (InArrow a) t fs h s =
    let g = s.good in let r = s.read in
    record {
      loose = g.0;
      binds = (g.1.0, g.1.1, s.binds);
      good = g.2;
      read = (r.1.0, r.1.1, (refl, (r.1.2.0, r.1.2.1, (r.0, r.1.2.2, r.2))));
    }

fill_loose : (f : Frame) (t : Written) → closes f ≤ 3 → looseness (fill f t) ≤ closes f
fill_loose (InParen p) t h = absurd (omega arith)
fill_loose (InTuple p ts) t h = absurd (omega arith)
fill_loose (InField p boxed gs at) t h = absurd (omega arith)
fill_loose (InAlt p choices at) t h = absurd (omega arith)
fill_loose (InArgs p n args) t h = omega arith
fill_loose (InArrow a) t h = omega arith

-- what is done behind the closed frames
abbrev closed_to : {A : Type 0} → ℕ → (Written → List Frame → A) → Written → List Frame → A
closed_to k next t fs = next (closed k t fs).0 (closed k t fs).1

-- what holds behind each type holds behind the closed frames
closed_holds : {A : Type 0} (Q : A → Type 0) (all rest : List Seen) (k : ℕ) (next : Written → List Frame → A) → k ≤ 3 → ((t : Written) (fs : List Frame) → looseness t ≤ k → Spelled all rest t fs → Q (next t fs)) → (fs : List Frame) (t : Written) → looseness t ≤ k → Spelled all rest t fs → Q (closed_to k next t fs)
closed_holds Q all rest k next le h [] t l s = h t [] l s
closed_holds Q all rest k next le h (f ∷ fs) t l s =
    choose (λ r. Q (next r.0 r.1)) (nat_le (closes f) k) (closed k (fill f t) fs) (t, f ∷ fs)
    (λ q. let c = leb-true (closes f) k q in
    closed_holds Q all rest k next le h fs (fill f t) (omega (arith, fill_loose f t (omega arith))) (fill_holds all rest f t fs (omega arith) s))
    (λ q. h t (f ∷ fs) l s)

-- nothing was read
stuck : (all rest : List Seen) → Holds all rest Stuck
stuck all rest = record { sound = tt; read = tt }

-- the symbol that is read
abbrev at_token : Symbol → Place → List Seen → List Seen
at_token y p rest = record { symbol = y; place = p } ∷ rest

spelled : (all rest : List Seen) (t : Written) (fs : List Frame) → Holds all rest (Alone t fs) → Spelled all rest t fs
spelled all rest t fs s = let i = s.sound in record { loose = omega (arith, i.0); binds = i.1; good = i.2; read = s.read }

strength_le : (y : Symbol) → strength y ≤ 3
strength_le take_word = omega arith
strength_le arrow = omega arith
strength_le y = omega arith

strength_least : (y : Symbol) → 2 ≤ strength y
strength_least take_word = omega arith
strength_least arrow = omega arith
strength_least y = omega arith

module _ (all rest : List Seen) (p : Place) where
  on_close_holds : (t : Written) (fs : List Frame) → Spelled all (at_token closing p rest) t fs → Holds all rest (machine.on_close trees t fs)
  on_close_holds t [] s = stuck all rest
  on_close_holds t (InParen q ∷ fs) s =
      let r = s.read in
      record { sound = (omega arith, s.binds, s.good.2); read = (r.1.0, r.1.1, (r.0, r.1.2, (_, r.2, (p, refl)))) }
  on_close_holds t (InTuple q ts ∷ fs) s =
      let r = s.read in let b = r.1.2 in
      record { sound = (omega arith, (s.good.1.0 t, (s.good.1.1, s.binds)), s.good.2); read = (r.1.0, r.1.1, (b.0, b.1, (_, (r.0, b.2, r.2), (p, refl)))) }
  on_close_holds t (f ∷ fs) s = stuck all rest

  on_comma_holds : (t : Written) (fs : List Frame) → Spelled all (at_token comma p rest) t fs → Holds all rest (machine.on_comma trees t fs)
  on_comma_holds t [] s = stuck all rest
  on_comma_holds t (InParen q ∷ fs) s =
      let r = s.read in
      record { sound = (s.good.0, ((λ a. tt), (tt, s.binds)), s.good.2); read = (r.1.0, r.1.1, (r.0, r.1.2, (r.0, refl, (_, r.2, (p, refl))))) }
  on_comma_holds t (InTuple q ts ∷ fs) s =
      let r = s.read in let b = r.1.2 in
      record { sound = (s.good.0, ((λ a. tt), (s.good.1.1, s.binds)), s.good.2); read = (r.1.0, r.1.1, (b.0, b.1, (r.0, b.2, (_, r.2, (p, refl))))) }
  on_comma_holds t (InField q boxed gs at ∷ fs) s =
      let r = s.read in let b = r.1.2 in let c = b.2 in let d = c.2 in
      record { sound = ((s.good.1, s.binds), s.good.2); read = (r.1.0, r.1.1, (b.0, b.1, (c.0, c.1, (d.0, d.1, (r.0, d.2, (_, r.2, (p, refl))))))) }
  on_comma_holds t (f ∷ fs) s = stuck all rest

  on_closing_brace_holds : (t : Written) (fs : List Frame) → Spelled all (at_token closing_brace p rest) t fs → Holds all rest (machine.on_closing_brace trees t fs)
  on_closing_brace_holds t [] s = stuck all rest
  on_closing_brace_holds t (InField q boxed gs at ∷ fs) s =
      let r = s.read in let b = r.1.2 in let c = b.2 in let d = c.2 in
      record { sound = (omega arith, (s.good.1, s.binds), s.good.2); read = (r.1.0, r.1.1, (b.0, b.1, (_, (c.0, c.1, (d.0, d.1, (r.0, d.2, r.2))), (p, refl)))) }
  on_closing_brace_holds t (f ∷ fs) s = stuck all rest

  on_bar_holds : (first : Bool) (t : Written) (fs : List Frame) → Spelled all (at_token (bar first) p rest) t fs → Holds all rest (machine.on_bar trees t fs)
  on_bar_holds first t [] s = stuck all rest
  on_bar_holds first t (InAlt q choices at ∷ fs) s =
      let r = s.read in let b = r.1.2 in let c = b.2 in
      record { sound = ((s.good.1, s.loose, s.binds), s.good.2); read = (r.1.0, r.1.1, (b.0, b.1, (c.0, c.1, (r.0, c.2, (_, r.2, (p, (first, refl))))))) }
  on_bar_holds first t (f ∷ fs) s = stuck all rest

  on_greater_holds : (joined : Bool) (t : Written) (fs : List Frame) → Spelled all (at_token (greater joined) p rest) t fs → Holds all rest (machine.on_greater trees t fs)
  on_greater_holds joined t [] s = stuck all rest
  on_greater_holds joined t (InAlt q choices at ∷ fs) s =
      let r = s.read in let b = r.1.2 in let c = b.2 in
      record { sound = (omega arith, (s.good.1, s.loose, s.binds), s.good.2); read = (r.1.0, r.1.1, (b.0, b.1, (_, (c.0, c.1, (r.0, c.2, r.2)), (p, (joined, refl))))) }
  on_greater_holds joined t (f ∷ fs) s = stuck all rest

  on_take_holds : (t : Written) (fs : List Frame) → looseness t ≤ 2 → Spelled all (at_token take_word p rest) t fs → Holds all rest (machine.on_take trees p t fs)
  on_take_holds t fs l s =
      choose (Holds all rest) (nat_le 2 (room fs)) (AfterTake p t fs) Stuck
      (λ q. record { sound = (l, leb-true 2 (room fs) q, s.binds, s.good); read = (s.read.0, s.read.1, (_, s.read.2, refl)) })
      (λ q. stuck all rest)

  on_arrow_holds : (t : Written) (fs : List Frame) → looseness t ≤ 2 → Spelled all (at_token arrow p rest) t fs → Holds all rest (machine.on_arrow trees t fs)
  on_arrow_holds t fs l s =
      choose (Holds all rest) (nat_le 3 (room fs)) (Want (InArrow t ∷ fs)) Stuck
      (λ q. record { sound = (leb-true 3 (room fs) q, (l, s.binds), s.good); read = (s.read.0, s.read.1, (_, s.read.2, (p, refl))) })
      (λ q. stuck all rest)

  on_end_holds : (y : Symbol) (t : Written) (fs : List Frame) → looseness t ≤ strength y → Spelled all (at_token y p rest) t fs → Holds all rest (on_end y p t fs)
  on_end_holds take_word t fs l s = on_take_holds t fs l s
  on_end_holds arrow t fs l s = on_arrow_holds t fs l s
  on_end_holds closing t fs l s = on_close_holds t fs s
  on_end_holds comma t fs l s = on_comma_holds t fs s
  on_end_holds closing_brace t fs l s = on_closing_brace_holds t fs s
  on_end_holds (bar first) t fs l s = on_bar_holds first t fs s
  on_end_holds (greater joined) t fs l s = on_greater_holds joined t fs s
  on_end_holds y t fs l s = stuck all rest

  go_past_holds : (y : Symbol) (t : Written) (fs : List Frame) → looseness t ≤ 2 → Spelled all (at_token y p rest) t fs → Holds all rest (go_past y p t fs)
  go_past_holds y t fs l s =
      closed_holds (Holds all rest) all (at_token y p rest) (strength y) (on_end y p) (strength_le y) (λ u us. on_end_holds y u us) fs t (omega (arith, strength_least y)) s

  on_empty_holds : (fs : List Frame) → Good fs → Below fs all (at_token closing p rest) → Holds all rest (machine.on_empty trees fs)
  on_empty_holds [] g r = stuck all rest
  on_empty_holds (InParen q ∷ fs) g r = record { sound = (omega arith, tt, g.2); read = (r.0, r.1, (_, r.2, (p, refl))) }
  on_empty_holds (f ∷ fs) g r = stuck all rest

  on_upper_holds : (n : List ℕ) (fs : List Frame) → Good fs → Below fs all (at_token (upper n) p rest) → Holds all rest (machine.on_upper trees p n fs)
  on_upper_holds n fs g r =
      choose (Holds all rest) (nat_le 1 (room fs)) (Head p n fs) (Alone (bare p n) fs)
      (λ q. record { sound = (leb-true 1 (room fs) q, g); read = (_, r, refl) })
      (λ q. record { sound = (omega arith, tt, g); read = (_, r, inl (_, refl, refl)) })

  start_holds : (y : Symbol) (fs : List Frame) → Good fs → Below fs all (at_token y p rest) → Holds all rest (start y p fs)
  start_holds (lower n) fs g r = record { sound = (omega arith, tt, g); read = (_, r, inr (refl, refl)) }
  start_holds (upper n) fs g r = on_upper_holds n fs g r
  start_holds opening fs g r = record { sound = (omega arith, tt, g); read = (_, r, refl) }
  start_holds closing fs g r = on_empty_holds fs g r
  start_holds brace fs g r = record { sound = (tt, g); read = (_, r, (_, refl, refl)) }
  start_holds unboxed fs g r = record { sound = (tt, g); read = (_, r, (_, refl, refl)) }
  start_holds (less joined) fs g r = record { sound = (tt, g); read = (_, r, (_, (joined, refl), refl)) }
  start_holds y fs g r = stuck all rest

  next_argument_holds : (y : Symbol) (t : Written) (fs : List Frame) → Holds all (at_token y p rest) (Alone t fs) → Holds all rest (machine.next_argument trees y p t fs)
  next_argument_holds y t [] s = stuck all rest
  next_argument_holds y t (InArgs q n args ∷ fs) s =
      let r = s.read in let b = r.1.2 in let i = s.sound in
      start_holds y (InArgs q n (and_type args t) ∷ fs) (i.2.0, (i.2.1, i.0, i.1), i.2.2) (r.1.0, r.1.1, (b.0, b.1, (r.0, b.2, r.2)))
  next_argument_holds y t (f ∷ fs) s = stuck all rest

  behind_alone_holds : (y : Symbol) (t : Written) (fs : List Frame) → Holds all (at_token y p rest) (Alone t fs) → Holds all rest (machine.behind_alone trees y p t fs)
  behind_alone_holds bang t fs s =
      let r = s.read in record { sound = (omega arith, (s.sound.0, s.sound.1), s.sound.2); read = (r.0, r.1, (refl, (_, r.2, (p, refl)))) }
  behind_alone_holds y t fs s = go_past_holds y t fs (omega (arith, s.sound.0)) (spelled all (at_token y p rest) t fs s)

  go_on_holds : (y : Symbol) (t : Written) (fs : List Frame) → Holds all (at_token y p rest) (Alone t fs) → Holds all rest (machine.go_on trees y p t fs)
  go_on_holds y t fs s =
      choose (Holds all rest) (starts y) (machine.next_argument trees y p t fs) (machine.behind_alone trees y p t fs)
      (λ q. next_argument_holds y t fs s)
      (λ q. behind_alone_holds y t fs s)

  after_head_holds : (y : Symbol) (q : Place) (n : List ℕ) (fs : List Frame) → Holds all (at_token y p rest) (Head q n fs) → Holds all rest (machine.after_head trees y p q n fs)
  after_head_holds y q n fs s =
      let r = s.read in
      choose (Holds all rest) (starts y) (start y p (InArgs q n no_types ∷ fs)) (machine.behind_alone trees y p (bare q n) fs)
      (λ e. start_holds y (InArgs q n no_types ∷ fs) (s.sound.0, tt, s.sound.1) (r.0, r.1, (_, r.2, refl)))
      (λ e. behind_alone_holds y (bare q n) fs (record { sound = (omega arith, tt, s.sound.1); read = (r.0, r.1, inl (_, r.2, refl)) }))

  field_name_holds : (y : Symbol) (q : Place) (boxed : Bool) (gs : WrittenFields) (fs : List Frame) → Holds all (at_token y p rest) (WantField q boxed gs fs) → Holds all rest (machine.field_name trees y p q boxed gs fs)
  field_name_holds (lower n) q boxed gs fs s = let r = s.read in let b = r.2 in record { sound = s.sound; read = (r.0, r.1, (b.0, b.1, (_, b.2, refl))) }
  field_name_holds y q boxed gs fs s = stuck all rest

  field_type_holds : (y : Symbol) (q : Place) (boxed : Bool) (gs : WrittenFields) (at : At) (fs : List Frame) → Holds all (at_token y p rest) (AfterField q boxed gs at fs) → Holds all rest (machine.field_type trees y q boxed gs at fs)
  field_type_holds colon q boxed gs at fs s =
      let r = s.read in let b = r.2 in let c = b.2 in
      record { sound = (omega arith, s.sound.0, s.sound.1); read = (r.0, r.1, (b.0, b.1, (c.0, c.1, (_, c.2, (p, refl))))) }
  field_type_holds y q boxed gs at fs s = stuck all rest

  alt_name_holds : (y : Symbol) (q : Place) (choices : WrittenAlts) (fs : List Frame) → Holds all (at_token y p rest) (WantAlt q choices fs) → Holds all rest (machine.alt_name trees y p q choices fs)
  alt_name_holds (upper n) q choices fs s = let r = s.read in let b = r.2 in record { sound = s.sound; read = (r.0, r.1, (b.0, b.1, (_, b.2, refl))) }
  alt_name_holds y q choices fs s = stuck all rest

  payload_holds : (y : Symbol) (q : Place) (choices : WrittenAlts) (at : At) (fs : List Frame) → Holds all (at_token y p rest) (AfterAlt q choices at fs) → Holds all rest (start y p (InAlt q choices at ∷ fs))
  payload_holds y q choices at fs s = start_holds y (InAlt q choices at ∷ fs) (omega arith, s.sound.0, s.sound.1) s.read

  after_alt_holds : (y : Symbol) (q : Place) (choices : WrittenAlts) (at : At) (fs : List Frame) → Holds all (at_token y p rest) (AfterAlt q choices at fs) → Holds all rest (machine.after_alt trees y p q choices at fs)
  after_alt_holds (bar first) q choices at fs s =
      let r = s.read in let b = r.2 in let c = b.2 in
      record { sound = s.sound; read = (r.0, r.1, (b.0, b.1, (c.0, c.1, (_, c.2, (p, (first, refl)))))) }
  after_alt_holds (greater joined) q choices at fs s =
      let r = s.read in let b = r.2 in
      record { sound = (omega arith, s.sound.0, s.sound.1); read = (r.0, r.1, (b.0, b.1, (_, b.2, (p, (joined, refl))))) }
  after_alt_holds y q choices at fs s = payload_holds y q choices at fs s

  after_take_holds : (y : Symbol) (q : Place) (t : Written) (fs : List Frame) → Holds all (at_token y p rest) (AfterTake q t fs) → Holds all rest (machine.after_take trees y q t fs)
  after_take_holds opening q t fs s = let r = s.read in let b = r.2 in record { sound = s.sound; read = (r.0, r.1, (b.0, b.1, (_, b.2, (p, refl)))) }
  after_take_holds y q t fs s = stuck all rest

  take_open_holds : (y : Symbol) (q : Place) (t : Written) (fs : List Frame) → Holds all (at_token y p rest) (TakeOpen q t fs) → Holds all rest (machine.take_open trees y p q t fs)
  take_open_holds dots q t fs s =
      let r = s.read in let b = r.2 in let c = b.2 in
      record { sound = s.sound; read = (r.0, r.1, (b.0, b.1, (c.0, c.1, (_, c.2, (p, refl))))) }
  take_open_holds (lower n) q t fs s =
      let r = s.read in let b = r.2 in let c = b.2 in
      record { sound = s.sound; read = (r.0, r.1, (b.0, b.1, (c.0, (q, c.1), (_, c.2, ([], name_at p n, refl, (_, refl, refl)))))) }
  take_open_holds y q t fs s = stuck all rest

  take_dots_holds : (y : Symbol) (q : Place) (t : Written) (fs : List Frame) → Holds all (at_token y p rest) (TakeDots q t fs) → Holds all rest (machine.take_dots trees y q t fs)
  take_dots_holds closing q t fs s =
      let r = s.read in let b = r.2 in let c = b.2 in let d = c.2 in let i = s.sound in
      record { sound = (omega arith, i.1, (i.0, i.2), i.3); read = (r.0, r.1, (refl, (b.0, b.1, (c.0, c.1, (d.0, d.1, (_, d.2, (p, refl))))))) }
  take_dots_holds y q t fs s = stuck all rest

  -- a name more, with a comma behind it
  more_before : (n : At) (ns : List At) (ts mid : List Seen) → NamesBefore ns ts mid → (token (lower n.name) n.place then sign comma) mid rest → NamesBefore (ns ++ n ∷ []) ts rest
  more_before n [] ts mid r k = let e = sym r in let P : List Seen → Type 0 = λ more. (token (lower n.name) n.place then sign comma) more rest in let j = subst P e k in (j.0, j.1, (rest, j.2, refl))
  more_before n (m ∷ ns) ts mid r k = (r.0, r.1, (r.2.0, r.2.1, more_before n ns r.2.0 mid r.2.2 k))

  names_more : (ns : List At) (ts : List Seen) → ReadsNames ns ts (at_token comma p rest) → NamesBefore ns ts rest
  names_more ns ts r =
      let k = r.3 in let P : List At → Type 0 = λ all_names. NamesBefore all_names ts rest in
      subst P (sym r.2) (more_before r.1 r.0 ts k.0 k.1 (_, k.2, (p, refl)))

  take_name_holds : (y : Symbol) (t : Written) (ns : List At) (fs : List Frame) → Holds all (at_token y p rest) (TakeName t ns fs) → Holds all rest (machine.take_name trees y t ns fs)
  take_name_holds comma t ns fs s =
      let r = s.read in let b = r.2 in let c = b.2 in let d = c.2 in
      record { sound = s.sound; read = (r.0, r.1, (b.0, b.1, (c.0, c.1, (d.0, d.1, names_more ns d.0 d.2)))) }
  take_name_holds closing t ns fs s =
      let r = s.read in let b = r.2 in let c = b.2 in let d = c.2 in let i = s.sound in
      record { sound = (omega arith, i.1, (i.0, i.2), i.3); read = (r.0, r.1, (refl, (b.0, b.1, (c.0, c.1, (d.0, d.1, (_, d.2, (p, refl))))))) }
  take_name_holds y t ns fs s = stuck all rest

  take_more_holds : (y : Symbol) (t : Written) (ns : List At) (fs : List Frame) → Holds all (at_token y p rest) (TakeMore t ns fs) → Holds all rest (machine.take_more trees y p t ns fs)
  take_more_holds (lower n) t ns fs s =
      let r = s.read in let b = r.2 in let c = b.2 in let d = c.2 in
      record { sound = s.sound; read = (r.0, r.1, (b.0, b.1, (c.0, c.1, (d.0, d.1, (ns, name_at p n, refl, (_, d.2, refl)))))) }
  take_more_holds y t ns fs s = stuck all rest

  -- one token more
  pub mode_holds : (m : Mode) (y : Symbol) → Holds all (at_token y p rest) m → Holds all rest (mode_step m y p)
  mode_holds (Want fs) y h = start_holds y fs h.sound h.read
  mode_holds (Alone t fs) y h = go_on_holds y t fs h
  mode_holds (Head q n fs) y h = after_head_holds y q n fs h
  mode_holds (Taken t fs) y h = let i = h.sound in go_past_holds y t fs i.0 (record { loose = omega (arith, i.0, i.1); binds = i.2; good = i.3; read = h.read })
  mode_holds (WantField q boxed gs fs) y h = field_name_holds y q boxed gs fs h
  mode_holds (AfterField q boxed gs at fs) y h = field_type_holds y q boxed gs at fs h
  mode_holds (WantAlt q choices fs) y h = alt_name_holds y q choices fs h
  mode_holds (AfterAlt q choices at fs) y h = after_alt_holds y q choices at fs h
  mode_holds (AfterTake q t fs) y h = after_take_holds y q t fs h
  mode_holds (TakeOpen q t fs) y h = take_open_holds y q t fs h
  mode_holds (TakeDots q t fs) y h = take_dots_holds y q t fs h
  mode_holds (TakeName t ns fs) y h = take_name_holds y t ns fs h
  mode_holds (TakeMore t ns fs) y h = take_more_holds y t ns fs h
  mode_holds Stuck y h = stuck all rest

run_holds : (m : Mode) (all ts : List Seen) → Holds all ts m → Holds all [] (run m ts)
run_holds m all [] h = h
run_holds m all (t ∷ ts) h = run_holds (step m t) all ts (mode_holds all ts t.place m t.symbol h)

-- at the end
abbrev Ended : List Seen → Option Written → Type 0
Ended all None = ⊤
Ended all (Some t) = SpellsType all t

whole_is : (all : List Seen) (t : Written) (fs : List Frame) → looseness t ≤ 3 → Spelled all [] t fs → Ended all (whole t fs)
whole_is all t [] l s = (s.binds, let P : List Seen → Type 0 = λ ts. ReadsType t ts [] in subst P (sym s.read.1) s.read.2)
whole_is all t (f ∷ fs) l s = tt

end_is : (all : List Seen) (t : Written) (fs : List Frame) → Spelled all [] t fs → Ended all (end_whole t fs)
end_is all t fs s = closed_holds (λ o. Ended all o) all [] 3 whole (omega arith) (whole_is all) fs t (loose_le t) s

mode_is : (all : List Seen) (m : Mode) → Holds all [] m → Ended all (mode_end m)
mode_is all (Alone t fs) h = end_is all t fs (spelled all [] t fs h)
mode_is all (Head q n fs) h =
    let r = h.read in
    end_is all (bare q n) fs (record { loose = omega arith; binds = tt; good = h.sound.1; read = (r.0, r.1, inl (_, r.2, refl)) })
mode_is all (Taken t fs) h = let i = h.sound in end_is all t fs (record { loose = omega (arith, i.0, i.1); binds = i.2; good = i.3; read = h.read })
mode_is all m h = tt

-- what is read to its end is spelled
pub sound : (ts : List Seen) (t : Written) → mode_end (run (Want []) ts) ≡ Some t → SpellsType ts t
sound ts t e =
    let P : Option Written → Type 0 = λ o. Ended ts o in
    subst P e (mode_is ts (run (Want []) ts) (run_holds (Want []) ts ts (record { sound = tt; read = refl })))
