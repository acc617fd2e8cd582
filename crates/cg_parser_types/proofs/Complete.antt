-- The machine reads each type that the tokens spell.
use Rattle.std.proofs.Common.{◌≡◌, ℕ, ◌≤◌, ◌<◌, List, [], ◌∷◌, ◌++◌, ⊎_elim, refl, sym, ◌∙◌, ap, subst, arith, true, false, Bool, Some, append_assoc}
use Rattle.std.specs.Prelude.{nat_le}
use Rattle.std.proofs.lemmas.Bool.{le-leb, lt-leb, leb-true}
use Rattle.std.proofs.lemmas.List.{append-nil}
use Rattle.cg_base.specs.declared.place.Place.{Place}
use Rattle.cg_core.specs.declared.at.At.{At}
use Rattle.cg_surface.specs.Written.{Written, named, nothing, tuple, paren, arrow as function, fields, variant, bang as observed, take_some, take_all, Writtens, no_types, and_type, WrittenFields, no_fields, and_field, WrittenAlts, no_alts, and_plain, and_alt, place_of}
use Rattle.cg_parser_symbols.specs.Symbols.{Symbol, lower, upper, take_word, opening, closing, closing_brace, less, greater, colon, arrow, bang, bar, comma, dots, Seen}
use Rattle.cg_parser_symbols.specs.Readings.{token}
use Rattle.cg_parser_types.specs.Grammar.{looseness, record_sign, NamesBefore, ReadsNames, ReadsType, ReadsArgs, TypesBefore, FieldsBefore, AltsBefore, Binds, ArgsBind, TypesBind, FieldsBind, AltsBind, SpellsType}
use Rattle.cg_parser_types.specs.Machine as machine
use Rattle.cg_parser_types.specs.Machine.{InParen, InTuple, InField, InAlt, InArgs, InArrow, Want, Alone, Head, Taken, WantField, AfterField, WantAlt, AfterAlt, AfterTake, TakeOpen, TakeDots, TakeName, TakeMore, starts, strength}
use Rattle.cg_parser_types.specs.Plain.{trees}
use Rattle.cg_parser_types.proofs.Short.{Frame, Mode, closed, hole, room, closes, bare, go_past, start, mode_step, end_whole, mode_end, run}

pub loose_le : (t : Written) → looseness t ≤ 3
loose_le (named p n no_types) = omega arith
loose_le (named p n (and_type ts t)) = omega arith
loose_le (nothing p) = omega arith
loose_le (tuple p ts) = omega arith
loose_le (paren p a) = omega arith
loose_le (function p a b) = omega arith
loose_le (fields p boxed gs) = omega arith
loose_le (variant p choices) = omega arith
loose_le (observed p a) = omega arith
loose_le (take_some p a ns) = omega arith
loose_le (take_all p a q) = omega arith

-- the symbols that end a type
abbrev pub is_end : Symbol → Bool
is_end take_word = true
is_end arrow = true
is_end closing = true
is_end comma = true
is_end closing_brace = true
is_end (bar begins) = true
is_end (greater joined) = true
is_end y = false

-- a mode that stands behind a type under these frames
pub record Behind (t : Written) (fs : List Frame) (m : Mode) : Type 0 where
  pub past : (y : Symbol) (p : Place) → is_end y ≡ true → looseness t ≤ strength y → mode_step m y p ≡ go_past y p t fs
  pub observes : (p : Place) → looseness t ≤ 0 → mode_step m bang p ≡ Alone (observed (place_of t) t) fs
  pub ends : mode_end m ≡ end_whole t fs
  pub alone : looseness t ≤ 0 → room fs ≤ 0 → m ≡ Alone t fs

past_alone : (t : Written) (fs : List Frame) (y : Symbol) (p : Place) → is_end y ≡ true → mode_step (Alone t fs) y p ≡ go_past y p t fs
past_alone t fs take_word p e = refl
past_alone t fs arrow p e = refl
past_alone t fs closing p e = refl
past_alone t fs comma p e = refl
past_alone t fs closing_brace p e = refl
past_alone t fs (bar begins) p e = refl
past_alone t fs (greater joined) p e = refl
past_alone t fs y p e = cc

past_head : (q : Place) (n : List ℕ) (fs : List Frame) (y : Symbol) (p : Place) → is_end y ≡ true → mode_step (Head q n fs) y p ≡ go_past y p (bare q n) fs
past_head q n fs take_word p e = refl
past_head q n fs arrow p e = refl
past_head q n fs closing p e = refl
past_head q n fs comma p e = refl
past_head q n fs closing_brace p e = refl
past_head q n fs (bar begins) p e = refl
past_head q n fs (greater joined) p e = refl
past_head q n fs y p e = cc

behind_alone : (t : Written) (fs : List Frame) → Behind t fs (Alone t fs)
behind_alone t fs = record { past = λ y p e h. past_alone t fs y p e; observes = λ p h. refl; ends = refl; alone = λ h r. refl }

behind_head : (q : Place) (n : List ℕ) (fs : List Frame) → 1 ≤ room fs → Behind (bare q n) fs (Head q n fs)
behind_head q n fs room_is = record { past = λ y p e h. past_head q n fs y p e; observes = λ p h. refl; ends = refl; alone = λ h r. absurd (omega arith) }

behind_taken : (t : Written) (fs : List Frame) → 1 ≤ looseness t → Behind t fs (Taken t fs)
behind_taken t fs l = record { past = λ y p e h. refl; observes = λ p h. absurd (omega arith); ends = refl; alone = λ h r. absurd (omega arith) }

-- what closes a frame closes it first
shut : (f : Frame) (k : ℕ) (t : Written) (fs : List Frame) → closes f ≤ k → closed k t (f ∷ fs) ≡ closed k (machine.fill trees f t) fs
shut f k t fs h = rw (le-leb (closes f) k h) refl

past_shut : (f : Frame) (y : Symbol) (p : Place) (t : Written) (fs : List Frame) → closes f ≤ strength y → go_past y p t (f ∷ fs) ≡ go_past y p (machine.fill trees f t) fs
past_shut f y p t fs h = ap (λ r. machine.on_end trees y p r.0 r.1) (shut f (strength y) t fs h)

behind_args : (q : Place) (n : List ℕ) (args : Writtens) (a : Written) (fs : List Frame) → Behind (named q n (and_type args a)) fs (Alone a (InArgs q n args ∷ fs))
behind_args q n args a fs = record {
  past = λ y p e h. past_alone a (InArgs q n args ∷ fs) y p e ∙ past_shut (InArgs q n args) y p a fs h;
  observes = λ p h. absurd (omega arith);
  ends = refl;
  alone = λ h r. absurd (omega arith);
}

behind_arrow : (a b : Written) (fs : List Frame) (m : Mode) → Behind b (InArrow a ∷ fs) m → Behind (function (place_of a) a b) fs m
behind_arrow a b fs m k = record {
  past = λ y p e h. k.past y p e (omega (arith, loose_le b)) ∙ past_shut (InArrow a) y p b fs h;
  observes = λ p h. absurd (omega arith);
  ends = k.ends;
  alone = λ h r. absurd (omega arith);
}

-- a sign that needs room stops at a frame that has it
stops : (f : Frame) → 2 ≤ hole f → 2 < closes f
stops (InParen p) h = omega arith
stops (InTuple p ts) h = omega arith
stops (InField p boxed gs at) h = omega arith
stops (InAlt p choices at) h = omega arith
stops (InArgs p n args) h = absurd (omega arith)
stops (InArrow a) h = omega arith

stays : (t : Written) (fs : List Frame) → 2 ≤ room fs → closed 2 t fs ≡ (t, fs)
stays t [] h = refl
stays t (f ∷ fs) h = rw (lt-leb (closes f) 2 (stops f h)) refl

takes : (p : Place) (t : Written) (fs : List Frame) → 2 ≤ room fs → go_past take_word p t fs ≡ AfterTake p t fs
takes p t fs h = ap (λ r. machine.on_take trees p r.0 r.1) (stays t fs h) ∙ rw (le-leb 2 (room fs) h) refl

arrows : (p : Place) (t : Written) (fs : List Frame) → 3 ≤ room fs → go_past arrow p t fs ≡ Want (InArrow t ∷ fs)
arrows p t fs h = ap (λ r. machine.on_arrow trees r.0 r.1) (stays t fs (omega arith)) ∙ rw (le-leb 3 (room fs) h) refl

-- one token
go : (m : Mode) (y : Symbol) (p : Place) (ts rest : List Seen) (to : Mode) → token y p ts rest → mode_step m y p ≡ to → run m ts ≡ run to rest
go m y p ts rest to r q = ap (run m) r ∙ ap (λ x. run x rest) q

-- the first token of a type
record First (ts : List Seen) : Type 0 where
  y : Symbol
  p : Place
  more : List Seen
  reads : token y p ts more
  begins : starts y ≡ true

record_starts : (boxed : Bool) → starts (record_sign boxed) ≡ true
record_starts true = refl
record_starts false = refl

first : (t : Written) (ts rest : List Seen) → ReadsType t ts rest → First ts
first (named p n args) ts rest r = ⊎_elim (λ x. record { y = upper n; p = p; more = x.0; reads = x.1; begins = refl }) (λ x. record { y = lower n; p = p; more = rest; reads = x.1; begins = refl }) r
first (nothing p) ts rest r = record { y = opening; p = p; more = r.0; reads = r.1; begins = refl }
first (tuple p parts) ts rest r = record { y = opening; p = p; more = r.0; reads = r.1; begins = refl }
first (paren p a) ts rest r = record { y = opening; p = p; more = r.0; reads = r.1; begins = refl }
first (function p a b) ts rest r = first a ts r.1.0 r.1.1
first (fields p boxed gs) ts rest r = record { y = record_sign boxed; p = p; more = r.0; reads = r.1; begins = record_starts boxed }
first (variant p choices) ts rest r = record { y = less r.1.0; p = p; more = r.0; reads = r.1.1; begins = refl }
first (observed p a) ts rest r = first a ts r.1.0 r.1.1
first (take_some p a ns) ts rest r = first a ts r.1.0 r.1.1
first (take_all p a q) ts rest r = first a ts r.1.0 r.1.1

-- a mode that at the first token of a type does as one that wants it
as_wanted : (m : Mode) (fs : List Frame) → ((y : Symbol) (p : Place) → starts y ≡ true → mode_step m y p ≡ start y p fs) → (t : Written) (ts rest : List Seen) → ReadsType t ts rest → run m ts ≡ run (Want fs) ts
as_wanted m fs same t ts rest r =
    let f = first t ts rest r in
    go m f.y f.p ts f.more (start f.y f.p fs) f.reads (same f.y f.p f.begins) ∙ sym (go (Want fs) f.y f.p ts f.more (start f.y f.p fs) f.reads refl)

head_starts : (q : Place) (n : List ℕ) (fs : List Frame) (y : Symbol) (p : Place) → starts y ≡ true → mode_step (Head q n fs) y p ≡ start y p (InArgs q n no_types ∷ fs)
head_starts q n fs y p h = rw h refl

args_start : (q : Place) (n : List ℕ) (args : Writtens) (t : Written) (fs : List Frame) (y : Symbol) (p : Place) → starts y ≡ true → mode_step (Alone t (InArgs q n args ∷ fs)) y p ≡ start y p (InArgs q n (and_type args t) ∷ fs)
args_start q n args t fs y p h = rw h refl

alt_starts : (q : Place) (choices : WrittenAlts) (at : At) (fs : List Frame) (y : Symbol) (p : Place) → starts y ≡ true → mode_step (AfterAlt q choices at fs) y p ≡ start y p (InAlt q choices at ∷ fs)
alt_starts q choices at fs (bar begins) p h = cc
alt_starts q choices at fs (greater joined) p h = cc
alt_starts q choices at fs y p h = refl

-- the mode behind a name and some of its arguments
abbrev behind_name : Place → List ℕ → Writtens → List Frame → Mode
behind_name q n no_types fs = Head q n fs
behind_name q n (and_type args a) fs = Alone a (InArgs q n args ∷ fs)

name_starts : (q : Place) (n : List ℕ) (args : Writtens) (fs : List Frame) (y : Symbol) (p : Place) → starts y ≡ true → mode_step (behind_name q n args fs) y p ≡ start y p (InArgs q n args ∷ fs)
name_starts q n no_types fs y p h = head_starts q n fs y p h
name_starts q n (and_type args a) fs y p h = args_start q n args a fs y p h

-- the frame of a parenthesis with types before a comma
abbrev listed : Place → Writtens → Frame
listed p no_types = InParen p
listed p (and_type ts t) = InTuple p (and_type ts t)

listed_comma : (p q : Place) (ts : Writtens) (t : Written) (fs : List Frame) → go_past comma q t (listed p ts ∷ fs) ≡ Want (listed p (and_type ts t) ∷ fs)
listed_comma p q no_types t fs = refl
listed_comma p q (and_type ts u) t fs = refl

listed_room : (p : Place) (ts : Writtens) → hole (listed p ts) ≡ 3
listed_room p no_types = refl
listed_room p (and_type ts u) = refl

-- the mode behind `(` and some names of a `take`, each with its comma
abbrev naming : Place → Written → List At → List Frame → Mode
naming q t [] fs = TakeOpen q t fs
naming q t (n ∷ ns) fs = TakeMore t (n ∷ ns) fs

naming_name : (q : Place) (t : Written) (ns : List At) (fs : List Frame) (n : At) → mode_step (naming q t ns fs) (lower n.name) n.place ≡ TakeName t (ns ++ n ∷ []) fs
naming_name q t [] fs n = refl
naming_name q t (m ∷ ns) fs n = refl

naming_comma : (q p : Place) (t : Written) (ns : List At) (fs : List Frame) (n : At) → mode_step (TakeName t (ns ++ n ∷ []) fs) comma p ≡ naming q t (ns ++ n ∷ []) fs
naming_comma q p t [] fs n = refl
naming_comma q p t (m ∷ ns) fs n = refl

names_before : (q : Place) (t : Written) (fs : List Frame) (ns done : List At) (ts rest : List Seen) → NamesBefore ns ts rest → run (naming q t done fs) ts ≡ run (naming q t (done ++ ns) fs) rest
names_before q t fs [] done ts rest r = ap (run (naming q t done fs)) r ∙ ap (λ ns. run (naming q t ns fs) rest) (sym (append-nil done))
names_before q t fs (n ∷ ns) done ts rest r =
    go (naming q t done fs) (lower n.name) n.place ts r.0 (TakeName t (done ++ n ∷ []) fs) r.1 (naming_name q t done fs n)
    ∙ go (TakeName t (done ++ n ∷ []) fs) comma r.2.1.0 r.0 r.2.0 (naming q t (done ++ n ∷ []) fs) r.2.1.1 (naming_comma q r.2.1.0 t done fs n)
    ∙ names_before q t fs ns (done ++ n ∷ []) r.2.0 rest r.2.2
    ∙ ap (λ all. run (naming q t all fs) rest) (append_assoc done (n ∷ []) ns)

names_read : (q : Place) (t : Written) (fs : List Frame) (ns : List At) (ts rest : List Seen) → ReadsNames ns ts rest → run (TakeOpen q t fs) ts ≡ run (TakeName t ns fs) rest
names_read q t fs ns ts rest r =
    let k = r.3 in
    names_before q t fs r.0 [] ts k.0 k.1
    ∙ go (naming q t r.0 fs) (lower r.1.name) r.1.place k.0 rest (TakeName t (r.0 ++ r.1 ∷ []) fs) k.2 (naming_name q t r.0 fs r.1)
    ∙ ap (λ all. run (TakeName t all fs) rest) (sym r.2)

-- a type is read: the mode behind it
abbrev pub Reached : Written → List Frame → List Seen → List Seen → Type 0
Reached t fs ts rest = (m : Mode) × Behind t fs m × (run (Want fs) ts ≡ run m rest)

reached : (t : Written) (fs : List Frame) (ts rest : List Seen) → run (Want fs) ts ≡ run (Alone t fs) rest → Reached t fs ts rest
reached t fs ts rest e = (Alone t fs, behind_alone t fs, e)

-- an upper name with no arguments
upper_read : (p : Place) (n : List ℕ) (fs : List Frame) (ts rest : List Seen) → token (upper n) p ts rest → Reached (named p n no_types) fs ts rest
upper_read p n fs ts rest r = pick (nat_le 1 (room fs)) refl
  where
    pick : (b : Bool) → nat_le 1 (room fs) ≡ b → Reached (named p n no_types) fs ts rest
    pick true q = (Head p n fs, behind_head p n fs (leb-true 1 (room fs) q), go (Want fs) (upper n) p ts rest (Head p n fs) r (rw q refl))
    pick false q = reached (named p n no_types) fs ts rest (go (Want fs) (upper n) p ts rest (Alone (named p n no_types) fs) r (rw q refl))

head_read : (p : Place) (n : List ℕ) (fs : List Frame) (ts rest : List Seen) → 1 ≤ room fs → token (upper n) p ts rest → run (Want fs) ts ≡ run (Head p n fs) rest
head_read p n fs ts rest h r = go (Want fs) (upper n) p ts rest (Head p n fs) r (rw (le-leb 1 (room fs) h) refl)

-- the sign that opens a record
record_opens : (boxed : Bool) (p : Place) (fs : List Frame) → mode_step (Want fs) (record_sign boxed) p ≡ WantField p boxed no_fields fs
record_opens true p fs = refl
record_opens false p fs = refl

-- the payload of an alternative
payload_read : (p : Place) (fs : List Frame) (choices : WrittenAlts) (at : At) (a : Written) (ts rest : List Seen) → looseness a ≤ 0 → ReadsType a ts rest → Reached a (InAlt p choices at ∷ fs) ts rest → run (AfterAlt p choices at fs) ts ≡ run (Alone a (InAlt p choices at ∷ fs)) rest
payload_read p fs choices at a ts rest h r m =
    as_wanted (AfterAlt p choices at fs) (InAlt p choices at ∷ fs) (λ y q e. alt_starts p choices at fs y q e) a ts rest r
    ∙ m.2
    ∙ ap (λ x. run x rest) (m.1.alone h (omega arith))

mutual
  -- what the tokens spell is read
  pub reads : (t : Written) (fs : List Frame) (ts rest : List Seen) → Binds t → looseness t ≤ room fs → ReadsType t ts rest → Reached t fs ts rest
  reads (named p n no_types) fs ts rest b h r =
      ⊎_elim
      (λ x. upper_read p n fs ts rest (let P : List Seen → Type 0 = λ more. token (upper n) p ts more in subst P x.2 x.1))
      (λ x. reached (named p n no_types) fs ts rest (go (Want fs) (lower n) p ts rest (Alone (named p n no_types) fs) x.1 refl))
      r
  reads (named p n (and_type args a)) fs ts rest b h r =
      ⊎_elim
      (λ x. (
        Alone a (InArgs p n args ∷ fs),
        behind_args p n args a fs,
        head_read p n fs ts x.0 h x.1 ∙ args_read p n fs (and_type args a) x.0 rest b x.2,
      ))
      (λ x. absurd (cc x.0))
      r
  reads (nothing p) fs ts rest b h r =
      reached (nothing p) fs ts rest
      (go (Want fs) opening p ts r.0 (Want (InParen p ∷ fs)) r.1 refl
      ∙ go (Want (InParen p ∷ fs)) closing r.2.0 r.0 rest (Alone (nothing p) fs) r.2.1 refl)
  reads (tuple p no_types) fs ts rest b h r = absurd b.0
  reads (tuple p (and_type no_types a)) fs ts rest b h r = absurd b.0
  reads (tuple p (and_type (and_type parts c) a)) fs ts rest b h r =
      let k = r.2.1 in
      let m = reads a (InTuple p (and_type parts c) ∷ fs) k.0 r.2.0 b.1.1 (loose_le a) k.2 in
      reached (tuple p (and_type (and_type parts c) a)) fs ts rest
      (go (Want fs) opening p ts r.0 (Want (InParen p ∷ fs)) r.1 refl
      ∙ list_read p fs (and_type parts c) r.0 k.0 b.1.0 k.1
      ∙ m.2
      ∙ go m.0 closing r.2.2.0 r.2.0 rest (Alone (tuple p (and_type (and_type parts c) a)) fs) r.2.2.1 (m.1.past closing r.2.2.0 refl (loose_le a)))
  reads (paren p a) fs ts rest b h r =
      let m = reads a (InParen p ∷ fs) r.0 r.2.0 b (loose_le a) r.2.1 in
      reached (paren p a) fs ts rest
      (go (Want fs) opening p ts r.0 (Want (InParen p ∷ fs)) r.1 refl
      ∙ m.2
      ∙ go m.0 closing r.2.2.0 r.2.0 rest (Alone (paren p a) fs) r.2.2.1 (m.1.past closing r.2.2.0 refl (loose_le a)))
  reads (function p a c) fs ts rest b h r =
      let k = r.1 in
      let m = reads a fs ts k.0 b.1 (omega (arith, b.0)) k.1 in
      let o = reads c (InArrow a ∷ fs) k.2.0 rest b.2 (loose_le c) k.2.2 in (
        o.0,
        (let P : Place → Type 0 = λ q. Behind (function q a c) fs o.0 in subst P (sym r.0) (behind_arrow a c fs o.0 o.1)),
        m.2
            ∙ go m.0 arrow k.2.1.0 k.0 k.2.0 (Want (InArrow a ∷ fs)) k.2.1.1 (m.1.past arrow k.2.1.0 refl b.0 ∙ arrows k.2.1.0 a fs h)
            ∙ o.2,
      )
  reads (fields p boxed no_fields) fs ts rest b h r = absurd r.2.1
  reads (fields p boxed (and_field gs at a)) fs ts rest b h r =
      let k = r.2.1 in let j = k.2.2 in
      let m = reads a (InField p boxed gs at ∷ fs) j.0 r.2.0 b.1 (loose_le a) j.2 in
      reached (fields p boxed (and_field gs at a)) fs ts rest
      (go (Want fs) (record_sign boxed) p ts r.0 (WantField p boxed no_fields fs) r.1 (record_opens boxed p fs)
      ∙ fields_read p boxed fs gs r.0 k.0 b.0 k.1
      ∙ go (WantField p boxed gs fs) (lower at.name) at.place k.0 k.2.0 (AfterField p boxed gs at fs) k.2.1 refl
      ∙ go (AfterField p boxed gs at fs) colon j.1.0 k.2.0 j.0 (Want (InField p boxed gs at ∷ fs)) j.1.1 refl
      ∙ m.2
      ∙ go m.0 closing_brace r.2.2.0 r.2.0 rest (Alone (fields p boxed (and_field gs at a)) fs) r.2.2.1 (m.1.past closing_brace r.2.2.0 refl (loose_le a)))
  reads (variant p no_alts) fs ts rest b h r = absurd r.2.1
  reads (variant p (and_plain choices at)) fs ts rest b h r =
      let k = r.2.1 in
      reached (variant p (and_plain choices at)) fs ts rest
      (go (Want fs) (less r.1.0) p ts r.0 (WantAlt p no_alts fs) r.1.1 refl
      ∙ alts_read p fs choices r.0 k.0 b k.1
      ∙ go (WantAlt p choices fs) (upper at.name) at.place k.0 r.2.0 (AfterAlt p choices at fs) k.2 refl
      ∙ go (AfterAlt p choices at fs) (greater r.2.2.1.0) r.2.2.0 r.2.0 rest (Alone (variant p (and_plain choices at)) fs) r.2.2.1.1 refl)
  reads (variant p (and_alt choices at a)) fs ts rest b h r =
      let k = r.2.1 in
      reached (variant p (and_alt choices at a)) fs ts rest
      (go (Want fs) (less r.1.0) p ts r.0 (WantAlt p no_alts fs) r.1.1 refl
      ∙ alts_read p fs choices r.0 k.0 b.0 k.1
      ∙ go (WantAlt p choices fs) (upper at.name) at.place k.0 k.2.0 (AfterAlt p choices at fs) k.2.1 refl
      ∙ payload_read p fs choices at a k.2.0 r.2.0 b.1 k.2.2 (reads a (InAlt p choices at ∷ fs) k.2.0 r.2.0 b.2 b.1 k.2.2)
      ∙ go (Alone a (InAlt p choices at ∷ fs)) (greater r.2.2.1.0) r.2.2.0 r.2.0 rest (Alone (variant p (and_alt choices at a)) fs) r.2.2.1.1 refl)
  reads (observed p a) fs ts rest b h r =
      let k = r.1 in
      let m = reads a fs ts k.0 b.1 (omega (arith, b.0)) k.1 in
      reached (observed p a) fs ts rest
      (m.2
      ∙ go m.0 bang k.2.0 k.0 rest (Alone (observed (place_of a) a) fs) k.2.1 (m.1.observes k.2.0 b.0)
      ∙ ap (λ q. run (Alone (observed q a) fs) rest) (sym r.0))
  reads (take_some p a ns) fs ts rest b h r =
      let k = r.1 in let q = k.2.1.0 in let j = k.2.2 in let i = j.2 in
      let m = reads a fs ts k.0 b.1 (omega (arith, b.0)) k.1 in (
        Taken (take_some p a ns) fs,
        behind_taken (take_some p a ns) fs (omega arith),
        m.2
            ∙ go m.0 take_word q k.0 k.2.0 (AfterTake q a fs) k.2.1.1 (m.1.past take_word q refl b.0 ∙ takes q a fs h)
            ∙ go (AfterTake q a fs) opening j.1.0 k.2.0 j.0 (TakeOpen q a fs) j.1.1 refl
            ∙ names_read q a fs ns j.0 i.0 i.1
            ∙ go (TakeName a ns fs) closing i.2.0 i.0 rest (Taken (take_some (place_of a) a ns) fs) i.2.1 refl
            ∙ ap (λ q. run (Taken (take_some q a ns) fs) rest) (sym r.0),
      )
  reads (take_all p a q) fs ts rest b h r =
      let k = r.1 in let j = k.2.2 in let i = j.2 in
      let m = reads a fs ts k.0 b.1 (omega (arith, b.0)) k.1 in (
        Taken (take_all p a q) fs,
        behind_taken (take_all p a q) fs (omega arith),
        m.2
            ∙ go m.0 take_word q k.0 k.2.0 (AfterTake q a fs) k.2.1 (m.1.past take_word q refl b.0 ∙ takes q a fs h)
            ∙ go (AfterTake q a fs) opening j.1.0 k.2.0 j.0 (TakeOpen q a fs) j.1.1 refl
            ∙ go (TakeOpen q a fs) dots i.1.0 j.0 i.0 (TakeDots q a fs) i.1.1 refl
            ∙ go (TakeDots q a fs) closing i.2.0 i.0 rest (Taken (take_all (place_of a) a q) fs) i.2.1 refl
            ∙ ap (λ o. run (Taken (take_all o a q) fs) rest) (sym r.0),
      )

  args_read : (q : Place) (n : List ℕ) (fs : List Frame) (args : Writtens) (ts rest : List Seen) → ArgsBind args → ReadsArgs args ts rest → run (Head q n fs) ts ≡ run (behind_name q n args fs) rest
  args_read q n fs no_types ts rest b r = ap (run (Head q n fs)) r
  args_read q n fs (and_type args a) ts rest b r =
      let m = reads a (InArgs q n args ∷ fs) r.0 rest b.2 b.1 r.2 in
      args_read q n fs args ts r.0 b.0 r.1
      ∙ as_wanted (behind_name q n args fs) (InArgs q n args ∷ fs) (λ y p e. name_starts q n args fs y p e) a r.0 rest r.2
      ∙ m.2
      ∙ ap (λ x. run x rest) (m.1.alone b.1 (omega arith))

  list_read : (p : Place) (fs : List Frame) (parts : Writtens) (ts rest : List Seen) → TypesBind parts → TypesBefore parts ts rest → run (Want (InParen p ∷ fs)) ts ≡ run (Want (listed p parts ∷ fs)) rest
  list_read p fs no_types ts rest b r = ap (run (Want (InParen p ∷ fs))) r
  list_read p fs (and_type parts a) ts rest b r =
      let k = r.2 in
      let m = reads a (listed p parts ∷ fs) r.0 k.0 b.1 (omega (arith, loose_le a, listed_room p parts)) k.1 in
      list_read p fs parts ts r.0 b.0 r.1
      ∙ m.2
      ∙ go m.0 comma k.2.0 k.0 rest (Want (listed p (and_type parts a) ∷ fs)) k.2.1 (m.1.past comma k.2.0 refl (loose_le a) ∙ listed_comma p k.2.0 parts a fs)

  fields_read : (p : Place) (boxed : Bool) (fs : List Frame) (gs : WrittenFields) (ts rest : List Seen) → FieldsBind gs → FieldsBefore gs ts rest → run (WantField p boxed no_fields fs) ts ≡ run (WantField p boxed gs fs) rest
  fields_read p boxed fs no_fields ts rest b r = ap (run (WantField p boxed no_fields fs)) r
  fields_read p boxed fs (and_field gs at a) ts rest b r =
      let k = r.2 in let j = k.2 in let i = j.2 in
      let m = reads a (InField p boxed gs at ∷ fs) j.0 i.0 b.1 (loose_le a) i.1 in
      fields_read p boxed fs gs ts r.0 b.0 r.1
      ∙ go (WantField p boxed gs fs) (lower at.name) at.place r.0 k.0 (AfterField p boxed gs at fs) k.1 refl
      ∙ go (AfterField p boxed gs at fs) colon j.1.0 k.0 j.0 (Want (InField p boxed gs at ∷ fs)) j.1.1 refl
      ∙ m.2
      ∙ go m.0 comma i.2.0 i.0 rest (WantField p boxed (and_field gs at a) fs) i.2.1 (m.1.past comma i.2.0 refl (loose_le a))

  alts_read : (p : Place) (fs : List Frame) (choices : WrittenAlts) (ts rest : List Seen) → AltsBind choices → AltsBefore choices ts rest → run (WantAlt p no_alts fs) ts ≡ run (WantAlt p choices fs) rest
  alts_read p fs no_alts ts rest b r = ap (run (WantAlt p no_alts fs)) r
  alts_read p fs (and_plain choices at) ts rest b r =
      let k = r.2 in
      alts_read p fs choices ts r.0 b r.1
      ∙ go (WantAlt p choices fs) (upper at.name) at.place r.0 k.0 (AfterAlt p choices at fs) k.1 refl
      ∙ go (AfterAlt p choices at fs) (bar k.2.1.0) k.2.0 k.0 rest (WantAlt p (and_plain choices at) fs) k.2.1.1 refl
  alts_read p fs (and_alt choices at a) ts rest b r =
      let k = r.2 in let j = k.2 in
      alts_read p fs choices ts r.0 b.0 r.1
      ∙ go (WantAlt p choices fs) (upper at.name) at.place r.0 k.0 (AfterAlt p choices at fs) k.1 refl
      ∙ payload_read p fs choices at a k.0 j.0 b.1 j.1 (reads a (InAlt p choices at ∷ fs) k.0 j.0 b.2 b.1 j.1)
      ∙ go (Alone a (InAlt p choices at ∷ fs)) (bar j.2.1.0) j.2.0 j.0 rest (WantAlt p (and_alt choices at a) fs) j.2.1.1 refl

-- each type that the tokens spell is read
pub complete : (ts : List Seen) (t : Written) → SpellsType ts t → mode_end (run (Want []) ts) ≡ Some t
complete ts t r = let m = reads t [] ts [] r.0 (loose_le t) r.1 in ap mode_end m.2 ∙ m.1.ends
