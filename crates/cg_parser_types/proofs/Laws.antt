-- The reader of types is exact: what is open can be completed, what is shut stays shut, and the six laws.
use Rattle.std.proofs.Common.{◌≡◌, ℕ, ◌≤◌, List, [], ◌∷◌, refl, ◌∙◌, ap, arith, true, false, Bool, Some, None}
use Rattle.std.specs.Prelude.{⊤}
use Rattle.std.proofs.lemmas.Bool.{le-leb}
use Rattle.cg_base.specs.declared.place.Place.{Place}
use Rattle.cg_base.specs.Reader.{Reads}
use Rattle.cg_surface.specs.Written.{Written}
use Rattle.cg_parser_symbols.specs.Symbols.{Symbol, lower, upper, opening, closing, closing_brace, greater, colon, dots, Seen}
use Rattle.cg_parser_symbols.specs.Readings.{ArePast}
use Rattle.cg_parser_types.specs.Grammar.{SpellsType}
use Rattle.cg_parser_types.specs.Machine as machine
use Rattle.cg_parser_types.specs.Machine.{InParen, InTuple, InField, InAlt, InArgs, InArrow, Want, Alone, Head, Taken, WantField, AfterField, WantAlt, AfterAlt, AfterTake, TakeOpen, TakeDots, TakeName, TakeMore, Stuck, mode_is_open, name_at}
use Rattle.cg_parser_types.specs.Plain.{trees, plain_reader}
use Rattle.cg_parser_types.proofs.Short.{Frame, Mode, closed, closes, fill, bare, go_past, whole, mode_step, mode_end, step, run}
use Rattle.cg_parser_types.proofs.Complete.{complete}
use Rattle.cg_parser_types.proofs.Sound.{sound}

-- a place for tokens
abbrev there : Place
there = record { line = 1; column = 2 }

abbrev at : Symbol → Seen
at y = record { symbol = y; place = there }

-- the signs that close a type whatever it is
abbrev is_closer : Symbol → Bool
is_closer closing = true
is_closer closing_brace = true
is_closer (greater joined) = true
is_closer y = false

-- tokens that begin with one of them
abbrev IsClosing : List Seen → Type 0
IsClosing [] = ⊤
IsClosing (t ∷ ts) = is_closer t.symbol ≡ true

-- some tokens past column 1 complete the mode
abbrev Completable : Mode → Type 0
Completable m = (rest : List Seen) × ArePast rest × (t : Written) × (mode_end (run m rest) ≡ Some t)

-- some tokens past column 1 that begin with a closing one complete a type under these frames
abbrev Completes : Written → List Frame → Type 0
Completes t fs = (rest : List Seen) × IsClosing rest × ArePast rest × (u : Written) × (mode_end (run (Taken t fs) rest) ≡ Some u)

shut : (f : Frame) (t : Written) (fs : List Frame) → closes f ≤ 3 → closed 3 t (f ∷ fs) ≡ closed 3 (fill f t) fs
shut f t fs h = rw (le-leb (closes f) 3 h) refl

-- before a token that closes, a frame may be closed first
same_step : (f : Frame) (t : Written) (fs : List Frame) (y : Symbol) (p : Place) → closes f ≤ 3 → is_closer y ≡ true → go_past y p t (f ∷ fs) ≡ go_past y p (fill f t) fs
same_step f t fs closing p h c = ap (λ r. machine.on_close trees r.0 r.1) (shut f t fs h)
same_step f t fs closing_brace p h c = ap (λ r. machine.on_closing_brace trees r.0 r.1) (shut f t fs h)
same_step f t fs (greater joined) p h c = ap (λ r. machine.on_greater trees r.0 r.1) (shut f t fs h)
same_step f t fs y p h c = cc

skip : (f : Frame) (t : Written) (fs : List Frame) (rest : List Seen) → closes f ≤ 3 → IsClosing rest → mode_end (run (Taken t (f ∷ fs)) rest) ≡ mode_end (run (Taken (fill f t) fs) rest)
skip f t fs [] h c = ap (λ r. whole r.0 r.1) (shut f t fs h)
skip f t fs (s ∷ ts) h c = ap (λ m. mode_end (run m ts)) (same_step f t fs s.symbol s.place h c)

skipped : (f : Frame) (t : Written) (fs : List Frame) → closes f ≤ 3 → Completes (fill f t) fs → Completes t (f ∷ fs)
skipped f t fs h c = (c.0, c.1, c.2, c.3, skip f t fs c.0 h c.1 ∙ c.4)

-- before a token that closes, a type that stands alone is one like others
alone_step : (t : Written) (fs : List Frame) (y : Symbol) (p : Place) → is_closer y ≡ true → mode_step (Alone t fs) y p ≡ go_past y p t fs
alone_step t fs closing p c = refl
alone_step t fs closing_brace p c = refl
alone_step t fs (greater joined) p c = refl
alone_step t fs y p c = cc

alone_same : (t : Written) (fs : List Frame) (rest : List Seen) → IsClosing rest → mode_end (run (Alone t fs) rest) ≡ mode_end (run (Taken t fs) rest)
alone_same t fs [] c = refl
alone_same t fs (s ∷ ts) c = ap (λ m. mode_end (run m ts)) (alone_step t fs s.symbol s.place c)

head_step : (q : Place) (n : List ℕ) (fs : List Frame) (y : Symbol) (p : Place) → is_closer y ≡ true → mode_step (Head q n fs) y p ≡ go_past y p (bare q n) fs
head_step q n fs closing p c = refl
head_step q n fs closing_brace p c = refl
head_step q n fs (greater joined) p c = refl
head_step q n fs y p c = cc

head_same : (q : Place) (n : List ℕ) (fs : List Frame) (rest : List Seen) → IsClosing rest → mode_end (run (Head q n fs) rest) ≡ mode_end (run (Taken (bare q n) fs) rest)
head_same q n fs [] c = refl
head_same q n fs (s ∷ ts) c = ap (λ m. mode_end (run m ts)) (head_step q n fs s.symbol s.place c)

-- a type that a sign closes, and then stands alone
closed_by : (y : Symbol) (t u : Written) (fs gs : List Frame) → is_closer y ≡ true → go_past y there t fs ≡ Alone u gs → Completes u gs → Completes t fs
closed_by y t u fs gs c e d =
    (at y ∷ d.0, c, (refl, d.2), d.3, ap (λ m. mode_end (run m d.0)) e ∙ alone_same u gs d.0 d.1 ∙ d.4)

completed : (fs : List Frame) (t : Written) → Completes t fs
completed [] t = ([], tt, tt, t, refl)
completed (InParen p ∷ fs) t = closed_by closing t _ (InParen p ∷ fs) fs refl refl (completed fs _)
completed (InTuple p ts ∷ fs) t = closed_by closing t _ (InTuple p ts ∷ fs) fs refl refl (completed fs _)
completed (InField p boxed gs n ∷ fs) t = closed_by closing_brace t _ (InField p boxed gs n ∷ fs) fs refl refl (completed fs _)
completed (InAlt p choices n ∷ fs) t = closed_by (greater false) t _ (InAlt p choices n ∷ fs) fs refl refl (completed fs _)
completed (InArgs p n args ∷ fs) t = skipped (InArgs p n args) t fs (omega arith) (completed fs _)
completed (InArrow a ∷ fs) t = skipped (InArrow a) t fs (omega arith) (completed fs _)

taken : (t : Written) (fs : List Frame) → Completable (Taken t fs)
taken t fs = let d = completed fs t in (d.0, d.2, d.3, d.4)

alone : (t : Written) (fs : List Frame) → Completable (Alone t fs)
alone t fs = let d = completed fs t in (d.0, d.2, d.3, alone_same t fs d.0 d.1 ∙ d.4)

headed : (q : Place) (n : List ℕ) (fs : List Frame) → Completable (Head q n fs)
headed q n fs = let d = completed fs (bare q n) in (d.0, d.2, d.3, head_same q n fs d.0 d.1 ∙ d.4)

wanted : (fs : List Frame) → Completable (Want fs)
wanted fs = let d = alone (bare there []) fs in (at (lower []) ∷ d.0, (refl, d.1), d.2, d.3)

completable : (m : Mode) → mode_is_open m ≡ true → Completable m
completable (Want fs) o = wanted fs
completable (Alone t fs) o = alone t fs
completable (Head q n fs) o = headed q n fs
completable (Taken t fs) o = taken t fs
completable (WantField q boxed gs fs) o = let d = wanted (InField q boxed gs (name_at there []) ∷ fs) in (at (lower []) ∷ at colon ∷ d.0, (refl, (refl, d.1)), d.2, d.3)
completable (AfterField q boxed gs n fs) o = let d = wanted (InField q boxed gs n ∷ fs) in (at colon ∷ d.0, (refl, d.1), d.2, d.3)
completable (WantAlt q choices fs) o = let d = alone _ fs in (at (upper []) ∷ at (greater false) ∷ d.0, (refl, (refl, d.1)), d.2, d.3)
completable (AfterAlt q choices n fs) o = let d = alone _ fs in (at (greater false) ∷ d.0, (refl, d.1), d.2, d.3)
completable (AfterTake q t fs) o = let d = taken _ fs in (at opening ∷ at dots ∷ at closing ∷ d.0, (refl, (refl, (refl, d.1))), d.2, d.3)
completable (TakeOpen q t fs) o = let d = taken _ fs in (at dots ∷ at closing ∷ d.0, (refl, (refl, d.1)), d.2, d.3)
completable (TakeDots q t fs) o = let d = taken _ fs in (at closing ∷ d.0, (refl, d.1), d.2, d.3)
completable (TakeName t ns fs) o = let d = taken _ fs in (at closing ∷ d.0, (refl, d.1), d.2, d.3)
completable (TakeMore t ns fs) o = let d = taken _ fs in (at (lower []) ∷ at closing ∷ d.0, (refl, (refl, d.1)), d.2, d.3)
completable Stuck o = cc

no_tree : (m : Mode) → mode_is_open m ≡ false → mode_end m ≡ None
no_tree Stuck h = refl
no_tree m h = cc

step_shut : (m : Mode) (t : Seen) → mode_is_open m ≡ false → mode_is_open (step m t) ≡ false
step_shut Stuck t h = refl
step_shut m t h = cc

-- what is open can be completed by tokens past column 1
pub viable_past : (ts : List Seen) → plain_reader.is_open (run plain_reader.begin ts) ≡ true → (rest : List Seen) × ArePast rest × (t : Written) × (plain_reader.finish (run (run plain_reader.begin ts) rest) ≡ Some t)
viable_past ts o = completable (run (Want []) ts) o

-- the six laws
pub laws : Reads plain_reader SpellsType
laws = record {
  begins = refl;
  shut = step_shut;
  no_tree = no_tree;
  complete = complete;
  sound = sound;
  viable = λ ts o. let c = viable_past ts o in (c.0, c.2, c.3);
}
