-- The machine that reads a type, one symbol at a time, over a list of open frames.
use Rattle.std.specs.Prelude.{ℕ, List, [], ◌∷◌, ◌++◌, Bool, true, false, nat_le, Option, Some, None, if◌then◌else◌}
use Rattle.cg_base.specs.declared.place.Place.{Place}
use Rattle.cg_base.specs.Reader.{Reader}
use Rattle.cg_core.specs.declared.at.At.{At}
use Rattle.cg_parser_symbols.specs.Symbols.{Symbol, lower, upper, take_word, opening, closing, brace, closing_brace, unboxed, less, greater, colon, arrow, bang, bar, comma, dots, Seen}

-- how types of some kind are built, and lists of types, of fields and of alternatives
pub record Builder (X L F V : Type 0) : Type 0 where
  pub named : Place → List ℕ → L → X
  pub unit : Place → X
  pub paren : Place → X → X
  pub tuple : Place → L → X
  pub function : X → X → X
  pub fields : Place → Bool → F → X
  pub variant : Place → V → X
  pub observed : X → X
  pub take_some : X → List At → X
  pub take_all : X → Place → X
  pub no_types : L
  pub and_type : L → X → L
  pub no_fields : F
  pub and_field : F → At → X → F
  pub no_alts : V
  pub and_plain : V → At → V
  pub and_alt : V → At → X → V

-- what is open in a type: a parenthesis, one with types before a comma, a field, the payload of an alternative, an
-- argument of a name with the arguments before it, and what stands behind an arrow
pub data Frame (X L F V : Type 0) : Type 0 where
  InParen : Place → Frame X L F V
  InTuple : Place → L → Frame X L F V
  InField : Place → Bool → F → At → Frame X L F V
  InAlt : Place → V → At → Frame X L F V
  InArgs : Place → List ℕ → L → Frame X L F V
  InArrow : X → Frame X L F V

-- where in a type the machine stands: `Alone` is behind a type that stands alone, `Head` behind a name that may have arguments,
-- `Taken` behind one of which fields are taken
pub data Mode (X L F V : Type 0) : Type 0 where
  Want : List (Frame X L F V) → Mode X L F V
  Alone : X → List (Frame X L F V) → Mode X L F V
  Head : Place → List ℕ → List (Frame X L F V) → Mode X L F V
  Taken : X → List (Frame X L F V) → Mode X L F V
  WantField : Place → Bool → F → List (Frame X L F V) → Mode X L F V
  AfterField : Place → Bool → F → At → List (Frame X L F V) → Mode X L F V
  WantAlt : Place → V → List (Frame X L F V) → Mode X L F V
  AfterAlt : Place → V → At → List (Frame X L F V) → Mode X L F V
  AfterTake : Place → X → List (Frame X L F V) → Mode X L F V
  TakeOpen : Place → X → List (Frame X L F V) → Mode X L F V
  TakeDots : Place → X → List (Frame X L F V) → Mode X L F V
  TakeName : X → List At → List (Frame X L F V) → Mode X L F V
  TakeMore : X → List At → List (Frame X L F V) → Mode X L F V
  Stuck : Mode X L F V

-- a name at its place
abbrev pub name_at : Place → List ℕ → At
name_at p n = record { place = p; name = n }

-- whether a type begins with the symbol
abbrev pub starts : Symbol → Bool
starts (lower n) = true
starts (upper n) = true
starts opening = true
starts brace = true
starts unboxed = true
starts (less joined) = true
starts s = false

-- how loose a type may be before the symbol
abbrev pub strength : Symbol → ℕ
strength take_word = 2
strength arrow = 2
strength s = 3

-- whether a type may still come of it
abbrev pub mode_is_open : {X L F V : Type 0} → Mode X L F V → Bool
mode_is_open Stuck = false
mode_is_open m = true

module _ {X L F V : Type 0} (B : Builder X L F V) where
  abbrev Stack : Type 0
  Stack = List (Frame X L F V)

  -- how loose a type may stand in a frame
  abbrev pub hole : Frame X L F V → ℕ
  hole (InParen p) = 3
  hole (InTuple p ts) = 3
  hole (InField p boxed gs at) = 3
  hole (InAlt p choices at) = 0
  hole (InArgs p n args) = 0
  hole (InArrow a) = 3

  -- how loose one may stand on the frames
  abbrev pub room : Stack → ℕ
  room [] = 3
  room (f ∷ fs) = hole f

  -- from which looseness on a frame is closed without a token of its own
  abbrev pub closes : Frame X L F V → ℕ
  closes (InParen p) = 4
  closes (InTuple p ts) = 4
  closes (InField p boxed gs at) = 4
  closes (InAlt p choices at) = 4
  closes (InArgs p n args) = 1
  closes (InArrow a) = 3

  -- the type of a frame that needs no token to be closed, with its hole filled
  abbrev pub fill : Frame X L F V → X → X
  fill (InArgs p n args) t = B.named p n (B.and_type args t)
  fill (InArrow a) t = B.function a t
  fill f t = t

  -- closes the frames that bind at most so loosely: the type, and the frames that stay
  abbrev pub closed : ℕ → X → Stack → X × Stack
  closed k t [] = (t, [])
  closed k t (f ∷ fs) = if nat_le (closes f) k then closed k (fill f t) fs else (t, f ∷ fs)

  -- a name with no arguments
  abbrev pub bare : Place → List ℕ → X
  bare p n = B.named p n B.no_types

  -- at `)`
  abbrev pub on_close : X → Stack → Mode X L F V
  on_close t (InParen p ∷ fs) = Alone (B.paren p t) fs
  on_close t (InTuple p ts ∷ fs) = Alone (B.tuple p (B.and_type ts t)) fs
  on_close t fs = Stuck

  -- at a comma
  abbrev pub on_comma : X → Stack → Mode X L F V
  on_comma t (InParen p ∷ fs) = Want (InTuple p (B.and_type B.no_types t) ∷ fs)
  on_comma t (InTuple p ts ∷ fs) = Want (InTuple p (B.and_type ts t) ∷ fs)
  on_comma t (InField p boxed gs at ∷ fs) = WantField p boxed (B.and_field gs at t) fs
  on_comma t fs = Stuck

  -- at `}`
  abbrev pub on_closing_brace : X → Stack → Mode X L F V
  on_closing_brace t (InField p boxed gs at ∷ fs) = Alone (B.fields p boxed (B.and_field gs at t)) fs
  on_closing_brace t fs = Stuck

  -- at `|`
  abbrev pub on_bar : X → Stack → Mode X L F V
  on_bar t (InAlt p choices at ∷ fs) = WantAlt p (B.and_alt choices at t) fs
  on_bar t fs = Stuck

  -- at `>`
  abbrev pub on_greater : X → Stack → Mode X L F V
  on_greater t (InAlt p choices at ∷ fs) = Alone (B.variant p (B.and_alt choices at t)) fs
  on_greater t fs = Stuck

  -- at `take`, where there is room for a type of which fields are taken
  abbrev pub on_take : Place → X → Stack → Mode X L F V
  on_take p t fs = if nat_le 2 (room fs) then AfterTake p t fs else Stuck

  -- at `->`, where an arrow has room
  abbrev pub on_arrow : X → Stack → Mode X L F V
  on_arrow t fs = if nat_le 3 (room fs) then Want (InArrow t ∷ fs) else Stuck

  -- at a symbol that ends a type, with the frames closed that it closes
  abbrev pub on_end : Symbol → Place → X → Stack → Mode X L F V
  on_end take_word p t fs = on_take p t fs
  on_end arrow p t fs = on_arrow t fs
  on_end closing p t fs = on_close t fs
  on_end comma p t fs = on_comma t fs
  on_end closing_brace p t fs = on_closing_brace t fs
  on_end (bar first) p t fs = on_bar t fs
  on_end (greater joined) p t fs = on_greater t fs
  on_end s p t fs = Stuck

  -- behind a type, at a symbol that begins none
  abbrev pub go_past : Symbol → Place → X → Stack → Mode X L F V
  go_past s p t fs = let r = closed (strength s) t fs in on_end s p r.0 r.1

  -- at the `)` of `()`
  abbrev pub on_empty : Stack → Mode X L F V
  on_empty (InParen p ∷ fs) = Alone (B.unit p) fs
  on_empty fs = Stuck

  -- at an upper name, which may have arguments where they have room
  abbrev pub on_upper : Place → List ℕ → Stack → Mode X L F V
  on_upper p n fs = if nat_le 1 (room fs) then Head p n fs else Alone (bare p n) fs

  -- where a type is wanted
  abbrev pub start : Symbol → Place → Stack → Mode X L F V
  start (lower n) p fs = Alone (bare p n) fs
  start (upper n) p fs = on_upper p n fs
  start opening p fs = Want (InParen p ∷ fs)
  start closing p fs = on_empty fs
  start brace p fs = WantField p true B.no_fields fs
  start unboxed p fs = WantField p false B.no_fields fs
  start (less joined) p fs = WantAlt p B.no_alts fs
  start s p fs = Stuck

  -- at a symbol that begins an argument, behind one
  abbrev pub next_argument : Symbol → Place → X → Stack → Mode X L F V
  next_argument s p t (InArgs q n args ∷ fs) = start s p (InArgs q n (B.and_type args t) ∷ fs)
  next_argument s p t fs = Stuck

  -- behind a type that stands alone, at a symbol that begins none
  abbrev pub behind_alone : Symbol → Place → X → Stack → Mode X L F V
  behind_alone bang p t fs = Alone (B.observed t) fs
  behind_alone s p t fs = go_past s p t fs

  -- behind a type that stands alone
  abbrev pub go_on : Symbol → Place → X → Stack → Mode X L F V
  go_on s p t fs = if starts s then next_argument s p t fs else behind_alone s p t fs

  -- behind a name that may have arguments
  abbrev pub after_head : Symbol → Place → Place → List ℕ → Stack → Mode X L F V
  after_head s p q n fs = if starts s then start s p (InArgs q n B.no_types ∷ fs) else behind_alone s p (bare q n) fs

  -- where a field is wanted, and behind its name
  abbrev pub field_name : Symbol → Place → Place → Bool → F → Stack → Mode X L F V
  field_name (lower n) p q boxed gs fs = AfterField q boxed gs (name_at p n) fs
  field_name s p q boxed gs fs = Stuck

  abbrev pub field_type : Symbol → Place → Bool → F → At → Stack → Mode X L F V
  field_type colon q boxed gs at fs = Want (InField q boxed gs at ∷ fs)
  field_type s q boxed gs at fs = Stuck

  -- where an alternative is wanted, and behind its name
  abbrev pub alt_name : Symbol → Place → Place → V → Stack → Mode X L F V
  alt_name (upper n) p q choices fs = AfterAlt q choices (name_at p n) fs
  alt_name s p q choices fs = Stuck

  abbrev pub after_alt : Symbol → Place → Place → V → At → Stack → Mode X L F V
  after_alt (bar first) p q choices at fs = WantAlt q (B.and_plain choices at) fs
  after_alt (greater joined) p q choices at fs = Alone (B.variant q (B.and_plain choices at)) fs
  after_alt s p q choices at fs = start s p (InAlt q choices at ∷ fs)

  -- behind `take`, behind its `(`, behind the dots in it, behind a name in it and behind a comma in it
  abbrev pub after_take : Symbol → Place → X → Stack → Mode X L F V
  after_take opening q t fs = TakeOpen q t fs
  after_take s q t fs = Stuck

  abbrev pub take_open : Symbol → Place → Place → X → Stack → Mode X L F V
  take_open dots p q t fs = TakeDots q t fs
  take_open (lower n) p q t fs = TakeName t (name_at p n ∷ []) fs
  take_open s p q t fs = Stuck

  abbrev pub take_dots : Symbol → Place → X → Stack → Mode X L F V
  take_dots closing q t fs = Taken (B.take_all t q) fs
  take_dots s q t fs = Stuck

  abbrev pub take_name : Symbol → X → List At → Stack → Mode X L F V
  take_name comma t ns fs = TakeMore t ns fs
  take_name closing t ns fs = Taken (B.take_some t ns) fs
  take_name s t ns fs = Stuck

  abbrev pub take_more : Symbol → Place → X → List At → Stack → Mode X L F V
  take_more (lower n) p t ns fs = TakeName t (ns ++ name_at p n ∷ []) fs
  take_more s p t ns fs = Stuck

  -- one symbol more
  abbrev pub mode_step : Mode X L F V → Symbol → Place → Mode X L F V
  mode_step (Want fs) s p = start s p fs
  mode_step (Alone t fs) s p = go_on s p t fs
  mode_step (Head q n fs) s p = after_head s p q n fs
  mode_step (Taken t fs) s p = go_past s p t fs
  mode_step (WantField q boxed gs fs) s p = field_name s p q boxed gs fs
  mode_step (AfterField q boxed gs at fs) s p = field_type s q boxed gs at fs
  mode_step (WantAlt q choices fs) s p = alt_name s p q choices fs
  mode_step (AfterAlt q choices at fs) s p = after_alt s p q choices at fs
  mode_step (AfterTake q t fs) s p = after_take s q t fs
  mode_step (TakeOpen q t fs) s p = take_open s p q t fs
  mode_step (TakeDots q t fs) s p = take_dots s q t fs
  mode_step (TakeName t ns fs) s p = take_name s t ns fs
  mode_step (TakeMore t ns fs) s p = take_more s p t ns fs
  mode_step Stuck s p = Stuck

  -- a type under no frame
  abbrev pub whole : X → Stack → Option X
  whole t [] = Some t
  whole t (f ∷ fs) = None

  -- the type that ends there, if one can
  abbrev pub end_whole : X → Stack → Option X
  end_whole t fs = let r = closed 3 t fs in whole r.0 r.1

  abbrev pub mode_end : Mode X L F V → Option X
  mode_end (Alone t fs) = end_whole t fs
  mode_end (Head p n fs) = end_whole (bare p n) fs
  mode_end (Taken t fs) = end_whole t fs
  mode_end m = None

  -- one token more
  abbrev pub step : Mode X L F V → Seen → Mode X L F V
  step m t = mode_step m t.symbol t.place

  -- all of it, as a reader
  abbrev pub reader : Reader (Mode X L F V) Seen X
  reader = record { begin = Want []; step = step; is_open = mode_is_open; finish = mode_end }
