-- The machine that reads a pattern, one symbol at a time, over a list of open frames.
use Rattle.std.specs.Prelude.{ℕ, List, [], ◌∷◌, Bool, true, false, Option, Some, None}
use Rattle.cg_base.specs.declared.place.Place.{Place}
use Rattle.cg_base.specs.Reader.{Reader}
use Rattle.cg_core.specs.declared.at.At.{At}
use Rattle.cg_parser_symbols.specs.Symbols.{Symbol, lower, wildcard, opening, closing, brace, closing_brace, unboxed, equals, comma, Seen}

-- how patterns of some kind are built, lists of them and lists of fields
pub record Builder (X L F : Type 0) : Type 0 where
  pub name : Place → List ℕ → X
  pub any : Place → X
  pub unit : Place → X
  pub paren : Place → X → X
  pub tuple : Place → L → X
  pub fields : Place → F → X
  pub take : Place → List ℕ → F → X
  pub no_patterns : L
  pub and_pattern : L → X → L
  pub no_fields : F
  pub and_field : F → At → X → F

-- what opened the fields: `#{`, or a name and `{`
pub data Opener : Type 0 where
  Unboxed : Place → Opener
  Taken : Place → List ℕ → Opener

-- what is open in a pattern, the innermost first: a parenthesis before its first comma, one behind a comma, with the patterns
-- before, and a field's `=`, with the fields before
pub data Frame (L F : Type 0) : Type 0 where
  InParen : Place → Frame L F
  InTuple : Place → L → Frame L F
  InField : Opener → F → At → Frame L F

-- where the machine stands: before a pattern, behind one, behind a name, before a field, behind a field's name, or where
-- nothing goes on
pub data Mode (X L F : Type 0) : Type 0 where
  Want : List (Frame L F) → Mode X L F
  Have : X → List (Frame L F) → Mode X L F
  Head : Place → List ℕ → List (Frame L F) → Mode X L F
  WantField : Opener → F → List (Frame L F) → Mode X L F
  AfterField : Opener → F → At → List (Frame L F) → Mode X L F
  Stuck : Mode X L F

-- a name at its place
abbrev pub name_at : Place → List ℕ → At
name_at p n = record { place = p; name = n }

module _ {X L F : Type 0} (B : Builder X L F) where
  -- the pattern that is made of fields
  abbrev pub opened : Opener → F → X
  opened (Unboxed p) fields = B.fields p fields
  opened (Taken p n) fields = B.take p n fields

  -- at `)` behind a pattern
  abbrev pub on_close : X → List (Frame L F) → Mode X L F
  on_close x [] = Stuck
  on_close x (InParen p ∷ fs) = Have (B.paren p x) fs
  on_close x (InTuple p xs ∷ fs) = Have (B.tuple p (B.and_pattern xs x)) fs
  on_close x (InField o done at ∷ fs) = Stuck

  -- at `,`
  abbrev pub on_comma : X → List (Frame L F) → Mode X L F
  on_comma x [] = Stuck
  on_comma x (InParen p ∷ fs) = Want (InTuple p (B.and_pattern B.no_patterns x) ∷ fs)
  on_comma x (InTuple p xs ∷ fs) = Want (InTuple p (B.and_pattern xs x) ∷ fs)
  on_comma x (InField o done at ∷ fs) = WantField o (B.and_field done at x) fs

  -- at `}`
  abbrev pub on_brace : X → List (Frame L F) → Mode X L F
  on_brace x [] = Stuck
  on_brace x (InParen p ∷ fs) = Stuck
  on_brace x (InTuple p xs ∷ fs) = Stuck
  on_brace x (InField o done at ∷ fs) = Have (opened o (B.and_field done at x)) fs

  -- behind a pattern
  abbrev pub go_on : Symbol → X → List (Frame L F) → Mode X L F
  go_on closing x fs = on_close x fs
  go_on comma x fs = on_comma x fs
  go_on closing_brace x fs = on_brace x fs
  go_on s x fs = Stuck

  -- behind a name, which `{` makes that of a record
  abbrev pub name_on : Symbol → Place → List ℕ → List (Frame L F) → Mode X L F
  name_on brace p n fs = WantField (Taken p n) B.no_fields fs
  name_on s p n fs = go_on s (B.name p n) fs

  -- at the `)` of `()`
  abbrev pub on_empty : List (Frame L F) → Mode X L F
  on_empty [] = Stuck
  on_empty (InParen p ∷ fs) = Have (B.unit p) fs
  on_empty (InTuple p xs ∷ fs) = Stuck
  on_empty (InField o done at ∷ fs) = Stuck

  -- where a pattern is wanted
  abbrev pub start : Symbol → Place → List (Frame L F) → Mode X L F
  start (lower n) p fs = Head p n fs
  start wildcard p fs = Have (B.any p) fs
  start opening p fs = Want (InParen p ∷ fs)
  start closing p fs = on_empty fs
  start unboxed p fs = WantField (Unboxed p) B.no_fields fs
  start s p fs = Stuck

  -- where a field is wanted
  abbrev pub field : Symbol → Place → Opener → F → List (Frame L F) → Mode X L F
  field (lower n) p o done fs = AfterField o done (name_at p n) fs
  field s p o done fs = Stuck

  -- a field with the fields before: alone, it is bound to its own name
  abbrev pub alone : F → At → F
  alone done at = B.and_field done at (B.name at.place at.name)

  -- behind a field's name
  abbrev pub field_on : Symbol → Opener → F → At → List (Frame L F) → Mode X L F
  field_on equals o done at fs = Want (InField o done at ∷ fs)
  field_on comma o done at fs = WantField o (alone done at) fs
  field_on closing_brace o done at fs = Have (opened o (alone done at)) fs
  field_on s o done at fs = Stuck

  -- one symbol more
  abbrev pub mode_step : Mode X L F → Symbol → Place → Mode X L F
  mode_step (Want fs) s p = start s p fs
  mode_step (Have x fs) s p = go_on s x fs
  mode_step (Head q n fs) s p = name_on s q n fs
  mode_step (WantField o done fs) s p = field s p o done fs
  mode_step (AfterField o done at fs) s p = field_on s o done at fs
  mode_step Stuck s p = Stuck

  -- a pattern under no frame
  abbrev pub whole : X → List (Frame L F) → Option X
  whole x [] = Some x
  whole x (f ∷ fs) = None

  -- the pattern that ends there, if one can
  abbrev pub finish : Mode X L F → Option X
  finish (Want fs) = None
  finish (Have x fs) = whole x fs
  finish (Head p n fs) = whole (B.name p n) fs
  finish (WantField o done fs) = None
  finish (AfterField o done at fs) = None
  finish Stuck = None

  -- one token more
  abbrev pub step : Mode X L F → Seen → Mode X L F
  step m t = mode_step m t.symbol t.place

  -- whether a pattern may still come of it
  abbrev pub is_open : Mode X L F → Bool
  is_open (Want fs) = true
  is_open (Have x fs) = true
  is_open (Head p n fs) = true
  is_open (WantField o done fs) = true
  is_open (AfterField o done at fs) = true
  is_open Stuck = false

  -- all of it, as a reader
  abbrev pub reader : Reader (Mode X L F) Seen X
  reader = record { begin = Want []; step = step; is_open = is_open; finish = finish }
