-- Which tokens spell which type (docs/LANGUAGE.md, "Types").
use Rattle.std.specs.Prelude.{◌≡◌, ◌⊎◌, ℕ, ◌≤◌, Bool, List, [], ◌∷◌, ◌++◌, if◌then◌else◌, ⊤}
use Rattle.cg_core.specs.declared.at.At.{At}
use Rattle.cg_surface.specs.Written.{Written, named, nothing, tuple, paren, arrow as function, fields, variant, bang as observed, take_some, take_all, Writtens, no_types, and_type, WrittenFields, no_fields, and_field, WrittenAlts, no_alts, and_plain, and_alt, place_of}
use Rattle.cg_parser_symbols.specs.Symbols.{Symbol, lower, upper, take_word, opening, closing, brace, closing_brace, unboxed, less, greater, colon, arrow, bang, bar, comma, dots, Seen}
use Rattle.cg_parser_symbols.specs.Readings.{Reading, ◌then◌, token, sign, either_token, either_sign}

-- how loosely a type is bound: 0 stands alone, 1 has arguments, of 2 fields are taken, 3 is an arrow
abbrev pub looseness : Written → ℕ
looseness (named p n no_types) = 0
looseness (named p n (and_type ts t)) = 1
looseness (nothing p) = 0
looseness (tuple p ts) = 0
looseness (paren p a) = 0
looseness (function p a b) = 3
looseness (fields p boxed fs) = 0
looseness (variant p choices) = 0
looseness (observed p a) = 0
looseness (take_some p a ns) = 2
looseness (take_all p a q) = 2

-- the sign that opens a record: `{`, or `#{` where it is unboxed
abbrev pub record_sign : Bool → Symbol
record_sign boxed = if boxed then brace else unboxed

-- names, each with a comma behind it; and names parted by commas
abbrev pub NamesBefore : List At → Reading
NamesBefore [] ts rest = ts ≡ rest
NamesBefore (n ∷ ns) ts rest = (token (lower n.name) n.place then sign comma then NamesBefore ns) ts rest

abbrev pub ReadsNames : List At → Reading
ReadsNames ns ts rest = (before : List At) × (last : At) × (ns ≡ before ++ last ∷ []) × (NamesBefore before then token (lower last.name) last.place) ts rest

abbrev mutual
  -- the tokens from `ts` on spell the type, and `rest` stands behind it
  pub ReadsType : Written → Reading
  ReadsType (named p n args) ts rest = ((token (upper n) p then ReadsArgs args) ts rest) ⊎ ((args ≡ no_types) × token (lower n) p ts rest)
  ReadsType (nothing p) ts rest = (token opening p then sign closing) ts rest
  ReadsType (tuple p parts) ts rest = (token opening p then ReadsList parts then sign closing) ts rest
  ReadsType (paren p a) ts rest = (token opening p then ReadsType a then sign closing) ts rest
  ReadsType (function p a b) ts rest = (p ≡ place_of a) × (ReadsType a then sign arrow then ReadsType b) ts rest
  ReadsType (fields p boxed fs) ts rest = (token (record_sign boxed) p then ReadsFields fs then sign closing_brace) ts rest
  ReadsType (variant p choices) ts rest = (either_token less p then ReadsAlts choices then either_sign greater) ts rest
  ReadsType (observed p a) ts rest = (p ≡ place_of a) × (ReadsType a then sign bang) ts rest
  ReadsType (take_some p a ns) ts rest = (p ≡ place_of a) × (ReadsType a then sign take_word then sign opening then ReadsNames ns then sign closing) ts rest
  ReadsType (take_all p a q) ts rest = (p ≡ place_of a) × (ReadsType a then token take_word q then sign opening then sign dots then sign closing) ts rest

  -- arguments, one behind the other
  pub ReadsArgs : Writtens → Reading
  ReadsArgs no_types ts rest = ts ≡ rest
  ReadsArgs (and_type args a) ts rest = (ReadsArgs args then ReadsType a) ts rest

  -- types, each with a comma behind it; and types parted by commas
  pub TypesBefore : Writtens → Reading
  TypesBefore no_types ts rest = ts ≡ rest
  TypesBefore (and_type parts a) ts rest = (TypesBefore parts then ReadsType a then sign comma) ts rest

  pub ReadsList : Writtens → Reading
  ReadsList no_types ts rest = ⊥
  ReadsList (and_type parts a) ts rest = (TypesBefore parts then ReadsType a) ts rest

  -- fields
  pub FieldsBefore : WrittenFields → Reading
  FieldsBefore no_fields ts rest = ts ≡ rest
  FieldsBefore (and_field fs at a) ts rest = (FieldsBefore fs then token (lower at.name) at.place then sign colon then ReadsType a then sign comma) ts rest

  pub ReadsFields : WrittenFields → Reading
  ReadsFields no_fields ts rest = ⊥
  ReadsFields (and_field fs at a) ts rest = (FieldsBefore fs then token (lower at.name) at.place then sign colon then ReadsType a) ts rest

  -- alternatives
  pub AltsBefore : WrittenAlts → Reading
  AltsBefore no_alts ts rest = ts ≡ rest
  AltsBefore (and_plain choices at) ts rest = (AltsBefore choices then token (upper at.name) at.place then either_sign bar) ts rest
  AltsBefore (and_alt choices at a) ts rest = (AltsBefore choices then token (upper at.name) at.place then ReadsType a then either_sign bar) ts rest

  pub ReadsAlts : WrittenAlts → Reading
  ReadsAlts no_alts ts rest = ⊥
  ReadsAlts (and_plain choices at) ts rest = (AltsBefore choices then token (upper at.name) at.place) ts rest
  ReadsAlts (and_alt choices at a) ts rest = (AltsBefore choices then token (upper at.name) at.place then ReadsType a) ts rest

-- there are two at least
abbrev pub AreMany : Writtens → Type 0
AreMany no_types = ⊥
AreMany (and_type no_types a) = ⊥
AreMany (and_type (and_type parts b) a) = ⊤

abbrev mutual
  -- each part is bound tightly enough for its place: an argument, the payload of an alternative and what stands before `!`
  -- stand alone; arrows associate to the right
  pub Binds : Written → Type 0
  Binds (named p n args) = ArgsBind args
  Binds (nothing p) = ⊤
  Binds (tuple p parts) = AreMany parts × TypesBind parts
  Binds (paren p a) = Binds a
  Binds (function p a b) = (looseness a ≤ 2) × Binds a × Binds b
  Binds (fields p boxed fs) = FieldsBind fs
  Binds (variant p choices) = AltsBind choices
  Binds (observed p a) = (looseness a ≤ 0) × Binds a
  Binds (take_some p a ns) = (looseness a ≤ 2) × Binds a
  Binds (take_all p a q) = (looseness a ≤ 2) × Binds a

  pub ArgsBind : Writtens → Type 0
  ArgsBind no_types = ⊤
  ArgsBind (and_type args a) = ArgsBind args × (looseness a ≤ 0) × Binds a

  pub TypesBind : Writtens → Type 0
  TypesBind no_types = ⊤
  TypesBind (and_type parts a) = TypesBind parts × Binds a

  pub FieldsBind : WrittenFields → Type 0
  FieldsBind no_fields = ⊤
  FieldsBind (and_field fs at a) = FieldsBind fs × Binds a

  pub AltsBind : WrittenAlts → Type 0
  AltsBind no_alts = ⊤
  AltsBind (and_plain choices at) = AltsBind choices
  AltsBind (and_alt choices at a) = AltsBind choices × (looseness a ≤ 0) × Binds a

-- the tokens spell the type
abbrev pub SpellsType : List Seen → Written → Type 0
SpellsType ts t = Binds t × ReadsType t ts []
