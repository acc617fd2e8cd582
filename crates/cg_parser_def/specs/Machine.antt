-- The machine that reads a program, one token at a time, over readers of its types, patterns and expressions.
use Rattle.std.specs.Prelude.{ℕ, List, [], ◌∷◌, ◌++◌, Bool, true, false, Option, Some, None, if◌then◌else◌}
use Rattle.cg_base.specs.declared.kind.Bound.{Bound}
use Rattle.cg_base.specs.declared.place.Place.{Place}
use Rattle.cg_base.specs.Reader.{Reader}
use Rattle.cg_core.specs.declared.at.At.{At}
use Rattle.cg_parser_symbols.specs.Symbols.{Symbol, lower, upper, type_word, all_word, opening, closing, colon, has_kinds, equals, comma, dot, Seen, is_first}
use Rattle.cg_parser_def.specs.Grammar.{are_letters, kinds_of, no_kinds, bound}

-- how items are added to those before them, where types, patterns and expressions are of some kind
pub record Builder (T P X D : Type 0) : Type 0 where
  pub none : D
  pub synonym : D → At → List At → T → D
  pub abstract : D → At → List At → D
  pub signature : D → At → List Bound → List Place → T → D
  pub define : D → At → P → X → D

-- where among items the machine stands, with the items before
pub data State (TS PS XS P D : Type 0) : Type 0 where
  Between : D → State TS PS XS P D
  AfterType : D → State TS PS XS P D
  InParams : D → At → List At → State TS PS XS P D
  InSynonym : D → At → List At → TS → State TS PS XS P D
  AfterName : D → At → State TS PS XS P D
  AfterColon : D → At → State TS PS XS P D
  AfterAll : D → At → State TS PS XS P D
  WantVar : D → At → List Bound → List Place → State TS PS XS P D
  AfterVar : D → At → List Bound → List Place → List ℕ → Place → State TS PS XS P D
  WantKinds : D → At → List Bound → List Place → List ℕ → Place → State TS PS XS P D
  AfterKinds : D → At → List Bound → List Place → Bound → Place → State TS PS XS P D
  WantDot : D → At → List Bound → List Place → State TS PS XS P D
  InSignature : D → At → List Bound → List Place → TS → State TS PS XS P D
  InParam : D → At → PS → State TS PS XS P D
  InBody : D → At → P → XS → State TS PS XS P D
  Failed : State TS PS XS P D

-- a name at its place
abbrev pub name_at : Place → List ℕ → At
name_at p n = record { place = p; name = n }

module _ {TS PS XS T P X D : Type 0} (types : Reader TS Seen T) (patterns : Reader PS Seen P) (exprs : Reader XS Seen X) (B : Builder T P X D) where
  abbrev pub Stage : Type 0
  Stage = State TS PS XS P D

  -- the items with one more, where its last part can end
  abbrev pub end_synonym : D → At → List At → Option T → Option D
  end_synonym done at params None = None
  end_synonym done at params (Some t) = Some (B.synonym done at params t)

  abbrev pub end_signature : D → At → List Bound → List Place → Option T → Option D
  end_signature done at vs ps None = None
  end_signature done at vs ps (Some t) = Some (B.signature done at vs ps t)

  abbrev pub end_body : D → At → P → Option X → Option D
  end_body done at x None = None
  end_body done at x (Some e) = Some (B.define done at x e)

  -- the items that end there, if the last one can
  abbrev pub finish : Stage → Option D
  finish (Between done) = Some done
  finish (AfterType done) = None
  finish (InParams done at params) = Some (B.abstract done at params)
  finish (InSynonym done at params s) = end_synonym done at params (types.finish s)
  finish (AfterName done at) = None
  finish (AfterColon done at) = None
  finish (AfterAll done at) = None
  finish (WantVar done at vs ps) = None
  finish (AfterVar done at vs ps n q) = None
  finish (WantKinds done at vs ps n q) = None
  finish (AfterKinds done at vs ps v q) = None
  finish (WantDot done at vs ps) = None
  finish (InSignature done at vs ps s) = end_signature done at vs ps (types.finish s)
  finish (InParam done at s) = None
  finish (InBody done at x s) = end_body done at x (exprs.finish s)
  finish Failed = None

  -- at a token of column 1: the item before must end there, and this one begins the next
  abbrev pub on_head : Option D → Symbol → Place → Stage
  on_head (Some done) (lower n) p = AfterName done (name_at p n)
  on_head (Some done) type_word p = AfterType done
  on_head o s p = Failed

  -- behind the word `type`
  abbrev pub after_type : D → Symbol → Place → Stage
  after_type done (upper n) p = InParams done (name_at p n) []
  after_type done s p = Failed

  -- behind the name of a type
  abbrev pub in_params : D → At → List At → Symbol → Place → Stage
  in_params done at params (lower n) p = InParams done at (params ++ name_at p n ∷ [])
  in_params done at params equals p = InSynonym done at params types.begin
  in_params done at params s p = Failed

  -- behind the name of an item
  abbrev pub after_name : D → At → Symbol → Place → Stage
  after_name done at colon p = AfterColon done at
  after_name done at s p = InParam done at (patterns.step patterns.begin (record { symbol = s; place = p }))

  -- behind the colon of a signature
  abbrev pub after_colon : D → At → Symbol → Place → Stage
  after_colon done at all_word p = AfterAll done at
  after_colon done at s p = InSignature done at [] [] (types.step types.begin (record { symbol = s; place = p }))

  -- behind `all`
  abbrev pub after_all : D → At → Symbol → Place → Stage
  after_all done at (lower n) p = WantDot done at (bound n no_kinds ∷ []) (p ∷ [])
  after_all done at opening p = WantVar done at [] []
  after_all done at s p = Failed

  -- where a type variable is wanted
  abbrev pub want_var : D → At → List Bound → List Place → Symbol → Place → Stage
  want_var done at vs ps (lower n) p = AfterVar done at vs ps n p
  want_var done at vs ps s p = Failed

  -- behind a type variable with its constraint
  abbrev pub after_kinds : D → At → List Bound → List Place → Bound → Place → Symbol → Stage
  after_kinds done at vs ps v q comma = WantVar done at (vs ++ v ∷ []) (ps ++ q ∷ [])
  after_kinds done at vs ps v q closing = WantDot done at (vs ++ v ∷ []) (ps ++ q ∷ [])
  after_kinds done at vs ps v q s = Failed

  -- behind the name of a type variable
  abbrev pub after_var : D → At → List Bound → List Place → List ℕ → Place → Symbol → Stage
  after_var done at vs ps n q has_kinds = WantKinds done at vs ps n q
  after_var done at vs ps n q s = after_kinds done at vs ps (bound n no_kinds) q s

  -- behind `:<`
  abbrev pub want_kinds : D → At → List Bound → List Place → List ℕ → Place → Symbol → Stage
  want_kinds done at vs ps n q (upper letters) = if are_letters letters then AfterKinds done at vs ps (bound n (kinds_of letters)) q else Failed
  want_kinds done at vs ps n q s = Failed

  -- behind the type variables
  abbrev pub want_dot : D → At → List Bound → List Place → Symbol → Stage
  want_dot done at vs ps dot = InSignature done at vs ps types.begin
  want_dot done at vs ps s = Failed

  -- at `=` in a parameter: behind a whole pattern the body begins
  abbrev pub on_equals : D → At → PS → Place → Option P → Stage
  on_equals done at s p (Some x) = InBody done at x exprs.begin
  on_equals done at s p None = InParam done at (patterns.step s (record { symbol = equals; place = p }))

  -- in a parameter
  abbrev pub in_param : D → At → PS → Symbol → Place → Stage
  in_param done at s equals p = on_equals done at s p (patterns.finish s)
  in_param done at s y p = InParam done at (patterns.step s (record { symbol = y; place = p }))

  -- at any other token
  abbrev pub inside : Stage → Symbol → Place → Stage
  inside (Between done) y p = Failed
  inside (AfterType done) y p = after_type done y p
  inside (InParams done at params) y p = in_params done at params y p
  inside (InSynonym done at params s) y p = InSynonym done at params (types.step s (record { symbol = y; place = p }))
  inside (AfterName done at) y p = after_name done at y p
  inside (AfterColon done at) y p = after_colon done at y p
  inside (AfterAll done at) y p = after_all done at y p
  inside (WantVar done at vs ps) y p = want_var done at vs ps y p
  inside (AfterVar done at vs ps n q) y p = after_var done at vs ps n q y
  inside (WantKinds done at vs ps n q) y p = want_kinds done at vs ps n q y
  inside (AfterKinds done at vs ps v q) y p = after_kinds done at vs ps v q y
  inside (WantDot done at vs ps) y p = want_dot done at vs ps y
  inside (InSignature done at vs ps s) y p = InSignature done at vs ps (types.step s (record { symbol = y; place = p }))
  inside (InParam done at s) y p = in_param done at s y p
  inside (InBody done at x s) y p = InBody done at x (exprs.step s (record { symbol = y; place = p }))
  inside Failed y p = Failed

  -- one token more
  abbrev pub step : Stage → Seen → Stage
  step s t = if is_first t.place then on_head (finish s) t.symbol t.place else inside s t.symbol t.place

  -- whether a program may still come of it
  abbrev pub is_open : Stage → Bool
  is_open (InSynonym done at params s) = types.is_open s
  is_open (InSignature done at vs ps s) = types.is_open s
  is_open (InParam done at s) = patterns.is_open s
  is_open (InBody done at x s) = exprs.is_open s
  is_open Failed = false
  is_open s = true

  -- all of it, as a reader
  abbrev pub reader : Reader Stage Seen D
  reader = record { begin = Between B.none; step = step; is_open = is_open; finish = finish }
