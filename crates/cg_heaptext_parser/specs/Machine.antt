-- The machine that reads a heap file, one token at a time, with what is open in a stack, as a reader (docs/LANGUAGE.md, "Heap files", the grammar).
use Rattle.std.specs.Prelude.{ℕ, Bool, true, false, List, [], ◌∷◌, ◌++◌, codes, Option, Some, None, if◌then◌else◌}
use Rattle.std.specs.Str.{bytes_eq}
use Rattle.cg_base.specs.declared.place.Place.{Place}
use Rattle.cg_base.specs.Reader.{Reader}
use Rattle.cg_heaptext_def.specs.Grammar.{bit_text}
use Rattle.cg_heaptext_def.specs.Tokens.{Lexeme}
use Rattle.cg_heaptext_def.specs.Trees.{Numeral, Written, numeral, truth, nothing, gone, address, constant, applied, inside, tuple, record', Writtens, none, more, Fields, end, field, Cell, slots, elements, answers, Entry, Heap}
use Rattle.cg_heaptext_parser.specs.Symbols.{Symbol, Digits, Named, Wild, Truth, Constructor, At, Equals, Comma, OpenRecord, OpenBrace, CloseBrace, OpenBracket, CloseBracket, OpenAngle, CloseAngle, OpenParen, CloseParen, symbol_of}

-- a value with its name
pub record Labelled : Type 0 where
  pub name : List ℕ
  pub value : Written

-- the trees' own lists, of lists
abbrev pub to_writtens : List Written → Writtens
to_writtens [] = none
to_writtens (v ∷ vs) = more v (to_writtens vs)

abbrev pub to_fields : List Labelled → Fields
to_fields [] = end
to_fields (f ∷ fs) = field f.name f.value (to_fields fs)

-- what is open round a value, up to it: a constructor; a parenthesis, with the values before; an unboxed record, with the fields before and the
-- name of the one that is read
pub data Frame : Type 0 where
  payload : Place → List ℕ → Frame
  paren : Place → List Written → Frame
  unboxed : Place → List Labelled → List ℕ → Frame

-- an entry whose cell is read, and the entries before it
pub record Begun : Type 0 where
  pub before : List Entry
  pub place : Place
  pub address : Numeral

-- the outermost thing that is open: the slots of a cell, from this place on, with the fields before and the name of the one that is read; or the
-- argument, behind all entries
pub data Base : Type 0 where
  in_cell : Begun → Place → List Labelled → List ℕ → Base
  in_argument : List Entry → Base

-- where in a list of numbers or answers the machine stands: at its beginning, behind a comma, or behind an item
pub data Item : Type 0 where
  Fresh : Item
  Again : Item
  Behind : Item

-- where in a file the machine stands
pub data State : Type 0 where
  Between : List Entry → State  -- before an entry or `arg`
  AfterSign : List Entry → Place → State  -- behind the `@` of an entry
  AfterAddress : Begun → State  -- behind its address
  BeforeCell : Begun → State  -- behind its `=`
  CellName : Begun → Place → List Labelled → State  -- before the name of a field of a cell
  CellEquals : Begun → Place → List Labelled → List ℕ → State  -- behind the name
  Elements : Begun → Place → List Numeral → Item → State
  Answered : Begun → Place → List Bool → Item → State
  ArgumentEquals : List Entry → State  -- behind `arg`
  Want : Base → List Frame → State  -- before a value
  AfterParen : Base → List Frame → Place → State  -- behind a `(`
  AfterConstructor : Base → List Frame → Place → List ℕ → State  -- behind a constructor that may have a payload
  ValueSign : Base → List Frame → Place → State  -- behind the `@` of a value
  FieldName : Base → List Frame → Place → List Labelled → State  -- before the name of a field of an unboxed record
  FieldEquals : Base → List Frame → Place → List Labelled → List ℕ → State  -- behind it
  Have : Base → List Frame → Written → State  -- behind a value
  Failed : State

abbrev pub with_entry : Begun → Cell → List Entry
with_entry b c = b.before ++ record { place = b.place; address = b.address; cell = c } ∷ []

abbrev pub labelled : List Labelled → List ℕ → Written → List Labelled
labelled fs x v = fs ++ record { name = x; value = v } ∷ []

-- at a constructor: as a payload it has none itself
abbrev pub on_constructor : Base → List Frame → Place → List ℕ → State
on_constructor b (payload q y ∷ fs) p x = Have b (payload q y ∷ fs) (constant p x)
on_constructor b fs p x = AfterConstructor b fs p x

-- before a value, at a token with this place
abbrev pub on_value : Base → List Frame → Place → Symbol → State
on_value b fs p (Digits ds) = Have b fs (numeral (record { place = p; digits = ds }))
on_value b fs p Wild = Have b fs (gone p)
on_value b fs p (Truth t) = Have b fs (truth p t)
on_value b fs p (Constructor x) = on_constructor b fs p x
on_value b fs p At = ValueSign b fs p
on_value b fs p OpenParen = AfterParen b fs p
on_value b fs p OpenRecord = FieldName b fs p []
on_value b fs p y = Failed

-- whether a value begins with it
abbrev pub begins_value : Symbol → Bool
begins_value (Digits ds) = true
begins_value Wild = true
begins_value (Truth t) = true
begins_value (Constructor x) = true
begins_value At = true
begins_value OpenParen = true
begins_value OpenRecord = true
begins_value y = false

-- a value as the payload of the constructors that wait for it, with what is open round them
abbrev pub closed : List Frame → Written → List Frame × Written
closed [] v = ([], v)
closed (payload p x ∷ fs) v = closed fs (applied p x v)
closed (paren p vs ∷ fs) v = (paren p vs ∷ fs, v)
closed (unboxed p ns x ∷ fs) v = (unboxed p ns x ∷ fs, v)

-- at a comma behind a value that is no payload
abbrev pub on_comma : Base → List Frame → Written → State
on_comma (in_cell c q ns x) [] v = CellName c q (labelled ns x v)
on_comma (in_argument es) [] v = Failed
on_comma b (payload p x ∷ fs) v = Failed
on_comma b (paren p vs ∷ fs) v = Want b (paren p (vs ++ v ∷ []) ∷ fs)
on_comma b (unboxed p ns x ∷ fs) v = FieldName b fs p (labelled ns x v)

-- a parenthesis with these values: one stands in it, or they are a tuple
abbrev pub enclosed : Place → List Written → Written → Written
enclosed p [] v = inside p v
enclosed p (w ∷ ws) v = tuple p (to_writtens (w ∷ ws ++ v ∷ []))

-- at a closing parenthesis behind such a value
abbrev pub on_close : Base → List Frame → Written → State
on_close b (paren p vs ∷ fs) v = Have b fs (enclosed p vs v)
on_close b fs v = Failed

-- at a closing brace behind such a value
abbrev pub on_end : Base → List Frame → Written → State
on_end (in_cell c q ns x) [] v = Between (with_entry c (slots q (to_fields (labelled ns x v))))
on_end (in_argument es) [] v = Failed
on_end b (payload p x ∷ fs) v = Failed
on_end b (paren p vs ∷ fs) v = Failed
on_end b (unboxed p ns x ∷ fs) v = Have b fs (record' p (to_fields (labelled ns x v)))

-- behind a value
abbrev pub on_have : Base → List Frame → Written → Symbol → State
on_have b fs v Comma = let r = closed fs v in on_comma b r.0 r.1
on_have b fs v CloseParen = let r = closed fs v in on_close b r.0 r.1
on_have b fs v CloseBrace = let r = closed fs v in on_end b r.0 r.1
on_have b fs v y = Failed

-- behind a constructor: its payload, or what stands behind it as a value
abbrev pub on_after_constructor : Base → List Frame → Place → List ℕ → Place → Symbol → State
on_after_constructor b fs q x p y = if begins_value y then on_value b (payload q x ∷ fs) p y else on_have b fs (constant q x) y

-- behind a `(`: nothing in it, or a value
abbrev pub on_paren : Base → List Frame → Place → Place → Symbol → State
on_paren b fs q p CloseParen = Have b fs (nothing q)
on_paren b fs q p y = on_value b (paren q [] ∷ fs) p y

-- before an entry or `arg`
abbrev pub on_between : List Entry → Place → Symbol → State
on_between es p At = AfterSign es p
on_between es p (Named x) = if bytes_eq x (codes "arg") then ArgumentEquals es else Failed
on_between es p y = Failed

-- behind the `=` of an entry
abbrev pub on_cell : Begun → Place → Symbol → State
on_cell c p OpenBrace = CellName c p []
on_cell c p OpenBracket = Elements c p [] Fresh
on_cell c p OpenAngle = Answered c p [] Fresh
on_cell c p y = Failed

-- in a list of numbers
abbrev pub on_elements : Begun → Place → List Numeral → Item → Place → Symbol → State
on_elements c q ns Fresh p CloseBracket = Between (with_entry c (elements q ns))
on_elements c q ns Fresh p (Digits ds) = Elements c q (ns ++ record { place = p; digits = ds } ∷ []) Behind
on_elements c q ns Again p (Digits ds) = Elements c q (ns ++ record { place = p; digits = ds } ∷ []) Behind
on_elements c q ns Behind p Comma = Elements c q ns Again
on_elements c q ns Behind p CloseBracket = Between (with_entry c (elements q ns))
on_elements c q ns i p y = Failed

-- in a list of answers: at a number, which has to be one
abbrev pub on_answer : Begun → Place → List Bool → List ℕ → State
on_answer c q bs ds =
    if bytes_eq ds (bit_text true) then Answered c q (bs ++ true ∷ []) Behind
    else if bytes_eq ds (bit_text false) then Answered c q (bs ++ false ∷ []) Behind
    else Failed

abbrev pub on_answers : Begun → Place → List Bool → Item → Symbol → State
on_answers c q bs Fresh CloseAngle = Between (with_entry c (answers q bs))
on_answers c q bs Fresh (Digits ds) = on_answer c q bs ds
on_answers c q bs Again (Digits ds) = on_answer c q bs ds
on_answers c q bs Behind Comma = Answered c q bs Again
on_answers c q bs Behind CloseAngle = Between (with_entry c (answers q bs))
on_answers c q bs i y = Failed

-- one symbol more, of a token at this place
abbrev pub on_symbol : State → Place → Symbol → State
on_symbol (Between es) p y = on_between es p y
on_symbol (AfterSign es q) p (Digits ds) = AfterAddress (record { before = es; place = q; address = record { place = p; digits = ds } })
on_symbol (AfterAddress c) p Equals = BeforeCell c
on_symbol (BeforeCell c) p y = on_cell c p y
on_symbol (CellName c q ns) p (Named x) = CellEquals c q ns x
on_symbol (CellEquals c q ns x) p Equals = Want (in_cell c q ns x) []
on_symbol (Elements c q ns i) p y = on_elements c q ns i p y
on_symbol (Answered c q bs i) p y = on_answers c q bs i y
on_symbol (ArgumentEquals es) p Equals = Want (in_argument es) []
on_symbol (Want b fs) p y = on_value b fs p y
on_symbol (AfterParen b fs q) p y = on_paren b fs q p y
on_symbol (AfterConstructor b fs q x) p y = on_after_constructor b fs q x p y
on_symbol (ValueSign b fs q) p (Digits ds) = Have b fs (address q (record { place = p; digits = ds }))
on_symbol (FieldName b fs q ns) p (Named x) = FieldEquals b fs q ns x
on_symbol (FieldEquals b fs q ns x) p Equals = Want b (unboxed q ns x ∷ fs)
on_symbol (Have b fs v) p y = on_have b fs v y
on_symbol s p y = Failed

-- one token more
abbrev pub step : State → Lexeme → State
step s t = on_symbol s t.place (symbol_of t.token)

-- whether a heap file may still come of it
abbrev pub is_open : State → Bool
is_open Failed = false
is_open s = true

-- the heap file of an argument, behind these entries
abbrev pub concluded : Base → List Frame → Written → Option Heap
concluded (in_argument es) [] v = Some (record { entries = es; argument = v })
concluded b fs v = None

-- the heap file that ends there, where one does
abbrev pub finish : State → Option Heap
finish (Have b fs v) = let r = closed fs v in concluded b r.0 r.1
finish (AfterConstructor b fs p x) = let r = closed fs (constant p x) in concluded b r.0 r.1
finish s = None

-- all of it, as a reader
abbrev pub reader : Reader State Lexeme Heap
reader = record { begin = Between []; step = step; is_open = is_open; finish = finish }
