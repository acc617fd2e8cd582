-- Whatever the machine has read, some tokens complete it.
use Rattle.std.proofs.Common.{◌≡◌, ℕ, List, [], ◌∷◌, refl, ap, ◌∙◌, Bool, true, Some}
use Rattle.std.specs.Prelude.{codes}
use Rattle.cg_base.specs.Places.{first_place}
use Rattle.cg_base.specs.declared.place.Place.{Place}
use Rattle.cg_heaptext_def.specs.Tokens.{Lexeme}
use Rattle.cg_heaptext_def.specs.Trees.{Numeral, Written, nothing, applied, Entry, Heap}
use Rattle.cg_heaptext_parser.specs.Machine.{Labelled, Frame, payload, paren, unboxed, Begun, Base, in_cell, in_argument, Item, Fresh, Again, Behind, State, Between, AfterSign, AfterAddress, BeforeCell, CellName, CellEquals, Elements, Answered, ArgumentEquals, Want, AfterParen, AfterConstructor, ValueSign, FieldName, FieldEquals, Have, Failed, on_symbol, is_open, finish}
use Rattle.cg_heaptext_parser.specs.Symbols.{Symbol, Digits, Named, Equals, OpenBracket, CloseBracket, CloseAngle, OpenParen, CloseParen, CloseBrace}
use Rattle.cg_heaptext_parser.proofs.Known.{token_of, Proper, back}
use Rattle.cg_heaptext_parser.proofs.Steps.{run, payload_alike}

-- some tokens complete the state
abbrev pub Completable : State → Type 0
Completable s = (rest : List Lexeme) × (h : Heap) × (finish (run s rest) ≡ Some h)

-- one token more
fed : (y : Symbol) → Proper y → (s : State) → Completable (on_symbol s first_place y) → Completable s
fed y f s c = (record { token = token_of y; place = first_place } ∷ c.0, c.1, ap (λ z. finish (run (on_symbol s first_place z) c.0)) (back y f) ∙ c.2)

-- ---- a file, from an entry on

argument_equals : (es : List Entry) → Completable (ArgumentEquals es)
argument_equals es =
    fed Equals tt (ArgumentEquals es)
    (fed OpenParen tt (Want (in_argument es) [])
    (fed CloseParen tt (AfterParen (in_argument es) [] first_place) ([], _, refl)))

between : (es : List Entry) → Completable (Between es)
between es = fed (Named (codes "arg")) refl (Between es) (argument_equals es)

-- ---- values

-- whatever is open round a value can be closed
have : (fs : List Frame) (b : Base) (v : Written) → Completable (Have b fs v)
have [] (in_cell c q ns x) v = fed CloseBrace tt (Have (in_cell c q ns x) [] v) (between _)
have [] (in_argument es) v = ([], _, refl)
have (payload p x ∷ fs) b v = let c = have fs b (applied p x v) in (c.0, c.1, payload_alike b fs p x v c.0 ∙ c.2)
have (paren p vs ∷ fs) b v = fed CloseParen tt (Have b (paren p vs ∷ fs) v) (have fs b _)
have (unboxed p ns x ∷ fs) b v = fed CloseBrace tt (Have b (unboxed p ns x ∷ fs) v) (have fs b _)

-- nothing more has to stand in a parenthesis, which is a value everywhere
after_paren : (b : Base) (fs : List Frame) (q : Place) → Completable (AfterParen b fs q)
after_paren b fs q = fed CloseParen tt (AfterParen b fs q) (have fs b (nothing q))

want : (b : Base) (fs : List Frame) → Completable (Want b fs)
want b fs = fed OpenParen tt (Want b fs) (after_paren b fs first_place)

field_equals : (b : Base) (fs : List Frame) (q : Place) (ns : List Labelled) (x : List ℕ) → Completable (FieldEquals b fs q ns x)
field_equals b fs q ns x = fed Equals tt (FieldEquals b fs q ns x) (want b (unboxed q ns x ∷ fs))

-- ---- cells

cell_equals : (c : Begun) (q : Place) (ns : List Labelled) (x : List ℕ) → Completable (CellEquals c q ns x)
cell_equals c q ns x = fed Equals tt (CellEquals c q ns x) (want (in_cell c q ns x) [])

in_elements : (c : Begun) (q : Place) (ns : List Numeral) (i : Item) → Completable (Elements c q ns i)
in_elements c q ns Fresh = fed CloseBracket tt (Elements c q ns Fresh) (between _)
in_elements c q ns Again = fed (Digits (codes "0")) tt (Elements c q ns Again) (fed CloseBracket tt (Elements c q _ Behind) (between _))
in_elements c q ns Behind = fed CloseBracket tt (Elements c q ns Behind) (between _)

in_answers : (c : Begun) (q : Place) (bs : List Bool) (i : Item) → Completable (Answered c q bs i)
in_answers c q bs Fresh = fed CloseAngle tt (Answered c q bs Fresh) (between _)
in_answers c q bs Again = fed (Digits (codes "0")) tt (Answered c q bs Again) (fed CloseAngle tt (Answered c q _ Behind) (between _))
in_answers c q bs Behind = fed CloseAngle tt (Answered c q bs Behind) (between _)

before_cell : (c : Begun) → Completable (BeforeCell c)
before_cell c = fed OpenBracket tt (BeforeCell c) (in_elements c first_place [] Fresh)

after_address : (c : Begun) → Completable (AfterAddress c)
after_address c = fed Equals tt (AfterAddress c) (before_cell c)

-- each open state can be completed
pub completable : (s : State) → is_open s ≡ true → Completable s
completable (Between es) o = between es
completable (AfterSign es q) o = fed (Digits (codes "1")) tt (AfterSign es q) (after_address _)
completable (AfterAddress c) o = after_address c
completable (BeforeCell c) o = before_cell c
completable (CellName c q ns) o = fed (Named (codes "x")) refl (CellName c q ns) (cell_equals c q ns _)
completable (CellEquals c q ns x) o = cell_equals c q ns x
completable (Elements c q ns i) o = in_elements c q ns i
completable (Answered c q bs i) o = in_answers c q bs i
completable (ArgumentEquals es) o = argument_equals es
completable (Want b fs) o = want b fs
completable (AfterParen b fs q) o = after_paren b fs q
completable (AfterConstructor b fs q x) o = fed OpenParen tt (AfterConstructor b fs q x) (after_paren b (payload q x ∷ fs) first_place)
completable (ValueSign b fs q) o = fed (Digits (codes "1")) tt (ValueSign b fs q) (have fs b _)
completable (FieldName b fs q ns) o = fed (Named (codes "x")) refl (FieldName b fs q ns) (field_equals b fs q ns _)
completable (FieldEquals b fs q ns x) o = field_equals b fs q ns x
completable (Have b fs v) o = have fs b v
completable Failed o = cc
