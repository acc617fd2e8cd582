-- The outline of a step is a step of the outline.
use Rattle.std.proofs.Common.{◌≡◌, ℕ, Bool, true, false, List, [], ◌∷◌, ◌++◌, Option, Some, None, map, codes, if◌then◌else◌, refl, ap, ◌∙◌}
use Rattle.std.specs.Prelude.{◌||◌}
use Rattle.std.specs.Str.{bytes_eq}
use Rattle.cg_base.specs.declared.place.Place.{Place}
use Rattle.cg_heaptext_def.specs.Grammar.{bit_text}
use Rattle.cg_heaptext_def.specs.Trees.{Numeral, Written, Entry, Heap, applied, constant}
use Rattle.cg_heaptext_parser.specs.Machine.{Base, in_cell, in_argument, Begun, Frame, payload, paren, unboxed, Item, Fresh, Again, Behind, Labelled, State, on_symbol, on_value, on_have, on_answer}
use Rattle.cg_heaptext_parser.specs.Machine as machine
use Rattle.cg_heaptext_parser.specs.Outline.{Outline, at, failed, is_cell, item_of, open_of, outline, within}
use Rattle.cg_heaptext_parser.specs.Outline as seen
use Rattle.cg_heaptext_parser.specs.declared.phase.Phase.TheVariants as phase
use Rattle.cg_heaptext_parser.specs.Symbols.{Symbol, Digits, Named, Wild, Truth, Constructor, At, Equals, Comma, OpenRecord, OpenBrace, CloseBrace, OpenBracket, CloseBracket, OpenAngle, CloseAngle, OpenParen, CloseParen, Foreign}

-- what is open round a value that is no payload
closed_same : (fs : List Frame) (v : Written) → map open_of (machine.closed fs v).0 ≡ seen.closed (map open_of fs)
closed_same [] v = refl
closed_same (payload p x ∷ fs) v = closed_same fs (applied p x v)
closed_same (paren p vs ∷ fs) v = refl
closed_same (unboxed p ns x ∷ fs) v = refl

constructor_same : (b : Base) (fs : List Frame) (p : Place) (x : List ℕ) → outline (machine.on_constructor b fs p x) ≡ seen.on_constructor (is_cell b) (map open_of fs)
constructor_same b [] p x = refl
constructor_same b (payload q y ∷ fs) p x = refl
constructor_same b (paren q vs ∷ fs) p x = refl
constructor_same b (unboxed q ns y ∷ fs) p x = refl

comma_same : (b : Base) (fs : List Frame) (v : Written) → outline (machine.on_comma b fs v) ≡ seen.on_comma (is_cell b) (map open_of fs)
comma_same (in_cell c q ns x) [] v = refl
comma_same (in_argument es) [] v = refl
comma_same b (payload p x ∷ fs) v = refl
comma_same b (paren p vs ∷ fs) v = refl
comma_same b (unboxed p ns x ∷ fs) v = refl

close_same : (b : Base) (fs : List Frame) (v : Written) → outline (machine.on_close b fs v) ≡ seen.on_close (is_cell b) (map open_of fs)
close_same b [] v = refl
close_same b (payload p x ∷ fs) v = refl
close_same b (paren p vs ∷ fs) v = refl
close_same b (unboxed p ns x ∷ fs) v = refl

end_same : (b : Base) (fs : List Frame) (v : Written) → outline (machine.on_end b fs v) ≡ seen.on_end (is_cell b) (map open_of fs)
end_same (in_cell c q ns x) [] v = refl
end_same (in_argument es) [] v = refl
end_same b (payload p x ∷ fs) v = refl
end_same b (paren p vs ∷ fs) v = refl
end_same b (unboxed p ns x ∷ fs) v = refl

value_same : (b : Base) (fs : List Frame) (p : Place) (y : Symbol) → outline (on_value b fs p y) ≡ seen.on_value (is_cell b) (map open_of fs) y
value_same b fs p (Digits ds) = refl
value_same b fs p (Named x) = refl
value_same b fs p Wild = refl
value_same b fs p (Truth t) = refl
value_same b fs p (Constructor x) = constructor_same b fs p x
value_same b fs p At = refl
value_same b fs p Equals = refl
value_same b fs p Comma = refl
value_same b fs p OpenRecord = refl
value_same b fs p OpenBrace = refl
value_same b fs p CloseBrace = refl
value_same b fs p OpenBracket = refl
value_same b fs p CloseBracket = refl
value_same b fs p OpenAngle = refl
value_same b fs p CloseAngle = refl
value_same b fs p OpenParen = refl
value_same b fs p CloseParen = refl
value_same b fs p Foreign = refl

have_same : (b : Base) (fs : List Frame) (v : Written) (y : Symbol) → outline (on_have b fs v y) ≡ seen.on_have (is_cell b) (map open_of fs) y
have_same b fs v (Digits ds) = refl
have_same b fs v (Named x) = refl
have_same b fs v Wild = refl
have_same b fs v (Truth t) = refl
have_same b fs v (Constructor x) = refl
have_same b fs v At = refl
have_same b fs v Equals = refl
have_same b fs v Comma = let c = machine.closed fs v in comma_same b c.0 c.1 ∙ ap (seen.on_comma (is_cell b)) (closed_same fs v)
have_same b fs v OpenRecord = refl
have_same b fs v OpenBrace = refl
have_same b fs v CloseBrace = let c = machine.closed fs v in end_same b c.0 c.1 ∙ ap (seen.on_end (is_cell b)) (closed_same fs v)
have_same b fs v OpenBracket = refl
have_same b fs v CloseBracket = refl
have_same b fs v OpenAngle = refl
have_same b fs v CloseAngle = refl
have_same b fs v OpenParen = refl
have_same b fs v CloseParen = let c = machine.closed fs v in close_same b c.0 c.1 ∙ ap (seen.on_close (is_cell b)) (closed_same fs v)
have_same b fs v Foreign = refl

constructed_same : (b : Base) (fs : List Frame) (q : Place) (x : List ℕ) (p : Place) (y : Symbol)
    → outline (machine.on_after_constructor b fs q x p y) ≡ seen.on_after_constructor (is_cell b) (map open_of fs) y
constructed_same b fs q x p (Digits ds) = value_same b (payload q x ∷ fs) p (Digits ds)
constructed_same b fs q x p (Named z) = have_same b fs (constant q x) (Named z)
constructed_same b fs q x p Wild = value_same b (payload q x ∷ fs) p Wild
constructed_same b fs q x p (Truth t) = value_same b (payload q x ∷ fs) p (Truth t)
constructed_same b fs q x p (Constructor z) = value_same b (payload q x ∷ fs) p (Constructor z)
constructed_same b fs q x p At = value_same b (payload q x ∷ fs) p At
constructed_same b fs q x p Equals = have_same b fs (constant q x) Equals
constructed_same b fs q x p Comma = have_same b fs (constant q x) Comma
constructed_same b fs q x p OpenRecord = value_same b (payload q x ∷ fs) p OpenRecord
constructed_same b fs q x p OpenBrace = have_same b fs (constant q x) OpenBrace
constructed_same b fs q x p CloseBrace = have_same b fs (constant q x) CloseBrace
constructed_same b fs q x p OpenBracket = have_same b fs (constant q x) OpenBracket
constructed_same b fs q x p CloseBracket = have_same b fs (constant q x) CloseBracket
constructed_same b fs q x p OpenAngle = have_same b fs (constant q x) OpenAngle
constructed_same b fs q x p CloseAngle = have_same b fs (constant q x) CloseAngle
constructed_same b fs q x p OpenParen = value_same b (payload q x ∷ fs) p OpenParen
constructed_same b fs q x p CloseParen = have_same b fs (constant q x) CloseParen
constructed_same b fs q x p Foreign = have_same b fs (constant q x) Foreign

paren_same : (b : Base) (fs : List Frame) (q p : Place) (y : Symbol) → outline (machine.on_paren b fs q p y) ≡ seen.on_paren (is_cell b) (map open_of fs) y
paren_same b fs q p (Digits ds) = value_same b (paren q [] ∷ fs) p (Digits ds)
paren_same b fs q p (Named x) = value_same b (paren q [] ∷ fs) p (Named x)
paren_same b fs q p Wild = value_same b (paren q [] ∷ fs) p Wild
paren_same b fs q p (Truth t) = value_same b (paren q [] ∷ fs) p (Truth t)
paren_same b fs q p (Constructor x) = value_same b (paren q [] ∷ fs) p (Constructor x)
paren_same b fs q p At = value_same b (paren q [] ∷ fs) p At
paren_same b fs q p Equals = value_same b (paren q [] ∷ fs) p Equals
paren_same b fs q p Comma = value_same b (paren q [] ∷ fs) p Comma
paren_same b fs q p OpenRecord = value_same b (paren q [] ∷ fs) p OpenRecord
paren_same b fs q p OpenBrace = value_same b (paren q [] ∷ fs) p OpenBrace
paren_same b fs q p CloseBrace = value_same b (paren q [] ∷ fs) p CloseBrace
paren_same b fs q p OpenBracket = value_same b (paren q [] ∷ fs) p OpenBracket
paren_same b fs q p CloseBracket = value_same b (paren q [] ∷ fs) p CloseBracket
paren_same b fs q p OpenAngle = value_same b (paren q [] ∷ fs) p OpenAngle
paren_same b fs q p CloseAngle = value_same b (paren q [] ∷ fs) p CloseAngle
paren_same b fs q p OpenParen = value_same b (paren q [] ∷ fs) p OpenParen
paren_same b fs q p CloseParen = refl
paren_same b fs q p Foreign = value_same b (paren q [] ∷ fs) p Foreign

argument_same : (es : List Entry) (b : Bool) → outline (if b then machine.ArgumentEquals es else machine.Failed) ≡ seen.outside (seen.only_if b phase.ArgumentEquals)
argument_same es true = refl
argument_same es false = refl

between_same : (es : List Entry) (p : Place) (y : Symbol) → outline (machine.on_between es p y) ≡ seen.outside (seen.on_between y)
between_same es p (Digits ds) = refl
between_same es p (Named x) = argument_same es (bytes_eq x (codes "arg"))
between_same es p Wild = refl
between_same es p (Truth t) = refl
between_same es p (Constructor x) = refl
between_same es p At = refl
between_same es p Equals = refl
between_same es p Comma = refl
between_same es p OpenRecord = refl
between_same es p OpenBrace = refl
between_same es p CloseBrace = refl
between_same es p OpenBracket = refl
between_same es p CloseBracket = refl
between_same es p OpenAngle = refl
between_same es p CloseAngle = refl
between_same es p OpenParen = refl
between_same es p CloseParen = refl
between_same es p Foreign = refl

cell_same : (c : Begun) (p : Place) (y : Symbol) → outline (machine.on_cell c p y) ≡ seen.outside (seen.on_cell y)
cell_same c p (Digits ds) = refl
cell_same c p (Named x) = refl
cell_same c p Wild = refl
cell_same c p (Truth t) = refl
cell_same c p (Constructor x) = refl
cell_same c p At = refl
cell_same c p Equals = refl
cell_same c p Comma = refl
cell_same c p OpenRecord = refl
cell_same c p OpenBrace = refl
cell_same c p CloseBrace = refl
cell_same c p OpenBracket = refl
cell_same c p CloseBracket = refl
cell_same c p OpenAngle = refl
cell_same c p CloseAngle = refl
cell_same c p OpenParen = refl
cell_same c p CloseParen = refl
cell_same c p Foreign = refl

elements_same : (c : Begun) (q : Place) (ns : List Numeral) (i : Item) (p : Place) (y : Symbol) → outline (machine.on_elements c q ns i p y) ≡ seen.outside (seen.on_elements (item_of i) y)
elements_same c q ns Fresh p (Digits ds) = refl
elements_same c q ns Fresh p (Named x) = refl
elements_same c q ns Fresh p Wild = refl
elements_same c q ns Fresh p (Truth t) = refl
elements_same c q ns Fresh p (Constructor x) = refl
elements_same c q ns Fresh p At = refl
elements_same c q ns Fresh p Equals = refl
elements_same c q ns Fresh p Comma = refl
elements_same c q ns Fresh p OpenRecord = refl
elements_same c q ns Fresh p OpenBrace = refl
elements_same c q ns Fresh p CloseBrace = refl
elements_same c q ns Fresh p OpenBracket = refl
elements_same c q ns Fresh p CloseBracket = refl
elements_same c q ns Fresh p OpenAngle = refl
elements_same c q ns Fresh p CloseAngle = refl
elements_same c q ns Fresh p OpenParen = refl
elements_same c q ns Fresh p CloseParen = refl
elements_same c q ns Fresh p Foreign = refl
elements_same c q ns Again p (Digits ds) = refl
elements_same c q ns Again p (Named x) = refl
elements_same c q ns Again p Wild = refl
elements_same c q ns Again p (Truth t) = refl
elements_same c q ns Again p (Constructor x) = refl
elements_same c q ns Again p At = refl
elements_same c q ns Again p Equals = refl
elements_same c q ns Again p Comma = refl
elements_same c q ns Again p OpenRecord = refl
elements_same c q ns Again p OpenBrace = refl
elements_same c q ns Again p CloseBrace = refl
elements_same c q ns Again p OpenBracket = refl
elements_same c q ns Again p CloseBracket = refl
elements_same c q ns Again p OpenAngle = refl
elements_same c q ns Again p CloseAngle = refl
elements_same c q ns Again p OpenParen = refl
elements_same c q ns Again p CloseParen = refl
elements_same c q ns Again p Foreign = refl
elements_same c q ns Behind p (Digits ds) = refl
elements_same c q ns Behind p (Named x) = refl
elements_same c q ns Behind p Wild = refl
elements_same c q ns Behind p (Truth t) = refl
elements_same c q ns Behind p (Constructor x) = refl
elements_same c q ns Behind p At = refl
elements_same c q ns Behind p Equals = refl
elements_same c q ns Behind p Comma = refl
elements_same c q ns Behind p OpenRecord = refl
elements_same c q ns Behind p OpenBrace = refl
elements_same c q ns Behind p CloseBrace = refl
elements_same c q ns Behind p OpenBracket = refl
elements_same c q ns Behind p CloseBracket = refl
elements_same c q ns Behind p OpenAngle = refl
elements_same c q ns Behind p CloseAngle = refl
elements_same c q ns Behind p OpenParen = refl
elements_same c q ns Behind p CloseParen = refl
elements_same c q ns Behind p Foreign = refl

answer_same : (c : Begun) (q : Place) (bs : List Bool) (ds : List ℕ) → outline (on_answer c q bs ds) ≡ seen.outside (seen.on_answer ds)
answer_same c q bs ds = by_bits (bytes_eq ds (bit_text true)) (bytes_eq ds (bit_text false))
  where
    by_bits : (a b : Bool) → outline (if a then machine.Answered c q (bs ++ true ∷ []) Behind else if b then machine.Answered c q (bs ++ false ∷ []) Behind else machine.Failed)
        ≡ seen.outside (seen.only_if (a || b) (phase.Answers (item_of Behind)))
    by_bits true b = refl
    by_bits false true = refl
    by_bits false false = refl

answers_same : (c : Begun) (q : Place) (bs : List Bool) (i : Item) (y : Symbol) → outline (machine.on_answers c q bs i y) ≡ seen.outside (seen.on_answers (item_of i) y)
answers_same c q bs Fresh (Digits ds) = answer_same c q bs ds
answers_same c q bs Fresh (Named x) = refl
answers_same c q bs Fresh Wild = refl
answers_same c q bs Fresh (Truth t) = refl
answers_same c q bs Fresh (Constructor x) = refl
answers_same c q bs Fresh At = refl
answers_same c q bs Fresh Equals = refl
answers_same c q bs Fresh Comma = refl
answers_same c q bs Fresh OpenRecord = refl
answers_same c q bs Fresh OpenBrace = refl
answers_same c q bs Fresh CloseBrace = refl
answers_same c q bs Fresh OpenBracket = refl
answers_same c q bs Fresh CloseBracket = refl
answers_same c q bs Fresh OpenAngle = refl
answers_same c q bs Fresh CloseAngle = refl
answers_same c q bs Fresh OpenParen = refl
answers_same c q bs Fresh CloseParen = refl
answers_same c q bs Fresh Foreign = refl
answers_same c q bs Again (Digits ds) = answer_same c q bs ds
answers_same c q bs Again (Named x) = refl
answers_same c q bs Again Wild = refl
answers_same c q bs Again (Truth t) = refl
answers_same c q bs Again (Constructor x) = refl
answers_same c q bs Again At = refl
answers_same c q bs Again Equals = refl
answers_same c q bs Again Comma = refl
answers_same c q bs Again OpenRecord = refl
answers_same c q bs Again OpenBrace = refl
answers_same c q bs Again CloseBrace = refl
answers_same c q bs Again OpenBracket = refl
answers_same c q bs Again CloseBracket = refl
answers_same c q bs Again OpenAngle = refl
answers_same c q bs Again CloseAngle = refl
answers_same c q bs Again OpenParen = refl
answers_same c q bs Again CloseParen = refl
answers_same c q bs Again Foreign = refl
answers_same c q bs Behind (Digits ds) = refl
answers_same c q bs Behind (Named x) = refl
answers_same c q bs Behind Wild = refl
answers_same c q bs Behind (Truth t) = refl
answers_same c q bs Behind (Constructor x) = refl
answers_same c q bs Behind At = refl
answers_same c q bs Behind Equals = refl
answers_same c q bs Behind Comma = refl
answers_same c q bs Behind OpenRecord = refl
answers_same c q bs Behind OpenBrace = refl
answers_same c q bs Behind CloseBrace = refl
answers_same c q bs Behind OpenBracket = refl
answers_same c q bs Behind CloseBracket = refl
answers_same c q bs Behind OpenAngle = refl
answers_same c q bs Behind CloseAngle = refl
answers_same c q bs Behind OpenParen = refl
answers_same c q bs Behind CloseParen = refl
answers_same c q bs Behind Foreign = refl

-- one symbol more
pub outlined : (s : State) (p : Place) (y : Symbol) → outline (on_symbol s p y) ≡ seen.step (outline s) y
outlined (machine.Between es) p y = between_same es p y
outlined (machine.AfterSign es q) p (Digits ds) = refl
outlined (machine.AfterSign es q) p (Named z) = refl
outlined (machine.AfterSign es q) p Wild = refl
outlined (machine.AfterSign es q) p (Truth t) = refl
outlined (machine.AfterSign es q) p (Constructor z) = refl
outlined (machine.AfterSign es q) p At = refl
outlined (machine.AfterSign es q) p Equals = refl
outlined (machine.AfterSign es q) p Comma = refl
outlined (machine.AfterSign es q) p OpenRecord = refl
outlined (machine.AfterSign es q) p OpenBrace = refl
outlined (machine.AfterSign es q) p CloseBrace = refl
outlined (machine.AfterSign es q) p OpenBracket = refl
outlined (machine.AfterSign es q) p CloseBracket = refl
outlined (machine.AfterSign es q) p OpenAngle = refl
outlined (machine.AfterSign es q) p CloseAngle = refl
outlined (machine.AfterSign es q) p OpenParen = refl
outlined (machine.AfterSign es q) p CloseParen = refl
outlined (machine.AfterSign es q) p Foreign = refl
outlined (machine.AfterAddress c) p (Digits ds) = refl
outlined (machine.AfterAddress c) p (Named z) = refl
outlined (machine.AfterAddress c) p Wild = refl
outlined (machine.AfterAddress c) p (Truth t) = refl
outlined (machine.AfterAddress c) p (Constructor z) = refl
outlined (machine.AfterAddress c) p At = refl
outlined (machine.AfterAddress c) p Equals = refl
outlined (machine.AfterAddress c) p Comma = refl
outlined (machine.AfterAddress c) p OpenRecord = refl
outlined (machine.AfterAddress c) p OpenBrace = refl
outlined (machine.AfterAddress c) p CloseBrace = refl
outlined (machine.AfterAddress c) p OpenBracket = refl
outlined (machine.AfterAddress c) p CloseBracket = refl
outlined (machine.AfterAddress c) p OpenAngle = refl
outlined (machine.AfterAddress c) p CloseAngle = refl
outlined (machine.AfterAddress c) p OpenParen = refl
outlined (machine.AfterAddress c) p CloseParen = refl
outlined (machine.AfterAddress c) p Foreign = refl
outlined (machine.BeforeCell c) p y = cell_same c p y
outlined (machine.CellName c q ns) p (Digits ds) = refl
outlined (machine.CellName c q ns) p (Named z) = refl
outlined (machine.CellName c q ns) p Wild = refl
outlined (machine.CellName c q ns) p (Truth t) = refl
outlined (machine.CellName c q ns) p (Constructor z) = refl
outlined (machine.CellName c q ns) p At = refl
outlined (machine.CellName c q ns) p Equals = refl
outlined (machine.CellName c q ns) p Comma = refl
outlined (machine.CellName c q ns) p OpenRecord = refl
outlined (machine.CellName c q ns) p OpenBrace = refl
outlined (machine.CellName c q ns) p CloseBrace = refl
outlined (machine.CellName c q ns) p OpenBracket = refl
outlined (machine.CellName c q ns) p CloseBracket = refl
outlined (machine.CellName c q ns) p OpenAngle = refl
outlined (machine.CellName c q ns) p CloseAngle = refl
outlined (machine.CellName c q ns) p OpenParen = refl
outlined (machine.CellName c q ns) p CloseParen = refl
outlined (machine.CellName c q ns) p Foreign = refl
outlined (machine.CellEquals c q ns x) p (Digits ds) = refl
outlined (machine.CellEquals c q ns x) p (Named z) = refl
outlined (machine.CellEquals c q ns x) p Wild = refl
outlined (machine.CellEquals c q ns x) p (Truth t) = refl
outlined (machine.CellEquals c q ns x) p (Constructor z) = refl
outlined (machine.CellEquals c q ns x) p At = refl
outlined (machine.CellEquals c q ns x) p Equals = refl
outlined (machine.CellEquals c q ns x) p Comma = refl
outlined (machine.CellEquals c q ns x) p OpenRecord = refl
outlined (machine.CellEquals c q ns x) p OpenBrace = refl
outlined (machine.CellEquals c q ns x) p CloseBrace = refl
outlined (machine.CellEquals c q ns x) p OpenBracket = refl
outlined (machine.CellEquals c q ns x) p CloseBracket = refl
outlined (machine.CellEquals c q ns x) p OpenAngle = refl
outlined (machine.CellEquals c q ns x) p CloseAngle = refl
outlined (machine.CellEquals c q ns x) p OpenParen = refl
outlined (machine.CellEquals c q ns x) p CloseParen = refl
outlined (machine.CellEquals c q ns x) p Foreign = refl
outlined (machine.Elements c q ns i) p y = elements_same c q ns i p y
outlined (machine.Answered c q bs i) p y = answers_same c q bs i y
outlined (machine.ArgumentEquals es) p (Digits ds) = refl
outlined (machine.ArgumentEquals es) p (Named z) = refl
outlined (machine.ArgumentEquals es) p Wild = refl
outlined (machine.ArgumentEquals es) p (Truth t) = refl
outlined (machine.ArgumentEquals es) p (Constructor z) = refl
outlined (machine.ArgumentEquals es) p At = refl
outlined (machine.ArgumentEquals es) p Equals = refl
outlined (machine.ArgumentEquals es) p Comma = refl
outlined (machine.ArgumentEquals es) p OpenRecord = refl
outlined (machine.ArgumentEquals es) p OpenBrace = refl
outlined (machine.ArgumentEquals es) p CloseBrace = refl
outlined (machine.ArgumentEquals es) p OpenBracket = refl
outlined (machine.ArgumentEquals es) p CloseBracket = refl
outlined (machine.ArgumentEquals es) p OpenAngle = refl
outlined (machine.ArgumentEquals es) p CloseAngle = refl
outlined (machine.ArgumentEquals es) p OpenParen = refl
outlined (machine.ArgumentEquals es) p CloseParen = refl
outlined (machine.ArgumentEquals es) p Foreign = refl
outlined (machine.Want b fs) p y = value_same b fs p y
outlined (machine.AfterParen b fs q) p y = paren_same b fs q p y
outlined (machine.AfterConstructor b fs q x) p y = constructed_same b fs q x p y
outlined (machine.ValueSign b fs q) p (Digits ds) = refl
outlined (machine.ValueSign b fs q) p (Named z) = refl
outlined (machine.ValueSign b fs q) p Wild = refl
outlined (machine.ValueSign b fs q) p (Truth t) = refl
outlined (machine.ValueSign b fs q) p (Constructor z) = refl
outlined (machine.ValueSign b fs q) p At = refl
outlined (machine.ValueSign b fs q) p Equals = refl
outlined (machine.ValueSign b fs q) p Comma = refl
outlined (machine.ValueSign b fs q) p OpenRecord = refl
outlined (machine.ValueSign b fs q) p OpenBrace = refl
outlined (machine.ValueSign b fs q) p CloseBrace = refl
outlined (machine.ValueSign b fs q) p OpenBracket = refl
outlined (machine.ValueSign b fs q) p CloseBracket = refl
outlined (machine.ValueSign b fs q) p OpenAngle = refl
outlined (machine.ValueSign b fs q) p CloseAngle = refl
outlined (machine.ValueSign b fs q) p OpenParen = refl
outlined (machine.ValueSign b fs q) p CloseParen = refl
outlined (machine.ValueSign b fs q) p Foreign = refl
outlined (machine.FieldName b fs q ns) p (Digits ds) = refl
outlined (machine.FieldName b fs q ns) p (Named z) = refl
outlined (machine.FieldName b fs q ns) p Wild = refl
outlined (machine.FieldName b fs q ns) p (Truth t) = refl
outlined (machine.FieldName b fs q ns) p (Constructor z) = refl
outlined (machine.FieldName b fs q ns) p At = refl
outlined (machine.FieldName b fs q ns) p Equals = refl
outlined (machine.FieldName b fs q ns) p Comma = refl
outlined (machine.FieldName b fs q ns) p OpenRecord = refl
outlined (machine.FieldName b fs q ns) p OpenBrace = refl
outlined (machine.FieldName b fs q ns) p CloseBrace = refl
outlined (machine.FieldName b fs q ns) p OpenBracket = refl
outlined (machine.FieldName b fs q ns) p CloseBracket = refl
outlined (machine.FieldName b fs q ns) p OpenAngle = refl
outlined (machine.FieldName b fs q ns) p CloseAngle = refl
outlined (machine.FieldName b fs q ns) p OpenParen = refl
outlined (machine.FieldName b fs q ns) p CloseParen = refl
outlined (machine.FieldName b fs q ns) p Foreign = refl
outlined (machine.FieldEquals b fs q ns x) p (Digits ds) = refl
outlined (machine.FieldEquals b fs q ns x) p (Named z) = refl
outlined (machine.FieldEquals b fs q ns x) p Wild = refl
outlined (machine.FieldEquals b fs q ns x) p (Truth t) = refl
outlined (machine.FieldEquals b fs q ns x) p (Constructor z) = refl
outlined (machine.FieldEquals b fs q ns x) p At = refl
outlined (machine.FieldEquals b fs q ns x) p Equals = refl
outlined (machine.FieldEquals b fs q ns x) p Comma = refl
outlined (machine.FieldEquals b fs q ns x) p OpenRecord = refl
outlined (machine.FieldEquals b fs q ns x) p OpenBrace = refl
outlined (machine.FieldEquals b fs q ns x) p CloseBrace = refl
outlined (machine.FieldEquals b fs q ns x) p OpenBracket = refl
outlined (machine.FieldEquals b fs q ns x) p CloseBracket = refl
outlined (machine.FieldEquals b fs q ns x) p OpenAngle = refl
outlined (machine.FieldEquals b fs q ns x) p CloseAngle = refl
outlined (machine.FieldEquals b fs q ns x) p OpenParen = refl
outlined (machine.FieldEquals b fs q ns x) p CloseParen = refl
outlined (machine.FieldEquals b fs q ns x) p Foreign = refl
outlined (machine.Have b fs v) p y = have_same b fs v y
outlined machine.Failed p (Digits ds) = refl
outlined machine.Failed p (Named z) = refl
outlined machine.Failed p Wild = refl
outlined machine.Failed p (Truth t) = refl
outlined machine.Failed p (Constructor z) = refl
outlined machine.Failed p At = refl
outlined machine.Failed p Equals = refl
outlined machine.Failed p Comma = refl
outlined machine.Failed p OpenRecord = refl
outlined machine.Failed p OpenBrace = refl
outlined machine.Failed p CloseBrace = refl
outlined machine.Failed p OpenBracket = refl
outlined machine.Failed p CloseBracket = refl
outlined machine.Failed p OpenAngle = refl
outlined machine.Failed p CloseAngle = refl
outlined machine.Failed p OpenParen = refl
outlined machine.Failed p CloseParen = refl
outlined machine.Failed p Foreign = refl

-- what is open is seen, and where a heap file ends
pub open_same : (s : State) → machine.is_open s ≡ seen.is_open (outline s).phase
open_same (machine.Between es) = refl
open_same (machine.AfterSign es q) = refl
open_same (machine.AfterAddress c) = refl
open_same (machine.BeforeCell c) = refl
open_same (machine.CellName c q ns) = refl
open_same (machine.CellEquals c q ns x) = refl
open_same (machine.Elements c q ns i) = refl
open_same (machine.Answered c q bs i) = refl
open_same (machine.ArgumentEquals es) = refl
open_same (machine.Want b fs) = refl
open_same (machine.AfterParen b fs q) = refl
open_same (machine.AfterConstructor b fs q x) = refl
open_same (machine.ValueSign b fs q) = refl
open_same (machine.FieldName b fs q ns) = refl
open_same (machine.FieldEquals b fs q ns x) = refl
open_same (machine.Have b fs v) = refl
open_same machine.Failed = refl

abbrev pub is_some : Option Heap → Bool
is_some None = false
is_some (Some h) = true

concluded_same : (b : Base) (fs : List Frame) (v : Written) → is_some (machine.concluded b fs v) ≡ seen.is_last (is_cell b) (map open_of fs)
concluded_same (in_argument es) [] v = refl
concluded_same (in_argument es) (f ∷ fs) v = refl
concluded_same (in_cell c q ns x) [] v = refl
concluded_same (in_cell c q ns x) (f ∷ fs) v = refl

pub ends_same : (s : State) → is_some (machine.finish s) ≡ seen.ends (outline s)
ends_same (machine.Between es) = refl
ends_same (machine.AfterSign es q) = refl
ends_same (machine.AfterAddress c) = refl
ends_same (machine.BeforeCell c) = refl
ends_same (machine.CellName c q ns) = refl
ends_same (machine.CellEquals c q ns x) = refl
ends_same (machine.Elements c q ns i) = refl
ends_same (machine.Answered c q bs i) = refl
ends_same (machine.ArgumentEquals es) = refl
ends_same (machine.Want b fs) = refl
ends_same (machine.AfterParen b fs q) = refl
ends_same (machine.AfterConstructor b fs q x) = let c = machine.closed fs (constant q x) in concluded_same b c.0 c.1 ∙ ap (seen.is_last (is_cell b)) (closed_same fs (constant q x))
ends_same (machine.ValueSign b fs q) = refl
ends_same (machine.FieldName b fs q ns) = refl
ends_same (machine.FieldEquals b fs q ns x) = refl
ends_same (machine.Have b fs v) = let c = machine.closed fs v in concluded_same b c.0 c.1 ∙ ap (seen.is_last (is_cell b)) (closed_same fs v)
ends_same machine.Failed = refl
