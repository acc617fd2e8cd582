-- What the tokens of each line of a generated source spell.
use Rattle.std.proofs.Common.{◌≡◌, ℕ, zero, suc, ◌+◌, true, false, List, [], ◌∷◌, ◌++◌, length, drop, map, codes, decimal, Some, refl, sym, ap, ◌∙◌, subst, arith, inl, inr}
use Rattle.std.specs.Prelude.{◌==◌, nat_le}
use Rattle.std.proofs.lemmas.List.{append-nil}
use Rattle.std.proofs.lemmas.Bool.Decides.{nat_tests}
use Rattle.cg_base.specs.declared.place.Place.{Place}
use Rattle.cg_core.specs.declared.at.At.{At}
use Rattle.cg_core.specs.declared.op.Op.TheVariants.{Mul}
use Rattle.cg_surface.specs.Exprs as surface
use Rattle.cg_surface.specs.Exprs.{Expr}
use Rattle.cg_surface.specs.Patterns as patterns
use Rattle.cg_surface.specs.Written as types
use Rattle.cg_surface.specs.Written.{Written}
use Rattle.cg_surface.specs.Programs.{Entry}
use Rattle.cg_lexer.specs.Tokens.{Lexeme}
use Rattle.cg_parser_symbols.specs.Symbols.{Symbol, lower, upper, numeral, let_word, brace, closing_brace, colon, equals, arrow, comma, plus, star, Seen, seen}
use Rattle.cg_parser_symbols.specs.Readings.{ArePast, IsPart, IsSpelled}
use Rattle.cg_parser_types.specs.Grammar.{ReadsType, SpellsType}
use Rattle.cg_parser_patterns.specs.Grammar.{SpellsPattern}
use Rattle.cg_parser_exprs_def.specs.Grammar as exprs
use Rattle.cg_parser_exprs_def.specs.Grammar.{Stands, Binds, WholeBy}
use Rattle.cg_parser_def.specs.Grammar.{ReadsEntry, ReadsProgram, nothing, SpellsExpr, SpellsTokens}
use Rattle.cg_gen.specs.Generated.{name}
use Rattle.cg_gen_def.specs.Programs.{at, place, type_row, body_row, width, reach, cell_item, type_item, body_item, items, program, subject_of, taken, sum_of, put_of}
use Rattle.cg_gen_text_laws.proofs.Lines.{type_tokens, subject_tokens, end_tokens, body_tokens, function_tokens}
use Rattle.cg_gen_text_laws.proofs.Sources.{header_tokens, tokens, source_tokens}

-- the reading of an item, of items and of an expression
abbrev pub Item : Entry → List Seen → List Seen → Type 0
Item = ReadsEntry SpellsType SpellsPattern SpellsExpr

abbrev pub Items : List Entry → List Seen → List Seen → Type 0
Items = ReadsProgram SpellsType SpellsPattern SpellsExpr

abbrev Whole : Expr → List Seen → List Seen → Type 0
Whole e = WholeBy SpellsType SpellsPattern (exprs.ReadsExpr SpellsType SpellsPattern e)

abbrev see : Symbol → Place → Seen
see s p = record { symbol = s; place = p }

-- ---- types

type_name : (p : Place) (n : List ℕ) (rest : List Seen) → ReadsType (types.named p n types.no_types) (see (upper n) p ∷ rest) rest
type_name p n rest = inl (rest, refl, refl)

function_type : (p q r : Place) (n m : List ℕ)
    → SpellsType (see (upper n) p ∷ see arrow q ∷ see (upper m) r ∷ []) (types.arrow p (types.named p n types.no_types) (types.named r m types.no_types))
function_type p q r n m = ((omega arith, tt, tt), (refl, (_, type_name p n _, (_, (q, refl), type_name r m []))))

-- a record of two fields, and its tokens
abbrev two_fields : Place → At → At → (Place → Written) → (Place → Written) → Place → Place → Written
two_fields p x y t u a b = types.fields p true (types.and_field (types.and_field types.no_fields x (t a)) y (u b))

abbrev field_tokens : At → Place → List ℕ → Place → Seen → List Seen → List Seen
field_tokens x colon_at t a end rest = see (lower x.name) x.place ∷ see colon colon_at ∷ see (upper t) a ∷ end ∷ rest

abbrev called : List ℕ → Place → Written
called n p = types.named p n types.no_types

record_type : (p a b c d e f : Place) (x y : At) (t u : List ℕ)
    → SpellsType (see brace p ∷ field_tokens x b t a (see comma c) (field_tokens y e u d (see closing_brace f) [])) (two_fields p x y (called t) (called u) a d)
record_type p a b c d e f x y t u =
    (((tt, tt), tt), (_, refl, (_, (_, (_, refl, (_, refl, (_, (b, refl), (_, type_name a t _, (c, refl))))), (_, refl, (_, (e, refl), type_name d u _))), (f, refl))))

abbrev cell_front : List Seen
cell_front =
    see brace (place 1 13)
    ∷ field_tokens (at 1 14 (codes "val")) (place 1 18) (codes "U32") (place 1 20) (see comma (place 1 23))
    (field_tokens (at 1 25 (codes "tag")) (place 1 29) (codes "U8") (place 1 31) (see closing_brace (place 1 33)) [])

cell_part : (rest : List Seen)
    → IsPart SpellsType (two_fields (place 1 13) (at 1 14 (codes "val")) (at 1 25 (codes "tag")) (called (codes "U32")) (called (codes "U8")) (place 1 20) (place 1 31)) (cell_front ++ rest) rest
cell_part rest = record {
  front = cell_front;
  past = (refl, (refl, (refl, (refl, (refl, (refl, (refl, (refl, (refl, tt)))))))));
  parts = refl;
  spelled = record_type (place 1 13) (place 1 20) (place 1 18) (place 1 23) (place 1 31) (place 1 29) (place 1 33) (at 1 14 (codes "val")) (at 1 25 (codes "tag")) (codes "U32") (codes "U8");
}

pub cell_read : (rest : List Seen) → Item cell_item (map seen header_tokens ++ rest) rest
cell_read rest = (_, (place 1 1, (refl, refl)), (_, (refl, refl), (_, refl, (_, (place 1 11, (refl, refl)), cell_part rest))))

-- a column behind the first
past : (w k : ℕ) → nat_le 2 k ≡ true → (w + k == 1) ≡ false
past w k h = grind (arith, nat_tests)

abbrev arrow_front : ℕ → List Seen
arrow_front before =
    see (upper (codes "Cell")) (place (type_row before) (width before + 4))
    ∷ see arrow (place (type_row before) (width before + 9))
    ∷ see (upper (codes "Cell")) (place (type_row before) (width before + 12))
    ∷ []

arrow_part : (before : ℕ) (rest : List Seen)
    → IsPart SpellsType
    (types.arrow (place (type_row before) (width before + 4)) (called (codes "Cell") (place (type_row before) (width before + 4))) (called (codes "Cell") (place (type_row before) (width before + 12))))
    (arrow_front before ++ rest) rest
arrow_part before rest =
    let r = type_row before in
    let w = width before in
    record {
      front = arrow_front before;
      past = (past w 4 refl, (past w 9 refl, (past w 12 refl, tt)));
      parts = refl;
      spelled = function_type (place r (w + 4)) (place r (w + 9)) (place r (w + 12)) (codes "Cell") (codes "Cell");
    }

pub type_read : (before : ℕ) (rest : List Seen) → Item (type_item before) (map seen (type_tokens before) ++ rest) rest
unfolding type_item
type_read before rest =
    (_, (refl, refl), (_, (place (type_row before) (width before + 2), (past (width before) 2 refl, refl)), (_, nothing refl refl refl, arrow_part before rest)))

-- ---- what a definition takes apart

variable_read : (p : Place) (n : List ℕ) (rest : List Seen) → Whole (surface.name p n types.no_types) (see (lower n) p ∷ rest) rest
variable_read p n rest = ([], (refl, (rest, refl, refl)))

number_read : (p : Place) (n : ℕ) (rest : List Seen) → Whole (surface.number p (Some n)) (see (numeral (Some n)) p ∷ rest) rest
number_read p n rest = ([], (refl, refl))

subject_stands : (before : ℕ) → Stands (subject_of before)
unfolding subject_of
subject_stands zero = tt
subject_stands (suc before) = tt

subject_binds : (before : ℕ) → Binds (subject_of before)
unfolding subject_of
subject_binds zero = tt
subject_binds (suc before) = (omega arith, tt, tt, omega arith, tt)

subject_read : (before : ℕ) (rest : List Seen) → Whole (subject_of before) (map seen (subject_tokens before) ++ rest) rest
unfolding subject_of
subject_read zero rest = variable_read (place (body_row 0) (width 0 + 25)) (codes "c") rest
subject_read (suc before) rest =
    let r = body_row (suc before) in
    ([], (refl, refl, (_, variable_read (place r (width (suc before) + 25)) (name (suc before)) _, variable_read (place r (reach (suc before) + 24)) (codes "c") rest)))

-- ---- what it puts in the place of it

sum_binds : (before : ℕ) → Binds (sum_of before)
sum_binds before = (omega arith, tt, (omega arith, tt, tt, omega arith, tt, tt), omega arith, tt, tt)

abbrev product_of : ℕ → Expr
product_of before =
    surface.binary (place (body_row before) (reach before + 41)) Mul (surface.name (place (body_row before) (reach before + 39)) (codes "v") types.no_types)
    (surface.number (place (body_row before) (reach before + 43)) (Some 3))

abbrev product_tokens : ℕ → List Seen → List Seen
product_tokens before rest =
    see (lower (codes "v")) (place (body_row before) (reach before + 39))
    ∷ see star (place (body_row before) (reach before + 41))
    ∷ see (numeral (Some 3)) (place (body_row before) (reach before + 43))
    ∷ rest

product_read : (before : ℕ) (rest : List Seen) → Whole (product_of before) (product_tokens before rest) rest
product_read before rest =
    let r = body_row before in
    let w = reach before in
    ([], (refl, (_, variable_read (place r (w + 39)) (codes "v") _, (_, refl, number_read (place r (w + 43)) 3 rest))))

abbrev sum_tokens : ℕ → List Seen → List Seen
sum_tokens before rest =
    product_tokens before (see plus (place (body_row before) (reach before + 45)) ∷ see (numeral (Some (before + 1))) (place (body_row before) (reach before + 47)) ∷ rest)

sum_read : (before : ℕ) (rest : List Seen) → Whole (sum_of before) (sum_tokens before rest) rest
sum_read before rest = ([], (refl, (_, product_read before _, (_, refl, number_read (place (body_row before) (reach before + 47)) (before + 1) rest))))

put_binds : (before : ℕ) → Binds (put_of before)
put_binds before = (omega arith, tt, (tt, tt, sum_binds before))

field_read : (before : ℕ) (rest : List Seen)
    → exprs.ReadsFields SpellsType SpellsPattern (surface.and_field surface.no_fields (at (body_row before) (reach before + 33) (codes "val")) (sum_of before))
    (see (lower (codes "val")) (place (body_row before) (reach before + 33)) ∷ see equals (place (body_row before) (reach before + 37)) ∷ sum_tokens before rest) rest
field_read before rest = (_, refl, inr (_, refl, (_, (place (body_row before) (reach before + 37), refl), sum_read before rest)))

put_read : (before : ℕ) (rest : List Seen) → exprs.ReadsExpr SpellsType SpellsPattern (put_of before) [] [] (map seen (drop 1 (end_tokens before)) ++ rest) rest
put_read before rest =
    let r = body_row before in
    let w = reach before in
    let close = place r (w + (47 + length (decimal (before + 1)))) in
    (refl, refl, (_, variable_read (place r (w + 29)) (codes "c'") _, (_, (place r (w + 32), refl), (_, field_read before _, (close, refl)))))

-- ---- the definition

abbrev pattern_tokens : ℕ → List Seen → List Seen
pattern_tokens before rest =
    see (lower (codes "c'")) (place (body_row before) (width before + 10))
    ∷ see brace (place (body_row before) (width before + 13))
    ∷ see (lower (codes "val")) (place (body_row before) (width before + 14))
    ∷ see equals (place (body_row before) (width before + 18))
    ∷ see (lower (codes "v")) (place (body_row before) (width before + 20))
    ∷ see closing_brace (place (body_row before) (width before + 21))
    ∷ rest

pattern_read : (before : ℕ) (rest : List Seen) → IsSpelled SpellsPattern (taken before) (pattern_tokens before rest) rest
pattern_read before rest =
    let r = body_row before in
    let w = width before in
    record {
      front = pattern_tokens before [];
      parts = refl;
      spelled = (_, refl, (_, (place r (w + 13), refl), (_, (_, refl, inr (_, refl, (_, (place r (w + 18), refl), refl))), (place r (w + 21), refl))));
    }

abbrev binds_of : ℕ → surface.Binds
binds_of before = surface.and_bind surface.no_binds (taken before) (subject_of before) []

abbrev let_of : ℕ → Expr
let_of before = surface.lets (place (body_row before) (width before + 6)) (binds_of before) (put_of before)

let_binds : (before : ℕ) → Binds (let_of before)
let_binds before = ((tt, subject_stands before, subject_binds before), tt, put_binds before)

-- what stands between `let` and what is taken apart, and what stands behind that
abbrev let_end : ℕ → List Seen → List Seen
let_end before rest = see equals (place (body_row before) (width before + 23)) ∷ (map seen (subject_tokens before) ++ rest)

abbrev let_tokens : ℕ → List Seen → List Seen
let_tokens before rest = see let_word (place (body_row before) (width before + 6)) ∷ pattern_tokens before (let_end before (map seen (end_tokens before) ++ rest))

bind_read : (before : ℕ) (rest : List Seen)
    → exprs.ReadsBinds SpellsType SpellsPattern (binds_of before) (pattern_tokens before (let_end before rest)) rest
bind_read before rest = (_, refl, (_, pattern_read before _, (_, (place (body_row before) (width before + 23), refl), (_, subject_read before rest, refl))))

let_read : (before : ℕ) (rest : List Seen) → Whole (let_of before) (let_tokens before rest) rest
let_read before rest = ([], (_, refl, (_, bind_read before _, (_, (place (body_row before) (reach before + 26), refl), put_read before rest))))

subject_past : (before : ℕ) (rest : List Seen) → ArePast rest → ArePast (map seen (subject_tokens before) ++ rest)
subject_past zero rest all = (past (width 0) 25 refl, all)
subject_past (suc before) rest all = (past (width (suc before)) 25 refl, (past (reach (suc before)) 24 refl, all))

further : (w k m : ℕ) → nat_le 2 k ≡ true → (w + (k + m) == 1) ≡ false
further w k m h = grind (arith, nat_tests)

sum_past : (before : ℕ) → ArePast (map seen (drop 5 (end_tokens before)) ++ [])
sum_past before =
    let w = reach before in
    (past w 39 refl, (past w 41 refl, (past w 43 refl, (past w 45 refl, (past w 47 refl, (further w 47 (length (decimal (before + 1))) refl, tt))))))

end_past : (before : ℕ) → ArePast (map seen (end_tokens before) ++ [])
end_past before = let w = reach before in (past w 26 refl, (past w 29 refl, (past w 32 refl, (past w 33 refl, (past w 37 refl, sum_past before)))))

pattern_past : (before : ℕ) (rest : List Seen) → ArePast rest → ArePast (pattern_tokens before rest)
pattern_past before rest all = let w = width before in (past w 10 refl, (past w 13 refl, (past w 14 refl, (past w 18 refl, (past w 20 refl, (past w 21 refl, all))))))

let_past : (before : ℕ) → ArePast (let_tokens before [])
let_past before =
    let end = map seen (end_tokens before) ++ [] in
    (past (width before) 6 refl, pattern_past before (let_end before end) (past (width before) 23 refl, subject_past before end (end_past before)))

-- the tokens of a definition behind its `=`, with others behind them
let_parts : (before : ℕ) (rest : List Seen) → let_tokens before rest ≡ let_tokens before [] ++ rest
let_parts zero rest = refl
let_parts (suc before) rest = refl

let_is : (before : ℕ) (rest : List Seen)
    → map seen (subject_tokens before ++ end_tokens before) ++ rest ≡ map seen (subject_tokens before) ++ (map seen (end_tokens before) ++ rest)
let_is zero rest = refl
let_is (suc before) rest = refl

let_part : (before : ℕ) (rest : List Seen)
    → IsPart SpellsExpr (let_of before)
    (see let_word (place (body_row before) (width before + 6))
    ∷ pattern_tokens before (see equals (place (body_row before) (width before + 23)) ∷ (map seen (subject_tokens before ++ end_tokens before) ++ rest)))
    rest
let_part before rest =
    let front : List Seen → List Seen = λ ts. see let_word (place (body_row before) (width before + 6)) ∷ pattern_tokens before (see equals (place (body_row before) (width before + 23)) ∷ ts) in
    record {
      front = let_tokens before [];
      past = let_past before;
      parts = ap front (let_is before rest) ∙ let_parts before rest;
      spelled = (tt, let_binds before, let_read before []);
    }

argument_part : (before : ℕ) (rest : List Seen)
    → IsPart SpellsPattern (patterns.name (place (body_row before) (width before + 2)) (codes "c")) (see (lower (codes "c")) (place (body_row before) (width before + 2)) ∷ rest) rest
argument_part before rest =
    record { front = see (lower (codes "c")) (place (body_row before) (width before + 2)) ∷ []; past = (past (width before) 2 refl, tt); parts = refl; spelled = refl }

pub body_read : (before : ℕ) (rest : List Seen) → Item (body_item before) (map seen (body_tokens before) ++ rest) rest
unfolding body_item
body_read before rest =
    (_, (refl, refl), (_, argument_part before _, (_, (place (body_row before) (width before + 4), (past (width before) 4 refl, refl)), let_part before rest)))

-- ---- a function, and some

function_read : (before : ℕ) (rest : List Seen) → Items (type_item before ∷ body_item before ∷ []) (map seen (function_tokens before) ++ rest) rest
function_read before rest = (_, type_read before (map seen (body_tokens before) ++ rest), (rest, body_read before rest, refl))

items_both : (p q : List Entry) (ts mid rest : List Seen) → Items p ts mid → Items q mid rest → Items (p ++ q) ts rest
items_both [] q ts mid rest a b = subst (λ (x : List Seen). Items q x rest) (sym a) b
items_both (i ∷ p) q ts mid rest a b = (a.0, a.1, items_both p q a.0 mid rest a.2 b)

tokens_both : (ts us : List Lexeme) (rest : List Seen) → map seen (ts ++ us) ++ rest ≡ map seen ts ++ (map seen us ++ rest)
tokens_both [] us rest = refl
tokens_both (t ∷ ts) us rest = ap (λ x. seen t ∷ x) (tokens_both ts us rest)

items_read : (n : ℕ) (rest : List Seen) → Items (items n) (map seen (tokens n) ++ rest) rest
unfolding items
items_read zero rest = refl
items_read (suc before) rest =
    subst (λ (x : List Seen). Items (items (suc before)) x rest) (sym (tokens_both (tokens before) (function_tokens before) rest))
    (items_both (items before) (type_item before ∷ body_item before ∷ []) _ _ rest (items_read before (map seen (function_tokens before) ++ rest)) (function_read before rest))

pub source_read : (n : ℕ) → SpellsTokens (map seen (source_tokens n)) (program n)
source_read n =
    let ts = map seen (tokens n) in
    (ts, cell_read ts, subst (λ (x : List Seen). Items (items n) x []) (append-nil ts) (items_read n []))
