-- The values of a tuple and the fields of a record, one by one.
use Rattle.std.proofs.Common.{◌≡◌, ℕ, Bool, true, false, List, [], ◌∷◌, codes, Some, refl, sym, ap, ◌∙◌, subst}
use Rattle.cg_base.specs.declared.place.Place.{Place}
use Rattle.cg_heaptext_def.specs.Grammar.{ReadsFields, ReadsMore, ReadsMoreFields, ReadsTwo}
use Rattle.cg_heaptext_def.specs.Tokens.{Lexeme, lower, sign, token_text}
use Rattle.cg_heaptext_def.specs.Trees.{Written, Writtens, none, more, Fields, end, field, slots, listed}
use Rattle.cg_heaptext_entries.specs.Index.{Before, CellStands}
use Rattle.cg_heaptext_entries.proofs.Standing.{reads}
use Rattle.cg_heaptext_lexer.specs.Next.{Cursor, Gives, token_of}
use Rattle.cg_heaptext_lexer.specs.declared.token.TokenKind.{TokenKind}
use Rattle.cg_heaptext_lexer.specs.declared.token.TokenKind.TheVariants.{Number, Lower, Upper, Sign, Unknown, End}
use Rattle.cg_heaptext_values.specs.Turns.{passed, turn}
use Rattle.cg_heaptext_values.specs.Turns as turns
use Rattle.cg_heaptext_values.specs.Values.{EndsThere, Listed, Named, ReadsOtherFields, ReadsOthers, StandsAt, TakesField, TakesValue, closing, is_end}
use Rattle.cg_heaptext_values.specs.declared.list.FieldAt.{FieldAt}
use Rattle.cg_heaptext_values.specs.declared.list.FieldsAt.{FieldsAt}
use Rattle.cg_heaptext_values.specs.declared.list.ValuesAt.{ValuesAt}
use Rattle.cg_heaptext_values.proofs.Passing.{close_passed, comma_passed, value_passed}

-- ---- the others, with the bracket behind them

pub others_read : (vs : Writtens) (ts mid rest : List Lexeme) → ReadsMore vs ts mid → closing mid rest → ReadsOthers (listed vs) ts rest
others_read none ts mid rest r c = subst (λ us. closing us rest) (sym r) c
others_read (more v vs) ts mid rest r c = (r.0, r.1, (r.2.0, r.2.1, others_read vs r.2.0 mid rest r.2.2 c))

-- two values or more stand behind their bracket
pub two_listed : (vs : Writtens) (at : Cursor) (ts mid rest : List Lexeme) → Before at ts → ReadsTwo vs ts mid → closing mid rest → Listed true at (listed vs)
two_listed none at ts mid rest b r c = absurd r
two_listed (more v none) at ts mid rest b r c = absurd r
two_listed (more v (more w vs)) at ts mid rest b r c = (ts, rest, b, (r.0, r.1, others_read (more w vs) r.0 mid rest r.2 c))

pub other_fields_read : (fs : Fields) (ts mid rest : List Lexeme) → ReadsMoreFields fs ts mid → closing mid rest → ReadsOtherFields fs ts rest
other_fields_read end ts mid rest r c = subst (λ us. closing us rest) (sym r) c
other_fields_read (field x v fs) ts mid rest r c =
    let k = r.1 in let q = k.2 in
    (k.0, k.1, (q.2.2.0, (q.0, q.1, (q.2.0, q.2.1, q.2.2.1)), other_fields_read fs q.2.2.0 mid rest q.2.2.2 c))

pub fields_named : (fs : Fields) (at : Cursor) (ts mid rest : List Lexeme) → Before at ts → ReadsFields fs ts mid → closing mid rest → Named true at fs
fields_named end at ts mid rest b r c = absurd r
fields_named (field x v fs) at ts mid rest b r c =
    let q = r.1 in
    (ts, rest, b, (q.2.2.0, (q.0, q.1, (q.2.0, q.2.1, q.2.2.1)), other_fields_read fs q.2.2.0 mid rest q.2.2.2 c))

-- ---- behind a value

others_end : (vs : List Written) (ts rest : List Lexeme) → ReadsOthers vs ts rest → EndsThere ts
others_end [] ts rest r = subst EndsThere (sym r.2.1) (ap is_end r.1)
others_end (v ∷ vs) ts rest r = subst EndsThere (sym r.1.1) refl

-- what was passed and where, and what stands there
abbrev Passed : Bool → Cursor → List Lexeme → Type 0
Passed left new ts = (left ≡ (passed (turns.inside 0) ts).0) × Before new (passed (turns.inside 0) ts).1

passed_to : (left : Bool) (new : Cursor) (ts rest : List Lexeme) (b : Bool) → passed (turns.inside 0) ts ≡ (b, rest) → Passed left new ts → (left ≡ b) × Before new rest
passed_to left new ts rest b e p = (p.0 ∙ ap (λ (q : Bool × List Lexeme). q.0) e, subst (λ (q : Bool × List Lexeme). Before new q.1) e p.1)

listed_on : (vs : List Written) (left : Bool) (new : Cursor) (ts rest : List Lexeme) → ReadsOthers vs ts rest → Passed left new ts → Listed left new vs
listed_on [] left new ts rest r p = let q = passed_to left new ts rest false (close_passed r.0 ts rest r.1 r.2) p in subst (λ b. Listed b new []) (sym q.0) tt
listed_on (v ∷ vs) left new ts rest r p =
    let q = passed_to left new ts r.0 true (comma_passed ts r.0 r.1) p in
    subst (λ b. Listed b new (v ∷ vs)) (sym q.0) (r.0, rest, q.1, (r.2.0, r.2.1, r.2.2))

fields_end : (fs : Fields) (ts rest : List Lexeme) → ReadsOtherFields fs ts rest → EndsThere ts
fields_end end ts rest r = subst EndsThere (sym r.2.1) (ap is_end r.1)
fields_end (field x v fs) ts rest r = subst EndsThere (sym r.1.1) refl

named_on : (fs : Fields) (left : Bool) (new : Cursor) (ts rest : List Lexeme) → ReadsOtherFields fs ts rest → Passed left new ts → Named left new fs
named_on end left new ts rest r p = let q = passed_to left new ts rest false (close_passed r.0 ts rest r.1 r.2) p in subst (λ b. Named b new end) (sym q.0) tt
named_on (field x v fs) left new ts rest r p =
    let q = passed_to left new ts r.0 true (comma_passed ts r.0 r.1) p in
    subst (λ b. Named b new (field x v fs)) (sym q.0) (r.0, rest, q.1, (r.2.0, r.2.1, r.2.2))

-- ---- one value, and one field

moved : (left : Bool) (new : Cursor) (ts mid : List Lexeme) → passed (turns.inside 0) ts ≡ passed (turns.inside 0) mid → Passed left new ts → Passed left new mid
moved left new ts mid e p = (p.0 ∙ ap (λ (q : Bool × List Lexeme). q.0) e, subst (λ (q : Bool × List Lexeme). Before new q.1) e p.1)

-- the lexer's text is the token's
text_same : (k : TokenKind) (x : List ℕ) → token_text (token_of k x) ≡ x
text_same Number x = refl
text_same Lower x = refl
text_same Upper x = refl
text_same Sign x = refl
text_same Unknown x = refl
text_same End x = refl

abbrev AllPass : Cursor → Bool → Cursor → Type 0
AllPass old left new = (ts : List Lexeme) → Before old ts → Passed left new ts

pub takes_value : (left : Bool) (old : Cursor) (vs : List Written) (at : Cursor) (new : ValuesAt) → left ≡ true → at ≡ old → AllPass old new.more new.lexer → Listed left old vs → TakesValue vs (Some at) new
takes_value left old [] at new e is p l = absurd (subst (λ b. Listed b old []) e l)
takes_value left old (v ∷ vs) at new e is p l =
    let s = subst (λ b. Listed b old (v ∷ vs)) e l in
    let passed = p s.0 s.2 in
    let same = value_passed v 0 s.0 s.3.0 s.3.1 in (
      subst (λ c. StandsAt c v) (sym is) (record { ts = s.0; rest = s.3.0; before = s.2; reads = s.3.1; ends = others_end vs s.3.0 s.1 s.3.2 }),
      listed_on vs new.more new.lexer s.3.0 s.1 s.3.2 (moved new.more new.lexer s.0 s.3.0 same passed),
    )

-- a name, its `=`, and the value
pub takes_field : (left : Bool) (old mid at : Cursor) (fs : Fields) (k l : TokenKind) (t u : Lexeme) (f : FieldAt) (new : FieldsAt) → left ≡ true → t.token ≡ token_of k f.name.now → Gives k old t mid → Gives l mid u at → f.value ≡ at → AllPass at new.more new.lexer
    → Named left old fs → TakesField fs (Some f) new
takes_field left old mid at end k l t u f new e is g h here p n = absurd (subst (λ b. Named b old end) e n)
takes_field left old mid at (field x v fs) k l t u f new e is g h here p n =
    let s = subst (λ b. Named b old (field x v fs)) e n in
    let q = s.3.1 in
    let name : Lexeme = record { token = lower x; place = q.1.0 } in
    let equals : Lexeme = record { token = sign (codes "="); place = q.2.1.0 } in
    let a = reads k old mid t name q.0 (subst (Before old) q.1.1 s.2) g in
    let b = reads l mid at u equals q.2.0 (subst (Before mid) q.2.1.1 a.1) h in
    let passed = p q.2.0 b.1 in (
      sym (text_same k f.name.now) ∙ ap token_text (sym is) ∙ ap (λ (y : Lexeme). token_text y.token) a.0,
      subst (λ c. StandsAt c v) (sym here) (record { ts = q.2.0; rest = s.3.0; before = b.1; reads = q.2.2; ends = fields_end fs s.3.0 s.1 s.3.2 }),
      named_on fs new.more new.lexer s.3.0 s.1 s.3.2 (moved new.more new.lexer q.2.0 s.3.0 (value_passed v 0 q.2.0 s.3.0 q.2.2) passed),
    )

-- the fields of a cell
pub cell_fields : (k : TokenKind) (old at : Cursor) (t : Lexeme) → Gives k old t at → (p : Place) (fs : Fields) → CellStands old (slots p fs) → Named true at fs
cell_fields k old at t g p fs c =
    let r = c.3 in
    let a = reads k old at t (record { token = sign (codes "{"); place = p }) r.0 (subst (Before old) r.1 c.2) g in
    fields_named fs at r.0 r.2.0 c.1 a.1 r.2.1 (codes "}", refl, r.2.2)
