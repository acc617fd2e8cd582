-- What the machine has read to its end is spelled.
use Rattle.std.proofs.Common.{◌≡◌, ℕ, List, [], ◌∷◌, ◌++◌, refl, ap, ◌∙◌, subst, Bool, true, false, cond, Option, Some, None}
use Rattle.std.specs.Prelude.{codes, ⊤}
use Rattle.std.specs.Str.{bytes_eq}
use Rattle.std.proofs.lemmas.Slice.Eq.{bytes_eq-Decides}
use Rattle.cg_base.proofs.Spans.{either_way}
use Rattle.cg_base.specs.declared.place.Place.{Place}
use Rattle.cg_heaptext_def.specs.Grammar.{◌then◌, ReadsNumeral, ReadsValue, ReadsBit, ReadsEntries, SpellsTokens, bit_text}
use Rattle.cg_heaptext_def.specs.Tokens.{Lexeme, number, lower}
use Rattle.cg_heaptext_def.specs.Trees.{Numeral, Written, constant, address, elements, answers, Entry, Heap}
use Rattle.cg_heaptext_parser.specs.Machine.{Frame, Begun, Base, in_argument, Item, Fresh, Again, Behind, State, Between, AfterSign, AfterAddress, BeforeCell, CellName, CellEquals, Elements, Answered, ArgumentEquals, Want, AfterParen, AfterConstructor, ValueSign, FieldName, FieldEquals, Have, Failed, closed, on_between, on_cell, on_elements, on_answer, on_answers, on_symbol, step, concluded, finish}
use Rattle.cg_heaptext_parser.specs.Symbols.{Symbol, Digits, Named, At, Equals, Comma, OpenBrace, OpenBracket, CloseBracket, OpenAngle, CloseAngle, symbol_of}
use Rattle.cg_heaptext_parser.proofs.Known.{Means, means, seen, seen_at}
use Rattle.cg_heaptext_parser.proofs.Spelled.{first_item, next_item, no_items, some_items, BegunRead, FramesRead, StateRead, entry_done}
use Rattle.cg_heaptext_parser.proofs.Steps.{run}
use Rattle.cg_heaptext_parser.proofs.ValueSound.{payload_fits, closed_holds, value_holds, paren_holds, have_holds, constant_read, after_constructor_holds}

module _ (t : Lexeme) (rest all : List Lexeme) where
  -- ---- entries and cells

  between_holds : (y : Symbol) (es : List Entry) → Means t.token y → ReadsEntries es all (t ∷ rest) → StateRead (on_between es t.place y) all rest
  between_holds At es h r = (t ∷ rest, r, seen_at _ t rest h.1)
  between_holds (Named x) es h r =
      either_way (λ s. StateRead s all rest) (bytes_eq x (codes "arg")) (ArgumentEquals es) Failed
      (λ e. (t ∷ rest, r, seen _ t rest (h.1 ∙ ap lower ((bytes_eq-Decides x (codes "arg")).0 e))))
      (λ e. tt)
  between_holds _ es h r = tt

  cell_holds : (c : Begun) (y : Symbol) → Means t.token y → BegunRead c all (t ∷ rest) → StateRead (on_cell c t.place y) all rest
  cell_holds c OpenBrace h r = (rest, (t ∷ rest, r, seen_at _ t rest h.1), refl)
  cell_holds c OpenBracket h r = (t ∷ rest, r, (rest, seen_at _ t rest h.1, (refl, refl)))
  cell_holds c OpenAngle h r = (t ∷ rest, r, (rest, seen_at _ t rest h.1, (refl, refl)))
  cell_holds c _ h r = tt

  -- ---- numbers in brackets

  module _ (c : Begun) (q : Place) (ns : List Numeral) where
    abbrev InElements : Item → Type 0
    InElements i = StateRead (Elements c q ns i) all (t ∷ rest)

    fresh_element : (y : Symbol) → Means t.token y → InElements Fresh → StateRead (on_elements c q ns Fresh t.place y) all rest
    fresh_element CloseBracket h r =
        let a = r.2 in
        entry_done c (elements q ns) all r.0 rest r.1 (a.0, a.1, (t ∷ rest, no_items ReadsNumeral ns a.0 (t ∷ rest) a.2, seen _ t rest h.1))
    fresh_element (Digits ds) h r =
        let a = r.2 in
        (r.0, r.1, (a.0, a.1, first_item ReadsNumeral ns (record { place = t.place; digits = ds }) a.0 (t ∷ rest) rest a.2 (seen_at _ t rest h.1)))
    fresh_element _ h r = tt

    again_element : (y : Symbol) → Means t.token y → InElements Again → StateRead (on_elements c q ns Again t.place y) all rest
    again_element (Digits ds) h r =
        let a = r.2 in
        (r.0, r.1, (a.0, a.1, next_item ReadsNumeral ns (record { place = t.place; digits = ds }) a.0 (t ∷ rest) rest a.2 (seen_at _ t rest h.1)))
    again_element _ h r = tt

    behind_element : (y : Symbol) → Means t.token y → InElements Behind → StateRead (on_elements c q ns Behind t.place y) all rest
    behind_element Comma h r = let a = r.2 in (r.0, r.1, (a.0, a.1, (t ∷ rest, a.2, seen _ t rest h.1)))
    behind_element CloseBracket h r =
        let a = r.2 in
        entry_done c (elements q ns) all r.0 rest r.1 (a.0, a.1, (t ∷ rest, some_items ReadsNumeral ns a.0 (t ∷ rest) a.2, seen _ t rest h.1))
    behind_element _ h r = tt

    elements_holds : (i : Item) (y : Symbol) → Means t.token y → InElements i → StateRead (on_elements c q ns i t.place y) all rest
    elements_holds Fresh y h r = fresh_element y h r
    elements_holds Again y h r = again_element y h r
    elements_holds Behind y h r = behind_element y h r

  -- ---- answers in angles

  module _ (c : Begun) (q : Place) (bs : List Bool) where
    abbrev InAnswers : Item → Type 0
    InAnswers i = StateRead (Answered c q bs i) all (t ∷ rest)

    -- a number that is an answer
    answer_holds : (ds : List ℕ) → Means t.token (Digits ds) → ((b : Bool) → ReadsBit b (t ∷ rest) rest → StateRead (Answered c q (bs ++ b ∷ []) Behind) all rest) → StateRead (on_answer c q bs ds) all rest
    answer_holds ds h grown =
        let Q : State → Type 0 = λ s. StateRead s all rest in
        let yes = bytes_eq ds (bit_text true) in let no = bytes_eq ds (bit_text false) in
        either_way Q yes (Answered c q (bs ++ true ∷ []) Behind) (cond no (Answered c q (bs ++ false ∷ []) Behind) Failed)
        (λ e. grown true (seen _ t rest (h.1 ∙ ap number ((bytes_eq-Decides ds (bit_text true)).0 e))))
        (λ n. either_way Q no (Answered c q (bs ++ false ∷ []) Behind) Failed
        (λ e. grown false (seen _ t rest (h.1 ∙ ap number ((bytes_eq-Decides ds (bit_text false)).0 e))))
        (λ m. tt))

    fresh_answer : (y : Symbol) → Means t.token y → InAnswers Fresh → StateRead (on_answers c q bs Fresh y) all rest
    fresh_answer CloseAngle h r =
        let a = r.2 in
        entry_done c (answers q bs) all r.0 rest r.1 (a.0, a.1, (t ∷ rest, no_items ReadsBit bs a.0 (t ∷ rest) a.2, seen _ t rest h.1))
    fresh_answer (Digits ds) h r = let a = r.2 in answer_holds ds h (λ b s. (r.0, r.1, (a.0, a.1, first_item ReadsBit bs b a.0 (t ∷ rest) rest a.2 s)))
    fresh_answer _ h r = tt

    again_answer : (y : Symbol) → Means t.token y → InAnswers Again → StateRead (on_answers c q bs Again y) all rest
    again_answer (Digits ds) h r = let a = r.2 in answer_holds ds h (λ b s. (r.0, r.1, (a.0, a.1, next_item ReadsBit bs b a.0 (t ∷ rest) rest a.2 s)))
    again_answer _ h r = tt

    behind_answer : (y : Symbol) → Means t.token y → InAnswers Behind → StateRead (on_answers c q bs Behind y) all rest
    behind_answer Comma h r = let a = r.2 in (r.0, r.1, (a.0, a.1, (t ∷ rest, a.2, seen _ t rest h.1)))
    behind_answer CloseAngle h r =
        let a = r.2 in
        entry_done c (answers q bs) all r.0 rest r.1 (a.0, a.1, (t ∷ rest, some_items ReadsBit bs a.0 (t ∷ rest) a.2, seen _ t rest h.1))
    behind_answer _ h r = tt

    answers_holds : (i : Item) (y : Symbol) → Means t.token y → InAnswers i → StateRead (on_answers c q bs i y) all rest
    answers_holds Fresh y h r = fresh_answer y h r
    answers_holds Again y h r = again_answer y h r
    answers_holds Behind y h r = behind_answer y h r

  -- ---- one token

  symbol_holds : (s : State) (y : Symbol) → Means t.token y → StateRead s all (t ∷ rest) → StateRead (on_symbol s t.place y) all rest
  symbol_holds (Between es) y h r = between_holds y es h r
  symbol_holds (AfterSign es q) (Digits ds) h r = (r.0, r.1, (t ∷ rest, r.2, seen_at _ t rest h.1))
  symbol_holds (AfterAddress c) Equals h r = let a = r.2 in (r.0, r.1, (a.0, a.1, (t ∷ rest, a.2, seen _ t rest h.1)))
  symbol_holds (BeforeCell c) y h r = cell_holds c y h r
  symbol_holds (CellName c q ns) (Named x) h r = (t ∷ rest, r, (h.0, seen _ t rest h.1))
  symbol_holds (CellEquals c q ns x) Equals h r = (r.0, r.1, (t ∷ rest, r.2, seen _ t rest h.1))
  symbol_holds (Elements c q ns i) y h r = elements_holds c q ns i y h r
  symbol_holds (Answered c q bs i) y h r = answers_holds c q bs i y h r
  symbol_holds (ArgumentEquals es) Equals h r = (t ∷ rest, r, seen _ t rest h.1)
  symbol_holds (Want b fs) y h r = value_holds t rest all b fs y h r
  symbol_holds (AfterParen b fs q) y h r = paren_holds t rest all b fs q y h r
  symbol_holds (AfterConstructor b fs q x) y h r = after_constructor_holds t rest all b fs q x y h r
  symbol_holds (ValueSign b fs q) (Digits ds) h r = (payload_fits fs (address q (record { place = t.place; digits = ds })) tt, (r.0, r.1, (t ∷ rest, r.2, seen_at _ t rest h.1)))
  symbol_holds (FieldName b fs q ns) (Named x) h r = (t ∷ rest, r, (h.0, seen _ t rest h.1))
  symbol_holds (FieldEquals b fs q ns x) Equals h r = (r.0, r.1, (t ∷ rest, r.2, seen _ t rest h.1))
  symbol_holds (Have b fs v) y h r = have_holds t rest all b fs v y h r
  symbol_holds _ _ h r = tt

-- all tokens
run_holds : (s : State) (all ts : List Lexeme) → StateRead s all ts → StateRead (run s ts) all []
run_holds s all [] r = r
run_holds s all (t ∷ ts) r = run_holds (step s t) all ts (symbol_holds t ts all s (symbol_of t.token) (means t.token) r)

-- ---- the end

-- what is spelled where a file ends
abbrev Ended : List Lexeme → Option Heap → Type 0
Ended ts None = ⊤
Ended ts (Some h) = SpellsTokens ts h

concluded_holds : (b : Base) (fs : List Frame) (v : Written) (ts : List Lexeme) → (FramesRead b fs then ReadsValue v) ts [] → Ended ts (concluded b fs v)
concluded_holds (in_argument es) [] v ts r = let a = r.1 in let d = a.1 in (d.0, d.1, (a.0, d.2, (r.0, a.2, r.2)))
concluded_holds b _ v ts r = tt

ended_holds : (b : Base) (fs : List Frame) (v : Written) (ts : List Lexeme) → StateRead (Have b fs v) ts [] → Ended ts (finish (Have b fs v))
ended_holds b fs v ts r = concluded_holds b (closed fs v).0 (closed fs v).1 ts (closed_holds b fs v ts [] r.0 r.1)

finished : (s : State) (ts : List Lexeme) → StateRead s ts [] → Ended ts (finish s)
finished (Have b fs v) ts r = ended_holds b fs v ts r
finished (AfterConstructor b fs q x) ts r = ended_holds b fs (constant q x) ts (constant_read b fs q x ts [] r)
finished _ ts r = tt

-- what is read to its end is spelled
pub sound : (ts : List Lexeme) (h : Heap) → finish (run (Between []) ts) ≡ Some h → SpellsTokens ts h
sound ts h e = let P : Option Heap → Type 0 = λ o. Ended ts o in subst P e (finished (run (Between []) ts) ts (run_holds (Between []) ts ts refl))
