-- The machine reads each heap file that the tokens spell.
use Rattle.std.proofs.Common.{◌≡◌, List, [], ◌∷◌, ◌++◌, refl, ap, sym, ◌∙◌, subst, append_assoc, Bool, true, false, Some}
use Rattle.std.specs.Prelude.{codes, ⊤}
use Rattle.std.proofs.lemmas.List.{append-nil}
use Rattle.cg_base.specs.declared.place.Place.{Place}
use Rattle.cg_heaptext_def.specs.Grammar.{Reading, mark, ReadsNumeral, ReadsRest, ReadsAny, ReadsBit, ReadsCell, ReadsEntry, ReadsEntries, SpellsTokens, bit_text}
use Rattle.cg_heaptext_def.specs.Tokens.{Lexeme}
use Rattle.cg_heaptext_def.specs.Trees.{Numeral, Fields, Cell, slots, elements, answers, Entry, Heap}
use Rattle.cg_heaptext_parser.specs.Machine.{Begun, in_argument, State, Item, Fresh, Again, Behind, Between, AfterSign, AfterAddress, BeforeCell, Elements, Answered, ArgumentEquals, with_entry, on_answer, finish}
use Rattle.cg_heaptext_parser.specs.Symbols.{Digits, Named, At, Equals, Comma, OpenBrace, OpenBracket, CloseBracket, OpenAngle, CloseAngle}
use Rattle.cg_heaptext_parser.proofs.Steps.{run, Gives, move}
use Rattle.cg_heaptext_parser.proofs.ValueComplete.{of_cell, labels_back, value_read, fields_read}

-- a list may end there
abbrev MayEnd : Item → Type 0
MayEnd Again = ⊥
MayEnd i = ⊤

module _ (h : Heap) where
  -- ---- lists of numbers and of answers

  module _ {A : Type 0} (reads : A → Reading) (at : List A → Item → State)
      (fresh : (x : A) (ts rest : List Lexeme) → reads x ts rest → Gives h (at (x ∷ []) Behind) rest → Gives h (at [] Fresh) ts)
      (again : (xs : List A) (x : A) (ts rest : List Lexeme) → reads x ts rest → Gives h (at (xs ++ x ∷ []) Behind) rest → Gives h (at xs Again) ts)
      (comma : (xs : List A) (ts rest : List Lexeme) → mark (codes ",") ts rest → Gives h (at xs Again) rest → Gives h (at xs Behind) ts) where
    -- things behind one that is read, each behind a comma
    rest_read : (xs before : List A) (ts rest : List Lexeme) → ReadsRest reads xs ts rest → Gives h (at (before ++ xs) Behind) rest → Gives h (at before Behind) ts
    rest_read [] before ts rest r g =
        let Q : List Lexeme → Type 0 = λ z. Gives h (at before Behind) z in
        let S : List A → Type 0 = λ z. Gives h (at z Behind) rest in
        subst Q (sym r) (subst S (append-nil before) g)
    rest_read (x ∷ xs) before ts rest r g =
        let a = r.2 in
        let S : List A → Type 0 = λ z. Gives h (at z Behind) rest in
        comma before ts r.0 r.1
        (again before x r.0 a.0 a.1
        (rest_read xs (before ++ x ∷ []) a.0 rest a.2 (subst S (sym (append_assoc before (x ∷ []) xs)) g)))

    -- a whole list
    any_read : (xs : List A) (ts rest : List Lexeme) → ReadsAny reads xs ts rest → ((i : Item) → MayEnd i → Gives h (at xs i) rest) → Gives h (at [] Fresh) ts
    any_read [] ts rest r g = let Q : List Lexeme → Type 0 = λ z. Gives h (at [] Fresh) z in subst Q (sym r) (g Fresh tt)
    any_read (x ∷ xs) ts rest r g = fresh x ts r.0 r.1 (rest_read xs (x ∷ []) r.0 rest r.2 (g Behind tt))

  -- ---- cells

  module _ (c : Begun) (q : Place) where
    elements_end : (ns : List Numeral) (ts rest : List Lexeme) → mark (codes "]") ts rest → Gives h (Between (with_entry c (elements q ns))) rest → (i : Item) → MayEnd i → Gives h (Elements c q ns i) ts
    elements_end ns ts rest r g Fresh e = move h CloseBracket tt (Elements c q ns Fresh) r.0 ts rest r.1 g
    elements_end ns ts rest r g Again e = absurd e
    elements_end ns ts rest r g Behind e = move h CloseBracket tt (Elements c q ns Behind) r.0 ts rest r.1 g

    elements_read : (ns : List Numeral) (ts mid rest : List Lexeme) → ReadsAny ReadsNumeral ns ts mid → mark (codes "]") mid rest → Gives h (Between (with_entry c (elements q ns))) rest → Gives h (Elements c q [] Fresh) ts
    elements_read ns ts mid rest r e g =
        any_read ReadsNumeral (Elements c q)
        (λ n us more s k. move h (Digits n.digits) tt (Elements c q [] Fresh) n.place us more s k)
        (λ xs n us more s k. move h (Digits n.digits) tt (Elements c q xs Again) n.place us more s k)
        (λ xs us more s k. move h Comma tt (Elements c q xs Behind) s.0 us more s.1 k)
        ns ts mid r (elements_end ns mid rest e g)

    answers_end : (bs : List Bool) (ts rest : List Lexeme) → mark (codes ">") ts rest → Gives h (Between (with_entry c (answers q bs))) rest → (i : Item) → MayEnd i → Gives h (Answered c q bs i) ts
    answers_end bs ts rest r g Fresh e = move h CloseAngle tt (Answered c q bs Fresh) r.0 ts rest r.1 g
    answers_end bs ts rest r g Again e = absurd e
    answers_end bs ts rest r g Behind e = move h CloseAngle tt (Answered c q bs Behind) r.0 ts rest r.1 g

    -- the digits of an answer are read as that answer
    answer_read : (bs : List Bool) (b : Bool) → on_answer c q bs (bit_text b) ≡ Answered c q (bs ++ b ∷ []) Behind
    answer_read bs true = refl
    answer_read bs false = refl

    answers_read : (bs : List Bool) (ts mid rest : List Lexeme) → ReadsAny ReadsBit bs ts mid → mark (codes ">") mid rest → Gives h (Between (with_entry c (answers q bs))) rest → Gives h (Answered c q [] Fresh) ts
    answers_read bs ts mid rest r e g =
        any_read ReadsBit (Answered c q)
        (λ b us more s k. move h (Digits (bit_text b)) tt (Answered c q [] Fresh) s.0 us more s.1 (ap (λ z. finish (run z more)) (answer_read [] b) ∙ k))
        (λ xs b us more s k. move h (Digits (bit_text b)) tt (Answered c q xs Again) s.0 us more s.1 (ap (λ z. finish (run z more)) (answer_read xs b) ∙ k))
        (λ xs us more s k. move h Comma tt (Answered c q xs Behind) s.0 us more s.1 k)
        bs ts mid r (answers_end bs mid rest e g)

  cell_read : (cell : Cell) (c : Begun) (ts rest : List Lexeme) → ReadsCell cell ts rest → Gives h (Between (with_entry c cell)) rest → Gives h (BeforeCell c) ts
  cell_read (slots q fs) c ts rest r g =
      let a = r.2 in
      let Q : Fields → Type 0 = λ z. Gives h (Between (with_entry c (slots q z))) rest in
      move h OpenBrace tt (BeforeCell c) q ts r.0 r.1
      (fields_read h fs (of_cell c q) [] r.0 a.0 rest a.1 a.2 (subst Q (sym (labels_back fs)) g))
  cell_read (elements q ns) c ts rest r g =
      let a = r.2 in
      move h OpenBracket tt (BeforeCell c) q ts r.0 r.1 (elements_read c q ns r.0 a.0 rest a.1 a.2 g)
  cell_read (answers q bs) c ts rest r g =
      let a = r.2 in
      move h OpenAngle tt (BeforeCell c) q ts r.0 r.1 (answers_read c q bs r.0 a.0 rest a.1 a.2 g)

  -- ---- entries

  entry_read : (e : Entry) (es : List Entry) (ts rest : List Lexeme) → ReadsEntry e ts rest → Gives h (Between (es ++ e ∷ [])) rest → Gives h (Between es) ts
  entry_read e es ts rest r g =
      let a = r.2 in let d = a.2 in let m = d.1 in
      let c : Begun = record { before = es; place = e.place; address = e.address } in
      move h At tt (Between es) e.place ts r.0 r.1
      (move h (Digits e.address.digits) tt (AfterSign es e.place) e.address.place r.0 a.0 a.1
      (move h Equals tt (AfterAddress c) m.0 a.0 d.0 m.1 (cell_read e.cell c d.0 rest d.2 g)))

  entries_read : (es before : List Entry) (ts rest : List Lexeme) → ReadsEntries es ts rest → Gives h (Between (before ++ es)) rest → Gives h (Between before) ts
  entries_read [] before ts rest r g =
      let Q : List Lexeme → Type 0 = λ z. Gives h (Between before) z in
      let S : List Entry → Type 0 = λ z. Gives h (Between z) rest in
      subst Q (sym r) (subst S (append-nil before) g)
  entries_read (e ∷ es) before ts rest r g =
      let S : List Entry → Type 0 = λ z. Gives h (Between z) rest in
      entry_read e before ts r.0 r.1 (entries_read es (before ++ e ∷ []) r.0 rest r.2 (subst S (sym (append_assoc before (e ∷ []) es)) g))

-- each heap file that the tokens spell is read
pub complete : (ts : List Lexeme) (h : Heap) → SpellsTokens ts h → finish (run (Between []) ts) ≡ Some h
complete ts h r =
    let a = r.2 in let w = a.1 in let d = a.2 in let e = d.1 in
    entries_read h h.entries [] ts r.0 r.1
    (move h (Named (codes "arg")) refl (Between h.entries) w.0 r.0 a.0 w.1
    (move h Equals tt (ArgumentEquals h.entries) e.0 a.0 d.0 e.1
    (value_read h h.argument (in_argument h.entries) [] tt d.0 [] d.2 refl)))
