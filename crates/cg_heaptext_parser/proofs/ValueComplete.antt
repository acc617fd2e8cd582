-- The machine reads each value, and the fields of each record and cell, that the tokens spell.
use Rattle.std.proofs.Common.{◌≡◌, ℕ, List, [], ◌∷◌, ◌++◌, refl, ap, sym, ◌∙◌, subst, append_assoc}
use Rattle.std.specs.Prelude.{codes, ⊤}
use Rattle.cg_base.specs.declared.place.Place.{Place}
use Rattle.cg_heaptext_def.specs.Grammar.{token, mark, IsName, IsPayload, ReadsValue, ReadsMore, ReadsFields, ReadsMoreFields}
use Rattle.cg_heaptext_def.specs.Tokens.{Lexeme, lower}
use Rattle.cg_heaptext_def.specs.Trees.{Written, numeral, truth, nothing, gone, address, constant, applied, inside, tuple, record', Writtens, none, more, Fields, end, field, slots, Heap, listed}
use Rattle.cg_heaptext_parser.specs.Machine.{Labelled, to_writtens, to_fields, Frame, payload, paren, unboxed, Begun, Base, in_cell, State, Between, CellName, CellEquals, Want, AfterParen, AfterConstructor, ValueSign, FieldName, FieldEquals, Have, with_entry, labelled, on_constructor, enclosed}
use Rattle.cg_heaptext_parser.specs.Symbols.{Digits, Named, Wild, Truth, Constructor, At, Equals, Comma, CloseBrace, OpenRecord, OpenParen, CloseParen}
use Rattle.cg_heaptext_parser.proofs.Steps.{Gives, move, payload_alike, payload_begins, payload_missing, paren_begins}

-- a value may stand as the payload of what waits for it, if anything does
abbrev pub Fits : List Frame → Written → Type 0
Fits (payload p x ∷ fs) v = IsPayload v
Fits fs v = ⊤

-- ---- fields

-- what has fields: a cell, or an unboxed record
pub data Holder : Type 0 where
  of_cell : Begun → Place → Holder
  of_record : Base → List Frame → Place → Holder

-- where it stands before a name, what is open round the value behind one, and where all fields lead
abbrev pub before_name : Holder → List Labelled → State
before_name (of_cell c q) ns = CellName c q ns
before_name (of_record b fs q) ns = FieldName b fs q ns

abbrev pub base_of : Holder → List Labelled → List ℕ → Base
base_of (of_cell c q) ns x = in_cell c q ns x
base_of (of_record b fs q) ns x = b

abbrev pub frames_of : Holder → List Labelled → List ℕ → List Frame
frames_of (of_cell c q) ns x = []
frames_of (of_record b fs q) ns x = unboxed q ns x ∷ fs

abbrev pub all_read : Holder → List Labelled → State
all_read (of_cell c q) ns = Between (with_entry c (slots q (to_fields ns)))
all_read (of_record b fs q) ns = Have b fs (record' q (to_fields ns))

-- each value fits as the value of a field
fits_in : (o : Holder) (ns : List Labelled) (x : List ℕ) (v : Written) → Fits (frames_of o ns x) v
fits_in (of_cell c q) ns x v = tt
fits_in (of_record b fs q) ns x v = tt

-- fields as a list
abbrev pub labels : Fields → List Labelled
labels end = []
labels (field x v fs) = record { name = x; value = v } ∷ labels fs

pub labels_back : (fs : Fields) → to_fields (labels fs) ≡ fs
labels_back end = refl
labels_back (field x v fs) = ap (field x v) (labels_back fs)

-- ---- parentheses

-- all values of a parenthesis, where these are read
abbrev whole : Place → List Written → Written → Writtens → Written
whole p us u none = enclosed p us u
whole p us u (more v vs) = whole p (us ++ u ∷ []) v vs

writtens_back : (vs : Writtens) → to_writtens (listed vs) ≡ vs
writtens_back none = refl
writtens_back (more v vs) = ap (more v) (writtens_back vs)

-- behind a first value, these are a tuple
whole_is : (vs : Writtens) (p : Place) (w : Written) (ws : List Written) (u : Written) → whole p (w ∷ ws) u vs ≡ tuple p (to_writtens (w ∷ (ws ++ u ∷ listed vs)))
whole_is none p w ws u = refl
whole_is (more v vs) p w ws u = whole_is vs p w (ws ++ u ∷ []) v ∙ ap (λ z. tuple p (to_writtens (w ∷ z))) (append_assoc ws (u ∷ []) (v ∷ listed vs))

-- ---- values

module _ (h : Heap) where
  -- a name and its `=`, and the sign behind a field's value
  name_read : (o : Holder) (ns : List Labelled) (x : List ℕ) → IsName x → (ts mid rest : List Lexeme) → token (lower x) ts mid → mark (codes "=") mid rest → Gives h (Want (base_of o ns x) (frames_of o ns x)) rest → Gives h (before_name o ns) ts
  name_read (of_cell c q) ns x n ts mid rest r e g = move h (Named x) n (CellName c q ns) r.0 ts mid r.1 (move h Equals tt (CellEquals c q ns x) e.0 mid rest e.1 g)
  name_read (of_record b fs q) ns x n ts mid rest r e g = move h (Named x) n (FieldName b fs q ns) r.0 ts mid r.1 (move h Equals tt (FieldEquals b fs q ns x) e.0 mid rest e.1 g)

  comma_read : (o : Holder) (ns : List Labelled) (x : List ℕ) (v : Written) (ts rest : List Lexeme) → mark (codes ",") ts rest → Gives h (before_name o (labelled ns x v)) rest → Gives h (Have (base_of o ns x) (frames_of o ns x) v) ts
  comma_read (of_cell c q) ns x v ts rest r g = move h Comma tt (Have (in_cell c q ns x) [] v) r.0 ts rest r.1 g
  comma_read (of_record b fs q) ns x v ts rest r g = move h Comma tt (Have b (unboxed q ns x ∷ fs) v) r.0 ts rest r.1 g

  end_read : (o : Holder) (ns : List Labelled) (x : List ℕ) (v : Written) (ts rest : List Lexeme) → mark (codes "}") ts rest → Gives h (all_read o (labelled ns x v)) rest → Gives h (Have (base_of o ns x) (frames_of o ns x) v) ts
  end_read (of_cell c q) ns x v ts rest r g = move h CloseBrace tt (Have (in_cell c q ns x) [] v) r.0 ts rest r.1 g
  end_read (of_record b fs q) ns x v ts rest r g = move h CloseBrace tt (Have b (unboxed q ns x ∷ fs) v) r.0 ts rest r.1 g

  -- a constructor, without a payload and with one
  constant_read : (b : Base) (fs : List Frame) (p : Place) (x : List ℕ) (ts : List Lexeme) → Gives h (Have b fs (constant p x)) ts → Gives h (on_constructor b fs p x) ts
  constant_read b (payload q y ∷ fs) p x ts g = g
  constant_read b [] p x ts g = payload_missing h b [] p x ts g
  constant_read b (paren q vs ∷ fs) p x ts g = payload_missing h b (paren q vs ∷ fs) p x ts g
  constant_read b (unboxed q ns y ∷ fs) p x ts g = payload_missing h b (unboxed q ns y ∷ fs) p x ts g

  applied_read : (b : Base) (fs : List Frame) (p : Place) (x : List ℕ) (v : Written) → Fits fs (applied p x v) → (ts : List Lexeme) → Gives h (AfterConstructor b fs p x) ts → Gives h (on_constructor b fs p x) ts
  applied_read b (payload q y ∷ fs) p x v f ts g = absurd f
  applied_read b [] p x v f ts g = g
  applied_read b (paren q vs ∷ fs) p x v f ts g = g
  applied_read b (unboxed q ns y ∷ fs) p x v f ts g = g

  mutual
    -- a value that is spelled is read
    pub value_read : (v : Written) (b : Base) (fs : List Frame) → Fits fs v → (ts rest : List Lexeme) → ReadsValue v ts rest → Gives h (Have b fs v) rest → Gives h (Want b fs) ts
    value_read (numeral n) b fs f ts rest r g = move h (Digits n.digits) tt (Want b fs) n.place ts rest r g
    value_read (truth p t) b fs f ts rest r g = move h (Truth t) tt (Want b fs) p ts rest r g
    value_read (nothing p) b fs f ts rest r g = let c = r.2 in move h OpenParen tt (Want b fs) p ts r.0 r.1 (move h CloseParen tt (AfterParen b fs p) c.0 r.0 rest c.1 g)
    value_read (gone p) b fs f ts rest r g = move h Wild tt (Want b fs) p ts rest r g
    value_read (address p n) b fs f ts rest r g = move h At tt (Want b fs) p ts r.0 r.1 (move h (Digits n.digits) tt (ValueSign b fs p) n.place r.0 rest r.2 g)
    value_read (constant p x) b fs f ts rest r g = move h (Constructor x) r.0 (Want b fs) p ts rest r.1 (constant_read b fs p x rest g)
    value_read (applied p x v) b fs f ts rest r g =
        let a = r.2 in
        move h (Constructor x) r.0 (Want b fs) p ts a.0 a.1
        (applied_read b fs p x v f a.0
        (payload_begins h b fs p x a.0
        (value_read v b (payload p x ∷ fs) r.1 a.0 rest a.2 (payload_alike b fs p x v rest ∙ g))))
    value_read (inside p v) b fs f ts rest r g =
        let a = r.2 in let c = a.2 in
        move h OpenParen tt (Want b fs) p ts r.0 r.1
        (paren_begins h b fs p r.0
        (value_read v b (paren p [] ∷ fs) tt r.0 a.0 a.1
        (move h CloseParen tt (Have b (paren p [] ∷ fs) v) c.0 a.0 rest c.1 g)))
    value_read (tuple p none) b fs f ts rest r g = absurd r.2.1
    value_read (tuple p (more v none)) b fs f ts rest r g = absurd r.2.1
    value_read (tuple p (more v (more w vs))) b fs f ts rest r g =
        let a = r.2 in let two = a.1 in
        let same : whole p [] v (more w vs) ≡ tuple p (more v (more w vs)) = whole_is vs p v [] w ∙ ap (λ z. tuple p (more v (more w z))) (writtens_back vs) in
        let Q : Written → Type 0 = λ z. Gives h (Have b fs z) rest in
        move h OpenParen tt (Want b fs) p ts r.0 r.1
        (paren_begins h b fs p r.0
        (value_read v b (paren p [] ∷ fs) tt r.0 two.0 two.1
        (more_read (more w vs) b fs p [] v two.0 a.0 rest two.2 a.2 (subst Q (sym same) g))))
    value_read (record' p ns) b fs f ts rest r g =
        let a = r.2 in
        let Q : Fields → Type 0 = λ z. Gives h (Have b fs (record' p z)) rest in
        move h OpenRecord tt (Want b fs) p ts r.0 r.1
        (fields_read ns (of_record b fs p) [] r.0 a.0 rest a.1 a.2 (subst Q (sym (labels_back ns)) g))

    -- further values of a parenthesis
    more_read : (vs : Writtens) (b : Base) (fs : List Frame) (p : Place) (us : List Written) (u : Written) (ts mid rest : List Lexeme) → ReadsMore vs ts mid → mark (codes ")") mid rest → Gives h (Have b fs (whole p us u vs)) rest → Gives h (Have b (paren p us ∷ fs) u) ts
    more_read none b fs p us u ts mid rest r e g =
        let Q : List Lexeme → Type 0 = λ z. Gives h (Have b (paren p us ∷ fs) u) z in
        subst Q (sym r) (move h CloseParen tt (Have b (paren p us ∷ fs) u) e.0 mid rest e.1 g)
    more_read (more v vs) b fs p us u ts mid rest r e g =
        let c = r.1 in let a = r.2 in
        move h Comma tt (Have b (paren p us ∷ fs) u) c.0 ts r.0 c.1
        (value_read v b (paren p (us ++ u ∷ []) ∷ fs) tt r.0 a.0 a.1
        (more_read vs b fs p (us ++ u ∷ []) v a.0 mid rest a.2 e g))

    -- fields that are spelled are read
    pub fields_read : (fs : Fields) (o : Holder) (ns : List Labelled) (ts mid rest : List Lexeme) → ReadsFields fs ts mid → mark (codes "}") mid rest → Gives h (all_read o (ns ++ labels fs)) rest → Gives h (before_name o ns) ts
    fields_read end o ns ts mid rest r e g = absurd r
    fields_read (field x v fs) o ns ts mid rest r e g =
        let a = r.1 in let d = a.2 in let k = d.2 in
        name_read o ns x r.0 ts a.0 d.0 a.1 d.1
        (value_read v (base_of o ns x) (frames_of o ns x) (fits_in o ns x v) d.0 k.0 k.1
        (more_fields_read fs o ns x v k.0 mid rest k.2 e g))

    -- further fields, behind one whose value is read
    more_fields_read : (fs : Fields) (o : Holder) (ns : List Labelled) (x : List ℕ) (v : Written) (ts mid rest : List Lexeme) → ReadsMoreFields fs ts mid → mark (codes "}") mid rest → Gives h (all_read o (ns ++ record { name = x; value = v } ∷ labels fs)) rest → Gives h (Have (base_of o ns x) (frames_of o ns x) v) ts
    more_fields_read end o ns x v ts mid rest r e g =
        let Q : List Lexeme → Type 0 = λ z. Gives h (Have (base_of o ns x) (frames_of o ns x) v) z in
        subst Q (sym r) (end_read o ns x v mid rest e g)
    more_fields_read (field y w fs) o ns x v ts mid rest r e g =
        let a = r.1 in let d = a.2 in let i = d.2 in let k = i.2 in
        let us = labelled ns x v in
        let Q : List Labelled → Type 0 = λ z. Gives h (all_read o z) rest in
        comma_read o ns x v ts a.0 a.1
        (name_read o us y r.0 a.0 d.0 i.0 d.1 i.1
        (value_read w (base_of o us y) (frames_of o us y) (fits_in o us y w) i.0 k.0 k.1
        (more_fields_read fs o us y w k.0 mid rest k.2 e (subst Q (sym (append_assoc ns (record { name = x; value = v } ∷ []) (record { name = y; value = w } ∷ labels fs))) g))))
