-- What a state has read of a heap file, and how lists grow at their ends.
use Rattle.std.proofs.Common.{◌≡◌, ℕ, List, [], ◌∷◌, ◌++◌, refl, sym, subst}
use Rattle.std.specs.Prelude.{codes, ⊤}
use Rattle.cg_base.specs.declared.place.Place.{Place}
use Rattle.cg_heaptext_def.specs.Grammar.{Reading, ◌then◌, token_at, token, sign_at, mark, IsName, IsConstructor, ReadsNumeral, ReadsValue, ReadsTwo, ReadsMore, ReadsFields, ReadsMoreFields, ReadsRest, ReadsAny, ReadsBit, ReadsCell, ReadsEntry, ReadsEntries}
use Rattle.cg_heaptext_def.specs.Tokens.{Lexeme, lower, upper}
use Rattle.cg_heaptext_def.specs.Trees.{Written, Fields, end, field, Cell, Entry}
use Rattle.cg_heaptext_parser.specs.Machine.{Labelled, to_writtens, to_fields, Frame, payload, paren, unboxed, Begun, Base, in_cell, in_argument, Item, Fresh, Again, Behind, State, Between, AfterSign, AfterAddress, BeforeCell, CellName, CellEquals, Elements, Answered, ArgumentEquals, Want, AfterParen, AfterConstructor, ValueSign, FieldName, FieldEquals, Have, Failed, with_entry}
use Rattle.cg_heaptext_parser.proofs.ValueComplete.{Fits}

-- ---- lists

-- what is read from equal tokens on
pub front : (R : Reading) (ts mid rest : List Lexeme) → ts ≡ mid → R mid rest → R ts rest
front R ts mid rest e r = let P : List Lexeme → Type 0 = λ z. R z rest in subst P (sym e) r

module _ {A : Type 0} (reads : A → Reading) where
  -- things, with a comma behind each
  abbrev pub Lead : List A → Reading
  Lead [] ts rest = ts ≡ rest
  Lead (x ∷ xs) ts rest = ((reads x then mark (codes ",")) then Lead xs) ts rest

  -- one thing more, with its comma
  pub lead_behind : (xs : List A) (x : A) (ts mid rest : List Lexeme) → Lead xs ts mid → (reads x then mark (codes ",")) mid rest → Lead (xs ++ x ∷ []) ts rest
  lead_behind [] x ts mid rest l r = (rest, front (reads x then mark (codes ",")) ts mid rest l r, refl)
  lead_behind (y ∷ xs) x ts mid rest l r = (l.0, l.1, lead_behind xs x l.0 mid rest l.2 r)

  -- one thing or more, with commas between
  abbrev pub Several : List A → Reading
  Several [] ts rest = ⊥
  Several (x ∷ xs) ts rest = (reads x then ReadsRest reads xs) ts rest

  -- one thing more, behind a comma
  rest_behind : (xs : List A) (x : A) (ts mid rest : List Lexeme) → ReadsRest reads xs ts mid → (mark (codes ",") then reads x) mid rest → ReadsRest reads (xs ++ x ∷ []) ts rest
  rest_behind [] x ts mid rest l r = front (mark (codes ",") then reads x then ReadsRest reads []) ts mid rest l (r.0, r.1, (rest, r.2, refl))
  rest_behind (y ∷ xs) x ts mid rest l r = let a = l.2 in (l.0, l.1, (a.0, a.1, rest_behind xs x a.0 mid rest a.2 r))

  -- where in a list the machine stands
  abbrev pub ItemsRead : List A → Item → Reading
  ItemsRead xs Fresh ts rest = (xs ≡ []) × (ts ≡ rest)
  ItemsRead xs Again ts rest = (Several xs then mark (codes ",")) ts rest
  ItemsRead xs Behind ts rest = Several xs ts rest

  -- one thing more, at the beginning and behind a comma
  pub first_item : (xs : List A) (x : A) (ts mid rest : List Lexeme) → ItemsRead xs Fresh ts mid → reads x mid rest → Several (xs ++ x ∷ []) ts rest
  first_item xs x ts mid rest l r =
      let P : List A → Type 0 = λ z. Several (z ++ x ∷ []) ts rest in
      subst P (sym l.0) (rest, front (reads x) ts mid rest l.1 r, refl)

  pub next_item : (xs : List A) (x : A) (ts mid rest : List Lexeme) → ItemsRead xs Again ts mid → reads x mid rest → Several (xs ++ x ∷ []) ts rest
  next_item [] x ts mid rest l r = absurd l.1
  next_item (y ∷ xs) x ts mid rest l r = let a = l.1 in (a.0, a.1, rest_behind xs x a.0 l.0 rest a.2 (mid, l.2, r))

  -- a list that may end, with nothing in it and with something
  pub no_items : (xs : List A) (ts rest : List Lexeme) → ItemsRead xs Fresh ts rest → ReadsAny reads xs ts rest
  no_items xs ts rest l = let P : List A → Type 0 = λ z. ReadsAny reads z ts rest in subst P (sym l.0) l.1

  pub some_items : (xs : List A) (ts rest : List Lexeme) → Several xs ts rest → ReadsAny reads xs ts rest
  some_items [] ts rest l = absurd l
  some_items (x ∷ xs) ts rest l = l

-- ---- what is read

-- a field, and what stands before its value
abbrev pub ReadsLabelled : Labelled → Reading
ReadsLabelled f ts rest = IsName f.name × (token (lower f.name) then mark (codes "=") then ReadsValue f.value) ts rest

abbrev pub NameRead : List ℕ → Reading
NameRead x ts rest = IsName x × token (lower x) ts rest

abbrev pub LabelRead : List ℕ → Reading
LabelRead x = NameRead x then mark (codes "=")

-- an entry up to its cell, and a cell up to a name
abbrev pub BegunRead : Begun → Reading
BegunRead c = ReadsEntries c.before then sign_at c.place (codes "@") then ReadsNumeral c.address then mark (codes "=")

abbrev pub CellRead : Begun → Place → List Labelled → Reading
CellRead c q ns = (BegunRead c then sign_at q (codes "{")) then Lead ReadsLabelled ns

-- the argument, up to its value
abbrev pub ArgumentRead : List Entry → Reading
ArgumentRead es = (ReadsEntries es then token (lower (codes "arg"))) then mark (codes "=")

abbrev pub BaseRead : Base → Reading
BaseRead (in_cell c q ns x) = CellRead c q ns then LabelRead x
BaseRead (in_argument es) = ArgumentRead es

-- no constructor waits for a payload
abbrev pub IsBare : List Frame → Type 0
IsBare (payload p x ∷ fs) = ⊥
IsBare fs = ⊤

-- what is open round a value, up to it
abbrev pub FramesRead : Base → List Frame → Reading
FramesRead b [] ts rest = BaseRead b ts rest
FramesRead b (payload p x ∷ fs) ts rest = IsConstructor x × IsBare fs × (FramesRead b fs then token_at p (upper x)) ts rest
FramesRead b (paren p vs ∷ fs) ts rest = ((FramesRead b fs then sign_at p (codes "(")) then Lead ReadsValue vs) ts rest
FramesRead b (unboxed p ns x ∷ fs) ts rest = (((FramesRead b fs then sign_at p (codes "#{")) then Lead ReadsLabelled ns) then LabelRead x) ts rest

abbrev pub RecordRead : Base → List Frame → Place → List Labelled → Reading
RecordRead b fs q ns = (FramesRead b fs then sign_at q (codes "#{")) then Lead ReadsLabelled ns

-- what a state has read of a file, up to the rest
abbrev pub StateRead : State → Reading
StateRead (Between es) ts rest = ReadsEntries es ts rest
StateRead (AfterSign es q) ts rest = (ReadsEntries es then sign_at q (codes "@")) ts rest
StateRead (AfterAddress c) ts rest = (ReadsEntries c.before then sign_at c.place (codes "@") then ReadsNumeral c.address) ts rest
StateRead (BeforeCell c) ts rest = BegunRead c ts rest
StateRead (CellName c q ns) ts rest = CellRead c q ns ts rest
StateRead (CellEquals c q ns x) ts rest = (CellRead c q ns then NameRead x) ts rest
StateRead (Elements c q ns i) ts rest = (BegunRead c then sign_at q (codes "[") then ItemsRead ReadsNumeral ns i) ts rest
StateRead (Answered c q bs i) ts rest = (BegunRead c then sign_at q (codes "<") then ItemsRead ReadsBit bs i) ts rest
StateRead (ArgumentEquals es) ts rest = (ReadsEntries es then token (lower (codes "arg"))) ts rest
StateRead (Want b fs) ts rest = FramesRead b fs ts rest
StateRead (AfterParen b fs q) ts rest = (FramesRead b fs then sign_at q (codes "(")) ts rest
StateRead (AfterConstructor b fs q x) ts rest = FramesRead b (payload q x ∷ fs) ts rest
StateRead (ValueSign b fs q) ts rest = (FramesRead b fs then sign_at q (codes "@")) ts rest
StateRead (FieldName b fs q ns) ts rest = RecordRead b fs q ns ts rest
StateRead (FieldEquals b fs q ns x) ts rest = (RecordRead b fs q ns then NameRead x) ts rest
StateRead (Have b fs v) ts rest = Fits fs v × (FramesRead b fs then ReadsValue v) ts rest
StateRead Failed ts rest = ⊤

-- ---- what is whole

-- one entry more
entry_behind : (es : List Entry) (e : Entry) (ts mid rest : List Lexeme) → ReadsEntries es ts mid → ReadsEntry e mid rest → ReadsEntries (es ++ e ∷ []) ts rest
entry_behind [] e ts mid rest l r = (rest, front (ReadsEntry e) ts mid rest l r, refl)
entry_behind (d ∷ es) e ts mid rest l r = (l.0, l.1, entry_behind es e l.0 mid rest l.2 r)

-- an entry, with its cell
pub entry_done : (c : Begun) (cell : Cell) (ts mid rest : List Lexeme) → BegunRead c ts mid → ReadsCell cell mid rest → ReadsEntries (with_entry c cell) ts rest
entry_done c cell ts mid rest r k =
    let a = r.2 in let d = a.2 in
    entry_behind c.before (record { place = c.place; address = c.address; cell = cell }) ts r.0 rest r.1 (a.0, a.1, (d.0, d.1, (mid, d.2, k)))

-- a field, with its value
pub label_done : (x : List ℕ) (v : Written) (ts mid rest : List Lexeme) → LabelRead x ts mid → ReadsValue v mid rest → ReadsLabelled (record { name = x; value = v }) ts rest
label_done x v ts mid rest l r = let n = l.1 in (n.0, (l.0, n.1, (mid, l.2, r)))

-- values behind a first one
more_done : (vs : List Written) (v : Written) (ts from mid rest : List Lexeme) → mark (codes ",") ts from → Lead ReadsValue vs from mid → ReadsValue v mid rest → ReadsMore (to_writtens (vs ++ v ∷ [])) ts rest
more_done [] v ts from mid rest c l r = (from, c, (rest, front (ReadsValue v) from mid rest l r, refl))
more_done (w ∷ vs) v ts from mid rest c l r = let a = l.1 in (from, c, (a.0, a.1, more_done vs v a.0 l.0 mid rest a.2 l.2 r))

-- the values of a tuple, with the last one
pub two_done : (w : Written) (vs : List Written) (v : Written) (ts mid rest : List Lexeme) → Lead ReadsValue (w ∷ vs) ts mid → ReadsValue v mid rest → ReadsTwo (to_writtens (w ∷ (vs ++ v ∷ []))) ts rest
two_done w [] v ts mid rest l r = let a = l.1 in (a.0, a.1, more_done [] v a.0 l.0 mid rest a.2 l.2 r)
two_done w (u ∷ vs) v ts mid rest l r = let a = l.1 in (a.0, a.1, more_done (u ∷ vs) v a.0 l.0 mid rest a.2 l.2 r)

-- fields behind a comma
more_fields : (fs : Fields) (ts mid rest : List Lexeme) → mark (codes ",") ts mid → ReadsFields fs mid rest → ReadsMoreFields fs ts rest
more_fields end ts mid rest c r = absurd r
more_fields (field x v fs) ts mid rest c r = (r.0, (mid, c, r.1))

-- all fields, with the last one
pub fields_done : (ns : List Labelled) (n : Labelled) (ts mid rest : List Lexeme) → Lead ReadsLabelled ns ts mid → ReadsLabelled n mid rest → ReadsFields (to_fields (ns ++ n ∷ [])) ts rest
fields_done [] n ts mid rest l r =
    let f = front (ReadsLabelled n) ts mid rest l r in let a = f.1 in let d = a.2 in
    (f.0, (a.0, a.1, (d.0, d.1, (rest, d.2, refl))))
fields_done (m ∷ ns) n ts mid rest l r =
    let f = l.1 in let a = f.1.1 in let d = a.2 in
    (f.1.0, (a.0, a.1, (d.0, d.1, (f.0, d.2, more_fields (to_fields (ns ++ n ∷ [])) f.0 l.0 rest f.2 (fields_done ns n l.0 mid rest l.2 r)))))
