-- The tokens of a record give its pieces, in order.
use Rattle.std.proofs.Common.{◌≡◌, ℕ, zero, suc, true, false, List, [], ◌∷◌, ◌++◌, codes, Option, Some, None, refl, sym, ap, ◌∙◌, subst, append_assoc}
use Rattle.std.specs.Prelude.{if◌then◌else◌}
use Rattle.std.specs.Str.{bytes_eq}
use Rattle.std.proofs.lemmas.Bool.{or_parts}
use Rattle.cg_base.specs.declared.place.Place.{Place}
use Rattle.cg_base.proofs.Sequences.{append_none}
use Rattle.cg_base.proofs.Truths.{either_first}
use Rattle.cg_heap.specs.declared.cell.Scalar.TheVariants.{Unset, Word}
use Rattle.cg_heaptext_def.specs.Grammar.{IsConstructor, IsName, ReadsFields, ReadsMore, ReadsMoreFields, ReadsTwo, ReadsValue, mark}
use Rattle.cg_heaptext_def.specs.Reading.{bit_number}
use Rattle.cg_heaptext_def.specs.Tokens.{Lexeme, lower, upper, sign}
use Rattle.cg_heaptext_def.specs.Trees.{Written, numeral, truth, nothing, gone, address, constant, applied, inside, tuple, record', Writtens, none, more, Fields, end, field, slots}
use Rattle.cg_heaptext_lexer.specs.Next.{Cursor, Gives, token_of}
use Rattle.cg_heaptext_lexer.specs.declared.token.TokenKind.{TokenKind}
use Rattle.cg_heaptext_entries.specs.Index.{Before, CellStands}
use Rattle.cg_heaptext_entries.proofs.Standing.{reads, reads_none}
use Rattle.cg_heaptext_cells.specs.ByKind.{read_by}
use Rattle.cg_heaptext_cells.specs.Pieces.{Piece, counted, addressed, plain, depth_at, gift, held, is_closer, number_gift, pieces_of, sign_depth, sign_held}
use Rattle.cg_heaptext_cells.specs.declared.pieces.Gift.TheVariants.{Nothing, Counted, Plain}
use Rattle.cg_heaptext_cells.specs.declared.pieces.Held.{Held}
use Rattle.cg_heaptext_cells.specs.declared.pieces.Held.TheVariants.{Free, Bracket, Name}
use Rattle.cg_heaptext_cells.proofs.Standing.{numeral_in, read_as}

-- what a record gives, by its values
abbrev mutual
  pub pieces : Written → List Piece
  pieces (numeral n) = counted n ∷ []
  pieces (truth p b) = plain (Word (bit_number b)) ∷ []
  pieces (nothing p) = plain (Word 0) ∷ []
  pieces (gone p) = plain Unset ∷ []
  pieces (address p n) = addressed n ∷ []
  pieces (constant p x) = plain (Word 0) ∷ []
  pieces (applied p x v) = pieces v
  pieces (inside p v) = pieces v
  pieces (tuple p vs) = pieces_all vs
  pieces (record' p fs) = pieces_in fs

  pub pieces_all : Writtens → List Piece
  pieces_all none = []
  pieces_all (more v vs) = pieces v ++ pieces_all vs

  pub pieces_in : Fields → List Piece
  pieces_in end = []
  pieces_in (field x v fs) = pieces v ++ pieces_in fs

-- and by its tokens, up to its end, where something is held and so many unboxed records are open
abbrev pub emitted : Held → Option ℕ → List Lexeme → List Piece
emitted h None ts = []
emitted h (Some d) [] = []
emitted h (Some d) (t ∷ ts) = pieces_of (gift h t.token) (numeral_in t) ++ emitted (held t.token) (depth_at d t.token) ts

-- ---- what stands behind a value

-- a comma or a closing bracket is next
abbrev Closes : List Lexeme → Type 0
Closes ts = (x : List ℕ) × (is_closer x ≡ true) × (p : Place) × (rest : List Lexeme) × (ts ≡ record { token = sign x; place = p } ∷ rest)

mark_closes : (x : List ℕ) (ts rest : List Lexeme) → is_closer x ≡ true → mark x ts rest → Closes ts
mark_closes x ts rest e m = (x, e, m.0, rest, m.1)

more_closes : (vs : Writtens) (ts rest : List Lexeme) → ReadsMore vs ts rest → Closes rest → Closes ts
more_closes none ts rest r c = subst Closes (sym r) c
more_closes (more v vs) ts rest r c = mark_closes (codes ",") ts r.0 refl r.1

more_fields_closes : (fs : Fields) (ts rest : List Lexeme) → ReadsMoreFields fs ts rest → Closes rest → Closes ts
more_fields_closes end ts rest r c = subst Closes (sym r) c
more_fields_closes (field x v fs) ts rest r c = mark_closes (codes ",") ts r.1.0 refl r.1.1

-- there a name that is held is a constructor without a payload
name_told : (d : ℕ) (ts : List Lexeme) → Closes ts → emitted Name (Some d) ts ≡ plain (Word 0) ∷ emitted Free (Some d) ts
name_told d ts c =
    let t : Lexeme = record { token = sign c.0; place = c.2 } in
    let behind : List Piece = emitted (sign_held c.0) (sign_depth c.0 d) c.3 in
    ap (emitted Name (Some d)) c.4
    ∙ ap (λ b. pieces_of (if b then Plain (Word 0) else Nothing) (numeral_in t) ++ behind) c.1
    ∙ ap (λ b. plain (Word 0) ∷ (pieces_of (if b then Nothing else Nothing) (numeral_in t) ++ behind)) (sym c.1)
    ∙ ap (λ us. plain (Word 0) ∷ emitted Free (Some d) us) (sym c.4)

-- ---- single tokens

-- the name of a constructor gives nothing by itself
name_held : (h : Held) (x : List ℕ) (p : Place) (d : ℕ) (rest : List Lexeme) → IsConstructor x → emitted h (Some d) (record { token = upper x; place = p } ∷ rest) ≡ emitted Name (Some d) rest
name_held h x p d rest c =
    let t : Lexeme = record { token = upper x; place = p } in
    let parts = or_parts (bytes_eq x (codes "True")) (bytes_eq x (codes "False")) c in
    (λ i. pieces_of (if parts.0 i then Plain (Word 1) else if parts.1 i then Plain (Word 0) else Nothing) (numeral_in t) ++ emitted (if c i then Free else Name) (Some d) rest)

-- the name of a field gives nothing
field_passed : (x : List ℕ) (d : ℕ) (p : Place) (rest : List Lexeme) → IsName x → emitted Free (Some d) (record { token = lower x; place = p } ∷ rest) ≡ emitted Free (Some d) rest
field_passed x d p rest n =
    let t : Lexeme = record { token = lower x; place = p } in
    ap (λ b. pieces_of (if b then Plain Unset else Nothing) (numeral_in t) ++ emitted Free (Some d) rest) (either_first (bytes_eq x (codes "_")) _ n)

-- ---- values

-- pieces that stand behind others
in_front : (d : ℕ) (ps qs : List Piece) (mid rest : List Lexeme) → emitted Free (Some d) mid ≡ qs ++ emitted Free (Some d) rest → ps ++ emitted Free (Some d) mid ≡ (ps ++ qs) ++ emitted Free (Some d) rest
in_front d ps qs mid rest e = ap (λ us. ps ++ us) e ∙ sym (append_assoc ps qs (emitted Free (Some d) rest))

mutual
  value_told : (v : Written) (h : Held) (d : ℕ) (ts rest : List Lexeme) → number_gift h ≡ Counted → ReadsValue v ts rest → Closes rest → emitted h (Some d) ts ≡ pieces v ++ emitted Free (Some d) rest
  value_told (numeral n) h d ts rest q r c = ap (emitted h (Some d)) r ∙ ap (λ g. pieces_of g n ++ emitted Free (Some d) rest) q
  value_told (truth p true) h d ts rest q r c = ap (emitted h (Some d)) r
  value_told (truth p false) h d ts rest q r c = ap (emitted h (Some d)) r
  value_told (nothing p) h d ts rest q r c = ap (emitted h (Some d)) r.1 ∙ ap (emitted Bracket (Some d)) r.2.1
  value_told (gone p) h d ts rest q r c = ap (emitted h (Some d)) r
  value_told (address p n) h d ts rest q r c = ap (emitted h (Some d)) r.1 ∙ ap (emitted (held (sign (codes "@"))) (Some d)) r.2
  value_told (constant p x) h d ts rest q r c = ap (emitted h (Some d)) r.1 ∙ name_held h x p d rest r.0 ∙ name_told d rest c
  value_told (applied p x v) h d ts rest q r c = let m = r.2 in ap (emitted h (Some d)) m.1 ∙ name_held h x p d m.0 r.0 ∙ value_told v Name d m.0 rest refl m.2 c
  value_told (inside p v) h d ts rest q r c =
      ap (emitted h (Some d)) r.1
      ∙ value_told v Bracket d r.0 r.2.0 refl r.2.1 (mark_closes (codes ")") r.2.0 rest refl r.2.2)
      ∙ ap (λ us. pieces v ++ emitted Free (Some d) us) r.2.2.1
  value_told (tuple p vs) h d ts rest q r c =
      ap (emitted h (Some d)) r.1
      ∙ two_told vs Bracket d r.0 r.2.0 refl r.2.1 (mark_closes (codes ")") r.2.0 rest refl r.2.2)
      ∙ ap (λ us. pieces_all vs ++ emitted Free (Some d) us) r.2.2.1
  value_told (record' p fs) h d ts rest q r c =
      ap (emitted h (Some d)) r.1
      ∙ fields_told fs (suc d) r.0 r.2.0 r.2.1 (mark_closes (codes "}") r.2.0 rest refl r.2.2)
      ∙ ap (λ us. pieces_in fs ++ emitted Free (Some (suc d)) us) r.2.2.1

  two_told : (vs : Writtens) (h : Held) (d : ℕ) (ts rest : List Lexeme) → number_gift h ≡ Counted → ReadsTwo vs ts rest → Closes rest → emitted h (Some d) ts ≡ pieces_all vs ++ emitted Free (Some d) rest
  two_told none h d ts rest q r c = absurd r
  two_told (more v none) h d ts rest q r c = absurd r
  two_told (more v (more w vs)) h d ts rest q r c =
      value_told v h d ts r.0 q r.1 (more_closes (more w vs) r.0 rest r.2 c)
      ∙ in_front d (pieces v) (pieces_all (more w vs)) r.0 rest (more_told (more w vs) d r.0 rest r.2 c)

  more_told : (vs : Writtens) (d : ℕ) (ts rest : List Lexeme) → ReadsMore vs ts rest → Closes rest → emitted Free (Some d) ts ≡ pieces_all vs ++ emitted Free (Some d) rest
  more_told none d ts rest r c = ap (emitted Free (Some d)) r
  more_told (more v vs) d ts rest r c =
      ap (emitted Free (Some d)) r.1.1
      ∙ value_told v Free d r.0 r.2.0 refl r.2.1 (more_closes vs r.2.0 rest r.2.2 c)
      ∙ in_front d (pieces v) (pieces_all vs) r.2.0 rest (more_told vs d r.2.0 rest r.2.2 c)

  fields_told : (fs : Fields) (d : ℕ) (ts rest : List Lexeme) → ReadsFields fs ts rest → Closes rest → emitted Free (Some d) ts ≡ pieces_in fs ++ emitted Free (Some d) rest
  fields_told end d ts rest r c = absurd r
  fields_told (field x v fs) d ts rest r c =
      let q = r.1 in
      ap (emitted Free (Some d)) q.1.1
      ∙ field_passed x d q.1.0 q.0 r.0
      ∙ ap (emitted Free (Some d)) q.2.1.1
      ∙ value_told v Free d q.2.0 q.2.2.0 refl q.2.2.1 (more_fields_closes fs q.2.2.0 rest q.2.2.2 c)
      ∙ in_front d (pieces v) (pieces_in fs) q.2.2.0 rest (more_fields_told fs d q.2.2.0 rest q.2.2.2 c)

  more_fields_told : (fs : Fields) (d : ℕ) (ts rest : List Lexeme) → ReadsMoreFields fs ts rest → Closes rest → emitted Free (Some d) ts ≡ pieces_in fs ++ emitted Free (Some d) rest
  more_fields_told end d ts rest r c = ap (emitted Free (Some d)) r
  more_fields_told (field x v fs) d ts rest r c =
      let m = r.1 in
      let q = m.2 in
      ap (emitted Free (Some d)) m.1.1
      ∙ ap (emitted Free (Some d)) q.1.1
      ∙ field_passed x d q.1.0 q.0 r.0
      ∙ ap (emitted Free (Some d)) q.2.1.1
      ∙ value_told v Free d q.2.0 q.2.2.0 refl q.2.2.1 (more_fields_closes fs q.2.2.0 rest q.2.2.2 c)
      ∙ in_front d (pieces v) (pieces_in fs) q.2.2.0 rest (more_fields_told fs d q.2.2.0 rest q.2.2.2 c)

-- ---- the loop

-- Where this cell is a record, these are its first pieces, and the tokens that stand here give the others.
abbrev pub Going : Cursor → Cursor → Held → ℕ → List Piece → Type 0
Going at now h d ps = (p : Place) (fs : Fields) → CellStands at (slots p fs) → (us : List Lexeme) × Before now us × (pieces_in fs ≡ ps ++ emitted h (Some d) us)

-- behind the bracket that opens the cell
pub begins : (k : TokenKind) (at new : Cursor) (t : Lexeme) → Gives k at t new → Going at new Free zero []
begins k at new t g p fs s =
    let ts = s.0 in
    let rest = s.1 in
    let r = s.3 in
    let u : Lexeme = record { token = sign (codes "{"); place = p } in
    let told = fields_told fs zero r.0 r.2.0 r.2.1 (mark_closes (codes "}") r.2.0 rest refl r.2.2) in
    let ends : emitted Free (Some zero) r.2.0 ≡ [] = ap (emitted Free (Some zero)) r.2.2.1 in
    (r.0, (reads k at new t u r.0 (subst (Before at) r.1 s.2) g).1, sym (told ∙ ap (λ us. pieces_in fs ++ us) ends ∙ append_none (pieces_in fs)))

module _ (k : TokenKind) (x : List ℕ) (at old new : Cursor) (t : Lexeme) (is : t.token ≡ token_of k x) (g : Gives k old t new) (h : Held) (d : ℕ) (ps : List Piece) (w : Going at old h d ps) where
  -- what the tokens give of which one was read
  abbrev given : List Piece
  given = pieces_of (read_by (gift h) Nothing k x) (numeral_in t)

  abbrev depth : Option ℕ
  depth = read_by (depth_at d) None k x

  stepped : (us : List Lexeme) → Before old us → (vs : List Lexeme) × Before new vs × (emitted h (Some d) us ≡ given ++ emitted (read_by held Free k x) depth vs)
  stepped [] b =
      let r = reads_none k old new t b g in
      ([], r.1, ap (λ y. pieces_of (read_by (gift h) Nothing y x) (numeral_in t) ++ emitted (read_by held Free y x) (read_by (depth_at d) None y x) []) (sym r.0))
  stepped (u ∷ us) b =
      let r = reads k old new t u us b g in
      let gifts = read_as (gift h) Nothing k x old new t u us is b g in
      let helds = read_as held Free k x old new t u us is b g in
      let depths = read_as (depth_at d) None k x old new t u us is b g in
      (us, r.1, (λ i. pieces_of (gifts i) (numeral_in (sym r.0 i)) ++ emitted (helds i) (depths i) us))

  arrives : (o : Option ℕ) → o ≡ depth → (p : Place) (fs : Fields) → CellStands at (slots p fs) → (vs : List Lexeme) × Before new vs × (pieces_in fs ≡ (ps ++ given) ++ emitted (read_by held Free k x) o vs)
  arrives o e p fs s =
      let r = w p fs s in
      let m = stepped r.0 r.1 in
      (m.0, m.1, r.2 ∙ ap (λ us. ps ++ us) m.2 ∙ sym (append_assoc ps given (emitted (read_by held Free k x) depth m.0)) ∙ ap (λ y. (ps ++ given) ++ emitted (read_by held Free k x) y m.0) (sym e))

  -- behind a token of the record
  pub goes_on : (e : ℕ) → Some e ≡ depth → Going at new (read_by held Free k x) e (ps ++ given)
  goes_on e same = arrives (Some e) same

  -- behind its last one all was given
  pub all_given : None ≡ depth → (p : Place) (fs : Fields) → CellStands at (slots p fs) → ps ++ given ≡ pieces_in fs
  all_given same p fs s = let r = arrives None same p fs s in sym (r.2 ∙ append_none (ps ++ given))
