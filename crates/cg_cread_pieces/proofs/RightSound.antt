-- What has been read of a right side is what its state spells.
use Rattle.std.proofs.Common.{◌≡◌, ℕ, List, [], ◌∷◌, ◌++◌, refl, sym, ap, ◌∙◌, subst, true, Option, Some, None, arith}
use Rattle.std.specs.Prelude.{codes, decimal, ⊤, ◌==◌}
use Rattle.std.specs.Str.{bytes_eq}
use Rattle.std.proofs.lemmas.Slice.Eq.{bytes_eq-Decides}
use Rattle.std.proofs.lemmas.Bool.Decides.{nat_tests}
use Rattle.cg_base.specs.declared.kind.Word.{Word}
use Rattle.cg_base.specs.declared.kind.Word.TheVariants.{U8, U16, U32, U64}
use Rattle.cg_base.proofs.Spans.{either_way}
use Rattle.cg_base.proofs.WordLaws.{word_is}
use Rattle.cg_ctree.specs.declared.tree.COp.TheVariants.{Eq}
use Rattle.cg_ctree.specs.declared.tree.COpnd.{COpnd}
use Rattle.cg_ctree.specs.declared.tree.CRhs.{CRhs}
use Rattle.cg_ctree.specs.Spells.{Reading, ◌then◌, token, keyword, mark, spelled, op_sign, IsInner, ReadsStructName, ReadsOpnd, ReadsTo, ReadsCast, ReadsSize, ReadsRight}
use Rattle.cg_ctree.specs.Tokens.{name, word, plain, Lexeme}
use Rattle.cg_cread_parts.specs.Operands.{operand_step, operand_end, function_name}
use Rattle.cg_cread_pieces.specs.Rights.{is_inner, allows, in_operand, on_wanted, on_opened, on_typed, on_outer, on_null, on_inner, on_before, on_cast_opened, on_cast_typed, on_cast, on_behind, called, on_alone, on_tested, on_first, on_argument, behind, filled, on_operand, sized, on_second, on_zero, on_null_end, on_size, cast_step, right_step, operand_right, right_end}
use Rattle.cg_cread_parts.specs.Symbols.{Symbol, named, typed, keyed, count, opening, closing, comma, tilde, operation, is_part}
use Rattle.cg_cread_parts.specs.declared.operand.Operand.{Operand}
use Rattle.cg_cread_parts.specs.declared.operand.Operand.TheVariants as operand
use Rattle.cg_cread_pieces.specs.declared.right.Cast.{Cast}
use Rattle.cg_cread_pieces.specs.declared.right.Cast.TheVariants.{OfFlip, OfLeft, OfRight}
use Rattle.cg_cread_pieces.specs.declared.right.Spot.{Spot}
use Rattle.cg_cread_pieces.specs.declared.right.Spot.TheVariants.{Before, Opened, Typed}
use Rattle.cg_cread_pieces.specs.declared.right.Slot.{Slot}
use Rattle.cg_cread_pieces.specs.declared.right.Slot.TheVariants as slot
use Rattle.cg_cread_pieces.specs.declared.right.Size.{Size}
use Rattle.cg_cread_pieces.specs.declared.right.Size.TheVariants as size
use Rattle.cg_cread_pieces.specs.declared.right.Right.{Right}
use Rattle.cg_cread_pieces.specs.declared.right.Right.TheVariants as right
use Rattle.cg_cread_parts.specs.declared.symbol.Keyword.TheVariants as key
use Rattle.cg_cread_parts.proofs.Digits.{zero_text}
use Rattle.cg_cread_parts.proofs.Known.{Means, seen}
use Rattle.cg_cread_parts.proofs.Lists.{Trailing, front, some_behind, trailing_behind}
use Rattle.cg_cread_parts.proofs.OperandSound.{OperandRead, OpndIs, NameIs, operand_is, function_name_is, operand_holds, first}

-- the word of a cast is one that may stand there
abbrev pub Allowed : Cast → Word → Type 0
Allowed OfFlip v = IsInner v
Allowed OfLeft v = IsInner v
Allowed (OfRight u o l) v = u ≡ v

-- what is read before a cast
abbrev pub CastBegun : Word → Cast → Reading
CastBegun w OfFlip all rest = (ReadsTo w then mark (codes "(") then mark (codes "~")) all rest
CastBegun w OfLeft all rest = (ReadsTo w then mark (codes "(")) all rest
CastBegun w (OfRight u o l) all rest = IsInner u × (ReadsTo w then mark (codes "(") then ReadsCast u l then mark (op_sign o)) all rest

-- what is read of a cast
abbrev pub SpotRead : Cast → Spot → Reading
SpotRead c Before all rest = all ≡ rest
SpotRead c Opened all rest = mark (codes "(") all rest
SpotRead c (Typed v) all rest = Allowed c v × (mark (codes "(") then token (word (spelled v))) all rest

-- what is read before an operand
abbrev pub SlotRead : Slot → Reading
SlotRead slot.Alone all rest = all ≡ rest
SlotRead (slot.Converted w) all rest = ReadsTo w all rest
SlotRead slot.Tested all rest = (ReadsTo U8 then mark (codes "(")) all rest
SlotRead (slot.OfCast w c v) all rest = Allowed c v × (CastBegun w c then ReadsTo v) all rest
SlotRead (slot.First f) all rest = (token (name f) then mark (codes "(")) all rest
SlotRead (slot.Argument f os) all rest = (token (name f) then mark (codes "(") then Trailing ReadsOpnd os) all rest

-- what is read before the size of a struct, and of it
abbrev pub NewBegun : COpnd → Reading
NewBegun o = token (name (codes "cg_new")) then mark (codes "(") then ReadsOpnd o then mark (codes ",")

abbrev pub SizeRead : Size → Reading
SizeRead size.Begun all rest = keyword (codes "sizeof") all rest
SizeRead size.Opened all rest = (keyword (codes "sizeof") then mark (codes "(")) all rest
SizeRead size.StructRead all rest = (keyword (codes "sizeof") then mark (codes "(") then keyword (codes "struct")) all rest
SizeRead (size.Named x) all rest = (keyword (codes "sizeof") then mark (codes "(") then ReadsStructName x) all rest
SizeRead (size.Closed x) all rest = ReadsSize x all rest

-- what is read of a right side
abbrev pub RightRead : Right → Reading
RightRead right.Wanted all rest = all ≡ rest
RightRead right.Opened all rest = mark (codes "(") all rest
RightRead (right.Typed w) all rest = (mark (codes "(") then token (word (spelled w))) all rest
RightRead (right.Outer w) all rest = ReadsTo w all rest
RightRead (right.Inner w) all rest = (ReadsTo w then mark (codes "(")) all rest
RightRead (right.InCast w c s) all rest = (CastBegun w c then SpotRead c s) all rest
RightRead (right.InOperand s m) all rest = (SlotRead s then OperandRead m) all rest
RightRead (right.Second f o) all rest = (token (name f) then mark (codes "(") then ReadsOpnd o then mark (codes ",")) all rest
RightRead (right.NullSign o) all rest = (ReadsTo U8 then mark (codes "(") then ReadsOpnd o then mark (codes "==")) all rest
RightRead (right.NullZero o) all rest = (ReadsTo U8 then mark (codes "(") then ReadsOpnd o then mark (codes "==") then token (plain (codes "0"))) all rest
RightRead (right.InSize o s) all rest = (NewBegun o then SizeRead s) all rest
RightRead (right.Whole r) all rest = ReadsRight r all rest
RightRead right.Stuck all rest = ⊤

inner_is : (v : Word) → is_inner v ≡ true → IsInner v
inner_is U8 e = cc
inner_is U16 e = cc
inner_is U32 e = tt
inner_is U64 e = tt

allowed : (c : Cast) (v : Word) → allows c v ≡ true → Allowed c v
allowed OfFlip v e = inner_is v e
allowed OfLeft v e = inner_is v e
allowed (OfRight u o l) v e = word_is u v e

module _ (t : Lexeme) (rest all : List Lexeme) where
  -- an operand begins
  begun_holds : (s : Slot) (y : Symbol) → Means t.token y → SlotRead s all (t ∷ rest) → RightRead (in_operand s y) all rest
  begun_holds s y h r = (t ∷ rest, r, operand_holds t rest (t ∷ rest) operand.Wanted y h refl)

  wanted_holds : (y : Symbol) → Means t.token y → all ≡ t ∷ rest → RightRead (on_wanted y) all rest
  wanted_holds opening h r = first t rest all _ r h
  wanted_holds y h r = begun_holds slot.Alone y h r

  opened_holds : (y : Symbol) → Means t.token y → RightRead right.Opened all (t ∷ rest) → RightRead (on_opened y) all rest
  opened_holds (typed w) h r = (_, r, seen _ t rest h)
  opened_holds _ h r = tt

  typed_holds : (w : Word) (y : Symbol) → Means t.token y → RightRead (right.Typed w) all (t ∷ rest) → RightRead (on_typed w y) all rest
  typed_holds w closing h r = (r.0, r.1, (_, r.2, seen _ t rest h))
  typed_holds w _ h r = tt

  outer_holds : (w : Word) (y : Symbol) → Means t.token y → RightRead (right.Outer w) all (t ∷ rest) → RightRead (on_outer w y) all rest
  outer_holds w opening h r = (_, r, seen _ t rest h)
  outer_holds w y h r = begun_holds (slot.Converted w) y h r

  null_holds : (w : Word) (y : Symbol) → Means t.token y → RightRead (right.Inner w) all (t ∷ rest) → RightRead (on_null w y) all rest
  null_holds U8 y h r = begun_holds slot.Tested y h r
  null_holds _ y h r = tt

  inner_holds : (w : Word) (y : Symbol) → Means t.token y → RightRead (right.Inner w) all (t ∷ rest) → RightRead (on_inner w y) all rest
  inner_holds w tilde h r = (rest, (r.0, r.1, (_, r.2, seen _ t rest h)), refl)
  inner_holds w opening h r = (_, r, seen _ t rest h)
  inner_holds w y h r = null_holds w y h r

  before_holds : (w : Word) (c : Cast) (y : Symbol) → Means t.token y → RightRead (right.InCast w c Before) all (t ∷ rest) → RightRead (on_before w c y) all rest
  before_holds w c opening h r = (r.0, r.1, front (mark (codes "(")) r.0 (t ∷ rest) rest r.2 (seen _ t rest h))
  before_holds w c _ h r = tt

  cast_opened_holds : (w : Word) (c : Cast) (y : Symbol) → Means t.token y → RightRead (right.InCast w c Opened) all (t ∷ rest) → RightRead (on_cast_opened w c y) all rest
  cast_opened_holds w c (typed v) h r =
      either_way (λ m. RightRead m all rest) (allows c v) (right.InCast w c (Typed v)) right.Stuck
      (λ e. (r.0, r.1, (allowed c v e, (_, r.2, seen _ t rest h))))
      (λ e. tt)
  cast_opened_holds w c _ h r = tt

  cast_typed_holds : (w : Word) (c : Cast) (v : Word) (y : Symbol) → Means t.token y → RightRead (right.InCast w c (Typed v)) all (t ∷ rest) → RightRead (on_cast_typed w c v y) all rest
  cast_typed_holds w c v closing h r = let q = r.2.1 in (rest, (r.2.0, (r.0, r.1, (q.0, q.1, (_, q.2, seen _ t rest h)))), refl)
  cast_typed_holds w c v _ h r = tt

  cast_holds : (w : Word) (c : Cast) (s : Spot) (y : Symbol) → Means t.token y → RightRead (right.InCast w c s) all (t ∷ rest) → RightRead (on_cast w c s y) all rest
  cast_holds w c Before y h r = before_holds w c y h r
  cast_holds w c Opened y h r = cast_opened_holds w c y h r
  cast_holds w c (Typed v) y h r = cast_typed_holds w c v y h r

  -- behind an operand
  module _ (mid : List Lexeme) where
    of_cast_holds : (w : Word) (c : Cast) (v : Word) (o : COpnd) (y : Symbol) → Means t.token y → SlotRead (slot.OfCast w c v) all mid → ReadsOpnd o mid (t ∷ rest) → RightRead (on_behind w c v o y) all rest
    of_cast_holds w OfFlip v o closing h r q =
        let b = r.1.1 in (r.0, (b.0, b.1, (b.2.0, b.2.1, (r.1.0, b.2.2, (_, (_, r.1.2, q), seen _ t rest h)))))
    of_cast_holds w OfLeft v l (operation p) h r q =
        let b = r.1.1 in (rest, (r.0, (b.0, b.1, (r.1.0, b.2, (_, (_, r.1.2, q), seen _ t rest h)))), refl)
    of_cast_holds w (OfRight u p l) v o closing h r q =
        let b = r.1.1.1 in
        let z : ReadsCast u o r.1.0 (t ∷ rest) = let P : Word → Type 0 = λ z. ReadsCast z o r.1.0 (t ∷ rest) in subst P (sym r.0) (_, r.1.2, q) in
        (r.1.1.0, (b.0, b.1, (b.2.0, b.2.1, (b.2.2.0, b.2.2.1, (r.1.0, b.2.2.2, (_, z, seen _ t rest h))))))
    of_cast_holds w _ v o _ h r q = tt

    called_holds : Means t.token opening → (o : Option (List ℕ)) → NameIs o all (t ∷ rest) → RightRead (called o) all rest
    called_holds h None r = tt
    called_holds h (Some f) r = (rest, (_, r, seen _ t rest h), refl)

    alone_holds : (o : COpnd) (y : Symbol) → Means t.token y → all ≡ mid → ReadsOpnd o mid (t ∷ rest) → RightRead (on_alone o y) all rest
    alone_holds o opening h r q = called_holds h (function_name o) (function_name_is o all (t ∷ rest) (front (ReadsOpnd o) all mid (t ∷ rest) r q))
    alone_holds o _ h r q = tt

    tested_holds : (o : COpnd) (y : Symbol) → Means t.token y → SlotRead slot.Tested all mid → ReadsOpnd o mid (t ∷ rest) → RightRead (on_tested o y) all rest
    tested_holds o (operation Eq) h r q = (r.0, r.1, (_, r.2, (_, q, seen _ t rest h)))
    tested_holds o _ h r q = tt

    first_holds : (f : List ℕ) (o : COpnd) (y : Symbol) → Means t.token y → SlotRead (slot.First f) all mid → ReadsOpnd o mid (t ∷ rest) → RightRead (on_first f o y) all rest
    first_holds f o comma h r q = (r.0, r.1, (_, r.2, (_, q, seen _ t rest h)))
    first_holds f o closing h r q = (r.0, r.1, (_, r.2, (_, (_, q, refl), seen _ t rest h)))
    first_holds f o _ h r q = tt

    argument_holds : (f : List ℕ) (os : List COpnd) (o : COpnd) (y : Symbol) → Means t.token y → SlotRead (slot.Argument f os) all mid → ReadsOpnd o mid (t ∷ rest) → RightRead (on_argument f (os ++ o ∷ []) y) all rest
    argument_holds f os o comma h r q =
        let z = some_behind ReadsOpnd os o r.2.0 mid (t ∷ rest) r.2.2 q in
        (rest, (r.0, r.1, (r.2.0, r.2.1, trailing_behind ReadsOpnd (os ++ o ∷ []) r.2.0 (t ∷ rest) rest z (seen _ t rest h))), refl)
    argument_holds f os o closing h r q =
        let z = some_behind ReadsOpnd os o r.2.0 mid (t ∷ rest) r.2.2 q in
        (r.0, r.1, (r.2.0, r.2.1, (_, z, seen _ t rest h)))
    argument_holds f os o _ h r q = tt

    behind_holds : (s : Slot) (o : COpnd) (y : Symbol) → Means t.token y → SlotRead s all mid → ReadsOpnd o mid (t ∷ rest) → RightRead (behind s o y) all rest
    behind_holds slot.Alone o y h r q = alone_holds o y h r q
    behind_holds (slot.Converted w) o y h r q = tt
    behind_holds slot.Tested o y h r q = tested_holds o y h r q
    behind_holds (slot.OfCast w c v) o y h r q = of_cast_holds w c v o y h r q
    behind_holds (slot.First f) o y h r q = first_holds f o y h r q
    behind_holds (slot.Argument f os) o y h r q = argument_holds f os o y h r q

    filled_holds : (s : Slot) (o : Option COpnd) (y : Symbol) → Means t.token y → SlotRead s all mid → OpndIs o mid (t ∷ rest) → RightRead (filled s o y) all rest
    filled_holds s None y h r q = tt
    filled_holds s (Some o) y h r q = behind_holds s o y h r q

  operand_step_holds : (s : Slot) (m : Operand) (y : Symbol) → Means t.token y → RightRead (right.InOperand s m) all (t ∷ rest) → RightRead (on_operand s m y) all rest
  operand_step_holds s m y h r =
      either_way (λ z. RightRead z all rest) (is_part y) (right.InOperand s (operand_step m y)) (filled s (operand_end m) y)
      (λ e. (r.0, r.1, operand_holds t rest r.0 m y h r.2))
      (λ e. filled_holds r.0 s (operand_end m) y h r.1 (operand_is m r.0 (t ∷ rest) r.2))

  sized_holds : Means t.token (keyed key.Sizeof) → (f : List ℕ) (o : COpnd) → RightRead (right.Second f o) all (t ∷ rest) → RightRead (sized f o) all rest
  sized_holds h f o r =
      either_way (λ z. RightRead z all rest) (bytes_eq f (codes "cg_new")) (right.InSize o size.Begun) right.Stuck
      (λ e. let P : List ℕ → Type 0 = λ x. token (name x) all r.0 in (_, (r.0, subst P ((bytes_eq-Decides f (codes "cg_new")).0 e) r.1, r.2), seen _ t rest h))
      (λ e. tt)

  second_holds : (f : List ℕ) (o : COpnd) (y : Symbol) → Means t.token y → RightRead (right.Second f o) all (t ∷ rest) → RightRead (on_second f o y) all rest
  second_holds f o (keyed key.Sizeof) h r = sized_holds h f o r
  second_holds f o y h r = let q = r.2.2 in begun_holds (slot.Argument f (o ∷ [])) y h (r.0, r.1, (r.2.0, r.2.1, (q.0, q.1, (_, q.2, refl))))

  zero_holds : (o : COpnd) (y : Symbol) → Means t.token y → RightRead (right.NullSign o) all (t ∷ rest) → RightRead (on_zero o y) all rest
  zero_holds o (count n) h r =
      either_way (λ z. RightRead z all rest) (n == 0) (right.NullZero o) right.Stuck
      (λ e. let q = r.2.2 in
      let z : n ≡ 0 = grind (arith, nat_tests) in
      (r.0, r.1, (r.2.0, r.2.1, (q.0, q.1, (_, q.2, seen _ t rest (h.1 ∙ ap plain (ap decimal z ∙ zero_text)))))))
      (λ e. tt)
  zero_holds o _ h r = tt

  null_end_holds : (o : COpnd) (y : Symbol) → Means t.token y → RightRead (right.NullZero o) all (t ∷ rest) → RightRead (on_null_end o y) all rest
  null_end_holds o closing h r = let q = r.2.2 in let p = q.2 in (r.0, r.1, (r.2.0, r.2.1, (q.0, q.1, (p.0, p.1, (_, p.2, seen _ t rest h)))))
  null_end_holds o _ h r = tt

  size_holds : (o : COpnd) (s : Size) (y : Symbol) → Means t.token y → RightRead (right.InSize o s) all (t ∷ rest) → RightRead (on_size o s y) all rest
  size_holds o size.Begun opening h r = (r.0, r.1, (_, r.2, seen _ t rest h))
  size_holds o size.Opened (keyed key.Struct) h r = (r.0, r.1, (r.2.0, r.2.1, (_, r.2.2, seen _ t rest h)))
  size_holds o size.StructRead (named x) h r = let q = r.2.2 in (r.0, r.1, (r.2.0, r.2.1, (q.0, q.1, (_, q.2, seen _ t rest h))))
  size_holds o (size.Named x) closing h r = let q = r.2.2 in (r.0, r.1, (r.2.0, r.2.1, (q.0, q.1, (_, q.2, seen _ t rest h))))
  size_holds o (size.Closed x) closing h r =
      let q = r.1 in let p = q.2 in let n = p.2 in
      (q.0, q.1, (p.0, p.1, (n.0, n.1, (_, n.2, (_, r.2, seen _ t rest h)))))
  size_holds o _ _ h r = tt

  cast_step_holds : (m : Right) (y : Symbol) → Means t.token y → RightRead m all (t ∷ rest) → RightRead (cast_step m y) all rest
  cast_step_holds right.Wanted y h r = wanted_holds y h r
  cast_step_holds right.Opened y h r = opened_holds y h r
  cast_step_holds (right.Typed w) y h r = typed_holds w y h r
  cast_step_holds (right.Outer w) y h r = outer_holds w y h r
  cast_step_holds (right.Inner w) y h r = inner_holds w y h r
  cast_step_holds (right.InCast w c s) y h r = cast_holds w c s y h r
  cast_step_holds _ y h r = tt

  -- one token more of a right side
  pub right_holds : (m : Right) (y : Symbol) → Means t.token y → RightRead m all (t ∷ rest) → RightRead (right_step m y) all rest
  right_holds (right.InOperand s m) y h r = operand_step_holds s m y h r
  right_holds (right.Second f o) y h r = second_holds f o y h r
  right_holds (right.NullSign o) y h r = zero_holds o y h r
  right_holds (right.NullZero o) y h r = null_end_holds o y h r
  right_holds (right.InSize o s) y h r = size_holds o s y h r
  right_holds m y h r = cast_step_holds m y h r

-- what is read where a right side ends
abbrev pub RightIs : Option CRhs → Reading
RightIs None all rest = ⊤
RightIs (Some r) all rest = ReadsRight r all rest

operand_right_is : (s : Slot) (o : Option COpnd) (all mid rest : List Lexeme) → SlotRead s all mid → OpndIs o mid rest → RightIs (operand_right s o) all rest
operand_right_is slot.Alone (Some o) all mid rest r q = front (ReadsOpnd o) all mid rest r q
operand_right_is (slot.Converted w) (Some o) all mid rest r q = (mid, r, q)
operand_right_is _ _ all mid rest r q = tt

pub right_is : (m : Right) (all rest : List Lexeme) → RightRead m all rest → RightIs (right_end m) all rest
right_is (right.InOperand s m) all rest r = operand_right_is s (operand_end m) all r.0 rest r.1 (operand_is m r.0 rest r.2)
right_is (right.Whole q) all rest r = r
right_is _ all rest r = tt
