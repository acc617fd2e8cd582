-- Whatever is read of a piece, something completes it.
use Rattle.std.proofs.Common.{◌≡◌, ℕ, List, [], ◌∷◌, ◌++◌, refl, sym, ap, subst, lit<, true, false, Bool, cond, Option, Some}
use Rattle.cg_base.specs.declared.kind.Word.{Word}
use Rattle.cg_base.specs.declared.kind.Word.TheVariants.{U32}
use Rattle.cg_base.proofs.WordLaws.{word_same}
use Rattle.cg_ctree.specs.declared.tree.COp.{COp}
use Rattle.cg_ctree.specs.declared.tree.COp.TheVariants.{Add, Eq}
use Rattle.cg_ctree.specs.declared.tree.COpnd.{COpnd}
use Rattle.cg_ctree.specs.declared.tree.CPath.{CPath}
use Rattle.cg_ctree.specs.declared.tree.CRhs.{CRhs}
use Rattle.cg_ctree.specs.Trees.{Stmt}
use Rattle.cg_cread_pieces.specs.Lines as lines
use Rattle.cg_cread_pieces.specs.Lines.{line_step, line_end, line_is_open, argued, tested, operand_line, assignment}
use Rattle.cg_cread_parts.specs.Operands.{operand_step, operand_end, operand_is_open}
use Rattle.cg_cread_pieces.specs.Rights as rights
use Rattle.cg_cread_pieces.specs.Rights.{allows, operand_right, right_step, right_end, right_is_open}
use Rattle.cg_cread_parts.specs.Symbols.{Symbol, named, typed, keyed, number, count, opening, closing, equals, tilde, operation, is_part, goes_on}
use Rattle.cg_cread_pieces.specs.declared.line.Test.{Test}
use Rattle.cg_cread_pieces.specs.declared.line.Role.{Role}
use Rattle.cg_cread_pieces.specs.declared.line.Role.TheVariants as role
use Rattle.cg_cread_pieces.specs.declared.line.Line.{Line}
use Rattle.cg_cread_pieces.specs.declared.line.Line.TheVariants as line
use Rattle.cg_cread_parts.specs.declared.operand.Operand.{Operand}
use Rattle.cg_cread_parts.specs.declared.operand.Operand.TheVariants as operand
use Rattle.cg_cread_pieces.specs.declared.right.Cast.{Cast}
use Rattle.cg_cread_pieces.specs.declared.right.Cast.TheVariants.{OfFlip, OfLeft, OfRight}
use Rattle.cg_cread_pieces.specs.declared.right.Spot.{Spot}
use Rattle.cg_cread_pieces.specs.declared.right.Spot.TheVariants.{Before, Opened, Typed}
use Rattle.cg_cread_pieces.specs.declared.right.Slot.{Slot}
use Rattle.cg_cread_pieces.specs.declared.right.Slot.TheVariants as slot
use Rattle.cg_cread_pieces.specs.declared.right.Size.{Size}
use Rattle.cg_cread_pieces.specs.declared.right.Size.TheVariants as size
use Rattle.cg_cread_pieces.specs.declared.right.Right.{Right}
use Rattle.cg_cread_pieces.specs.declared.right.Right.TheVariants as right
use Rattle.cg_cread_parts.specs.declared.symbol.Keyword.TheVariants as key
use Rattle.cg_cread_parts.proofs.Known.{Fits}
use Rattle.cg_cread_parts.proofs.Viable.{Feeds, operand_viable}
use Rattle.cg_cread_pieces.proofs.RightComplete.{part_goes_on}

-- ---- paths

module _ (P : Operand → Type 0) (fed : Feeds Operand operand_step is_part P) where
  pub path_viable : ((p : CPath) → P (operand.Path p)) → (m : Operand) → lines.fits role.Target m ≡ true → P m
  path_viable ends operand.Wanted h = fed (named []) tt refl operand.Wanted (ends _)
  path_viable ends (operand.Number n) h = cc
  path_viable ends (operand.Path p) h = ends p
  path_viable ends (operand.Dot p) h = fed (named []) tt refl (operand.Dot p) (ends _)
  path_viable ends (operand.Arrow x) h = fed (named []) tt refl (operand.Arrow x) (ends _)
  path_viable ends operand.Stuck h = cc

-- ---- right sides

module _ (P : Right → Type 0) (fed : Feeds Right right_step goes_on P) (ends : (m : Right) (r : CRhs) → right_end m ≡ Some r → P m) where
  whole : (r : CRhs) → P (right.Whole r)
  whole r = ends (right.Whole r) r refl

  part_fed : (s : Slot) → Feeds Operand operand_step is_part (λ m. P (right.InOperand s m))
  part_fed s y f i m h =
      let Q : Bool → Type 0 = λ b. P (cond b (right.InOperand s (operand_step m y)) (rights.filled s (operand_end m) y)) in
      fed y f (part_goes_on y i) (right.InOperand s m) (subst Q (sym i) h)

  -- a symbol behind an operand
  next : (s : Slot) (m : Operand) (o : COpnd) → operand_end m ≡ Some o → (y : Symbol) → Fits y → goes_on y ≡ true → is_part y ≡ false → P (rights.behind s o y) → P (right.InOperand s m)
  next s m o e y f i j h =
      let Q : Bool → Type 0 = λ b. P (cond b (right.InOperand s (operand_step m y)) (rights.filled s (operand_end m) y)) in
      let S : Option COpnd → Type 0 = λ z. P (rights.filled s z y) in
      fed y f i (right.InOperand s m) (subst Q (sym j) (subst S (sym e) h))

  null_zero : (o : COpnd) → P (right.NullZero o)
  null_zero o = fed closing tt refl (right.NullZero o) (whole _)

  null_sign : (o : COpnd) → P (right.NullSign o)
  null_sign o = fed (count 0) (lit< tt) refl (right.NullSign o) (null_zero o)

  behind_right : (w u : Word) (p : COp) (l : COpnd) (v : Word) (m : Operand) (o : COpnd) → operand_end m ≡ Some o → P (right.InOperand (slot.OfCast w (OfRight u p l) v) m)
  behind_right w u p l v m o e = next (slot.OfCast w (OfRight u p l) v) m o e closing tt refl refl (whole _)

  -- a cast, where what is behind it can be completed
  module _ (w : Word) (c : Cast) (v : Word) (fit : allows c v ≡ true) (done : (u : Word) (m : Operand) (o : COpnd) → operand_end m ≡ Some o → P (right.InOperand (slot.OfCast w c u) m)) where
    cast_typed : (u : Word) → P (right.InCast w c (Typed u))
    cast_typed u =
        fed closing tt refl (right.InCast w c (Typed u))
        (operand_viable (λ m. P (right.InOperand (slot.OfCast w c u) m)) (part_fed (slot.OfCast w c u)) (done u) operand.Wanted refl)

    cast_opened : P (right.InCast w c Opened)
    cast_opened =
        let S : Bool → Type 0 = λ b. P (cond b (right.InCast w c (Typed v)) right.Stuck) in
        fed (typed v) tt refl (right.InCast w c Opened) (subst S (sym fit) (cast_typed v))

    in_cast : (s : Spot) → P (right.InCast w c s)
    in_cast Before = fed opening tt refl (right.InCast w c Before) cast_opened
    in_cast Opened = cast_opened
    in_cast (Typed u) = cast_typed u

  behind_left : (w v : Word) (m : Operand) (o : COpnd) → operand_end m ≡ Some o → P (right.InOperand (slot.OfCast w OfLeft v) m)
  behind_left w v m o e =
      next (slot.OfCast w OfLeft v) m o e (operation Add) tt refl refl (in_cast w (OfRight v Add o) v (word_same v) (behind_right w v Add o) Before)

  behind_flip : (w v : Word) (m : Operand) (o : COpnd) → operand_end m ≡ Some o → P (right.InOperand (slot.OfCast w OfFlip v) m)
  behind_flip w v m o e = next (slot.OfCast w OfFlip v) m o e closing tt refl refl (whole _)

  cast_done : (w : Word) (c : Cast) (v : Word) (m : Operand) (o : COpnd) → operand_end m ≡ Some o → P (right.InOperand (slot.OfCast w c v) m)
  cast_done w OfFlip v m o e = behind_flip w v m o e
  cast_done w OfLeft v m o e = behind_left w v m o e
  cast_done w (OfRight u p l) v m o e = behind_right w u p l v m o e

  cast_viable : (w : Word) (c : Cast) (s : Spot) → P (right.InCast w c s)
  cast_viable w OfFlip s = in_cast w OfFlip U32 refl (behind_flip w) s
  cast_viable w OfLeft s = in_cast w OfLeft U32 refl (behind_left w) s
  cast_viable w (OfRight u p l) s = in_cast w (OfRight u p l) u (word_same u) (behind_right w u p l) s

  slot_done : (s : Slot) (m : Operand) (o : COpnd) → operand_end m ≡ Some o → P (right.InOperand s m)
  slot_done slot.Alone m o e = ends (right.InOperand slot.Alone m) _ (ap (operand_right slot.Alone) e)
  slot_done (slot.Converted w) m o e = ends (right.InOperand (slot.Converted w) m) _ (ap (operand_right (slot.Converted w)) e)
  slot_done slot.Tested m o e = next slot.Tested m o e (operation Eq) tt refl refl (null_sign o)
  slot_done (slot.OfCast w c v) m o e = cast_done w c v m o e
  slot_done (slot.First f) m o e = next (slot.First f) m o e closing tt refl refl (whole _)
  slot_done (slot.Argument f os) m o e = next (slot.Argument f os) m o e closing tt refl refl (whole _)

  in_slot : (s : Slot) (m : Operand) → operand_is_open m ≡ true → P (right.InOperand s m)
  in_slot s m h = operand_viable (λ x. P (right.InOperand s x)) (part_fed s) (slot_done s) m h

  outer : (w : Word) → P (right.Outer w)
  outer w = fed (number 0) (lit< tt) refl (right.Outer w) (in_slot (slot.Converted w) (operand.Number 0) refl)

  after_word : (w : Word) → P (right.Typed w)
  after_word w = fed closing tt refl (right.Typed w) (outer w)

  size_closed : (o : COpnd) (x : List ℕ) → P (right.InSize o (size.Closed x))
  size_closed o x = fed closing tt refl (right.InSize o (size.Closed x)) (whole _)

  size_named : (o : COpnd) (x : List ℕ) → P (right.InSize o (size.Named x))
  size_named o x = fed closing tt refl (right.InSize o (size.Named x)) (size_closed o x)

  size_struct : (o : COpnd) → P (right.InSize o size.StructRead)
  size_struct o = fed (named []) tt refl (right.InSize o size.StructRead) (size_named o [])

  size_opened : (o : COpnd) → P (right.InSize o size.Opened)
  size_opened o = fed (keyed key.Struct) tt refl (right.InSize o size.Opened) (size_struct o)

  in_size : (o : COpnd) (s : Size) → P (right.InSize o s)
  in_size o size.Begun = fed opening tt refl (right.InSize o size.Begun) (size_opened o)
  in_size o size.Opened = size_opened o
  in_size o size.StructRead = size_struct o
  in_size o (size.Named x) = size_named o x
  in_size o (size.Closed x) = size_closed o x

  pub right_viable : (m : Right) → right_is_open m ≡ true → P m
  right_viable right.Wanted h = fed (number 0) (lit< tt) refl right.Wanted (in_slot slot.Alone (operand.Number 0) refl)
  right_viable right.Opened h = fed (typed U32) tt refl right.Opened (after_word U32)
  right_viable (right.Typed w) h = after_word w
  right_viable (right.Outer w) h = outer w
  right_viable (right.Inner w) h = fed tilde tt refl (right.Inner w) (cast_viable w OfFlip Before)
  right_viable (right.InCast w c s) h = cast_viable w c s
  right_viable (right.InOperand s m) h = in_slot s m h
  right_viable (right.Second f o) h = fed (number 0) (lit< tt) refl (right.Second f o) (in_slot (slot.Argument f (o ∷ [])) (operand.Number 0) refl)
  right_viable (right.NullSign o) h = null_sign o
  right_viable (right.NullZero o) h = null_zero o
  right_viable (right.InSize o s) h = in_size o s
  right_viable (right.Whole r) h = whole r
  right_viable right.Stuck h = cc

-- ---- statements

module _ (P : Line → Type 0) (fed : Feeds Line line_step goes_on P) (ends : (m : Line) (s : Stmt) → line_end m ≡ Some s → P m) (tests : (k : Test) (o : COpnd) → P (line.TestClosed k o)) where
  line_part_fed : (s : Role) → Feeds Operand operand_step is_part (λ m. P (line.InOperand s m))
  line_part_fed s y f i m h =
      let Q : Bool → Type 0 = λ b. P (cond b (line.InOperand s (operand_step m y)) (lines.filled s m y)) in
      fed y f (part_goes_on y i) (line.InOperand s m) (subst Q (sym i) h)

  assigned : (p : CPath) (m : Right) → right_is_open m ≡ true → P (line.Assigned p m)
  assigned p m h =
      right_viable (λ x. P (line.Assigned p x)) (λ y f i x k. fed y f i (line.Assigned p x) k) (λ x r e. ends (line.Assigned p x) _ (ap (assignment p) e)) m h

  target_done : (p : CPath) → P (line.InOperand role.Target (operand.Path p))
  target_done p = fed equals tt refl (line.InOperand role.Target (operand.Path p)) (assigned p right.Wanted refl)

  call_closed : (f : List ℕ) (os : List COpnd) → P (line.CallClosed f os)
  call_closed f os = ends (line.CallClosed f os) _ refl

  returned_done : (m : Operand) (o : COpnd) → operand_end m ≡ Some o → P (line.InOperand role.Returned m)
  returned_done m o e = ends (line.InOperand role.Returned m) _ (ap (operand_line role.Returned) e)

  argument_done : (f : List ℕ) (os : List COpnd) (m : Operand) (o : COpnd) → operand_end m ≡ Some o → P (line.InOperand (role.Argument f os) m)
  argument_done f os m o e =
      let S : Option COpnd → Type 0 = λ z. P (argued f os z closing) in
      fed closing tt refl (line.InOperand (role.Argument f os) m) (subst S (sym e) (call_closed f (os ++ o ∷ [])))

  tested_done : (k : Test) (m : Operand) (o : COpnd) → operand_end m ≡ Some o → P (line.InOperand (role.Tested k) m)
  tested_done k m o e =
      let S : Option COpnd → Type 0 = λ z. P (tested k z closing) in
      fed closing tt refl (line.InOperand (role.Tested k) m) (subst S (sym e) (tests k o))

  in_role : (s : Role) (m : Operand) → lines.fits s m ≡ true → P (line.InOperand s m)
  in_role role.Target m h = path_viable (λ x. P (line.InOperand role.Target x)) (line_part_fed role.Target) target_done m h
  in_role role.Returned m h = operand_viable (λ x. P (line.InOperand role.Returned x)) (line_part_fed role.Returned) returned_done m h
  in_role (role.Argument f os) m h = operand_viable (λ x. P (line.InOperand (role.Argument f os) x)) (line_part_fed (role.Argument f os)) (argument_done f os) m h
  in_role (role.Tested k) m h = operand_viable (λ x. P (line.InOperand (role.Tested k) x)) (line_part_fed (role.Tested k)) (tested_done k) m h

  pub line_viable : (m : Line) → line_is_open m ≡ true → P m
  line_viable (line.InOperand s m) h = in_role s m h
  line_viable (line.Assigned p m) h = assigned p m h
  line_viable (line.CallOpened f) h = fed closing tt refl (line.CallOpened f) (call_closed f [])
  line_viable (line.CallClosed f os) h = call_closed f os
  line_viable (line.TestRead k) h = fed opening tt refl (line.TestRead k) (in_role (role.Tested k) operand.Wanted refl)
  line_viable (line.TestClosed k o) h = tests k o
  line_viable line.Stuck h = cc
