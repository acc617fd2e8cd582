-- The machine reads each right side that the tokens spell.
use Rattle.std.proofs.Common.{◌≡◌, ℕ, List, [], ◌∷◌, ◌++◌, refl, sym, ap, subst, append_assoc, true, false, Bool, cond, Option, Some, lit<}
use Rattle.std.specs.Prelude.{codes}
use Rattle.cg_base.specs.declared.kind.Word.{Word}
use Rattle.cg_base.specs.declared.kind.Word.TheVariants.{U8, U16, U32, U64}
use Rattle.cg_base.proofs.WordLaws.{word_same}
use Rattle.cg_ctree.specs.declared.tree.COp.{COp}
use Rattle.cg_ctree.specs.declared.tree.COp.TheVariants.{Eq}
use Rattle.cg_ctree.specs.declared.tree.COpnd.{COpnd}
use Rattle.cg_ctree.specs.declared.tree.CRhs.{CRhs}
use Rattle.cg_ctree.specs.declared.tree.CRhs.TheVariants.{Opnd, Conv, Binary, Flip, IsNull, Call, New}
use Rattle.cg_ctree.specs.Spells.{mark, token, IsInner, ReadsOpnd, ReadsTo, ReadsCast, ReadsMore, ReadsRight}
use Rattle.cg_ctree.specs.Tokens.{plain, Lexeme}
use Rattle.cg_cread_parts.specs.Operands.{path_of, operand_step, operand_end}
use Rattle.cg_cread_pieces.specs.Rights.{is_inner, allows, behind, filled, operand_right, right_step, right_end}
use Rattle.cg_cread_parts.specs.Symbols.{Symbol, named, typed, keyed, number, count, opening, closing, comma, tilde, operation, is_part, goes_on, token_of}
use Rattle.cg_cread_parts.specs.declared.operand.Operand.{Operand}
use Rattle.cg_cread_parts.specs.declared.operand.Operand.TheVariants as operand
use Rattle.cg_cread_pieces.specs.declared.right.Cast.{Cast}
use Rattle.cg_cread_pieces.specs.declared.right.Cast.TheVariants.{OfFlip, OfLeft, OfRight}
use Rattle.cg_cread_pieces.specs.declared.right.Spot.TheVariants.{Before, Opened, Typed}
use Rattle.cg_cread_pieces.specs.declared.right.Slot.{Slot}
use Rattle.cg_cread_pieces.specs.declared.right.Slot.TheVariants as slot
use Rattle.cg_cread_pieces.specs.declared.right.Size.TheVariants as size
use Rattle.cg_cread_pieces.specs.declared.right.Right.{Right}
use Rattle.cg_cread_pieces.specs.declared.right.Right.TheVariants as right
use Rattle.cg_cread_parts.specs.declared.symbol.Keyword.TheVariants as key
use Rattle.cg_cread_parts.proofs.Carried.{Moves}
use Rattle.cg_cread_parts.proofs.Digits.{zero_text}
use Rattle.cg_cread_parts.proofs.Known.{Fits}
use Rattle.cg_cread_parts.proofs.OperandComplete.{operand_read}

is_inner_word : (v : Word) → IsInner v → is_inner v ≡ true
is_inner_word U8 h = absurd h
is_inner_word U16 h = absurd h
is_inner_word U32 h = refl
is_inner_word U64 h = refl

-- what is of an operand goes on
pub part_goes_on : (y : Symbol) → is_part y ≡ true → goes_on y ≡ true
part_goes_on (named x) i = refl
part_goes_on (number n) i = refl
part_goes_on _ i = cc

module _ (P : Right → List Lexeme → Type 0) (move : Moves Right right_step goes_on P) where
  -- a symbol of an operand, in it
  part_move : (s : Slot) → Moves Operand operand_step is_part (λ m ts. P (right.InOperand s m) ts)
  part_move s y f i m ts rest t h =
      let Q : Bool → Type 0 = λ b. P (cond b (right.InOperand s (operand_step m y)) (filled s (operand_end m) y)) rest in
      move y f (part_goes_on y i) (right.InOperand s m) ts rest t (subst Q (sym i) h)

  -- what holds wherever an operand ends
  abbrev Behind : Slot → COpnd → List Lexeme → Type 0
  Behind s o rest = (x : Operand) → operand_end x ≡ Some o → P (right.InOperand s x) rest

  -- an operand, from a state that its first symbol leads into it
  from : (m : Right) (s : Slot) → ((x : List ℕ) → right_step m (named x) ≡ right.InOperand s (operand.Path (path_of x))) → ((n : ℕ) → right_step m (number n) ≡ right.InOperand s (operand.Number n)) → (o : COpnd) (ts rest : List Lexeme) → ReadsOpnd o ts rest → Behind s o rest → P m ts
  from m s a b o ts rest r h =
      operand_read (λ x us. P (right.InOperand s x) us) (part_move s) (P m)
      (λ x us mid t k. let Q : Right → Type 0 = λ z. P z mid in move (named x) tt refl m us mid t (subst Q (sym (a x)) k))
      (λ n us mid f t k. let Q : Right → Type 0 = λ z. P z mid in move (number n) f refl m us mid t (subst Q (sym (b n)) k))
      o ts rest r h

  within : (s : Slot) (o : COpnd) (ts rest : List Lexeme) → ReadsOpnd o ts rest → Behind s o rest → P (right.InOperand s operand.Wanted) ts
  within s o ts rest r h = from (right.InOperand s operand.Wanted) s (λ x. refl) (λ n. refl) o ts rest r h

  -- a symbol behind an operand
  next : (s : Slot) (o : COpnd) (y : Symbol) → Fits y → goes_on y ≡ true → is_part y ≡ false → (ts rest : List Lexeme) → token (token_of y) ts rest → P (behind s o y) rest → Behind s o ts
  next s o y f i j ts rest t h x e =
      let Q : Bool → Type 0 = λ b. P (cond b (right.InOperand s (operand_step x y)) (filled s (operand_end x) y)) rest in
      let S : Option COpnd → Type 0 = λ z. P (filled s z y) rest in
      move y f i (right.InOperand s x) ts rest t (subst Q (sym j) (subst S (sym e) h))

  to_read : (w : Word) (ts rest : List Lexeme) → ReadsTo w ts rest → P (right.Outer w) rest → P right.Wanted ts
  to_read w ts rest r h =
      move opening tt refl right.Wanted ts r.0 r.1 (move (typed w) tt refl right.Opened r.0 r.2.0 r.2.1 (move closing tt refl (right.Typed w) r.2.0 rest r.2.2 h))

  -- a cast, from a state that goes into it at its `(`
  cast_read : (m : Right) (w : Word) (c : Cast) → right_step m opening ≡ right.InCast w c Opened → (v : Word) → allows c v ≡ true → (o : COpnd) (ts rest : List Lexeme) → ReadsCast v o ts rest → Behind (slot.OfCast w c v) o rest → P m ts
  cast_read m w c enter v fit o ts rest r h =
      let q = r.1 in
      let Q : Right → Type 0 = λ z. P z q.0 in
      let S : Bool → Type 0 = λ b. P (cond b (right.InCast w c (Typed v)) right.Stuck) q.2.0 in
      move opening tt refl m ts q.0 q.1
      (subst Q (sym enter)
      (move (typed v) tt refl (right.InCast w c Opened) q.0 q.2.0 q.2.1
      (subst S (sym fit)
      (move closing tt refl (right.InCast w c (Typed v)) q.2.0 r.0 q.2.2 (within (slot.OfCast w c v) o r.0 rest r.2 h)))))

  binary_read : (w v : Word) (p : COp) (l r : COpnd) (ts rest : List Lexeme) → ReadsRight (Binary w v p l r) ts rest → P (right.Whole (Binary w v p l r)) rest → P right.Wanted ts
  binary_read w v p l r ts rest h k =
      let a = h.1 in let b = a.2 in let e = b.2 in let f = e.2 in let g = f.2 in
      to_read w ts a.0 a.1
      (move opening tt refl (right.Outer w) a.0 b.0 b.1
      (cast_read (right.Inner w) w OfLeft refl v (is_inner_word v h.0) l b.0 e.0 e.1
      (next (slot.OfCast w OfLeft v) l (operation p) tt refl refl e.0 f.0 f.1
      (cast_read (right.InCast w (OfRight v p l) Before) w (OfRight v p l) refl v (word_same v) r f.0 g.0 g.1
      (next (slot.OfCast w (OfRight v p l) v) r closing tt refl refl g.0 rest g.2 k)))))

  flip_read : (w v : Word) (o : COpnd) (ts rest : List Lexeme) → ReadsRight (Flip w v o) ts rest → P (right.Whole (Flip w v o)) rest → P right.Wanted ts
  flip_read w v o ts rest h k =
      let a = h.1 in let b = a.2 in let e = b.2 in let f = e.2 in
      to_read w ts a.0 a.1
      (move opening tt refl (right.Outer w) a.0 b.0 b.1
      (move tilde tt refl (right.Inner w) b.0 e.0 e.1
      (cast_read (right.InCast w OfFlip Before) w OfFlip refl v (is_inner_word v h.0) o e.0 f.0 f.1
      (next (slot.OfCast w OfFlip v) o closing tt refl refl f.0 rest f.2 k))))

  null_read : (o : COpnd) (ts rest : List Lexeme) → ReadsRight (IsNull o) ts rest → P (right.Whole (IsNull o)) rest → P right.Wanted ts
  null_read o ts rest h k =
      let b = h.2 in let e = b.2 in let f = e.2 in let g = f.2 in
      let Q : List ℕ → Type 0 = λ z. token (plain z) f.0 g.0 in
      to_read U8 ts h.0 h.1
      (move opening tt refl (right.Outer U8) h.0 b.0 b.1
      (from (right.Inner U8) slot.Tested (λ x. refl) (λ n. refl) o b.0 e.0 e.1
      (next slot.Tested o (operation Eq) tt refl refl e.0 f.0 f.1
      (move (count 0) (lit< tt) refl (right.NullSign o) f.0 g.0 (subst Q (sym zero_text) g.1)
      (move closing tt refl (right.NullZero o) g.0 rest g.2 k)))))

  -- ---- calls

  more_read : (os : List COpnd) (f : List ℕ) (before : List COpnd) (o : COpnd) (ts mid rest : List Lexeme) → ReadsMore ReadsOpnd os ts mid → mark (codes ")") mid rest → P (right.Whole (Call f (before ++ o ∷ os))) rest → Behind (slot.Argument f before) o ts
  more_read [] f before o ts mid rest r c h =
      let Q : List Lexeme → Type 0 = λ us. mark (codes ")") us rest in
      next (slot.Argument f before) o closing tt refl refl ts rest (subst Q (sym r) c) h
  more_read (p ∷ os) f before o ts mid rest r c h =
      let Q : List COpnd → Type 0 = λ z. P (right.Whole (Call f z)) rest in
      next (slot.Argument f before) o comma tt refl refl ts r.0 r.1
      (within (slot.Argument f (before ++ o ∷ [])) p r.0 r.2.0 r.2.1
      (more_read os f (before ++ o ∷ []) p r.2.0 mid rest r.2.2 c (subst Q (sym (append_assoc before (o ∷ []) (p ∷ os))) h)))

  -- behind the first argument
  further_read : (os : List COpnd) (f : List ℕ) (o : COpnd) (ts mid rest : List Lexeme) → ReadsMore ReadsOpnd os ts mid → mark (codes ")") mid rest → P (right.Whole (Call f (o ∷ os))) rest → Behind (slot.First f) o ts
  further_read [] f o ts mid rest r c h =
      let Q : List Lexeme → Type 0 = λ us. mark (codes ")") us rest in
      next (slot.First f) o closing tt refl refl ts rest (subst Q (sym r) c) h
  further_read (p ∷ os) f o ts mid rest r c h =
      next (slot.First f) o comma tt refl refl ts r.0 r.1
      (from (right.Second f o) (slot.Argument f (o ∷ [])) (λ x. refl) (λ n. refl) p r.0 r.2.0 r.2.1
      (more_read os f (o ∷ []) p r.2.0 mid rest r.2.2 c h))

  call_read : (f : List ℕ) (os : List COpnd) (ts rest : List Lexeme) → ReadsRight (Call f os) ts rest → P (right.Whole (Call f os)) rest → P right.Wanted ts
  call_read f [] ts rest h k = absurd h.2.2.1
  call_read f (o ∷ os) ts rest h k =
      let a = h.2 in let b = a.2 in let c = b.1 in
      move (named f) tt refl right.Wanted ts h.0 h.1
      (move opening tt refl (right.InOperand slot.Alone (operand.Path (path_of f))) h.0 a.0 a.1
      (within (slot.First f) o a.0 c.0 c.1 (further_read os f o c.0 b.0 rest c.2 b.2 k)))

  new_read : (o : COpnd) (s : List ℕ) (ts rest : List Lexeme) → ReadsRight (New o s) ts rest → P (right.Whole (New o s)) rest → P right.Wanted ts
  new_read o s ts rest h k =
      let a = h.2 in let b = a.2 in let c = b.2 in let d = c.2 in
      let z = d.1 in let y = z.2 in let x = y.2 in
      let f : List ℕ = codes "cg_new" in
      move (named f) tt refl right.Wanted ts h.0 h.1
      (move opening tt refl (right.InOperand slot.Alone (operand.Path (path_of f))) h.0 a.0 a.1
      (within (slot.First f) o a.0 b.0 b.1
      (next (slot.First f) o comma tt refl refl b.0 c.0 c.1
      (move (keyed key.Sizeof) tt refl (right.Second f o) c.0 z.0 z.1
      (move opening tt refl (right.InSize o size.Begun) z.0 y.0 y.1
      (move (keyed key.Struct) tt refl (right.InSize o size.Opened) y.0 x.1.0 x.1.1
      (move (named s) tt refl (right.InSize o size.StructRead) x.1.0 x.0 x.1.2
      (move closing tt refl (right.InSize o (size.Named s)) x.0 d.0 x.2
      (move closing tt refl (right.InSize o (size.Closed s)) d.0 rest d.2 k)))))))))

  -- each right side that is spelled is read, where this holds wherever it ends
  pub right_read : (r : CRhs) (ts rest : List Lexeme) → ReadsRight r ts rest → ((m : Right) → right_end m ≡ Some r → P m rest) → P right.Wanted ts
  right_read (Opnd o) ts rest h k = from right.Wanted slot.Alone (λ x. refl) (λ n. refl) o ts rest h (λ x e. k (right.InOperand slot.Alone x) (ap (operand_right slot.Alone) e))
  right_read (Conv w o) ts rest h k =
      to_read w ts h.0 h.1 (from (right.Outer w) (slot.Converted w) (λ x. refl) (λ n. refl) o h.0 rest h.2 (λ x e. k (right.InOperand (slot.Converted w) x) (ap (operand_right (slot.Converted w)) e)))
  right_read (Binary w v p l r) ts rest h k = binary_read w v p l r ts rest h (k (right.Whole (Binary w v p l r)) refl)
  right_read (Flip w v o) ts rest h k = flip_read w v o ts rest h (k (right.Whole (Flip w v o)) refl)
  right_read (IsNull o) ts rest h k = null_read o ts rest h (k (right.Whole (IsNull o)) refl)
  right_read (Call f os) ts rest h k = call_read f os ts rest h (k (right.Whole (Call f os)) refl)
  right_read (New o s) ts rest h k = new_read o s ts rest h (k (right.Whole (New o s)) refl)
