-- What lowering makes of the lowered parts of a node can be printed where these can, in a room for statements that are open inside each
-- other.
use Rattle.std.proofs.Common.{ℕ, suc, ◌+◌, ◌^◌, ◌<◌, Bool, true, false, cond, List, [], ◌∷◌, ◌++◌, length, map, nat_eq, nat_le, nat_lt, if◌then◌else◌, arith}
use Rattle.std.specs.List.{AllByRecursion}
use Rattle.cg_base.specs.declared.kind.Sigil.{Sigil}
use Rattle.cg_base.specs.declared.kind.Sigil.TheVariants.{R, W, U}
use Rattle.cg_base.specs.declared.kind.Word.{Word}
use Rattle.cg_base.specs.declared.kind.Word.TheVariants.{U8, U16, U32, U64}
use Rattle.cg_base.specs.Words.{bits}
use Rattle.cg_cgen_def.specs.Code.{inner, op_code}
use Rattle.cg_core.specs.declared.op.Op.{Op}
use Rattle.cg_core.specs.declared.op.Op.TheVariants as ops
use Rattle.cg_ctree.specs.declared.tree.COpnd.{COpnd}
use Rattle.cg_ctree.specs.declared.tree.COpnd.TheVariants.{Number, Path}
use Rattle.cg_ctree.specs.declared.tree.CPath.{CPath}
use Rattle.cg_ctree.specs.declared.tree.CRhs.{CRhs}
use Rattle.cg_ctree.specs.declared.tree.CRhs.TheVariants.{Opnd}
use Rattle.cg_ctree.specs.declared.tree.CTy.{CTy}
use Rattle.cg_ctree.specs.declared.tree.CTy.TheVariants as ty
use Rattle.cg_ctree.specs.Spells.{IsCName, IsInner, IsPrintableOpnd, IsPrintablePath, IsPrintableRight, IsPrintableStmt, IsPrintableBlock, IsPrintableType, SomeAll}
use Rattle.cg_ctree.specs.Trees.{Stmt, assign, to_block}
use Rattle.cg_cgen_def.specs.Bodies.{Low, leaf}
use Rattle.cg_lower_def.specs.Lowered.{Lows, and_then, arm, as_low, bare, bare_by, before, calling, chosen, converting, copy, fetching, filling, injecting, is_tagged, joined, low_case, low_cast, low_if, low_member, low_operator, low_put, operating, owned, owned_by, remainder, set}
use Rattle.cg_cgen_def.specs.Places.{Base, argument, local, Place, number, held, Step, field, tag, payload, arrow_path, at, base_of, operand, path}
use Rattle.cg_lower_laws.proofs.PrintedNames.{FitsPlace, arrow_prints, at_fits, operand_prints, path_prints}

-- ---- lists

pub all_append : {A : Type 0} (P : A → Type 0) (xs ys : List A) → AllByRecursion P xs → AllByRecursion P ys → AllByRecursion P (xs ++ ys)
all_append P [] ys a b = b
all_append P (x ∷ xs) ys a b = (a.0, all_append P xs ys a.1 b)

-- ---- statements

-- statements that can be printed, where so many may still be open inside each other
abbrev pub Print : ℕ → List Stmt → Type 0
Print room code = AllByRecursion (IsPrintableStmt room) code

-- a path that is set
pub assign_prints : (room : ℕ) (p : CPath) (r : CRhs) → IsPrintablePath p → IsPrintableRight r → IsPrintableStmt room (assign p r)
unfolding IsPrintableStmt
assign_prints room p r h i = (h, i)

-- they make a block that can be printed where one more may be open
pub block_prints : (room : ℕ) (code : List Stmt) → Print room code → IsPrintableBlock (suc room) (to_block code)
unfolding to_block IsPrintableBlock
block_prints room [] h = tt
block_prints room (s ∷ code) h = (h.0, block_prints room code h.1)

-- ---- operators

-- operands are cast to words of 32 or 64 bits
pub inner_is : (w : Word) → IsInner (inner w)
inner_is U8 = tt
inner_is U16 = tt
inner_is U32 = tt
inner_is U64 = tt

-- the bits of a word are few
few_bits : (w : Word) → bits w < 2 ^ 64
few_bits U8 = omega arith
few_bits U16 = omega arith
few_bits U32 = omega arith
few_bits U64 = omega arith

-- one or the other
one_prints : (room : ℕ) (b : Bool) (xs ys : List Stmt) → Print (suc room) xs → Print (suc room) ys → Print (suc room) (if b then xs else ys)
one_prints room true xs ys p q = p
one_prints room false xs ys p q = q

-- what sets a path to what an operator gives; its own branches have one statement each
pub op_prints : (room : ℕ) (o : Op) (w : Word) (to : CPath) (left right : COpnd) → IsPrintablePath to → IsPrintableOpnd left → IsPrintableOpnd right → Print (suc room) (op_code o w to left right)
unfolding IsPrintableStmt IsPrintableBlock
op_prints room ops.Add w to left right p l r = ((p, (inner_is w, l, r)), tt)
op_prints room ops.Sub w to left right p l r = ((p, (inner_is w, l, r)), tt)
op_prints room ops.Mul w to left right p l r = ((p, (inner_is w, l, r)), tt)
op_prints room ops.Div w to left (Path divisor) p l r = ((r, ((p, (inner_is w, l, r)), tt), ((p, omega arith), tt)), tt)
op_prints room ops.Div w to left (Number n) p l r = one_prints room (nat_eq n 0) _ _ ((p, omega arith), tt) ((p, (inner_is w, l, r)), tt)
op_prints room ops.Rem w to left (Path divisor) p l r = ((r, ((p, (inner_is w, l, r)), tt), ((p, omega arith), tt)), tt)
op_prints room ops.Rem w to left (Number n) p l r = one_prints room (nat_eq n 0) _ _ ((p, omega arith), tt) ((p, (inner_is w, l, r)), tt)
op_prints room ops.And w to left right p l r = ((p, (inner_is w, l, r)), tt)
op_prints room ops.Or w to left right p l r = ((p, (inner_is w, l, r)), tt)
op_prints room ops.Xor w to left right p l r = ((p, (inner_is w, l, r)), tt)
op_prints room ops.Shl w to left (Path shift) p l r = ((p, (inner_is w, r, few_bits w)), ((p, ((p, (inner_is w, l, r)), tt), tt), tt))
op_prints room ops.Shl w to left (Number n) p l r = one_prints room (nat_lt n (bits w)) _ _ ((p, (inner_is w, l, r)), tt) ((p, omega arith), tt)
op_prints room ops.Shr w to left (Path shift) p l r = ((p, (inner_is w, r, few_bits w)), ((p, ((p, (inner_is w, l, r)), tt), tt), tt))
op_prints room ops.Shr w to left (Number n) p l r = one_prints room (nat_lt n (bits w)) _ _ ((p, (inner_is w, l, r)), tt) ((p, omega arith), tt)
op_prints room ops.Eq w to left right p l r = ((p, (inner_is w, l, r)), tt)
op_prints room ops.Ne w to left right p l r = ((p, (inner_is w, l, r)), tt)
op_prints room ops.Lt w to left right p l r = ((p, (inner_is w, l, r)), tt)
op_prints room ops.Gt w to left right p l r = ((p, (inner_is w, l, r)), tt)
op_prints room ops.Le w to left right p l r = ((p, (inner_is w, l, r)), tt)
op_prints room ops.Ge w to left right p l r = ((p, (inner_is w, l, r)), tt)
op_prints room ops.Both w to left right p l r = ((p, (inner_is w, l, r)), tt)
op_prints room ops.Either w to left right p l r = ((p, (inner_is w, l, r)), tt)
op_prints room ops.Complement w to left right p l r = ((p, (inner_is w, l)), tt)
op_prints room ops.Not w to left right p l r = ((p, (inner_is w, l, omega arith)), tt)

-- ---- lowered terms

-- a lowered term that can be printed
pub record PrintsLow (room : ℕ) (a : Low) : Type 0 where
  pub value : FitsPlace a.value
  pub locals : AllByRecursion IsPrintableType a.locals
  pub code : Print room a.code

-- what has no statements
pub leaf_prints : (room : ℕ) (v : Place) → FitsPlace v → PrintsLow room (leaf v)
leaf_prints room v h = record { value = h; locals = tt; code = tt }

module _ (room : ℕ) where
  -- two lowered terms behind each other
  pub joined_prints : (a b : Low) → PrintsLow room a → PrintsLow room b → PrintsLow room (joined a b)
  joined_prints a b pa pb = record {
    value = pb.value;
    locals = all_append IsPrintableType a.locals b.locals pa.locals pb.locals;
    code = all_append (IsPrintableStmt room) a.code b.code pa.code pb.code;
  }

  before_prints : (a b : Low) → PrintsLow room a → PrintsLow room b → PrintsLow room (before a b)
  before_prints a b pa pb = record {
    value = pa.value;
    locals = all_append IsPrintableType a.locals b.locals pa.locals pb.locals;
    code = all_append (IsPrintableStmt room) a.code b.code pa.code pb.code;
  }

  -- and then statements
  and_then_prints : (a : Low) (code : List Stmt) → PrintsLow room a → Print room code → PrintsLow room (and_then a code)
  and_then_prints a code pa h = record { value = pa.value; locals = pa.locals; code = all_append (IsPrintableStmt room) a.code code pa.code h }

  -- a local that is set
  pub set_prints : (k : ℕ) (t : CTy) (a : Low) (code : ℕ → List Stmt) → IsPrintableType t → AllByRecursion IsPrintableType a.locals → Print room a.code → ((to : ℕ) → Print room (code to)) → PrintsLow room (set k t a code)
  set_prints k t a code is locals before' h = record {
    value = tt;
    locals = all_append IsPrintableType a.locals (t ∷ []) locals (is, tt);
    code = all_append (IsPrintableStmt room) a.code (code (k + length a.locals)) before' (h (k + length a.locals));
  }

  -- what sets a part of a local to a right side
  sets : (to : ℕ) (steps : List Step) (r : CRhs) → IsPrintableRight r → IsPrintableStmt room (assign (path (local to) steps) r)
  sets to steps r h = assign_prints room (path (local to) steps) r (path_prints (local to) steps) h

  -- a copy, and a copy in a local of its own
  pub copy_prints : (v : Place) (to : ℕ) → FitsPlace v → Print room (copy v to)
  copy_prints v to h = (sets to [] _ (operand_prints v h), tt)

  copied_prints : (k : ℕ) (t : CTy) (a : Low) (v : Place) → IsPrintableType t → PrintsLow room a → FitsPlace v → PrintsLow room (set k t a (copy v))
  copied_prints k t a v is p h = set_prints k t a (copy v) is p.locals p.code (λ to. copy_prints v to h)

  -- a value in a variable of its own, and in a local that nothing else is kept in
  bare_prints : (k : ℕ) (t : CTy) (a : Low) → IsPrintableType t → PrintsLow room a → PrintsLow room (bare k t a)
  bare_prints k t a is p = by_place a.value p.value
    where
      by_place : (v : Place) → FitsPlace v → PrintsLow room (bare_by k t a v)
      by_place (number n) h = copied_prints k t a (number n) is p h
      by_place (held b []) h = p
      by_place (held b (s ∷ steps)) h = copied_prints k t a (held b (s ∷ steps)) is p h

  owned_prints : (k : ℕ) (t : CTy) (a : Low) → IsPrintableType t → PrintsLow room a → PrintsLow room (owned k t a)
  owned_prints k t a is p = by_place a.value p.value
    where
      by_test : (b : Bool) → PrintsLow room (cond b a (set k t a (copy a.value)))
      by_test true = p
      by_test false = copied_prints k t a a.value is p p.value

      by_place : (v : Place) → FitsPlace v → PrintsLow room (owned_by k t a v)
      by_place (number n) h = copied_prints k t a (number n) is p h
      by_place (held argument steps) h = copied_prints k t a (held argument steps) is p h
      by_place (held (local j) []) h = by_test (nat_le k j)
      by_place (held (local j) (s ∷ steps)) h = copied_prints k t a (held (local j) (s ∷ steps)) is p h

  -- ---- nodes

  -- a branch, whose value a local gets
  arm_prints : (to : ℕ) (a : Low) → PrintsLow room a → Print room (arm to a)
  arm_prints to a p = all_append (IsPrintableStmt room) a.code (copy a.value to) p.code (copy_prints a.value to p.value)

  -- a choice is one statement more that is open
  chosen_prints : (flag : Place) (to : ℕ) (a b : Low) → FitsPlace flag → PrintsLow room a → PrintsLow room b → IsPrintableStmt (suc room) (chosen flag to a b)
  unfolding IsPrintableStmt
  chosen_prints flag to a b h pa pb = (operand_prints flag h, block_prints room (arm to a) (arm_prints to a pa), block_prints room (arm to b) (arm_prints to b pb))

  -- a condition
  pub if_prints : (k : ℕ) (t : CTy) (c a b : Low) → IsPrintableType t → PrintsLow (suc room) c → PrintsLow room a → PrintsLow room b → PrintsLow (suc room) (low_if k t c a b)
  if_prints k t c a b is pc pa pb = record {
    value = tt;
    locals = all_append IsPrintableType c.locals (t ∷ (a.locals ++ b.locals)) pc.locals (is, all_append IsPrintableType a.locals b.locals pa.locals pb.locals);
    code = all_append (IsPrintableStmt (suc room)) c.code _ pc.code (chosen_prints c.value (k + length c.locals) a b pc.value pa pb, tt);
  }

  -- a test of an alternative
  tagged_prints : (v : Place) (i flag : ℕ) → FitsPlace v → i < 2 ^ 64 → IsPrintableStmt room (is_tagged v i flag)
  tagged_prints v i flag h few = sets flag [] _ (tt, operand_prints (at tag v) (at_fits tag v h), few)

  -- an alternative, the fields of a record, and a field of a cell
  pub inject_prints : (i : ℕ) (v : Place) (to : ℕ) → i < 2 ^ 64 → FitsPlace v → Print room (injecting i v to)
  inject_prints i v to few h = (sets to (tag ∷ []) _ few, (sets to (payload i ∷ []) _ (operand_prints v h), tt))

  pub fill_prints : (i : ℕ) (vs : List Place) (to : ℕ) → AllByRecursion FitsPlace vs → Print room (filling i vs to)
  fill_prints i [] to h = tt
  fill_prints i (v ∷ vs) to h = (sets to (field i ∷ []) _ (operand_prints v h.0), fill_prints (suc i) vs to h.1)

  fetch_prints : (b : Base) (i to : ℕ) → Print room (fetching b i to)
  fetch_prints b i to = (sets to [] _ (arrow_prints b (field i)), tt)

  -- a call, with an operand at least
  pub call_prints : (f : List ℕ) (vs : List Place) (to : ℕ) → IsCName f → SomeAll IsPrintableOpnd (map operand vs) → Print room (calling f vs to)
  call_prints f vs to is h = (sets to [] _ (is, h), tt)

  -- a cast
  pub cast_prints : (k : ℕ) (w : Word) (a : Low) → PrintsLow room a → PrintsLow room (low_cast k w a a.value)
  cast_prints k w a p = by_place a.value p.value
    where
      by_place : (v : Place) → FitsPlace v → PrintsLow room (low_cast k w a v)
      by_place (number n) h = p
      by_place (held b steps) h = set_prints k (ty.Word w) a (converting w (held b steps)) tt p.locals p.code (λ to. (sets to [] _ (operand_prints (held b steps) h), tt))

  -- a field, and the record that is left behind a take
  pub member_prints : (k : ℕ) (s : Sigil) (r t : CTy) (i : ℕ) (e : Low) → IsPrintableType r → IsPrintableType t → PrintsLow room e → PrintsLow room (low_member k s r t i e)
  member_prints k U r t i e ir it p = record { value = at_fits (field i) e.value p.value; locals = p.locals; code = p.code }
  member_prints k R r t i e ir it p = let q = bare_prints k r e ir p in set_prints k t (bare k r e) (fetching (base_of (bare k r e).value) i) it q.locals q.code (λ to. fetch_prints (base_of (bare k r e).value) i to)
  member_prints k W r t i e ir it p = let q = bare_prints k r e ir p in set_prints k t (bare k r e) (fetching (base_of (bare k r e).value) i) it q.locals q.code (λ to. fetch_prints (base_of (bare k r e).value) i to)

  pub remainder_fits : (k : ℕ) (s : Sigil) (r : CTy) (e : Low) → IsPrintableType r → PrintsLow room e → FitsPlace (remainder k s r e)
  remainder_fits k U r e is p = p.value
  remainder_fits k R r e is p = (bare_prints k r e is p).value
  remainder_fits k W r e is p = (bare_prints k r e is p).value

  -- a put
  pub put_prints : (k : ℕ) (s : Sigil) (r : CTy) (i : ℕ) (e x : Low) → IsPrintableType r → PrintsLow room e → PrintsLow room x → PrintsLow room (low_put k s r i e x)
  put_prints k s r i e x is pe px = by_sigil s
    where
      both : PrintsLow room (before e x)
      both = before_prints e x pe px

      arrow : (b : Base) → Print room (assign (arrow_path b (field i ∷ [])) (Opnd (operand x.value)) ∷ [])
      arrow b = (assign_prints room (arrow_path b (field i ∷ [])) _ (arrow_prints b (field i)) (operand_prints x.value px.value), tt)

      here : (b : Base) → Print room (assign (path b (field i ∷ [])) (Opnd (operand x.value)) ∷ [])
      here b = (assign_prints room (path b (field i ∷ [])) _ (path_prints b (field i ∷ [])) (operand_prints x.value px.value), tt)

      by_sigil : (s : Sigil) → PrintsLow room (low_put k s r i e x)
      by_sigil U = and_then_prints (owned k r (before e x)) _ (owned_prints k r (before e x) is both) (here (base_of (owned k r (before e x)).value))
      by_sigil R = and_then_prints (bare k r (before e x)) _ (bare_prints k r (before e x) is both) (arrow (base_of (bare k r (before e x)).value))
      by_sigil W = and_then_prints (bare k r (before e x)) _ (bare_prints k r (before e x) is both) (arrow (base_of (bare k r (before e x)).value))

module _ (room : ℕ) where
  -- a match
  pub case_prints : (k : ℕ) (t : CTy) (i : ℕ) (e a b : Low) → IsPrintableType t → i < 2 ^ 64 → PrintsLow (suc room) e → PrintsLow room a → PrintsLow room b → PrintsLow (suc room) (low_case k t i e a b)
  case_prints k t i e a b is few pe pa pb = record {
    value = tt;
    locals = all_append IsPrintableType e.locals (ty.Word U8 ∷ t ∷ (a.locals ++ b.locals)) pe.locals (tt, (is, all_append IsPrintableType a.locals b.locals pa.locals pb.locals));
    code = all_append (IsPrintableStmt (suc room)) e.code _ pe.code
        (tagged_prints (suc room) e.value i (k + length e.locals) pe.value few, (chosen_prints room (held (local (k + length e.locals)) []) (suc (k + length e.locals)) a b tt pa pb, tt));
  }

  -- an operator has room for a branch of its own
  pub operator_prints : (two : Bool) (k : ℕ) (t : CTy) (o : Op) (w : Word) (e : Low) (v u : Place) → IsPrintableType t → PrintsLow (suc room) e → FitsPlace v → FitsPlace u
      → PrintsLow (suc room) (low_operator two k t e (operating o w v u))
  operator_prints true k t o w e v u is p hv hu =
      set_prints (suc room) k t e (operating o w v u) is p.locals p.code
      (λ to. op_prints room o w (path (local to) []) (operand v) (operand u) (path_prints (local to) []) (operand_prints v hv) (operand_prints u hu))
  operator_prints false k t o w e v u is p hv hu = record { value = omega arith; locals = p.locals; code = p.code }

-- the fields of a record that can be printed
pub record PrintLows (room : ℕ) (ls : Lows) : Type 0 where
  pub values : AllByRecursion FitsPlace ls.values
  pub locals : AllByRecursion IsPrintableType ls.locals
  pub code : Print room ls.code

-- a record that is made
pub struct_prints : (room k : ℕ) (t : CTy) (ls : Lows) → IsPrintableType t → PrintLows room ls → PrintsLow room (set k t (as_low ls) (filling 0 ls.values))
struct_prints room k t ls is p = set_prints room k t (as_low ls) (filling 0 ls.values) is p.locals p.code (λ to. fill_prints room 0 ls.values to p.values)
