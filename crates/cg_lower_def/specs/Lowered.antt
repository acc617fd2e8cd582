-- The C of a term. A node that computes something has a local of its own; parts of what is there already are paths, and no copies
-- (docs/LANGUAGE.md, "The C of instances", forms).
use Rattle.std.specs.Prelude.{ℕ, zero, suc, ◌+◌, Bool, true, false, not, List, [], ◌∷◌, ◌++◌, length, get_or, map, nat_le, unwrap_or, Option, Some, None, if◌then◌else◌}
use Rattle.cg_base.specs.declared.fun.Fun.{Fun}
use Rattle.cg_base.specs.declared.kind.Sigil.{Sigil}
use Rattle.cg_base.specs.declared.kind.Sigil.TheVariants.{R, W, U}
use Rattle.cg_base.specs.declared.kind.Word.{Word}
use Rattle.cg_base.specs.declared.kind.Word.TheVariants.{U8, U32}
use Rattle.cg_base.specs.Same.{same_type}
use Rattle.cg_base.specs.Types.{Tau, word}
use Rattle.cg_cgen_def.specs.Code.{op_code, takes_two}
use Rattle.cg_core.specs.declared.op.Op.{Op}
use Rattle.cg_core.specs.Terms.{Arg, Note, Tree, term, Shape, var, unit, bool, lit, fun, op, app, lets, let_bang, if_else, con, case_of, esac, struct, member, take_field, put, cast, annot, none, more, Named, end, field as named}
use Rattle.cg_ctree.specs.declared.tree.COp.TheVariants as cop
use Rattle.cg_ctree.specs.declared.tree.COpnd.TheVariants.{Number, Path}
use Rattle.cg_ctree.specs.declared.tree.CRhs.TheVariants.{Opnd, Conv, Binary, Call}
use Rattle.cg_ctree.specs.declared.tree.CTy.{CTy}
use Rattle.cg_ctree.specs.declared.tree.CTy.TheVariants as ty
use Rattle.cg_ctree.specs.Trees.{Stmt, assign, branch, to_block}
use Rattle.cg_eval_operations.specs.Operators.{truth}
use Rattle.cg_eval_operations.specs.Positions.{position}
use Rattle.cg_typing.specs.Functions.{arg_types}
use Rattle.cg_typing.specs.Instances.{Instance}
use Rattle.cg_typing.specs.Rules.{type_at}
use Rattle.cg_update.specs.Turns.{field_type, place_in}
use Rattle.cg_update.specs.Updates.{place_of, sigil_of}
use Rattle.cg_cgen_def.specs.Names.{name, dispatch_name, function_name}
use Rattle.cg_lower_def.specs.CTypes.{c_type}
use Rattle.cg_cgen_def.specs.Places.{field, tag, payload, Base, local, Place, number, held, at, path, arrow_path, operand, base_of}
use Rattle.cg_cgen_def.specs.Bodies.{Low, leaf}

-- where an arrow type stands among those of calls through function values; past their end, where it doesn't
unfoldable pub arrow_number : List Tau → Tau → ℕ
arrow_number [] t = zero
arrow_number (u ∷ us) t = if same_type u t then zero else suc (arrow_number us t)

-- what lowering knows of the whole: a number for each struct, the arrow types of calls through function values, those of iterators among
-- them, and the list of instances
pub record Whole : Type 0 where
  pub numbered : Tau → ℕ
  pub arrows : List Tau
  pub list : List Instance

-- one behind the other, with the value of the second
abbrev pub joined : Low → Low → Low
joined a b = record { value = b.value; locals = a.locals ++ b.locals; code = a.code ++ b.code }

-- one behind the other, with the value of the first
abbrev pub before : Low → Low → Low
before a b = record { value = a.value; locals = a.locals ++ b.locals; code = a.code ++ b.code }

-- and then statements
abbrev pub and_then : Low → List Stmt → Low
and_then a stmts = record { value = a.value; locals = a.locals; code = a.code ++ stmts }

-- and then a local of a type, which statements set to the value. Locals are counted from k on.
abbrev pub set : ℕ → CTy → Low → (ℕ → List Stmt) → Low
set k t a stmts = record {
  value = held (local (k + length a.locals)) [];
  locals = a.locals ++ t ∷ [];
  code = a.code ++ stmts (k + length a.locals);
}

-- the statement that copies a value to a local
abbrev pub copy : Place → ℕ → List Stmt
copy v j = assign (path (local j) []) (Opnd (operand v)) ∷ []

-- the value in a variable of its own, where it isn't one already
abbrev pub bare_by : ℕ → CTy → Low → Place → Low
bare_by k t a (held b []) = a
bare_by k t a v = set k t a (copy v)

abbrev pub bare : ℕ → CTy → Low → Low
bare k t a = bare_by k t a a.value

-- the value in a local that nothing else is kept in: one from k on, which this term's own node has set
abbrev pub owned_by : ℕ → CTy → Low → Place → Low
owned_by k t a (held (local j) []) = if nat_le k j then a else set k t a (copy a.value)
owned_by k t a v = set k t a (copy v)

abbrev pub owned : ℕ → CTy → Low → Low
owned k t a = owned_by k t a a.value

abbrev pub literal : Option ℕ → ℕ
literal None = 0
literal (Some n) = n

-- the word of a type in C
abbrev pub word_of : Tau → Word
word_of (word w) = w
word_of t = U8

-- ---- nodes, of their lowered parts

-- a branch, whose value a local gets
abbrev pub arm : ℕ → Low → List Stmt
arm to a = a.code ++ copy a.value to

-- a choice by a number that is kept at a place
abbrev pub chosen : Place → ℕ → Low → Low → Stmt
chosen flag to a b = branch (operand flag) (to_block (arm to a)) (to_block (arm to b))

abbrev pub low_if : ℕ → CTy → Low → Low → Low → Low
low_if k t c a b = record {
  value = held (local (k + length c.locals)) [];
  locals = c.locals ++ t ∷ (a.locals ++ b.locals);
  code = c.code ++ chosen c.value (k + length c.locals) a b ∷ [];
}

-- whether a variant is of the alternative at a place
abbrev pub is_tagged : Place → ℕ → ℕ → Stmt
is_tagged v i flag = assign (path (local flag) []) (Binary U8 U32 cop.Eq (operand (at tag v)) (Number i))

abbrev pub low_case : ℕ → CTy → ℕ → Low → Low → Low → Low
low_case k t i e a b = record {
  value = held (local (suc (k + length e.locals))) [];
  locals = e.locals ++ ty.Word U8 ∷ t ∷ (a.locals ++ b.locals);
  code = e.code ++ is_tagged e.value i (k + length e.locals) ∷ chosen (held (local (k + length e.locals)) []) (suc (k + length e.locals)) a b ∷ [];
}

-- a call, by the name of a function
abbrev pub calling : List ℕ → List Place → ℕ → List Stmt
calling f vs to = assign (path (local to) []) (Call f (map operand vs)) ∷ []

-- what is given by an operator that takes so many operands: by one that takes others it is 0
abbrev pub low_operator : Bool → ℕ → CTy → Low → (ℕ → List Stmt) → Low
low_operator true k t e stmts = set k t e stmts
low_operator false k t e stmts = record { value = number 0; locals = e.locals; code = e.code }

abbrev pub operating : Op → Word → Place → Place → ℕ → List Stmt
operating o w v u to = op_code o w (path (local to) []) (operand v) (operand u)

-- an alternative
abbrev pub injecting : ℕ → Place → ℕ → List Stmt
injecting i v to = assign (path (local to) (tag ∷ [])) (Opnd (Number i)) ∷ assign (path (local to) (payload i ∷ [])) (Opnd (operand v)) ∷ []

-- the fields of a record from number i on
abbrev pub filling : ℕ → List Place → ℕ → List Stmt
filling i [] to = []
filling i (v ∷ vs) to = assign (path (local to) (field i ∷ [])) (Opnd (operand v)) ∷ filling (suc i) vs to

-- a field of the cell that a variable points to
abbrev pub fetching : Base → ℕ → ℕ → List Stmt
fetching b i to = assign (path (local to) []) (Opnd (Path (arrow_path b (field i ∷ [])))) ∷ []

abbrev pub converting : Word → Place → ℕ → List Stmt
converting w v to = assign (path (local to) []) (Conv w (operand v)) ∷ []

-- a field, of the type t, of a record of the type r: a part of an unboxed one, or read from the cell
abbrev pub low_member : ℕ → Sigil → CTy → CTy → ℕ → Low → Low
low_member k U r t i e = record { value = at (field i) e.value; locals = e.locals; code = e.code }
low_member k R r t i e = let p = bare k r e in set k t p (fetching (base_of p.value) i)
low_member k W r t i e = let p = bare k r e in set k t p (fetching (base_of p.value) i)

-- the record that is left behind a take, where its field is read as above
abbrev pub remainder : ℕ → Sigil → CTy → Low → Place
remainder k U r e = e.value
remainder k R r e = (bare k r e).value
remainder k W r e = (bare k r e).value

-- a put: a field is set in the record itself, which is copied before where it may be used elsewhere
abbrev pub low_put : ℕ → Sigil → CTy → ℕ → Low → Low → Low
low_put k U r i e x = let o = owned k r (before e x) in and_then o (assign (path (base_of o.value) (field i ∷ [])) (Opnd (operand x.value)) ∷ [])
low_put k R r i e x = let p = bare k r (before e x) in and_then p (assign (arrow_path (base_of p.value) (field i ∷ [])) (Opnd (operand x.value)) ∷ [])
low_put k W r i e x = let p = bare k r (before e x) in and_then p (assign (arrow_path (base_of p.value) (field i ∷ [])) (Opnd (operand x.value)) ∷ [])

-- a number is of every word that it is in range of
abbrev pub low_cast : ℕ → Word → Low → Place → Low
low_cast k w e (number n) = e
low_cast k w e (held b steps) = set k (ty.Word w) e (converting w (held b steps))

-- the lowered fields of a record: where each is kept
pub record Lows : Type 0 where
  pub values : List Place
  pub locals : List CTy
  pub code : List Stmt

abbrev pub as_low : Lows → Low
as_low ls = record { value = number 0; locals = ls.locals; code = ls.code }

-- ---- terms

module _ (whole : Whole) where
  abbrev pub typed : Tau → CTy
  typed t = c_type whole.numbered t

  -- the place of an instance in the list
  abbrev pub place : Fun → List Arg → ℕ
  place f args = unwrap_or (place_of (record { fun = f; types = arg_types args }) whole.list) 0

  -- the function that is called, and what it is called with: one that is named, or the one of an arrow type, with the place of the instance
  abbrev pub callee : Tree Note → List ℕ
  callee (term note (fun f args)) = function_name (place f args)
  callee t = dispatch_name (arrow_number whole.arrows (type_at t))

  abbrev pub call_operands : Tree Note → Place → Place → List Place
  call_operands (term note (fun f args)) v x = x ∷ []
  call_operands t v x = v ∷ x ∷ []

  -- A term whose variables are kept at these places and whose locals are counted from k on.
  unfoldable mutual
    pub low : ℕ → List Place → Tree Note → Low
    low k os (term note shape) = low_shape k os note.ty shape

    pub low_shape : ℕ → List Place → Tau → Shape Note → Low
    low_shape k os t (var i) = leaf (get_or os i (number 0))
    low_shape k os t unit = leaf (number 0)
    low_shape k os t (bool b) = leaf (number (truth b))
    low_shape k os t (lit n) = leaf (number (literal n))
    low_shape k os t (fun f args) = leaf (number (place f args))
    low_shape k os t (op o (more a none)) =
        let e = low k os a in
        low_operator (not (takes_two o)) k (typed t) e (operating o (word_of (type_at a)) e.value e.value)
    low_shape k os t (op o (more a (more b none))) =
        let e = low k os a in
        let x = low (k + length e.locals) os b in
        low_operator (takes_two o) k (typed t) (joined e x) (operating o (word_of (type_at a)) e.value x.value)
    low_shape k os t (op o ts) = leaf (number 0)
    low_shape k os t (app f x) =
        let e = low k os f in
        let a = low (k + length e.locals) os x in
        set k (typed t) (joined e a) (calling (callee f) (call_operands f e.value a.value))
    low_shape k os t (lets binder e b) = let x = low k os e in joined x (low (k + length x.locals) (os ++ x.value ∷ []) b)
    low_shape k os t (let_bang observers binder e b) = let x = low k os e in joined x (low (k + length x.locals) (os ++ x.value ∷ []) b)
    low_shape k os t (if_else c x y) =
        let e = low k os c in
        let a = low (suc (k + length e.locals)) os x in
        low_if k (typed t) e a (low (suc (k + length e.locals) + length a.locals) os y)
    low_shape k os t (con x e) = let p = low k os e in set k (typed t) p (injecting (place_in x t) p.value)
    low_shape k os t (case_of s at' binder x y) =
        let e = low k os s in
        let i = place_in at'.name (type_at s) in
        let a = low (suc (suc (k + length e.locals))) (os ++ at (payload i) e.value ∷ []) x in
        low_case k (typed t) i e a (low (suc (suc (k + length e.locals)) + length a.locals) (os ++ e.value ∷ []) y)
    low_shape k os t (esac at' s) = let e = low k os s in record { value = at (payload (place_in at'.name (type_at s))) e.value; locals = e.locals; code = e.code }
    low_shape k os t (struct fs) = let ls = low_fields k os fs in set k (typed t) (as_low ls) (filling 0 ls.values)
    low_shape k os t (member r at') =
        low_member k (sigil_of (type_at r)) (typed (type_at r)) (typed t) (position at'.name (type_at r)) (low k os r)
    low_shape k os t (take_field r at' rest binder b) =
        let e = low k os r in
        let i = position at'.name (type_at r) in
        let v = low_member k (sigil_of (type_at r)) (typed (type_at r)) (typed (field_type (type_at r) i)) i e in
        joined v (low (k + length v.locals) (os ++ remainder k (sigil_of (type_at r)) (typed (type_at r)) e ∷ v.value ∷ []) b)
    low_shape k os t (put r at' x) =
        let e = low k os r in
        low_put k (sigil_of (type_at r)) (typed (type_at r)) (position at'.name (type_at r)) e (low (k + length e.locals) os x)
    low_shape k os t (cast e) = let x = low k os e in low_cast k (word_of t) x x.value
    low_shape k os t (annot e a) = low k os e

    pub low_fields : ℕ → List Place → Named Note → Lows
    low_fields k os end = record { values = []; locals = []; code = [] }
    low_fields k os (named x e fs) =
        let a = low k os e in
        let ls = low_fields (k + length a.locals) os fs in
        record { values = a.value ∷ ls.values; locals = a.locals ++ ls.locals; code = a.code ++ ls.code }
