-- The C of operators (docs/LANGUAGE.md, "Operators in C").
use Rattle.std.specs.Prelude.{ℕ, nat_eq, nat_lt, Bool, true, false, List, [], ◌∷◌, if◌then◌else◌}
use Rattle.cg_base.specs.declared.kind.Word.{Word}
use Rattle.cg_base.specs.declared.kind.Word.TheVariants.{U8, U32, U64}
use Rattle.cg_base.specs.Words.{bits}
use Rattle.cg_core.specs.declared.op.Op.{Op}
use Rattle.cg_core.specs.declared.op.Op.TheVariants as ops
use Rattle.cg_ctree.specs.declared.tree.COp.{COp}
use Rattle.cg_ctree.specs.declared.tree.COp.TheVariants as op
use Rattle.cg_ctree.specs.declared.tree.COpnd.{COpnd}
use Rattle.cg_ctree.specs.declared.tree.COpnd.TheVariants.{Number, Path}
use Rattle.cg_ctree.specs.declared.tree.CPath.{CPath}
use Rattle.cg_ctree.specs.declared.tree.CRhs.TheVariants.{Opnd, Binary, Flip}
use Rattle.cg_ctree.specs.Trees.{Stmt, Block, stop, also, assign, branch}

-- the word that operations on a word are computed in
abbrev pub inner : Word → Word
inner U64 = U64
inner _ = U32

-- the word of what an operator gives of operands of a word: of a test that of truth values
abbrev pub word_given : Op → Word → Word
word_given ops.Eq word = U8
word_given ops.Ne word = U8
word_given ops.Lt word = U8
word_given ops.Gt word = U8
word_given ops.Le word = U8
word_given ops.Ge word = U8
word_given ops.Both word = U8
word_given ops.Either word = U8
word_given ops.Not word = U8
word_given _ word = word

-- an operator takes two operands
abbrev pub takes_two : Op → Bool
takes_two ops.Complement = false
takes_two ops.Not = false
takes_two _ = true

-- `to = (w)((v)left o (v)right);`, on operands of a word whose inner word is v
abbrev pub computed_by : COp → Word → Word → CPath → COpnd → COpnd → Stmt
computed_by o outer word to left right = assign to (Binary outer (inner word) o left right)

abbrev pub only : Stmt → Block
only s = also s stop

-- `to = 0ull;`
abbrev pub zero_set : CPath → List Stmt
zero_set to = assign to (Opnd (Number 0)) ∷ []

-- `if (right) { to = (w)((v)left o (v)right); } else { to = 0ull; }`: where the divisor is 0 that is what is given
abbrev pub divided_by : COp → Word → CPath → COpnd → COpnd → List Stmt
divided_by o word to left right =
    branch right (only (computed_by o word word to left right)) (only (assign to (Opnd (Number 0)))) ∷ []

-- `to = (w)((v)right < (v)n); if (to) { to = (w)((v)left o (v)right); } else { }`, on words of n bits: a shift by as many or more gives 0
abbrev pub shifted_by : COp → Word → CPath → COpnd → COpnd → List Stmt
shifted_by o word to left right =
    computed_by op.Lt word word to right (Number (bits word)) ∷ branch (Path to) (only (computed_by o word word to left right)) stop ∷ []

-- A division by what isn't known is tested, and one by a literal is not.
abbrev pub dividing : COp → Word → CPath → COpnd → COpnd → List Stmt
dividing o word to left (Number n) = if nat_eq n 0 then zero_set to else (computed_by o word word to left (Number n) ∷ [])
dividing o word to left (Path divisor) = divided_by o word to left (Path divisor)

-- A shift by what isn't known is tested, and one by a literal is not.
abbrev pub shifting : COp → Word → CPath → COpnd → COpnd → List Stmt
shifting o word to left (Number n) = if nat_lt n (bits word) then computed_by o word word to left (Number n) ∷ [] else zero_set to
shifting o word to left (Path shift) = shifted_by o word to left (Path shift)

-- The statements that set a path to what an operator gives of two operands of a word, or of the first alone. Of `&&`, `||` and `not`, whose
-- operands are truth values, that word is U8.
abbrev pub op_code : Op → Word → CPath → COpnd → COpnd → List Stmt
op_code ops.Add word to left right = computed_by op.Add word word to left right ∷ []
op_code ops.Sub word to left right = computed_by op.Sub word word to left right ∷ []
op_code ops.Mul word to left right = computed_by op.Mul word word to left right ∷ []
op_code ops.Div word to left right = dividing op.Div word to left right
op_code ops.Rem word to left right = dividing op.Rem word to left right
op_code ops.And word to left right = computed_by op.And word word to left right ∷ []
op_code ops.Or word to left right = computed_by op.Or word word to left right ∷ []
op_code ops.Xor word to left right = computed_by op.Xor word word to left right ∷ []
op_code ops.Shl word to left right = shifting op.Shl word to left right
op_code ops.Shr word to left right = shifting op.Shr word to left right
op_code ops.Eq word to left right = computed_by op.Eq U8 word to left right ∷ []
op_code ops.Ne word to left right = computed_by op.Ne U8 word to left right ∷ []
op_code ops.Lt word to left right = computed_by op.Lt U8 word to left right ∷ []
op_code ops.Gt word to left right = computed_by op.Gt U8 word to left right ∷ []
op_code ops.Le word to left right = computed_by op.Le U8 word to left right ∷ []
op_code ops.Ge word to left right = computed_by op.Ge U8 word to left right ∷ []
op_code ops.Both word to left right = computed_by op.And U8 word to left right ∷ []
op_code ops.Either word to left right = computed_by op.Or U8 word to left right ∷ []
op_code ops.Complement word to left right = assign to (Flip word (inner word) left) ∷ []
op_code ops.Not word to left right = computed_by op.Eq U8 word to left (Number 0) ∷ []
