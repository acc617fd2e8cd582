-- The C of iterators: each is a function of its own, a loop that calls a function of a tag and an argument (docs/LANGUAGE.md, "The C of
-- instances", library). The tag is field 3 of the iterator's own argument.
use Rattle.std.specs.Prelude.{ℕ, List, [], ◌∷◌, ◌++◌, codes, Some}
use Rattle.cg_base.specs.declared.fun.Lib.{Lib}
use Rattle.cg_base.specs.declared.fun.Lib.TheVariants.{Map, Fold, Seq32, Seq64, Seq32Break}
use Rattle.cg_base.specs.declared.kind.Word.{Word}
use Rattle.cg_base.specs.declared.kind.Word.TheVariants.{U8, U32, U64}
use Rattle.cg_cmachine_def.specs.BuiltIns.{array_call}
use Rattle.cg_ctree.specs.declared.tree.COp.TheVariants as cop
use Rattle.cg_ctree.specs.declared.tree.COpnd.TheVariants.{Number}
use Rattle.cg_ctree.specs.declared.tree.CRhs.TheVariants.{Call as called}
use Rattle.cg_ctree.specs.declared.tree.CTy.{CTy}
use Rattle.cg_ctree.specs.declared.tree.CTy.TheVariants as ty
use Rattle.cg_ctree.specs.Trees as trees
use Rattle.cg_ctree.specs.Trees.{Stmt, assign, branch, call, stop, to_block, while}
use Rattle.cg_cgen_def.specs.Bodies.{Low, leaf, setting, body_of}
use Rattle.cg_cgen_def.specs.Code.{computed_by}
use Rattle.cg_cgen_def.specs.Names.{declared}
use Rattle.cg_cgen_def.specs.Places.{Place, Step, argument_name, field, tag, payload, local, number, held, path, operand, field_of_argument, whole_local}

-- `x = (uint8_t)((v)left < (v)right);` and a sum or a difference of words
abbrev pub less : Word → ℕ → Place → Place → Stmt
less w to left right = computed_by cop.Lt U8 w (path (local to) []) (operand left) (operand right)

abbrev pub computing : Word → ℕ → Place → Place → Stmt
computing w to left right = computed_by cop.Add w w (path (local to) []) (operand left) (operand right)

-- ---- over an array: x0 is the index, x1 the end, x2 whether a turn comes, x3 what the function is called with

abbrev pub array_of_argument : Place
array_of_argument = field_of_argument 0

-- the index, and the lesser of the bound and the length
abbrev pub array_begins : Word → List Stmt
array_begins w =
    setting 0 [] (field_of_argument 1) ∷ assign (path (local 1) []) (called (array_call w (codes "length")) (operand array_of_argument ∷ []))
    ∷ less U32 2 (field_of_argument 2) (whole_local 1) ∷ branch (operand (whole_local 2)) (to_block (setting 1 [] (field_of_argument 2) ∷ [])) stop
    ∷ less U32 2 (whole_local 0) (whole_local 1) ∷ setting 3 (field 1 ∷ []) (field_of_argument 4) ∷ setting 3 (field 2 ∷ []) (field_of_argument 5) ∷ []

abbrev pub array_reads : Word → Stmt
array_reads w = assign (path (local 3) (field 0 ∷ [])) (called (array_call w (codes "get")) (operand array_of_argument ∷ operand (whole_local 0) ∷ []))

-- the next index, and whether it is below the end
abbrev pub array_goes_on : List Stmt
array_goes_on = computing U32 0 (whole_local 0) (number 1) ∷ less U32 2 (whole_local 0) (whole_local 1) ∷ []

-- ---- over numbers: x0 is the index, x1 what is left behind it, x2 whether a turn comes, x3 whether there is a step, x4 what the function is
-- called with

abbrev pub loop_begins : Word → List Stmt
loop_begins w =
    setting 0 [] (field_of_argument 0) ∷ less w 2 (whole_local 0) (field_of_argument 1)
    ∷ computed_by cop.Ne U8 w (path (local 3) []) (operand (field_of_argument 2)) (Number 0)
    ∷ computed_by cop.And U8 U8 (path (local 2) []) (operand (whole_local 2)) (operand (whole_local 3)) ∷ setting 4 (field 1 ∷ []) (field_of_argument 5) ∷ []

-- the next index, where one is below the end: the sum is computed only where it is known not to wrap
abbrev pub loop_goes_on : Word → List Stmt
loop_goes_on w =
    computed_by cop.Sub w w (path (local 1) []) (operand (field_of_argument 1)) (operand (whole_local 0)) ∷ less w 2 (field_of_argument 2) (whole_local 1)
    ∷ branch (operand (whole_local 2)) (to_block (computing w 0 (whole_local 0) (field_of_argument 2) ∷ [])) stop ∷ []

-- Of a loop that a turn may end, x5 is what a turn gives, and x6 the result. A turn that isn't the last hands on what is carried.
abbrev pub break_goes_on : List Stmt
break_goes_on = setting 4 (field 0 ∷ []) (held (local 5) (field 0 ∷ [])) ∷ loop_goes_on U32

-- the last gives the result
abbrev pub break_stops : List Stmt
break_stops = setting 6 [] (whole_local 5) ∷ setting 2 [] (number 0) ∷ []

-- the tag of what is given
abbrev pub break_tag : ℕ → Place
break_tag j = held (local j) (field 1 ∷ tag ∷ [])

-- where no turn was the last, the result is what is carried, with `Iterate`
abbrev pub break_begins : List Stmt
break_begins = setting 4 (field 0 ∷ []) (field_of_argument 4) ∷ setting 6 (field 1 ∷ tag ∷ []) (number 1) ∷ setting 6 (field 1 ∷ payload 1 ∷ []) (number 0) ∷ []

abbrev pub break_ends : List Stmt
break_ends = branch (operand (break_tag 6)) (to_block (setting 6 (field 0 ∷ []) (held (local 4) (field 0 ∷ [])) ∷ [])) stop ∷ []

-- ---- turns

-- Of an iterator: what it takes and gives, what the function that it calls takes and gives, and the word of its elements, or of its counter.
pub record Types : Type 0 where
  pub argument : CTy
  pub result : CTy
  pub item : CTy
  pub answer : CTy
  pub word : Word

-- the turns of a loop, as long as x2 says so
abbrev pub repeating : List Stmt → Stmt
repeating turn = while (operand (whole_local 2)) (to_block turn)

-- Over the function that is called in each turn, by its name.
module _ (callee : List ℕ) where
  -- a call of it on the tag and on an item in a local, whose result goes to a part of a local
  abbrev pub turning : ℕ → List Step → ℕ → Stmt
  turning to steps item = assign (path (local to) steps) (called callee (operand (field_of_argument 3) ∷ operand (whole_local item) ∷ []))

  abbrev pub fold_turn : Word → List Stmt
  fold_turn w = array_reads w ∷ turning 3 (field 1 ∷ []) 3 ∷ array_goes_on

  -- x4 is what a turn gives, and x5 the result
  abbrev pub map_turn : Word → List Stmt
  map_turn w =
      array_reads w ∷ turning 4 [] 3
      ∷ call (array_call w (codes "put")) (operand array_of_argument ∷ operand (whole_local 0) ∷ operand (held (local 4) (field 0 ∷ [])) ∷ [])
      ∷ setting 3 (field 1 ∷ []) (held (local 4) (field 1 ∷ [])) ∷ array_goes_on

  abbrev pub loop_turn : Word → List Stmt
  loop_turn w = setting 4 (field 2 ∷ []) (whole_local 0) ∷ turning 4 (field 0 ∷ []) 4 ∷ loop_goes_on w

  abbrev pub break_turn : List Stmt
  break_turn =
      setting 4 (field 2 ∷ []) (whole_local 0) ∷ turning 5 [] 4 ∷ branch (operand (break_tag 5)) (to_block break_goes_on) (to_block break_stops) ∷ []

  -- ---- statements

  abbrev pub fold_code : Word → List Stmt
  fold_code w = array_begins w ++ repeating (fold_turn w) ∷ []

  abbrev pub map_code : Word → List Stmt
  map_code w =
      array_begins w ++ repeating (map_turn w)
      ∷ setting 5 (field 0 ∷ []) array_of_argument ∷ setting 5 (field 1 ∷ []) (held (local 3) (field 1 ∷ [])) ∷ []

  abbrev pub loop_code : Word → List Stmt
  loop_code w = loop_begins w ++ setting 4 (field 0 ∷ []) (field_of_argument 4) ∷ repeating (loop_turn w) ∷ []

  abbrev pub break_code : List Stmt
  break_code = loop_begins U32 ++ break_begins ++ repeating break_turn ∷ break_ends

-- ---- functions

-- the locals of a loop over an array, and of one over numbers
abbrev pub array_locals : Types → List CTy
array_locals types = ty.Word U32 ∷ ty.Word U32 ∷ ty.Word U8 ∷ types.item ∷ []

abbrev pub loop_locals : Word → Types → List CTy
loop_locals w types = ty.Word w ∷ ty.Word w ∷ ty.Word U8 ∷ ty.Word U8 ∷ types.item ∷ []

abbrev pub fold_low : Types → List ℕ → Low
fold_low types callee = record { value = held (local 3) (field 1 ∷ []); locals = array_locals types; code = fold_code callee types.word }

abbrev pub map_low : Types → List ℕ → Low
map_low types callee = record {
  value = whole_local 5;
  locals = array_locals types ++ types.answer ∷ types.result ∷ [];
  code = map_code callee types.word;
}

abbrev pub loop_low : Word → Types → List ℕ → Low
loop_low w types callee = record { value = held (local 4) (field 0 ∷ []); locals = loop_locals w types; code = loop_code callee w }

abbrev pub break_low : Types → List ℕ → Low
break_low types callee = record { value = whole_local 6; locals = loop_locals U32 types ++ types.result ∷ types.result ∷ []; code = break_code callee }

-- the body of an iterator; of another function of the library one that gives 0
abbrev pub iterator_low : Lib → Types → List ℕ → Low
iterator_low Map types callee = map_low types callee
iterator_low Fold types callee = fold_low types callee
iterator_low Seq32 types callee = loop_low U32 types callee
iterator_low Seq64 types callee = loop_low U64 types callee
iterator_low Seq32Break types callee = break_low types callee
iterator_low _ types callee = leaf (number 0)

-- the function of a name that it is
abbrev pub iterator_function : Lib → List ℕ → Types → List ℕ → trees.Function
iterator_function lib x types callee = record {
  ty = types.result;
  name = x;
  params = declared types.argument argument_name ∷ [];
  body = Some (body_of (iterator_low lib types callee));
}
