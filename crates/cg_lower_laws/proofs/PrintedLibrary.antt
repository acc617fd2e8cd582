-- The C of the library's functions that take no function can be printed.
use Rattle.std.proofs.Common.{ℕ, suc, List, [], ◌∷◌, arith}
use Rattle.std.specs.List.{AllByRecursion}
use Rattle.cg_base.specs.declared.fun.Lib.{Lib}
use Rattle.cg_base.specs.declared.fun.Lib.TheVariants.{New, Free, Create, FreeArray, Length, Get, Put, Map, Fold, Seq32, Seq64, Seq32Break}
use Rattle.cg_base.specs.Types.{Tau}
use Rattle.cg_ctree.specs.declared.tree.CRhs.{CRhs}
use Rattle.cg_ctree.specs.declared.tree.CRhs.TheVariants.{Opnd, IsNull}
use Rattle.cg_ctree.specs.Spells.{IsCName, IsPrintableRight, IsPrintableStmt}
use Rattle.cg_ctree.specs.Trees.{Stmt, branch, to_block}
use Rattle.cg_lib_value.specs.Library.{first_type}
use Rattle.cg_typing.specs.Library.{array, maybe, pair, state}
use Rattle.cg_typing.specs.Parts.{all_taken}
use Rattle.cg_cgen_def.specs.Places.{field_of_argument, whole_argument, Place, number, held, Step, field, tag, payload, argument, local, operand, path}
use Rattle.cg_cgen_def.specs.Bodies.{setting}
use Rattle.cg_lower_def.specs.LibraryCode.{asking, done_by_call, given_by_call, low_fresh, low_library}
use Rattle.cg_lower_def.specs.Lowered.{Whole, word_of}
use Rattle.cg_lower_laws.proofs.PrintedNames.{FitsPlace, create_named, free_array_named, free_named, get_named, length_named, operand_prints, operands_print, path_prints, put_named, struct_named, type_prints}
use Rattle.cg_lower_laws.proofs.PrintedNodes.{leaf_prints, Print, PrintsLow, assign_prints, block_prints}

-- what sets a part of a local to the value at a place
pub setting_prints : (room j : ℕ) (steps : List Step) (v : Place) → FitsPlace v → IsPrintableStmt room (setting j steps v)
setting_prints room j steps v h = assign_prints room (path (local j) steps) (Opnd (operand v)) (path_prints (local j) steps) (operand_prints v h)

-- a cell that is asked for
asking_prints : (room : ℕ) (make : CRhs) (q : Place) → IsPrintableRight make → FitsPlace q → Print (suc room) (asking make q)
unfolding IsPrintableStmt
asking_prints room make q h hq = (
  assign_prints (suc room) (path (local 0) []) make (path_prints (local 0) []) h,
  (
    setting_prints (suc room) 2 (field 0 ∷ []) q hq,
    (assign_prints (suc room) (path (local 1) []) (IsNull (operand (held (local 0) []))) (path_prints (local 1) []) (path_prints (local 0) []), (chosen, tt)),
  ),
)
  where
    none_code : List Stmt
    none_code = setting 2 (field 1 ∷ tag ∷ []) (number 0) ∷ setting 2 (field 1 ∷ payload 0 ∷ []) (number 0) ∷ []

    some_code : List Stmt
    some_code = setting 2 (field 1 ∷ tag ∷ []) (number 1) ∷ setting 2 (field 1 ∷ payload 1 ∷ []) (held (local 0) []) ∷ []

    none_made : Print room none_code
    none_made = (setting_prints room 2 (field 1 ∷ tag ∷ []) (number 0) (omega arith), (setting_prints room 2 (field 1 ∷ payload 0 ∷ []) (number 0) (omega arith), tt))

    some_made : Print room some_code
    some_made = (setting_prints room 2 (field 1 ∷ tag ∷ []) (number 1) (omega arith), (setting_prints room 2 (field 1 ∷ payload 1 ∷ []) (held (local 0) []) tt, tt))

    chosen : IsPrintableStmt (suc room) (branch (operand (held (local 1) [])) (to_block none_code) (to_block some_code))
    chosen = (path_prints (local 1) [], block_prints room none_code none_made, block_prints room some_code some_made)

-- calls of built-ins
given_prints : (room : ℕ) (f : List ℕ) (v : Place) (vs : List Place) → IsCName f → AllByRecursion FitsPlace (v ∷ vs) → Print room (given_by_call f (v ∷ vs))
given_prints room f v vs is h = (assign_prints room (path (local 0) []) _ (path_prints (local 0) []) (is, operands_print (v ∷ vs) h), tt)

pub done_prints : (room : ℕ) (f : List ℕ) (vs : List Place) → IsCName f → AllByRecursion FitsPlace vs → Print room (done_by_call f vs)
unfolding IsPrintableStmt
done_prints room f vs is h = ((is, operands_print vs h), tt)

module _ (whole : Whole) (room : ℕ) where
  -- what asks for a cell
  fresh_prints : (t : Tau) (make : CRhs) (q : Place) → IsPrintableRight make → FitsPlace q → PrintsLow (suc room) (low_fresh whole t make q)
  fresh_prints t make q h hq = record {
    value = tt;
    locals = (type_prints whole.numbered t, (tt, (type_prints whole.numbered (pair state (maybe t)), tt)));
    code = asking_prints room make q h hq;
  }

  -- a function at type arguments
  pub library_prints : (lib : Lib) (args : List Tau) → PrintsLow (suc room) (low_library whole lib args)
  library_prints New args =
      fresh_prints (all_taken (first_type args)) _ whole_argument (path_prints argument [], struct_named _) tt
  library_prints Free args = record { value = tt; locals = tt; code = done_prints (suc room) _ (field_of_argument 0 ∷ field_of_argument 1 ∷ []) free_named (tt, (tt, tt)) }
  library_prints Create args =
      fresh_prints (array (first_type args)) _ (field_of_argument 0) (create_named (word_of (first_type args)), operands_print (field_of_argument 0 ∷ field_of_argument 1 ∷ []) (tt, (tt, tt))) tt
  library_prints FreeArray args = record {
    value = tt;
    locals = tt;
    code = done_prints (suc room) _ (field_of_argument 0 ∷ field_of_argument 1 ∷ []) (free_array_named (word_of (first_type args))) (tt, (tt, tt));
  }
  library_prints Length args = record { value = tt; locals = (tt, tt); code = given_prints (suc room) _ whole_argument [] (length_named (word_of (first_type args))) (tt, tt) }
  library_prints Get args = record {
    value = tt;
    locals = (tt, tt);
    code = given_prints (suc room) _ (field_of_argument 0) (field_of_argument 1 ∷ []) (get_named (word_of (first_type args))) (tt, (tt, tt));
  }
  library_prints Put args = record {
    value = tt;
    locals = tt;
    code = done_prints (suc room) _ (field_of_argument 0 ∷ field_of_argument 1 ∷ field_of_argument 2 ∷ []) (put_named (word_of (first_type args))) (tt, (tt, (tt, tt)));
  }
  library_prints Map args = leaf_prints (suc room) _ (omega arith)
  library_prints Fold args = leaf_prints (suc room) _ (omega arith)
  library_prints Seq32 args = leaf_prints (suc room) _ (omega arith)
  library_prints Seq64 args = leaf_prints (suc room) _ (omega arith)
  library_prints Seq32Break args = leaf_prints (suc room) _ (omega arith)
