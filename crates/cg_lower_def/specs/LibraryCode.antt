-- The C of the library's functions that take no function: each is a function of its own, which calls the built-in (docs/LANGUAGE.md,
-- "The C of instances", library).
use Rattle.std.specs.Prelude.{ℕ, List, [], ◌∷◌, codes, map}
use Rattle.cg_base.specs.declared.fun.Lib.{Lib}
use Rattle.cg_base.specs.declared.fun.Lib.TheVariants.{New, Free, Create, FreeArray, Length, Get, Put}
use Rattle.cg_base.specs.declared.kind.Word.TheVariants.{U8, U32}
use Rattle.cg_base.specs.Types.{Tau}
use Rattle.cg_cmachine_def.specs.BuiltIns.{array_call}
use Rattle.cg_ctree.specs.declared.tree.CRhs.{CRhs}
use Rattle.cg_ctree.specs.declared.tree.CRhs.TheVariants.{IsNull, Call as called, New as made}
use Rattle.cg_ctree.specs.declared.tree.CTy.TheVariants as ty
use Rattle.cg_ctree.specs.Trees.{Stmt, assign, branch, call, to_block}
use Rattle.cg_lib_value.specs.Library.{first_type}
use Rattle.cg_typing.specs.Library.{array, maybe, pair, state}
use Rattle.cg_typing.specs.Parts.{all_taken}
use Rattle.cg_update.specs.Turns.{fields_in}
use Rattle.cg_lower_def.specs.CTypes.{record_struct}
use Rattle.cg_cgen_def.specs.Bodies.{Low, leaf, setting}
use Rattle.cg_lower_def.specs.Lowered.{Whole, typed, word_of}
use Rattle.cg_cgen_def.specs.Places.{Place, field, tag, payload, local, number, held, path, operand, field_of_argument, whole_argument}

-- A cell is asked for, which `make` does: x0 is its address, x1 whether there is none, and x2 the result, the allocator at q with None or
-- Some.
abbrev pub asking : CRhs → Place → List Stmt
asking make q =
    assign (path (local 0) []) make ∷ setting 2 (field 0 ∷ []) q ∷ assign (path (local 1) []) (IsNull (operand (held (local 0) [])))
    ∷ branch (operand (held (local 1) [])) (to_block (setting 2 (field 1 ∷ tag ∷ []) (number 0) ∷ setting 2 (field 1 ∷ payload 0 ∷ []) (number 0) ∷ []))
    (to_block (setting 2 (field 1 ∷ tag ∷ []) (number 1) ∷ setting 2 (field 1 ∷ payload 1 ∷ []) (held (local 0) []) ∷ []))
    ∷ []

-- a call that gives a value, and one that gives the allocator or the array back
abbrev pub given_by_call : List ℕ → List Place → List Stmt
given_by_call f vs = assign (path (local 0) []) (called f (map operand vs)) ∷ []

abbrev pub done_by_call : List ℕ → List Place → List Stmt
done_by_call f vs = call f (map operand vs) ∷ []

module _ (whole : Whole) where
  -- what gives a cell for values of this type, which C has as pointers
  abbrev pub low_fresh : Tau → CRhs → Place → Low
  low_fresh t make q = record {
    value = held (local 2) [];
    locals = typed whole t ∷ ty.Word U8 ∷ typed whole (pair state (maybe t)) ∷ [];
    code = asking make q;
  }

  -- a function at type arguments; of those that take a function, nothing
  abbrev pub low_library : Lib → List Tau → Low
  low_library New args =
      low_fresh (all_taken (first_type args)) (made (operand whole_argument) (record_struct whole.numbered (fields_in (first_type args)))) whole_argument
  low_library Free args =
      record { value = field_of_argument 0; locals = []; code = done_by_call (codes "cg_free") (field_of_argument 0 ∷ field_of_argument 1 ∷ []) }
  low_library Create args =
      low_fresh (array (first_type args))
      (called (array_call (word_of (first_type args)) (codes "create")) (map operand (field_of_argument 0 ∷ field_of_argument 1 ∷ []))) (field_of_argument 0)
  low_library FreeArray args = record {
    value = field_of_argument 0;
    locals = [];
    code = done_by_call (array_call (word_of (first_type args)) (codes "free")) (field_of_argument 0 ∷ field_of_argument 1 ∷ []);
  }
  low_library Length args = record {
    value = held (local 0) [];
    locals = ty.Word U32 ∷ [];
    code = given_by_call (array_call (word_of (first_type args)) (codes "length")) (whole_argument ∷ []);
  }
  low_library Get args = record {
    value = held (local 0) [];
    locals = ty.Word (word_of (first_type args)) ∷ [];
    code = given_by_call (array_call (word_of (first_type args)) (codes "get")) (field_of_argument 0 ∷ field_of_argument 1 ∷ []);
  }
  low_library Put args = record {
    value = field_of_argument 0;
    locals = [];
    code = done_by_call (array_call (word_of (first_type args)) (codes "put")) (field_of_argument 0 ∷ field_of_argument 1 ∷ field_of_argument 2 ∷ []);
  }
  low_library _ args = leaf (number 0)
