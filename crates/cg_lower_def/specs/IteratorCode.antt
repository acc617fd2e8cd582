-- The C of iterators at type arguments: each is a function of its own, a loop that calls the function of its function's arrow type
-- (docs/LANGUAGE.md, "The C of instances", library).
use Rattle.std.specs.Prelude.{ℕ, List}
use Rattle.cg_base.specs.declared.fun.Lib.{Lib}
use Rattle.cg_base.specs.declared.fun.Lib.TheVariants.{Seq32, Seq64, Seq32Break}
use Rattle.cg_base.specs.declared.kind.Word.{Word}
use Rattle.cg_base.specs.declared.kind.Word.TheVariants.{U32, U64}
use Rattle.cg_base.specs.Types.{Tau}
use Rattle.cg_cgen_def.specs.Bodies.{Low}
use Rattle.cg_cgen_def.specs.Loops.{Types, iterator_low}
use Rattle.cg_cgen_def.specs.Names.{dispatch_name}
use Rattle.cg_lib_value.specs.Library.{first_type}
use Rattle.cg_typing.specs.Library.{library_type}
use Rattle.cg_typing.specs.Parts.{given_by, taken_by}
use Rattle.cg_update.specs.Turns.{field_type}
use Rattle.cg_lower_def.specs.CTypes.{c_type}
use Rattle.cg_lower_def.specs.Lowered.{Whole, arrow_number, word_of}

-- the type of an iterator's function
abbrev pub function_type : Lib → List Tau → Tau
function_type lib args = field_type (taken_by (library_type lib args)) 3

-- the word of its counter, or of its elements
abbrev pub word_in : Lib → List Tau → Word
word_in Seq32 args = U32
word_in Seq64 args = U64
word_in Seq32Break args = U32
word_in lib args = word_of (first_type args)

-- its types in C, over a number for each struct
abbrev pub types_in : (Tau → ℕ) → Lib → List Tau → Types
types_in numbered lib args = record {
  argument = c_type numbered (taken_by (library_type lib args));
  result = c_type numbered (given_by (library_type lib args));
  item = c_type numbered (taken_by (function_type lib args));
  answer = c_type numbered (given_by (function_type lib args));
  word = word_in lib args;
}

-- an iterator at type arguments
abbrev pub low_iterator : Whole → Lib → List Tau → Low
low_iterator whole lib args = iterator_low lib (types_in whole.numbered lib args) (dispatch_name (arrow_number whole.arrows (function_type lib args)))
