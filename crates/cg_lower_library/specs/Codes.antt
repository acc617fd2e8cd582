-- What is made of a function of the library.
use Rattle.std.specs.Prelude.{◌≡◌, ℕ, List, [], map}
use Rattle.cg_base.specs.declared.kind.Word.{Word}
use Rattle.cg_base.specs.Types.{Tau}
use Rattle.cg_cgen_def.specs.Loops.{Types}
use Rattle.cg_ctree.specs.declared.tree.CTy.{CTy}
use Rattle.cg_ctree.specs.declared.tree.CTy.TheVariants as ty
use Rattle.cg_ctree.specs.Trees.{stmt_of}
use Rattle.cg_cgen_def.specs.Bodies.{locals_from, Low}
use Rattle.cg_lower_def.specs.CTypes.{c_type}
use Rattle.cg_lower_nodes.specs.Views.{place_of}
use Rattle.cg_typing.specs.Parts.{given_by, taken_by}
use Rattle.cg_update.specs.Turns.{field_type}
use Rattle.cg_lower_library.specs.declared.code.Code.{Code}

-- it is this lowered body: its value's place, its locals by their types, and its statements
pub record IsLow (code : Code) (low : Low) : Type 0 where
  pub value : place_of code.value ≡ low.value
  pub locals : code.locals ≡ locals_from 0 low.locals
  pub stmts : map stmt_of code.stmts ≡ low.code

-- the struct that a type of C is, or points to
abbrev pub struct_in : CTy → List ℕ
struct_in (ty.Struct x) = x
struct_in (ty.Pointer x) = x
struct_in (ty.Word w) = []

-- of an iterator of a type, with a word, its types in C
abbrev pub arrow_types : (Tau → ℕ) → Word → Tau → Types
arrow_types numbered w t = record {
  argument = c_type numbered (taken_by t);
  result = c_type numbered (given_by t);
  item = c_type numbered (taken_by (field_type (taken_by t) 3));
  answer = c_type numbered (given_by (field_type (taken_by t) 3));
  word = w;
}
