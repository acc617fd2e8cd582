-- What the code that makes bodies goes by.
use Rattle.std.proofs.Common.{◌≡◌, ℕ, List, [], ◌++◌, refl}
use Rattle.std.proofs.lemmas.List.{map-append}
use Rattle.cg_base.specs.declared.kind.Word.{Word}
use Rattle.cg_base.specs.declared.kind.Word.TheVariants.{U8, U16, U32, U64}
use Rattle.cg_cmachine_def.specs.BuiltIns.{array_call}
use Rattle.cg_ctree.specs.declared.tree.CStmt as statement

-- the name of a built-in, of its beginning
pub name_is : (w : Word) (action : List ℕ) → array_call w [] ++ action ≡ array_call w action
name_is U8 action = refl
name_is U16 action = refl
name_is U32 action = refl
name_is U64 action = refl

pub ruleset code_steps = (statement.the_lemmas, map-append, name_is)
