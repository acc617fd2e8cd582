-- Parts of dispatch functions.
use Rattle.std.specs.Prelude.{ℕ, false, [], ◌∷◌}
use Rattle.cg_ctree.specs.declared.tree.COpnd.TheVariants.{Path}
use Rattle.cg_ctree.specs.declared.tree.CPath.{CPath}
use Rattle.cg_ctree.specs.declared.tree.CRhs.{CRhs}
use Rattle.cg_ctree.specs.declared.tree.CRhs.TheVariants.{Call}
use Rattle.cg_cgen_def.specs.Dispatches.{second_path}
use Rattle.cg_cgen_def.specs.Names.{function_name, name}

-- a variable, by a letter and a number
abbrev pub variable_path : ℕ → ℕ → CPath
variable_path letter n = record { base = name letter n; arrow = false; members = [] }

-- a call of the function of a tag
abbrev pub call_of : ℕ → CRhs
call_of k = Call (function_name k) (Path second_path ∷ [])
