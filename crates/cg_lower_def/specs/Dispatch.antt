-- The functions that call the function of a number: one for each arrow type, with a case for each instance of that type (docs/LANGUAGE.md,
-- "The C of instances", functions).
use Rattle.std.specs.Prelude.{ℕ, suc, List, [], ◌∷◌, if◌then◌else◌}
use Rattle.cg_base.specs.Same.{same_type}
use Rattle.cg_base.specs.Types.{Tau}
use Rattle.cg_ctree.specs.Trees as trees
use Rattle.cg_cgen_def.specs.Dispatches.{dispatch_function}
use Rattle.cg_cgen_def.specs.Names.{dispatch_name}
use Rattle.cg_typing.specs.Instances.{Entry}
use Rattle.cg_typing.specs.Parts.{given_by, taken_by}
use Rattle.cg_lower_def.specs.Lowered.{Whole, typed}

-- the places of the instances of a type, from one on
abbrev pub tags_from : ℕ → Tau → List Entry → List ℕ
tags_from k t [] = []
tags_from k t (e ∷ es) = if same_type e.ty t then k ∷ tags_from (suc k) t es else tags_from (suc k) t es

-- the function of an arrow type, which stands at a place among those of calls
abbrev pub dispatch_of : Whole → List Entry → ℕ → Tau → trees.Function
dispatch_of whole entries j t = dispatch_function (dispatch_name j) (typed whole (taken_by t)) (typed whole (given_by t)) (tags_from 0 t entries)
