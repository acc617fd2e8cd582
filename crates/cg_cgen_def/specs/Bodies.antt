-- Bodies of C functions, of where their value is kept, what locals they have, and what they do (docs/LANGUAGE.md, "The C of instances").
use Rattle.std.specs.Prelude.{ℕ, suc, List, [], ◌∷◌, ◌++◌}
use Rattle.cg_ctree.specs.declared.tree.CDecl.{CDecl}
use Rattle.cg_ctree.specs.declared.tree.CRhs.TheVariants.{Opnd}
use Rattle.cg_ctree.specs.declared.tree.CTy.{CTy}
use Rattle.cg_ctree.specs.Trees.{Body, Stmt, assign, return', to_block}
use Rattle.cg_cgen_def.specs.Names.{declared}
use Rattle.cg_cgen_def.specs.Places.{Place, Step, local, local_name, operand, path}

-- a lowered term: where its value is kept, the types of its locals, and its statements
pub record Low : Type 0 where
  pub value : Place
  pub locals : List CTy
  pub code : List Stmt

abbrev pub leaf : Place → Low
leaf v = record { value = v; locals = []; code = [] }

-- what sets a part of a local to the value at a place
abbrev pub setting : ℕ → List Step → Place → Stmt
setting j steps v = assign (path (local j) steps) (Opnd (operand v))

-- the locals of these types, counted from k on
abbrev pub locals_from : ℕ → List CTy → List CDecl
locals_from k [] = []
locals_from k (t ∷ ts) = declared t (local_name k) ∷ locals_from (suc k) ts

-- a body, which returns the value
abbrev pub body_of : Low → Body
body_of a = record { locals = locals_from 0 a.locals; block = to_block (a.code ++ return' (operand a.value) ∷ []) }
