-- What is left to print of the statements that are open, as text.
use Rattle.std.specs.Prelude.{ℕ, List, [], ◌∷◌, ◌++◌, map, codes, decimal}
use Rattle.cg_ctree.specs.Trees.{Block, Case, case_of, to_cases, block_of}
use Rattle.cg_ctext.specs.declared.statement.Task.{Task}
use Rattle.cg_ctext.specs.declared.statement.Task.TheVariants.{Statements, Cases, End, Else, Break}
use Rattle.cg_ctext.specs.Printed.{deeper, line_at, block_text, cases_text}

-- the brace that ends a statement
unfoldable pub end_text : ℕ → List ℕ
end_text level = line_at level ++ codes "}"

-- the brace that ends a case, and its `break`
unfoldable pub break_text : ℕ → List ℕ
break_text level = line_at level ++ codes "} break;"

-- the brace that ends the first part of an `if`, and the other part
unfoldable pub else_text : ℕ → Block → List ℕ
else_text level b = line_at level ++ codes "} else {" ++ block_text (deeper level) b ++ end_text level

-- a case
unfoldable pub case_text : ℕ → Case → List ℕ
case_text level c = line_at level ++ codes "case " ++ decimal c.tag ++ codes ": {" ++ block_text (deeper level) c.body ++ break_text level

-- what one of them is
unfoldable pub task_text : Task → List ℕ
task_text (Statements level ss) = block_text level (block_of ss.now)
task_text (Cases level cs) = cases_text level (to_cases (map case_of cs.now))
task_text (End level) = end_text level
task_text (Else level ss) = else_text level (block_of ss.now)
task_text (Break level) = break_text level

-- all of them, the last first
unfoldable pub waits : List Task → List ℕ
waits [] = []
waits (t ∷ ts) = waits ts ++ task_text t
