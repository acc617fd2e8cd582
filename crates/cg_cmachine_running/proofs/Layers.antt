-- Statements by their forms, blocks by their numbers, and functions at their places.
use Rattle.std.proofs.Common.{◌≡◌, ℕ, ◌+◌, List, [], map, slice_get, get_or, drop, length, ◌-◌, arith, Option, Some, None, refl, sym, ap, ◌∙◌, subst}
use Rattle.std.proofs.lemmas.Option.{get_or_from_slice_get}
use Rattle.std.proofs.lemmas.List.{drop_all, length-drop}
use Rattle.cg_cmachine_running.specs.Machine.{scope_at}
use Rattle.cg_cmachine_resolve.specs.declared.code.Position.{Position}
use Rattle.cg_cmachine_resolve.specs.declared.line.Line.{Line}
use Rattle.cg_cmachine_resolve.specs.Lines.{IsAt, Stands, Whole}
use Rattle.cg_cmachine_resolve.specs.Resolutions.{Resolution, IsLine, blocks_in, lines_at, next}
use Rattle.cg_cmachine_resolve.specs.Scopes.{scope_of}
use Rattle.cg_ctree.specs.declared.tree.CCase.{CCase, fold_out-CCase}
use Rattle.cg_ctree.specs.declared.tree.CFun.{CFun}
use Rattle.cg_ctree.specs.declared.tree.CStmt.{CStmt, CStmt-F, out-CStmt, fold_out-CStmt}
use Rattle.cg_ctree.specs.declared.tree.CStmt.TheOpen as form
use Rattle.cg_ctree.specs.Trees.{Stmt, assign, branch, while, switch, call, return', Case, layer, case_layer, stmt_of, case_of, block_of, to_cases}

-- ---- statements

-- a statement, by its form
abbrev pub form_of : CStmt-F CStmt CCase → Stmt
form_of (form.Assign p r) = assign p r
form_of (form.If o x y) = branch o (block_of x) (block_of y)
form_of (form.While o x) = while o (block_of x)
form_of (form.Switch o cs) = switch o (to_cases (map case_of cs))
form_of (form.Call f os) = call f os
form_of (form.Return o) = return' o

stmt_form : (s : CStmt) (f : CStmt-F CStmt CCase) → out-CStmt s ≡ f → stmt_of s ≡ form_of f
stmt_form s (form.Assign p r) e = rw e at (fold_out-CStmt Stmt Case layer case_layer s)
stmt_form s (form.If o x y) e = rw e at (fold_out-CStmt Stmt Case layer case_layer s)
stmt_form s (form.While o x) e = rw e at (fold_out-CStmt Stmt Case layer case_layer s)
stmt_form s (form.Switch o cs) e = rw e at (fold_out-CStmt Stmt Case layer case_layer s)
stmt_form s (form.Call f os) e = rw e at (fold_out-CStmt Stmt Case layer case_layer s)
stmt_form s (form.Return o) e = rw e at (fold_out-CStmt Stmt Case layer case_layer s)

pub stmt_is : (s : CStmt) → stmt_of s ≡ form_of (out-CStmt s)
stmt_is s = stmt_form s (out-CStmt s) refl

-- a case, by its parts
pub case_is : (c : CCase) → case_of c ≡ record { tag = c.tag; body = block_of c.body }
case_is c = fold_out-CCase Stmt Case layer case_layer c

-- ---- functions

-- what holds of the function at a place
pub record Found (w : Whole) (i : ℕ) (P : CFun → Type 0) : Type 0 where
  pub function : CFun
  pub at : slice_get w.program.funs i ≡ Some function
  pub holds : P function

pub found_at : (w : Whole) (i : ℕ) (P : CFun → Type 0) → IsAt w i P → Found w i P
found_at w i P h = by_case (slice_get w.program.funs i) refl
  where
    by_case : (o : Option CFun) → slice_get w.program.funs i ≡ o → Found w i P
    by_case None e = absurd (rw e at h)
    by_case (Some f) e = record { function = f; at = e; holds = rw e at h }

-- the scope of a function
scope_is : (r : Resolution) (i : ℕ) (f : CFun) → slice_get r.whole.program.funs i ≡ Some f → scope_at r i ≡ scope_of r.whole.program.structs f
scope_is r i f e = rw e

-- a line stands in the scope of its function
pub stands_here : (r : Resolution) (at : Position) (line : Line) → IsLine r at line → Stands r.whole (scope_at r at.function) (blocks_in r at.function) line
stands_here r at line h =
    let f = found_at r.whole at.function _ h.stands in
    subst (λ vs. Stands r.whole vs (blocks_in r at.function) line) (sym (scope_is r at.function f.function f.at)) f.holds

-- ---- blocks

-- the statements of a block of a function
pub block_lines : (r : Resolution) (f b : ℕ) (ss : List CStmt) → slice_get (blocks_in r f) b ≡ Some ss
    → lines_at r (record { function = f; block = b; index = 0 }) ≡ ss
block_lines r f b ss e = get_or_from_slice_get (blocks_in r f) b ss [] e

-- the statements behind the last one
drop_more : {A : Type 0} (i : ℕ) (xs : List A) → drop i xs ≡ [] → drop (i + 1) xs ≡ []
drop_more i xs e = let h : length xs - i ≡ 0 = sym (length-drop i xs) ∙ ap length e in drop_all (i + 1) xs (omega (arith, h))

pub lines_behind : (r : Resolution) (at : Position) → lines_at r at ≡ [] → lines_at r (next at) ≡ []
lines_behind r at e = drop_more at.index (get_or (blocks_in r at.function) at.block []) e
