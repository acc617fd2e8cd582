-- The C functions that call the function of a tag: one switch over the tags (docs/LANGUAGE.md, "The C of instances", functions).
use Rattle.std.specs.Prelude.{ℕ, false, List, [], ◌∷◌, Some}
use Rattle.cg_base.specs.declared.kind.Word.TheVariants.{U32}
use Rattle.cg_ctree.specs.declared.tree.COpnd.TheVariants.{Path}
use Rattle.cg_ctree.specs.declared.tree.CPath.{CPath}
use Rattle.cg_ctree.specs.declared.tree.CRhs.TheVariants.{Call}
use Rattle.cg_ctree.specs.declared.tree.CTy.{CTy}
use Rattle.cg_ctree.specs.declared.tree.CTy.TheVariants as ty
use Rattle.cg_ctree.specs.Trees as trees
use Rattle.cg_ctree.specs.Trees.{Block, Body, Cases, assign, case, end, return', stop, switch, to_block}
use Rattle.cg_cgen_def.specs.Names.{declared, name, function_name}
use Rattle.cg_cgen_def.specs.Places.{argument, argument_name, local, local_name, path}

-- a1, what the function is called with
abbrev pub second_name : List ℕ
second_name = name 97 1

abbrev pub second_path : CPath
second_path = record { base = second_name; arrow = false; members = [] }

-- `x0 = f<k>(a1); return x0;`
abbrev pub dispatched : ℕ → Block
dispatched k = to_block (assign (path (local 0) []) (Call (function_name k) (Path second_path ∷ [])) ∷ return' (Path (path (local 0) [])) ∷ [])

abbrev pub dispatch_cases : List ℕ → Cases
dispatch_cases [] = end
dispatch_cases (k ∷ ks) = case k (dispatched k) (dispatch_cases ks)

-- one switch over the tags, where functions give values of a type; nothing, where there are none
abbrev pub dispatch_body : CTy → List ℕ → Body
dispatch_body result [] = record { locals = []; block = stop }
dispatch_body result (k ∷ ks) = record { locals = declared result (local_name 0) ∷ []; block = to_block (switch (Path (path argument [])) (dispatch_cases (k ∷ ks)) ∷ []) }

-- the function of a name, of a tag and an argument
abbrev pub dispatch_function : List ℕ → CTy → CTy → List ℕ → trees.Function
dispatch_function x taken result tags = record {
  ty = result;
  name = x;
  params = declared (ty.Word U32) argument_name ∷ declared taken second_name ∷ [];
  body = Some (dispatch_body result tags);
}
