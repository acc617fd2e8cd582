-- The names of a program, and the variables of a function, as the code keeps them.
use Rattle.std.specs.Prelude.{◌≡◌, ℕ, ◌+◌, List, [], ◌∷◌, ◌++◌, map}
use Rattle.cg_cmachine_layout.specs.Kinds.{layout_of}
use Rattle.cg_cmachine_resolve.specs.declared.scope.Variable.{Variable}
use Rattle.cg_cmachine_resolve.specs.declared.scope.Variables.{Variables}
use Rattle.cg_cmachine_resolve.specs.Indexes.{Indexes, Table}
use Rattle.cg_cmachine_resolve.specs.Lines.{Whole}
use Rattle.cg_cmachine_resolve.specs.Scopes.{Finds, Scope, scope_of, total}
use Rattle.cg_cmachine_def.specs.Layouts.{Layout, layout, size}
use Rattle.cg_ctree.specs.declared.tree.CFun.{CFun}
use Rattle.cg_ctree.specs.declared.tree.CStruct.{CStruct}

-- ---- the names of a program

-- tables of the functions' names, and of the names of the links' functions
pub record AreNamed (w : Whole) (functions links : Table) : Type 0 where
  pub functions_named : Indexes (map (λ f. f.name) w.program.funs) functions
  pub links_named : Indexes (map (λ l. l.c) w.links) links

-- ---- the variables of a function

abbrev pub names_of : Scope → List (List ℕ)
names_of vs = map (λ v. v.0) vs

-- a variable begins at a slot, and is of the layout
pub record IsVariable (ss : List CStruct) (at : ℕ) (v : List ℕ × Layout) (x : Variable) : Type 0 where
  pub starts : x.start ≡ at
  pub typed : layout ss x.ty.now ≡ v.1
  pub kinded : layout_of x.kind ≡ v.1

-- variables of which the first begins at a slot
abbrev pub AreVariables : List CStruct → ℕ → Scope → List Variable → Type 0
AreVariables ss at [] [] = Unit {0}
AreVariables ss at (v ∷ vs) (x ∷ xs) = IsVariable ss at v x × AreVariables ss (at + size v.1) vs xs
AreVariables ss at [] (x ∷ xs) = ⊥
AreVariables ss at (v ∷ vs) [] = ⊥

-- the variables of a scope
pub record IsScope (ss : List CStruct) (vs : Scope) (variables : Variables) : Type 0 where
  pub named : Indexes (names_of vs) variables.names
  pub listed : AreVariables ss 0 vs variables.list.items
  pub many : variables.slots ≡ total vs

-- a variable is the first of a name
pub record IsFirst (ss : List CStruct) (x : List ℕ) (vs : Scope) (v : Variable) : Type 0 where
  pub finds : Finds x vs v.start (layout ss v.ty.now)
  pub kinded : layout_of v.kind ≡ layout ss v.ty.now

-- variables of these names and layouts have joined, behind all others
pub record AreAdded (ss : List CStruct) (more : Scope) (before after : Variables) : Type 0 where
  pub added : (vs : Scope) → IsScope ss vs before → IsScope ss (vs ++ more) after

-- ---- what names of a body are resolved with

-- a function of a program with its links
pub record Site : Type 0 where
  pub whole : Whole
  pub function : CFun

abbrev pub structs_at : Site → List CStruct
structs_at s = s.whole.program.structs

abbrev pub scope_at : Site → Scope
scope_at s = scope_of (structs_at s) s.function

pub record IsSite (w : Whole) (ss : List CStruct) (f : CFun) (variables : Variables) : Type 0 where
  pub structs : ss ≡ w.program.structs
  pub scope : IsScope ss (scope_of ss f) variables
