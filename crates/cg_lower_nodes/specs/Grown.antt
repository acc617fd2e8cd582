-- How the C of a body grows while its terms are lowered.
use Rattle.std.specs.Prelude.{◌≡◌, ℕ, Bool, List, [], ◌∷◌, ◌++◌, length, map, take}
use Rattle.cg_base.specs.declared.kind.Sigil.{Sigil}
use Rattle.cg_base.specs.declared.kind.Word.{Word}
use Rattle.cg_ctree.specs.declared.tree.CStmt.{CStmt}
use Rattle.cg_ctree.specs.declared.tree.CTy.{CTy}
use Rattle.cg_ctree.specs.Trees.{Stmt, stmt_of}
use Rattle.cg_cgen_def.specs.Bodies.{Low}
use Rattle.cg_lower_def.specs.Lowered.{bare, before as first, copy, low_cast, low_member, low_operator, low_put, owned, remainder}
use Rattle.cg_cgen_def.specs.Places as places
use Rattle.cg_lower_nodes.specs.declared.place.Place.{Place}
use Rattle.cg_lower_nodes.specs.declared.state.Lowering.{Lowering}
use Rattle.cg_lower_nodes.specs.Kept.{kept_of}
use Rattle.cg_lower_nodes.specs.Views.{place_of}

-- one local more
pub record HasLocal (old new : Lowering) (t : CTy) (j : ℕ) : Type 0 where
  pub at : j ≡ length old.locals
  pub locals : new.locals ≡ old.locals ++ t ∷ []
  pub code : new.stmts ≡ old.stmts
  pub scope : new.scope.items ≡ old.scope.items
  pub kept : kept_of new ≡ kept_of old

-- one local more, which statements set, and where it is kept
pub record Sets (old new : Lowering) (t : CTy) (stmts : ℕ → List Stmt) (place : Place) : Type 0 where
  pub value : place_of place ≡ places.held (places.local (length old.locals)) []
  pub locals : new.locals ≡ old.locals ++ t ∷ []
  pub code : map stmt_of new.stmts ≡ map stmt_of old.stmts ++ stmts (length old.locals)
  pub scope : new.scope.items ≡ old.scope.items
  pub kept : kept_of new ≡ kept_of old

-- statements more
pub record Adds (old new : Lowering) (stmts : List Stmt) : Type 0 where
  pub locals : new.locals ≡ old.locals
  pub code : map stmt_of new.stmts ≡ map stmt_of old.stmts ++ stmts
  pub scope : new.scope.items ≡ old.scope.items
  pub kept : kept_of new ≡ kept_of old

-- statements of their own begin, and end with the value of a local
pub record Begins (old new : Lowering) (outer : List CStmt) : Type 0 where
  pub locals : new.locals ≡ old.locals
  pub code : new.stmts ≡ []
  pub outer_is : outer ≡ old.stmts
  pub scope : new.scope.items ≡ old.scope.items
  pub kept : kept_of new ≡ kept_of old

pub record Ends (old new : Lowering) (outer : List CStmt) (to : ℕ) (value : Place) (stmts : List CStmt) : Type 0 where
  pub locals : new.locals ≡ old.locals
  pub code : map stmt_of stmts ≡ map stmt_of old.stmts ++ copy (place_of value) to
  pub same : new.stmts ≡ outer
  pub scope : new.scope.items ≡ old.scope.items
  pub kept : kept_of new ≡ kept_of old

-- variables more
pub record Binds (old new : Lowering) (more : List Place) : Type 0 where
  pub locals : new.locals ≡ old.locals
  pub code : new.stmts ≡ old.stmts
  pub scope : new.scope.items ≡ old.scope.items ++ more
  pub kept : kept_of new ≡ kept_of old

-- the first of the variables alone
pub record Unbinds (old new : Lowering) (depth : ℕ) : Type 0 where
  pub locals : new.locals ≡ old.locals
  pub code : new.stmts ≡ old.stmts
  pub scope : new.scope.items ≡ take depth old.scope.items
  pub kept : kept_of new ≡ kept_of old

-- a lowered term has joined, whose value is kept at this place
pub record After (old new : Lowering) (place : Place) (lowered : Low) : Type 0 where
  pub value : place_of place ≡ lowered.value
  pub locals : new.locals ≡ old.locals ++ lowered.locals
  pub code : map stmt_of new.stmts ≡ map stmt_of old.stmts ++ lowered.code
  pub scope : new.scope.items ≡ old.scope.items
  pub kept : kept_of new ≡ kept_of old

-- ---- nodes: what becomes of a term that is lowered, with its value at a place

-- its value is brought into a variable of its own
pub record Bares (mid new : Lowering) (t : CTy) (before after : Place) : Type 0 where
  pub by : (old : Lowering) (a : Low) → After old mid before a → After old new after (bare (length old.locals) t a)

-- its value is brought into a local from a number on
pub record Owns (mid new : Lowering) (k : ℕ) (t : CTy) (before after : Place) : Type 0 where
  pub by : (old : Lowering) (a : Low) → k ≡ length old.locals → After old mid before a → After old new after (owned k t a)

-- a field of it is read: its place, and that of the record that is left behind
pub record Reads (mid new : Lowering) (sigil : Sigil) (r t : CTy) (i : ℕ) (before left after : Place) : Type 0 where
  pub read : (old : Lowering) (a : Low) → After old mid before a → After old new after (low_member (length old.locals) sigil r t i a)
  pub rest : (old : Lowering) (a : Low) → After old mid before a → place_of left ≡ remainder (length old.locals) sigil r a

-- a field of it is set to a value, before which it was lowered
pub record Puts (mid new : Lowering) (k : ℕ) (sigil : Sigil) (r : CTy) (i : ℕ) (v : places.Place) (before after : Place) : Type 0 where
  pub by : (old : Lowering) (e x : Low) → k ≡ length old.locals → v ≡ x.value → After old mid before (first e x) → After old new after (low_put k sigil r i e x)

-- it is converted to a word, where it isn't a number
pub record Casts (mid new : Lowering) (w : Word) (before after : Place) : Type 0 where
  pub by : (old : Lowering) (a : Low) → After old mid before a → After old new after (low_cast (length old.locals) w a a.value)

-- what an operator gives, where it takes as many operands
pub record Operates (mid new : Lowering) (holds : Bool) (t : CTy) (stmts : ℕ → List Stmt) (after : Place) : Type 0 where
  pub by : (old : Lowering) (a : Low) (before : Place) → After old mid before a → After old new after (low_operator holds (length old.locals) t a stmts)
