-- The blocks of a body that wait to be resolved.
use Rattle.std.specs.Prelude.{◌≡◌, ℕ, ◌+◌, ◌<◌, ◌≤◌, List, [], ◌∷◌, ◌++◌, get_or, length, map, take, Option, Some, None}
use Rattle.std.specs.List.{AllByRecursion, AllZip}
use Rattle.cg_cmachine_resolve.specs.declared.line.Line.{Line}
use Rattle.cg_cmachine_resolve.specs.Lines.{Stands, Whole}
use Rattle.cg_cmachine_resolve.specs.Resolutions.{sources}
use Rattle.cg_cmachine_resolve.specs.Scopes.{Scope}
use Rattle.cg_ctree.specs.declared.tree.CBody.{CBody}
use Rattle.cg_ctree.specs.declared.tree.CStmt.{CStmt}
use Rattle.cg_ctree.specs.Trees.{Stmt, assign, branch, while, switch, call, return', Block, stop, also, Cases, end, case, block_of}
use denote.Ref.{Bor}

-- how many blocks and statements stand in a statement, itself with them, through all depths
unfoldable mutual
  pub statement_weight : Stmt → ℕ
  statement_weight (assign p r) = 1
  statement_weight (branch o x y) = 3 + (block_weight x + block_weight y)
  statement_weight (while o x) = 2 + block_weight x
  statement_weight (switch o cs) = 1 + cases_weight cs
  statement_weight (call f os) = 1
  statement_weight (return' o) = 1

  pub block_weight : Block → ℕ
  block_weight stop = 0
  block_weight (also s b) = statement_weight s + block_weight b

  pub cases_weight : Cases → ℕ
  cases_weight end = 0
  cases_weight (case n b cs) = (1 + block_weight b) + cases_weight cs

-- the blocks that references point to
abbrev pub waiting : List (Bor (List CStmt)) → List (List CStmt)
waiting queue = map (λ block. block.now) queue

-- how many blocks and statements stand in blocks
abbrev pub blocks_weight : List (List CStmt) → ℕ
blocks_weight [] = 0
blocks_weight (b ∷ bs) = (1 + block_weight (block_of b)) + blocks_weight bs

-- blocks of so much weight at most have joined others
pub record HaveJoined (n : ℕ) (before after : List (List CStmt)) : Type 0 where
  pub more : List (List CStmt)
  pub joined : after ≡ before ++ more
  pub weighs : blocks_weight more ≤ n

-- one more stands behind others, and this holds of it
pub record HasPushed {A : Type 0} (P : A → Type 0) (before after : List A) : Type 0 where
  pub last : A
  pub holds : P last
  pub behind : after ≡ before ++ last ∷ []

-- ---- what is resolved

module _ (w : Whole) (vs : Scope) where
  -- lines say what the statements of a block do
  pub record AreLines (blocks : List (List CStmt)) (ss : List CStmt) (lines : List Line) : Type 0 where
    pub same : sources lines ≡ ss
    pub stand : AllByRecursion (Stands w vs blocks) lines

  -- the lines of blocks say what their statements do, among all blocks of a function
  abbrev pub AreBlocks : List (List CStmt) → List (List CStmt) → List (List Line) → Type 0
  AreBlocks all bs lines = AllZip (AreLines all) bs lines

  -- a line says what a statement does
  pub record IsLineOf (blocks : List (List CStmt)) (s : CStmt) (line : Line) : Type 0 where
    pub same : line.source.now ≡ s
    pub stands : Stands w vs blocks line

  -- the first block that had no lines has them, and blocks that stand in it have joined
  pub record IsNext (before after : List (List CStmt)) (lines more : List (List Line)) : Type 0 where
    pub block : List CStmt
    pub item : block ≡ get_or before (length lines) block
    pub joins : HaveJoined (block_weight (block_of block)) before after
    pub pushed : HasPushed (AreLines after block) lines more

  -- as many blocks as have lines are resolved, and the body is the first
  pub record AreDone (all : List (List CStmt)) (ss : List CStmt) (lines : List (List Line)) : Type 0 where
    pub resolved : AreBlocks all (take (length lines) all) lines
    pub within : length lines ≤ length all
    pub some : 0 < length all
    pub first : get_or all 0 [] ≡ ss

  -- the blocks of a body, its own first
  pub record HasBlocks (ss : List CStmt) (lines : List (List Line)) : Type 0 where
    pub blocks : List (List CStmt)
    pub first : get_or blocks 0 [] ≡ ss
    pub resolved : AreBlocks blocks blocks lines

  abbrev pub HasBody : Option CBody → List (List Line) → Type 0
  HasBody None lines = lines ≡ []
  HasBody (Some b) lines = HasBlocks b.stmts lines
