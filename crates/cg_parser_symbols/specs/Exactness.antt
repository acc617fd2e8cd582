-- What it means that a reader of a part of a source, a type, a pattern or an expression, is exact for its grammar.
use Rattle.std.specs.Prelude.{◌≡◌, ◌↔◌, ℕ, ◌≤◌, ◌<◌, List, true, Option, Some, None}
use Rattle.cg_base.specs.Reader.{Reader, run, Begins}
use Rattle.cg_parser_symbols.specs.Symbols.{Seen}

-- where a reader stands behind these tokens
abbrev pub behind : {State Tree : Type 0} → Reader State Seen Tree → List Seen → State
behind reader ts = run reader reader.begin ts

-- it gives a tree exactly where the tokens spell it, and it is open exactly where tokens that spell a tree begin with these
pub record IsExact {State Tree : Type 0} (reader : Reader State Seen Tree) (Spells : List Seen → Tree → Type 0) : Type 0 where
  pub gives : (ts : List Seen) (tree : Tree) → (reader.finish (behind reader ts) ≡ Some tree) ↔ Spells ts tree
  pub opens : (ts : List Seen) → (reader.is_open (behind reader ts) ≡ true) ↔ Begins Spells ts

-- the same of a reader that gives no tree deeper than a limit: `Some None` says that the tokens spell a tree which is deeper
pub record IsExactUpTo {State Tree : Type 0} (limit : ℕ) (depth : Tree → ℕ) (reader : Reader State Seen (Option Tree)) (Spells : List Seen → Tree → Type 0) : Type 0 where
  pub gives : (ts : List Seen) (tree : Tree) → (reader.finish (behind reader ts) ≡ Some (Some tree)) ↔ (Spells ts tree × (depth tree ≤ limit))
  pub refuses : (ts : List Seen) → (reader.finish (behind reader ts) ≡ Some None) ↔ ((tree : Tree) × Spells ts tree × (limit < depth tree))
  pub opens : (ts : List Seen) → (reader.is_open (behind reader ts) ≡ true) ↔ Begins Spells ts
