-- Readers that go token by token, and what it means that one is exact. A source, a C text, a heap file, a
-- certificate and a script each have a reader of this kind; docs/ARCHITECTURE.md says how it is used.
use Rattle.std.specs.Prelude.{◌≡◌, List, [], ◌∷◌, ◌++◌, Bool, true, false, Option, Some, None, if◌then◌else◌}

-- a reader: where it begins, what a token does to its state, whether a program may still come of a state, and the
-- tree of a state at the end
pub record Reader (State Token Tree : Type 0) : Type 0 where
  pub begin : State
  pub step : State → Token → State
  pub is_open : State → Bool
  pub finish : State → Option Tree

-- the tree, or the tokens from the first on that can't stand where it stands
pub data Outcome (Token Tree : Type 0) : Type 0 where
  Parsed : Tree → Outcome Token Tree
  Fault : List Token → Outcome Token Tree

module _ {State Token Tree : Type 0} (reader : Reader State Token Tree) where
  -- the state after some tokens
  abbrev pub run : State → List Token → State
  run s [] = s
  run s (t ∷ ts) = run (reader.step s t) ts

  abbrev pub ended : Option Tree → Outcome Token Tree
  ended None = Fault []
  ended (Some tree) = Parsed tree

  -- reading up to the end, or up to the first token at which the reader is shut
  abbrev pub parsed : State → List Token → Outcome Token Tree
  parsed s [] = ended (reader.finish s)
  parsed s (t ∷ ts) = if reader.is_open (reader.step s t) then parsed (reader.step s t) ts else Fault (t ∷ ts)

module _ {Token Tree : Type 0} (Spells : List Token → Tree → Type 0) where
  -- some program begins with these tokens
  abbrev pub Begins : List Token → Type 0
  Begins front = (rest : List Token) × (tree : Tree) × Spells (front ++ rest) tree

  -- no program is spelled; the tokens up to `rest` begin one, and none begins with them and the next one
  pub record FaultAt (tokens rest : List Token) : Type 0 where
    pub front : List Token
    pub parts : tokens ≡ front ++ rest
    pub viable : Begins front
    pub none : (tree : Tree) → Spells tokens tree → ⊥
    pub first : (t : Token) (more : List Token) → rest ≡ t ∷ more → Begins (front ++ t ∷ []) → ⊥

  -- an outcome that says exactly what the tokens spell
  pub data Exact (tokens : List Token) : Outcome Token Tree → Type 0 where
    found : (tree : Tree) → Spells tokens tree → ((other : Tree) → Spells tokens other → other ≡ tree) → Exact tokens (Parsed tree)
    fault : (rest : List Token) → FaultAt tokens rest → Exact tokens (Fault rest)

-- the six laws of a reader for a grammar; `exact`, of Exact, draws everything else from them
pub record Reads {State Token Tree : Type 0} (reader : Reader State Token Tree) (Spells : List Token → Tree → Type 0) : Type 0 where
  pub begins : reader.is_open reader.begin ≡ true
  -- what is shut stays shut
  pub shut : (s : State) (t : Token) → reader.is_open s ≡ false → reader.is_open (reader.step s t) ≡ false
  pub no_tree : (s : State) → reader.is_open s ≡ false → reader.finish s ≡ None
  -- each tree that is spelled is read
  pub complete : (tokens : List Token) (tree : Tree) → Spells tokens tree → reader.finish (run reader reader.begin tokens) ≡ Some tree
  -- what is read is spelled
  pub sound : (tokens : List Token) (tree : Tree) → reader.finish (run reader reader.begin tokens) ≡ Some tree → Spells tokens tree
  -- what is open can be completed
  pub viable : (tokens : List Token) → reader.is_open (run reader reader.begin tokens) ≡ true
      → (rest : List Token) × (tree : Tree) × (reader.finish (run reader (run reader reader.begin tokens) rest) ≡ Some tree)
