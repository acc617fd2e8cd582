-- The theorem on readers: one that keeps the six laws accepts exactly what is spelled, of which there is one tree at
-- most, and else stops at the first token that no program has there.
use Rattle.std.specs.Prelude.{◌≡◌, List, [], ◌∷◌, ◌++◌, Bool, true, false, Option, Some, None, cond}
use Rattle.std.proofs.Common.{refl, sym, ◌∙◌, ap, append_assoc}
use Rattle.cg_base.specs.Reader.{Reader, Outcome, Parsed, Fault, run, ended, parsed, Begins, Exact, found, fault, Reads}

module _ {State Token Tree : Type 0} (reader : Reader State Token Tree) (Spells : List Token → Tree → Type 0) (laws : Reads reader Spells) where
  -- tokens one after another
  run-append : (front more : List Token) (s : State) → run reader s (front ++ more) ≡ run reader (run reader s front) more
  run-append [] more s = refl
  run-append (t ∷ front) more s = run-append front more (reader.step s t)

  shut_for_ever : (ts : List Token) (s : State) → reader.is_open s ≡ false → reader.is_open (run reader s ts) ≡ false
  shut_for_ever [] s closed = closed
  shut_for_ever (t ∷ ts) s closed = shut_for_ever ts (reader.step s t) (laws.shut s t closed)

  -- nothing goes on from a state with these tokens: it is no end, or the next one shuts the reader
  abbrev Stops : State → List Token → Type 0
  Stops s [] = reader.finish s ≡ None
  Stops s (t ∷ ts) = reader.is_open (reader.step s t) ≡ false

  -- what an outcome says of the run from a state
  abbrev Means : List Token → State → Outcome Token Tree → Type 0
  Means ts s (Parsed tree) = reader.finish (run reader s ts) ≡ Some tree
  Means ts s (Fault rest) = (front : List Token) × (ts ≡ front ++ rest) × (reader.is_open (run reader s front) ≡ true) × Stops (run reader s front) rest

  ended_means : (s : State) (o : Option Tree) → reader.is_open s ≡ true → reader.finish s ≡ o → Means [] s (ended reader o)
  ended_means s None opened e = ([], refl, opened, e)
  ended_means s (Some tree) opened e = e

  means_later : (s : State) (t : Token) (ts : List Token) (o : Outcome Token Tree) → Means ts (reader.step s t) o → Means (t ∷ ts) s o
  means_later s t ts (Parsed tree) m = m
  means_later s t ts (Fault rest) m = (t ∷ m.0, ap (λ x. t ∷ x) m.1, m.2, m.3)

  either_way : (P : Outcome Token Tree → Type 0) (b : Bool) (x y : Outcome Token Tree) → (b ≡ true → P x) → (b ≡ false → P y) → P (cond b x y)
  either_way P true x y if_true if_false = if_true refl
  either_way P false x y if_true if_false = if_false refl

  means : (ts : List Token) (s : State) → reader.is_open s ≡ true → Means ts s (parsed reader s ts)
  means [] s opened = ended_means s (reader.finish s) opened refl
  means (t ∷ ts) s opened =
      either_way (Means (t ∷ ts) s) (reader.is_open (reader.step s t)) (parsed reader (reader.step s t) ts) (Fault (t ∷ ts))
      (λ still. means_later s t ts (parsed reader (reader.step s t) ts) (means ts (reader.step s t) still))
      (λ closed. ([], refl, opened, closed))

  -- tokens that shut the reader somewhere spell nothing
  none_past : (all front rest : List Token) (t : Token) → all ≡ front ++ t ∷ rest → reader.is_open (reader.step (run reader reader.begin front) t) ≡ false
      → (tree : Tree) → Spells all tree → ⊥
  none_past all front rest t parts closed tree spelled =
      let split : run reader reader.begin all ≡ run reader (reader.step (run reader reader.begin front) t) rest = ap (run reader reader.begin) parts ∙ run-append front (t ∷ rest) reader.begin in
      let no : reader.finish (run reader reader.begin all) ≡ None = ap reader.finish split ∙ laws.no_tree _ (shut_for_ever rest _ closed) in
      let yes : reader.finish (run reader reader.begin all) ≡ Some tree = laws.complete all tree spelled in
      cc

  none_at : (ts front rest : List Token) → ts ≡ front ++ rest → Stops (run reader reader.begin front) rest → (tree : Tree) → Spells ts tree → ⊥
  none_at ts front [] parts stop tree spelled =
      let no : reader.finish (run reader reader.begin ts) ≡ None = ap (λ x. reader.finish (run reader reader.begin x)) parts ∙ ap reader.finish (run-append front [] reader.begin) ∙ stop in
      let yes : reader.finish (run reader reader.begin ts) ≡ Some tree = laws.complete ts tree spelled in
      cc
  none_at ts front (t ∷ rest) parts stop tree spelled = none_past ts front rest t parts stop tree spelled

  -- and the token at which it is shut begins nothing behind the others
  first_at : (front rest : List Token) → Stops (run reader reader.begin front) rest → (t : Token) (more : List Token) → rest ≡ t ∷ more → Begins Spells (front ++ t ∷ []) → ⊥
  first_at front [] stop t more e begun = cc
  first_at front (u ∷ us) stop t more e begun =
      let same : u ≡ t = cc in
      let closed : reader.is_open (reader.step (run reader reader.begin front) t) ≡ false = ap (λ x. reader.is_open (reader.step (run reader reader.begin front) x)) (sym same) ∙ stop in
      none_past ((front ++ t ∷ []) ++ begun.0) front begun.0 t (append_assoc front (t ∷ []) begun.0) closed begun.1 begun.2

  exactly : (ts : List Token) (o : Outcome Token Tree) → Means ts reader.begin o → Exact Spells ts o
  exactly ts (Parsed tree) m = found tree (laws.sound ts tree m) (λ other spelled. let yes : reader.finish (run reader reader.begin ts) ≡ Some other = laws.complete ts other spelled in cc)
  exactly ts (Fault rest) m =
      let rest_of = laws.viable m.0 m.2 in
      fault rest (record {
        front = m.0;
        parts = m.1;
        viable = (rest_of.0, rest_of.1, laws.sound (m.0 ++ rest_of.0) rest_of.1 (ap reader.finish (run-append m.0 rest_of.0 reader.begin) ∙ rest_of.2));
        none = none_at ts m.0 rest m.1 m.3;
        first = first_at m.0 rest m.3;
      })

  -- the theorem
  pub exact : (ts : List Token) → Exact Spells ts (parsed reader reader.begin ts)
  exact ts = exactly ts (parsed reader reader.begin ts) (means ts reader.begin laws.begins)
