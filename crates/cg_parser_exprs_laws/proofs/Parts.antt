-- What a part of an expression, read by a reader of its own, has read.
use Rattle.std.proofs.Common.{◌≡◌, List, [], ◌∷◌, ◌++◌, refl, sym, ◌∙◌, ap, Some, append_assoc}
use Rattle.cg_base.specs.Reader.{Reader, Reads, run}
use Rattle.cg_parser_symbols.specs.Symbols.{Seen}
use Rattle.cg_parser_symbols.specs.Readings.{IsSpelled}

module _ {State Tree : Type 0} (R : Reader State Seen Tree) where
  -- what two runs of tokens lead to, one behind the other
  pub run_append : (front more : List Seen) (s : State) → run R s (front ++ more) ≡ run R (run R s front) more
  run_append [] more s = refl
  run_append (t ∷ front) more s = run_append front more (R.step s t)

  -- the tokens up to the rest lead to this state
  pub record HasRead (s : State) (ts rest : List Seen) : Type 0 where
    pub front : List Seen
    pub parts : ts ≡ front ++ rest
    pub state : s ≡ run R R.begin front

  -- before the first token
  pub nothing_read : (ts : List Seen) → HasRead R.begin ts ts
  nothing_read ts = record { front = []; parts = refl; state = refl }

  -- one token more
  pub read_more : (s : State) (ts rest : List Seen) (t : Seen) → HasRead s ts (t ∷ rest) → HasRead (R.step s t) ts rest
  read_more s ts rest t r =
      record {
        front = r.front ++ t ∷ [];
        parts = r.parts ∙ sym (append_assoc r.front (t ∷ []) rest);
        state = ap (λ x. R.step x t) r.state ∙ sym (run_append r.front (t ∷ []) R.begin);
      }

  -- what has been read spells the part, where it can end
  pub part_read : (Spells : List Seen → Tree → Type 0) (laws : Reads R Spells) (s : State) (tree : Tree) (ts rest : List Seen) → R.finish s ≡ Some tree → HasRead s ts rest → IsSpelled Spells tree ts rest
  part_read Spells laws s tree ts rest e r =
      record {
        front = r.front;
        parts = r.parts;
        spelled = laws.sound r.front tree (ap R.finish (sym r.state) ∙ e);
      }
