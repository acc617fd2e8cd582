-- What a part of an item, read by a reader of its own, has read.
use Rattle.std.proofs.Common.{◌≡◌, List, [], ◌∷◌, ◌++◌, refl, sym, ◌∙◌, ap, true, false, Bool, Some, None, append_assoc}
use Rattle.cg_base.specs.Reader.{Reader, Reads, run}
use Rattle.cg_parser_symbols.specs.Symbols.{Seen, is_first}
use Rattle.cg_parser_symbols.specs.Readings.{ArePast, IsPart}
use Rattle.cg_parser_symbols.specs.Follows.{Follows}

pub past_more : (front : List Seen) (t : Seen) → ArePast front → is_first t.place ≡ false → ArePast (front ++ t ∷ [])
past_more [] t past h = (h, tt)
past_more (u ∷ front) t past h = (past.0, past_more front t past.1 h)

module _ {State Tree : Type 0} (R : Reader State Seen Tree) where
  pub run_append : (front more : List Seen) (s : State) → run R s (front ++ more) ≡ run R (run R s front) more
  run_append [] more s = refl
  run_append (t ∷ front) more s = run_append front more (R.step s t)

  -- the tokens up to the rest, all of them past column 1, lead to this state
  pub record HasRead (s : State) (ts rest : List Seen) : Type 0 where
    pub front : List Seen
    pub past : ArePast front
    pub parts : ts ≡ front ++ rest
    pub state : s ≡ run R R.begin front

  pub nothing_read : (ts : List Seen) → HasRead R.begin ts ts
  nothing_read ts = record { front = []; past = tt; parts = refl; state = refl }

  pub read_more : (s : State) (ts rest : List Seen) (t : Seen) → is_first t.place ≡ false → HasRead s ts (t ∷ rest) → HasRead (R.step s t) ts rest
  read_more s ts rest t h r =
      record {
        front = r.front ++ t ∷ [];
        past = past_more r.front t r.past h;
        parts = r.parts ∙ sym (append_assoc r.front (t ∷ []) rest);
        state = ap (λ x. R.step x t) r.state ∙ sym (run_append r.front (t ∷ []) R.begin);
      }

  module _ (Spells : List Seen → Tree → Type 0) (laws : Reads R Spells) where
    pub shut_for_ever : (ts : List Seen) (s : State) → R.is_open s ≡ false → R.is_open (run R s ts) ≡ false
    shut_for_ever [] s h = h
    shut_for_ever (t ∷ ts) s h = shut_for_ever ts (R.step s t) (laws.shut s t h)

    -- where a tree comes of a state, it is open
    pub opened : (ts : List Seen) (s : State) (tree : Tree) → R.finish (run R s ts) ≡ Some tree → R.is_open s ≡ true
    opened ts s tree e = go (R.is_open s) refl
      where
        go : (b : Bool) → R.is_open s ≡ b → R.is_open s ≡ true
        go true q = q
        go false q = let none : R.finish (run R s ts) ≡ None = laws.no_tree (run R s ts) (shut_for_ever ts s q) in cc

    -- what has been read is a part of the item, where it can end
    pub part_read : (s : State) (tree : Tree) (ts rest : List Seen) → R.finish s ≡ Some tree → HasRead s ts rest → IsPart Spells tree ts rest
    part_read s tree ts rest e r =
        record {
          front = r.front;
          past = r.past;
          parts = r.parts;
          spelled = laws.sound r.front tree (ap R.finish (sym r.state) ∙ e);
        }

  -- what is open can be completed by tokens past column 1
  abbrev pub Ends : Type 0
  Ends = (ts : List Seen) → R.is_open (run R R.begin ts) ≡ true → (rest : List Seen) × ArePast rest × (tree : Tree) × (R.finish (run R (run R R.begin ts) rest) ≡ Some tree)

  pub completes : Ends → (s : State) (ts rest : List Seen) → HasRead s ts rest → R.is_open s ≡ true → (more : List Seen) × ArePast more × (tree : Tree) × (R.finish (run R s more) ≡ Some tree)
  completes ends s ts rest r o =
      let e = ends r.front (ap R.is_open (sym r.state) ∙ o) in (e.0, e.1, e.2, ap (λ x. R.finish (run R x e.0)) r.state ∙ e.3)

-- a reader that follows another is led by the same tokens to what the other's state stands for
module _ {State Held Tree Kept : Type 0} (plain : Reader State Seen Tree) (bounded : Reader Held Seen Kept) (held : State → Held) (kept : Tree → Kept) (follows : Follows plain bounded held kept) where
  runs_from : (ts : List Seen) (s : State) → run bounded (held s) ts ≡ held (run plain s ts)
  runs_from [] s = refl
  runs_from (t ∷ ts) s = ap (λ x. run bounded x ts) (follows.steps s t) ∙ runs_from ts (plain.step s t)

  pub same_run : (ts : List Seen) → run bounded bounded.begin ts ≡ held (run plain plain.begin ts)
  same_run ts = ap (λ x. run bounded x ts) follows.begins ∙ runs_from ts plain.begin
