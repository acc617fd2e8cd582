-- A reader that keeps the six laws is exact, and so is one up to a depth that follows it.
use Rattle.std.proofs.Common.{◌≡◌, ℕ, ◌≤◌, ◌<◌, List, [], ◌∷◌, ◌++◌, Bool, true, false, cond, Option, Some, None, refl, ap, sym, ◌∙◌}
use Rattle.std.specs.Prelude.{nat_le}
use Rattle.std.proofs.lemmas.Bool.{le-leb, lt-leb, leb-true, leb-false}
use Rattle.cg_base.specs.Reader.{Reader, run, Begins, Reads}
use Rattle.cg_parser_symbols.specs.Symbols.{Seen}
use Rattle.cg_parser_symbols.specs.Exactness.{behind, IsExact, IsExactUpTo}
use Rattle.cg_parser_symbols.specs.Follows.{Follows, option_map}

module _ {State Tree : Type 0} (reader : Reader State Seen Tree) (Spells : List Seen → Tree → Type 0) (laws : Reads reader Spells) where
  run_append : (front more : List Seen) (s : State) → run reader s (front ++ more) ≡ run reader (run reader s front) more
  run_append [] more s = refl
  run_append (t ∷ front) more s = run_append front more (reader.step s t)

  stays_shut : (ts : List Seen) (s : State) → reader.is_open s ≡ false → reader.is_open (run reader s ts) ≡ false
  stays_shut [] s shut = shut
  stays_shut (t ∷ ts) s shut = stays_shut ts (reader.step s t) (laws.shut s t shut)

  begun : (ts : List Seen) → reader.is_open (behind reader ts) ≡ true → Begins Spells ts
  begun ts o = let c = laws.viable ts o in (c.0, c.1, laws.sound (ts ++ c.0) c.1 (ap reader.finish (run_append ts c.0 reader.begin) ∙ c.2))

  not_shut : (ts : List Seen) (b : Bool) → reader.is_open (behind reader ts) ≡ b → Begins Spells ts → b ≡ true
  not_shut ts true e c = refl
  not_shut ts false e c =
      let no : reader.finish (behind reader (ts ++ c.0)) ≡ None = ap reader.finish (run_append ts c.0 reader.begin) ∙ laws.no_tree _ (stays_shut c.0 _ e) in
      let yes : reader.finish (behind reader (ts ++ c.0)) ≡ Some c.1 = laws.complete (ts ++ c.0) c.1 c.2 in
      cc

  pub is_exact : IsExact reader Spells
  is_exact = record {
    gives = λ ts tree. (laws.sound ts tree, laws.complete ts tree);
    opens = λ ts. (begun ts, λ c. not_shut ts (reader.is_open (behind reader ts)) refl c);
  }

module _ {Tree : Type 0} (limit : ℕ) (depth : Tree → ℕ) where
  -- a tree that is no deeper than the limit
  abbrev kept : Tree → Option Tree
  kept tree = cond (nat_le (depth tree) limit) (Some tree) None

  kept_is : (u t : Tree) (b : Bool) → nat_le (depth u) limit ≡ b → cond b (Some u) None ≡ Some t → (u ≡ t) × (depth u ≤ limit)
  kept_is u t true q e = (cc, leb-true (depth u) limit q)
  kept_is u t false q e = cc

  cut_is : (u : Tree) (b : Bool) → nat_le (depth u) limit ≡ b → cond b (Some u) None ≡ None → limit < depth u
  cut_is u true q e = cc
  cut_is u false q e = leb-false (depth u) limit q

  module _ {State Held : Type 0} (plain : Reader State Seen Tree) (bounded : Reader Held Seen (Option Tree)) (held : State → Held) (Spells : List Seen → Tree → Type 0) (follows : Follows plain bounded held kept) (laws : Reads plain Spells) where
    runs : (ts : List Seen) (s : State) → run bounded (held s) ts ≡ held (run plain s ts)
    runs [] s = refl
    runs (t ∷ ts) s = ap (λ h. run bounded h ts) (follows.steps s t) ∙ runs ts (plain.step s t)

    stands : (ts : List Seen) → behind bounded ts ≡ held (behind plain ts)
    stands ts = ap (λ h. run bounded h ts) follows.begins ∙ runs ts plain.begin

    ends : (ts : List Seen) → bounded.finish (behind bounded ts) ≡ option_map kept (plain.finish (behind plain ts))
    ends ts = ap bounded.finish (stands ts) ∙ follows.finishes (behind plain ts)

    opened : (ts : List Seen) → bounded.is_open (behind bounded ts) ≡ plain.is_open (behind plain ts)
    opened ts = ap bounded.is_open (stands ts) ∙ follows.opens (behind plain ts)

    given : (ts : List Seen) (tree : Tree) (o : Option Tree) → plain.finish (behind plain ts) ≡ o → option_map kept o ≡ Some (Some tree) → Spells ts tree × (depth tree ≤ limit)
    given ts tree None p e = cc
    given ts tree (Some u) p e =
        let inner : kept u ≡ Some tree = cc in
        let k = kept_is u tree (nat_le (depth u) limit) refl inner in
        (laws.sound ts tree (p ∙ ap Some k.0), rw (sym k.0) k.1)

    refused : (ts : List Seen) (o : Option Tree) → plain.finish (behind plain ts) ≡ o → option_map kept o ≡ Some None → (tree : Tree) × Spells ts tree × (limit < depth tree)
    refused ts None p e = cc
    refused ts (Some u) p e =
        let inner : kept u ≡ None = cc in
        (u, laws.sound ts u p, cut_is u (nat_le (depth u) limit) refl inner)

    gives_back : (ts : List Seen) (tree : Tree) → Spells ts tree → depth tree ≤ limit → bounded.finish (behind bounded ts) ≡ Some (Some tree)
    gives_back ts tree spelled h = ends ts ∙ ap (option_map kept) (laws.complete ts tree spelled) ∙ ap (λ b. Some (cond b (Some tree) None)) (le-leb (depth tree) limit h)

    refuses_back : (ts : List Seen) (tree : Tree) → Spells ts tree → limit < depth tree → bounded.finish (behind bounded ts) ≡ Some None
    refuses_back ts tree spelled h = ends ts ∙ ap (option_map kept) (laws.complete ts tree spelled) ∙ ap (λ b. Some (cond b (Some tree) None)) (lt-leb (depth tree) limit h)

    pub is_exact_up_to : IsExactUpTo limit depth bounded Spells
    is_exact_up_to = record {
      gives = λ ts tree. (λ e. given ts tree _ refl (sym (ends ts) ∙ e), λ s. gives_back ts tree s.0 s.1);
      refuses = λ ts. (λ e. refused ts _ refl (sym (ends ts) ∙ e), λ c. refuses_back ts c.0 c.1 c.2);
      opens = λ ts. (λ e. begun plain Spells laws ts (sym (opened ts) ∙ e), λ c. opened ts ∙ not_shut plain Spells laws ts (plain.is_open (behind plain ts)) refl c);
    }
