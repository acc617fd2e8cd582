-- Going over entries, what was found goes on to what is found with the mentions of their cells.
use Rattle.std.proofs.Common.{◌≡◌, ℕ, ◌+◌, ◌<◌, ◌≤◌, Bool, List, [], ◌∷◌, length, map, drop, get_or, Option, refl, sym, ap, ◌∙◌, subst, add-one, drop-cons}
use Rattle.std.proofs.lemmas.List.{drop_all}
use Rattle.std.specs.List.{flat_map}
use Rattle.cg_base.specs.declared.place.Place.{Place}
use Rattle.cg_heaptext_def.specs.HeapText.{Mention, mentioned_in}
use Rattle.cg_heaptext_def.specs.Tokens.{Lexeme}
use Rattle.cg_heaptext_def.specs.Trees.{Cell, Entry}
use Rattle.cg_heaptext_def.specs.Trees as trees
use Rattle.cg_heaptext_entries.specs.Index.{AreEntries, Before, numeral_of}
use Rattle.cg_heaptext_entries.specs.declared.entry.EntryAt.{EntryAt}
use Rattle.cg_heaptext_entries.proofs.Standing.{reads}
use Rattle.cg_heaptext_lexer.specs.Next.{Cursor, Gives}
use Rattle.cg_heaptext_lexer.specs.declared.token.TokenKind.{TokenKind}
use Rattle.cg_heaptext_mentions.specs.Judged.{note_all}
use Rattle.cg_heaptext_mentions.specs.Scans.{Noting, Scans, ScansCell, ScansCells}
use Rattle.cg_heaptext_mentions.proofs.Meeting.{cell_met}
use Rattle.cg_heaptext_mentions.proofs.Walk.{note_both}

-- a cell, from its first token on
pub scans_cell : (noting : Noting) (k : TokenKind) (at old inner : Cursor) (t : Lexeme) (before after : Option Place) → old ≡ at → Gives k old t inner → Scans noting inner before after → ScansCell noting at before after
scans_cell noting k at old inner t before after is g scan c (ts, rest, b, r) =
    let p = cell_met c ts rest r in
    let s = reads k old inner t p.0 p.1 (subst (λ (x : Cursor). Before x (p.0 ∷ p.1)) (sym is) (subst (Before at) p.2 b)) g in
    scan p.1 s.1 ∙ ap (noting before) p.3

-- the next item, and what is left behind it
next : {A : Type 0} (xs : List A) (i : ℕ) (x : A) → i < length xs → x ≡ get_or xs i x → drop i xs ≡ x ∷ drop (i + 1) xs
next xs i x within is = let e : drop i xs ≡ get_or xs i x ∷ drop (i + 1) xs = rw add-one (drop-cons xs i x within) in e ∙ ap (λ y. y ∷ drop (i + 1) xs) (sym is)

-- ---- addresses of entries

abbrev pub address_of : EntryAt → trees.Numeral
address_of x = numeral_of x.address

-- those of entries, where these are
pub addresses_are : (xs : List EntryAt) (es : List Entry) → AreEntries xs es → map address_of xs ≡ map (λ e. e.address) es
addresses_are [] [] a = refl
addresses_are [] (e ∷ es) a = absurd a
addresses_are (x ∷ xs) [] a = absurd a
addresses_are (x ∷ xs) (e ∷ es) a = let rest = addresses_are xs es a.1 in λ i. a.0.address i ∷ rest i

-- ---- cells of entries

abbrev pub cells : List Entry → List Mention
cells es = flat_map (λ e. mentioned_in e.cell) es

module _ (test : Mention → Bool) (place : Mention → Place) (xs : List EntryAt) (before : Option Place) where
  -- Where these entries stand, some are left, and with the mentions of those the same is found.
  abbrev pub CellsGoing : ℕ → Option Place → Type 0
  CellsGoing i found = (es : List Entry) → AreEntries xs es → (left : List Entry) × AreEntries (drop i xs) left × (note_all test place before (cells es) ≡ note_all test place found (cells left))

  pub cells_turn : (i : ℕ) (x : EntryAt) (found new : Option Place) → i < length xs → x ≡ get_or xs i x → ScansCell (note_all test place) x.cell found new → CellsGoing i found → CellsGoing (i + 1) new
  cells_turn i x found new within is scan w es a = let r = w es a in go r.0 (subst (λ ys. AreEntries ys r.0) (next xs i x within is) r.1) r.2
    where
      go : (left : List Entry) → AreEntries (x ∷ drop (i + 1) xs) left → note_all test place before (cells es) ≡ note_all test place found (cells left)
          → (left : List Entry) × AreEntries (drop (i + 1) xs) left × (note_all test place before (cells es) ≡ note_all test place new (cells left))
      go [] b e = absurd b
      go (f ∷ left) b e =
          (left, b.1, e ∙ note_both test place found (mentioned_in f.cell) (cells left) ∙ ap (λ g. note_all test place g (cells left)) (sym (scan f.cell b.0.cell)))

  pub cells_end : (i : ℕ) (found : Option Place) → length xs ≤ i → CellsGoing i found → ScansCells (note_all test place) xs before found
  cells_end i found over w es a = let r = w es a in go r.0 (subst (λ ys. AreEntries ys r.0) (drop_all i xs over) r.1) r.2
    where
      go : (left : List Entry) → AreEntries [] left → note_all test place before (cells es) ≡ note_all test place found (cells left) → found ≡ note_all test place before (cells es)
      go [] b e = sym e
      go (f ∷ left) b e = absurd b
