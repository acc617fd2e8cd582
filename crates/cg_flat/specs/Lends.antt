-- What a store ends as, once words that it lent come back.
use Rattle.std.specs.Prelude.{ℕ, List}
use Rattle.std.specs.Borrow.{Array, Fml, Lends, MutBor, u64}
use Rattle.cg_flat.specs.Flat.{Flat, words_left}
use Rattle.cg_flat.specs.contracts.store.FlatStore.{the_row}

-- the words from the place at on are the last ones behind r
abbrev pub lends_words : MutBor Flat → ℕ → MutBor (List ℕ) → Fml
lends_words f at r = Lends the_row (Array u64 0) f r (λ ws. words_left at ws f.now)
