-- A changed cell leaves the top of a store as it was.
use Rattle.std.proofs.Common.{◌≡◌, ℕ, refl}
use Rattle.std.specs.declared.option.Option.{Option}
use Rattle.std.specs.declared.option.Option.TheVariants.{None, Some}
use Rattle.cg_heap.specs.declared.cell.Cell.{Cell}
use Rattle.cg_heap.specs.Stored.{Stored, asked_of, changed, in_place}

pub same_top : (p : ℕ) (o : Option Cell) (s : Stored) → (in_place p o s).top ≡ s.top
same_top p None s = refl
same_top p (Some c) s = refl

pub top_stays : (f : Cell → Option Cell) (p : ℕ) (s : Stored) → (changed f p s).top ≡ s.top
top_stays f p s = same_top p (asked_of f p s) s

pub ruleset top_steps = top_stays
