-- A site: a term that is open where the rest goes, and the scope there.
use Rattle.std.specs.Prelude.{◌≡◌, ℕ, ◌+◌, ◌*◌, ◌<◌, ◌≤◌, List, map, reverse, length, Option, Result, Ok, Err, ⊤}
use Rattle.std.specs.Option.{option_map}
use Rattle.cg_resolve_def.specs.Desugar.{depth_of, term_limit}
use Rattle.cg_resolve_def.specs.Terms.{Scope, Term, Rest}
use Rattle.cg_resolve_sites.specs.declared.fault.TermFault.{TermFault}
use Rattle.cg_resolve_sites.specs.declared.fault.TermFault.TheVariants.{TooDeep, Memory}
use Rattle.cg_resolve_sites.specs.declared.frames.Site.{Site}
use Rattle.cg_resolve_sites.specs.Frames.{around_all, frames_depth}
use denote.Ref.{Bor}

-- an entry of a scope
abbrev pub entry_of : Option (Bor (List ℕ)) → Option (List ℕ)
entry_of e = option_map (λ n. n.now) e

-- a scope of the code has its innermost entry last
abbrev pub scope_of : List (Option (Bor (List ℕ))) → Scope
scope_of entries = reverse (map entry_of entries)

-- No scope of the code has more entries, since a node binds two at most (Fits: no more than 2 * term_limit + 1, and two more for a payload below the limit).
-- So the position of an entry fits into the 32 bits that a variable of the kernel has.
abbrev pub scope_limit : ℕ
scope_limit = 2048

-- the scope where the rest goes
abbrev pub scope_in : Site → Scope
scope_in site = scope_of site.scope.items

-- the rest in its place
abbrev pub inside : Site → Term → Term
inside site rest = around_all site.frames.items rest

-- how many nodes lie above the rest
abbrev pub level : Site → ℕ
level site = site.above + length site.frames.items

-- All that there is keeps the limit, and a node binds two entries at most.
pub record Fits (site : Site) : Type 0 where
  pub level : site.above + length site.frames.items ≤ term_limit
  pub depth : site.above + frames_depth site.frames.items ≤ term_limit
  pub scope : length site.scope.items ≤ 2 * (site.above + length site.frames.items) + 1

-- What is made of each rest goes on inside.
pub record Moved (old : Site) (before : Rest → Term) (new : Site) (after : Rest → Term) : Type 0 where
  pub above : new.above ≡ old.above
  pub same : (rest : Rest) → inside old (before rest) ≡ inside new (after rest)
  pub fits : Fits new

-- whatever the rest is, the whole is too deep
abbrev pub IsTooDeep : Site → (Rest → Term) → Type 0
IsTooDeep site made = (rest : Rest) → term_limit < site.above + depth_of (inside site (made rest))

-- an answer that gives up: this holds, unless it is want of memory
abbrev pub Refuses : TermFault → Type 0 → Type 0
Refuses TooDeep P = P
Refuses Memory P = ⊤

-- what is made of each rest, answered by frames and entries
abbrev pub Binds : Site → (Rest → Term) → Result Unit TermFault → Site → Type 0
Binds old made (Ok done) new = Moved old made new (λ rest. rest (scope_in new))
Binds old made (Err fault) new = Refuses fault (IsTooDeep old made)
