-- What the code asks of the stack on a walk down it.
use Rattle.std.specs.Prelude.{ℕ, List, [], ◌∷◌, Bool, true, false, Option, Some, None}
use Rattle.cg_surface.specs.Exprs.{Expr}
use Rattle.cg_parser_exprs_def.specs.Bars as bars
use Rattle.cg_parser_build.specs.Bounded.{bounded}
use Rattle.cg_parser_exprs_def.specs.Machine as machine
use Rattle.cg_parser_exprs_def.specs.Held.{Held, Within, types, patterns}
use Rattle.cg_parser_exprs_bars.specs.declared.bars.Choice.{Choice}
use Rattle.cg_parser_exprs_bars.specs.declared.bars.Choice.TheVariants.{New, Joins, Wrong}
use Rattle.cg_parser_exprs_bars.specs.declared.bars.Link.{Link}
use Rattle.cg_parser_exprs_bars.specs.declared.bars.Link.TheVariants.{Ends, Leaves, Bar}

-- to which match a bar belongs
abbrev pub choice_of : Choice → bars.Choice
choice_of New = bars.New
choice_of (Joins j) = bars.Joins j
choice_of Wrong = bars.Wrong

-- the matches that are open on a stack, by the columns of their first bars
abbrev pub opens : List Within → List ℕ
opens = machine.opens types patterns bounded

-- what a frame makes of the matches that are open below it
abbrev pub linked : Link → List ℕ → List ℕ
linked Ends os = []
linked Leaves os = os
linked (Bar c) os = c ∷ os

-- the innermost of them
abbrev pub innermost : List ℕ → Option ℕ
innermost [] = None
innermost (o ∷ os) = Some o

-- whether a frame is the body of an alternative
abbrev pub is_match : Within → Bool
is_match (machine.Branch o p con x) = true
is_match f = false

-- at a bar that belongs to the match of a frame
abbrev pub next_at : Within → Option Expr → List Within → Held
next_at (machine.Branch o p con x) e fs = machine.next_alt types patterns bounded o p con x e fs
next_at f e fs = machine.Stuck
